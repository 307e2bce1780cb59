-- What the law of acts asks of the requests of a life that are in flight at a target.
use Rattle.std.specs.Prelude.{◌≡◌, ◌≢◌, ℕ, ◌<◌, ◌≤◌, false, List, length}
use Rattle.lu_base.specs.declared.ids.Who.{Who}
use Rattle.lu_msg.specs.declared.messages.Request.{Request as RequestOf}
use Rattle.lu_msg.specs.Limits.{tag_count}
use Rattle.lu_spec_machine.specs.Footprint.{Every}
use Rattle.lu_spec_laws.specs.Words.Pasts.{Past}
use Rattle.lu_spec_laws.specs.Words.Requests.{in_flight, same_object}
use Rattle.lu_spec_laws.specs.Laws.Acts.{Pairwise}

-- at most eight, no two with one tag, and at an object storage target no two on one object
pub record Flies (t : ℕ) (flight : List RequestOf) : Type 0 where
  pub most : length flight ≤ tag_count
  pub tags : Pairwise (λ one other. one.tag ≢ other.tag) flight
  pub objects : 0 < t → Pairwise (λ one other. same_object one other ≡ false) flight

-- one more request may fly with them
pub record FitsIn (t : ℕ) (r : RequestOf) (flight : List RequestOf) : Type 0 where
  pub most : length flight < tag_count
  pub tags : Every (λ other. r.tag ≢ other.tag) flight
  pub objects : 0 < t → Every (λ other. same_object r other ≡ false) flight

-- so it is at each target with each life's requests
abbrev pub AllFly : Past → Type 0
AllFly past = (t : ℕ) (who : Who) → Flies t (in_flight t who past)
