-- In the middle of a row the locks are ahead of what is told: what a server shows beside them.
use Rattle.std.specs.Prelude.{◌≡◌, ℕ, ◌<◌, true, List, ◌++◌, take, All}
use Rattle.lu_msg.specs.Limits.{tag_count}
use Rattle.lu_msg.specs.declared.commits.Batch.{Batch}
use Rattle.lu_trace.specs.Turns.{Making}
use Rattle.lu_spec_entries.specs.Words.{Entry}
use Rattle.lu_spec_target.specs.Lives.{is_life}
use Rattle.lu_spec_target.specs.States.{Target, turn}
use Rattle.lu_target_redo.specs.Shown as redo
use Rattle.lu_target_store.specs.Stores.{StoreState, Serves, HasTaken}
use Rattle.lu_spec_entries.specs.Given.{giving}
use Rattle.lu_target_invariant.specs.Sound.{IsKindOf, IsSound}
use Rattle.lu_target_server.specs.Servers.{ServerState, Shows}

-- it shows that state but for the locks
pub record ShowsRest (s : ServerState) (v : Target) : Type 0 where
  pub id : v.setting.id ≡ s.id
  pub kind : IsKindOf s.id s.kind
  pub expire : v.setting.expire ≡ s.expire
  pub boot : v.boot ≡ s.boot
  pub store : Serves s.store v
  pub contents : redo.Shows s.kind v.setting.osts v.number s.contents v.contents
  pub requests : v.queue ≡ s.requests
  pub taken : All (λ r. HasTaken r.who r.tag s.store) s.requests
  pub sound : IsSound s.kind v

-- Store and requests are those of that state, and each request that waits may be answered.
pub record Waits (s : ServerState) (v : Target) : Type 0 where
  pub boot : v.boot ≡ s.boot
  pub store : Serves s.store v
  pub requests : v.queue ≡ s.requests
  pub taken : All (λ r. HasTaken r.who r.tag s.store) s.requests
  pub lives : All (λ r. is_life r.who v.lives ≡ true) s.requests
  pub tags : All (λ r. r.tag < tag_count) s.requests

-- A part of a row was made: what was given in the turn is what was given before and then these entries; the locks are as they
-- were, and beside them it shows what the entries make of that state.
pub record MakesPart (es : List Entry) (v : Target) (old new : ServerState) (before after : Making) : Type 0 where
  pub gives : after ≡ giving before es
  pub shows : ShowsRest new (turn v es)
  pub locks : new.locks ≡ old.locks

-- The rest of a row was made, and it shows what stands at the end.
pub record MakesRest (es : List Entry) (v : Target) (new : ServerState) (before after : Making) : Type 0 where
  pub gives : after ≡ giving before es
  pub shows : Shows new (turn v es)

-- the disk has what it had, and the first of these batches
abbrev pub KeepsFirst : List Batch → (old new : StoreState) → Type 0
KeepsFirst batches old new = (n : ℕ) × (new.batches ≡ old.batches ++ take n batches)
