-- A `heard` takes, in its turn, that target's reply to a request of the client's life that is in flight there (Lustre
-- Operations Manual, recovery).
use Rattle.std.specs.Prelude.{◌≡◌, ℕ, true, is_some, List}
use Rattle.lu_base.specs.declared.ids.At.{At}
use Rattle.lu_base.specs.declared.ids.Node.{Node}
use Rattle.lu_base.specs.declared.ids.Node.TheVariants.{Client, Target}
use Rattle.lu_base.specs.declared.ids.Who.{Who}
use Rattle.lu_trace.specs.declared.entries.Entry.{Entry}
use Rattle.lu_trace.specs.declared.entries.Entry.TheVariants as entry
use Rattle.lu_trace.specs.declared.entries.Line.{Line}
use Rattle.lu_spec_laws.specs.Words.Pasts.{Past}
use Rattle.lu_spec_laws.specs.Words.Sends.{reply_in}
use Rattle.lu_spec_laws.specs.Words.Lives.{who_is}
use Rattle.lu_spec_laws.specs.Words.Requests.{in_flight, has_number}

pub record HeardAt (past : Past) (at : At) (who : Who) (t : ℕ) (x : ℕ) : Type 0 where
  pub reply : is_some (reply_in past at t who x) ≡ true
  pub flies : has_number x (in_flight t who past) ≡ true

abbrev pub HeardBy : Past → At → Node → ℕ → ℕ → Type 0
HeardBy past at (Client c) t x = HeardAt past at (who_is c past) t x
HeardBy past at (Target u) t x = ⊥

abbrev pub HeardsAt : Past → At → Entry → Type 0
HeardsAt past at (entry.Heard target xid) = HeardBy past at at.node target.0 xid.0
HeardsAt past at _ = Unit {0}

abbrev pub Heard : Past → Line → List Line → Type 0
Heard past l later = HeardsAt past l.at l.entry
