-- A `kept` stands in a turn that closed the target's window, and its transaction was replayed there since the last
-- boot, under that boot (Lustre Operations Manual, recovery).
use Rattle.std.specs.Prelude.{◌≡◌, ℕ, Bool, true, false, ◌==◌, ◌&&◌, List}
use Rattle.std.specs.List.{list_any}
use Rattle.lu_base.specs.declared.ids.At.{At}
use Rattle.lu_base.specs.declared.ids.Node.{Node}
use Rattle.lu_base.specs.declared.ids.Node.TheVariants.{Client, Target}
use Rattle.lu_msg.specs.declared.messages.Message.{Message}
use Rattle.lu_msg.specs.declared.messages.Message.TheVariants.{Replay}
use Rattle.lu_trace.specs.declared.entries.Entry.{Entry}
use Rattle.lu_trace.specs.declared.entries.Entry.TheVariants as entry
use Rattle.lu_trace.specs.declared.entries.Line.{Line}
use Rattle.lu_spec_laws.specs.Words.Pasts.{Past}
use Rattle.lu_spec_laws.specs.Words.Boots.{boot}
use Rattle.lu_spec_laws.specs.Order.Handed.{has_closed, since_boot}

abbrev pub is_replay : ℕ → ℕ → Message → Bool
is_replay b number (Replay r) = r.boot == b && r.txn.0 == number
is_replay b number _ = false

pub record KeptAt (past : Past) (at : At) (t : ℕ) (number : ℕ) : Type 0 where
  pub closed : has_closed past at ≡ true
  pub replayed : list_any (is_replay (boot t past) number) (since_boot t past) ≡ true

abbrev pub KeptBy : Past → At → Node → ℕ → Type 0
KeptBy past at (Target t) number = KeptAt past at t number
KeptBy past at (Client c) number = ⊥

abbrev pub KeepsAt : Past → At → Entry → Type 0
KeepsAt past at (entry.Kept number) = KeptBy past at at.node number.0
KeepsAt past at _ = Unit {0}

abbrev pub Kept : Past → Line → List Line → Type 0
Kept past l later = KeepsAt past l.at l.entry
