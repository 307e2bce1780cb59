-- Which lives were called back: those that a target sent a `block` for a lock that it had granted them, in this boot.
use Rattle.std.specs.Prelude.{ℕ, Bool, true, false, not, ◌&&◌, Option, Some, None, List, unwrap_or}
use Rattle.std.specs.Bool.{then_some}
use Rattle.std.specs.List.{list_any}
use Rattle.lu_base.specs.declared.ids.At.{At}
use Rattle.lu_base.specs.declared.ids.Who.{Who}
use Rattle.lu_base.specs.declared.locks.Lock.{Lock as LockOf}
use Rattle.lu_trace.specs.declared.entries.Entry.TheVariants.{Block, Boot}
use Rattle.lu_trace.specs.declared.entries.Line.{Line}
use Rattle.lu_spec_machine.specs.Tree.{same_life}
use Rattle.lu_spec_laws.specs.Words.Pasts.{Past, is_target, same_turn, newest}
use Rattle.lu_spec_laws.specs.Words.Scopes.{only_here}
use Rattle.lu_spec_laws.specs.Words.Queues.{has_cookie, granted}

-- one of these locks is that life's, with that cookie
abbrev pub is_granted_to : Who → ℕ → List LockOf → Bool
is_granted_to who cookie locks =
    list_any (λ (lock : LockOf). has_cookie cookie lock && same_life lock.ask.who who) locks

-- whether this line of a target calls back a lock of that life, in another turn; a boot ends what was before it
abbrev pub calls_life_back : ℕ → Who → At → Past → Line → Option Bool
calls_life_back t who at past l =
    elim l.entry [
      | Block cookie ↦ then_some (not (same_turn l.at at) && is_granted_to who cookie.0 (granted t past)) true
      | Boot b ↦ Some false
      | _ ↦ None
    ]

-- since its last boot, in a turn before this one, the target called back a lock granted to that life
abbrev pub was_called_back : ℕ → Who → At → Past → Bool
was_called_back t who at past =
    unwrap_or (newest (λ seen l. only_here (calls_life_back t who at seen l) (is_target t l.at.node)) past) false
