-- Whether a target is down, recovers or serves: it serves from the start, a crash takes it down, after a boot it
-- recovers, and from the close of its window on it serves again (Lustre Operations Manual, recovery).
use Rattle.std.specs.Prelude.{ℕ, Bool, true, false, if◌then◌else◌, Option, Some, None, unwrap_or}
use Rattle.lu_base.specs.declared.ids.Node.{Node}
use Rattle.lu_base.specs.declared.ids.Node.TheVariants.{Client, Target}
use Rattle.lu_trace.specs.declared.entries.Entry.TheVariants.{Crash, Boot, Close}
use Rattle.lu_trace.specs.declared.entries.Line.{Line}
use Rattle.lu_spec_laws.specs.Words.Pasts.{Past, is_target, newest}

pub data Phase : Type 0 where
  IsDown : Phase
  Recovers : Phase
  Serves : Phase

abbrev pub turns_to : ℕ → Past → Line → Option Phase
turns_to t past l =
    elim l.entry [
      | Crash ↦ if is_target t l.at.node then Some IsDown else None
      | Boot b ↦ if is_target t l.at.node then Some Recovers else None
      | Close ↦ if is_target t l.at.node then Some Serves else None
      | _ ↦ None
    ]

abbrev pub phase : ℕ → Past → Phase
phase t past = unwrap_or (newest (turns_to t) past) Serves

abbrev pub is_serving : Phase → Bool
is_serving Serves = true
is_serving Recovers = false
is_serving IsDown = false

abbrev pub is_down : Phase → Bool
is_down IsDown = true
is_down Recovers = false
is_down Serves = false

-- the node is a target that serves
abbrev pub serves : Past → Node → Bool
serves past (Target t) = is_serving (phase t past)
serves past (Client c) = false
