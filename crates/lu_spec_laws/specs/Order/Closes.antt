-- A finished close is followed by a commit of the greatest number that is kept, or where none is of what was committed
-- before (Lustre Operations Manual, recovery). A close is finished where the disk doesn't fail in its turn.
use Rattle.std.specs.Prelude.{◌≡◌, ℕ, max, Bool, true, false, if◌then◌else◌, Option, Some, None, List, [], ◌∷◌}
use Rattle.lu_base.specs.declared.ids.At.{At}
use Rattle.lu_base.specs.declared.ids.Node.{Node}
use Rattle.lu_base.specs.declared.ids.Node.TheVariants.{Client, Target}
use Rattle.lu_trace.specs.declared.entries.Entry.{Entry}
use Rattle.lu_trace.specs.declared.entries.Entry.TheVariants.{Commit, Close, Kept, Fail}
use Rattle.lu_trace.specs.declared.entries.Line.{Line}
use Rattle.lu_spec_laws.specs.Words.Pasts.{Past, same_turn}
use Rattle.lu_spec_laws.specs.Words.Boots.{committed}

-- the turn's disk fails later
abbrev pub fails_later : At → List Line → Bool
fails_later at [] = false
fails_later at (l ∷ later) =
    elim l.entry [ Fail ↦ if same_turn l.at at then true else fails_later at later | _ ↦ fails_later at later ]

-- the number of the next line, where that is a commit of the turn
abbrev pub commit_next : At → List Line → Option ℕ
commit_next at [] = None
commit_next at (l ∷ later) =
    elim l.entry [ Commit number ↦ if same_turn l.at at then Some number.0 else None | _ ↦ None ]

-- the greatest of this number and those that the turn keeps later
abbrev pub greatest_kept : At → ℕ → List Line → ℕ
greatest_kept at n [] = n
greatest_kept at n (l ∷ later) =
    elim l.entry [
      | Kept number ↦ greatest_kept at (if same_turn l.at at then max n number.0 else n) later
      | _ ↦ greatest_kept at n later
    ]

abbrev pub CloseBy : Past → At → List Line → Node → Type 0
CloseBy past at later (Target t) =
    fails_later at later ≡ false → commit_next at later ≡ Some (greatest_kept at (committed t past) later)
CloseBy past at later (Client c) = ⊥

abbrev pub ClosesAt : Past → At → List Line → Entry → Type 0
ClosesAt past at later Close = CloseBy past at later at.node
ClosesAt past at later _ = Unit {0}

abbrev pub Closes : Past → Line → List Line → Type 0
Closes past l later = ClosesAt past l.at later l.entry
