-- The place is filed under the parts so far.
use Rattle.std.proofs.Common.{◌≡◌, ℕ, true, take}
use Rattle.lu_part.specs.Places.{has}
use Rattle.lu_judge_names.specs.Indexes.{places_of, files, Grows}
use Rattle.lu_judge_names.proofs.index.Index.add.Given as goal

abbrev pub invariant-loop-part : goal.invariant-loop-part
invariant-loop-part l =
    Grows l.initial.self l.self × ((b : ℕ) → files (take l.part-index l.part-items) b ≡ true → has (places_of l.self b) l.place ≡ true)
