-- The entries of a turn that is covered; no call to a disk fails in it.
use Rattle.std.proofs.Common.{◌≡◌, ℕ, zero, suc, List, [], ◌∷◌, ◌++◌, Option, Some, None, refl, ap}
use Rattle.lu_base.specs.declared.ids.At.{At}
use Rattle.lu_spec_entries.specs.Words.{Entry, Commit, Boot, Line, line, with_turn}
use Rattle.lu_spec_target.specs.Disks.{failing, over_disk}
use Rattle.lu_proof_lawful.specs.Covered.Runs.{IsCovered, AllCovered}

abbrev pub EntriesCovered : List Entry → Type 0
EntriesCovered [] = Unit {0}
EntriesCovered (e ∷ es) = IsCovered e × EntriesCovered es

pub covered_turn : (at : At) (es : List Entry) (past : List Line) → AllCovered (with_turn at es past) → EntriesCovered es × AllCovered past
covered_turn at [] past c = (tt, c)
covered_turn at (e ∷ es) past c = let p = covered_turn at es (line at e ∷ past) c in ((p.1.0, p.0), p.1.1)

failing_none : (es : List Entry) (n : ℕ) → EntriesCovered (failing es n) → failing es n ≡ es
failing_none [] n c = refl
failing_none (Commit to batch ∷ es) zero c = absurd c.0
failing_none (Commit to batch ∷ es) (suc n) c = ap (λ (xs : List Entry). Commit to batch ∷ xs) (failing_none es n c.1)
failing_none (Boot boot disk ∷ es) zero c = absurd c.0
failing_none (Boot boot disk ∷ es) (suc zero) c = absurd c.0
failing_none (Boot boot disk ∷ es) (suc (suc n)) c = ap (λ (xs : List Entry). Boot boot disk ∷ xs) (failing_none es n c.1)
failing_none (e ∷ es) n c = ap (λ (xs : List Entry). e ∷ xs) (failing_none es n c.1)

pub over_none : (fails : Option ℕ) (es : List Entry) → EntriesCovered (over_disk fails es) → over_disk fails es ≡ es
over_none None es c = refl
over_none (Some n) es c = failing_none es n c

-- ---- parts of a row that are covered

pub covered_left : (es fs : List Entry) → EntriesCovered (es ++ fs) → EntriesCovered es
covered_left [] fs c = tt
covered_left (e ∷ es) fs c = (c.0, covered_left es fs c.1)

pub covered_right : (es fs : List Entry) → EntriesCovered (es ++ fs) → EntriesCovered fs
covered_right [] fs c = c
covered_right (e ∷ es) fs c = covered_right es fs c.1
