-- The slots that `make` fills: the targets, and zeros after them.
use Rattle.std.specs.Prelude.{ℕ, List, length, drop, replicate, ◌++◌}
use Rattle.std.proofs.Common.{arith, length-append, length-drop, ap, ◌∙◌, sym, inl, inr}
use Rattle.std.proofs.Math.Seq.{take-append_seam, drop-append_seam}
use Rattle.std.proofs.lemmas.List.{drop-replicate}
use Rattle.std.proofs.lemmas.Bool.{cases_order}
use Rattle.lu_layout.specs.Sound.{IsStripeSize, AreStripes, AreDistinct, HasRepeat}
use Rattle.lu_layout.specs.Slots.{AreSlots}

pub AreSlots-filled : (size : ℕ) (xs : List ℕ) → IsStripeSize size → AreStripes xs
    → AreSlots record { unit = size; width = length xs; slots = xs ++ drop (length xs) (replicate 8 0) }
AreSlots-filled size xs good stripes =
    let rest : List ℕ = drop (length xs) (replicate 8 0) in
    record {
      layout = record { size = good; targets = rw (take-append_seam xs rest) stripes };
      room = omega (arith, length-append xs rest, length-drop {A = ℕ} (length xs) (replicate 8 0), stripes.1);
      width = ap length (take-append_seam xs rest);
      rest = drop-append_seam xs rest ∙ drop-replicate (length xs) 8 0;
    }

-- targets of which none stands twice are distinct
pub AreDistinct-from_no_repeat : (xs : List ℕ) → (HasRepeat xs → ⊥) → AreDistinct xs
AreDistinct-from_no_repeat xs none i j p q e =
    elim (cases_order i j) [
      | inl same ↦ same
      | inr other ↦ elim other [ inl before ↦ absurd (none (i, j, before, q, e)) | inr after ↦ absurd (none (j, i, after, p, sym e)) ]
    ]
