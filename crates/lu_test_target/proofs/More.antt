-- One replay more.
use Rattle.std.proofs.Common.{◌≡◌, ℕ, ◌+◌, ◌<◌, List, [], ◌∷◌, ◌++◌, refl, sym, subst, arith}
use Rattle.lu_service.specs.declared.services.Kind.TheVariants.{Mdt}
use Rattle.lu_service.specs.Takes.{IsNamed}
use Rattle.lu_spec_target.specs.Stored.{last_number}
use Rattle.lu_target_refines.specs.Journals.{AreRising}
use Rattle.lu_window.specs.declared.outcomes.KeptReplay.{KeptReplay}
use Rattle.lu_target_redo.specs.Shown.{transactions_of, AreRepeatable, IsRepeatable}
use Rattle.lu_test_target.specs.Kept.{AreKept}

repeatable_more : (kept : List KeptReplay) (k : KeptReplay) → AreRepeatable Mdt (transactions_of kept) → IsRepeatable Mdt k.replay.op
    → AreRepeatable Mdt (transactions_of (kept ++ k ∷ []))
repeatable_more [] k all one = (one, tt)
repeatable_more (x ∷ kept) k all one = (all.0, repeatable_more kept k all.1 one)

rising_more : (n : ℕ) (kept : List KeptReplay) (k : KeptReplay) → AreRising n (transactions_of kept)
    → last_number (transactions_of kept) n < k.replay.number.0 → AreRising n (transactions_of (kept ++ k ∷ []))
rising_more n [] k all above = (above, tt)
rising_more n (x ∷ kept) k all above = (all.0, rising_more x.replay.number.0 kept k all.1 above)

last_more : (n : ℕ) (kept : List KeptReplay) (k : KeptReplay) → last_number (transactions_of (kept ++ k ∷ [])) n ≡ k.replay.number.0
last_more n [] k = refl
last_more n (x ∷ kept) k = last_more x.replay.number.0 kept k

pub one_more : (kept : List KeptReplay) (k : KeptReplay) → AreKept k.replay.number.0 kept → IsNamed k.replay.op
    → AreKept (k.replay.number.0 + 1) (kept ++ k ∷ [])
one_more kept k are named = record {
  repeatable = repeatable_more kept k are.repeatable (named, λ is. absurd (cc));
  rising = rising_more 1 kept k are.rising are.below;
  below = subst (λ (n : ℕ). n < k.replay.number.0 + 1) (sym (last_more 1 kept k)) (omega arith);
}
