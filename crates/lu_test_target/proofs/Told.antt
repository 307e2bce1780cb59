-- One batch more.
use Rattle.std.proofs.Common.{ℕ, ◌+◌, ◌<◌, List, [], ◌∷◌, ◌++◌, sym, subst, ◌∙◌, arith}
use Rattle.lu_service.specs.declared.services.Kind.TheVariants.{Mdt}
use Rattle.lu_msg.specs.declared.commits.Batch.{Batch}
use Rattle.lu_target_refines.specs.Journals.{last_in}
use Rattle.lu_target_refines.proofs.RisingNumbers.{rising_push, last_push}
use Rattle.lu_target_redo.specs.Shown.{AreRepeatable, AllRepeatable}
use Rattle.lu_test_target.specs.Told.{IsNext, AreNext}

repeatable_more : (batches : List Batch) (batch : Batch) → AllRepeatable Mdt batches → AreRepeatable Mdt batch.transactions
    → AllRepeatable Mdt (batches ++ batch ∷ [])
repeatable_more [] batch all one = (one, tt)
repeatable_more (b ∷ batches) batch all one = (all.0, repeatable_more batches batch all.1 one)

pub batch_more : (number : ℕ) (batches : List Batch) (batch : Batch) → AreNext number batches → IsNext number batch
    → AreNext (number + 1) (batches ++ batch ∷ [])
batch_more number batches batch are next = record {
  repeatable = repeatable_more batches batch are.repeatable next.repeatable;
  rising = rising_push 1 batches batch are.rising (next.rising (last_in 1 batches) are.below);
  below = subst (λ (n : ℕ). n < number + 1) (sym (last_push 1 batches batch ∙ next.last (last_in 1 batches))) (omega arith);
}
