-- Over a batch without transactions no number is of a later boot; and a life without a slot may come where another leaves.
use Rattle.std.proofs.Common.{◌≡◌, ℕ, ◌+◌, ◌*◌, ◌^◌, ◌<◌, ◌&&◌, Bool, true, false, not, List, [], ◌∷◌, refl, sym, ap, subst, ◌∙◌, arith}
use Rattle.std.proofs.lemmas.List.Elements.{All-cons}
use Rattle.std.specs.Option.{is_some}
use Rattle.std.specs.Prelude.{All}
use Rattle.lu_base.specs.declared.ids.Who.{Who}
use Rattle.lu_msg.specs.declared.commits.Batch.{Batch}
use Rattle.lu_msg.specs.declared.commits.Transaction.{Transaction}
use Rattle.lu_txn.specs.Slots.{slot_of, lives_of}
use Rattle.lu_txn.specs.Loads.{AreBelow}
use Rattle.lu_spec_target.specs.Lives.{is_life}
use Rattle.lu_target_refines.proofs.LifeLists.{has_slot, life_without}
use Rattle.lu_target_store.specs.Commits.{last_boot}
use Rattle.lu_target_store.specs.Stores.{StoreState, MayMove}
use Rattle.lu_test_target.specs.Disks.{IsOne}

none_above : (boot : ℕ) (transactions : List Transaction) → transactions ≡ [] → All (λ (t : Transaction). t.txn.0 < boot) transactions
none_above boot transactions none = subst (All (λ (t : Transaction). t.txn.0 < boot)) (sym none)
    (λ k d within. absurd (omega (arith, within)))

pub one_below : (batches : List Batch) → IsOne batches → AreBelow (last_boot batches + 1) batches
one_below batches one =
    subst (λ (all : List Batch). AreBelow (last_boot all + 1) all) (sym one.one)
    (All-cons (λ (batch : Batch). All (λ (t : Transaction). t.txn.0 < (last_boot (one.batch ∷ []) + 1) * 2 ^ 32) batch.transactions)
    one.batch []
    (none_above ((last_boot (one.batch ∷ []) + 1) * 2 ^ 32) one.batch.transactions one.none) (λ k d within. absurd (omega (arith, within))))

pub may_move : (s : StoreState) (old new : Who) → is_some (slot_of old s.journal.slots) ≡ true → is_some (slot_of new s.journal.slots)
    ≡ false → MayMove (old ∷ []) (new ∷ []) s
may_move s old new there absent = record {
  once = (refl, tt);
  among = (sym (has_slot old s.journal.slots) ∙ there, tt);
  new = (refl, tt);
  apart = (
    life_without new (old ∷ []) (lives_of s.journal.slots)
        ∙ ap (λ is. not (is_life new (old ∷ [])) && is) (sym (has_slot new s.journal.slots) ∙ absent)
        ∙ and_false (not (is_life new (old ∷ []))),
    tt,
  );
} where
  and_false : (a : Bool) → (a && false) ≡ false
  and_false true = refl
  and_false false = refl
