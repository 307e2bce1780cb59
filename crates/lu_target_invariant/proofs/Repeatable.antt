-- Deeds, batches and replays that may be performed again.
use Rattle.std.proofs.Common.{◌≡◌, ℕ, zero, suc, Bool, true, false, List, [], ◌∷◌, ◌++◌, map, Option, Some, None}
use Rattle.std.specs.Prelude.{take, if◌then◌else◌}
use Rattle.lu_base.specs.declared.ids.At.{At}
use Rattle.lu_spec_machine.specs.Footprint.{Every}
use Rattle.lu_msg.specs.declared.commits.Batch.{Batch}
use Rattle.lu_msg.specs.declared.commits.Transaction.{Transaction}
use Rattle.lu_msg.specs.declared.operations.Op.{Op}
use Rattle.lu_service.specs.declared.services.Kind.{Kind}
use Rattle.lu_service.specs.declared.services.Kind.TheVariants.{Mdt, Ost}
use Rattle.lu_service.specs.Takes.{Takes}
use Rattle.lu_spec_entries.specs.Carried.{Deed, Contents}
use Rattle.lu_spec_target.specs.Stored.{transaction_of, done}
use Rattle.lu_spec_target.specs.Outcomes.{deed_again, deeds_again}
use Rattle.lu_spec_target.specs.Rows.{first_deeds}
use Rattle.lu_spec_target.specs.States.{Target}
use Rattle.lu_spec_target.specs.Windows.{Replayed, placed}
use Rattle.lu_target_redo.specs.Shown.{IsRepeatable, AreRepeatable, AllRepeatable}

-- an operation on names
pub names_repeat : (o : Op) → Takes Mdt o → IsRepeatable Mdt o
names_repeat o takes = (takes, λ (e : Mdt ≡ Ost). absurd (cc))

-- ---- lists

module _ {A : Type 0} where
  pub every_take : (P : A → Type 0) (n : ℕ) (xs : List A) → Every P xs → Every P (take n xs)
  every_take P zero xs all = tt
  every_take P (suc n) [] all = tt
  every_take P (suc n) (x ∷ xs) all = (all.0, every_take P n xs all.1)

  pub every_placed : (P : A → Type 0) (before : A → A → Bool) (x : A) (ys : List A) → P x → Every P ys → Every P (placed before x ys)
  every_placed P before x [] own all = (own, tt)
  every_placed P before x (y ∷ ys) own all = by (before x y) (every_placed P before x ys own all.1) where
    by : (here : Bool) → Every P (placed before x ys) → Every P (if here then x ∷ y ∷ ys else y ∷ placed before x ys)
    by true rest = (own, all)
    by false rest = (all.0, rest)

-- ---- deeds, and what a batch has of them

abbrev pub DeedsRepeat : Kind → List Deed → Type 0
DeedsRepeat kind deeds = Every (λ (d : Deed). IsRepeatable kind d.op) deeds

pub transactions_repeat : (kind : Kind) (deeds : List Deed) → DeedsRepeat kind deeds
    → AreRepeatable kind (map {A = Deed} {B = Transaction} transaction_of deeds)
transactions_repeat kind [] all = tt
transactions_repeat kind (d ∷ deeds) all = (all.0, transactions_repeat kind deeds all.1)

pub first_repeat : (kind : Kind) (count : Option ℕ) (log : List Deed) → DeedsRepeat kind log → DeedsRepeat kind (first_deeds count log)
first_repeat kind None log all = all
first_repeat kind (Some count) log all = every_take (λ (d : Deed). IsRepeatable kind d.op) count log all

pub batches_more : (kind : Kind) (batches more : List Batch) → AllRepeatable kind batches → AllRepeatable kind more
    → AllRepeatable kind (batches ++ more)
batches_more kind [] more one two = two
batches_more kind (batch ∷ batches) more one two = (one.0, batches_more kind batches more one.1 two)

batches_first : (kind : Kind) (n : ℕ) (batches : List Batch) → AllRepeatable kind batches → AllRepeatable kind (take n batches)
batches_first kind zero batches all = tt
batches_first kind (suc n) [] all = tt
batches_first kind (suc n) (batch ∷ batches) all = (all.0, batches_first kind n batches all.1)

-- what a disk had, and the first of a row's batches
pub batches_kept : (kind : Kind) (n : ℕ) (old more : List Batch) → AllRepeatable kind old → AllRepeatable kind more
    → AllRepeatable kind (old ++ take n more)
batches_kept kind n old more one two = batches_more kind old (take n more) one (batches_first kind n more two)

-- ---- replays that are deeds again

pub again_repeat : (kind : Kind) (v : Target) (at : At) (c : Contents) (replays : List Replayed)
    → Every (λ (r : Replayed). IsRepeatable kind r.op) replays
    → DeedsRepeat kind (deeds_again v at c replays)
again_repeat kind v at c [] all = tt
again_repeat kind v at c (r ∷ replays) all =
    (all.0, again_repeat kind v at (done v.setting.osts c (transaction_of (deed_again v at c r))) replays all.1)
