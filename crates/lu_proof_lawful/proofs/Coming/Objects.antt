-- The objects of a target lie in a file, each byte of them: puts and cuts that do keep it so, done again and stored too.
use Rattle.std.proofs.Common.{◌≡◌, ℕ, zero, suc, ◌+◌, ◌<◌, ◌≤◌, Bool, true, false, List, [], ◌∷◌, length, Option, Some, None, ◌⊎◌, inl}
use Rattle.std.proofs.Common.{inr, ⊎_elim, refl, sym, subst, ◌∙◌, arith}
use Rattle.std.specs.Prelude.{nat_eq, nat_lt, ◌^◌, if◌then◌else◌, map, filter}
use Rattle.std.proofs.lemmas.Bool.{ltb-true, cond_both}
use Rattle.lu_base.specs.declared.ids.Who.{Who}
use Rattle.lu_base.specs.declared.locks.Resource.{Resource}
use Rattle.lu_held.specs.Locks.{same_resource}
use Rattle.lu_msg.specs.declared.commits.Batch.{Batch}
use Rattle.lu_msg.specs.declared.commits.Transaction.{Transaction}
use Rattle.lu_msg.specs.declared.operations.Op.{Op}
use Rattle.lu_msg.specs.declared.operations.Op.TheVariants as op
use Rattle.lu_spec_machine.specs.Footprint.{forget}
use Rattle.lu_spec_machine.specs.Objects.{Object, put_bytes, cut_bytes, object_size}
use Rattle.lu_spec_machine.specs.Places.{found_at}
use Rattle.lu_spec_entries.specs.Carried.{Deed, Contents, Disk}
use Rattle.lu_spec_target.specs.Stored.{object_in, with_object, transaction_of, done_by, done, all_done, forgotten, news, stored}
use Rattle.lu_proof_lawful.proofs.Preconditions.Heard.{In}
use Rattle.lu_proof_bytes.specs.Object.Words.{value, cut_at}
use Rattle.lu_proof_bytes.specs.Object.Folds.{is_some}
use Rattle.lu_proof_objects.proofs.Objects.{object_changed, object_ends}
use Rattle.lu_proof_lawful.proofs.Refinement.PatchesLow.{run_low}
use Rattle.lu_proof_lawful.specs.Coming.{InFile}

-- ---- one object

abbrev pub Low : Object → Type 0
Low object = (p b : ℕ) → found_at object p ≡ Some b → p < 2 ^ 40

pub low_size : (object : Object) → Low object → object_size object ≤ 2 ^ 40
low_size object low = by (object_size object) refl
  where
    there : (p : ℕ) (x : Option ℕ) → found_at object p ≡ x → is_some x ≡ true → suc p ≤ 2 ^ 40
    there p None f s = absurd (cc)
    there p (Some b) f s = let less = low p b f in omega (arith, less)

    by : (n : ℕ) → object_size object ≡ n → n ≤ 2 ^ 40
    by zero e = omega arith
    by (suc p) e = there p (found_at object p) refl ((object_ends object p).last (sym e))

put_low : (at : ℕ) (bs : List ℕ) (object : Object) → at + length bs ≤ 2 ^ 40 → Low object → Low (put_bytes at bs object)
put_low at bs object fits low p b e = ⊎_elim
    (λ (l : p < at + length bs). omega (arith, l, fits)) (λ (q : found_at object p ≡ Some b). low p b q)
    (run_low at bs p b (found_at object p) (sym ((object_changed object p).put at bs) ∙ e))

below_cut : (n p b : ℕ) (x : Option ℕ) → cut_at n p x ≡ Some b → p < n
below_cut n p b x e = by (nat_lt p n) refl e
  where
    by : (v : Bool) → nat_lt p n ≡ v → (if v then (if nat_eq (suc p) n then Some (value x) else x) else None) ≡ Some b → p < n
    by true f e = ltb-true p n f
    by false f e = absurd (cc)

cut_low : (n : ℕ) (object : Object) → n ≤ 2 ^ 40 → Low (cut_bytes n object)
cut_low n object fits p b e = let less = below_cut n p b (found_at object p) (sym ((object_changed object p).cut n) ∙ e) in
    omega (arith, less, fits)

-- ---- all of a target

abbrev pub AllLow : List (Resource × Object) → Type 0
AllLow [] = Unit {0}
AllLow (e ∷ objects) = Low e.1 × AllLow objects

with_low : (q : Resource) (x : Object) (objects : List (Resource × Object)) → Low x → AllLow objects → AllLow (with_object q x objects)
with_low q x [] low all = (low, tt)
with_low q x (e ∷ objects) low all = by (same_resource e.0 q) (with_low q x objects low all.1)
  where
    by : (v : Bool) → AllLow (with_object q x objects) → AllLow (if v then (e.0, x) ∷ objects else e ∷ with_object q x objects)
    by true more = (low, all.1)
    by false more = (all.0, more)

pub in_low : (objects : List (Resource × Object)) → AllLow objects → (r : Resource) → Low (object_in objects r)
in_low [] all r = λ p b e. absurd (cc)
in_low (e ∷ objects) all r = by (same_resource e.0 r) (in_low objects all.1 r)
  where
    by : (v : Bool) → Low (object_in objects r) → Low (if v then e.1 else object_in objects r)
    by true more = all.0
    by false more = more

-- ---- what is done

pub done_low : (osts : ℕ) (t : Transaction) (c : Contents) (o : Op) → InFile o → AllLow c.objects → AllLow (done_by osts t c o).objects
done_low osts t c (op.Put r cookie at bs) fits all = with_low r (put_bytes at bs (object_in c.objects r)) c.objects
    (put_low at bs (object_in c.objects r) fits (in_low c.objects all r)) all
done_low osts t c (op.Cut r cookie n) fits all = with_low r (cut_bytes n (object_in c.objects r)) c.objects
    (cut_low n (object_in c.objects r) fits) all
done_low osts t c o fits all = all

abbrev pub EveryIn : List Transaction → Type 0
EveryIn [] = Unit {0}
EveryIn (t ∷ ts) = InFile t.op × EveryIn ts

all_done_low : (osts : ℕ) (ts : List Transaction) (c : Contents) → EveryIn ts → AllLow c.objects → AllLow (all_done osts ts c).objects
all_done_low osts [] c fits all = all
all_done_low osts (t ∷ ts) c fits all = all_done_low osts ts (done osts c t) fits.1 (done_low osts t c t.op fits.0 all)

forgotten_same : (gone : List Who) (c : Contents) → (forgotten gone c).objects ≡ c.objects
forgotten_same [] c = refl
forgotten_same (who ∷ gone) c = forgotten_same gone (record c { tree = forget c.tree who })

filter_in : (f : Transaction → Bool) (ts : List Transaction) → EveryIn ts → EveryIn (filter f ts)
filter_in f [] fits = tt
filter_in f (t ∷ ts) fits = cond_both (f t) (t ∷ filter f ts) (filter f ts) EveryIn (λ e. (fits.0, filter_in f ts fits.1))
    (λ e. filter_in f ts fits.1)

pub stored_low : (osts : ℕ) (batch : Batch) (disk : Disk) → EveryIn batch.transactions → AllLow disk.contents.objects
    → AllLow (stored osts batch disk).contents.objects
stored_low osts batch disk fits all =
    subst AllLow (sym (forgotten_same batch.removed (all_done osts (news disk batch) disk.contents)))
    (all_done_low osts (news disk batch) disk.contents (filter_in (λ t. nat_lt disk.committed t.txn.0) batch.transactions fits) all)

pub deeds_in : (ds : List Deed) → ((d : Deed) → In d ds → InFile d.op) → EveryIn (map {A = Deed} {B = Transaction} transaction_of ds)
deeds_in [] all = tt
deeds_in (d ∷ ds) all = (all d (inl refl), deeds_in ds (λ e i. all e (inr i)))
