-- What operations make of one object of a target, done in their order over what stood there: the object of that resource in contents of
-- many.
use Rattle.std.proofs.Common.{◌≡◌, ℕ, suc, ◌+◌, Bool, true, false, List, [], ◌∷◌, ◌++◌, refl, ap, ◌∙◌, arith}
use Rattle.std.specs.Prelude.{map, if◌then◌else◌, ◌&&◌, nat_lt, max, ◌-◌}
use Rattle.std.proofs.lemmas.Bool.Decides.{nat_tests}
use Rattle.lu_base.specs.declared.ids.Who.{Who}
use Rattle.lu_base.specs.declared.locks.Resource.{Resource}
use Rattle.lu_held.specs.Locks.{same_resource}
use Rattle.lu_spec_machine.specs.Footprint.{forget}
use Rattle.lu_spec_machine.specs.Objects.{Object, put_bytes, cut_bytes}
use Rattle.lu_msg.specs.declared.commits.Transaction.{Transaction}
use Rattle.lu_msg.specs.declared.operations.Op.{Op}
use Rattle.lu_msg.specs.declared.operations.Op.TheVariants as op
use Rattle.lu_spec_entries.specs.Carried.{Deed, Contents, Disk}
use Rattle.lu_spec_entries.specs.Words.{Entry, Commit, Line}
use Rattle.lu_spec_target.specs.Stored.{object_in, with_object, transaction_of, done_by, done, all_done, forgotten, stored}
use Rattle.lu_proof_lawful.specs.Covered.TargetCloses.{disk_of, closing_of}
use Rattle.lu_proof_lawful.specs.Covered.Heads.{Head}
use Rattle.lu_proof_bytes.specs.Object.Words.{within}

-- ---- operations on one object

-- what an operation makes of the object of that resource: a put or a cut of it changes it
abbrev pub after_one : Resource → Op → Object → Object
after_one r (op.Put q cookie offset bytes) object = if same_resource q r then put_bytes offset bytes object else object
after_one r (op.Cut q cookie size) object = if same_resource q r then cut_bytes size object else object
after_one r _ object = object

-- one after another
abbrev pub written : Resource → List Op → Object → Object
written r [] object = object
written r (o ∷ ops) object = written r ops (after_one r o object)

abbrev pub ops_of : List Deed → List Op
ops_of deeds = map {A = Deed} {B = Op} (λ d. d.op) deeds

-- the positions of the object that it may change
abbrev pub changes_on : Resource → Op → ℕ → Bool
changes_on r (op.Put q cookie offset bytes) p = same_resource q r && within offset bytes p
changes_on r (op.Cut q cookie size) p = same_resource q r && nat_lt size (suc (suc p))
changes_on r _ p = false

-- the first of them
abbrev pub starts_at : Op → ℕ
starts_at (op.Put q cookie offset bytes) = offset
starts_at (op.Cut q cookie size) = max size 1 - 1
starts_at _ = 0

-- ---- what stands on the disk

-- that of a close comes there with the next line
abbrev pub disk_next : ℕ → List Entry → Disk → Disk
disk_next osts [] disk = disk
disk_next osts (e ∷ es) disk = elim e [ Commit to batch ↦ stored osts batch disk | _ ↦ disk ]

abbrev pub disk_then : Head → List Line → Disk
disk_then head past = disk_next head.osts (closing_of head.clients past) (disk_of head.osts head.clients past)

-- the object of a disk
abbrev pub object_of_disk : Resource → Disk → Object
object_of_disk r disk = object_in disk.contents.objects r

-- ---- what is done to contents, one object at a time

pub one_with : (r q : Resource) (x : Object) (objects : List (Resource × Object)) → object_in (with_object q x objects) r
    ≡ (if same_resource q r then x else object_in objects r)
one_with r q x [] = refl
one_with r q x (e ∷ objects) = by (same_resource e.0 q) refl (same_resource e.0 r) refl (same_resource q r) refl (one_with r q x objects)
  where
    by : (u : Bool) → same_resource e.0 q ≡ u → (v : Bool) → same_resource e.0 r ≡ v → (w : Bool) → same_resource q r ≡ w
        → object_in (with_object q x objects) r ≡ (if same_resource q r then x else object_in objects r)
        → object_in (if u then (e.0, x) ∷ objects else e ∷ with_object q x objects) r
        ≡ (if w then x else (if v then e.1 else object_in objects r))
    by true a true b true d ih = rw b refl
    by true a true b false d ih = absurd (grind (arith, nat_tests))
    by true a false b true d ih = absurd (grind (arith, nat_tests))
    by true a false b false d ih = rw b refl
    by false a true b true d ih = absurd (grind (arith, nat_tests))
    by false a true b false d ih = rw b refl
    by false a false b w d ih = rw b (ih ∙ rw d refl)

-- a resource that is the same has the same object
pub same_one : (q r : Resource) (objects : List (Resource × Object)) → same_resource q r ≡ true → object_in objects q ≡ object_in objects r
same_one q r [] s = refl
same_one q r (e ∷ objects) s = by (same_resource e.0 q) refl (same_resource e.0 r) refl (same_one q r objects s)
  where
    by : (u : Bool) → same_resource e.0 q ≡ u → (v : Bool) → same_resource e.0 r ≡ v → object_in objects q ≡ object_in objects r
        → (if u then e.1 else object_in objects q) ≡ (if v then e.1 else object_in objects r)
    by true a true b ih = refl
    by true a false b ih = absurd (grind (arith, nat_tests))
    by false a true b ih = absurd (grind (arith, nat_tests))
    by false a false b ih = ih

one_changed : (r q : Resource) (f : Object → Object) (objects : List (Resource × Object))
    → object_in (with_object q (f (object_in objects q)) objects) r
    ≡ (if same_resource q r then f (object_in objects r) else object_in objects r)
one_changed r q f objects = one_with r q (f (object_in objects q)) objects ∙ by (same_resource q r) refl
  where
    by : (b : Bool) → same_resource q r ≡ b → (if b then f (object_in objects q) else object_in objects r)
        ≡ (if b then f (object_in objects r) else object_in objects r)
    by true s = ap f (same_one q r objects s)
    by false s = refl

pub done_one : (r : Resource) (osts : ℕ) (t : Transaction) (c : Contents) (o : Op) → object_in (done_by osts t c o).objects r
    ≡ after_one r o (object_in c.objects r)
done_one r osts t c (op.Put q cookie offset bytes) = one_changed r q (put_bytes offset bytes) c.objects
done_one r osts t c (op.Cut q cookie size) = one_changed r q (cut_bytes size) c.objects
done_one r osts t c (op.Lookup path) = refl
done_one r osts t c (op.Stat path) = refl
done_one r osts t c (op.List path) = refl
done_one r osts t c (op.Layout path) = refl
done_one r osts t c (op.Mkdir path) = refl
done_one r osts t c (op.Create path size count) = refl
done_one r osts t c (op.Link old new) = refl
done_one r osts t c (op.Unlink path) = refl
done_one r osts t c (op.Rmdir path) = refl
done_one r osts t c (op.Rename old new) = refl
done_one r osts t c (op.Chmod path mode) = refl
done_one r osts t c (op.Open path) = refl
done_one r osts t c (op.Close opened fid) = refl
done_one r osts t c (op.Enqueue resource mode extent) = refl
done_one r osts t c (op.Get resource cookie page) = refl
done_one r osts t c (op.Size resource) = refl

pub done_written : (r : Resource) (osts : ℕ) (deeds : List Deed) (c : Contents)
    → object_in (all_done osts (map {A = Deed} {B = Transaction} transaction_of deeds) c).objects r
    ≡ written r (ops_of deeds) (object_in c.objects r)
done_written r osts [] c = refl
done_written r osts (d ∷ deeds) c =
    done_written r osts deeds (done osts c (transaction_of d)) ∙ ap (λ (x : Object). written r (ops_of deeds) x)
    (done_one r osts (transaction_of d) c d.op)

pub forgotten_one : (gone : List Who) (c : Contents) → (forgotten gone c).objects ≡ c.objects
forgotten_one [] c = refl
forgotten_one (who ∷ gone) c = forgotten_one gone (record c { tree = forget c.tree who })

pub written_more : (r : Resource) (xs ys : List Op) (object : Object) → written r (xs ++ ys) object ≡ written r ys (written r xs object)
written_more r [] ys object = refl
written_more r (x ∷ xs) ys object = written_more r xs ys (after_one r x object)
