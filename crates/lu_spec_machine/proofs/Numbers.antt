-- Two plans that look at the same, and end alike but for the number and the life.
use Rattle.std.proofs.Common.{◌≡◌, ℕ, Bool, true, false, List, [], ◌∷◌, Option, Some, None, refl, ap, subst}
use Rattle.std.specs.Prelude.{if◌then◌else◌}
use Rattle.lu_base.specs.declared.ids.Fid.{Fid}
use Rattle.lu_base.specs.declared.ids.Txn.{Txn}
use Rattle.lu_base.specs.declared.ids.Who.{Who}
use Rattle.lu_layout.specs.Raid0.{Raid0}
use Rattle.lu_msg.specs.declared.answers.Errno.{Errno}
use Rattle.lu_msg.specs.declared.answers.Errno.TheVariants.{EEXIST, ENAMETOOLONG}
use Rattle.lu_msg.specs.declared.operations.Op.{Op}
use Rattle.lu_msg.specs.declared.operations.Op.TheVariants as op
use Rattle.lu_part.specs.declared.parts.Part.TheVariants as part
use Rattle.lu_spec_machine.specs.declared.child.Child.{Child}
use Rattle.lu_spec_machine.specs.declared.child.Child.TheVariants.{Dir, File}
use Rattle.lu_spec_machine.specs.Name.{is_too_long}
use Rattle.lu_spec_machine.specs.Tree.{Tree, Attributes, fid_of, child, listing, attributes, layout}
use Rattle.lu_spec_machine.specs.Change.{written}
use Rattle.lu_spec_machine.specs.Striping.{stripe_size, stripe_count, is_bad, new_layout}
use Rattle.lu_spec_machine.specs.Plan.{Plan, Refuse, Do, LookName, LookList, LookAttr, LookLayout, outcome, looked}
use Rattle.lu_spec_machine.specs.Table.{root, look_in, look, there, absent, walk, onward, to_last, last_of, row_mkdir, row_create, row_open}
use Rattle.lu_spec_machine.specs.Table.{plan}
use Rattle.lu_spec_machine.specs.Footprint.{is_some_change}
use Rattle.lu_spec_machine.specs.Laws.{NumberIsFree}

abbrev Twins : Plan → Plan → Type 0
Twins (Refuse e) (Refuse f) = Unit {0}
Twins (Do answer g xs) (Do other h ys) = (g ≡ h) × (written xs ≡ written ys) × (is_some_change xs ≡ is_some_change ys)
Twins (LookName d n k) (LookName e m l) = (d ≡ e) × (n ≡ m) × ((o : Option Child) → Twins (k o) (l o))
Twins (LookList d k) (LookList e l) = (d ≡ e) × ((names : List (List ℕ)) → Twins (k names) (l names))
Twins (LookAttr c k) (LookAttr b l) = (c ≡ b) × ((a : Attributes) → Twins (k a) (l a))
Twins (LookLayout f k) (LookLayout g l) = (f ≡ g) × ((x : Raid0) → Twins (k x) (l x))
Twins _ _ = ⊥

twin : (p : Plan) → Twins p p
twin (Refuse e) = tt
twin (Do answer g xs) = (refl, refl, refl)
twin (LookName d n k) = (refl, refl, λ o. twin (k o))
twin (LookList d k) = (refl, λ o. twin (k o))
twin (LookAttr c k) = (refl, λ o. twin (k o))
twin (LookLayout f k) = (refl, λ o. twin (k o))

abbrev Like : Tree → Plan → Plan → Type 0
Like t p q =
    record {
      touches : looked t p ≡ looked t q;
      writes : written (outcome t p).changes ≡ written (outcome t q).changes;
      grants : (outcome t p).grants ≡ (outcome t q).grants;
      changes : is_some_change (outcome t p).changes ≡ is_some_change (outcome t q).changes;
    }

twins_like : (t : Tree) (p q : Plan) → Twins p q → Like t p q
twins_like t (Refuse e) (Refuse f) h = record { touches = refl; writes = refl; grants = refl; changes = refl }
twins_like t (Do answer g xs) (Do other k ys) h = record { touches = refl; writes = h.1; grants = h.0; changes = h.2 }
twins_like t (LookName d n k) (LookName e m l) h =
    let ih = twins_like t (k (child t d n)) (l (child t d n)) (h.2 (child t d n)) in
    subst (λ (x : Fid). Like t (LookName d n k) (LookName x m l)) h.0
    (subst (λ x. Like t (LookName d n k) (LookName d x l)) h.1
    (record { touches = ap (λ ps. part.Name d n ∷ ps) ih.touches; writes = ih.writes; grants = ih.grants; changes = ih.changes }))
twins_like t (LookList d k) (LookList e l) h =
    let ih = twins_like t (k (listing t d)) (l (listing t d)) (h.1 (listing t d)) in
    subst (λ (x : Fid). Like t (LookList d k) (LookList x l)) h.0
    (record { touches = ap (λ ps. part.List d ∷ ps) ih.touches; writes = ih.writes; grants = ih.grants; changes = ih.changes })
twins_like t (LookAttr c k) (LookAttr b l) h =
    let ih = twins_like t (k (attributes t c)) (l (attributes t c)) (h.1 (attributes t c)) in
    subst (λ (x : Child). Like t (LookAttr c k) (LookAttr x l)) h.0
    (record { touches = ap (λ ps. part.Attr (fid_of c) ∷ ps) ih.touches; writes = ih.writes; grants = ih.grants; changes = ih.changes })
twins_like t (LookLayout f k) (LookLayout g l) h =
    let ih = twins_like t (k (layout t f)) (l (layout t f)) (h.1 (layout t f)) in
    subst (λ (x : Fid). Like t (LookLayout f k) (LookLayout x l)) h.0
    (record { touches = ap (λ ps. part.Layout f ∷ ps) ih.touches; writes = ih.writes; grants = ih.grants; changes = ih.changes })
twins_like t _ _ h = absurd h

-- ---- the walks, before twins

abbrev After : Type 0
After = List Child → Fid → List ℕ → Option Child → Plan

look_in_twins : (at : Child) (n : List ℕ) (k l : Fid → Option Child → Plan) → ((d : Fid) (o : Option Child) → Twins (k d o) (l d o))
    → Twins (look_in at n k) (look_in at n l)
look_in_twins (File f) n k l h = tt
look_in_twins (Dir d) n k l h = (refl, refl, h d)

both_twins : (b : Bool) (p q r : Plan) → Twins q r → Twins (if b then p else q) (if b then p else r)
both_twins true p q r h = twin p
both_twins false p q r h = h

look_twins : (at : Child) (n : List ℕ) (k l : Fid → Option Child → Plan) → ((d : Fid) (o : Option Child) → Twins (k d o) (l d o))
    → Twins (look at n k) (look at n l)
look_twins at n k l h = both_twins (is_too_long n) (Refuse ENAMETOOLONG) (look_in at n k) (look_in at n l) (look_in_twins at n k l h)

there_twins : (k l : Child → Plan) (o : Option Child) → ((c : Child) → Twins (k c) (l c)) → Twins (there k o) (there l o)
there_twins k l None h = tt
there_twins k l (Some c) h = h c

absent_twins : (p q : Plan) (o : Option Child) → Twins p q → Twins (absent p o) (absent q o)
absent_twins p q None h = h
absent_twins p q (Some c) h = tt

walk_twins : (at : Child) (ns : List (List ℕ)) (k l : List Child → Plan) → ((cs : List Child) → Twins (k cs) (l cs))
    → Twins (walk at ns k) (walk at ns l)
walk_twins at [] k l h = h []
walk_twins at (n ∷ ns) k l h =
    look_twins at n (λ d. there (λ c. walk c ns (λ cs. k (c ∷ cs)))) (λ d. there (λ c. walk c ns (λ cs. l (c ∷ cs))))
    (λ d o. there_twins (λ c. walk c ns (λ cs. k (c ∷ cs))) (λ c. walk c ns (λ cs. l (c ∷ cs))) o
    (λ c. walk_twins c ns (λ cs. k (c ∷ cs)) (λ cs. l (c ∷ cs)) (λ cs. h (c ∷ cs))))

onward_twins : (ns : List (List ℕ)) (k l : After) (d : Fid) (n : List ℕ) (o : Option Child)
    → ((cs : List Child) (d : Fid) (n : List ℕ) (o : Option Child) → Twins (k cs d n o) (l cs d n o))
    → Twins (onward ns k d n o) (onward ns l d n o)
onward_twins [] k l d n o h = h [] d n o
onward_twins (m ∷ ns) k l d n o h =
    there_twins (λ c. look c m (λ e. onward ns (λ cs. k (c ∷ cs)) e m)) (λ c. look c m (λ e. onward ns (λ cs. l (c ∷ cs)) e m)) o
    (λ c. look_twins c m (λ e. onward ns (λ cs. k (c ∷ cs)) e m) (λ e. onward ns (λ cs. l (c ∷ cs)) e m)
    (λ e p. onward_twins ns (λ cs. k (c ∷ cs)) (λ cs. l (c ∷ cs)) e m p (λ cs. h (c ∷ cs))))

to_last_twins : (e : Errno) (ns : List (List ℕ)) (k l : After) → ((cs : List Child) (d : Fid) (n : List ℕ) (o : Option Child)
    → Twins (k cs d n o) (l cs d n o)) → Twins (to_last e ns k) (to_last e ns l)
to_last_twins e [] k l h = tt
to_last_twins e (n ∷ ns) k l h = look_twins root n (λ d. onward ns k d n) (λ d. onward ns l d n) (λ d o. onward_twins ns k l d n o h)

-- ---- the rows that a number or a life goes into

module _ (n m : Txn) where
  create_twins : (d : Fid) (name : List ℕ) (a b : Bool) (x y : Raid0) → a ≡ b
      → Twins (row_create n d name (if a then None else Some x)) (row_create m d name (if b then None else Some y))
  create_twins d name a b x y e = subst (λ v. Twins (row_create n d name (if a then None else Some x))
      (row_create m d name (if v then None else Some y))) e (by a)
    where
      by : (v : Bool) → Twins (row_create n d name (if v then None else Some x)) (row_create m d name (if v then None else Some y))
      by true = tt
      by false = (refl, refl, refl)

  open_twins : (a b : Who) (c : Child) → Twins (row_open n a c) (row_open m b c)
  open_twins a b (Dir d) = tt
  open_twins a b (File f) = (refl, λ l. (refl, refl, refl))

  plan_twins : (osts : ℕ) (a b : Who) (o : Op) → Twins (plan osts n a o) (plan osts m b o)
  plan_twins osts a b (op.Lookup path) = twin (plan osts n a (op.Lookup path))
  plan_twins osts a b (op.Stat path) = twin (plan osts n a (op.Stat path))
  plan_twins osts a b (op.List path) = twin (plan osts n a (op.List path))
  plan_twins osts a b (op.Layout path) = twin (plan osts n a (op.Layout path))
  plan_twins osts a b (op.Mkdir path) =
      to_last_twins EEXIST path (λ cs d name. absent (row_mkdir n d name)) (λ cs d name. absent (row_mkdir m d name))
      (λ cs d name o. absent_twins (row_mkdir n d name) (row_mkdir m d name) o (refl, refl, refl))
  plan_twins osts a b (op.Create path size count) =
      to_last_twins EEXIST path (λ cs d name. absent (row_create n d name (new_layout osts n size count)))
      (λ cs d name. absent (row_create m d name (new_layout osts m size count)))
      (λ cs d name o. absent_twins (row_create n d name (new_layout osts n size count)) (row_create m d name (new_layout osts m size count))
      o
      (create_twins d name (is_bad osts (stripe_size size) (stripe_count osts count))
      (is_bad osts (stripe_size size) (stripe_count osts count)) _ _ refl))
  plan_twins osts a b (op.Link old new) = twin (plan osts n a (op.Link old new))
  plan_twins osts a b (op.Unlink path) = twin (plan osts n a (op.Unlink path))
  plan_twins osts a b (op.Rmdir path) = twin (plan osts n a (op.Rmdir path))
  plan_twins osts a b (op.Rename old new) = twin (plan osts n a (op.Rename old new))
  plan_twins osts a b (op.Chmod path mode) = twin (plan osts n a (op.Chmod path mode))
  plan_twins osts a b (op.Open path) = walk_twins root path (λ cs. row_open n a (last_of root cs)) (λ cs. row_open m b (last_of root cs))
      (λ cs. open_twins a b (last_of root cs))
  plan_twins osts a b (op.Close opened fid) = (refl, refl, refl)
  plan_twins osts a b (op.Enqueue resource mode extent) = tt
  plan_twins osts a b (op.Get resource cookie page) = tt
  plan_twins osts a b (op.Put resource cookie offset bytes) = tt
  plan_twins osts a b (op.Cut resource cookie size) = tt
  plan_twins osts a b (op.Size resource) = tt

pub number_is_free : NumberIsFree
number_is_free osts t a b e free =
    twins_like t (plan osts a.number a.who a.op) (plan osts b.number b.who b.op)
    (subst (λ (o : Op). Twins (plan osts a.number a.who a.op) (plan osts b.number b.who o)) e
    (plan_twins a.number b.number osts a.who b.who a.op))
