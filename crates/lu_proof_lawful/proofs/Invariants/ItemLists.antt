-- Items of the removal law: which acts stay when some are taken out, the numbers that an act has seen among them, and transactions done
-- again in
-- rising order over what stood before them.
use Rattle.std.proofs.Common.{◌≡◌, ℕ, ◌<◌, ◌≤◌, Bool, true, false, List, [], ◌∷◌, ◌++◌, ◌⊎◌, inl, inr, ⊎_elim, refl, sym, subst, ap, ◌∙◌}
use Rattle.std.proofs.Common.{arith}
use Rattle.std.specs.Prelude.{not, nat_lt, if◌then◌else◌, map}
use Rattle.std.proofs.lemmas.Bool.{cond_both, cond-true, cond-false, ltb-true, ltb-false, lt-ltb, le-ltb, not-true}
use Rattle.lu_base.specs.declared.ids.Who.{Who}
use Rattle.lu_msg.specs.declared.commits.Transaction.{Transaction}
use Rattle.lu_msg.specs.declared.operations.Op.{Op}
use Rattle.lu_msg.specs.declared.operations.Op.TheVariants as op
use Rattle.lu_part.specs.declared.parts.Part.{Part}
use Rattle.lu_part.specs.declared.parts.Part.TheVariants as part
use Rattle.lu_spec_machine.specs.Tree.{Tree}
use Rattle.lu_spec_machine.specs.Footprint.{Operation, empty, touches, writes, after, forget, Every, Same}
use Rattle.lu_spec_machine.specs.Laws.{Alike}
use Rattle.lu_spec_machine.specs.Removal.{Item, Acts, Forgets, pick, contents}
use Rattle.lu_spec_machine.specs.Seen.{meet, seen, SawKept, AllSawKept}
use Rattle.lu_spec_machine.proofs.Footprints.{every_one, same_refl, same_sym, same_trans}
use Rattle.lu_spec_machine.proofs.Removal.{empty_older}
use Rattle.lu_spec_machine.proofs.Seen.{removal_by_seen}
use Rattle.lu_spec_machine.proofs.Stated.{new_from_old, touched_decide}
use Rattle.lu_spec_entries.specs.Carried.{Deed, Contents}
use Rattle.lu_spec_target.specs.Replies.{seen_in}
use Rattle.lu_spec_target.specs.Stored.{transaction_of, operation_of, done_by, done, all_done, forgotten, last_number}
use Rattle.lu_proof_lawful.specs.Covered.TargetParts.{operation}
use Rattle.lu_proof_lawful.proofs.Preconditions.Guards.{In}
use Rattle.lu_proof_lawful.proofs.Preconditions.Lists.{in_append, in_left, in_right}
use Rattle.lu_proof_lawful.proofs.Invariants.Groups.{ItemsFall, forgetting}

-- ---- trees that hold the same: opens are in no part

pub same_forgot : (t : Tree) (who : Who) (p : Part) → Same t (forget t who) p
same_forgot t who (part.Name d n) = refl
same_forgot t who (part.List d) = refl
same_forgot t who (part.Attr f) = (refl, refl)
same_forgot t who (part.Layout f) = refl
same_forgot t who (part.Parent f) = tt
same_forgot t who (part.Bytes f stripe extent) = tt

pub forgot_same : (t : Tree) (who : Who) (p : Part) → Same (forget t who) t p
forgot_same t who p = same_sym t (forget t who) p (same_forgot t who p)

pub same_forgotten : (gone : List Who) (c : Contents) (p : Part) → Same (forgotten gone c).tree c.tree p
same_forgotten [] c p = same_refl c.tree p
same_forgotten (who ∷ gone) c p = same_trans (forgotten gone (record c { tree = forget c.tree who })).tree (forget c.tree who) c.tree p
    (same_forgotten gone (record c { tree = forget c.tree who }) p) (forgot_same c.tree who p)

pub same_forgetting : (osts : ℕ) (gone : List Who) (is : List Item) (p : Part)
    → Same (contents osts empty (forgetting gone is)) (contents osts empty is) p
same_forgetting osts [] is p = same_refl (contents osts empty is) p
same_forgetting osts (who ∷ gone) is p =
    same_trans (contents osts empty (forgetting gone (Forgets who ∷ is))) (forget (contents osts empty is) who) (contents osts empty is) p
    (same_forgetting osts gone (Forgets who ∷ is) p) (forgot_same (contents osts empty is) who p)

-- what is the same stays so through an act
pub same_after : (osts : ℕ) (t u : Tree) (a : Operation) → ((p : Part) → Same t u p) → (p : Part) → Same (after osts t a) (after osts u a) p
same_after osts t u a h p = new_from_old osts t u a p (every_one (Same t u) (touches osts t a) h) (h p)

pub alike_same : (osts : ℕ) (t u : Tree) (a : Operation) → ((p : Part) → Same t u p) → Alike osts t u a
alike_same osts t u a h = touched_decide osts t u a (every_one (Same t u) (touches osts t a) h)

-- ---- acts among items

pub same_act : (b a : Operation) → Acts b ≡ Acts a → b ≡ a
same_act b a e = cc

pub picked_in : (keep : ℕ → Bool) (a : Operation) (is : List Item) → In (Acts a) (pick keep is) → In (Acts a) is × (keep a.number.0 ≡ true)
picked_in keep a [] i = absurd i
picked_in keep a (Acts b ∷ is) i =
    cond_both (keep b.number.0) (Acts b ∷ pick keep is) (pick keep is)
    (λ (js : List Item). In (Acts a) js → In (Acts a) (Acts b ∷ is) × (keep a.number.0 ≡ true))
    (λ t j. ⊎_elim
    (λ (e : Acts b ≡ Acts a). (inl e, subst (λ (x : Operation). keep x.number.0 ≡ true) (same_act b a e) t))
    (λ (k : In (Acts a) (pick keep is)). let r = picked_in keep a is k in (inr r.0, r.1)) j)
    (λ t j. let r = picked_in keep a is j in (inr r.0, r.1))
    i
picked_in keep a (Forgets who ∷ is) (inl e) = absurd (cc)
picked_in keep a (Forgets who ∷ is) (inr i) = let r = picked_in keep a is i in (inr r.0, r.1)

pub in_picked : (keep : ℕ → Bool) (a : Operation) (is : List Item) → In (Acts a) is → keep a.number.0 ≡ true → In (Acts a) (pick keep is)
in_picked keep a [] i t = absurd i
in_picked keep a (Acts b ∷ is) (inl e) t =
    subst (λ (js : List Item). In (Acts a) js) (sym (cond-true (keep b.number.0) (Acts b ∷ pick keep is) (pick keep is)
    (ap (λ (x : Operation). keep x.number.0) (same_act b a e) ∙ t))) (inl e)
in_picked keep a (Acts b ∷ is) (inr i) t = cond_both (keep b.number.0) (Acts b ∷ pick keep is) (pick keep is)
    (λ (js : List Item). In (Acts a) js) (λ s. inr (in_picked keep a is i t)) (λ s. in_picked keep a is i t)
in_picked keep a (Forgets who ∷ is) (inl e) t = absurd (cc)
in_picked keep a (Forgets who ∷ is) (inr i) t = inr (in_picked keep a is i t)

pub forgetting_in : (gone : List Who) (a : Operation) (is : List Item) → In (Acts a) (forgetting gone is) → In (Acts a) is
forgetting_in [] a is i = i
forgetting_in (who ∷ gone) a is i = ⊎_elim (λ (e : Forgets who ≡ Acts a). absurd (cc)) (λ (j : In (Acts a) is). j)
    (forgetting_in gone a (Forgets who ∷ is) i)

pub in_forgetting : (gone : List Who) (a : Operation) (is : List Item) → In (Acts a) is → In (Acts a) (forgetting gone is)
in_forgetting [] a is i = i
in_forgetting (who ∷ gone) a is i = in_forgetting gone a (Forgets who ∷ is) (inr i)

pub fall_picked : (keep : ℕ → Bool) (is : List Item) → ItemsFall is → ItemsFall (pick keep is)
fall_picked keep [] f = tt
fall_picked keep (Acts a ∷ is) f =
    cond_both (keep a.number.0) (Acts a ∷ pick keep is) (pick keep is) ItemsFall
    (λ t. ((λ b i. f.0 b (picked_in keep b is i).0), fall_picked keep is f.1)) (λ t. fall_picked keep is f.1)
fall_picked keep (Forgets who ∷ is) f = fall_picked keep is f

pub fall_forgetting : (gone : List Who) (is : List Item) → ItemsFall is → ItemsFall (forgetting gone is)
fall_forgetting [] is f = f
fall_forgetting (who ∷ gone) is f = fall_forgetting gone (Forgets who ∷ is) f

-- only the numbers that are there matter
pub pick_same : (f g : ℕ → Bool) (is : List Item) → ((a : Operation) → In (Acts a) is → f a.number.0 ≡ g a.number.0) → pick f is ≡ pick g is
pick_same f g [] h = refl
pick_same f g (Acts a ∷ is) h =
    let e = h a (inl refl) in
    let more = pick_same f g is (λ b i. h b (inr i)) in
    ap (λ (js : List Item). if f a.number.0 then Acts a ∷ js else js) more
    ∙ ap (λ (t : Bool). if t then Acts a ∷ pick g is else pick g is) e
pick_same f g (Forgets who ∷ is) h = ap (λ (js : List Item). Forgets who ∷ js) (pick_same f g is (λ b i. h b (inr i)))

pub pick_all : (f : ℕ → Bool) (is : List Item) → ((a : Operation) → In (Acts a) is → f a.number.0 ≡ true) → pick f is ≡ is
pick_all f [] h = refl
pick_all f (Acts a ∷ is) h = cond-true (f a.number.0) (Acts a ∷ pick f is) (pick f is) (h a (inl refl))
    ∙ ap (λ (js : List Item). Acts a ∷ js) (pick_all f is (λ b i. h b (inr i)))
pick_all f (Forgets who ∷ is) h = ap (λ (js : List Item). Forgets who ∷ js) (pick_all f is (λ b i. h b (inr i)))

-- what is taken out of fewer is taken out of all
pub pick_under : (f g : ℕ → Bool) (is : List Item) → ((n : ℕ) → f n ≡ true → g n ≡ true) → pick f (pick g is) ≡ pick f is
pick_under f g [] h = refl
pick_under f g (Acts a ∷ is) h = by (f a.number.0) (g a.number.0) refl refl (pick_under f g is h)
  where
    by : (s t : Bool) → f a.number.0 ≡ s → g a.number.0 ≡ t → pick f (pick g is) ≡ pick f is
        → pick f (if g a.number.0 then Acts a ∷ pick g is else pick g is) ≡ (if f a.number.0 then Acts a ∷ pick f is else pick f is)
    by true true p q ih = rw q (rw p (ap (λ (js : List Item). Acts a ∷ js) ih))
    by true false p q ih = let z = h a.number.0 p in absurd (cc)
    by false true p q ih = rw q (rw p ih)
    by false false p q ih = rw q (rw p ih)
pick_under f g (Forgets who ∷ is) h = ap (λ (js : List Item). Forgets who ∷ js) (pick_under f g is h)

pub pick_forgetting : (f : ℕ → Bool) (gone : List Who) (is : List Item) → pick f (forgetting gone is) ≡ forgetting gone (pick f is)
pick_forgetting f [] is = refl
pick_forgetting f (who ∷ gone) is = pick_forgetting f gone (Forgets who ∷ is)

-- ---- what was seen

pub every_of : (P : ℕ → Type 0) (ns : List ℕ) → ((n : ℕ) → In n ns → P n) → Every P ns
every_of P [] h = tt
every_of P (n ∷ ns) h = (h n (inl refl), every_of P ns (λ m i. h m (inr i)))

-- a number that was seen is that of an act before, which wrote what is touched
pub seen_act : (osts : ℕ) (is : List Item) (ps : List Part) (n : ℕ) → In n (seen osts (contents osts empty) is ps) → (a : Operation)
    × In (Acts a) is × (a.number.0 ≡ n)
seen_act osts [] ps n i = absurd i
seen_act osts (Forgets who ∷ is) ps n i = let r = seen_act osts is ps n i in (r.0, inr r.1, r.2)
seen_act osts (Acts a ∷ is) ps n i = by (meet (writes osts (contents osts empty is) a) ps) i (seen_act osts is ps n)
  where
    by : (t : Bool) → In n (if t then a.number.0 ∷ seen osts (contents osts empty) is ps else seen osts (contents osts empty) is ps)
        → (In n (seen osts (contents osts empty) is ps) → (b : Operation) × In (Acts b) is × (b.number.0 ≡ n)) → (b : Operation)
        × In (Acts b) (Acts a ∷ is) × (b.number.0 ≡ n)
    by true (inl e) more = (a, inl refl, e)
    by true (inr j) more = let r = more j in (r.0, inr r.1, r.2)
    by false j more = let r = more j in (r.0, inr r.1, r.2)

-- what touched only what stays does the same once others are taken out; then it has seen of what stays what it saw before
module _ (osts : ℕ) (keep : ℕ → Bool) (root : keep 1 ≡ true) where
  pub alike_picked : (is : List Item) (a : Operation) → AllSawKept osts (contents osts empty) keep is
      → SawKept osts (contents osts empty) keep is a → Alike osts (contents osts empty is) (contents osts empty (pick keep is)) a
  alike_picked is a all one = removal_by_seen osts empty keep root (empty_older keep) is all a one

  pub seen_picked : (is : List Item) (ps : List Part) (n : ℕ) → AllSawKept osts (contents osts empty) keep is
      → In n (seen osts (contents osts empty) (pick keep is) ps) → In n (seen osts (contents osts empty) is ps)
  seen_picked [] ps n all i = absurd i
  seen_picked (Forgets who ∷ is) ps n all i = seen_picked is ps n all i
  seen_picked (Acts a ∷ is) ps n all i = by (keep a.number.0) refl i (λ j. seen_picked is ps n all.1 j)
    where
      more : (t : Bool) → In n (seen osts (contents osts empty) is ps)
          → In n (if t then a.number.0 ∷ seen osts (contents osts empty) is ps else seen osts (contents osts empty) is ps)
      more true j = inr j
      more false j = j

      kept : (t : Bool) → (In n (seen osts (contents osts empty) (pick keep is) ps) → In n (seen osts (contents osts empty) is ps))
          → In n (if t then a.number.0 ∷ seen osts (contents osts empty) (pick keep is) ps
          else seen osts (contents osts empty) (pick keep is) ps)
          → In n (if t then a.number.0 ∷ seen osts (contents osts empty) is ps else seen osts (contents osts empty) is ps)
      kept true ih (inl e) = inl e
      kept true ih (inr j) = inr (ih j)
      kept false ih j = ih j

      by : (t : Bool) → keep a.number.0 ≡ t → In n (seen osts (contents osts empty) (if t then Acts a ∷ pick keep is else pick keep is) ps)
          → (In n (seen osts (contents osts empty) (pick keep is) ps) → In n (seen osts (contents osts empty) is ps))
          → In n (seen osts (contents osts empty) (Acts a ∷ is) ps)
      by true e j ih =
          let w = (alike_picked is a all.1 (all.0 e)).writes in
          kept (meet (writes osts (contents osts empty is) a) ps) ih
          (subst (λ ws. In n (if meet ws ps then a.number.0 ∷ seen osts (contents osts empty) (pick keep is) ps
          else seen osts (contents osts empty) (pick keep is) ps)) (sym w) j)
      by false e j ih = more (meet (writes osts (contents osts empty is) a) ps) (ih j)

-- the numbers of a log that wrote what is touched
pub in_seen : (ps : List Part) (log : List Deed) (d : Deed) → In d log → meet d.writes ps ≡ true → In d.reply.txn.0 (seen_in ps log)
in_seen ps [] d i t = absurd i
in_seen ps (e ∷ log) d (inl q) t =
    subst (λ (x : Deed). In d.reply.txn.0 (if meet x.writes ps then x.reply.txn.0 ∷ seen_in ps log else seen_in ps log)) (sym q)
    (subst (λ (ns : List ℕ). In d.reply.txn.0 ns) (sym (cond-true (meet d.writes ps) (d.reply.txn.0 ∷ seen_in ps log) (seen_in ps log) t))
    (inl refl))
in_seen ps (e ∷ log) d (inr i) t =
    cond_both (meet e.writes ps) (e.reply.txn.0 ∷ seen_in ps log) (seen_in ps log) (λ (ns : List ℕ). In d.reply.txn.0 ns)
    (λ s. inr (in_seen ps log d i t)) (λ s. in_seen ps log d i t)

pub seen_in_log : (ps : List Part) (log : List Deed) (n : ℕ) → In n (seen_in ps log) → (d : Deed) × In d log × (d.reply.txn.0 ≡ n)
seen_in_log ps [] n i = absurd i
seen_in_log ps (e ∷ log) n i =
    cond_both (meet e.writes ps) (e.reply.txn.0 ∷ seen_in ps log) (seen_in ps log)
    (λ (ns : List ℕ). In n ns → (d : Deed) × In d (e ∷ log) × (d.reply.txn.0 ≡ n))
    (λ t j. ⊎_elim (λ (q : e.reply.txn.0 ≡ n). (e, inl refl, q))
    (λ (k : In n (seen_in ps log)). let r = seen_in_log ps log n k in (r.0, inr r.1, r.2)) j)
    (λ t j. let r = seen_in_log ps log n j in (r.0, inr r.1, r.2))
    i

-- ---- transactions done again

abbrev pub all_ops : (osts : ℕ) → List Operation → Tree → Tree
all_ops osts [] t = t
all_ops osts (a ∷ ops) t = all_ops osts ops (after osts t a)

ops_last : (osts : ℕ) (ops : List Operation) (a : Operation) (t : Tree) → all_ops osts (ops ++ a ∷ []) t ≡ after osts (all_ops osts ops t) a
ops_last osts [] a t = refl
ops_last osts (b ∷ ops) a t = ops_last osts ops a (after osts t b)

done_tree : (osts : ℕ) (c : Contents) (t : Transaction) → (done osts c t).tree ≡ after osts c.tree (operation_of t)
done_tree osts c t = by t.op
  where
    by : (o : Op) → (done_by osts (record t { op = o }) c o).tree ≡ after osts c.tree (operation_of (record t { op = o }))
    by (op.Put r cookie offset bytes) = refl
    by (op.Cut r cookie size) = refl
    by _ = refl

pub all_done_tree : (osts : ℕ) (ts : List Transaction) (c : Contents) → (all_done osts ts c).tree
    ≡ all_ops osts (map {A = Transaction} {B = Operation} operation_of ts) c.tree
all_done_tree osts [] c = refl
all_done_tree osts (t ∷ ts) c = all_done_tree osts ts (done osts c t)
    ∙ ap (all_ops osts (map {A = Transaction} {B = Operation} operation_of ts)) (done_tree osts c t)

pub deed_operations : (ds : List Deed) → map {A = Transaction} {B = Operation} operation_of
    (map {A = Deed} {B = Transaction} transaction_of ds) ≡ map {A = Deed} {B = Operation} operation ds
deed_operations [] = refl
deed_operations (d ∷ ds) = ap (λ (ops : List Operation). operation d ∷ ops) (deed_operations ds)

-- the acts above a number, in rising order
abbrev pub fresh_ops : (c : ℕ) → List Item → List Operation
fresh_ops c [] = []
fresh_ops c (Acts a ∷ is) = if nat_lt c a.number.0 then fresh_ops c is ++ a ∷ [] else fresh_ops c is
fresh_ops c (Forgets who ∷ is) = fresh_ops c is

pub in_fresh : (c : ℕ) (is : List Item) (a : Operation) → In (Acts a) is → c < a.number.0 → In a (fresh_ops c is)
in_fresh c [] a i lt = absurd i
in_fresh c (Acts b ∷ is) a (inl e) lt =
    subst (λ (x : Operation). In a (if nat_lt c x.number.0 then fresh_ops c is ++ x ∷ [] else fresh_ops c is)) (sym (same_act b a e))
    (subst (λ (ops : List Operation). In a ops) (sym (cond-true (nat_lt c a.number.0) (fresh_ops c is ++ a ∷ []) (fresh_ops c is)
    (lt-ltb c a.number.0 lt))) (in_right a (fresh_ops c is) (a ∷ []) (inl refl)))
in_fresh c (Acts b ∷ is) a (inr i) lt =
    cond_both (nat_lt c b.number.0) (fresh_ops c is ++ b ∷ []) (fresh_ops c is) (λ (ops : List Operation). In a ops)
    (λ t. in_left a (fresh_ops c is) (b ∷ []) (in_fresh c is a i lt)) (λ t. in_fresh c is a i lt)
in_fresh c (Forgets who ∷ is) a (inl e) lt = absurd (cc)
in_fresh c (Forgets who ∷ is) a (inr i) lt = in_fresh c is a i lt

pub fresh_in : (c : ℕ) (is : List Item) (a : Operation) → In a (fresh_ops c is) → In (Acts a) is × (c < a.number.0)
fresh_in c [] a i = absurd i
fresh_in c (Acts b ∷ is) a i =
    cond_both (nat_lt c b.number.0) (fresh_ops c is ++ b ∷ []) (fresh_ops c is)
    (λ (ops : List Operation). In a ops → In (Acts a) (Acts b ∷ is) × (c < a.number.0))
    (λ t j. ⊎_elim
    (λ (k : In a (fresh_ops c is)). let r = fresh_in c is a k in (inr r.0, r.1))
    (λ (k : In a (b ∷ [])). ⊎_elim (λ (e : b ≡ a). (
      inl (ap (λ (x : Operation). Acts x) e),
      subst (λ (x : Operation). c < x.number.0) e (ltb-true c b.number.0 t),
    )) (λ (z : ⊥). absurd z) k)
    (in_append a (fresh_ops c is) (b ∷ []) j))
    (λ t j. let r = fresh_in c is a j in (inr r.0, r.1))
    i
fresh_in c (Forgets who ∷ is) a i = let r = fresh_in c is a i in (inr r.0, r.1)

abbrev pub OpsRise : List Operation → Type 0
OpsRise [] = Unit {0}
OpsRise (a ∷ ops) = ((b : Operation) → In b ops → a.number.0 < b.number.0) × OpsRise ops

rise_last : (ops : List Operation) (a : Operation) → OpsRise ops → ((b : Operation) → In b ops → b.number.0 < a.number.0)
    → OpsRise (ops ++ a ∷ [])
rise_last [] a r h = ((λ b i. absurd i), tt)
rise_last (b ∷ ops) a r h = (
  (λ c i. ⊎_elim (λ (j : In c ops). r.0 c j) (λ (j : In c (a ∷ [])). ⊎_elim
      (λ (e : a ≡ c). subst (λ (x : Operation). b.number.0 < x.number.0) e (h b (inl refl))) (λ (z : ⊥). absurd z) j)
      (in_append c ops (a ∷ []) i)),
  rise_last ops a r.1 (λ c i. h c (inr i)),
)

pub fresh_rise : (c : ℕ) (is : List Item) → ItemsFall is → OpsRise (fresh_ops c is)
fresh_rise c [] f = tt
fresh_rise c (Acts a ∷ is) f =
    cond_both (nat_lt c a.number.0) (fresh_ops c is ++ a ∷ []) (fresh_ops c is) OpsRise
    (λ t. rise_last (fresh_ops c is) a (fresh_rise c is f.1) (λ b i. f.0 b (fresh_in c is b i).0))
    (λ t. fresh_rise c is f.1)
fresh_rise c (Forgets who ∷ is) f = fresh_rise c is f

-- two rising lists of the same acts are one
pub rise_same : (ops bs : List Operation) → OpsRise ops → OpsRise bs → ((a : Operation) → In a ops → In a bs)
    → ((a : Operation) → In a bs → In a ops) → ops ≡ bs
rise_same [] [] r s f g = refl
rise_same [] (b ∷ bs) r s f g = absurd (g b (inl refl))
rise_same (a ∷ ops) [] r s f g = absurd (f a (inl refl))
rise_same (a ∷ ops) (b ∷ bs) r s f g =
    ap (λ (xs : List Operation). a ∷ xs) (rise_same ops bs r.1 s.1
    (λ x i. ⊎_elim (λ (e : b ≡ x). absurd (above ops a x r.0 i (same ∙ e))) (λ (j : In x bs). j) (f x (inr i)))
    (λ x i. ⊎_elim (λ (e : a ≡ x). absurd (above bs b x s.0 i (sym same ∙ e))) (λ (j : In x ops). j) (g x (inr i))))
    ∙ ap (λ (x : Operation). x ∷ bs) same
  where
    above : (xs : List Operation) (y x : Operation) → ((z : Operation) → In z xs → y.number.0 < z.number.0) → In x xs → y ≡ x → ⊥
    above xs y x h i e = let lt = h x i in let n : y.number.0 ≡ x.number.0 = ap (λ (z : Operation). z.number.0) e in omega arith

    same : a ≡ b
    same = ⊎_elim
        (λ (e : b ≡ a). sym e)
        (λ (i : In a bs). ⊎_elim (λ (e : a ≡ b). e) (λ (j : In b ops). let x = r.0 b j in let y = s.0 a i in absurd (omega arith))
        (g b (inl refl)))
        (f a (inl refl))

none_fresh : (c : ℕ) (is : List Item) → ((a : Operation) → In (Acts a) is → a.number.0 ≤ c) → fresh_ops c is ≡ []
none_fresh c [] h = refl
none_fresh c (Acts a ∷ is) h = cond-false (nat_lt c a.number.0) (fresh_ops c is ++ a ∷ []) (fresh_ops c is)
    (le-ltb c a.number.0 (h a (inl refl))) ∙ none_fresh c is (λ b i. h b (inr i))
none_fresh c (Forgets who ∷ is) h = none_fresh c is (λ b i. h b (inr i))

abbrev pub upto : ℕ → ℕ → Bool
upto c n = not (nat_lt c n)

pub upto_le : (c n : ℕ) → n ≤ c → upto c n ≡ true
upto_le c n le = ap not (le-ltb c n le)

pub le_upto : (c n : ℕ) → upto c n ≡ true → n ≤ c
le_upto c n t = ltb-false c n (not-true (nat_lt c n) t)

-- the acts above a number, done in rising order over what those up to it leave, leave what all leave
pub done_over : (osts c : ℕ) (t : Tree) (is : List Item) → ItemsFall is → ((p : Part) → Same (contents osts empty (pick (upto c) is)) t p)
    → (p : Part) → Same (contents osts empty is) (all_ops osts (fresh_ops c is) t) p
done_over osts c t [] f h p = h p
done_over osts c t (Forgets who ∷ is) f h p =
    same_trans (forget (contents osts empty is) who) (contents osts empty is) (all_ops osts (fresh_ops c is) t) p
    (forgot_same (contents osts empty is) who p)
    (done_over osts c t is f (λ q. same_trans (contents osts empty (pick (upto c) is)) (forget (contents osts empty (pick (upto c) is)) who)
    t q (same_forgot (contents osts empty (pick (upto c) is)) who q) (h q)) p)
done_over osts c t (Acts a ∷ is) f h p = by (nat_lt c a.number.0) refl h (λ k. done_over osts c t is f.1 k)
  where
    by : (b : Bool) → nat_lt c a.number.0 ≡ b → ((q : Part) → Same
        (contents osts empty (if not b then Acts a ∷ pick (upto c) is else pick (upto c) is)) t q)
        → (((q : Part) → Same (contents osts empty (pick (upto c) is)) t q) → (q : Part)
        → Same (contents osts empty is) (all_ops osts (fresh_ops c is) t) q)
        → Same (after osts (contents osts empty is) a) (all_ops osts (if b then fresh_ops c is ++ a ∷ [] else fresh_ops c is) t) p
    by true e k ih =
        subst (λ (u : Tree). Same (after osts (contents osts empty is) a) u p) (sym (ops_last osts (fresh_ops c is) a t))
        (same_after osts (contents osts empty is) (all_ops osts (fresh_ops c is) t) a (ih k) p)
    by false e k ih =
        let low : (b : Operation) → In (Acts b) is → b.number.0 ≤ c =
        (λ b i. let lt = f.0 b i in let le = ltb-false c a.number.0 e in omega arith) in
        subst (λ (ops : List Operation). Same (after osts (contents osts empty is) a) (all_ops osts ops t) p) (sym (none_fresh c is low))
        (subst (λ (js : List Item). Same (after osts (contents osts empty js) a) t p)
        (pick_all (upto c) is (λ b i. upto_le c b.number.0 (low b i))) (k p))

-- ---- the last of numbers

abbrev pub last_of : List ℕ → ℕ → ℕ
last_of [] n = n
last_of (m ∷ ms) n = last_of ms m

abbrev pub RiseFrom : ℕ → List ℕ → Type 0
RiseFrom n [] = Unit {0}
RiseFrom n (m ∷ ms) = (n < m) × RiseFrom m ms

pub last_top : (ms : List ℕ) (n : ℕ) → RiseFrom n ms → (n ≤ last_of ms n) × ((m : ℕ) → In m ms → m ≤ last_of ms n)
last_top [] n r = (omega arith, λ m i. absurd i)
last_top (m ∷ ms) n r =
    let ih = last_top ms m r.1 in
    let lt = r.0 in
    let le = ih.0 in
    (omega arith, λ k i. ⊎_elim (λ (e : m ≡ k). subst (λ (x : ℕ). x ≤ last_of ms m) e ih.0) (λ (j : In k ms). ih.1 k j) i)

pub last_is : (ms : List ℕ) (n : ℕ) → (last_of ms n ≡ n) ⊎ In (last_of ms n) ms
last_is [] n = inl refl
last_is (m ∷ ms) n = ⊎_elim (λ (e : last_of ms m ≡ m). inr (inl (sym e))) (λ (i : In (last_of ms m) ms). inr (inr i)) (last_is ms m)

pub last_number_is : (ts : List Transaction) (n : ℕ) → last_number ts n ≡ last_of (map {A = Transaction} {B = ℕ} (λ t. t.txn.0) ts) n
last_number_is [] n = refl
last_number_is (t ∷ ts) n = last_number_is ts t.txn.0

pub deed_numbers : (ds : List Deed) → map {A = Transaction} {B = ℕ} (λ t. t.txn.0) (map {A = Deed} {B = Transaction} transaction_of ds)
    ≡ map {A = Deed} {B = ℕ} (λ d. d.reply.txn.0) ds
deed_numbers [] = refl
deed_numbers (d ∷ ds) = ap (λ (ns : List ℕ). d.reply.txn.0 ∷ ns) (deed_numbers ds)
