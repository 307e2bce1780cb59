-- What stays of the tree when a close takes out what is lost: each part that nothing of it wrote, of an inode that nothing of it made. An
-- act looks only at
-- inodes that what it saw made, or what that saw, and so on; and the tree stays sound.
use Rattle.std.proofs.Common.{◌≡◌, ℕ, ◌+◌, ◌≤◌, Bool, true, false, List, [], ◌∷◌, ◌⊎◌, inl, inr, ⊎_elim, Option, Some, None, refl, sym}
use Rattle.std.proofs.Common.{subst, ap, ◌∙◌, arith}
use Rattle.std.specs.Prelude.{◌||◌, ◌&&◌, not, nat_eq, nat_lt, if◌then◌else◌}
use Rattle.std.specs.List.{list_any}
use Rattle.std.proofs.lemmas.Bool.{cond_both, and_parts, and_from, or_parts, or_left, or_right, not-true}
use Rattle.std.proofs.lemmas.Bool.Decides.{nat_tests}
use Rattle.lu_base.specs.declared.ids.Node.TheVariants.{Target}
use Rattle.lu_base.specs.declared.ids.Stamp.{Stamp}
use Rattle.lu_base.specs.declared.ids.Who.{Who}
use Rattle.lu_part.specs.Meets.{meets}
use Rattle.lu_part.specs.declared.parts.Part.{Part}
use Rattle.lu_part.specs.declared.parts.Part.TheVariants as part
use Rattle.lu_spec_machine.specs.declared.child.Child.{Child}
use Rattle.lu_spec_machine.specs.declared.child.Child.TheVariants.{Dir, File}
use Rattle.lu_spec_machine.specs.Tree.{Tree, fid_of, child, listing, attributes, layout}
use Rattle.lu_spec_machine.specs.Plan.{Plan, Refuse, Do, LookName, LookList, LookAttr, LookLayout, looked}
use Rattle.lu_spec_machine.specs.Table.{plan}
use Rattle.lu_spec_machine.specs.Footprint.{Operation, Same, Every, Apart, inode_of, empty, touches, writes}
use Rattle.lu_spec_machine.specs.Laws.{Alike, AllKept}
use Rattle.lu_spec_machine.specs.Removal.{Item, Acts, Forgets, pick, contents, Clear, Free}
use Rattle.lu_spec_machine.specs.Seen.{meet, seen}
use Rattle.lu_spec_machine.proofs.Footprints.{every_one, same_refl, same_sym, same_trans}
use Rattle.lu_spec_machine.proofs.Knows.{IsKnown, Knows, plan_knows}
use Rattle.lu_spec_machine.proofs.Outcomes.{IsReached}
use Rattle.lu_spec_machine.proofs.Removal.{Views, removal_agrees, empty_older, earlier_are_older}
use Rattle.lu_spec_machine.proofs.Stated.{touched_decide}
use Rattle.lu_spec_entries.specs.Carried.{Deed, Outcome}
use Rattle.lu_spec_entries.specs.Words.{Close, Line, line}
use Rattle.lu_spec_target.specs.Lives.{lives_of as lives_in}
use Rattle.lu_spec_target.specs.Phase.{first_of}
use Rattle.lu_proof_lawful.specs.Covered.TargetStates.{server_of, seen_in}
use Rattle.lu_spec_target.specs.Windows.{has_number}
use Rattle.lu_proof_lawful.specs.Covered.TargetCloses.{kept_numbers, is_lost, loses}
use Rattle.lu_proof_lawful.specs.Covered.Heads.{Head}
use Rattle.lu_proof_lawful.proofs.Preconditions.Guards.{In}
use Rattle.lu_proof_lawful.proofs.Preconditions.ClientLines.{IsNames}
use Rattle.lu_proof_lawful.proofs.Invariants.Groups.{turn, ItemOk, AllItems, forgetting, items_of, History, HoldsAt}
use Rattle.lu_proof_lawful.proofs.Invariants.TargetGroups.{Acted, IsMade, Stands}
use Rattle.lu_proof_lawful.proofs.Invariants.ItemLines.{names_or, meet_none}
use Rattle.lu_proof_lawful.proofs.Invariants.ItemLists.{same_forgot, pick_same, in_seen}
use Rattle.lu_proof_lawful.proofs.Invariants.OverItems.{item_in, over_now}
use Rattle.lu_proof_lawful.proofs.Invariants.FactsStay.{IsSound, sound_empty, sound_after, sound_forget}

-- ---- lists

pub in_every : {A : Type 0} (P : A → Type 0) (xs : List A) → ((x : A) → In x xs → P x) → Every P xs
in_every P [] h = tt
in_every P (x ∷ xs) h = (h x (inl refl), in_every P xs (λ y i. h y (inr i)))

-- a part meets none of these, or one
pub meets_or : (ws : List Part) (p : Part) → Apart ws p ⊎ (list_any (λ w. meets w p) ws ≡ true)
meets_or [] p = inl tt
meets_or (w ∷ ws) p = by (meets w p) refl (meets_or ws p)
  where
    by : (b : Bool) → meets w p ≡ b → Apart ws p ⊎ (list_any (λ w. meets w p) ws ≡ true) → Apart (w ∷ ws) p
        ⊎ ((b || list_any (λ w. meets w p) ws) ≡ true)
    by true e h = inr refl
    by false e (inl a) = inl (e, a)
    by false e (inr q) = inr q

pub meet_one : (ws ps : List Part) (p : Part) → In p ps → list_any (λ w. meets w p) ws ≡ true → meet ws ps ≡ true
meet_one ws [] p i e = absurd i
meet_one ws (q ∷ ps) p (inl s) e = or_left (list_any (λ w. meets w q) ws) (meet ws ps)
    (ap (λ (x : Part). list_any (λ w. meets w x) ws) s ∙ e)
meet_one ws (q ∷ ps) p (inr i) e = or_right (list_any (λ w. meets w q) ws) (meet ws ps) (meet_one ws ps p i e)

-- ---- numbers that are kept

-- the root's, the committed ones, and all that those of them saw that stand
pub record Closed (osts : ℕ) (past : List Line) (keep : ℕ → Bool) : Type 0 where
  pub root : keep 1 ≡ true
  pub low : (n : ℕ) → n ≤ (server_of osts past).committed.0 → keep n ≡ true
  pub saw : (e : Deed) → Acted past e → IsMade e → Stands osts past e → keep e.reply.txn.0 ≡ true → (n : ℕ) → In n e.reply.seen → keep n
      ≡ true

abbrev pub AllSaw : (ℕ → Bool) → Deed → Type 0
AllSaw keep d = (n : ℕ) → In n d.reply.seen → keep n ≡ true

-- with what the deed saw, the inode of that part is kept
abbrev pub OfKept : ℕ → List Line → Deed → Part → Type 0
OfKept osts past d p = (keep : ℕ → Bool) → Closed osts past keep → AllSaw keep d → keep (inode_of p).0 ≡ true

-- nothing that stands wrote what the part is of, but what is committed or was seen
abbrev pub Saw : ℕ → List Line → Deed → Part → Type 0
Saw osts past d p = (e : Deed) → Acted past e → IsMade e → Stands osts past e → Apart e.writes p
    ⊎ ((e.reply.txn.0 ≤ (server_of osts past).committed.0) ⊎ In e.reply.txn.0 d.reply.seen)

-- ---- what is taken out of the items leaves the others as they are

abbrev KeptChild : (ℕ → Bool) → Child → Type 0
KeptChild keep c = keep (fid_of c).0 ≡ true

kept_all : (keep : ℕ → Bool) (is : List Item) → AllKept keep (pick keep is)
kept_all keep [] = tt
kept_all keep (Acts a ∷ is) = cond_both (keep a.number.0) (Acts a ∷ pick keep is) (pick keep is) (λ (js : List Item). AllKept keep js)
    (λ e. (e, kept_all keep is)) (λ e. kept_all keep is)
kept_all keep (Forgets who ∷ is) = kept_all keep is

known_one : (K : Child → Type 0) (o : Option Child) → ((c : Child) → o ≡ Some c → K c) → IsKnown K o
known_one K None h = tt
known_one K (Some c) h = h c refl

-- what is looked at is of inodes that are kept
looked_kept : (keep : ℕ → Bool) (A : Part → Type 0) (t u : Tree) → Views (KeptChild keep) A t u → (p : Plan) → Knows (KeptChild keep) p
    → Every A (looked t p) → (q : Part) → In q (looked t p) → keep (inode_of q).0 ≡ true
looked_kept keep A t u v (Refuse e) k h q i = absurd i
looked_kept keep A t u v (Do _ grants changes) k h q i = absurd i
looked_kept keep A t u v (LookName d n next) k h q (inl e) = subst (λ (x : Part). keep (inode_of x).0 ≡ true) e k.0
looked_kept keep A t u v (LookName d n next) k h q (inr i) =
    looked_kept keep A t u v (next (child t d n)) (k.1 (child t d n)
    (known_one (KeptChild keep) (child t d n) (λ c e. v.older d n c (sym (v.name d n h.0 k.0) ∙ e)))) h.1 q i
looked_kept keep A t u v (LookList d next) k h q (inl e) = subst (λ (x : Part). keep (inode_of x).0 ≡ true) e k.0
looked_kept keep A t u v (LookList d next) k h q (inr i) = looked_kept keep A t u v (next (listing t d)) (k.1 (listing t d)) h.1 q i
looked_kept keep A t u v (LookAttr c next) k h q (inl e) = subst (λ (x : Part). keep (inode_of x).0 ≡ true) e k.0
looked_kept keep A t u v (LookAttr c next) k h q (inr i) = looked_kept keep A t u v (next (attributes t c)) (k.1 (attributes t c)) h.1 q i
looked_kept keep A t u v (LookLayout f next) k h q (inl e) = subst (λ (x : Part). keep (inode_of x).0 ≡ true) e k.0
looked_kept keep A t u v (LookLayout f next) k h q (inr i) = looked_kept keep A t u v (next (layout t f)) (k.1 (layout t f)) h.1 q i

module _ (osts : ℕ) (past : List Line) (keep : ℕ → Bool) (k : Closed osts past keep) where
  abbrev left : List Item → Tree
  left is = contents osts empty is

  -- what an act looks at, that saw only what is kept, nothing wrote that isn't
  clear_one : (is : List Item) (ps : List Part) → ((n : ℕ) → In n (seen osts (contents osts empty) is ps) → keep n ≡ true) → (p : Part)
      → In p ps → Clear osts empty keep is p
  clear_one [] ps h p i = tt
  clear_one (Forgets who ∷ is) ps h p i = clear_one is ps h p i
  clear_one (Acts a ∷ is) ps h p i = (first, clear_one is ps rest p i)
    where
      ws : List Part
      ws = writes osts (contents osts empty is) a

      old : List ℕ
      old = seen osts (contents osts empty) is ps

      rest : (n : ℕ) → In n old → keep n ≡ true
      rest n j = h n (cond_both (meet ws ps) (a.number.0 ∷ old) old (λ (ns : List ℕ). In n ns) (λ _. inr j) (λ _. j))

      met : list_any (λ w. meets w p) ws ≡ true → keep a.number.0 ≡ true
      met m = h a.number.0 (subst (λ (b : Bool). In a.number.0 (if b then a.number.0 ∷ old else old)) (sym (meet_one ws ps p i m))
          (inl refl))

      first : keep a.number.0 ≡ false → Apart ws p
      first gone = ⊎_elim (λ (x : Apart ws p). x) (λ (m : list_any (λ w. meets w p) ws ≡ true). absurd (let kept = met m in cc))
          (meets_or ws p)

  saw_item : (is : List Item) (a : Operation) → ItemOk osts past is a → keep a.number.0 ≡ true → (n : ℕ)
      → In n (seen osts (contents osts empty) is (touches osts (contents osts empty is) a)) → keep n ≡ true
  saw_item is a ok kept n i =
      ⊎_elim
      (λ (le : n ≤ (server_of osts past).committed.0). k.low n le)
      (λ (j : In n ok.deed.reply.seen). k.saw ok.deed ok.acted ok.made ok.stands
      (ap (λ (x : Operation). keep x.number.0) ok.operates ∙ kept) n j)
      (ok.saw n i)

  pub free : (is : List Item) → AllItems osts past is → Free osts empty keep is
  free [] all = tt
  free (Acts a ∷ is) all = (
    λ kept. in_every (Clear osts empty keep is) (touches osts (contents osts empty is) a)
        (clear_one is (touches osts (contents osts empty is) a) (saw_item is a all.0 kept)),
    free is all.1,
  )
  free (Forgets who ∷ is) all = free is all

  -- a part that nothing of what isn't kept wrote
  clear_by : (is : List Item) → AllItems osts past is → (p : Part)
      → ((e : Deed) → Acted past e → IsMade e → Stands osts past e → keep e.reply.txn.0 ≡ false → Apart e.writes p)
      → Clear osts empty keep is p
  clear_by [] all p h = tt
  clear_by (Acts a ∷ is) all p h = (
    λ gone. ⊎_elim
        (λ (names : IsNames a.op). subst (λ (ws : List Part). Apart ws p) (all.0.wrote names)
        (h all.0.deed all.0.acted all.0.made all.0.stands (ap (λ (x : Operation). keep x.number.0) all.0.operates ∙ gone)))
        (λ (none : writes osts (contents osts empty is) a ≡ []). subst (λ (ws : List Part). Apart ws p) (sym none) tt)
        (names_or osts (contents osts empty is) a.number a.who a.op),
    clear_by is all.1 p h,
  )
  clear_by (Forgets who ∷ is) all p h = clear_by is all p h

  pub agrees : (is : List Item) → AllItems osts past is → (p : Part)
      → ((e : Deed) → Acted past e → IsMade e → Stands osts past e → keep e.reply.txn.0 ≡ false → Apart e.writes p) → keep (inode_of p).0
      ≡ true
      → Same (contents osts empty is) (contents osts empty (pick keep is)) p
  agrees is all p h own = removal_agrees osts empty keep k.root (empty_older keep) is (free is all) p (clear_by is all p h) own

  views : (is : List Item) → AllItems osts past is → Views (KeptChild keep) (Clear osts empty keep is) (contents osts empty is)
      (contents osts empty (pick keep is))
  views is all =
      record {
        name = λ d n a q. same (part.Name d n) a q;
        list = λ d a q. same (part.List d) a q;
        attr = same_attr;
        layout = λ f a q. same (part.Layout f) a q;
        older = earlier_are_older osts keep k.root (pick keep is) (kept_all keep is);
      }
    where
      same : (p : Part) → Clear osts empty keep is p → keep (inode_of p).0 ≡ true
          → Same (contents osts empty is) (contents osts empty (pick keep is)) p
      same p c q = removal_agrees osts empty keep k.root (empty_older keep) is (free is all) p c q

      same_attr : (c : Child) → Clear osts empty keep is (part.Attr (fid_of c)) → KeptChild keep c → attributes (contents osts empty is) c
          ≡ attributes (contents osts empty (pick keep is)) c
      same_attr (Dir d) a q = (same (part.Attr d) a q).0
      same_attr (File f) a q = (same (part.Attr f) a q).1

  -- what an act looks at that saw only what is kept
  looks_kept : (is : List Item) → AllItems osts past is → (a : Operation)
      → ((n : ℕ) → In n (seen osts (contents osts empty) is (touches osts (contents osts empty is) a)) → keep n ≡ true) → (p : Part)
      → In p (touches osts (contents osts empty is) a) → keep (inode_of p).0 ≡ true
  looks_kept is all a saw p i =
      looked_kept keep (Clear osts empty keep is) (contents osts empty is) (contents osts empty (pick keep is)) (views is all)
      (plan osts a.number a.who a.op) (plan_knows (KeptChild keep) k.root osts a.number a.who a.op)
      (in_every (Clear osts empty keep is) (touches osts (contents osts empty is) a)
      (clear_one is (touches osts (contents osts empty is) a) saw)) p i

-- ---- an act over the tree

module _ (osts clients : ℕ) (past : List Line) (h : History osts clients past) where
  -- what of the items wrote what is touched is committed, or in the log, and seen
  seen_known : (is : List Item) → AllItems osts past is → (ps : List Part) (n : ℕ) → In n (seen osts (contents osts empty) is ps)
      → (n ≤ (server_of osts past).committed.0) ⊎ In n (seen_in ps (server_of osts past).log)
  seen_known [] all ps n i = absurd i
  seen_known (Forgets who ∷ is) all ps n i = seen_known is all ps n i
  seen_known (Acts a ∷ is) all ps n i = by (meet ws ps) refl i (seen_known is all.1 ps n)
    where
      ws : List Part
      ws = writes osts (contents osts empty is) a

      old : List ℕ
      old = seen osts (contents osts empty) is ps

      number : all.0.deed.reply.txn.0 ≡ a.number.0
      number = ap (λ (x : Operation). x.number.0) all.0.operates

      own_names : IsNames a.op → meet ws ps ≡ true → (a.number.0 ≤ (server_of osts past).committed.0)
          ⊎ In a.number.0 (seen_in ps (server_of osts past).log)
      own_names names m =
          ⊎_elim
          (λ (j : In all.0.deed (server_of osts past).log). inr
          (subst (λ (x : ℕ). In x (seen_in ps (server_of osts past).log)) number
          (in_seen ps (server_of osts past).log all.0.deed j (ap (λ (x : List Part). meet x ps) (all.0.wrote names) ∙ m))))
          (λ (le : all.0.deed.reply.txn.0 ≤ (server_of osts past).committed.0). inl (omega (arith, le, number)))
          (h.logged all.0.deed all.0.acted all.0.made all.0.stands)

      own : meet ws ps ≡ true → (a.number.0 ≤ (server_of osts past).committed.0) ⊎ In a.number.0 (seen_in ps (server_of osts past).log)
      own m = ⊎_elim
          (λ (names : IsNames a.op). own_names names m)
          (λ (none : writes osts (contents osts empty is) a ≡ []). absurd
          (let out = ap (λ (x : List Part). meet x ps) none ∙ meet_none ps in cc))
          (names_or osts (contents osts empty is) a.number a.who a.op)

      Known : Type 0
      Known = (n ≤ (server_of osts past).committed.0) ⊎ In n (seen_in ps (server_of osts past).log)

      by : (b : Bool) → meet ws ps ≡ b → In n (if b then a.number.0 ∷ old else old) → (In n old → Known) → Known
      by true m (inl e) ih = subst (λ (x : ℕ). (x ≤ (server_of osts past).committed.0) ⊎ In x (seen_in ps (server_of osts past).log)) e
          (own m)
      by true m (inr j) ih = ih j
      by false m j ih = ih j

  abbrev now : Tree
  now = contents osts empty (items_of osts past)

  same_now : (a : Operation) → Alike osts now (server_of osts past).tree a
  same_now a = touched_decide osts now (server_of osts past).tree a
      (every_one (Same now (server_of osts past).tree) (touches osts now a) h.tree)

  -- where all is kept that it saw of the log, each inode is that it looks at
  pub act_kept : (a : Operation) (keep : ℕ → Bool) → Closed osts past keep
      → ((n : ℕ) → In n (seen_in (touches osts (server_of osts past).tree a) (server_of osts past).log) → keep n ≡ true) → (p : Part)
      → In p (touches osts (server_of osts past).tree a) → keep (inode_of p).0 ≡ true
  act_kept a keep k saw p i =
      looks_kept osts past keep k (items_of osts past) h.items a
      (λ n j. ⊎_elim
      (λ (le : n ≤ (server_of osts past).committed.0). k.low n le)
      (λ (m : In n (seen_in (touches osts now a) (server_of osts past).log)). saw n
      (subst (λ (ps : List Part). In n (seen_in ps (server_of osts past).log)) (same_now a).touches m))
      (seen_known (items_of osts past) h.items (touches osts now a) n j))
      p (subst (λ (ps : List Part). In p ps) (sym (same_now a).touches) i)

  -- what of the log wrote what it looks at is seen
  pub act_saw : (a : Operation) (p : Part) → In p (touches osts (server_of osts past).tree a) → (e : Deed) → Acted past e → IsMade e
      → Stands osts past e
      → Apart e.writes p ⊎ ((e.reply.txn.0 ≤ (server_of osts past).committed.0)
      ⊎ In e.reply.txn.0 (seen_in (touches osts (server_of osts past).tree a) (server_of osts past).log))
  act_saw a p i e b m s =
      ⊎_elim
      (λ (j : In e (server_of osts past).log). ⊎_elim (λ (x : Apart e.writes p). inl x)
      (λ (x : list_any (λ w. meets w p) e.writes ≡ true). inr
      (inr (in_seen (touches osts (server_of osts past).tree a) (server_of osts past).log e j
      (meet_one e.writes (touches osts (server_of osts past).tree a) p i x)))) (meets_or e.writes p))
      (λ (le : e.reply.txn.0 ≤ (server_of osts past).committed.0). inr (inl le))
      (h.logged e b m s)

-- ---- what the items leave is sound

pub sound_wide : (t : Tree) (bound wide : ℕ) → bound ≤ wide → IsSound t bound → IsSound t wide
sound_wide t bound wide le h = record {
  least = let x = h.least in omega (arith, x, le);
  low = λ d n c e. let x = h.low d n c e
      in omega (arith, x, le);
  one = h.one;
}

-- what holds the same names is
pub sound_same : (t u : Tree) (bound : ℕ) → ((p : Part) → Same t u p) → IsSound t bound → IsSound u bound
sound_same t u bound s h = record {
  least = h.least;
  low = λ d n c e. h.low d n c (s (part.Name d n) ∙ e);
  one =
      λ c b r q e. h.one c b (reached c r) (reached b q) e;
}
  where
    reached : (c : Child) → IsReached u c → IsReached t c
    reached c (inl e) = inl e
    reached c (inr p) = inr (p.0, (p.1.0, s (part.Name p.0 p.1.0) ∙ p.1.1))

-- so is the tree
pub sound_now : (head : Head) (past : List Line) → HoldsAt head past
    → IsSound (server_of head.osts past).tree (first_of (server_of head.osts past).boot + (server_of head.osts past).count)
sound_now head past h =
    sound_same (contents head.osts empty (items_of head.osts past)) (server_of head.osts past).tree
    (first_of (server_of head.osts past).boot + (server_of head.osts past).count) h.history.tree
    (over_now head past (λ n t. IsSound t n) sound_empty (λ is a n ok lt k. sound_after head.osts (contents head.osts empty is) a n lt k)
    (λ n t who k. sound_forget t who n k) (λ n m t le k. sound_wide t n m le k) h)

-- ---- a close

same_forgetting : (osts : ℕ) (gone : List Who) (is : List Item) (p : Part)
    → Same (contents osts empty is) (contents osts empty (forgetting gone is)) p
same_forgetting osts [] is p = same_refl (contents osts empty is) p
same_forgetting osts (who ∷ gone) is p =
    same_trans (contents osts empty is) (contents osts empty (Forgets who ∷ is)) (contents osts empty (forgetting gone (Forgets who ∷ is)))
    p
    (same_forgot (contents osts empty is) who p) (same_forgetting osts gone (Forgets who ∷ is) p)

module _ (head : Head) (past : List Line) (stamp : Stamp) (t : ℕ) (o : Outcome) (h : HoldsAt head past)
    (next : HoldsAt head (line (turn stamp (Target t)) (Close o) ∷ past)) where
  abbrev closing : List Line
  closing = line (turn stamp (Target t)) (Close o) ∷ past

  -- what the close doesn't lose; no transaction has the root's number
  abbrev pub stays : ℕ → Bool
  stays n = nat_eq n 1 || not (loses (server_of head.osts past).committed.0 o n)

  above_one : (e : Deed) → Acted past e → IsMade e → nat_eq e.reply.txn.0 1 ≡ false
  above_one e a m = let high = (h.done.numbers e a m).0 in let boot = (h.done.boots e a).0 in grind (arith, nat_tests, high, boot)

  -- it doesn't lose what stands after it
  pub not_lost : (n : ℕ) → is_lost head.osts closing n ≡ false → stays n ≡ true
  not_lost n e = or_right (nat_eq n 1) (not (loses (server_of head.osts past).committed.0 o n))
      (ap not (or_parts (is_lost head.osts past n) (loses (server_of head.osts past).committed.0 o n) e).1)

  stood : (e : Deed) → Acted past e → IsMade e → Stands head.osts past e → stays e.reply.txn.0 ≡ true → Stands head.osts closing e
  stood e a m s k =
      ap (λ (b : Bool). b || loses (server_of head.osts past).committed.0 o e.reply.txn.0) s
      ∙ not-true (loses (server_of head.osts past).committed.0 o e.reply.txn.0)
      (sym (ap (λ (b : Bool). b || not (loses (server_of head.osts past).committed.0 o e.reply.txn.0)) (above_one e a m)) ∙ k)

  -- what is kept after it, and isn't lost by it, is kept before it
  pub closed_both : (keep : ℕ → Bool) → (server_of head.osts past).committed.0 ≤ (server_of head.osts closing).committed.0
      → Closed head.osts closing keep → Closed head.osts past (λ n. keep n && stays n)
  closed_both keep up k =
      record {
        root = and_from (keep 1) true k.root refl;
        low = λ n le. and_from (keep n) (stays n) (k.low n (omega (arith, le, up))) (committed n le);
        saw = λ e a m s q n i.
            let p = and_parts (keep e.reply.txn.0) (stays e.reply.txn.0) q in
            let after = stood e a m s p.1 in
            and_from (keep n) (stays n) (k.saw e a m after p.0 n i) (not_lost n (next.history.stands e a m after n i));
      }
    where
      committed : (n : ℕ) → n ≤ (server_of head.osts past).committed.0 → stays n ≡ true
      committed n le = or_right (nat_eq n 1) (not (loses (server_of head.osts past).committed.0 o n))
          (ap not (ap (λ (b : Bool). b && (nat_lt n (first_of o.boot) && not (has_number n (kept_numbers o)))) off))
        where
          off : nat_lt (server_of head.osts past).committed.0 n ≡ false
          off = grind (arith, nat_tests, le)

  -- a part that nothing wrote that is lost, of an inode that stays
  pub part_stays : Closed head.osts past stays → (p : Part) → ((e : Deed) → Acted past e → IsMade e → Stands head.osts past e
      → stays e.reply.txn.0 ≡ false → Apart e.writes p) → stays (inode_of p).0 ≡ true
      → Same (server_of head.osts past).tree (server_of head.osts closing).tree p
  part_stays k p apart own =
      let is : List Item = items_of head.osts past in
      let old : Tree = contents head.osts empty is in
      let kept : Tree = contents head.osts empty (pick stays is) in
      let new : Tree = contents head.osts empty (items_of head.osts closing) in
      same_trans (server_of head.osts past).tree old (server_of head.osts closing).tree p
      (same_sym old (server_of head.osts past).tree p (h.history.tree p))
      (same_trans old kept (server_of head.osts closing).tree p (agrees head.osts past stays k is h.history.items p apart own)
      (same_trans kept new (server_of head.osts closing).tree p
      (subst (λ (js : List Item). Same (contents head.osts empty js) new p)
      (pick_same (λ n. not (loses (server_of head.osts past).committed.0 o n)) stays is each)
      (same_forgetting head.osts (lives_in o.gone) (pick (λ n. not (loses (server_of head.osts past).committed.0 o n)) is) p))
      (next.history.tree p)))
    where
      each : (b : Operation) → In (Acts b) (items_of head.osts past) → not (loses (server_of head.osts past).committed.0 o b.number.0)
          ≡ stays b.number.0
      each b i =
          let r = item_in head.osts past (items_of head.osts past) h.history.items b i in
          let off : nat_eq b.number.0 1 ≡ false = subst (λ (n : ℕ). nat_eq n 1 ≡ false) r.3 (above_one r.0 r.1 r.2) in
          sym (ap (λ (x : Bool). x || not (loses (server_of head.osts past).committed.0 o b.number.0)) off)
