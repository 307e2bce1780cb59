-- The removal law.
use Rattle.std.proofs.Common.{◌≡◌, ℕ, Bool, true, false, List, [], ◌∷◌, ◌⊎◌, inl, inr, Option, Some, None, refl, sym, ap, subst, ◌∙◌}
use Rattle.std.specs.Prelude.{◌&&◌, if◌then◌else◌}
use Rattle.std.specs.Map.{lookup}
use Rattle.std.specs.Option.{unwrap_or}
use Rattle.std.proofs.lemmas.Bool.{cond_both}
use Rattle.lu_base.specs.declared.ids.Fid.{Fid}
use Rattle.lu_base.specs.declared.ids.Txn.{Txn}
use Rattle.lu_base.specs.declared.ids.Who.{Who}
use Rattle.lu_msg.specs.declared.answers.Answer.TheVariants as told
use Rattle.lu_part.specs.declared.parts.Part.{Part}
use Rattle.lu_part.specs.declared.parts.Part.TheVariants as part
use Rattle.lu_spec_machine.specs.declared.child.Child.{Child}
use Rattle.lu_spec_machine.specs.declared.child.Child.TheVariants.{Dir, File}
use Rattle.lu_spec_machine.specs.Name.{same_name}
use Rattle.lu_spec_machine.specs.Tree.{Tree, no_directory, same_fid, fid_of, child, listing, attributes, layout}
use Rattle.lu_spec_machine.specs.Change.{Change, Leads, Drops, MakesDir, new_directory, change, changed}
use Rattle.lu_spec_machine.specs.Effect.{on_name}
use Rattle.lu_spec_machine.specs.Plan.{Plan, Refuse, Do, LookName, LookList, LookAttr, LookLayout, Outcome, outcome, looked}
use Rattle.lu_spec_machine.specs.Table.{root, made_by, plan}
use Rattle.lu_spec_machine.specs.Footprint.{Same, Every, inode_of, Operation, empty, after, outcome_of, touches, forget, answer}
use Rattle.lu_spec_machine.specs.Removal.{Item, Acts, Forgets, pick, contents, Clear, Untouched, Free, Older}
use Rattle.lu_spec_machine.specs.Laws.{RemovalLaw, RemovalAgrees, EarlierAreOlder}
use Rattle.lu_spec_machine.proofs.Effects.{name_after}
use Rattle.lu_spec_machine.proofs.Footprints.{same_refl, same_sym, same_trans, same_changes}
use Rattle.lu_spec_machine.proofs.Knows.{IsKnown, Knows, plan_knows, Bound, bound}
use Rattle.lu_spec_machine.proofs.Stated.{comes, alike, others_stay, made_has_number}

-- what two trees agree on, at the parts in A of the inodes in K
pub record Views (K : Child → Type 0) (A : Part → Type 0) (t u : Tree) : Type 0 where
  pub name : (d : Fid) (n : List ℕ) → A (part.Name d n) → K (Dir d) → child t d n ≡ child u d n
  pub list : (d : Fid) → A (part.List d) → K (Dir d) → listing t d ≡ listing u d
  pub attr : (c : Child) → A (part.Attr (fid_of c)) → K c → attributes t c ≡ attributes u c
  pub layout : (f : Fid) → A (part.Layout f) → K (File f) → layout t f ≡ layout u f
  pub older : (d : Fid) (n : List ℕ) (c : Child) → child u d n ≡ Some c → K c

-- then what looks at nothing else does the same in both
module _ (K : Child → Type 0) (A : Part → Type 0) (t u : Tree) (v : Views K A t u) where
  known : (o : Option Child) → ((c : Child) → o ≡ Some c → K c) → IsKnown K o
  known None h = tt
  known (Some c) h = h c refl

  pub same_known : (p : Plan) → Knows K p → Every A (looked t p) → (outcome t p ≡ outcome u p) × (looked t p ≡ looked u p)
  same_known (Refuse e) k h = (refl, refl)
  same_known (Do _ grants changes) k h = (refl, refl)
  same_known (LookName d n next) k h =
      let s : child t d n ≡ child u d n = v.name d n h.0 k.0 in
      let r = subst (λ o. Every A (looked t (next o))) s h.1 in
      let ih = same_known (next (child u d n)) (k.1 (child u d n) (known (child u d n) (v.older d n))) r in
      (ap (λ o. outcome t (next o)) s ∙ ih.0, ap (λ ps. part.Name d n ∷ ps) (ap (λ o. looked t (next o)) s ∙ ih.1))
  same_known (LookList d next) k h =
      let s : listing t d ≡ listing u d = v.list d h.0 k.0 in
      let r = subst (λ o. Every A (looked t (next o))) s h.1 in
      let ih = same_known (next (listing u d)) (k.1 (listing u d)) r in
      (ap (λ o. outcome t (next o)) s ∙ ih.0, ap (λ ps. part.List d ∷ ps) (ap (λ o. looked t (next o)) s ∙ ih.1))
  same_known (LookAttr c next) k h =
      let s : attributes t c ≡ attributes u c = v.attr c h.0 k.0 in
      let r = subst (λ o. Every A (looked t (next o))) s h.1 in
      let ih = same_known (next (attributes u c)) (k.1 (attributes u c)) r in
      (ap (λ o. outcome t (next o)) s ∙ ih.0, ap (λ ps. part.Attr (fid_of c) ∷ ps) (ap (λ o. looked t (next o)) s ∙ ih.1))
  same_known (LookLayout f next) k h =
      let s : layout t f ≡ layout u f = v.layout f h.0 k.0 in
      let r = subst (λ o. Every A (looked t (next o))) s h.1 in
      let ih = same_known (next (layout u f)) (k.1 (layout u f)) r in
      (ap (λ o. outcome t (next o)) s ∙ ih.0, ap (λ ps. part.Layout f ∷ ps) (ap (λ o. looked t (next o)) s ∙ ih.1))

-- ---- names of older inodes

abbrev Kept : (ℕ → Bool) → Child → Type 0
Kept keep c = keep (fid_of c).0 ≡ true

bound_keep : (keep : ℕ → Bool) (number : Txn) (f : Fid) → keep number.0 ≡ true → (keep f.0 ≡ true) ⊎ (f ≡ made_by number) → keep f.0 ≡ true
bound_keep keep number f k (inl h) = h
bound_keep keep number f k (inr h) = ap (λ (g : Fid). keep g.0) h ∙ k

older_found : (keep : ℕ → Bool) (number : Txn) (x : Change) (d : Fid) (n : List ℕ) (o : Option Child) → keep number.0 ≡ true
    → Bound (Kept keep) number x → ((c : Child) → o ≡ Some c → Kept keep c) → (c : Child) → on_name x d n o ≡ Some c → Kept keep c
older_found keep number (Leads e m a) d n o k b h c is =
    cond_both (same_fid e d && same_name m n) (Some a) o (λ v. v ≡ Some c → Kept keep c)
    (λ t i. let j : a ≡ c = cc in subst (λ v. Kept keep v) j (bound_keep keep number (fid_of a) k b))
    (λ t i. h c i) is
older_found keep number (Drops e m) d n o k b h c is = cond_both (same_fid e d && same_name m n) None o (λ v. v ≡ Some c → Kept keep c)
    (λ t i. absurd (cc)) (λ t i. h c i) is
older_found keep number (MakesDir f) d n o k b h c is = cond_both (same_fid f d) None o (λ v. v ≡ Some c → Kept keep c) (λ t i. absurd (cc))
    (λ t i. h c i) is
older_found keep number _ d n o k b h c is = h c is

older_change : (keep : ℕ → Bool) (number : Txn) (t : Tree) (x : Change) → keep number.0 ≡ true → Bound (Kept keep) number x → Older keep t
    → Older keep (change t x)
older_change keep number t x k b h d n c is = older_found keep number x d n (child t d n) k b (h d n) c (sym (name_after t x d n) ∙ is)

older_changes : (keep : ℕ → Bool) (number : Txn) (t : Tree) (xs : List Change) → keep number.0 ≡ true → Every (Bound (Kept keep) number) xs
    → Older keep t → Older keep (changed t xs)
older_changes keep number t [] k b h = h
older_changes keep number t (x ∷ xs) k b h = older_changes keep number (change t x) xs k b.1 (older_change keep number t x k b.0 h)

older_after : (osts : ℕ) (keep : ℕ → Bool) (t : Tree) (a : Operation) → keep 1 ≡ true → keep a.number.0 ≡ true → Older keep t
    → Older keep (after osts t a)
older_after osts keep t a root k o =
    older_changes keep a.number t (outcome_of osts t a).changes k
    (bound (Kept keep) a.number t a.who root o (outcome_of osts t a) (comes osts t a)) o

-- ---- the two runs

same_forget : (t u : Tree) (who : Who) (p : Part) → Same t u p → Same (forget t who) (forget u who) p
same_forget t u who (part.Name d n) s = s
same_forget t u who (part.List d) s = s
same_forget t u who (part.Attr f) s = s
same_forget t u who (part.Layout f) s = s
same_forget t u who (part.Parent f) s = s
same_forget t u who (part.Bytes f stripe extent) s = s

record Agree (osts : ℕ) (start : Tree) (keep : ℕ → Bool) (past : List Item) : Type 0 where
  same : (p : Part) → Clear osts start keep past p → keep (inode_of p).0 ≡ true
      → Same (contents osts start past) (contents osts start (pick keep past)) p
  older : Older keep (contents osts start (pick keep past))

module _ (osts : ℕ) (start : Tree) (keep : ℕ → Bool) (root : keep 1 ≡ true) where
  agree_views : (past : List Item) → Agree osts start keep past
      → Views (Kept keep) (Clear osts start keep past) (contents osts start past) (contents osts start (pick keep past))
  agree_views past g =
      record {
        name = λ d n a k. g.same (part.Name d n) a k;
        list = λ d a k. g.same (part.List d) a k;
        attr = same_attr;
        layout = λ f a k. g.same (part.Layout f) a k;
        older = g.older;
      }
    where
      same_attr : (c : Child) → Clear osts start keep past (part.Attr (fid_of c)) → Kept keep c → attributes (contents osts start past) c
          ≡ attributes (contents osts start (pick keep past)) c
      same_attr (Dir d) a k = (g.same (part.Attr d) a k).0
      same_attr (File f) a k = (g.same (part.Attr f) a k).1

  -- an act that touches what is clear does the same in both
  same_act : (past : List Item) (a : Operation) → Agree osts start keep past → Untouched osts start keep past a
      → (outcome_of osts (contents osts start past) a ≡ outcome_of osts (contents osts start (pick keep past)) a)
      × (touches osts (contents osts start past) a ≡ touches osts (contents osts start (pick keep past)) a)
  same_act past a g w =
      same_known (Kept keep) (Clear osts start keep past) (contents osts start past) (contents osts start (pick keep past))
      (agree_views past g) (plan osts a.number a.who a.op)
      (plan_knows (Kept keep) root osts a.number a.who a.op) w

  -- the inode that one taken out makes isn't kept
  not_its : (a : Operation) (t : Tree) (p : Part) → keep a.number.0 ≡ false → keep (inode_of p).0 ≡ true → answer osts t a
      ≡ told.Made (inode_of p) → ⊥
  not_its a t p gone k e = let h = made_has_number osts t a (inode_of p) e in absurd (cc (ap keep h, gone, k))

  agree : (past : List Item) → Older keep start → Free osts start keep past → Agree osts start keep past
  agree [] o f = record { same = λ p c k. same_refl start p; older = o }
  agree (Forgets who ∷ past) o f =
      let ih = agree past o f in
      record {
        same = λ p c k. same_forget (contents osts start past) (contents osts start (pick keep past)) who p (ih.same p c k);
        older =
            ih.older;
      }
  agree (Acts a ∷ past) o f = by (agree past o f.1)
    where
      by : Agree osts start keep past → Agree osts start keep (Acts a ∷ past)
      by ih =
          let t = contents osts start past in
          let u = contents osts start (pick keep past) in
          record {
            same = λ p c k.
                cond_both (keep a.number.0) (Acts a ∷ pick keep past) (pick keep past)
                (λ is. Same (after osts t a) (contents osts start is) p)
                (λ is. let e = (same_act past a ih (f.0 is)).0 in
                subst (λ (x : Outcome). Same (changed t x.changes) (after osts u a) p) (sym e)
                (same_changes t u (outcome_of osts u a).changes p (ih.same p c.1 k)))
                (λ is. same_trans (after osts t a) t u p (same_sym t (after osts t a) p
                (others_stay osts t a p (c.0 is) (not_its a t p is k))) (ih.same p c.1 k));
            older =
                cond_both (keep a.number.0) (Acts a ∷ pick keep past) (pick keep past) (λ is. Older keep (contents osts start is))
                (λ is. older_after osts keep u a root is ih.older)
                (λ is. ih.older);
          }

pub removal_law : RemovalLaw
removal_law osts start keep root old past f a w =
    let s = same_act osts start keep root past a (agree osts start keep root past old f) w in
    alike osts (contents osts start past) (contents osts start (pick keep past)) a s.0 s.1

pub removal_agrees : RemovalAgrees
removal_agrees osts start keep root old past f p c k = (agree osts start keep root past old f).same p c k

pub empty_older : (keep : ℕ → Bool) → Older keep empty
empty_older keep d n c is = nothing (same_fid d (record { 0 = 1 })) is
  where
    nothing : (b : Bool) → lookup (same_name n) (unwrap_or (if b then Some new_directory else None) no_directory).entries ≡ Some c
        → Kept keep c
    nothing true e = absurd (cc)
    nothing false e = absurd (cc)

pub earlier_are_older : EarlierAreOlder
earlier_are_older osts keep one [] h = empty_older keep
earlier_are_older osts keep one (Acts a ∷ past) h = older_after osts keep (contents osts empty past) a one h.0
    (earlier_are_older osts keep one past h.1)
earlier_are_older osts keep one (Forgets who ∷ past) h = earlier_are_older osts keep one past h
