-- A file has one layout for good, the one that its create gave it: a create makes a file of the number of its transaction, and no number is
-- that of two. So all that is told of a file's layout is the same, and it is a layout.
use Rattle.std.proofs.Common.{◌≡◌, ℕ, ℤ, ◌<◌, Bool, true, false, List, [], ◌∷◌, Option, Some, None, ◌⊎◌, inl, inr, refl, sym, subst, ap}
use Rattle.std.proofs.Common.{◌∙◌, arith}
use Rattle.std.specs.Prelude.{length, ◌&&◌}
use Rattle.std.proofs.lemmas.Bool.{cond_both}
use Rattle.std.proofs.lemmas.Bool.Decides.{nat_tests}
use Rattle.lu_base.specs.declared.ids.Fid.{Fid}
use Rattle.lu_base.specs.declared.ids.Txn.{Txn as TxnOf}
use Rattle.lu_base.specs.declared.ids.Who.{Who}
use Rattle.lu_layout.specs.Raid0.{Raid0}
use Rattle.lu_layout.specs.Sound.{IsLayout}
use Rattle.lu_msg.specs.declared.operations.Op.TheVariants as op
use Rattle.lu_part.specs.declared.parts.Part.TheVariants as part
use Rattle.lu_spec_machine.specs.declared.child.Child.{Child}
use Rattle.lu_spec_machine.specs.declared.child.Child.TheVariants.{Dir, File}
use Rattle.lu_spec_machine.specs.Change.{Change, Leads, Drops, MakesDir, MakesFile, change, changed}
use Rattle.lu_spec_machine.specs.Effect.{on_name, on_layout}
use Rattle.lu_spec_machine.specs.Footprint.{Operation, Every, empty, after}
use Rattle.lu_spec_machine.specs.Name.{same_name}
use Rattle.lu_spec_machine.specs.Plan.{Outcome, outcome}
use Rattle.lu_spec_machine.specs.Removal.{contents}
use Rattle.lu_spec_machine.specs.Table.{made_by, plan}
use Rattle.lu_spec_machine.specs.Tree.{Tree, no_file, same_fid, child, layout}
use Rattle.lu_spec_machine.specs.Striping.{new_layout}
use Rattle.lu_spec_machine.proofs.Effects.{name_after, layout_after}
use Rattle.lu_spec_machine.proofs.Layouts.{new_layouts}
use Rattle.lu_spec_machine.proofs.Outcomes.{Comes, refused, learns, mkdir, create, link, unlink, rmdir, move, replace_dir, replace_file}
use Rattle.lu_spec_machine.proofs.Outcomes.{chmod, opens, closes, plan_comes}
use Rattle.lu_spec_machine.proofs.Walks.{IsNamed}
use Rattle.lu_spec_entries.specs.Carried.{Deed}
use Rattle.lu_spec_entries.specs.Words.{Line}
use Rattle.lu_spec_entries.specs.Concerns.{only}
use Rattle.lu_proof_lawful.specs.Covered.TargetStates.{server_of}
use Rattle.lu_proof_lawful.specs.Covered.Heads.{Head, IsHead}
use Rattle.lu_proof_lawful.proofs.Preconditions.Grown.{Grown}
use Rattle.lu_proof_lawful.proofs.Invariants.TargetGroups.{Acted, IsMade}
use Rattle.lu_proof_lawful.proofs.Invariants.All.{holds}
use Rattle.lu_proof_lawful.proofs.Invariants.Layouts.{Lays, TellsBy, Given, plan_lays, laid_by, acted_so}
use Rattle.lu_proof_lawful.proofs.Invariants.OverItems.{over_now}

-- the create that made the file gave it this layout
pub record CreatedWith (osts : ℕ) (story : List Line) (f : Fid) (l : Raid0) : Type 0 where
  pub deed : Deed
  pub acted : Acted story deed
  pub made : IsMade deed
  pub path : List (List ℕ)
  pub size : ℕ
  pub count : ℤ
  pub creates : deed.op ≡ op.Create path size count
  pub is_file : made_by deed.reply.txn ≡ f
  pub is : new_layout osts deed.reply.txn size count ≡ Some l

-- it has none, or that one
abbrev pub LaidOnce : ℕ → List Line → Fid → Raid0 → Type 0
LaidOnce osts story f l = (l ≡ no_file.layout) ⊎ CreatedWith osts story f l

pub laid_once : (osts : ℕ) (story : List Line) → Given osts story (LaidOnce osts story)
laid_once osts story =
    record {
      none = λ f. inl refl;
      new = λ d a made path size count l creates is. inr (record
          { deed = d; acted = a; made = made; path = path; size = size; count = count; creates = creates; is_file = refl; is = is });
    }

-- ---- a file that a name leads to has a layout

abbrev HasStripes : Fid → Raid0 → Type 0
HasStripes f l = 0 < length l.targets

abbrev Placed : Tree → Type 0
Placed t = (d : Fid) (n : List ℕ) (f : Fid) → child t d n ≡ Some (File f) → 0 < length (layout t f).targets

abbrev OkLeads : Tree → Change → Type 0
OkLeads t (Leads d n (File f)) = 0 < length (layout t f).targets
OkLeads t (MakesFile f l) = 0 < length l.targets
OkLeads t _ = Unit {0}

placed_change : (t : Tree) (x : Change) → OkLeads t x → Placed t → Placed (change t x)
placed_change t x ok placed e m f is = subst (λ (l : Raid0). 0 < length l.targets) (sym (layout_after t x f))
    (by x ok (sym (name_after t x e m) ∙ is))
  where
    leads : (c : Child) (d : Fid) (n : List ℕ) → OkLeads t (Leads d n c) → Some c ≡ Some (File f) → 0 < length (layout t f).targets
    leads (Dir g) d n ok q = absurd (cc)
    leads (File g) d n ok q = subst (λ (h : Fid). 0 < length (layout t h).targets) (one g f q) ok
      where
        one : (g f : Fid) → Some (File g) ≡ Some (File f) → g ≡ f
        one g f q = cc

    by : (x : Change) → OkLeads t x → on_name x e m (child t e m) ≡ Some (File f) → 0 < length (on_layout x f (layout t f)).targets
    by (Leads d n c) ok q = cond_both (same_fid d e && same_name n m) (Some c) (child t e m)
        (λ (o : Option Child). o ≡ Some (File f) → 0 < length (layout t f).targets) (λ v g. leads c d n ok g) (λ v g. placed e m f g) q
    by (Drops d n) ok q = cond_both (same_fid d e && same_name n m) None (child t e m)
        (λ (o : Option Child). o ≡ Some (File f) → 0 < length (layout t f).targets) (λ v g. absurd (cc)) (λ v g. placed e m f g) q
    by (MakesDir d) ok q = cond_both (same_fid d e) None (child t e m)
        (λ (o : Option Child). o ≡ Some (File f) → 0 < length (layout t f).targets) (λ v g. absurd (cc)) (λ v g. placed e m f g) q
    by (MakesFile g l) ok q = cond_both (same_fid g f) l (layout t f) (λ (k : Raid0). 0 < length k.targets) (λ _. ok) (λ _. placed e m f q)
    by x ok q = placed e m f q

abbrev AllOk : Tree → List Change → Type 0
AllOk t [] = Unit {0}
AllOk t (x ∷ xs) = OkLeads t x × AllOk (change t x) xs

placed_changes : (t : Tree) (xs : List Change) → AllOk t xs → Placed t → Placed (changed t xs)
placed_changes t [] ok placed = placed
placed_changes t (x ∷ xs) ok placed = placed_changes (change t x) xs ok.1 (placed_change t x ok.0 placed)

module _ (t : Tree) (number : TxnOf) (who : Who) (placed : Placed t) where
  moved_ok : (d : Fid) (n : List ℕ) (c : Child) (e : Fid) (m : List ℕ) → child t d n ≡ Some c → OkLeads (change t (Drops d n)) (Leads e m c)
  moved_ok d n (Dir f) e m is = tt
  moved_ok d n (File f) e m is = placed d n f is

  made_ok : (f : Fid) (l : Raid0) → 0 < length l.targets → 0 < length (layout (change t (MakesFile f l)) f).targets
  made_ok f l some = subst (λ (k : Raid0). 0 < length k.targets) (sym (layout_after t (MakesFile f l) f))
      (cond_both (same_fid f f) l (layout t f) (λ (k : Raid0). 0 < length k.targets) (λ _. some)
      (λ e. absurd (grind (arith, nat_tests, e))))

  comes_ok : (o : Outcome) → Comes t number who o → Every (Lays HasStripes) o.changes → AllOk t o.changes
  comes_ok _ (refused e) lays = tt
  comes_ok _ (learns answer grants is) lays = tt
  comes_ok _ (mkdir d n free) lays = (tt, (tt, tt))
  comes_ok _ (create d n l free) lays = (lays.0, (made_ok (made_by number) l lays.0, tt))
  comes_ok _ (link d n f free named) lays = (placed named.0 named.1.0 f named.1.1, (tt, tt))
  comes_ok _ (unlink d n f is) lays = (tt, (tt, (tt, tt)))
  comes_ok _ (rmdir d n e is none) lays = (tt, (tt, (tt, tt)))
  comes_ok _ (move d n c e m is free) lays = (tt, (moved_ok d n c e m is, (tt, tt)))
  comes_ok _ (replace_dir d n f e m g is at ne none) lays = (tt, (tt, (tt, (tt, (tt, tt)))))
  comes_ok _ (replace_file d n f e m g is at ne) lays = (tt, (moved_ok d n (File f) e m is, (tt, (tt, (tt, tt)))))
  comes_ok _ (chmod c mode r) lays = (tt, tt)
  comes_ok _ (opens f named) lays = (tt, tt)
  comes_ok _ (closes opened) lays = (tt, tt)

placed_after : (head : Head) (t : Tree) (a : Operation) → IsHead head → Placed t → Placed (after head.osts t a)
placed_after head t a h placed =
    let o = outcome t (plan head.osts a.number a.who a.op) in
    placed_changes t o.changes
    (comes_ok t a.number a.who placed o (plan_comes t a.number a.who head.osts a.op)
    (plan_lays HasStripes t head.osts a.number a.who a.op (λ path size count l creates is.
    ((new_layouts head.osts a.number size count l is).sound h.osts h.most_osts).targets.0)))
    placed

placed_empty : Placed empty
placed_empty d n f is = by (same_fid d (record { 0 = 1 })) refl is
  where
    by : (v : Bool) → same_fid d (record { 0 = 1 }) ≡ v → child empty d n ≡ Some (File f) → 0 < length (layout empty f).targets
    by true q g = absurd (grind (arith, nat_tests, q, g))
    by false q g = absurd (grind (arith, nat_tests, q, g))

placed_there : (head : Head) (past : List Line) → IsHead head → Grown head past → Placed (server_of head.osts (only 0 past)).tree
placed_there head past h g d n f is =
    let at = (holds head past g).at 0 in
    let left = over_now head (only 0 past) (λ m t. Placed t) (λ m le. placed_empty)
    (λ is a m ok lt k. placed_after head (contents head.osts empty is) a h k) (λ m t who k. k) (λ m k t le p. p) at in
    subst (λ (l : Raid0). 0 < length l.targets) (at.history.tree (part.Layout f)) (left d n f (at.history.tree (part.Name d n) ∙ is))

-- ---- what is told

pub created_more : (osts : ℕ) (old new : List Line) (f : Fid) (l : Raid0) → ((e : Deed) → Acted old e → Acted new e)
    → CreatedWith osts old f l → CreatedWith osts new f l
created_more osts old new f l more c = record {
  deed = c.deed;
  acted = more c.deed c.acted;
  made = c.made;
  path = c.path;
  size = c.size;
  count = c.count;
  creates = c.creates;
  is_file = c.is_file;
  is = c.is;
}

-- the layout of a file that a name leads to is the one that its create gave it
pub created_named : (head : Head) (past : List Line) → IsHead head → Grown head past → (f : Fid)
    → IsNamed (server_of head.osts (only 0 past)).tree (File f)
    → CreatedWith head.osts (only 0 past) f (layout (server_of head.osts (only 0 past)).tree f)
created_named head past h g f named =
    by (layout (server_of head.osts (only 0 past)).tree f) (placed_there head past h g named.0 named.1.0 f named.1.1)
    (laid_by head past (LaidOnce head.osts (only 0 past)) g (laid_once head.osts (only 0 past)) f)
  where
    by : (l : Raid0) → 0 < length l.targets → LaidOnce head.osts (only 0 past) f l → CreatedWith head.osts (only 0 past) f l
    by l some (inl none) = absurd (let n = ap (λ (k : Raid0). length k.targets) none in omega (arith, some, n))
    by l some (inr c) = c

-- so is each layout that is told
pub told_once : (head : Head) (past : List Line) (d : Deed) → IsHead head → Grown head past → Acted past d
    → TellsBy (CreatedWith head.osts (only 0 past)) d.reply.answer
told_once head past d h g a =
    acted_so head past (CreatedWith head.osts (only 0 past)) d g
    (λ before grown older f named. created_more head.osts (only 0 before) (only 0 past) f
    (layout (server_of head.osts (only 0 before)).tree f) older (created_named head before h grown f named)) a

-- a file is created once
same_size : (a b c d : ℕ) (p q : ℤ) (x y : List (List ℕ)) → op.Create x a p ≡ op.Create y b q → (a ≡ b) × (p ≡ q)
same_size a b c d p q x y e = (cc, cc)

pub one_layout : (head : Head) (past : List Line) (f : Fid) (l m : Raid0) → Grown head past → CreatedWith head.osts (only 0 past) f l
    → CreatedWith head.osts (only 0 past) f m → l ≡ m
one_layout head past f l m g a b =
    let number : a.deed.reply.txn ≡ b.deed.reply.txn = same_number a.deed.reply.txn b.deed.reply.txn (a.is_file ∙ sym b.is_file) in
    let same = ((holds head past g).at 0).done.single a.deed b.deed a.acted b.acted a.made b.made number in
    let parts = same_size a.size b.size 0 0 a.count b.count a.path b.path (sym a.creates ∙ ap (λ (d : Deed). d.op) same ∙ b.creates) in
    one (sym a.is ∙ (λ i. new_layout head.osts (number i) (parts.0 i) (parts.1 i)) ∙ b.is)
  where
    same_number : (n k : TxnOf) → made_by n ≡ made_by k → n ≡ k
    same_number n k e = ap (λ (f : Fid). record { 0 = f.0 }) e

    one : Some l ≡ Some m → l ≡ m
    one e = cc

-- it is a layout
pub is_layout : (head : Head) (story : List Line) (f : Fid) (l : Raid0) → IsHead head → CreatedWith head.osts story f l → IsLayout l
is_layout head story f l h a = (new_layouts head.osts a.deed.reply.txn a.size a.count l a.is).sound h.osts h.most_osts
