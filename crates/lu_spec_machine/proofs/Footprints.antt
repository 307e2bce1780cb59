-- The footprint laws of plans and of elementary changes.
use Rattle.std.proofs.Common.{◌≡◌, ℕ, List, [], ◌∷◌, ◌++◌, Option, refl, sym, ap, ◌∙◌, arith}
use Rattle.std.proofs.lemmas.Bool.Decides.{nat_tests}
use Rattle.lu_base.specs.declared.ids.Fid.{Fid}
use Rattle.lu_layout.specs.Raid0.{Raid0}
use Rattle.lu_part.specs.declared.parts.Part.{Part}
use Rattle.lu_part.specs.declared.parts.Part.TheVariants as part
use Rattle.lu_spec_machine.specs.declared.child.Child.{Child}
use Rattle.lu_spec_machine.specs.declared.child.Child.TheVariants.{Dir, File}
use Rattle.lu_spec_machine.specs.Tree.{Tree, Attributes, fid_of, child, listing, attributes, layout}
use Rattle.lu_spec_machine.specs.Change.{Change, Leads, Drops, MakesDir, MakesFile, SetMode, SetLinks, Leaves, change, changed, writes_of}
use Rattle.lu_spec_machine.specs.Change.{written, makes_of, made}
use Rattle.lu_spec_machine.specs.Effect.{on_name, on_listing, on_attributes, on_layout}
use Rattle.lu_spec_machine.specs.Plan.{Plan, Refuse, Do, LookName, LookList, LookAttr, LookLayout, outcome, looked}
use Rattle.lu_spec_machine.specs.Footprint.{Same, Every, Apart, inode_of}
use Rattle.lu_spec_machine.proofs.Keys.{fid_tells}
use Rattle.lu_spec_machine.proofs.Effects.{name_after, listing_after, dir_mode_after, file_mode_after, layout_after}

-- lists
pub every_left : {A : Type 0} (P : A → Type 0) (xs ys : List A) → Every P (xs ++ ys) → Every P xs
every_left P [] ys h = tt
every_left P (x ∷ xs) ys h = (h.0, every_left P xs ys h.1)

pub every_right : {A : Type 0} (P : A → Type 0) (xs ys : List A) → Every P (xs ++ ys) → Every P ys
every_right P [] ys h = h
every_right P (x ∷ xs) ys h = every_right P xs ys h.1

pub every_map : {A : Type 0} (P Q : A → Type 0) (xs : List A) → ((x : A) → P x → Q x) → Every P xs → Every Q xs
every_map P Q [] f h = tt
every_map P Q (x ∷ xs) f h = (f x h.0, every_map P Q xs f h.1)

pub every_one : {A : Type 0} (P : A → Type 0) (xs : List A) → ((x : A) → P x) → Every P xs
every_one P [] f = tt
every_one P (x ∷ xs) f = (f x, every_one P xs f)

-- `Same` is an equality
pub same_refl : (t : Tree) (p : Part) → Same t t p
same_refl t (part.Name d n) = refl
same_refl t (part.List d) = refl
same_refl t (part.Attr f) = (refl, refl)
same_refl t (part.Layout f) = refl
same_refl t (part.Parent f) = tt
same_refl t (part.Bytes f s x) = tt

pub same_trans : (t u v : Tree) (p : Part) → Same t u p → Same u v p → Same t v p
same_trans t u v (part.Name d n) a b = a ∙ b
same_trans t u v (part.List d) a b = a ∙ b
same_trans t u v (part.Attr f) a b = (a.0 ∙ b.0, a.1 ∙ b.1)
same_trans t u v (part.Layout f) a b = a ∙ b
same_trans t u v (part.Parent f) a b = tt
same_trans t u v (part.Bytes f s x) a b = tt

pub same_sym : (t u : Tree) (p : Part) → Same t u p → Same u t p
same_sym t u (part.Name d n) a = sym a
same_sym t u (part.List d) a = sym a
same_sym t u (part.Attr f) a = (sym a.0, sym a.1)
same_sym t u (part.Layout f) a = sym a
same_sym t u (part.Parent f) a = tt
same_sym t u (part.Bytes f s x) a = tt

attr_of : (t u : Tree) (c : Child) → Same t u (part.Attr (fid_of c)) → attributes t c ≡ attributes u c
attr_of t u (Dir d) s = s.0
attr_of t u (File f) s = s.1

-- of two trees that agree on what is looked at in one, all comes out the same
pub same_looks : (t u : Tree) (p : Plan) → Every (Same t u) (looked t p) → (outcome t p ≡ outcome u p) × (looked t p ≡ looked u p)
same_looks t u (Refuse e) h = (refl, refl)
same_looks t u (Do answer grants changes) h = (refl, refl)
same_looks t u (LookName d n next) h =
    let ih = same_looks t u (next (child t d n)) h.1 in
    (ih.0 ∙ ap (λ v. outcome u (next v)) h.0, ap (λ ps. part.Name d n ∷ ps) (ih.1 ∙ ap (λ v. looked u (next v)) h.0))
same_looks t u (LookList d next) h =
    let ih = same_looks t u (next (listing t d)) h.1 in
    (ih.0 ∙ ap (λ v. outcome u (next v)) h.0, ap (λ ps. part.List d ∷ ps) (ih.1 ∙ ap (λ v. looked u (next v)) h.0))
same_looks t u (LookAttr c next) h =
    let ih = same_looks t u (next (attributes t c)) h.1 in
    let s = attr_of t u c h.0 in
    (ih.0 ∙ ap (λ v. outcome u (next v)) s, ap (λ ps. part.Attr (fid_of c) ∷ ps) (ih.1 ∙ ap (λ v. looked u (next v)) s))
same_looks t u (LookLayout f next) h =
    let ih = same_looks t u (next (layout t f)) h.1 in
    (ih.0 ∙ ap (λ v. outcome u (next v)) h.0, ap (λ ps. part.Layout f ∷ ps) (ih.1 ∙ ap (λ v. looked u (next v)) h.0))

-- a change makes of a part what it was before, in each tree the same
pub same_change : (t u : Tree) (x : Change) (p : Part) → Same t u p → Same (change t x) (change u x) p
same_change t u x (part.Name d n) s = name_after t x d n ∙ ap (on_name x d n) s ∙ sym (name_after u x d n)
same_change t u x (part.List d) s = listing_after t x d ∙ ap (on_listing x d) s ∙ sym (listing_after u x d)
same_change t u x (part.Attr f) s = (
  dir_mode_after t x f ∙ ap (on_attributes x (Dir f)) s.0 ∙ sym (dir_mode_after u x f),
  file_mode_after t x f
      ∙ ap (on_attributes x (File f)) s.1 ∙ sym (file_mode_after u x f),
)
same_change t u x (part.Layout f) s = layout_after t x f ∙ ap (on_layout x f) s ∙ sym (layout_after u x f)
same_change t u x (part.Parent f) s = tt
same_change t u x (part.Bytes f stripe extent) s = tt

pub same_changes : (t u : Tree) (xs : List Change) (p : Part) → Same t u p → Same (changed t xs) (changed u xs) p
same_changes t u [] p s = s
same_changes t u (x ∷ xs) p s = same_changes (change t x) (change u x) xs p (same_change t u x p s)

-- a change leaves what meets none of its writes, but in an inode that it makes
abbrev pub NotOf : List Fid → Part → Type 0
NotOf fs p = Every (λ f. f ≡ inode_of p → ⊥) fs

name_left : (x : Change) (d : Fid) (n : List ℕ) (o : Option Child) → Apart (writes_of x) (part.Name d n)
    → NotOf (makes_of x) (part.Name d n) → o ≡ on_name x d n o
name_left (Leads e m c) d n o a w = grind (arith, nat_tests, a.0)
name_left (Drops e m) d n o a w = grind (arith, nat_tests, a.0)
name_left (MakesDir f) d n o a w = grind (arith, nat_tests, fid_tells, w.0)
name_left _ d n o a w = refl

listing_left : (x : Change) (d : Fid) (ns : List (List ℕ)) → Apart (writes_of x) (part.List d) → NotOf (makes_of x) (part.List d) → ns
    ≡ on_listing x d ns
listing_left (Leads e m c) d ns a w = grind (arith, nat_tests, a.0)
listing_left (Drops e m) d ns a w = grind (arith, nat_tests, a.0)
listing_left (MakesDir f) d ns a w = grind (arith, nat_tests, fid_tells, w.0)
listing_left _ d ns a w = refl

dir_mode_left : (x : Change) (f : Fid) (m : Attributes) → Apart (writes_of x) (part.Attr f) → NotOf (makes_of x) (part.Attr f) → m
    ≡ on_attributes x (Dir f) m
dir_mode_left (MakesDir g) f m a w = grind (arith, nat_tests, fid_tells, w.0)
dir_mode_left (SetMode (Dir g) k) f m a w = grind (arith, nat_tests, a.0)
dir_mode_left (SetMode (File g) k) f m a w = refl
dir_mode_left (Leaves g) f m a w = grind (arith, nat_tests, a.0)
dir_mode_left _ f m a w = refl

file_mode_left : (x : Change) (f : Fid) (m : Attributes) → Apart (writes_of x) (part.Attr f) → NotOf (makes_of x) (part.Attr f) → m
    ≡ on_attributes x (File f) m
file_mode_left (MakesFile g l) f m a w = grind (arith, nat_tests, fid_tells, w.0)
file_mode_left (SetMode (File g) k) f m a w = grind (arith, nat_tests, a.0)
file_mode_left (SetMode (Dir g) k) f m a w = refl
file_mode_left (SetLinks g k) f m a w = grind (arith, nat_tests, a.0)
file_mode_left _ f m a w = refl

layout_left : (x : Change) (f : Fid) (l : Raid0) → Apart (writes_of x) (part.Layout f) → NotOf (makes_of x) (part.Layout f) → l
    ≡ on_layout x f l
layout_left (MakesFile g l) f m a w = grind (arith, nat_tests, fid_tells, w.0)
layout_left _ f m a w = refl

pub left_change : (t : Tree) (x : Change) (p : Part) → Apart (writes_of x) p → NotOf (makes_of x) p → Same t (change t x) p
left_change t x (part.Name d n) a w = name_left x d n (child t d n) a w ∙ sym (name_after t x d n)
left_change t x (part.List d) a w = listing_left x d (listing t d) a w ∙ sym (listing_after t x d)
left_change t x (part.Attr f) a w = (
  dir_mode_left x f _ a w ∙ sym (dir_mode_after t x f),
  file_mode_left x f _ a w
      ∙ sym (file_mode_after t x f),
)
left_change t x (part.Layout f) a w = layout_left x f (layout t f) a w ∙ sym (layout_after t x f)
left_change t x (part.Parent f) a w = tt
left_change t x (part.Bytes f stripe extent) a w = tt

pub left_changes : (t : Tree) (xs : List Change) (p : Part) → Apart (written xs) p → NotOf (made xs) p → Same t (changed t xs) p
left_changes t [] p a w = same_refl t p
left_changes t (x ∷ xs) p a w =
    same_trans t (change t x) (changed (change t x) xs) p
    (left_change t x p (every_left _ (writes_of x) (written xs) a) (every_left _ (makes_of x) (made xs) w))
    (left_changes (change t x) xs p (every_right _ (writes_of x) (written xs) a) (every_right _ (makes_of x) (made xs) w))
