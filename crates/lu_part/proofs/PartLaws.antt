-- Meeting is symmetric, each part meets itself, and parts that meet have guards that meet.
use Rattle.std.proofs.Common.{◌≡◌, ℕ, Bool, true, false, ◌&&◌, ◌==◌, IsTrue, ◌↔◌, List, refl, sym, ap, le_refl, arith}
use Rattle.std.proofs.lemmas.Bool.Decides.{nat_tests, same_from_decides, Decides-like}
use Rattle.std.specs.Str.{bytes_eq}
use Rattle.std.proofs.lemmas.Bool.{eqb-true, eq-eqb}
use Rattle.std.proofs.lemmas.Slice.Eq.{bytes_eq-Decides}
use Rattle.lu_base.specs.declared.ids.Fid.{Fid}
use Rattle.lu_part.specs.declared.parts.Part.{Part}
use Rattle.lu_part.specs.declared.parts.Part.TheVariants.{Name, List as Names, Attr, Layout, Parent, Bytes}
use Rattle.lu_part.specs.Meets.{meets, Meets}
use Rattle.lu_part.specs.Guards.{inode, guard, GuardsMeet, lookup_bit, update_bit, layout_bit}
use Rattle.lu_lock.specs.Overlap.{extents_meet, BitsMeet, IsOrdered}
use Rattle.lu_lock.proofs.OverlapLaws.{extents_meet_symmetric, extents_meet_rule}

-- Each of the inode bits meets itself.
update_meets : BitsMeet update_bit update_bit
update_meets = (1, (λ e. cc), (λ e. cc))

lookup_meets : BitsMeet lookup_bit lookup_bit
lookup_meets = (0, (λ e. cc), (λ e. cc))

pub layout_meets : BitsMeet layout_bit layout_bit
layout_meets = (2, (λ e. cc), (λ e. cc))

-- Parts that meet, as a fact, have guards that meet.
pub guards_meet : (a b : Part) → Meets a b → GuardsMeet a b
guards_meet (Name d n) (Name e m) h = (ap (λ fid. (inode fid update_bit).0) h.0, update_meets)
guards_meet (Name d _) (Names e) h = (ap (λ fid. (inode fid update_bit).0) h, update_meets)
guards_meet (Names d) (Name e _) h = (ap (λ fid. (inode fid update_bit).0) h, update_meets)
guards_meet (Names d) (Names e) h = (ap (λ fid. (inode fid update_bit).0) h, update_meets)
guards_meet (Attr f) (Attr g) h = (ap (λ fid. (inode fid update_bit).0) h, update_meets)
guards_meet (Layout f) (Layout g) h = (ap (λ fid. (inode fid layout_bit).0) h, layout_meets)
guards_meet (Parent f) (Parent g) h = (ap (λ fid. (inode fid lookup_bit).0) h, lookup_meets)
guards_meet (Bytes f s range) (Bytes g t other) h = (cc, h.2)
guards_meet _ _ h = absurd h

same_fid : (f g : Fid) → (f.0 == g.0) ≡ true → f ≡ g
same_fid f g h = ap (λ n. record { 0 = n }) (eqb-true f.0 g.0 h)

fid_test : (f g : Fid) → f ≡ g → (f.0 == g.0) ≡ true
fid_test f g h = eq-eqb _ _ (ap (λ fid. fid.0) h)

both : (a b : Bool) → (a && b) ≡ true → (a ≡ true) × (b ≡ true)
both true b h = (refl, h)
both false b h = cc

and_both : (a b : Bool) → a ≡ true → b ≡ true → (a && b) ≡ true
and_both a b p q = rw (p, q) refl

-- Meeting is what it stands for.
pub meets_rule : (a b : Part) → IsTrue (meets a b) ↔ Meets a b
meets_rule (Name d n) (Name e m) = (
  λ h. let parts = both _ _ h in (same_fid d e parts.0, (bytes_eq-Decides n m).0 parts.1),
  λ h. and_both _ _ (fid_test d e h.0) ((bytes_eq-Decides n m).1 h.1),
)
meets_rule (Name d _) (Names e) = (same_fid d e, fid_test d e)
meets_rule (Names d) (Name e _) = (same_fid d e, fid_test d e)
meets_rule (Names d) (Names e) = (same_fid d e, fid_test d e)
meets_rule (Attr f) (Attr g) = (same_fid f g, fid_test f g)
meets_rule (Layout f) (Layout g) = (same_fid f g, fid_test f g)
meets_rule (Parent f) (Parent g) = (same_fid f g, fid_test f g)
meets_rule (Bytes f s range) (Bytes g t other) = (
  λ h. let parts = both (f.0 == g.0 && s == t) (extents_meet range other) h in
      let object = both _ _ parts.0 in
      (same_fid f g object.0, eqb-true _ _ object.1, (extents_meet_rule range other).0 parts.1),
  λ h. and_both (f.0 == g.0 && s == t) (extents_meet range other)
      (and_both _ _ (fid_test f g h.0) (eq-eqb _ _ h.1)) ((extents_meet_rule range other).1 h.2),
)
meets_rule _ _ = (λ h. cc, λ h. absurd h)

eqb_sym : (m n : ℕ) → (m == n) ≡ (n == m)
eqb_sym m n = grind (arith, nat_tests)

bytes_eq_sym : (xs ys : List ℕ) → bytes_eq xs ys ≡ bytes_eq ys xs
bytes_eq_sym xs ys =
    same_from_decides _ _ (bytes_eq-Decides xs ys) (Decides-like _ sym sym (bytes_eq-Decides ys xs))

pub meets_symmetric : (a b : Part) → meets a b ≡ meets b a
meets_symmetric (Name d n) (Name e m) = rw (eqb_sym d.0 e.0, bytes_eq_sym n m) refl
meets_symmetric (Name d _) (Names e) = eqb_sym d.0 e.0
meets_symmetric (Names d) (Name e _) = eqb_sym d.0 e.0
meets_symmetric (Names d) (Names e) = eqb_sym d.0 e.0
meets_symmetric (Attr f) (Attr g) = eqb_sym f.0 g.0
meets_symmetric (Layout f) (Layout g) = eqb_sym f.0 g.0
meets_symmetric (Parent f) (Parent g) = eqb_sym f.0 g.0
meets_symmetric (Bytes f s range) (Bytes g t other) =
    rw (eqb_sym f.0 g.0, eqb_sym s t, extents_meet_symmetric range other) refl
meets_symmetric (Name _ _) _ = refl
meets_symmetric (Names _) _ = refl
meets_symmetric (Attr _) _ = refl
meets_symmetric (Layout _) _ = refl
meets_symmetric (Parent _) _ = refl
meets_symmetric (Bytes _ _ _) _ = refl

-- A part meets itself, bytes where the ends of their range are in order.
pub meets_itself : (part : Part) → IsOrdered (guard part).1 → Meets part part
meets_itself (Name d n) ordered = (refl, refl)
meets_itself (Names d) ordered = refl
meets_itself (Attr f) ordered = refl
meets_itself (Layout f) ordered = refl
meets_itself (Parent f) ordered = refl
meets_itself (Bytes f s range) ordered = (refl, refl, (range.first, (le_refl _, ordered), (le_refl _, ordered)))
