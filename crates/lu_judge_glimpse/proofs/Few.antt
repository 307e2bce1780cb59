-- No object has a stripe past the greatest number of one: files have at most eight stripes, and requests name no other.
use Rattle.std.proofs.Common.{◌≡◌, ◌≢◌, ℕ, ◌+◌, ◌<◌, ◌≤◌, ◌^◌, Bool, true, false, List, [], ◌∷◌, length, inl, inr, Option, Some, None, refl}
use Rattle.std.proofs.Common.{ap, ◌∙◌, sym, subst, lit<, zero, suc, arith}
use Rattle.std.specs.Prelude.{if◌then◌else◌, is_some}
use Rattle.std.specs.List.{fold, range_with_len}
use Rattle.std.specs.Map.{lookup}
use Rattle.std.specs.Option.{unwrap_or, option_map}
use Rattle.lu_base.specs.declared.ids.Fid.{Fid}
use Rattle.lu_base.specs.declared.ids.Txn.{Txn}
use Rattle.lu_base.specs.declared.locks.Resource.{Resource}
use Rattle.lu_layout.specs.Raid0.{Raid0, stripe_of, offset_of, below_of}
use Rattle.lu_layout.specs.Sound.{IsLayout}
use Rattle.lu_layout.proofs.Places.{stripe_of-lt}
use Rattle.lu_msg.specs.declared.answers.Answer.{Answer}
use Rattle.lu_msg.specs.declared.answers.Answer.TheVariants.{Made}
use Rattle.lu_msg.specs.declared.calls.Call.{Call}
use Rattle.lu_msg.specs.declared.calls.Call.TheVariants as call
use Rattle.lu_msg.specs.declared.operations.Op.{Op}
use Rattle.lu_msg.specs.declared.operations.Op.TheVariants as op
use Rattle.lu_trace.specs.WellFormed.{IsOp}
use Rattle.lu_spec_machine.specs.Bytes.{FileBytes, object_at, on_object, put_piece, cut_piece, write, cut}
use Rattle.lu_spec_machine.specs.Footprint.{empty, answer}
use Rattle.lu_spec_machine.specs.Machine.{Machine, bytes_of, with_bytes, was_file, changed_bytes, piece_bytes, piece_next, data_change}
use Rattle.lu_spec_machine.specs.Machine.{object_of, start}
use Rattle.lu_spec_machine.specs.Objects.{Object, put_bytes, cut_bytes}
use Rattle.lu_spec_machine.specs.Removal.{Item, Acts, Forgets, contents}
use Rattle.lu_spec_machine.specs.Striping.{new_layout}
use Rattle.lu_spec_machine.specs.Tree.{Tree, Inode, no_file, same_fid, fid_cmp, layout}
use Rattle.lu_spec_machine.specs.Trim.{Rising}
use Rattle.lu_spec_machine.proofs.Bytes.{on_other}
use Rattle.lu_spec_machine.proofs.Keys.{fid_tells, find-put}
use Rattle.lu_spec_machine.proofs.Layouts.{new_layouts}
use Rattle.lu_posix.specs.Names.{made_layout}
use Rattle.lu_posix.specs.Shown.{MachineState, Shows, layout_in}
use Rattle.lu_posix.proofs.FileLayouts.{noted, layouts_after}
use Rattle.lu_judge_glimpse.specs.Histories.{HasFew}

-- the file's bytes have no object past that number
abbrev FewBytes : FileBytes → Type 0
FewBytes b = (stripe : ℕ) → 2 ^ 16 ≤ stripe → object_at b stripe ≡ []

few_with : (m : Machine) (f : Fid) (b : FileBytes) → HasFew m → FewBytes b → HasFew (with_bytes m f b)
few_with m f b few here g stripe past = ap (λ (o : Option FileBytes). object_at (unwrap_or o []) stripe)
    (find-put same_fid fid_tells fid_cmp f b g m.bytes) ∙ by (same_fid f g)
  where
    by : (v : Bool) → object_at (unwrap_or (if v then Some b else lookup (same_fid g) m.bytes) []) stripe ≡ []
    by true = here stripe past
    by false = few g stripe past

few_piece : (change : Object → Object) (stripe : ℕ) (b : FileBytes) → stripe < 2 ^ 16 → FewBytes b → FewBytes (on_object change stripe b)
few_piece change stripe b low few other past =
    let ne : other ≢ stripe = omega arith in
    on_other change stripe other b ne ∙ few other past

-- ---- pieces

pub few_reached : (m : Machine) (o : Op) → IsOp o → HasFew m → HasFew (piece_next m o)
few_reached m (op.Put resource cookie offset bytes) ok few =
    few_with m resource.fid (put_piece resource.stripe offset bytes (bytes_of m resource.fid)) few
    (few_piece (put_bytes offset bytes) resource.stripe (bytes_of m resource.fid) ok.0.1 (few resource.fid))
few_reached m (op.Cut resource cookie size) ok few =
    few_with m resource.fid (cut_piece resource.stripe size (bytes_of m resource.fid)) few
    (few_piece (cut_bytes size) resource.stripe (bytes_of m resource.fid) ok.0.1 (few resource.fid))
few_reached m _ ok few = few

-- ---- layouts

abbrev IsGood : Option Raid0 → Type 0
IsGood None = Unit {0}
IsGood (Some l) = IsLayout l

good_made : (osts : ℕ) (number : Txn) (o : Op) (a : Answer) → 1 ≤ osts → osts ≤ 8 → IsGood (made_layout osts number o a)
good_made osts number (op.Create path size count) (Made fid) some most = by (new_layout osts number size count) refl
  where
    by : (l : Option Raid0) → new_layout osts number size count ≡ l → IsGood l
    by None is = tt
    by (Some l) is = (new_layouts osts number size count l is).sound (omega arith) most
good_made osts number _ _ some most = tt

good_noted : (made : Option Raid0) (number : Txn) (f : Fid) (old : Option Raid0) → IsGood made → IsGood old
    → IsGood (noted made number f old)
good_noted None number f old new before = before
good_noted (Some l) number f old new before = by (same_fid _ f)
  where
    by : (v : Bool) → IsGood (if v then Some l else old)
    by true = new
    by false = before

good_contents : (osts : ℕ) (past : List Item) → 1 ≤ osts → osts ≤ 8 → Rising past → (f : Fid)
    → IsGood (layout_in (contents osts empty past) f)
good_contents osts [] some most rising f = tt
good_contents osts (Acts a ∷ past) some most rising f =
    subst IsGood (sym (layouts_after osts past rising.1 a f))
    (good_noted (made_layout osts a.number a.op (answer osts (contents osts empty past) a)) a.number f
    (layout_in (contents osts empty past) f)
    (good_made osts a.number a.op (answer osts (contents osts empty past) a) some most) (good_contents osts past some most rising.1 f))
good_contents osts (Forgets who ∷ past) some most rising f = good_contents osts past some most rising f

-- ---- calls

few_write : (l : Raid0) → IsLayout l → (offset : ℕ) (bytes : List ℕ) (b : FileBytes) → FewBytes b → FewBytes (write l offset bytes b)
few_write l good offset [] b few = few
few_write l good offset (x ∷ bytes) b few =
    let low : stripe_of l offset < length l.targets = stripe_of-lt l offset good in
    let most : length l.targets ≤ 8 = good.targets.1 in
    let small : 8 < 2 ^ 16 = lit< tt in
    few_write l good (offset + 1) bytes (put_piece (stripe_of l offset) (offset_of l offset) (x ∷ []) b)
    (few_piece (put_bytes (offset_of l offset) (x ∷ [])) (stripe_of l offset) b (omega (arith, low, most, small)) few)

few_cuts : (l : Raid0) (n count first : ℕ) → first + count < 2 ^ 16 → (b : FileBytes) → FewBytes b
    → FewBytes (fold (λ k stripe. cut_piece stripe (below_of l stripe n) k) b (range_with_len first count))
few_cuts l n zero first low b few = few
few_cuts l n (suc count) first low b few =
    few_cuts l n count (first + 1) (omega (arith, low)) (cut_piece first (below_of l first n) b)
    (few_piece (cut_bytes (below_of l first n)) first b (omega (arith, low)) few)

few_cut : (l : Raid0) → IsLayout l → (n : ℕ) (b : FileBytes) → FewBytes b → FewBytes (cut l n b)
few_cut l good n b few =
    let most : length l.targets ≤ 8 = good.targets.1 in
    let small : 8 < 2 ^ 16 = lit< tt in
    few_cuts l n (length l.targets) 0 (omega (arith, most, small)) b few

module _ (osts : ℕ) (s : MachineState) (m : Machine) (some : 1 ≤ osts) (most : osts ≤ 8) (shown : Shows osts s m) (few : HasFew m)
    (f : Fid) where
  has_layout : was_file m f ≡ true → IsLayout (layout m.tree f)
  has_layout was = by (lookup (same_fid f) m.tree.files) was good
    where
      good : IsGood (layout_in m.tree f)
      good = subst (λ (t : Tree). IsGood (layout_in t f)) (sym shown.names.plain)
          (good_contents osts shown.names.past some most shown.names.rising f)

      by : (o : Option Inode) → is_some o ≡ true → IsGood (option_map (λ (i : Inode). i.layout) o) → IsLayout (unwrap_or o no_file).layout
      by None e g = absurd (cc (e))
      by (Some i) e g = g

  few_changed : (change : FileBytes → FileBytes) → (was_file m f ≡ true → FewBytes (change (bytes_of m f)))
      → HasFew (changed_bytes m f change)
  few_changed change here = by (was_file m f) refl
    where
      by : (v : Bool) → was_file m f ≡ v → HasFew (if v then with_bytes m f (change (bytes_of m f)) else m)
      by true is = few_with m f (change (bytes_of m f)) few (here is)
      by false is = few

  pub few_called : (x : Call) → HasFew (changed_bytes m f (data_change m f x))
  few_called (call.Write h offset bytes) = few_changed (data_change m f (call.Write h offset bytes))
      (λ was. few_write (layout m.tree f) (has_layout was) offset bytes (bytes_of m f) (few f))
  few_called (call.Cut h n) = few_changed (data_change m f (call.Cut h n))
      (λ was. few_cut (layout m.tree f) (has_layout was) n (bytes_of m f) (few f))
  few_called _ = few_changed (λ (b : FileBytes). b) (λ was. few f)
