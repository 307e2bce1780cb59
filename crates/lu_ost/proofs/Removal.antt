-- The removal law of the operations on objects.
use Rattle.std.proofs.Common.{◌≡◌, ℕ, ◌<◌, ◌≤◌, ◌^◌, ◌-◌, ◌+◌, max, min, ◌⊎◌, inl, inr, Bool, true, false, List, [], ◌∷◌, None, refl, sym}
use Rattle.std.proofs.Common.{ap, ◌∙◌, subst, arith}
use Rattle.std.specs.Prelude.{if◌then◌else◌, nat_le, ◌==◌, ◌&&◌}
use Rattle.std.proofs.lemmas.Bool.Decides.{nat_tests}
use Rattle.lu_base.specs.declared.ids.Fid.{Fid}
use Rattle.lu_base.specs.declared.locks.Extent.{Extent}
use Rattle.lu_base.specs.declared.locks.Resource.{Resource}
use Rattle.lu_lock.specs.Growth.{the_end}
use Rattle.lu_lock.specs.Overlap.{extents_meet}
use Rattle.lu_part.specs.declared.parts.Part.{Part}
use Rattle.lu_part.specs.declared.parts.Part.TheVariants as part
use Rattle.lu_part.specs.Meets.{meets}
use Rattle.lu_spec_machine.specs.Footprint as footprint
use Rattle.lu_spec_machine.specs.Footprint.{Operation, Every, Apart, empty}
use Rattle.lu_spec_machine.specs.Places.{found_at, is_in}
use Rattle.lu_spec_machine.specs.Objects.{Object}
use Rattle.lu_spec_machine.specs.Removal.{Item, Acts, Forgets, pick}
use Rattle.lu_spec_machine.specs.Tree.{Tree}
use Rattle.lu_spec_machine.proofs.Footprints.{same_refl}
use Rattle.lu_spec_machine.proofs.Places.{end_past, in_parts}
use Rattle.lu_service.specs.declared.services.Kind.TheVariants.{Ost}
use Rattle.lu_service.specs.Acts.{Agree}
use Rattle.lu_service.specs.Contents.{Contents, IsSound, IsObject, Same, SameBytes, object_in, most_bytes}
use Rattle.lu_service.specs.Objects.{objects, bare, objects_after}
use Rattle.lu_service.specs.Removal.{left, without, Clear, Untouched, ArePerformed, CanGo, Removes}
use Rattle.lu_object.proofs.Offsets.{only}
use Rattle.lu_ost.specs.Stored.{sound_in, after_same, after_stays}
use Rattle.lu_ost.specs.Lawful.{objects_lawful}

-- ---- what the past leaves

sound_left : (past : List Item) → ArePerformed Ost past → IsSound (left objects bare past)
sound_left [] h = tt
sound_left (Acts a ∷ past) h = objects_lawful.sound (left objects bare past) a h.0 (sound_left past h.1)
sound_left (Forgets who ∷ past) h = sound_left past h

nameless : (past : List Item) → ((left objects bare past).osts ≡ 0) × ((left objects bare past).tree ≡ empty)
nameless [] = (refl, refl)
nameless (Acts a ∷ past) = nameless past
nameless (Forgets who ∷ past) = nameless past

picked : (keep : ℕ → Bool) (past : List Item) → ArePerformed Ost past → ArePerformed Ost (pick keep past)
picked keep [] h = tt
picked keep (Acts a ∷ past) h = by (keep a.number.0) (picked keep past h.1)
  where
    by : (v : Bool) → ArePerformed Ost (pick keep past) → ArePerformed Ost (if v then Acts a ∷ pick keep past else pick keep past)
    by true rest = (h.0, rest)
    by false rest = rest
picked keep (Forgets who ∷ past) h = picked keep past h

-- ---- the byte at an offset that none taken out wrote

module _ (keep : ℕ → Bool) (r : Resource) where
  same_byte : (q : ℕ) → q ≤ the_end → (past : List Item) → Clear objects bare keep past (part.Bytes r.fid r.stripe (only q))
      → found_at (object_in (left objects bare past).objects r) q ≡ found_at (object_in (without objects bare keep past).objects r) q
  same_byte q within [] clear = refl
  same_byte q within (Acts a ∷ past) clear = by (keep a.number.0) refl (same_byte q within past clear.1)
    where
      by : (v : Bool) → keep a.number.0 ≡ v
          → found_at (object_in (left objects bare past).objects r) q ≡ found_at (object_in (without objects bare keep past).objects r) q
          → found_at (object_in (objects_after a.op (left objects bare past).objects) r) q
          ≡ found_at (object_in (left objects bare (if v then Acts a ∷ pick keep past else pick keep past)).objects r) q
      by true is ih = after_same a.op (left objects bare past).objects (without objects bare keep past).objects r q ih
      by false is ih = after_stays a.op (left objects bare past).objects r q within (clear.0 is) ∙ ih
  same_byte q within (Forgets who ∷ past) clear = same_byte q within past clear

-- ---- from a range to its offsets

meets_more : (written extent : Extent) (q : ℕ) → is_in extent q ≡ true → extents_meet written extent ≡ false → extents_meet written (only q)
    ≡ false
meets_more written extent q on apart = by (extents_meet written (only q)) refl
  where
    by : (v : Bool) → nat_le (max written.first q) (min written.last q) ≡ v → nat_le (max written.first q) (min written.last q) ≡ false
    by true is =
        let parts = in_parts extent q on in
        let meet : nat_le (max written.first extent.first) (min written.last extent.last) ≡ true =
        grind (arith, nat_tests, parts.0, parts.1) in
        absurd (cc (apart, meet))
    by false is = is

with_last : (u v w x : Bool) → (w ≡ false → x ≡ false) → (u && v && w) ≡ false → (u && v && x) ≡ false
with_last true true w x less h = less h
with_last true false w x less h = refl
with_last false v w x less h = refl

part_apart : (w : Part) (f : Fid) (stripe : ℕ) (extent : Extent) (q : ℕ) → is_in extent q ≡ true → meets w (part.Bytes f stripe extent)
    ≡ false → meets w (part.Bytes f stripe (only q)) ≡ false
part_apart (part.Bytes g s written) f stripe extent q on apart =
    with_last (g.0 == f.0) (s == stripe) (extents_meet written extent) (extents_meet written (only q))
    (λ h. meets_more written extent q on h) apart
part_apart (part.Name d n) f stripe extent q on apart = refl
part_apart (part.List d) f stripe extent q on apart = refl
part_apart (part.Attr g) f stripe extent q on apart = refl
part_apart (part.Layout g) f stripe extent q on apart = refl
part_apart (part.Parent g) f stripe extent q on apart = refl

pub all_apart : (ws : List Part) (f : Fid) (stripe : ℕ) (extent : Extent) (q : ℕ) → is_in extent q ≡ true
    → Apart ws (part.Bytes f stripe extent) → Apart ws (part.Bytes f stripe (only q))
all_apart [] f stripe extent q on apart = tt
all_apart (w ∷ ws) f stripe extent q on apart = (part_apart w f stripe extent q on apart.0, all_apart ws f stripe extent q on apart.1)

module _ (keep : ℕ → Bool) where
  clear_at : (past : List Item) (f : Fid) (stripe : ℕ) (extent : Extent) (q : ℕ) → is_in extent q ≡ true
      → Clear objects bare keep past (part.Bytes f stripe extent) → Clear objects bare keep past (part.Bytes f stripe (only q))
  clear_at [] f stripe extent q on clear = tt
  clear_at (Acts a ∷ past) f stripe extent q on clear = (
    λ gone. all_apart (objects.writes (left objects bare past) a) f stripe extent q on
        (clear.0 gone),
    clear_at past f stripe extent q on clear.1,
  )
  clear_at (Forgets who ∷ past) f stripe extent q on clear = clear_at past f stripe extent q on clear

  module _ (past : List Item) (performed : ArePerformed Ost past) where
    sound : IsSound (left objects bare past) × IsSound (without objects bare keep past)
    sound = (sound_left past performed, sound_left (pick keep past) (picked keep past performed))

    -- no object reaches past the end
    same_bytes : (r : Resource) (extent : Extent) → Clear objects bare keep past (part.Bytes r.fid r.stripe extent)
        → SameBytes (left objects bare past) (without objects bare keep past) r extent
    same_bytes r extent clear q on = by (nat_le q the_end) refl
      where
        ends : (kept : List (Resource × Object)) → Every (λ (e : Resource × Object). IsObject e.1) kept → most_bytes ≤ q
            → found_at (object_in kept r) q ≡ None
        ends kept h past_it = end_past (object_in kept r) q (let e = (sound_in kept r h).1 in omega (arith, past_it, e))

        by : (v : Bool) → nat_le q the_end ≡ v → found_at (object_in (left objects bare past).objects r) q
            ≡ found_at (object_in (without objects bare keep past).objects r) q
        by true is = same_byte keep r q (grind (arith, nat_tests)) past (clear_at past r.fid r.stripe extent q on clear)
        by false is =
            let past_it : most_bytes ≤ q = grind (arith, nat_tests) in
            ends (left objects bare past).objects sound.0 past_it ∙ sym (ends (without objects bare keep past).objects sound.1 past_it)

    same_tree : (left objects bare past).tree ≡ (without objects bare keep past).tree
    same_tree = (nameless past).1 ∙ sym (nameless (pick keep past)).1

    of_trees : (p : Part) → footprint.Same (left objects bare past).tree (without objects bare keep past).tree p
    of_trees p = subst (λ t. footprint.Same (left objects bare past).tree t p) same_tree (same_refl (left objects bare past).tree p)

    same_part : (p : Part) → Clear objects bare keep past p → Same (left objects bare past) (without objects bare keep past) p
    same_part (part.Bytes f stripe extent) clear = same_bytes (record { fid = f; stripe = stripe }) extent clear
    same_part (part.Name d n) clear = of_trees (part.Name d n)
    same_part (part.List d) clear = of_trees (part.List d)
    same_part (part.Attr f) clear = of_trees (part.Attr f)
    same_part (part.Layout f) clear = of_trees (part.Layout f)
    same_part (part.Parent f) clear = of_trees (part.Parent f)

    same_parts : (ps : List Part) → Every (Clear objects bare keep past) ps
        → Every (Same (left objects bare past) (without objects bare keep past)) ps
    same_parts [] h = tt
    same_parts (p ∷ ps) h = (same_part p h.0, same_parts ps h.1)

    agree : (a : Operation) → Untouched objects bare keep past a → Agree objects (left objects bare past) (without objects bare keep past) a
    agree a clear = record {
      osts = (nameless past).0 ∙ sym (nameless (pick keep past)).0;
      sound = sound;
      touched =
          same_parts (objects.touches (left objects bare past) a) clear;
    }

pub objects_removal : Removes objects Ost bare
objects_removal =
    record {
      answer = λ keep past can a takes clear. objects_lawful.answer (left objects bare past) (without objects bare keep past) a
          (agree keep past can.performed a clear);
      alike = λ keep past can a takes clear. objects_lawful.touched (left objects bare past) (without objects bare keep past) a
          (agree keep past can.performed a clear);
      read = λ keep past can r page extent clear.
          objects_lawful.read (left objects bare past) (without objects bare keep past) r page extent (sound keep past can.performed)
          (same_bytes keep past can.performed r extent clear);
    }
