-- The laws of footprints hold of the operations on objects.
use Rattle.std.proofs.Common.{◌≡◌, ℕ, ◌<◌, ◌≤◌, ◌^◌, ◌-◌, ◌+◌, ◌*◌, ◌⊎◌, inl, inr, Bool, true, false, List, [], ◌∷◌, None, refl, sym, ap}
use Rattle.std.proofs.Common.{◌∙◌, arith}
use Rattle.std.specs.Prelude.{if◌then◌else◌, nat_le}
use Rattle.std.proofs.lemmas.Bool.Decides.{nat_tests}
use Rattle.lu_base.specs.declared.ids.Who.{Who}
use Rattle.lu_base.specs.declared.locks.Extent.{Extent}
use Rattle.lu_base.specs.declared.locks.Resource.{Resource}
use Rattle.lu_lock.specs.Growth.{the_end}
use Rattle.lu_msg.specs.declared.answers.Answer.{Answer}
use Rattle.lu_msg.specs.declared.answers.Answer.TheVariants as told
use Rattle.lu_msg.specs.declared.answers.Errno.{Errno}
use Rattle.lu_msg.specs.declared.operations.Op.{Op}
use Rattle.lu_msg.specs.declared.operations.Op.TheVariants as op
use Rattle.lu_spec_machine.specs.Footprint.{Operation, Every}
use Rattle.lu_spec_machine.specs.Places.{found_at, is_in}
use Rattle.lu_spec_machine.specs.Objects.{Object, object_touches, object_writes, object_size, put_bytes, cut_bytes, page_size, page_extent}
use Rattle.lu_spec_machine.specs.Objects.{filled}
use Rattle.lu_spec_machine.proofs.Places.{end_past, in_whole}
use Rattle.lu_spec_bytes.proofs.Rising.{same_map}
use Rattle.lu_service.specs.declared.services.Kind.TheVariants.{Ost}
use Rattle.lu_service.specs.Acts.{IsLawful, Agree, common}
use Rattle.lu_service.specs.Contents.{Contents, IsSound, IsObject, Same, SameBytes, object_in, most_bytes}
use Rattle.lu_service.specs.Objects.{objects, alters, answer_of, objects_after}
use Rattle.lu_service.specs.Takes.{Performs}
use Rattle.lu_ost.specs.Stored.{sound_in, sound_with, put_sound, cut_sound}
use Rattle.lu_object.proofs.Pages.{same_content, inside_common}

-- what has the same bytes up to the end is the same
same_object : (o p : Object) → IsObject o → IsObject p → ((q : ℕ) → is_in (record { first = 0; last = the_end }) q ≡ true → found_at o q
    ≡ found_at p q) → o ≡ p
same_object o p one two same = same_map 0 o p one.0 two.0 (λ q h. by q (nat_le q the_end) refl)
  where
    by : (q : ℕ) (v : Bool) → nat_le q the_end ≡ v → found_at o q ≡ found_at p q
    by q true is = same q (in_whole (record { first = 0; last = the_end }) q (omega arith) (grind (arith, nat_tests)))
    by q false is =
        let past : most_bytes ≤ q = grind (arith, nat_tests) in
        end_past o q (omega (arith, past, one.1)) ∙ sym (end_past p q (omega (arith, past, two.1)))

same_answer : (s t : Contents) (o : Op) → IsSound s → IsSound t → Every (Same s t) (object_touches o (answer_of s.objects o))
    → answer_of s.objects o ≡ answer_of t.objects o
same_answer s t (op.Get r cookie page) one two same =
    ap (λ bytes. told.Content bytes) (same_content page (page_extent page) (object_in s.objects r) (object_in t.objects r)
    (sound_in s.objects r one).0 (sound_in t.objects r two).0 same.0)
same_answer s t (op.Size r) one two same =
    ap (λ o. told.Size (object_size o)) (same_object (object_in s.objects r) (object_in t.objects r) (sound_in s.objects r one)
    (sound_in t.objects r two) same.0)
same_answer s t (op.Put r cookie offset bytes) one two same = refl
same_answer s t (op.Cut r cookie size) one two same = refl
same_answer s t _ one two same = refl

refusals : (kept : List (Resource × Object)) (o : Op) (e : Errno) → answer_of kept o ≡ told.Refused e → (alters o ≡ false)
    × (object_writes o ≡ [])
refusals kept (op.Get r cookie page) e is = absurd (cc (is))
refusals kept (op.Size r) e is = absurd (cc (is))
refusals kept (op.Put r cookie offset bytes) e is = absurd (cc (is))
refusals kept (op.Cut r cookie size) e is = absurd (cc (is))
refusals kept _ e is = (refl, refl)

readings : (o : Op) → alters o ≡ false → object_writes o ≡ []
readings (op.Put r cookie offset bytes) is = absurd (cc (is))
readings (op.Cut r cookie size) is = absurd (cc (is))
readings _ is = refl

still : (o : Op) (kept : List (Resource × Object)) → Performs Ost o → Every (λ (e : Resource × Object). IsObject e.1) kept
    → Every (λ (e : Resource × Object). IsObject e.1) (objects_after o kept)
still (op.Put r cookie offset bytes) kept fits sound = sound_with r (put_bytes offset bytes (object_in kept r)) kept
    (put_sound offset bytes (object_in kept r) fits (sound_in kept r sound)) sound
still (op.Cut r cookie size) kept fits sound = sound_with r (cut_bytes size (object_in kept r)) kept
    (cut_sound size (object_in kept r) fits (sound_in kept r sound)) sound
still _ kept fits sound = sound

pub objects_lawful : IsLawful objects Ost
objects_lawful =
    record {
      answer = λ s t a agree. same_answer s t a.op agree.sound.0 agree.sound.1 agree.touched;
      touched = λ s t a agree. record {
        touches = ap (λ answer. object_touches a.op answer)
            (same_answer s t a.op agree.sound.0 agree.sound.1 agree.touched);
        writes = refl;
        grants = refl;
        changes = refl;
      };
      free = λ s a b same who. record {
        touches = ap (λ o. object_touches o (answer_of s.objects o)) same;
        writes =
            ap (λ o. object_writes o) same;
        grants = refl;
        changes = ap (λ o. alters o) same;
      };
      refused = λ s a e is. let h = refusals s.objects a.op e is in (h.0, refl, h.1);
      unchanged = λ s a off. (readings a.op off, ap (λ v. if v then a.number.0 else s.last) off);
      changed = λ s a on. (refl, ap (λ v. if v then a.number.0 else s.last) on);
      forgotten = λ s who. refl;
      read = λ s t r page extent sound same. same_content page extent (object_in s.objects r) (object_in t.objects r)
          (sound_in s.objects r sound.0).0 (sound_in t.objects r sound.1).0 same;
      within = λ s r page extent. ap (λ m. filled page_size (page * page_size) m)
          (inside_common (page_extent page) extent (object_in s.objects r));
      sound = λ s a performs sound. still a.op s.objects performs sound;
      still_sound = λ s who sound. sound;
    }
