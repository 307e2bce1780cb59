-- The laws of footprints hold of the operations on names, which are no operations on objects.
use Rattle.std.proofs.Common.{◌≡◌, refl, ap, subst, Bool, true, false, true≢false, List, [], ◌∷◌}
use Rattle.std.specs.Prelude.{if◌then◌else◌}
use Rattle.lu_part.specs.declared.parts.Part.{Part}
use Rattle.lu_part.specs.declared.parts.Part.TheVariants as part
use Rattle.lu_spec_machine.specs.Footprint as footprint
use Rattle.lu_spec_machine.specs.Footprint.{Operation, Every}
use Rattle.lu_spec_machine.proofs.Numbers.{number_is_free}
use Rattle.lu_spec_machine.proofs.Stated.{touched_decide, refusals_stay, unchanged_stay, transactions_grant_nothing}
use Rattle.lu_service.specs.declared.services.Kind.{Kind}
use Rattle.lu_service.specs.declared.services.Kind.TheVariants.{Mdt, Ost}
use Rattle.lu_service.specs.Acts.{IsLawful, Agree, Alike}
use Rattle.lu_service.specs.Contents.{Contents, Same}
use Rattle.lu_service.specs.Names.{names}
use Rattle.lu_service.specs.Objects.{objects}

module _ (s t : Contents) where
  -- what is the same to a service is so to the tree
  pub same_part : (p : Part) → Same s t p → footprint.Same s.tree t.tree p
  same_part (part.Name d n) same = same
  same_part (part.List d) same = same
  same_part (part.Attr f) same = same
  same_part (part.Layout f) same = same
  same_part (part.Parent f) same = same
  same_part (part.Bytes f stripe extent) same = tt

  pub same_parts : (ps : List Part) → Every (Same s t) ps → Every (footprint.Same s.tree t.tree) ps
  same_parts [] same = same
  same_parts (p ∷ ps) same = (same_part p same.0, same_parts ps same.1)

-- the answer, and all that comes of an act, of two services
abbrev Decided : Contents → Contents → Operation → Type 0
Decided s t a = (names.answer s a ≡ names.answer t a) × Alike names s t a a

-- over the number of object storage targets of the one and over that of the other
decided : (s t : Contents) (a : Operation) → Agree names s t a → Decided s t a
decided s t a agree =
    let h = touched_decide s.osts s.tree t.tree a (same_parts s t (names.touches s a) agree.touched) in
    subst (λ n. Decided s (record t { osts = n }) a) agree.osts
    (h.answer, record { touches = h.touches; writes = h.writes; grants = h.grants; changes = h.changes })

pub names_lawful : IsLawful names Mdt
names_lawful =
    record {
      answer = λ s t a agree. (decided s t a agree).0;
      touched = λ s t a agree. (decided s t a agree).1;
      free = λ s a b is same.
          let h = number_is_free s.osts s.tree a b is same in
          record { touches = h.touches; writes = h.writes; grants = h.grants; changes = h.changes };
      refused = λ s a e is. let h = refusals_stay s.osts s.tree a e is in (h.0, h.1, h.2);
      unchanged = λ s a no.
          ((unchanged_stay s.osts s.tree a no).1, ap (λ v. if v then a.number.0 else s.last) no);
      changed = λ s a yes.
          (transactions_grant_nothing s.osts s.tree a yes, ap (λ v. if v then a.number.0 else s.last) yes);
      forgotten = λ s who. refl;
      read = λ s t r page extent sound same. refl;
      within = λ s r page extent. refl;
      sound = λ s a performs sound. sound;
      still_sound = λ s who sound. sound;
    }

abbrev is_mdt : Kind → Bool
is_mdt Mdt = true
is_mdt Ost = false

-- the metadata target is no object storage target
pub serves_no_objects : Mdt ≡ Ost → names ≡ objects
serves_no_objects is = absurd (true≢false (ap is_mdt is))
