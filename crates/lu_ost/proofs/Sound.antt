-- Objects stay sound when one of them is put, cut or begun.
use Rattle.std.proofs.Common.{◌≡◌, ℕ, ◌+◌, ◌≤◌, ◌^◌, List, length, sym, subst}
use Rattle.lu_base.specs.declared.locks.Resource.{Resource}
use Rattle.lu_spec_machine.specs.Footprint.{Every}
use Rattle.lu_spec_machine.specs.Objects.{Object, put_bytes, cut_bytes}
use Rattle.lu_service.specs.Contents.{object_in, with_object, IsObject}
use Rattle.lu_ost.specs.Stored.{sound_in, sound_with, put_sound, cut_sound}

abbrev AreObjects : List (Resource × Object) → Type 0
AreObjects objects = Every (λ (e : Resource × Object). IsObject e.1) objects

pub begun_sound : (r : Resource) (x : Object) (objects after : List (Resource × Object)) → IsObject x → AreObjects objects → after
    ≡ with_object r x objects → AreObjects after
begun_sound r x objects after is sound made = subst AreObjects (sym made) (sound_with r x objects is sound)

pub put_all_sound : (r : Resource) (offset : ℕ) (bytes : List ℕ) (objects after : List (Resource × Object)) → offset + length bytes ≤ 2 ^ 40
    → AreObjects objects
    → after ≡ with_object r (put_bytes offset bytes (object_in objects r)) objects → AreObjects after
put_all_sound r offset bytes objects after fits sound made = begun_sound r (put_bytes offset bytes (object_in objects r)) objects after
    (put_sound offset bytes (object_in objects r) fits (sound_in objects r sound)) sound made

pub cut_all_sound : (r : Resource) (size : ℕ) (objects after : List (Resource × Object)) → size ≤ 2 ^ 40 → AreObjects objects
    → after ≡ with_object r (cut_bytes size (object_in objects r)) objects → AreObjects after
cut_all_sound r size objects after fits sound made = begun_sound r (cut_bytes size (object_in objects r)) objects after
    (cut_sound size (object_in objects r) fits (sound_in objects r sound)) sound made

pub same_sound : (objects after : List (Resource × Object)) → AreObjects objects → after ≡ objects → AreObjects after
same_sound objects after sound same = subst AreObjects (sym same) sound
