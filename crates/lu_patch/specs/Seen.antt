-- An object as a client sees it through its patch: the object after the pending cut, and then the dirty bytes
-- (Wang et al., Understanding Lustre Filesystem Internals, the client's cache of dirty pages; POSIX.1, read after write).
use Rattle.std.specs.Prelude.{ℕ, List, [], ◌∷◌, Option, Some, None}
use Rattle.lu_spec_entries.specs.declared.changes.Dirty.{Dirty}
use Rattle.lu_spec_machine.specs.Places.{Places}
use Rattle.lu_spec_machine.specs.Objects.{Object, put_bytes, cut_bytes}
use Rattle.lu_spec_client.specs.Patches.{Patch}

abbrev pub cut_by : Option ℕ → Object → Object
cut_by None object = object
cut_by (Some n) object = cut_bytes n object

-- each dirty byte is put at its position
abbrev pub put_on : Places Dirty → Object → Object
put_on [] object = object
put_on (e ∷ m) object = put_bytes e.0 (e.1.byte ∷ []) (put_on m object)

abbrev pub seen : Patch → Object → Object
seen p object = put_on p.dirty (cut_by p.pending object)
