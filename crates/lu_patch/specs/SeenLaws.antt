-- Laws: reads through a patch, and the size over it, are those of the object after the cut and then the bytes, and a
-- client's own changes act on what it sees.
use Rattle.std.specs.Prelude.{◌≡◌, ◌≢◌, ℕ, List, Option, Some, None, IfSome}
use Rattle.std.specs.Option.{unwrap_or}
use Rattle.lu_spec_machine.specs.Places.{found_at, RisingFrom}
use Rattle.lu_spec_machine.specs.Objects.{Object, put_bytes, cut_bytes, object_size}
use Rattle.lu_spec_client.specs.Patches.{Patch, written, cut, reads_at, size_over}
use Rattle.lu_patch.specs.Seen.{seen}

-- a byte as it is read: 0 where it is absent
abbrev pub byte_of : Object → ℕ → ℕ
byte_of object q = unwrap_or (found_at object q) 0

-- what is read over what is known of the object is what is seen; known or not, a byte that the patch gives by itself is
-- seen over every object
abbrev pub ReadsWhatIsSeen : Type 0
ReadsWhatIsSeen =
    (p : Patch) (object : Object) (q : ℕ) (known : Option ℕ)
    → IfSome known (λ b. b ≡ byte_of object q) → IfSome (reads_at p q known) (λ b. b ≡ byte_of (seen p object) q)

-- nothing is missing where the object's byte is known
abbrev pub ReadsWhatIsKnown : Type 0
ReadsWhatIsKnown = (p : Patch) (q b : ℕ) → reads_at p q (Some b) ≢ None

abbrev pub SizeIsSeen : Type 0
SizeIsSeen = (p : Patch) (object : Object) → size_over (object_size object) p ≡ object_size (seen p object)

-- a client's own writes and cuts change what it sees as they change an object
abbrev pub WritesWhatIsSeen : Type 0
WritesWhatIsSeen = (at : ℕ) (bytes : List ℕ) (p : Patch) (object : Object) → RisingFrom 0 object → seen (written at bytes p) object
    ≡ put_bytes at bytes (seen p object)

abbrev pub CutsWhatIsSeen : Type 0
CutsWhatIsSeen = (n : ℕ) (p : Patch) (object : Object) → RisingFrom 0 object → seen (cut n p) object ≡ cut_bytes n (seen p object)
