-- The laws of the machine's bytes, position by position through a layout, and offset by offset of an object.
use Rattle.std.specs.Prelude.{◌≡◌, ◌≢◌, ℕ, ◌+◌, ◌-◌, ◌*◌, true, if◌then◌else◌, ◌<◌, ◌≤◌, ◌⊎◌, List, length, Some, None, slice_index}
use Rattle.std.specs.Option.{unwrap_or}
use Rattle.lu_base.specs.declared.locks.Extent.{Extent}
use Rattle.lu_layout.specs.Raid0.{Raid0, stripe_of, position_of, below_of}
use Rattle.lu_layout.specs.Sound.{IsLayout}
use Rattle.lu_spec_machine.specs.Places.{found_at, RisingFrom, is_in}
use Rattle.lu_spec_machine.specs.Objects.{Object, put_bytes, cut_bytes, object_size, page_size, page_extent, content}
use Rattle.lu_spec_machine.specs.Bytes.{FileBytes, object_at, byte_at, size_of, write, cut, put_piece, cut_piece}

-- ---- one object

-- a put puts its bytes and leaves the others, and the offsets rise as before
abbrev pub ObjectPuts : Type 0
ObjectPuts =
    (offset : ℕ) (bytes : List ℕ) (object : Object)
    → record {
      puts : (k : ℕ) → k < length bytes → found_at (put_bytes offset bytes object) (offset + k) ≡ Some (slice_index bytes k);
      leaves : (q : ℕ) → (q < offset) ⊎ (offset + length bytes ≤ q) → found_at (put_bytes offset bytes object) q ≡ found_at object q;
      rises : RisingFrom 0 object → RisingFrom 0 (put_bytes offset bytes object);
    }

-- a cut drops what stands from n on and keeps the bytes below, adds a zero alone, and makes n the size
abbrev pub ObjectCuts : Type 0
ObjectCuts =
    (n : ℕ) (object : Object)
    → record {
      size : object_size (cut_bytes n object) ≡ n;
      drops : (q : ℕ) → n ≤ q → found_at (cut_bytes n object) q ≡ None;
      keeps : (q b : ℕ) → q < n → found_at object q ≡ Some b → found_at (cut_bytes n object) q ≡ Some b;
      leaves : (q : ℕ) → q + 1 < n → found_at (cut_bytes n object) q ≡ found_at object q;
      zero : (q : ℕ) → q + 1 ≡ n → found_at object q ≡ None → found_at (cut_bytes n object) q ≡ Some 0;
      rises : RisingFrom 0 object → RisingFrom 0 (cut_bytes n object);
    }

-- a `get` of a page reads what is there under the lock, other bytes as 0, and leaves out nothing that is there
abbrev pub GetReads : Type 0
GetReads =
    (page : ℕ) (lock : Extent) (object : Object) → RisingFrom 0 object
    → record {
      each : (k : ℕ) → k < length (content page lock object) → slice_index (content page lock object) k
          ≡ (if is_in lock (page * page_size + k) then unwrap_or (found_at object (page * page_size + k)) 0 else 0);
      whole : length (content page lock object) ≤ page_size;
      past : (q : ℕ) → is_in (page_extent page) q ≡ true → is_in lock q ≡ true → page * page_size + length (content page lock object) ≤ q
          → found_at object q ≡ None;
      last : 0 < length (content page lock object) → (is_in lock (page * page_size + length (content page lock object) - 1) ≡ true)
          × (found_at object (page * page_size + length (content page lock object) - 1) ≢ None);
    }

-- ---- a file through a layout

-- no byte stands at or past the size, and one stands right before it
abbrev pub SizeIsEnd : Type 0
SizeIsEnd =
    (l : Raid0) (m : FileBytes) → IsLayout l
    → record {
      past : (p : ℕ) → size_of l m ≤ p → byte_at l m p ≡ None;
      last : 0 < size_of l m → byte_at l m (size_of l m - 1) ≢ None;
    }

-- and what stands on a stripe that the layout lacks is left
abbrev pub WritePuts : Type 0
WritePuts =
    (l : Raid0) (offset : ℕ) (bytes : List ℕ) (m : FileBytes) → IsLayout l
    → record {
      puts : (k : ℕ) → k < length bytes → byte_at l (write l offset bytes m) (offset + k) ≡ Some (slice_index bytes k);
      leaves : (p : ℕ) → (p < offset) ⊎ (offset + length bytes ≤ p) → byte_at l (write l offset bytes m) p ≡ byte_at l m p;
      lacks : (stripe : ℕ) → length l.targets ≤ stripe → object_at (write l offset bytes m) stripe ≡ object_at m stripe;
    }

-- a cut keeps the bytes below n, drops the others, adds zeros alone, and makes n the size; each object is cut to the number
-- of its stripe's positions below n
abbrev pub CutEnds : Type 0
CutEnds =
    (l : Raid0) (n : ℕ) (m : FileBytes) → IsLayout l
    → record {
      size : size_of l (cut l n m) ≡ n;
      drops : (p : ℕ) → n ≤ p → byte_at l (cut l n m) p ≡ None;
      keeps : (p b : ℕ) → p < n → byte_at l m p ≡ Some b → byte_at l (cut l n m) p ≡ Some b;
      zeros : (p : ℕ) → byte_at l m p ≡ None → (byte_at l (cut l n m) p ≡ None) ⊎ (byte_at l (cut l n m) p ≡ Some 0);
      objects : (stripe : ℕ) → stripe < length l.targets → object_at (cut l n m) stripe
          ≡ cut_bytes (below_of l stripe n) (object_at m stripe);
      lacks : (stripe : ℕ) → length l.targets ≤ stripe → object_at (cut l n m) stripe ≡ object_at m stripe;
    }

-- a piece puts bytes at the offsets of its stripe, and changes no other
abbrev pub PiecePuts : Type 0
PiecePuts =
    (l : Raid0) (stripe offset : ℕ) (bytes : List ℕ) (m : FileBytes) → IsLayout l → stripe < length l.targets
    → record {
      puts : (k : ℕ) → k < length bytes → byte_at l (put_piece stripe offset bytes m) (position_of l stripe (offset + k))
          ≡ Some (slice_index bytes k);
      leaves : (o : ℕ) → (o < offset) ⊎ (offset + length bytes ≤ o) → byte_at l (put_piece stripe offset bytes m) (position_of l stripe o)
          ≡ byte_at l m (position_of l stripe o);
      others : (p : ℕ) → stripe_of l p ≢ stripe → byte_at l (put_piece stripe offset bytes m) p ≡ byte_at l m p;
    }

-- the same of a stripe's cut
abbrev pub PieceCuts : Type 0
PieceCuts =
    (l : Raid0) (stripe q : ℕ) (m : FileBytes) → IsLayout l → stripe < length l.targets
    → record {
      drops : (o : ℕ) → q ≤ o → byte_at l (cut_piece stripe q m) (position_of l stripe o) ≡ None;
      keeps : (o b : ℕ) → o < q → byte_at l m (position_of l stripe o) ≡ Some b → byte_at l (cut_piece stripe q m) (position_of l stripe o)
          ≡ Some b;
      ends : 0 < q → byte_at l (cut_piece stripe q m) (position_of l stripe (q - 1)) ≢ None;
      others : (p : ℕ) → stripe_of l p ≢ stripe → byte_at l (cut_piece stripe q m) p ≡ byte_at l m p;
    }

-- a piece is the plain change of its stripe's object, whatever any layout has, and leaves each other object
abbrev pub PiecesArePlain : Type 0
PiecesArePlain =
    (stripe : ℕ) (m : FileBytes)
    → record {
      put : (offset : ℕ) (bytes : List ℕ) → object_at (put_piece stripe offset bytes m) stripe
          ≡ put_bytes offset bytes (object_at m stripe);
      cut : (size : ℕ) → object_at (cut_piece stripe size m) stripe ≡ cut_bytes size (object_at m stripe);
      other_put : (other : ℕ) → other ≢ stripe → (offset : ℕ) (bytes : List ℕ) → object_at (put_piece stripe offset bytes m) other
          ≡ object_at m other;
      other_cut : (other : ℕ) → other ≢ stripe → (size : ℕ) → object_at (cut_piece stripe size m) other ≡ object_at m other;
    }
