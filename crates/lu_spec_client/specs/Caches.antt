-- The locks that a client holds, what it knows of objects under them, and its own changes, a field at a time (Wang et al.,
-- Understanding Lustre Filesystem Internals: the lock manager's client side and the client's page cache).
use Rattle.std.specs.Prelude.{ℕ, ◌+◌, max, ◌==◌, ◌&&◌, not, if◌then◌else◌, Bool, true, false, List, [], ◌∷◌, ◌++◌, length, map, filter}
use Rattle.std.specs.Prelude.{Option, Some, None}
use Rattle.lu_base.specs.declared.ids.Cookie.{Cookie}
use Rattle.lu_base.specs.declared.locks.Lock.{Lock}
use Rattle.lu_base.specs.declared.locks.Policy.{Policy}
use Rattle.lu_base.specs.declared.locks.Policy.TheVariants.{Bits, Range}
use Rattle.lu_base.specs.declared.locks.Resource.{Resource}
use Rattle.lu_msg.specs.declared.answers.Answer.{Answer}
use Rattle.lu_msg.specs.declared.answers.Answer.TheVariants as answer
use Rattle.lu_msg.specs.declared.messages.Reply.{Reply as ReplyTo}
use Rattle.lu_msg.specs.declared.operations.Op.{Op}
use Rattle.lu_msg.specs.declared.operations.Op.TheVariants as op
use Rattle.lu_held.specs.declared.locks.HeldLock.{HeldLock}
use Rattle.lu_held.specs.declared.locks.Change.TheVariants as lock
use Rattle.lu_held.specs.Locks.{same_resource, reaches_end, name_of, is_named, named}
use Rattle.lu_held.specs.Held.{is_held, changed, used, without, unmarked}
use Rattle.lu_spec_machine.specs.Places.{laid}
use Rattle.lu_spec_entries.specs.declared.changes.Flush.{Flush}
use Rattle.lu_spec_entries.specs.declared.changes.Flush.TheVariants.{Cut, Put}
use Rattle.lu_spec_entries.specs.Words.{Entry, Heard, Hold, Drop, Life, Pins, Unpins, Marks, Unmarks, Changes, WritesBack, Acks, Fills}
use Rattle.lu_spec_entries.specs.Words.{Zeroes, Grown, Shows, Line}
use Rattle.lu_spec_entries.specs.Fields.{at_client}
use Rattle.lu_spec_client.specs.Bytes.{Bytes, outside, zeroed}
use Rattle.lu_spec_client.specs.Patches.{Patch, clean, written, cut, flown, acked}

-- ---- tables by object, in the order in which objects came; what isn't there is empty

abbrev pub at_object : {A : Type 0} → A → Resource → List (Resource × A) → A
at_object empty r [] = empty
at_object empty r (e ∷ m) = if same_resource e.0 r then e.1 else at_object empty r m

abbrev pub with_object : {A : Type 0} → Resource → A → List (Resource × A) → List (Resource × A)
with_object r x [] = (r, x) ∷ []
with_object r x (e ∷ m) = if same_resource e.0 r then (e.0, x) ∷ m else e ∷ with_object r x m

-- the same where it is there; what isn't is empty and stays so
abbrev pub on_object : {A : Type 0} → Resource → (A → A) → List (Resource × A) → List (Resource × A)
on_object r change [] = []
on_object r change (e ∷ m) = if same_resource e.0 r then (e.0, change e.1) ∷ m else e ∷ on_object r change m

abbrev pub patch_at : Resource → List (Resource × Patch) → Patch
patch_at r m = at_object clean r m

abbrev pub bytes_at : Resource → List (Resource × Bytes) → Bytes
bytes_at r m = at_object [] r m

-- ---- held locks, the last used first

abbrev pub held_as : ℕ → Lock → Bool → HeldLock
held_as t l marked = record { target = record { 0 = t }; lock = l; pins = 0; marked = marked }

-- in the place of one of its name, or as the last used
abbrev pub with_held : HeldLock → List HeldLock → List HeldLock
with_held h held = if is_held (name_of h) held then map (λ g. if is_named (name_of h) g then h else g) held else h ∷ held

-- the lock that a granted request for it brings, and those that a reply on names brings
abbrev pub granted_lock : Op → ReplyTo → Answer → List Lock
granted_lock (op.Enqueue resource mode asked) r (answer.Granted cookie extent size) =
    record { cookie = cookie; resource = resource; ask = record { who = r.who; mode = mode; policy = Range extent } } ∷ []
granted_lock o r a = []

abbrev pub brought : Op → ReplyTo → List Lock
brought o r = r.locks ++ granted_lock o r r.answer

abbrev pub with_brought : ℕ → List Lock → List HeldLock → List HeldLock
with_brought t [] held = held
with_brought t (l ∷ locks) held = with_brought t locks (with_held (held_as t l false) held)

abbrev pub reads_held : Entry → Bool
reads_held (Heard target flight reply) = true
reads_held (Hold target lock marked size seen) = true
reads_held (Drop target lock) = true
reads_held (Pins name) = true
reads_held (Unpins name) = true
reads_held (Marks name) = true
reads_held (Unmarks target) = true
reads_held _ = false

-- the locks of a reply come when it is heard; the lines that follow show them
abbrev pub held_after : List HeldLock → Entry → List HeldLock
held_after held (Heard t f r) = with_brought t (brought f.op r) held
held_after held (Hold t l marked size seen) = with_held (held_as t l marked) held
held_after held (Drop t l) = without (named (record { 0 = t }) l.cookie) held
held_after held (Pins name) = changed name lock.Pin held
held_after held (Unpins name) = used name (changed name lock.Unpin held)
held_after held (Marks name) = changed name lock.Mark held
held_after held (Unmarks t) = unmarked (record { 0 = t }) held
held_after held _ = held

abbrev pub held_at : ℕ → List Line → List HeldLock
held_at c past = at_client reads_held held_after [] c past

-- ---- bytes that are known

abbrev pub forgotten_bytes : Policy → Resource → List (Resource × Bytes) → List (Resource × Bytes)
forgotten_bytes (Bits bits) r bytes = bytes
forgotten_bytes (Range extent) r bytes = on_object r (outside extent) bytes

abbrev pub reads_bytes : Entry → Bool
reads_bytes (Fills resource offset bytes) = true
reads_bytes (Zeroes resource size) = true
reads_bytes (Drop target lock) = true
reads_bytes (Life who) = true
reads_bytes _ = false

abbrev pub bytes_after : List (Resource × Bytes) → Entry → List (Resource × Bytes)
bytes_after bytes (Fills r at bs) = with_object r (laid at bs (bytes_at r bytes)) bytes
bytes_after bytes (Zeroes r n) = on_object r (zeroed n) bytes
bytes_after bytes (Drop t l) = forgotten_bytes l.ask.policy l.resource bytes
bytes_after bytes (Life who) = []
bytes_after bytes _ = bytes

abbrev pub known_bytes_at : ℕ → List Line → List (Resource × Bytes)
known_bytes_at c past = at_client reads_bytes bytes_after [] c past

-- ---- numbers kept for a lock of an object

-- The object's size where the lock reaches the end, or the greatest offset shown under the lock.
pub record Note : Type 0 where
  pub resource : Resource
  pub cookie : Cookie
  pub number : ℕ

abbrev pub is_note : Resource → Cookie → Note → Bool
is_note r cookie note = same_resource note.resource r && note.cookie.0 == cookie.0

abbrev pub noted : Resource → Cookie → List Note → Option ℕ
noted r cookie [] = None
noted r cookie (note ∷ notes) = if is_note r cookie note then Some note.number else noted r cookie notes

abbrev pub without_note : Resource → Cookie → List Note → List Note
without_note r cookie notes = filter (λ note. not (is_note r cookie note)) notes

-- a lock on names has the resource of its file's first object, and may have the cookie of a lock there: it says nothing of it
abbrev pub forgotten_notes : Policy → Lock → List Note → List Note
forgotten_notes (Bits bits) l notes = notes
forgotten_notes (Range extent) l notes = without_note l.resource l.cookie notes

abbrev pub with_note : Resource → Cookie → ℕ → List Note → List Note
with_note r cookie number notes = record { resource = r; cookie = cookie; number = number } ∷ without_note r cookie notes

-- ---- the size under a lock to the end: that of its grant, and what the client's own answered changes made of it

abbrev pub size_kept : Lock → Option ℕ → List Note → List Note
size_kept l None notes = notes
size_kept l (Some size) notes = if reaches_end l.ask.policy then with_note l.resource l.cookie size notes else notes

abbrev pub grown : Flush → ℕ → ℕ
grown (Cut n) size = n
grown (Put at bs) size = max size (at + length bs)

abbrev pub grown_note : Resource → Flush → Note → Note
grown_note r change note = if same_resource note.resource r then record note { number = grown change note.number } else note

abbrev pub grown_notes : Resource → Flush → List Note → List Note
grown_notes r change notes = map (grown_note r change) notes

abbrev pub reads_sizes : Entry → Bool
reads_sizes (Hold target lock marked size seen) = true
reads_sizes (Drop target lock) = true
reads_sizes (Grown resource change) = true
reads_sizes (Life who) = true
reads_sizes _ = false

abbrev pub sizes_after : List Note → Entry → List Note
sizes_after sizes (Hold t l marked size seen) = size_kept l size sizes
sizes_after sizes (Drop t l) = forgotten_notes l.ask.policy l sizes
sizes_after sizes (Grown r change) = grown_notes r change sizes
sizes_after sizes (Life who) = []
sizes_after sizes _ = sizes

abbrev pub sizes_at : ℕ → List Line → List Note
sizes_at c past = at_client reads_sizes sizes_after [] c past

-- ---- the greatest offset shown under a lock

abbrev pub shown_to : Option ℕ → ℕ → ℕ
shown_to None last = last
shown_to (Some before) last = max before last

abbrev pub reads_shown : Entry → Bool
reads_shown (Shows resource cookie last) = true
reads_shown (Drop target lock) = true
reads_shown (Life who) = true
reads_shown _ = false

abbrev pub shown_after : List Note → Entry → List Note
shown_after shown (Shows r cookie last) = with_note r cookie (shown_to (noted r cookie shown) last) shown
shown_after shown (Drop t l) = forgotten_notes l.ask.policy l shown
shown_after shown (Life who) = []
shown_after shown _ = shown

abbrev pub shown_at : ℕ → List Line → List Note
shown_at c past = at_client reads_shown shown_after [] c past

-- ---- changes of its own

abbrev pub made : Flush → Patch → Patch
made (Cut n) p = cut n p
made (Put at bs) p = written at bs p

abbrev pub reads_patches : Entry → Bool
reads_patches (Changes resource change) = true
reads_patches (WritesBack resource change) = true
reads_patches (Acks resource) = true
reads_patches (Life who) = true
reads_patches _ = false

abbrev pub patches_after : List (Resource × Patch) → Entry → List (Resource × Patch)
patches_after patches (Changes r change) = with_object r (made change (patch_at r patches)) patches
patches_after patches (WritesBack r flush) = on_object r (flown flush) patches
patches_after patches (Acks r) = on_object r acked patches
patches_after patches (Life who) = []
patches_after patches _ = patches

abbrev pub patches_at : ℕ → List Line → List (Resource × Patch)
patches_at c past = at_client reads_patches patches_after [] c past
