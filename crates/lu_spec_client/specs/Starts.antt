-- What a call does first, and what it makes of the metadata target's answer. A call on names asks the metadata target unless
-- all that it would be told is known; a call on bytes looks for its locks (the calls are those of POSIX.1; which of them
-- are answered from what is known is this project's profile).
use Rattle.std.specs.Prelude.{ℕ, nat_lt, ◌==◌, if◌then◌else◌, Bool, false, List, [], ◌∷◌, ◌++◌, length, filter, pos, Option, Some, None}
use Rattle.lu_base.specs.declared.ids.At.{At}
use Rattle.lu_base.specs.declared.ids.Fid.{Fid}
use Rattle.lu_base.specs.declared.locks.Lock.{Lock}
use Rattle.lu_layout.specs.Raid0.{Raid0}
use Rattle.lu_msg.specs.declared.answers.Answer.{Answer}
use Rattle.lu_msg.specs.declared.answers.Answer.TheVariants as answer
use Rattle.lu_msg.specs.declared.calls.Call.{Call}
use Rattle.lu_msg.specs.declared.calls.Call.TheVariants as call
use Rattle.lu_msg.specs.declared.operations.Op.{Op}
use Rattle.lu_msg.specs.declared.operations.Op.TheVariants as op
use Rattle.lu_held.specs.declared.names.LockName.{LockName}
use Rattle.lu_spec_entries.specs.Carried.{HandleFile, Kind, Narrow, Writes, Cuts, Stats, Glimpses, Work, Asking, Unasked, Answered, Stage}
use Rattle.lu_spec_entries.specs.Carried.{Looks, Came, Flushing, Sizes, Running}
use Rattle.lu_spec_entries.specs.Words.{Entry, Queues, Binds, Pins}
use Rattle.lu_spec_client.specs.Stripes.{stripes}
use Rattle.lu_spec_client.specs.States.{Client, Store, follow_store}
use Rattle.lu_spec_client.specs.Wants.{wants_of}
use Rattle.lu_spec_client.specs.Known.{Notes, Known, KnownFile, Found, found_at_path, lookup_known, list_known, layout_known}
use Rattle.lu_spec_client.specs.Known.{directory_known, file_known, cookies_of_file, names_of}
use Rattle.lu_spec_client.specs.Advances.{queued_for, tells, looks, comes, acts}
use Rattle.lu_spec_client.specs.WriteBack.{flush_from, flushing}
use Rattle.lu_spec_client.specs.Glimpses.{glimpses, glimpse_asks, glimpse_comes, glimpse_hears}

-- ---- a call on bytes in its stage

abbrev pub looks_at : At → ℕ → Kind → Running → Work → Store → List Entry
looks_at at slot (Glimpses sizes) r w s = glimpse_asks at slot w.left sizes r w s
looks_at at slot kind r w s = looks slot (acts at slot kind) w.left r w s

abbrev pub comes_at : At → ℕ → Kind → Running → Work → Store → Lock → List Entry
comes_at at slot (Glimpses sizes) r w s l = glimpse_comes at slot l w.left sizes r w s
comes_at at slot kind r w s l = comes slot (acts at slot kind) l w.left r w s

abbrev pub sizes_heard : At → ℕ → Asking → Kind → Running → Work → Store → List Entry
sizes_heard at slot (Answered t reply) (Glimpses sizes) r w s = glimpse_hears at slot w.left sizes reply.answer r w s
sizes_heard at slot asking kind r w s = []

abbrev pub advances_at : At → ℕ → Stage → Running → Store → List Entry
advances_at at slot (Looks w) r s = looks_at at slot w.kind r w s
advances_at at slot (Came w l) r s = comes_at at slot w.kind r w s l
advances_at at slot (Sizes w) r s = sizes_heard at slot r.asking w.kind r w s
advances_at at slot (Flushing i) r s = flushing at slot i r r.file s
advances_at at slot _ r s = []

abbrev pub work_on : Fid → Raid0 → Kind → Work
work_on fid layout kind = record { kind = kind; fid = fid; layout = layout; used = []; left = wants_of layout fid kind }

-- ---- a call on names

abbrev pub asks_names : ℕ → Op → List Entry
asks_names slot o = Queues 0 (queued_for slot o) ∷ []

abbrev pub pins : List LockName → List Entry
pins [] = []
pins (name ∷ names) = Pins name ∷ pins names

abbrev pub with_pins : List LockName → Running → Running
with_pins names r = record r { pins = r.pins ++ names }

-- it acts on known facts and is told in this turn; it pins and unpins their locks in rising cookie
abbrev pub tells_known : At → ℕ → Running → Known → List Entry
tells_known at slot r known = pins (names_of known.cookies) ++ tells slot (with_pins (names_of known.cookies) r) at known.answer None

abbrev pub starts_known : At → ℕ → Running → Op → Option Known → List Entry
starts_known at slot r o None = asks_names slot o
starts_known at slot r o (Some known) = tells_known at slot r known

-- a stat of a file pins the locks under which its names, attributes and layout are known, and goes on for its size
abbrev pub stats : At → ℕ → Fid → Raid0 → Kind → List LockName → Running → Store → List Entry
stats at slot fid layout kind names r s = follow_store (pins names) (looks_at at slot kind (with_pins names r) (work_on fid layout kind)) s

abbrev pub stats_file : At → ℕ → List (List ℕ) → Running → Store → Option KnownFile → List Entry
stats_file at slot path r s None = asks_names slot (op.Stat path)
stats_file at slot path r s (Some f) = stats at slot f.fid f.layout (Stats f.mode f.links) (names_of f.cookies) r s

abbrev pub starts_stat : At → ℕ → List (List ℕ) → Running → Store → Notes → Found → Option Known → List Entry
starts_stat at slot path r s n found (Some known) = tells_known at slot r known
starts_stat at slot path r s n found None = stats_file at slot path r s (file_known n found)

abbrev pub notes_of : Client → Notes
notes_of k = record { facts = k.facts; held = k.store.held }

-- ---- a call on a handle

-- how many calls are on the open of this number
abbrev pub is_on : ℕ → Option Running → Bool
is_on number None = false
is_on number (Some r) = elim r.file [ None ↦ false | Some f ↦ f.number.0 == number ]

abbrev pub count_on : ℕ → List (Option Running) → ℕ
count_on number calls = length (filter (is_on number) calls)

-- a close waits for the other calls on its open
abbrev pub starts_close : ℕ → List (Option Running) → Option HandleFile → List Entry
starts_close slot calls None = []
starts_close slot calls (Some f) = if nat_lt 1 (count_on f.number.0 calls) then [] else asks_names slot (op.Close f.number f.fid)

abbrev pub starts_bytes : At → ℕ → Kind → Running → Store → Option HandleFile → List Entry
starts_bytes at slot kind r s None = []
starts_bytes at slot kind r s (Some f) = looks_at at slot kind r (work_on f.fid f.layout kind) s

abbrev pub starts_flush : At → ℕ → Running → Store → Option HandleFile → List Entry
starts_flush at slot r s None = []
starts_flush at slot r s (Some f) = flush_from at slot r f (stripes f.layout) s

abbrev pub starts_glimpse : At → ℕ → Running → Store → Option HandleFile → List Entry
starts_glimpse at slot r s None = []
starts_glimpse at slot r s (Some f) = glimpses at slot (wants_of f.layout f.fid (Glimpses [])) [] r (work_on f.fid f.layout (Glimpses [])) s

-- ---- a call that has asked nothing yet

-- a `create` that gives no numbers begins with the defaults
abbrev pub with_stripes : Call → Call
with_stripes (call.Create p None) = call.Create p (Some (1048576, pos 1))
with_stripes c = c

-- what the calls that always ask the metadata target ask; `create` without numbers has the defaults
abbrev pub names_op : Call → Option Op
names_op (call.Mkdir p) = Some (op.Mkdir p)
names_op (call.Create p None) = Some (op.Create p 1048576 (pos 1))
names_op (call.Create p (Some numbers)) = Some (op.Create p numbers.0 numbers.1)
names_op (call.Link p q) = Some (op.Link p q)
names_op (call.Unlink p) = Some (op.Unlink p)
names_op (call.Rmdir p) = Some (op.Rmdir p)
names_op (call.Rename p q) = Some (op.Rename p q)
names_op (call.Chmod p mode) = Some (op.Chmod p mode)
names_op (call.Open h p) = Some (op.Open p)
names_op _ = None

abbrev pub starts_names : ℕ → Option Op → List Entry
starts_names slot None = []
starts_names slot (Some o) = asks_names slot o

abbrev pub starts : At → ℕ → Call → Running → Client → List Entry
starts at slot (call.Lookup p) r k = starts_known at slot r (op.Lookup p) (lookup_known (found_at_path (notes_of k) p))
starts at slot (call.Stat p) r k =
    starts_stat at slot p r k.store (notes_of k) (found_at_path (notes_of k) p)
    (directory_known (notes_of k) (found_at_path (notes_of k) p))
starts at slot (call.List p) r k = starts_known at slot r (op.List p) (list_known (notes_of k) (found_at_path (notes_of k) p))
starts at slot (call.Layout p) r k = starts_known at slot r (op.Layout p) (layout_known (notes_of k) (found_at_path (notes_of k) p))
starts at slot (call.Close h) r k = starts_close slot k.calls r.file
starts at slot (call.Read h p n) r k = starts_bytes at slot (Narrow p n) r k.store r.file
starts at slot (call.Write h p bs) r k = starts_bytes at slot (Writes p bs) r k.store r.file
starts at slot (call.Cut h n) r k = starts_bytes at slot (Cuts n) r k.store r.file
starts at slot (call.Flush h) r k = starts_flush at slot r k.store r.file
starts at slot (call.Glimpse h) r k = starts_glimpse at slot r k.store r.file
starts at slot c r k = starts_names slot (names_op c)

-- ---- a call whose request to the metadata target was answered

-- an open binds its handle when it is told; a stat of a file goes on; else the answer is told, with the turn of its act
abbrev pub answers : At → ℕ → At → Answer → Call → Running → Client → List Entry
answers at slot acted (answer.OpenFile fid number layout) (call.Open h path) r k =
    Binds h (record { fid = fid; number = number; layout = layout }) ∷ tells slot r acted (answer.Made fid) None
answers at slot acted (answer.FileStat fid mode links layout) (call.Stat path) r k =
    stats at slot fid layout (Stats mode links) (names_of (cookies_of_file (notes_of k) path fid)) r k.store
answers at slot acted a c r k = tells slot r acted a None

abbrev pub goes_plain : At → ℕ → Asking → Running → Client → List Entry
goes_plain at slot Unasked r k = starts at slot r.call r k
goes_plain at slot (Answered t reply) r k = answers at slot reply.at reply.answer r.call r k
goes_plain at slot _ r k = []
