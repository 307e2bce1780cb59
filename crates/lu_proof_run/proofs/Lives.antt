-- A client's number is that of all its lives, and it dies by no other turn than its death: no row but that has the line of
-- a death, and the new life that an eviction brings has the old one's number.
use Rattle.std.proofs.Common.{◌≡◌, ℕ, zero, suc, ◌+◌, ◌-◌, ◌==◌, ◌&&◌, if◌then◌else◌, Bool, true, false, List, [], ◌∷◌, ◌++◌, Option, Some}
use Rattle.std.proofs.Common.{None, refl, ◌∙◌, arith}
use Rattle.std.specs.List.{list_any}
use Rattle.std.specs.Prelude.{nat_lt, filter, drop, reverse}
use Rattle.std.proofs.lemmas.Bool.Decides.{nat_tests}
use Rattle.lu_base.specs.declared.ids.At.{At}
use Rattle.lu_base.specs.declared.ids.Cookie.{Cookie}
use Rattle.lu_base.specs.declared.ids.Fid.{Fid}
use Rattle.lu_base.specs.declared.ids.Node.{Node}
use Rattle.lu_base.specs.declared.ids.Node.TheVariants as node
use Rattle.lu_base.specs.declared.ids.Who.{Who}
use Rattle.lu_base.specs.declared.locks.Lock.{Lock}
use Rattle.lu_base.specs.declared.locks.Policy.{Policy}
use Rattle.lu_base.specs.declared.locks.Policy.TheVariants.{Range}
use Rattle.lu_base.specs.declared.locks.Resource.{Resource}
use Rattle.lu_layout.specs.Raid0.{Raid0}
use Rattle.lu_msg.specs.declared.answers.Answer.{Answer}
use Rattle.lu_msg.specs.declared.answers.Answer.TheVariants as answer
use Rattle.lu_msg.specs.declared.calls.Call.{Call}
use Rattle.lu_msg.specs.declared.calls.Call.TheVariants as call
use Rattle.lu_msg.specs.declared.messages.GrantNotice.{GrantNotice}
use Rattle.lu_msg.specs.declared.messages.Message.{Message}
use Rattle.lu_msg.specs.declared.messages.Message.TheVariants as message
use Rattle.lu_msg.specs.declared.messages.Reply.{Reply as ReplyTo}
use Rattle.lu_msg.specs.declared.operations.Op.{Op}
use Rattle.lu_msg.specs.declared.operations.Op.TheVariants as op
use Rattle.lu_held.specs.declared.locks.HeldLock.{HeldLock}
use Rattle.lu_held.specs.declared.locks.Use.{Use}
use Rattle.lu_held.specs.declared.names.LockName.{LockName}
use Rattle.lu_held.specs.Held.{in_order, is_held, serving}
use Rattle.lu_held.specs.Locks.{named, same_resource, is_free}
use Rattle.lu_spec_machine.specs.Fits.{answer_fits}
use Rattle.lu_spec_entries.specs.declared.changes.Flush.{Flush}
use Rattle.lu_spec_entries.specs.declared.uses.Using.{Using}
use Rattle.lu_spec_entries.specs.Carried.{Queued, Flight, HandleFile, Kind, Narrow, Wide, Writes, Cuts, Stats, Glimpses, Work, Asking}
use Rattle.lu_spec_entries.specs.Carried.{Unasked, Answered, Stage, Plain, Looks, Enqueued, Waits, Came, Forgotten, Gets, Flushing, Sizes}
use Rattle.lu_spec_entries.specs.Carried.{Running}
use Rattle.lu_spec_entries.specs.Words.{Entry, Take, Tick, Heard, Life, Die, Fail, Knows, Line, line, with_turn}
use Rattle.lu_spec_client.specs.Advances.{Next, unpins, looks, comes, reads_wide, widened, widens, reads_narrow, writes, cuts, acts}
use Rattle.lu_spec_client.specs.Caches.{brought, patch_at}
use Rattle.lu_spec_client.specs.Calls.{file_of, call_on, is_dead}
use Rattle.lu_spec_client.specs.Glimpses.{glimpses, glimpse_asks, glimpse_comes, glimpse_hears}
use Rattle.lu_spec_client.specs.Imports.{Import, Standing, Joining, Recovering, Serving, Replay, Kept, is_serving, import_of}
use Rattle.lu_spec_client.specs.Known.{Known, KnownFile, Notes, Found, found_at_path, lookup_known, list_known, layout_known}
use Rattle.lu_spec_client.specs.Known.{directory_known, file_known, cookies_of_file, names_of}
use Rattle.lu_spec_client.specs.Locks.{marks_of, trims, dirty_total, is_called, must_write, writes_next, visits, visits_all, locks_go}
use Rattle.lu_spec_client.specs.Looks.{missing, has_reached}
use Rattle.lu_spec_client.specs.Messages as messages
use Rattle.lu_spec_client.specs.Patches.{Patch, in_flight}
use Rattle.lu_spec_client.specs.Recovery.{held_of, replays, lock_replays, tells_all, on_calls, forgets_stage, is_left_at, looks_stage}
use Rattle.lu_spec_client.specs.Recovery.{where_stage, comes_up, resumes, ends_calls, drops_all, next_life, joins_all, evicted, ticks_at}
use Rattle.lu_spec_client.specs.Recovery.{ticks}
use Rattle.lu_spec_client.specs.Rows.{Event, Begins, Comes, Ticks, Dies, rests, row_call, row}
use Rattle.lu_spec_client.specs.Sending.{next_flight, has_room, resends, sends, sends_to, sends_all}
use Rattle.lu_spec_client.specs.Slots.{goes_at, goes_on, goes, passes, all_slots, is_free_close, slots_go, begins_on, begins_close}
use Rattle.lu_spec_client.specs.Slots.{begins_open, begins}
use Rattle.lu_spec_client.specs.Starts.{looks_at, comes_at, sizes_heard, advances_at, pins, tells_known, starts_known, stats, stats_file}
use Rattle.lu_spec_client.specs.Starts.{starts_stat, notes_of, count_on, starts_close, starts_bytes, starts_flush, starts_glimpse, work_on}
use Rattle.lu_spec_client.specs.Starts.{with_pins, names_op, starts_names, starts, answers, goes_plain}
use Rattle.lu_spec_client.specs.States.{Client, Limits, Store, store_turn, after, turn}
use Rattle.lu_spec_client.specs.Stripes.{object}
use Rattle.lu_spec_client.specs.WriteBack.{flush_under, flushes, is_clean, flush_from, flushing}

-- of one entry: it is no death and no failed disk, and a new life has this client's number
abbrev pub lives : ℕ → Entry → Bool
lives c (Life who) = who.client == c
lives c Die = false
lives c Fail = false
lives c _ = true

abbrev pub all_live : ℕ → List Entry → Bool
all_live c [] = true
all_live c (e ∷ es) = lives c e && all_live c es

module _ (c : ℕ) where
  -- ---- one list after another, one or the other

  more_live : (es fs : List Entry) → all_live c es ≡ true → all_live c fs ≡ true → all_live c (es ++ fs) ≡ true
  more_live [] fs first second = second
  more_live (e ∷ es) fs first second = by (lives c e) first (λ (h : all_live c es ≡ true). more_live es fs h second)
    where
      by : (b : Bool) → (b && all_live c es) ≡ true → (all_live c es ≡ true → all_live c (es ++ fs) ≡ true) → (b && all_live c (es ++ fs))
          ≡ true
      by true first rest = rest first
      by false first rest = absurd (cc)

  either_lives : (b : Bool) (es fs : List Entry) → all_live c es ≡ true → all_live c fs ≡ true → all_live c (if b then es else fs) ≡ true
  either_lives true es fs first second = first
  either_lives false es fs first second = second

  -- of something, where there is one
  option_lives : {A : Type 0} (o : Option A) (none : List Entry) (some : A → List Entry) → all_live c none ≡ true
      → ((x : A) → all_live c (some x) ≡ true) → all_live c (elim o [ None ↦ none | Some x ↦ some x ]) ≡ true
  option_lives None none some without with_one = without
  option_lives (Some x) none some without with_one = with_one x

  -- ---- calls on bytes

  abbrev NextLives : Next → Type 0
  NextLives next = (r : Running) (w : Work) (s : Store) → all_live c (next r w s) ≡ true

  unpins_live : (names : List LockName) → all_live c (unpins names) ≡ true
  unpins_live [] = refl
  unpins_live (name ∷ names) = unpins_live names

  looks_live : (slot : ℕ) (next : Next) → NextLives next → (wants : List Use) → NextLives (looks slot next wants)
  looks_live slot next lives [] r w s = lives r w s
  looks_live slot next lives (wanted ∷ left) r w s = option_lives (serving wanted s.held) _ _ refl
      (λ h. looks_live slot next lives left _ _ _)

  comes_live : (slot : ℕ) (next : Next) → NextLives next → (l : Lock) (wants : List Use) → NextLives (comes slot next l wants)
  comes_live slot next lives l [] r w s = refl
  comes_live slot next lives l (wanted ∷ left) r w s = looks_live slot next lives left _ _ _

  reads_wide_live : (at : At) (slot p n : ℕ) → NextLives (reads_wide at slot p n)
  reads_wide_live at slot p n r w s = option_lives (missing w.layout p (p + n) s w.used) _ _ (unpins_live r.pins) (λ g. refl)

  widens_live : (at : At) (slot p n : ℕ) → NextLives (widens at slot p n)
  widens_live at slot p n r w s =
      let wide : Work = widened p n w in
      more_live (unpins r.pins) _ (unpins_live r.pins)
      (looks_live slot (reads_wide at slot p n) (reads_wide_live at slot p n) wide.left (record r { pins = [] }) wide
      (store_turn s (unpins r.pins)))

  reads_narrow_live : (at : At) (slot p n : ℕ) → NextLives (reads_narrow at slot p n)
  reads_narrow_live at slot p n r w s =
      option_lives (missing w.layout p (p + n) s w.used) _ _ (either_lives (has_reached w.layout (p + n - 1) w.used s) _ _
      (unpins_live r.pins) (widens_live at slot p n r w s)) (λ g. refl)

  writes_live : (l : Raid0) (p : ℕ) (bs : List ℕ) (us : List Using) → all_live c (writes l p bs us) ≡ true
  writes_live l p bs [] = refl
  writes_live l p bs (u ∷ us) = writes_live l p bs us

  cuts_live : (l : Raid0) (n : ℕ) (us : List Using) → all_live c (cuts l n us) ≡ true
  cuts_live l n [] = refl
  cuts_live l n (u ∷ us) = cuts_live l n us

  acts_live : (at : At) (slot : ℕ) (kind : Kind) → NextLives (acts at slot kind)
  acts_live at slot (Narrow p n) r w s = reads_narrow_live at slot p n r w s
  acts_live at slot (Wide p n) r w s = reads_wide_live at slot p n r w s
  acts_live at slot (Writes p bs) r w s = more_live (writes w.layout p bs w.used) _ (writes_live w.layout p bs w.used) (unpins_live r.pins)
  acts_live at slot (Cuts n) r w s = more_live (cuts w.layout n w.used) _ (cuts_live w.layout n w.used) (unpins_live r.pins)
  acts_live at slot (Stats mode links) r w s = unpins_live r.pins
  acts_live at slot (Glimpses sizes) r w s = refl

  -- ---- writing back

  flushes_live : (resource : Resource) (p : Patch) (held : List HeldLock) → all_live c (flushes resource p held) ≡ true
  flushes_live resource p [] = refl
  flushes_live resource p (h ∷ held) =
      either_lives (same_resource h.lock.resource resource) _ _
      (option_lives (flush_under p h.lock.ask.mode h.lock.ask.policy) _ _ (flushes_live resource p held) (λ flush. refl))
      (flushes_live resource p held)

  flush_from_live : (at : At) (slot : ℕ) (r : Running) (f : HandleFile) (stripes : List ℕ) (s : Store)
      → all_live c (flush_from at slot r f stripes s) ≡ true
  flush_from_live at slot r f [] s = unpins_live r.pins
  flush_from_live at slot r f (i ∷ is) s =
      let p : Patch = patch_at (object f.fid i) s.patches in
      let es : List Entry = flushes (object f.fid i) p (in_order s.held) in
      either_lives (in_flight p) _ _ refl
      (either_lives (is_clean p) _ _ (flush_from_live at slot r f is s)
      (more_live es _ (flushes_live (object f.fid i) p (in_order s.held)) refl))

  flushing_live : (at : At) (slot i : ℕ) (r : Running) (file : Option HandleFile) (s : Store) → all_live c (flushing at slot i r file s)
      ≡ true
  flushing_live at slot i r None s = refl
  flushing_live at slot i r (Some f) s = flush_from_live at slot r f _ s

  -- ---- glimpses

  glimpses_live : (at : At) (slot : ℕ) (wants : List Use) (sizes : List ℕ) → NextLives (glimpses at slot wants sizes)
  glimpses_live at slot [] sizes r w s = unpins_live r.pins
  glimpses_live at slot (wanted ∷ left) sizes r w s = option_lives (serving wanted s.held) _ _ refl
      (λ h. glimpses_live at slot left _ r w s)

  glimpse_asks_live : (at : At) (slot : ℕ) (wants : List Use) (sizes : List ℕ) → NextLives (glimpse_asks at slot wants sizes)
  glimpse_asks_live at slot [] sizes r w s = refl
  glimpse_asks_live at slot (wanted ∷ left) sizes r w s = option_lives (serving wanted s.held) _ _ refl
      (λ h. glimpses_live at slot left _ r w s)

  glimpse_comes_live : (at : At) (slot : ℕ) (l : Lock) (wants : List Use) (sizes : List ℕ) → NextLives (glimpse_comes at slot l wants sizes)
  glimpse_comes_live at slot l [] sizes r w s = refl
  glimpse_comes_live at slot l (wanted ∷ left) sizes r w s = glimpses_live at slot left _ r w s

  glimpse_hears_live : (at : At) (slot : ℕ) (wants : List Use) (sizes : List ℕ) (a : Answer)
      → NextLives (glimpse_hears at slot wants sizes a)
  glimpse_hears_live at slot (wanted ∷ left) sizes (answer.Size size) r w s = glimpses_live at slot left _ r w s
  glimpse_hears_live at slot wants sizes answer.Lock r w s = glimpse_asks_live at slot wants sizes r w s
  glimpse_hears_live at slot wants sizes a r w s = refl

  -- ---- a call in its stage

  looks_at_live : (at : At) (slot : ℕ) (kind : Kind) → NextLives (looks_at at slot kind)
  looks_at_live at slot (Glimpses sizes) r w s = glimpse_asks_live at slot w.left sizes r w s
  looks_at_live at slot kind r w s = looks_live slot (acts at slot kind) (acts_live at slot kind) w.left r w s

  comes_at_live : (at : At) (slot : ℕ) (kind : Kind) (r : Running) (w : Work) (s : Store) (l : Lock)
      → all_live c (comes_at at slot kind r w s l) ≡ true
  comes_at_live at slot (Glimpses sizes) r w s l = glimpse_comes_live at slot l w.left sizes r w s
  comes_at_live at slot kind r w s l = comes_live slot (acts at slot kind) (acts_live at slot kind) l w.left r w s

  sizes_heard_live : (at : At) (slot : ℕ) (asking : Asking) (kind : Kind) → NextLives (sizes_heard at slot asking kind)
  sizes_heard_live at slot (Answered t reply) (Glimpses sizes) r w s = glimpse_hears_live at slot w.left sizes reply.answer r w s
  sizes_heard_live at slot asking kind r w s = refl

  advances_live : (at : At) (slot : ℕ) (stage : Stage) (r : Running) (s : Store) → all_live c (advances_at at slot stage r s) ≡ true
  advances_live at slot (Looks w) r s = looks_at_live at slot w.kind r w s
  advances_live at slot (Came w l) r s = comes_at_live at slot w.kind r w s l
  advances_live at slot (Sizes w) r s = sizes_heard_live at slot r.asking w.kind r w s
  advances_live at slot (Flushing i) r s = flushing_live at slot i r r.file s
  advances_live at slot stage r s = refl

  -- ---- calls on names

  pins_live : (names : List LockName) → all_live c (pins names) ≡ true
  pins_live [] = refl
  pins_live (name ∷ names) = pins_live names

  tells_known_live : (at : At) (slot : ℕ) (r : Running) (known : Known) → all_live c (tells_known at slot r known) ≡ true
  tells_known_live at slot r known = let names : List LockName = names_of known.cookies
      in more_live (pins names) _ (pins_live names) (unpins_live (r.pins ++ names))

  starts_known_live : (at : At) (slot : ℕ) (r : Running) (o : Op) (known : Option Known) → all_live c (starts_known at slot r o known)
      ≡ true
  starts_known_live at slot r o None = refl
  starts_known_live at slot r o (Some known) = tells_known_live at slot r known

  stats_live : (at : At) (slot : ℕ) (fid : Fid) (layout : Raid0) (kind : Kind) (names : List LockName) (r : Running) (s : Store)
      → all_live c (stats at slot fid layout kind names r s) ≡ true
  stats_live at slot fid layout kind names r s = more_live (pins names) _ (pins_live names)
      (looks_at_live at slot kind (with_pins names r) (work_on fid layout kind) (store_turn s (pins names)))

  stats_file_live : (at : At) (slot : ℕ) (path : List (List ℕ)) (r : Running) (s : Store) (file : Option KnownFile)
      → all_live c (stats_file at slot path r s file) ≡ true
  stats_file_live at slot path r s None = refl
  stats_file_live at slot path r s (Some f) = stats_live at slot f.fid f.layout (Stats f.mode f.links) (names_of f.cookies) r s

  starts_stat_live : (at : At) (slot : ℕ) (path : List (List ℕ)) (r : Running) (s : Store) (n : Notes) (found : Found)
      (known : Option Known) → all_live c (starts_stat at slot path r s n found known) ≡ true
  starts_stat_live at slot path r s n found (Some known) = tells_known_live at slot r known
  starts_stat_live at slot path r s n found None = stats_file_live at slot path r s (file_known n found)

  starts_close_live : (slot : ℕ) (calls : List (Option Running)) (file : Option HandleFile) → all_live c (starts_close slot calls file)
      ≡ true
  starts_close_live slot calls None = refl
  starts_close_live slot calls (Some f) = either_lives (nat_lt 1 (count_on f.number.0 calls)) _ _ refl refl

  starts_bytes_live : (at : At) (slot : ℕ) (kind : Kind) (r : Running) (s : Store) (file : Option HandleFile)
      → all_live c (starts_bytes at slot kind r s file) ≡ true
  starts_bytes_live at slot kind r s None = refl
  starts_bytes_live at slot kind r s (Some f) = looks_at_live at slot kind r _ s

  starts_flush_live : (at : At) (slot : ℕ) (r : Running) (s : Store) (file : Option HandleFile) → all_live c (starts_flush at slot r s file)
      ≡ true
  starts_flush_live at slot r s None = refl
  starts_flush_live at slot r s (Some f) = flush_from_live at slot r f _ s

  starts_glimpse_live : (at : At) (slot : ℕ) (r : Running) (s : Store) (file : Option HandleFile)
      → all_live c (starts_glimpse at slot r s file) ≡ true
  starts_glimpse_live at slot r s None = refl
  starts_glimpse_live at slot r s (Some f) = glimpses_live at slot _ [] r _ s

  starts_names_live : (slot : ℕ) (o : Option Op) → all_live c (starts_names slot o) ≡ true
  starts_names_live slot None = refl
  starts_names_live slot (Some o) = refl

  starts_live : (at : At) (slot : ℕ) (what : Call) (r : Running) (k : Client) → all_live c (starts at slot what r k) ≡ true
  starts_live at slot (call.Lookup p) r k = starts_known_live at slot r (op.Lookup p) (lookup_known (found_at_path (notes_of k) p))
  starts_live at slot (call.Stat p) r k =
      let found : Found = found_at_path (notes_of k) p in
      starts_stat_live at slot p r k.store (notes_of k) found (directory_known (notes_of k) found)
  starts_live at slot (call.List p) r k = starts_known_live at slot r (op.List p) (list_known (notes_of k) (found_at_path (notes_of k) p))
  starts_live at slot (call.Layout p) r k = starts_known_live at slot r (op.Layout p)
      (layout_known (notes_of k) (found_at_path (notes_of k) p))
  starts_live at slot (call.Close h) r k = starts_close_live slot k.calls r.file
  starts_live at slot (call.Read h p n) r k = starts_bytes_live at slot (Narrow p n) r k.store r.file
  starts_live at slot (call.Write h p bs) r k = starts_bytes_live at slot (Writes p bs) r k.store r.file
  starts_live at slot (call.Cut h n) r k = starts_bytes_live at slot (Cuts n) r k.store r.file
  starts_live at slot (call.Flush h) r k = starts_flush_live at slot r k.store r.file
  starts_live at slot (call.Glimpse h) r k = starts_glimpse_live at slot r k.store r.file
  starts_live at slot what r k = starts_names_live slot (names_op what)

  answers_live : (at : At) (slot : ℕ) (acted : At) (a : Answer) (what : Call) (r : Running) (k : Client)
      → all_live c (answers at slot acted a what r k) ≡ true
  answers_live at slot acted (answer.OpenFile fid number layout) (call.Open h path) r k = unpins_live r.pins
  answers_live at slot acted (answer.FileStat fid mode links layout) (call.Stat path) r k =
      stats_live at slot fid layout (Stats mode links) (names_of (cookies_of_file (notes_of k) path fid)) r k.store
  answers_live at slot acted a what r k = unpins_live r.pins

  goes_plain_live : (at : At) (slot : ℕ) (asking : Asking) (r : Running) (k : Client) → all_live c (goes_plain at slot asking r k) ≡ true
  goes_plain_live at slot Unasked r k = starts_live at slot r.call r k
  goes_plain_live at slot (Answered t reply) r k = answers_live at slot reply.at reply.answer r.call r k
  goes_plain_live at slot asking r k = refl

  -- ---- slots

  goes_at_live : (at : At) (slot : ℕ) (stage : Stage) (r : Running) (k : Client) → all_live c (goes_at at slot stage r k) ≡ true
  goes_at_live at slot Plain r k = goes_plain_live at slot r.asking r k
  goes_at_live at slot stage r k = advances_live at slot stage r k.store

  goes_on_live : (at : At) (slot : ℕ) (k : Client) (running : Option Running) → all_live c (goes_on at slot k running) ≡ true
  goes_on_live at slot k None = refl
  goes_on_live at slot k (Some r) = goes_at_live at slot r.stage r k

  passes_live : (at : At) (slots : List ℕ) (k : Client) → all_live c (passes at slots k) ≡ true
  passes_live at [] k = refl
  passes_live at (slot ∷ slots) k = more_live (goes at slot k) _ (goes_on_live at slot k (call_on slot k.calls))
      (passes_live at slots (turn k (goes at slot k)))

  slots_live : (passes_left : ℕ) (at : At) (k : Client) → all_live c (slots_go passes_left at k) ≡ true
  slots_live zero at k = refl
  slots_live (suc more) at k =
      let es : List Entry = passes at all_slots k in
      let j : Client = turn k es in
      more_live es _ (passes_live at all_slots k) (either_lives (list_any (is_free_close j.calls) j.calls) _ _ (slots_live more at j) refl)

  begins_on_live : (at : At) (slot : ℕ) (what : Call) (file : Option HandleFile) → all_live c (begins_on at slot what file) ≡ true
  begins_on_live at slot what None = refl
  begins_on_live at slot what (Some f) = refl

  begins_close_live : (at : At) (slot h : ℕ) (file : Option HandleFile) → all_live c (begins_close at slot h file) ≡ true
  begins_close_live at slot h None = refl
  begins_close_live at slot h (Some f) = refl

  begins_open_live : (at : At) (slot : ℕ) (what : Call) (taken : Bool) → all_live c (begins_open at slot what taken) ≡ true
  begins_open_live at slot what true = refl
  begins_open_live at slot what false = refl

  begins_live : (at : At) (slot : ℕ) (what : Call) (k : Client) → all_live c (begins at slot what k) ≡ true
  begins_live at slot (call.Open h path) k = begins_open_live at slot (call.Open h path) _
  begins_live at slot (call.Close h) k = begins_close_live at slot h (file_of h k.handles)
  begins_live at slot (call.Read h p n) k = begins_on_live at slot (call.Read h p n) (file_of h k.handles)
  begins_live at slot (call.Write h p bs) k = begins_on_live at slot (call.Write h p bs) (file_of h k.handles)
  begins_live at slot (call.Cut h n) k = begins_on_live at slot (call.Cut h n) (file_of h k.handles)
  begins_live at slot (call.Flush h) k = begins_on_live at slot (call.Flush h) (file_of h k.handles)
  begins_live at slot (call.Glimpse h) k = begins_on_live at slot (call.Glimpse h) (file_of h k.handles)
  begins_live at slot what k = refl

  -- ---- held locks, and what is sent

  marks_live : (held : List HeldLock) → all_live c (marks_of held) ≡ true
  marks_live [] = refl
  marks_live (h ∷ held) = marks_live held

  writes_next_live : (h : HeldLock) (flush : Option Flush) → all_live c (writes_next h flush) ≡ true
  writes_next_live h None = refl
  writes_next_live h (Some flush) = refl

  visits_live : (over : Bool) (h : HeldLock) (k : Client) → all_live c (visits over h k) ≡ true
  visits_live over h k =
      let p : Patch = patch_at h.lock.resource k.store.patches in
      either_lives (must_write over h h.lock.ask.mode h.lock.ask.policy p) _ _
      (either_lives (in_flight p) _ _ refl (writes_next_live h (flush_under p h.lock.ask.mode h.lock.ask.policy)))
      (either_lives (is_called h && is_serving (import_of h.target.0 k.imports).standing) _ _ refl refl)

  visits_all_live : (over : Bool) (held : List HeldLock) (k : Client) → all_live c (visits_all over held k) ≡ true
  visits_all_live over [] k = refl
  visits_all_live over (h ∷ held) k = more_live (visits over h k) _ (visits_live over h k)
      (visits_all_live over held (turn k (visits over h k)))

  sends_live : (limits : Limits) (who : Who) (boot t last : ℕ) (flights : List Flight) (queue : List Queued)
      → all_live c (sends limits who boot t last flights queue) ≡ true
  sends_live limits who boot t last flights [] = refl
  sends_live limits who boot t last flights (q ∷ queue) = either_lives (has_room limits t q.op flights) _ _
      (sends_live limits who boot t (last + 1) (flights ++ next_flight last flights q ∷ []) queue) refl

  sends_all_live : (limits : Limits) (who : Who) (t : ℕ) (imports : List Import) → all_live c (sends_all limits who t imports) ≡ true
  sends_all_live limits who t [] = refl
  sends_all_live limits who t (i ∷ imports) =
      more_live (sends_to limits who t i) _ (either_lives (is_serving i.standing) _ _
      (sends_live limits who i.boot t i.last i.flights i.queue) refl) (sends_all_live limits who (t + 1) imports)

  trims_live : (limits : Limits) (k : Client) → all_live c (trims limits k) ≡ true
  trims_live limits k = marks_live (reverse (drop limits.unused (filter is_free k.store.held)))

  locks_live : (limits : Limits) (k : Client) → all_live c (locks_go limits k) ≡ true
  locks_live limits k = visits_all_live (nat_lt limits.dirty (dirty_total k.store.patches)) (in_order k.store.held) k

  rests_live : (limits : Limits) (at : At) (k : Client) → all_live c (rests limits at k) ≡ true
  rests_live limits at k =
      let gone : Client = turn k (slots_go 5 at k) in
      let trimmed : Client = turn gone (trims limits gone) in
      let visited : Client = turn trimmed (locks_go limits trimmed) in
      more_live (slots_go 5 at k) _ (slots_live 5 at k)
      (more_live (trims limits gone) _ (trims_live limits gone)
      (more_live (locks_go limits trimmed) _ (locks_live limits trimmed) (sends_all_live limits visited.who 0 visited.imports)))

  -- ---- recovery, and time

  resends_live : (who : Who) (boot t : ℕ) (flights : List Flight) → all_live c (resends who boot t flights) ≡ true
  resends_live who boot t [] = refl
  resends_live who boot t (f ∷ flights) = resends_live who boot t flights

  replays_live : (who : Who) (boot t : ℕ) (rs : List Replay) → all_live c (replays who boot t rs) ≡ true
  replays_live who boot t [] = refl
  replays_live who boot t (r ∷ rs) = replays_live who boot t rs

  lock_replays_live : (who : Who) (boot t : ℕ) (held : List HeldLock) → all_live c (lock_replays who boot t held) ≡ true
  lock_replays_live who boot t [] = refl
  lock_replays_live who boot t (h ∷ held) = lock_replays_live who boot t held

  tells_live : (who : Who) (boot t : ℕ) (kept : Kept) (held : List HeldLock) → all_live c (tells_all who boot t kept held) ≡ true
  tells_live who boot t kept held =
      more_live (replays who boot t kept.replays ++ lock_replays who boot t held) _
      (more_live (replays who boot t kept.replays) (lock_replays who boot t held) (replays_live who boot t kept.replays)
      (lock_replays_live who boot t held))
      refl

  on_calls_live : (stands : ℕ → Running → Stage → List Entry) → ((slot : ℕ) (r : Running) (stage : Stage) → all_live c (stands slot r stage)
      ≡ true) → (slot : ℕ) (calls : List (Option Running)) → all_live c (on_calls stands slot calls) ≡ true
  on_calls_live stands each slot [] = refl
  on_calls_live stands each slot (None ∷ calls) = on_calls_live stands each (slot + 1) calls
  on_calls_live stands each slot (Some r ∷ calls) = more_live (stands slot r r.stage) _ (each slot r r.stage)
      (on_calls_live stands each (slot + 1) calls)

  forgets_live : (t slot : ℕ) (r : Running) (stage : Stage) → all_live c (forgets_stage t slot r stage) ≡ true
  forgets_live t slot r (Waits w target l marked) = either_lives (target.0 == t) _ _ refl refl
  forgets_live t slot r stage = refl

  looks_stage_live : (t slot : ℕ) (r : Running) (stage : Stage) → all_live c (looks_stage t slot r stage) ≡ true
  looks_stage_live t slot r (Forgotten w) = either_lives (is_left_at t w.left) _ _ refl refl
  looks_stage_live t slot r stage = refl

  where_live : (who : Who) (boot t slot : ℕ) (r : Running) (stage : Stage) → all_live c (where_stage who boot t slot r stage) ≡ true
  where_live who boot t slot r (Waits w target l marked) = either_lives (target.0 == t) _ _ refl refl
  where_live who boot t slot r stage = refl

  comes_up_live : (t : ℕ) (k : Client) (i : Import) (standing : Standing) → all_live c (comes_up t k i standing) ≡ true
  comes_up_live t k i Joining = refl
  comes_up_live t k i standing = more_live (on_calls (forgets_stage t) 0 k.calls) _
      (on_calls_live (forgets_stage t) (forgets_live t) 0 k.calls) (tells_live k.who i.boot t i.kept (held_of t k.store.held))

  resumes_live : (t : ℕ) (k : Client) (i : Import) → all_live c (resumes t k i) ≡ true
  resumes_live t k i = more_live (resends k.who i.boot t i.flights) _ (resends_live k.who i.boot t i.flights)
      (on_calls_live (looks_stage t) (looks_stage_live t) 0 k.calls)

  ticks_at_live : (t : ℕ) (k : Client) (i : Import) (standing : Standing) → all_live c (ticks_at t k i standing) ≡ true
  ticks_at_live t k i Serving =
      more_live (resends k.who i.boot t i.flights) _ (resends_live k.who i.boot t i.flights)
      (on_calls_live (where_stage k.who i.boot t) (where_live k.who i.boot t) 0 k.calls)
  ticks_at_live t k i Recovering = tells_live k.who i.boot t i.kept (held_of t k.store.held)
  ticks_at_live t k i Joining = refl

  ticks_live : (t : ℕ) (imports : List Import) (k : Client) → all_live c (ticks t imports k) ≡ true
  ticks_live t [] k = refl
  ticks_live t (i ∷ imports) k = more_live (ticks_at t k i i.standing) _ (ticks_at_live t k i i.standing) (ticks_live (t + 1) imports k)

  -- ---- eviction: the next life has the client's number

  ends_live : (at : At) (slot : ℕ) (calls : List (Option Running)) → all_live c (ends_calls at slot calls) ≡ true
  ends_live at slot [] = refl
  ends_live at slot (None ∷ calls) = ends_live at (slot + 1) calls
  ends_live at slot (Some r ∷ calls) = ends_live at (slot + 1) calls

  drops_live : (held : List HeldLock) → all_live c (drops_all held) ≡ true
  drops_live [] = refl
  drops_live (h ∷ held) = drops_live held

  joins_live : (who : Who) (t : ℕ) (imports : List Import) → all_live c (joins_all who t imports) ≡ true
  joins_live who t [] = refl
  joins_live who t (i ∷ imports) = joins_live who (t + 1) imports

  evicted_live : (at : At) (k : Client) → k.who.client ≡ c → all_live c (evicted at k) ≡ true
  evicted_live at k one =
      let same : (k.who.client == c) ≡ true = grind (arith, nat_tests) in
      let all : List HeldLock = in_order k.store.held in
      more_live (ends_calls at 0 k.calls ++ drops_all all) (Life (next_life k.who) ∷ joins_all (next_life k.who) 0 k.imports)
      (more_live (ends_calls at 0 k.calls) (drops_all all) (ends_live at 0 k.calls) (drops_live all))
      (rw same (joins_live (next_life k.who) 0 k.imports))

  -- ---- messages

  on_slot_live : (stands : ℕ → Running → Stage → List Entry) → ((slot : ℕ) (r : Running) (stage : Stage) → all_live c (stands slot r stage)
      ≡ true) → (slot : Option ℕ) (k : Client) → all_live c (messages.on_slot stands slot k) ≡ true
  on_slot_live stands each None k = refl
  on_slot_live stands each (Some slot) k = by (call_on slot k.calls)
    where
      by : (running : Option Running) → all_live c (messages.on_running stands slot running) ≡ true
      by None = refl
      by (Some r) = each slot r r.stage

  holds_live : (t : ℕ) (size : Option ℕ) (seen : List ℕ) (locks : List Lock) → all_live c (messages.holds t size seen locks) ≡ true
  holds_live t size seen [] = refl
  holds_live t size seen (l ∷ locks) = holds_live t size seen locks

  learns_live : (t : ℕ) (o : Op) (a : Answer) (locks : List Lock) → all_live c (messages.learns t o a locks) ≡ true
  learns_live t o a [] = refl
  learns_live t o a (l ∷ locks) = refl

  lock_heard_live : (who : Who) (slot : ℕ) (r : Running) (w : Work) (a : Answer) (locks : List Lock) (wants : List Use)
      → all_live c (messages.lock_heard who slot r w a locks wants) ≡ true
  lock_heard_live who slot r w a (l ∷ locks) wants = refl
  lock_heard_live who slot r w (answer.Waiting cookie) [] (wanted ∷ left) = refl
  lock_heard_live who slot r w a [] wants = refl

  enqueue_heard_live : (who : Who) (a : Answer) (locks : List Lock) (slot : ℕ) (r : Running) (stage : Stage)
      → all_live c (messages.enqueue_heard who a locks slot r stage) ≡ true
  enqueue_heard_live who a locks slot r (Enqueued w) = lock_heard_live who slot r w a locks w.left
  enqueue_heard_live who a locks slot r stage = refl

  page_under_live : (resource : Resource) (cookie : Cookie) (page : ℕ) (bs : List ℕ) (policy : Policy)
      → all_live c (messages.page_under resource cookie page bs policy) ≡ true
  page_under_live resource cookie page [] (Range extent) = refl
  page_under_live resource cookie page (b ∷ bs) (Range extent) = refl
  page_under_live resource cookie page bs policy = refl

  page_heard_live : (resource : Resource) (cookie : Cookie) (page : ℕ) (bs : List ℕ) (lock : Option Lock)
      → all_live c (messages.page_heard resource cookie page bs lock) ≡ true
  page_heard_live resource cookie page bs None = refl
  page_heard_live resource cookie page bs (Some l) = page_under_live resource cookie page bs l.ask.policy

  looks_again_live : (slot : ℕ) (r : Running) (stage : Stage) → all_live c (messages.looks_again slot r stage) ≡ true
  looks_again_live slot r (Gets w) = refl
  looks_again_live slot r stage = refl

  heeds_live : (t : ℕ) (f : Flight) (o : Op) (r : ReplyTo) (a : Answer) (k : Client) → all_live c (messages.heeds t f o r a k) ≡ true
  heeds_live t f (op.Enqueue resource mode extent) r a k = on_slot_live (messages.enqueue_heard k.who a (brought f.op r))
      (enqueue_heard_live k.who a (brought f.op r)) f.slot k
  heeds_live t f (op.Get resource cookie page) r (answer.Content bs) k =
      let lock : Option Lock = messages.held_as (named (record { 0 = t }) cookie) k.store.held in
      more_live (messages.page_heard resource cookie page bs lock) _ (page_heard_live resource cookie page bs lock)
      (on_slot_live messages.looks_again looks_again_live f.slot k)
  heeds_live t f (op.Put resource cookie at bs) r answer.Done k = refl
  heeds_live t f (op.Cut resource cookie n) r answer.Done k = refl
  heeds_live t f o r a k = refl

  hears_live : (t : ℕ) (r : ReplyTo) (f : Flight) (k : Client) (fits : Bool) → all_live c (messages.hears_fitting t r f k fits) ≡ true
  hears_live t r f k true =
      let held : List Entry = messages.holds t (messages.size_with r.answer) r.seen (brought f.op r) in
      let learnt : List Entry = messages.learns t f.op r.answer r.locks in
      let es : List Entry = Heard t f r ∷ held ++ learnt in
      more_live es _ (more_live held learnt (holds_live t (messages.size_with r.answer) r.seen (brought f.op r))
      (learns_live t f.op r.answer r.locks))
      (heeds_live t f f.op r r.answer (turn k es))
  hears_live t r f k false = refl

  replied_live : (t : ℕ) (r : ReplyTo) (k : Client) (present : Bool) → all_live c (messages.replied t r k present) ≡ true
  replied_live t r k true = by (messages.find_flight r.xid.0 (import_of t k.imports).flights)
    where
      by : (flight : Option Flight) → all_live c (messages.hears t r k flight) ≡ true
      by None = refl
      by (Some f) = hears_live t r f k (answer_fits f.op r.answer)
  replied_live t r k false = refl

  lock_granted_live : (t : ℕ) (g : GrantNotice) (slot : ℕ) (r : Running) (stage : Stage)
      → all_live c (messages.lock_granted t g slot r stage) ≡ true
  lock_granted_live t g slot r (Waits w target l marked) = refl
  lock_granted_live t g slot r stage = refl

  granted_live : (t : ℕ) (g : GrantNotice) (k : Client) (present : Bool) → all_live c (messages.granted t g k present) ≡ true
  granted_live t g k true = on_slot_live (messages.lock_granted t g) (lock_granted_live t g)
      (messages.waiter (named (record { 0 = t }) g.cookie) 0 k.calls) k
  granted_live t g k false = refl

  lock_blocked_live : (slot : ℕ) (r : Running) (stage : Stage) → all_live c (messages.lock_blocked slot r stage) ≡ true
  lock_blocked_live slot r (Waits w target l marked) = refl
  lock_blocked_live slot r stage = refl

  cancels_live : (who : Who) (name : LockName) (boot : ℕ) (flights : List Flight)
      → all_live c (messages.cancels_unknown who name boot flights) ≡ true
  cancels_live who name boot [] = refl
  cancels_live who name boot (f ∷ flights) = refl

  blocked_waiting_live : (name : LockName) (k : Client) (slot : Option ℕ) → all_live c (messages.blocked_waiting name k slot) ≡ true
  blocked_waiting_live name k (Some slot) = on_slot_live messages.lock_blocked lock_blocked_live (Some slot) k
  blocked_waiting_live name k None = let i : Import = import_of name.target.0 k.imports in cancels_live k.who name i.boot i.flights

  blocked_held_live : (name : LockName) (k : Client) (held : Bool) → all_live c (messages.blocked_held name k held) ≡ true
  blocked_held_live name k true = refl
  blocked_held_live name k false = blocked_waiting_live name k (messages.waiter name 0 k.calls)

  blocked_live : (name : LockName) (k : Client) (same : Bool) → all_live c (messages.blocked name k same) ≡ true
  blocked_live name k true = blocked_held_live name k (is_held name k.store.held)
  blocked_live name k false = refl

  peeks_live : (at : At) (t : ℕ) (a : messages.Question) (who : Who) (boot : ℕ) (size : Option ℕ)
      → all_live c (messages.peeks at t a who boot size) ≡ true
  peeks_live at t a who boot None = refl
  peeks_live at t a who boot (Some size) = refl

  asked_live : (at : At) (t : ℕ) (a : messages.Question) (k : Client) (same : Bool) → all_live c (messages.asked at t a k same) ≡ true
  asked_live at t a k true = peeks_live at t a k.who (import_of t k.imports).boot
      (messages.size_held k.store (messages.held_as (named (record { 0 = t }) a.cookie) k.store.held))
  asked_live at t a k false = refl

  up_live : (t boot : ℕ) (k : Client) (later : Bool) → all_live c (messages.up_heard t boot k later) ≡ true
  up_live t boot k true = let j : Client = after k (Knows t boot)
      in comes_up_live t j (import_of t j.imports) (import_of t j.imports).standing
  up_live t boot k false = refl

  ready_live : (t boot committed : ℕ) (k : Client) (present : Bool) → all_live c (messages.ready_heard t boot committed k present) ≡ true
  ready_live t boot committed k true = resumes_live t k (import_of t k.imports)
  ready_live t boot committed k false = refl

  evicted_heard_live : (at : At) (k : Client) (same : Bool) → k.who.client ≡ c → all_live c (messages.evicted_heard at k same) ≡ true
  evicted_heard_live at k true one = evicted_live at k one
  evicted_heard_live at k false one = refl

  comes_from_live : (at : At) (t : ℕ) (m : Message) (k : Client) → k.who.client ≡ c → all_live c (messages.comes_from at t m k) ≡ true
  comes_from_live at t (message.Reply r) k one = replied_live t r k _
  comes_from_live at t (message.Grant g) k one = granted_live t g k _
  comes_from_live at t (message.Block who boot cookie) k one = blocked_live _ k _
  comes_from_live at t (message.Ask who boot cookie for_who xid) k one = asked_live at t _ k _
  comes_from_live at t (message.Up boot) k one = up_live t boot k _
  comes_from_live at t (message.Ready who boot committed) k one = ready_live t boot committed.0 k _
  comes_from_live at t (message.Evicted who boot) k one = evicted_heard_live at k _ one
  comes_from_live at t m k one = refl

  comes_by_live : (at : At) (from : Node) (m : Message) (k : Client) → k.who.client ≡ c → all_live c (messages.comes_by at from m k) ≡ true
  comes_by_live at (node.Target t) m k one = comes_from_live at t m k one
  comes_by_live at (node.Client d) m k one = refl

-- ---- rows

-- a row but that of a death
abbrev pub goes_on_living : Event → Bool
goes_on_living Dies = false
goes_on_living _ = true

pub row_lives : (limits : Limits) (at : At) (event : Event) (k : Client) → goes_on_living event ≡ true
    → all_live k.who.client (row limits at event k) ≡ true
row_lives limits at (Begins slot what) k goes = by (call_on slot k.calls)
  where
    by : (running : Option Running) → all_live k.who.client (row_call limits at slot what k running) ≡ true
    by None = more_live k.who.client (begins at slot what k) _ (begins_live k.who.client at slot what k)
        (rests_live k.who.client limits at (turn k (begins at slot what k)))
    by (Some running) = refl
row_lives limits at (Comes n from m) k goes =
    let es : List Entry = Take n from m ∷ messages.comes_by at from m k in
    more_live k.who.client es _ (comes_by_live k.who.client at from m k refl) (rests_live k.who.client limits at (turn k es))
row_lives limits at Ticks k goes =
    let es : List Entry = Tick ∷ ticks 0 k.imports k in
    more_live k.who.client es _ (ticks_live k.who.client 0 k.imports k) (rests_live k.who.client limits at (turn k es))
row_lives limits at Dies k goes = absurd (cc)

-- ---- what such entries leave

both_true : (a b : Bool) → (a && b) ≡ true → (a ≡ true) × (b ≡ true)
both_true true b both = (refl, both)
both_true false b both = absurd (cc)

module _ (c : ℕ) where
  after_lives : (k : Client) (e : Entry) → k.who.client ≡ c → lives c e ≡ true → (after k e).who.client ≡ c
  after_lives k (Life who) one l = grind (arith, nat_tests, l)
  after_lives k e one l = one

  pub turn_lives : (k : Client) (es : List Entry) → k.who.client ≡ c → all_live c es ≡ true → (turn k es).who.client ≡ c
  turn_lives k [] one l = one
  turn_lives k (e ∷ es) one l = let h = both_true (lives c e) (all_live c es) l in turn_lives (after k e) es (after_lives k e one h.0) h.1

  pub dead_lives : (d : ℕ) (past : List Line) (at : At) (es : List Entry) → all_live c es ≡ true → is_dead d (with_turn at es past)
      ≡ is_dead d past
  dead_lives d past at [] l = refl
  dead_lives d past at (e ∷ es) l = let h = both_true (lives c e) (all_live c es) l in dead_lives d (line at e ∷ past) at es h.1 ∙ by e h.0
    where
      by : (e : Entry) → lives c e ≡ true → is_dead d (line at e ∷ past) ≡ is_dead d past
      by Die l = absurd (cc)
      by e l = refl

-- a client's number stays in every turn
pub number_stays : (limits : Limits) (at : At) (event : Event) (k : Client) → (turn k (row limits at event k)).who.client ≡ k.who.client
number_stays limits at Dies k = refl
number_stays limits at event k = turn_lives k.who.client k (row limits at event k) refl (row_lives limits at event k refl)

-- nobody dies in a turn that isn't a death
pub dead_stays : (limits : Limits) (c : ℕ) (past : List Line) (at : At) (event : Event) (k : Client) → goes_on_living event ≡ true
    → is_dead c (with_turn at (row limits at event k) past) ≡ is_dead c past
dead_stays limits c past at event k goes = dead_lives k.who.client c past at (row limits at event k) (row_lives limits at event k goes)
