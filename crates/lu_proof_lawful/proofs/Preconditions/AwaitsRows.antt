-- What a client's rows leave of the locks that it waits for: all of it, but where a message brings or forgets one. The row of a slot makes
-- lines of the call on that slot alone, none of which waits for a lock, and a call that waits for one makes none; the rest of a turn
-- changes
-- no call.
use Rattle.std.proofs.Common.{◌≡◌, ℕ, zero, suc, ◌+◌, ◌-◌, ◌<◌, Bool, true, false, List, [], ◌∷◌, ◌++◌, Option, Some, None, refl, sym}
use Rattle.std.proofs.Common.{subst, ap, ◌∙◌, arith}
use Rattle.std.specs.Prelude.{nat_eq, nat_lt, ◌&&◌, min, if◌then◌else◌, filter, drop, reverse}
use Rattle.std.specs.List.{list_any}
use Rattle.std.proofs.lemmas.Bool.{eqb-true}
use Rattle.lu_base.specs.declared.ids.At.{At}
use Rattle.lu_base.specs.declared.ids.Fid.{Fid}
use Rattle.lu_base.specs.declared.ids.Node.TheVariants.{Client, Target}
use Rattle.lu_base.specs.declared.ids.Stamp.{Stamp}
use Rattle.lu_base.specs.declared.ids.Who.{Who}
use Rattle.lu_base.specs.declared.locks.Lock.{Lock}
use Rattle.lu_base.specs.declared.locks.Resource.{Resource}
use Rattle.lu_layout.specs.Raid0.{Raid0}
use Rattle.lu_msg.specs.declared.answers.Answer.{Answer}
use Rattle.lu_msg.specs.declared.answers.Answer.TheVariants as answer
use Rattle.lu_msg.specs.declared.calls.Call.{Call}
use Rattle.lu_msg.specs.declared.calls.Call.TheVariants as call
use Rattle.lu_msg.specs.declared.messages.Message.TheVariants as message
use Rattle.lu_msg.specs.declared.operations.Op.{Op}
use Rattle.lu_msg.specs.declared.operations.Op.TheVariants as op
use Rattle.lu_held.specs.declared.locks.HeldLock.{HeldLock}
use Rattle.lu_held.specs.declared.locks.Use.{Use}
use Rattle.lu_held.specs.declared.names.LockName.{LockName}
use Rattle.lu_held.specs.Locks.{is_free, same_resource}
use Rattle.lu_held.specs.Held.{serving, in_order}
use Rattle.lu_spec_entries.specs.declared.changes.Flush.{Flush}
use Rattle.lu_spec_entries.specs.declared.uses.Using.{Using}
use Rattle.lu_spec_entries.specs.Carried.{HandleFile, Queued, Flight, Kind, Narrow, Wide, Writes, Cuts, Stats, Glimpses, Work, Asking}
use Rattle.lu_spec_entries.specs.Carried.{Unasked, Asked, Answered, Stage, Plain, Bad, Looks, Enqueued, Waits, Came, Forgotten, Gets}
use Rattle.lu_spec_entries.specs.Carried.{Flushing, Sizes, Running}
use Rattle.lu_spec_entries.specs.Words.{Entry, Begin, Stands, Told, Queues, Heard, Drop, Send, Line, line, with_turn}
use Rattle.lu_spec_entries.specs.Concerns.{only}
use Rattle.lu_spec_client.specs.Advances.{asks_lock, unpins, tells, Next, takes_up, looks_on, looks, comes, gets, widened, widens}
use Rattle.lu_spec_client.specs.Advances.{reads_wide, reads_narrow, writes, cuts, acts}
use Rattle.lu_spec_client.specs.Caches.{patch_at}
use Rattle.lu_spec_client.specs.Calls.{call_after, call_on, calls_at}
use Rattle.lu_spec_client.specs.Glimpses.{sized, asks_size, glimpses_on, glimpses, glimpse_asks, glimpse_comes, glimpse_hears}
use Rattle.lu_spec_client.specs.Imports.{Import, import_of, is_serving}
use Rattle.lu_spec_client.specs.Known.{Known, KnownFile, Notes, Found, found_at_path, lookup_known, list_known, layout_known}
use Rattle.lu_spec_client.specs.Known.{directory_known, names_of, file_known}
use Rattle.lu_spec_client.specs.Locks as rows
use Rattle.lu_spec_client.specs.Locks.{trims, is_called, must_write, writes_next, visits, visits_all, locks_go, dirty_total}
use Rattle.lu_spec_client.specs.Looks.{Page, missing, content, file_size, has_reached, size_under}
use Rattle.lu_spec_client.specs.Messages.{waits_for, is_waiter}
use Rattle.lu_spec_client.specs.Patches.{Patch, in_flight}
use Rattle.lu_spec_client.specs.Rows.{rests}
use Rattle.lu_spec_client.specs.Sending.{has_room, next_flight, flies, sends, sends_to, sends_all}
use Rattle.lu_spec_client.specs.Slots.{goes_at, goes_on, goes, passes, all_slots, slots_go, is_free_close, refuses, begins_on, begins_close}
use Rattle.lu_spec_client.specs.Slots.{begins_open, begins}
use Rattle.lu_spec_client.specs.Starts.{looks_at, comes_at, sizes_heard, advances_at, work_on, pins, tells_known, starts_known, stats}
use Rattle.lu_spec_client.specs.Starts.{stats_file, starts_stat, notes_of, count_on, starts_close, starts_bytes, starts_flush}
use Rattle.lu_spec_client.specs.Starts.{starts_glimpse, names_op, starts_names, starts, answers, goes_plain}
use Rattle.lu_spec_client.specs.States.{Client as ClientState, Limits, Store, follow, turn as turn_of, store_turn}
use Rattle.lu_spec_client.specs.Stripes.{stripes, object}
use Rattle.lu_spec_client.specs.WriteBack.{writes_back, flushes, flush_under, is_clean, flush_from, flushing}
use Rattle.lu_proof_lawful.specs.Covered.Calls.{call_at, life_at}
use Rattle.lu_proof_lawful.specs.Covered.ClientStates.{awaits_of}
use Rattle.lu_spec_run.specs.Heads as table
use Rattle.lu_spec_run.specs.Runs.{limits_of, client_of}
use Rattle.lu_proof_lawful.proofs.Preconditions.Guards.{marks_of}
use Rattle.lu_proof_lawful.proofs.Preconditions.Lists.{turn}
use Rattle.lu_proof_lawful.proofs.Preconditions.ClientCalls.{AllSmall, on_small}
use Rattle.lu_proof_lawful.proofs.Preconditions.ClientGood.{call_line, followed}
use Rattle.lu_proof_lawful.proofs.Preconditions.Awaits.{lock_named, waiting_for, Awaits, count_same, asks_waiter, NoWait, no_wait, IsQuiet}
use Rattle.lu_proof_lawful.proofs.Preconditions.Awaits.{awaits_quiet, life_quiet, marks_quiet}

-- ---- lines of one slot

-- of the call on that slot, which waits for no lock then, or of none
abbrev pub OfSlot : ℕ → Entry → Type 0
OfSlot slot (Begin s r) = (s ≡ slot) × NoWait r.stage
OfSlot slot (Stands s r) = (s ≡ slot) × NoWait r.stage
OfSlot slot (Told s at a w) = s ≡ slot
OfSlot slot e = IsQuiet e

abbrev pub AllOf : ℕ → List Entry → Type 0
AllOf slot [] = Unit {0}
AllOf slot (e ∷ es) = OfSlot slot e × AllOf slot es

of_more : (slot : ℕ) (es fs : List Entry) → AllOf slot es → AllOf slot fs → AllOf slot (es ++ fs)
of_more slot [] fs a b = b
of_more slot (e ∷ es) fs a b = (a.0, of_more slot es fs a.1 b)

-- of no call
abbrev pub IsPlain : Entry → Type 0
IsPlain (Begin s r) = ⊥
IsPlain (Stands s r) = ⊥
IsPlain (Told s at a w) = ⊥
IsPlain e = IsQuiet e

abbrev pub AllPlain : List Entry → Type 0
AllPlain [] = Unit {0}
AllPlain (e ∷ es) = IsPlain e × AllPlain es

pub plain_more : (es fs : List Entry) → AllPlain es → AllPlain fs → AllPlain (es ++ fs)
plain_more [] fs a b = b
plain_more (e ∷ es) fs a b = (a.0, plain_more es fs a.1 b)

pub quiet_slot : (slot : ℕ) (e : Entry) → OfSlot slot e → IsQuiet e
quiet_slot slot (Begin s r) o = tt
quiet_slot slot (Stands s r) o = tt
quiet_slot slot (Told s at a w) o = tt
quiet_slot slot e o = o

pub quiet_plain : (e : Entry) → IsPlain e → IsQuiet e
quiet_plain (Begin s r) o = tt
quiet_plain (Stands s r) o = tt
quiet_plain (Told s at a w) o = tt
quiet_plain e o = o

-- ---- the rows of a slot make such lines

abbrev NextOf : ℕ → Next → Type 0
NextOf slot next = (r : Running) (w : Work) (s : Store) → AllOf slot (next r w s)

module _ (slot : ℕ) where
  unpins_of : (names : List LockName) → AllOf slot (unpins names)
  unpins_of [] = tt
  unpins_of (n ∷ names) = (tt, unpins_of names)

  pins_of : (names : List LockName) → AllOf slot (pins names)
  pins_of [] = tt
  pins_of (n ∷ names) = (tt, pins_of names)

  tells_of : (r : Running) (at : At) (a : Answer) (w : Option Work) → AllOf slot (tells slot r at a w)
  tells_of r at a w = (refl, unpins_of r.pins)

  looks_of : (next : Next) → NextOf slot next → (left : List Use) → NextOf slot (looks slot next left)
  looks_of next ends [] r w s = ends r w s
  looks_of next ends (wanted ∷ left) r w s = by (serving wanted s.held) (λ q v u. looks_of next ends left q v u)
    where
      by : (o : Option HeldLock) → NextOf slot (looks slot next left)
          → AllOf slot (looks_on slot (λ h. takes_up slot wanted h.lock left (looks slot next left) r w s) wanted left r w o)
      by None more = ((refl, tt), (tt, tt))
      by (Some h) more = (tt, more _ _ _)

  comes_of : (next : Next) → NextOf slot next → (l : Lock) (left : List Use) → NextOf slot (comes slot next l left)
  comes_of next ends l [] r w s = tt
  comes_of next ends l (wanted ∷ left) r w s = (tt, looks_of next ends left _ _ _)

  gets_of : (g : Page) (r : Running) (w : Work) → AllOf slot (gets slot g r w)
  gets_of g r w = ((refl, tt), (tt, tt))

  wide_of : (at : At) (p n : ℕ) → NextOf slot (reads_wide at slot p n)
  wide_of at p n r w s = by (missing w.layout p (p + n) s w.used)
    where
      told : Answer
      told = answer.Content (content w.layout w.fid s p (min n (file_size w.layout (stripes w.layout) w.used s - p)))

      by : (o : Option Page) → AllOf slot (elim o [ Some g ↦ gets slot g r w | None ↦ tells slot r at told (Some w) ])
      by (Some g) = gets_of g r w
      by None = tells_of r at told (Some w)

  widens_of : (at : At) (p n : ℕ) → NextOf slot (widens at slot p n)
  widens_of at p n r w s = of_more slot (unpins r.pins) _ (unpins_of r.pins)
      (looks_of (reads_wide at slot p n) (wide_of at p n) (widened p n w).left (record r { pins = [] }) (widened p n w)
      (store_turn s (unpins r.pins)))

  narrow_of : (at : At) (p n : ℕ) → NextOf slot (reads_narrow at slot p n)
  narrow_of at p n r w s = by (missing w.layout p (p + n) s w.used) (has_reached w.layout (p + n - 1) w.used s)
    where
      told : Answer
      told = answer.Content (content w.layout w.fid s p n)

      by : (o : Option Page) (b : Bool) → AllOf slot (elim o [
        | Some g ↦ gets slot g r w
        | None ↦ if b then tells slot r at told (Some w)
            else widens at slot p n r w s
      ])
      by (Some g) b = gets_of g r w
      by None true = tells_of r at told (Some w)
      by None false = widens_of at p n r w s

  writes_of : (l : Raid0) (p : ℕ) (bs : List ℕ) (us : List Using) → AllOf slot (writes l p bs us)
  writes_of l p bs [] = tt
  writes_of l p bs (u ∷ us) = (tt, (tt, writes_of l p bs us))

  cuts_of : (l : Raid0) (n : ℕ) (us : List Using) → AllOf slot (cuts l n us)
  cuts_of l n [] = tt
  cuts_of l n (u ∷ us) = (tt, cuts_of l n us)

  acts_of : (at : At) (kind : Kind) → NextOf slot (acts at slot kind)
  acts_of at (Narrow p n) r w s = narrow_of at p n r w s
  acts_of at (Wide p n) r w s = wide_of at p n r w s
  acts_of at (Writes p bs) r w s = of_more slot (writes w.layout p bs w.used) (tells slot r at answer.Done (Some w))
      (writes_of w.layout p bs w.used) (tells_of r at answer.Done (Some w))
  acts_of at (Cuts n) r w s = of_more slot (cuts w.layout n w.used) (tells slot r at answer.Done (Some w)) (cuts_of w.layout n w.used)
      (tells_of r at answer.Done (Some w))
  acts_of at (Stats mode links) r w s = (refl, unpins_of r.pins)
  acts_of at (Glimpses sizes) r w s = tt

  glimpses_of : (at : At) (left : List Use) (sizes : List ℕ) → NextOf slot (λ r w s. glimpses at slot left sizes r w s)
  glimpses_of at [] sizes r w s = tells_of r at (answer.Sizes sizes) None
  glimpses_of at (wanted ∷ left) sizes r w s = by (serving wanted s.held)
      (λ h. glimpses_of at left (sizes ++ size_under h.lock s ∷ []) r w s)
    where
      by : (o : Option HeldLock) → ((h : HeldLock) → AllOf slot (glimpses at slot left (sizes ++ size_under h.lock s ∷ []) r w s))
          → AllOf slot (glimpses_on (λ h. glimpses at slot left (sizes ++ size_under h.lock s ∷ []) r w s)
          (asks_size slot wanted left sizes r w) o)
      by None more = ((refl, tt), (tt, tt))
      by (Some h) more = more h

  glimpse_asks_of : (at : At) (left : List Use) (sizes : List ℕ) → NextOf slot (λ r w s. glimpse_asks at slot left sizes r w s)
  glimpse_asks_of at [] sizes r w s = tt
  glimpse_asks_of at (wanted ∷ left) sizes r w s = by (serving wanted s.held)
    where
      by : (o : Option HeldLock) → AllOf slot (glimpses_on (λ h. glimpses at slot left (sizes ++ size_under h.lock s ∷ []) r w s)
          (asks_lock slot wanted r (sized (wanted ∷ left) sizes w)) o)
      by None = ((refl, tt), (tt, tt))
      by (Some h) = glimpses_of at left (sizes ++ size_under h.lock s ∷ []) r w s

  hears_of : (at : At) (left : List Use) (sizes : List ℕ) (a : Answer) → NextOf slot (λ r w s. glimpse_hears at slot left sizes a r w s)
  hears_of at [] sizes answer.Lock r w s = tt
  hears_of at [] sizes a r w s = tt
  hears_of at (wanted ∷ left) sizes (answer.Size size) r w s = glimpses_of at left (sizes ++ size ∷ []) r w s
  hears_of at (wanted ∷ left) sizes answer.Lock r w s = glimpse_asks_of at (wanted ∷ left) sizes r w s
  hears_of at (wanted ∷ left) sizes a r w s = tt

  looks_at_of : (at : At) (kind : Kind) → NextOf slot (looks_at at slot kind)
  looks_at_of at (Glimpses sizes) r w s = glimpse_asks_of at w.left sizes r w s
  looks_at_of at (Narrow p n) r w s = looks_of (acts at slot (Narrow p n)) (acts_of at (Narrow p n)) w.left r w s
  looks_at_of at (Wide p n) r w s = looks_of (acts at slot (Wide p n)) (acts_of at (Wide p n)) w.left r w s
  looks_at_of at (Writes p bs) r w s = looks_of (acts at slot (Writes p bs)) (acts_of at (Writes p bs)) w.left r w s
  looks_at_of at (Cuts n) r w s = looks_of (acts at slot (Cuts n)) (acts_of at (Cuts n)) w.left r w s
  looks_at_of at (Stats mode links) r w s = looks_of (acts at slot (Stats mode links)) (acts_of at (Stats mode links)) w.left r w s

  comes_at_of : (at : At) (kind : Kind) (r : Running) (w : Work) (s : Store) (l : Lock) → AllOf slot (comes_at at slot kind r w s l)
  comes_at_of at (Glimpses sizes) r w s l = by w.left
    where
      by : (left : List Use) → AllOf slot (glimpse_comes at slot l left sizes r w s)
      by [] = tt
      by (wanted ∷ left) = glimpses_of at left (sizes ++ size_under l s ∷ []) r w s
  comes_at_of at (Narrow p n) r w s l = comes_of (acts at slot (Narrow p n)) (acts_of at (Narrow p n)) l w.left r w s
  comes_at_of at (Wide p n) r w s l = comes_of (acts at slot (Wide p n)) (acts_of at (Wide p n)) l w.left r w s
  comes_at_of at (Writes p bs) r w s l = comes_of (acts at slot (Writes p bs)) (acts_of at (Writes p bs)) l w.left r w s
  comes_at_of at (Cuts n) r w s l = comes_of (acts at slot (Cuts n)) (acts_of at (Cuts n)) l w.left r w s
  comes_at_of at (Stats mode links) r w s l = comes_of (acts at slot (Stats mode links)) (acts_of at (Stats mode links)) l w.left r w s

  sizes_of : (at : At) (a : Asking) (kind : Kind) → NextOf slot (sizes_heard at slot a kind)
  sizes_of at (Answered t reply) (Glimpses sizes) r w s = hears_of at w.left sizes reply.answer r w s
  sizes_of at a kind r w s = tt

  flushes_of : (resource : Resource) (patch : Patch) (hs : List HeldLock) → AllOf slot (flushes resource patch hs)
  flushes_of resource patch [] = tt
  flushes_of resource patch (h ∷ hs) = by (same_resource h.lock.resource resource) (flush_under patch h.lock.ask.mode h.lock.ask.policy)
      (flushes_of resource patch hs)
    where
      by : (b : Bool) (o : Option Flush) → AllOf slot (flushes resource patch hs)
          → AllOf slot (if b then elim o [ None ↦ flushes resource patch hs | Some change ↦ writes_back h.target h.lock change ]
          else flushes resource patch hs)
      by true None more = more
      by true (Some change) more = (tt, (tt, tt))
      by false o more = more

  flush_of : (at : At) (r : Running) (f : HandleFile) (is : List ℕ) (s : Store) → AllOf slot (flush_from at slot r f is s)
  flush_of at r f [] s = tells_of r at answer.Done None
  flush_of at r f (i ∷ is) s = by (in_flight patch) (is_clean patch) (flush_of at r f is s)
    where
      patch : Patch
      patch = patch_at (object f.fid i) s.patches

      stands : List Entry
      stands = Stands slot (record r { stage = Flushing i }) ∷ []

      by : (u v : Bool) → AllOf slot (flush_from at slot r f is s)
          → AllOf slot (if u then stands else if v then flush_from at slot r f is s else flushes (object f.fid i) patch (in_order s.held)
          ++ stands)
      by true v more = ((refl, tt), tt)
      by false true more = more
      by false false more = of_more slot (flushes (object f.fid i) patch (in_order s.held)) stands
          (flushes_of (object f.fid i) patch (in_order s.held)) ((refl, tt), tt)

  flushing_of : (at : At) (i : ℕ) (r : Running) (f : Option HandleFile) (s : Store) → AllOf slot (flushing at slot i r f s)
  flushing_of at i r None s = tt
  flushing_of at i r (Some f) s = flush_of at r f (drop i (stripes f.layout)) s

  advances_of : (at : At) (x : Stage) (r : Running) (s : Store) → AllOf slot (advances_at at slot x r s)
  advances_of at (Looks w) r s = looks_at_of at w.kind r w s
  advances_of at (Came w l) r s = comes_at_of at w.kind r w s l
  advances_of at (Sizes w) r s = sizes_of at r.asking w.kind r w s
  advances_of at (Flushing i) r s = flushing_of at i r r.file s
  advances_of at x r s = tt

  known_of : (at : At) (r : Running) (x : Known) → AllOf slot (tells_known at slot r x)
  known_of at r x = of_more slot (pins (names_of x.cookies)) _ (pins_of (names_of x.cookies))
      (refl, unpins_of (r.pins ++ names_of x.cookies))

  starts_known_of : (at : At) (r : Running) (o : Op) (x : Option Known) → AllOf slot (starts_known at slot r o x)
  starts_known_of at r o None = (tt, tt)
  starts_known_of at r o (Some x) = known_of at r x

  stats_of : (at : At) (fid : Fid) (layout : Raid0) (kind : Kind) (names : List LockName) (r : Running) (s : Store)
      → AllOf slot (stats at slot fid layout kind names r s)
  stats_of at fid layout kind names r s = of_more slot (pins names) _ (pins_of names) (looks_at_of at kind _ _ (store_turn s (pins names)))

  stats_file_of : (at : At) (path : List (List ℕ)) (r : Running) (s : Store) (f : Option KnownFile)
      → AllOf slot (stats_file at slot path r s f)
  stats_file_of at path r s None = (tt, tt)
  stats_file_of at path r s (Some f) = stats_of at f.fid f.layout (Stats f.mode f.links) (names_of f.cookies) r s

  starts_stat_of : (at : At) (path : List (List ℕ)) (r : Running) (s : Store) (n : Notes) (found : Found) (x : Option Known)
      → AllOf slot (starts_stat at slot path r s n found x)
  starts_stat_of at path r s n found (Some x) = known_of at r x
  starts_stat_of at path r s n found None = stats_file_of at path r s (file_known n found)

  starts_close_of : (calls : List (Option Running)) (f : Option HandleFile) → AllOf slot (starts_close slot calls f)
  starts_close_of calls None = tt
  starts_close_of calls (Some f) = by (nat_lt 1 (count_on f.number.0 calls))
    where
      by : (b : Bool) → AllOf slot (if b then [] else Queues 0 (record { slot = Some slot; op = op.Close f.number f.fid }) ∷ [])
      by true = tt
      by false = (tt, tt)

  starts_bytes_of : (at : At) (kind : Kind) (r : Running) (s : Store) (f : Option HandleFile) → AllOf slot (starts_bytes at slot kind r s f)
  starts_bytes_of at kind r s None = tt
  starts_bytes_of at kind r s (Some f) = looks_at_of at kind r (work_on f.fid f.layout kind) s

  starts_flush_of : (at : At) (r : Running) (s : Store) (f : Option HandleFile) → AllOf slot (starts_flush at slot r s f)
  starts_flush_of at r s None = tt
  starts_flush_of at r s (Some f) = flush_of at r f (stripes f.layout) s

  starts_glimpse_of : (at : At) (r : Running) (s : Store) (f : Option HandleFile) → AllOf slot (starts_glimpse at slot r s f)
  starts_glimpse_of at r s None = tt
  starts_glimpse_of at r s (Some f) = glimpses_of at _ [] r (work_on f.fid f.layout (Glimpses [])) s

  starts_names_of : (o : Option Op) → AllOf slot (starts_names slot o)
  starts_names_of None = tt
  starts_names_of (Some o) = (tt, tt)

  starts_of : (at : At) (x : Call) (r : Running) (k : ClientState) → AllOf slot (starts at slot x r k)
  starts_of at (call.Lookup path) r k = starts_known_of at r (op.Lookup path) (lookup_known (found_at_path (notes_of k) path))
  starts_of at (call.Stat path) r k = starts_stat_of at path r k.store (notes_of k) (found_at_path (notes_of k) path)
      (directory_known (notes_of k) (found_at_path (notes_of k) path))
  starts_of at (call.List path) r k = starts_known_of at r (op.List path) (list_known (notes_of k) (found_at_path (notes_of k) path))
  starts_of at (call.Layout path) r k = starts_known_of at r (op.Layout path) (layout_known (notes_of k) (found_at_path (notes_of k) path))
  starts_of at (call.Close h) r k = starts_close_of k.calls r.file
  starts_of at (call.Read h p n) r k = starts_bytes_of at (Narrow p n) r k.store r.file
  starts_of at (call.Write h p bs) r k = starts_bytes_of at (Writes p bs) r k.store r.file
  starts_of at (call.Cut h n) r k = starts_bytes_of at (Cuts n) r k.store r.file
  starts_of at (call.Flush h) r k = starts_flush_of at r k.store r.file
  starts_of at (call.Glimpse h) r k = starts_glimpse_of at r k.store r.file
  starts_of at x r k = starts_names_of (names_op x)

  answers_of : (at acted : At) (a : Answer) (x : Call) (r : Running) (k : ClientState) → AllOf slot (answers at slot acted a x r k)
  answers_of at acted (answer.OpenFile fid number layout) (call.Open h path) r k = (tt, tells_of r acted (answer.Made fid) None)
  answers_of at acted (answer.FileStat fid mode links layout) (call.Stat path) r k = stats_of at fid layout (Stats mode links) _ r k.store
  answers_of at acted a x r k = tells_of r acted a None

  plain_of : (at : At) (a : Asking) (r : Running) (k : ClientState) → AllOf slot (goes_plain at slot a r k)
  plain_of at Unasked r k = starts_of at r.call r k
  plain_of at (Answered t reply) r k = answers_of at reply.at reply.answer r.call r k
  plain_of at Asked r k = tt

  pub goes_of : (at : At) (x : Stage) (r : Running) (k : ClientState) → AllOf slot (goes_at at slot x r k)
  goes_of at Plain r k = plain_of at r.asking r k
  goes_of at Bad r k = tt
  goes_of at (Looks w) r k = advances_of at (Looks w) r k.store
  goes_of at (Enqueued w) r k = tt
  goes_of at (Waits w target l marked) r k = tt
  goes_of at (Came w l) r k = advances_of at (Came w l) r k.store
  goes_of at (Forgotten w) r k = tt
  goes_of at (Gets w) r k = tt
  goes_of at (Flushing i) r k = advances_of at (Flushing i) r k.store
  goes_of at (Sizes w) r k = advances_of at (Sizes w) r k.store

  -- and so does a call as it begins
  refuses_of : (at : At) (x : Call) → AllOf slot (refuses at slot x)
  refuses_of at x = ((refl, tt), (refl, tt))

  on_of : (at : At) (x : Call) (f : Option HandleFile) → AllOf slot (begins_on at slot x f)
  on_of at x None = refuses_of at x
  on_of at x (Some f) = ((refl, tt), tt)

  close_of : (at : At) (h : ℕ) (f : Option HandleFile) → AllOf slot (begins_close at slot h f)
  close_of at h None = refuses_of at (call.Close h)
  close_of at h (Some f) = ((refl, tt), (tt, tt))

  open_of : (at : At) (x : Call) (b : Bool) → AllOf slot (begins_open at slot x b)
  open_of at x true = refuses_of at x
  open_of at x false = ((refl, tt), tt)

  pub begins_of : (at : At) (x : Call) (k : ClientState) → AllOf slot (begins at slot x k)
  begins_of at (call.Open h path) k = open_of at (call.Open h path) _
  begins_of at (call.Close h) k = close_of at h _
  begins_of at (call.Read h p n) k = on_of at (call.Read h p n) _
  begins_of at (call.Write h p bs) k = on_of at (call.Write h p bs) _
  begins_of at (call.Cut h n) k = on_of at (call.Cut h n) _
  begins_of at (call.Flush h) k = on_of at (call.Flush h) _
  begins_of at (call.Glimpse h) k = on_of at (call.Glimpse h) _
  begins_of at x k = ((refl, tt), tt)

-- ---- the rest of a turn changes no call

pub marks_plain : (hs : List HeldLock) → AllPlain (rows.marks_of hs)
marks_plain [] = tt
marks_plain (h ∷ hs) = (tt, marks_plain hs)

visit_plain : (over : Bool) (h : HeldLock) (k : ClientState) → AllPlain (visits over h k)
visit_plain over h k = by (must_write over h h.lock.ask.mode h.lock.ask.policy patch) (in_flight patch)
    (flush_under patch h.lock.ask.mode h.lock.ask.policy) (is_called h && is_serving i.standing)
  where
    patch : Patch
    patch = patch_at h.lock.resource k.store.patches

    i : Import
    i = import_of h.target.0 k.imports

    by : (u v : Bool) (o : Option Flush) (b : Bool) → AllPlain (if u then (if v then [] else writes_next h o)
        else (if b then Drop h.target.0 h.lock ∷ Send (Target h.target.0) (message.Cancel k.who i.boot h.lock.cookie) ∷ [] else []))
    by true true o b = tt
    by true false None b = tt
    by true false (Some flush) b = (tt, (tt, tt))
    by false v o true = (tt, (tt, tt))
    by false v o false = tt

pub visits_plain : (over : Bool) (hs : List HeldLock) (k : ClientState) → AllPlain (visits_all over hs k)
visits_plain over [] k = tt
visits_plain over (h ∷ hs) k = plain_more (visits over h k) _ (visit_plain over h k) (visits_plain over hs (turn_of k (visits over h k)))

sends_plain : (limits : Limits) (who : Who) (boot t last : ℕ) (flights : List Flight) (queue : List Queued)
    → AllPlain (sends limits who boot t last flights queue)
sends_plain limits who boot t last flights [] = tt
sends_plain limits who boot t last flights (q ∷ queue) = by (has_room limits t q.op flights)
    (sends_plain limits who boot t (last + 1) (flights ++ next_flight last flights q ∷ []) queue)
  where
    by : (b : Bool) → AllPlain (sends limits who boot t (last + 1) (flights ++ next_flight last flights q ∷ []) queue)
        → AllPlain (if b then flies who boot t (next_flight last flights q)
        (sends limits who boot t (last + 1) (flights ++ next_flight last flights q ∷ []) queue) else [])
    by true more = (tt, (tt, more))
    by false more = tt

to_plain : (limits : Limits) (who : Who) (t : ℕ) (i : Import) → AllPlain (sends_to limits who t i)
to_plain limits who t i = by (is_serving i.standing)
  where
    by : (b : Bool) → AllPlain (if b then sends limits who i.boot t i.last i.flights i.queue else [])
    by true = sends_plain limits who i.boot t i.last i.flights i.queue
    by false = tt

pub all_plain : (limits : Limits) (who : Who) (t : ℕ) (imports : List Import) → AllPlain (sends_all limits who t imports)
all_plain limits who t [] = tt
all_plain limits who t (i ∷ imports) = plain_more (sends_to limits who t i) _ (to_plain limits who t i)
    (all_plain limits who (t + 1) imports)

-- ---- so all that is waited for stays

module _ (head : table.Head) (c : ℕ) (stamp : Stamp) where
  abbrev at : At
  at = turn stamp (Client c)

  -- where a line is quiet, and each call waits as before
  abbrev pub Counted : List Line → Type 0
  Counted p = (t k : ℕ) → awaits_of (life_at c p) k (only t p) ≡ waiting_for (lock_named t k) (calls_at c p)

  pub same_counts : (p : List Line) (e : Entry) → IsQuiet e → ((name : LockName) (s : ℕ) → is_waiter name (call_at c s (line at e ∷ p))
      ≡ is_waiter name (call_at c s p)) → Counted p → Counted (line at e ∷ p)
  same_counts p e q same counts t k =
      ap (λ (w : Who). awaits_of w k (only t (line at e ∷ p))) (life_quiet c at e p q)
      ∙ awaits_quiet (life_at c p) k t at e p q
      ∙ counts t k
      ∙ sym (count_same (lock_named t k) c p (line at e ∷ p) (same (lock_named t k)))

  pub same_awaits : (p : List Line) (e : Entry) → IsQuiet e → ((name : LockName) (s : ℕ) → is_waiter name (call_at c s (line at e ∷ p))
      ≡ is_waiter name (call_at c s p)) → Awaits c p → Awaits c (line at e ∷ p)
  same_awaits p e q same a = record { counts = same_counts p e q same a.counts; marks = marks_quiet c at e p q a.marks }

  pub plain_waiter : (p : List Line) (e : Entry) → IsPlain e → (name : LockName) (s : ℕ) → is_waiter name (call_at c s (line at e ∷ p))
      ≡ is_waiter name (call_at c s p)
  plain_waiter p e i name s = ap (is_waiter name) (call_line head c stamp s p e) ∙ by e i
    where
      by : (e : Entry) → IsPlain e → is_waiter name (call_after s (call_at c s p) e) ≡ is_waiter name (call_at c s p)
      by (Begin u r) i = absurd i
      by (Stands u r) i = absurd i
      by (Told u acted a w) i = absurd i
      by (Heard t f r) i = absurd i
      by (Queues t q) i = asks_waiter name q.slot s Asked (call_at c s p)
      by e i = refl

  pub plains_waiter : (es : List Entry) (p : List Line) → AllPlain es → (name : LockName) (s : ℕ)
      → is_waiter name (call_at c s (with_turn at es p)) ≡ is_waiter name (call_at c s p)
  plains_waiter [] p i name s = refl
  plains_waiter (e ∷ es) p i name s = plains_waiter es (line at e ∷ p) i.1 name s ∙ plain_waiter p e i.0 name s

  pub plains_await : (es : List Entry) (p : List Line) → AllPlain es → Awaits c p → Awaits c (with_turn at es p)
  plains_await [] p i a = a
  plains_await (e ∷ es) p i a = plains_await es (line at e ∷ p) i.1 (same_awaits p e (quiet_plain e i.0) (plain_waiter p e i.0) a)

  module _ (slot : ℕ) where
    abbrev Free : List Line → Type 0
    Free p = (name : LockName) → is_waiter name (call_at c slot p) ≡ false

    of_waiter : (p : List Line) (e : Entry) → OfSlot slot e → Free p → (name : LockName) (s : ℕ)
        → is_waiter name (call_at c s (line at e ∷ p)) ≡ is_waiter name (call_at c s p)
    of_waiter p e o free name s = ap (is_waiter name) (call_line head c stamp s p e) ∙ by e o
      where
        Old : Bool
        Old = is_waiter name (call_at c s p)

        there : (u : ℕ) → u ≡ slot → nat_eq u s ≡ true → Old ≡ false
        there u q e = ap (λ (v : ℕ). is_waiter name (call_at c v p)) (sym (eqb-true u s e) ∙ q) ∙ free name

        puts : (u : ℕ) (x : Option Running) → u ≡ slot → is_waiter name x ≡ false → (b : Bool) → nat_eq u s ≡ b
            → is_waiter name (if b then x else call_at c s p) ≡ Old
        puts u x q n true e = n ∙ sym (there u q e)
        puts u x q n false e = refl

        by : (e : Entry) → OfSlot slot e → is_waiter name (call_after s (call_at c s p) e) ≡ Old
        by (Begin u r) o = puts u (Some r) o.0 (no_wait name r.stage o.1) (nat_eq u s) refl
        by (Stands u r) o = puts u (Some r) o.0 (no_wait name r.stage o.1) (nat_eq u s) refl
        by (Told u acted a w) o = puts u None o refl (nat_eq u s) refl
        by (Heard t f r) o = absurd o
        by (Queues t q) o = asks_waiter name q.slot s Asked (call_at c s p)
        by e o = refl

    pub slot_waiter : (es : List Entry) (p : List Line) → AllOf slot es → Free p → (name : LockName) (s : ℕ)
        → is_waiter name (call_at c s (with_turn at es p)) ≡ is_waiter name (call_at c s p)
    slot_waiter [] p o free name s = refl
    slot_waiter (e ∷ es) p o free name s = slot_waiter es (line at e ∷ p) o.1 (λ name. of_waiter p e o.0 free name slot ∙ free name) name s
        ∙ of_waiter p e o.0 free name s

    pub slot_awaits : (es : List Entry) (p : List Line) → AllOf slot es → Free p → Awaits c p → Awaits c (with_turn at es p)
    slot_awaits [] p o free a = a
    slot_awaits (e ∷ es) p o free a =
        slot_awaits es (line at e ∷ p) o.1 (λ name. of_waiter p e o.0 free name slot ∙ free name)
        (same_awaits p e (quiet_slot slot e o.0) (of_waiter p e o.0 free) a)

  -- ---- of a whole turn after its event

  abbrev pub Lets : (ClientState → List Entry) → Type 0
  Lets f = (p : List Line) → Awaits c p → Awaits c (with_turn at (f (client_of head c p)) p)

  pub lets_more : (f g : ClientState → List Entry) → Lets f → Lets g → Lets (λ k. follow (f k) g k)
  lets_more f g first second p a =
      let es = f (client_of head c p) in
      subst (Awaits c) (sym (followed head c stamp es g p)) (second (with_turn at es p) (first p a))

  slot_goes : (slot : ℕ) → slot < 4 → Lets (goes at slot)
  slot_goes slot small p a = by (call_on slot (calls_at c p)) (on_small c slot p small)
    where
      k : ClientState
      k = client_of head c p

      moves : (r : Running) → call_at c slot p ≡ Some r → (x : Stage) → r.stage ≡ x → NoWait x
          → Awaits c (with_turn at (goes_at at slot x r k) p)
      moves r is x e n = slot_awaits slot (goes_at at slot x r k) p (goes_of slot at x r k)
          (λ name. ap (is_waiter name) is ∙ ap (waits_for name) e ∙ no_wait name x n) a

      on : (r : Running) → call_at c slot p ≡ Some r → (x : Stage) → r.stage ≡ x → Awaits c (with_turn at (goes_at at slot x r k) p)
      on r is (Waits w target l marked) e = a
      on r is x e = moves r is x e tt

      by : (x : Option Running) → x ≡ call_at c slot p → Awaits c (with_turn at (goes_on at slot k x) p)
      by None e = a
      by (Some r) e = on r (sym e) r.stage refl

  passes_let : (slots : List ℕ) → AllSmall slots → Lets (passes at slots)
  passes_let [] small p a = a
  passes_let (slot ∷ slots) small p a = lets_more (goes at slot) (passes at slots) (slot_goes slot small.0) (passes_let slots small.1) p a

  slots_let : (n : ℕ) → Lets (slots_go n at)
  slots_let zero p a = a
  slots_let (suc n) p a =
      lets_more (passes at all_slots) (λ k. if list_any (is_free_close k.calls) k.calls then slots_go n at k else [])
      (passes_let all_slots (omega arith, (omega arith, (omega arith, (omega arith, tt)))))
      (λ q b. again q b (slots_let n q b) (list_any (is_free_close (calls_at c q)) (calls_at c q))) p a
    where
      again : (q : List Line) → Awaits c q → Awaits c (with_turn at (slots_go n at (client_of head c q)) q) → (b : Bool)
          → Awaits c (with_turn at (if b then slots_go n at (client_of head c q) else []) q)
      again q a more true = more
      again q a more false = a

  trims_let : Lets (trims (limits_of head))
  trims_let p a = plains_await (trims (limits_of head) (client_of head c p)) p
      (marks_plain (reverse (drop (limits_of head).unused (filter is_free (client_of head c p).store.held)))) a

  locks_let : Lets (locks_go (limits_of head))
  locks_let p a =
      let k = client_of head c p in
      plains_await (locks_go (limits_of head) k) p (visits_plain (nat_lt (limits_of head).dirty (dirty_total k.store.patches))
      (in_order k.store.held) k) a

  sends_let : Lets (λ k. sends_all (limits_of head) k.who 0 k.imports)
  sends_let p a =
      let k = client_of head c p in
      plains_await (sends_all (limits_of head) k.who 0 k.imports) p (all_plain (limits_of head) k.who 0 k.imports) a

  pub rests_let : Lets (rests (limits_of head) at)
  rests_let p a =
      let limits = limits_of head in
      let last = λ (k : ClientState). sends_all limits k.who 0 k.imports in
      let gone = λ (k : ClientState). follow (locks_go limits k) last k in
      lets_more (slots_go 5 at) (λ k. follow (trims limits k) gone k) (slots_let 5)
      (lets_more (trims limits) gone trims_let (lets_more (locks_go limits) last locks_let sends_let)) p a

  -- and as a call begins
  pub begins_let : (slot : ℕ) (x : Call) (p : List Line) → call_at c slot p ≡ None → Awaits c p
      → Awaits c (with_turn at (begins at slot x (client_of head c p)) p)
  begins_let slot x p none a = slot_awaits slot (begins at slot x (client_of head c p)) p (begins_of slot at x (client_of head c p))
      (λ name. ap (is_waiter name) none) a
