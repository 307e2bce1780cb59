-- A client's slots: whatever its calls do in a pass over them, looking for locks, fetching pages, reading, writing, cutting and writing
-- back, they make
-- lines such as may stand (`LineCalm`), and what they want is on objects of object storage targets.
use Rattle.std.proofs.Common.{◌≡◌, ℕ, zero, suc, ◌+◌, ◌-◌, ◌^◌, ◌≤◌, true, List, [], ◌∷◌, ◌++◌, length, Option, Some, None, refl, subst}
use Rattle.std.proofs.Common.{arith}
use Rattle.std.specs.Prelude.{nat_eq, nat_lt, ◌&&◌, if◌then◌else◌, filter, drop, min}
use Rattle.std.specs.List.{list_any, range_with_len}
use Rattle.std.proofs.lemmas.Bool.{cond_both}
use Rattle.std.proofs.lemmas.Bool.Decides.{nat_tests}
use Rattle.lu_base.specs.declared.ids.At.{At}
use Rattle.lu_base.specs.declared.ids.Cookie.{Cookie}
use Rattle.lu_base.specs.declared.ids.Fid.{Fid}
use Rattle.lu_base.specs.declared.locks.Extent.{Extent}
use Rattle.lu_base.specs.declared.locks.Lock.{Lock}
use Rattle.lu_base.specs.declared.locks.Mode.{Mode}
use Rattle.lu_base.specs.declared.locks.Mode.TheVariants.{PR, PW}
use Rattle.lu_base.specs.declared.locks.Resource.{Resource}
use Rattle.lu_layout.specs.Raid0.{Raid0}
use Rattle.lu_msg.specs.declared.answers.Answer.{Answer}
use Rattle.lu_msg.specs.declared.answers.Answer.TheVariants as told
use Rattle.lu_msg.specs.declared.calls.Call.{Call}
use Rattle.lu_msg.specs.declared.calls.Call.TheVariants as call
use Rattle.lu_msg.specs.declared.operations.Op.{Op}
use Rattle.lu_msg.specs.declared.operations.Op.TheVariants as op
use Rattle.lu_held.specs.declared.names.LockName.{LockName}
use Rattle.lu_held.specs.declared.locks.HeldLock.{HeldLock}
use Rattle.lu_held.specs.declared.locks.Use.{Use}
use Rattle.lu_held.specs.Locks.{same_resource}
use Rattle.lu_held.specs.Held.{in_order, serving}
use Rattle.lu_part.specs.declared.parts.Part.{Part}
use Rattle.lu_part.specs.declared.parts.Part.TheVariants as part
use Rattle.lu_spec_entries.specs.declared.changes.Flush.{Flush}
use Rattle.lu_spec_entries.specs.declared.changes.Flush.TheVariants.{Put, Cut}
use Rattle.lu_spec_entries.specs.declared.uses.Using.{Using}
use Rattle.lu_spec_entries.specs.Carried.{HandleFile, Kind, Narrow, Wide, Writes, Cuts, Stats, Glimpses, Work, Asking, Unasked, Asked}
use Rattle.lu_spec_entries.specs.Carried.{Answered, Stage, Plain, Bad, Looks, Enqueued, Waits, Came, Forgotten, Gets, Flushing, Sizes}
use Rattle.lu_spec_entries.specs.Carried.{Running}
use Rattle.lu_spec_entries.specs.Words.{Entry, Pins, Stands}
use Rattle.lu_spec_client.specs.Advances.{pinned, unpins, tells, at_stage, asks_lock, name_under, using, Next, takes_up, looks_on, looks}
use Rattle.lu_spec_client.specs.Advances.{comes, gets, reads_wide, widened, widens, reads_narrow, writes, cuts, acts}
use Rattle.lu_spec_client.specs.Caches.{patch_at}
use Rattle.lu_spec_client.specs.Calls.{Bound, call_on, file_of}
use Rattle.lu_spec_client.specs.Facts.{Fact}
use Rattle.lu_spec_client.specs.Glimpses.{sized, asks_size, glimpses_on, glimpses, glimpse_asks, glimpse_comes, glimpse_hears}
use Rattle.lu_spec_client.specs.Known.{Notes, Known, KnownFile, Found, same_part, is_usable, lesser, of_least_cookie, fact_on}
use Rattle.lu_spec_client.specs.Known.{found_at_path, lookup_known, list_known, layout_known, directory_known, file_with, file_facts}
use Rattle.lu_spec_client.specs.Known.{file_at, file_known, cookies_of_file, names_of}
use Rattle.lu_spec_client.specs.Locks.{writes_next}
use Rattle.lu_spec_client.specs.Looks.{Page, missing, content, file_size, has_reached, size_under}
use Rattle.lu_spec_client.specs.Messages.{asked}
use Rattle.lu_spec_client.specs.Patches.{Patch, in_flight}
use Rattle.lu_spec_client.specs.Slots.{goes, goes_at, goes_on, passes, all_slots, slots_go, is_free_close}
use Rattle.lu_spec_client.specs.Starts.{looks_at, comes_at, sizes_heard, work_on, notes_of, pins, with_pins, count_on, asks_names}
use Rattle.lu_spec_client.specs.Starts.{tells_known, starts_known, stats, stats_file, starts_stat, starts_close, starts_bytes, starts_flush}
use Rattle.lu_spec_client.specs.Starts.{starts_glimpse, starts, answers, goes_plain}
use Rattle.lu_spec_client.specs.States.{Client, Store, store_turn}
use Rattle.lu_spec_client.specs.Stripes.{below_on, stripes, object}
use Rattle.lu_spec_client.specs.Wants.{want, wants_run, wants_rest, wants_cut, wants_of}
use Rattle.lu_spec_client.specs.WriteBack.{is_clean, flush_under, flushes, flush_from, flushing}
use Rattle.lu_proof_lawful.proofs.Laws.SilentReading.{below_low}
use Rattle.lu_proof_scenes.proofs.Every.{Every, every_more, every_filter}
use Rattle.lu_proof_scenes.proofs.Asking.{IsOrdered}
use Rattle.lu_proof_scenes.proofs.Clients.{OnOsts, FileCalm, BoundCalm, AnswerCalm, AskingCalm, IsLow, KindCalm, UseCalm, WorkCalm}
use Rattle.lu_proof_scenes.proofs.Clients.{StageCalm, RunningCalm, CallCalm, FactCalm, Calm, LineCalm, AllCalm, follow_calm, on_calm}

-- ---- what is known of a file: its layout is on object storage targets

some_so : (f : Fact) (o : Option Fact) → FactCalm f → ((g : Fact) → o ≡ Some g → FactCalm g) → FactCalm (lesser f o)
some_so f None c more = c
some_so f (Some g) c more = cond_both (nat_lt g.cookie.0 f.cookie.0) g f FactCalm (λ t. more g refl) (λ t. c)

least_so : (facts : List Fact) (f : Fact) → Every FactCalm facts → of_least_cookie facts ≡ Some f → FactCalm f
least_so [] f c e = absurd (cc)
least_so (g ∷ facts) f c e =
    let same : lesser g (of_least_cookie facts) ≡ f = cc in
    subst FactCalm same (some_so g (of_least_cookie facts) c.0 (λ x is. least_so facts x c.1 is))

fact_so : (p : Part) (n : Notes) (f : Fact) → Every FactCalm n.facts → fact_on p n ≡ Some f → FactCalm f
fact_so p n f c e =
    least_so (filter (λ (g : Fact). same_part p g.part && is_usable g.cookie n.held) n.facts) f
    (every_filter FactCalm (λ (g : Fact). same_part p g.part && is_usable g.cookie n.held) n.facts c) e

abbrev KnownCalm : Option KnownFile → Type 0
KnownCalm None = Unit {0}
KnownCalm (Some f) = OnOsts f.layout

known_with : (found : Found) (a l : Cookie) (x y : Answer) → AnswerCalm y → KnownCalm (file_with found a l x y)
known_with found a l (told.FileStat fid mode links old) (told.Layout layout) on = on
known_with found a l x y on = tt

known_facts : (found : Found) (a l : Option Fact) → ((f : Fact) → l ≡ Some f → FactCalm f) → KnownCalm (file_facts found a l)
known_facts found None l c = tt
known_facts found (Some a) None c = tt
known_facts found (Some a) (Some l) c = known_with found a.cookie l.cookie a.answer l.answer (c l refl)

pub known_at : (n : Notes) (found : Found) (o : Option Answer) → Every FactCalm n.facts → KnownCalm (file_at n found o)
known_at n found (Some (told.File f)) c = known_facts found (fact_on (part.Attr f) n) (fact_on (part.Layout f) n)
    (λ g is. fact_so (part.Layout f) n g c is)
known_at n found _ c = tt

-- ---- files and their objects

pub file_calm : (h : ℕ) (handles : List Bound) → Every BoundCalm handles → FileCalm (file_of h handles)
file_calm h [] c = tt
file_calm h (b ∷ handles) c = cond_both (nat_eq b.handle h) (Some b.file) (file_of h handles) FileCalm (λ t. c.0)
    (λ t. file_calm h handles c.1)

before_last : (first end : ℕ) → nat_lt first end ≡ true → first ≤ end - 1
before_last first end less = grind (arith, nat_tests)

run_uses : (l : Raid0) (fid : Fid) (mode : Mode) (p end from more : ℕ) → OnOsts l → from + more ≡ length l.targets
    → Every UseCalm (wants_run l fid mode p end (range_with_len from more))
run_uses l fid mode p end from zero on all = tt
run_uses l fid mode p end from (suc more) on all =
    let extent : Extent = record { first = below_on l from p; last = below_on l from end - 1 } in
    let rest : List Use = wants_run l fid mode p end (range_with_len (from + 1) more) in
    let calm : Every UseCalm rest = run_uses l fid mode p end (from + 1) more on (omega (arith, all)) in
    cond_both (nat_lt (below_on l from p) (below_on l from end)) (want l fid mode from extent ∷ rest) rest (Every UseCalm)
    (λ t. ((on from (omega (arith, all)), before_last (below_on l from p) (below_on l from end) t), calm)) (λ t. calm)

-- an offset below the limit of files is below the greatest one
below_end : (l : Raid0) (i p : ℕ) → p ≤ 2 ^ 40 → below_on l i p ≤ 2 ^ 64 - 1
below_end l i p low = let few = below_low l i p in omega (arith, few, low)

rest_uses : (l : Raid0) (fid : Fid) (p from more : ℕ) → OnOsts l → p ≤ 2 ^ 40 → from + more ≡ length l.targets
    → Every UseCalm (wants_rest l fid p (range_with_len from more))
rest_uses l fid p from zero on low all = tt
rest_uses l fid p from (suc more) on low all =
    ((on from (omega (arith, all)), below_end l from p low), rest_uses l fid p (from + 1) more on low (omega (arith, all)))

cut_uses : (l : Raid0) (fid : Fid) (n from more : ℕ) → OnOsts l → n ≤ 2 ^ 40 → from + more ≡ length l.targets
    → Every UseCalm (wants_cut l fid n (range_with_len from more))
cut_uses l fid n from zero on low all = tt
cut_uses l fid n from (suc more) on low all =
    let less = below_end l from n low in
    ((on from (omega (arith, all)), omega (arith, less)), cut_uses l fid n (from + 1) more on low (omega (arith, all)))

-- what a call on bytes wants is on object storage targets
uses_calm : (l : Raid0) (fid : Fid) (kind : Kind) → KindCalm kind → OnOsts l → Every UseCalm (wants_of l fid kind)
uses_calm l fid (Narrow p n) is on = run_uses l fid PR p (p + n) 0 (length l.targets) on (omega arith)
uses_calm l fid (Wide p n) is on = rest_uses l fid p 0 (length l.targets) on is (omega arith)
uses_calm l fid (Writes p bs) is on = run_uses l fid PW p (p + length bs) 0 (length l.targets) on (omega arith)
uses_calm l fid (Cuts n) is on = cut_uses l fid n 0 (length l.targets) on is (omega arith)
uses_calm l fid (Stats mode links) is on = rest_uses l fid 0 0 (length l.targets) on (omega arith) (omega arith)
uses_calm l fid (Glimpses sizes) is on = rest_uses l fid 0 0 (length l.targets) on (omega arith) (omega arith)

work_calm : (fid : Fid) (layout : Raid0) (kind : Kind) → KindCalm kind → OnOsts layout → WorkCalm (work_on fid layout kind)
work_calm fid layout kind is on = record { kind = is; layout = on; left = uses_calm layout fid kind is on }

sized_calm : (left : List Use) (sizes : List ℕ) (w : Work) → Every UseCalm left → WorkCalm w → WorkCalm (sized left sizes w)
sized_calm left sizes w uses c = record { kind = tt; layout = c.layout; left = uses }

-- ---- the parts of a row

module _ (P : Call → Type 0) (MayAsk : Type 0) (osts : ℕ) where
  abbrev All : List Entry → Type 0
  All es = AllCalm P MayAsk osts es

  pub more_calm : (es fs : List Entry) → All es → All fs → All (es ++ fs)
  more_calm es fs one two = every_more (LineCalm P MayAsk osts) es fs one two

  pins_calm : (names : List LockName) → All (pins names)
  pins_calm [] = tt
  pins_calm (n ∷ names) = (tt, pins_calm names)

  unpins_calm : (names : List LockName) → All (unpins names)
  unpins_calm [] = tt
  unpins_calm (n ∷ names) = (tt, unpins_calm names)

  known_calm : (at : At) (slot : ℕ) (r : Running) (known : Known) → All (tells_known at slot r known)
  known_calm at slot r known = more_calm (pins (names_of known.cookies)) _ (pins_calm (names_of known.cookies)) (tt, unpins_calm _)

  names_calm : (slot : ℕ) (o : Op) → IsOrdered o → All (asks_names slot o)
  names_calm slot o is = (is, tt)

  starts_known_calm : (at : At) (slot : ℕ) (r : Running) (o : Op) (known : Option Known) → IsOrdered o
      → All (starts_known at slot r o known)
  starts_known_calm at slot r o None is = names_calm slot o is
  starts_known_calm at slot r o (Some known) is = known_calm at slot r known

  -- a close waits, or asks
  close_calm : (slot : ℕ) (calls : List (Option Running)) (file : Option HandleFile) → All (starts_close slot calls file)
  close_calm slot calls None = tt
  close_calm slot calls (Some f) = cond_both (nat_lt 1 (count_on f.number.0 calls)) [] (asks_names slot (op.Close f.number f.fid)) All
      (λ t. tt) (λ t. (tt, tt))

  -- a call is told its answer
  tells_calm : (slot : ℕ) (r : Running) (at : At) (a : Answer) (work : Option Work) → All (tells slot r at a work)
  tells_calm slot r at a work = (tt, unpins_calm r.pins)

  pub stands_calm : (r : Running) (stage : Stage) → StageCalm stage → RunningCalm r → RunningCalm (at_stage r stage)
  stands_calm r stage is c = record { stage = is; asking = c.asking; file = c.file; low = c.low }

  -- ---- write-back

  pub flushes_calm : (resource : Resource) (p : Patch) (held : List HeldLock) → All (flushes resource p held)
  flushes_calm resource p [] = tt
  flushes_calm resource p (h ∷ held) =
      cond_both (same_resource h.lock.resource resource) (elim (flush_under p h.lock.ask.mode h.lock.ask.policy)
      [ None ↦ flushes resource p held | Some flush ↦ writes_next h (Some flush) ]) (flushes resource p held) All
      (λ t. by (flush_under p h.lock.ask.mode h.lock.ask.policy) (flushes_calm resource p held)) (λ t. flushes_calm resource p held)
    where
      by : (o : Option Flush) → All (flushes resource p held) → All
          (elim o [ None ↦ flushes resource p held | Some flush ↦ writes_next h (Some flush) ])
      by None more = more
      by (Some (Put at bs)) more = (tt, (tt, tt))
      by (Some (Cut n)) more = (tt, (tt, tt))

  flush_calm : (at : At) (slot : ℕ) (r : Running) (f : HandleFile) (is : List ℕ) (s : Store) → RunningCalm r
      → All (flush_from at slot r f is s)
  flush_calm at slot r f [] s c = tells_calm slot r at told.Done None
  flush_calm at slot r f (i ∷ is) s c =
      let p : Patch = patch_at (object f.fid i) s.patches in
      let waits : List Entry = Stands slot (at_stage r (Flushing i)) ∷ [] in
      let stands : All waits = (stands_calm r (Flushing i) tt c, tt) in
      cond_both (in_flight p) waits (if is_clean p then flush_from at slot r f is s else flushes (object f.fid i) p (in_order s.held)
      ++ waits) All (λ t. stands)
      (λ t. cond_both (is_clean p) (flush_from at slot r f is s) (flushes (object f.fid i) p (in_order s.held) ++ waits) All
      (λ b. flush_calm at slot r f is s c)
      (λ b. more_calm (flushes (object f.fid i) p (in_order s.held)) waits (flushes_calm (object f.fid i) p (in_order s.held)) stands))

  flushing_calm : (at : At) (slot i : ℕ) (r : Running) (file : Option HandleFile) (s : Store) → RunningCalm r
      → All (flushing at slot i r file s)
  flushing_calm at slot i r None s c = tt
  flushing_calm at slot i r (Some f) s c = flush_calm at slot r f (drop i (stripes f.layout)) s c

  -- ---- glimpses

  -- one asks for the next object, or holds its lock, or is told
  glimpses_calm : (at : At) (slot : ℕ) (left : List Use) (sizes : List ℕ) (r : Running) (w : Work) (s : Store) → RunningCalm r → WorkCalm w
      → Every UseCalm left → All (glimpses at slot left sizes r w s)
  glimpses_calm at slot [] sizes r w s c work uses = tells_calm slot r at (told.Sizes sizes) None
  glimpses_calm at slot (wanted ∷ left) sizes r w s c work uses =
      by (serving wanted s.held) (λ h. glimpses_calm at slot left (sizes ++ size_under h.lock s ∷ []) r w s c work uses.1)
    where
      more : HeldLock → List Entry
      more h = glimpses at slot left (sizes ++ size_under h.lock s ∷ []) r w s

      by : (o : Option HeldLock) → ((h : HeldLock) → All (more h)) → All (glimpses_on more (asks_size slot wanted left sizes r w) o)
      by None on = (stands_calm r (Sizes (sized (wanted ∷ left) sizes w)) (sized_calm (wanted ∷ left) sizes w uses work) c, (tt, tt))
      by (Some h) on = on h

  -- a lock is asked for
  asks_calm : (slot : ℕ) (wanted : Use) (left : List Use) (r : Running) (w : Work) → UseCalm wanted → RunningCalm r
      → WorkCalm (record w { left = wanted ∷ left }) → All (asks_lock slot wanted r (record w { left = wanted ∷ left }))
  asks_calm slot wanted left r w one c work = (stands_calm r (Enqueued (record w { left = wanted ∷ left })) work c, (one.1, tt))

  glimpse_asks_calm : (at : At) (slot : ℕ) (left : List Use) (sizes : List ℕ) (r : Running) (w : Work) (s : Store) → RunningCalm r
      → WorkCalm w → Every UseCalm left → All (glimpse_asks at slot left sizes r w s)
  glimpse_asks_calm at slot [] sizes r w s c work uses = tt
  glimpse_asks_calm at slot (wanted ∷ left) sizes r w s c work uses = by (serving wanted s.held)
    where
      more : HeldLock → List Entry
      more h = glimpses at slot left (sizes ++ size_under h.lock s ∷ []) r w s

      by : (o : Option HeldLock) → All (glimpses_on more (asks_lock slot wanted r (sized (wanted ∷ left) sizes w)) o)
      by None = asks_calm slot wanted left r (sized (wanted ∷ left) sizes w) uses.0 c (sized_calm (wanted ∷ left) sizes w uses work)
      by (Some h) = glimpses_calm at slot left (sizes ++ size_under h.lock s ∷ []) r w s c work uses.1

  glimpse_comes_calm : (at : At) (slot : ℕ) (l : Lock) (left : List Use) (sizes : List ℕ) (r : Running) (w : Work) (s : Store)
      → RunningCalm r → WorkCalm w → Every UseCalm left → All (glimpse_comes at slot l left sizes r w s)
  glimpse_comes_calm at slot l [] sizes r w s c work uses = tt
  glimpse_comes_calm at slot l (wanted ∷ left) sizes r w s c work uses =
      glimpses_calm at slot left (sizes ++ size_under l s ∷ []) r w s c work uses.1

  size_calm : (at : At) (slot : ℕ) (left : List Use) (sizes : List ℕ) (a : Answer) (r : Running) (w : Work) (s : Store) → RunningCalm r
      → WorkCalm w → Every UseCalm left → All (glimpse_hears at slot left sizes a r w s)
  size_calm at slot (wanted ∷ left) sizes (told.Size size) r w s c work uses =
      glimpses_calm at slot left (sizes ++ size ∷ []) r w s c work uses.1
  size_calm at slot left sizes told.Lock r w s c work uses = glimpse_asks_calm at slot left sizes r w s c work uses
  size_calm at slot left sizes a r w s c work uses = tt

  sizes_calm : (at : At) (slot : ℕ) (asking : Asking) (kind : Kind) (r : Running) (w : Work) (s : Store) → RunningCalm r → WorkCalm w
      → All (sizes_heard at slot asking kind r w s)
  sizes_calm at slot (Answered t reply) (Glimpses sizes) r w s c work = size_calm at slot w.left sizes reply.answer r w s c work work.left
  sizes_calm at slot asking kind r w s c work = tt

  -- ---- a call under its locks

  -- what comes of it with these locks in use
  abbrev Goes : Next → Type 0
  Goes next = (r : Running) (w : Work) (s : Store) → RunningCalm r → WorkCalm w → All (next r w s)

  -- a lock is used
  takes_calm : (slot : ℕ) (wanted : Use) (l : Lock) (left : List Use) (more : Next) (r : Running) (w : Work) (s : Store) → Goes more
      → Every UseCalm left → RunningCalm r → WorkCalm w → All (takes_up slot wanted l left more r w s)
  takes_calm slot wanted l left more r w s goes uses c work =
      let name : LockName = name_under wanted l in (
        tt,
        goes (pinned name r) (using wanted l left w) (store_turn s (Pins name ∷ []))
            (record { stage = c.stage; asking = c.asking; file = c.file; low = c.low })
            (record { kind = work.kind; layout = work.layout; left = uses }),
      )

  looks_for_calm : (slot : ℕ) (next : Next) (left : List Use) (r : Running) (w : Work) (s : Store) → Goes next → Every UseCalm left
      → RunningCalm r → WorkCalm w → All (looks slot next left r w s)
  looks_for_calm slot next [] r w s goes uses c work = goes r w s c work
  looks_for_calm slot next (wanted ∷ left) r w s goes uses c work =
      by (serving wanted s.held) (λ q v t d one. looks_for_calm slot next left q v t goes uses.1 d one)
    where
      by : (o : Option HeldLock) → Goes (looks slot next left) → All
          (looks_on slot (λ h. takes_up slot wanted h.lock left (looks slot next left) r w s) wanted left r w o)
      by None more = asks_calm slot wanted left r w uses.0 c (record { kind = work.kind; layout = work.layout; left = uses })
      by (Some h) more = takes_calm slot wanted h.lock left (looks slot next left) r w s more uses.1 c work

  came_calm : (slot : ℕ) (next : Next) (l : Lock) (left : List Use) (r : Running) (w : Work) (s : Store) → Goes next → Every UseCalm left
      → RunningCalm r → WorkCalm w → All (comes slot next l left r w s)
  came_calm slot next l [] r w s goes uses c work = tt
  came_calm slot next l (wanted ∷ left) r w s goes uses c work =
      takes_calm slot wanted l left (looks slot next left) r w s (λ q v t d one. looks_for_calm slot next left q v t goes uses.1 d one)
      uses.1 c work

  -- a missing page is fetched
  gets_calm : (slot : ℕ) (g : Page) (r : Running) (w : Work) → RunningCalm r → WorkCalm w → All (gets slot g r w)
  gets_calm slot g r w c work = (stands_calm r (Gets w) work c, (tt, tt))

  wide_calm : (at : At) (slot p n : ℕ) → Goes (reads_wide at slot p n)
  wide_calm at slot p n r w s c work = by (missing w.layout p (p + n) s w.used)
    where
      by : (o : Option Page)
          → All (elim o [
            | Some g ↦ gets slot g r w
            | None ↦ tells slot r at
                (told.Content (content w.layout w.fid s p (min n (file_size w.layout (stripes w.layout) w.used s - p)))) (Some w)
          ])
      by None = tells_calm slot r at (told.Content (content w.layout w.fid s p
          (min n (file_size w.layout (stripes w.layout) w.used s - p)))) (Some w)
      by (Some g) = gets_calm slot g r w c work

  widens_calm : (at : At) (slot p n : ℕ) → p ≤ 2 ^ 40 → Goes (widens at slot p n)
  widens_calm at slot p n low r w s c work =
      let uses : Every UseCalm (widened p n w).left = uses_calm w.layout w.fid (Wide p n) low work.layout in
      more_calm (unpins r.pins) _ (unpins_calm r.pins)
      (looks_for_calm slot (reads_wide at slot p n) (widened p n w).left (record r { pins = [] }) (widened p n w)
      (store_turn s (unpins r.pins)) (wide_calm at slot p n) uses
      (record { stage = c.stage; asking = c.asking; file = c.file; low = c.low })
      (record { kind = low; layout = work.layout; left = uses }))

  narrow_calm : (at : At) (slot p n : ℕ) → p ≤ 2 ^ 40 → Goes (reads_narrow at slot p n)
  narrow_calm at slot p n low r w s c work = by (missing w.layout p (p + n) s w.used)
    where
      by : (o : Option Page)
          → All (elim o [
            | Some g ↦ gets slot g r w
            | None ↦ if has_reached w.layout (p + n - 1) w.used s
                then tells slot r at (told.Content (content w.layout w.fid s p n)) (Some w) else widens at slot p n r w s
          ])
      by None =
          cond_both (has_reached w.layout (p + n - 1) w.used s) (tells slot r at (told.Content (content w.layout w.fid s p n)) (Some w))
          (widens at slot p n r w s) All
          (λ t. tells_calm slot r at (told.Content (content w.layout w.fid s p n)) (Some w)) (λ t. widens_calm at slot p n low r w s c work)
      by (Some g) = gets_calm slot g r w c work

  writes_calm : (l : Raid0) (p : ℕ) (bs : List ℕ) (us : List Using) → All (writes l p bs us)
  writes_calm l p bs [] = tt
  writes_calm l p bs (u ∷ us) = (tt, (tt, writes_calm l p bs us))

  cuts_calm : (l : Raid0) (n : ℕ) (us : List Using) → All (cuts l n us)
  cuts_calm l n [] = tt
  cuts_calm l n (u ∷ us) = (tt, cuts_calm l n us)

  acts_calm : (at : At) (slot : ℕ) (kind : Kind) → KindCalm kind → Goes (acts at slot kind)
  acts_calm at slot (Narrow p n) k = narrow_calm at slot p n k
  acts_calm at slot (Wide p n) k = wide_calm at slot p n
  acts_calm at slot (Writes p bs) k = λ r w s c work. more_calm (writes w.layout p bs w.used) (tells slot r at told.Done (Some w))
      (writes_calm w.layout p bs w.used) (tells_calm slot r at told.Done (Some w))
  acts_calm at slot (Cuts n) k = λ r w s c work. more_calm (cuts w.layout n w.used) (tells slot r at told.Done (Some w))
      (cuts_calm w.layout n w.used) (tells_calm slot r at told.Done (Some w))
  acts_calm at slot (Stats mode links) k = λ r w s c work. tells_calm slot r at
      (told.FileSize w.fid mode links (file_size w.layout (stripes w.layout) w.used s)) (Some w)
  acts_calm at slot (Glimpses sizes) k = λ r w s c work. tt

  -- it looks for its locks, or one came
  looks_at_calm : (at : At) (slot : ℕ) (kind : Kind) → KindCalm kind → Goes (looks_at at slot kind)
  looks_at_calm at slot (Glimpses sizes) k = λ r w s c work. glimpse_asks_calm at slot w.left sizes r w s c work work.left
  looks_at_calm at slot (Narrow p n) k = λ r w s c work. looks_for_calm slot (acts at slot (Narrow p n)) w.left r w s
      (acts_calm at slot (Narrow p n) k) work.left c work
  looks_at_calm at slot (Wide p n) k = λ r w s c work. looks_for_calm slot (acts at slot (Wide p n)) w.left r w s
      (acts_calm at slot (Wide p n) k) work.left c work
  looks_at_calm at slot (Writes p bs) k = λ r w s c work. looks_for_calm slot (acts at slot (Writes p bs)) w.left r w s
      (acts_calm at slot (Writes p bs) k) work.left c work
  looks_at_calm at slot (Cuts n) k = λ r w s c work. looks_for_calm slot (acts at slot (Cuts n)) w.left r w s (acts_calm at slot (Cuts n) k)
      work.left c work
  looks_at_calm at slot (Stats mode links) k = λ r w s c work. looks_for_calm slot (acts at slot (Stats mode links)) w.left r w s
      (acts_calm at slot (Stats mode links) k) work.left c work

  comes_at_calm : (at : At) (slot : ℕ) (kind : Kind) (l : Lock) (r : Running) (w : Work) (s : Store) → KindCalm kind → RunningCalm r
      → WorkCalm w → All (comes_at at slot kind r w s l)
  comes_at_calm at slot (Glimpses sizes) l r w s k c work = glimpse_comes_calm at slot l w.left sizes r w s c work work.left
  comes_at_calm at slot (Narrow p n) l r w s k c work = came_calm slot (acts at slot (Narrow p n)) l w.left r w s
      (acts_calm at slot (Narrow p n) k) work.left c work
  comes_at_calm at slot (Wide p n) l r w s k c work = came_calm slot (acts at slot (Wide p n)) l w.left r w s
      (acts_calm at slot (Wide p n) k) work.left c work
  comes_at_calm at slot (Writes p bs) l r w s k c work = came_calm slot (acts at slot (Writes p bs)) l w.left r w s
      (acts_calm at slot (Writes p bs) k) work.left c work
  comes_at_calm at slot (Cuts n) l r w s k c work = came_calm slot (acts at slot (Cuts n)) l w.left r w s (acts_calm at slot (Cuts n) k)
      work.left c work
  comes_at_calm at slot (Stats mode links) l r w s k c work = came_calm slot (acts at slot (Stats mode links)) l w.left r w s
      (acts_calm at slot (Stats mode links) k) work.left c work

  -- it begins
  bytes_calm : (at : At) (slot : ℕ) (kind : Kind) (r : Running) (s : Store) (file : Option HandleFile) → KindCalm kind → FileCalm file
      → RunningCalm r → All (starts_bytes at slot kind r s file)
  bytes_calm at slot kind r s None k on c = tt
  bytes_calm at slot kind r s (Some f) k on c = looks_at_calm at slot kind k r (work_on f.fid f.layout kind) s c
      (work_calm f.fid f.layout kind k on)

  -- ---- a stat of a file pins what it knows, and looks for its locks

  stats_calm : (at : At) (slot : ℕ) (fid : Fid) (layout : Raid0) (mode links : ℕ) (names : List LockName) (r : Running) (s : Store)
      → OnOsts layout → RunningCalm r → All (stats at slot fid layout (Stats mode links) names r s)
  stats_calm at slot fid layout mode links names r s on c =
      more_calm (pins names) _ (pins_calm names)
      (looks_at_calm at slot (Stats mode links) tt (with_pins names r) (work_on fid layout (Stats mode links)) (store_turn s (pins names))
      (record { stage = c.stage; asking = c.asking; file = c.file; low = c.low }) (work_calm fid layout (Stats mode links) tt on))

  stat_calm : (at : At) (slot : ℕ) (path : List (List ℕ)) (r : Running) (s : Store) (n : Notes) (found : Found) (o : Option Known)
      → Every FactCalm n.facts → RunningCalm r → All (starts_stat at slot path r s n found o)
  stat_calm at slot path r s n found (Some known) facts c = known_calm at slot r known
  stat_calm at slot path r s n found None facts c = by (file_known n found) (known_at n found found.inode facts)
    where
      by : (o : Option KnownFile) → KnownCalm o → All (stats_file at slot path r s o)
      by None on = (tt, tt)
      by (Some f) on = stats_calm at slot f.fid f.layout f.mode f.links (names_of f.cookies) r s on c

  -- ---- a call that has asked nothing yet

  starts_calm : (at : At) (slot : ℕ) (c : Call) (r : Running) (k : Client) → IsLow c → RunningCalm r → Calm MayAsk osts k
      → All (starts at slot c r k)
  starts_calm at slot (call.Lookup path) r k low c h = starts_known_calm at slot r (op.Lookup path)
      (lookup_known (found_at_path (notes_of k) path)) tt
  starts_calm at slot (call.Stat path) r k low c h = stat_calm at slot path r k.store (notes_of k) (found_at_path (notes_of k) path)
      (directory_known (notes_of k) (found_at_path (notes_of k) path)) h.facts c
  starts_calm at slot (call.List path) r k low c h = starts_known_calm at slot r (op.List path)
      (list_known (notes_of k) (found_at_path (notes_of k) path)) tt
  starts_calm at slot (call.Layout path) r k low c h = starts_known_calm at slot r (op.Layout path)
      (layout_known (notes_of k) (found_at_path (notes_of k) path)) tt
  starts_calm at slot (call.Mkdir path) r k low c h = (tt, tt)
  starts_calm at slot (call.Create path None) r k low c h = (tt, tt)
  starts_calm at slot (call.Create path (Some numbers)) r k low c h = (tt, tt)
  starts_calm at slot (call.Link path new) r k low c h = (tt, tt)
  starts_calm at slot (call.Unlink path) r k low c h = (tt, tt)
  starts_calm at slot (call.Rmdir path) r k low c h = (tt, tt)
  starts_calm at slot (call.Rename path new) r k low c h = (tt, tt)
  starts_calm at slot (call.Chmod path mode) r k low c h = (tt, tt)
  starts_calm at slot (call.Open handle path) r k low c h = (tt, tt)
  starts_calm at slot (call.Close handle) r k low c h = close_calm slot k.calls r.file
  starts_calm at slot (call.Read handle p n) r k low c h = bytes_calm at slot (Narrow p n) r k.store r.file low c.file c
  starts_calm at slot (call.Write handle p bs) r k low c h = bytes_calm at slot (Writes p bs) r k.store r.file tt c.file c
  starts_calm at slot (call.Cut handle n) r k low c h = bytes_calm at slot (Cuts n) r k.store r.file low c.file c
  starts_calm at slot (call.Flush handle) r k low c h = by r.file
    where
      by : (file : Option HandleFile) → All (starts_flush at slot r k.store file)
      by None = tt
      by (Some f) = flush_calm at slot r f (stripes f.layout) k.store c
  starts_calm at slot (call.Glimpse handle) r k low c h = by r.file c.file
    where
      by : (file : Option HandleFile) → FileCalm file → All (starts_glimpse at slot r k.store file)
      by None on = tt
      by (Some f) on =
          let work = work_calm f.fid f.layout (Glimpses []) tt on in
          glimpses_calm at slot (wants_of f.layout f.fid (Glimpses [])) [] r (work_on f.fid f.layout (Glimpses [])) k.store c work work.left

  answers_calm : (at : At) (slot : ℕ) (acted : At) (a : Answer) (asked : Call) (r : Running) (k : Client) → AnswerCalm a → RunningCalm r
      → All (answers at slot acted a asked r k)
  answers_calm at slot acted (told.OpenFile fid number layout) (call.Open h path) r k fine c =
      (fine, tells_calm slot r acted (told.Made fid) None)
  answers_calm at slot acted (told.FileStat fid mode links layout) (call.Stat path) r k fine c =
      stats_calm at slot fid layout mode links (names_of (cookies_of_file (notes_of k) path fid)) r k.store fine c
  answers_calm at slot acted a asked r k fine c = tells_calm slot r acted a None

  plain_calm : (at : At) (slot : ℕ) (a : Asking) (r : Running) (k : Client) → RunningCalm r → AskingCalm a → Calm MayAsk osts k
      → All (goes_plain at slot a r k)
  plain_calm at slot Unasked r k c fine h = starts_calm at slot r.call r k c.low c h
  plain_calm at slot Asked r k c fine h = tt
  plain_calm at slot (Answered t reply) r k c fine h = answers_calm at slot reply.at reply.answer r.call r k fine c

  -- a call in its stage
  stage_calm : (at : At) (slot : ℕ) (stage : Stage) (r : Running) (k : Client) → StageCalm stage → RunningCalm r → Calm MayAsk osts k
      → All (goes_at at slot stage r k)
  stage_calm at slot Plain r k is c h = plain_calm at slot r.asking r k c c.asking h
  stage_calm at slot Bad r k is c h = tt
  stage_calm at slot (Looks w) r k is c h = looks_at_calm at slot w.kind is.kind r w k.store c is
  stage_calm at slot (Enqueued w) r k is c h = tt
  stage_calm at slot (Waits w t l marked) r k is c h = tt
  stage_calm at slot (Came w l) r k is c h = comes_at_calm at slot w.kind l r w k.store is.kind c is
  stage_calm at slot (Forgotten w) r k is c h = tt
  stage_calm at slot (Gets w) r k is c h = tt
  stage_calm at slot (Flushing i) r k is c h = flushing_calm at slot i r r.file k.store c
  stage_calm at slot (Sizes w) r k is c h = sizes_calm at slot r.asking w.kind r w k.store c is

  goes_calm : (at : At) (slot : ℕ) (k : Client) → Calm MayAsk osts k → All (goes at slot k)
  goes_calm at slot k h = by (call_on slot k.calls) (on_calm slot k.calls h.calls)
    where
      by : (o : Option Running) → CallCalm o → All (goes_on at slot k o)
      by None c = tt
      by (Some r) c = stage_calm at slot r.stage r k c.stage c h

  passes_calm : (at : At) (slots : List ℕ) (k : Client) → Calm MayAsk osts k → All (passes at slots k)
  passes_calm at [] k h = tt
  passes_calm at (slot ∷ slots) k h = follow_calm P MayAsk osts (goes at slot k) (passes at slots) k h (goes_calm at slot k h)
      (λ j c. passes_calm at slots j c)

  pub slots_calm : (n : ℕ) (at : At) (k : Client) → Calm MayAsk osts k → All (slots_go n at k)
  slots_calm zero at k h = tt
  slots_calm (suc n) at k h =
      follow_calm P MayAsk osts (passes at all_slots k) (λ j. if list_any (is_free_close j.calls) j.calls then slots_go n at j else []) k h
      (passes_calm at all_slots k h)
      (λ j c. cond_both (list_any (is_free_close j.calls) j.calls) (slots_go n at j) [] All (λ t. slots_calm n at j c) (λ t. tt))
