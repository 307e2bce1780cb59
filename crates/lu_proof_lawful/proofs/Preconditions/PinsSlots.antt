-- A client's pins over the rest of its rows: the calls on its slots, and then the marks, the locks that are given up, and what is sent.
use Rattle.std.proofs.Common.{◌≡◌, ℕ, zero, suc, ◌+◌, ◌<◌, ◌≤◌, Bool, true, false, List, [], ◌∷◌, ◌++◌, ◌⊎◌, inl, inr, Option, Some, None}
use Rattle.std.proofs.Common.{refl, sym, subst, ap, ◌∙◌, arith}
use Rattle.std.specs.Prelude.{nat_eq, nat_lt, ◌&&◌, not, if◌then◌else◌, drop, filter, reverse}
use Rattle.std.specs.List.{list_any}
use Rattle.std.proofs.lemmas.Bool.{and_parts, eqb-true}
use Rattle.std.proofs.lemmas.Bool.Decides.{nat_tests}
use Rattle.lu_base.specs.declared.ids.At.{At}
use Rattle.lu_base.specs.declared.ids.Node.TheVariants.{Client, Target}
use Rattle.lu_base.specs.declared.ids.Stamp.{Stamp}
use Rattle.lu_base.specs.declared.ids.Who.{Who}
use Rattle.lu_base.specs.declared.locks.Lock.{Lock}
use Rattle.lu_base.specs.declared.locks.Resource.{Resource}
use Rattle.lu_msg.specs.declared.answers.Answer.{Answer}
use Rattle.lu_msg.specs.declared.answers.Answer.TheVariants as answer
use Rattle.lu_msg.specs.declared.calls.Call.{Call}
use Rattle.lu_msg.specs.declared.calls.Call.TheVariants as call
use Rattle.lu_msg.specs.declared.messages.Message.TheVariants as message
use Rattle.lu_msg.specs.declared.operations.Op.{Op}
use Rattle.lu_msg.specs.declared.operations.Op.TheVariants as op
use Rattle.lu_held.specs.declared.locks.HeldLock.{HeldLock}
use Rattle.lu_held.specs.declared.locks.Use.{Use}
use Rattle.lu_held.specs.declared.names.LockName.{LockName}
use Rattle.lu_held.specs.Locks.{same_resource, named, name_of, is_named, is_free}
use Rattle.lu_held.specs.Held.{serving, without, in_order}
use Rattle.lu_spec_entries.specs.declared.changes.Flush.{Flush}
use Rattle.lu_spec_entries.specs.Carried.{HandleFile, Asking, Unasked, Asked, Answered, Kind, Narrow, Wide, Writes, Cuts, Stats, Glimpses}
use Rattle.lu_spec_entries.specs.Carried.{Work, Stage, Plain, Bad, Looks, Enqueued, Waits, Came, Forgotten, Gets, Flushing, Sizes, Queued}
use Rattle.lu_spec_entries.specs.Carried.{Flight, Running}
use Rattle.lu_spec_entries.specs.Words.{Entry, Begin, Send, Drop, Heard, Told, Queues, Stands, Binds, WritesBack, Line, line, with_turn}
use Rattle.lu_spec_client.specs.Advances.{at_stage, asks_lock}
use Rattle.lu_spec_client.specs.Caches.{held_at, patch_at}
use Rattle.lu_spec_client.specs.Calls.{asks_for, reads_call}
use Rattle.lu_spec_client.specs.Glimpses.{sized, asks_size, glimpses_on, glimpses, glimpse_asks, glimpse_comes, glimpse_hears}
use Rattle.lu_spec_client.specs.Imports.{Import, import_of, is_serving}
use Rattle.lu_spec_client.specs.Known.{Notes, Known, KnownFile, Found, found_at_path, lookup_known, list_known, layout_known}
use Rattle.lu_spec_client.specs.Known.{directory_known, file_known, cookies_of_file}
use Rattle.lu_spec_client.specs.Locks.{marks_of, trims, is_called, must_write, writes_next, writes_under, gives_up, visits, visits_all}
use Rattle.lu_spec_client.specs.Locks.{locks_go, dirty_total}
use Rattle.lu_spec_client.specs.Looks.{size_under}
use Rattle.lu_spec_client.specs.Patches.{Patch, in_flight}
use Rattle.lu_spec_client.specs.Sending.{has_room, next_flight, flies, sends, sends_to, sends_all}
use Rattle.lu_spec_client.specs.Slots.{goes_at, goes_on, goes, passes, all_slots, slots_go, is_free_close}
use Rattle.lu_spec_client.specs.Starts.{looks_at, comes_at, sizes_heard, work_on, starts_known, stats_file, starts_stat, notes_of}
use Rattle.lu_spec_client.specs.Starts.{starts_close, starts_bytes, starts_flush, starts_glimpse, names_op, starts_names, starts, answers}
use Rattle.lu_spec_client.specs.Starts.{goes_plain, count_on}
use Rattle.lu_spec_client.specs.States.{Client as ClientState, Limits, Store, follow, turn as turn_of}
use Rattle.lu_spec_client.specs.Stripes.{stripes, object}
use Rattle.lu_spec_client.specs.Wants.{wants_of}
use Rattle.lu_spec_client.specs.WriteBack.{operation, writes_back, flushes, flush_under, flush_from, flushing, is_clean}
use Rattle.lu_proof_lawful.specs.Covered.Calls.{call_at}
use Rattle.lu_spec_run.specs.Heads as table
use Rattle.lu_spec_run.specs.Runs.{limits_of, client_of}
use Rattle.lu_proof_run.proofs.Clients.{client_own}
use Rattle.lu_proof_lawful.proofs.Preconditions.Guards.{In}
use Rattle.lu_proof_lawful.proofs.Preconditions.Lists.{self, turn, turn_more}
use Rattle.lu_proof_lawful.proofs.Preconditions.Covers.{EntriesCovered}
use Rattle.lu_proof_lawful.proofs.Preconditions.ClientLocks.{names_same, Once, once_filter, in_ordered, without_other}
use Rattle.lu_proof_lawful.proofs.Preconditions.ClientRests.{call_line, held_line}
use Rattle.lu_proof_lawful.proofs.Preconditions.ClientKnown.{AllUsable, found_usable, lookup_usable, list_usable, layout_usable}
use Rattle.lu_proof_lawful.proofs.Preconditions.ClientKnown.{directory_usable, file_usable, cookies_usable}
use Rattle.lu_proof_lawful.proofs.Preconditions.ClientCalls.{AllSmall, on_small, covered_left, covered_right}
use Rattle.lu_proof_lawful.proofs.Preconditions.PinsFit.{HasName}
use Rattle.lu_proof_lawful.proofs.Preconditions.PinsCount.{count_of, sum_of, sum_has, sum_less, count_in, names_on, pins_at, From}
use Rattle.lu_proof_lawful.proofs.Preconditions.PinsCount.{FromPinned, from_pinned, without_from, Room, Distinct, CameOk, RoomFor, RoomOf}
use Rattle.lu_proof_lawful.proofs.Preconditions.PinsCount.{CallFit, room_from}
use Rattle.lu_proof_lawful.proofs.Preconditions.PinsSteps.{Fit, Mid, AllLight, fit_step, fit_lights, fit_queues, fit_light, lights_more}
use Rattle.lu_proof_lawful.proofs.Preconditions.PinsSteps.{back_calls, mid_of, mid_stands, mid_quiet, tells_fit}
use Rattle.lu_proof_lawful.proofs.Preconditions.PinsRows.{distinct_wants, IsWork, looks_at_fit, comes_at_fit, known_fit, stats_fit}

-- the call hasn't just got a lock
abbrev pub IsNotCame : Stage → Type 0
IsNotCame (Came w l) = ⊥
IsNotCame _ = Unit {0}

abbrev pub NotCame : Option Running → Type 0
NotCame None = Unit {0}
NotCame (Some r) = IsNotCame r.stage

module _ (head : table.Head) (c : ℕ) (stamp : Stamp) where
  abbrev at : At
  at = turn stamp (Client c)

  abbrev Goes : List Entry → List Line → Type 0
  Goes es p = EntriesCovered es → Fit c (with_turn at es p)

  -- ---- one call, by how far it has come

  module _ (slot : ℕ) (r : Running) (p : List Line) (small : slot < 4) (fit : Fit c p) (is : call_at c slot p ≡ Some r) where
    abbrev k : ClientState
    k = client_of head c p

    mid : Mid c slot r.pins p
    mid = mid_of head c stamp slot r p small is fit

    call_here : call_at c slot p ≡ Some r
    call_here = is

    -- a glimpse
    later_room : (wanted : Use) (left : List Use) → Distinct (wanted ∷ left) × Room (held_at c p) r.pins (wanted ∷ left) → Distinct left
        × Room (held_at c p) r.pins left
    later_room wanted left room = (room.0.2, λ h i x j l. room.1 h i x (inr j) l)

    glimpses_fit : (left : List Use) (sizes : List ℕ) (w : Work) (s : Store) → Distinct left × Room (held_at c p) r.pins left
        → Goes (glimpses at slot left sizes r w s) p
    glimpses_fit [] sizes w s room = λ covered. tells_fit head c stamp slot r at (answer.Sizes sizes) None p mid
    glimpses_fit (wanted ∷ left) sizes w s room = by (serving wanted s.held)
        (λ h. glimpses_fit left (sizes ++ size_under h.lock s ∷ []) w s (later_room wanted left room))
      where
        by : (o : Option HeldLock) → ((h : HeldLock) → Goes (glimpses at slot left (sizes ++ size_under h.lock s ∷ []) r w s) p)
            → Goes (glimpses_on (λ h. glimpses at slot left (sizes ++ size_under h.lock s ∷ []) r w s)
            (asks_size slot wanted left sizes r w) o) p
        by None more = λ covered.
            let now = at_stage r (Sizes (sized (wanted ∷ left) sizes w)) in
            fit_queues head c stamp (line at (Stands slot now) ∷ p) _ _ (mid_stands head c stamp slot r.pins now p mid refl room)
        by (Some h) more = more h

    glimpse_asks_fit : (left : List Use) (sizes : List ℕ) (w : Work) (s : Store) → Distinct left × Room (held_at c p) r.pins left
        → Goes (glimpse_asks at slot left sizes r w s) p
    glimpse_asks_fit [] sizes w s room = λ covered. fit
    glimpse_asks_fit (wanted ∷ left) sizes w s room = by (serving wanted s.held)
      where
        by : (o : Option HeldLock) → Goes (glimpses_on (λ h. glimpses at slot left (sizes ++ size_under h.lock s ∷ []) r w s)
            (asks_lock slot wanted r (sized (wanted ∷ left) sizes w)) o) p
        by None = λ covered.
            let now = at_stage r (Enqueued (sized (wanted ∷ left) sizes w)) in
            fit_queues head c stamp (line at (Stands slot now) ∷ p) _ _ (mid_stands head c stamp slot r.pins now p mid refl room)
        by (Some h) = glimpses_fit left (sizes ++ size_under h.lock s ∷ []) w s (later_room wanted left room)

    glimpse_comes_fit : (l : Lock) (left : List Use) (sizes : List ℕ) (w : Work) (s : Store) → Distinct left
        × Room (held_at c p) r.pins left → Goes (glimpse_comes at slot l left sizes r w s) p
    glimpse_comes_fit l [] sizes w s room = λ covered. fit
    glimpse_comes_fit l (wanted ∷ left) sizes w s room = glimpses_fit left (sizes ++ size_under l s ∷ []) w s (later_room wanted left room)

    hears_fit : (left : List Use) (sizes : List ℕ) (a : Answer) (w : Work) (s : Store) → Distinct left × Room (held_at c p) r.pins left
        → Goes (glimpse_hears at slot left sizes a r w s) p
    hears_fit [] sizes answer.Lock w s room = glimpse_asks_fit [] sizes w s room
    hears_fit [] sizes a w s room = λ covered. fit
    hears_fit (wanted ∷ left) sizes (answer.Size size) w s room = glimpses_fit left (sizes ++ size ∷ []) w s (later_room wanted left room)
    hears_fit (wanted ∷ left) sizes answer.Lock w s room = glimpse_asks_fit (wanted ∷ left) sizes w s room
    hears_fit (wanted ∷ left) sizes a w s room = λ covered. fit

    sizes_fit : (a : Asking) (kind : Kind) (w : Work) → RoomFor (held_at c p) r.pins w → Goes (sizes_heard at slot a kind r w k.store) p
    sizes_fit (Answered t reply) (Glimpses sizes) w room = hears_fit w.left sizes reply.answer w k.store room
    sizes_fit a kind w room = λ covered. fit

    looks_so : (kind : Kind) (w : Work) → RoomFor (held_at c p) r.pins w → Goes (looks_at at slot kind r w k.store) p
    looks_so (Glimpses sizes) w room = glimpse_asks_fit w.left sizes w k.store room
    looks_so (Narrow o n) w room = looks_at_fit head c stamp slot (Narrow o n) tt r w k.store p refl mid room.0 room.1
    looks_so (Wide o n) w room = looks_at_fit head c stamp slot (Wide o n) tt r w k.store p refl mid room.0 room.1
    looks_so (Writes o bs) w room = looks_at_fit head c stamp slot (Writes o bs) tt r w k.store p refl mid room.0 room.1
    looks_so (Cuts n) w room = looks_at_fit head c stamp slot (Cuts n) tt r w k.store p refl mid room.0 room.1
    looks_so (Stats mode links) w room = looks_at_fit head c stamp slot (Stats mode links) tt r w k.store p refl mid room.0 room.1

    comes_so : (kind : Kind) (w : Work) (l : Lock) → RoomFor (held_at c p) r.pins w → CameOk (held_at c p) r.pins w l
        → Goes (comes_at at slot kind r w k.store l) p
    comes_so (Glimpses sizes) w l room came = glimpse_comes_fit l w.left sizes w k.store room
    comes_so (Narrow o n) w l room came = comes_at_fit head c stamp slot (Narrow o n) tt l r w k.store p refl fit mid room.0 room.1 came
    comes_so (Wide o n) w l room came = comes_at_fit head c stamp slot (Wide o n) tt l r w k.store p refl fit mid room.0 room.1 came
    comes_so (Writes o bs) w l room came = comes_at_fit head c stamp slot (Writes o bs) tt l r w k.store p refl fit mid room.0 room.1 came
    comes_so (Cuts n) w l room came = comes_at_fit head c stamp slot (Cuts n) tt l r w k.store p refl fit mid room.0 room.1 came
    comes_so (Stats mode links) w l room came = comes_at_fit head c stamp slot (Stats mode links) tt l r w k.store p refl fit mid room.0
        room.1 came

    -- one that writes a file back
    flush_stands : (i : ℕ) (q : List Line) → Fit c q → call_at c slot q ≡ Some r
        → Fit c (line at (Stands slot (at_stage r (Flushing i))) ∷ q)
    flush_stands i q f e = mid_stands head c stamp slot r.pins (at_stage r (Flushing i)) q (mid_of head c stamp slot r q small e f) refl tt

    backs_stand : (i : ℕ) (resource : Resource) (patch : Patch) (hs : List HeldLock)
        → Fit c (with_turn at (flushes resource patch hs ++ Stands slot (at_stage r (Flushing i)) ∷ []) p)
    backs_stand i resource patch [] = flush_stands i p fit is
    backs_stand i resource patch (h ∷ hs) = by (same_resource h.lock.resource resource)
        (flush_under patch h.lock.ask.mode h.lock.ask.policy) (backs_stand i resource patch hs)
      where
        stands : List Entry
        stands = Stands slot (at_stage r (Flushing i)) ∷ []

        back : (change : Flush) → Fit c (with_turn at (writes_back h.target h.lock change ++ stands) p)
        back change =
            let q = with_turn at (writes_back h.target h.lock change) p in
            flush_stands i q (fit_lights head c stamp (writes_back h.target h.lock change) p (tt, (tt, tt)) fit)
            (back_calls head c stamp (line at (WritesBack h.lock.resource change) ∷ p) h.target.0
            (operation h.lock.resource h.lock.cookie change) slot ∙ is)

        by : (b : Bool) (o : Option Flush) → Fit c (with_turn at (flushes resource patch hs ++ stands) p)
            → Fit c (with_turn at ((if b then elim o [ None ↦ flushes resource patch hs | Some change ↦ writes_back h.target h.lock change ]
            else flushes resource patch hs) ++ stands) p)
        by true None more = more
        by true (Some change) more = back change
        by false o more = more

    flush_fit : (f : HandleFile) (is : List ℕ) (s : Store) → Goes (flush_from at slot r f is s) p
    flush_fit f [] s = λ covered. tells_fit head c stamp slot r at answer.Done None p mid
    flush_fit f (i ∷ is) s = by (in_flight patch) (is_clean patch) (flush_fit f is s)
      where
        patch : Patch
        patch = patch_at (object f.fid i) s.patches

        stands : List Entry
        stands = Stands slot (at_stage r (Flushing i)) ∷ []

        by : (u v : Bool) → Goes (flush_from at slot r f is s) p
            → Goes (if u then stands else if v then flush_from at slot r f is s else flushes (object f.fid i) patch (in_order s.held)
            ++ stands) p
        by true v more = λ covered. flush_stands i p fit call_here
        by false true more = more
        by false false more = λ covered. backs_stand i (object f.fid i) patch (in_order s.held)

    flushing_fit : (i : ℕ) (f : Option HandleFile) → Goes (flushing at slot i r f k.store) p
    flushing_fit i None = λ covered. fit
    flushing_fit i (Some f) = flush_fit f (drop i (stripes f.layout)) k.store

    -- one that begins has pinned nothing
    module _ (none : r.pins ≡ []) where
      abbrev notes : Notes
      notes = notes_of k

      asks_fit : (o : Op) → Fit c (line at (Queues 0 (record { slot = Some slot; op = o })) ∷ p)
      asks_fit o = fit_queues head c stamp p 0 (record { slot = Some slot; op = o }) fit

      known_or : (o : Op) (x : Option Known) → ((y : Known) → x ≡ Some y → AllUsable (held_at c p) y.cookies)
          → Goes (starts_known at slot r o x) p
      known_or o None usable = λ covered. asks_fit o
      known_or o (Some y) usable = λ covered. known_fit head c stamp slot r y p none mid (usable y refl)

      file_or : (path : List (List ℕ)) (x : Option KnownFile) → ((y : KnownFile) → x ≡ Some y → AllUsable (held_at c p) y.cookies)
          → Goes (stats_file at slot path r k.store x) p
      file_or path None usable = λ covered. asks_fit (op.Stat path)
      file_or path (Some f) usable = stats_fit head c stamp slot f.fid f.layout f.mode f.links f.cookies r k.store p refl none mid
          (usable f refl)

      stat_or : (path : List (List ℕ)) (found : Found) → AllUsable (held_at c p) found.cookies → (x : Option Known)
          → ((y : Known) → x ≡ Some y → AllUsable (held_at c p) y.cookies)
          → Goes (starts_stat at slot path r k.store notes found x) p
      stat_or path found ok None usable = file_or path (file_known notes found) (λ f e. file_usable notes found ok found.inode f e)
      stat_or path found ok (Some y) usable = λ covered. known_fit head c stamp slot r y p none mid (usable y refl)

      names_fit : (o : Option Op) → Goes (starts_names slot o) p
      names_fit None = λ covered. fit
      names_fit (Some o) = λ covered. asks_fit o

      close_fit : (f : Option HandleFile) → Goes (starts_close slot k.calls f) p
      close_fit None = λ covered. fit
      close_fit (Some f) = by (nat_lt 1 (count_on f.number.0 k.calls))
        where
          by : (b : Bool) → Goes (if b then [] else Queues 0 (record { slot = Some slot; op = op.Close f.number f.fid }) ∷ []) p
          by true = λ covered. fit
          by false = λ covered. asks_fit (op.Close f.number f.fid)

      bytes_fit : (kind : Kind) → IsWork kind → (f : Option HandleFile) → Goes (starts_bytes at slot kind r k.store f) p
      bytes_fit kind i None = λ covered. fit
      bytes_fit kind i (Some f) =
          looks_at_fit head c stamp slot kind i r (work_on f.fid f.layout kind) k.store p refl mid (distinct_wants f.layout f.fid kind)
          (λ h j x y l. ap (count_of (name_of h)) none)

      flushes_fit : (f : Option HandleFile) → Goes (starts_flush at slot r k.store f) p
      flushes_fit None = λ covered. fit
      flushes_fit (Some f) = flush_fit f (stripes f.layout) k.store

      glimpse_fit : (f : Option HandleFile) → Goes (starts_glimpse at slot r k.store f) p
      glimpse_fit None = λ covered. fit
      glimpse_fit (Some f) =
          glimpses_fit (wants_of f.layout f.fid (Glimpses [])) [] (work_on f.fid f.layout (Glimpses [])) k.store
          (distinct_wants f.layout f.fid (Glimpses []), λ h j x y l. ap (count_of (name_of h)) none)

      starts_fit : (x : Call) → Goes (starts at slot x r k) p
      starts_fit (call.Lookup path) = let found = found_at_path notes path
          in known_or (op.Lookup path) (lookup_known found) (λ y e. lookup_usable notes found (found_usable notes path) y e)
      starts_fit (call.Stat path) =
          let found = found_at_path notes path in stat_or path found (found_usable notes path) (directory_known notes found)
          (λ y e. directory_usable notes found (found_usable notes path) found.inode y e)
      starts_fit (call.List path) = let found = found_at_path notes path
          in known_or (op.List path) (list_known notes found) (λ y e. list_usable notes found (found_usable notes path) found.inode y e)
      starts_fit (call.Layout path) = let found = found_at_path notes path
          in known_or (op.Layout path) (layout_known notes found)
          (λ y e. layout_usable notes found (found_usable notes path) found.inode y e)
      starts_fit (call.Close h) = close_fit r.file
      starts_fit (call.Read h o n) = bytes_fit (Narrow o n) tt r.file
      starts_fit (call.Write h o bs) = bytes_fit (Writes o bs) tt r.file
      starts_fit (call.Cut h n) = bytes_fit (Cuts n) tt r.file
      starts_fit (call.Flush h) = flushes_fit r.file
      starts_fit (call.Glimpse h) = glimpse_fit r.file
      starts_fit x = names_fit (names_op x)

      answers_fit : (acted : At) (a : Answer) (x : Call) → Goes (answers at slot acted a x r k) p
      answers_fit acted (answer.OpenFile fid number layout) (call.Open h path) = λ covered.
          let e = Binds h (record { fid = fid; number = number; layout = layout }) in
          tells_fit head c stamp slot r acted (answer.Made fid) None (line at e ∷ p) (mid_quiet head c stamp slot r.pins p e refl refl mid)
      answers_fit acted (answer.FileStat fid mode links layout) (call.Stat path) =
          stats_fit head c stamp slot fid layout mode links (cookies_of_file notes path fid) r k.store p refl none mid
          (cookies_usable notes path fid)
      answers_fit acted a x = λ covered. tells_fit head c stamp slot r acted a None p mid

      plain_fit : (a : Asking) → Goes (goes_plain at slot a r k) p
      plain_fit Unasked = starts_fit r.call
      plain_fit (Answered t reply) = answers_fit reply.at reply.answer r.call
      plain_fit Asked = λ covered. fit

    stage_fit : (x : Stage) → RoomOf (held_at c p) r.pins x → Goes (goes_at at slot x r k) p
    stage_fit Plain room = plain_fit room r.asking
    stage_fit Bad room = λ covered. fit
    stage_fit (Looks w) room = looks_so w.kind w room
    stage_fit (Enqueued w) room = λ covered. fit
    stage_fit (Waits w target l marked) room = λ covered. fit
    stage_fit (Came w l) room = comes_so w.kind w l room.0 room.1
    stage_fit (Forgotten w) room = λ covered. fit
    stage_fit (Gets w) room = λ covered. fit
    stage_fit (Flushing i) room = flushing_fit i r.file
    stage_fit (Sizes w) room = sizes_fit r.asking w.kind w room

  goes_fit : (slot : ℕ) → slot < 4 → (p : List Line) → Fit c p → Goes (goes at slot (client_of head c p)) p
  goes_fit slot small p fit = subst (λ (x : Option Running). Goes (goes_on at slot (client_of head c p) x) p)
      (sym (on_small c slot p small)) (by (call_at c slot p) refl)
    where
      by : (x : Option Running) → call_at c slot p ≡ x → Goes (goes_on at slot (client_of head c p) x) p
      by None is = λ covered. fit
      by (Some r) is = stage_fit slot r p small fit is r.stage (subst (CallFit (held_at c p)) is (fit.calls slot)).2

  -- ---- one part of a row after another

  pub goes_then : (P : List Line → Type 0) (es : List Entry) (next : ClientState → List Entry) (p : List Line)
      → (EntriesCovered es → P (with_turn at es p))
      → (P (with_turn at es p) → Goes (next (client_of head c (with_turn at es p))) (with_turn at es p))
      → Goes (follow es next (client_of head c p)) p
  goes_then P es next p first second covered =
      let k = client_of head c p in
      let p1 = with_turn at es p in
      let own : client_of head c p1 ≡ turn_of k es = client_own (limits_of head) c p at es (self c) in
      subst (Fit c) (sym (turn_more at es (next (turn_of k es)) p))
      (subst (λ (j : ClientState). Goes (next j) p1) own (second (first (covered_left es (next (turn_of k es)) covered)))
      (covered_right es (next (turn_of k es)) covered))

  passes_fit : (slots : List ℕ) → AllSmall slots → (p : List Line) → Fit c p → Goes (passes at slots (client_of head c p)) p
  passes_fit [] small p fit = λ covered. fit
  passes_fit (slot ∷ slots) small p fit =
      let es = goes at slot (client_of head c p) in
      goes_then (Fit c) es (passes at slots) p (goes_fit slot small.0 p fit) (λ f. passes_fit slots small.1 (with_turn at es p) f)

  pub slots_fit : (n : ℕ) (p : List Line) → Fit c p → Goes (slots_go n at (client_of head c p)) p
  slots_fit zero p fit = λ covered. fit
  slots_fit (suc more) p fit =
      let es = passes at all_slots (client_of head c p) in
      let q = with_turn at es p in
      goes_then (Fit c) es (λ j. if list_any (is_free_close j.calls) j.calls then slots_go more at j else []) p
      (passes_fit all_slots (omega arith, (omega arith, (omega arith, (omega arith, tt)))) p fit)
      (λ f. by q f (list_any (is_free_close (client_of head c q).calls) (client_of head c q).calls) (slots_fit more q f))
    where
      by : (q : List Line) → Fit c q → (b : Bool) → Goes (slots_go more at (client_of head c q)) q
          → Goes (if b then slots_go more at (client_of head c q) else []) q
      by q f true again = again
      by q f false again = λ covered. f

  -- ---- a lock is given up that no call has pinned

  room_dropped : (now before : List HeldLock) → From now before → (names : List LockName) (x : Stage) → IsNotCame x → RoomOf before names x
      → RoomOf now names x
  room_dropped now before f names Plain n room = room
  room_dropped now before f names Bad n room = room
  room_dropped now before f names (Looks w) n room = (room.0, room_from now before f names w.left room.1)
  room_dropped now before f names (Enqueued w) n room = (room.0, room_from now before f names w.left room.1)
  room_dropped now before f names (Waits w target l marked) n room = (room.0, room_from now before f names w.left room.1)
  room_dropped now before f names (Came w l) n room = absurd n
  room_dropped now before f names (Forgotten w) n room = (room.0, room_from now before f names w.left room.1)
  room_dropped now before f names (Gets w) n room = (room.0, room_from now before f names w.left room.1)
  room_dropped now before f names (Flushing i) n room = room
  room_dropped now before f names (Sizes w) n room = (room.0, room_from now before f names w.left room.1)

  pub drop_fit : (p : List Line) (t : ℕ) (lock : Lock) → Fit c p → ((s : ℕ) → NotCame (call_at c s p))
      → ((s : ℕ) → In (named (record { 0 = t }) lock.cookie) (pins_at c p s) → ⊥) → Fit c (line at (Drop t lock) ∷ p)
  drop_fit p t lock fit came free =
      fit_step head c stamp p (Drop t lock) fit (subst Once (sym so) (once_filter (λ h. not (is_named n h)) hs fit.once)) from
      (λ s. by (call_at c s p) (fit.calls s) (came s) (free s)) (λ s m. omega arith)
    where
      n : LockName
      n = named (record { 0 = t }) lock.cookie

      hs : List HeldLock
      hs = held_at c p

      now : List HeldLock
      now = held_at c (line at (Drop t lock) ∷ p)

      so : now ≡ without n hs
      so = held_line head c stamp p (Drop t lock)

      from : FromPinned now hs
      from = subst (λ (gs : List HeldLock). FromPinned gs hs) (sym so) (without_from n hs)

      by : (x : Option Running) → CallFit hs x → NotCame x → (In n (names_on x) → ⊥) → CallFit now x
      by None k m f = tt
      by (Some r) k m f = (k.0, λ i j. stays i j (k.1 i j), room_dropped now hs (from_pinned now hs from) r.pins r.stage m k.2)
        where
          stays : (i : LockName) → In i r.pins → HasName i hs → HasName i now
          stays i j has = (
            has.0,
            subst (λ (gs : List HeldLock). In has.0 gs) (sym so)
                (without_other n has.0 hs has.1 (other (is_named n has.0) refl)),
            has.2,
          )
            where
              other : (b : Bool) → is_named n has.0 ≡ b → b ≡ false
              other false e = refl
              other true e = absurd (f (subst (λ (m : LockName). In m r.pins)
                  (names_same i (name_of has.0) has.2 ∙ sym (names_same n (name_of has.0) e)) j))

  -- ---- the pass over the held locks

  record Visiting (rs : List HeldLock) (p : List Line) : Type 0 where
    fit : Fit c p
    came : (s : ℕ) → NotCame (call_at c s p)
    low : (s : ℕ) → 4 ≤ s → call_at c s p ≡ None
    counted : (h : HeldLock) → In h rs → sum_of (name_of h) (pins_at c p) ≤ h.pins

  -- none has it
  unpinned : (p : List Line) (h : HeldLock) → ((s : ℕ) → 4 ≤ s → call_at c s p ≡ None) → sum_of (name_of h) (pins_at c p) ≤ h.pins → h.pins
      ≡ 0 → (s : ℕ) → In (name_of h) (pins_at c p s) → ⊥
  unpinned p h low counted zero_it s i = by (nat_lt s 4) refl
    where
      high : (b : Bool) → nat_lt s 4 ≡ b → (s < 4) ⊎ (4 ≤ s)
      high true e = inl (grind (arith, nat_tests, e))
      high false e = inr (grind (arith, nat_tests, e))

      or : (s < 4) ⊎ (4 ≤ s) → ⊥
      or (inl small) = let has = sum_has s (name_of h) (pins_at c p) small in let one = count_in (name_of h) (pins_at c p s) i
          in absurd (omega (arith, has, one, counted, zero_it))
      or (inr above) = subst (λ (x : Option Running). In (name_of h) (names_on x)) (low s above) i

      by : (b : Bool) → nat_lt s 4 ≡ b → ⊥
      by b e = or (high b e)

  visit_fit : (over : Bool) (h : HeldLock) (rs : List HeldLock) (p : List Line) → Visiting (h ∷ rs) p
      → EntriesCovered (visits over h (client_of head c p)) → Visiting rs (with_turn at (visits over h (client_of head c p)) p)
  visit_fit over h rs p v = by (must_write over h h.lock.ask.mode h.lock.ask.policy patch)
    where
      k : ClientState
      k = client_of head c p

      patch : Patch
      patch = patch_at h.lock.resource k.store.patches

      i : Import
      i = import_of h.target.0 k.imports

      stays : Visiting rs p
      stays = record { fit = v.fit; came = v.came; low = v.low; counted = λ g j. v.counted g (inr j) }

      next : (o : Option Flush) → EntriesCovered (writes_next h o) → Visiting rs (with_turn at (writes_next h o) p)
      next None covered = stays
      next (Some change) covered =
          let q = with_turn at (writes_back h.target h.lock change) p in
          let same = λ (s : ℕ). back_calls head c stamp (line at (WritesBack h.lock.resource change) ∷ p) h.target.0
          (operation h.lock.resource h.lock.cookie change) s in
          record {
            fit = fit_lights head c stamp (writes_back h.target h.lock change) p (tt, (tt, tt)) v.fit;
            came = λ s. subst NotCame (sym (same s)) (v.came s);
            low = λ s above. same s ∙ v.low s above;
            counted = λ g j.
                let old = v.counted g (inr j) in
                let less = sum_less (name_of g) (pins_at c q) (pins_at c p)
                (λ s. subst (λ (x : Option Running). count_of (name_of g) (names_on x) ≤ count_of (name_of g) (pins_at c p s))
                (sym (same s)) (omega arith)) in
                omega (arith, old, less);
          }

      writes_it : (b : Bool) → EntriesCovered (if b then [] else writes_next h (flush_under patch h.lock.ask.mode h.lock.ask.policy))
          → Visiting rs (with_turn at (if b then [] else writes_next h (flush_under patch h.lock.ask.mode h.lock.ask.policy)) p)
      writes_it true covered = stays
      writes_it false covered = next (flush_under patch h.lock.ask.mode h.lock.ask.policy) covered

      gone : h.pins ≡ 0 → Visiting rs (with_turn at (Drop h.target.0 h.lock
          ∷ Send (Target h.target.0) (message.Cancel k.who i.boot h.lock.cookie) ∷ []) p)
      gone zero_it =
          record {
            fit = fit_light head c stamp (line at (Drop h.target.0 h.lock) ∷ p) _ tt
                (drop_fit p h.target.0 h.lock v.fit v.came (unpinned p h v.low (v.counted h (inl refl)) zero_it));
            came = v.came;
            low = v.low;
            counted = λ g j. v.counted g (inr j);
          }

      gives : (b : Bool) → (is_called h && is_serving i.standing) ≡ b
          → Visiting rs (with_turn at (if b then Drop h.target.0 h.lock
          ∷ Send (Target h.target.0) (message.Cancel k.who i.boot h.lock.cookie) ∷ [] else []) p)
      gives true e = gone (eqb-true h.pins 0 (and_parts h.marked (nat_eq h.pins 0) (and_parts (is_called h) (is_serving i.standing) e).0).1)
      gives false e = stays

      by : (b : Bool) → EntriesCovered (if b then writes_under h patch else gives_up k.who h i)
          → Visiting rs (with_turn at (if b then writes_under h patch else gives_up k.who h i) p)
      by true covered = writes_it (in_flight patch) covered
      by false covered = gives (is_called h && is_serving i.standing) refl

  visits_fit : (over : Bool) (rs : List HeldLock) (p : List Line) → Visiting rs p → Goes (visits_all over rs (client_of head c p)) p
  visits_fit over [] p v = λ covered. v.fit
  visits_fit over (h ∷ rs) p v =
      let es = visits over h (client_of head c p) in
      goes_then (Visiting rs) es (visits_all over rs) p (visit_fit over h rs p v) (λ w. visits_fit over rs (with_turn at es p) w)

  -- ---- lines that leave the calls

  -- it reads none, or queues a write-back
  abbrev IsStill : Entry → Type 0
  IsStill (Queues t q) = q.slot ≡ None
  IsStill e = reads_call e ≡ false

  abbrev AllStill : List Entry → Type 0
  AllStill [] = Unit {0}
  AllStill (e ∷ es) = IsStill e × AllStill es

  still_more : (es fs : List Entry) → AllStill es → AllStill fs → AllStill (es ++ fs)
  still_more [] fs a b = b
  still_more (e ∷ es) fs a b = (a.0, still_more es fs a.1 b)

  calls_still : (es : List Entry) (p : List Line) → AllStill es → (s : ℕ) → call_at c s (with_turn at es p) ≡ call_at c s p
  calls_still [] p a s = refl
  calls_still (e ∷ es) p a s = calls_still es (line at e ∷ p) a.1 s ∙ by e a.0
    where
      by : (e : Entry) → IsStill e → call_at c s (line at e ∷ p) ≡ call_at c s p
      by (Queues t q) i = call_line head c stamp s p (Queues t q) ∙ ap (λ (o : Option ℕ). asks_for o s Asked (call_at c s p)) i
      by (Begin slot r) i = absurd (cc)
      by (Stands slot r) i = absurd (cc)
      by (Heard t f r) i = absurd (cc)
      by (Told slot t a w) i = absurd (cc)
      by e i = refl

  marks_still : (hs : List HeldLock) → AllStill (marks_of hs)
  marks_still [] = tt
  marks_still (h ∷ hs) = (refl, marks_still hs)

  marks_light : (hs : List HeldLock) → AllLight head c stamp (marks_of hs)
  marks_light [] = tt
  marks_light (h ∷ hs) = (tt, marks_light hs)

  sends_still : (limits : Limits) (who : Who) (boot t last : ℕ) (flights : List Flight) (queue : List Queued)
      → AllStill (sends limits who boot t last flights queue) × AllLight head c stamp (sends limits who boot t last flights queue)
  sends_still limits who boot t last flights [] = (tt, tt)
  sends_still limits who boot t last flights (q ∷ queue) = by (has_room limits t q.op flights)
      (sends_still limits who boot t (last + 1) (flights ++ next_flight last flights q ∷ []) queue)
    where
      more : List Entry
      more = sends limits who boot t (last + 1) (flights ++ next_flight last flights q ∷ []) queue

      by : (b : Bool) → AllStill more × AllLight head c stamp more
          → AllStill (if b then flies who boot t (next_flight last flights q) more else [])
          × AllLight head c stamp (if b then flies who boot t (next_flight last flights q) more else [])
      by true m = ((refl, (refl, m.0)), (tt, (tt, m.1)))
      by false m = (tt, tt)

  all_sends_still : (limits : Limits) (who : Who) (t : ℕ) (is : List Import) → AllStill (sends_all limits who t is)
      × AllLight head c stamp (sends_all limits who t is)
  all_sends_still limits who t [] = (tt, tt)
  all_sends_still limits who t (i ∷ is) =
      let one = by (is_serving i.standing) in
      let more = all_sends_still limits who (t + 1) is in (
        still_more (sends_to limits who t i) (sends_all limits who (t + 1) is) one.0 more.0,
        lights_more head c stamp (sends_to limits who t i) (sends_all limits who (t + 1) is) one.1 more.1,
      )
    where
      by : (b : Bool) → AllStill (if b then sends limits who i.boot t i.last i.flights i.queue else [])
          × AllLight head c stamp (if b then sends limits who i.boot t i.last i.flights i.queue else [])
      by true = sends_still limits who i.boot t i.last i.flights i.queue
      by false = (tt, tt)

  visit_still : (over : Bool) (h : HeldLock) (k : ClientState) → EntriesCovered (visits over h k) → AllStill (visits over h k)
  visit_still over h k = by (must_write over h h.lock.ask.mode h.lock.ask.policy patch)
    where
      patch : Patch
      patch = patch_at h.lock.resource k.store.patches

      i : Import
      i = import_of h.target.0 k.imports

      next : (o : Option Flush) → EntriesCovered (writes_next h o) → AllStill (writes_next h o)
      next None covered = tt
      next (Some change) covered = (refl, (refl, tt))

      writes_it : (b : Bool) → EntriesCovered (if b then [] else writes_next h (flush_under patch h.lock.ask.mode h.lock.ask.policy))
          → AllStill (if b then [] else writes_next h (flush_under patch h.lock.ask.mode h.lock.ask.policy))
      writes_it true covered = tt
      writes_it false covered = next (flush_under patch h.lock.ask.mode h.lock.ask.policy) covered

      gives : (b : Bool) → AllStill (if b then Drop h.target.0 h.lock ∷ Send (Target h.target.0) (message.Cancel k.who i.boot h.lock.cookie)
          ∷ [] else [])
      gives true = (refl, (refl, tt))
      gives false = tt

      by : (b : Bool) → EntriesCovered (if b then writes_under h patch else gives_up k.who h i)
          → AllStill (if b then writes_under h patch else gives_up k.who h i)
      by true covered = writes_it (in_flight patch) covered
      by false covered = gives (is_called h && is_serving i.standing)

  visits_still : (over : Bool) (rs : List HeldLock) (k : ClientState) → EntriesCovered (visits_all over rs k)
      → AllStill (visits_all over rs k)
  visits_still over [] k covered = tt
  visits_still over (h ∷ rs) k covered =
      let es = visits over h k in
      let more = visits_all over rs (turn_of k es) in
      still_more es more (visit_still over h k (covered_left es more covered))
      (visits_still over rs (turn_of k es) (covered_right es more covered))

  -- ---- what is left of a row once the calls have gone as far as they can

  abbrev pub tail : ClientState → List Entry
  tail k = follow (trims (limits_of head) k) (λ k. follow (locks_go (limits_of head) k) (λ k. sends_all (limits_of head) k.who 0 k.imports)
      k) k

  tail_still : (k : ClientState) → EntriesCovered (tail k) → AllStill (tail k)
  tail_still k covered =
      let es = trims (limits_of head) k in
      let j = turn_of k es in
      let fs = locks_go (limits_of head) j in
      let i = turn_of j fs in
      let gs = sends_all (limits_of head) i.who 0 i.imports in
      let rest = covered_right es (fs ++ gs) covered in
      still_more es (fs ++ gs) (marks_still (reverse (drop (limits_of head).unused (filter is_free k.store.held))))
      (still_more fs gs (visits_still (nat_lt (limits_of head).dirty (dirty_total j.store.patches)) (in_order j.store.held) j
      (covered_left fs gs rest)) (all_sends_still (limits_of head) i.who 0 i.imports).0)

  -- the call hasn't just got a lock when the turn is over
  pub tail_fit : (p : List Line) → Fit c p → ((s : ℕ) → NotCame (call_at c s (with_turn at (tail (client_of head c p)) p)))
      → ((s : ℕ) → 4 ≤ s → call_at c s (with_turn at (tail (client_of head c p)) p) ≡ None)
      → Goes (tail (client_of head c p)) p
  tail_fit p fit came low covered =
      goes_then (Fit c) es (λ k. follow (locks_go (limits_of head) k) (λ k. sends_all (limits_of head) k.who 0 k.imports) k) p
      (λ cov. fit_lights head c stamp es p (marks_light hs) fit)
      (λ f. goes_then (Fit c) fs (λ k. sends_all (limits_of head) k.who 0 k.imports) p1
      (visits_fit (nat_lt (limits_of head).dirty (dirty_total (client_of head c p1).store.patches)) (in_order (held_at c p1)) p1 (record {
        fit = f;
        came = λ s. subst NotCame (same s) (came s);
        low = λ s above. sym (same s) ∙ low s above;
        counted = λ h i. f.counted h (in_ordered h (held_at c p1) i);
      }))
      (λ g cov.
      let k2 = client_of head c (with_turn at fs p1) in
      fit_lights head c stamp (sends_all (limits_of head) k2.who 0 k2.imports) (with_turn at fs p1)
      (all_sends_still (limits_of head) k2.who 0 k2.imports).1 g)) covered
    where
      hs : List HeldLock
      hs = reverse (drop (limits_of head).unused (filter is_free (held_at c p)))

      es : List Entry
      es = trims (limits_of head) (client_of head c p)

      p1 : List Line
      p1 = with_turn at es p

      fs : List Entry
      fs = locks_go (limits_of head) (client_of head c p1)

      same : (s : ℕ) → call_at c s (with_turn at (tail (client_of head c p)) p) ≡ call_at c s p1
      same s = calls_still (tail (client_of head c p)) p (tail_still (client_of head c p) covered) s
          ∙ sym (calls_still es p (marks_still hs) s)
