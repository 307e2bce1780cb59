-- The rows of a call on bytes, entry by entry.
use Rattle.std.proofs.Common.{◌≡◌, inl, inr, ⊎_elim, ℕ, zero, suc, ◌+◌, ◌-◌, ◌/◌, ◌<◌, ◌≤◌, Bool, true, false, List, [], ◌∷◌, ◌++◌, length}
use Rattle.std.proofs.Common.{map, Option, Some, None, refl, sym, ap, subst, ◌∙◌, arith}
use Rattle.std.specs.Prelude.{nat_eq, nat_lt, nat_le, min, ◌==◌, ◌&&◌, ◌||◌, not, if◌then◌else◌}
use Rattle.std.specs.List.{list_any}
use Rattle.std.proofs.lemmas.List.{append-nil}
use Rattle.std.proofs.lemmas.Bool.Decides.{nat_tests}
use Rattle.std.proofs.lemmas.Bool.{and_parts, eqb-true, eq-eqb, not-true}
use Rattle.lu_base.specs.declared.ids.At.{At}
use Rattle.lu_base.specs.declared.ids.Fid.{Fid}
use Rattle.lu_base.specs.declared.locks.Extent.{Extent}
use Rattle.lu_base.specs.declared.locks.Lock.{Lock}
use Rattle.lu_base.specs.declared.locks.Mode.{Mode}
use Rattle.lu_base.specs.declared.locks.Mode.TheVariants.{PW, PR}
use Rattle.lu_base.specs.declared.locks.Policy.{Policy}
use Rattle.lu_base.specs.declared.locks.Policy.TheVariants.{Bits, Range}
use Rattle.lu_base.specs.declared.locks.Resource.{Resource}
use Rattle.lu_layout.specs.Raid0.{Raid0, stripe_of, offset_of}
use Rattle.lu_layout.specs.Sound.{IsLayout}
use Rattle.lu_lock.specs.Growth.{the_end}
use Rattle.lu_lock.specs.Modes.{serves}
use Rattle.lu_lock.specs.Overlap.{covers as policy_covers}
use Rattle.lu_msg.specs.declared.answers.Answer.{Answer}
use Rattle.lu_msg.specs.declared.answers.Answer.TheVariants as answer
use Rattle.lu_msg.specs.declared.operations.Op.{Op}
use Rattle.lu_msg.specs.declared.operations.Op.TheVariants as op
use Rattle.lu_held.specs.declared.locks.Change.TheVariants as lock
use Rattle.lu_held.specs.declared.locks.HeldLock.{HeldLock}
use Rattle.lu_held.specs.declared.locks.Use.{Use}
use Rattle.lu_held.specs.declared.locks.Wanted.TheVariants.{Holding}
use Rattle.lu_held.specs.declared.names.LockName.{LockName}
use Rattle.lu_held.specs.Locks.{reaches_end, holds_offset, is_for, same_resource}
use Rattle.lu_held.specs.Held.{changed, used, serving, those, in_order}
use Rattle.lu_spec_machine.specs.Places.{is_in}
use Rattle.lu_spec_machine.proofs.Places.{in_parts, in_whole}
use Rattle.lu_spec_entries.specs.declared.changes.Flush.{Flush}
use Rattle.lu_spec_entries.specs.declared.changes.Flush.TheVariants as flush
use Rattle.lu_spec_entries.specs.declared.uses.Using.{Using}
use Rattle.lu_spec_entries.specs.Carried.{Queued, Kind, Narrow, Wide, Writes, Cuts, Stats, Glimpses, Work, Enqueued, Gets, Running}
use Rattle.lu_spec_entries.specs.Words.{Entry, Told, Queues, Stands, Pins, Unpins, Changes, Shows}
use Rattle.lu_spec_client.specs.Bytes.{page_size}
use Rattle.lu_spec_client.specs.Imports.{Import, import_after}
use Rattle.lu_spec_client.specs.Patches.{cut_extent, to_end}
use Rattle.lu_spec_client.specs.Stripes.{below_on, stripes, bytes_on}
use Rattle.lu_spec_client.specs.States.{Client, Store, store_turn, follow_store, after, turn}
use Rattle.lu_spec_client.specs.Wants.{wants_rest, wants_of}
use Rattle.lu_spec_client.specs.Looks.{size_under, Page, missing, content, file_size, shown_under, shown_elsewhere, reached_under}
use Rattle.lu_spec_client.specs.Looks.{has_reached}
use Rattle.lu_spec_client.specs.Advances.{pinned, unpins, tells, enqueue_of, queued_for, at_stage, asks_lock, name_under, using, Next}
use Rattle.lu_spec_client.specs.Advances.{takes_up, looks_on, looks, comes}
use Rattle.lu_spec_client.specs.Advances.{gets, reads_wide, widened, widens, reads_narrow, writes_on, writes, cuts, acts}
use Rattle.lu_spec_client.specs.Starts.{looks_at, comes_at, work_on, pins, with_pins}
use Rattle.lu_proof_bytes.specs.Object.Words.{changes, covers, within, not_above}
use Rattle.lu_proof_objects.specs.Points.{change_of, last_of, lock_at}
use Rattle.lu_proof_objects.specs.Alike.{IsRange}
use Rattle.lu_proof_objects.specs.Sound.{In, Writer, Holder, IsSoundOf, IsKnownOf, IsSoundAt}
use Rattle.lu_proof_objects.specs.Uses.{IsFor, IsUsed, IsOnBytes, IsShort, IsWork, IsWorkOf}
use Rattle.lu_proof_objects.specs.Oks.{GetOk, page_extent, IsTold, ReachEnds, Reaches, HasReached, ReadOk, TellOk, ClientOk, Follows}
use Rattle.lu_proof_objects.specs.Oks.{CallGoes}
use Rattle.lu_proof_objects.specs.CallRows.{LooksGo, ComesGo, StartsGo, StatsGo}
use Rattle.lu_proof_objects.proofs.Lists.{in_append, in_left, in_filter, in_mapped, in_ordered}
use Rattle.lu_proof_objects.proofs.Tables.{imports_still, object_is}
use Rattle.lu_proof_objects.proofs.Changes.{above_end, above_last, meet_at}
use Rattle.lu_proof_objects.proofs.Steps.{sound_map}
use Rattle.lu_proof_objects.proofs.Known.{known_still, still_map, still_order, known_shows}
use Rattle.lu_proof_objects.proofs.Walks.{turn_more, each_append}
use Rattle.lu_proof_objects.proofs.Pieces.{stripe_there, below_is, below_low, on_length, offset_within, run_wanted, rest_wanted, cut_wanted}
use Rattle.lu_proof_objects.proofs.Made.{IsOver, sound_made, sound_queue, sound_order}
use Rattle.lu_proof_objects.proofs.Using.{served, done, done_same, used_still, used_now, once_used, used_only, used_there, page_is}
use Rattle.lu_proof_objects.proofs.Using.{none_missing, covers_range, IsReadOf, read_wanted, in_page, writes_only}

-- ---- entries in parts

call_append : (at : At) (before : Option Entry) (k : Client) (es fs : List Entry) → CallGoes at before k es
    → ((b : Option Entry) → CallGoes at b (turn k es) fs) → CallGoes at before k (es ++ fs)
call_append at before k es fs g more =
    record {
      each = each_append at before k es fs g.each (λ b. (more b).each);
      sound =
          subst IsSoundAt (sym (turn_more k es fs)) (more None).sound;
    }

store_is : (k : Client) (es : List Entry) → (turn k es).store ≡ store_turn k.store es
store_is k [] = refl
store_is k (e ∷ es) = store_is (after k e) es

follows : (at : At) (before : Option Entry) (k : Client) (es : List Entry) (next : Store → List Entry) → CallGoes at before k es
    → ((b : Option Entry) → CallGoes at b (turn k es) (next (turn k es).store)) → CallGoes at before k (follow_store es next k.store)
follows at before k es next g more = subst (λ (s : Store). CallGoes at before k (es ++ next s)) (store_is k es)
    (call_append at before k es (next (turn k es).store) g more)

one_goes : (at : At) (before : Option Entry) (k : Client) (e : Entry) → ClientOk k at e → Follows before e → IsSoundAt (after k e)
    → CallGoes at before k (e ∷ [])
one_goes at before k e ok f s = record { each = (ok, f, tt); sound = s }

none_goes : (at : At) (before : Option Entry) (k : Client) → IsSoundAt k → CallGoes at before k []
none_goes at before k s = record { each = tt; sound = s }

-- an entry that leaves the imports
abbrev KnownAfter : Client → Entry → Type 0
KnownAfter k e = IsKnownOf (after k e).store.held (after k e).store.bytes (after k e).store.sizes (after k e).store.shown

kept : (k : Client) (e : Entry) → ((i : Import) → import_after i e ≡ i)
    → IsSoundOf (after k e).store.held (after k e).store.patches k.imports → KnownAfter k e → IsSoundAt (after k e)
kept k e same s known = record {
  bytes = subst (IsSoundOf (after k e).store.held (after k e).store.patches)
      (sym (imports_still e same 0 k.imports)) s;
  known = known;
}

-- ---- pins

pin_sound : (k : Client) (name : LockName) → IsSoundAt k → IsSoundAt (after k (Pins name))
pin_sound k name s =
    kept k (Pins name) (λ j. refl)
    (sound_map k.store.held k.store.patches k.imports s.bytes (done lock.Pin name) (done_same (λ g. g.lock) lock.Pin name (λ g. refl))
    (done_same (λ g. g.target) lock.Pin name (λ g. refl)))
    (known_still k.store.held (changed name lock.Pin k.store.held) k.store.bytes k.store.sizes k.store.shown
    (still_map (done lock.Pin name) (done_same (λ g. g.lock) lock.Pin name (λ g. refl)) k.store.held) s.known)

unpin_sound : (k : Client) (name : LockName) → IsSoundAt k → IsSoundAt (after k (Unpins name))
unpin_sound k name s =
    let t = sound_map k.store.held k.store.patches k.imports s.bytes (done lock.Unpin name)
    (done_same (λ g. g.lock) lock.Unpin name (λ g. refl)) (done_same (λ g. g.target) lock.Unpin name (λ g. refl)) in
    kept k (Unpins name) (λ j. refl)
    (sound_order (changed name lock.Unpin k.store.held) k.store.patches k.imports t (used name (changed name lock.Unpin k.store.held))
    (once_used name (changed name lock.Unpin k.store.held) t.once)
    (λ h i. used_only name h (changed name lock.Unpin k.store.held) i) (λ h i. used_there name h (changed name lock.Unpin k.store.held) i))
    (known_still (changed name lock.Unpin k.store.held) (used name (changed name lock.Unpin k.store.held)) k.store.bytes k.store.sizes
    k.store.shown
    (still_order (changed name lock.Unpin k.store.held) (used name (changed name lock.Unpin k.store.held))
    (λ h i. used_there name h (changed name lock.Unpin k.store.held) i))
    (known_still k.store.held (changed name lock.Unpin k.store.held) k.store.bytes k.store.sizes k.store.shown
    (still_map (done lock.Unpin name) (done_same (λ g. g.lock) lock.Unpin name (λ g. refl)) k.store.held) s.known))

unpins_go : (at : At) (before : Option Entry) (names : List LockName) (k : Client) → IsSoundAt k → CallGoes at before k (unpins names)
unpins_go at before [] k s = none_goes at before k s
unpins_go at before (name ∷ names) k s =
    let t = unpin_sound k name s in
    call_append at before k (Unpins name ∷ []) (unpins names) (one_goes at before k (Unpins name) tt tt t)
    (λ b. unpins_go at b names (after k (Unpins name)) t)

pins_go : (at : At) (before : Option Entry) (names : List LockName) (k : Client) → IsSoundAt k → CallGoes at before k (pins names)
pins_go at before [] k s = none_goes at before k s
pins_go at before (name ∷ names) k s =
    let t = pin_sound k name s in
    call_append at before k (Pins name ∷ []) (pins names) (one_goes at before k (Pins name) tt tt t)
    (λ b. pins_go at b names (after k (Pins name)) t)

-- ---- the call is told, or stands

tells_go : (at : At) (before : Option Entry) (slot : ℕ) (r : Running) (a : Answer) (work : Option Work) (k : Client) → IsSoundAt k
    → TellOk k a work → CallGoes at before k (tells slot r at a work)
tells_go at before slot r a work k s ok =
    let t = kept k (Told slot at a work) (λ j. refl) s.bytes s.known in
    call_append at before k (Told slot at a work ∷ []) (unpins r.pins) (one_goes at before k (Told slot at a work) ok tt t)
    (λ b. unpins_go at b r.pins (after k (Told slot at a work)) t)

work_of : (held : List HeldLock) (names : List LockName) (kind : Kind) (w : Work) → IsOnBytes kind → IsWork held names w
    → IsWorkOf held names kind w
work_of held names (Glimpses sizes) w b i = absurd b
work_of held names (Narrow p n) w b i = i
work_of held names (Wide p n) w b i = i
work_of held names (Writes p bs) w b i = i
work_of held names (Cuts n) w b i = i
work_of held names (Stats mode links) w b i = i

asks_go : (at : At) (before : Option Entry) (slot : ℕ) (wanted : Use) (r : Running) (w : Work) (k : Client) → IsSoundAt k → IsOnBytes w.kind
    → IsWork k.store.held r.pins w → CallGoes at before k (asks_lock slot wanted r w)
asks_go at before slot wanted r w k s b i =
    let t = kept k (Stands slot (at_stage r (Enqueued w))) (λ j. refl) s.bytes s.known in
    call_append at before k (Stands slot (at_stage r (Enqueued w)) ∷ []) (Queues wanted.target.0 (queued_for slot (enqueue_of wanted)) ∷ [])
    (one_goes at before k (Stands slot (at_stage r (Enqueued w))) (work_of k.store.held r.pins w.kind w b i) tt t)
    (λ c. queue c wanted.policy refl t)
  where
    stood : Client
    stood = after k (Stands slot (at_stage r (Enqueued w)))

    op_of : Policy → Op
    op_of policy = elim policy [ Range extent ↦ op.Enqueue wanted.resource wanted.mode extent | Bits bits ↦ op.Size wanted.resource ]

    queue : (c : Option Entry) (policy : Policy) → wanted.policy ≡ policy → IsSoundAt stood
        → CallGoes at c stood (Queues wanted.target.0 (queued_for slot (op_of policy)) ∷ [])
    queue c (Range extent) e t = one_goes at c stood (Queues wanted.target.0
        (queued_for slot (op.Enqueue wanted.resource wanted.mode extent))) tt tt
        (record {
          bytes = sound_queue stood.store.held stood.store.patches stood.imports t.bytes wanted.target.0
              (queued_for slot (op.Enqueue wanted.resource wanted.mode extent)) (λ z. refl) (λ u. tt);
          known = t.known;
        })
    queue c (Bits bits) e t = one_goes at c stood (Queues wanted.target.0 (queued_for slot (op.Size wanted.resource))) tt tt
        (record {
          bytes = sound_queue stood.store.held stood.store.patches stood.imports t.bytes wanted.target.0
              (queued_for slot (op.Size wanted.resource)) (λ z. refl) (λ u. tt);
          known = t.known;
        })

-- ---- looking for locks

-- what comes when all locks are in use
abbrev NextGoes : At → ℕ → Kind → Next → Type 0
NextGoes at slot kind next = (before : Option Entry) (r : Running) (w : Work) (k : Client) → IsSoundAt k → IsWork k.store.held r.pins w
    → w.left ≡ [] → w.kind ≡ kind → CallGoes at before k (next r w k.store)

map_more : (us : List Using) (u : Using) (left : List Use) → map (λ (v : Using). v.want) (us ++ u ∷ []) ++ left
    ≡ map (λ (v : Using). v.want) us ++ u.want ∷ left
map_more [] u left = refl
map_more (v ∷ us) u left = ap (λ (more : List Use). v.want ∷ more) (map_more us u left)

-- the lock is used
work_more : (k : Client) (wanted : Use) (l : Lock) (left : List Use) (r : Running) (w : Work) → IsWork k.store.held r.pins w → w.left
    ≡ wanted ∷ left → IsFor k.store.held wanted l
    → IsWork (after k (Pins (name_under wanted l))).store.held (pinned (name_under wanted l) r).pins (using wanted l left w)
work_more k wanted l left r w i e d =
    record {
      used = λ u j.
          ⊎_elim (λ (a : In u w.used). used_still (name_under wanted l) k.store.held u (i.used u a))
          (λ (a : In u (new ∷ [])). last u a (used_now k.store.held wanted l d))
          (in_append u w.used (new ∷ []) j);
      mine = λ u j.
          ⊎_elim (λ (a : In u w.used). in_left (name_under u.want u.lock) r.pins (name_under wanted l ∷ []) (i.mine u a))
          (λ (a : In u (new ∷ [])). named u a (in_end r.pins))
          (in_append u w.used (new ∷ []) j);
      wants = map_more w.used new left ∙ ap (λ (more : List Use). map (λ (v : Using). v.want) w.used ++ more) (sym e) ∙ i.wants;
      layout = i.layout;
      short = i.short;
    }
  where
    new : Using
    new = record { want = wanted; lock = l }

    last : (u : Using) → In u (new ∷ []) → IsUsed (changed (name_under wanted l) lock.Pin k.store.held) new
        → IsUsed (changed (name_under wanted l) lock.Pin k.store.held) u
    last u (inl s) n = subst (IsUsed (changed (name_under wanted l) lock.Pin k.store.held)) s n
    last u (inr j) n = elim j [ ]

    named : (u : Using) → In u (new ∷ []) → In (name_under wanted l) (r.pins ++ name_under wanted l ∷ [])
        → In (name_under u.want u.lock) (r.pins ++ name_under wanted l ∷ [])
    named u (inl s) n = subst (λ (v : Using). In (name_under v.want v.lock) (r.pins ++ name_under wanted l ∷ [])) s n
    named u (inr j) n = elim j [ ]

    in_end : (xs : List LockName) → In (name_under wanted l) (xs ++ name_under wanted l ∷ [])
    in_end [] = inl refl
    in_end (x ∷ xs) = inr (in_end xs)

looks_go : (at : At) (slot : ℕ) (kind : Kind) (next : Next) → IsOnBytes kind → NextGoes at slot kind next
    → (left : List Use) (before : Option Entry) (r : Running) (w : Work) (k : Client)
    → IsSoundAt k → IsWork k.store.held r.pins w → w.left ≡ left → w.kind ≡ kind → CallGoes at before k (looks slot next left r w k.store)
looks_go at slot kind next b go [] before r w k s i e t = go before r w k s i e t
looks_go at slot kind next b go (wanted ∷ left) before r w k s i e t =
    by (serving wanted k.store.held) refl (looks_go at slot kind next b go left)
  where
    asked : Work
    asked = record w { left = wanted ∷ left }

    by : (o : Option HeldLock) → serving wanted k.store.held ≡ o
        → ((before : Option Entry) (r : Running) (w : Work) (k : Client) → IsSoundAt k → IsWork k.store.held r.pins w → w.left ≡ left
        → w.kind ≡ kind → CallGoes at before k (looks slot next left r w k.store))
        → CallGoes at before k (looks_on slot (λ h. takes_up slot wanted h.lock left (looks slot next left) r w k.store) wanted left r w o)
    by None f more =
        asks_go at before slot wanted r asked k s (subst IsOnBytes (sym t) b)
        (record {
          used = i.used;
          mine = i.mine;
          wants = ap (λ (more : List Use). map (λ (v : Using). v.want) w.used ++ more) (sym e)
              ∙ i.wants;
          layout = i.layout;
          short = i.short;
        })
    by (Some h) f more =
        let d = served wanted k.store.held h f in
        let p = pin_sound k (name_under wanted h.lock) s in
        follows at before k (Pins (name_under wanted h.lock) ∷ [])
        (looks slot next left (pinned (name_under wanted h.lock) r) (using wanted h.lock left w))
        (one_goes at before k (Pins (name_under wanted h.lock)) tt tt p)
        (λ c. more c (pinned (name_under wanted h.lock) r) (using wanted h.lock left w) (after k (Pins (name_under wanted h.lock))) p
        (work_more k wanted h.lock left r w i e d) refl t)

comes_go : (at : At) (slot : ℕ) (kind : Kind) (next : Next) (l : Lock) → IsOnBytes kind → NextGoes at slot kind next
    → (left : List Use) (before : Option Entry) (r : Running) (w : Work) (k : Client)
    → IsSoundAt k → IsWork k.store.held r.pins w → w.left ≡ left → w.kind ≡ kind
    → ((wanted : Use) (more : List Use) → w.left ≡ wanted ∷ more → IsFor k.store.held wanted l)
    → CallGoes at before k (comes slot next l left r w k.store)
comes_go at slot kind next l b go [] before r w k s i e t d = none_goes at before k s
comes_go at slot kind next l b go (wanted ∷ left) before r w k s i e t d =
    let p = pin_sound k (name_under wanted l) s in
    follows at before k (Pins (name_under wanted l) ∷ []) (looks slot next left (pinned (name_under wanted l) r) (using wanted l left w))
    (one_goes at before k (Pins (name_under wanted l)) tt tt p)
    (λ c. looks_go at slot kind next b go left c (pinned (name_under wanted l) r) (using wanted l left w)
    (after k (Pins (name_under wanted l))) p (work_more k wanted l left r w i e (d wanted left e)) refl t)

-- ---- what the locks in use say

wants_all : (held : List HeldLock) (names : List LockName) (w : Work) → IsWork held names w → w.left ≡ []
    → map (λ (v : Using). v.want) w.used ≡ wants_of w.layout w.fid w.kind
wants_all held names w i e = sym (append-nil (map (λ (v : Using). v.want) w.used))
    ∙ ap (λ (more : List Use). map (λ (v : Using). v.want) w.used ++ more) (sym e) ∙ i.wants

told_is : (k : Client) (r : Running) (w : Work) → IsWork k.store.held r.pins w → w.left ≡ [] → IsTold k w
told_is k r w i e = record { used = i.used; wants = wants_all k.store.held r.pins w i e; layout = i.layout }

want_in : (held : List HeldLock) (names : List LockName) (w : Work) (u : Using) → IsWork held names w → w.left ≡ [] → In u w.used
    → In u.want (wants_of w.layout w.fid w.kind)
want_in held names w u i e j = subst (λ (xs : List Use). In u.want xs) (wants_all held names w i e)
    (in_mapped (λ (v : Using). v.want) u w.used j)

-- its range, over what is wanted
range_over : (k : Client) (u : Using) (x : Extent) → IsSoundAt k → IsUsed k.store.held u → u.want.policy ≡ Range x → (y : Extent)
    × (u.lock.ask.policy ≡ Range y) × (y.first ≤ x.first) × (x.last ≤ y.last) × IsRange y
range_over k u x s d e =
    let c = covers_range u.lock.ask.policy x (ap (λ (q : Policy). policy_covers u.lock.ask.policy q) (sym e) ∙ d.does.covers) in
    (c.0, c.1, c.2, c.3, s.bytes.ranges d.does.lock c.0 d.does.held (ap (λ (l : Lock). l.ask.policy) d.does.same ∙ c.1))

-- ---- a page is asked for

gets_go : (at : At) (before : Option Entry) (slot p n : ℕ) (g : Page) (r : Running) (w : Work) (k : Client) → IsSoundAt k → IsOnBytes w.kind
    → IsReadOf w.kind p n → IsWork k.store.held r.pins w → w.left ≡ []
    → missing w.layout p (p + n) k.store w.used ≡ Some g → CallGoes at before k (gets slot g r w)
gets_go at before slot p n g r w k s b reads i e m =
    let t = kept k (Stands slot (at_stage r (Gets w))) (λ j. refl) s.bytes s.known in
    call_append at before k (Stands slot (at_stage r (Gets w)) ∷ []) (Queues g.under.want.target.0 queued ∷ [])
    (one_goes at before k (Stands slot (at_stage r (Gets w))) (work_of k.store.held r.pins w.kind w b i) tt t)
    (λ c. one_goes at c stood (Queues g.under.want.target.0 queued) get_is tt
    (record {
      bytes = sound_queue stood.store.held stood.store.patches stood.imports t.bytes g.under.want.target.0 queued (λ z. refl)
          (λ u. tt);
      known = t.known;
    }))
  where
    queued : Queued
    queued = queued_for slot (op.Get g.under.want.resource g.under.lock.cookie g.page)

    stood : Client
    stood = after k (Stands slot (at_stage r (Gets w)))

    found : In g.under w.used × ((q : ℕ) × (below_on w.layout g.under.want.resource.stripe p ≤ q)
        × (q < below_on w.layout g.under.want.resource.stripe (p + n)) × (q / page_size ≡ g.page))
    found = page_is w.layout p (p + n) k.store w.used g m

    get_is : GetOk stood g.under.want.target.0 g.under.want.resource g.under.lock.cookie g.page
    get_is =
        let u = i.used g.under found.0 in
        let over = read_wanted w.layout w.fid w.kind p n g.under.want i.layout reads (want_in k.store.held r.pins w g.under i e found.0) in
        let q = found.1 in
        let at_q = over.1.2 q.0 q.1 q.2 in
        let y = range_over k g.under over.1.0 s u over.1.1 in
        record {
          lock = u.does.lock;
          held = u.does.held;
          target = u.does.target;
          cookie = ap (λ (l : Lock). l.cookie) u.does.same;
          object = ap (λ (l : Lock). l.resource) u.does.same ∙ u.does.object;
          pinned = u.pinned;
          extent = y.0;
          range = ap (λ (l : Lock). l.ask.policy) u.does.same ∙ y.1;
          meets = meet_at y.0 (page_extent g.page) q.0 (in_whole y.0 q.0 (let a = y.2 in let c = at_q.0 in omega (arith, a, c))
              (let a = y.3 in let c = at_q.1 in omega (arith, a, c))) (in_page q.0 g.page q.3);
        }

-- ---- reads

-- its kind, with what it asks for
read_kind : (p n : ℕ) (w : Work) → w.kind ≡ Wide p n → IsShort w.kind → IsReadOf w.kind p n
read_kind p n w e short = subst (λ (kind : Kind). IsShort kind → IsReadOf kind p n) (sym e) (λ s. (refl, refl, s)) short

narrow_kind : (p n : ℕ) (w : Work) → w.kind ≡ Narrow p n → IsShort w.kind → IsReadOf w.kind p n
narrow_kind p n w e short = subst (λ (kind : Kind). IsShort kind → IsReadOf kind p n) (sym e) (λ s. (refl, refl, s)) short

rest_end : (l : Raid0) (fid : Fid) (p : ℕ) (u : Use) → In u (wants_rest l fid p (stripes l)) → (x : Extent) × (u.policy ≡ Range x)
    × (x.last ≡ the_end)
rest_end l fid p u i = let r = rest_wanted l fid p (stripes l) u i
    in (to_end (below_on l r.0 p), ap (λ (v : Use). v.policy) (sym r.2), refl)

reach_ends : (k : Client) (names : List LockName) (w : Work) (p : ℕ) → IsSoundAt k → IsWork k.store.held names w → w.left ≡ []
    → wants_of w.layout w.fid w.kind ≡ wants_rest w.layout w.fid p (stripes w.layout) → ReachEnds w
reach_ends k names w p s i e is u j =
    let x = rest_end w.layout w.fid p u.want (subst (λ (xs : List Use). In u.want xs) is (want_in k.store.held names w u i e j)) in
    let y = range_over k u x.0 s (i.used u j) x.1 in
    let last : y.0.last ≡ the_end = let a = x.2 in let b = y.3 in let c = y.4.1 in omega (arith, a, b, c) in
    ap reaches_end y.1 ∙ eq-eqb y.0.last the_end last

wide_goes : (at : At) (slot p n : ℕ) → NextGoes at slot (Wide p n) (reads_wide at slot p n)
wide_goes at slot p n before r w k s i e t = by (missing w.layout p (p + n) k.store w.used) refl
  where
    count : ℕ
    count = min n (file_size w.layout (stripes w.layout) w.used k.store - p)

    read_is : missing w.layout p (p + n) k.store w.used ≡ None → ReadOk k (Wide p n) w (content w.layout w.fid k.store p count)
    read_is m = (
      record {
        told = told_is k r w i e;
        bytes = refl;
        there = λ u q j low high. none_missing w.layout p (p + n) k.store w.used m u q j low
            high;
      },
      reach_ends k r.pins w p s i e (ap (wants_of w.layout w.fid) t),
    )

    by : (o : Option Page) → missing w.layout p (p + n) k.store w.used ≡ o
        → CallGoes at before k (elim o [
          | Some g ↦ gets slot g r w
          | None
              ↦ tells slot r at (answer.Content (content w.layout w.fid k.store p count)) (Some w)
        ])
    by (Some g) m = gets_go at before slot p n g r w k s (subst IsOnBytes (sym t) tt) (read_kind p n w t i.short) i e m
    by None m = tells_go at before slot r (answer.Content (content w.layout w.fid k.store p count)) (Some w) k s
        (subst (λ (kind : Kind). ReadOk k kind w (content w.layout w.fid k.store p count)) (sym t) (read_is m))

widens_go : (at : At) (before : Option Entry) (slot p n : ℕ) (r : Running) (w : Work) (k : Client) → IsSoundAt k → IsLayout w.layout
    → p + n ≤ the_end → CallGoes at before k (widens at slot p n r w k.store)
widens_go at before slot p n r w k s good short =
    let u = unpins_go at before r.pins k s in
    follows at before k (unpins r.pins) (looks slot (reads_wide at slot p n) (widened p n w).left (record r { pins = [] }) (widened p n w))
    u
    (λ c. looks_go at slot (Wide p n) (reads_wide at slot p n) tt (wide_goes at slot p n) (widened p n w).left c (record r { pins = [] })
    (widened p n w) (turn k (unpins r.pins)) u.sound
    (record { used = λ v j. absurd j; mine = λ v j. absurd j; wants = refl; layout = good; short = short }) refl refl)

-- ---- a narrow read

pub any_true : {A : Type 0} (f : A → Bool) (xs : List A) → list_any f xs ≡ true → (x : A) × In x xs × (f x ≡ true)
any_true f [] e = absurd (cc)
any_true {A} f (x ∷ xs) e = by (f x) refl e (any_true f xs)
  where
    by : (b : Bool) → f x ≡ b → (b || list_any f xs) ≡ true → (list_any f xs ≡ true → (y : A) × In y xs × (f y ≡ true)) → (y : A)
        × In y (x ∷ xs) × (f y ≡ true)
    by true t e more = (x, inl refl, t)
    by false t e more = let r = more e in (r.0, inr r.1, r.2)

pub reached_is : (l : Raid0) (e : ℕ) (us : List Using) (s : Store) → has_reached l e us s ≡ true → (u : Using) × In u us
    × (u.want.resource.stripe ≡ stripe_of l e) × (reached_under (offset_of l e) u s ≡ true)
reached_is l e [] s t = absurd (cc)
reached_is l e (u ∷ us) s t = by (u.want.resource.stripe == stripe_of l e) refl t (reached_is l e us s)
  where
    Found : List Using → Type 0
    Found vs = (v : Using) × In v vs × (v.want.resource.stripe ≡ stripe_of l e) × (reached_under (offset_of l e) v s ≡ true)

    by : (b : Bool) → (u.want.resource.stripe == stripe_of l e) ≡ b
        → (if b then reached_under (offset_of l e) u s else has_reached l e us s) ≡ true → (has_reached l e us s ≡ true → Found us)
        → Found (u ∷ us)
    by true f t more = (u, inl refl, eqb-true u.want.resource.stripe (stripe_of l e) f, t)
    by false f t more = let r = more t in (r.0, inr r.1, r.2, r.3)

-- by the lock in use, or by another that is held over the offset
reaches_by : (k : Client) (u : Using) (q : ℕ) → IsUsed k.store.held u → holds_offset q u.lock.ask.policy ≡ true → reached_under q u k.store
    ≡ true → Reaches k u q
reaches_by k u q d over t = by (reaches_end u.lock.ask.policy) refl (shown_under q k.store u.lock) refl t
  where
    elsewhere : (h : HeldLock) → In h (those (Holding u.want.target u.want.resource q) k.store.held)
        → (not (reaches_end h.lock.ask.policy) && shown_under q k.store h.lock) ≡ true → Reaches k u q
    elsewhere h j f =
        let a = in_filter (λ (g : HeldLock). is_for u.want.target u.want.resource g && holds_offset q g.lock.ask.policy) h
        (in_order k.store.held) j in
        let one = and_parts (is_for u.want.target u.want.resource h) (holds_offset q h.lock.ask.policy) a.1 in
        let two = and_parts (nat_eq h.target.0 u.want.target.0 && same_resource h.lock.resource u.want.resource) (not h.marked) one.0 in
        let three = and_parts (nat_eq h.target.0 u.want.target.0) (same_resource h.lock.resource u.want.resource) two.0 in
        let four = and_parts (not (reaches_end h.lock.ask.policy)) (shown_under q k.store h.lock) f in
        inr (
          h,
          in_ordered h k.store.held a.0,
          object_is h.lock.resource u.want.resource three.1,
          one.1,
          not-true (reaches_end h.lock.ask.policy) four.0,
          four.1,
        )

    by : (v : Bool) → reaches_end u.lock.ask.policy ≡ v → (z : Bool) → shown_under q k.store u.lock ≡ z
        → (if v then nat_lt q (size_under u.lock k.store) else z
        || shown_elsewhere q k.store (those (Holding u.want.target u.want.resource q) k.store.held)) ≡ true → Reaches k u q
    by true e z f t = inl (e, lt q (size_under u.lock k.store) t)
      where
        lt : (a b : ℕ) → nat_lt a b ≡ true → a < b
        lt a b e = grind (arith, nat_tests, e)
    by false e true f t =
        let object = ap (λ (l : Lock). l.resource) d.does.same ∙ d.does.object in
        let holds = ap (λ (l : Lock). holds_offset q l.ask.policy) d.does.same ∙ over in
        let short = ap (λ (l : Lock). reaches_end l.ask.policy) d.does.same ∙ e in
        inr (d.does.lock, d.does.held, object, holds, short, ap (λ (l : Lock). shown_under q k.store l) d.does.same ∙ f)
    by false e false f t = let x = any_true (λ (h : HeldLock). not (reaches_end h.lock.ask.policy) && shown_under q k.store h.lock)
        (those (Holding u.want.target u.want.resource q) k.store.held) t in elsewhere x.0 x.1 x.2

some_run : (l : Raid0) (i p n : ℕ) → below_on l i p < below_on l i (p + n) → 0 < n
some_run l i p zero less = let same : p + 0 ≡ p = omega arith in let e = ap (below_on l i) same in absurd (omega (arith, less, e))
some_run l i p (suc n) less = omega arith

reached_all : (k : Client) (names : List LockName) (w : Work) (p n : ℕ) → IsSoundAt k → IsWork k.store.held names w → w.left ≡ [] → w.kind
    ≡ Narrow p n → has_reached w.layout (p + n - 1) w.used k.store ≡ true
    → HasReached k w (p + n - 1)
reached_all k names w p n s i e t h =
    let f = reached_is w.layout (p + n - 1) w.used k.store h in
    let here = want_in k.store.held names w f.0 i e f.1 in
    let run = run_wanted w.layout w.fid PR p (p + n) (stripes w.layout) f.0.want
    (subst (λ (kind : Kind). In f.0.want (wants_of w.layout w.fid kind)) t here) in
    let some = some_run w.layout run.0 p n run.2 in
    let over = read_wanted w.layout w.fid w.kind p n f.0.want i.layout (narrow_kind p n w t i.short) here in
    let off = offset_within w.layout f.0.want.resource.stripe p n (p + n - 1) i.layout over.0 (omega (arith, some)) (omega (arith, some))
    f.2 in
    let at_q = over.1.2 (offset_of w.layout (p + n - 1)) off.0 off.1 in
    let d = i.used f.0 f.1 in
    let y = range_over k f.0 over.1.0 s d over.1.1 in
    let holds : holds_offset (offset_of w.layout (p + n - 1)) f.0.lock.ask.policy ≡ true =
    ap (holds_offset (offset_of w.layout (p + n - 1))) y.1 ∙ in_whole y.0 (offset_of w.layout (p + n - 1))
    (let a = y.2 in let c = at_q.0 in omega (arith, a, c)) (let a = y.3 in let c = at_q.1 in omega (arith, a, c))
    in
    (f.0, f.1, f.2, reaches_by k f.0 (offset_of w.layout (p + n - 1)) d holds f.3)

narrow_goes : (at : At) (slot p n : ℕ) → NextGoes at slot (Narrow p n) (reads_narrow at slot p n)
narrow_goes at slot p n before r w k s i e t = by (missing w.layout p (p + n) k.store w.used) refl
  where
    told : missing w.layout p (p + n) k.store w.used ≡ None → has_reached w.layout (p + n - 1) w.used k.store ≡ true
        → ReadOk k (Narrow p n) w (content w.layout w.fid k.store p n)
    told m h = (
      record {
        told = told_is k r w i e;
        bytes = refl;
        there =
            λ u q j low high. none_missing w.layout p (p + n) k.store w.used m u q j low high;
      },
      reached_all k r.pins w p n s i e t h,
    )

    short : p + n ≤ the_end
    short = subst IsShort t i.short

    tells_it : List Entry
    tells_it = tells slot r at (answer.Content (content w.layout w.fid k.store p n)) (Some w)

    reach : missing w.layout p (p + n) k.store w.used ≡ None → (v : Bool) → has_reached w.layout (p + n - 1) w.used k.store ≡ v
        → CallGoes at before k (if v then tells_it else widens at slot p n r w k.store)
    reach m true h = tells_go at before slot r (answer.Content (content w.layout w.fid k.store p n)) (Some w) k s
        (subst (λ (kind : Kind). ReadOk k kind w (content w.layout w.fid k.store p n)) (sym t) (told m h))
    reach m false h = widens_go at before slot p n r w k s i.layout short

    by : (o : Option Page) → missing w.layout p (p + n) k.store w.used ≡ o
        → CallGoes at before k (elim o [
          | Some g ↦ gets slot g r w
          | None ↦ if has_reached w.layout (p + n - 1) w.used k.store then tells_it
              else widens at slot p n r w k.store
        ])
    by (Some g) m = gets_go at before slot p n g r w k s (subst IsOnBytes (sym t) tt) (narrow_kind p n w t i.short) i e m
    by None m = reach m (has_reached w.layout (p + n - 1) w.used k.store) refl

-- ---- changes

both : (a b : Bool) → a ≡ true → b ≡ true → (a && b) ≡ true
both a b p q = rw (p, q) refl

over_covers : (change : Flush) (x : Extent) → IsRange x → IsOver change x → (life p : ℕ) → changes (change_of change) p ≡ true
    → covers (lock_at 0 life PW x) p ≡ true
over_covers (flush.Put first bs) x range over life p w =
    let i = in_parts x p (over p w) in let a = i.0 in both (nat_lt x.first (suc p)) (not_above p (last_of x.last))
    (grind (arith, nat_tests, a)) (above_last p x.last i.1)
over_covers (flush.Cut size) x range over life p w =
    let h = and_parts (nat_le x.first (size - 1)) (nat_le the_end x.last) over.0 in
    let a = h.0 in
    let b = h.1 in
    both (nat_lt x.first (suc p)) (not_above p (last_of x.last)) (grind (arith, nat_tests, a, w))
    (above_end p x.last (grind (arith, nat_tests, b)) range.1)

within_bounds : (at : ℕ) (bs : List ℕ) (p : ℕ) → within at bs p ≡ true → (at ≤ p) × (p < at + length bs)
within_bounds at [] p w = absurd (cc)
within_bounds at (b ∷ bs) p w = by (nat_eq at p) refl w (within_bounds (suc at) bs p)
  where
    by : (v : Bool) → nat_eq at p ≡ v → (v || within (suc at) bs p) ≡ true
        → (within (suc at) bs p ≡ true → (suc at ≤ p) × (p < suc at + length bs)) → (at ≤ p) × (p < at + suc (length bs))
    by true e w ih = let is : at ≡ p = eqb-true at p e in (omega (arith, is), omega (arith, is))
    by false e w ih = let r = ih w in let a = r.0 in let b = r.1 in (omega (arith, a), omega (arith, b))

-- a lock in use for writing, with its range over what is wanted
record WritesUnder (held : List HeldLock) (u : Using) (x : Extent) : Type 0 where
  lock : HeldLock
  there : In lock held
  pinned : 0 < lock.pins
  object : lock.lock.resource ≡ u.want.resource
  cookie : lock.lock.cookie ≡ u.lock.cookie
  mode : lock.lock.ask.mode ≡ PW
  extent : Extent
  range : lock.lock.ask.policy ≡ Range extent
  first : extent.first ≤ x.first
  last : x.last ≤ extent.last
  fits : IsRange extent

writes_is : (k : Client) (u : Using) (x : Extent) → IsSoundAt k → IsUsed k.store.held u → u.want.mode ≡ PW → u.want.policy ≡ Range x
    → WritesUnder k.store.held u x
writes_is k u x s d m e =
    let y = range_over k u x s d e in
    record {
      lock = d.does.lock;
      there = d.does.held;
      pinned = d.pinned;
      object = ap (λ (l : Lock). l.resource) d.does.same ∙ d.does.object;
      cookie = ap (λ (l : Lock). l.cookie) d.does.same;
      mode = ap (λ (l : Lock). l.ask.mode) d.does.same ∙ writes_only u.lock.ask.mode
          (ap (λ (n : Mode). serves u.lock.ask.mode n) (sym m) ∙ d.does.serves);
      extent = y.0;
      range = ap (λ (l : Lock). l.ask.policy) d.does.same ∙ y.1;
      first = y.2;
      last = y.3;
      fits = y.4;
    }

change_goes : (at : At) (before : Option Entry) (k : Client) (u : Using) (x : Extent) (change : Flush) → IsSoundAt k
    → (w : WritesUnder k.store.held u x) → IsOver change w.extent
    → CallGoes at before k (Changes u.want.resource change ∷ [])
change_goes at before k u x change s w over =
    one_goes at before k (Changes u.want.resource change)
    (record {
      under = record {
        lock = w.lock;
        held = w.there;
        object = w.object;
        mode = w.mode;
        extent = w.extent;
        range = w.range;
        over =
            over_covers change w.extent w.fits over;
      };
      pinned = w.pinned;
    })
    tt
    (kept k (Changes u.want.resource change) (λ j. refl)
    (sound_made k.store.held k.store.patches k.imports s.bytes u.want.resource change
    (record { lock = w.lock; held = w.there; object = w.object; mode = w.mode; extent = w.extent; range = w.range; over = over }))
    s.known)

-- ---- writes

-- the piece on the stripe of a lock in use, under it
record PieceOf (held : List HeldLock) (u : Using) (first : ℕ) (bs : List ℕ) : Type 0 where
  under : WritesUnder held u (record { first = first; last = first + length bs - 1 })
  some : 0 < length bs

shows_after : (r : Resource) (first : ℕ) (bs : List ℕ) → 0 < length bs
    → (f : ℕ) × (b : ℕ) × (more : List ℕ) × (◌≡◌ {A = Option Entry} (Some (Changes r (flush.Put first bs)))
    (Some (Changes r (flush.Put f (b ∷ more))))) × (first + length bs - 1 ≡ f + length more)
shows_after r first [] some = absurd (omega (arith, some))
shows_after r first (b ∷ bs) some = (first, b, bs, refl, omega arith)

piece_goes : (at : At) (before : Option Entry) (k : Client) (u : Using) (first : ℕ) (bs : List ℕ) → IsSoundAt k
    → PieceOf k.store.held u first bs → CallGoes at before k (writes_on u first bs)
piece_goes at before k u first bs s p =
    let w = p.under in
    let some = p.some in
    let low = w.first in
    let high = w.last in
    let c = change_goes at before k u (record { first = first; last = first + length bs - 1 }) (flush.Put first bs) s w
    (λ q i. let b = within_bounds first bs q i in let x = b.0 in let y = b.1
    in in_whole w.extent q (omega (arith, x, low)) (omega (arith, y, high, some)))
    in
    let under : Writer k.store.held u.want.resource (λ x. is_in x (first + length bs - 1) ≡ true) =
    record {
      lock = w.lock;
      held = w.there;
      object = w.object;
      mode = w.mode;
      extent = w.extent;
      range = w.range;
      over =
          in_whole w.extent (first + length bs - 1) (omega (arith, low, some)) high;
    }
    in
    let shown : Holder k.store.held u.want.resource (λ l x. (l.cookie ≡ u.lock.cookie) × (is_in x (first + length bs - 1) ≡ true)) =
    record { lock = w.lock; held = w.there; object = w.object; extent = w.extent; range = w.range; such = (w.cookie, under.over) }
    in
    record {
      each = (
        c.each.0,
        c.each.1,
        (
          record { under = under; cookie = w.cookie },
          shows_after u.want.resource first bs some,
          tt,
        ),
      );
      sound = kept (after k (Changes u.want.resource (flush.Put first bs))) (Shows u.want.resource u.lock.cookie (first + length bs - 1))
          (λ j. refl) c.sound.bytes
          (known_shows k.store.held u.want.resource u.lock.cookie (first + length bs - 1) shown k.store.bytes k.store.sizes k.store.shown
          s.known);
    }

writes_go : (at : At) (before : Option Entry) (l : Raid0) (p : ℕ) (bs : List ℕ) (us : List Using) (k : Client) → IsSoundAt k
    → ((u : Using) → In u us → PieceOf k.store.held u (below_on l u.want.resource.stripe p) (bytes_on l u.want.resource.stripe p bs))
    → CallGoes at before k (writes l p bs us)
writes_go at before l p bs [] k s each = none_goes at before k s
writes_go at before l p bs (u ∷ us) k s each =
    let es = writes_on u (below_on l u.want.resource.stripe p) (bytes_on l u.want.resource.stripe p bs) in
    let g = piece_goes at before k u (below_on l u.want.resource.stripe p) (bytes_on l u.want.resource.stripe p bs) s (each u (inl refl)) in
    call_append at before k es (writes l p bs us) g (λ b. writes_go at b l p bs us (turn k es) g.sound (λ v j. each v (inr j)))

pieces_of : (k : Client) (names : List LockName) (w : Work) (p : ℕ) (bs : List ℕ) → IsSoundAt k → IsWork k.store.held names w → w.left ≡ []
    → w.kind ≡ Writes p bs
    → (u : Using) → In u w.used → PieceOf k.store.held u (below_on w.layout u.want.resource.stripe p)
    (bytes_on w.layout u.want.resource.stripe p bs)
pieces_of k names w p bs s i e t u j =
    let r = run_wanted w.layout w.fid PW p (p + length bs) (stripes w.layout) u.want
    (subst (λ (kind : Kind). In u.want (wants_of w.layout w.fid kind)) t (want_in k.store.held names w u i e j)) in
    let stripe : r.0 ≡ u.want.resource.stripe = ap (λ (v : Use). v.resource.stripe) r.3 in
    let count = on_length w.layout r.0 p bs i.layout (stripe_there w.layout r.0 r.1) in
    let less = r.2 in
    let some : 0 < length (bytes_on w.layout r.0 p bs) = omega (arith, count, less) in
    let same : below_on w.layout r.0 (p + length bs) - 1 ≡ below_on w.layout r.0 p + length (bytes_on w.layout r.0 p bs) - 1 =
    omega (arith, count) in
    subst (λ (n : ℕ). PieceOf k.store.held u (below_on w.layout n p) (bytes_on w.layout n p bs)) stripe
    (record {
      under = subst (λ (b : ℕ). WritesUnder k.store.held u (record { first = below_on w.layout r.0 p; last = b })) same
          (writes_is k u (record { first = below_on w.layout r.0 p; last = below_on w.layout r.0 (p + length bs) - 1 }) s (i.used u j)
          (ap (λ (v : Use). v.mode) (sym r.3)) (ap (λ (v : Use). v.policy) (sym r.3)));
      some = some;
    })

-- ---- cuts

record CutOf (held : List HeldLock) (u : Using) (size : ℕ) : Type 0 where
  under : WritesUnder held u (cut_extent size)
  short : size ≤ the_end

cuts_go : (at : At) (before : Option Entry) (l : Raid0) (n : ℕ) (us : List Using) (k : Client) → IsSoundAt k
    → ((u : Using) → In u us → CutOf k.store.held u (below_on l u.want.resource.stripe n))
    → CallGoes at before k (cuts l n us)
cuts_go at before l n [] k s each = none_goes at before k s
cuts_go at before l n (u ∷ us) k s each =
    let c = each u (inl refl) in
    let w = c.under in
    let change = flush.Cut (below_on l u.want.resource.stripe n) in
    let g = change_goes at before k u (cut_extent (below_on l u.want.resource.stripe n)) change s w (
      both (nat_le w.extent.first (below_on l u.want.resource.stripe n - 1)) (nat_le the_end w.extent.last)
          (le w.extent.first (below_on l u.want.resource.stripe n - 1) w.first) (le the_end w.extent.last w.last),
      c.short,
    )
    in
    call_append at before k (Changes u.want.resource change ∷ []) (cuts l n us) g
    (λ b. cuts_go at b l n us (after k (Changes u.want.resource change)) g.sound (λ v j. each v (inr j)))
  where
    le : (a b : ℕ) → a ≤ b → nat_le a b ≡ true
    le a b h = grind (arith, nat_tests, h)

cuts_of : (k : Client) (names : List LockName) (w : Work) (n : ℕ) → IsSoundAt k → IsWork k.store.held names w → w.left ≡ [] → w.kind
    ≡ Cuts n
    → (u : Using) → In u w.used → CutOf k.store.held u (below_on w.layout u.want.resource.stripe n)
cuts_of k names w n s i e t u j =
    let r = cut_wanted w.layout w.fid n (stripes w.layout) u.want
    (subst (λ (kind : Kind). In u.want (wants_of w.layout w.fid kind)) t (want_in k.store.held names w u i e j)) in
    let stripe : r.0 ≡ u.want.resource.stripe = ap (λ (v : Use). v.resource.stripe) r.2 in
    let short : n ≤ the_end = subst IsShort t i.short in
    let is_below = below_is w.layout r.0 n i.layout (stripe_there w.layout r.0 r.1) in
    let low = below_low w.layout r.0 n in
    subst (λ (m : ℕ). CutOf k.store.held u (below_on w.layout m n)) stripe
    (record {
      under = writes_is k u (cut_extent (below_on w.layout r.0 n)) s (i.used u j) (ap (λ (v : Use). v.mode) (sym r.2))
          (ap (λ (v : Use). v.policy) (sym r.2));
      short = omega (arith, is_below, low, short);
    })

-- ---- all kinds

acts_go : (at : At) (slot : ℕ) (kind : Kind) → IsOnBytes kind → NextGoes at slot kind (acts at slot kind)
acts_go at slot (Narrow p n) b before r w k s i e t = narrow_goes at slot p n before r w k s i e t
acts_go at slot (Wide p n) b before r w k s i e t = wide_goes at slot p n before r w k s i e t
acts_go at slot (Writes p bs) b before r w k s i e t =
    let g = writes_go at before w.layout p bs w.used k s (pieces_of k r.pins w p bs s i e t) in
    call_append at before k (writes w.layout p bs w.used) (tells slot r at answer.Done (Some w)) g
    (λ c. tells_go at c slot r answer.Done (Some w) (turn k (writes w.layout p bs w.used)) g.sound tt)
acts_go at slot (Cuts n) b before r w k s i e t =
    let g = cuts_go at before w.layout n w.used k s (cuts_of k r.pins w n s i e t) in
    call_append at before k (cuts w.layout n w.used) (tells slot r at answer.Done (Some w)) g
    (λ c. tells_go at c slot r answer.Done (Some w) (turn k (cuts w.layout n w.used)) g.sound tt)
acts_go at slot (Stats mode links) b before r w k s i e t =
    tells_go at before slot r (answer.FileSize w.fid mode links (file_size w.layout (stripes w.layout) w.used k.store)) (Some w) k s
    (told_is k r w i e, reach_ends k r.pins w 0 s i e (ap (wants_of w.layout w.fid) t), refl)
acts_go at slot (Glimpses sizes) b before r w k s i e t = absurd b

pub looks_at_go : LooksGo
looks_at_go at before slot r w k s b i = by w.kind refl b
  where
    go : (kind : Kind) → w.kind ≡ kind → IsOnBytes kind → CallGoes at before k (looks slot (acts at slot kind) w.left r w k.store)
    go kind t b = looks_go at slot kind (acts at slot kind) b (acts_go at slot kind b) w.left before r w k s i refl t

    by : (kind : Kind) → w.kind ≡ kind → IsOnBytes kind → CallGoes at before k (looks_at at slot kind r w k.store)
    by (Narrow p n) t b = go (Narrow p n) t b
    by (Wide p n) t b = go (Wide p n) t b
    by (Writes p bs) t b = go (Writes p bs) t b
    by (Cuts n) t b = go (Cuts n) t b
    by (Stats mode links) t b = go (Stats mode links) t b
    by (Glimpses sizes) t b = absurd b

pub comes_at_go : ComesGo
comes_at_go at before slot r w l k s b i d = by w.kind refl b
  where
    go : (kind : Kind) → w.kind ≡ kind → IsOnBytes kind → CallGoes at before k (comes slot (acts at slot kind) l w.left r w k.store)
    go kind t b = comes_go at slot kind (acts at slot kind) l b (acts_go at slot kind b) w.left before r w k s i refl t d

    by : (kind : Kind) → w.kind ≡ kind → IsOnBytes kind → CallGoes at before k (comes_at at slot kind r w k.store l)
    by (Narrow p n) t b = go (Narrow p n) t b
    by (Wide p n) t b = go (Wide p n) t b
    by (Writes p bs) t b = go (Writes p bs) t b
    by (Cuts n) t b = go (Cuts n) t b
    by (Stats mode links) t b = go (Stats mode links) t b
    by (Glimpses sizes) t b = absurd b

-- a call that has just begun
begun : (held : List HeldLock) (names : List LockName) (fid : Fid) (layout : Raid0) (kind : Kind) → IsShort kind → IsLayout layout
    → IsWork held names (work_on fid layout kind)
begun held names fid layout kind short good = record {
  used = λ u j. absurd j;
  mine = λ u j. absurd j;
  wants = refl;
  layout = good;
  short =
      short;
}

pub starts_go : StartsGo
starts_go at before slot kind r f k s b short good = looks_at_go at before slot r (work_on f.fid f.layout kind) k s b
    (begun k.store.held r.pins f.fid f.layout kind short good)

pub stats_go : StatsGo
stats_go at before slot fid layout kind names r k s b short good =
    let g = pins_go at before names k s in
    follows at before k (pins names) (looks_at at slot kind (with_pins names r) (work_on fid layout kind)) g
    (λ c. looks_at_go at c slot (with_pins names r) (work_on fid layout kind) (turn k (pins names)) g.sound b
    (begun (turn k (pins names)).store.held (with_pins names r).pins fid layout kind short good))
