-- What comes at the end of a client's turn: unused locks are marked, changes are written back under marked locks, or where too much is
-- dirty,
-- marked locks are given up where their target serves the life, and to each target that serves it what waits there is sent. Each line is
-- allowed, and then each call waits; no held lock that isn't pinned is marked where its target serves, but one to write under, and handles
-- are
-- bound as calls say.
use Rattle.std.proofs.Common.{◌≡◌, ℕ, zero, suc, ◌+◌, ◌<◌, ◌≤◌, Bool, true, false, List, [], ◌∷◌, ◌++◌, ◌⊎◌, inl, inr, ⊎_elim, Option, Some}
use Rattle.std.proofs.Common.{None, refl, sym, subst, ap, ◌∙◌, arith, add-one}
use Rattle.std.specs.Prelude.{nat_eq, nat_lt, not, ◌&&◌, ◌||◌, length, if◌then◌else◌, map, filter, reverse, drop}
use Rattle.std.specs.List.{range_with_len}
use Rattle.std.proofs.lemmas.Bool.{and_parts, eqb-true, ltb-true, not-true}
use Rattle.std.proofs.lemmas.Bool.Decides.{nat_tests}
use Rattle.std.proofs.lemmas.Grind.{reverse_onto}
use Rattle.lu_base.specs.declared.ids.At.{At}
use Rattle.lu_base.specs.declared.ids.Node.TheVariants.{Client, Target}
use Rattle.lu_base.specs.declared.ids.Stamp.{Stamp}
use Rattle.lu_base.specs.declared.ids.Who.{Who}
use Rattle.lu_base.specs.declared.ids.Cookie.{Cookie}
use Rattle.lu_base.specs.declared.locks.Extent.{Extent}
use Rattle.lu_base.specs.declared.locks.Mode.{Mode}
use Rattle.lu_base.specs.declared.locks.Mode.TheVariants.{PW}
use Rattle.lu_base.specs.declared.locks.Policy.{Policy}
use Rattle.lu_base.specs.declared.locks.Policy.TheVariants.{Range}
use Rattle.lu_base.specs.declared.locks.Resource.{Resource}
use Rattle.lu_msg.specs.declared.messages.Message.TheVariants as message
use Rattle.lu_held.specs.declared.locks.Change.TheVariants as change
use Rattle.lu_held.specs.declared.locks.HeldLock.{HeldLock}
use Rattle.lu_held.specs.declared.names.LockName.{LockName}
use Rattle.lu_held.specs.Locks.{name_of, is_named, is_free, after}
use Rattle.lu_held.specs.Held.{is_held, without, in_order}
use Rattle.lu_spec_entries.specs.declared.changes.Flush.{Flush}
use Rattle.lu_spec_entries.specs.declared.changes.Flush.TheVariants.{Cut, Put}
use Rattle.lu_spec_entries.specs.Carried.{Queued, Flight}
use Rattle.lu_spec_entries.specs.Words.{Entry, Send, Drop, Queues, Flies, Marks, WritesBack, Line, line, with_turn}
use Rattle.lu_spec_entries.specs.Concerns.{only}
use Rattle.lu_spec_client.specs.Caches.{held_at, patch_at, patches_at}
use Rattle.lu_spec_client.specs.Imports.{Import, import_at, import_of, is_serving}
use Rattle.lu_spec_client.specs.Locks.{marks_of, trims, is_called, must_write, writes_next, writes_under, gives_up, visits, visits_all}
use Rattle.lu_spec_client.specs.Locks.{locks_go, dirty_total}
use Rattle.lu_spec_client.specs.Patches.{Patch, in_flight, has_change, dirty_in}
use Rattle.lu_spec_client.specs.Sending.{front_waits, has_room, next_flight, request_of, sends_request, flies, sends, sends_to, sends_all}
use Rattle.lu_spec_client.specs.States.{follow}
use Rattle.lu_spec_client.specs.WriteBack.{operation, writes_back, flush_under}
use Rattle.lu_proof_lawful.specs.Covered.Calls.{life_at}
use Rattle.lu_proof_lawful.specs.Covered.ClientStates.{flights_of, last_of, life_of}
use Rattle.lu_proof_lawful.specs.Covered.Heads.{Head}
use Rattle.lu_proof_lawful.specs.Covered.Imports.{Standing, Joining, Recovering, Serving, rest, queue_at, flights_at, last_at, known_at}
use Rattle.lu_proof_lawful.specs.Covered.Imports.{standing_at}
use Rattle.lu_spec_run.specs.Heads as table
use Rattle.lu_spec_run.specs.Runs.{limits_of, client_of}
use Rattle.lu_proof_lawful.proofs.Preconditions.Guards.{HasRange, In, Dropped, EntryOk}
use Rattle.lu_proof_lawful.proofs.Preconditions.StoryGuards.{DropOk, AsksInOrder, CancelOk}
use Rattle.lu_proof_lawful.proofs.Preconditions.Acts.{bits_range}
use Rattle.lu_proof_lawful.proofs.Preconditions.Grown.{Grown}
use Rattle.lu_proof_lawful.proofs.Preconditions.StoryGuards as story_guards
use Rattle.lu_proof_lawful.proofs.Preconditions.Lists.{self, in_append, in_right, in_filter, turn, turn_more}
use Rattle.lu_proof_lawful.proofs.Preconditions.Parts.{queue_now, flights_now, last_now, known_is, standing_is, life_is_of}
use Rattle.lu_proof_lawful.proofs.Preconditions.Turns.{covered_head, owes_nothing}
use Rattle.lu_proof_lawful.proofs.Preconditions.LockKinds.{held_kind}
use Rattle.lu_proof_lawful.proofs.Preconditions.Held.{held_in, held_into, held_back, held_name}
use Rattle.lu_proof_lawful.proofs.Preconditions.ClientLocks.{Once, in_drop, own_name, changed_only, without_only, without_other}
use Rattle.lu_proof_lawful.proofs.Preconditions.ClientLocks.{without_gone, in_ordered, ordered_in, once_ordered}
use Rattle.lu_proof_lawful.proofs.Preconditions.ClientLines.{held_once, once_same, held_limited}
use Rattle.lu_proof_lawful.proofs.Preconditions.Patched.{lasts_taken}
pub use Rattle.lu_proof_lawful.proofs.Preconditions.ClientGood.{Good, idle_same, Rested, Between, Ended, here, the_head, adds, at_one}
pub use Rattle.lu_proof_lawful.proofs.Preconditions.ClientGood.{at_zero, call_line, held_line, request_is, Keeps, followed, keeps_more}

pub in_reverse : {A : Type 0} (x : A) (xs : List A) → In x (reverse xs) → In x xs
in_reverse x [] i = i
in_reverse {A} x (y ∷ xs) i =
    ⊎_elim (λ (j : In x (reverse xs)). inr (in_reverse x xs j))
    (λ (j : In x (y ∷ [])). ⊎_elim (λ (e : y ≡ x). inl e) (λ (n : ⊥). absurd n) j)
    (in_append x (reverse xs) (y ∷ []) (subst (λ (zs : List A). In x zs) (reverse_onto xs y []) i))

-- what is written back goes under a lock to write, on a range
must_writer : (over : Bool) (h : HeldLock) (m : Mode) (q : Policy) (p : Patch) → must_write over h m q p ≡ true → m ≡ PW
must_writer over h PW (Range extent) p e = refl
must_writer over h m q p e = absurd (cc)

-- where nothing must be written under a lock that is called back, no change is left there
clean_under : (over : Bool) (h : HeldLock) (p : Patch) → is_called h ≡ true → must_write over h h.lock.ask.mode h.lock.ask.policy p ≡ false
    → h.lock.ask.mode ≡ PW → (x : Extent) → h.lock.ask.policy ≡ Range x → has_change x p ≡ false
clean_under over h p called none mode x range =
    by (is_called h) (has_change x p) (over && nat_lt 0 (dirty_in x p)) called
    (sym (ap (λ (m : Mode). must_write over h m (Range x) p) mode) ∙ sym (ap (λ (q : Policy). must_write over h h.lock.ask.mode q p) range)
    ∙ none)
  where
    by : (a b c : Bool) → a ≡ true → ((a && b) || c) ≡ false → b ≡ false
    by true false c e n = refl
    by true true c e n = absurd (cc)
    by false b c e n = absurd (cc)

flush_writer : (p : Patch) (m : Mode) (q : Policy) (change : Flush) → flush_under p m q ≡ Some change → (m ≡ PW) × HasRange q
flush_writer p PW (Range extent) change e = (refl, tt)
flush_writer p m q change e = absurd (cc)

-- and asks for no lock
back_in_order : (resource : Resource) (cookie : Cookie) (change : Flush) → AsksInOrder (operation resource cookie change)
back_in_order resource cookie (Put offset bytes) = tt
back_in_order resource cookie (Cut size) = tt

module _ (head : table.Head) (c : ℕ) (stamp : Stamp) where
  abbrev at : At
  at = turn stamp (Client c)

  abbrev few : Head
  few = covered_head head

  -- ---- what waits is sent to each target that serves the life

  -- only that is left of the turn; before: where it begins to send; from this target on none has been sent anything yet
  record Sending (before : List Line) (from : ℕ) (p : List Line) : Type 0 where
    ended : Ended head c at p
    life : life_at c p ≡ life_at c before
    known : (u : ℕ) → known_at c u p ≡ known_at c u before
    standing : (u : ℕ) → standing_at c u p ≡ standing_at c u before
    last : (u : ℕ) → from ≤ u → last_at c u p ≡ last_at c u before
    flights : (u : ℕ) → from ≤ u → flights_at c u p ≡ flights_at c u before
    queue : (u : ℕ) → from ≤ u → queue_at c u p ≡ queue_at c u before

  -- one that isn't sent anything
  not_sent : (before : List Line) (t : ℕ) (p : List Line) → Sending before t p → Sending before (t + 1) p
  not_sent before t p s =
      record {
        ended = s.ended;
        life = s.life;
        known = s.known;
        standing = s.standing;
        last = λ u above. s.last u (omega (arith, above));
        flights = λ u above. s.flights u (omega (arith, above));
        queue = λ u above. s.queue u (omega (arith, above));
      }

  sends_good : (before : List Line) (t : ℕ) (p : List Line) (last : ℕ) (flights : List Flight) (queue : List Queued)
      → Sending before (t + 1) p → standing_at c t before ≡ Serving
      → last_at c t p ≡ last → flights_at c t p ≡ flights → queue_at c t p ≡ queue
      → Sending before (t + 1) (with_turn at (sends (limits_of head) (life_at c before) (known_at c t before) t last flights queue) p)
  sends_good before t p last flights [] s v l f q = s
  sends_good before t p last flights (x ∷ queue) s v l f q = by (has_room (limits_of head) t x.op flights) refl
      (λ next. sends_good before t p2 (last + 1) (flights ++ fl ∷ []) queue next v ls fs qs)
    where
      who : Who
      who = life_at c before

      boot : ℕ
      boot = known_at c t before

      fl : Flight
      fl = next_flight last flights x

      p1 : List Line
      p1 = line at (Flies t fl) ∷ p

      p2 : List Line
      p2 = line at (sends_request who boot t fl) ∷ p1

      more : List Entry
      more = sends (limits_of head) who boot t (last + 1) (flights ++ fl ∷ []) queue

      own : (nat_eq c c && nat_eq t t) ≡ true
      own = rw (self c, self t) refl

      other : (u : ℕ) → t + 1 ≤ u → (nat_eq c c && nat_eq u t) ≡ false
      other u above = ap (λ (b : Bool). b && nat_eq u t) (self c) ∙ apart u above
        where
          apart : (u : ℕ) → t + 1 ≤ u → nat_eq u t ≡ false
          apart u above = grind (arith, nat_tests, above)

      fs : flights_at c t p1 ≡ flights ++ fl ∷ []
      fs = ap (λ (b : Bool). if b then flights_at c t p ++ fl ∷ [] else flights_at c t p) own ∙ ap (λ (y : List Flight). y ++ fl ∷ []) f

      ls : last_at c t p1 ≡ last + 1
      ls = ap (λ (b : Bool). if b then last + 1 else last_at c t p) own

      qs : queue_at c t p1 ≡ queue
      qs = ap (λ (b : Bool). if b then rest (queue_at c t p) else queue_at c t p) own ∙ ap rest q

      g : Good head c at p
      g = s.ended.good

      last_now_is : last ≡ last_of (life_of c (only t p)) (only t p)
      last_now_is = sym l ∙ last_now few c t p g.grown

      flights_now_are : flights ≡ flights_of (life_of c (only t p)) (only t p)
      flights_now_are = sym f ∙ flights_now few c t p g.grown

      flown : nat_lt (length flights) head.flight ≡ true → not (front_waits t x.op flights) ≡ true → Good head c at p1
      flown room object =
          adds head c stamp p (Flies t fl) g (owes_nothing p at (Flies t fl) s.ended.settled) tt
          (at_one head c stamp t (λ (u : ℕ). story_guards.FliesOk few (only u p) c t fl) (record {
            serves = sym (standing_is c t p) ∙ s.standing t ∙ v;
            front = x;
            more = queue;
            queue = sym (queue_now few c t p g.grown) ∙ q;
            is = ap (λ (n : ℕ). next_flight n flights x) last_now_is
                ∙ ap (λ (y : List Flight). next_flight (last_of (life_of c (only t p)) (only t p)) y x) flights_now_are;
            room = subst (λ (y : List Flight). length y < head.flight) flights_now_are (ltb-true (length flights) head.flight room);
            object = ap (front_waits t x.op) (sym flights_now_are) ∙ not-true (front_waits t x.op flights) object;
          }))
          tt refl

      sent : Good head c at p1 → Good head c at p2
      sent g =
          adds head c stamp p1 (sends_request who boot t fl) g (owes_nothing p1 at (sends_request who boot t fl) tt) tt
          (at_one head c stamp t (λ (u : ℕ). story_guards.AskOk (only u p1) c (request_of who boot fl)) (record {
            serves = sym (standing_is c t p1) ∙ s.standing t ∙ v;
            flight = fl;
            flying = subst (λ (y : List Flight). In fl y) (sym fs ∙ flights_now few c t p1 g.grown)
                (in_right fl flights (fl ∷ []) (inl refl));
            is = ap (λ (w : Who). request_of w boot fl) (sym s.life) ∙ ap (λ (n : ℕ). request_of (life_at c p) n fl) (sym (s.known t))
                ∙ request_is head c stamp t p1 fl;
          }))
          tt refl

      next : Good head c at p2 → Sending before (t + 1) p2
      next good =
          record {
            ended = record {
              good = good;
              settled = tt;
              between =
                  record { idle = s.ended.between.idle; handles = s.ended.between.handles; calm = s.ended.between.calm };
            };
            life = s.life;
            known = s.known;
            standing = s.standing;
            last = λ u above. ap (λ (b : Bool). if b then last + 1 else last_at c u p) (other u above) ∙ s.last u above;
            flights = λ u above. ap (λ (b : Bool). if b then flights_at c u p ++ fl ∷ [] else flights_at c u p) (other u above)
                ∙ s.flights u above;
            queue = λ u above. ap (λ (b : Bool). if b then rest (queue_at c u p) else queue_at c u p) (other u above) ∙ s.queue u above;
          }

      by : (b : Bool) → has_room (limits_of head) t x.op flights ≡ b
          → (Sending before (t + 1) p2 → Sending before (t + 1) (with_turn at more p2))
          → Sending before (t + 1) (with_turn at (if b then flies who boot t fl more else []) p)
      by true room on = let parts = and_parts (nat_lt (length flights) head.flight) (not (front_waits t x.op flights)) room
          in on (next (sent (flown parts.0 parts.1)))
      by false room on = s

  sent_to : (before : List Line) (t : ℕ) (p : List Line) → Sending before t p
      → Sending before (t + 1) (with_turn at (sends_to (limits_of head) (life_at c before) t (import_at c t before)) p)
  sent_to before t p s = by (standing_at c t before) refl
    where
      by : (x : Standing) → standing_at c t before ≡ x
          → Sending before (t + 1) (with_turn at (if is_serving x
          then sends (limits_of head) (life_at c before) (known_at c t before) t (last_at c t before) (flights_at c t before)
          (queue_at c t before) else []) p)
      by Serving v =
          sends_good before t p (last_at c t before) (flights_at c t before) (queue_at c t before) (not_sent before t p s) v
          (s.last t (omega arith)) (s.flights t (omega arith)) (s.queue t (omega arith))
      by standing v = not_sent before t p s

  sent_from : (before : List Line) (n t : ℕ) (p : List Line) → Sending before t p
      → Ended head c at (with_turn at (sends_all (limits_of head) (life_at c before) t
      (map (λ v. import_at c v before) (range_with_len t n))) p)
  sent_from before zero t p s = s.ended
  sent_from before (suc n) t p s =
      let es = sends_to (limits_of head) (life_at c before) t (import_at c t before) in
      let more = sends_all (limits_of head) (life_at c before) (t + 1) (map (λ v. import_at c v before) (range_with_len (t + 1) n)) in
      subst (Ended head c at) (sym (turn_more at es more p)) (sent_from before n (t + 1) (with_turn at es p) (sent_to before t p s))

  all_sent : Keeps head c stamp (Ended head c at) (Ended head c at) (λ k. sends_all (limits_of head) k.who 0 k.imports)
  all_sent p e covered =
      sent_from p (head.osts + 1) 0 p (record {
        ended = e;
        life = refl;
        known = λ u. refl;
        standing = λ u. refl;
        last = λ u above. refl;
        flights = λ u above. refl;
        queue = λ u above. refl;
      })

  -- ---- what the client knows of a target that there is

  -- of the metadata target: what the lines about it say
  first_import_is : (p : List Line) (n : ℕ) → n ≡ suc head.osts → import_of 0 (map (λ t. import_at c t p) (range_with_len 0 n))
      ≡ import_at c 0 p
  first_import_is p zero e = absurd (cc)
  first_import_is p (suc n) e = refl

  pub import_zero : (p : List Line) → import_of 0 (client_of head c p).imports ≡ import_at c 0 p
  import_zero p = first_import_is p (head.osts + 1) (add-one head.osts)

  -- and of each
  import_from : (p : List Line) (n from t : ℕ) → t < n → import_of t (map (λ u. import_at c u p) (range_with_len from n))
      ≡ import_at c (from + t) p
  import_from p zero from t lt = absurd (omega (arith, lt))
  import_from p (suc n) from zero lt = ap (λ (u : ℕ). import_at c u p) (let e : from ≡ from + 0 = omega arith in e)
  import_from p (suc n) from (suc t) lt = import_from p n (from + 1) t (omega (arith, lt))
      ∙ ap (λ (u : ℕ). import_at c u p) (let e : from + 1 + t ≡ from + suc t = omega arith in e)

  pub import_there : (p : List Line) (t : ℕ) → t ≤ head.osts → import_of t (client_of head c p).imports ≡ import_at c t p
  import_there p t le = import_from p (head.osts + 1) 0 t (omega (arith, le))
      ∙ ap (λ (u : ℕ). import_at c u p) (let e : 0 + t ≡ t = omega arith in e)

  -- ---- unused locks are marked

  -- one that isn't pinned may be marked, and one that is just called back
  pub mark_good : (p : List Line) (n : LockName) → Rested head c at p → EntryOk p at (Client c) (Marks n)
      → Rested head c at (line at (Marks n) ∷ p)
  mark_good p n r ok =
      record {
        good = adds head c stamp p (Marks n) r.good (owes_nothing p at (Marks n) r.settled) ok (λ t e. tt) tt refl;
        settled = tt;
        idle = r.idle;
        handles = r.handles;
      }

  -- these are marked one after another
  marks_good : (hs : List HeldLock) (p : List Line) → Rested head c at p
      → ((h : HeldLock) → In h hs → (x : HeldLock) → In x (held_at c p) → is_named (name_of h) x ≡ true → x.pins ≡ 0)
      → Rested head c at (with_turn at (marks_of hs) p)
  marks_good [] p r free = r
  marks_good (h ∷ hs) p r free = marks_good hs p1 (mark_good p (name_of h) r (inl (free h (inl refl)))) next
    where
      p1 : List Line
      p1 = line at (Marks (name_of h)) ∷ p

      same : (g x : HeldLock) (b : Bool) → (is_named (name_of g) x ≡ true → x.pins ≡ 0)
          → is_named (name_of g) (if b then after change.Mark x else x) ≡ true → (if b then after change.Mark x else x).pins ≡ 0
      same g x true f e = f e
      same g x false f e = f e

      next : (g : HeldLock) → In g hs → (x : HeldLock) → In x (held_at c p1) → is_named (name_of g) x ≡ true → x.pins ≡ 0
      next g i x j =
          let q = changed_only (name_of h) change.Mark x (held_at c p)
          (subst (λ (hs : List HeldLock). In x hs) (held_line head c stamp p (Marks (name_of h))) j) in
          subst (λ (y : HeldLock). is_named (name_of g) y ≡ true → y.pins ≡ 0) q.2
          (same g q.0 (is_named (name_of h) q.0) (free g (inr i) q.0 q.1))

  -- one of the name of a free one is that one
  free_named : (p : List Line) (h x : HeldLock) → Rested head c at p → In h (held_at c p) → h.pins ≡ 0 → In x (held_at c p)
      → is_named (name_of h) x ≡ true → x.pins ≡ 0
  free_named p h x r i e j n = subst (λ (y : HeldLock). y.pins ≡ 0) (once_same (held_at c p) h x (held_once few c p r.good.grown) i j n) e

  trimmed : Keeps head c stamp (Rested head c at) (Rested head c at) (trims (limits_of head))
  trimmed p r covered =
      let held = held_at c p in
      marks_good (reverse (drop head.unused (filter is_free held))) p r
      (λ h i x j n.
      let k = in_filter is_free h held (in_drop head.unused h (filter is_free held)
      (in_reverse h (drop head.unused (filter is_free held)) i)) in
      free_named p h x r k.0 (eqb-true h.pins 0 (and_parts (nat_eq h.pins 0) (not h.marked) k.1).0) j n)

  -- ---- changes are written back

  -- a lock on a range is on an object of an object storage target
  range_object : (p : List Line) (h : HeldLock) → Grown few p → In h (held_at c p) → HasRange h.lock.ask.policy → 0 < h.target.0
  range_object p h g i range =
      ⊎_elim {C = 0 < h.target.0} (λ k. absurd (bits_range h.lock.ask.policy k.1.1 range)) (λ k. k.0)
      (held_kind few h.target.0 p g c h (held_in c p h i))

  -- the next change under a held lock is taken, and queued for no call
  back_good : (p : List Line) (h : HeldLock) (change : Flush) → Rested head c at p → In h (held_at c p)
      → flush_under (patch_at h.lock.resource (patches_at c p)) h.lock.ask.mode h.lock.ask.policy ≡ Some change
      → in_flight (patch_at h.lock.resource (patches_at c p)) ≡ false
      → Rested head c at (with_turn at (writes_back h.target h.lock change) p)
  back_good p h change r i next alone =
      record {
        good = queued;
        settled = r.settled;
        idle = idle_same c p p2 (λ slot. call_line head c stamp slot p1 e2) refl (lasts_taken c stamp p h.lock.resource change) r.idle;
        handles = r.handles;
      }
    where
      e1 : Entry
      e1 = WritesBack h.lock.resource change

      e2 : Entry
      e2 = Queues h.target.0 (record { slot = None; op = operation h.lock.resource h.lock.cookie change })

      p1 : List Line
      p1 = line at e1 ∷ p

      p2 : List Line
      p2 = line at e2 ∷ p1

      writer : (h.lock.ask.mode ≡ PW) × HasRange h.lock.ask.policy
      writer = flush_writer (patch_at h.lock.resource (patches_at c p)) h.lock.ask.mode h.lock.ask.policy change next

      taken : Good head c at p1
      taken = adds head c stamp p e1 r.good (owes_nothing p at e1 r.settled)
          (record { holding = h; held = i; mode = writer.0; of_object = refl; next = next; alone = alone }) (λ t e. tt) tt refl

      queued : Good head c at p2
      queued =
          adds head c stamp p1 e2 taken (owes_nothing p1 at e2 r.settled)
          (inr (record {
            serves = refl;
            holding = h;
            held = i;
            of_target = refl;
            object = range_object p h r.good.grown i writer.1;
            mode = writer.0;
            change = change;
            takes = (refl, refl, next);
            of_op = refl;
          })) (λ t e. back_in_order h.lock.resource h.lock.cookie change) tt refl

  -- ---- the pass over the held locks

  abbrev given_up : Who → ℕ → HeldLock → List Entry
  given_up who boot x = Drop x.target.0 x.lock ∷ Send (Target x.target.0) (message.Cancel who boot x.lock.cookie) ∷ []

  -- these locks are held, and no other held one that isn't pinned is marked where its target serves, but one to write under
  record Visiting (rs : List HeldLock) (p : List Line) : Type 0 where
    rested : Rested head c at p
    held : (x : HeldLock) → In x rs → In x (held_at c p)
    marked : (x : HeldLock) → In x (held_at c p) → standing_at c x.target.0 p ≡ Serving → (is_called x ≡ false) ⊎ (x.lock.ask.mode ≡ PW)
        ⊎ In x rs

  module _ (over : Bool) (p : List Line) (r : HeldLock) (rs : List HeldLock) (once : Once (r ∷ rs)) (v : Visiting (r ∷ rs) p) where
    abbrev patch : Patch
    patch = patch_at r.lock.resource (patches_at c p)

    i : In r (held_at c p)
    i = v.held r (inl refl)

    visits_so : visits over r (client_of head c p)
        ≡ (if must_write over r r.lock.ask.mode r.lock.ask.policy patch then writes_under r patch
        else if is_called r && is_serving (standing_at c r.target.0 p) then given_up (life_at c p) (known_at c r.target.0 p) r else [])
    visits_so =
        ap (λ (j : Import). if must_write over r r.lock.ask.mode r.lock.ask.policy patch then writes_under r patch
        else gives_up (life_at c p) r j)
        (import_there p r.target.0 (held_limited head.osts few c p v.rested.good.grown v.rested.good.there r i))

    -- one that stays: it is one to write under, or isn't called back, or its target doesn't serve
    stays : ((x : HeldLock) → r ≡ x → standing_at c x.target.0 p ≡ Serving → (is_called x ≡ false) ⊎ (x.lock.ask.mode ≡ PW)) → Visiting rs p
    stays own =
        record {
          rested = v.rested;
          held = λ x j. v.held x (inr j);
          marked = λ x j q.
              ⊎_elim (λ (m : is_called x ≡ false). inl m)
              (λ (k : (x.lock.ask.mode ≡ PW) ⊎ In x (r ∷ rs)). ⊎_elim (λ (m : x.lock.ask.mode ≡ PW). inr (inl m))
              (λ (k : In x (r ∷ rs)). ⊎_elim (λ (s : r ≡ x). ⊎_elim (λ (m : is_called x ≡ false). inl m)
              (λ (m : x.lock.ask.mode ≡ PW). inr (inl m)) (own x s q)) (λ (k : In x rs). inr (inr k)) k) k)
              (v.marked x j q);
        }

    writer_stays : r.lock.ask.mode ≡ PW → Visiting rs p
    writer_stays m = stays (λ x s q. inr (subst (λ (y : HeldLock). y.lock.ask.mode ≡ PW) s m))

    -- it writes back
    writes : r.lock.ask.mode ≡ PW → Visiting rs (with_turn at (writes_under r patch) p)
    writes m = by (in_flight patch) refl (flush_under patch r.lock.ask.mode r.lock.ask.policy) refl
      where
        by : (b : Bool) → in_flight patch ≡ b → (o : Option Flush) → flush_under patch r.lock.ask.mode r.lock.ask.policy ≡ o
            → Visiting rs (with_turn at (if b then [] else writes_next r o) p)
        by true e o f = writer_stays m
        by false e None f = writer_stays m
        by false e (Some change) f = let w = writer_stays m in record
            { rested = back_good p r change v.rested i f e; held = w.held; marked = w.marked }

    -- or goes
    abbrev t : ℕ
    t = r.target.0

    abbrev name : LockName
    name = name_of r

    abbrev p1 : List Line
    p1 = line at (Drop t r.lock) ∷ p

    abbrev p2 : List Line
    p2 = line at (Send (Target t) (message.Cancel (life_at c p) (known_at c t p) r.lock.cookie)) ∷ p1

    left : held_at c p1 ≡ without name (held_at c p)
    left = held_line head c stamp p (Drop t r.lock)

    -- the one that goes is of that target's story
    story : only t p1 ≡ line at (Drop t r.lock) ∷ only t p
    story = ap (λ (b : Bool). if b then line at (Drop t r.lock) ∷ only t p else only t p) (self t)

    dropped : must_write over r r.lock.ask.mode r.lock.ask.policy patch ≡ false → standing_at c t p ≡ Serving → is_called r ≡ true
        → Good head c at p1
    dropped none serves called =
        let parts = and_parts r.marked (nat_eq r.pins 0) called in
        adds head c stamp p (Drop t r.lock) v.rested.good (owes_nothing p at (Drop t r.lock) v.rested.settled)
        (inl (record {
          holding = r;
          held = i;
          of_target = refl;
          is = refl;
          marked = parts.0;
          free = eqb-true r.pins 0 parts.1;
          serves =
              serves;
          clean = clean_under over r patch called none;
        }))
        (at_one head c stamp t (λ (u : ℕ). DropOk (only u p) c t r.lock) (record {
          holding = r;
          held = held_into c t p r refl i;
          of_target = refl;
          is = refl;
          there = λ h i. (held_back c t p h i).1;
        }))
        tt refl

    cancelled : Good head c at p1 → Good head c at p2
    cancelled g =
        let e = Send (Target t) (message.Cancel (life_at c p) (known_at c t p) r.lock.cookie) in
        adds head c stamp p1 e g (owes_nothing p1 at e tt) tt
        (at_one head c stamp t (λ (u : ℕ). CancelOk (only u p1) c t (life_at c p) (known_at c t p) r.lock.cookie) (record {
          of_life = life_is_of c t p1;
          of_boot = known_is c t p1;
          free = held_name c p1 name ∙ ap (is_held name) left ∙ without_gone name (held_at c p);
          cause = inl (subst (λ (q : List Line). Dropped q c t r.lock.cookie) (sym story) (refl, refl, refl));
          there = λ h i. (held_back c t p1 h i).1;
        }))
        tt refl

    goes : must_write over r r.lock.ask.mode r.lock.ask.policy patch ≡ false → standing_at c t p ≡ Serving → is_called r ≡ true
        → Visiting rs p2
    goes none serves e =
        record {
          rested = record {
            good = cancelled (dropped none serves e);
            settled = tt;
            idle = v.rested.idle;
            handles = v.rested.handles;
          };
          held = λ x i. subst (λ (hs : List HeldLock). In x hs) (sym left)
              (without_other name x (held_at c p) (v.held x (inr i)) (once.0 x i));
          marked = λ x i q.
              ⊎_elim (λ (m : is_called x ≡ false). inl m)
              (λ (k : (x.lock.ask.mode ≡ PW) ⊎ In x (r ∷ rs)). ⊎_elim (λ (m : x.lock.ask.mode ≡ PW). inr (inl m))
              (λ (j : In x (r ∷ rs)). ⊎_elim (λ (s : r ≡ x). absurd (other x i s)) (λ (k : In x rs). inr (inr k)) j) k)
              (v.marked x (was x i).0 q);
        }
      where
        was : (x : HeldLock) → In x (held_at c p1) → In x (held_at c p) × (is_named name x ≡ false)
        was x i = without_only name x (held_at c p) (subst (λ (hs : List HeldLock). In x hs) left i)

        other : (x : HeldLock) → In x (held_at c p1) → r ≡ x → ⊥
        other x i s = let q : true ≡ false = sym (own_name name) ∙ ap (is_named name) s ∙ (was x i).1 in cc

    gone_or : must_write over r r.lock.ask.mode r.lock.ask.policy patch ≡ false
        → Visiting rs (with_turn at (if is_called r && is_serving (standing_at c r.target.0 p)
        then given_up (life_at c p) (known_at c r.target.0 p) r else []) p)
    gone_or none = by (is_called r) refl (standing_at c r.target.0 p) refl
      where
        not_called : is_called r ≡ false → Visiting rs p
        not_called e = stays (λ x s q. inl (subst (λ (y : HeldLock). is_called y ≡ false) s e))

        not_served : (standing_at c r.target.0 p ≡ Serving → ⊥) → Visiting rs p
        not_served n = stays (λ x s q. absurd (n (ap (λ (y : HeldLock). standing_at c y.target.0 p) s ∙ q)))

        by : (b : Bool) → is_called r ≡ b → (x : Standing) → standing_at c r.target.0 p ≡ x
            → Visiting rs (with_turn at (if b && is_serving x then given_up (life_at c p) (known_at c r.target.0 p) r else []) p)
        by false e x q = not_called e
        by true e Serving q = goes none q e
        by true e Joining q = not_served (λ k. let j : Joining ≡ Serving = sym q ∙ k in absurd (cc))
        by true e Recovering q = not_served (λ k. let j : Recovering ≡ Serving = sym q ∙ k in absurd (cc))

    visited : Visiting rs (with_turn at (visits over r (client_of head c p)) p)
    visited = subst (λ (es : List Entry). Visiting rs (with_turn at es p)) (sym visits_so)
        (by (must_write over r r.lock.ask.mode r.lock.ask.policy patch) refl)
      where
        by : (b : Bool) → must_write over r r.lock.ask.mode r.lock.ask.policy patch ≡ b
            → Visiting rs (with_turn at (if b then writes_under r patch else if is_called r && is_serving (standing_at c r.target.0 p)
            then given_up (life_at c p) (known_at c r.target.0 p) r else []) p)
        by true e = writes (must_writer over r r.lock.ask.mode r.lock.ask.policy patch e)
        by false e = gone_or e

  not_called : (marked : Bool) (pins : ℕ) → pins ≡ 0 → (marked && nat_eq pins 0) ≡ false → marked ≡ false
  not_called false pins free e = refl
  not_called true pins free e = absurd (let z : nat_eq pins 0 ≡ true = ap (λ (n : ℕ). nat_eq n 0) free in cc)

  visits_good : (over : Bool) (rs : List HeldLock) → Once rs → (p : List Line) → Visiting rs p
      → Ended head c at (with_turn at (visits_all over rs (client_of head c p)) p)
  visits_good over [] once p v =
      record {
        good = v.rested.good;
        settled = v.rested.settled;
        between = record {
          idle = v.rested.idle;
          handles = v.rested.handles;
          calm = λ x i s free other.
              ⊎_elim (λ (m : is_called x ≡ false). not_called x.marked x.pins free m)
              (λ (k : (x.lock.ask.mode ≡ PW) ⊎ ⊥). ⊎_elim (λ (m : x.lock.ask.mode ≡ PW). absurd (other m)) (λ (n : ⊥). absurd n) k)
              (v.marked x i s);
        };
      }
  visits_good over (r ∷ rs) once p v =
      let es = visits over r (client_of head c p) in
      subst (λ (q : List Line). Ended head c at q) (sym (followed head c stamp es (visits_all over rs) p))
      (visits_good over rs once.1 (with_turn at es p) (visited over p r rs once v))

  locks_gone : Keeps head c stamp (Rested head c at) (Ended head c at) (locks_go (limits_of head))
  locks_gone p r covered =
      let held = held_at c p in
      visits_good (nat_lt head.dirty (dirty_total (patches_at c p))) (in_order held) (once_ordered held (held_once few c p r.good.grown)) p
      (record { rested = r; held = λ x i. in_ordered x held i; marked = λ x i s. inr (inr (ordered_in x held i)) })

  -- ---- all of it, once the calls have gone as far as they can

  pub ended : Keeps head c stamp (Rested head c at) (Ended head c at)
      (λ k. follow (trims (limits_of head) k) (λ k. follow (locks_go (limits_of head) k) (λ k. sends_all (limits_of head) k.who 0 k.imports)
      k) k)
  ended =
      keeps_more head c stamp (Rested head c at) (Rested head c at) (Ended head c at) (trims (limits_of head))
      (λ k. follow (locks_go (limits_of head) k) (λ k. sends_all (limits_of head) k.who 0 k.imports) k) trimmed
      (keeps_more head c stamp (Rested head c at) (Ended head c at) (Ended head c at) (locks_go (limits_of head))
      (λ k. sends_all (limits_of head) k.who 0 k.imports) locks_gone all_sent)
