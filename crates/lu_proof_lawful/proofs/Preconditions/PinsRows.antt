-- A client's pins over the rows of its calls: each call goes as far as it can, pins what it uses, each lock once, and stands with that, or
-- unpins it as it is told.
use Rattle.std.proofs.Common.{◌≡◌, ℕ, zero, suc, ◌+◌, ◌-◌, ◌<◌, ◌≤◌, Bool, true, false, List, [], ◌∷◌, ◌++◌, ◌⊎◌, inl, inr, ⊎_elim, Option}
use Rattle.std.proofs.Common.{Some, None, refl, sym, subst, ap, ◌∙◌, arith}
use Rattle.std.specs.Prelude.{nat_eq, nat_lt, ◌&&◌, not, min, if◌then◌else◌, length}
use Rattle.std.specs.List.{range_with_len}
use Rattle.std.proofs.lemmas.Bool.{and_parts, eqb-true}
use Rattle.std.proofs.lemmas.Bool.Decides.{nat_tests}
use Rattle.lu_base.specs.declared.ids.At.{At}
use Rattle.lu_base.specs.declared.ids.Cookie.{Cookie}
use Rattle.lu_base.specs.declared.ids.Fid.{Fid}
use Rattle.lu_base.specs.declared.ids.Node.TheVariants.{Client}
use Rattle.lu_base.specs.declared.ids.Stamp.{Stamp}
use Rattle.lu_base.specs.declared.locks.Lock.{Lock}
use Rattle.lu_base.specs.declared.locks.Mode.{Mode}
use Rattle.lu_base.specs.declared.locks.Resource.{Resource}
use Rattle.lu_layout.specs.Raid0.{Raid0}
use Rattle.lu_msg.specs.declared.answers.Answer.{Answer}
use Rattle.lu_msg.specs.declared.answers.Answer.TheVariants as answer
use Rattle.lu_held.specs.declared.locks.Change.TheVariants as change
use Rattle.lu_held.specs.declared.locks.HeldLock.{HeldLock}
use Rattle.lu_held.specs.declared.locks.Use.{Use}
use Rattle.lu_held.specs.declared.names.LockName.{LockName}
use Rattle.lu_held.specs.Names.{same_name}
use Rattle.lu_held.specs.Locks.{named, name_of, is_named}
use Rattle.lu_held.specs.Held.{serving, changed}
use Rattle.lu_spec_entries.specs.declared.changes.Flush.TheVariants.{Cut, Put}
use Rattle.lu_spec_entries.specs.declared.uses.Using.{Using}
use Rattle.lu_spec_entries.specs.Carried.{Kind, Narrow, Wide, Writes, Cuts, Stats, Glimpses, Work, Enqueued, Gets, Running}
use Rattle.lu_spec_entries.specs.Words.{Entry, Stands, Pins, Changes, Shows, Line, line, with_turn}
use Rattle.lu_spec_client.specs.Advances.{at_stage, pinned, unpins, tells, name_under, using, Next, takes_up, looks_on, looks, comes, gets}
use Rattle.lu_spec_client.specs.Advances.{widened, widens, reads_wide, reads_narrow, writes, cuts, acts}
use Rattle.lu_spec_client.specs.Caches.{held_after, held_at}
use Rattle.lu_spec_client.specs.Known as known
use Rattle.lu_spec_client.specs.Known.{Known, with_name, names_of}
use Rattle.lu_spec_client.specs.Looks.{Page, missing, content, file_size, has_reached}
use Rattle.lu_spec_client.specs.Starts.{looks_at, comes_at, work_on, pins, with_pins, tells_known, stats}
use Rattle.lu_spec_client.specs.States.{Store, store_after, store_turn}
use Rattle.lu_spec_client.specs.Stripes.{below_on, bytes_on, stripes, object}
use Rattle.lu_spec_client.specs.Wants.{want, wants_run, wants_rest, wants_cut, wants_of}
use Rattle.lu_spec_run.specs.Heads as table
use Rattle.lu_proof_lawful.proofs.Preconditions.Guards.{In}
use Rattle.lu_proof_lawful.proofs.Preconditions.Lists.{self, in_append, turn, turn_more}
use Rattle.lu_proof_lawful.proofs.Preconditions.Covers.{EntriesCovered}
use Rattle.lu_proof_lawful.proofs.Preconditions.ClientLocks.{names_same, own_name, Once, any_true}
use Rattle.lu_proof_lawful.proofs.Preconditions.ClientLines.{once_same}
use Rattle.lu_proof_lawful.proofs.Preconditions.ClientLooks.{serving_is, serves_so}
use Rattle.lu_proof_lawful.proofs.Preconditions.ClientRests.{held_line}
use Rattle.lu_proof_lawful.proofs.Preconditions.ClientKnown.{AllUsable, names_in}
use Rattle.lu_proof_lawful.proofs.Preconditions.ClientCalls.{covered_right}
use Rattle.lu_proof_lawful.proofs.Preconditions.PinsCount.{one_if, count_of, AllNamed, count_more, not_counted, Into, into_names}
use Rattle.lu_proof_lawful.proofs.Preconditions.PinsCount.{same_names, changed_from, changed_into, Room, Distinct, CameOk, room_from}
use Rattle.lu_proof_lawful.proofs.Preconditions.PinsSteps.{Fit, Mid, fit_queues, mid_pin, mid_unpins, mid_stands, mid_quiet, tells_fit}

-- ---- names of locks on names, each once

abbrev Rise : List LockName → Type 0
Rise [] = Unit {0}
Rise (n ∷ names) = ((m : LockName) → In m names → n.cookie.0 < m.cookie.0) × Rise names

with_in : (k : Cookie) (names : List LockName) (n : LockName) → In n (with_name k names) → (known.name_of k ≡ n) ⊎ In n names
with_in k [] n i = i
with_in k (m ∷ names) n i = by (nat_lt m.cookie.0 k.0) (nat_eq m.cookie.0 k.0) i (with_in k names n)
  where
    by : (below same : Bool) → In n (if below then m ∷ with_name k names else (if same then m ∷ names else known.name_of k ∷ m ∷ names))
        → (In n (with_name k names) → (known.name_of k ≡ n) ⊎ In n names)
        → (known.name_of k ≡ n) ⊎ In n (m ∷ names)
    by true same (inl e) more = inr (inl e)
    by true same (inr j) more = ⊎_elim (λ (e : known.name_of k ≡ n). inl e) (λ (i : In n names). inr (inr i)) (more j)
    by false true j more = inr j
    by false false j more = j

rise_with : (k : Cookie) (names : List LockName) → Rise names → Rise (with_name k names)
rise_with k [] r = (λ m i. absurd i, tt)
rise_with k (n ∷ names) r = by (nat_lt n.cookie.0 k.0) (nat_eq n.cookie.0 k.0) refl refl (rise_with k names r.1)
  where
    above : (a b : ℕ) → nat_lt a b ≡ true → a < b
    above a b e = grind (arith, nat_tests, e)

    under : (a b : ℕ) → nat_lt a b ≡ false → nat_eq a b ≡ false → b < a
    under a b e f = grind (arith, nat_tests, e, f)

    by : (b s : Bool) → nat_lt n.cookie.0 k.0 ≡ b → nat_eq n.cookie.0 k.0 ≡ s → Rise (with_name k names)
        → Rise (if b then n ∷ with_name k names else (if s then n ∷ names else known.name_of k ∷ n ∷ names))
    by true s e q ih = (
      λ m i. ⊎_elim (λ (q : known.name_of k ≡ m). subst (λ (x : LockName). n.cookie.0 < x.cookie.0) q
          (above n.cookie.0 k.0 e)) (λ (j : In m names). r.0 m j) (with_in k names m i),
      ih,
    )
    by false true e q ih = r
    by false false e q ih = (λ m i. low m i, r)
      where
        low : (m : LockName) → In m (n ∷ names) → k.0 < m.cookie.0
        low m (inl same) = subst (λ (x : LockName). k.0 < x.cookie.0) same (under n.cookie.0 k.0 e q)
        low m (inr j) = let a = under n.cookie.0 k.0 e q in let b = r.0 m j in omega (arith, a, b)

rise_names : (cookies : List Cookie) → Rise (names_of cookies)
rise_names [] = tt
rise_names (k ∷ cookies) = rise_with k (names_of cookies) (rise_names cookies)

-- each of them comes anew
abbrev Fresh : List LockName → List LockName → Type 0
Fresh before [] = Unit {0}
Fresh before (n ∷ names) = (count_of n before ≡ 0) × Fresh (before ++ n ∷ []) names

fresh_rise : (before names : List LockName) → Rise names → ((m k : LockName) → In m before → In k names → m.cookie.0 < k.cookie.0)
    → Fresh before names
fresh_rise before [] r below = tt
fresh_rise before (n ∷ names) r below = (
  not_counted n before (λ i. let q = below n n i (inl refl) in absurd (omega (arith, q))),
  fresh_rise (before ++ n ∷ []) names r.1 (λ m k i j. ⊎_elim (λ (i : In m before). below m k i (inr j)) (λ (i : In m (n ∷ [])). one m k i j)
      (in_append m before (n ∷ []) i)),
)
  where
    one : (m k : LockName) → In m (n ∷ []) → In k names → m.cookie.0 < k.cookie.0
    one m k (inl e) j = subst (λ (x : LockName). x.cookie.0 < k.cookie.0) e (r.0 k j)
    one m k (inr i) j = absurd i

fresh_names : (names : List LockName) → Rise names → Fresh [] names
fresh_names names r = fresh_rise [] names r (λ m k i j. absurd i)

zero_in : (cookies : List Cookie) (n : LockName) → In n (names_of cookies) → n.target.0 ≡ 0
zero_in cookies n i = let r = names_in cookies n i in ap (λ (m : LockName). m.target.0) (sym r.2)

usable_named : (held : List HeldLock) (cookies : List Cookie) → AllUsable held cookies → AllNamed (names_of cookies) held
usable_named held cookies usable n i = (h, one.1, named_so)
  where
    from : (k : Cookie) × In k cookies × (known.name_of k ≡ n)
    from = names_in cookies n i

    one : (h : HeldLock) × In h held × ((nat_eq h.target.0 0 && nat_eq h.lock.cookie.0 from.0.0 && not h.marked) ≡ true)
    one = any_true (λ (h : HeldLock). nat_eq h.target.0 0 && nat_eq h.lock.cookie.0 from.0.0 && not h.marked) held (usable from.0 from.1)

    h : HeldLock
    h = one.0

    both : (nat_eq h.target.0 0 ≡ true) × (nat_eq h.lock.cookie.0 from.0.0 ≡ true)
    both = and_parts (nat_eq h.target.0 0) (nat_eq h.lock.cookie.0 from.0.0)
        (and_parts (nat_eq h.target.0 0 && nat_eq h.lock.cookie.0 from.0.0) (not h.marked) one.2).0

    named_so : is_named n h ≡ true
    named_so =
        ap (λ (m : LockName). is_named m h) (sym from.2)
        ∙ ap (λ (t : ℕ). nat_eq 0 t && nat_eq from.0.0 h.lock.cookie.0) (eqb-true h.target.0 0 both.0)
        ∙ ap (λ (x : ℕ). nat_eq from.0.0 x) (eqb-true h.lock.cookie.0 from.0.0 both.1) ∙ self from.0.0

-- ---- what a call wants of objects: of each once

range_low : (from n j : ℕ) → In j (range_with_len from n) → from ≤ j
range_low from zero j i = absurd i
range_low from (suc n) j (inl e) = omega (arith, e)
range_low from (suc n) j (inr i) = let low = range_low (from + 1) n j i in omega (arith, low)

run_stripe : (l : Raid0) (fid : Fid) (mode : Mode) (p end : ℕ) (is : List ℕ) (y : Use) → In y (wants_run l fid mode p end is)
    → In y.resource.stripe is
run_stripe l fid mode p end [] y i = absurd i
run_stripe l fid mode p end (s ∷ is) y i = by (nat_lt (below_on l s p) (below_on l s end)) i (run_stripe l fid mode p end is y)
  where
    by : (b : Bool) → In y (if b then want l fid mode s (record { first = below_on l s p; last = below_on l s end - 1 })
        ∷ wants_run l fid mode p end is else wants_run l fid mode p end is)
        → (In y (wants_run l fid mode p end is) → In y.resource.stripe is) → In y.resource.stripe (s ∷ is)
    by true (inl e) more = inl (ap (λ (x : Use). x.resource.stripe) e)
    by true (inr j) more = inr (more j)
    by false j more = inr (more j)

rest_stripe : (l : Raid0) (fid : Fid) (p : ℕ) (is : List ℕ) (y : Use) → In y (wants_rest l fid p is) → In y.resource.stripe is
rest_stripe l fid p [] y i = absurd i
rest_stripe l fid p (s ∷ is) y (inl e) = inl (ap (λ (x : Use). x.resource.stripe) e)
rest_stripe l fid p (s ∷ is) y (inr i) = inr (rest_stripe l fid p is y i)

cut_stripe : (l : Raid0) (fid : Fid) (n : ℕ) (is : List ℕ) (y : Use) → In y (wants_cut l fid n is) → In y.resource.stripe is
cut_stripe l fid n [] y i = absurd i
cut_stripe l fid n (s ∷ is) y (inl e) = inl (ap (λ (x : Use). x.resource.stripe) e)
cut_stripe l fid n (s ∷ is) y (inr i) = inr (cut_stripe l fid n is y i)

-- those on later stripes are on other objects
later_apart : (fid : Fid) (from n : ℕ) (y : Use) → In y.resource.stripe (range_with_len (from + 1) n) → object fid from ≡ y.resource → ⊥
later_apart fid from n y i e = let low = range_low (from + 1) n y.resource.stripe i in let same : from ≡ y.resource.stripe =
    ap (λ (r : Resource). r.stripe) e in absurd (omega (arith, low, same))

distinct_run : (l : Raid0) (fid : Fid) (mode : Mode) (p end from n : ℕ) → Distinct (wants_run l fid mode p end (range_with_len from n))
distinct_run l fid mode p end from zero = tt
distinct_run l fid mode p end from (suc n) = by (nat_lt (below_on l from p) (below_on l from end))
    (distinct_run l fid mode p end (from + 1) n)
  where
    more : List Use
    more = wants_run l fid mode p end (range_with_len (from + 1) n)

    by : (b : Bool) → Distinct more → Distinct (if b then want l fid mode from
        (record { first = below_on l from p; last = below_on l from end - 1 }) ∷ more else more)
    by true d = (tt, λ y i e. later_apart fid from n y (run_stripe l fid mode p end (range_with_len (from + 1) n) y i) e, d)
    by false d = d

distinct_rest : (l : Raid0) (fid : Fid) (p from n : ℕ) → Distinct (wants_rest l fid p (range_with_len from n))
distinct_rest l fid p from zero = tt
distinct_rest l fid p from (suc n) = (
  tt,
  λ y i e. later_apart fid from n y (rest_stripe l fid p (range_with_len (from + 1) n) y i) e,
  distinct_rest l fid p (from + 1) n,
)

distinct_cut : (l : Raid0) (fid : Fid) (k from n : ℕ) → Distinct (wants_cut l fid k (range_with_len from n))
distinct_cut l fid k from zero = tt
distinct_cut l fid k from (suc n) = (
  tt,
  λ y i e. later_apart fid from n y (cut_stripe l fid k (range_with_len (from + 1) n) y i) e,
  distinct_cut l fid k (from + 1) n,
)

pub distinct_wants : (l : Raid0) (fid : Fid) (kind : Kind) → Distinct (wants_of l fid kind)
distinct_wants l fid (Narrow p n) = distinct_run l fid _ p (p + n) 0 (length l.targets)
distinct_wants l fid (Wide p n) = distinct_rest l fid p 0 (length l.targets)
distinct_wants l fid (Writes p bs) = distinct_run l fid _ p (p + length bs) 0 (length l.targets)
distinct_wants l fid (Cuts n) = distinct_cut l fid n 0 (length l.targets)
distinct_wants l fid (Stats mode links) = distinct_rest l fid 0 0 (length l.targets)
distinct_wants l fid (Glimpses sizes) = distinct_rest l fid 0 0 (length l.targets)

abbrev pub IsWork : Kind → Type 0
IsWork (Glimpses sizes) = ⊥
IsWork _ = Unit {0}

module _ (head : table.Head) (c : ℕ) (stamp : Stamp) where
  abbrev at : At
  at = turn stamp (Client c)

  abbrev pub Going : List Entry → List Line → Type 0
  Going es p = EntriesCovered es → Fit c (with_turn at es p)

  -- ---- the locks that the rows read are those that are held

  held_now : (s : Store) (e : Entry) (p : List Line) → s.held ≡ held_at c p → (store_after s e).held ≡ held_at c (line at e ∷ p)
  held_now s e p same = ap (λ (hs : List HeldLock). held_after hs e) same ∙ sym (held_line head c stamp p e)

  held_turn : (es : List Entry) (s : Store) (p : List Line) → s.held ≡ held_at c p → (store_turn s es).held ≡ held_at c (with_turn at es p)
  held_turn [] s p same = same
  held_turn (e ∷ es) s p same = held_turn es (store_after s e) (line at e ∷ p) (held_now s e p same)

  -- ---- a lock is used

  -- once nothing is left to be locked
  abbrev NextFit : ℕ → Next → Type 0
  NextFit slot next = (r : Running) (w : Work) (s : Store) (p : List Line) → w.left ≡ [] → s.held ≡ held_at c p → Mid c slot r.pins p
      → Going (next r w s) p

  -- it lies on none of the others
  pinned_room : (p : List Line) (names left : _) (n : LockName) (h : HeldLock) (wanted : Use) → Once (held_at c p)
      → Room (held_at c p) names left → In h (held_at c p) → name_of h ≡ n → h.lock.resource ≡ wanted.resource
      → ((y : Use) → In y left → wanted.resource ≡ y.resource → ⊥) → Room (held_at c (line at (Pins n) ∷ p)) (names ++ n ∷ []) left
  pinned_room p names left n h wanted once room i name object apart =
      subst (λ (gs : List HeldLock). Room gs (names ++ n ∷ []) left) (sym (held_line head c stamp p (Pins n))) now
    where
      hs : List HeldLock
      hs = held_at c p

      now : Room (changed n change.Pin hs) (names ++ n ∷ []) left
      now g j x k l = by (same_name (name_of g) n) refl
        where
          from : (q : HeldLock) × In q hs × (q.target ≡ g.target) × (q.lock ≡ g.lock)
          from = changed_from n change.Pin hs g j

          old : count_of (name_of g) names ≡ 0
          old = room_from (changed n change.Pin hs) hs (changed_from n change.Pin hs) names left room g j x k l

          by : (b : Bool) → same_name (name_of g) n ≡ b → count_of (name_of g) (names ++ n ∷ []) ≡ 0
          by false e = let more = count_more (name_of g) n names in let none : one_if (same_name (name_of g) n) ≡ 0 = ap one_if e
              in omega (arith, more, none, old)
          by true e =
              let named_so : is_named (name_of h) from.0 ≡ true =
              ap (λ (m : LockName). is_named m from.0) (name ∙ sym (names_same (name_of g) n e)
              ∙ sym (same_names from.0 g from.2 from.3)) ∙ own_name (name_of from.0) in
              let one : h ≡ from.0 = once_same hs h from.0 once i from.1 named_so in
              absurd (apart x k (sym object ∙ ap (λ (y : HeldLock). y.lock.resource) one ∙ ap (λ (y : Lock). y.resource) from.3 ∙ l.1))

  takes_fit : (slot : ℕ) (next : Next) (wanted : Use) (l : Lock) (left : List Use) (r : Running) (w : Work) (s : Store) (p : List Line)
      → s.held ≡ held_at c p → Mid c slot r.pins p
      → (h : HeldLock) → In h (held_at c p) → h.target.0 ≡ wanted.target.0 → h.lock ≡ l → l.resource ≡ wanted.resource
      → count_of (name_under wanted l) r.pins ≡ 0 → Room (held_at c p) r.pins left
      → ((y : Use) → In y left → wanted.resource ≡ y.resource → ⊥)
      → ((r : Running) (w : Work) (s : Store) (p : List Line) → w.left ≡ left → s.held ≡ held_at c p → Mid c slot r.pins p
      → Room (held_at c p) r.pins left → Going (next r w s) p)
      → Going (takes_up slot wanted l left next r w s) p
  takes_fit slot next wanted l left r w s p same k h i target lock object none room apart more covered =
      more (pinned name r) (using wanted l left w) (store_after s (Pins name)) (line at (Pins name) ∷ p) refl
      (held_now s (Pins name) p same)
      (mid_pin head c stamp slot r.pins name p k (h, i, ap (λ (m : LockName). is_named m h) (sym so) ∙ own_name (name_of h)) none)
      (pinned_room p r.pins left name h wanted k.once room i so (ap (λ (x : Lock). x.resource) lock ∙ object) apart)
      covered.1
    where
      name : LockName
      name = name_under wanted l

      so : name_of h ≡ name
      so = ap (λ (t : ℕ). named (record { 0 = t }) h.lock.cookie) target ∙ ap (λ (x : Lock). named wanted.target x.cookie) lock

  looks_fit : (slot : ℕ) (next : Next) → NextFit slot next → (left : List Use) → Distinct left
      → (r : Running) (w : Work) (s : Store) (p : List Line) → w.left ≡ left → s.held ≡ held_at c p → Mid c slot r.pins p
      → Room (held_at c p) r.pins left → Going (looks slot next left r w s) p
  looks_fit slot next ends [] d r w s p none same k room = ends r w s p none same k
  looks_fit slot next ends (wanted ∷ left) d r w s p first same k room =
      by (serving wanted s.held) refl (λ r w s p e same k room. looks_fit slot next ends left d.2 r w s p e same k room)
    where
      by : (o : Option HeldLock) → serving wanted s.held ≡ o
          → ((r : Running) (w : Work) (s : Store) (p : List Line) → w.left ≡ left → s.held ≡ held_at c p → Mid c slot r.pins p
          → Room (held_at c p) r.pins left → Going (looks slot next left r w s) p)
          → Going (looks_on slot (λ h. takes_up slot wanted h.lock left (looks slot next left) r w s) wanted left r w o) p
      by None e more = λ covered.
          let now = at_stage r (Enqueued (record w { left = wanted ∷ left })) in
          fit_queues head c stamp (line at (Stands slot now) ∷ p) _ _ (mid_stands head c stamp slot r.pins now p k refl (d, room))
      by (Some h) e more =
          let found = serving_is wanted s.held h e in
          let held : In h (held_at c p) = subst (λ (hs : List HeldLock). In h hs) same found.0 in
          let serves = serves_so wanted h d.0 found.1 in
          takes_fit slot (looks slot next left) wanted h.lock left r w s p same k h held serves.of_target refl serves.of_object
          (ap (λ (t : ℕ). count_of (named (record { 0 = t }) h.lock.cookie) r.pins) (sym serves.of_target)
          ∙ room h held wanted (inl refl) (serves.of_target, serves.of_object, serves.ranged))
          (λ g i x j l. room g i x (inr j) l) d.1 more

  -- ---- all are in use

  gets_fit : (slot : ℕ) (g : Page) (r : Running) (w : Work) (q : List Line) → w.left ≡ [] → Mid c slot r.pins q → Going (gets slot g r w) q
  gets_fit slot g r w q none k covered =
      fit_queues head c stamp (line at (Stands slot (at_stage r (Gets w))) ∷ q) _ _
      (mid_stands head c stamp slot r.pins (at_stage r (Gets w)) q k refl
      (subst (λ (left : List Use). Distinct left × Room (held_at c q) r.pins left) (sym none) (tt, λ h i x j l. absurd j)))

  page_or : (slot : ℕ) (r : Running) (w : Work) (a : Answer) (q : List Line) → w.left ≡ [] → Mid c slot r.pins q → (o : Option Page)
      → Going (elim o [ Some g ↦ gets slot g r w | None ↦ tells slot r at a (Some w) ]) q
  page_or slot r w a q none k (Some g) = gets_fit slot g r w q none k
  page_or slot r w a q none k None = λ covered. tells_fit head c stamp slot r at a (Some w) q k

  wide_fit : (slot p n : ℕ) → NextFit slot (reads_wide at slot p n)
  wide_fit slot p n r w s q none same k =
      page_or slot r w (answer.Content (content w.layout w.fid s p (min n (file_size w.layout (stripes w.layout) w.used s - p)))) q none k
      (missing w.layout p (p + n) s w.used)

  widens_fit : (slot p n : ℕ) → NextFit slot (widens at slot p n)
  widens_fit slot p n r w s q none same k covered =
      let wide = widened p n w in
      let r0 = record r { pins = [] } in
      let q1 = with_turn at (unpins r.pins) q in
      let s1 = store_turn s (unpins r.pins) in
      let es = looks slot (reads_wide at slot p n) wide.left r0 wide s1 in
      subst (Fit c) (sym (turn_more at (unpins r.pins) es q))
      (looks_fit slot (reads_wide at slot p n) (wide_fit slot p n) wide.left (distinct_wants w.layout w.fid (Wide p n)) r0 wide s1 q1 refl
      (held_turn (unpins r.pins) s q same) (mid_unpins head c stamp slot r.pins q k)
      (λ h i x j l. refl) (covered_right (unpins r.pins) es covered))

  narrow_fit : (slot p n : ℕ) → NextFit slot (reads_narrow at slot p n)
  narrow_fit slot p n r w s q none same k = by (missing w.layout p (p + n) s w.used)
    where
      told : Answer
      told = answer.Content (content w.layout w.fid s p n)

      reach : (b : Bool) → Going (if b then tells slot r at told (Some w) else widens at slot p n r w s) q
      reach true covered = tells_fit head c stamp slot r at told (Some w) q k
      reach false covered = widens_fit slot p n r w s q none same k covered

      by : (o : Option Page) → Going (elim o [
        | Some g ↦ gets slot g r w
        | None ↦ if has_reached w.layout (p + n - 1) w.used s
            then tells slot r at told (Some w) else widens at slot p n r w s
      ]) q
      by (Some g) covered = gets_fit slot g r w q none k covered
      by None covered = reach (has_reached w.layout (p + n - 1) w.used s) covered

  -- changes leave the pins
  writes_mid : (slot : ℕ) (names : List LockName) (l : Raid0) (p : ℕ) (bs : List ℕ) (us : List Using) (q : List Line) → Mid c slot names q
      → Mid c slot names (with_turn at (writes l p bs us) q)
  writes_mid slot names l p bs [] q k = k
  writes_mid slot names l p bs (u ∷ us) q k =
      let first = below_on l u.want.resource.stripe p in
      let piece = bytes_on l u.want.resource.stripe p bs in
      let change = Changes u.want.resource (Put first piece) in
      let show = Shows u.want.resource u.lock.cookie (first + length piece - 1) in
      writes_mid slot names l p bs us (line at show ∷ line at change ∷ q)
      (mid_quiet head c stamp slot names (line at change ∷ q) show refl refl (mid_quiet head c stamp slot names q change refl refl k))

  cuts_mid : (slot : ℕ) (names : List LockName) (l : Raid0) (n : ℕ) (us : List Using) (q : List Line) → Mid c slot names q
      → Mid c slot names (with_turn at (cuts l n us) q)
  cuts_mid slot names l n [] q k = k
  cuts_mid slot names l n (u ∷ us) q k =
      let change = Changes u.want.resource (Cut (below_on l u.want.resource.stripe n)) in
      cuts_mid slot names l n us (line at change ∷ q) (mid_quiet head c stamp slot names q change refl refl k)

  writes_fit : (slot : ℕ) (l : Raid0) (p : ℕ) (bs : List ℕ) (us : List Using) (r : Running) (w : Work) (q : List Line) → Mid c slot r.pins q
      → Going (writes l p bs us ++ tells slot r at answer.Done (Some w)) q
  writes_fit slot l p bs us r w q k covered =
      subst (Fit c) (sym (turn_more at (writes l p bs us) (tells slot r at answer.Done (Some w)) q))
      (tells_fit head c stamp slot r at answer.Done (Some w) (with_turn at (writes l p bs us) q) (writes_mid slot r.pins l p bs us q k))

  cuts_fit : (slot : ℕ) (l : Raid0) (n : ℕ) (us : List Using) (r : Running) (w : Work) (q : List Line) → Mid c slot r.pins q
      → Going (cuts l n us ++ tells slot r at answer.Done (Some w)) q
  cuts_fit slot l n us r w q k covered =
      subst (Fit c) (sym (turn_more at (cuts l n us) (tells slot r at answer.Done (Some w)) q))
      (tells_fit head c stamp slot r at answer.Done (Some w) (with_turn at (cuts l n us) q) (cuts_mid slot r.pins l n us q k))

  acts_fit : (slot : ℕ) (kind : Kind) → IsWork kind → NextFit slot (acts at slot kind)
  acts_fit slot (Narrow p n) i r w s q none same k = narrow_fit slot p n r w s q none same k
  acts_fit slot (Wide p n) i r w s q none same k = wide_fit slot p n r w s q none same k
  acts_fit slot (Writes p bs) i r w s q none same k = writes_fit slot w.layout p bs w.used r w q k
  acts_fit slot (Cuts n) i r w s q none same k = cuts_fit slot w.layout n w.used r w q k
  acts_fit slot (Stats mode links) i r w s q none same k = λ covered. tells_fit head c stamp slot r at _ (Some w) q k
  acts_fit slot (Glimpses sizes) i r w s q none same k = absurd i

  pub looks_at_fit : (slot : ℕ) (kind : Kind) → IsWork kind → (r : Running) (w : Work) (s : Store) (p : List Line) → s.held ≡ held_at c p
      → Mid c slot r.pins p → Distinct w.left → Room (held_at c p) r.pins w.left
      → Going (looks_at at slot kind r w s) p
  looks_at_fit slot (Narrow o n) i r w s p same k d room = looks_fit slot (acts at slot (Narrow o n)) (acts_fit slot (Narrow o n) i) w.left
      d r w s p refl same k room
  looks_at_fit slot (Wide o n) i r w s p same k d room = looks_fit slot (acts at slot (Wide o n)) (acts_fit slot (Wide o n) i) w.left d r w
      s p refl same k room
  looks_at_fit slot (Writes o bs) i r w s p same k d room = looks_fit slot (acts at slot (Writes o bs)) (acts_fit slot (Writes o bs) i)
      w.left d r w s p refl same k room
  looks_at_fit slot (Cuts n) i r w s p same k d room = looks_fit slot (acts at slot (Cuts n)) (acts_fit slot (Cuts n) i) w.left d r w s p
      refl same k room
  looks_at_fit slot (Stats mode links) i r w s p same k d room =
      looks_fit slot (acts at slot (Stats mode links)) (acts_fit slot (Stats mode links) i) w.left d r w s p refl same k room
  looks_at_fit slot (Glimpses sizes) i r w s p same k d room = absurd i

  comes_fit : (slot : ℕ) (kind : Kind) → IsWork kind → (l : Lock) (left : List Use) (r : Running) (w : Work) (s : Store) (p : List Line)
      → s.held ≡ held_at c p → Fit c p → Mid c slot r.pins p → Distinct left
      → Room (held_at c p) r.pins left
      → ((wanted : Use) (rest : List Use) → left ≡ wanted ∷ rest
      → ((h : HeldLock) × In h (held_at c p) × (h.target.0 ≡ wanted.target.0) × (h.lock ≡ l)) × (l.resource ≡ wanted.resource)
      × (count_of (name_under wanted l) r.pins ≡ 0))
      → Going (comes slot (acts at slot kind) l left r w s) p
  comes_fit slot kind i l [] r w s p same fit k d room came = λ covered. fit
  comes_fit slot kind i l (wanted ∷ left) r w s p same fit k d room came =
      let m = came wanted left refl in
      takes_fit slot (looks slot (acts at slot kind) left) wanted l left r w s p same k m.0.0 m.0.1 m.0.2 m.0.3 m.1 m.2
      (λ g j x y z. room g j x (inr y) z) d.1
      (λ r w s p e same k room. looks_fit slot (acts at slot kind) (acts_fit slot kind i) left d.2 r w s p e same k room)

  pub comes_at_fit : (slot : ℕ) (kind : Kind) → IsWork kind → (l : Lock) (r : Running) (w : Work) (s : Store) (p : List Line) → s.held
      ≡ held_at c p → Fit c p → Mid c slot r.pins p → Distinct w.left
      → Room (held_at c p) r.pins w.left
      → CameOk (held_at c p) r.pins w l → Going (comes_at at slot kind r w s l) p
  comes_at_fit slot (Writes o bs) i l r w s p same fit k d room came =
      comes_fit slot (Writes o bs) tt l w.left r w s p same fit k d room came
  comes_at_fit slot (Cuts n) i l r w s p same fit k d room came = comes_fit slot (Cuts n) tt l w.left r w s p same fit k d room came
  comes_at_fit slot (Narrow o n) i l r w s p same fit k d room came = comes_fit slot (Narrow o n) tt l w.left r w s p same fit k d room came
  comes_at_fit slot (Wide o n) i l r w s p same fit k d room came = comes_fit slot (Wide o n) tt l w.left r w s p same fit k d room came
  comes_at_fit slot (Stats mode links) i l r w s p same fit k d room came =
      comes_fit slot (Stats mode links) tt l w.left r w s p same fit k d room came
  comes_at_fit slot (Glimpses sizes) i l r w s p same fit k d room came = absurd i

  -- ---- locks on names are pinned

  mid_pins : (slot : ℕ) (before names : List LockName) (p : List Line) → Mid c slot before p → AllNamed names (held_at c p)
      → Fresh before names → Mid c slot (before ++ names) (with_turn at (pins names) p)
  mid_pins slot before [] p k all fresh = subst (λ (ns : List LockName). Mid c slot ns p) (sym (no_more before)) k
    where
      no_more : (xs : List LockName) → xs ++ [] ≡ xs
      no_more [] = refl
      no_more (x ∷ xs) = ap (λ ys. x ∷ ys) (no_more xs)
  mid_pins slot before (n ∷ names) p k all fresh =
      subst (λ (ns : List LockName). Mid c slot ns (with_turn at (pins names) p1)) (joined before)
      (mid_pins slot (before ++ n ∷ []) names p1 (mid_pin head c stamp slot before n p k (all n (inl refl)) fresh.0) named_still fresh.1)
    where
      p1 : List Line
      p1 = line at (Pins n) ∷ p

      named_still : AllNamed names (held_at c p1)
      named_still m i = into_names (held_at c p) (held_at c p1)
          (subst (Into (held_at c p)) (sym (held_line head c stamp p (Pins n))) (changed_into n change.Pin (held_at c p))) m (all m (inr i))

      joined : (xs : List LockName) → (xs ++ n ∷ []) ++ names ≡ xs ++ n ∷ names
      joined [] = refl
      joined (x ∷ xs) = ap (λ ys. x ∷ ys) (joined xs)

  -- a call that has pinned nothing pins these
  pins_fit : (slot : ℕ) (r : Running) (cookies : List Cookie) (p : List Line) → r.pins ≡ [] → Mid c slot r.pins p
      → AllUsable (held_at c p) cookies
      → Mid c slot (r.pins ++ names_of cookies) (with_turn at (pins (names_of cookies)) p)
  pins_fit slot r cookies p none k usable =
      mid_pins slot r.pins (names_of cookies) p k (usable_named (held_at c p) cookies usable)
      (subst (λ (ns : List LockName). Fresh ns (names_of cookies)) (sym none) (fresh_names (names_of cookies) (rise_names cookies)))

  pub known_fit : (slot : ℕ) (r : Running) (x : Known) (p : List Line) → r.pins ≡ [] → Mid c slot r.pins p
      → AllUsable (held_at c p) x.cookies → Fit c (with_turn at (tells_known at slot r x) p)
  known_fit slot r x p none k usable =
      let names = names_of x.cookies in
      let q = with_pins names r in
      subst (Fit c) (sym (turn_more at (pins names) (tells slot q at x.answer None) p))
      (tells_fit head c stamp slot q at x.answer None (with_turn at (pins names) p) (pins_fit slot r x.cookies p none k usable))

  pub stats_fit : (slot : ℕ) (fid : Fid) (layout : Raid0) (mode links : ℕ) (cookies : List Cookie) (r : Running) (s : Store) (p : List Line)
      → s.held ≡ held_at c p → r.pins ≡ [] → Mid c slot r.pins p
      → AllUsable (held_at c p) cookies
      → Going (stats at slot fid layout (Stats mode links) (names_of cookies) r s) p
  stats_fit slot fid layout mode links cookies r s p same none k usable covered =
      let kind = Stats mode links in
      let names = names_of cookies in
      let q = with_pins names r in
      let s1 = store_turn s (pins names) in
      let p1 = with_turn at (pins names) p in
      let es = looks_at at slot kind q (work_on fid layout kind) s1 in
      let k1 = pins_fit slot r cookies p none k usable in
      subst (Fit c) (sym (turn_more at (pins names) es p))
      (looks_at_fit slot kind tt q (work_on fid layout kind) s1 p1 (held_turn (pins names) s p same) k1 (distinct_wants layout fid kind)
      (λ h i x j l. not_counted (name_of h) q.pins (λ m. k1.bits h i
      (zero_in cookies (name_of h) (subst (λ (ns : List LockName). In (name_of h) (ns ++ names)) none m)) l.2))
      (covered_right (pins names) es covered))
