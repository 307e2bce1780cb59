-- In each covered run a client shows all that an answer owes, line by line and at once: a reply is taken in the first line of a turn and
-- heard
-- in the second, which what it owes follows, and no other line of a turn hears one.
use Rattle.std.proofs.Common.{◌≡◌, ℕ, zero, suc, ◌+◌, Bool, true, false, List, [], ◌∷◌, ◌++◌, ◌⊎◌, inl, inr, Option, Some, None, refl, sym}
use Rattle.std.proofs.Common.{subst, ap, ◌∙◌}
use Rattle.std.specs.Prelude.{nat_eq, nat_lt, if◌then◌else◌, filter, drop, reverse}
use Rattle.std.specs.List.{list_any}
use Rattle.std.proofs.lemmas.Bool.{eqb-true}
use Rattle.lu_base.specs.declared.ids.At.{At}
use Rattle.lu_base.specs.declared.ids.Node.{Node}
use Rattle.lu_base.specs.declared.ids.Node.TheVariants.{Client, Target}
use Rattle.lu_base.specs.declared.ids.Stamp.{Stamp}
use Rattle.lu_base.specs.declared.ids.Who.{Who}
use Rattle.lu_base.specs.declared.locks.Lock.{Lock}
use Rattle.lu_msg.specs.declared.answers.Answer.{Answer}
use Rattle.lu_msg.specs.declared.answers.Answer.TheVariants as answer
use Rattle.lu_msg.specs.declared.messages.GrantNotice.{GrantNotice}
use Rattle.lu_msg.specs.declared.messages.Message.{Message}
use Rattle.lu_msg.specs.declared.messages.Message.TheVariants as message
use Rattle.lu_msg.specs.declared.messages.Reply.{Reply as ReplyTo}
use Rattle.lu_msg.specs.declared.operations.Op.{Op}
use Rattle.lu_msg.specs.declared.operations.Op.TheVariants as op
use Rattle.lu_held.specs.declared.locks.HeldLock.{HeldLock}
use Rattle.lu_held.specs.declared.names.LockName.{LockName}
use Rattle.lu_held.specs.Locks.{named, is_free}
use Rattle.lu_held.specs.Held.{in_order, is_held}
use Rattle.lu_spec_machine.specs.Fits.{answer_fits}
use Rattle.lu_spec_entries.specs.Carried.{Flight, Stage, Waits, Running}
use Rattle.lu_spec_entries.specs.Words.{Entry, Heard, Take, Hold, Learns, Acks, Fills, Zeroes, Grown as Grows, Shows, Life, Line, line}
use Rattle.lu_spec_entries.specs.Words.{with_turn, is_client, same_life, turn_before}
use Rattle.lu_spec_target.specs.Disks.{row_start}
use Rattle.lu_spec_client.specs.Caches.{brought, granted_lock, held_at, with_brought}
use Rattle.lu_spec_client.specs.Calls.{call_on}
use Rattle.lu_spec_client.specs.Imports.{import_of}
use Rattle.lu_spec_client.specs.Locks.{trims, locks_go, dirty_total}
use Rattle.lu_spec_client.specs.Messages.{size_with, holds, learns, held_as, page_heard, looks_again, on_slot, on_running, heeds}
use Rattle.lu_spec_client.specs.Messages.{hears_flight, hears_fitting, find_flight, hears, replied, waiter, lock_granted, granted}
use Rattle.lu_spec_client.specs.Messages.{lock_blocked, cancels_unknown, blocked_waiting, blocked_held, blocked, size_held, Question, peeks}
use Rattle.lu_spec_client.specs.Messages.{asked, up_heard, ready_heard, evicted_heard, is_present, comes_from, comes_by}
use Rattle.lu_spec_client.specs.Recovery.{ends_calls, drops_all, next_life, joins_all}
use Rattle.lu_spec_client.specs.Rows as client
use Rattle.lu_spec_client.specs.Rows.{rests}
use Rattle.lu_spec_client.specs.Sending.{sends_all}
use Rattle.lu_spec_client.specs.Slots.{goes_on, goes, passes, all_slots, slots_go, is_free_close}
use Rattle.lu_spec_client.specs.States.{Client as ClientState, Limits, follow, after, turn as turn_of}
use Rattle.lu_proof_lawful.specs.Covered.Runs.{AllCovered}
use Rattle.lu_proof_lawful.specs.Covered.Heads.{Head}
use Rattle.lu_proof_lawful.specs.Covered.Imports.{flights_at}
use Rattle.lu_spec_run.specs.Heads as table
use Rattle.lu_spec_run.specs.Runs as table_runs
use Rattle.lu_spec_run.specs.Runs.{limits_of, client_of, row, IsRow, Turn, lines_of, IsRun}
use Rattle.lu_proof_lawful.proofs.Preconditions.HeedMarks.{heeds_marks, marks_left, owes, owed_of}
use Rattle.lu_proof_lawful.proofs.Preconditions.Guards.{In, Later, TookNow, IsTurnOf, EntryOk}
use Rattle.lu_proof_lawful.proofs.Preconditions.Grown.{Grown}
use Rattle.lu_proof_lawful.proofs.Preconditions.Heeds.{HeedsNext, AllHeed, IsOwed, AllOwed, all_owed, owed_other, owed_rest, owed_heard}
use Rattle.lu_proof_lawful.proofs.Preconditions.Lists.{self, turn, turn_irreflexive}
use Rattle.lu_proof_lawful.proofs.Preconditions.Parts.{flights_now}
use Rattle.lu_proof_lawful.proofs.Preconditions.Turns.{covered_head, run_later}
use Rattle.lu_proof_lawful.proofs.Preconditions.Covers.{covered_turn, over_none}
use Rattle.lu_proof_lawful.proofs.Preconditions.Ends.{grown_under, Other, other_call, other_first}
use Rattle.lu_proof_lawful.proofs.Preconditions.ClientLines.{IsNames, IsBytes, IsAskedOf, flights_asked, asked_names}
use Rattle.lu_proof_lawful.proofs.Preconditions.AwaitsRows.{OfSlot, AllOf, IsPlain, AllPlain, goes_of, marks_plain, visits_plain, all_plain}
use Rattle.lu_proof_lawful.proofs.Preconditions.Obey.{grown}

-- ---- of one client

abbrev HeedOf : ℕ → List Line → Type 0
HeedOf c [] = Unit {0}
HeedOf c (l ∷ past) = HeedsNext c past l × HeedOf c past

all_of : (past : List Line) → ((c : ℕ) → HeedOf c past) → AllHeed past
all_of [] all = tt
all_of (l ∷ past) all = (λ c. (all c).0, all_of past (λ c. (all c).1))

-- and nothing is owed now
record Heeded (c : ℕ) (past : List Line) : Type 0 where
  of : HeedOf c past
  none : owed_of c past ≡ []

nothing_next : (c : ℕ) (past : List Line) (l : Line) → owed_of c past ≡ [] → HeedsNext c past l
nothing_next c past l none e more is = absurd (let q : [] ≡ e ∷ more = sym none ∙ is in cc)

-- a turn of another node
other_turn : (c : ℕ) (at : At) (es : List Entry) (p : List Line) → is_client c at.node ≡ false → Heeded c p → Heeded c (with_turn at es p)
other_turn c at [] p other h = h
other_turn c at (e ∷ es) p other h = other_turn c at es (line at e ∷ p) other
    (record { of = (nothing_next c p (line at e) h.none, h.of); none = owed_other c at e p other ∙ h.none })

-- ---- an entry that hears nothing

abbrev Unheard : Entry → Type 0
Unheard (Heard t f r) = ⊥
Unheard _ = Unit {0}

-- the first of them, if there is one
abbrev FirstUnheard : List Entry → Type 0
FirstUnheard [] = Unit {0}
FirstUnheard (e ∷ es) = Unheard e

first_more : (es fs : List Entry) → FirstUnheard es → FirstUnheard fs → FirstUnheard (es ++ fs)
first_more [] fs a b = b
first_more (e ∷ es) fs a b = a

first_follow : (es : List Entry) (next : ClientState → List Entry) (k : ClientState) → FirstUnheard es
    → ((j : ClientState) → FirstUnheard (next j)) → FirstUnheard (follow es next k)
first_follow es next k a b = first_more es (next (turn_of k es)) a (b (turn_of k es))

plain_unheard : (e : Entry) → IsPlain e → Unheard e
plain_unheard (Heard t f r) i = i
plain_unheard e i = tt

plain_first : (es : List Entry) → AllPlain es → FirstUnheard es
plain_first [] a = tt
plain_first (e ∷ es) a = plain_unheard e a.0

slot_unheard : (slot : ℕ) (e : Entry) → OfSlot slot e → Unheard e
slot_unheard slot (Heard t f r) i = i
slot_unheard slot e i = tt

slot_first : (slot : ℕ) (es : List Entry) → AllOf slot es → FirstUnheard es
slot_first slot [] a = tt
slot_first slot (e ∷ es) a = slot_unheard slot e a.0

-- ---- the first of the rest of a turn

module _ (limits : Limits) (at : At) where
  goes_first : (slot : ℕ) (k : ClientState) (x : Option Running) → FirstUnheard (goes_on at slot k x)
  goes_first slot k None = tt
  goes_first slot k (Some r) = slot_first slot (goes_on at slot k (Some r)) (goes_of slot at r.stage r k)

  passes_first : (slots : List ℕ) (k : ClientState) → FirstUnheard (passes at slots k)
  passes_first [] k = tt
  passes_first (slot ∷ slots) k = first_follow (goes at slot k) (passes at slots) k (goes_first slot k (call_on slot k.calls))
      (passes_first slots)

  slots_first : (n : ℕ) (k : ClientState) → FirstUnheard (slots_go n at k)
  slots_first zero k = tt
  slots_first (suc n) k =
      first_follow (passes at all_slots k) (λ j. if list_any (is_free_close j.calls) j.calls then slots_go n at j else []) k
      (passes_first all_slots k)
      (λ j. again (slots_go n at j) (list_any (is_free_close j.calls) j.calls) (slots_first n j))
    where
      again : (es : List Entry) (b : Bool) → FirstUnheard es → FirstUnheard (if b then es else [])
      again es true f = f
      again es false f = tt

  sends_first : (k : ClientState) → FirstUnheard (sends_all limits k.who 0 k.imports)
  sends_first k = plain_first (sends_all limits k.who 0 k.imports) (all_plain limits k.who 0 k.imports)

  locks_first : (k : ClientState) → FirstUnheard (locks_go limits k)
  locks_first k = let over = nat_lt limits.dirty (dirty_total k.store.patches)
      in plain_first (locks_go limits k) (visits_plain over (in_order k.store.held) k)

  trims_first : (k : ClientState) → FirstUnheard (trims limits k)
  trims_first k = plain_first (trims limits k) (marks_plain (reverse (drop limits.unused (filter is_free k.store.held))))

  rest_first : (k : ClientState) → FirstUnheard (rests limits at k)
  rest_first k =
      let last = λ (k : ClientState). sends_all limits k.who 0 k.imports in
      let gone = λ (k : ClientState). follow (locks_go limits k) last k in
      first_follow (slots_go 5 at k) (λ k. follow (trims limits k) gone k) k (slots_first 5 k)
      (λ i. first_follow (trims limits i) gone i (trims_first i)
      (λ j. first_follow (locks_go limits j) last j (locks_first j) sends_first))

-- ---- the first of what a message brings about that is no reply

running_first : (stands : ℕ → Running → Stage → List Entry) → ((slot : ℕ) (r : Running) (x : Stage) → FirstUnheard (stands slot r x))
    → (slot : ℕ) (x : Option Running) → FirstUnheard (on_running stands slot x)
running_first stands all slot None = tt
running_first stands all slot (Some r) = all slot r r.stage

on_slot_first : (stands : ℕ → Running → Stage → List Entry) → ((slot : ℕ) (r : Running) (x : Stage) → FirstUnheard (stands slot r x))
    → (o : Option ℕ) (k : ClientState) → FirstUnheard (on_slot stands o k)
on_slot_first stands all None k = tt
on_slot_first stands all (Some slot) k = running_first stands all slot (call_on slot k.calls)

lock_granted_first : (t : ℕ) (g : GrantNotice) (slot : ℕ) (r : Running) (x : Stage) → FirstUnheard (lock_granted t g slot r x)
lock_granted_first t g slot r (Waits w target l marked) = tt
lock_granted_first t g slot r x = tt

lock_blocked_first : (slot : ℕ) (r : Running) (x : Stage) → FirstUnheard (lock_blocked slot r x)
lock_blocked_first slot r (Waits w target l marked) = tt
lock_blocked_first slot r x = tt

granted_first : (t : ℕ) (g : GrantNotice) (k : ClientState) (b : Bool) → FirstUnheard (granted t g k b)
granted_first t g k true = on_slot_first (lock_granted t g) (lock_granted_first t g) (waiter (named (record { 0 = t }) g.cookie) 0 k.calls)
    k
granted_first t g k false = tt

blocked_first : (name : LockName) (k : ClientState) (b : Bool) → FirstUnheard (blocked name k b)
blocked_first name k false = tt
blocked_first name k true = held (is_held name k.store.held)
  where
    flying : (who : Who) (boot : ℕ) (fs : List Flight) → FirstUnheard (cancels_unknown who name boot fs)
    flying who boot [] = tt
    flying who boot (f ∷ fs) = tt

    waiting : (o : Option ℕ) → FirstUnheard (blocked_waiting name k o)
    waiting None = flying k.who (import_of name.target.0 k.imports).boot (import_of name.target.0 k.imports).flights
    waiting (Some slot) = on_slot_first lock_blocked lock_blocked_first (Some slot) k

    held : (b : Bool) → FirstUnheard (blocked_held name k b)
    held true = tt
    held false = waiting (waiter name 0 k.calls)

asked_first : (at : At) (t : ℕ) (a : Question) (k : ClientState) (b : Bool) → FirstUnheard (asked at t a k b)
asked_first at t a k false = tt
asked_first at t a k true = by (size_held k.store (held_as (named (record { 0 = t }) a.cookie) k.store.held))
  where
    by : (size : Option ℕ) → FirstUnheard (peeks at t a k.who (import_of t k.imports).boot size)
    by None = tt
    by (Some size) = tt

ends_first : (at : At) (slot : ℕ) (calls : List (Option Running)) → FirstUnheard (ends_calls at slot calls)
ends_first at slot [] = tt
ends_first at slot (None ∷ calls) = ends_first at (slot + 1) calls
ends_first at slot (Some r ∷ calls) = tt

drops_first : (hs : List HeldLock) → FirstUnheard (drops_all hs)
drops_first [] = tt
drops_first (h ∷ hs) = tt

evicted_first : (at : At) (k : ClientState) (b : Bool) → FirstUnheard (evicted_heard at k b)
evicted_first at k false = tt
evicted_first at k true =
    let w = next_life k.who in
    let more = Life w ∷ joins_all w 0 k.imports in
    let drops = drops_all (in_order k.store.held) in
    first_more (ends_calls at 0 k.calls ++ drops) more (first_more (ends_calls at 0 k.calls) drops (ends_first at 0 k.calls)
    (drops_first (in_order k.store.held))) tt

up_first : (t boot : ℕ) (k : ClientState) (b : Bool) → FirstUnheard (up_heard t boot k b)
up_first t boot k true = tt
up_first t boot k false = tt

ready_first : (t boot committed : ℕ) (k : ClientState) (b : Bool) → FirstUnheard (ready_heard t boot committed k b)
ready_first t boot committed k true = tt
ready_first t boot committed k false = tt

-- ---- a reply that is heard is followed by all that it owes

abbrev StartsWith : List Entry → List Entry → Type 0
StartsWith [] es = Unit {0}
StartsWith (o ∷ os) [] = ⊥
StartsWith (o ∷ os) (e ∷ es) = (e ≡ o) × StartsWith os es

starts_here : (os more : List Entry) → StartsWith os (os ++ more)
starts_here [] more = tt
starts_here (o ∷ os) more = (refl, starts_here os more)

starts_both : (xs os es more : List Entry) → StartsWith os (es ++ more) → StartsWith (xs ++ os) ((xs ++ es) ++ more)
starts_both [] os es more s = s
starts_both (x ∷ xs) os es more s = (refl, starts_both xs os es more s)

none_granted : (o : Op) (r : ReplyTo) (a : Answer) → IsBytes o → granted_lock o r a ≡ []
none_granted (op.Get resource cookie page) r a b = refl
none_granted (op.Put resource cookie offset bs) r a b = refl
none_granted (op.Cut resource cookie n) r a b = refl
none_granted o r a b = absurd b

-- no lock comes with an answer to a call on bytes
held_still : (t : ℕ) (f : Flight) (r : ReplyTo) (k : ClientState) → IsBytes f.op → r.locks ≡ []
    → (turn_of k (Heard t f r ∷ holds t (size_with r.answer) r.seen (brought f.op r) ++ learns t f.op r.answer r.locks)).store.held
    ≡ k.store.held
held_still t f r k b bare =
    let none : brought f.op r ≡ [] = ap (λ (ls : List Lock). ls ++ granted_lock f.op r r.answer) bare ∙ none_granted f.op r r.answer b in
    subst (λ (ls : List Lock). (turn_of k (Heard t f r ∷ holds t (size_with r.answer) r.seen ls
    ++ learns t f.op r.answer r.locks)).store.held ≡ k.store.held) (sym none)
    (subst (λ (ls : List Lock). (turn_of k (Heard t f r ∷ learns t f.op r.answer ls)).store.held ≡ k.store.held) (sym bare)
    (ap (λ (ls : List Lock). with_brought t ls k.store.held) none))

-- what is heeded of it begins with the marks
heeds_start : (t : ℕ) (f : Flight) (r : ReplyTo) (j : ClientState) (held : List HeldLock) (more : List Entry) (o : Op) (a : Answer)
    → (IsBytes o → j.store.held ≡ held)
    → StartsWith (heeds_marks t o a held) (heeds t f o r a j ++ more)
heeds_start t f r j held more (op.Get resource cookie page) (answer.Content bs) same =
    let marks = λ (hs : List HeldLock). page_heard resource cookie page bs (held_as (named (record { 0 = t }) cookie) hs) in
    let after = on_slot looks_again f.slot j in
    subst (λ (hs : List HeldLock). StartsWith (marks hs) ((marks j.store.held ++ after) ++ more)) (same tt) (by (marks j.store.held) after)
  where
    by : (os es : List Entry) → StartsWith os ((os ++ es) ++ more)
    by [] es = tt
    by (o ∷ os) es = (refl, by os es)
heeds_start t f r j held more (op.Put resource cookie offset bs) answer.Done same = (refl, (refl, (refl, tt)))
heeds_start t f r j held more (op.Cut resource cookie n) answer.Done same = (refl, (refl, (refl, tt)))
heeds_start t f r j held more o a same = tt

heard_starts : (t : ℕ) (f : Flight) (r : ReplyTo) (k : ClientState) (more : List Entry) → (IsBytes f.op → r.locks ≡ []) → (es : List Entry)
    → hears_flight t r f k ++ more ≡ Heard t f r ∷ es → StartsWith (owes t f r k.store.held) es
heard_starts t f r k more bare es is =
    let shown = holds t (size_with r.answer) r.seen (brought f.op r) ++ learns t f.op r.answer r.locks in
    let j = turn_of k (Heard t f r ∷ shown) in
    let rest : (shown ++ heeds t f f.op r r.answer j) ++ more ≡ es = cc in
    subst (StartsWith (owes t f r k.store.held)) rest
    (starts_both shown (heeds_marks t f.op r.answer k.store.held) (heeds t f f.op r r.answer j) more
    (heeds_start t f r j k.store.held more f.op r.answer (λ b. held_still t f r k b (bare b))))

module _ (at : At) (k : ClientState) (more : List Entry) (rest : FirstUnheard more) (t : ℕ) (f : Flight) (r : ReplyTo) (es : List Entry)
    (bare : IsBytes f.op → r.locks ≡ []) where
  abbrev Second : List Entry → Type 0
  Second xs = xs ++ more ≡ Heard t f r ∷ es → StartsWith (owes t f r k.store.held) es

  no_second : (xs : List Entry) → FirstUnheard xs → Second xs
  no_second xs first is = absurd (subst FirstUnheard is (first_more xs more first rest))

  reply_second : (u : ℕ) (q : ReplyTo) (b : Bool) → Second (replied u q k b)
  reply_second u q false = no_second [] tt
  reply_second u q true = flown (find_flight q.xid.0 (import_of u k.imports).flights)
    where
      fits : (g : Flight) (b : Bool) → Second (hears_fitting u q g k b)
      fits g false is = no_second [] tt is
      fits g true is =
          let same_t : u ≡ t = cc in
          let same_f : g ≡ f = cc in
          let same_r : q ≡ r = cc in
          heard_starts t f r k more bare es
          (subst (λ (v : ℕ). hears_flight v r f k ++ more ≡ Heard t f r ∷ es) same_t
          (subst (λ (h : Flight). hears_flight u r h k ++ more ≡ Heard t f r ∷ es) same_f
          (subst (λ (x : ReplyTo). hears_flight u x g k ++ more ≡ Heard t f r ∷ es) same_r is)))

      flown : (o : Option Flight) → Second (hears u q k o)
      flown None = no_second [] tt
      flown (Some g) = fits g (answer_fits g.op q.answer)

  from_second : (u : ℕ) (m : Message) → Second (comes_from at u m k)
  from_second u (message.Reply q) = reply_second u q (is_present q.who q.boot u k)
  from_second u (message.Grant g) = no_second (granted u g k (is_present g.who g.boot u k))
      (granted_first u g k (is_present g.who g.boot u k))
  from_second u (message.Block who boot cookie) = no_second (blocked (named (record { 0 = u }) cookie) k (same_life who k.who))
      (blocked_first (named (record { 0 = u }) cookie) k (same_life who k.who))
  from_second u (message.Ask who boot cookie for_who xid) =
      let a : Question = record { cookie = cookie; for_who = for_who; xid = xid } in
      no_second (asked at u a k (same_life who k.who)) (asked_first at u a k (same_life who k.who))
  from_second u (message.Up boot) = no_second (up_heard u boot k (nat_lt (import_of u k.imports).boot boot))
      (up_first u boot k (nat_lt (import_of u k.imports).boot boot))
  from_second u (message.Ready who boot committed) = no_second (ready_heard u boot committed.0 k (is_present who boot u k))
      (ready_first u boot committed.0 k (is_present who boot u k))
  from_second u (message.Evicted who boot) = no_second (evicted_heard at k (same_life who k.who)) (evicted_first at k (same_life who k.who))
  from_second u m = no_second [] tt

  by_second : (from : Node) (m : Message) → Second (comes_by at from m k)
  by_second (Client d) m = no_second [] tt
  by_second (Target u) m = from_second u m

-- ---- a turn of the client

names_bytes : (o : Op) → IsNames o → IsBytes o → ⊥
names_bytes (op.Get resource cookie page) n b = n
names_bytes (op.Put resource cookie offset bs) n b = n
names_bytes (op.Cut resource cookie size) n b = n
names_bytes o n b = b

later_here : (p : List Line) (at : At) → Later p at → IsTurnOf p at → ⊥
later_here [] at later here = here
later_here (l ∷ p) at later here = turn_irreflexive at (subst (λ (a : At). turn_before a at ≡ true) here later)

module _ (head : table.Head) (c : ℕ) (stamp : Stamp) where
  abbrev at : At
  at = turn stamp (Client c)

  abbrev few : Head
  few = covered_head head

  -- the newest line took no message in this turn
  abbrev NoneTook : List Line → Type 0
  NoneTook p = (from : Node) (m : Message) → TookNow p at from m → ⊥

  -- in its middle a turn takes none
  none_taken : (e : Entry) (p : List Line) → EntryOk p at (Client c) e → IsTurnOf p at → NoneTook (line at e ∷ p)
  none_taken (Take n sender k) p ok here from m took = later_here p at ok.later here
  none_taken e p ok here from m took = took

  later_took : (p : List Line) → Later p at → NoneTook p
  later_took [] later from m took = took
  later_took (l ∷ p) later from m took = by l.entry took
    where
      by : (e : Entry) → TookNow (line l.at e ∷ p) at from m → ⊥
      by (Take n sender k) took = later_here (line l.at (Take n sender k) ∷ p) at later took.0
      by e took = took

  -- so it hears none
  unheard : (e : Entry) (p : List Line) → EntryOk p at (Client c) e → NoneTook p → Unheard e
  unheard (Heard t f r) p ok none = none (Target t) (message.Reply r) ok.1
  unheard e p ok none = tt

  still_none : (e : Entry) (p : List Line) → Unheard e → owed_of c p ≡ [] → owed_of c (line at e ∷ p) ≡ []
  still_none (Heard t f r) p u none = absurd u
  still_none (Hold t lock marked size seen) p u none = owed_rest c stamp p (Hold t lock marked size seen) tt ∙ ap marks_left none
  still_none (Learns t o x locks) p u none = owed_rest c stamp p (Learns t o x locks) tt ∙ ap marks_left none
  still_none (Acks resource) p u none = owed_rest c stamp p (Acks resource) tt ∙ ap marks_left none
  still_none (Fills resource offset bytes) p u none = owed_rest c stamp p (Fills resource offset bytes) tt ∙ ap marks_left none
  still_none (Zeroes resource size) p u none = owed_rest c stamp p (Zeroes resource size) tt ∙ ap marks_left none
  still_none (Grows resource change) p u none = owed_rest c stamp p (Grows resource change) tt ∙ ap marks_left none
  still_none (Shows resource cookie last) p u none = owed_rest c stamp p (Shows resource cookie last) tt ∙ ap marks_left none
  still_none e p u none = none

  -- what is owed comes, and then nothing is owed
  walk : (es os : List Entry) (p : List Line) → Grown few (with_turn at es p) → IsTurnOf p at → NoneTook p → AllOwed os → owed_of c p ≡ os
      → StartsWith os es → HeedOf c p → Heeded c (with_turn at es p)
  walk [] [] p g here took all is s h = record { of = h; none = is }
  walk [] (o ∷ os) p g here took all is s h = absurd s
  walk (e ∷ es) [] p g here took all is s h =
      let ok = (grown_under few at es (line at e ∷ p) g).0.ok in
      walk es [] (line at e ∷ p) g refl (none_taken e p ok here) tt (still_none e p (unheard e p ok took) is) tt
      (nothing_next c p (line at e) is, h)
  walk (e ∷ es) (o ∷ os) p g here took all is s h =
      let ok = (grown_under few at es (line at e ∷ p) g).0.ok in
      let kind = subst IsOwed (sym s.0) all.0 in
      walk es os (line at e ∷ p) g refl (none_taken e p ok here) all.1 (owed_rest c stamp p e kind ∙ ap marks_left is) s.1 (next, h)
    where
      next : HeedsNext c p (line at e)
      next x more q = let same : o ≡ x = cc in (refl, s.0 ∙ same, here)

  -- an answer to a call on bytes brings no lock
  bare_bytes : (t : ℕ) (f : Flight) (r : ReplyTo) (p : List Line) → Grown few (line at (Heard t f r) ∷ p) → IsBytes f.op → r.locks ≡ []
  bare_bytes t f r p g b = by g.0.ok.0
    where
      flying : In f (flights_at c t p)
      flying = subst (λ (fs : List Flight). In f fs) (sym (flights_now few c t p g.1)) (g.0.of t (self t)).flying

      by : (t ≡ 0) ⊎ (r.locks ≡ []) → r.locks ≡ []
      by (inl e) = absurd (names_bytes f.op (asked_names f.op (subst (λ (u : ℕ). IsAskedOf u f.op) e
          (flights_asked few c t p g.1 f flying))) b)
      by (inr e) = e

  own_turn : (p : List Line) (event : client.Event) → Later p at → Heeded c p
      → Grown few (with_turn at (client.row (limits_of head) at event (client_of head c p)) p)
      → Heeded c (with_turn at (client.row (limits_of head) at event (client_of head c p)) p)
  own_turn p event later h g = by (client.row (limits_of head) at event k) refl g
    where
      k : ClientState
      k = client_of head c p

      second : (n : ℕ) (from : Node) (m : Message) (t : ℕ) (f : Flight) (r : ReplyTo) (es : List Entry) → (IsBytes f.op → r.locks ≡ [])
          → (event : client.Event)
          → client.row (limits_of head) at event k ≡ Take n from m ∷ Heard t f r ∷ es → StartsWith (owes t f r (held_at c p)) es
      second n from m t f r es bare (client.Begins slot x) q =
          absurd (other_first (Take n from m) (Heard t f r ∷ es) n from m
          (subst Other q (other_call (limits_of head) at slot x k (call_on slot k.calls))) refl)
      second n from m t f r es bare (client.Comes i sender x) q =
          let more = rests (limits_of head) at (turn_of k (Take i sender x ∷ comes_by at sender x k)) in
          let is : comes_by at sender x k ++ more ≡ Heard t f r ∷ es = cc in
          by_second at k more (rest_first (limits_of head) at (turn_of k (Take i sender x ∷ comes_by at sender x k))) t f r es bare sender x
          is
      second n from m t f r es bare client.Ticks q = absurd (cc)
      second n from m t f r es bare client.Dies q = absurd (cc)

      after_take : (n : ℕ) (from : Node) (m : Message) (es : List Entry) → client.row (limits_of head) at event k ≡ Take n from m ∷ es
          → Grown few (with_turn at es (line at (Take n from m) ∷ p))
          → Heeded c (with_turn at es (line at (Take n from m) ∷ p))
      after_take n from m [] q g = record { of = (nothing_next c p (line at (Take n from m)) h.none, h.of); none = h.none }
      after_take n from m (e ∷ es) q g = of_entry e q g
        where
          p1 : List Line
          p1 = line at (Take n from m) ∷ p

          first : HeedOf c p1
          first = (nothing_next c p (line at (Take n from m)) h.none, h.of)

          of_entry : (e : Entry) → client.row (limits_of head) at event k ≡ Take n from m ∷ e ∷ es
              → Grown few (with_turn at es (line at e ∷ p1)) → Heeded c (with_turn at es (line at e ∷ p1))
          of_entry (Heard t f r) q g =
              let under = grown_under few at es (line at (Heard t f r) ∷ p1) g in
              walk es (owes t f r (held_at c p)) (line at (Heard t f r) ∷ p1) g refl (λ sender x took. took) (all_owed t f r (held_at c p))
              (owed_heard c stamp p1 t f r)
              (second n from m t f r es (bare_bytes t f r p1 under) event q) (nothing_next c p1 (line at (Heard t f r)) h.none, first)
          of_entry e q g =
              let ok = (grown_under few at es (line at e ∷ p1) g).0.ok in
              walk es [] (line at e ∷ p1) g refl (none_taken e p1 ok refl) tt (still_none e p1 tt h.none) tt
              (nothing_next c p1 (line at e) h.none, first)

      by : (es : List Entry) → client.row (limits_of head) at event k ≡ es → Grown few (with_turn at es p) → Heeded c (with_turn at es p)
      by [] q g = h
      by (e ∷ es) q g = of_first e q g
        where
          of_first : (e : Entry) → client.row (limits_of head) at event k ≡ e ∷ es → Grown few (with_turn at es (line at e ∷ p))
              → Heeded c (with_turn at es (line at e ∷ p))
          of_first (Take n from m) q g = after_take n from m es q g
          of_first e q g =
              let ok = (grown_under few at es (line at e ∷ p) g).0.ok in
              walk es [] (line at e ∷ p) g refl (λ sender x took. took) tt (still_none e p (unheard e p ok (later_took p later)) h.none) tt
              (nothing_next c p (line at e) h.none, h.of)

-- ---- runs

row_heeds : (head : table.Head) (past : List Line) (stamp : Stamp) (node : Node) (es : List Entry) → Later past (turn stamp node)
    → IsRow head past (turn stamp node) es → AllCovered (with_turn (turn stamp node) es past)
    → Grown (covered_head head) (with_turn (turn stamp node) es past) → ((c : ℕ) → Heeded c past) → (c : ℕ)
    → Heeded c (with_turn (turn stamp node) es past)
row_heeds head past stamp (Target t) es later r covered g all c = other_turn c (turn stamp (Target t)) es past refl (all c)
row_heeds head past stamp (Client d) es later r covered g all c = by (nat_eq c d) refl
  where
    at : At
    at = turn stamp (Client d)

    fs : List Entry
    fs = client.row (limits_of head) at r.event (client_of head d past)

    is : es ≡ fs
    is = r.is ∙ over_none r.fails fs (covered_turn at (row head past at r.event r.fails) past
        (subst (λ (gs : List Entry). AllCovered (with_turn at gs past)) r.is covered)).0

    own : Heeded d (with_turn at es past)
    own =
        subst (λ (gs : List Entry). Heeded d (with_turn at gs past)) (sym is)
        (own_turn head d stamp past r.event later (all d) (subst (λ (gs : List Entry). Grown (covered_head head) (with_turn at gs past)) is
        g))

    by : (b : Bool) → nat_eq c d ≡ b → Heeded c (with_turn at es past)
    by true e = subst (λ (u : ℕ). Heeded u (with_turn at es past)) (sym (eqb-true c d e)) own
    by false e = other_turn c at es past e (all c)

heeds_run : (head : table.Head) (turns : List Turn) → IsRun head turns → AllCovered (lines_of turns) → (c : ℕ) → Heeded c (lines_of turns)
heeds_run head [] run covered c = record { of = tt; none = refl }
heeds_run head (t ∷ turns) run covered c = by run.1 (heeds_run head turns run.2 (covered_turn t.at t.entries (lines_of turns) covered).1)
  where
    by : table_runs.IsTurn head turns t → ((d : ℕ) → Heeded d (lines_of turns)) → Heeded c (lines_of (t ∷ turns))
    by (inl r) all = row_heeds head (lines_of turns) t.at.stamp t.at.node t.entries (run_later head turns t.at run.2 run.0) r covered
        (grown head (t ∷ turns) run covered) all c
    by (inr f) all = absurd (fails (subst (λ (es : List Entry). AllCovered (with_turn t.at es (lines_of turns))) f.is covered))
      where
        fails : AllCovered (with_turn t.at (row_start true) (lines_of turns)) → ⊥
        fails k = k.0

pub all_heed : (head : table.Head) (turns : List Turn) → IsRun head turns → AllCovered (lines_of turns) → AllHeed (lines_of turns)
all_heed head turns run covered = all_of (lines_of turns) (λ c. (heeds_run head turns run covered c).of)

-- between turns nothing is owed
pub settled_heeds : (head : table.Head) (turns : List Turn) → IsRun head turns → AllCovered (lines_of turns) → (c : ℕ)
    → owed_of c (lines_of turns) ≡ []
settled_heeds head turns run covered c = (heeds_run head turns run covered c).none
