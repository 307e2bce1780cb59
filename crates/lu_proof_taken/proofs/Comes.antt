-- What is sent to a client in a covered run may come to it: it brings no lock that is held, and no size above the limit; what a
-- reply answers lies in a file; and there is a number for the next life.
use Rattle.std.proofs.Common.{◌≡◌, ℕ, zero, suc, ◌+◌, ◌<◌, ◌≤◌, Bool, true, false, List, [], ◌∷◌, length, map, Option, Some, None, ◌++◌}
use Rattle.std.proofs.Common.{◌⊎◌, inl, inr, ⊎_elim, refl, sym, subst, ap, ◌∙◌, arith}
use Rattle.std.proofs.lemmas.Bool.{and_parts, eqb-true}
use Rattle.std.proofs.lemmas.Bool.Decides.{nat_tests}
use Rattle.std.specs.List.{range_with_len}
use Rattle.std.specs.Prelude.{nat_eq, nat_lt, nat_le, ◌^◌, ◌&&◌, not, if◌then◌else◌}
use Rattle.lu_base.specs.declared.ids.Cookie.{Cookie}
use Rattle.lu_base.specs.declared.ids.Node.TheVariants as node
use Rattle.lu_base.specs.declared.ids.TargetId.{TargetId}
use Rattle.lu_base.specs.declared.ids.Who.{Who}
use Rattle.lu_base.specs.declared.locks.Lock.{Lock}
use Rattle.lu_msg.specs.declared.answers.Answer.{Answer}
use Rattle.lu_msg.specs.declared.answers.Answer.TheVariants as told
use Rattle.lu_msg.specs.declared.messages.GrantNotice.{GrantNotice}
use Rattle.lu_msg.specs.declared.messages.Message.{Message}
use Rattle.lu_msg.specs.declared.messages.Message.TheVariants as message
use Rattle.lu_msg.specs.declared.messages.Reply.{Reply as ReplyTo}
use Rattle.lu_msg.specs.declared.operations.Op.{Op}
use Rattle.lu_msg.specs.declared.operations.Op.TheVariants as op
use Rattle.lu_held.specs.declared.locks.HeldLock.{HeldLock}
use Rattle.lu_held.specs.declared.names.LockName.{LockName}
use Rattle.lu_held.specs.Held.{is_held}
use Rattle.lu_held.specs.Locks.{named, name_of, is_named}
use Rattle.lu_spec_machine.specs.Fits.{answer_fits}
use Rattle.lu_spec_entries.specs.Carried.{Deed, Flight, Work, Stage, Waits, Running}
use Rattle.lu_proof_lawful.proofs.Invariants.TargetGroups.{Flew, RepliesTo, tells_wait}
use Rattle.lu_spec_entries.specs.Concerns.{only}
use Rattle.lu_spec_entries.specs.Words.{Line, same_life}
use Rattle.lu_spec_client.specs.Caches.{held_at, held_as, with_held, granted_lock, brought}
use Rattle.lu_spec_client.specs.Imports.{Import, import_of, import_at}
use Rattle.lu_spec_client.specs.Messages.{find_flight, is_present, size_with, waiter, waits_for, is_waiter}
use Rattle.lu_spec_client.specs.States.{Client}
use Rattle.lu_client.specs.Comings.{are_new, is_short, is_in_file, may_answer, may_fit, may_reply, may_hold, may_grant, may_evict}
use Rattle.lu_client.specs.Comings.{may_from}
use Rattle.lu_spec_client.specs.Calls.{call_at, calls_at, life_at}
use Rattle.lu_proof_lawful.specs.Covered.ClientStates.{flights_of, life_of, awaits_of}
use Rattle.lu_spec_run.specs.Heads.{Head}
use Rattle.lu_spec_run.specs.Runs.{client_of}
use Rattle.lu_proof_lawful.proofs.Preconditions.Awaits.{Awaits, HeardToWait, lock_named, counted, waits_heard}
use Rattle.lu_proof_lawful.proofs.Preconditions.ClientHears.{one_differs}
use Rattle.lu_proof_lawful.proofs.Preconditions.ClientLines.{IsLock, IsBytes, IsSimple, IsAskedOf, asked_parts, brings_its, reply_differs}
use Rattle.lu_proof_lawful.proofs.Preconditions.ClientLocks.{Differ, none_any, names_same, with_only}
use Rattle.lu_proof_lawful.proofs.Preconditions.ClientReplies.{found_in}
use Rattle.lu_proof_lawful.proofs.Preconditions.Grown.{Grown}
use Rattle.lu_proof_lawful.proofs.Preconditions.Heard.{In, Was, HeardAs}
use Rattle.lu_proof_lawful.proofs.Preconditions.Held.{held_into}
use Rattle.lu_proof_lawful.proofs.Preconditions.Lists.{self, life_is}
use Rattle.lu_proof_lawful.proofs.Preconditions.LockKinds.{reply_bare}
use Rattle.lu_proof_lawful.proofs.Preconditions.Only.{was_only, grown_of}
use Rattle.lu_proof_lawful.proofs.Preconditions.Parts.{flights_is, life_is_of}
use Rattle.lu_proof_lawful.proofs.Preconditions.Turns.{covered_head}
use Rattle.lu_proof_lawful.proofs.Invariants.All.{holds}
use Rattle.lu_proof_lawful.proofs.Invariants.Groups.{HoldsAt}
use Rattle.lu_proof_lawful.proofs.Invariants.LockLists.{brought_again}
use Rattle.lu_proof_lawful.proofs.Invariants.Sides.{flew_kind}
use Rattle.lu_proof_lawful.specs.Coming.{InFile, IsShort}
use Rattle.lu_proof_lawful.proofs.Coming.Asked.{flew_in}
use Rattle.lu_proof_taken.proofs.Grants.{awaited_new}
use Rattle.lu_proof_lawful.proofs.Coming.Sizes.{answers_short, notices_short}

-- ---- locks that come are new

abbrev of : ℕ → TargetId
of t = record { 0 = t }

free_so : (t : ℕ) (cookie : Cookie) (held : List HeldLock) → ((h : HeldLock) → In h held → h.target.0 ≡ t → h.lock.cookie ≡ cookie → ⊥)
    → is_held (named (of t) cookie) held ≡ false
free_so t cookie held apart = none_any (is_named (named (of t) cookie)) held
    (λ h i. by h (is_named (named (of t) cookie) h) refl (apart h i))
  where
    by : (h : HeldLock) (b : Bool) → is_named (named (of t) cookie) h ≡ b → (h.target.0 ≡ t → h.lock.cookie ≡ cookie → ⊥) → b ≡ false
    by h false e away = refl
    by h true e away =
        let same = names_same (named (of t) cookie) (name_of h) e in
        absurd (away (ap (λ (n : LockName). n.target.0) (sym same)) (ap (λ (n : LockName). n.cookie) (sym same)))

new_so : (t : ℕ) (locks : List Lock) (held : List HeldLock) → Differ locks
    → ((l : Lock) → In l locks → (h : HeldLock) → In h held → h.target.0 ≡ t → h.lock.cookie ≡ l.cookie → ⊥) → are_new t locks held ≡ true
new_so t [] held differ apart = refl
new_so t (l ∷ locks) held differ apart =
    let free = free_so t l.cookie held (apart l (inl refl)) in
    let rest = new_so t locks (with_held (held_as t l false) held) differ.1 (λ m i h j there same. ⊎_elim
    (λ (e : held_as t l false ≡ h).
    let one : l.cookie.0 ≡ m.cookie.0 = ap (λ (x : HeldLock). x.lock.cookie.0) e ∙ ap (λ (x : Cookie). x.0) same in
    let other = differ.0 m i in
    grind (arith, nat_tests, one, other))
    (λ (k : In h held). apart m (inr i) h k there same)
    (with_only (held_as t l false) h held j)) in
    ap (λ (b : Bool). not b && are_new t locks (with_held (held_as t l false) held)) free ∙ rest

-- ---- sizes and operations

le_so : (a b : ℕ) → a ≤ b → nat_le a b ≡ true
le_so a b low = grind (arith, nat_tests, low)

lt_so : (a b : ℕ) → a < b → nat_lt a b ≡ true
lt_so a b low = grind (arith, nat_tests, low)

short_so : (a : Answer) → IsShort a → is_short (size_with a) ≡ true
short_so (told.Granted cookie extent size) short = le_so size (2 ^ 40) short
short_so a short = refl

in_file_so : (o : Op) → InFile o → is_in_file o ≡ true
in_file_so (op.Get resource cookie page) fits = lt_so page (2 ^ 28) fits
in_file_so (op.Put resource cookie at bs) fits = le_so (at + length bs) (2 ^ 40) fits
in_file_so (op.Cut resource cookie n) fits = le_so n (2 ^ 40) fits
in_file_so o fits = refl

-- ---- a call that waits for a lock

-- it stands in one of the slots
slot_of : (name : LockName) (c s : ℕ) (past : List Line) → waiter name 0 (calls_at c past) ≡ Some s
    → (i : ℕ) × (i < 4) × (is_waiter name (call_at c i past) ≡ true)
slot_of name c s past e = by (is_waiter name (call_at c 0 past)) refl (is_waiter name (call_at c 1 past)) refl
    (is_waiter name (call_at c 2 past)) refl (is_waiter name (call_at c 3 past)) refl e
  where
    by : (x : Bool) → is_waiter name (call_at c 0 past) ≡ x → (y : Bool) → is_waiter name (call_at c 1 past) ≡ y → (z : Bool)
        → is_waiter name (call_at c 2 past) ≡ z → (w : Bool) → is_waiter name (call_at c 3 past) ≡ w
        → (if x then Some 0 else if y then Some 1 else if z then Some 2 else if w then Some 3 else None) ≡ Some s
        → (i : ℕ) × (i < 4) × (is_waiter name (call_at c i past) ≡ true)
    by true a y b z d w f e = (0, omega arith, a)
    by false a true b z d w f e = (1, omega arith, b)
    by false a false b true d w f e = (2, omega arith, d)
    by false a false b false d true f e = (3, omega arith, f)
    by false a false b false d false f e = absurd (cc)

record WaitsFor (name : LockName) (x : Option Running) : Type 0 where
  call : Running
  is : x ≡ Some call
  work : Work
  target : TargetId
  lock : Lock
  marked : Bool
  stage : call.stage ≡ Waits work target lock marked
  of_target : target.0 ≡ name.target.0
  of_cookie : lock.cookie.0 ≡ name.cookie.0

waits_so : (name : LockName) (x : Option Running) → is_waiter name x ≡ true → WaitsFor name x
waits_so name None e = absurd (cc)
waits_so name (Some r) e = by r.stage refl e
  where
    by : (s : Stage) → r.stage ≡ s → waits_for name s ≡ true → WaitsFor name (Some r)
    by (Waits w target l m) q e =
        let p = and_parts (nat_eq target.0 name.target.0) (nat_eq l.cookie.0 name.cookie.0) e in
        record {
          call = r;
          is = refl;
          work = w;
          target = target;
          lock = l;
          marked = m;
          stage = q;
          of_target = eqb-true target.0 name.target.0 p.0;
          of_cookie = eqb-true l.cookie.0 name.cookie.0 p.1;
        }
    by s q e = absurd (cc)

-- ---- the import of each target of the run

import_from : (f : ℕ → Import) (n from t : ℕ) → t < n → import_of t (map f (range_with_len from n)) ≡ f (from + t)
import_from f zero from t low = absurd (omega (arith, low))
import_from f (suc n) from zero low = ap f (let same : from ≡ from + 0 = omega arith in same)
import_from f (suc n) from (suc t) low = import_from f n (from + 1) t (omega (arith, low))
    ∙ ap f (let same : from + 1 + t ≡ from + suc t = omega arith in same)

module _ (head : Head) (past : List Line) (g : Grown (covered_head head) past) (c : ℕ) (awaits : Awaits c past)
    (lives : (life_at c past).life + 1 < 2 ^ 32) where
  abbrev k : Client
  k = client_of head c past

  module _ (t : ℕ) (there : t ≤ head.osts) where
    abbrev story : List Line
    story = only t past

    h : HoldsAt (covered_head head) story
    h = (holds (covered_head head) past g).at t

    import_is : import_of t k.imports ≡ import_at c t past
    import_is = import_from (λ (u : ℕ). import_at c u past) (head.osts + 1) 0 t (omega (arith, there))
        ∙ ap (λ (u : ℕ). import_at c u past) (let same : 0 + t ≡ t = omega arith in same)

    abbrev life : Who
    life = life_of c story

    flights_story : (import_of t k.imports).flights ≡ flights_of life story
    flights_story =
        ap (λ (i : Import). i.flights) import_is ∙ flights_is (covered_head head) c t past g
        ∙ ap (λ (who : Who). flights_of who story) (life_is_of c t past)

    -- ---- a reply to a request that is in flight

    module _ (r : ReplyTo) (was : Was past (node.Target t) (node.Client c) (message.Reply r)) (f : Flight)
        (flying : In f (flights_of life story)) (number : f.xid ≡ r.xid.0) (mine : r.who ≡ life) where
      here : Was story (node.Target t) (node.Client c) (message.Reply r)
      here = was_only t past (node.Target t) (node.Client c) (message.Reply r) (self t) was

      meant : RepliesTo head.osts story c r
      meant = h.done.sent (node.Target t) (node.Client c) (message.Reply r) here

      abbrev d : Deed
      d = meant.deed

      same_op : f.op ≡ d.op
      same_op =
          let flew = h.done.flew d meant.acted in
          let who : d.reply.who ≡ life = sym (ap (λ (v : ReplyTo). v.who) meant.is) ∙ mine in
          let xid : f.xid ≡ flew.0.xid = number ∙ ap (λ (v : ReplyTo). v.xid.0) meant.is ∙ sym flew.2 in
          ap (λ (x : Flight). x.op)
          (h.numbers.one life f flew.0 (h.numbers.flying life f flying) (subst (λ (w : Who). Flew story w flew.0) who flew.1) xid)
          ∙ flew.3

      brings : brought f.op r ≡ brought d.op d.reply
      brings = ap (λ (o : Op). brought o r) same_op ∙ brought_again d.op d.reply r meant.is

      unheld : (l : Lock) → In l (brought f.op r) → (x : HeldLock) → In x (held_at c past) → x.target.0 ≡ t → x.lock.cookie ≡ l.cookie → ⊥
      unheld l i x j of_target same =
          let holding = h.locks.held c x (held_into c t past x of_target j) in
          let among : In l (brought d.op d.reply) = subst (λ (ls : List Lock). In l ls) brings i in
          let one = (h.locks.once d holding.deed l x.lock (meant.acted, inl among) holding.gave (sym same)).0 in
          let xid : f.xid ≡ holding.deed.reply.xid.0 = number ∙ ap (λ (v : ReplyTo). v.xid.0) meant.is
          ∙ ap (λ (v : Deed). v.reply.xid.0) one in
          (h.numbers.over life holding.deed.reply.xid.0 holding.heard).1 f flying xid

      asked : IsAskedOf t f.op
      asked = flew_kind (covered_head head) past t life f g (h.numbers.flying life f flying)

      differ : IsSimple f.op ⊎ ((0 < t) × (IsLock f.op ⊎ IsBytes f.op)) → Differ (brought f.op r)
      differ (inl simple) = subst Differ (sym (brings_its f.op r simple))
          (reply_differs (covered_head head) story (node.Target t) c r (grown_of (covered_head head) t past g) here)
      differ (inr object) =
          subst (λ (ls : List Lock). Differ (ls ++ granted_lock f.op r r.answer))
          (sym (reply_bare (covered_head head) t past g object.0 (node.Target t) (node.Client c) r here))
          (one_differs f.op r r.answer)

      locks_new : are_new t (brought f.op r) k.store.held ≡ true
      locks_new = new_so t (brought f.op r) k.store.held (differ (asked_parts t f.op asked)) unheld

      short : is_short (size_with r.answer) ≡ true
      short = short_so r.answer
          (subst IsShort (sym (ap (λ (v : ReplyTo). v.answer) meant.is)) (answers_short (covered_head head) past g t d meant.acted))

      in_file : is_in_file f.op ≡ true
      in_file = in_file_so f.op (flew_in (covered_head head) past g t life f (h.numbers.flying life f flying))

      answers : may_answer t r f k ≡ true
      answers = rw (locks_new, short, in_file) refl

    reply_comes : (r : ReplyTo) → Was past (node.Target t) (node.Client c) (message.Reply r) → may_reply t r k ≡ true
    reply_comes r was = by (is_present r.who r.boot t k) refl
      where
        fit : r.who ≡ life → (o : Option Flight) → find_flight r.xid.0 (import_of t k.imports).flights ≡ o → may_fit t r k o ≡ true
        fit mine None found = refl
        fit mine (Some f) found = by_answer (answer_fits f.op r.answer)
          where
            by_answer : (b : Bool) → (if b then may_answer t r f k else true) ≡ true
            by_answer false = refl
            by_answer true =
                let i = found_in r.xid.0 (import_of t k.imports).flights f found in
                answers r was f (subst (λ (fs : List Flight). In f fs) flights_story i.0) i.1 mine

        by : (b : Bool) → is_present r.who r.boot t k ≡ b
            → (if b then may_fit t r k (find_flight r.xid.0 (import_of t k.imports).flights) else true) ≡ true
        by false e = refl
        by true e =
            let same = and_parts (same_life r.who k.who) (nat_eq r.boot (import_of t k.imports).boot) e in
            fit (life_is r.who k.who same.0 ∙ life_is_of c t past) (find_flight r.xid.0 (import_of t k.imports).flights) refl

    -- ---- the grant of a lock that a call waits for

    grant_new : (cookie : Cookie) (i : ℕ) → i < 4 → is_waiter (named (of t) cookie) (call_at c i past) ≡ true → (x : HeldLock)
        → In x (held_at c past) → x.target.0 ≡ t → x.lock.cookie ≡ cookie → ⊥
    grant_new cookie i small waits x j of_target same =
        let w = waits_so (named (of t) cookie) (call_at c i past) waits in
        let heard : HeardToWait story (life_at c past) w.lock =
        subst (λ (u : ℕ). HeardToWait (only u past) (life_at c past) w.lock) w.of_target
        (waits_heard (covered_head head) past g c i w.call w.work w.target w.lock w.marked w.is w.stage) in
        let number = w.of_cookie in
        let tells : tells_wait heard.flight.op heard.reply.answer cookie.0 ≡ true =
        subst (λ (o : Op). tells_wait o heard.reply.answer cookie.0 ≡ true) (sym heard.asked)
        (subst (λ (a : Answer). tells_wait (op.Enqueue w.lock.resource w.lock.ask.mode heard.extent) a cookie.0 ≡ true)
        (sym heard.told) (same_so w.lock.cookie.0 cookie.0 number)) in
        let some : 0 < awaits_of (life_at c past) cookie.0 story = subst (λ (n : ℕ). 0 < n) (sym (awaits.counts t cookie.0))
        (counted (lock_named t cookie.0) c i past small waits) in
        awaited_new (covered_head head) story h c cookie heard.flight heard.reply
        (subst (λ (who : Who). HeardAs story who heard.flight heard.reply) (life_is_of c t past) heard.heard) tells
        (subst (λ (who : Who). 0 < awaits_of who cookie.0 story) (life_is_of c t past) some)
        x (held_into c t past x of_target j) same
      where
        same_so : (a b : ℕ) → a ≡ b → nat_eq a b ≡ true
        same_so a b e = grind (arith, nat_tests, e)

    grant_comes : (n : GrantNotice) → Was past (node.Target t) (node.Client c) (message.Grant n) → may_grant t n k ≡ true
    grant_comes n was = by (is_present n.who n.boot t k)
      where
        hold : (o : Option ℕ) → waiter (named (of t) n.cookie) 0 k.calls ≡ o → may_hold t n k o ≡ true
        hold None e = refl
        hold (Some s) e =
            let slot = slot_of (named (of t) n.cookie) c s past e in
            let free = free_so t n.cookie k.store.held (grant_new n.cookie slot.0 slot.1 slot.2) in
            let low = le_so n.size (2 ^ 40)
            (notices_short (covered_head head) past g t (node.Target t) (node.Client c) n
            (was_only t past (node.Target t) (node.Client c) (message.Grant n) (self t) was)) in
            rw (free, low) refl

        by : (b : Bool) → (if b then may_hold t n k (waiter (named (of t) n.cookie) 0 k.calls) else true) ≡ true
        by false = refl
        by true = hold (waiter (named (of t) n.cookie) 0 k.calls) refl

    -- ---- the end of a life

    eviction_comes : (who : Who) → may_evict who k ≡ true
    eviction_comes who = by (same_life who k.who) refl
      where
        by : (b : Bool) → same_life who k.who ≡ b → (if b then nat_lt (k.who.life + 1) (2 ^ 32) else true) ≡ true
        by false e = refl
        by true e = lt_so (k.who.life + 1) (2 ^ 32) lives

    -- ---- all of them

    pub comes_from : (m : Message) → Was past (node.Target t) (node.Client c) m → may_from t m k ≡ true
    comes_from (message.Reply r) was = reply_comes r was
    comes_from (message.Grant n) was = grant_comes n was
    comes_from (message.Evicted who boot) was = eviction_comes who
    comes_from m was = refl
