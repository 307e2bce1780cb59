-- What every run keeps of locks: what is held came in its turn, and what is released was given back in its turn or its life was evicted
-- there.
use Rattle.std.proofs.Common.{◌≡◌, ℕ, Bool, true, false, List, [], ◌∷◌, ◌⊎◌, inl, inr, ⊎_elim, Option, Some, refl, sym, subst, ap, ◌∙◌}
use Rattle.std.proofs.Common.{arith}
use Rattle.std.specs.Prelude.{nat_eq, ◌&&◌, ◌||◌, find}
use Rattle.std.specs.List.{list_any}
use Rattle.std.proofs.lemmas.Bool.{cond_both, eqb-true, eq-eqb}
use Rattle.std.proofs.lemmas.Bool.Decides.{nat_tests}
use Rattle.lu_base.specs.declared.ids.At.{At}
use Rattle.lu_base.specs.declared.ids.Cookie.{Cookie}
use Rattle.lu_base.specs.declared.ids.Node.{Node}
use Rattle.lu_base.specs.declared.ids.Node.TheVariants.{Client, Target}
use Rattle.lu_base.specs.declared.ids.Stamp.{Stamp}
use Rattle.lu_base.specs.declared.ids.Who.{Who}
use Rattle.lu_base.specs.declared.locks.Lock.{Lock}
use Rattle.lu_msg.specs.declared.answers.Answer.{Answer}
use Rattle.lu_msg.specs.declared.answers.Answer.TheVariants as told
use Rattle.lu_msg.specs.declared.messages.Message.{Message}
use Rattle.lu_msg.specs.declared.messages.Message.TheVariants as message
use Rattle.lu_msg.specs.declared.messages.Reply.{Reply as ReplyTo}
use Rattle.lu_msg.specs.declared.operations.Op.{Op}
use Rattle.lu_msg.specs.declared.operations.Op.TheVariants as op
use Rattle.lu_spec_machine.specs.Tree.{same_life}
use Rattle.lu_trace.specs.declared.entries.Line.{Line as PrintedLine}
use Rattle.lu_spec_entries.specs.Carried.{Deed, Flight}
use Rattle.lu_spec_entries.specs.Words.{Entry, Take, Heard, Hold, Grant, Release, Evict, Line, line}
use Rattle.lu_spec_entries.specs.Concerns.{only}
use Rattle.lu_spec_entries.specs.Printed.{printed}
use Rattle.lu_spec_target.specs.Objects.{lock_of}
use Rattle.lu_spec_client.specs.Caches.{granted_lock}
use Rattle.lu_proof_lawful.specs.Covered.TargetStates.{shown_of}
use Rattle.lu_proof_lawful.specs.Covered.Deeds.{asked}
use Rattle.lu_proof_lawful.specs.Covered.Heads.{Head}
use Rattle.lu_spec_laws.specs.Holds.{Holds}
use Rattle.lu_spec_laws.specs.Words.Pasts.{same_turn}
use Rattle.lu_spec_laws.specs.Words.Sends.{Sending, taken}
use Rattle.lu_spec_laws.specs.Words.Boots.{boot}
use Rattle.lu_spec_laws.specs.Words.Lives.{who_is}
use Rattle.lu_spec_laws.specs.Words.Queues.{has_cookie, granted}
use Rattle.lu_spec_laws.specs.Order.Held as order
use Rattle.lu_spec_laws.specs.Order.Held.{grants, brings_from}
use Rattle.lu_spec_laws.specs.Order.Releases.{is_cancel, has_ended, is_given_back, ReleaseBy, Releases}
use Rattle.lu_spec_laws.specs.Order.Releases as released
use Rattle.lu_spec_laws.specs.Order.Blocks.{has_cause}
use Rattle.lu_spec_laws.proofs.Tests.{clash, either_left, either_right}
use Rattle.lu_proof_lawful.proofs.Preconditions.Guards.{In, Was, Did, HeardNow, TookNow, TookBack, InTurn, IsEvict, HoldsOk}
use Rattle.lu_proof_lawful.proofs.Preconditions.StoryGuards.{BackOk, LeftOk}
use Rattle.lu_proof_lawful.proofs.Preconditions.ClientGuards.{GivenOk}
use Rattle.lu_proof_lawful.proofs.Preconditions.Grown.{Allowed, Grown}
use Rattle.lu_proof_lawful.proofs.Preconditions.Lists.{self, in_append, life_self}
use Rattle.lu_proof_lawful.proofs.Preconditions.Only.{sent_was}
use Rattle.lu_proof_lawful.proofs.Preconditions.Parts.{boot_is as server_boot}
use Rattle.lu_proof_lawful.proofs.Invariants.Groups.{turn}
use Rattle.lu_proof_lawful.proofs.Invariants.All.{holds}
use Rattle.lu_proof_lawful.proofs.Laws.Turns.{same_turn_self}
use Rattle.lu_proof_lawful.proofs.Laws.Story.{was_to}
use Rattle.lu_proof_lawful.proofs.Laws.Lines.{Keeps, holds_before, Nothing}
use Rattle.lu_proof_lawful.proofs.Laws.Printed.{present_is}
use Rattle.lu_proof_lawful.proofs.Laws.Taking.{boot_of}
use Rattle.lu_proof_lawful.proofs.Laws.Given.{owed, Showed}
use Rattle.lu_proof_lawful.proofs.Laws.Granted.{granted_showed, all_granted, granted_shown, JustGave}
use Rattle.lu_proof_lawful.proofs.Laws.Evictions.{in_whole}
use Rattle.lu_proof_lawful.proofs.Laws.Holding.{heard_now, unique}
use Rattle.lu_proof_lawful.proofs.Laws.CloseLines.{nothing_left}
use Rattle.lu_proof_lawful.proofs.Laws.CloseSlots.{NoneLeft}
use Rattle.lu_proof_lawful.proofs.Laws.Notices.{on_way, takes_it}
use Rattle.lu_proof_lawful.proofs.Laws.OrderlyQuiet.{Says}
use Rattle.lu_proof_lawful.proofs.Preconditions.ClientLocks.{any_passes}

-- ---- what is held came in this turn

-- the reply that was just heard was taken
heard_taken : (head : Head) (past : List Line) (at : At) (t : ℕ) (f : Flight) (r : ReplyTo) → Grown head past → HeardNow past at t f r
    → (rest : List Sending) × (taken (printed past) at ≡ on_way (Target t) at.node (message.Reply r) ∷ rest)
heard_taken head [] at t f r g h = absurd h
heard_taken head (l ∷ past) at t f r g h = by l.at.node l.entry g.0 h (heard_taken head past at t f r g.1)
  where
    by : (node : Node) (e : Entry) → Allowed head past (turn l.at.stamp node) e → HeardNow (line (turn l.at.stamp node) e ∷ past) at t f r
        → (HeardNow past at t f r → (rest : List Sending) × (taken (printed past) at ≡ on_way (Target t) at.node (message.Reply r) ∷ rest))
        → (rest : List Sending) × (taken (printed (line (turn l.at.stamp node) e ∷ past)) at ≡ on_way (Target t) at.node (message.Reply r)
        ∷ rest)
    by (Client d) (Heard u k s) a q h =
        let took = takes_it head past (turn l.at.stamp (Client d)) (Target u) (message.Reply s) g.1 a.ok.1 in (
          took.0,
          subst (λ (v : At). taken (printed past) v ≡ on_way (Target t) v.node (message.Reply r) ∷ took.0) q.0
              (subst (λ (v : ℕ). taken (printed past) (turn l.at.stamp (Client d)) ≡ on_way (Target v) (Client d) (message.Reply r)
              ∷ took.0) q.1
              (subst (λ (v : ReplyTo). taken (printed past) (turn l.at.stamp (Client d)) ≡ on_way (Target u) (Client d) (message.Reply v)
              ∷ took.0) q.3 took.1)),
        )
    by (Target u) (Heard v k s) a q h = absurd a.ok
    by node (Hold u lock marked size seen) a q h = h q
    by node e a q h = absurd q

-- what asked for a lock brings the one that the answer grants
grants_it : (o : Op) (r : ReplyTo) (a : Answer) (l : Lock) → In l (granted_lock o r a) → grants l.cookie.0 a ≡ true
grants_it (op.Enqueue resource mode asked) r (told.Granted cookie extent size) l (inl e) =
    subst (λ (v : Lock). nat_eq cookie.0 v.cookie.0 ≡ true) e (self cookie.0)
grants_it (op.Enqueue resource mode asked) r (told.Granted cookie extent size) l (inr i) = absurd i
grants_it o r a l i = absurd i

hold_comes : (head : Head) (past : List Line) (stamp : Stamp) (c t : ℕ) (lock : Lock) (marked : Bool) (size : Option ℕ) (seen : List ℕ)
    → Allowed head past (turn stamp (Client c)) (Hold t lock marked size seen) → Grown head past
    → order.HoldBy (printed past) (turn stamp (Client c)) (Client c) t lock.cookie.0
hold_comes head past stamp c t lock marked size seen a g = by a.ok
  where
    at : At
    at = turn stamp (Client c)

    W : Who
    W = who_is c (printed past)

    comes : (m : Message) (rest : List Sending) → taken (printed past) at ≡ on_way (Target t) (Client c) m ∷ rest
        → brings_from t W lock.cookie.0 (on_way (Target t) (Client c) m) ≡ true
        → list_any (brings_from t W lock.cookie.0) (taken (printed past) at) ≡ true
    comes m rest took b = subst (λ (v : List Sending). list_any (brings_from t W lock.cookie.0) v ≡ true) (sym took)
        (either_left (list_any (brings_from t W lock.cookie.0) rest) b)

    by : HoldsOk past at t lock marked size seen ⊎ GivenOk past at c t lock marked size seen
        → order.HoldBy (printed past) at (Client c) t lock.cookie.0
    -- with the reply
    by (inl ok) =
        let r = ok.reply in
        let i = heard_now head past at c t ok.flight r g refl ok.heard in
        let took = heard_taken head past at t ok.flight r g ok.heard in
        let mine : r.who ≡ W = i.0.who ∙ sym (present_is head c past g) in
        let own : same_life r.who W ≡ true = subst (λ (v : Who). same_life r.who v ≡ true) mine (life_self r.who) in
        let among : (grants lock.cookie.0 r.answer || list_any (λ (l : Lock). nat_eq l.cookie.0 lock.cookie.0) r.locks) ≡ true = ⊎_elim
        (λ (j : In lock r.locks). either_right (grants lock.cookie.0 r.answer)
        (any_passes (λ (l : Lock). nat_eq l.cookie.0 lock.cookie.0) lock r.locks j (self lock.cookie.0)))
        (λ (j : In lock (granted_lock ok.flight.op r r.answer)). either_left
        (list_any (λ (l : Lock). nat_eq l.cookie.0 lock.cookie.0) r.locks) (grants_it ok.flight.op r r.answer lock j))
        (in_append lock r.locks (granted_lock ok.flight.op r r.answer) ok.among)
        in
        comes (message.Reply r) took.0 took.1 (rw (self t, own, among) refl)
    -- with the grant, once it had waited
    by (inr ok) =
        let took = takes_it head past at (Target t) (message.Grant ok.notice) g ok.took in
        let mine : ok.notice.who ≡ W = ok.who ∙ sym (present_is head c past g) in
        let own : same_life ok.notice.who W ≡ true = subst (λ (v : Who). same_life ok.notice.who v ≡ true) mine (life_self ok.notice.who) in
        let cookie : nat_eq ok.notice.cookie.0 lock.cookie.0 ≡ true =
        eq-eqb ok.notice.cookie.0 lock.cookie.0 (ap (λ (k : Cookie). k.0) (sym ok.of_cookie)
        ∙ ap (λ (l : Lock). l.cookie.0) (sym ok.is)) in
        comes (message.Grant ok.notice) took.0 took.1 (rw (self t, own, cookie) refl)

held_at : (head : Head) (past : List Line) (l : Line) (later : List PrintedLine) → Allowed head past l.at l.entry → Grown head past
    → Keeps order.Held past l later
held_at head past l later a g = by l.at.node l.entry a
  where
    by : (node : Node) (e : Entry) → Allowed head past (turn l.at.stamp node) e → Says order.Held past (turn l.at.stamp node) later e
    by (Client c) (Hold t lock marked size seen) k = hold_comes head past l.at.stamp c t lock marked size seen k g
    by (Target u) (Hold t lock marked size seen) k = absurd k.ok
    by _ _ k = tt

pub held : (head : Head) (past : List Line) → Grown head past → Holds order.Held (printed past)
held head past g = holds_before head order.Held Nothing (λ l past k. k) (λ past l later a g k. held_at head past l later a g) past [] g tt

-- ---- the granted lock of a cookie

found_one : (l : Lock) (ls : List Lock) → ((k : Lock) → In k ls → k.cookie.0 ≡ l.cookie.0 → k ≡ l) → In l ls
    → find (has_cookie l.cookie.0) ls ≡ Some l
found_one l [] one i = absurd i
found_one l (k ∷ ls) one i = by (has_cookie l.cookie.0 k) refl (found_one l ls (λ x j. one x (inr j)))
  where
    by : (b : Bool) → has_cookie l.cookie.0 k ≡ b → (In l ls → find (has_cookie l.cookie.0) ls ≡ Some l)
        → find (has_cookie l.cookie.0) (k ∷ ls) ≡ Some l
    by true e h = rw e (ap (λ (v : Lock). Some v) (one k (inl refl) (eqb-true k.cookie.0 l.cookie.0 e)))
    by false e h = rw e (h (⊎_elim (λ (q : k ≡ l). absurd (clash (has_cookie l.cookie.0 k)
        (ap (λ (v : Lock). has_cookie l.cookie.0 v) q ∙ self l.cookie.0) e)) (λ (j : In l ls). j) i))

-- where nothing was just done, a granted lock whose release isn't shown is found by its cookie
pub granted_found : (t : ℕ) (head : Head) (past : List Line) (l : Lock) → Grown head past → ((d : Deed) → Did past d → ⊥)
    → In l (shown_of (only t past)) → find (has_cookie l.cookie.0) (granted t (printed past)) ≡ Some l
granted_found t head past l g none i =
    found_one l (granted t (printed past)) (λ k j q. unique head t past g k l (granted_showed t head past k g j) shown q) here
  where
    here : In l (granted t (printed past))
    here = ⊎_elim (λ (q : In l (granted t (printed past))). q) (λ (q : JustGave t past l). absurd (none q.0 q.1))
        (all_granted t head past g l i)

    shown : Showed t past l
    shown = granted_showed t head past l g here

-- ---- what is released was given back in this turn

took_was : (head : Head) (past : List Line) (at : At) (from : Node) (m : Message) → Grown head past → TookNow past at from m
    → Was past from at.node m
took_was head [] at from m g t = absurd t
took_was head (l ∷ past) at from m g t = by l.entry g.0 t
  where
    by : (e : Entry) → Allowed head past l.at e → TookNow (line l.at e ∷ past) at from m → Was (line l.at e ∷ past) from at.node m
    by (Take n sender p) k t =
        subst (λ (v : At). Was past from v.node m) t.0 (subst (λ (v : Node). Was past v l.at.node m) t.1
        (subst (λ (v : Message). Was past sender l.at.node v) t.2 (sent_was past n sender l.at.node p k.ok.sent)))
    by _ k t = absurd t

in_lock_of : (who : Who) (cookie : Cookie) (l : Lock) (ls : List Lock) → lock_of who cookie ls ≡ Some l → In l ls
in_lock_of who cookie l [] e = absurd (cc)
in_lock_of who cookie l (k ∷ ls) e = cond_both (nat_eq k.cookie.0 cookie.0 && same_life k.ask.who who) (Some k) (lock_of who cookie ls)
    (λ (o : Option Lock). o ≡ Some l → In l (k ∷ ls))
    (λ t q. inl cc)
    (λ t q. inr (in_lock_of who cookie l ls q))
    e

-- this turn evicted its life
evict_in : (past : List Line) (at : At) (who : Who) → InTurn (IsEvict who) past at → has_ended (printed past) at who ≡ true
evict_in [] at who i = absurd i
evict_in (l ∷ past) at who i = by l.entry i (evict_in past at who)
  where
    by : (e : Entry) → InTurn (IsEvict who) (line l.at e ∷ past) at
        → (InTurn (IsEvict who) past at → has_ended (printed past) at who ≡ true) → has_ended (printed (line l.at e ∷ past)) at who ≡ true
    by (Evict other cause) (inl p) h =
        either_left (has_ended (printed past) at who)
        (rw (
          subst (λ (v : At). same_turn l.at v ≡ true) p.0 (same_turn_self l.at),
          subst (λ (w : Who). same_life other w ≡ true) p.1 (life_self other),
        ) refl)
    by (Evict other cause) (inr q) h = either_right (same_turn l.at at && same_life other who) (h q)
    by _ (inl p) h = absurd p.1
    by _ (inr q) h = h q

module _ (head : Head) (past : List Line) (stamp : Stamp) (t : ℕ) (lock : Lock)
    (a : Allowed head past (turn stamp (Target t)) (Release lock)) (g : Grown head past) where
  abbrev here : At
  here = turn stamp (Target t)

  -- nothing of a close is left to show
  release_none : NoneLeft head t past
  release_none = nothing_left head (only t past) here (Release lock) (a.shows t (self t)) (λ s. s)

  release_shown : In lock (shown_of (only t past))
  release_shown =
      let ok = a.of t (self t) in
      ⊎_elim
      (λ (b : BackOk head.osts (only t past) t lock). granted_shown t head past lock g ok.0 release_none
      (in_lock_of lock.ask.who lock.cookie lock _ b.found))
      (λ (b : LeftOk head.osts (only t past) lock). b.shown)
      ok.1

  took_back : TookBack past here t lock → is_given_back (printed past) here t lock.cookie.0 lock.ask.who ≡ true
  took_back back =
      let was = was_to head past t back.from (message.Cancel lock.ask.who back.boot lock.cookie) g
      (took_was head past here back.from (message.Cancel lock.ask.who back.boot lock.cookie) g back.took) in
      let high = (((holds head past g).at t).boots back.from (Target t) (message.Cancel lock.ask.who back.boot lock.cookie) was).1 in
      let now = server_boot head.osts t past in
      let current = back.current in
      let is = boot_of head t past g in
      let first : back.boot ≡ boot t (printed past) = grind (arith, nat_tests, high, now, current, is) in
      let took = takes_it head past here back.from (message.Cancel lock.ask.who back.boot lock.cookie) g back.took in
      let its : nat_eq back.boot (boot t (printed past)) ≡ true = subst (λ (v : ℕ). nat_eq back.boot v ≡ true) first (self back.boot) in
      let cancels : is_cancel (boot t (printed past)) lock.ask.who lock.cookie.0 (message.Cancel lock.ask.who back.boot lock.cookie)
      ≡ true = rw (its, life_self lock.ask.who, self lock.cookie.0) refl in
      either_left (has_ended (printed past) here lock.ask.who)
      (subst (λ (v : List Sending). list_any (λ (s : Sending). is_cancel (boot t (printed past)) lock.ask.who lock.cookie.0 s.message) v
      ≡ true) (sym took.1)
      (either_left (list_any (λ (s : Sending). is_cancel (boot t (printed past)) lock.ask.who lock.cookie.0 s.message) took.0) cancels))

  release_given : ReleaseBy (printed past) here (Target t) lock.cookie.0
  release_given =
      let found = granted_found t head past lock g (λ d did. owed past here d (Release lock) did a.owes) release_shown in
      let given : is_given_back (printed past) here t lock.cookie.0 lock.ask.who ≡ true = ⊎_elim
      (λ (back : TookBack past here t lock). took_back back)
      (λ (i : InTurn (IsEvict lock.ask.who) (only t past) here).
      either_right (list_any (λ (s : Sending). is_cancel (boot t (printed past)) lock.ask.who lock.cookie.0 s.message)
      (taken (printed past) here))
      (evict_in past here lock.ask.who (in_whole (IsEvict lock.ask.who) t past here i)))
      a.ok
      in
      subst (λ (o : Option Lock). released.has_cause (printed past) here t lock.cookie.0 o ≡ true) (sym found) given

releases_at : (head : Head) (past : List Line) (l : Line) (later : List PrintedLine) → Allowed head past l.at l.entry → Grown head past
    → Keeps Releases past l later
releases_at head past l later a g = by l.at.node l.entry a
  where
    by : (node : Node) (e : Entry) → Allowed head past (turn l.at.stamp node) e → Says Releases past (turn l.at.stamp node) later e
    by (Client c) (Release lock) k = absurd k.ok
    by (Target t) (Release lock) k = release_given head past l.at.stamp t lock k g
    by _ _ k = tt

pub releases : (head : Head) (past : List Line) → Grown head past → Holds Releases (printed past)
releases head past g = holds_before head Releases Nothing (λ l past k. k) (λ past l later a g k. releases_at head past l later a g) past []
    g tt
