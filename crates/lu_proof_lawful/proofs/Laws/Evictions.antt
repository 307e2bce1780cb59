-- An eviction by the law of recovery: the life has a slot, all was committed in the turn, and the turn ticked after the life was
-- called back, or took the join of a newer one.
use Rattle.std.proofs.Common.{◌≡◌, ℕ, Bool, true, false, List, [], ◌∷◌, Option, Some, None, inl, inr, ⊎_elim, refl, sym, subst, ap, ◌∙◌}
use Rattle.std.proofs.Common.{arith}
use Rattle.std.specs.Prelude.{nat_eq, not, ◌&&◌, if◌then◌else◌, unwrap_or}
use Rattle.std.specs.Bool.{then_some}
use Rattle.std.proofs.lemmas.Bool.{cond_both, eqb-true, eq-eqb, lt-ltb, true≢false}
use Rattle.lu_base.specs.declared.ids.At.{At}
use Rattle.lu_base.specs.declared.ids.Cookie.{Cookie}
use Rattle.lu_base.specs.declared.ids.Node.{Node}
use Rattle.lu_base.specs.declared.ids.Node.TheVariants.{Client, Target}
use Rattle.lu_base.specs.declared.ids.Stamp.{Stamp}
use Rattle.lu_base.specs.declared.ids.Who.{Who}
use Rattle.lu_base.specs.declared.locks.Cause.{Cause}
use Rattle.lu_base.specs.declared.locks.Cause.TheVariants.{Expired, Replaced}
use Rattle.lu_base.specs.declared.locks.Lock.{Lock}
use Rattle.lu_msg.specs.declared.messages.Message.{Message}
use Rattle.lu_msg.specs.declared.messages.Message.TheVariants as message
use Rattle.lu_trace.specs.declared.entries.Line.{Line as PrintedLine}
use Rattle.lu_spec_entries.specs.Carried.{Called}
use Rattle.lu_spec_entries.specs.Words.{Entry, Take, Tick, Commit, Block, Boot, Close, Evict, Line, line, turn_before, same_life}
use Rattle.lu_spec_entries.specs.Concerns.{concerns, only}
use Rattle.lu_spec_entries.specs.Printed.{printed}
use Rattle.lu_proof_lawful.specs.Covered.TargetStates.{server_of, closed_of}
use Rattle.lu_proof_lawful.specs.Covered.TargetCloses.{but_first, closing_of}
use Rattle.lu_proof_lawful.specs.Covered.Heads.{Head}
use Rattle.lu_spec_laws.specs.Words.Pasts.{same_turn, or_else, newest}
use Rattle.lu_spec_laws.specs.Words.Scopes.{only_here, any_in}
use Rattle.lu_spec_laws.specs.Words.Sends.{Sending, taken}
use Rattle.lu_spec_laws.specs.Words.Queues.{has_cookie, granted}
use Rattle.lu_spec_laws.specs.Words.CalledBack.{is_granted_to, was_called_back}
use Rattle.lu_spec_laws.specs.Words.Closes.{cause_at, is_finished, closes_in, decided}
use Rattle.lu_spec_laws.specs.Laws.Recovery.{is_commit, is_tick, joins_after, takes_newer, EvictedBy, EvictedIn, EvictAt}
use Rattle.lu_spec_laws.proofs.Tests.{either_left, either_right}
use Rattle.lu_proof_lawful.proofs.Preconditions.Guards.{In, Later, IsTurnOf, InTurn, IsCommit, IsTick}
use Rattle.lu_proof_lawful.proofs.Preconditions.StoryGuards.{CalledBefore, TookSince, TookNewer, IsServing, BlocksOk, EvictOk}
use Rattle.lu_proof_lawful.proofs.Preconditions.Grown.{ShowsNext, Allowed, Grown, IsPlaced, GrownOf}
use Rattle.lu_proof_lawful.proofs.Preconditions.StoryGuards as story_guards
use Rattle.lu_proof_lawful.proofs.Preconditions.Lists.{self, life_self, turn_irreflexive}
use Rattle.lu_proof_lawful.proofs.Preconditions.Only.{grown_of}
use Rattle.lu_proof_lawful.proofs.Preconditions.TargetLeaving.{since_took}
use Rattle.lu_proof_lawful.proofs.Invariants.Groups.{turn}
use Rattle.lu_proof_lawful.proofs.Invariants.All.{holds}
use Rattle.lu_proof_lawful.proofs.Laws.Turns.{later_before, same_turn_is, same_turn_self}
use Rattle.lu_proof_lawful.proofs.Laws.Printed.{flip, took_whole, took_taken}
use Rattle.lu_proof_lawful.proofs.Laws.CloseLines.{nothing_left}
use Rattle.lu_proof_lawful.proofs.Laws.CloseSlots.{slot_now}
use Rattle.lu_proof_lawful.proofs.Laws.Given.{owed}
use Rattle.lu_proof_lawful.proofs.Laws.Granted.{all_granted, granted_shown, JustGave}
use Rattle.lu_proof_lawful.proofs.Laws.Hearing.{other_turn}
use Rattle.lu_proof_lawful.proofs.Preconditions.ClientLocks.{any_passes}

-- ---- lines of the turn

module _ (P : Entry → Type 0) where
  pub in_whole : (t : ℕ) (past : List Line) (at : At) → InTurn P (only t past) at → InTurn P past at
  in_whole t [] at i = i
  in_whole t (l ∷ past) at i = cond_both (concerns t l.at.node l.entry) (l ∷ only t past) (only t past)
      (λ (p : List Line). InTurn P p at → InTurn P (l ∷ past) at)
      (λ e j. ⊎_elim (λ (p : (l.at ≡ at) × P l.entry). inl p) (λ (q : InTurn P (only t past) at). inr (in_whole t past at q)) j)
      (λ e j. inr (in_whole t past at j))
      i

same_turn_of : (a b : At) → a ≡ b → same_turn a b ≡ true
same_turn_of a b e = subst (λ (v : At). same_turn a v ≡ true) e (same_turn_self a)

pub commit_in : (past : List Line) (at : At) → InTurn IsCommit past at → any_in is_commit at (printed past) ≡ true
commit_in [] at i = absurd i
commit_in (l ∷ past) at i = by l.entry i (commit_in past at)
  where
    by : (e : Entry) → InTurn IsCommit (line l.at e ∷ past) at → (InTurn IsCommit past at → any_in is_commit at (printed past) ≡ true)
        → any_in is_commit at (printed (line l.at e ∷ past)) ≡ true
    by (Commit to batch) (inl p) h = either_left (any_in is_commit at (printed past)) (same_turn_of l.at at p.0)
    by (Commit to batch) (inr q) h = either_right (same_turn l.at at) (h q)
    by _ (inl p) h = absurd p.1
    by _ (inr q) h = h q

tick_in : (past : List Line) (at : At) → InTurn IsTick past at → any_in is_tick at (printed past) ≡ true
tick_in [] at i = absurd i
tick_in (l ∷ past) at i = by l.entry i (tick_in past at)
  where
    by : (e : Entry) → InTurn IsTick (line l.at e ∷ past) at → (InTurn IsTick past at → any_in is_tick at (printed past) ≡ true)
        → any_in is_tick at (printed (line l.at e ∷ past)) ≡ true
    by Tick (inl p) h = either_left (any_in is_tick at (printed past)) (same_turn_of l.at at p.0)
    by Tick (inr q) h = either_right (same_turn l.at at) (h q)
    by _ (inl p) h = absurd p.1
    by _ (inr q) h = h q

-- ---- a life that was called back

-- what a target calls back is a granted lock
record CallsLock (osts : ℕ) (past : List Line) (called : Called) : Type 0 where
  serves : IsServing osts past
  lock : Lock
  granted : In lock (server_of osts past).granted
  of_cookie : called.cookie ≡ lock.cookie
  of_life : called.who ≡ lock.ask.who

calls_lock : (osts : ℕ) (past : List Line) (t : ℕ) (called : Called) → BlocksOk osts past t called → CallsLock osts past called
calls_lock osts past t called (inl (e, ok)) = record {
  serves = ok.serves;
  lock = ok.lock;
  granted = ok.granted;
  of_cookie = ok.of_cookie;
  of_life = ok.of_life;
}
calls_lock osts past t called (inr (e, ok)) = record {
  serves = ok.serves;
  lock = ok.lock;
  granted = ok.granted;
  of_cookie = ok.of_cookie;
  of_life = ok.of_life;
}

-- as the lines show it
calls_granted : (head : Head) (past : List Line) (stamp : Stamp) (t : ℕ) (called : Called)
    → Allowed head past (turn stamp (Target t)) (Block called) → Grown head past
    → is_granted_to called.who called.cookie.0 (granted t (printed past)) ≡ true
calls_granted head past stamp t called a g =
    let ok = calls_lock head.osts (only t past) t called (a.of t (self t)) in
    let none = nothing_left head (only t past) (turn stamp (Target t)) (Block called) (λ next more q. a.shows t (self t) next more q)
    (λ v. v) in
    let shown = granted_shown t head past ok.lock g ok.serves none ok.granted in
    let here : In ok.lock (granted t (printed past)) = ⊎_elim
    (λ (q : In ok.lock (granted t (printed past))). q)
    (λ (q : JustGave t past ok.lock). absurd (owed past (turn stamp (Target t)) q.0 (Block called) q.1 a.owes))
    (all_granted t head past g ok.lock shown)
    in
    let cookie : nat_eq ok.lock.cookie.0 called.cookie.0 ≡ true =
    eq-eqb ok.lock.cookie.0 called.cookie.0 (ap (λ (c : Cookie). c.0) (sym ok.of_cookie)) in
    let who : same_life ok.lock.ask.who called.who ≡ true = subst (λ (w : Who). same_life ok.lock.ask.who w ≡ true) (sym ok.of_life)
    (life_self ok.lock.ask.who) in
    any_passes (λ (lock : Lock). has_cookie called.cookie.0 lock && same_life lock.ask.who called.who) ok.lock (granted t (printed past))
    here (rw (cookie, who) refl)

-- its boot is the one that served last
abbrev Served : Head → List Line → Type 0
Served head past = closed_of past ≡ (server_of head.osts past).boot

-- no boot came since that call, for none ends before its window closes
called_back : (head : Head) (t : ℕ) (who : Who) (at : At) (past : List Line) → Grown head past → Served head (only t past)
    → CalledBefore (only t past) at who → was_called_back t who at (printed past) ≡ true
called_back head t who at [] g s c = absurd c
called_back head t who at (l ∷ past) g s c = by l.at.node l.entry g.0 s c (called_back head t who at past g.1)
  where
    P : List Line
    P = only t past

    Goal : Node → Entry → Type 0
    Goal node e = was_called_back t who at (printed (line (turn l.at.stamp node) e ∷ past)) ≡ true

    quiet : (node : Node) (e : Entry) (b : Bool) → (CalledBefore (line (turn l.at.stamp node) e ∷ P) at who → CalledBefore P at who)
        → CalledBefore (if b then line (turn l.at.stamp node) e ∷ P else P) at who → CalledBefore P at who
    quiet node e true f c = f c
    quiet node e false f c = c

    still : (node : Node) (e : Entry) (b : Bool) → (Served head (line (turn l.at.stamp node) e ∷ P) → Served head P)
        → Served head (if b then line (turn l.at.stamp node) e ∷ P else P) → Served head P
    still node e true f s = f s
    still node e false f s = s

    more : (a b : Bool) (rest : Option Bool) → unwrap_or rest false ≡ true → unwrap_or (or_else (only_here (then_some a true) b) rest) false
        ≡ true
    more true true rest e = refl
    more true false rest e = e
    more false b rest e = e

    new : (a b : Bool) (rest : Option Bool) → a ≡ true → b ≡ true → unwrap_or (or_else (only_here (then_some a true) b) rest) false ≡ true
    new true true rest p q = refl
    new true false rest p q = absurd (cc)
    new false b rest p q = absurd (cc)

    Before : Type 0
    Before = Served head P → CalledBefore P at who → was_called_back t who at (printed past) ≡ true

    by : (node : Node) (e : Entry) → Allowed head past (turn l.at.stamp node) e
        → Served head (only t (line (turn l.at.stamp node) e ∷ past))
        → CalledBefore (if concerns t node e then line (turn l.at.stamp node) e ∷ P else P) at who
        → Before → Goal node e
    by (Client d) (Block called) k s c h = absurd k.ok
    by (Target u) (Block called) k s c h = of (nat_eq t u) refl c
      where
        is : Bool
        is = not (same_turn (turn l.at.stamp (Target u)) at) && is_granted_to who called.cookie.0 (granted t (printed past))

        old : CalledBefore P at who → Goal (Target u) (Block called)
        old q = more is (nat_eq u t) _ (h (still (Target u) (Block called) (nat_eq t u) (λ v. v) s) q)

        of : (b : Bool) → nat_eq t u ≡ b → CalledBefore (if b then line (turn l.at.stamp (Target u)) (Block called) ∷ P else P) at who
            → Goal (Target u) (Block called)
        of false e c = old c
        of true e c = ⊎_elim
            (λ (p : (called.who ≡ who) × (turn_before (turn l.at.stamp (Target u)) at ≡ true)).
            let here : nat_eq u t ≡ true = flip u t ∙ e in
            let whose : is_granted_to who called.cookie.0 (granted t (printed past)) ≡ true =
            subst (λ (v : ℕ). is_granted_to who called.cookie.0 (granted v (printed past)) ≡ true) (sym (eqb-true t u e))
            (subst (λ (w : Who). is_granted_to w called.cookie.0 (granted u (printed past)) ≡ true) p.0
            (calls_granted head past l.at.stamp u called k g.1))
            in
            new is (nat_eq u t) _ (rw (other_turn (turn l.at.stamp (Target u)) at p.1, whose) refl) here)
            (λ (q : CalledBefore P at who). old q)
            c
    by (Client d) (Boot boot disk) k s c h = absurd k.ok
    by (Target u) (Boot boot disk) k s c h = of (nat_eq t u) refl s c
      where
        x : Line
        x = line (turn l.at.stamp (Target u)) (Boot boot disk)

        off : (b : Bool) (rest : Option Bool) → b ≡ false → unwrap_or rest false ≡ true
            → unwrap_or (or_else (only_here (Some false) b) rest) false ≡ true
        off true rest e q = absurd (cc)
        off false rest e q = q

        of : (b : Bool) → nat_eq t u ≡ b → Served head (if b then x ∷ P else P) → CalledBefore (if b then x ∷ P else P) at who
            → Goal (Target u) (Boot boot disk)
        of false e s c = off (nat_eq u t) _ (flip u t ∙ e) (h s c)
        of true e s c = absurd (let n = (k.of t e).next in let under = ((holds head past g.1).at t).phase.under
            in omega (arith, n, under, s))
    by (Client d) (Close o) k s c h = absurd k.ok
    by (Target u) (Close o) k s c h = of (nat_eq t u) s c
      where
        x : Line
        x = line (turn l.at.stamp (Target u)) (Close o)

        of : (b : Bool) → Served head (if b then x ∷ P else P) → CalledBefore (if b then x ∷ P else P) at who → Goal (Target u) (Close o)
        of false s c = h s c
        of true s c = absurd c
    by (Client d) e k s c h = h (still (Client d) e (concerns t (Client d) e) (λ v. v) s)
        (quiet (Client d) e (concerns t (Client d) e) (λ q. q) c)
    by (Target u) e k s c h = h (still (Target u) e (concerns t (Target u) e) (λ v. v) s)
        (quiet (Target u) e (concerns t (Target u) e) (λ q. q) c)

-- ---- no window closed in the turn of such an eviction

abbrev IsClose : Entry → Type 0
IsClose (Close o) = Unit {0}
IsClose _ = ⊥

not_now : (head : Head) (P : Entry → Type 0) (past : List Line) (at : At) → Grown head past → Later past at → InTurn P past at → ⊥
not_now head P [] at g later i = i
not_now head P (l ∷ past) at g later (inl p) = turn_irreflexive at (subst (λ (v : At). turn_before v at ≡ true) p.0 later)
not_now head P (l ∷ past) at g later (inr i) = not_now head P past at g.1 (later_before l past at g.0.steps later) i

-- a line of the target that closes nothing, or a line of another node
module _ (t : ℕ) (past : List Line) (stamp : Stamp) (node : Node) (e : Entry) (at : At) (mine : at.node ≡ Target t) where
  abbrev Closed : Type 0
  Closed = InTurn IsClose (line (turn stamp node) e ∷ past) at

  another : concerns t node e ≡ false → (InTurn IsClose past at → ⊥) → Closed → ⊥
  another c h (inl p) = true≢false (sym (ap (λ (v : Node). concerns t v e) (ap (λ (v : At). v.node) p.0 ∙ mine) ∙ self t) ∙ c)
  another c h (inr i) = h i

  plain : (IsClose e → ⊥) → (InTurn IsClose past at → ⊥) → Closed → ⊥
  plain n h (inl p) = n p.1
  plain n h (inr i) = h i

-- since a life was called back
never_called : (head : Head) (t : ℕ) (past : List Line) (at : At) (who : Who) → Grown head past → at.node ≡ Target t
    → CalledBefore (only t past) at who → InTurn IsClose past at → ⊥
never_called head t [] at who g mine c i = i
never_called head t (l ∷ past) at who g mine c i = by l.at.node l.entry g.0 c (never_called head t past at who g.1 mine) i
  where
    P : List Line
    P = only t past

    Closes : Node → Entry → Type 0
    Closes node e = InTurn IsClose (line (turn l.at.stamp node) e ∷ past) at

    of : (node : Node) (e : Entry) (b : Bool) → concerns t node e ≡ b
        → CalledBefore (if b then line (turn l.at.stamp node) e ∷ P else P) at who → (CalledBefore P at who → InTurn IsClose past at → ⊥)
        → (CalledBefore (line (turn l.at.stamp node) e ∷ P) at who → Closes node e → ⊥) → Closes node e → ⊥
    of node e true q c h own = own c
    of node e false q c h own = another t past l.at.stamp node e at mine q (h c)

    by : (node : Node) (e : Entry) → Allowed head past (turn l.at.stamp node) e
        → CalledBefore (only t (line (turn l.at.stamp node) e ∷ past)) at who → (CalledBefore P at who → InTurn IsClose past at → ⊥)
        → Closes node e → ⊥
    by node (Block called) k c h = of node (Block called) (concerns t node (Block called)) refl c h
        (λ d. ⊎_elim
        (λ (p : (called.who ≡ who) × (turn_before (turn l.at.stamp node) at ≡ true)). plain t past l.at.stamp node (Block called) at mine
        (λ v. v) (not_now head IsClose past at g.1 (later_before (line (turn l.at.stamp node) (Block called)) past at k.steps p.1)))
        (λ (q : CalledBefore P at who). plain t past l.at.stamp node (Block called) at mine (λ v. v) (h q))
        d)
    by node (Close o) k c h = of node (Close o) (concerns t node (Close o)) refl c h (λ d i. d)
    by node e k c h = of node e (concerns t node e) refl c h (λ d. plain t past l.at.stamp node e at mine (λ v. v) (h d))

-- since it took a message
never_took : (head : Head) (t : ℕ) (past : List Line) (at : At) (from : Node) (m : Message) → Grown head past → at.node ≡ Target t
    → TookSince (only t past) at from m → InTurn IsClose past at → ⊥
never_took head t [] at from m g mine c i = i
never_took head t (l ∷ past) at from m g mine c i = by l.at.node l.entry g.0 c (never_took head t past at from m g.1 mine) i
  where
    P : List Line
    P = only t past

    Closes : Node → Entry → Type 0
    Closes node e = InTurn IsClose (line (turn l.at.stamp node) e ∷ past) at

    of : (node : Node) (e : Entry) (b : Bool) → concerns t node e ≡ b
        → TookSince (if b then line (turn l.at.stamp node) e ∷ P else P) at from m → (TookSince P at from m → InTurn IsClose past at → ⊥)
        → (TookSince (line (turn l.at.stamp node) e ∷ P) at from m → Closes node e → ⊥) → Closes node e → ⊥
    of node e true q c h own = own c
    of node e false q c h own = another t past l.at.stamp node e at mine q (h c)

    by : (node : Node) (e : Entry) → Allowed head past (turn l.at.stamp node) e
        → TookSince (only t (line (turn l.at.stamp node) e ∷ past)) at from m → (TookSince P at from m → InTurn IsClose past at → ⊥)
        → Closes node e → ⊥
    by node (Take n sender k) a c h = of node (Take n sender k) (concerns t node (Take n sender k)) refl c h
        (λ d. ⊎_elim
        (λ (p : (turn l.at.stamp node ≡ at) × (sender ≡ from) × (k ≡ m)). plain t past l.at.stamp node (Take n sender k) at mine (λ v. v)
        (not_now head IsClose past at g.1 (subst (λ (v : At). Later past v) p.0 a.ok.later)))
        (λ (q : TookSince P at from m). plain t past l.at.stamp node (Take n sender k) at mine (λ v. v) (h q))
        d)
    by node (Close o) a c h = of node (Close o) (concerns t node (Close o)) refl c h (λ d i. d)
    by node e a c h = of node e (concerns t node e) refl c h (λ d. plain t past l.at.stamp node e at mine (λ v. v) (h d))

never_closed : (head : Head) (t : ℕ) (past : List Line) (at : At) (who : Who) (cause : Cause) → Grown head past → at.node ≡ Target t
    → story_guards.EvictedBy (only t past) at who cause → InTurn IsClose past at → ⊥
never_closed head t past at who Expired g mine k = never_called head t past at who g mine k.1
never_closed head t past at who Replaced g mine k = never_took head t past at (Client k.from) (message.Join k.other k.boot) g mine k.took
never_closed head t past at who cause g mine k = absurd k

-- so no close of the turn has anything to show
closing_here : (head : Head) (past : List Line) (at : At) (e : Entry) (more : List Entry) → GrownOf head past → closing_of head.clients past
    ≡ e ∷ more → IsTurnOf past at → InTurn IsClose past at
closing_here head [] at e more g q s = absurd s
closing_here head (l ∷ past) at e more g q s = by l.at.node l.entry g.2 s q (λ at e more q s. closing_here head past at e more g.3 q s)
  where
    -- one more was left before
    left : (es : List Entry) → but_first es ≡ e ∷ more → (x : Entry) × (es ≡ x ∷ e ∷ more)
    left [] q = absurd (cc)
    left (x ∷ es) q = (x, ap (λ (v : List Entry). x ∷ v) q)

    Before : Type 0
    Before = (at : At) (e : Entry) (more : List Entry) → closing_of head.clients past ≡ e ∷ more → IsTurnOf past at → InTurn IsClose past at

    earlier : (node : Node) (x y : Entry) (rest : List Entry) → Before → IsPlaced head past (line (turn l.at.stamp node) x)
        → turn l.at.stamp node ≡ at → closing_of head.clients past ≡ y ∷ rest → InTurn IsClose (line (turn l.at.stamp node) x ∷ past) at
    earlier node x y rest h placed turned q = inr (subst (λ (v : At). InTurn IsClose past v) turned
        (h (turn l.at.stamp node) y rest q (placed.shows y rest q).1))

    by : (node : Node) (x : Entry) → IsPlaced head past (line (turn l.at.stamp node) x) → turn l.at.stamp node ≡ at
        → closing_of head.clients (line (turn l.at.stamp node) x ∷ past) ≡ e ∷ more → Before
        → InTurn IsClose (line (turn l.at.stamp node) x ∷ past) at
    by (Target t) (Close o) placed turned q h = inl (turned, tt)
    by (Client c) x placed turned q h = earlier (Client c) x e more h placed turned q
    by (Target t) x placed turned q h = let y = left (closing_of head.clients past) q
        in earlier (Target t) x y.0 (e ∷ more) h placed turned y.1

nothing_shown : (head : Head) (t : ℕ) (past : List Line) (at : At) (e : Entry) → Grown head past → (InTurn IsClose past at → ⊥)
    → ShowsNext head (only t past) at e → closing_of head.clients (only t past) ≡ []
nothing_shown head t past at e g never shows = by (closing_of head.clients (only t past)) refl
  where
    by : (es : List Entry) → closing_of head.clients (only t past) ≡ es → es ≡ []
    by [] q = refl
    by (x ∷ es) q = absurd (never (in_whole IsClose t past at (closing_here head (only t past) at x es (grown_of head t past g) q
        (shows x es q).1)))

-- ---- an eviction

takes_join : (head : Head) (t : ℕ) (past : List Line) (at : At) (who : Who) → Grown head past → TookNewer (only t past) at who
    → takes_newer (printed past) at who ≡ true
takes_join head t past at who g k =
    any_passes (λ (s : Sending). joins_after who s.message) (record
    { from = Client k.from; to = at.node; message = message.Join k.other k.boot }) (taken (printed past) at)
    (took_taken head past at (Client k.from) (message.Join k.other k.boot) g
    (took_whole t past at (Client k.from) (message.Join k.other k.boot)
    (since_took (only t past) at (Client k.from) (message.Join k.other k.boot) k.took)))
    (rw (eq-eqb k.other.client who.client k.client, lt-ltb who.life k.other.life k.newer) refl)

evicted_by : (head : Head) (t : ℕ) (past : List Line) (at : At) (who : Who) (cause : Cause) → Grown head past
    → IsServing head.osts (only t past) → story_guards.EvictedBy (only t past) at who cause → EvictedBy t (printed past) at who cause
evicted_by head t past at who Expired g v k = record {
  ticks = tick_in past at (in_whole IsTick t past at k.0);
  called =
      called_back head t who at past g v.closed k.1;
}
evicted_by head t past at who Replaced g v k = takes_join head t past at who g k
evicted_by head t past at who cause g v k = absurd k

-- no window closed in the turn
none_decides : {A : Type 0} (decides : List PrintedLine → A) (past : List Line) (at : At) → (InTurn IsClose past at → ⊥)
    → newest (closes_in decides at) (printed past) ≡ None
none_decides decides [] at never = refl
none_decides {A} decides (l ∷ past) at never = by l.entry never (none_decides decides past at (λ i. never (inr i)))
  where
    Decides : Entry → Type 0
    Decides e = newest (closes_in decides at) (printed (line l.at e ∷ past)) ≡ None

    by : (e : Entry) → (InTurn IsClose (line l.at e ∷ past) at → ⊥) → newest (closes_in decides at) (printed past) ≡ None → Decides e
    by (Close o) n h = of (same_turn l.at at) refl
      where
        of : (b : Bool) → same_turn l.at at ≡ b → or_else (then_some b (decides (printed past)))
            (newest (closes_in decides at) (printed past)) ≡ None
        of true e = absurd (n (inl (same_turn_is l.at at e, tt)))
        of false e = h
    by _ n h = h

pub evict_law : (head : Head) (past : List Line) (at : At) (later : List PrintedLine) (t : ℕ) (who : Who) (cause : Cause) → Grown head past
    → at.node ≡ Target t → ShowsNext head (only t past) at (Evict who cause) → EvictOk head (only t past) at who cause
    → EvictAt t (printed past) at later who cause
evict_law head past at later t who cause g mine shows ok =
    record {
      slot = slot_now head t past g (nothing_shown head t past at (Evict who cause) g never shows) who ok.has;
      commit = commit_in past at (in_whole IsCommit t past at ok.commits);
      caused = subst (λ (o : Option (Option Cause)). EvictedIn t (printed past) at who cause o) (sym none)
          (evicted_by head t past at who cause g ok.serves ok.caused);
    }
  where
    decides : List PrintedLine → Option Cause
    decides before = cause_at t before who

    never : InTurn IsClose past at → ⊥
    never = never_closed head t past at who cause g mine ok.caused

    none : decided (λ before. cause_at t before who) at (printed past) later ≡ None
    none = cond_both (is_finished at (printed past) later) (newest (closes_in decides at) (printed past)) None
        (λ (o : Option (Option Cause)). o ≡ None) (λ e. none_decides decides past at never) (λ e. refl)
