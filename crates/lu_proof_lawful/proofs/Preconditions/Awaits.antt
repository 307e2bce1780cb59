-- The locks that a client waits for: between its turns as many of its calls wait for the lock of a cookie of a target as its life was told
-- to
-- wait for it, less those that came, since it last heard of a new boot. A call that waits has heard so of the target, to its request for
-- that
-- lock. And nothing is left of what it marks of an answer.
use Rattle.std.proofs.Common.{◌≡◌, ℕ, zero, suc, ◌+◌, ◌-◌, ◌<◌, Bool, true, false, List, [], ◌∷◌, ◌⊎◌, inl, inr, ⊎_elim, Option, Some, None}
use Rattle.std.proofs.Common.{refl, sym, subst, ap, ◌∙◌, arith}
use Rattle.std.specs.Prelude.{nat_eq, ◌&&◌, if◌then◌else◌}
use Rattle.std.proofs.lemmas.Bool.{cond_both, eqb-true}
use Rattle.lu_base.specs.declared.ids.At.{At}
use Rattle.lu_base.specs.declared.ids.Node.{Node}
use Rattle.lu_base.specs.declared.ids.Node.TheVariants.{Client, Target}
use Rattle.lu_base.specs.declared.ids.TargetId.{TargetId}
use Rattle.lu_base.specs.declared.ids.Who.{Who}
use Rattle.lu_base.specs.declared.locks.Extent.{Extent}
use Rattle.lu_base.specs.declared.locks.Lock.{Lock}
use Rattle.lu_msg.specs.declared.answers.Answer.TheVariants as answer
use Rattle.lu_msg.specs.declared.messages.Reply.{Reply as ReplyTo}
use Rattle.lu_msg.specs.declared.operations.Op.TheVariants as op
use Rattle.lu_held.specs.declared.names.LockName.{LockName}
use Rattle.lu_held.specs.Locks.{named}
use Rattle.lu_spec_entries.specs.Carried.{Flight, Asking, Work, Stage, Enqueued, Waits, Sizes, Running}
use Rattle.lu_spec_entries.specs.Words.{Entry, Flies, Heard, Hold, Knows, Serves, Life, Acks, Fills, Zeroes, Grown as Grows, Shows, Line}
use Rattle.lu_spec_entries.specs.Words.{line, is_client}
use Rattle.lu_spec_entries.specs.Concerns.{concerns, only}
use Rattle.lu_spec_client.specs.Calls.{asks, asks_for}
use Rattle.lu_spec_client.specs.Messages.{waits_for, is_waiter, waiting_lock}
use Rattle.lu_proof_lawful.specs.Covered.Calls.{call_at, calls_at, life_at}
use Rattle.lu_proof_lawful.specs.Covered.ClientStates.{life_of, flights_of, standing_of, is_own, brings_cookie, awaits_of}
use Rattle.lu_proof_lawful.specs.Covered.Heads.{Head}
use Rattle.lu_proof_lawful.specs.Covered.Imports.{Standing, Joining, Serving, interrupted, flights_after}
use Rattle.lu_proof_lawful.proofs.Preconditions.HeedMarks.{marks_left}
use Rattle.lu_proof_lawful.proofs.Preconditions.Guards.{In, HeardAs, HeardNow, Begins, StandsOk, SizesStand, LeftSize, LockStand, StatStand}
use Rattle.lu_proof_lawful.proofs.Preconditions.Guards.{GetStand, FlushStand, MovedStand, WaitStand, MarkStand, marks_of, EntryOk}
use Rattle.lu_proof_lawful.proofs.Preconditions.StoryGuards.{EntryOf}
use Rattle.lu_proof_lawful.proofs.Preconditions.Grown.{Grown, GrownOf}
use Rattle.lu_proof_lawful.proofs.Preconditions.Lists.{self, turn, own_self}
use Rattle.lu_proof_lawful.proofs.Preconditions.Parts.{Rise, rise_of, life_client, life_up, not_own, not_other, life_is_of}
use Rattle.lu_proof_lawful.proofs.Preconditions.Calls.{Began, Touched, Stood, call_cases}

-- ---- how many wait

-- the name of a lock of a target
abbrev pub lock_named : (t k : ℕ) → LockName
lock_named t k = named (record { 0 = t }) (record { 0 = k })

abbrev pub one_of : Bool → ℕ
one_of v = if v then 1 else 0

-- among these calls, those that wait for the lock of that name
abbrev pub waiting_for : LockName → List (Option Running) → ℕ
waiting_for name [] = 0
waiting_for name (x ∷ calls) = one_of (is_waiter name x) + waiting_for name calls

pub record Awaits (c : ℕ) (past : List Line) : Type 0 where
  pub counts : (t k : ℕ) → awaits_of (life_at c past) k (only t past) ≡ waiting_for (lock_named t k) (calls_at c past)
  pub marks : marks_of c past ≡ []

pub awaits_start : (c : ℕ) → Awaits c []
awaits_start c = record { counts = λ t k. refl; marks = refl }

-- where each call waits as before, as many do
pub count_same : (name : LockName) (c : ℕ) (p q : List Line) → ((s : ℕ) → is_waiter name (call_at c s q) ≡ is_waiter name (call_at c s p))
    → waiting_for name (calls_at c q) ≡ waiting_for name (calls_at c p)
count_same name c p q same = rw (same 0, same 1, same 2, same 3) refl

-- where one does, some do
pub counted : (name : LockName) (c slot : ℕ) (p : List Line) → slot < 4 → is_waiter name (call_at c slot p) ≡ true
    → 0 < waiting_for name (calls_at c p)
counted name c zero p small e = let n = ap one_of e in omega (arith, n)
counted name c (suc zero) p small e = let n = ap one_of e in omega (arith, n)
counted name c (suc (suc zero)) p small e = let n = ap one_of e in omega (arith, n)
counted name c (suc (suc (suc zero))) p small e = let n = ap one_of e in omega (arith, n)
counted name c (suc (suc (suc (suc slot)))) p small e = absurd (omega (arith, small))

-- a request that is queued or heard of leaves its call where it stands
pub asks_waiter : (name : LockName) (o : Option ℕ) (s : ℕ) (a : Asking) (x : Option Running) → is_waiter name (asks_for o s a x)
    ≡ is_waiter name x
asks_waiter name None s a x = refl
asks_waiter name (Some n) s a x = by (nat_eq n s) x
  where
    by : (b : Bool) (x : Option Running) → is_waiter name (if b then asks a x else x) ≡ is_waiter name x
    by true None = refl
    by true (Some r) = refl
    by false x = refl

-- ---- a call that stands elsewhere

abbrev pub NoWait : Stage → Type 0
NoWait (Waits w target l marked) = ⊥
NoWait _ = Unit {0}

pub no_wait : (name : LockName) (x : Stage) → NoWait x → waits_for name x ≡ false
no_wait name (Waits w target l marked) n = absurd n
no_wait name x n = refl

-- ---- lines that bring no lock that waits, nor forget one

abbrev pub IsQuiet : Entry → Type 0
IsQuiet (Heard t f r) = ⊥
IsQuiet (Hold t l marked size seen) = ⊥
IsQuiet (Knows t boot) = ⊥
IsQuiet (Life who) = ⊥
IsQuiet _ = Unit {0}

pub awaits_quiet : (who : Who) (k t : ℕ) (at : At) (e : Entry) (p : List Line) → IsQuiet e → awaits_of who k (only t (line at e ∷ p))
    ≡ awaits_of who k (only t p)
awaits_quiet who k t at e p q = by e q (concerns t at.node e)
  where
    by : (e : Entry) → IsQuiet e → (b : Bool) → awaits_of who k (if b then line at e ∷ only t p else only t p) ≡ awaits_of who k (only t p)
    by (Heard u f r) q b = absurd q
    by (Hold u l marked size seen) q b = absurd q
    by (Knows u boot) q b = absurd q
    by (Life w) q b = absurd q
    by e q true = refl
    by e q false = refl

pub life_quiet : (c : ℕ) (at : At) (e : Entry) (p : List Line) → IsQuiet e → life_at c (line at e ∷ p) ≡ life_at c p
life_quiet c at (Heard u f r) p q = absurd q
life_quiet c at (Hold u l marked size seen) p q = absurd q
life_quiet c at (Knows u boot) p q = absurd q
life_quiet c at (Life w) p q = absurd q
life_quiet c at e p q = refl

-- where no mark is left none is left after it
pub marks_quiet : (c : ℕ) (at : At) (e : Entry) (p : List Line) → IsQuiet e → marks_of c p ≡ [] → marks_of c (line at e ∷ p) ≡ []
marks_quiet c at e p q none = by e q
  where
    left : (b : Bool) (es fs : List Entry) → es ≡ [] → fs ≡ [] → (if b then fs else es) ≡ []
    left true es fs e f = f
    left false es fs e f = e

    by : (e : Entry) → IsQuiet e → marks_of c (line at e ∷ p) ≡ []
    by (Heard u f r) q = absurd q
    by (Acks resource) q = left (is_client c at.node) (marks_of c p) _ none (ap marks_left none)
    by (Fills resource offset bytes) q = left (is_client c at.node) (marks_of c p) _ none (ap marks_left none)
    by (Zeroes resource size) q = left (is_client c at.node) (marks_of c p) _ none (ap marks_left none)
    by (Grows resource change) q = left (is_client c at.node) (marks_of c p) _ none (ap marks_left none)
    by (Shows resource cookie last) q = left (is_client c at.node) (marks_of c p) _ none (ap marks_left none)
    by e q = none

-- ---- a life that is new, or that no target serves yet, waits for no lock there

pub awaits_new : (who : Who) (k : ℕ) (past : List Line) → Rise past → (life_of who.client past).life < who.life → awaits_of who k past ≡ 0
awaits_new who k [] r lt = refl
awaits_new who k (l ∷ past) r lt = by l.entry (not_own who past l.at.node r.1 low) (awaits_new who k past r.1 low)
  where
    low : (life_of who.client past).life < who.life
    low = let up = life_up who.client l past r.0 in omega (arith, up, lt)

    by : (e : Entry) → is_own who past l.at.node ≡ false → awaits_of who k past ≡ 0 → awaits_of who k (line l.at e ∷ past) ≡ 0
    by (Heard t f x) o ih = ap (λ (b : Bool). if b && brings_cookie f.op x.answer k then awaits_of who k past + 1 else awaits_of who k past)
        o ∙ ih
    by (Hold t lock marked size seen) o ih = ap (λ (b : Bool). if b && nat_eq lock.cookie.0 k then awaits_of who k past - 1
        else awaits_of who k past) o ∙ ih
    by (Knows t boot) o ih = ap (λ (b : Bool). if b then 0 else awaits_of who k past) o ∙ ih
    by e o ih = ih

flights_new : (who : Who) (past : List Line) → Rise past → (life_of who.client past).life < who.life → flights_of who past ≡ []
flights_new who [] r lt = refl
flights_new who (l ∷ past) r lt = by l.entry (not_own who past l.at.node r.1 low) (flights_new who past r.1 low)
  where
    low : (life_of who.client past).life < who.life
    low = let up = life_up who.client l past r.0 in omega (arith, up, lt)

    by : (e : Entry) → is_own who past l.at.node ≡ false → flights_of who past ≡ [] → flights_of who (line l.at e ∷ past) ≡ []
    by (Flies t f) o ih = ap (λ (b : Bool). if b then flights_after (flights_of who past) (Flies t f) else flights_of who past) o ∙ ih
    by (Heard t f x) o ih = ap (λ (b : Bool). if b then flights_after (flights_of who past) (Heard t f x) else flights_of who past) o ∙ ih
    by e o ih = ih

-- nothing flies, and nothing is waited for
abbrev pub Fresh : ℕ → List Line → Type 0
Fresh c past = (flights_of (life_of c past) past ≡ []) × ((k : ℕ) → awaits_of (life_of c past) k past ≡ 0)

pub joins_fresh : (head : Head) (c : ℕ) (past : List Line) → GrownOf head past → standing_of c past ≡ Joining → Fresh c past
joins_fresh head c [] g e = absurd (cc)
joins_fresh head c (l ∷ past) g e = by l.at.node l.entry g.0 e (λ q. joins_fresh head c past g.3 q)
  where
    rises : Rise past
    rises = rise_of head past g.3

    at : Node → At
    at node = turn l.at.stamp node

    W : Who
    W = life_of c past

    Next : Node → Entry → Type 0
    Next node x = EntryOf head past (at node) node x → standing_of c (line (at node) x ∷ past) ≡ Joining
        → (standing_of c past ≡ Joining → Fresh c past) → Fresh c (line (at node) x ∷ past)

    began : (d : ℕ) (who : Who) (b : Bool) → nat_eq c d ≡ b → is_client c (Client d) ≡ b
        → EntryOf head past (at (Client d)) (Client d) (Life who)
        → (if b then Joining else standing_of c past) ≡ Joining → (standing_of c past ≡ Joining → Fresh c past)
        → Fresh c (line (at (Client d)) (Life who) ∷ past)
    began d who true same own ok q more = subst (λ (w : Who). (flights_of w past ≡ []) × ((k : ℕ) → awaits_of w k past ≡ 0))
        (sym (ap (λ (b : Bool). if b then who else W) own)) (flights_new who past rises lt, λ k. awaits_new who k past rises lt)
      where
        client : who.client ≡ d
        client = ap (λ (w : Who). w.client) ok.next ∙ life_client d past rises

        lt : (life_of who.client past).life < who.life
        lt =
            let old : (life_of who.client past).life ≡ (life_of d past).life = ap (λ (u : ℕ). (life_of u past).life) client in
            let more : who.life ≡ (life_of d past).life + 1 = ap (λ (w : Who). w.life) ok.next in
            omega (arith, old, more)
    began d who false same own ok q more = subst (λ (w : Who). (flights_of w past ≡ []) × ((k : ℕ) → awaits_of w k past ≡ 0))
        (sym (ap (λ (b : Bool). if b then who else W) own)) (more q)

    -- the flights and locks of another client, or of a life that flies and awaits none
    flown : (d t : ℕ) (f : Flight) (b : Bool) → nat_eq c d ≡ b → EntryOf head past (at (Client d)) (Client d) (Flies t f)
        → standing_of c past ≡ Joining → Fresh c past → Fresh c (line (at (Client d)) (Flies t f) ∷ past)
    flown d t f true same ok q h = absurd (let s : Joining ≡ Serving = sym q ∙ ap (λ (u : ℕ). standing_of u past) (eqb-true c d same)
        ∙ ok.serves in cc)
    flown d t f false same ok q h = (
      ap (λ (b : Bool). if b then flights_after (flights_of W past) (Flies t f) else flights_of W past)
          (not_other c d past rises same) ∙ h.0,
      h.1,
    )

    heard : (d t : ℕ) (f : Flight) (r : ReplyTo) (b : Bool) → nat_eq c d ≡ b → EntryOf head past (at (Client d)) (Client d) (Heard t f r)
        → standing_of c past ≡ Joining → Fresh c past → Fresh c (line (at (Client d)) (Heard t f r) ∷ past)
    heard d t f r true same ok q h = absurd (subst (λ (fs : List Flight). In f fs)
        (ap (λ (u : ℕ). flights_of (life_of u past) past) (sym (eqb-true c d same)) ∙ h.0) ok.flying)
    heard d t f r false same ok q h = (
      ap (λ (b : Bool). if b then flights_after (flights_of W past) (Heard t f r) else flights_of W past) (not_other c d past rises same)
          ∙ h.0,
      λ k. ap (λ (b : Bool). if b && brings_cookie f.op r.answer k then awaits_of W k past + 1 else awaits_of W k past)
          (not_other c d past rises same) ∙ h.1 k,
    )

    less : (n : ℕ) (b : Bool) → n ≡ 0 → (if b then n - 1 else n) ≡ 0
    less n true e = ap (λ (m : ℕ). m - 1) e
    less n false e = e

    none : (n : ℕ) (b : Bool) → n ≡ 0 → (if b then 0 else n) ≡ 0
    none n true e = refl
    none n false e = e

    known : (d : ℕ) (b : Bool) → is_client c (Client d) ≡ b → (if b then interrupted (standing_of c past) else standing_of c past) ≡ Joining
        → standing_of c past ≡ Joining
    known d false own q = q
    known d true own q = by (standing_of c past) q
      where
        by : (s : Standing) → interrupted s ≡ Joining → s ≡ Joining
        by Joining e = refl
        by s e = absurd (cc)

    served : (d : ℕ) (b : Bool) → is_client c (Client d) ≡ b → (if b then Serving else standing_of c past) ≡ Joining → standing_of c past
        ≡ Joining
    served d false own q = q
    served d true own q = absurd (cc)

    by : (node : Node) (x : Entry) → Next node x
    by (Client d) (Life who) ok q more = began d who (nat_eq c d) refl refl ok q more
    by (Client d) (Flies t f) ok q more = flown d t f (nat_eq c d) refl ok q (more q)
    by (Client d) (Heard t f r) ok q more = heard d t f r (nat_eq c d) refl ok q (more q)
    by (Client d) (Hold t lock marked size seen) ok q more = (
      (more q).0,
      λ k. less (awaits_of W k past) (is_own W past (Client d) && nat_eq lock.cookie.0 k) ((more q).1 k),
    )
    by (Client d) (Knows t boot) ok q more = let h = more (known d (nat_eq c d) refl q)
        in (h.0, λ k. none (awaits_of W k past) (is_own W past (Client d)) (h.1 k))
    by (Client d) (Serves t boot) ok q more = more (served d (nat_eq c d) refl q)
    by (Client d) x ok q more = more q
    by (Target u) (Life who) ok q more = more q
    by (Target u) x ok q more = more q

-- ---- what a call that waits has heard

-- the life asked for that lock and was told to wait for it
pub record HeardToWait (past : List Line) (who : Who) (lock : Lock) : Type 0 where
  pub of_life : lock.ask.who ≡ who
  pub flight : Flight
  pub reply : ReplyTo
  pub heard : HeardAs past who flight reply
  pub extent : Extent
  pub asked : flight.op ≡ op.Enqueue lock.resource lock.ask.mode extent
  pub told : reply.answer ≡ answer.Waiting lock.cookie

pub heard_more : (past : List Line) (l : Line) (who : Who) (f : Flight) (r : ReplyTo) → HeardAs past who f r → HeardAs (l ∷ past) who f r
heard_more past l who f r h = by l.entry
  where
    by : (e : Entry) → HeardAs (line l.at e ∷ past) who f r
    by (Heard t g k) = inr h
    by e = h

pub waits_more : (past : List Line) (l : Line) (t : ℕ) (who : Who) (lock : Lock) → HeardToWait (only t past) who lock
    → HeardToWait (only t (l ∷ past)) who lock
waits_more past l t who lock h = by (concerns t l.at.node l.entry)
  where
    by : (b : Bool) → HeardToWait (if b then l ∷ only t past else only t past) who lock
    by true =
        record {
          of_life = h.of_life;
          flight = h.flight;
          reply = h.reply;
          heard = heard_more (only t past) l who h.flight h.reply h.heard;
          extent = h.extent;
          asked = h.asked;
          told = h.told;
        }
    by false = h

-- what the newest lines heard stands in the story of that target
pub heard_now : (c : ℕ) (past : List Line) (at : At) (t : ℕ) (f : Flight) (r : ReplyTo) → at.node ≡ Client c → HeardNow past at t f r
    → HeardAs (only t past) (life_at c past) f r
heard_now c [] at t f r here h = absurd h
heard_now c (l ∷ past) at t f r here h = by l.entry h (λ k. heard_now c past at t f r here k)
  where
    Goal : Node → Entry → Type 0
    Goal node e = HeardAs (only t (line (turn l.at.stamp node) e ∷ past)) (life_at c (line (turn l.at.stamp node) e ∷ past)) f r

    own : (life_at c past) ≡ life_of c (only t past)
    own = life_is_of c t past

    here_so : (u : ℕ) (g : Flight) (k : ReplyTo) → l.at ≡ at → u ≡ t → g ≡ f → k ≡ r → Goal l.at.node (Heard u g k)
    here_so u g k a b d e = subst (λ (n : Node). Goal n (Heard u g k)) (sym (ap (λ (x : At). x.node) a ∙ here))
        (by (nat_eq t u) (ap (nat_eq t) b ∙ self t))
      where
        by : (v : Bool) → v ≡ true → HeardAs (if v then line (turn l.at.stamp (Client c)) (Heard u g k) ∷ only t past else only t past)
            (life_at c past) f r
        by true q = inl (ap (λ (w : Who). is_own w (only t past) (Client c)) own ∙ own_self (only t past) c, d, e)
        by false q = absurd (cc)

    held : (u : ℕ) (lock : Lock) (marked : Bool) (size : Option ℕ) (seen : List ℕ) → HeardAs (only t past) (life_at c past) f r → (b : Bool)
        → HeardAs (if b then line l.at (Hold u lock marked size seen) ∷ only t past else only t past) (life_at c past) f r
    held u lock marked size seen k true = k
    held u lock marked size seen k false = k

    by : (e : Entry) → HeardNow (line l.at e ∷ past) at t f r → (HeardNow past at t f r → HeardAs (only t past) (life_at c past) f r)
        → Goal l.at.node e
    by (Heard u g k) h more = here_so u g k h.0 h.1 h.2 h.3
    by (Hold u lock marked size seen) h more = held u lock marked size seen (more h) (concerns t l.at.node (Hold u lock marked size seen))
    by e h more = absurd h

-- what a line of its own leaves of a life: all but a new life's, at which no call stands
life_or : (past : List Line) (l : Line) (c slot : ℕ) (r : Running) → EntryOk past l.at l.at.node l.entry → call_at c slot past ≡ Some r
    → life_at c (l ∷ past) ≡ life_at c past
life_or past l c slot r ok is = by l.at.node l.entry ok
  where
    by : (node : Node) (e : Entry) → EntryOk past (turn l.at.stamp node) node e → life_at c (line (turn l.at.stamp node) e ∷ past)
        ≡ life_at c past
    by (Client d) (Life who) ok = cond_both (nat_eq c d) who (life_at c past) (λ (w : Who). w ≡ life_at c past)
        (λ t. absurd (let none : call_at c slot past ≡ None = ap (λ (u : ℕ). call_at u slot past) (eqb-true c d t) ∙ ok.idle slot in cc))
        (λ t. refl)
    by (Target u) (Life who) ok = absurd ok
    by node e ok = refl

waits_not : (x : Stage) (w : Work) (target : TargetId) (l : Lock) (m : Bool) → NoWait x → x ≡ Waits w target l m → ⊥
waits_not x w target l m n e = subst NoWait e n

pub waits_heard : (head : Head) (past : List Line) → Grown head past
    → (c slot : ℕ) (r : Running) (w : Work) (target : TargetId) (l : Lock) (m : Bool) → call_at c slot past ≡ Some r → r.stage
    ≡ Waits w target l m
    → HeardToWait (only target.0 past) (life_at c past) l
waits_heard head [] g c slot r w target l m is stage = absurd (cc)
waits_heard head (x ∷ past) g c slot r w target l m is stage =
    ⊎_elim (λ (k : call_at c slot past ≡ Some r). after r k (waits_heard head past g.1 c slot r w target l m k stage))
    (λ (k : Began past x.at x.entry c slot r ⊎ (Touched past x.at.node x.entry c slot r ⊎ Stood past x.at c slot r)). ⊎_elim
    (λ (q : Began past x.at x.entry c slot r). absurd (begins q.begins))
    (⊎_elim (λ (q : Touched past x.at.node x.entry c slot r). after q.before q.call
    (waits_heard head past g.1 c slot q.before w target l m q.call (q.stage ∙ stage)))
    (λ (q : Stood past x.at c slot r). stands q (λ v u k d e f. waits_heard head past g.1 c slot q.before v u k d e f))) k)
    (call_cases past x.at.stamp x.at.node x.entry g.0.ok c slot r is)
  where
    after : (q : Running) → call_at c slot past ≡ Some q → HeardToWait (only target.0 past) (life_at c past) l
        → HeardToWait (only target.0 (x ∷ past)) (life_at c (x ∷ past)) l
    after q k h = subst (λ (who : Who). HeardToWait (only target.0 (x ∷ past)) who l) (sym (life_or past x c slot q g.0.ok k))
        (waits_more past x target.0 (life_at c past) l h)

    begins : Begins c past r → ⊥
    begins (inl b) = waits_not r.stage w target l m (subst NoWait (sym b.1) tt) stage
    begins (inr b) = waits_not r.stage w target l m (subst NoWait (sym b.1) tt) stage

    stands : (q : Stood past x.at c slot r)
        → ((v : Work) (u : TargetId) (k : Lock) (d : Bool) → call_at c slot past ≡ Some q.before → q.before.stage ≡ Waits v u k d
        → HeardToWait (only u.0 past) (life_at c past) k)
        → HeardToWait (only target.0 (x ∷ past)) (life_at c (x ∷ past)) l
    stands q more = after q.before q.call (by ok.how)
      where
        ok : StandsOk past x.at c slot r
        ok = q.stands

        same : ok.running ≡ q.before
        same = let e : Some ok.running ≡ Some q.before = sym ok.call ∙ q.call in cc

        now : ok.stage ≡ Waits w target l m
        now = sym (ap (λ (v : Running). v.stage) ok.is) ∙ stage

        not : NoWait ok.stage → HeardToWait (only target.0 past) (life_at c past) l
        not n = absurd (waits_not ok.stage w target l m n now)

        waited : (wait : WaitStand past x.at c ok.running ok.stage) → HeardToWait (only target.0 past) (life_at c past) l
        waited wait =
            let both : Waits wait.work wait.wanted.target (waiting_lock (life_at c past) wait.cookie wait.wanted) false
            ≡ Waits w target l m = sym wait.is ∙ now in
            let there : wait.wanted.target ≡ target = cc in
            let lock : waiting_lock (life_at c past) wait.cookie wait.wanted ≡ l = cc in
            subst (λ (v : TargetId). HeardToWait (only v.0 past) (life_at c past) l) there
            (subst (λ (v : Lock). HeardToWait (only wait.wanted.target.0 past) (life_at c past) v) lock
            (record {
              of_life = refl;
              flight = wait.flight;
              reply = wait.answers.reply;
              heard = subst (λ (u : ℕ). HeardAs (only u past) (life_at c past) wait.flight wait.answers.reply) wait.of_target
                  (heard_now c past x.at wait.answers.target wait.flight wait.answers.reply q.own wait.now);
              extent = wait.extent;
              asked = wait.of_op;
              told = wait.tells;
            }))

        marked : MarkStand past x.at ok.running ok.stage → HeardToWait (only target.0 past) (life_at c past) l
        marked k =
            let both : Waits k.work k.target k.lock true ≡ Waits w target l m = sym k.is ∙ now in
            let there : k.target ≡ target = cc in
            let lock : k.lock ≡ l = cc in
            subst (λ (v : TargetId). HeardToWait (only v.0 past) (life_at c past) l) there
            (subst (λ (v : Lock). HeardToWait (only k.target.0 past) (life_at c past) v) lock
            (more k.work k.target k.lock k.marked q.call (subst (λ (v : Running). v.stage ≡ Waits k.work k.target k.lock k.marked) same
            k.before)))

        moved : MovedStand past x.at c ok.running ok.stage → HeardToWait (only target.0 past) (life_at c past) l
        moved (inl k) = not (subst NoWait (sym k.is) tt)
        moved (inr (inl k)) = waited k
        moved (inr (inr (inl k))) = marked k
        moved (inr (inr (inr (inl k)))) = not (subst NoWait (sym k.is) tt)
        moved (inr (inr (inr (inr k)))) = not (subst NoWait (sym k.is) tt)

        sized : (k : SizesStand past x.at ok.running ok.stage ok.pins) → (ok.stage ≡ Sizes k.work)
            ⊎ ((ok.stage ≡ Enqueued k.work) × LeftSize past x.at ok.running k.sizes) → HeardToWait (only target.0 past) (life_at c past) l
        sized k (inl e) = not (subst NoWait (sym e) tt)
        sized k (inr e) = not (subst NoWait (sym e.0) tt)

        by : SizesStand past x.at ok.running ok.stage ok.pins
            ⊎ LockStand past c ok.running ok.stage
            ⊎ StatStand past x.at c ok.running ok.stage ok.pins
            ⊎ GetStand past c ok.running ok.stage ok.pins
            ⊎ FlushStand past c ok.running ok.stage ok.pins
            ⊎ ((ok.pins ≡ ok.running.pins) × MovedStand past x.at c ok.running ok.stage)
            → HeardToWait (only target.0 past) (life_at c past) l
        by (inl k) = sized k k.is
        by (inr (inl k)) = not (subst NoWait (sym k.is) tt)
        by (inr (inr (inl k))) = not (subst NoWait (sym k.is) tt)
        by (inr (inr (inr (inl k)))) = not (subst NoWait (sym k.is) tt)
        by (inr (inr (inr (inr (inl k))))) = not (subst NoWait (sym k.is) tt)
        by (inr (inr (inr (inr (inr k))))) = moved k.1
