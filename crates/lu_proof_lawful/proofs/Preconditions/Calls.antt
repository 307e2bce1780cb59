-- What a line makes of a call: it stays, begins, is touched by a request that is queued or heard for it, or stands further on.
use Rattle.std.proofs.Common.{◌≡◌, ℕ, Bool, true, false, List, [], ◌∷◌, Option, Some, None, ◌⊎◌, inl, inr, ⊎_elim, refl, sym, subst, ap}
use Rattle.std.proofs.Common.{◌∙◌}
use Rattle.std.specs.Prelude.{nat_eq, ◌&&◌, if◌then◌else◌}
use Rattle.std.proofs.lemmas.Bool.{cond_both, cond-true, eqb-true}
use Rattle.lu_base.specs.declared.ids.At.{At}
use Rattle.lu_base.specs.declared.ids.Node.{Node}
use Rattle.lu_base.specs.declared.ids.Node.TheVariants.{Client, Target}
use Rattle.lu_base.specs.declared.ids.Stamp.{Stamp}
use Rattle.lu_held.specs.declared.locks.Use.{Use}
use Rattle.lu_held.specs.declared.names.LockName.{LockName}
use Rattle.lu_spec_entries.specs.Carried.{Asking, Unasked, Asked, Answered, Stage, Bad, Looks, Enqueued, Waits, Came as CameOf, Forgotten}
use Rattle.lu_spec_entries.specs.Carried.{Gets, Flushing, Sizes, Running}
use Rattle.lu_spec_entries.specs.Words.{Entry, Tick, Begin, Stands, Queues, Heard, Told, Line, line, is_client}
use Rattle.lu_spec_entries.specs.Fields.{on}
use Rattle.lu_spec_entries.specs.declared.uses.Using.{Using}
use Rattle.lu_spec_client.specs.Advances.{name_under}
use Rattle.lu_proof_lawful.specs.Covered.Heads.{Head}
use Rattle.lu_proof_lawful.specs.Covered.Calls.{begun, asks, asks_for, reads_call, call_after, call_at, life_at}
use Rattle.lu_trace.specs.WellFormed.{IsCall}
use Rattle.lu_spec_client.specs.Messages.{waiting_lock}
use Rattle.lu_proof_lawful.proofs.Preconditions.Guards.{In, Later, Begins, Unless, LeftSize, SizesStand, LockStand, StatStand, GetStand}
use Rattle.lu_proof_lawful.proofs.Preconditions.Guards.{FlushStand, MovedStand, StandsOk, HadLock, used_in, HadUsed, Starts, OwesBegun}
use Rattle.lu_proof_lawful.proofs.Preconditions.Guards.{Owes, EntryOk}
use Rattle.lu_proof_lawful.proofs.Preconditions.Grown.{Grown}
use Rattle.lu_proof_lawful.proofs.Preconditions.Lists.{self, turn}

-- ---- a call that stays

on_same : {A : Type 0} (reads own : Bool) (new old : A) → (own ≡ true → new ≡ old) → on reads own new old ≡ old
on_same false own new old f = refl
on_same true true new old f = f refl
on_same true false new old f = refl

pub call_stays : (past : List Line) (stamp : Stamp) (d : ℕ) (e : Entry) (c slot : ℕ)
    → (c ≡ d → call_after slot (call_at c slot past) e ≡ call_at c slot past) → call_at c slot (line (turn stamp (Client d)) e ∷ past)
    ≡ call_at c slot past
call_stays past stamp d e c slot f = on_same (reads_call e) (nat_eq c d) (call_after slot (call_at c slot past) e) (call_at c slot past)
    (λ t. f (eqb-true c d t))

pub asks_other : (served : Option ℕ) (slot : ℕ) (asking : Asking) (call : Option Running) → (served ≡ Some slot → ⊥)
    → asks_for served slot asking call ≡ call
asks_other None slot asking call n = refl
asks_other (Some s) slot asking call n = cond_both (nat_eq s slot) (asks asking call) call (λ v. v ≡ call)
    (λ t. absurd (n (ap (λ k. Some k) (eqb-true s slot t)))) (λ t. refl)

-- ---- what a call was before a line

abbrev pub Touches : Node → Entry → ℕ → ℕ → Asking → Type 0
Touches node (Queues u q) c slot asking = asking ≡ Asked
Touches node (Heard u f k) c slot asking = (node ≡ Client c) × (f.slot ≡ Some slot) × (asking ≡ Answered u k)
Touches node _ c slot asking = ⊥

-- the newest line is the begin of that call
abbrev pub JustBegan : List Line → ℕ → ℕ → Running → Type 0
JustBegan [] c slot r = ⊥
JustBegan (l ∷ past) c slot r = elim l.entry [ Begin s running ↦ (l.at.node ≡ Client c) × (s ≡ slot) × (running ≡ r) | _ ↦ ⊥ ]

-- it has just begun
pub record Began (past : List Line) (now : At) (e : Entry) (c slot : ℕ) (r : Running) : Type 0 where
  pub later : Later past now
  pub none : call_at c slot past ≡ None
  pub at : r.at ≡ now
  pub asking : r.asking ≡ Unasked
  pub begins : Begins c past r
  pub limits : IsCall r.call
  pub newest : JustBegan (line now e ∷ past) c slot r

-- a request for it was queued or heard
pub record Touched (past : List Line) (node : Node) (e : Entry) (c slot : ℕ) (r : Running) : Type 0 where
  pub before : Running
  pub call : call_at c slot past ≡ Some before
  pub at : before.at ≡ r.at
  pub same : before.call ≡ r.call
  pub file : before.file ≡ r.file
  pub stage : before.stage ≡ r.stage
  pub pins : before.pins ≡ r.pins
  pub asking : Touches node e c slot r.asking

-- it went on: to the next object, or with the lock that came. It has asked nothing since the last answer
pub record Stood (past : List Line) (now : At) (c slot : ℕ) (r : Running) : Type 0 where
  pub own : now.node ≡ Client c
  pub before : Running
  pub call : call_at c slot past ≡ Some before
  pub at : before.at ≡ r.at
  pub same : before.call ≡ r.call
  pub file : before.file ≡ r.file
  pub asking : before.asking ≡ r.asking
  pub still : r.asking ≡ Asked → ⊥
  pub good : r.stage ≡ Bad → ⊥
  pub stands : StandsOk past now c slot r

-- but for a line that says where a call stands
abbrev pub Kept : List Line → At → Node → Entry → ℕ → ℕ → Running → Type 0
Kept past at node e c slot r = (call_at c slot past ≡ Some r) ⊎ (Began past at e c slot r ⊎ Touched past node e c slot r)

abbrev pub Came : List Line → At → Node → Entry → ℕ → ℕ → Running → Type 0
Came past at node e c slot r = (call_at c slot past ≡ Some r) ⊎ (Began past at e c slot r
    ⊎ (Touched past node e c slot r ⊎ Stood past at c slot r))

came : (past : List Line) (at : At) (node : Node) (e : Entry) (c slot : ℕ) (r : Running) → Kept past at node e c slot r
    → Came past at node e c slot r
came past at node e c slot r (inl k) = inl k
came past at node e c slot r (inr (inl k)) = inr (inl k)
came past at node e c slot r (inr (inr k)) = inr (inr (inl k))

some_is : (q r : Running) → Some q ≡ Some r → q ≡ r
some_is q r e = cc

-- what a request makes of the call
record Asks (served : Option ℕ) (slot : ℕ) (asking : Asking) (old : Option Running) (r : Running) : Type 0 where
  serves : served ≡ Some slot
  before : Running
  call : old ≡ Some before
  is : record before { asking = asking } ≡ r

asks_cases : (served : Option ℕ) (slot : ℕ) (asking : Asking) (call : Option Running) (r : Running) → asks_for served slot asking call
    ≡ Some r → (call ≡ Some r) ⊎ Asks served slot asking call r
asks_cases None slot asking call r = λ e. inl e
asks_cases (Some s) slot asking call r =
    cond_both (nat_eq s slot) (asks asking call) call (λ v. v ≡ Some r → (call ≡ Some r) ⊎ Asks (Some s) slot asking call r)
    (λ t e. by call (ap (λ k. Some k) (eqb-true s slot t)) e)
    (λ t e. inl e)
  where
    by : (call : Option Running) → Some s ≡ Some slot → asks asking call ≡ Some r → (call ≡ Some r) ⊎ Asks (Some s) slot asking call r
    by None n e = absurd (cc)
    by (Some q) n e = inr (record { serves = n; before = q; call = refl; is = some_is (record q { asking = asking }) r e })

touched : (past : List Line) (node : Node) (e : Entry) (served : Option ℕ) (asking : Asking) (c slot : ℕ) (r : Running)
    → (served ≡ Some slot → Touches node e c slot asking) → Asks served slot asking (call_at c slot past) r → Touched past node e c slot r
touched past node e served asking c slot r how a =
    record {
      before = a.before;
      call = a.call;
      at = ap (λ (v : Running). v.at) a.is;
      same = ap (λ (v : Running). v.call) a.is;
      file = ap (λ (v : Running). v.file) a.is;
      stage = ap (λ (v : Running). v.stage) a.is;
      pins = ap (λ (v : Running). v.pins) a.is;
      asking = subst (λ (v : Running). Touches node e c slot v.asking) a.is (how a.serves);
    }

-- where it stands then
moved_good : (past : List Line) (now : At) (c : ℕ) (q : Running) (stage : Stage) → MovedStand past now c q stage → stage ≡ Bad → ⊥
moved_good past now c q stage (inl h) bad = let e : CameOf h.work h.lock ≡ Bad = sym h.is ∙ bad in cc
moved_good past now c q stage (inr (inl h)) bad = let e : Waits h.work h.wanted.target (waiting_lock (life_at c past) h.cookie h.wanted)
    false ≡ Bad = sym h.is ∙ bad in cc
moved_good past now c q stage (inr (inr (inl h))) bad = let e : Waits h.work h.target h.lock true ≡ Bad = sym h.is ∙ bad in cc
moved_good past now c q stage (inr (inr (inr (inl h)))) bad = let e : Forgotten h.work ≡ Bad = sym h.is ∙ bad in cc
moved_good past now c q stage (inr (inr (inr (inr h)))) bad = let e : Looks h.work ≡ Bad = sym h.is ∙ bad in cc

pub stands_good : (past : List Line) (now : At) (c : ℕ) (q : Running) (stage : Stage) (pins : List LockName)
    → SizesStand past now q stage pins ⊎ LockStand past c q stage ⊎ StatStand past now c q stage pins ⊎ GetStand past c q stage pins
    ⊎ FlushStand past c q stage pins ⊎ ((pins ≡ q.pins) × MovedStand past now c q stage)
    → stage ≡ Bad → ⊥
stands_good past now c q stage pins (inl h) bad =
    ⊎_elim (λ (k : stage ≡ Sizes h.work). let e : Sizes h.work ≡ Bad = sym k ∙ bad in cc)
    (λ (k : (stage ≡ Enqueued h.work) × LeftSize past now q h.sizes). let e : Enqueued h.work ≡ Bad = sym k.0 ∙ bad in cc) h.is
stands_good past now c q stage pins (inr (inl h)) bad = let e : Enqueued h.work ≡ Bad = sym h.is ∙ bad in cc
stands_good past now c q stage pins (inr (inr (inl h))) bad = let e : Enqueued h.work ≡ Bad = sym h.is ∙ bad in cc
stands_good past now c q stage pins (inr (inr (inr (inl h)))) bad = let e : Gets h.work ≡ Bad = sym h.is ∙ bad in cc
stands_good past now c q stage pins (inr (inr (inr (inr (inl h))))) bad = let e : Flushing h.stripe ≡ Bad = sym h.is ∙ bad in cc
stands_good past now c q stage pins (inr (inr (inr (inr (inr h))))) bad = moved_good past now c q stage h.1 bad

stood : (past : List Line) (now : At) (c slot : ℕ) (r : Running) → now.node ≡ Client c → StandsOk past now c slot r
    → Stood past now c slot r
stood past now c slot r own ok =
    record {
      own = own;
      before = ok.running;
      call = ok.call;
      at = ap (λ (v : Running). v.at) (sym ok.is);
      same = ap (λ (v : Running). v.call) (sym ok.is);
      file = ap (λ (v : Running). v.file) (sym ok.is);
      asking = ap (λ (v : Running). v.asking) (sym ok.is);
      still = λ e. ok.still (sym (ap (λ (v : Running). v.asking) ok.is) ∙ e);
      good = λ e. stands_good past now c ok.running ok.stage ok.pins ok.how (sym (ap (λ (v : Running). v.stage) ok.is) ∙ e);
      stands = ok;
    }

abbrev pub IsNoStand : Entry → Type 0
IsNoStand (Stands slot running) = ⊥
IsNoStand _ = Unit {0}

pub kept_cases : (past : List Line) (stamp : Stamp) (node : Node) (e : Entry) → EntryOk past (turn stamp node) node e → IsNoStand e
    → (c slot : ℕ) (r : Running) → call_at c slot (line (turn stamp node) e ∷ past) ≡ Some r → Kept past (turn stamp node) node e c slot r
kept_cases past stamp (Client d) (Begin s running) ok none c slot r =
    cond_both (nat_eq c d) (if nat_eq s slot then Some running else call_at c slot past) (call_at c slot past)
    (λ v. v ≡ Some r → Kept past (turn stamp (Client d)) (Client d) (Begin s running) c slot r)
    (λ t. cond_both (nat_eq s slot) (Some running) (call_at c slot past)
    (λ v. v ≡ Some r → Kept past (turn stamp (Client d)) (Client d) (Begin s running) c slot r)
    (λ u e.
    let is : begun (turn stamp (Client d)) running.call running.file running.stage ≡ r = sym ok.is ∙ some_is running r e in
    inr (inl (record {
      later = ok.later;
      none = ap (λ v. call_at v slot past) (eqb-true c d t) ∙ ap (λ v. call_at d v past) (sym (eqb-true s slot u)) ∙ ok.free;
      at = ap (λ (v : Running). v.at) (sym is);
      asking = ap (λ (v : Running). v.asking) (sym is);
      begins = subst (λ v. Begins c past v) (some_is running r e) (subst (λ v. Begins v past running) (sym (eqb-true c d t)) ok.begins);
      limits = subst (λ (v : Running). IsCall v.call) (some_is running r e) ok.limits;
      newest = (ap Client (sym (eqb-true c d t)), eqb-true s slot u, some_is running r e);
    })))
    (λ u e. inl e))
    (λ t e. inl e)
kept_cases past stamp (Client d) (Queues u q) ok none c slot r =
    cond_both (nat_eq c d) (asks_for q.slot slot Asked (call_at c slot past)) (call_at c slot past)
    (λ v. v ≡ Some r → Kept past (turn stamp (Client d)) (Client d) (Queues u q) c slot r)
    (λ t e. ⊎_elim
    (λ (k : call_at c slot past ≡ Some r). inl k)
    (λ (k : Asks q.slot slot Asked (call_at c slot past) r). inr
    (inr (touched past (Client d) (Queues u q) q.slot Asked c slot r (λ n. refl) k)))
    (asks_cases q.slot slot Asked (call_at c slot past) r e))
    (λ t e. inl e)
kept_cases past stamp (Client d) (Heard u f k) ok none c slot r =
    cond_both (nat_eq c d) (asks_for f.slot slot (Answered u k) (call_at c slot past)) (call_at c slot past)
    (λ v. v ≡ Some r → Kept past (turn stamp (Client d)) (Client d) (Heard u f k) c slot r)
    (λ t e. ⊎_elim
    (λ (w : call_at c slot past ≡ Some r). inl w)
    (λ (w : Asks f.slot slot (Answered u k) (call_at c slot past) r). inr
    (inr (touched past (Client d) (Heard u f k) f.slot (Answered u k) c slot r (λ n. (ap Client (sym (eqb-true c d t)), n, refl)) w)))
    (asks_cases f.slot slot (Answered u k) (call_at c slot past) r e))
    (λ t e. inl e)
kept_cases past stamp (Client d) (Told s named answer work) ok none c slot r =
    cond_both (nat_eq c d) (if nat_eq s slot then None else call_at c slot past) (call_at c slot past)
    (λ v. v ≡ Some r → Kept past (turn stamp (Client d)) (Client d) (Told s named answer work) c slot r)
    (λ t. cond_both (nat_eq s slot) None (call_at c slot past) (λ v. v ≡ Some r
    → Kept past (turn stamp (Client d)) (Client d) (Told s named answer work) c slot r) (λ u e. absurd (cc)) (λ u e. inl e))
    (λ t e. inl e)
kept_cases past stamp (Target t) Tick ok none c slot r = λ q. inl q
kept_cases past stamp (Client d) (Stands s running) ok none c slot r = absurd none
kept_cases past stamp (Target t) (Stands s running) ok none c slot r = absurd none
kept_cases past stamp node e ok none c slot r = λ q. inl q

pub call_cases : (past : List Line) (stamp : Stamp) (node : Node) (e : Entry) → EntryOk past (turn stamp node) node e
    → (c slot : ℕ) (r : Running) → call_at c slot (line (turn stamp node) e ∷ past) ≡ Some r → Came past (turn stamp node) node e c slot r
call_cases past stamp (Client d) (Stands s running) ok c slot r =
    cond_both (nat_eq c d) (if nat_eq s slot then Some running else call_at c slot past) (call_at c slot past)
    (λ v. v ≡ Some r → Came past (turn stamp (Client d)) (Client d) (Stands s running) c slot r)
    (λ t. cond_both (nat_eq s slot) (Some running) (call_at c slot past)
    (λ v. v ≡ Some r → Came past (turn stamp (Client d)) (Client d) (Stands s running) c slot r)
    (λ u e. inr (inr (inr (stood past (turn stamp (Client d)) c slot r (ap Client (sym (eqb-true c d t)))
    (subst (λ (v : Running). StandsOk past (turn stamp (Client d)) c slot v) (some_is running r e)
    (subst (λ v. StandsOk past (turn stamp (Client d)) c v running) (eqb-true s slot u)
    (subst (λ v. StandsOk past (turn stamp (Client d)) v s running) (sym (eqb-true c d t)) ok)))))))
    (λ u e. inl e))
    (λ t e. inl e)
call_cases past stamp (Target t) (Stands s running) ok c slot r = absurd ok
call_cases past stamp node e ok c slot r = λ q. came past (turn stamp node) node e c slot r (kept_cases past stamp node e ok tt c slot r q)

-- ---- a call on a bad handle

abbrev IsTold : ℕ → Entry → Type 0
IsTold slot (Told s turn answer work) = s ≡ slot
IsTold slot _ = ⊥

-- the next line tells it
owed : (past : List Line) (at : At) (e : Entry) (c slot : ℕ) (r : Running) → JustBegan past c slot r → r.stage ≡ Bad → Owes past at e
    → (at.node ≡ Client c) × IsTold slot e
owed [] at e c slot r j bad o = absurd j
owed (l ∷ past) at e c slot r j bad o = by l.entry j o
  where
    starts : (s : ℕ) (e : Entry) → s ≡ slot → Starts s Bad e → IsTold slot e
    starts s (Told t turn answer work) is w = w ∙ is
    starts s e is w = absurd w

    by : (b : Entry) → JustBegan (line l.at b ∷ past) c slot r → Owes (line l.at b ∷ past) at e → (at.node ≡ Client c) × IsTold slot e
    by (Begin s running) j o =
        let w = subst (λ (v : Stage). OwesBegun (l.at ≡ at) s v running.call e) (ap (λ (v : Running). v.stage) j.2 ∙ bad) o in
        (ap (λ (v : At). v.node) (sym w.0) ∙ j.0, starts s e j.1 w.1)
    by b j o = absurd j

told_off : (past : List Line) (stamp : Stamp) (node : Node) (e : Entry) (c slot : ℕ) → node ≡ Client c → IsTold slot e
    → call_at c slot (line (turn stamp node) e ∷ past) ≡ None
told_off past stamp (Client d) (Told s turn answer work) c slot n t =
    let same : d ≡ c = cc in
    cond-true (nat_eq c d) (if nat_eq s slot then None else call_at c slot past) (call_at c slot past) (ap (nat_eq c) same ∙ self c)
    ∙ cond-true (nat_eq s slot) None (call_at c slot past) (ap (λ v. nat_eq v slot) t ∙ self slot)
told_off past stamp (Target t) (Told s turn answer work) c slot n w = absurd (cc)
told_off past stamp node e c slot n w = absurd w

-- so a call on a bad handle stands in no line but its begin
pub bad_began : (head : Head) (past : List Line) → Grown head past → (c slot : ℕ) (r : Running) → call_at c slot past ≡ Some r → r.stage
    ≡ Bad → JustBegan past c slot r
bad_began head [] g c slot r k bad = absurd (cc)
bad_began head (l ∷ past) g c slot r k bad =
    ⊎_elim
    (λ (p : call_at c slot past ≡ Some r). absurd (over r (bad_began head past g.1 c slot r p bad) bad))
    (λ (p : Began past l.at l.entry c slot r ⊎ (Touched past l.at.node l.entry c slot r ⊎ Stood past l.at c slot r)). ⊎_elim
    (λ (q : Began past l.at l.entry c slot r). q.newest)
    (⊎_elim
    (λ (q : Touched past l.at.node l.entry c slot r). absurd (over q.before (bad_began head past g.1 c slot q.before q.call (q.stage ∙ bad))
    (q.stage ∙ bad)))
    (λ (q : Stood past l.at c slot r). absurd (q.good bad)))
    p)
    (call_cases past l.at.stamp l.at.node l.entry g.0.ok c slot r k)
  where
    over : (q : Running) → JustBegan past c slot q → q.stage ≡ Bad → ⊥
    over q j b =
        let o = owed past l.at l.entry c slot q j b g.0.owes in
        let none = told_off past l.at.stamp l.at.node l.entry c slot o.0 o.1 in
        absurd (let w : None ≡ Some r = sym none ∙ k in cc)

pub bad_unasked : (head : Head) (past : List Line) → Grown head past → (c slot : ℕ) (r : Running) → call_at c slot past ≡ Some r → r.stage
    ≡ Bad → r.asking ≡ Unasked
bad_unasked head [] g c slot r k bad = absurd (cc)
bad_unasked head (l ∷ past) g c slot r k bad = by l.at.node l.entry g.0.ok (bad_began head (l ∷ past) g c slot r k bad)
  where
    by : (node : Node) (e : Entry) → EntryOk past (turn l.at.stamp node) node e → JustBegan (line (turn l.at.stamp node) e ∷ past) c slot r
        → r.asking ≡ Unasked
    by (Client d) (Begin s running) ok j = ap (λ (v : Running). v.asking) (sym j.2) ∙ ap (λ (v : Running). v.asking) ok.is
    by (Target t) (Begin s running) ok j = absurd ok
    by (Target t) Tick ok j = absurd j
    by node e ok j = absurd j

-- ---- what a read, or a stat, has in use

-- it had a lock there still after another line
had_more : (past : List Line) (at : At) (e : Entry) (c slot : ℕ) (wanted : Use) (r : Running) → EntryOk past at at.node e
    → call_at c slot past ≡ Some r → HadLock c slot wanted past → HadLock c slot wanted (line at e ∷ past)
had_more past at (Begin s running) c slot wanted r ok k h = inr (by at.node (nat_eq s slot) ok refl)
  where
    by : (node : Node) (b : Bool) → EntryOk past at node (Begin s running) → nat_eq s slot ≡ b
        → Unless (is_client c node && b) (HadLock c slot wanted past)
    by (Target t) b ok e = absurd ok
    by (Client d) false ok e = off (nat_eq c d)
      where
        off : (x : Bool) → Unless (x && false) (HadLock c slot wanted past)
        off true = h
        off false = h
    by (Client d) true ok e = own (nat_eq c d) refl
      where
        own : (x : Bool) → nat_eq c d ≡ x → Unless (x && true) (HadLock c slot wanted past)
        own false q = h
        own true q = absurd (let none : call_at c slot past ≡ None = ap (λ v. call_at v slot past) (eqb-true c d q)
            ∙ ap (λ v. call_at d v past) (sym (eqb-true s slot e)) ∙ ok.free in let w : None ≡ Some r = sym none ∙ k in cc)
had_more past at e c slot wanted r ok k h = inr h

-- so it had one of each that it has in use
pub had_all : (head : Head) (past : List Line) → Grown head past → (c slot : ℕ) (r : Running) → call_at c slot past ≡ Some r
    → HadUsed c slot past r.stage
had_all head [] g c slot r k u i = absurd (cc)
had_all head (l ∷ past) g c slot r k u i =
    ⊎_elim
    (λ (p : call_at c slot past ≡ Some r). more r p (had_all head past g.1 c slot r p u i))
    (λ (p : Began past l.at l.entry c slot r ⊎ (Touched past l.at.node l.entry c slot r ⊎ Stood past l.at c slot r)). ⊎_elim
    (λ (q : Began past l.at l.entry c slot r). absurd (begins q.begins i))
    (⊎_elim
    (λ (q : Touched past l.at.node l.entry c slot r). more q.before q.call
    (had_all head past g.1 c slot q.before q.call u (subst (λ (s : Stage). In u (used_in s)) (sym q.stage) i)))
    (λ (q : Stood past l.at c slot r). more q.before q.call (q.stands.had u
    (subst (λ (s : Stage). In u (used_in s)) (ap (λ (v : Running). v.stage) q.stands.is) i))))
    p)
    (call_cases past l.at.stamp l.at.node l.entry g.0.ok c slot r k)
  where
    more : (q : Running) → call_at c slot past ≡ Some q → HadLock c slot u.want past → HadLock c slot u.want (l ∷ past)
    more q w h = had_more past l.at l.entry c slot u.want q g.0.ok w h

    begins : Begins c past r → In u (used_in r.stage) → ⊥
    begins (inl b) j = subst (λ (s : Stage). In u (used_in s)) b.1 j
    begins (inr b) j = subst (λ (s : Stage). In u (used_in s)) b.1 j

-- and has each of them pinned
pub mine_all : (head : Head) (past : List Line) → Grown head past → (c slot : ℕ) (r : Running) → call_at c slot past ≡ Some r → (u : Using)
    → In u (used_in r.stage) → In (name_under u.want u.lock) r.pins
mine_all head [] g c slot r k u i = absurd (cc)
mine_all head (l ∷ past) g c slot r k u i =
    ⊎_elim
    (λ (p : call_at c slot past ≡ Some r). mine_all head past g.1 c slot r p u i)
    (λ (p : Began past l.at l.entry c slot r ⊎ (Touched past l.at.node l.entry c slot r ⊎ Stood past l.at c slot r)). ⊎_elim
    (λ (q : Began past l.at l.entry c slot r). absurd (begins q.begins i))
    (⊎_elim
    (λ (q : Touched past l.at.node l.entry c slot r). subst (In (name_under u.want u.lock)) q.pins
    (mine_all head past g.1 c slot q.before q.call u (subst (λ (s : Stage). In u (used_in s)) (sym q.stage) i)))
    (λ (q : Stood past l.at c slot r).
    subst (In (name_under u.want u.lock)) (ap (λ (v : Running). v.pins) (sym q.stands.is))
    (q.stands.mine u (subst (λ (s : Stage). In u (used_in s)) (ap (λ (v : Running). v.stage) q.stands.is) i))))
    p)
    (call_cases past l.at.stamp l.at.node l.entry g.0.ok c slot r k)
  where
    begins : Begins c past r → In u (used_in r.stage) → ⊥
    begins (inl b) j = subst (λ (s : Stage). In u (used_in s)) b.1 j
    begins (inr b) j = subst (λ (s : Stage). In u (used_in s)) b.1 j

-- ---- a call is within its limits

pub limited : (head : Head) (past : List Line) → Grown head past → (c slot : ℕ) (r : Running) → call_at c slot past ≡ Some r → IsCall r.call
limited head [] g c slot r k = absurd (cc)
limited head (l ∷ past) g c slot r k =
    ⊎_elim
    (λ (p : call_at c slot past ≡ Some r). limited head past g.1 c slot r p)
    (λ (p : Began past l.at l.entry c slot r ⊎ (Touched past l.at.node l.entry c slot r ⊎ Stood past l.at c slot r)). ⊎_elim
    (λ (q : Began past l.at l.entry c slot r). q.limits)
    (⊎_elim
    (λ (q : Touched past l.at.node l.entry c slot r). subst IsCall q.same (limited head past g.1 c slot q.before q.call))
    (λ (q : Stood past l.at c slot r). subst IsCall q.same (limited head past g.1 c slot q.before q.call)))
    p)
    (call_cases past l.at.stamp l.at.node l.entry g.0.ok c slot r k)
