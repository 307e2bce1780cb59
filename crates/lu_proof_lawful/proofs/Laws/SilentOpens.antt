-- While a call opens a handle none is bound to it, and no other call opens it. So the file that a handle is bound to stays until a call
-- begins
-- that closes it, or its life is over; and a read has the file of its handle as long.
use Rattle.std.proofs.Common.{◌≡◌, ℕ, zero, suc, ◌<◌, Bool, true, false, List, [], ◌∷◌, ◌⊎◌, inl, inr, ⊎_elim, Option, Some, None, refl}
use Rattle.std.proofs.Common.{sym, subst, ap, ◌∙◌, arith}
use Rattle.std.specs.Prelude.{nat_eq, ◌==◌, if◌then◌else◌, is_some}
use Rattle.std.proofs.lemmas.Bool.{cond_both, eqb-true, or_parts}
use Rattle.lu_base.specs.declared.ids.At.{At}
use Rattle.lu_base.specs.declared.ids.Node.{Node}
use Rattle.lu_base.specs.declared.ids.Node.TheVariants.{Client, Target}
use Rattle.lu_base.specs.declared.ids.Who.{Who}
use Rattle.lu_msg.specs.declared.calls.Call.{Call}
use Rattle.lu_msg.specs.declared.calls.Call.TheVariants as call
use Rattle.lu_msg.specs.declared.messages.Message.TheVariants as message
use Rattle.lu_held.specs.declared.names.LockName.{LockName}
use Rattle.lu_spec_entries.specs.Carried.{HandleFile, Work, Stage, Bad, Enqueued, Waits, Forgotten, Gets, Running}
use Rattle.lu_spec_entries.specs.Words.{Entry, Begin, Told, Life, Line, line}
use Rattle.lu_spec_client.specs.Recovery.{is_left_at}
use Rattle.lu_spec_client.specs.Slots.{is_open_of, opens}
use Rattle.lu_proof_lawful.specs.Covered.Calls.{call_at, opened, binds, told_file, begun_file, file_at, is_opening, is_bad}
use Rattle.lu_proof_lawful.specs.Covered.Heads.{Head}
use Rattle.lu_spec_laws.specs.Words.Repeats.{rebinds}
use Rattle.lu_proof_lawful.proofs.Preconditions.Guards.{Begins, EntryOk, Took, Replied, ReadsOn, ChangesOn, SizesStand, LockStand}
use Rattle.lu_proof_lawful.proofs.Preconditions.Guards.{StatStand, GetStand, FlushStand, LockBrought, LockGranted, MovedStand}
use Rattle.lu_proof_lawful.proofs.Preconditions.Lists.{self, turn}
use Rattle.lu_proof_lawful.proofs.Preconditions.ClientLines.{SmallOn, small_on}
use Rattle.lu_proof_lawful.proofs.Preconditions.Calls.{Came, JustBegan, call_cases, bad_unasked}
use Rattle.lu_proof_lawful.proofs.Preconditions.Grown.{Grown}
use Rattle.lu_proof_lawful.proofs.Laws.SilentHeld.{gives_up}

-- ---- a call that opens a handle, and isn't refused as it begins

pub record Opening (c : ℕ) (past : List Line) (slot h : ℕ) : Type 0 where
  pub running : Running
  pub there : call_at c slot past ≡ Some running
  pub path : List (List ℕ)
  pub opens : running.call ≡ call.Open h path
  pub good : running.stage ≡ Bad → ⊥

-- then its handle is said to be opening
opening_is : (head : Head) (c slot h : ℕ) (past : List Line) → Grown head past → Opening c past slot h → is_opening c h past ≡ false → ⊥
opening_is head c slot h past g o none = by slot (subst (SmallOn slot) o.there (small_on head c slot past g)) o.there
  where
    it : (x : Option Running) → x ≡ Some o.running → opens h x ≡ true
    it x e = ap (opens h) e ∙ ap (is_open_of h) o.opens ∙ self h

    clash : (b : Bool) → b ≡ true → b ≡ false → ⊥
    clash true e f = absurd (cc)
    clash false e f = absurd (cc)

    by : (s : ℕ) → s < 4 → call_at c s past ≡ Some o.running → ⊥
    by zero b e = clash (opens h (call_at c 0 past)) (it (call_at c 0 past) e) (or_parts (opens h (call_at c 0 past)) _ none).0
    by (suc zero) b e = clash (opens h (call_at c 1 past)) (it (call_at c 1 past) e)
        (or_parts (opens h (call_at c 1 past)) _ (or_parts (opens h (call_at c 0 past)) _ none).1).0
    by (suc (suc zero)) b e =
        clash (opens h (call_at c 2 past)) (it (call_at c 2 past) e)
        (or_parts (opens h (call_at c 2 past)) _ (or_parts (opens h (call_at c 1 past)) _
        (or_parts (opens h (call_at c 0 past)) _ none).1).1).0
    by (suc (suc (suc zero))) b e =
        clash (opens h (call_at c 3 past)) (it (call_at c 3 past) e)
        (or_parts (opens h (call_at c 3 past)) _ (or_parts (opens h (call_at c 2 past)) _
        (or_parts (opens h (call_at c 1 past)) _ (or_parts (opens h (call_at c 0 past)) _ none).1).1).1).0
    by (suc (suc (suc (suc s)))) b e = absurd (omega (arith, b))

-- one that begins well finds the handle free
begins_free : (c : ℕ) (past : List Line) (r : Running) (h : ℕ) (path : List (List ℕ)) → Begins c past r → r.call ≡ call.Open h path
    → (r.stage ≡ Bad → ⊥) → (file_at c h past ≡ None) × (is_opening c h past ≡ false)
begins_free c past r h path (inl b) is good =
    let p = or_parts (is_some (file_at c h past)) (is_opening c h past) (sym (ap (is_bad c past) is) ∙ b.0) in
    (none_at (file_at c h past) p.0, p.1)
  where
    none_at : (f : Option HandleFile) → is_some f ≡ false → f ≡ None
    none_at None e = refl
    none_at (Some f) e = absurd (cc)
begins_free c past r h path (inr b) is good = absurd (good b.1)

-- an open that a line finds there, or that begins in it
abbrev Before : ℕ → List Line → Line → ℕ → ℕ → Type 0
Before c past l slot h = Opening c past slot h ⊎ ((r : Running) × JustBegan (l ∷ past) c slot r × (file_at c h past ≡ None)
    × (is_opening c h past ≡ false))

-- a call that opens isn't one that stands, and one that was refused stands nowhere else
abbrev NotOpen : Call → Type 0
NotOpen (call.Open h path) = ⊥
NotOpen _ = Unit {0}

abbrev NotBad : Stage → Type 0
NotBad Bad = ⊥
NotBad _ = Unit {0}

module _ (past : List Line) (at : At) (c : ℕ) (q : Running) (h : ℕ) (path : List (List ℕ)) (is : q.call ≡ call.Open h path)
    (bad : q.stage ≡ Bad) where
  other : (k : Call) → q.call ≡ k → NotOpen k → ⊥
  other k e w = subst NotOpen (sym e ∙ is) w

  elsewhere : (s : Stage) → q.stage ≡ s → NotBad s → ⊥
  elsewhere s e w = subst NotBad (sym e ∙ bad) w

  changes : {w : Work} → ChangesOn q w → ⊥
  changes (inl d) = other (call.Write d.handle d.offset d.bytes) d.writes tt
  changes (inr d) = other (call.Cut d.handle d.size) d.cuts tt

  moved_on : (stage : Stage) → MovedStand past at c q stage → ⊥
  moved_on stage (inl k) = ⊎_elim (λ (b : LockBrought past at q k.work k.lock). elsewhere (Enqueued k.work) b.stage tt)
      (λ (b : LockGranted past at q k.work k.lock). elsewhere (Waits k.work b.target b.waiting b.marked) b.stage tt) k.from
  moved_on stage (inr (inl k)) = elsewhere (Enqueued k.work) k.before tt
  moved_on stage (inr (inr (inl k))) = elsewhere (Waits k.work k.target k.lock k.marked) k.before tt
  moved_on stage (inr (inr (inr (inl k)))) = elsewhere (Waits k.work k.target k.lock k.marked) k.before tt
  moved_on stage (inr (inr (inr (inr k)))) = by k.from
    where
      by : ((q.stage ≡ Forgotten k.work) × ((t : ℕ) × (who : Who) × (boot committed : ℕ)
          × Took past at (Target t) (message.Ready who boot (record { 0 = committed })) × (is_left_at t k.work.left ≡ true)))
          ⊎ ((q.stage ≡ Gets k.work) × Replied past at q) → ⊥
      by (inl f) = elsewhere (Forgotten k.work) f.0 tt
      by (inr f) = elsewhere (Gets k.work) f.0 tt

  stands_not : (stage : Stage) (pins : List LockName)
      → SizesStand past at q stage pins ⊎ LockStand past c q stage ⊎ StatStand past at c q stage pins ⊎ GetStand past c q stage pins
      ⊎ FlushStand past c q stage pins ⊎ ((pins ≡ q.pins) × MovedStand past at c q stage) → ⊥
  stands_not stage pins (inl k) = other (call.Glimpse k.has.handle) k.has.glimpses tt
  stands_not stage pins (inr (inl k)) = ⊎_elim (λ (d : ReadsOn q k.work). other (call.Read d.read.handle d.read.offset d.read.count)
      d.read.reads tt) (λ (d : ChangesOn q k.work). changes d) k.does
  stands_not stage pins (inr (inr (inl k))) = other (call.Stat k.stat.path) k.stat.stats tt
  stands_not stage pins (inr (inr (inr (inl k)))) = other (call.Read k.does.read.handle k.does.read.offset k.does.read.count)
      k.does.read.reads tt
  stands_not stage pins (inr (inr (inr (inr (inl k))))) = k.good bad
  stands_not stage pins (inr (inr (inr (inr (inr k))))) = moved_on stage k.1

opening_before : (head : Head) (c slot h : ℕ) (l : Line) (past : List Line) → Grown head (l ∷ past) → Opening c (l ∷ past) slot h
    → Before c past l slot h
opening_before head c slot h l past g o = by (call_cases past l.at.stamp l.at.node l.entry g.0.ok c slot o.running o.there)
  where
    by : Came past (turn l.at.stamp l.at.node) l.at.node l.entry c slot o.running → Before c past l slot h
    by (inl e) = inl (record { running = o.running; there = e; path = o.path; opens = o.opens; good = o.good })
    by (inr (inl b)) = let f = begins_free c past o.running h o.path b.begins o.opens o.good in inr (o.running, b.newest, f.0, f.1)
    by (inr (inr (inl t))) = inl (record {
      running = t.before;
      there = t.call;
      path = o.path;
      opens = t.same ∙ o.opens;
      good =
          λ bad. o.good (sym t.stage ∙ bad);
    })
    by (inr (inr (inr s))) =
        let k = s.stands in
        let is : k.running.call ≡ call.Open h o.path = ap (λ (v : Running). v.call) (sym k.is) ∙ o.opens in
        inl (record {
          running = k.running;
          there = k.call;
          path = o.path;
          opens = is;
          good = λ bad. stands_not past (turn l.at.stamp l.at.node) c k.running h o.path is bad k.stage k.pins k.how;
        })

-- ---- what is opened isn't bound, and is opened once

told_none : (h : ℕ) (r : Option Running) → ((x : Running) (path : List (List ℕ)) → r ≡ Some x → x.call ≡ call.Open h path → opened x.asking
    ≡ None) → (old : Option HandleFile) → told_file h r old ≡ old
told_none h None f old = refl
told_none h (Some x) f old = by x.call refl
  where
    same : (o : Option HandleFile) → o ≡ None → binds o old ≡ old
    same None e = refl
    same (Some file) e = absurd (cc)

    by : (k : Call) → x.call ≡ k → (elim k [ call.Open other path ↦ if other == h then binds (opened x.asking) old else old | _ ↦ old ])
        ≡ old
    by (call.Open other path) e =
        cond_both (other == h) (binds (opened x.asking) old) old (λ (v : Option HandleFile). v ≡ old)
        (λ t. same (opened x.asking) (f x path refl (e ∙ ap (λ (n : ℕ). call.Open n path) (eqb-true other h t))))
        (λ t. refl)
    by _ e = refl

-- one that is refused as it begins was told nothing
bad_opens : (head : Head) (c slot : ℕ) (past : List Line) (r : Running) → Grown head past → call_at c slot past ≡ Some r → r.stage ≡ Bad
    → opened r.asking ≡ None
bad_opens head c slot past r g is bad = ap opened (bad_unasked head past g c slot r is bad)

is_stage_bad : (s : Stage) → (s ≡ Bad) ⊎ (s ≡ Bad → ⊥)
is_stage_bad Bad = inl refl
is_stage_bad _ = inr (λ e. absurd (cc))

begun_none : (h : ℕ) (k : Call) → begun_file h k None ≡ None
begun_none h (call.Close other) = cond_both (other == h) None None (λ (v : Option HandleFile). v ≡ None) (λ t. refl) (λ t. refl)
begun_none h k = refl

abbrev Alone : ℕ → List Line → ℕ → ℕ → Type 0
Alone c past slot h = (file_at c h past ≡ None) × ((other : ℕ) → Opening c past other h → other ≡ slot)

alone_after : (head : Head) (c : ℕ) (l : Line) (past : List Line) → Grown head (l ∷ past)
    → ((slot h : ℕ) → Opening c past slot h → Alone c past slot h) → (slot h : ℕ) → Opening c (l ∷ past) slot h → Alone c (l ∷ past) slot h
alone_after head c l past g before slot h o = (unbound l.at.node l.entry g.0.ok o, alone)
  where
    -- which began in the line finds no other
    one_begins : (a b : ℕ) (r q : Running) → JustBegan (l ∷ past) c a r → JustBegan (l ∷ past) c b q → a ≡ b
    one_begins a b r q = by l.entry
      where
        by : (e : Entry) → JustBegan (line l.at e ∷ past) c a r → JustBegan (line l.at e ∷ past) c b q → a ≡ b
        by (Begin s running) j k = sym j.1 ∙ k.1
        by e j k = absurd j

    both : (a b : ℕ) → Before c past l a h → Before c past l b h → a ≡ b
    both a b (inl x) (inl y) = (before b h y).1 a x
    both a b (inl x) (inr y) = absurd (opening_is head c a h past g.1 x y.3)
    both a b (inr x) (inl y) = absurd (opening_is head c b h past g.1 y x.3)
    both a b (inr x) (inr y) = one_begins a b x.0 y.0 x.1 y.1

    alone : (other : ℕ) → Opening c (l ∷ past) other h → other ≡ slot
    alone other k = both other slot (opening_before head c other h l past g k) (opening_before head c slot h l past g o)

    -- and nothing was bound to it before the line
    free : Before c past l slot h → file_at c h past ≡ None
    free (inl x) = (before slot h x).0
    free (inr x) = x.2

    was : file_at c h past ≡ None
    was = free (opening_before head c slot h l past g o)

    unbound : (node : Node) (e : Entry) → EntryOk past (turn l.at.stamp node) node e
        → Opening c (line (turn l.at.stamp node) e ∷ past) slot h → file_at c h (line (turn l.at.stamp node) e ∷ past) ≡ None
    unbound (Client d) (Begin s running) ok k =
        cond_both (nat_eq c d) (begun_file h running.call (file_at c h past)) (file_at c h past) (λ (v : Option HandleFile). v ≡ None)
        (λ t. ap (begun_file h running.call) was ∙ begun_none h running.call) (λ t. was)
    unbound (Client d) (Told s named given work) ok k =
        cond_both (nat_eq c d) (told_file h (call_at c s past) (file_at c h past)) (file_at c h past) (λ (v : Option HandleFile). v ≡ None)
        (λ t. told_none h (call_at c s past) (λ x path is opens. ⊎_elim (λ (bad : x.stage ≡ Bad). bad_opens head c s past x g.1 is bad)
        (λ (good : x.stage ≡ Bad → ⊥). absurd (other t x path is opens good)) (is_stage_bad x.stage)) (file_at c h past) ∙ was)
        (λ t. was)
      where
        -- another open of it can't be told
        other : nat_eq c d ≡ true → (x : Running) (path : List (List ℕ)) → call_at c s past ≡ Some x → x.call ≡ call.Open h path
            → (x.stage ≡ Bad → ⊥) → ⊥
        other t x path is opens good =
            by (nat_eq s slot) refl k.there
          where
            -- what stands in the slot once that one is told
            slot_now : (b : Bool) → nat_eq s slot ≡ b → call_at c slot (line (turn l.at.stamp (Client d)) (Told s named given work) ∷ past)
                ≡ (if b then None else call_at c slot past)
            slot_now b e = ap (λ (v : Bool). if v then (if nat_eq s slot then None else call_at c slot past) else call_at c slot past) t
                ∙ ap (λ (v : Bool). if v then None else call_at c slot past) e

            still : nat_eq s slot ≡ false → Opening c past slot h
            still apart =
                record {
                  running = k.running;
                  there = sym (slot_now false apart) ∙ k.there;
                  path = k.path;
                  opens = k.opens;
                  good = k.good;
                }

            by : (b : Bool) → nat_eq s slot ≡ b → call_at c slot (line (turn l.at.stamp (Client d)) (Told s named given work) ∷ past)
                ≡ Some k.running → ⊥
            by true e now =
                let gone : None ≡ Some k.running = sym (slot_now true e) ∙ now in
                cc
            by false e now =
                let same : s ≡ slot = (before slot h (still e)).1 s
                (record { running = x; there = is; path = path; opens = opens; good = good }) in
                let one : nat_eq s slot ≡ true = ap (nat_eq s) (sym same) ∙ self s in
                let both : true ≡ false = sym one ∙ e in
                cc
    unbound (Client d) (Life w) ok k = cond_both (nat_eq c d) None (file_at c h past) (λ (v : Option HandleFile). v ≡ None) (λ t. refl)
        (λ t. was)
    unbound (Target u) (Begin s running) ok k = absurd ok
    unbound (Target u) (Told s named given work) ok k = absurd ok
    unbound (Target u) (Life w) ok k = absurd ok
    unbound node e ok k = was

pub open_alone : (head : Head) (c : ℕ) (past : List Line) → Grown head past → (slot h : ℕ) → Opening c past slot h → Alone c past slot h
open_alone head c [] g slot h o = let none = o.there in absurd (cc)
open_alone head c (l ∷ past) g slot h o = alone_after head c l past g (open_alone head c past g.1) slot h o

-- ---- the file of a handle stays

-- the line begins no call that opens or closes what the other reads
abbrev pub KeepsHandles : ℕ → Node → Entry → Call → Type 0
KeepsHandles c (Client d) (Begin s running) k = nat_eq c d ≡ true → rebinds running.call k ≡ false
KeepsHandles c node e k = Unit {0}

closes_other : (h offset count : ℕ) (k : Call) (old : Option HandleFile) → rebinds k (call.Read h offset count) ≡ false → begun_file h k old
    ≡ old
closes_other h offset count (call.Close other) old e = ap (λ (b : Bool). if b then None else old) e
closes_other h offset count k old e = refl

pub file_still : (head : Head) (c h offset count : ℕ) (l : Line) (past : List Line) (f : HandleFile) → Grown head (l ∷ past)
    → gives_up c l.at.node l.entry ≡ false
    → KeepsHandles c l.at.node l.entry (call.Read h offset count) → file_at c h past ≡ Some f
    → file_at c h (l ∷ past) ≡ Some f
file_still head c h offset count l past f g stays keeps is = by l.at.node l.entry g.0.ok stays keeps
  where
    opened_none : (s : ℕ) → Opening c past s h → ⊥
    opened_none s o = let none : file_at c h past ≡ None = (open_alone head c past g.1 s h o).0 in cc

    by : (node : Node) (e : Entry) → EntryOk past (turn l.at.stamp node) node e → gives_up c node e ≡ false
        → KeepsHandles c node e (call.Read h offset count) → file_at c h (line (turn l.at.stamp node) e ∷ past) ≡ Some f
    by (Client d) (Begin s running) ok st k =
        cond_both (nat_eq c d) (begun_file h running.call (file_at c h past)) (file_at c h past) (λ (v : Option HandleFile). v ≡ Some f)
        (λ t. closes_other h offset count running.call (file_at c h past) (k t) ∙ is) (λ t. is)
    by (Client d) (Told s named given work) ok st k =
        cond_both (nat_eq c d) (told_file h (call_at c s past) (file_at c h past)) (file_at c h past)
        (λ (v : Option HandleFile). v ≡ Some f)
        (λ t. told_none h (call_at c s past) (λ x path there opens. ⊎_elim
        (λ (bad : x.stage ≡ Bad). bad_opens head c s past x g.1 there bad)
        (λ (good : x.stage ≡ Bad → ⊥). absurd (opened_none s (record
        { running = x; there = there; path = path; opens = opens; good = good }))) (is_stage_bad x.stage)) (file_at c h past) ∙ is)
        (λ t. is)
    by (Client d) (Life w) ok st k = subst (λ (b : Bool). (if b then None else file_at c h past) ≡ Some f) (sym st) is
    by (Target u) (Begin s running) ok st k = absurd ok
    by (Target u) (Told s named given work) ok st k = absurd ok
    by (Target u) (Life w) ok st k = absurd ok
    by node e ok st k = is
