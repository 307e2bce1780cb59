-- What is told of an object with a lock to read stays so in its story while the lock is granted: nobody changes what lies under it, and no
-- close
-- loses what it rests on.
use Rattle.std.proofs.Common.{◌≡◌, ◌∙◌, ℕ, suc, ◌≤◌, ◌<◌, ◌⊎◌, inl, inr, ⊎_elim, List, [], ◌∷◌, Option, Some, None, Bool, true, false, refl}
use Rattle.std.proofs.Common.{sym, ap, subst, arith}
use Rattle.std.specs.Prelude.{nat_lt, ◌||◌}
use Rattle.std.proofs.lemmas.Bool.{ltb-true, ltb-false, or_parts}
use Rattle.std.proofs.lemmas.Bool.Decides.{nat_tests}
use Rattle.lu_proof_bytes.specs.Object.Words.{Lock, Op, Enqueue, Get, Flush, Size, Request, Answer, Granted, Content, Message, Reply, Give}
use Rattle.lu_proof_bytes.specs.Object.Words.{Entry, Heard, Hold, Drop, Grant, Wait, Promote, Acts, Txn, Release, Commit, Close, Send}
use Rattle.lu_proof_bytes.specs.Object.Words.{covers, changes}
use Rattle.lu_proof_bytes.specs.Object.Folds.{Was, closed, evicted, committed, Answered, WasGranted, HeldBy, IsGranted, also, nothing_lost}
use Rattle.lu_proof_bytes.specs.Object.Folds.{object, op_changes, Changed, is_some, after_op}
use Rattle.lu_proof_bytes.specs.Object.Guards.{KeptFor, Allowed, AllAllowed, ActsOk}
use Rattle.lu_proof_bytes.proofs.Object.Kept.{agree}
use Rattle.lu_proof_bytes.proofs.Object.Locks.{held_granted, promote_apart}
use Rattle.lu_proof_bytes.proofs.Object.Spot.{unchanged}
use Rattle.lu_proof_bytes.proofs.Object.World.{World, world}
use Rattle.lu_proof_lawful.proofs.Projection.Lookups.{meet}

-- ---- what came with a lock

-- a message tells the lock, with that size and what was seen
abbrev pub GivesLock : Message → Lock → ℕ → (ℕ → Bool) → Type 0
GivesLock (Give b m z seen) l s sn = (m ≡ l) × (z ≡ s) × (seen ≡ sn)
GivesLock _ l s sn = ⊥

-- the lock was granted so, or told so once it had waited
abbrev pub Brought : List Entry → Lock → ℕ → (ℕ → Bool) → Type 0
Brought [] l s sn = ⊥
Brought (Grant q m z seen ∷ h) l s sn = ((m ≡ l) × (z ≡ s) × (seen ≡ sn)) ⊎ Brought h l s sn
Brought (Send m ∷ h) l s sn = GivesLock m l s sn ⊎ Brought h l s sn
Brought (_ ∷ h) l s sn = Brought h l s sn

abbrev pub IsGet : Op → ℕ → Type 0
IsGet (Get j at n) k = j ≡ k
IsGet _ k = ⊥

abbrev pub EndsWith : Answer → ℕ → Type 0
EndsWith (Content vs (Some s) sn) last = s ≡ last
EndsWith _ last = ⊥

-- a page that was told the life under the lock of that cookie has its last byte there
abbrev pub Paged : List Entry → (c k last : ℕ) → Type 0
Paged [] c k last = ⊥
Paged (Acts q a ∷ h) c k last = ((q.life ≡ c) × IsGet q.op k × EndsWith a last) ⊎ Paged h c k last
Paged (_ ∷ h) c k last = Paged h c k last

-- it was granted
pub brought_was : (h : List Entry) (l : Lock) (s : ℕ) (sn : ℕ → Bool) → AllAllowed h → Brought h l s sn → WasGranted h l
brought_was [] l s sn all b = absurd b
brought_was (Grant q m z seen ∷ h) l s sn all (inl e) = inl e.0
brought_was (Grant q m z seen ∷ h) l s sn all (inr b) = inr (brought_was h l s sn all.1 b)
brought_was (Promote m ∷ h) l s sn all b = inr (brought_was h l s sn all.1 b)
brought_was (Send m ∷ h) l s sn all (inr b) = brought_was h l s sn all.1 b
brought_was (Send m ∷ h) l s sn all (inl g) = by m g all.0
  where
    by : (m : Message) → GivesLock m l s sn → Allowed h (Send m) → WasGranted h l
    by (Give b m z seen) g ok = subst (λ (x : Lock). WasGranted h x) g.0 ((world h all.1).numbers.is_granted m ok.0)
    by _ g ok = absurd g
brought_was (_ ∷ h) l s sn all b = brought_was h l s sn all.1 b

-- a lock of the page was granted
pub paged_was : (h : List Entry) (c k last : ℕ) → AllAllowed h → Paged h c k last → (m : Lock) × WasGranted h m × (m.cookie ≡ k)
paged_was [] c k last all g = absurd g
paged_was (Acts q a ∷ h) c k last all (inr g) = paged_was h c k last all.1 g
paged_was (Acts q a ∷ h) c k last all (inl g) = by a all.0.1 g.2
  where
    is_get : (o : Op) (j at n : ℕ) → o ≡ Get j at n → IsGet o k → j ≡ k
    is_get o j at n e i = subst (λ (x : Op). IsGet x k) e i

    by : (a : Answer) → ActsOk h q a → EndsWith a last → (m : Lock) × WasGranted h m × (m.cookie ≡ k)
    by (Content vs (Some s) sn) ok e = let under = ok.5 in (
      under.lock,
      (world h all.1).numbers.is_granted under.lock under.granted,
      under.cookie ∙ is_get q.op ok.0 ok.1 ok.2 ok.3 g.1,
    )
    by _ ok e = absurd e
paged_was (Grant q m z seen ∷ h) c k last all g = let w = paged_was h c k last all.1 g in (w.0, inr w.1, w.2)
paged_was (Promote m ∷ h) c k last all g = let w = paged_was h c k last all.1 g in (w.0, inr w.1, w.2)
paged_was (_ ∷ h) c k last all g = paged_was h c k last all.1 g

-- what was sent of it, and answered, came so
pub given_brought : (h : List Entry) (b : ℕ) (l : Lock) (s : ℕ) (sn : ℕ → Bool) → Was h (Give b l s sn) → Brought h l s sn
given_brought [] b l s sn w = absurd w
given_brought (Send m ∷ h) b l s sn (inl e) = inl (subst (λ (x : Message). GivesLock x l s sn) (sym e) (refl, refl, refl))
given_brought (Send m ∷ h) b l s sn (inr w) = inr (given_brought h b l s sn w)
given_brought (Grant q m z seen ∷ h) b l s sn w = inr (given_brought h b l s sn w)
given_brought (_ ∷ h) b l s sn w = given_brought h b l s sn w

answered_brought : (h : List Entry) (c x : ℕ) (l : Lock) (s : ℕ) (sn : ℕ → Bool) → AllAllowed h → Answered h c x (Granted l s sn)
    → Brought h l s sn
answered_brought [] c x l s sn all a = absurd a
answered_brought (Close b lost gone ∷ h) c x l s sn all a = answered_brought h c x l s sn all.1 a.0
answered_brought (Grant r m z seen ∷ h) c x l s sn all (inl e) = inl (let same = e.2 in (cc, cc, cc))
answered_brought (Grant r m z seen ∷ h) c x l s sn all (inr a) = inr (answered_brought h c x l s sn all.1 a)
answered_brought (Wait r m ∷ h) c x l s sn all (inl e) = absurd (let same = e.2 in cc)
answered_brought (Wait r m ∷ h) c x l s sn all (inr a) = answered_brought h c x l s sn all.1 a
answered_brought (Acts r b ∷ h) c x l s sn all (inl e) = absurd ((subst (λ (y : Answer). Allowed h (Acts r y)) e.2 all.0).1)
answered_brought (Acts r b ∷ h) c x l s sn all (inr a) = answered_brought h c x l s sn all.1 a
answered_brought (Txn n r ∷ h) c x l s sn all (inl e) = absurd (let same = e.2 in cc)
answered_brought (Txn n r ∷ h) c x l s sn all (inr a) = answered_brought h c x l s sn all.1 a
answered_brought (Send m ∷ h) c x l s sn all a = inr (answered_brought h c x l s sn all.1 a)
answered_brought (_ ∷ h) c x l s sn all a = answered_brought h c x l s sn all.1 a

-- ---- nothing under a granted lock to read is changed

-- a transaction that changes a position under it has a lock to write there, which would conflict
unwritten : (h : List Entry) (n : ℕ) (q : Request) (l : Lock) (p : ℕ) → World h → Allowed h (Txn n q) → IsGranted h l → l.write ≡ false
    → covers l p ≡ true → op_changes q.op p ≡ false
unwritten h n q l p w ok i read c = rw (ok.2.op) (by (changes ok.1 p) refl)
  where
    by : (v : Bool) → changes ok.1 p ≡ v → v ≡ false
    by false e = refl
    by true e =
        let u = ok.2.under in
        let writes = u.mode refl in
        let same = w.locks.clash u.lock l u.granted i (meet u.lock l p writes (u.covered p e) c) in
        absurd (let z : u.lock.write ≡ l.write = ap (λ (x : Lock). x.write) same in cc)

op_stays : (o : Op) (p : ℕ) (x : Option ℕ) → op_changes o p ≡ false → after_op o p x ≡ x
op_stays (Flush k ch) p x e = unchanged ch p x e
op_stays (Get k at n) p x e = refl
op_stays (Enqueue w f t) p x e = refl
op_stays Size p x e = refl

-- what came with it saw all that is above that number and stands under it
abbrev pub SeesAbove : List Entry → ℕ → Type 0
SeesAbove h to = (l : Lock) (s : ℕ) (sn : ℕ → Bool) → Brought h l s sn → IsGranted h l → l.write ≡ false → (n p : ℕ) → covers l p ≡ true
    → Changed h n p → to < n → sn n ≡ true

pub sees_start : (to : ℕ) → SeesAbove [] to
sees_start to l s sn b i read n p c k above = absurd b

-- so it is after each entry, while what is committed rises
pub sees_line : (h : List Entry) (e : Entry) (to new : ℕ) → AllAllowed h → Allowed h e → SeesAbove h to → to ≤ new → committed h ≤ new
    → SeesAbove (e ∷ h) new
sees_line h (Grant q m z seen) to new all ok old up low l s sn (inl b) i read n p c k above =
    subst (λ (f : ℕ → Bool). f n ≡ true) b.2 (ok.sees n p (subst (λ (x : Lock). covers x p ≡ true) (sym b.0) c) k (omega arith))
sees_line h (Grant q m z seen) to new all ok old up low l s sn (inr b) (inl same) read n p c k above =
    absurd (let was = (world h all).numbers.tops l (brought_was h l s sn all b) in let fresh = ok.new in let e =
    ap (λ (x : Lock). x.cookie) same in omega (arith, was, fresh, e))
sees_line h (Grant q m z seen) to new all ok old up low l s sn (inr b) (inr i) read n p c k above =
    old l s sn b i read n p c k (omega arith)
sees_line h (Promote m) to new all ok old up low l s sn b (inl same) read n p c k above =
    absurd (promote_apart h m (world h all).locks ok l (brought_was h l s sn all b) (ap (λ (x : Lock). x.cookie) same))
sees_line h (Promote m) to new all ok old up low l s sn b (inr i) read n p c k above = old l s sn b i read n p c k (omega arith)
sees_line h (Send m) to new all ok old up low l s sn (inr b) i read n p c k above = old l s sn b i read n p c k (omega arith)
sees_line h (Send m) to new all ok old up low l s sn (inl g) i read n p c k above = by m ok g
  where
    by : (m : Message) → Allowed h (Send m) → GivesLock m l s sn → sn n ≡ true
    by (Give b m z seen) ok g = subst (λ (f : ℕ → Bool). f n ≡ true) g.2
        (ok.2 n p (subst (λ (x : Lock). covers x p ≡ true) (sym g.0) c) k (omega arith))
    by _ ok g = absurd g
sees_line h (Txn j q) to new all ok old up low l s sn b i read n p c (inl e) above =
    absurd (let none = unwritten h j q l p (world h all) ok i read c in let some = e.1 in cc)
sees_line h (Txn j q) to new all ok old up low l s sn b i read n p c (inr k) above = old l s sn b i read n p c k (omega arith)
sees_line h (Close b lost gone) to new all ok old up low l s sn was i read n p c k above =
    let w = world h all in
    old l s sn was (held_granted h l w.numbers w.locks i.0 ((or_parts (gone l.life) (evicted l.life h) i.1).1)) read n p c k.1 (omega arith)
sees_line h (Release j) to new all ok old up low l s sn b i read n p c k above = old l s sn b i.1 read n p c k (omega arith)
sees_line h _ to new all ok old up low l s sn b i read n p c k above = old l s sn b i read n p c k (omega arith)

-- what a held lock came with isn't lost to who stays
held_kept : (h : List Entry) (out lost : ℕ → Bool) (l : Lock) → AllAllowed h → KeptFor out lost h → HeldBy h l → out l.life ≡ false
    → (s : ℕ) × (sn : ℕ → Bool) × Brought h l s sn × ((n : ℕ) → sn n ≡ true → lost n ≡ false)
held_kept [] out lost l all k i stays = absurd i
held_kept (Hold m s sn ∷ h) out lost l all k (inl e) stays = (
  s,
  sn,
  subst (λ (x : Lock). Brought h x s sn) e (came all.0.1),
  λ n t. k.0 (subst (λ (x : Lock). out x.life ≡ false) (sym e) stays) n t,
)
  where
    came : ((x : ℕ) × Was h (Reply (closed h) m.life x (Granted m s sn))) ⊎ Was h (Give (closed h) m s sn) → Brought h m s sn
    came (inl r) = answered_brought h m.life r.0 m s sn all.1 ((world h all.1).numbers.replies m.life r.0 (Granted m s sn) r.1)
    came (inr g) = given_brought h (closed h) m s sn g
held_kept (Hold m s sn ∷ h) out lost l all k (inr i) stays = held_kept h out lost l all.1 k.1 i stays
held_kept (Drop m ∷ h) out lost l all k i stays = held_kept h out lost l all.1 k i.1 stays
held_kept (Heard r a ∷ h) out lost l all k i stays = held_kept h out lost l all.1 k.1 i stays
held_kept (Commit m ∷ h) out lost l all k i stays = held_kept h out lost l all.1 k.1 i stays
held_kept (Close b more gone ∷ h) out lost l all k i stays =
    let r = held_kept h out (also lost more) l all.1 k i stays in
    (r.0, r.1, r.2, λ n t. (or_parts (lost n) (more n) (r.3 n t)).0)
held_kept (Grant q m z seen ∷ h) out lost l all k i stays = let r = held_kept h out lost l all.1 k i stays in (r.0, r.1, inr r.2, r.3)
held_kept (Send m ∷ h) out lost l all k i stays = let r = held_kept h out lost l all.1 k i stays in (r.0, r.1, inr r.2, r.3)
held_kept (_ ∷ h) out lost l all k i stays = held_kept h out lost l all.1 k i stays

-- an entry that loses nothing up to that number
abbrev pub Loses : Entry → ℕ → Type 0
Loses (Close b lost gone) to = (n : ℕ) → n ≤ to → lost n ≡ false
Loses _ to = Unit {0}

-- a lock that is granted with an entry was granted before, unless it brings that
pub granted_before : (h : List Entry) (e : Entry) (l : Lock) → AllAllowed h → Allowed h e → WasGranted h l → IsGranted (e ∷ h) l
    → IsGranted h l
granted_before h (Grant q m z seen) l all ok was (inl same) = absurd
    (let low = (world h all).numbers.tops l was in let fresh = ok.new in let e = ap (λ (x : Lock). x.cookie) same
    in omega (arith, low, fresh, e))
granted_before h (Grant q m z seen) l all ok was (inr i) = i
granted_before h (Promote m) l all ok was (inl same) = absurd (promote_apart h m (world h all).locks ok l was
    (ap (λ (x : Lock). x.cookie) same))
granted_before h (Promote m) l all ok was (inr i) = i
granted_before h (Close b lost gone) l all ok was i = let w = world h all
    in held_granted h l w.numbers w.locks i.0 ((or_parts (gone l.life) (evicted l.life h) i.1).1)
granted_before h (Release k) l all ok was i = i.1
granted_before h _ l all ok was i = i

-- so the object stays under it
pub stays_under : (h : List Entry) (e : Entry) (l : Lock) (to : ℕ) → AllAllowed h → Allowed h e → SeesAbove h to → Loses e to
    → WasGranted h l → IsGranted (e ∷ h) l → l.write ≡ false → (p : ℕ) → covers l p ≡ true
    → object nothing_lost (e ∷ h) p ≡ object nothing_lost h p
stays_under h (Txn n q) l to all ok sees low was i read p c = op_stays q.op p (object nothing_lost h p)
    (unwritten h n q l p (world h all) ok i read c)
stays_under h (Close b lost gone) l to all ok sees low was i read p c =
    agree (also nothing_lost lost) nothing_lost h p (λ n k. by n k (nat_lt to n) refl)
  where
    kept : (s : ℕ) × (sn : ℕ → Bool) × Brought h l s sn × ((n : ℕ) → sn n ≡ true → lost n ≡ false)
    kept = held_kept h (λ c. gone c || evicted c h) lost l all ok.kept i.0 i.1

    by : (n : ℕ) → Changed h n p → (v : Bool) → nat_lt to n ≡ v → lost n ≡ false
    by n k true e = kept.3 n (sees l kept.0 kept.1 kept.2 (granted_before h (Close b lost gone) l all ok was i) read n p c k
        (ltb-true to n e))
    by n k false e = low n (ltb-false to n e)
stays_under h _ l to all ok sees low was i read p c = refl

-- ---- bytes that go with all that was told

pub record Matches (b : ℕ → Option ℕ) (h : List Entry) (l : Lock) : Type 0 where
  pub none : (s : ℕ) (sn : ℕ → Bool) → Brought h l s sn → l.last ≡ None → (p : ℕ) → l.first ≤ p → s ≤ p → b p ≡ None
  pub some : (s : ℕ) (sn : ℕ → Bool) → Brought h l s sn → l.last ≡ None → (p : ℕ) → l.first ≤ p → suc p ≡ s → is_some (b p) ≡ true
  pub page : (last : ℕ) → Paged h l.life l.cookie last → (covers l last ≡ true) × (is_some (b last) ≡ true)
  pub now : IsGranted h l → (p : ℕ) → covers l p ≡ true → object nothing_lost h p ≡ b p

covers_on : (l : Lock) (p : ℕ) → l.last ≡ None → l.first ≤ p → covers l p ≡ true
covers_on l p e low = rw e (grind (arith, nat_tests))

-- the object itself, while the lock is granted
pub matches_now : (b : ℕ → Option ℕ) (h : List Entry) (l : Lock) → IsGranted h l → Matches b h l → Matches (object nothing_lost h) h l
matches_now b h l i m =
    record {
      none = λ s sn w last p low high. m.now i p (covers_on l p last low) ∙ m.none s sn w last p low high;
      some = λ s sn w last p low e. ap is_some (m.now i p (covers_on l p last low)) ∙ m.some s sn w last p low e;
      page = λ last g. (let k = m.page last g in (k.0, ap is_some (m.now i last k.0) ∙ k.1));
      now = λ j p c. refl;
    }

pub matches_line : (b : ℕ → Option ℕ) (h : List Entry) (e : Entry) (l : Lock) (to : ℕ) → AllAllowed h → Allowed h e → SeesAbove h to
    → Loses e to → WasGranted h l → l.write ≡ false → Matches b h l → Matches b (e ∷ h) l
matches_line b h e l to all ok sees low was read m =
    record {
      none = none e ok;
      some = some e ok;
      page = page e ok;
      now = λ i p c. stays_under h e l to all ok sees low was i read p c
          ∙ m.now (granted_before h e l all ok was i) p c;
    }
  where
    none : (e : Entry) → Allowed h e → (s : ℕ) (sn : ℕ → Bool) → Brought (e ∷ h) l s sn → l.last ≡ None → (p : ℕ) → l.first ≤ p → s ≤ p
        → b p ≡ None
    none (Grant q k z seen) ok s sn (inl g) last p lo hi = absurd
        (let old = (world h all).numbers.tops l was in let fresh = ok.new in let c = ap (λ (x : Lock). x.cookie) g.0
        in omega (arith, old, fresh, c))
    none (Grant q k z seen) ok s sn (inr g) last p lo hi = m.none s sn g last p lo hi
    none (Send k) ok s sn (inr g) last p lo hi = m.none s sn g last p lo hi
    none (Send k) ok s sn (inl g) last p lo hi = by k ok g
      where
        by : (k : Message) → Allowed h (Send k) → GivesLock k l s sn → b p ≡ None
        by (Give d k z seen) ok g = sym (m.now (subst (λ (x : Lock). IsGranted h x) g.0 ok.0) p (covers_on l p last lo))
            ∙ ok.1.0 p (let same = g.1 in omega (arith, same, hi))
        by _ ok g = absurd g
    none _ ok s sn g last p lo hi = m.none s sn g last p lo hi

    some : (e : Entry) → Allowed h e → (s : ℕ) (sn : ℕ → Bool) → Brought (e ∷ h) l s sn → l.last ≡ None → (p : ℕ) → l.first ≤ p → suc p ≡ s
        → is_some (b p) ≡ true
    some (Grant q k z seen) ok s sn (inl g) last p lo hi = absurd
        (let old = (world h all).numbers.tops l was in let fresh = ok.new in let c = ap (λ (x : Lock). x.cookie) g.0
        in omega (arith, old, fresh, c))
    some (Grant q k z seen) ok s sn (inr g) last p lo hi = m.some s sn g last p lo hi
    some (Send k) ok s sn (inr g) last p lo hi = m.some s sn g last p lo hi
    some (Send k) ok s sn (inl g) last p lo hi = by k ok g
      where
        by : (k : Message) → Allowed h (Send k) → GivesLock k l s sn → is_some (b p) ≡ true
        by (Give d k z seen) ok g = ap is_some (sym (m.now (subst (λ (x : Lock). IsGranted h x) g.0 ok.0) p (covers_on l p last lo)))
            ∙ ok.1.1 p (hi ∙ sym g.1)
        by _ ok g = absurd g
    some _ ok s sn g last p lo hi = m.some s sn g last p lo hi

    page : (e : Entry) → Allowed h e → (last : ℕ) → Paged (e ∷ h) l.life l.cookie last → (covers l last ≡ true) × (is_some (b last) ≡ true)
    page (Acts q a) ok last (inr g) = m.page last g
    page (Acts q a) ok last (inl g) = by a ok.1 g.2
      where
        is_get : (o : Op) (j at n : ℕ) → o ≡ Get j at n → IsGet o l.cookie → j ≡ l.cookie
        is_get o j at n e i = subst (λ (x : Op). IsGet x l.cookie) e i

        by : (a : Answer) → ActsOk h q a → EndsWith a last → (covers l last ≡ true) × (is_some (b last) ≡ true)
        by (Content vs (Some s) sn) ok e =
            let w = world h all in
            let u = ok.5 in
            let same = w.locks.unique u.lock l (w.numbers.is_granted u.lock u.granted) was (u.cookie ∙ is_get q.op ok.0 ok.1 ok.2 ok.3 g.1)
            in
            let top = ok.8 in
            let c = subst (λ (x : Lock). covers x s ≡ true) same (u.covered s top.0) in
            let i = subst (λ (x : Lock). IsGranted h x) same u.granted in
            (subst (λ (x : ℕ). covers l x ≡ true) e c, subst (λ (x : ℕ). is_some (b x) ≡ true) e (ap is_some (sym (m.now i s c)) ∙ top.1))
        by _ ok e = absurd e
    page _ ok last g = m.page last g

-- a lock that comes now
pub matches_grant : (h : List Entry) (q : Request) (l : Lock) (s : ℕ) (seen : ℕ → Bool) → AllAllowed h → Allowed h (Grant q l s seen)
    → Matches (object nothing_lost h) (Grant q l s seen ∷ h) l
matches_grant h q l s seen all ok =
    record {
      none = λ z sn b last p low high. ⊎_elim (λ g. ok.size.0 p (let same = g.1 in omega (arith, same, high)))
          (λ (w : Brought h l z sn). absurd (old l (brought_was h l z sn all w) refl)) b;
      some = λ z sn b last p low e. ⊎_elim (λ g. ok.size.1 p (e ∙ sym g.1))
          (λ (w : Brought h l z sn). absurd (old l (brought_was h l z sn all w) refl)) b;
      page = λ last g. absurd (let w = paged_was h l.life l.cookie last all g in old w.0 w.1 w.2);
      now = λ i p c. refl;
    }
  where
    old : (m : Lock) → WasGranted h m → m.cookie ≡ l.cookie → ⊥
    old m was e = let low = (world h all).numbers.tops m was in let fresh = ok.new in absurd (omega (arith, low, fresh, e))

pub matches_promote : (h : List Entry) (l : Lock) → AllAllowed h → Allowed h (Promote l) → Matches (object nothing_lost h) (Promote l ∷ h) l
matches_promote h l all ok =
    record {
      none = λ z sn b last p low high. absurd (old l (brought_was h l z sn all b) refl);
      some = λ z sn b last p low e. absurd (old l (brought_was h l z sn all b) refl);
      page = λ last g. absurd (let w = paged_was h l.life l.cookie last all g in old w.0 w.1 w.2);
      now = λ i p c. refl;
    }
  where
    old : (m : Lock) → WasGranted h m → m.cookie ≡ l.cookie → ⊥
    old m was e = promote_apart h l (world h all).locks ok m was (sym e)
