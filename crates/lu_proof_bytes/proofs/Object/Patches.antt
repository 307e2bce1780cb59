-- A life's patch lies under its locks, and what is in flight is of the patch.
use Rattle.std.proofs.Common.{◌≡◌, ℕ, suc, ◌≤◌, ◌⊎◌, inl, inr, ⊎_elim, List, ◌∷◌, Option, Some, None, Bool, true, false, refl, sym, ap, ◌∙◌}
use Rattle.std.proofs.Common.{subst, arith}
use Rattle.std.specs.Prelude.{nat_eq, nat_lt, if◌then◌else◌, not}
use Rattle.std.proofs.lemmas.Bool.{eqb-true, eqb-false, eq-eqb, both_ways, and_parts, not-true, or_right}
use Rattle.std.proofs.lemmas.Bool.Decides.{nat_tests}
use Rattle.lu_proof_bytes.specs.Object.Words.{Lock, Change, Write, Cut, Op, Enqueue, Get, Flush, Size, Request, Answer, Granted, Waiting}
use Rattle.lu_proof_bytes.specs.Object.Words.{Content, Done, Sized, Uncovered, Did, Entry, Takes, Flies, Heard, Hold, Drop, Tells, covers}
use Rattle.lu_proof_bytes.specs.Object.Words.{overlay, within, changes}
use Rattle.lu_proof_bytes.specs.Object.Folds.{Apart, flight, HeldBy, is_some, cut_by, dirty_by, flying_by, taken_by, flying_heard}
use Rattle.lu_proof_bytes.specs.Object.Folds.{WriteBack, taken_heard, taken, cut_acked, dirty_acked, pending, flying, dirty, masked}
use Rattle.lu_proof_bytes.specs.Object.Folds.{touched}
use Rattle.lu_proof_bytes.specs.Object.Guards.{Covers, UnderNumber, in_run, FlushOk, OpOk, TakesOk, New, in_use, taken_under, DropOk}
use Rattle.lu_proof_bytes.specs.Object.Guards.{Allowed}
use Rattle.lu_proof_bytes.proofs.Object.Numbers.{Numbers}
use Rattle.lu_proof_bytes.proofs.Object.Locks.{Lockings}
use Rattle.lu_proof_bytes.proofs.Object.Spot.{run_out, run_in, told_masked, told_new, Flown, FlownBy, acked_touched}

-- the life holds a PW lock over the position
pub record Cover (h : List Entry) (c p : ℕ) : Type 0 where
  pub lock : Lock
  pub held : HeldBy h lock
  pub life : lock.life ≡ c
  pub mode : lock.write ≡ true
  pub covered : covers lock p ≡ true

-- a pending cut lies under one lock
pub record CutCover (h : List Entry) (c q : ℕ) : Type 0 where
  pub lock : Lock
  pub held : HeldBy h lock
  pub life : lock.life ≡ c
  pub mode : lock.write ≡ true
  pub covered : Covers lock (changes (Cut q))

cut_more : (h : List Entry) (e : Entry) (c q : ℕ) → ((l : Lock) → HeldBy h l → HeldBy (e ∷ h) l) → CutCover h c q → CutCover (e ∷ h) c q
cut_more h e c q m o = record { lock = o.lock; held = m o.lock o.held; life = o.life; mode = o.mode; covered = o.covered }

-- what is in flight is hidden by the patch
abbrev pub Running : List Entry → ℕ → Op → Type 0
Running h c (Flush k (Write at bs)) = (p : ℕ) → within at bs p ≡ true → masked (pending c h) (dirty c h p) p ≡ true
Running h c (Flush k (Cut n)) = (q : ℕ) × (pending c h ≡ Some q) × (q ≤ n)
Running h c _ = Unit {0}

-- the lock that a request names is held, over all that the request asks for or changes
abbrev pub Using : List Entry → ℕ → Op → Type 0
Using h c (Get k at n) = UnderNumber h c k false (in_run at n)
Using h c (Flush k ch) = UnderNumber h c k true (changes ch)
Using h c _ = Unit {0}

-- what a life writes back, as the operation of a request
abbrev pub flush_of : WriteBack → Op
flush_of w = Flush w.lock w.change

-- the write-back that is under way has the byte of this position as the life has it
pub record FlownOk (h : List Entry) (c p : ℕ) : Type 0 where
  pub back : WriteBack
  pub taken : taken c h ≡ Some back
  pub flown : Flown back.change (pending c h) (dirty c h p) p

-- what is so of patches after each story: where the patch may change something, the life holds a PW lock; a byte that is said to be under
-- way is that of the write-back; what a write-back changes is hidden by the patch, and its lock is held, as is that of a get in flight; a
-- write-back in flight is the one under way; and a pending cut lies under one lock
abbrev pub Patches : List Entry → Type 0
Patches h = record {
  cover : (c p : ℕ) → touched (pending c h) (dirty c h p) p ≡ true → Cover h c p;
  flown : (c p : ℕ) → flying c h p ≡ true → FlownOk h c p;
  run : (c : ℕ) (w : WriteBack) → taken c h ≡ Some w → Running h c (flush_of w);
  under : (c : ℕ) (w : WriteBack) → taken c h ≡ Some w → Using h c (flush_of w);
  flush : (c k : ℕ) (ch : Change) (r : Request) → flight c h ≡ Some r → r.op ≡ Flush k ch → taken c h
      ≡ Some (record { lock = k; change = ch });
  gets : (c k at n : ℕ) (r : Request) → flight c h ≡ Some r → r.op ≡ Get k at n → UnderNumber h c k false (in_run at n);
  cuts : (c q : ℕ) → pending c h ≡ Some q → CutCover h c q;
}

-- so of a request in flight: what it writes back is hidden by the patch, and the lock that it names is held
pub flight_hidden : (h : List Entry) (c : ℕ) (r : Request) → Patches h → flight c h ≡ Some r → Running h c r.op
flight_hidden h c r w f = by r.op refl
  where
    by : (op : Op) → r.op ≡ op → Running h c op
    by (Flush k ch) e = w.run c (record { lock = k; change = ch }) (w.flush c k ch r f e)
    by (Get k at n) e = tt
    by (Enqueue a b t) e = tt
    by Size e = tt

pub flight_uses : (h : List Entry) (c : ℕ) (r : Request) → Patches h → flight c h ≡ Some r → Using h c r.op
flight_uses h c r w f = by r.op refl
  where
    by : (op : Op) → r.op ≡ op → Using h c op
    by (Flush k ch) e = w.under c (record { lock = k; change = ch }) (w.flush c k ch r f e)
    by (Get k at n) e = w.gets c k at n r f e
    by (Enqueue a b t) e = tt
    by Size e = tt

pub some_back : (a b : WriteBack) → Some a ≡ Some b → a ≡ b
some_back a b e = cc

-- and a byte that is under way is what it writes back, if it does
pub flight_flown : (h : List Entry) (c p : ℕ) (r : Request) → Patches h → flight c h ≡ Some r → flying c h p ≡ true
    → FlownBy r.op (pending c h) (dirty c h p) p
flight_flown h c p r w f fly = by r.op refl
  where
    by : (op : Op) → r.op ≡ op → FlownBy op (pending c h) (dirty c h p) p
    by (Flush k ch) e =
        let o = w.flown c p fly in
        subst (λ (x : WriteBack). Flown x.change (pending c h) (dirty c h p) p)
        (some_back o.back (record { lock = k; change = ch }) (sym o.taken ∙ w.flush c k ch r f e)) o.flown
    by (Get k at n) e = tt
    by (Enqueue a b t) e = tt
    by Size e = tt

-- a life's own entry or another's
pub at_life : (P : ℕ → Bool → Type 0) (c d : ℕ) → P d true → ((c ≡ d → ⊥) → P c false) → P c (nat_eq c d)
at_life P c d here there = by (nat_eq c d) refl
  where
    by : (v : Bool) → nat_eq c d ≡ v → P c v
    by true e = subst (λ (k : ℕ). P k true) (sym (eqb-true c d e)) here
    by false e = there (eqb-false c d e)

told_flown : (back ch : Change) (q d : Option ℕ) (f : Bool) (p : ℕ) → flying_by ch p f ≡ true → Flown back q d p
    → Flown back (cut_by ch q) (dirty_by ch q p d) p
told_flown (Write at bs) (Write a cs) q d f p e (w, i, b) =
    let t = and_parts (not (within a cs p)) f e in
    (w, run_out a cs p d (not-true (within a cs p) t.0) ∙ i, b)
told_flown (Write at bs) (Cut n) None d f p e (w, i, b) =
    let t = and_parts (nat_lt p n) f e in
    let t0 = t.0 in
    (w, rw t0 i, grind (arith, nat_tests))
told_flown (Write at bs) (Cut n) (Some q) d f p e (w, i, b) =
    let t = and_parts (nat_lt p n) f e in
    let t0 = t.0 in
    let r = run_in at bs p w in
    let has : d ≡ Some r.0 = i ∙ r.1 None in
    let is : overlay at bs p None ≡ Some r.0 = r.1 None in
    (w, grind (arith, nat_tests), grind (arith, nat_tests))
told_flown (Cut n) ch q d f p e i = absurd i

told_low : (ch : Change) (q n : ℕ) → q ≤ n → (j : ℕ) × (cut_by ch (Some q) ≡ Some j) × (j ≤ n)
told_low (Write at bs) q n e = (q, refl, e)
told_low (Cut m) q n e = by (nat_lt m q) refl
  where
    by : (v : Bool) → nat_lt m q ≡ v → (j : ℕ) × ((if v then Some m else Some q) ≡ Some j) × (j ≤ n)
    by true f = (m, refl, grind (arith, nat_tests))
    by false f = (q, refl, e)

told_cut : (ch : Change) (q : Option ℕ) (n : ℕ) → cut_by ch q ≡ Some n → (ch ≡ Cut n) ⊎ (q ≡ Some n)
told_cut (Write at bs) q n e = inr e
told_cut (Cut m) None n e = inl (let x : m ≡ n = cc in ap Cut x)
told_cut (Cut m) (Some q) n e = by (nat_lt m q) e
  where
    by : (v : Bool) → (if v then Some m else Some q) ≡ Some n → (Cut m ≡ Cut n) ⊎ (Some q ≡ Some n)
    by true f = inl (let x : m ≡ n = cc in ap Cut x)
    by false f = inr f

pub acked_cut : (op : Op) (a : Answer) (q : Option ℕ) (n : ℕ) → cut_acked op a q ≡ Some n → q ≡ Some n
acked_cut (Flush k (Cut m)) (Done j) (Some q) n e = by (nat_eq q m) e
  where
    by : (v : Bool) → (if v then None else Some q) ≡ Some n → Some q ≡ Some n
    by true f = absurd (cc)
    by false f = f
acked_cut (Flush k (Cut m)) (Done j) None n e = e
acked_cut (Flush k (Cut m)) (Granted l s sn) q n e = e
acked_cut (Flush k (Cut m)) (Waiting j) q n e = e
acked_cut (Flush k (Cut m)) (Content vs t sn) q n e = e
acked_cut (Flush k (Cut m)) (Sized z) q n e = e
acked_cut (Flush k (Cut m)) Uncovered q n e = e
acked_cut (Flush k (Write at bs)) a q n e = e
acked_cut (Get k at m) a q n e = e
acked_cut (Enqueue b f t) a q n e = e
acked_cut Size a q n e = e

flying_mine : (ch : Change) (p : ℕ) (f : Bool) → flying_by ch p f ≡ true → f ≡ true
flying_mine (Write at bs) p f e = (and_parts (not (within at bs p)) f e).1
flying_mine (Cut n) p f e = (and_parts (nat_lt p n) f e).1

told_running : (h : List Entry) (c j : ℕ) (ch : Change) (op : Op) → Running h c op → Running (Tells c (Did j ch) ∷ h) c op
told_running h c j ch (Flush k (Write at bs)) r = λ p w. rw (eq-eqb c c refl) (told_masked ch (pending c h) (dirty c h p) p (r p w))
told_running h c j ch (Flush k (Cut n)) (q, e, low) =
    let t = told_low ch q n low in
    (t.0, rw (eq-eqb c c refl, e) t.1, t.2)
told_running h c j ch (Get k at n) r = tt
told_running h c j ch (Enqueue w f t) r = tt
told_running h c j ch Size r = tt

told_running_other : (h : List Entry) (c d j : ℕ) (ch : Change) (op : Op) → nat_eq c d ≡ false → Running h c op
    → Running (Tells d (Did j ch) ∷ h) c op
told_running_other h c d j ch (Flush k (Write at bs)) e r = λ p w. rw e (r p w)
told_running_other h c d j ch (Flush k (Cut n)) e r = rw e r
told_running_other h c d j ch (Get k at n) e r = tt
told_running_other h c d j ch (Enqueue w f t) e r = tt
told_running_other h c d j ch Size e r = tt

under_more : (h : List Entry) (e : Entry) (c k : ℕ) (write : Bool) (at : ℕ → Bool) → ((l : Lock) → HeldBy h l → HeldBy (e ∷ h) l)
    → UnderNumber h c k write at
    → UnderNumber (e ∷ h) c k write at
under_more h e c k write at m u = record {
  lock = u.lock;
  held = m u.lock u.held;
  life = u.life;
  cookie = u.cookie;
  mode = u.mode;
  covered =
      u.covered;
}

using_more : (h : List Entry) (e : Entry) (c : ℕ) (op : Op) → ((l : Lock) → HeldBy h l → HeldBy (e ∷ h) l) → Using h c op
    → Using (e ∷ h) c op
using_more h e c (Get k at n) m u = under_more h e c k false (in_run at n) m u
using_more h e c (Flush k c') m u = under_more h e c k true (changes c') m u
using_more h e c (Enqueue a b t) m u = tt
using_more h e c Size m u = tt

tells : (h : List Entry) (d j : ℕ) (ch : Change) → UnderNumber h d j true (changes ch) → Patches h → Patches (Tells d (Did j ch) ∷ h)
tells h d j ch ok w = record {
  cover = λ c p. at_life
      (λ k b. touched (if b then cut_by ch (pending k h) else pending k h)
      (if b then dirty_by ch (pending k h) p (dirty k h p) else dirty k h p) p ≡ true → Cover (Tells d (Did j ch) ∷ h) k p) c d
      (λ t. ⊎_elim
      (λ (e : changes ch p ≡ true). record {
        lock = ok.lock;
        held = ok.held;
        life = ok.life;
        mode = ok.mode refl;
        covered =
            ok.covered p e;
      })
      (λ (e : touched (pending d h) (dirty d h p) p ≡ true). let o = w.cover d p e
      in record { lock = o.lock; held = o.held; life = o.life; mode = o.mode; covered = o.covered })
      (told_new ch (pending d h) (dirty d h p) p t))
      (λ ne t. let o = w.cover c p t in record { lock = o.lock; held = o.held; life = o.life; mode = o.mode; covered = o.covered });
  flown = λ c p. by c p (nat_eq c d) refl;
  run = λ c b e. run c b e (nat_eq c d) refl;
  under = λ c b e. using_more h (Tells d (Did j ch)) c (flush_of b) (λ l i. i) (w.under c b e);
  flush = w.flush;
  gets = λ c k at n r f e. under_more h (Tells d (Did j ch)) c k false (in_run at n) (λ l i. i) (w.gets c k at n r f e);
  cuts = λ c q e. cuts c q (nat_eq c d) refl e;
}
  where
    cuts : (c q : ℕ) (v : Bool) → nat_eq c d ≡ v → (if v then cut_by ch (pending c h) else pending c h) ≡ Some q
        → CutCover (Tells d (Did j ch) ∷ h) c q
    cuts c q false e t = cut_more h (Tells d (Did j ch)) c q (λ l i. i) (w.cuts c q t)
    cuts c q true e t = ⊎_elim
        (λ (x : ch ≡ Cut q). record {
          lock = ok.lock;
          held = ok.held;
          life = ok.life ∙ sym (eqb-true c d e);
          mode = ok.mode refl;
          covered = subst (λ (y : Change). Covers ok.lock (changes y)) x ok.covered;
        })
        (λ (x : pending c h ≡ Some q). cut_more h (Tells d (Did j ch)) c q (λ l i. i) (w.cuts c q x))
        (told_cut ch (pending c h) q t)

    by : (c p : ℕ) (v : Bool) → nat_eq c d ≡ v → (if v then flying_by ch p (flying c h p) else flying c h p) ≡ true
        → FlownOk (Tells d (Did j ch) ∷ h) c p
    by c p true e t = let o = w.flown c p (flying_mine ch p (flying c h p) t) in record {
      back = o.back;
      taken = o.taken;
      flown = rw e (told_flown o.back.change ch (pending c h) (dirty c h p) (flying c h p) p t o.flown);
    }
    by c p false e t = let o = w.flown c p t in record { back = o.back; taken = o.taken; flown = rw e o.flown }

    run : (c : ℕ) (b : WriteBack) → taken c h ≡ Some b → (v : Bool) → nat_eq c d ≡ v → Running (Tells d (Did j ch) ∷ h) c (flush_of b)
    run c b f true e = subst (λ (k : ℕ). Running (Tells k (Did j ch) ∷ h) c (flush_of b)) (eqb-true c d e)
        (told_running h c j ch (flush_of b) (w.run c b f))
    run c b f false e = told_running_other h c d j ch (flush_of b) e (w.run c b f)

-- an entry that leaves the patches and what is in flight, and drops no lock
pub record Quiet (h : List Entry) (e : Entry) : Type 0 where
  pub flight : (c : ℕ) → flight c (e ∷ h) ≡ flight c h
  pub taken : (c : ℕ) → taken c (e ∷ h) ≡ taken c h
  pub pending : (c : ℕ) → pending c (e ∷ h) ≡ pending c h
  pub dirty : (c p : ℕ) → dirty c (e ∷ h) p ≡ dirty c h p
  pub flying : (c p : ℕ) → flying c (e ∷ h) p ≡ flying c h p
  pub held : (l : Lock) → HeldBy h l → HeldBy (e ∷ h) l

running_more : (h : List Entry) (e : Entry) (c : ℕ) (op : Op) → Quiet h e → Running h c op → Running (e ∷ h) c op
running_more h e c (Get k at n) q u = tt
running_more h e c (Flush k (Write at bs)) q u = λ p w. rw (q.pending c, q.dirty c p) (u p w)
running_more h e c (Flush k (Cut n)) q u = (u.0, q.pending c ∙ u.1, u.2)
running_more h e c (Enqueue a b t) q u = tt
running_more h e c Size q u = tt

quiet : (h : List Entry) (e : Entry) → Quiet h e → Patches h → Patches (e ∷ h)
quiet h e q w = record {
  cover = λ c p t. let o = w.cover c p (subst (λ (x : Option ℕ × Option ℕ). touched x.0 x.1 p ≡ true) (λ i. (q.pending c i, q.dirty c p i))
      t) in record { lock = o.lock; held = q.held o.lock o.held; life = o.life; mode = o.mode; covered = o.covered };
  flown = λ c p t. let o = w.flown c p (sym (q.flying c p) ∙ t)
      in record { back = o.back; taken = q.taken c ∙ o.taken; flown = rw (q.pending c, q.dirty c p) o.flown };
  run = λ c b t. running_more h e c (flush_of b) q (w.run c b (sym (q.taken c) ∙ t));
  under = λ c b t. using_more h e c (flush_of b) q.held (w.under c b (sym (q.taken c) ∙ t));
  flush = λ c k ch r f o. q.taken c ∙ w.flush c k ch r (sym (q.flight c) ∙ f) o;
  gets = λ c k at n r f o. under_more h e c k false (in_run at n) q.held (w.gets c k at n r (sym (q.flight c) ∙ f) o);
  cuts = λ c n t. cut_more h e c n q.held (w.cuts c n (sym (q.pending c) ∙ t));
}

-- what is still under way once an answer is heard was so before
pub taken_still : (op : Op) (x : Option WriteBack) (b : WriteBack) → taken_heard op x ≡ Some b → x ≡ Some b
taken_still (Flush k ch) x b t = absurd (cc)
taken_still (Get k at n) x b t = t
taken_still (Enqueue g f l) x b t = t
taken_still Size x b t = t

hears : (h : List Entry) (r : Request) (a : Answer) → flight r.life h ≡ Some r → Patches h → Patches (Heard r a ∷ h)
hears h r a fl w = record {
  cover = λ c p. at_life
      (λ k b. touched (if b then cut_acked r.op a (pending k h) else pending k h)
      (if b then dirty_acked r.op a (flying k h p) (dirty k h p) else dirty k h p) p ≡ true → Cover (Heard r a ∷ h) k p) c r.life
      (λ t. cover r.life p (acked_touched r.op a (pending r.life h) (dirty r.life h p) (flying r.life h p) p t))
      (λ ne t. cover c p t);
  flown = λ c p. flies c p (nat_eq c r.life) refl;
  run = λ c b. run c b (nat_eq c r.life) refl;
  under = λ c b t. using_more h (Heard r a) c (flush_of b) (λ l i. i) (w.under c b (was c b (nat_eq c r.life) refl t));
  flush = λ c k ch q. flush c k ch q (nat_eq c r.life) refl;
  gets = λ c k at n q f o. under_more h (Heard r a) c k false (in_run at n) (λ l i. i) (w.gets c k at n q (flew c q (nat_eq c r.life) f) o);
  cuts = λ c q t. cuts c q (nat_eq c r.life) t;
}
  where
    cuts : (c q : ℕ) (v : Bool) → (if v then cut_acked r.op a (pending c h) else pending c h) ≡ Some q → CutCover (Heard r a ∷ h) c q
    cuts c q true t = cut_more h (Heard r a) c q (λ l i. i) (w.cuts c q (acked_cut r.op a (pending c h) q t))
    cuts c q false t = cut_more h (Heard r a) c q (λ l i. i) (w.cuts c q t)

    cover : (c p : ℕ) → touched (pending c h) (dirty c h p) p ≡ true → Cover (Heard r a ∷ h) c p
    cover c p t = let o = w.cover c p t in record { lock = o.lock; held = o.held; life = o.life; mode = o.mode; covered = o.covered }

    -- what is still in flight was so, and isn't of this life
    flew : (c : ℕ) (q : Request) (v : Bool) → (if v then None else flight c h) ≡ Some q → flight c h ≡ Some q
    flew c q true t = absurd (cc)
    flew c q false t = t

    was : (c : ℕ) (b : WriteBack) (v : Bool) → nat_eq c r.life ≡ v → (if v then taken_heard r.op (taken c h) else taken c h) ≡ Some b
        → taken c h ≡ Some b
    was c b true e t = taken_still r.op (taken c h) b t
    was c b false e t = t

    -- an answer to another request than a write-back leaves the patch
    same_patch : (op : Op) (x : Option WriteBack) (b : WriteBack) (q d : Option ℕ) (f : Bool) → taken_heard op x ≡ Some b
        → (cut_acked op a q ≡ q) × (dirty_acked op a f d ≡ d)
    same_patch (Flush k ch) x b q d f t = absurd (cc)
    same_patch (Get k at n) x b q d f t = (refl, refl)
    same_patch (Enqueue g s l) x b q d f t = (refl, refl)
    same_patch Size x b q d f t = (refl, refl)

    flying_still : (op : Op) (f : Bool) → flying_heard op f ≡ true → (f ≡ true) × ((x : Option WriteBack) → taken_heard op x ≡ x)
    flying_still (Flush k ch) f t = absurd (cc)
    flying_still (Get k at n) f t = (t, λ x. refl)
    flying_still (Enqueue g s l) f t = (t, λ x. refl)
    flying_still Size f t = (t, λ x. refl)

    flies : (c p : ℕ) (v : Bool) → nat_eq c r.life ≡ v → (if v then flying_heard r.op (flying c h p) else flying c h p) ≡ true
        → FlownOk (Heard r a ∷ h) c p
    flies c p true e t =
        let f = flying_still r.op (flying c h p) t in
        let o = w.flown c p f.0 in
        let s = same_patch r.op (taken c h) o.back (pending c h) (dirty c h p) (flying c h p) (f.1 (taken c h) ∙ o.taken) in
        record { back = o.back; taken = rw e (f.1 (taken c h) ∙ o.taken); flown = rw (e, s.0, s.1) o.flown }
    flies c p false e t = let o = w.flown c p t in record { back = o.back; taken = rw e o.taken; flown = rw e o.flown }

    run : (c : ℕ) (b : WriteBack) (v : Bool) → nat_eq c r.life ≡ v → (if v then taken_heard r.op (taken c h) else taken c h) ≡ Some b
        → Running (Heard r a ∷ h) c (flush_of b)
    run c b true e t = mine b.change (w.run c b (taken_still r.op (taken c h) b t))
      where
        mine : (ch : Change) → Running h c (Flush b.lock ch) → Running (Heard r a ∷ h) c (Flush b.lock ch)
        mine (Write at bs) u = λ p i. let s = same_patch r.op (taken c h) b (pending c h) (dirty c h p) (flying c h p) t
            in rw (e, s.0, s.1) (u p i)
        mine (Cut n) u = let s = same_patch r.op (taken c h) b (pending c h) None false t in rw (e, s.0) u
    run c b false e t = other b.change (w.run c b t)
      where
        other : (ch : Change) → Running h c (Flush b.lock ch) → Running (Heard r a ∷ h) c (Flush b.lock ch)
        other (Write at bs) u = λ p i. rw e (u p i)
        other (Cut n) u = rw e u

    flush : (c k : ℕ) (ch : Change) (q : Request) (v : Bool) → nat_eq c r.life ≡ v → (if v then None else flight c h) ≡ Some q → q.op
        ≡ Flush k ch
        → (if v then taken_heard r.op (taken c h) else taken c h) ≡ Some (record { lock = k; change = ch })
    flush c k ch q true e f o = absurd (cc)
    flush c k ch q false e f o = w.flush c k ch q f o

drops : (h : List Entry) (k : Lock) → Numbers h → Lockings h → DropOk h k → Patches h → Patches (Drop k ∷ h)
drops h k n lk ok w = record {
  cover = λ c p t.
      let o = w.cover c p t in
      record {
        lock = o.lock;
        held = (
          apart o.lock o.held (λ e.
              both_ways (touched (pending c h) (dirty c h p) p)
              (subst (λ (d : ℕ). touched (pending d h) (dirty d h p) p ≡ false) (ap (λ (x : Lock). x.life) e ∙ o.life)
              (ok.clean p (subst (λ (x : Lock). covers x p ≡ true) (sym e) o.covered))) t),
          o.held,
        );
        life = o.life;
        mode = o.mode;
        covered = o.covered;
      };
  flown = λ c p t. let o = w.flown c p t in record { back = o.back; taken = o.taken; flown = o.flown };
  run = λ c b t. runs b.change c b.lock (w.run c b t);
  under = λ c b t. let u = w.under c b t in record {
    lock = u.lock;
    held = (taken_apart c b t u.lock u.held u.life u.cookie, u.held);
    life =
        u.life;
    cookie = u.cookie;
    mode = u.mode;
    covered = u.covered;
  };
  flush = w.flush;
  gets = λ c j at n r f e. let u = w.gets c j at n r f e in record {
    lock = u.lock;
    held = (free c j r f (rw (e, eq-eqb j j refl)) u.lock u.held u.life u.cookie, u.held);
    life = u.life;
    cookie =
        u.cookie;
    mode = u.mode;
    covered = u.covered;
  };
  cuts = λ c q t. cuts c q t (w.cuts c q t);
}
  where
    apart : (l : Lock) → HeldBy h l → (k ≡ l → ⊥) → Apart k l
    apart l i ne p = ne (lk.unique k l (n.held k ok.held) (n.held l i) p)

    -- the lock over a pending cut isn't clean
    cuts : (c q : ℕ) → pending c h ≡ Some q → CutCover h c q → CutCover (Drop k ∷ h) c q
    cuts c q t o = record {
      lock = o.lock;
      held = (
        apart o.lock o.held (λ e. both_ways (touched (pending k.life h) (dirty k.life h q) q)
            (ok.clean q (subst (λ (x : Lock). covers x q ≡ true) (sym e) (o.covered q (grind (arith, nat_tests)))))
            (touched_cut k.life q (ap (λ (d : ℕ). pending d h) (ap (λ (x : Lock). x.life) e ∙ o.life) ∙ t))),
        o.held,
      );
      life = o.life;
      mode = o.mode;
      covered = o.covered;
    }
      where
        touched_cut : (d q : ℕ) → pending d h ≡ Some q → touched (pending d h) (dirty d h q) q ≡ true
        touched_cut d q e = rw e (or_right (is_some (dirty d h q)) (nat_lt q (suc (suc q))) (grind (arith, nat_tests)))

    runs : (ch : Change) (c j : ℕ) → Running h c (Flush j ch) → Running (Drop k ∷ h) c (Flush j ch)
    runs (Write at bs) c j u = u
    runs (Cut n) c j u = u

    -- the lock in use is another one
    free : (c j : ℕ) (r : Request) → flight c h ≡ Some r → in_use (Some r) j ≡ true → (l : Lock) → HeldBy h l → l.life ≡ c → l.cookie ≡ j
        → Apart k l
    free c j r f u l i e x = apart l i (λ s. both_ways (in_use (flight k.life h) k.cookie) ok.free
        (mine (sym (ap (λ (m : Lock). m.life) s ∙ e)) (sym (ap (λ (m : Lock). m.cookie) s ∙ x))))
      where
        base : in_use (flight c h) j ≡ true
        base = subst (λ (o : Option Request). in_use o j ≡ true) (sym f) u

        mine : c ≡ k.life → j ≡ k.cookie → in_use (flight k.life h) k.cookie ≡ true
        mine p q = subst (λ (y : ℕ × ℕ). in_use (flight y.0 h) y.1 ≡ true) (λ i. (p i, q i)) base

    -- and so is that of the write-back under way
    taken_apart : (c : ℕ) (b : WriteBack) → taken c h ≡ Some b → (l : Lock) → HeldBy h l → l.life ≡ c → l.cookie ≡ b.lock → Apart k l
    taken_apart c b t l i e x = apart l i (λ s. both_ways (taken_under (taken k.life h) k.cookie) ok.untaken
        (mine (sym (ap (λ (m : Lock). m.life) s ∙ e)) (sym (ap (λ (m : Lock). m.cookie) s ∙ x))))
      where
        base : taken_under (taken c h) b.lock ≡ true
        base = subst (λ (o : Option WriteBack). taken_under o b.lock ≡ true) (sym t) (eq-eqb b.lock b.lock refl)

        mine : c ≡ k.life → b.lock ≡ k.cookie → taken_under (taken k.life h) k.cookie ≡ true
        mine p q = subst (λ (y : ℕ × ℕ). taken_under (taken y.0 h) y.1 ≡ true) (λ i. (p i, q i)) base

-- ---- a change is taken

taken_flown : (h : List Entry) (c : ℕ) (ch : Change) (p : ℕ) → FlushOk h c ch → taken_by ch p ≡ true
    → Flown ch (pending c h) (dirty c h p) p
taken_flown h c (Write at bs) p ok t = let r = run_in at bs p t in (t, ok.1 p r.0 (r.1 None) ∙ sym (r.1 None), ok.0 p t)
taken_flown h c (Cut n) p ok t = absurd (cc)

taken_running : (h : List Entry) (c k : ℕ) (ch : Change) → FlushOk h c ch → Running h c (Flush k ch)
taken_running h c k (Write at bs) ok = λ p i. let b = run_in at bs p i in rw (ok.1 p b.0 (b.1 None))
taken_running h c k (Cut n) ok = (n, ok, omega arith)

takes_new : (h : List Entry) (d k : ℕ) (ch : Change) → TakesOk h d k ch → Patches h → Patches (Takes d k ch ∷ h)
takes_new h d k ch ok w = record {
  cover = λ c p t. let o = w.cover c p t in record { lock = o.lock; held = o.held; life = o.life; mode = o.mode; covered = o.covered };
  flown = λ c p. flies c p (nat_eq c d) refl;
  run = λ c b. run c b (nat_eq c d) refl;
  under = λ c b. under c b (nat_eq c d) refl;
  flush = λ c j x r f o. flush c j x (nat_eq c d) refl (w.flush c j x r f o);
  gets = λ c j at n r f o. under_more h (Takes d k ch) c j false (in_run at n) (λ l i. i) (w.gets c j at n r f o);
  cuts = λ c q t. cut_more h (Takes d k ch) c q (λ l i. i) (w.cuts c q t);
}
  where
    new : WriteBack
    new = record { lock = k; change = ch }

    same : (e : Entry) (c j : ℕ) (x : Change) → Running h c (Flush j x) → Running (Takes d k ch ∷ h) c (Flush j x)
    same e c j (Write at bs) u = u
    same e c j (Cut n) u = u

    flies : (c p : ℕ) (v : Bool) → nat_eq c d ≡ v → (if v then taken_by ch p else flying c h p) ≡ true → FlownOk (Takes d k ch ∷ h) c p
    flies c p true e t = record {
      back = new;
      taken = rw e;
      flown =
          taken_flown h c ch p (subst (λ (x : ℕ). FlushOk h x ch) (sym (eqb-true c d e)) ok.change) t;
    }
    flies c p false e t = let o = w.flown c p t in record { back = o.back; taken = rw e o.taken; flown = o.flown }

    run : (c : ℕ) (b : WriteBack) (v : Bool) → nat_eq c d ≡ v → (if v then Some new else taken c h) ≡ Some b
        → Running (Takes d k ch ∷ h) c (flush_of b)
    run c b true e t =
        subst (λ (x : WriteBack). Running (Takes d k ch ∷ h) c (flush_of x)) (some_back new b t)
        (same (Takes d k ch) c k ch (taken_running h c k ch (subst (λ (x : ℕ). FlushOk h x ch) (sym (eqb-true c d e)) ok.change)))
    run c b false e t = same (Takes d k ch) c b.lock b.change (w.run c b t)

    under : (c : ℕ) (b : WriteBack) (v : Bool) → nat_eq c d ≡ v → (if v then Some new else taken c h) ≡ Some b
        → Using (Takes d k ch ∷ h) c (flush_of b)
    under c b true e t =
        subst (λ (x : WriteBack). Using (Takes d k ch ∷ h) c (flush_of x)) (some_back new b t)
        (under_more h (Takes d k ch) c k true (changes ch) (λ l i. i)
        (subst (λ (x : ℕ). UnderNumber h x k true (changes ch)) (sym (eqb-true c d e)) ok.under))
    under c b false e t = under_more h (Takes d k ch) c b.lock true (changes b.change) (λ l i. i) (w.under c b t)

    -- while none is under way none is in flight
    flush : (c j : ℕ) (x : Change) (v : Bool) → nat_eq c d ≡ v → taken c h ≡ Some (record { lock = j; change = x })
        → (if v then Some new else taken c h) ≡ Some (record { lock = j; change = x })
    flush c j x true e t = absurd (let alone : taken c h ≡ None = ap (λ (y : ℕ). taken y h) (eqb-true c d e) ∙ ok.alone in cc)
    flush c j x false e t = t

-- ---- a request is sent

running_sent : (h : List Entry) (r : Request) (c k : ℕ) (ch : Change) → Running h c (Flush k ch) → Running (Flies r ∷ h) c (Flush k ch)
running_sent h r c k (Write at bs) u = u
running_sent h r c k (Cut n) u = u

sends_new : (h : List Entry) (r : Request) → New h r → Patches h → Patches (Flies r ∷ h)
sends_new h r ok w = record {
  cover = λ c p t. let o = w.cover c p t in record { lock = o.lock; held = o.held; life = o.life; mode = o.mode; covered = o.covered };
  flown = λ c p t. let o = w.flown c p t in record { back = o.back; taken = o.taken; flown = o.flown };
  run = λ c b t. running_sent h r c b.lock b.change (w.run c b t);
  under = λ c b t. under_more h (Flies r) c b.lock true (changes b.change) (λ l i. i) (w.under c b t);
  flush = λ c k ch q. flush c k ch q (nat_eq c r.life) refl;
  gets = λ c k at n q f o. under_more h (Flies r) c k false (in_run at n) (λ l i. i) (gets c k at n q (nat_eq c r.life) refl f o);
  cuts = λ c q t. cut_more h (Flies r) c q (λ l i. i) (w.cuts c q t);
}
  where
    -- the request's operation, of the life that sends it
    asks : (c : ℕ) (q : Request) → nat_eq c r.life ≡ true → Some r ≡ Some q → OpOk h c q.op
    asks c q e t = let is : r ≡ q = cc in subst (λ (x : Request). OpOk h c x.op) is
        (subst (λ (d : ℕ). OpOk h d r.op) (sym (eqb-true c r.life e)) ok.op)

    flush : (c k : ℕ) (ch : Change) (q : Request) (v : Bool) → nat_eq c r.life ≡ v → (if v then Some r else flight c h) ≡ Some q → q.op
        ≡ Flush k ch
        → taken c h ≡ Some (record { lock = k; change = ch })
    flush c k ch q true e t o = subst (λ (op : Op). OpOk h c op) o (asks c q e t)
    flush c k ch q false e t o = w.flush c k ch q t o

    gets : (c k at n : ℕ) (q : Request) (v : Bool) → nat_eq c r.life ≡ v → (if v then Some r else flight c h) ≡ Some q → q.op ≡ Get k at n
        → UnderNumber h c k false (in_run at n)
    gets c k at n q true e t o = subst (λ (op : Op). OpOk h c op) o (asks c q e t)
    gets c k at n q false e t o = w.gets c k at n q t o

pub patches_line : (h : List Entry) (e : Entry) → Numbers h → Lockings h → Patches h → Allowed h e → Patches (e ∷ h)
patches_line h (Tells c (Did j ch)) n lk w ok = tells h c j ch ok w
patches_line h (Heard r a) n lk w ok = hears h r a ok.0 w
patches_line h (Drop l) n lk w ok = drops h l n lk ok w
patches_line h (Takes d k ch) n lk w ok = takes_new h d k ch ok w
patches_line h (Flies r) n lk w ok = sends_new h r ok w
patches_line h (Hold l s sn) n lk w ok = quiet h (Hold l s sn) (record
    { flight = λ c. refl; taken = λ c. refl; pending = λ c. refl; dirty = λ c p. refl; flying = λ c p. refl; held = λ m i. inr i }) w
patches_line h _ n lk w ok = quiet h _ (record {
  flight = λ c. refl;
  taken = λ c. refl;
  pending = λ c. refl;
  dirty = λ c p. refl;
  flying =
      λ c p. refl;
  held = λ m i. i;
}) w
