-- What a life knows of the object is so, where its own patch doesn't hide it.
use Rattle.std.proofs.Common.{◌≡◌, ℕ, suc, inl, inr, ⊎_elim, List, ◌∷◌, length, Option, Some, None, Bool, true, false, refl, sym, ap, ◌∙◌}
use Rattle.std.proofs.Common.{subst, arith}
use Rattle.std.specs.Prelude.{nat_eq, nat_lt, if◌then◌else◌, ◌&&◌}
use Rattle.std.proofs.lemmas.Bool.{eqb-true, eq-eqb, both_ways, or_right}
use Rattle.std.proofs.lemmas.Bool.Decides.{nat_tests}
use Rattle.std.specs.Cmp.Derive.{both_true}
use Rattle.lu_proof_bytes.specs.Object.Words.{Lock, Change, Write, Cut, Op, Enqueue, Get, Flush, Size, Request, Answer, Granted, Waiting}
use Rattle.lu_proof_bytes.specs.Object.Words.{Content, Done, Sized, Uncovered, Reply, Did, Entry, Flies, Heard, Hold, Drop, Tells, Grant}
use Rattle.lu_proof_bytes.specs.Object.Words.{Wait, Acts, Txn, Close, covers, overlay, within, value, cut_at, after_at, changes}
use Rattle.lu_proof_bytes.specs.Object.Folds.{also, asked, is_some, over, Was, closed, evicted, Answered, IsGranted, flight, HeldBy}
use Rattle.lu_proof_bytes.specs.Object.Folds.{after_op, object, cut_by, dirty_by, cut_acked, dirty_acked, pending, flying, dirty, masked}
use Rattle.lu_proof_bytes.specs.Object.Folds.{touched, zeroed, learn, known}
use Rattle.lu_proof_bytes.specs.Object.Guards.{UnderNumber, in_run, Fresh, TxnOk, ActsOk, HeardOf, KeptFor, New, DropOk, Allowed}
use Rattle.lu_proof_bytes.proofs.Object.Numbers.{Numbers, fresh_flies}
use Rattle.lu_proof_bytes.proofs.Object.Locks.{Lockings, held_granted}
use Rattle.lu_proof_bytes.proofs.Object.Spot.{run_out, run_same, run_some, in_run_of, unchanged, twice, told_masked, masked_touched}
use Rattle.lu_proof_bytes.proofs.Object.Spot.{masked_over, cut_under, cut_value, conflict_at, FlownBy}
use Rattle.lu_proof_bytes.proofs.Object.Kept.{sees_same}
use Rattle.lu_proof_bytes.proofs.Object.Patches.{Patches, Running, Using, at_life, flight_hidden, flight_uses, flight_flown}

-- the life holds a lock over the position
pub record Knows (h : List Entry) (c p : ℕ) : Type 0 where
  pub lock : Lock
  pub held : HeldBy h lock
  pub life : lock.life ≡ c
  pub covered : covers lock p ≡ true

-- all who are evicted are out
abbrev pub Outs : (ℕ → Bool) → List Entry → Type 0
Outs out h = (c : ℕ) → evicted c h ≡ true → out c ≡ true

-- who isn't out isn't evicted
pub lives : (out : ℕ → Bool) (h : List Entry) (c : ℕ) → Outs out h → out c ≡ false → evicted c h ≡ false
lives out h c s o = by (evicted c h) refl
  where
    by : (v : Bool) → evicted c h ≡ v → evicted c h ≡ false
    by false e = e
    by true e = absurd (both_ways (out c) o (s c e))

-- the life holds a lock over the position, and the object has this byte there, unless the patch hides it
pub record KnownOk (lost : ℕ → Bool) (h : List Entry) (c p v : ℕ) : Type 0 where
  pub under : Knows h c p
  pub is : masked (pending c h) (dirty c h p) p ≡ false → value (object lost h p) ≡ v

-- what is held stays held
abbrev pub HeldMore : List Entry → Entry → Type 0
HeldMore h e = (l : Lock) → HeldBy h l → HeldBy (e ∷ h) l

-- nothing that was seen is lost
abbrev pub Free : (ℕ → Bool) → (ℕ → Bool) → Type 0
Free lost seen = (n : ℕ) → seen n ≡ true → lost n ≡ false

-- these are the bytes that the get asks for, as the object has them
abbrev pub Got : (ℕ → Bool) → List Entry → Op → List ℕ → Type 0
Got lost h (Get k at n) vs = (length vs ≡ n) × ((p v : ℕ) → overlay at vs p None ≡ Some v → value (object lost h p) ≡ v)
Got lost h _ vs = Unit {0}

-- what is so, for any lives that are out and any transactions that are lost, if nothing of these is known to who stays: what a life knows
-- is so; an answer to a get in flight is still right; and a write-back in flight that was executed would change nothing more
abbrev pub Facts : (ℕ → Bool) → (ℕ → Bool) → List Entry → Type 0
Facts out lost h = record {
  known : (c p v : ℕ) → out c ≡ false → known c h p ≡ Some v → KnownOk lost h c p v;
  got : (c : ℕ) (r : Request) (vs : List ℕ) (t : Option ℕ) (sn : ℕ → Bool) → out c ≡ false → flight c h ≡ Some r
      → Answered h c r.xid (Content vs t sn) → Free lost sn → Got lost h r.op vs;
  done : (c p : ℕ) (r : Request) (m : ℕ) → out c ≡ false → flight c h ≡ Some r → Answered h c r.xid (Done m) → lost m ≡ false
      → object lost h p ≡ after_op r.op p (object lost h p);
}

-- two granted locks that hold one position, one of them for writing
pub one_lock : (h : List Entry) (l m : Lock) (p : ℕ) → Lockings h → IsGranted h l → IsGranted h m → covers l p ≡ true → covers m p ≡ true
    → m.write ≡ true → l ≡ m
one_lock h l m p w i j a b wr = w.clash l m i j (conflict_at l m p a b (or_right l.write m.write wr))

-- who holds a lock where a transaction changes something is who made it
pub own_txn : (h : List Entry) (nr : ℕ) (r : Request) (k : ℕ) (ch : Change) (l : Lock) (p : ℕ) → Numbers h → Lockings h → TxnOk h nr r k ch
    → HeldBy h l → evicted l.life h ≡ false → covers l p ≡ true → changes ch p ≡ true → l.life ≡ r.life
own_txn h nr r k ch l p n w ok i v cov e =
    let u = ok.under in
    let same = one_lock h l u.lock p w (held_granted h l n w i v) u.granted cov (u.covered p e) (u.mode refl) in
    ap (λ (m : Lock). m.life) same ∙ u.life

pub running_over : (h : List Entry) (c k : ℕ) (ch : Change) (p : ℕ) (x : Option ℕ) → Running h c (Flush k ch) → changes ch p ≡ true
    → over (pending c h) (dirty c h p) p (after_at ch p x) ≡ over (pending c h) (dirty c h p) p x
running_over h c k (Write at bs) p x r e = masked_over (pending c h) (dirty c h p) p (overlay at bs p x) x (r p e)
running_over h c k (Cut n) p x r e = subst (λ (q : Option ℕ). over q (dirty c h p) p (cut_at n p x) ≡ over q (dirty c h p) p x) (sym r.1)
    (cut_under r.0 n (dirty c h p) p x r.2)

pub running_touched : (h : List Entry) (c k : ℕ) (ch : Change) (p : ℕ) → Running h c (Flush k ch) → changes ch p ≡ true
    → touched (pending c h) (dirty c h p) p ≡ true
running_touched h c k (Write at bs) p r e = masked_touched (pending c h) (dirty c h p) p (r p e)
running_touched h c k (Cut n) p r e = let low = r.2 in rw r.1 (or_right (is_some (dirty c h p)) (nat_lt r.0 (suc (suc p)))
    (grind (arith, nat_tests)))

running_value : (h : List Entry) (c k : ℕ) (ch : Change) (p : ℕ) (x : Option ℕ) → Running h c (Flush k ch) → changes ch p ≡ true
    → masked (pending c h) (dirty c h p) p ≡ false → value (after_at ch p x) ≡ value x
running_value h c k (Write at bs) p x r e m = absurd (both_ways (masked (pending c h) (dirty c h p) p) m (r p e))
running_value h c k (Cut n) p x r e m = cut_value r.0 n (dirty c h p) p x r.2
    (subst (λ (q : Option ℕ). masked q (dirty c h p) p ≡ false) r.1 m)

pub same_flight : (h : List Entry) (c : ℕ) (q r : Request) → flight c h ≡ Some q → flight c h ≡ Some r → q ≡ r
same_flight h c q r e f = cc

pub txn_object : (lost : ℕ → Bool) (h : List Entry) (nr : ℕ) (r : Request) (k : ℕ) (ch : Change) (p : ℕ) → lost nr ≡ false
    → r.op ≡ Flush k ch → object lost (Txn nr r ∷ h) p ≡ after_at ch p (object lost h p)
txn_object lost h nr r k ch p l e = rw l (ap (λ (op : Op). after_op op p (object lost h p)) e)

pub txn_lost : (lost : ℕ → Bool) (h : List Entry) (nr : ℕ) (r : Request) (p : ℕ) → lost nr ≡ true
    → object lost (Txn nr r ∷ h) p ≡ object lost h p
txn_lost lost h nr r p l = rw l

got_more : (lost : ℕ → Bool) (h : List Entry) (e : Entry) (op : Op) (vs : List ℕ) → ((p : ℕ) → object lost (e ∷ h) p ≡ object lost h p)
    → Got lost h op vs → Got lost (e ∷ h) op vs
got_more lost h e (Get k at n) vs o g = (g.0, λ p v i. ap (λ (x : Option ℕ). value x) (o p) ∙ g.1 p v i)
got_more lost h e (Flush k ch) vs o g = tt
got_more lost h e (Enqueue a b t) vs o g = tt
got_more lost h e Size vs o g = tt

known_more : (lost : ℕ → Bool) (h : List Entry) (e : Entry) (c p v : ℕ) → HeldMore h e → object lost (e ∷ h) p ≡ object lost h p
    → (masked (pending c (e ∷ h)) (dirty c (e ∷ h) p) p ≡ false → masked (pending c h) (dirty c h p) p ≡ false) → KnownOk lost h c p v
    → KnownOk lost (e ∷ h) c p v
known_more lost h e c p v m o k w = record {
  under = record { lock = w.under.lock; held = m w.under.lock w.under.held; life = w.under.life; covered = w.under.covered };
  is = λ x. ap (λ (y : Option ℕ). value y) o ∙ w.is (k x);
}

-- a transaction that is lost is as if it was never made
txns_lost : (out lost : ℕ → Bool) (h : List Entry) (nr : ℕ) (r : Request) → lost nr ≡ true → Facts out lost h
    → Facts out lost (Txn nr r ∷ h)
txns_lost out lost h nr r l w = record {
  known = λ c p v o e. known_more lost h (Txn nr r) c p v (λ m i. i) (txn_lost lost h nr r p l) (λ x. x) (w.known c p v o e);
  got = λ c q vs t sn o f a fr. got_more lost h (Txn nr r) q.op vs (λ p. txn_lost lost h nr r p l)
      (w.got c q vs t sn o f (old c q vs t sn a) fr);
  done = λ c p q m o f a z. subst (λ (x : Option ℕ). x ≡ after_op q.op p x) (sym (txn_lost lost h nr r p l))
      (w.done c p q m o f (older c q m z a) z);
}
  where
    old : (c : ℕ) (q : Request) (vs : List ℕ) (t : Option ℕ) (sn : ℕ → Bool) → Answered (Txn nr r ∷ h) c q.xid (Content vs t sn)
        → Answered h c q.xid (Content vs t sn)
    old c q vs t sn (inl e) = absurd (cc)
    old c q vs t sn (inr i) = i

    older : (c : ℕ) (q : Request) (m : ℕ) → lost m ≡ false → Answered (Txn nr r ∷ h) c q.xid (Done m) → Answered h c q.xid (Done m)
    older c q m z (inl e) = absurd (let n : nr ≡ m = cc in both_ways (lost m) z (ap lost (sym n) ∙ l))
    older c q m z (inr i) = i

txns : (out lost : ℕ → Bool) (h : List Entry) (nr : ℕ) (r : Request) (k : ℕ) (ch : Change) → Outs out h → lost nr ≡ false → Numbers h
    → Lockings h → Patches h → TxnOk h nr r k ch → Facts out lost h → Facts out lost (Txn nr r ∷ h)
txns out lost h nr r k ch outs stays n lk pt ok w = record {
  known = λ c p v live e. known c p v live (w.known c p v live e) (changes ch p) refl;
  got = λ c q vs t sn live f a fr. got c q vs live f q.op refl (w.got c q vs t sn live f (old c q vs t sn a) fr);
  done = λ c p q m live f a z. done c p q m live f a z;
}
  where
    flies : flight r.life h ≡ Some r
    flies = fresh_flies h r n ok.fresh

    running : (c : ℕ) → c ≡ r.life → Running h c (Flush k ch)
    running c e = subst (λ (op : Op). Running h c op) ok.op (flight_hidden h c r pt (ap (λ (d : ℕ). flight d h) e ∙ flies))

    known : (c p v : ℕ) → out c ≡ false → KnownOk lost h c p v → (b : Bool) → changes ch p ≡ b → KnownOk lost (Txn nr r ∷ h) c p v
    known c p v live o false e = record {
      under = record { lock = o.under.lock; held = o.under.held; life = o.under.life; covered = o.under.covered };
      is = λ m. ap (λ (x : Option ℕ). value x) (txn_object lost h nr r k ch p stays ok.op ∙ unchanged ch p (object lost h p) e) ∙ o.is m;
    }
    known c p v live o true e =
        let u = o.under in
        let mine : c ≡ r.life = sym u.life ∙ own_txn h nr r k ch u.lock p n lk ok u.held
        (ap (λ (d : ℕ). evicted d h) u.life ∙ lives out h c outs live) u.covered e in
        record {
          under = record { lock = u.lock; held = u.held; life = u.life; covered = u.covered };
          is = λ m. ap (λ (x : Option ℕ). value x) (txn_object lost h nr r k ch p stays ok.op)
              ∙ running_value h c k ch p (object lost h p) (running c mine) e m ∙ o.is m;
        }

    old : (c : ℕ) (q : Request) (vs : List ℕ) (t : Option ℕ) (sn : ℕ → Bool) → Answered (Txn nr r ∷ h) c q.xid (Content vs t sn)
        → Answered h c q.xid (Content vs t sn)
    old c q vs t sn (inl e) = absurd (cc)
    old c q vs t sn (inr i) = i

    -- a life that gets bytes makes no transaction
    got : (c : ℕ) (q : Request) (vs : List ℕ) → out c ≡ false → flight c h ≡ Some q → (op : Op) → q.op ≡ op → Got lost h q.op vs
        → Got lost (Txn nr r ∷ h) q.op vs
    got c q vs live f (Get j at m) e g = subst (λ (op : Op). Got lost (Txn nr r ∷ h) op vs) (sym e) (
      g'.0,
      λ p v o. by p v o (changes ch p) refl,
    )
      where
        g' : Got lost h (Get j at m) vs
        g' = subst (λ (op : Op). Got lost h op vs) e g

        by : (p v : ℕ) → overlay at vs p None ≡ Some v → (b : Bool) → changes ch p ≡ b → value (object lost (Txn nr r ∷ h) p) ≡ v
        by p v o false x = ap (λ (y : Option ℕ). value y) (txn_object lost h nr r k ch p stays ok.op ∙ unchanged ch p (object lost h p) x)
            ∙ g'.1 p v o
        by p v o true x =
            let u : UnderNumber h c j false (in_run at m) = subst (λ (op : Op). Using h c op) e (flight_uses h c q pt f) in
            let cov = u.covered p (in_run_of at vs m p g'.0 (run_some at vs p v o)) in
            let mine : c ≡ r.life = sym u.life ∙ own_txn h nr r k ch u.lock p n lk ok u.held
            (ap (λ (d : ℕ). evicted d h) u.life ∙ lives out h c outs live) cov x in
            let is : q ≡ r = same_flight h c q r f (ap (λ (d : ℕ). flight d h) mine ∙ flies) in
            let same : Get j at m ≡ Flush k ch = sym e ∙ ap (λ (y : Request). y.op) is ∙ ok.op in
            absurd (cc)
    got c q vs live f (Flush j c') e g = subst (λ (op : Op). Got lost (Txn nr r ∷ h) op vs) (sym e) tt
    got c q vs live f (Enqueue a b t) e g = subst (λ (op : Op). Got lost (Txn nr r ∷ h) op vs) (sym e) tt
    got c q vs live f Size e g = subst (λ (op : Op). Got lost (Txn nr r ∷ h) op vs) (sym e) tt

    done : (c p : ℕ) (q : Request) (m : ℕ) → out c ≡ false → flight c h ≡ Some q → Answered (Txn nr r ∷ h) c q.xid (Done m) → lost m ≡ false
        → object lost (Txn nr r ∷ h) p ≡ after_op q.op p (object lost (Txn nr r ∷ h) p)
    done c p q m live f (inl e) z =
        let is : q ≡ r = same_flight h c q r f (ap (λ (d : ℕ). flight d h) (sym e.0) ∙ flies) in
        let op : q.op ≡ Flush k ch = ap (λ (y : Request). y.op) is ∙ ok.op in
        let t = txn_object lost h nr r k ch p stays ok.op in
        subst (λ (o : Op). object lost (Txn nr r ∷ h) p ≡ after_op o p (object lost (Txn nr r ∷ h) p)) (sym op)
        (subst (λ (x : Option ℕ). x ≡ after_at ch p x) (sym t) (sym (twice ch p (object lost h p))))
    done c p q m live f (inr i) z = by q.op refl (w.done c p q m live f i z) (changes ch p) refl
      where
        by : (op : Op) → q.op ≡ op → object lost h p ≡ after_op q.op p (object lost h p) → (b : Bool) → changes ch p ≡ b
            → object lost (Txn nr r ∷ h) p ≡ after_op q.op p (object lost (Txn nr r ∷ h) p)
        by op e x false y = subst (λ (z : Option ℕ). z ≡ after_op q.op p z)
            (sym (txn_object lost h nr r k ch p stays ok.op ∙ unchanged ch p (object lost h p) y)) x
        by (Get j at m) e x true y = subst (λ (o : Op). object lost (Txn nr r ∷ h) p ≡ after_op o p (object lost (Txn nr r ∷ h) p)) (sym e)
            refl
        by (Enqueue a b t) e x true y = subst (λ (o : Op). object lost (Txn nr r ∷ h) p ≡ after_op o p (object lost (Txn nr r ∷ h) p))
            (sym e) refl
        by Size e x true y = subst (λ (o : Op). object lost (Txn nr r ∷ h) p ≡ after_op o p (object lost (Txn nr r ∷ h) p)) (sym e) refl
        by (Flush j c') e x true y = subst (λ (o : Op). object lost (Txn nr r ∷ h) p ≡ after_op o p (object lost (Txn nr r ∷ h) p)) (sym e)
            (other (changes c' p) refl)
          where
            other : (b : Bool) → changes c' p ≡ b → object lost (Txn nr r ∷ h) p ≡ after_at c' p (object lost (Txn nr r ∷ h) p)
            other false z = sym (unchanged c' p (object lost (Txn nr r ∷ h) p) z)
            other true z =
                let u : UnderNumber h c j true (changes c') = subst (λ (o : Op). Using h c o) e (flight_uses h c q pt f) in
                let mine : c ≡ r.life = sym u.life ∙ own_txn h nr r k ch u.lock p n lk ok u.held
                (ap (λ (d : ℕ). evicted d h) u.life ∙ lives out h c outs live) (u.covered p z) y in
                let is : q ≡ r = same_flight h c q r f (ap (λ (d : ℕ). flight d h) mine ∙ flies) in
                absurd (ok.fresh.first (Done m) (subst (λ (y : Request). Answered h y.life y.xid (Done m)) is
                (subst (λ (d : ℕ). Answered h d q.xid (Done m)) (sym (n.flies c q f).0) i)))

known_under : (h : List Entry) (e : Entry) (c p : ℕ) → ((l : Lock) → HeldBy h l → HeldBy (e ∷ h) l) → Knows h c p → Knows (e ∷ h) c p
known_under h e c p m u = record { lock = u.lock; held = m u.lock u.held; life = u.life; covered = u.covered }

-- an entry that leaves the object, what is in flight and what is known, and answers neither with bytes nor with done
pub record Calm (lost : ℕ → Bool) (h : List Entry) (e : Entry) : Type 0 where
  pub object : (p : ℕ) → object lost (e ∷ h) p ≡ object lost h p
  pub known : (c p : ℕ) → known c (e ∷ h) p ≡ known c h p
  pub masked : (c p : ℕ) → masked (pending c (e ∷ h)) (dirty c (e ∷ h) p) p ≡ false → masked (pending c h) (dirty c h p) p ≡ false
  pub flight : (c : ℕ) → flight c (e ∷ h) ≡ flight c h
  pub held : (l : Lock) → HeldBy h l → HeldBy (e ∷ h) l
  pub content : (c x : ℕ) (vs : List ℕ) (t : Option ℕ) (sn : ℕ → Bool) → Answered (e ∷ h) c x (Content vs t sn)
      → Answered h c x (Content vs t sn)
  pub dones : (c x m : ℕ) → Answered (e ∷ h) c x (Done m) → Answered h c x (Done m)

calm : (out lost : ℕ → Bool) (h : List Entry) (e : Entry) → Calm lost h e → Facts out lost h → Facts out lost (e ∷ h)
calm out lost h e s w = record {
  known = λ c p v o k. known_more lost h e c p v s.held (s.object p) (s.masked c p) (w.known c p v o (sym (s.known c p) ∙ k));
  got = λ c r vs t sn o f a fr. got_more lost h e r.op vs s.object
      (w.got c r vs t sn o (sym (s.flight c) ∙ f) (s.content c r.xid vs t sn a) fr);
  done = λ c p r m o f a z. subst (λ (x : Option ℕ). x ≡ after_op r.op p x) (sym (s.object p))
      (w.done c p r m o (sym (s.flight c) ∙ f) (s.dones c r.xid m a) z);
}

told_mask : (ch : Change) (q d : Option ℕ) (p : ℕ) → masked (cut_by ch q) (dirty_by ch q p d) p ≡ false → masked q d p ≡ false
told_mask ch q d p e = by (masked q d p) refl
  where
    by : (v : Bool) → masked q d p ≡ v → masked q d p ≡ false
    by false f = f
    by true f = absurd (both_ways (masked (cut_by ch q) (dirty_by ch q p d) p) e (told_masked ch q d p f))

quiet_act : (lost : ℕ → Bool) (h : List Entry) (r : Request) (a : Answer)
    → ((vs : List ℕ) (t : Option ℕ) (sn : ℕ → Bool) → a ≡ Content vs t sn → ⊥) → ((m : ℕ) → a ≡ Done m → ⊥) → Calm lost h (Acts r a)
quiet_act lost h r a nc nd = record {
  object = λ p. refl;
  known = λ c p. refl;
  masked = λ c p e. e;
  flight = λ c. refl;
  held = λ m i. i;
  content = λ c x vs t sn. ⊎_elim (λ (e : (r.life ≡ c) × (r.xid ≡ x) × (a ≡ Content vs t sn)). absurd (nc vs t sn e.2))
      (λ (i : Answered h c x (Content vs t sn)). i);
  dones = λ c x m. ⊎_elim (λ (e : (r.life ≡ c) × (r.xid ≡ x) × (a ≡ Done m)). absurd (nd m e.2)) (λ (i : Answered h c x (Done m)). i);
}

told_calm : (lost : ℕ → Bool) (h : List Entry) (d j : ℕ) (ch : Change) → Calm lost h (Tells d (Did j ch))
told_calm lost h d j ch = record {
  object = λ p. refl;
  known = λ c p. refl;
  masked = λ c p. at_life (λ k b. masked (if b then cut_by ch (pending k h) else pending k h)
      (if b then dirty_by ch (pending k h) p (dirty k h p) else dirty k h p) p ≡ false → masked (pending k h) (dirty k h p) p ≡ false) c d
      (told_mask ch (pending d h) (dirty d h p) p) (λ ne e. e);
  flight = λ c. refl;
  held = λ l i. i;
  content = λ c x vs t sn i. i;
  dones = λ c x m i. i;
}

-- a request is sent
sends_new : (out lost : ℕ → Bool) (h : List Entry) (r : Request) → Numbers h → New h r → Facts out lost h → Facts out lost (Flies r ∷ h)
sends_new out lost h r n ok w = record {
  known = λ c p v o k. known_more lost h (Flies r) c p v (λ l i. i) refl (λ x. x) (w.known c p v o k);
  got = λ c q vs t sn o f a fr. got c q vs t sn o (nat_eq c r.life) refl f a fr;
  done = λ c p q m o f a z. done c p q m o (nat_eq c r.life) refl f a z;
}
  where
    none : (c x : ℕ) (a : Answer) → c ≡ r.life → r.xid ≡ x → Answered h c x a → ⊥
    none c x a e f i =
        let low = n.answers c x a i in
        let next = ok.next in
        let same = ap (λ (d : ℕ). asked d h) e in
        omega arith

    got : (c : ℕ) (q : Request) (vs : List ℕ) (t : Option ℕ) (sn : ℕ → Bool) → out c ≡ false → (v : Bool) → nat_eq c r.life ≡ v
        → (if v then Some r else flight c h) ≡ Some q → Answered h c q.xid (Content vs t sn) → Free lost sn → Got lost (Flies r ∷ h) q.op vs
    got c q vs t sn o true e f a fr = let is : r ≡ q = cc in absurd
        (none c q.xid (Content vs t sn) (eqb-true c r.life e) (ap (λ (y : Request). y.xid) is) a)
    got c q vs t sn o false e f a fr = got_more lost h (Flies r) q.op vs (λ p. refl) (w.got c q vs t sn o f a fr)

    done : (c p : ℕ) (q : Request) (m : ℕ) → out c ≡ false → (v : Bool) → nat_eq c r.life ≡ v → (if v then Some r else flight c h) ≡ Some q
        → Answered h c q.xid (Done m) → lost m ≡ false → object lost h p ≡ after_op q.op p (object lost h p)
    done c p q m o true e f a z = let is : r ≡ q = cc in absurd
        (none c q.xid (Done m) (eqb-true c r.life e) (ap (λ (y : Request). y.xid) is) a)
    done c p q m o false e f a z = w.done c p q m o f a z

-- a request is answered with bytes
acts_content : (out lost : ℕ → Bool) (h : List Entry) (r : Request) (bs : List ℕ) (u : Option ℕ) (sk : ℕ → Bool) → KeptFor out lost h
    → Numbers h → Fresh h r → ActsOk h r (Content bs u sk) → Facts out lost h → Facts out lost (Acts r (Content bs u sk) ∷ h)
acts_content out lost h r bs u sk kept n fresh ok w = record {
  known = λ c p v o k. known_more lost h (Acts r (Content bs u sk)) c p v (λ l i. i) refl (λ x. x) (w.known c p v o k);
  got = λ c q vs t sn o f a fr. got_more lost h (Acts r (Content bs u sk)) q.op vs (λ p. refl) (got c q vs t sn o f a fr);
  done = λ c p q m o f a z. ⊎_elim (λ (e : (r.life ≡ c) × (r.xid ≡ q.xid) × (Content bs u sk ≡ Done m)). absurd (let x = e.2 in cc))
      (λ (i : Answered h c q.xid (Done m)). w.done c p q m o f i z) a;
}
  where
    got : (c : ℕ) (q : Request) (vs : List ℕ) (t : Option ℕ) (sn : ℕ → Bool) → out c ≡ false → flight c h ≡ Some q
        → Answered (Acts r (Content bs u sk) ∷ h) c q.xid (Content vs t sn) → Free lost sn → Got lost h q.op vs
    got c q vs t sn o f (inr i) fr = w.got c q vs t sn o f i fr
    got c q vs t sn o f (inl e) fr =
        let reply : ActsOk h r (Content vs t sn) = subst (λ (a : Answer). ActsOk h r a) e.2 ok in
        let is : q ≡ r = same_flight h c q r f (ap (λ (j : ℕ). flight j h) (sym e.0) ∙ fresh_flies h r n fresh) in
        let op : q.op ≡ Get reply.0 reply.1 reply.2 = ap (λ (z : Request). z.op) is ∙ reply.3 in
        subst (λ (o : Op). Got lost h o vs) (sym op) (
          reply.4,
          λ p v i. ap (λ (x : Option ℕ). value x) (sees_same out lost h sn (in_run reply.1 reply.2) p n kept reply.6 fr
              (in_run_of reply.1 vs reply.2 p reply.4 (run_some reply.1 vs p v i))) ∙ reply.7 p v i,
        )

-- a lock is dropped, and what was known under it forgotten
drops : (out lost : ℕ → Bool) (h : List Entry) (k : Lock) → Numbers h → Lockings h → DropOk h k → Facts out lost h
    → Facts out lost (Drop k ∷ h)
drops out lost h k n lk ok w = record {
  known = λ c p v live e. knows c p v live (nat_eq c k.life && covers k p) refl e;
  got = λ c q vs t sn o f a fr. got_more lost h (Drop k) q.op vs (λ p. refl) (w.got c q vs t sn o f a fr);
  done = λ c p q m o f a z. w.done c p q m o f a z;
}
  where
    knows : (c p v : ℕ) → out c ≡ false → (b : Bool) → (nat_eq c k.life && covers k p) ≡ b → (if b then None else known c h p) ≡ Some v
        → KnownOk lost (Drop k ∷ h) c p v
    knows c p v live true t e = absurd (cc)
    knows c p v live false t e =
        let o = w.known c p v live e in
        let u = o.under in
        record {
          under = record {
            lock = u.lock;
            held = (
              λ x.
                  let s : k ≡ u.lock = lk.unique k u.lock (n.held k ok.held) (n.held u.lock u.held) x in
                  both_ways (nat_eq c k.life && covers k p) t
                  (both_true (eq-eqb c k.life (sym (ap (λ (m : Lock). m.life) s ∙ u.life)))
                  (subst (λ (m : Lock). covers m p ≡ true) (sym s) u.covered)),
              u.held,
            );
            life = u.life;
            covered = u.covered;
          };
          is = o.is;
        }

-- what is learned
record Learned (lost : ℕ → Bool) (h : List Entry) (c p v : ℕ) (op : Op) (a : Answer) : Type 0 where
  pub under : Knows h c p
  pub is : masked (cut_acked op a (pending c h)) (dirty_acked op a (flying c h p) (dirty c h p)) p ≡ false → value (object lost h p) ≡ v

cut_mask : (n p : ℕ) (q d : Option ℕ) → nat_lt p n ≡ true → masked (cut_acked (Flush 0 (Cut n)) (Done 0) q) d p ≡ false
    → masked q d p ≡ false
cut_mask n p None d e m = m
cut_mask n p (Some q) (Some b) e m = absurd (cc)
cut_mask n p (Some q) None e m = grind (arith, nat_tests)

zero_value : (n p v : ℕ) (k x : Option ℕ) → nat_lt p n ≡ false → zeroed k ≡ Some v → x ≡ cut_at n p x
    → (value x ≡ v) × (w : ℕ) × (k ≡ Some w)
zero_value n p v None x e z f = absurd (cc)
zero_value n p v (Some w) x e z f = (ap (λ (y : Option ℕ). value y) f ∙ grind (arith, nat_tests), w, refl)

learns : (lost : ℕ → Bool) (h : List Entry) (c p v : ℕ) (op : Op) (a : Answer) → Using h c op
    → ((vs : List ℕ) (t : Option ℕ) (sn : ℕ → Bool) → a ≡ Content vs t sn → Got lost h op vs)
    → ((m : ℕ) → a ≡ Done m → object lost h p ≡ after_op op p (object lost h p))
    → (flying c h p ≡ true → FlownBy op (pending c h) (dirty c h p) p) → ((u : ℕ) → known c h p ≡ Some u → KnownOk lost h c p u)
    → learn op a p (known c h p) ≡ Some v → Learned lost h c p v op a
learns lost h c p v (Get k at n) (Content vs t sn) u got done fl old e = by (within at vs p) refl
  where
    by : (b : Bool) → within at vs p ≡ b → Learned lost h c p v (Get k at n) (Content vs t sn)
    by false f = let o = old v (sym (run_out at vs p (known c h p) f) ∙ e) in record { under = o.under; is = o.is }
    by true f =
        let g = got vs t sn refl in
        record {
          under = record { lock = u.lock; held = u.held; life = u.life; covered = u.covered p (in_run_of at vs n p g.0 f) };
          is = λ m. g.1 p v (run_same at vs p None (known c h p) f ∙ e);
        }
learns lost h c p v (Flush k (Write at bs)) (Done m) u got done fl old e = by (within at bs p) refl
  where
    by : (b : Bool) → within at bs p ≡ b → Learned lost h c p v (Flush k (Write at bs)) (Done m)
    by true f = record {
      under = record { lock = u.lock; held = u.held; life = u.life; covered = u.covered p f };
      is = λ x. ap (λ (y : Option ℕ). value y) (done m refl ∙ run_same at bs p (object lost h p) (known c h p) f ∙ e);
    }
    by false f =
        let o = old v (sym (run_out at bs p (known c h p) f) ∙ e) in
        record { under = o.under; is = is (flying c h p) refl o.is }
      where
        is : (g : Bool) → flying c h p ≡ g → (masked (pending c h) (dirty c h p) p ≡ false → value (object lost h p) ≡ v)
            → masked (pending c h) (if g then None else dirty c h p) p ≡ false → value (object lost h p) ≡ v
        is true t o m = absurd (both_ways (within at bs p) f (fl t).0)
        is false t o m = o m
learns lost h c p v (Flush k (Cut n)) (Done m) u got done fl old e = by (nat_lt p n) refl
  where
    by : (b : Bool) → nat_lt p n ≡ b → Learned lost h c p v (Flush k (Cut n)) (Done m)
    by true f = let o = old v (let g : learn (Flush k (Cut n)) (Done m) p (known c h p) ≡ known c h p = rw f in sym g ∙ e)
        in record { under = o.under; is = λ x. o.is (cut_mask n p (pending c h) (dirty c h p) f x) }
    by false f =
        let z = zero_value n p v (known c h p) (object lost h p) f
        (let g : learn (Flush k (Cut n)) (Done m) p (known c h p) ≡ zeroed (known c h p) = rw f in sym g ∙ e) (done m refl) in
        record { under = (old z.1 z.2).under; is = λ m. z.0 }
learns lost h c p v _ a u got done fl old e = let o = old v e in record { under = o.under; is = o.is }

-- an answer is heard
hears : (out lost : ℕ → Bool) (h : List Entry) (r : Request) (a : Answer) → (out r.life ≡ false → HeardOf lost a) → Numbers h → Patches h
    → flight r.life h ≡ Some r → Was h (Reply (closed h) r.life r.xid a) → Facts out lost h → Facts out lost (Heard r a ∷ h)
hears out lost h r a of n pt fl was w = record {
  known = λ c p v live e. knows c p v live (nat_eq c r.life) refl e;
  got = λ c q vs t sn o f i fr. got c q vs t sn o (nat_eq c r.life) refl f i fr;
  done = λ c p q m o f i z. done c p q m o (nat_eq c r.life) refl f i z;
}
  where
    got : (c : ℕ) (q : Request) (vs : List ℕ) (t : Option ℕ) (sn : ℕ → Bool) → out c ≡ false → (v : Bool) → nat_eq c r.life ≡ v
        → (if v then None else flight c h) ≡ Some q → Answered h c q.xid (Content vs t sn) → Free lost sn → Got lost (Heard r a ∷ h) q.op vs
    got c q vs t sn o true e f i fr = absurd (cc)
    got c q vs t sn o false e f i fr = got_more lost h (Heard r a) q.op vs (λ p. refl) (w.got c q vs t sn o f i fr)

    done : (c p : ℕ) (q : Request) (m : ℕ) → out c ≡ false → (v : Bool) → nat_eq c r.life ≡ v → (if v then None else flight c h) ≡ Some q
        → Answered h c q.xid (Done m) → lost m ≡ false → object lost h p ≡ after_op q.op p (object lost h p)
    done c p q m o true e f i z = absurd (cc)
    done c p q m o false e f i z = w.done c p q m o f i z

    knows : (c p v : ℕ) → out c ≡ false → (b : Bool) → nat_eq c r.life ≡ b
        → (if b then learn r.op a p (known c h p) else known c h p) ≡ Some v → KnownOk lost (Heard r a ∷ h) c p v
    knows c p v live false t e = let o = w.known c p v live e in record
        { under = known_under h (Heard r a) c p (λ l i. i) o.under; is = rw t o.is }
    knows c p v live true t e =
        let is = eqb-true c r.life t in
        let fc : flight c h ≡ Some r = ap (λ (d : ℕ). flight d h) is ∙ fl in
        let ans : Answered h c r.xid a = subst (λ (d : ℕ). Answered h d r.xid a) (sym is) (n.replies r.life r.xid a was) in
        let of' : HeardOf lost a = of (ap out (sym is) ∙ live) in
        let l = learns lost h c p v r.op a (flight_uses h c r pt fc)
        (λ vs t sn i. w.got c r vs t sn live fc (subst (λ (b : Answer). Answered h c r.xid b) i ans)
        (subst (λ (b : Answer). HeardOf lost b) i of'))
        (λ m i. w.done c p r m live fc (subst (λ (b : Answer). Answered h c r.xid b) i ans) (subst (λ (b : Answer). HeardOf lost b) i of'))
        (λ i. flight_flown h c p r pt fc i)
        (λ u i. w.known c p u live i) e in
        record { under = known_under h (Heard r a) c p (λ m i. i) l.under; is = rw t l.is }

-- no answer outlives a close but those of transactions that stand
pub closes : (out lost : ℕ → Bool) (b : ℕ) (l gone : ℕ → Bool) (h : List Entry) → Facts out (also lost l) h
    → Facts out lost (Close b l gone ∷ h)
closes out lost b l gone h w = record {
  known = λ c p v o e. let j = w.known c p v o e in record {
    under =
        record { lock = j.under.lock; held = j.under.held; life = j.under.life; covered = j.under.covered };
    is = j.is;
  };
  got = λ c q vs t sn o f a fr. absurd (let e = a.1.1 in cc);
  done = λ c p q m o f a z. w.done c p q m o f a.0 (stays m a.1 z);
}
  where
    stays : (m : ℕ) → (j : ℕ) × (Done m ≡ Done j) × (l j ≡ false) → lost m ≡ false → also lost l m ≡ false
    stays m x z = let e : m ≡ x.0 = (let d = x.1 in cc) in rw (z, ap l e ∙ x.2)

pub facts_line : (out lost : ℕ → Bool) (h : List Entry) (e : Entry) → Outs out h → KeptFor out lost (e ∷ h)
    → ((d : ℕ) (l gone : ℕ → Bool) → e ≡ Close d l gone → ⊥) → Numbers h → Lockings h → Patches h → Facts out lost h → Allowed h e
    → Facts out lost (e ∷ h)
facts_line out lost h (Close d l gone) s k no_close n lk pt w ok = absurd (no_close d l gone refl)
facts_line out lost h (Heard r a) s k no_close n lk pt w ok = hears out lost h r a k.0 n pt ok.0 ok.1 w
facts_line out lost h (Drop l) s k no_close n lk pt w ok = drops out lost h l n lk ok w
facts_line out lost h (Tells d (Did j ch)) s k no_close n lk pt w ok = calm out lost h (Tells d (Did j ch)) (told_calm lost h d j ch) w
facts_line out lost h (Txn nr r) s k no_close n lk pt w ok = by (lost nr) refl
  where
    by : (v : Bool) → lost nr ≡ v → Facts out lost (Txn nr r ∷ h)
    by true l = txns_lost out lost h nr r l w
    by false l = txns out lost h nr r ok.0 ok.1 s l n lk pt ok.2 w
facts_line out lost h (Flies r) s k no_close n lk pt w ok = sends_new out lost h r n ok w
facts_line out lost h (Acts r (Content vs t sn)) s k no_close n lk pt w ok = acts_content out lost h r vs t sn k n ok.0 ok.1 w
facts_line out lost h (Acts r (Sized z)) s k no_close n lk pt w ok =
    calm out lost h (Acts r (Sized z)) (quiet_act lost h r (Sized z) (λ vs t sn e. absurd (cc)) (λ m e. absurd (cc))) w
facts_line out lost h (Acts r Uncovered) s k no_close n lk pt w ok =
    calm out lost h (Acts r Uncovered) (quiet_act lost h r Uncovered (λ vs t sn e. absurd (cc)) (λ m e. absurd (cc))) w
facts_line out lost h (Acts r (Granted l z sl)) s k no_close n lk pt w ok = absurd ok.1
facts_line out lost h (Acts r (Waiting j)) s k no_close n lk pt w ok = absurd ok.1
facts_line out lost h (Acts r (Done m)) s k no_close n lk pt w ok = absurd ok.1
facts_line out lost h (Hold l z sl) s k no_close n lk pt w ok = calm out lost h (Hold l z sl) (record {
  object = λ p. refl;
  known = λ c p. refl;
  masked = λ c p e. e;
  flight = λ c. refl;
  held = λ m i. inr i;
  content = λ c x vs t sn i. i;
  dones = λ c x m i. i;
}) w
facts_line out lost h (Grant r l z sl) s k no_close n lk pt w ok = calm out lost h (Grant r l z sl) (record {
  object = λ p. refl;
  known = λ c p. refl;
  masked = λ c p e. e;
  flight = λ c. refl;
  held = λ m i. i;
  content = λ c x vs t sn. ⊎_elim (λ (e : (r.life ≡ c) × (r.xid ≡ x) × (Granted l z sl ≡ Content vs t sn)). absurd (cc))
      (λ (i : Answered h c x (Content vs t sn)). i);
  dones = λ c x m. ⊎_elim (λ (e : (r.life ≡ c) × (r.xid ≡ x) × (Granted l z sl ≡ Done m)). absurd (cc))
      (λ (i : Answered h c x (Done m)). i);
}) w
facts_line out lost h (Wait r l) s k no_close n lk pt w ok = calm out lost h (Wait r l) (record {
  object = λ p. refl;
  known = λ c p. refl;
  masked = λ c p e. e;
  flight = λ c. refl;
  held = λ m i. i;
  content = λ c x vs t sn. ⊎_elim (λ (e : (r.life ≡ c) × (r.xid ≡ x) × (Waiting l.cookie ≡ Content vs t sn)). absurd (cc))
      (λ (i : Answered h c x (Content vs t sn)). i);
  dones = λ c x m. ⊎_elim (λ (e : (r.life ≡ c) × (r.xid ≡ x) × (Waiting l.cookie ≡ Done m)). absurd (cc))
      (λ (i : Answered h c x (Done m)). i);
}) w
facts_line out lost h e s k no_close n lk pt w ok = calm out lost h e (record {
  object = λ p. refl;
  known = λ c p. refl;
  masked = λ c p x. x;
  flight = λ c. refl;
  held = λ m i. i;
  content = λ c x vs t sn i. i;
  dones = λ c x m i. i;
}) w
