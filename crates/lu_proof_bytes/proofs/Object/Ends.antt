-- The end of the object that a life knows under a lock is so, where its own patch doesn't touch it.
use Rattle.std.proofs.Common.{◌≡◌, ℕ, suc, ◌≤◌, ◌⊎◌, inl, inr, ⊎_elim, List, ◌∷◌, Option, Some, None, Bool, true, false, refl, sym, ap, ◌∙◌}
use Rattle.std.proofs.Common.{subst, arith}
use Rattle.std.specs.Prelude.{nat_eq, nat_lt, if◌then◌else◌, ◌&&◌}
use Rattle.std.proofs.lemmas.Bool.{eqb-true, eq-eqb, both_ways, and_parts}
use Rattle.std.proofs.lemmas.Bool.Decides.{nat_tests}
use Rattle.lu_proof_bytes.specs.Object.Words.{Lock, Change, Write, Cut, Op, Flush, Request, Answer, Granted, Waiting, Done, Message, Ask}
use Rattle.lu_proof_bytes.specs.Object.Words.{Reply, Give, Block, Cancel, Did, Entry, Heard, Hold, Drop, Tells, Grant, Wait, Promote, Acts}
use Rattle.lu_proof_bytes.specs.Object.Words.{Txn, Release, Close, Send, covers, within, after_at, changes, end_after}
use Rattle.lu_proof_bytes.specs.Object.Folds.{also, is_some, Was, closed, evicted, Answered, Apart, WasGranted, IsGranted, flight, awaits}
use Rattle.lu_proof_bytes.specs.Object.Folds.{HeldBy, WasDropped, after_op, object, cut_by, dirty_by, cut_acked, dirty_acked, pending}
use Rattle.lu_proof_bytes.specs.Object.Folds.{flying, dirty, touched, end_acked, ends}
use Rattle.lu_proof_bytes.specs.Object.Guards.{UnderNumber, Sees, HeardOf, KeptFor, IsEnd, GrantOk, PromoteOk, TxnOk, ActsOk, SendOk}
use Rattle.lu_proof_bytes.specs.Object.Guards.{DropOk, Allowed}
use Rattle.lu_proof_bytes.proofs.Object.Numbers.{Numbers, fresh_flies, hold_was}
use Rattle.lu_proof_bytes.proofs.Object.Locks.{Lockings, Alive, same_or_apart, grant_apart, promote_apart}
use Rattle.lu_proof_bytes.proofs.Object.Spot.{run_in, run_bounds, end_above, end_least, end_other, unchanged, told_touched, FlownBy}
use Rattle.lu_proof_bytes.proofs.Object.Kept.{sees_same}
use Rattle.lu_proof_bytes.proofs.Object.Patches.{Patches, Running, Using, at_life, flight_hidden, flight_uses, flight_flown}
use Rattle.lu_proof_bytes.proofs.Object.Facts.{Outs, lives, Free, txn_lost, Facts, one_lock, own_txn, running_touched, txn_object}

-- from position `first` on the object ends at `e`, but for positions where that is hidden
pub record Bounds (lost : ℕ → Bool) (h : List Entry) (first e : ℕ) (hides : ℕ → Bool) : Type 0 where
  pub none : (p : ℕ) → first ≤ p → e ≤ p → hides p ≡ false → object lost h p ≡ None
  pub some : (p : ℕ) → first ≤ p → suc p ≡ e → hides p ≡ false → is_some (object lost h p) ≡ true

-- the life's patch may change the position
abbrev pub hides : List Entry → ℕ → ℕ → Bool
hides h c p = touched (pending c h) (dirty c h p) p

-- the size that the life is or will be told of a lock, with what that saw
abbrev pub Coming : List Entry → Lock → ℕ → (ℕ → Bool) → Type 0
Coming h l s sn = ((x : ℕ) × Answered h l.life x (Granted l s sn)) ⊎ Was h (Give (closed h) l s sn)

coming_was : (h : List Entry) (l : Lock) (s : ℕ) (sn : ℕ → Bool) → Numbers h → Coming h l s sn → WasGranted h l
coming_was h l s sn n (inl i) = (n.granted l.life i.0 l s sn i.1).0
coming_was h l s sn n (inr i) = n.gives (closed h) l s sn i

-- what is so of locks to the end: the size that comes with a granted lock, until that is held, is the object's end; and of a held one the
-- end that the life knows is, but where its patch may change it
abbrev pub Ends : (ℕ → Bool) → (ℕ → Bool) → List Entry → Type 0
Ends out lost h = record {
  coming : (l : Lock) (s : ℕ) (sn : ℕ → Bool) → Coming h l s sn → Free lost sn → IsGranted h l → (HeldBy h l → ⊥) → (WasDropped h l → ⊥)
      → l.last ≡ None → Bounds lost h l.first s (λ p. false);
  kept : (l : Lock) (e : ℕ) → HeldBy h l → out l.life ≡ false → l.last ≡ None → ends l.life l.cookie h ≡ Some e
      → Bounds lost h l.first e (hides h l.life);
}

-- a lock to the end covers each position from its first on
pub covers_on : (l : Lock) (p : ℕ) → l.last ≡ None → l.first ≤ p → covers l p ≡ true
covers_on l p e low = rw e (grind (arith, nat_tests))

-- the object stays
bounds_more : (lost : ℕ → Bool) (h : List Entry) (e : Entry) (f z : ℕ) (a b : ℕ → Bool)
    → ((p : ℕ) → object lost (e ∷ h) p ≡ object lost h p) → ((p : ℕ) → b p ≡ false → a p ≡ false) → Bounds lost h f z a
    → Bounds lost (e ∷ h) f z b
bounds_more lost h e f z a b o less w = record {
  none = λ p i j k. o p ∙ w.none p i j (less p k);
  some = λ p i j k. ap is_some (o p) ∙ w.some p i j (less p k);
}

-- an entry that leaves the object and grants, holds and drops nothing
pub record Even (lost : ℕ → Bool) (h : List Entry) (e : Entry) : Type 0 where
  pub object : (p : ℕ) → object lost (e ∷ h) p ≡ object lost h p
  pub hidden : (c p : ℕ) → hides (e ∷ h) c p ≡ false → hides h c p ≡ false
  pub granted : (l : Lock) → IsGranted (e ∷ h) l → IsGranted h l
  pub answered : (l : Lock) (s : ℕ) (sn : ℕ → Bool) → Coming (e ∷ h) l s sn → Coming h l s sn
  pub held : (l : Lock) → HeldBy (e ∷ h) l → HeldBy h l
  pub still_held : (l : Lock) → HeldBy h l → HeldBy (e ∷ h) l
  pub dropped : (l : Lock) → WasDropped h l → WasDropped (e ∷ h) l
  pub ends : (c x : ℕ) → ends c x (e ∷ h) ≡ ends c x h

even : (out lost : ℕ → Bool) (h : List Entry) (e : Entry) → Even lost h e → Ends out lost h → Ends out lost (e ∷ h)
even out lost h e s w = record {
  coming = λ l t sn a v g nh nd last. bounds_more lost h e l.first t (λ p. false) (λ p. false) s.object (λ p k. k)
      (w.coming l t sn (s.answered l t sn a) v (s.granted l g) (λ i. nh (s.still_held l i)) (λ i. nd (s.dropped l i)) last);
  kept = λ l z i v last k. bounds_more lost h e l.first z (hides h l.life) (hides (e ∷ h) l.life) s.object (s.hidden l.life)
      (w.kept l z (s.held l i) v last (sym (s.ends l.life l.cookie) ∙ k));
}

told_hides : (ch : Change) (q d : Option ℕ) (p : ℕ) → touched (cut_by ch q) (dirty_by ch q p d) p ≡ false → touched q d p ≡ false
told_hides ch q d p e = by (touched q d p) refl
  where
    by : (v : Bool) → touched q d p ≡ v → touched q d p ≡ false
    by false f = f
    by true f = absurd (both_ways (touched (cut_by ch q) (dirty_by ch q p d) p) e (told_touched ch q d p f))

told_even : (lost : ℕ → Bool) (h : List Entry) (d j : ℕ) (ch : Change) → Even lost h (Tells d (Did j ch))
told_even lost h d j ch = record {
  object = λ p. refl;
  hidden = λ c p. at_life (λ k b. touched (if b then cut_by ch (pending k h) else pending k h)
      (if b then dirty_by ch (pending k h) p (dirty k h p) else dirty k h p) p ≡ false → touched (pending k h) (dirty k h p) p ≡ false) c d
      (told_hides ch (pending d h) (dirty d h p) p) (λ ne e. e);
  granted = λ l i. i;
  answered = λ l s sn i. i;
  held = λ l i. i;
  still_held = λ l i. i;
  dropped = λ l i. i;
  ends = λ c x. refl;
}

holds : (out lost : ℕ → Bool) (h : List Entry) (k : Lock) (s : ℕ) (sn : ℕ → Bool) → Outs out h → (out k.life ≡ false → Free lost sn)
    → Numbers h → Lockings h → Allowed h (Hold k s sn) → Ends out lost h → Ends out lost (Hold k s sn ∷ h)
holds out lost h k s sn outs of n lk ok w = record {
  coming = λ l t tn a v g nh nd last. bounds_more lost h (Hold k s sn) l.first t (λ p. false) (λ p. false) (λ p. refl) (λ p e. e)
      (w.coming l t tn a v g (λ i. nh (inr i)) nd last);
  kept = λ l z i v last e. kept l z i v last (nat_eq l.life k.life && nat_eq l.cookie k.cookie) refl e;
}
  where
    answered : Coming h k s sn
    answered = ⊎_elim (λ (i : (x : ℕ) × Was h (Reply (closed h) k.life x (Granted k s sn))). inl
        (i.0, n.replies k.life i.0 (Granted k s sn) i.1)) (λ (i : Was h (Give (closed h) k s sn)). inr i) ok.1

    was : WasGranted h k
    was = hold_was h k s sn n ok

    -- nobody held it before
    granted : evicted k.life h ≡ false → Alive h k → IsGranted h k
    granted v (inl g) = g
    granted v (inr (inl d)) = absurd (both_ways (awaits k.life k.cookie h) d.gone.gone ok.0)
    granted v (inr (inr e)) = absurd (both_ways (evicted k.life h) v e)

    fresh : out k.life ≡ false → k.last ≡ None → Bounds lost h k.first s (λ p. false)
    fresh v last = w.coming k s sn answered (of v) (granted (lives out h k.life outs v) (lk.alive k was))
        (λ i. both_ways (awaits k.life k.cookie h) (lk.held k i).gone ok.0)
        (λ i. both_ways (awaits k.life k.cookie h) (lk.dropped k i).1.gone.gone ok.0) last

    new : (l : Lock) (z : ℕ) → k ≡ l → out l.life ≡ false → l.last ≡ None → s ≡ z → Bounds lost (Hold k s sn ∷ h) l.first z (hides h l.life)
    new l z e v last q =
        let f = fresh (ap (λ (m : Lock). out m.life) e ∙ v) (ap (λ (m : Lock). m.last) e ∙ last) in
        let b : Bounds lost h l.first z (λ p. false) = subst (λ (y : Lock × ℕ). Bounds lost h y.0.first y.1 (λ p. false)) (λ i. (e i, q i))
        f in
        bounds_more lost h (Hold k s sn) l.first z (λ p. false) (hides h l.life) (λ p. refl) (λ p i. refl) b

    kept : (l : Lock) (z : ℕ) → (k ≡ l) ⊎ HeldBy h l → out l.life ≡ false → l.last ≡ None → (b : Bool)
        → (nat_eq l.life k.life && nat_eq l.cookie k.cookie) ≡ b → (if b then Some s else ends l.life l.cookie h) ≡ Some z
        → Bounds lost (Hold k s sn ∷ h) l.first z (hides h l.life)
    kept l z (inl e) v last true t q = new l z e v last cc
    kept l z (inl e) v last false t q = absurd (let c = eq-eqb l.life k.life (ap (λ (m : Lock). m.life) (sym e)) in let x =
        eq-eqb l.cookie k.cookie (ap (λ (m : Lock). m.cookie) (sym e)) in grind arith)
    kept l z (inr i) v last true t q =
        let p = and_parts (nat_eq l.life k.life) (nat_eq l.cookie k.cookie) t in
        new l z (lk.unique k l was (n.held l i) (sym (eqb-true l.cookie k.cookie p.1))) v last cc
    kept l z (inr i) v last false t q = bounds_more lost h (Hold k s sn) l.first z (hides h l.life) (hides h l.life) (λ p. refl) (λ p e. e)
        (w.kept l z i v last q)

drops : (out lost : ℕ → Bool) (h : List Entry) (k : Lock) → Numbers h → Lockings h → DropOk h k → Ends out lost h
    → Ends out lost (Drop k ∷ h)
drops out lost h k n lk ok w = record {
  coming = λ l t tn a v g nh nd last. bounds_more lost h (Drop k) l.first t (λ p. false) (λ p. false) (λ p. refl) (λ p e. e)
      (w.coming l t tn a v g (not_held l nh nd) (λ i. nd (inr i)) last);
  kept = λ l z i v last e. bounds_more lost h (Drop k) l.first z (hides h l.life) (hides h l.life) (λ p. refl) (λ p f. f)
      (w.kept l z i.1 v last e);
}
  where
    not_held : (l : Lock) → (HeldBy (Drop k ∷ h) l → ⊥) → (WasDropped (Drop k ∷ h) l → ⊥) → HeldBy h l → ⊥
    not_held l nh nd i =
        ⊎_elim
        (λ (e : k.cookie ≡ l.cookie). nd (inl (lk.unique k l (n.held k ok.held) (n.held l i) e)))
        (λ (e : Apart k l). nh (e, i))
        (same_or_apart k l)

-- the object's size is told of a lock
new_bounds : (out lost : ℕ → Bool) (h : List Entry) (k : Lock) (s : ℕ) (sn : ℕ → Bool) → KeptFor out lost h → Numbers h → IsEnd h s
    → Sees h sn (covers k) → Free lost sn → k.last ≡ None → Bounds lost h k.first s (λ p. false)
new_bounds out lost h k s sn kf n size sees fr last =
    let at = λ (p : ℕ) (i : k.first ≤ p). sees_same out lost h sn (covers k) p n kf sees fr (covers_on k p last i) in
    record { none = λ p i j f. at p i ∙ size.0 p j; some = λ p i j f. ap is_some (at p i) ∙ size.1 p j }

grants : (out lost : ℕ → Bool) (h : List Entry) (r : Request) (k : Lock) (s : ℕ) (sn : ℕ → Bool) → KeptFor out lost h → Numbers h
    → GrantOk h r k s sn → Ends out lost h → Ends out lost (Grant r k s sn ∷ h)
grants out lost h r k s sn kf n ok w = record {
  coming = λ l t tn a v g nh nd last. coming l t tn a v g nh nd last;
  kept = λ l z i v last e. bounds_more lost h (Grant r k s sn) l.first z (hides h l.life) (hides h l.life) (λ p. refl) (λ p f. f)
      (w.kept l z i v last e);
}
  where
    old : (l : Lock) (t : ℕ) (tn : ℕ → Bool) → Coming h l t tn → Free lost tn → (k ≡ l) ⊎ IsGranted h l → (HeldBy h l → ⊥)
        → (WasDropped h l → ⊥) → l.last ≡ None → Bounds lost (Grant r k s sn ∷ h) l.first t (λ p. false)
    old l t tn a v (inr g) nh nd last = bounds_more lost h (Grant r k s sn) l.first t (λ p. false) (λ p. false) (λ p. refl) (λ p e. e)
        (w.coming l t tn a v g nh nd last)
    old l t tn a v (inl e) nh nd last = absurd (grant_apart h r k s sn n ok l (coming_was h l t tn n a) (ap (λ (m : Lock). m.cookie) e))

    coming : (l : Lock) (t : ℕ) (tn : ℕ → Bool) → Coming (Grant r k s sn ∷ h) l t tn → Free lost tn → (k ≡ l) ⊎ IsGranted h l
        → (HeldBy h l → ⊥) → (WasDropped h l → ⊥) → l.last ≡ None → Bounds lost (Grant r k s sn ∷ h) l.first t (λ p. false)
    coming l t tn (inl (x, inl e)) v g nh nd last =
        let q : s ≡ t = cc in
        let m : k ≡ l = cc in
        let u : sn ≡ tn = cc in
        let b = new_bounds out lost h k s sn kf n ok.size ok.sees (subst (λ (y : ℕ → Bool). Free lost y) (sym u) v)
        (ap (λ (y : Lock). y.last) m ∙ last) in
        bounds_more lost h (Grant r k s sn) l.first t (λ p. false) (λ p. false) (λ p. refl) (λ p f. f)
        (subst (λ (y : Lock × ℕ). Bounds lost h y.0.first y.1 (λ p. false)) (λ i. (m i, q i)) b)
    coming l t tn (inl (x, inr a)) v g nh nd last = old l t tn (inl (x, a)) v g nh nd last
    coming l t tn (inr a) v g nh nd last = old l t tn (inr a) v g nh nd last

promotes : (out lost : ℕ → Bool) (h : List Entry) (k : Lock) → Numbers h → Lockings h → PromoteOk h k → Ends out lost h
    → Ends out lost (Promote k ∷ h)
promotes out lost h k n lk ok w = record {
  coming = λ l t tn a v g nh nd last. old l t tn a v g nh nd last;
  kept = λ l z i v last e. bounds_more lost h (Promote k) l.first z (hides h l.life) (hides h l.life) (λ p. refl) (λ p f. f)
      (w.kept l z i v last e);
}
  where
    old : (l : Lock) (t : ℕ) (tn : ℕ → Bool) → Coming h l t tn → Free lost tn → (k ≡ l) ⊎ IsGranted h l → (HeldBy h l → ⊥)
        → (WasDropped h l → ⊥) → l.last ≡ None → Bounds lost (Promote k ∷ h) l.first t (λ p. false)
    old l t tn a v (inr g) nh nd last = bounds_more lost h (Promote k) l.first t (λ p. false) (λ p. false) (λ p. refl) (λ p e. e)
        (w.coming l t tn a v g nh nd last)
    old l t tn a v (inl e) nh nd last = absurd (promote_apart h k lk ok l (coming_was h l t tn n a) (ap (λ (m : Lock). m.cookie) e))

gives : (out lost : ℕ → Bool) (h : List Entry) (b : ℕ) (k : Lock) (s : ℕ) (sn : ℕ → Bool) → KeptFor out lost h → Numbers h
    → SendOk h (Give b k s sn) → Ends out lost h → Ends out lost (Send (Give b k s sn) ∷ h)
gives out lost h b k s sn kf n ok w = record {
  coming = λ l t tn a v g nh nd last. coming l t tn a v g nh nd last;
  kept = λ l z i v last e. bounds_more lost h (Send (Give b k s sn)) l.first z (hides h l.life) (hides h l.life) (λ p. refl) (λ p f. f)
      (w.kept l z i v last e);
}
  where
    coming : (l : Lock) (t : ℕ) (tn : ℕ → Bool) → Coming (Send (Give b k s sn) ∷ h) l t tn → Free lost tn → IsGranted h l → (HeldBy h l → ⊥)
        → (WasDropped h l → ⊥) → l.last ≡ None → Bounds lost (Send (Give b k s sn) ∷ h) l.first t (λ p. false)
    coming l t tn (inl a) v g nh nd last = bounds_more lost h (Send (Give b k s sn)) l.first t (λ p. false) (λ p. false) (λ p. refl)
        (λ p e. e) (w.coming l t tn (inl a) v g nh nd last)
    coming l t tn (inr (inr a)) v g nh nd last = bounds_more lost h (Send (Give b k s sn)) l.first t (λ p. false) (λ p. false) (λ p. refl)
        (λ p e. e) (w.coming l t tn (inr a) v g nh nd last)
    coming l t tn (inr (inl e)) v g nh nd last =
        let q : s ≡ t = cc in
        let m : k ≡ l = cc in
        let u : sn ≡ tn = cc in
        let f = new_bounds out lost h k s sn kf n ok.1 ok.2 (subst (λ (y : ℕ → Bool). Free lost y) (sym u) v)
        (ap (λ (y : Lock). y.last) m ∙ last) in
        bounds_more lost h (Send (Give b k s sn)) l.first t (λ p. false) (λ p. false) (λ p. refl) (λ p x. x)
        (subst (λ (y : Lock × ℕ). Bounds lost h y.0.first y.1 (λ p. false)) (λ i. (m i, q i)) f)

txns : (out lost : ℕ → Bool) (h : List Entry) (nr : ℕ) (r : Request) (k : ℕ) (ch : Change) → Outs out h → lost (nr) ≡ false → Numbers h
    → Lockings h → Patches h → TxnOk h nr r k ch → Ends out lost h → Ends out lost (Txn nr r ∷ h)
txns out lost h nr r k ch outs stays n lk pt ok w = record {
  coming = λ l t tn a v g nh nd last. coming l t tn a v g nh nd last;
  kept = λ l z i v last e. kept l z i v last (w.kept l z i v last e);
}
  where
    flies : flight r.life h ≡ Some r
    flies = fresh_flies h r n ok.fresh

    object_at : (P : Option ℕ → Type 0) (p : ℕ) → P (object lost h p) → (changes ch p ≡ true → ⊥) → P (object lost (Txn nr r ∷ h) p)
    object_at P p x no_change = by (changes ch p) refl
      where
        by : (v : Bool) → changes ch p ≡ v → P (object lost (Txn nr r ∷ h) p)
        by false e = subst P (sym (txn_object lost h nr r k ch p stays ok.op ∙ unchanged ch p (object lost h p) e)) x
        by true e = absurd (no_change e)

    -- nobody changes anything under a lock before it holds it
    under : (l : Lock) (p : ℕ) → IsGranted h l → (HeldBy h l → ⊥) → covers l p ≡ true → changes ch p ≡ true → ⊥
    under l p g nh cov e =
        let u = ok.under in
        let same = one_lock h l u.lock p lk g u.granted cov (u.covered p e) (u.mode refl) in
        let m : UnderNumber h r.life k true (changes ch) = subst (λ (o : Op). Using h r.life o) ok.op (flight_uses h r.life r pt flies) in
        let is : m.lock ≡ u.lock = lk.unique m.lock u.lock (n.held m.lock m.held) (n.is_granted u.lock u.granted) (m.cookie ∙ sym u.cookie)
        in
        nh (subst (λ (x : Lock). HeldBy h x) (is ∙ sym same) m.held)

    before : (l : Lock) (t : ℕ) (tn : ℕ → Bool) → Coming (Txn nr r ∷ h) l t tn → Coming h l t tn
    before l t tn (inl (x, inl e)) = absurd (cc)
    before l t tn (inl (x, inr a)) = inl (x, a)
    before l t tn (inr a) = inr a

    coming : (l : Lock) (t : ℕ) (tn : ℕ → Bool) → Coming (Txn nr r ∷ h) l t tn → Free lost tn → IsGranted h l → (HeldBy h l → ⊥)
        → (WasDropped h l → ⊥) → l.last ≡ None → Bounds lost (Txn nr r ∷ h) l.first t (λ p. false)
    coming l t tn a v g nh nd last =
        let b = w.coming l t tn (before l t tn a) v g nh nd last in
        record {
          none = λ p i j f. object_at (λ x. x ≡ None) p (b.none p i j f) (under l p g nh (covers_on l p last i));
          some = λ p i j f. object_at (λ x. is_some x ≡ true) p (b.some p i j f) (under l p g nh (covers_on l p last i));
        }

    mine : (l : Lock) (p : ℕ) → HeldBy h l → out l.life ≡ false → covers l p ≡ true → hides h l.life p ≡ false → changes ch p ≡ true → ⊥
    mine l p i v cov hid e =
        let is = own_txn h nr r k ch l p n lk ok i (lives out h l.life outs v) cov e in
        both_ways (hides h r.life p) (subst (λ (c : ℕ). hides h c p ≡ false) is hid)
        (running_touched h r.life k ch p (subst (λ (o : Op). Running h r.life o) ok.op (flight_hidden h r.life r pt flies)) e)

    kept : (l : Lock) (z : ℕ) → HeldBy h l → out l.life ≡ false → l.last ≡ None → Bounds lost h l.first z (hides h l.life)
        → Bounds lost (Txn nr r ∷ h) l.first z (hides h l.life)
    kept l z i v last b = record {
      none = λ p q j f. object_at (λ x. x ≡ None) p (b.none p q j f) (mine l p i v (covers_on l p last q) f);
      some = λ p q j f. object_at (λ x. is_some x ≡ true) p (b.some p q j f) (mine l p i v (covers_on l p last q) f);
    }

-- an acknowledged change
acked_hides : (op : Op) (a : Answer) (q d : Option ℕ) (f : Bool) (p : ℕ) → (f ≡ true → FlownBy op q d p)
    → touched (cut_acked op a q) (dirty_acked op a f d) p ≡ false
    → (touched q d p ≡ false) ⊎ ((k : ℕ) × (ch : Change) × (op ≡ Flush k ch) × (changes ch p ≡ true))
acked_hides (Flush k (Write at bs)) (Done m) q d true p fl e = inr (k, Write at bs, refl, (fl refl).0)
acked_hides (Flush k (Write at bs)) (Done m) q d false p fl e = inl e
acked_hides (Flush k (Cut n)) (Done m) (Some q) (Some b) f p fl e = absurd (cc)
acked_hides (Flush k (Cut n)) (Done m) (Some q) None f p fl e = by (nat_eq q n) refl (nat_lt q (suc (suc p))) refl
  where
    by : (v : Bool) → nat_eq q n ≡ v → (b : Bool) → nat_lt q (suc (suc p)) ≡ b
        → (nat_lt q (suc (suc p)) ≡ false) ⊎ ((j : ℕ) × (ch : Change) × (Flush k (Cut n) ≡ Flush j ch) × (changes ch p ≡ true))
    by v g false t = inl t
    by true g true t = inr (k, Cut n, refl, subst (λ (m : ℕ). nat_lt m (suc (suc p)) ≡ true) (eqb-true q n g) t)
    by false g true t = absurd (grind arith)
acked_hides _ a q d f p fl e = inl e

acked_none : (ch : Change) (e p : ℕ) (x : Option ℕ) → end_after ch e ≤ p → x ≡ after_at ch p x → (changes ch p ≡ false → e ≤ p → x ≡ None)
    → x ≡ None
acked_none (Write at bs) e p x low is none = by (within at bs p) refl
  where
    by : (v : Bool) → within at bs p ≡ v → x ≡ None
    by true f = absurd (let r = run_bounds at bs p f in let r1 = r.1 in let m = end_above at bs e (omega arith) in omega arith)
    by false f = none f (let m = end_least at bs e in omega arith)
acked_none (Cut n) e p x low is none = is ∙ grind (arith, nat_tests)

acked_some : (ch : Change) (e p : ℕ) (x : Option ℕ) → suc p ≡ end_after ch e → x ≡ after_at ch p x
    → (changes ch p ≡ false → suc p ≡ e → is_some x ≡ true) → is_some x ≡ true
acked_some (Write at bs) e p x top is some = by (within at bs p) refl
  where
    by : (v : Bool) → within at bs p ≡ v → is_some x ≡ true
    by true f = let r = run_in at bs p f in ap is_some (is ∙ r.1 x)
    by false f = some f (end_other at bs e p top f)
acked_some (Cut n) e p x top is some = ap is_some is ∙ grind (arith, nat_tests)

acked_bounds : (lost : ℕ → Bool) (h : List Entry) (c f : ℕ) (op : Op) (a : Answer) (o : Option ℕ) (z : ℕ)
    → ((m : ℕ) → a ≡ Done m → (p : ℕ) → object lost h p ≡ after_op op p (object lost h p))
    → ((p : ℕ) → flying c h p ≡ true → FlownBy op (pending c h) (dirty c h p) p) → ((e : ℕ) → o ≡ Some e → Bounds lost h f e (hides h c))
    → end_acked op a o ≡ Some z
    → Bounds lost h f z (λ p. touched (cut_acked op a (pending c h)) (dirty_acked op a (flying c h p) (dirty c h p)) p)
acked_bounds lost h c f (Flush k ch) (Done m) (Some e) z done fl old is =
    let b = old e refl in
    let q : end_after ch e ≡ z = cc in
    record {
      none = λ p i j x. acked_none ch e p (object lost h p) (omega arith) (done m refl p) (λ y g. b.none p i g (free p x y));
      some = λ p i j x. acked_some ch e p (object lost h p) (j ∙ sym q) (done m refl p) (λ y g. b.some p i g (free p x y));
    }
  where
    free : (p : ℕ)
        → touched (cut_acked (Flush k ch) (Done m) (pending c h)) (dirty_acked (Flush k ch) (Done m) (flying c h p) (dirty c h p)) p ≡ false
        → changes ch p ≡ false → hides h c p ≡ false
    free p x y =
        ⊎_elim
        (λ (g : hides h c p ≡ false). g)
        (λ (g : (j : ℕ) × (c' : Change) × (Flush k ch ≡ Flush j c') × (changes c' p ≡ true)).
        let same : g.1 ≡ ch = (let e2 = g.2 in cc) in
        absurd (both_ways (changes ch p) y (subst (λ (y : Change). changes y p ≡ true) same g.3)))
        (acked_hides (Flush k ch) (Done m) (pending c h) (dirty c h p) (flying c h p) p (fl p) x)
acked_bounds lost h c f (Flush k ch) (Done m) None z done fl old is = absurd (cc)
acked_bounds lost h c f (Flush k (Write at bs)) _ o z done fl old is = old z is
acked_bounds lost h c f (Flush k (Cut n)) _ o z done fl old is = old z is
acked_bounds lost h c f _ a o z done fl old is = old z is

hears : (out lost : ℕ → Bool) (h : List Entry) (r : Request) (a : Answer) → (out r.life ≡ false → HeardOf lost a) → Numbers h → Patches h
    → Facts out lost h → flight r.life h ≡ Some r → Was h (Reply (closed h) r.life r.xid a) → Ends out lost h
    → Ends out lost (Heard r a ∷ h)
hears out lost h r a of n pt fs fl was w = record {
  coming = λ l t tn i v g nh nd last. bounds_more lost h (Heard r a) l.first t (λ p. false) (λ p. false) (λ p. refl) (λ p e. e)
      (w.coming l t tn i v g nh nd last);
  kept = λ l z i v last e. kept l z i v last (nat_eq l.life r.life) refl e;
}
  where
    kept : (l : Lock) (z : ℕ) → HeldBy h l → out l.life ≡ false → l.last ≡ None → (b : Bool) → nat_eq l.life r.life ≡ b
        → (if b then end_acked r.op a (ends l.life l.cookie h) else ends l.life l.cookie h) ≡ Some z
        → Bounds lost (Heard r a ∷ h) l.first z (hides (Heard r a ∷ h) l.life)
    kept l z i v last false t e =
        let b = w.kept l z i v last e in
        record {
          none = λ p q j k. b.none p q j (subst (λ (x : Bool). touched (if x then cut_acked r.op a (pending l.life h) else pending l.life h)
              (if x then dirty_acked r.op a (flying l.life h p) (dirty l.life h p) else dirty l.life h p) p ≡ false) t k);
          some = λ p q j k. b.some p q j (subst (λ (x : Bool). touched (if x then cut_acked r.op a (pending l.life h) else pending l.life h)
              (if x then dirty_acked r.op a (flying l.life h p) (dirty l.life h p) else dirty l.life h p) p ≡ false) t k);
        }
    kept l z i v last true t e =
        let c : ℕ = l.life in
        let is = eqb-true l.life r.life t in
        let fc : flight l.life h ≡ Some r = ap (λ (d : ℕ). flight d h) is ∙ fl in
        let ans : Answered h l.life r.xid a = subst (λ (d : ℕ). Answered h d r.xid a) (sym is) (n.replies r.life r.xid a was) in
        let b = acked_bounds lost h l.life l.first r.op a (ends l.life l.cookie h) z
        (λ m d p. fs.done l.life p r m v fc (subst (λ (x : Answer). Answered h l.life r.xid x) d ans)
        (subst (λ (x : Answer). HeardOf lost x) d (of (ap out (sym is) ∙ v))))
        (λ p f. flight_flown h l.life p r pt fc f)
        (λ y j. w.kept l y i v last j) e in
        record {
          none = λ p q j k. b.none p q j (subst (λ (x : Bool). touched (if x then cut_acked r.op a (pending l.life h) else pending l.life h)
              (if x then dirty_acked r.op a (flying l.life h p) (dirty l.life h p) else dirty l.life h p) p ≡ false) t k);
          some = λ p q j k. b.some p q j (subst (λ (x : Bool). touched (if x then cut_acked r.op a (pending l.life h) else pending l.life h)
              (if x then dirty_acked r.op a (flying l.life h p) (dirty l.life h p) else dirty l.life h p) p ≡ false) t k);
        }

pub closes : (out lost : ℕ → Bool) (b : ℕ) (l gone : ℕ → Bool) (h : List Entry) → Ends out (also lost l) h
    → Ends out lost (Close b l gone ∷ h)
closes out lost b l gone h w = record {
  coming = λ k t tn a v g nh nd last. absurd (nh g.0);
  kept = λ k z i v last e. let b = w.kept k z i v last e in record { none = b.none; some = b.some };
}

-- an entry that is answered with no lock
answered_even : (lost : ℕ → Bool) (h : List Entry) (r : Request) (a : Answer) (l : Lock) (s : ℕ) (sn : ℕ → Bool) → (a ≡ Granted l s sn → ⊥)
    → ((x : ℕ) × (((r.life ≡ l.life) × (r.xid ≡ x) × (a ≡ Granted l s sn)) ⊎ Answered h l.life x (Granted l s sn)))
    ⊎ Was h (Give (closed h) l s sn)
    → Coming h l s sn
answered_even lost h r a l s sn ne (inl (x, inl e)) = absurd (ne e.2)
answered_even lost h r a l s sn ne (inl (x, inr i)) = inl (x, i)
answered_even lost h r a l s sn ne (inr i) = inr i

act_no_lock : (h : List Entry) (r : Request) (a : Answer) (l : Lock) (s : ℕ) (sn : ℕ → Bool) → ActsOk h r a → a ≡ Granted l s sn → ⊥
act_no_lock h r a l s sn ok e = absurd (subst (λ (b : Answer). ActsOk h r b) e ok)

-- a message is sent that gives no lock
sent_even : (h : List Entry) (m : Message) (l : Lock) (s : ℕ) (sn : ℕ → Bool) → (m ≡ Give (closed h) l s sn → ⊥)
    → Coming (Send m ∷ h) l s sn → Coming h l s sn
sent_even h m l s sn ne (inl a) = inl a
sent_even h m l s sn ne (inr (inl e)) = absurd (ne e)
sent_even h m l s sn ne (inr (inr i)) = inr i

send_calm : (lost : ℕ → Bool) (h : List Entry) (m : Message) → ((b : ℕ) (l : Lock) (s : ℕ) (sn : ℕ → Bool) → m ≡ Give b l s sn → ⊥)
    → Even lost h (Send m)
send_calm lost h m ne = record {
  object = λ p. refl;
  hidden = λ c p x. x;
  granted = λ l i. i;
  answered = λ l s sn i. sent_even h m l s sn (λ e. ne (closed h) l s sn e) i;
  held = λ l i. i;
  still_held = λ l i. i;
  dropped = λ l i. i;
  ends = λ c x. refl;
}

pub ends_line : (out lost : ℕ → Bool) (h : List Entry) (e : Entry) → Outs out h → KeptFor out lost (e ∷ h)
    → ((d : ℕ) (l gone : ℕ → Bool) → e ≡ Close d l gone → ⊥) → Numbers h → Lockings h → Patches h → Facts out lost h → Ends out lost h
    → Allowed h e → Ends out lost (e ∷ h)
ends_line out lost h (Close d l gone) s kf no_close n lk pt fs w ok = absurd (no_close d l gone refl)
ends_line out lost h (Heard r a) s kf no_close n lk pt fs w ok = hears out lost h r a kf.0 n pt fs ok.0 ok.1 w
ends_line out lost h (Hold l z sl) s kf no_close n lk pt fs w ok = holds out lost h l z sl s kf.0 n lk ok w
ends_line out lost h (Drop l) s kf no_close n lk pt fs w ok = drops out lost h l n lk ok w
ends_line out lost h (Tells d (Did j ch)) s kf no_close n lk pt fs w ok = even out lost h (Tells d (Did j ch)) (told_even lost h d j ch) w
ends_line out lost h (Grant r l z sl) s kf no_close n lk pt fs w ok = grants out lost h r l z sl kf n ok w
ends_line out lost h (Promote l) s kf no_close n lk pt fs w ok = promotes out lost h l n lk ok w
ends_line out lost h (Wait r k) s kf no_close n lk pt fs w ok = even out lost h (Wait r k) (record {
  object = λ p. refl;
  hidden = λ c p e. e;
  granted = λ l i. i;
  answered = λ l s sn i. answered_even lost h r (Waiting k.cookie) l s sn (λ e. absurd (cc)) i;
  held = λ l i. i;
  still_held = λ l i. i;
  dropped = λ l i. i;
  ends = λ c x. refl;
}) w
ends_line out lost h (Acts r a) s kf no_close n lk pt fs w ok = even out lost h (Acts r a) (record {
  object = λ p. refl;
  hidden = λ c p e. e;
  granted = λ l i. i;
  answered = λ l s sn i. answered_even lost h r a l s sn (act_no_lock h r a l s sn ok.1) i;
  held = λ l i. i;
  still_held = λ l i. i;
  dropped = λ l i. i;
  ends = λ c x. refl;
}) w
ends_line out lost h (Txn nr r) s kf no_close n lk pt fs w ok = by (lost nr) refl
  where
    by : (v : Bool) → lost nr ≡ v → Ends out lost (Txn nr r ∷ h)
    by true l = even out lost h (Txn nr r) (record {
      object = λ p. txn_lost lost h nr r p l;
      hidden = λ c p e. e;
      granted = λ m i. i;
      answered = λ m s sn i. answered_even lost h r (Done nr) m s sn (λ e. absurd (cc)) i;
      held = λ m i. i;
      still_held = λ m i. i;
      dropped = λ m i. i;
      ends = λ c x. refl;
    }) w
    by false l = txns out lost h nr r ok.0 ok.1 s l n lk pt ok.2 w
ends_line out lost h (Release k) s kf no_close n lk pt fs w ok = even out lost h (Release k) (record {
  object = λ p. refl;
  hidden = λ c p e. e;
  granted = λ l i. i.1;
  answered = λ l s sn i. i;
  held = λ l i. i;
  still_held = λ l i. i;
  dropped = λ l i. i;
  ends = λ c x. refl;
}) w
ends_line out lost h (Send (Give b k z sl)) s kf no_close n lk pt fs w ok = gives out lost h b k z sl kf n ok w
ends_line out lost h (Send (Ask b r)) s kf no_close n lk pt fs w ok =
    even out lost h (Send (Ask b r)) (send_calm lost h (Ask b r) (λ d l t tn e. absurd (cc))) w
ends_line out lost h (Send (Reply b c x a)) s kf no_close n lk pt fs w ok =
    even out lost h (Send (Reply b c x a)) (send_calm lost h (Reply b c x a) (λ d l t tn e. absurd (cc))) w
ends_line out lost h (Send (Block b c k)) s kf no_close n lk pt fs w ok =
    even out lost h (Send (Block b c k)) (send_calm lost h (Block b c k) (λ d l t tn e. absurd (cc))) w
ends_line out lost h (Send (Cancel b c k)) s kf no_close n lk pt fs w ok =
    even out lost h (Send (Cancel b c k)) (send_calm lost h (Cancel b c k) (λ d l t tn e. absurd (cc))) w
ends_line out lost h e s kf no_close n lk pt fs w ok = even out lost h e (record {
  object = λ p. refl;
  hidden = λ c p x. x;
  granted = λ l i. i;
  answered = λ l s sn i. i;
  held = λ l i. i;
  still_held = λ l i. i;
  dropped = λ l i. i;
  ends = λ c x. refl;
}) w
