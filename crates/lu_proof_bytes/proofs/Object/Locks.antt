-- A lock that a life holds and that isn't evicted is granted, and granted locks never conflict.
use Rattle.std.proofs.Common.{◌≡◌, ℕ, ◌<◌, ◌≤◌, ◌⊎◌, inl, inr, ⊎_elim, List, [], ◌∷◌, Some, None, Bool, true, false, refl, sym, ap, ◌∙◌}
use Rattle.std.proofs.Common.{subst, arith}
use Rattle.std.specs.Prelude.{nat_eq, if◌then◌else◌, ◌&&◌, ◌||◌}
use Rattle.std.proofs.lemmas.Bool.{eqb-true, eqb-false, eq-eqb, both_ways, and_parts, or_right}
use Rattle.lu_proof_bytes.specs.Object.Words.{Lock, Request, Answer, Granted, Waiting, Done, Message, Ask, Reply, Give, Block, Cancel}
use Rattle.lu_proof_bytes.specs.Object.Words.{Entry, Takes, Flies, Heard, Hold, Drop, Forgets, Tells, Grant, Wait, Promote, Acts, Txn}
use Rattle.lu_proof_bytes.specs.Object.Words.{Release, Evict, Commit, Close, Send, conflict}
use Rattle.lu_proof_bytes.specs.Object.Folds.{Was, closed, evicted, top, Answered, Apart, WasGranted, HeldBy, IsGranted, IsWaiting, asked}
use Rattle.lu_proof_bytes.specs.Object.Folds.{flight, brings, awaits, WasDropped}
use Rattle.lu_proof_bytes.specs.Object.History.{LocksAt}
use Rattle.lu_proof_bytes.specs.Object.Guards.{GrantOk, WaitOk, PromoteOk, Free, Named, Allowed}
use Rattle.lu_proof_bytes.proofs.Object.Numbers.{Numbers, granted_more, acts_bring}

-- no answer that is still to be heard brings the lock of this cookie
abbrev pub NotComing : List Entry → ℕ → ℕ → Type 0
NotComing h c k = (r : Request) (a : Answer) → flight c h ≡ Some r → Answered h c r.xid a → brings a k ≡ true → ⊥

-- the life doesn't await the lock of this cookie, and no answer that it may still hear brings it
pub record Gone (h : List Entry) (c k : ℕ) : Type 0 where
  pub gone : awaits c k h ≡ false
  pub coming : NotComing h c k

-- the lock isn't held and never will be again
pub record Dead (h : List Entry) (l : Lock) : Type 0 where
  pub free : HeldBy h l → ⊥
  pub gone : Gone h l.life l.cookie

-- the lock was granted and is dead
abbrev pub GoneOk : List Entry → Lock → Type 0
GoneOk h l = WasGranted h l × Dead h l

-- what is so of each lock that was ever granted: it is granted, it is dead, or its life was evicted
abbrev pub Alive : List Entry → Lock → Type 0
Alive h l = IsGranted h l ⊎ Dead h l ⊎ (evicted l.life h ≡ true)

-- what is so of locks after each story: granted ones never conflict; a cookie is one lock's; what waits wasn't granted; what is awaited
-- isn't coming a second time, nor what is held; what was dropped, or given back in a message of the present boot or a later one, is
-- dead; and each lock that was granted is as `Alive` says
abbrev pub Lockings : List Entry → Type 0
Lockings h = record {
  clash : (l m : Lock) → IsGranted h l → IsGranted h m → conflict l m ≡ true → l ≡ m;
  unique : (l m : Lock) → WasGranted h l → WasGranted h m → l.cookie ≡ m.cookie → l ≡ m;
  waiting : (w l : Lock) → IsWaiting h w → WasGranted h l → Apart w l;
  await : (c k : ℕ) → awaits c k h ≡ true → (k ≤ top h) × NotComing h c k;
  held : (l : Lock) → HeldBy h l → Gone h l.life l.cookie;
  dropped : (l : Lock) → WasDropped h l → GoneOk h l;
  cancels : (b c k : ℕ) → Was h (Cancel b c k) → closed h ≤ b → Named (λ l. GoneOk h l) c k;
  alive : (l : Lock) → WasGranted h l → Alive h l;
}

-- two locks have one cookie or not
pub same_or_apart : (l m : Lock) → (l.cookie ≡ m.cookie) ⊎ Apart l m
same_or_apart l m = by (nat_eq l.cookie m.cookie) refl
  where
    by : (v : Bool) → nat_eq l.cookie m.cookie ≡ v → (l.cookie ≡ m.cookie) ⊎ Apart l m
    by true e = inl (eqb-true _ _ e)
    by false e = inr (eqb-false _ _ e)

conflict_sym : (l m : Lock) → conflict l m ≡ conflict m l
conflict_sym l m = grind arith

-- what isn't coming doesn't come later
coming_line : (h : List Entry) (e : Entry) (c k : ℕ) → Numbers h → Allowed h e → k ≤ top h → NotComing h c k → NotComing (e ∷ h) c k
coming_line h (Flies r) c k n ok low w = λ q a f i t. by (nat_eq c r.life) refl q a f i t
  where
    by : (v : Bool) → nat_eq c r.life ≡ v → (q : Request) (a : Answer) → (if v then Some r else flight c h) ≡ Some q → Answered h c q.xid a
        → brings a k ≡ true → ⊥
    by false e q a f i t = w q a f i t
    by true e q a f i t =
        let is : r ≡ q = cc in
        let low = n.answers c q.xid a i in
        let same = ap (λ (d : ℕ). asked d h) (eqb-true c r.life e) in
        let x = ap (λ (y : Request). y.xid) is in
        let next = ok.next in
        absurd (omega arith)
coming_line h (Heard r b) c k n ok low w = λ q a f i t. by (nat_eq c r.life) q a f i t
  where
    by : (v : Bool) → (q : Request) (a : Answer) → (if v then None else flight c h) ≡ Some q → Answered h c q.xid a → brings a k ≡ true → ⊥
    by false q a f i t = w q a f i t
    by true q a f i t = absurd (cc)
coming_line h (Grant r l s sn) c k n ok low w = λ q a f i t. ⊎_elim
    (λ (p : (r.life ≡ c) × (r.xid ≡ q.xid) × (Granted l s sn ≡ a)). absurd
    (let new = ok.new in let e = eqb-true l.cookie k (subst (λ (b : Answer). brings b k ≡ true) (sym p.2) t) in omega arith))
    (λ (p : Answered h c q.xid a). w q a f p t) i
coming_line h (Wait r l) c k n ok low w = λ q a f i t. ⊎_elim (λ (p : (r.life ≡ c) × (r.xid ≡ q.xid) × (Waiting l.cookie ≡ a)). absurd
    (let new = ok.new in let e = eqb-true l.cookie k (subst (λ (b : Answer). brings b k ≡ true) (sym p.2) t) in omega arith))
    (λ (p : Answered h c q.xid a). w q a f p t) i
coming_line h (Acts r b) c k n ok low w = λ q a f i t. ⊎_elim (λ (p : (r.life ≡ c) × (r.xid ≡ q.xid) × (b ≡ a)). absurd
    (acts_bring h r b k ok.1 (subst (λ (y : Answer). brings y k ≡ true) (sym p.2) t))) (λ (p : Answered h c q.xid a). w q a f p t) i
coming_line h (Txn m r) c k n ok low w = λ q a f i t. ⊎_elim (λ (p : (r.life ≡ c) × (r.xid ≡ q.xid) × (Done m ≡ a)). absurd
    (let s = subst (λ (y : Answer). brings y k ≡ true) (sym p.2) t in cc)) (λ (p : Answered h c q.xid a). w q a f p t) i
coming_line h (Close b lost gone) c k n ok low w = λ q a f i t. absurd (let s = subst (λ (y : Answer). brings y k ≡ true) i.1.1 t in cc)
coming_line h (Hold l s sn) c k n ok low w = w
coming_line h (Drop l) c k n ok low w = w
coming_line h (Forgets d) c k n ok low w = w
coming_line h (Tells d call) c k n ok low w = w
coming_line h (Takes d j ch) c k n ok low w = w
coming_line h (Promote l) c k n ok low w = w
coming_line h (Release j) c k n ok low w = w
coming_line h (Evict d) c k n ok low w = w
coming_line h (Commit m) c k n ok low w = w
coming_line h (Send m) c k n ok low w = w

awaits_line : (h : List Entry) (e : Entry) (c k : ℕ) → Numbers h → Allowed h e → Gone h c k → awaits c k (e ∷ h) ≡ false
awaits_line h (Heard r a) c k n ok g = by (nat_eq c r.life && brings a k) refl
  where
    by : (v : Bool) → (nat_eq c r.life && brings a k) ≡ v → (v || awaits c k h) ≡ false
    by false e = g.gone
    by true e =
        let p = and_parts (nat_eq c r.life) (brings a k) e in
        let is = eqb-true c r.life p.0 in
        absurd (g.coming r a (ap (λ (d : ℕ). flight d h) is ∙ ok.0)
        (subst (λ (d : ℕ). Answered h d r.xid a) (sym is) (n.replies r.life r.xid a ok.1)) p.1)
awaits_line h (Hold l s sn) c k n ok g = let e = g.gone in grind arith
awaits_line h (Forgets d) c k n ok g = let e = g.gone in grind arith
awaits_line h _ c k n ok g = g.gone

gone_line : (h : List Entry) (e : Entry) (c k : ℕ) → Numbers h → Allowed h e → k ≤ top h → Gone h c k → Gone (e ∷ h) c k
gone_line h e c k n ok low g = record { gone = awaits_line h e c k n ok g; coming = coming_line h e c k n ok low g.coming }

-- a dead lock stays dead
free_line : (h : List Entry) (e : Entry) (l : Lock) → Allowed h e → Dead h l → HeldBy (e ∷ h) l → ⊥
free_line h (Hold k s sn) l ok d = λ i. ⊎_elim (λ (e : k ≡ l). both_ways (awaits l.life l.cookie h) d.gone.gone
    (subst (λ (m : Lock). awaits m.life m.cookie h ≡ true) e ok.0)) d.free i
free_line h (Drop k) l ok d = λ i. d.free i.1
free_line h _ l ok d = d.free

dead_line : (h : List Entry) (e : Entry) (l : Lock) → Numbers h → Allowed h e → WasGranted h l → Dead h l → Dead (e ∷ h) l
dead_line h e l n ok was d = record { free = free_line h e l ok d; gone = gone_line h e l.life l.cookie n ok (n.tops l was) d.gone }

ok_line : (h : List Entry) (e : Entry) (l : Lock) → Numbers h → Allowed h e → GoneOk h l → GoneOk (e ∷ h) l
ok_line h e l n ok g = (granted_more h e l g.0, dead_line h e l n ok g.0 g.1)

held_line : (h : List Entry) (e : Entry) (l : Lock) → Numbers h → Allowed h e → HeldBy h l → Gone h l.life l.cookie
    → Gone (e ∷ h) l.life l.cookie
held_line h e l n ok i g = gone_line h e l.life l.cookie n ok (n.tops l (n.held l i)) g

named_line : (h : List Entry) (e : Entry) (c k : ℕ) → Numbers h → Allowed h e → Named (λ l. GoneOk h l) c k
    → Named (λ l. GoneOk (e ∷ h) l) c k
named_line h e c k n ok g = (g.0, ok_line h e g.0 n ok g.1, g.2, g.3)

alive_line : (h : List Entry) (e : Entry) (l : Lock) → Numbers h → Allowed h e → WasGranted h l → (IsGranted h l → IsGranted (e ∷ h) l)
    → (evicted l.life h ≡ true → evicted l.life (e ∷ h) ≡ true) → Alive h l → Alive (e ∷ h) l
alive_line h e l n ok was g v (inl i) = inl (g i)
alive_line h e l n ok was g v (inr (inl d)) = inr (inl (dead_line h e l n ok was d))
alive_line h e l n ok was g v (inr (inr t)) = inr (inr (v t))

-- an entry that is of no lock
pub record Still (h : List Entry) (e : Entry) : Type 0 where
  pub granted : (l : Lock) → IsGranted (e ∷ h) l → IsGranted h l
  pub kept : (l : Lock) → IsGranted h l → IsGranted (e ∷ h) l
  pub was : (l : Lock) → WasGranted (e ∷ h) l → WasGranted h l
  pub waits : (l : Lock) → IsWaiting (e ∷ h) l → IsWaiting h l
  pub rises : top (e ∷ h) ≡ top h
  pub awaited : (c k : ℕ) → awaits c k (e ∷ h) ≡ true → (awaits c k h ≡ true) ⊎ ((k ≤ top h) × NotComing (e ∷ h) c k)
  pub held : (l : Lock) → HeldBy (e ∷ h) l → HeldBy h l
  pub dropped : (l : Lock) → WasDropped (e ∷ h) l → WasDropped h l
  pub cancels : (b c k : ℕ) → Was (e ∷ h) (Cancel b c k) → Was h (Cancel b c k)
  pub boot : closed (e ∷ h) ≡ closed h
  pub evicts : (c : ℕ) → evicted c h ≡ true → evicted c (e ∷ h) ≡ true

await_line : (h : List Entry) (e : Entry) (c k : ℕ) → Numbers h → Allowed h e → top h ≤ top (e ∷ h)
    → (awaits c k (e ∷ h) ≡ true → (awaits c k h ≡ true) ⊎ ((k ≤ top h) × NotComing (e ∷ h) c k))
    → ((d j : ℕ) → awaits d j h ≡ true → (j ≤ top h) × NotComing h d j) → awaits c k (e ∷ h) ≡ true
    → (k ≤ top (e ∷ h)) × NotComing (e ∷ h) c k
await_line h e c k n ok rises old w t = ⊎_elim
    (λ (i : awaits c k h ≡ true). let o = w c k i in let low = o.0 in (omega arith, coming_line h e c k n ok o.0 o.1))
    (λ (i : (k ≤ top h) × NotComing (e ∷ h) c k). let low = i.0 in (omega arith, i.1))
    (old t)

still : (h : List Entry) (e : Entry) → Numbers h → Allowed h e → Still h e → Lockings h → Lockings (e ∷ h)
still h e n ok st w = record {
  clash = λ l m i j. w.clash l m (st.granted l i) (st.granted m j);
  unique = λ l m i j. w.unique l m (st.was l i) (st.was m j);
  waiting = λ k l i j. w.waiting k l (st.waits k i) (st.was l j);
  await = λ c k t. await_line h e c k n ok (let r = st.rises in omega arith) (st.awaited c k) w.await t;
  held = λ l i. held_line h e l n ok (st.held l i) (w.held l (st.held l i));
  dropped = λ l i. ok_line h e l n ok (w.dropped l (st.dropped l i));
  cancels = λ b c k i low. named_line h e c k n ok (w.cancels b c k (st.cancels b c k i) (let r = st.boot in omega arith));
  alive = λ l i. alive_line h e l n ok (st.was l i) (st.kept l) (st.evicts l.life) (w.alive l (st.was l i));
}

-- the reply is heard, and nothing is in flight
heard_awaited : (h : List Entry) (r : Request) (a : Answer) (c k : ℕ) → Numbers h → Allowed h (Heard r a)
    → awaits c k (Heard r a ∷ h) ≡ true → (awaits c k h ≡ true) ⊎ ((k ≤ top h) × NotComing (Heard r a ∷ h) c k)
heard_awaited h r a c k n ok t = by (nat_eq c r.life && brings a k) refl t
  where
    none : (v : Bool) → v ≡ true → (q : Request) (b : Answer) → (if v then None else flight c h) ≡ Some q → Answered h c q.xid b
        → brings b k ≡ true → ⊥
    none true e q b f i x = absurd (cc)
    none false e q b f i x = absurd (cc)

    by : (v : Bool) → (nat_eq c r.life && brings a k) ≡ v → (v || awaits c k h) ≡ true
        → (awaits c k h ≡ true) ⊎ ((k ≤ top h) × NotComing (Heard r a ∷ h) c k)
    by false e x = inl x
    by true e x = let p = and_parts (nat_eq c r.life) (brings a k) e
        in inr (n.brings r.life r.xid k a (n.replies r.life r.xid a ok.1) p.1, none (nat_eq c r.life) p.0)

holds : (h : List Entry) (k : Lock) (s : ℕ) (sn : ℕ → Bool) → Numbers h → Allowed h (Hold k s sn) → Lockings h → Lockings (Hold k s sn ∷ h)
holds h k s sn n ok w = record {
  clash = w.clash;
  unique = w.unique;
  waiting = w.waiting;
  await = λ c j t. await_line h (Hold k s sn) c j n ok (omega arith) (λ e. inl (less c j e)) w.await t;
  held = λ l i. ⊎_elim (λ (e : k ≡ l). subst (λ (m : Lock). Gone (Hold k s sn ∷ h) m.life m.cookie) e
      (record { gone = rw (eq-eqb k.life k.life refl, eq-eqb k.cookie k.cookie refl); coming = (w.await k.life k.cookie ok.0).1 }))
      (λ (j : HeldBy h l). held_line h (Hold k s sn) l n ok j (w.held l j)) i;
  dropped = λ l i. ok_line h (Hold k s sn) l n ok (w.dropped l i);
  cancels = λ b c j i low. named_line h (Hold k s sn) c j n ok (w.cancels b c j i low);
  alive = λ l i. alive_line h (Hold k s sn) l n ok i (λ j. j) (λ j. j) (w.alive l i);
}
  where
    less : (c j : ℕ) → (if nat_eq c k.life && nat_eq j k.cookie then false else awaits c j h) ≡ true → awaits c j h ≡ true
    less c j e = grind arith

drops : (h : List Entry) (k : Lock) → Numbers h → Allowed h (Drop k) → Lockings h → Lockings (Drop k ∷ h)
drops h k n ok w = record {
  clash = w.clash;
  unique = w.unique;
  waiting = w.waiting;
  await = w.await;
  held = λ l i. held_line h (Drop k) l n ok i.1 (w.held l i.1);
  dropped = λ l i.
      ⊎_elim
      (λ (e : k ≡ l). subst (λ (m : Lock). GoneOk (Drop k ∷ h) m) e
      (n.held k ok.held, record { free = λ j. j.0 refl; gone = held_line h (Drop k) k n ok ok.held (w.held k ok.held) }))
      (λ (j : WasDropped h l). ok_line h (Drop k) l n ok (w.dropped l j))
      i;
  cancels = λ b c j i low. named_line h (Drop k) c j n ok (w.cancels b c j i low);
  alive = λ l i. alive_line h (Drop k) l n ok i (λ j. j) (λ j. j) (w.alive l i);
}

-- a lock is granted that conflicts with none, and whose cookie no granted lock had
grants : (h : List Entry) (e : Entry) (l : Lock) → Numbers h → Allowed h e → ((m : Lock) → WasGranted h m → Apart l m) → Free h l
    → ((m : Lock) → IsGranted (e ∷ h) m → (l ≡ m) ⊎ IsGranted h m) → ((m : Lock) → (l ≡ m) ⊎ IsGranted h m → IsGranted (e ∷ h) m)
    → ((m : Lock) → WasGranted (e ∷ h) m → (l ≡ m) ⊎ WasGranted h m) → ((k : Lock) → IsWaiting (e ∷ h) k → Apart l k × IsWaiting h k)
    → top h ≤ top (e ∷ h) → ((c k : ℕ) → awaits c k (e ∷ h) ≡ awaits c k h) → ((m : Lock) → HeldBy (e ∷ h) m → HeldBy h m)
    → ((m : Lock) → WasDropped (e ∷ h) m → WasDropped h m) → ((m : Message) → Was (e ∷ h) m → Was h m) → closed (e ∷ h) ≡ closed h
    → ((c : ℕ) → evicted c (e ∷ h) ≡ evicted c h) → Lockings h → Lockings (e ∷ h)
grants h e l n ok apart free to from was waits rises awaited held dropped same boot evicts w = record {
  clash = λ a b i j c.
      ⊎_elim
      (λ (e : l ≡ a). ⊎_elim (λ (f : l ≡ b). sym e ∙ f) (λ (f : IsGranted h b). absurd
      (both_ways (conflict l b) (free b f) (subst (λ (x : Lock). conflict x b ≡ true) (sym e) c))) (to b j))
      (λ (e : IsGranted h a). ⊎_elim (λ (f : l ≡ b). absurd (both_ways (conflict l a) (free a e)
      (conflict_sym l a ∙ subst (λ (x : Lock). conflict a x ≡ true) (sym f) c))) (λ (f : IsGranted h b). w.clash a b e f c) (to b j))
      (to a i);
  unique = λ a b i j p.
      ⊎_elim
      (λ (e : l ≡ a). ⊎_elim (λ (f : l ≡ b). sym e ∙ f) (λ (f : WasGranted h b). absurd (apart b f (ap (λ (x : Lock). x.cookie) e ∙ p)))
      (was b j))
      (λ (e : WasGranted h a). ⊎_elim (λ (f : l ≡ b). absurd (apart a e (ap (λ (x : Lock). x.cookie) f ∙ sym p)))
      (λ (f : WasGranted h b). w.unique a b e f p) (was b j))
      (was a i);
  waiting = λ k m i j.
      ⊎_elim
      (λ (e : l ≡ m). λ p. (waits k i).0 (ap (λ (x : Lock). x.cookie) e ∙ sym p))
      (λ (e : WasGranted h m). w.waiting k m (waits k i).1 e)
      (was m j);
  await = λ c k t. await_line h e c k n ok rises (λ x. inl (sym (awaited c k) ∙ x)) w.await t;
  held = λ m i. held_line h e m n ok (held m i) (w.held m (held m i));
  dropped = λ m i. ok_line h e m n ok (w.dropped m (dropped m i));
  cancels = λ b c k i low. named_line h e c k n ok (w.cancels b c k (same (Cancel b c k) i) (let r = boot in omega arith));
  alive = λ m i.
      ⊎_elim
      (λ (x : l ≡ m). inl (from m (inl x)))
      (λ (x : WasGranted h m). alive_line h e m n ok x (λ j. from m (inr j)) (λ j. evicts m.life ∙ j) (w.alive m x))
      (was m i);
}

-- a new cookie is above that of each granted lock and of each that waits
above : (h : List Entry) (l m : Lock) → top h < l.cookie → m.cookie ≤ top h → Apart l m
above h l m a b e = absurd (omega arith)

pub grant_apart : (h : List Entry) (r : Request) (l : Lock) (s : ℕ) (sn : ℕ → Bool) → Numbers h → GrantOk h r l s sn → (m : Lock)
    → WasGranted h m → Apart l m
grant_apart h r l s sn n ok m i = above h l m ok.new (n.tops m i)

pub promote_apart : (h : List Entry) (l : Lock) → Lockings h → PromoteOk h l → (m : Lock) → WasGranted h m → Apart l m
promote_apart h l w ok m i = λ e. w.waiting ok.ahead m ok.waits i (ok.cookie ∙ e)

waits : (h : List Entry) (r : Request) (l : Lock) → Numbers h → WaitOk h r l → Lockings h → Lockings (Wait r l ∷ h)
waits h r l n ok w = record {
  clash = w.clash;
  unique = w.unique;
  waiting = λ k m i j.
      ⊎_elim
      (λ (e : l ≡ k). subst (λ (x : Lock). Apart x m) e (above h l m ok.new (n.tops m j)))
      (λ (e : IsWaiting h k). w.waiting k m e j)
      i;
  await = λ c k t. await_line h (Wait r l) c k n ok (omega arith) (λ x. inl x) w.await t;
  held = λ m i. held_line h (Wait r l) m n ok i (w.held m i);
  dropped = λ m i. ok_line h (Wait r l) m n ok (w.dropped m i);
  cancels = λ b c k i low. named_line h (Wait r l) c k n ok (w.cancels b c k i low);
  alive = λ m i. alive_line h (Wait r l) m n ok i (λ j. j) (λ j. j) (w.alive m i);
}

releases : (h : List Entry) (k : ℕ) → Numbers h → Allowed h (Release k) → Lockings h → Lockings (Release k ∷ h)
releases h k n ok w = record {
  clash = λ a b i j. w.clash a b i.1 j.1;
  unique = w.unique;
  waiting = w.waiting;
  await = w.await;
  held = λ m i. held_line h (Release k) m n ok i (w.held m i);
  dropped = λ m i. ok_line h (Release k) m n ok (w.dropped m i);
  cancels = λ b c j i low. named_line h (Release k) c j n ok (w.cancels b c j i low);
  alive = λ m i. by m i (nat_eq k m.cookie) refl;
}
  where
    by : (m : Lock) → WasGranted h m → (v : Bool) → nat_eq k m.cookie ≡ v → Alive (Release k ∷ h) m
    by m i false e = alive_line h (Release k) m n ok i (λ j. (eqb-false k m.cookie e, j)) (λ j. j) (w.alive m i)
    by m i true e = ⊎_elim
        (λ (c : (b : ℕ) × (c : ℕ) × Was h (Cancel b c k) × (closed h ≤ b)).
        let g = w.cancels c.0 c.1 k c.2 c.3 in
        let is : g.0 ≡ m = w.unique g.0 m g.1.0 i (g.3 ∙ eqb-true k m.cookie e) in
        inr (inl (dead_line h (Release k) m n ok i (subst (λ (x : Lock). Dead h x) is g.1.1))))
        (λ (f : (l : Lock) → IsGranted h l → l.cookie ≡ k → evicted l.life h ≡ true). out f (w.alive m i))
        ok
      where
        out : ((l : Lock) → IsGranted h l → l.cookie ≡ k → evicted l.life h ≡ true) → Alive h m → Alive (Release k ∷ h) m
        out f (inl g) = inr (inr (f m g (sym (eqb-true k m.cookie e))))
        out f (inr (inl d)) = inr (inl (dead_line h (Release k) m n ok i d))
        out f (inr (inr v)) = inr (inr v)

cancels_line : (h : List Entry) (b c k : ℕ) → Numbers h → Allowed h (Send (Cancel b c k)) → Lockings h → Lockings (Send (Cancel b c k) ∷ h)
cancels_line h b c k n ok w = record {
  clash = w.clash;
  unique = w.unique;
  waiting = w.waiting;
  await = w.await;
  held = λ m i. held_line h (Send (Cancel b c k)) m n ok i (w.held m i);
  dropped = λ m i. ok_line h (Send (Cancel b c k)) m n ok (w.dropped m i);
  cancels = λ b' c' k' i low. named_line h (Send (Cancel b c k)) c' k' n ok (⊎_elim
      (λ (e : Cancel b c k ≡ Cancel b' c' k'). let p : c ≡ c' = cc in let q : k ≡ k' = cc
      in subst (λ (y : ℕ × ℕ). Named (λ l. GoneOk h l) y.0 y.1) (λ j. (p j, q j)) bad)
      (λ (i : Was h (Cancel b' c' k')). w.cancels b' c' k' i low) i);
  alive = λ m i. alive_line h (Send (Cancel b c k)) m n ok i (λ j. j) (λ j. j) (w.alive m i);
}
  where
    bad : Named (λ l. GoneOk h l) c k
    bad = ⊎_elim
        (λ (d : Named (λ l. WasDropped h l) c k). (d.0, w.dropped d.0 d.1, d.2, d.3))
        (λ (d : ((g : ℕ) × Was h (Block g c k)) × (flight c h ≡ None) × (awaits c k h ≡ false)
        × ((l : Lock) → HeldBy h l → l.cookie ≡ k → ⊥)).
        let m = n.blocks d.0.0 c k d.0.1 in
        let gone : Gone h c k = record { gone = d.2; coming = λ r a f i t. absurd (let none = d.1 in cc) } in (
          m.0,
          (m.1, record { free = λ i. d.3 m.0 i m.3; gone = subst (λ (y : ℕ × ℕ). Gone h y.0 y.1) (λ j. (sym m.2 j, sym m.3 j)) gone }),
          m.2,
          m.3,
        ))
        ok

-- what a life that lives holds is granted
pub held_granted : (h : List Entry) (l : Lock) → Numbers h → Lockings h → HeldBy h l → evicted l.life h ≡ false → IsGranted h l
held_granted h l n w i v = by (w.alive l (n.held l i))
  where
    by : Alive h l → IsGranted h l
    by (inl g) = g
    by (inr (inl d)) = absurd (d.free i)
    by (inr (inr e)) = absurd (both_ways (evicted l.life h) v e)

-- whether a lock of this cookie is held
abbrev holds_cookie : ℕ → List Entry → Bool
holds_cookie k [] = false
holds_cookie k (Hold l s sn ∷ h) = if nat_eq l.cookie k then true else holds_cookie k h
holds_cookie k (Drop l ∷ h) = if nat_eq l.cookie k then false else holds_cookie k h
holds_cookie k (_ ∷ h) = holds_cookie k h

find_held : (h : List Entry) (k : ℕ) → holds_cookie k h ≡ true → (l : Lock) × HeldBy h l × (l.cookie ≡ k)
find_held [] k e = absurd (cc)
find_held (Hold m s sn ∷ h) k e = by (nat_eq m.cookie k) refl e (find_held h k)
  where
    by : (v : Bool) → nat_eq m.cookie k ≡ v → (if v then true else holds_cookie k h) ≡ true
        → (holds_cookie k h ≡ true → (l : Lock) × HeldBy h l × (l.cookie ≡ k)) → (l : Lock) × ((m ≡ l) ⊎ HeldBy h l) × (l.cookie ≡ k)
    by true t f ih = (m, inl refl, eqb-true m.cookie k t)
    by false t f ih = let r = ih f in (r.0, inr r.1, r.2)
find_held (Drop m ∷ h) k e = by (nat_eq m.cookie k) refl e (find_held h k)
  where
    by : (v : Bool) → nat_eq m.cookie k ≡ v → (if v then false else holds_cookie k h) ≡ true
        → (holds_cookie k h ≡ true → (l : Lock) × HeldBy h l × (l.cookie ≡ k)) → (l : Lock) × (Apart m l × HeldBy h l) × (l.cookie ≡ k)
    by true t f ih = absurd (cc)
    by false t f ih = let r = ih f in (r.0, (λ a. eqb-false m.cookie k t (a ∙ r.2), r.1), r.2)
find_held (_ ∷ h) k e = find_held h k e

no_held : (h : List Entry) (k : ℕ) (l : Lock) → holds_cookie k h ≡ false → HeldBy h l → l.cookie ≡ k → ⊥
no_held [] k l e i b = i
no_held (Hold m s sn ∷ h) k l e i b = by (nat_eq m.cookie k) refl e i (no_held h k l)
  where
    by : (v : Bool) → nat_eq m.cookie k ≡ v → (if v then true else holds_cookie k h) ≡ false → (m ≡ l) ⊎ HeldBy h l
        → (holds_cookie k h ≡ false → HeldBy h l → l.cookie ≡ k → ⊥) → ⊥
    by true t f j ih = absurd (cc)
    by false t f (inl q) ih = eqb-false m.cookie k t (ap (λ (x : Lock). x.cookie) q ∙ b)
    by false t f (inr j) ih = ih f j b
no_held (Drop m ∷ h) k l e i b = by (nat_eq m.cookie k) refl e (no_held h k l)
  where
    by : (v : Bool) → nat_eq m.cookie k ≡ v → (if v then false else holds_cookie k h) ≡ false
        → (holds_cookie k h ≡ false → HeldBy h l → l.cookie ≡ k → ⊥) → ⊥
    by true t f ih = i.0 (eqb-true m.cookie k t ∙ sym b)
    by false t f ih = ih f i.1 b
no_held (_ ∷ h) k l e i b = no_held h k l e i b

or_false : (a b : Bool) → (a || b) ≡ false → b ≡ false
or_false true b e = absurd (cc)
or_false false b e = e

-- what those that stay hold is granted again
closes : (h : List Entry) (b : ℕ) (lost gone : ℕ → Bool) → Numbers h → Allowed h (Close b lost gone) → Lockings h
    → Lockings (Close b lost gone ∷ h)
closes h b lost gone n ok w = record {
  clash = λ l m i j c. w.clash l m (held_granted h l n w i.0 (or_false (gone l.life) (evicted l.life h) i.1))
      (held_granted h m n w j.0 (or_false (gone m.life) (evicted m.life h) j.1)) c;
  unique = w.unique;
  waiting = λ k l i j. absurd i;
  await = λ c k t. await_line h (Close b lost gone) c k n ok (omega arith) (λ x. inl x) w.await t;
  held = λ l i. held_line h (Close b lost gone) l n ok i (w.held l i);
  dropped = λ l i. ok_line h (Close b lost gone) l n ok (w.dropped l i);
  cancels = λ d c k i low. named_line h (Close b lost gone) c k n ok (w.cancels d c k i (let new = ok.newer in omega arith));
  alive = λ l i. by l i (gone l.life || evicted l.life h) refl;
}
  where
    coming : (c k : ℕ) → NotComing (Close b lost gone ∷ h) c k
    coming c k = λ q a f i t. absurd (let s = subst (λ (y : Answer). brings y k ≡ true) i.1.1 t in cc)

    -- held or not is decided by the cookie: a granted lock that is not held is dead from now on
    by : (l : Lock) → WasGranted h l → (v : Bool) → (gone l.life || evicted l.life h) ≡ v → Alive (Close b lost gone ∷ h) l
    by l was true e = inr (inr e)
    by l was false e = held (holds_cookie l.cookie h) refl
      where
        held : (v : Bool) → holds_cookie l.cookie h ≡ v → Alive (Close b lost gone ∷ h) l
        held false f = inr (inl (record {
          free = λ i. no_held h l.cookie l f i refl;
          gone =
              record { gone = ok.forgot l.life l.cookie e; coming = coming l.life l.cookie };
        }))
        held true f = let m = find_held h l.cookie f in inl (
          subst (λ (x : Lock). HeldBy h x) (w.unique m.0 l (n.held m.0 m.1) was m.2) m.1,
          e,
        )

pub locks_line : (h : List Entry) (e : Entry) → Numbers h → Lockings h → Allowed h e → Lockings (e ∷ h)
locks_line h (Heard r a) n w ok = still h (Heard r a) n ok (record {
  granted = λ l i. i;
  kept = λ l i. i;
  was = λ l i. i;
  waits = λ l i. i;
  rises = refl;
  awaited = λ c k t. heard_awaited h r a c k n ok t;
  held = λ l i. i;
  dropped = λ l i. i;
  cancels = λ b c k i. i;
  boot = refl;
  evicts = λ c i. i;
}) w
locks_line h (Hold l s sn) n w ok = holds h l s sn n ok w
locks_line h (Drop l) n w ok = drops h l n ok w
locks_line h (Forgets d) n w ok = still h (Forgets d) n ok (record {
  granted = λ l i. i;
  kept = λ l i. i;
  was = λ l i. i;
  waits = λ l i. i;
  rises = refl;
  awaited = λ c k t. inl (less c k t);
  held = λ l i. i;
  dropped = λ l i. i;
  cancels = λ b c k i. i;
  boot = refl;
  evicts = λ c i. i;
}) w
  where
    less : (c k : ℕ) → (if nat_eq c d then false else awaits c k h) ≡ true → awaits c k h ≡ true
    less c k e = grind arith
locks_line h (Grant r l s sn) n w ok = grants h (Grant r l s sn) l n ok (grant_apart h r l s sn n ok) ok.free (λ m i. i) (λ m i. i)
    (λ m i. i) (λ k i. (above h l k ok.new (n.waits k i), i)) (omega arith) (λ c k. refl) (λ m i. i) (λ m i. i) (λ m i. i) refl (λ c. refl)
    w
locks_line h (Promote l) n w ok = grants h (Promote l) l n ok (promote_apart h l w ok) ok.free (λ m i. i) (λ m i. i) (λ m i. i) (λ k i. i)
    (omega arith) (λ c k. refl) (λ m i. i) (λ m i. i) (λ m i. i) refl (λ c. refl) w
locks_line h (Wait r l) n w ok = waits h r l n ok w
locks_line h (Release k) n w ok = releases h k n ok w
locks_line h (Close b lost gone) n w ok = closes h b lost gone n ok w
locks_line h (Send (Cancel b c k)) n w ok = cancels_line h b c k n ok w
locks_line h (Send (Ask b r)) n w ok = still h (Send (Ask b r)) n ok (record {
  granted = λ l i. i;
  kept = λ l i. i;
  was = λ l i. i;
  waits = λ l i. i;
  rises = refl;
  awaited = λ c k t. inl t;
  held = λ l i. i;
  dropped = λ l i. i;
  cancels = λ d c k i. ⊎_elim (λ (e : Ask b r ≡ Cancel d c k). absurd (cc)) (λ (j : Was h (Cancel d c k)). j) i;
  boot = refl;
  evicts = λ c i. i;
}) w
locks_line h (Send (Reply b x y a)) n w ok = still h (Send (Reply b x y a)) n ok (record {
  granted = λ l i. i;
  kept = λ l i. i;
  was = λ l i. i;
  waits = λ l i. i;
  rises = refl;
  awaited = λ c k t. inl t;
  held = λ l i. i;
  dropped = λ l i. i;
  cancels = λ d c k i. ⊎_elim (λ (e : Reply b x y a ≡ Cancel d c k). absurd (cc)) (λ (j : Was h (Cancel d c k)). j) i;
  boot = refl;
  evicts = λ c i. i;
}) w
locks_line h (Send (Give b m s sn)) n w ok = still h (Send (Give b m s sn)) n ok (record {
  granted = λ l i. i;
  kept = λ l i. i;
  was = λ l i. i;
  waits = λ l i. i;
  rises = refl;
  awaited = λ c k t. inl t;
  held = λ l i. i;
  dropped = λ l i. i;
  cancels = λ d c k i. ⊎_elim (λ (e : Give b m s sn ≡ Cancel d c k). absurd (cc)) (λ (j : Was h (Cancel d c k)). j) i;
  boot = refl;
  evicts = λ c i. i;
}) w
locks_line h (Send (Block b x y)) n w ok = still h (Send (Block b x y)) n ok (record {
  granted = λ l i. i;
  kept = λ l i. i;
  was = λ l i. i;
  waits = λ l i. i;
  rises = refl;
  awaited = λ c k t. inl t;
  held = λ l i. i;
  dropped = λ l i. i;
  cancels = λ d c k i. ⊎_elim (λ (e : Block b x y ≡ Cancel d c k). absurd (cc)) (λ (j : Was h (Cancel d c k)). j) i;
  boot = refl;
  evicts = λ c i. i;
}) w
locks_line h (Evict d) n w ok = still h (Evict d) n ok (record {
  granted = λ l i. i;
  kept = λ l i. i;
  was = λ l i. i;
  waits = λ l i. i.1;
  rises = refl;
  awaited = λ c k t. inl t;
  held = λ l i. i;
  dropped = λ l i. i;
  cancels = λ b c k i. i;
  boot = refl;
  evicts = λ c i. or_right (nat_eq c d) (evicted c h) i;
}) w
locks_line h (Flies r) n w ok = still h (Flies r) n ok (record {
  granted = λ l i. i;
  kept = λ l i. i;
  was = λ l i. i;
  waits = λ l i. i;
  rises = refl;
  awaited = λ c k t. inl t;
  held = λ l i. i;
  dropped = λ l i. i;
  cancels = λ b c k i. i;
  boot = refl;
  evicts = λ c i. i;
}) w
locks_line h (Takes d k ch) n w ok = still h (Takes d k ch) n ok (record {
  granted = λ l i. i;
  kept = λ l i. i;
  was = λ l i. i;
  waits = λ l i. i;
  rises = refl;
  awaited = λ c k t. inl t;
  held = λ l i. i;
  dropped = λ l i. i;
  cancels = λ b c k i. i;
  boot = refl;
  evicts = λ c i. i;
}) w
locks_line h (Tells d call) n w ok = still h (Tells d call) n ok (record {
  granted = λ l i. i;
  kept = λ l i. i;
  was = λ l i. i;
  waits = λ l i. i;
  rises = refl;
  awaited = λ c k t. inl t;
  held = λ l i. i;
  dropped = λ l i. i;
  cancels = λ b c k i. i;
  boot = refl;
  evicts = λ c i. i;
}) w
locks_line h (Acts r a) n w ok = still h (Acts r a) n ok (record {
  granted = λ l i. i;
  kept = λ l i. i;
  was = λ l i. i;
  waits = λ l i. i;
  rises = refl;
  awaited = λ c k t. inl t;
  held = λ l i. i;
  dropped = λ l i. i;
  cancels = λ b c k i. i;
  boot = refl;
  evicts = λ c i. i;
}) w
locks_line h (Txn m r) n w ok = still h (Txn m r) n ok (record {
  granted = λ l i. i;
  kept = λ l i. i;
  was = λ l i. i;
  waits = λ l i. i;
  rises = refl;
  awaited = λ c k t. inl t;
  held = λ l i. i;
  dropped = λ l i. i;
  cancels = λ b c k i. i;
  boot = refl;
  evicts = λ c i. i;
}) w
locks_line h (Commit m) n w ok = still h (Commit m) n ok (record {
  granted = λ l i. i;
  kept = λ l i. i;
  was = λ l i. i;
  waits = λ l i. i;
  rises = refl;
  awaited = λ c k t. inl t;
  held = λ l i. i;
  dropped = λ l i. i;
  cancels = λ b c k i. i;
  boot = refl;
  evicts = λ c i. i;
}) w

pub locks_at : (h : List Entry) → Numbers h → Lockings h → LocksAt h
locks_at h n w l m i j v u c = w.clash l m (held_granted h l n w i v) (held_granted h m n w j u) c
