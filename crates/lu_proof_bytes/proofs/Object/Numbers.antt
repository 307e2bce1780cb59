-- Numbers of requests and cookies of locks: what is executed is in flight, an answer is heard once, and a cookie is one lock's.
use Rattle.std.proofs.Common.{◌≡◌, ℕ, ◌<◌, ◌≤◌, ◌⊎◌, inl, inr, ⊎_elim, List, ◌∷◌, Some, None, Bool, true, false, refl, sym, ap, ◌∙◌, subst}
use Rattle.std.proofs.Common.{arith}
use Rattle.std.specs.Prelude.{nat_eq, if◌then◌else◌}
use Rattle.std.proofs.lemmas.Bool.{eqb-true}
use Rattle.std.proofs.lemmas.Bool.Decides.{nat_tests}
use Rattle.lu_proof_bytes.specs.Object.Words.{Lock, Request, Answer, Granted, Waiting, Content, Done, Sized, Uncovered, Message, Ask, Reply}
use Rattle.lu_proof_bytes.specs.Object.Words.{Give, Block, Cancel, Entry, Takes, Flies, Heard, Hold, Drop, Forgets, Tells, Grant, Wait}
use Rattle.lu_proof_bytes.specs.Object.Words.{Promote, Acts, Txn, Release, Evict, Commit, Close, Send}
use Rattle.lu_proof_bytes.specs.Object.Folds.{Was, closed, top, Answered, WasGranted, HeldBy, IsGranted, IsWaiting, asked, flight, brings}
use Rattle.lu_proof_bytes.specs.Object.Folds.{Changed, op_changes}
use Rattle.lu_proof_bytes.specs.Object.Guards.{Fresh, GrantOk, WaitOk, PromoteOk, ActsOk, SendOk, New, CloseOk, HoldOk, Named, Allowed}

-- the boot that a message must have to be heeded; a `Block` is always heeded, and of a `Cancel` `proofs/Object/Locks` speaks
abbrev pub boot_of : Message → ℕ
boot_of (Ask b r) = b
boot_of (Reply b c x a) = b
boot_of (Give b l s sn) = b
boot_of _ = 0

-- the life's request of that number has an answer
abbrev pub IsAnswered : List Entry → ℕ → ℕ → Type 0
IsAnswered h c x = (a : Answer) × Answered h c x a

-- what is so of numbers, boots and cookies after each story: no message has a boot to come; what was asked with the present boot is in
-- flight or answered; what is in flight is the life's own, and no number is above the last one that was asked; a reply of the present boot
-- has an answer that stands; what is held, given, called back or granted was granted; no cookie is above the greatest; and a
-- transaction that may have changed something has a number above 0
abbrev pub Numbers : List Entry → Type 0
Numbers h = record {
  olds : (m : Message) → Was h m → boot_of m ≤ closed h;
  asks : (r : Request) → Was h (Ask (closed h) r) → (flight r.life h ≡ Some r) ⊎ IsAnswered h r.life r.xid;
  flies : (c : ℕ) (q : Request) → flight c h ≡ Some q → (q.life ≡ c) × (q.xid ≤ asked c h);
  answers : (c x : ℕ) (a : Answer) → Answered h c x a → x ≤ asked c h;
  replies : (c x : ℕ) (a : Answer) → Was h (Reply (closed h) c x a) → Answered h c x a;
  granted : (c x : ℕ) (l : Lock) (s : ℕ) (sn : ℕ → Bool) → Answered h c x (Granted l s sn) → WasGranted h l × (l.life ≡ c);
  gives : (b : ℕ) (l : Lock) (s : ℕ) (sn : ℕ → Bool) → Was h (Give b l s sn) → WasGranted h l;
  blocks : (b c k : ℕ) → Was h (Block b c k) → Named (λ l. WasGranted h l) c k;
  held : (l : Lock) → HeldBy h l → WasGranted h l;
  is_granted : (l : Lock) → IsGranted h l → WasGranted h l;
  tops : (l : Lock) → WasGranted h l → l.cookie ≤ top h;
  waits : (l : Lock) → IsWaiting h l → l.cookie ≤ top h;
  brings : (c x k : ℕ) (a : Answer) → Answered h c x a → brings a k ≡ true → k ≤ top h;
  positive : (n p : ℕ) → Changed h n p → 0 < n;
}

-- the request that is executed is in flight
pub fresh_flies : (h : List Entry) (r : Request) → Numbers h → Fresh h r → flight r.life h ≡ Some r
fresh_flies h r w f = ⊎_elim (λ (e : flight r.life h ≡ Some r). e) (λ (i : IsAnswered h r.life r.xid). absurd (f.first i.0 i.1))
    (w.asks r f.was)

pub fresh_low : (h : List Entry) (r : Request) → Numbers h → Fresh h r → r.xid ≤ asked r.life h
fresh_low h r w f = (w.flies r.life r (fresh_flies h r w f)).1

-- what was granted ever was granted before
pub granted_more : (h : List Entry) (e : Entry) (l : Lock) → WasGranted h l → WasGranted (e ∷ h) l
granted_more h (Grant r m s sn) l i = inr i
granted_more h (Promote m) l i = inr i
granted_more h _ l i = i

flies_line : (h : List Entry) (r : Request) → Numbers h → New h r → Numbers (Flies r ∷ h)
flies_line h r w ok =
    let next = ok.next in
    record {
      olds = w.olds;
      asks = λ q i. asks q (nat_eq q.life r.life) refl (w.asks q i);
      flies = λ c q e. flies c q (nat_eq c r.life) refl e;
      answers = λ c x a i. grind (arith, nat_tests, w.answers c x a i);
      replies = w.replies;
      granted = w.granted;
      gives = w.gives;
      blocks = w.blocks;
      held = w.held;
      is_granted = w.is_granted;
      tops = w.tops;
      waits = w.waits;
      brings = w.brings;
      positive = w.positive;
    }
  where
    -- what is asked with the present boot was answered, since nothing is in flight
    asks : (q : Request) (v : Bool) → nat_eq q.life r.life ≡ v → (flight q.life h ≡ Some q) ⊎ IsAnswered h q.life q.xid
        → ((if v then Some r else flight q.life h) ≡ Some q) ⊎ IsAnswered h q.life q.xid
    asks q v e (inr i) = inr i
    asks q false e (inl f) = inl f
    asks q true e (inl f) = absurd (let none : flight q.life h ≡ None = ap (λ (d : ℕ). flight d h) (eqb-true q.life r.life e) ∙ ok.idle
        in cc)

    flies : (c : ℕ) (q : Request) (v : Bool) → nat_eq c r.life ≡ v → (if v then Some r else flight c h) ≡ Some q
        → (q.life ≡ c) × (q.xid ≤ (if v then r.xid else asked c h))
    flies c q true e f = let is : r ≡ q = cc in (
      ap (λ (y : Request). y.life) (sym is) ∙ sym (eqb-true c r.life e),
      (let x = ap (λ (y : Request). y.xid) is in omega arith),
    )
    flies c q false e f = w.flies c q f

heard_line : (h : List Entry) (r : Request) (a : Answer) → Numbers h → flight r.life h ≡ Some r → Was h (Reply (closed h) r.life r.xid a)
    → Numbers (Heard r a ∷ h)
heard_line h r a w fl was = record {
  olds = w.olds;
  asks = λ q i. asks q (nat_eq q.life r.life) refl (w.asks q i);
  flies = λ c q e. flies c q (nat_eq c r.life) e;
  answers = w.answers;
  replies = w.replies;
  granted = w.granted;
  gives = w.gives;
  blocks = w.blocks;
  held = w.held;
  is_granted = w.is_granted;
  tops = w.tops;
  waits = w.waits;
  brings = w.brings;
  positive = w.positive;
}
  where
    asks : (q : Request) (v : Bool) → nat_eq q.life r.life ≡ v → (flight q.life h ≡ Some q) ⊎ IsAnswered h q.life q.xid
        → ((if v then None else flight q.life h) ≡ Some q) ⊎ IsAnswered h q.life q.xid
    asks q v e (inr i) = inr i
    asks q false e (inl f) = inl f
    asks q true e (inl f) =
        let is : r ≡ q = (let g : flight q.life h ≡ Some r = ap (λ (d : ℕ). flight d h) (eqb-true q.life r.life e) ∙ fl in cc) in
        inr (a, subst (λ (y : Request). Answered h y.life y.xid a) is (w.replies r.life r.xid a was))

    flies : (c : ℕ) (q : Request) (v : Bool) → (if v then None else flight c h) ≡ Some q → (q.life ≡ c) × (q.xid ≤ asked c h)
    flies c q true f = absurd (cc)
    flies c q false f = w.flies c q f

-- a request is answered; what it brings is a new cookie or nothing
pub record Answers (h : List Entry) (e : Entry) (r : Request) (a : Answer) : Type 0 where
  pub fresh : Fresh h r
  pub new : (c x : ℕ) (b : Answer) → Answered (e ∷ h) c x b → ((r.life ≡ c) × (r.xid ≡ x) × (a ≡ b)) ⊎ Answered h c x b
  pub old : (c x : ℕ) (b : Answer) → Answered h c x b → Answered (e ∷ h) c x b
  pub same : (m : Message) → Was (e ∷ h) m → Was h m
  pub held : (l : Lock) → HeldBy (e ∷ h) l → HeldBy h l
  pub closed : closed (e ∷ h) ≡ closed h
  pub flight : (c : ℕ) → flight c (e ∷ h) ≡ flight c h
  pub asked : (c : ℕ) → asked c (e ∷ h) ≡ asked c h
  pub rises : top h ≤ top (e ∷ h)
  pub has : (l : Lock) (s : ℕ) (sn : ℕ → Bool) → a ≡ Granted l s sn → WasGranted (e ∷ h) l × (l.life ≡ r.life)
  pub one : (l : Lock) → WasGranted (e ∷ h) l → WasGranted h l ⊎ (l.cookie ≤ top (e ∷ h))
  pub now : (l : Lock) → IsGranted (e ∷ h) l → IsGranted h l ⊎ WasGranted (e ∷ h) l
  pub waiting : (l : Lock) → IsWaiting (e ∷ h) l → IsWaiting h l ⊎ (l.cookie ≤ top (e ∷ h))
  pub cookie : (k : ℕ) → brings a k ≡ true → k ≤ top (e ∷ h)
  pub number : (n p : ℕ) → Changed (e ∷ h) n p → Changed h n p ⊎ (0 < n)

answers_line : (h : List Entry) (e : Entry) (r : Request) (a : Answer) → Numbers h → Answers h e r a → Numbers (e ∷ h)
answers_line h e r a w an = record {
  olds = λ m i. subst (λ (b : ℕ). boot_of m ≤ b) (sym an.closed) (w.olds m (an.same m i));
  asks = λ q i. ⊎_elim (λ (f : flight q.life h ≡ Some q). inl (an.flight q.life ∙ f))
      (λ (f : IsAnswered h q.life q.xid). inr (f.0, an.old q.life q.xid f.0 f.1))
      (w.asks q (subst (λ (b : ℕ). Was h (Ask b q)) an.closed (an.same (Ask (closed (e ∷ h)) q) i)));
  flies = λ c q f. let o = w.flies c q (sym (an.flight c) ∙ f) in (o.0, subst (λ (n : ℕ). q.xid ≤ n) (sym (an.asked c)) o.1);
  answers = λ c x b i. subst (λ (n : ℕ). x ≤ n) (sym (an.asked c))
      (⊎_elim (λ (p : (r.life ≡ c) × (r.xid ≡ x) × (a ≡ b)). let low = fresh_low h r w an.fresh in let s = ap (λ (d : ℕ). asked d h) p.0
      in let y = p.1 in omega arith) (λ (p : Answered h c x b). w.answers c x b p) (an.new c x b i));
  replies = λ c x b i. an.old c x b (w.replies c x b (subst (λ (n : ℕ). Was h (Reply n c x b)) an.closed
      (an.same (Reply (closed (e ∷ h)) c x b) i)));
  granted = λ c x l s sn i. ⊎_elim (λ (p : (r.life ≡ c) × (r.xid ≡ x) × (a ≡ Granted l s sn)). let g = an.has l s sn p.2
      in (g.0, g.1 ∙ p.0)) (λ (p : Answered h c x (Granted l s sn)). let g = w.granted c x l s sn p in (granted_more h e l g.0, g.1))
      (an.new c x (Granted l s sn) i);
  gives = λ b l s sn i. granted_more h e l (w.gives b l s sn (an.same (Give b l s sn) i));
  blocks = λ b c k i. let n = w.blocks b c k (an.same (Block b c k) i) in (n.0, granted_more h e n.0 n.1, n.2, n.3);
  held = λ l i. granted_more h e l (w.held l (an.held l i));
  is_granted = λ l i. ⊎_elim (λ (p : IsGranted h l). granted_more h e l (w.is_granted l p)) (λ (p : WasGranted (e ∷ h) l). p) (an.now l i);
  tops = λ l i. ⊎_elim (λ (p : WasGranted h l). let low = w.tops l p in let t = an.rises in omega arith) (λ (p : l.cookie ≤ top (e ∷ h)). p)
      (an.one l i);
  waits = λ l i. ⊎_elim (λ (p : IsWaiting h l). let low = w.waits l p in let t = an.rises in omega arith)
      (λ (p : l.cookie ≤ top (e ∷ h)). p) (an.waiting l i);
  brings = λ c x k b i t. ⊎_elim (λ (p : (r.life ≡ c) × (r.xid ≡ x) × (a ≡ b)). an.cookie k
      (subst (λ (y : Answer). brings y k ≡ true) (sym p.2) t)) (λ (p : Answered h c x b). let low = w.brings c x k b p t in let g = an.rises
      in omega arith) (an.new c x b i);
  positive = λ n p i. ⊎_elim (λ (j : Changed h n p). w.positive n p j) (λ (j : 0 < n). j) (an.number n p i);
}

pub grant_answers : (h : List Entry) (r : Request) (l : Lock) (s : ℕ) (sn : ℕ → Bool) → GrantOk h r l s sn
    → Answers h (Grant r l s sn) r (Granted l s sn)
grant_answers h r l s sn ok = record {
  fresh = ok.fresh;
  new = λ c x b i. i;
  old = λ c x b i. inr i;
  same = λ m i. i;
  held = λ m i. i;
  closed = refl;
  flight = λ c. refl;
  asked = λ c. refl;
  rises = omega arith;
  has = λ m t tn e. let q : l ≡ m = cc in (inl q, ap (λ (x : Lock). x.life) (sym q) ∙ ok.life);
  one = λ m i. ⊎_elim (λ (e : l ≡ m). inr (let k = ap (λ (x : Lock). x.cookie) e in omega arith)) (λ (p : WasGranted h m). inl p) i;
  now = λ m i. ⊎_elim (λ (e : l ≡ m). inr (inl e)) (λ (p : IsGranted h m). inl p) i;
  waiting = λ m i. inl i;
  cookie = λ k t. let e = eqb-true l.cookie k t in omega arith;
  number = λ n p i. inl i;
}

pub wait_answers : (h : List Entry) (r : Request) (l : Lock) → WaitOk h r l → Answers h (Wait r l) r (Waiting l.cookie)
wait_answers h r l ok = record {
  fresh = ok.fresh;
  new = λ c x b i. i;
  old = λ c x b i. inr i;
  same = λ m i. i;
  held = λ m i. i;
  closed = refl;
  flight = λ c. refl;
  asked = λ c. refl;
  rises = omega arith;
  has = λ m t tn e. absurd (cc);
  one = λ m i. inl i;
  now = λ m i. inl i;
  waiting = λ m i. ⊎_elim (λ (e : l ≡ m). inr (let k = ap (λ (x : Lock). x.cookie) e in omega arith)) (λ (p : IsWaiting h m). inl p) i;
  cookie = λ k t. let e = eqb-true l.cookie k t in omega arith;
  number = λ n p i. inl i;
}

pub txn_answers : (h : List Entry) (n : ℕ) (r : Request) → 0 < n → Fresh h r → Answers h (Txn n r) r (Done n)
txn_answers h n r low f = record {
  fresh = f;
  new = λ c x b i. i;
  old = λ c x b i. inr i;
  same = λ m i. i;
  held = λ m i. i;
  closed = refl;
  flight = λ c. refl;
  asked = λ c. refl;
  rises = omega arith;
  has = λ m t tn e. absurd (cc);
  one = λ m i. inl i;
  now = λ m i. inl i;
  waiting = λ m i. inl i;
  cookie = λ k t. absurd (cc);
  number = λ m p i. ⊎_elim (λ (e : (m ≡ n) × (op_changes r.op p ≡ true)). inr (let q = e.0 in omega arith)) (λ (j : Changed h m p). inl j)
      i;
}

pub acts_bring : (h : List Entry) (r : Request) (a : Answer) (k : ℕ) → ActsOk h r a → brings a k ≡ true → ⊥
acts_bring h r (Content vs t sn) k ok e = absurd (cc)
acts_bring h r (Sized s) k ok e = absurd (cc)
acts_bring h r Uncovered k ok e = absurd (cc)
acts_bring h r (Granted l s sn) k ok e = ok
acts_bring h r (Waiting j) k ok e = ok
acts_bring h r (Done n) k ok e = ok

pub act_answers : (h : List Entry) (r : Request) (a : Answer) → Fresh h r → ActsOk h r a → Answers h (Acts r a) r a
act_answers h r a f ok = record {
  fresh = f;
  new = λ c x b i. i;
  old = λ c x b i. inr i;
  same = λ m i. i;
  held = λ m i. i;
  closed = refl;
  flight = λ c. refl;
  asked = λ c. refl;
  rises = omega arith;
  has = λ m t tn e. absurd (subst (λ (b : Answer). ActsOk h r b) e ok);
  one = λ m i. inl i;
  now = λ m i. inl i;
  waiting = λ m i. inl i;
  cookie = λ k t. absurd (acts_bring h r a k ok t);
  number = λ n p i. inl i;
}

promote_line : (h : List Entry) (l : Lock) → Numbers h → PromoteOk h l → Numbers (Promote l ∷ h)
promote_line h l w ok = record {
  olds = w.olds;
  asks = w.asks;
  flies = w.flies;
  answers = w.answers;
  replies = w.replies;
  granted = λ c x m s sn i. let g = w.granted c x m s sn i in (inr g.0, g.1);
  gives = λ b m s sn i. inr (w.gives b m s sn i);
  blocks = λ b c k i. let n = w.blocks b c k i in (n.0, inr n.1, n.2, n.3);
  held = λ m i. inr (w.held m i);
  is_granted = λ m i. ⊎_elim (λ (e : l ≡ m). inl e) (λ (p : IsGranted h m). inr (w.is_granted m p)) i;
  tops = λ m i. ⊎_elim (λ (e : l ≡ m). let low = w.waits ok.ahead ok.waits in let k = ok.cookie in let q = ap (λ (x : Lock). x.cookie) e
      in omega arith) (λ (p : WasGranted h m). w.tops m p) i;
  waits = λ m i. w.waits m i.1;
  brings = w.brings;
  positive = w.positive;
}

-- a message is sent
send_olds : (h : List Entry) (k : Message) → Numbers h → SendOk h k → boot_of k ≤ closed h
send_olds h (Ask b r) w ok = let e = ok.1 in omega arith
send_olds h (Reply b c x a) w ok = let e = ok.1 in omega arith
send_olds h (Give b l s sn) w ok = let e = ok.3 in omega arith
send_olds h (Block b c k) w ok = omega arith
send_olds h (Cancel b c k) w ok = omega arith

send_line : (h : List Entry) (k : Message) → Numbers h → SendOk h k → Numbers (Send k ∷ h)
send_line h k w ok = record {
  olds = λ m i. ⊎_elim (λ (e : k ≡ m). subst (λ (y : Message). boot_of y ≤ closed h) e (send_olds h k w ok)) (w.olds m) i;
  asks = λ r i. ⊎_elim (λ (e : k ≡ Ask (closed h) r). inl (subst (λ (y : Message). SendOk h y) e ok).0) (w.asks r) i;
  flies = w.flies;
  answers = w.answers;
  replies = λ c x a i. ⊎_elim (λ (e : k ≡ Reply (closed h) c x a). (subst (λ (y : Message). SendOk h y) e ok).0) (w.replies c x a) i;
  granted = w.granted;
  gives = λ b l s sn i. ⊎_elim (λ (e : k ≡ Give b l s sn). w.is_granted l (subst (λ (y : Message). SendOk h y) e ok).0) (w.gives b l s sn)
      i;
  blocks = λ b c j i. ⊎_elim (λ (e : k ≡ Block b c j). let n = subst (λ (y : Message). SendOk h y) e ok
      in (n.0, w.is_granted n.0 n.1, n.2, n.3)) (w.blocks b c j) i;
  held = w.held;
  is_granted = w.is_granted;
  tops = w.tops;
  waits = w.waits;
  brings = w.brings;
  positive = w.positive;
}

-- no message has the new boot yet
close_line : (h : List Entry) (b : ℕ) (lost gone : ℕ → Bool) → Numbers h → CloseOk h b lost gone → Numbers (Close b lost gone ∷ h)
close_line h b lost gone w ok = record {
  olds = λ m i. let o = w.olds m i in let n = ok.newer in omega arith;
  asks = λ r i. absurd (let o = w.olds (Ask b r) i in let n = ok.newer in omega arith);
  flies = w.flies;
  answers = λ c x a i. w.answers c x a i.0;
  replies = λ c x a i. absurd (let o = w.olds (Reply b c x a) i in let n = ok.newer in omega arith);
  granted = λ c x l s sn i. w.granted c x l s sn i.0;
  gives = w.gives;
  blocks = w.blocks;
  held = w.held;
  is_granted = λ l i. w.held l i.0;
  tops = w.tops;
  waits = λ l i. absurd i;
  brings = λ c x k a i t. w.brings c x k a i.0 t;
  positive = λ n p i. w.positive n p i.1;
}

pub hold_was : (h : List Entry) (l : Lock) (s : ℕ) (sn : ℕ → Bool) → Numbers h → HoldOk h l s sn → WasGranted h l
hold_was h l s sn n ok = ⊎_elim (λ (i : (x : ℕ) × Was h (Reply (closed h) l.life x (Granted l s sn))).
    (n.granted l.life i.0 l s sn (n.replies l.life i.0 (Granted l s sn) i.1)).0)
    (λ (i : Was h (Give (closed h) l s sn)). n.gives (closed h) l s sn i) ok.1

hold_line : (h : List Entry) (l : Lock) (s : ℕ) (sn : ℕ → Bool) → Numbers h → HoldOk h l s sn → Numbers (Hold l s sn ∷ h)
hold_line h l s sn w ok = record {
  olds = w.olds;
  asks = w.asks;
  flies = w.flies;
  answers = w.answers;
  replies = w.replies;
  granted = w.granted;
  gives = w.gives;
  blocks = w.blocks;
  held = λ m i. ⊎_elim (λ (e : l ≡ m). subst (λ (x : Lock). WasGranted h x) e (hold_was h l s sn w ok)) (w.held m) i;
  is_granted = w.is_granted;
  tops = w.tops;
  waits = w.waits;
  brings = w.brings;
  positive = w.positive;
}

drop_line : (h : List Entry) (l : Lock) → Numbers h → Numbers (Drop l ∷ h)
drop_line h l w = record {
  olds = w.olds;
  asks = w.asks;
  flies = w.flies;
  answers = w.answers;
  replies = w.replies;
  granted = w.granted;
  gives = w.gives;
  blocks = w.blocks;
  held = λ m i. w.held m i.1;
  is_granted = w.is_granted;
  tops = w.tops;
  waits = w.waits;
  brings = w.brings;
  positive = w.positive;
}

pub numbers_line : (h : List Entry) (e : Entry) → Numbers h → Allowed h e → Numbers (e ∷ h)
numbers_line h (Takes c k ch) w ok = w
numbers_line h (Flies r) w ok = flies_line h r w ok
numbers_line h (Heard r a) w ok = heard_line h r a w ok.0 ok.1
numbers_line h (Hold l s sn) w ok = hold_line h l s sn w ok
numbers_line h (Drop l) w ok = drop_line h l w
numbers_line h (Forgets c) w ok = w
numbers_line h (Tells c call) w ok = w
numbers_line h (Grant r l s sn) w ok = answers_line h (Grant r l s sn) r (Granted l s sn) w (grant_answers h r l s sn ok)
numbers_line h (Wait r l) w ok = answers_line h (Wait r l) r (Waiting l.cookie) w (wait_answers h r l ok)
numbers_line h (Promote l) w ok = promote_line h l w ok
numbers_line h (Acts r a) w ok = answers_line h (Acts r a) r a w (act_answers h r a ok.0 ok.1)
numbers_line h (Txn n r) w ok = answers_line h (Txn n r) r (Done n) w (txn_answers h n r ok.2.number ok.2.fresh)
numbers_line h (Release k) w ok = record {
  olds = w.olds;
  asks = w.asks;
  flies = w.flies;
  answers = w.answers;
  replies = w.replies;
  granted = w.granted;
  gives = w.gives;
  blocks = w.blocks;
  held = w.held;
  is_granted = λ l i. w.is_granted l i.1;
  tops = w.tops;
  waits = w.waits;
  brings = w.brings;
  positive = w.positive;
}
numbers_line h (Evict c) w ok = record {
  olds = w.olds;
  asks = w.asks;
  flies = w.flies;
  answers = w.answers;
  replies = w.replies;
  granted = w.granted;
  gives = w.gives;
  blocks = w.blocks;
  held = w.held;
  is_granted = w.is_granted;
  tops = w.tops;
  waits = λ l i. w.waits l i.1;
  brings = w.brings;
  positive = w.positive;
}
numbers_line h (Commit n) w ok = w
numbers_line h (Close b lost gone) w ok = close_line h b lost gone w ok
numbers_line h (Send m) w ok = send_line h m w ok
