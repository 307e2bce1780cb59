-- The held locks that a printed past shows: each is held by its client's present life, came with a reply that it heard, and is granted
-- still, unless that life was evicted.
use Rattle.std.proofs.Common.{◌≡◌, ℕ, Bool, true, false, List, [], ◌∷◌, ◌⊎◌, inl, inr, ⊎_elim, Option, Some, refl, sym, subst, ap, ◌∙◌}
use Rattle.std.specs.Prelude.{nat_eq, not, if◌then◌else◌}
use Rattle.std.proofs.lemmas.Bool.{and_parts, cond_both, cond-true, cond-false, eqb-true}
use Rattle.lu_base.specs.declared.ids.At.{At}
use Rattle.lu_base.specs.declared.ids.Cookie.{Cookie}
use Rattle.lu_base.specs.declared.ids.Node.{Node}
use Rattle.lu_base.specs.declared.ids.Node.TheVariants.{Client, Target}
use Rattle.lu_base.specs.declared.ids.Stamp.{Stamp}
use Rattle.lu_base.specs.declared.ids.Who.{Who}
use Rattle.lu_base.specs.declared.locks.Lock.{Lock}
use Rattle.lu_msg.specs.declared.messages.Message.TheVariants as message
use Rattle.lu_msg.specs.declared.messages.Reply.{Reply as ReplyTo}
use Rattle.lu_msg.specs.declared.operations.Op.{Op}
use Rattle.lu_held.specs.declared.locks.HeldLock.{HeldLock}
use Rattle.lu_held.specs.declared.locks.Change.TheVariants.{Mark, Pin, Unpin}
use Rattle.lu_held.specs.Locks.{named, is_named}
use Rattle.lu_held.specs.Held.{changed, used, unmarked, without}
use Rattle.lu_spec_machine.specs.Tree.{same_life}
use Rattle.lu_spec_entries.specs.Carried.{Deed, Flight}
use Rattle.lu_spec_entries.specs.Words.{Entry, Tick, Heard, Hold, Drop, Life, Pins, Unpins, Marks, Unmarks, Line, line}
use Rattle.lu_spec_entries.specs.Concerns.{only}
use Rattle.lu_spec_entries.specs.Printed.{printed}
use Rattle.lu_spec_client.specs.Caches.{held_as, with_held, with_brought, brought, held_at}
use Rattle.lu_proof_lawful.specs.Covered.Calls.{life_at}
use Rattle.lu_proof_lawful.specs.Covered.ClientStates.{life_of}
use Rattle.lu_proof_lawful.specs.Covered.TargetStates.{server_of}
use Rattle.lu_proof_lawful.specs.Covered.Heads.{Head}
use Rattle.lu_spec_laws.specs.Words.Lives.{who_is, is_evicted}
use Rattle.lu_spec_laws.specs.Words.Held.{Held, held, given, is_held_by, all_but, with_lock}
use Rattle.lu_spec_laws.proofs.Tests.{clash, refuted}
use Rattle.lu_proof_lawful.proofs.Preconditions.Guards.{In, Did, HeardNow}
use Rattle.lu_proof_lawful.proofs.Preconditions.Grown.{Allowed, Grown}
use Rattle.lu_proof_lawful.proofs.Preconditions.Held.{held_into, nowhere_held}
use Rattle.lu_proof_lawful.proofs.Preconditions.ClientLocks.{with_self}
use Rattle.lu_proof_lawful.proofs.Preconditions.Lists.{self, in_filter, life_self}
use Rattle.lu_proof_lawful.proofs.Preconditions.Parts.{life_is_of}
use Rattle.lu_proof_lawful.proofs.Invariants.Groups.{turn}
use Rattle.lu_proof_lawful.proofs.Invariants.TargetGroups.{Flew, Acted, Gave, IsKind, Evicted, Holding, Locks}
use Rattle.lu_proof_lawful.proofs.Invariants.All.{holds}
use Rattle.lu_proof_lawful.proofs.Invariants.Lines.{only_more}
use Rattle.lu_proof_lawful.proofs.Laws.Printed.{present_is}
use Rattle.lu_proof_lawful.proofs.Laws.CloseSlots.{NoneLeft, evicted_now}
use Rattle.lu_proof_lawful.proofs.Laws.Given.{owed, Showed, all_given, showed_gave}
use Rattle.lu_proof_lawful.proofs.Laws.Granted.{Unique, given_is}
use Rattle.lu_proof_lawful.proofs.Laws.HeldLists.{brought_as, Has, has_held, has_brought, has_changed, has_unmarked, has_used, has_left}

-- ---- what was just heard

-- the reply to what was done at that target, of the client's life, and for what that flight asked
pub record IsHeard (past : List Line) (c t : ℕ) (f : Flight) (r : ReplyTo) : Type 0 where
  pub deed : Deed
  pub acted : Acted (only t past) deed
  pub is : r ≡ record deed.reply { boot = r.boot; committed = r.committed }
  pub who : r.who ≡ life_at c past
  pub of_op : f.op ≡ deed.op

pub reply_is_heard : (head : Head) (past : List Line) (stamp : Stamp) (c t : ℕ) (f : Flight) (r : ReplyTo)
    → Allowed head past (turn stamp (Client c)) (Heard t f r) → Grown head past → IsHeard past c t f r
reply_is_heard head past stamp c t f r a g =
    let ok = a.of t (self t) in
    let h = (holds head past g).at t in
    let m = h.done.sent (Target ok.from) (Client c) (message.Reply r) ok.was in
    let flew = h.done.flew m.deed m.acted in
    let who : m.deed.reply.who ≡ life_of c (only t past) = ap (λ (v : ReplyTo). v.who) (sym m.is) ∙ ok.who in
    let xid : f.xid ≡ flew.0.xid = ok.xid ∙ ap (λ (v : ReplyTo). v.xid.0) m.is ∙ sym flew.2 in
    let same : f ≡ flew.0 = h.numbers.one (life_of c (only t past)) f flew.0 (h.numbers.flying (life_of c (only t past)) f ok.flying)
    (subst (λ (w : Who). Flew (only t past) w flew.0) who flew.1) xid in
    record {
      deed = m.deed;
      acted = m.acted;
      is = m.is;
      who = ok.who ∙ sym (life_is_of c t past);
      of_op = ap (λ (v : Flight). v.op) same
          ∙ flew.3;
    }

-- and nothing was just done
pub heard_now : (head : Head) (past : List Line) (at : At) (c t : ℕ) (f : Flight) (r : ReplyTo) → Grown head past → at.node ≡ Client c
    → HeardNow past at t f r → IsHeard past c t f r × ((d : Deed) → Did past d → ⊥)
heard_now head [] at c t f r g n h = absurd h
heard_now head (l ∷ past) at c t f r g n h = by l.at.node l.entry g.0 h (heard_now head past at c t f r g.1 n)
  where
    one : (a b : ℕ) → Client a ≡ Client b → a ≡ b
    one a b e = cc

    -- a line of the client that starts no life leaves it
    more : (x : Line) (b u : ℕ) (k : Flight) (s : ReplyTo) → (i : IsHeard past b u k s) → life_at b past ≡ life_at b (x ∷ past)
        → IsHeard (x ∷ past) b u k s
    more x b u k s i same = record {
      deed = i.deed;
      acted = only_more u x past i.deed i.acted;
      is = i.is;
      who = i.who ∙ same;
      of_op =
          i.of_op;
    }

    by : (node : Node) (e : Entry) → Allowed head past (turn l.at.stamp node) e → HeardNow (line (turn l.at.stamp node) e ∷ past) at t f r
        → (HeardNow past at t f r → IsHeard past c t f r × ((d : Deed) → Did past d → ⊥))
        → IsHeard (line (turn l.at.stamp node) e ∷ past) c t f r × ((d : Deed) → Did (line (turn l.at.stamp node) e ∷ past) d → ⊥)
    by (Client d) (Heard u k s) a q h =
        let new = line (turn l.at.stamp (Client d)) (Heard u k s) ∷ past in
        let b = more (line (turn l.at.stamp (Client d)) (Heard u k s)) d u k s (reply_is_heard head past l.at.stamp d u k s a g.1) refl in
        let same : d ≡ c = one d c (ap (λ (v : At). v.node) q.0 ∙ n) in (
          subst (λ (v : ℕ). IsHeard new v t f r) same
              (subst (λ (v : ℕ). IsHeard new d v f r) q.1 (subst (λ (v : Flight). IsHeard new d u v r) q.2
              (subst (λ (v : ReplyTo). IsHeard new d u k v) q.3 b))),
          λ e did. did,
        )
    by (Target u) (Heard v k s) a q h = absurd a.ok
    by node (Hold u lock marked size seen) a q h = let b = h q in
        (more (line (turn l.at.stamp node) (Hold u lock marked size seen)) c t f r b.0 refl, λ e did. did)
    by node e a q h = absurd q

-- ---- what is held

-- by a client's present life, of that target
pub record HeldIs (past : List Line) (h : Held) : Type 0 where
  pub client : ℕ
  pub who : h.who ≡ life_at client past
  pub mine : Has h.target h.lock (held_at client past)

abbrev pub AllHeld : List Line → Type 0
AllHeld past = (h : Held) → In h (held (printed past)) → HeldIs past h

-- it stays where that lock does
still : (past new : List Line) (h : Held) (k : HeldIs past h) → life_at k.client past ≡ life_at k.client new
    → Has h.target h.lock (held_at k.client new) → HeldIs new h
still past new h k same m = record { client = k.client; who = k.who ∙ same; mine = m }

module _ (head : Head) where
  locks : (t : ℕ) (past : List Line) → Grown head past → Locks head.osts head.clients (only t past)
  locks t past g = ((holds head past g).at t).locks

  -- what two acts of a target gave under one cookie is one
  pub gave_one : (t : ℕ) (past : List Line) → Grown head past → (d e : Deed) (l k : Lock) → Gave (only t past) d l → Gave (only t past) e k
      → l.cookie.0 ≡ k.cookie.0 → l ≡ k
  gave_one t past g d e l k i j q = ((locks t past g).once d e l k i j (ap cookie q)).1
    where
      cookie : ℕ → Cookie
      cookie n = record { 0 = n }

  pub unique : (t : ℕ) (past : List Line) → Grown head past → Unique t past
  unique t past g k l i j q = let a = showed_gave head t past k g i in let b = showed_gave head t past l g j
      in gave_one t past g a.0 b.0 k l a.1 b.1 q

  -- each held lock was given
  pub has_gave : (past : List Line) → Grown head past → (c t : ℕ) (k : Lock) → Has t k (held_at c past) → (d : Deed)
      × Gave (only t past) d k
  has_gave past g c t k (x, i, w, e) =
      let m = (locks t past g).held c x (held_into c t past x w i) in
      (m.deed, subst (λ (l : Lock). Gave (only t past) m.deed l) e m.gave)

  -- and is granted, once a close has none left to show
  pub held_granted : (past : List Line) → Grown head past → (h : Held) → NoneLeft head h.target past
      → HeldIs past h → In h.lock (server_of head.osts (only h.target past)).granted ⊎ (is_evicted h.target (printed past) h.who ≡ true)
  held_granted past g h none is =
      let t = h.target in
      let x = is.mine in
      let k = (locks t past g).held is.client x.0 (held_into is.client t past x.0 x.2 x.1) in
      let mine : h.who ≡ life_of is.client (only t past) = is.who ∙ life_is_of is.client t past in
      ⊎_elim
      (λ (q : In x.0.lock (server_of head.osts (only t past)).granted). inl
      (subst (λ (l : Lock). In l (server_of head.osts (only t past)).granted) x.3 q))
      (λ (q : Evicted (only t past) (life_of is.client (only t past))). inr
      (evicted_now head t past g none h.who (subst (λ (w : Who). Evicted (only t past) w) (sym mine) q)))
      k.granted

  -- each is for reading on bits, or on a range whose ends are in order
  pub gave_kind : (t : ℕ) (past : List Line) → Grown head past → (d : Deed) (l : Lock) → Gave (only t past) d l
      → IsKind l.ask.mode l.ask.policy
  gave_kind t past g d l i = (locks t past g).kinds d l i

  pub held_kind : (past : List Line) → Grown head past → (h : Held) → HeldIs past h → IsKind h.lock.ask.mode h.lock.ask.policy
  held_kind past g h is = let k = has_gave past g is.client h.target h.lock is.mine in gave_kind h.target past g k.0 h.lock k.1

  -- a lock that came with a reply was given
  pub reply_gave : (past : List Line) (c t : ℕ) (f : Flight) (r : ReplyTo) (l : Lock) → (i : IsHeard past c t f r) → In l (brought f.op r)
      → Gave (only t past) i.deed l
  reply_gave past c t f r l i j = (
    i.acted,
    inl (subst (λ (ls : List Lock). In l ls)
        (ap (λ (o : Op). brought o r) i.of_op ∙ brought_as i.deed.op r i.deed.reply i.is) j),
  )

  -- ---- a lock is held

  -- the lock with that cookie that was given to the client's life
  pub given_now : (past : List Line) (stamp : Stamp) (c t : ℕ) (l : Lock) (marked : Bool) (size : Option ℕ) (seen : List ℕ)
      → Allowed head past (turn stamp (Client c)) (Hold t l marked size seen) → Grown head past
      → (given t (who_is c (printed past)) l.cookie.0 (printed past) ≡ Some l) × ((d : Deed) × Gave (only t past) d l)
  given_now past stamp c t l marked size seen a g = (
    subst (λ (v : Who). given t v l.cookie.0 (printed past) ≡ Some l) here (given_is t head past l g (unique t past g) shown),
    (k.deed, gave),
  )
    where
      new : List Line
      new = line (turn stamp (Client c)) (Hold t l marked size seen) ∷ past

      P : List Line
      P = line (turn stamp (Client c)) (Hold t l marked size seen) ∷ only t past

      same : only t new ≡ P
      same = cond-true (nat_eq t t) P (only t past) (self t)

      came : In (held_as t l marked) (held_at c P)
      came = subst (λ (hs : List HeldLock). In (held_as t l marked) hs)
          (sym (cond-true (nat_eq c c) (with_held (held_as t l marked) (held_at c (only t past))) (held_at c (only t past)) (self c)))
          (with_self (held_as t l marked) (held_at c (only t past)))

      k : Holding head.osts P c (held_as t l marked)
      k = (subst (λ (p : List Line). Locks head.osts head.clients p) same (locks t new (a, g))).held c (held_as t l marked) came

      gave : Gave (only t past) k.deed l
      gave = k.gave

      shown : Showed t past l
      shown = ⊎_elim (λ (q : Did past k.deed). absurd (owed past (turn stamp (Client c)) k.deed (Hold t l marked size seen) q a.owes))
          (λ (q : Showed t past l). q) (all_given head past g t k.deed l gave)

      here : l.ask.who ≡ who_is c (printed past)
      here = (locks t past g).whose k.deed l gave ∙ k.who ∙ sym (life_is_of c t past) ∙ sym (present_is head c past g)

  -- ---- each line keeps it

  -- of a client's line
  at_own : (past : List Line) (c d t : ℕ) (k : Lock) (new : List HeldLock → List HeldLock)
      → (c ≡ d → Has t k (held_at c past) → Has t k (new (held_at c past)))
      → Has t k (held_at c past) → Has t k (if nat_eq c d then new (held_at c past) else held_at c past)
  at_own past c d t k new more m = cond_both (nat_eq c d) (new (held_at c past)) (held_at c past) (λ (v : List HeldLock). Has t k v)
      (λ e. more (eqb-true c d e) m) (λ e. m)

  -- one of the client's own with the cookie of a lock that was given there is that lock
  own_same : (past : List Line) → Grown head past → (c u t : ℕ) (e : Deed) (l k : Lock) → Gave (only u past) e l → Has t k (held_at c past)
      → u ≡ t → l.cookie.0 ≡ k.cookie.0 → l ≡ k
  own_same past g c u t e l k i m same q = let r = has_gave past g c t k m
      in gave_one t past g e r.0 l k (subst (λ (v : ℕ). Gave (only v past) e l) same i) r.1 q

  holds_one : (past : List Line) (stamp : Stamp) (d t : ℕ) (lock : Lock) (marked : Bool) (size : Option ℕ) (seen : List ℕ)
      → Allowed head past (turn stamp (Client d)) (Hold t lock marked size seen) → Grown head past
      → AllHeld past → AllHeld (line (turn stamp (Client d)) (Hold t lock marked size seen) ∷ past)
  holds_one past stamp d t lock marked size seen a g k h i =
      ⊎_elim
      (λ (q : record { who = W; target = t; lock = lock } ≡ h).
      subst (λ (v : Held). HeldIs new v) q (record { client = d; who = mine_who; mine = mine }))
      (λ (q : In h (all_but W t lock.cookie.0 (held (printed past)))).
      let old = k h (in_filter (λ (x : Held). not (is_held_by W t lock.cookie.0 x)) h (held (printed past)) q).0 in
      still past new h old refl
      (at_own past old.client d h.target h.lock (with_held (held_as t lock marked))
      (λ e m. has_held t h.target lock marked h.lock (held_at old.client past)
      (own_same past g old.client t h.target now.1.0 lock h.lock now.1.1 m) m) old.mine))
      (subst (λ (o : Option Lock). In h (with_lock W t o (held (printed past)))) now.0 i)
    where
      new : List Line
      new = line (turn stamp (Client d)) (Hold t lock marked size seen) ∷ past

      W : Who
      W = who_is d (printed past)

      now : (given t (who_is d (printed past)) lock.cookie.0 (printed past) ≡ Some lock) × ((e : Deed) × Gave (only t past) e lock)
      now = given_now past stamp d t lock marked size seen a g

      mine_who : W ≡ life_at d past
      mine_who = present_is head d past g

      mine : Has t lock (held_at d new)
      mine = (
        held_as t lock marked,
        subst (λ (hs : List HeldLock). In (held_as t lock marked) hs)
            (sym (cond-true (nat_eq d d) (with_held (held_as t lock marked) (held_at d past)) (held_at d past) (self d)))
            (with_self (held_as t lock marked) (held_at d past)),
        refl,
        refl,
      )

  drops_one : (past : List Line) (stamp : Stamp) (d t : ℕ) (lock : Lock) → Allowed head past (turn stamp (Client d)) (Drop t lock)
      → Grown head past → AllHeld past → AllHeld (line (turn stamp (Client d)) (Drop t lock) ∷ past)
  drops_one past stamp d t lock a g k h i =
      still past (line (turn stamp (Client d)) (Drop t lock) ∷ past) h old refl
      (at_own past old.client d h.target h.lock (without (named (record { 0 = t }) lock.cookie))
      (λ e m. has_left (named (record { 0 = t }) lock.cookie) h.target h.lock (held_at old.client past) (λ x w q. other e x w q) m)
      old.mine)
    where
      W : Who
      W = who_is d (printed past)

      f : In h (held (printed past)) × (not (is_held_by W t lock.cookie.0 h) ≡ true)
      f = in_filter (λ (x : Held). not (is_held_by W t lock.cookie.0 x)) h (held (printed past)) i

      old : HeldIs past h
      old = k h f.0

      mine : old.client ≡ d → h.who ≡ W
      mine e = old.who ∙ ap (λ (c : ℕ). life_at c past) e ∙ sym (present_is head d past g)

      is_it : old.client ≡ d → h.target ≡ t → h.lock.cookie.0 ≡ lock.cookie.0 → is_held_by W t lock.cookie.0 h ≡ true
      is_it e w q =
          let target : nat_eq h.target t ≡ true = subst (λ (v : ℕ). nat_eq h.target v ≡ true) w (self h.target) in
          let cookie : nat_eq h.lock.cookie.0 lock.cookie.0 ≡ true =
          subst (λ (v : ℕ). nat_eq h.lock.cookie.0 v ≡ true) q (self h.lock.cookie.0) in
          let who : same_life h.who W ≡ true = subst (λ (v : Who). same_life h.who v ≡ true) (mine e) (life_self h.who) in
          rw (target, cookie, who) refl

      other : old.client ≡ d → (x : HeldLock) → x.target.0 ≡ h.target → x.lock ≡ h.lock → is_named (named (record { 0 = t }) lock.cookie) x
          ≡ false
      other e x w q = by (is_named (named (record { 0 = t }) lock.cookie) x) refl
        where
          by : (b : Bool) → is_named (named (record { 0 = t }) lock.cookie) x ≡ b → b ≡ false
          by false n = refl
          by true n =
              let p = and_parts (nat_eq t x.target.0) (nat_eq lock.cookie.0 x.lock.cookie.0) n in
              let yes = is_it e (sym w ∙ sym (eqb-true t x.target.0 p.0))
              (ap (λ (v : Lock). v.cookie.0) (sym q) ∙ sym (eqb-true lock.cookie.0 x.lock.cookie.0 p.1)) in
              let f1 = f.1 in
              absurd (clash (is_held_by W t lock.cookie.0 h) yes (refuted (is_held_by W t lock.cookie.0 h) f1))

  hears_one : (past : List Line) (stamp : Stamp) (d t : ℕ) (f : Flight) (r : ReplyTo)
      → Allowed head past (turn stamp (Client d)) (Heard t f r) → Grown head past → AllHeld past
      → AllHeld (line (turn stamp (Client d)) (Heard t f r) ∷ past)
  hears_one past stamp d t f r a g k h i =
      let old = k h i in
      let heard = reply_is_heard head past stamp d t f r a g in
      still past (line (turn stamp (Client d)) (Heard t f r) ∷ past) h old refl
      (at_own past old.client d h.target h.lock (with_brought t (brought f.op r))
      (λ e m. has_brought t h.target (brought f.op r) h.lock (held_at old.client past)
      (λ l j same q. own_same past g old.client t h.target heard.deed l h.lock (reply_gave past d t f r l heard j) m same q) m)
      old.mine)

  -- a new life begins when nothing is held
  lives_one : (past : List Line) (stamp : Stamp) (d : ℕ) (w : Who) → Allowed head past (turn stamp (Client d)) (Life w) → Grown head past
      → AllHeld past → AllHeld (line (turn stamp (Client d)) (Life w) ∷ past)
  lives_one past stamp d w a g k h i = by (nat_eq old.client d) refl
    where
      old : HeldIs past h
      old = k h i

      empty : held_at d past ≡ []
      empty = nowhere_held d past (λ t. (a.of t refl).empty)

      by : (b : Bool) → nat_eq old.client d ≡ b → HeldIs (line (turn stamp (Client d)) (Life w) ∷ past) h
      by true e = absurd (subst (λ (hs : List HeldLock). In old.mine.0 hs)
          (ap (λ (c : ℕ). held_at c past) (eqb-true old.client d e) ∙ empty) old.mine.1)
      by false e = still past (line (turn stamp (Client d)) (Life w) ∷ past) h old
          (sym (cond-false (nat_eq old.client d) w (life_at old.client past) e)) old.mine

  keeps_held : (past : List Line) (stamp : Stamp) (node : Node) (e : Entry) → Allowed head past (turn stamp node) e → Grown head past
      → AllHeld past → AllHeld (line (turn stamp node) e ∷ past)
  keeps_held past stamp (Client d) (Hold t lock marked size seen) a g k h i = holds_one past stamp d t lock marked size seen a g k h i
  keeps_held past stamp (Client d) (Drop t lock) a g k h i = drops_one past stamp d t lock a g k h i
  keeps_held past stamp (Client d) (Heard t f r) a g k h i = hears_one past stamp d t f r a g k h i
  keeps_held past stamp (Client d) (Pins name) a g k h i =
      let old = k h i in
      still past (line (turn stamp (Client d)) (Pins name) ∷ past) h old refl
      (at_own past old.client d h.target h.lock (changed name Pin)
      (λ e m. has_changed name Pin h.target h.lock (held_at old.client past) m) old.mine)
  keeps_held past stamp (Client d) (Unpins name) a g k h i =
      let old = k h i in
      still past (line (turn stamp (Client d)) (Unpins name) ∷ past) h old refl
      (at_own past old.client d h.target h.lock (λ hs. used name (changed name Unpin hs))
      (λ e m. has_used name h.target h.lock (changed name Unpin (held_at old.client past))
      (has_changed name Unpin h.target h.lock (held_at old.client past) m)) old.mine)
  keeps_held past stamp (Client d) (Marks name) a g k h i =
      let old = k h i in
      still past (line (turn stamp (Client d)) (Marks name) ∷ past) h old refl
      (at_own past old.client d h.target h.lock (changed name Mark)
      (λ e m. has_changed name Mark h.target h.lock (held_at old.client past) m) old.mine)
  keeps_held past stamp (Client d) (Unmarks t) a g k h i =
      let old = k h i in
      still past (line (turn stamp (Client d)) (Unmarks t) ∷ past) h old refl
      (at_own past old.client d h.target h.lock (unmarked (record { 0 = t }))
      (λ e m. has_unmarked (record { 0 = t }) h.target h.lock (held_at old.client past) m) old.mine)
  keeps_held past stamp (Client d) (Life w) a g k h i = lives_one past stamp d w a g k h i
  keeps_held past stamp (Target t) (Life w) a g k h i = absurd a.ok
  keeps_held past stamp (Target t) Tick a g k h i = let old = k h i
      in still past (line (turn stamp (Target t)) Tick ∷ past) h old refl old.mine
  keeps_held past stamp node e a g k h i = let old = k h i in still past (line (turn stamp node) e ∷ past) h old refl old.mine

  pub all_held : (past : List Line) → Grown head past → AllHeld past
  all_held [] g h i = absurd i
  all_held (l ∷ past) g h i = keeps_held past l.at.stamp l.at.node l.entry g.0 g.1 (all_held past g.1) h i
