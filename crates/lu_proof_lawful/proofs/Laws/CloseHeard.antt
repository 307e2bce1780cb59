-- What lives heard of a target, by its story and by the laws: the numbers of the replies that they heard, and those that these name.
use Rattle.std.proofs.Common.{◌≡◌, ℕ, Bool, true, false, List, [], ◌∷◌, Option, ◌⊎◌, inl, inr, ⊎_elim, refl, sym, subst, ap, ◌∙◌}
use Rattle.std.specs.Prelude.{nat_eq, ◌&&◌, ◌||◌, if◌then◌else◌}
use Rattle.std.specs.List.{list_any}
use Rattle.std.proofs.lemmas.Bool.{and_parts, cond-true, eqb-true, eq-eqb, true≢false}
use Rattle.lu_base.specs.declared.ids.At.{At}
use Rattle.lu_base.specs.declared.ids.Cookie.{Cookie}
use Rattle.lu_base.specs.declared.ids.Node.{Node}
use Rattle.lu_base.specs.declared.ids.Node.TheVariants.{Client, Target}
use Rattle.lu_base.specs.declared.ids.Stamp.{Stamp}
use Rattle.lu_base.specs.declared.ids.Who.{Who}
use Rattle.lu_base.specs.declared.locks.Lock.{Lock}
use Rattle.lu_msg.specs.declared.messages.GrantNotice.{GrantNotice}
use Rattle.lu_msg.specs.declared.messages.Message.{Message}
use Rattle.lu_msg.specs.declared.messages.Message.TheVariants as message
use Rattle.lu_msg.specs.declared.messages.Reply.{Reply as ReplyTo}
use Rattle.lu_trace.specs.declared.entries.Entry.TheVariants as trace
use Rattle.lu_spec_entries.specs.Carried.{Flight}
use Rattle.lu_spec_entries.specs.Words.{Entry, Take, Heard, Hold, Line, line, same_life}
use Rattle.lu_spec_entries.specs.Concerns.{concerns, only}
use Rattle.lu_spec_entries.specs.Printed.{printed}
use Rattle.lu_proof_lawful.specs.Covered.ClientStates.{is_own}
use Rattle.lu_proof_lawful.specs.Covered.Heads.{Head}
use Rattle.lu_spec_laws.specs.Words.Pasts.{same_turn, some_line}
use Rattle.lu_spec_laws.specs.Words.Sends.{Sending, sending, with_taken, taken}
use Rattle.lu_spec_laws.specs.Words.Lives.{is_by}
use Rattle.lu_spec_laws.specs.Words.Learned.{is_reply_to, is_grant_to, hears_one, holds_by_one, carries, names, lets_see, heard_number, saw}
use Rattle.lu_proof_lawful.proofs.Preconditions.Guards.{In, TookNow, HeardNow, Later, HoldsOk}
use Rattle.lu_proof_lawful.proofs.Preconditions.ClientGuards.{GivenOk}
use Rattle.lu_proof_lawful.proofs.Preconditions.Grown.{Allowed, Grown}
use Rattle.lu_proof_lawful.proofs.Preconditions.ClientLocks.{any_true, any_passes}
use Rattle.lu_proof_lawful.proofs.Preconditions.Lists.{self, life_self, own_is}
use Rattle.lu_proof_lawful.proofs.Preconditions.Parts.{life_is_of}
use Rattle.lu_proof_lawful.proofs.Invariants.Groups.{turn, HeardAs}
use Rattle.lu_proof_lawful.proofs.Invariants.TargetGroups.{SawIn}
use Rattle.lu_proof_lawful.proofs.Invariants.Keeps.{now_heard}
use Rattle.lu_proof_lawful.proofs.Laws.Turns.{later_before, same_turn_self}
use Rattle.lu_proof_lawful.proofs.Laws.Printed.{flip, sending_is, own_by, own_story}
use Rattle.lu_proof_lawful.proofs.Laws.Hearing.{other_turn}

-- ---- what a turn took

-- a turn that is still to come has taken nothing
untaken : (head : Head) (past : List Line) (at : At) → Grown head past → Later past at → taken (printed past) at ≡ []
untaken head [] at g later = refl
untaken head (l ∷ past) at g later = by l.entry (untaken head past at g.1 (later_before l past at g.0.steps later))
  where
    off : (b : Bool) (ss : List Sending) → b ≡ false → taken (printed past) at ≡ [] → (if b then ss else taken (printed past) at) ≡ []
    off false ss e h = h
    off true ss e h = absurd (cc)

    by : (e : Entry) → taken (printed past) at ≡ [] → taken (printed (line l.at e ∷ past)) at ≡ []
    by (Take n sender m) h = off (same_turn l.at at) (with_taken (sending (printed past) n) (taken (printed past) at))
        (other_turn l.at at later) h
    by _ h = h

-- it takes one message
pub takes_one : (head : Head) (past : List Line) (at : At) (from : Node) (m : Message) → Grown head past → TookNow past at from m
    → taken (printed past) at ≡ record { from = from; to = at.node; message = m } ∷ []
takes_one head [] at from m g t = absurd t
takes_one head (l ∷ past) at from m g t = by l.entry g.0 t
  where
    taking : (from to : Node) → Message → List Sending → List Sending
    taking from to m old = record { from = from; to = to; message = m } ∷ old

    by : (e : Entry) → Allowed head past l.at e → TookNow (line l.at e ∷ past) at from m → taken (printed (line l.at e ∷ past)) at
        ≡ record { from = from; to = at.node; message = m } ∷ []
    by (Take n sender msg) k t =
        let old : taken (printed past) at ≡ [] = untaken head past at g.1 (subst (λ (v : At). Later past v) t.0 k.ok.later) in
        cond-true (same_turn l.at at) (with_taken (sending (printed past) n) (taken (printed past) at)) (taken (printed past) at)
        (subst (λ (v : At). same_turn l.at v ≡ true) t.0 (same_turn_self l.at))
        ∙ ap (λ (o : Option Sending). with_taken o (taken (printed past) at)) (sending_is past n sender l.at.node msg k.ok.sent)
        ∙ ap (taking sender l.at.node msg) old
        ∙ ap (λ (v : Node). taking v l.at.node msg []) t.1
        ∙ ap (λ (v : At). taking from v.node msg []) t.0
        ∙ ap (λ (v : Message). taking from at.node v []) t.2
    by _ k t = absurd t

-- a reply, where it was heard just now
took_reply : (head : Head) (past : List Line) (at : At) (t : ℕ) (f : Flight) (r : ReplyTo) → Grown head past → HeardNow past at t f r
    → taken (printed past) at ≡ record { from = Target t; to = at.node; message = message.Reply r } ∷ []
took_reply head [] at t f r g h = absurd h
took_reply head (l ∷ past) at t f r g h = by l.at.node l.entry g h (λ k. took_reply head past at t f r g.1 k)
  where
    by : (node : Node) (e : Entry) → Grown head (line (turn l.at.stamp node) e ∷ past)
        → HeardNow (line (turn l.at.stamp node) e ∷ past) at t f r
        → (HeardNow past at t f r → taken (printed past) at ≡ record { from = Target t; to = at.node; message = message.Reply r } ∷ [])
        → taken (printed (line (turn l.at.stamp node) e ∷ past)) at
        ≡ record { from = Target t; to = at.node; message = message.Reply r } ∷ []
    by (Client c) (Heard u x y) g h ih =
        subst (λ (v : ReplyTo). taken (printed past) at ≡ record { from = Target t; to = at.node; message = message.Reply v } ∷ []) h.3
        (subst (λ (v : ℕ). taken (printed past) at ≡ record { from = Target v; to = at.node; message = message.Reply y } ∷ []) h.1
        (takes_one head past at (Target u) (message.Reply y) g.1
        (subst (λ (v : At). TookNow past v (Target u) (message.Reply y)) h.0 g.0.ok.1)))
    by (Target u) (Heard v x y) g h ih = absurd g.0.ok
    by node (Hold u lock marked size seen) g h ih = ih h
    by node e g h ih = absurd h

-- ---- one line

module _ (test : ReplyTo → Bool) (t : ℕ) (who : Who) where
  one_reply : (x : ℕ) (u : ℕ) (to : Node) (r : ReplyTo) → list_any (is_reply_to test t who x)
      (record { from = Target u; to = to; message = message.Reply r } ∷ [])
      ≡ (nat_eq u t && same_life r.who who && nat_eq r.xid.0 x && test r)
  one_reply x u to r = by (nat_eq u t && same_life r.who who && nat_eq r.xid.0 x && test r)
    where
      by : (b : Bool) → (b || false) ≡ b
      by true = refl
      by false = refl

  -- the law's test of a line that hears
  hears_test : (head : Head) (past : List Line) (stamp : Stamp) (c u : ℕ) (f : Flight) (r : ReplyTo)
      → Allowed head past (turn stamp (Client c)) (Heard u f r) → Grown head past
      → hears_one test t who (printed past) (record { at = turn stamp (Client c); entry = trace.Heard (record { 0 = u }) r.xid })
      ≡ (nat_eq u t && is_own who (only t past) (Client c) && (nat_eq u t && same_life r.who who && nat_eq r.xid.0 r.xid.0 && test r))
  hears_test head past stamp c u f r k g =
      ap (λ (ss : List Sending). nat_eq u t && is_by who (printed past) (Client c) && list_any (is_reply_to test t who r.xid.0) ss)
      (takes_one head past (turn stamp (Client c)) (Target u) (message.Reply r) g k.ok.1)
      ∙ ap (λ (b : Bool). nat_eq u t && is_by who (printed past) (Client c) && b) (one_reply r.xid.0 u (Client c) r)
      ∙ ap (λ (b : Bool). nat_eq u t && b && (nat_eq u t && same_life r.who who && nat_eq r.xid.0 r.xid.0 && test r))
      (own_by head who past (Client c) g ∙ own_story t who past (Client c))

  -- ---- over the whole past

  either : (a b : Bool) → (a || b) ≡ true → (a ≡ true) ⊎ (b ≡ true)
  either true b e = inl refl
  either false b e = inr e

  heard_on : (l : Line) (P : List Line) (b : Bool) (f : Flight) (r : ReplyTo) → HeardAs P who f r → HeardAs (if b then l ∷ P else P) who f r
  heard_on l P false f r h = h
  heard_on l P true f r h = by l.entry
    where
      by : (e : Entry) → HeardAs (line l.at e ∷ P) who f r
      by (Heard u g k) = inr h
      by _ = h

  -- what the laws hold to be heard was heard
  pub law_heard : (head : Head) (past : List Line) → Grown head past → some_line (hears_one test t who) (printed past) ≡ true → (f : Flight)
      × (r : ReplyTo) × HeardAs (only t past) who f r × (test r ≡ true)
  law_heard head [] g e = absurd (cc)
  law_heard head (l ∷ past) g e = by l.at.node l.entry g.0 e (law_heard head past g.1)
    where
      P : List Line
      P = only t past

      Found : List Line → Type 0
      Found p = (f : Flight) × (r : ReplyTo) × HeardAs p who f r × (test r ≡ true)

      more : (node : Node) (x : Entry) → Found P → Found (only t (line (turn l.at.stamp node) x ∷ past))
      more node x h = (h.0, h.1, heard_on (line (turn l.at.stamp node) x) P (concerns t node x) h.0 h.1 h.2, h.3)

      now : (c u : ℕ) (f : Flight) (r : ReplyTo) → (nat_eq u t && is_own who P (Client c)
          && (nat_eq u t && same_life r.who who && nat_eq r.xid.0 r.xid.0 && test r)) ≡ true
          → Found (only t (line (turn l.at.stamp (Client c)) (Heard u f r) ∷ past))
      now c u f r q =
          let a = and_parts (nat_eq u t && is_own who P (Client c)) _ q in
          let b = and_parts (nat_eq u t) (is_own who P (Client c)) a.0 in
          let d = and_parts (nat_eq u t && same_life r.who who && nat_eq r.xid.0 r.xid.0) (test r) a.1 in (
            f,
            r,
            subst (λ (v : Bool). HeardAs (if v then line (turn l.at.stamp (Client c)) (Heard u f r) ∷ P else P) who f r)
                (sym (flip t u ∙ b.0)) (inl (b.1, refl, refl)),
            d.1,
          )

      by : (node : Node) (x : Entry) → Allowed head past (turn l.at.stamp node) x
          → some_line (hears_one test t who) (printed (line (turn l.at.stamp node) x ∷ past)) ≡ true
          → (some_line (hears_one test t who) (printed past) ≡ true → Found P)
          → Found (only t (line (turn l.at.stamp node) x ∷ past))
      by (Client c) (Heard u f r) k e h = ⊎_elim
          (λ q. now c u f r (sym (hears_test head past l.at.stamp c u f r k g.1) ∙ q))
          (λ q. more (Client c) (Heard u f r) (h q))
          (either _ (some_line (hears_one test t who) (printed past)) e)
      by (Target u) (Heard v f r) k e h = absurd k.ok
      by node x k e h = more node x (h e)

  -- and what was heard the laws hold to be heard
  pub heard_law : (head : Head) (past : List Line) (f : Flight) (r : ReplyTo) → Grown head past → HeardAs (only t past) who f r → test r
      ≡ true → some_line (hears_one test t who) (printed past) ≡ true
  heard_law head [] f r g i e = absurd i
  heard_law head (l ∷ past) f r g i e = by l.at.node l.entry g.0 i (λ j. heard_law head past f r g.1 j e)
    where
      P : List Line
      P = only t past

      right : (a : Bool) → some_line (hears_one test t who) (printed past) ≡ true → (a || some_line (hears_one test t who) (printed past))
          ≡ true
      right true q = refl
      right false q = q

      left : (a : Bool) → a ≡ true → (a || some_line (hears_one test t who) (printed past)) ≡ true
      left true q = refl
      left false q = absurd (cc)

      both : (a b : Bool) → a ≡ true → b ≡ true → (a && b) ≡ true
      both true true p q = refl
      both true false p q = absurd (cc)
      both false b p q = absurd (cc)

      now : (c u : ℕ) (x : Flight) (k : ReplyTo) → Allowed head past (turn l.at.stamp (Client c)) (Heard u x k) → nat_eq t u ≡ true
          → is_own who P (Client c) ≡ true → k ≡ r → some_line (hears_one test t who)
          (printed (line (turn l.at.stamp (Client c)) (Heard u x k) ∷ past)) ≡ true
      now c u x k a here own same =
          let ok = a.of t here in
          let at : nat_eq u t ≡ true = flip u t ∙ here in
          let mine : same_life k.who who ≡ true = subst (λ (w : Who). same_life k.who w ≡ true) (ok.who ∙ sym (own_is who P c own))
          (life_self k.who) in
          left _ (hears_test head past l.at.stamp c u x k a g.1
          ∙ both (nat_eq u t && is_own who P (Client c)) _ (both (nat_eq u t) (is_own who P (Client c)) at own)
          (both (nat_eq u t && same_life k.who who && nat_eq k.xid.0 k.xid.0) (test k)
          (both (nat_eq u t && same_life k.who who) (nat_eq k.xid.0 k.xid.0) (both (nat_eq u t) (same_life k.who who) at mine)
          (self k.xid.0)) (ap test same ∙ e)))

      own : (c u : ℕ) (x : Flight) (k : ReplyTo) → Allowed head past (turn l.at.stamp (Client c)) (Heard u x k) → (b : Bool) → nat_eq t u
          ≡ b → HeardAs (if b then line (turn l.at.stamp (Client c)) (Heard u x k) ∷ P else P) who f r
          → (HeardAs P who f r → some_line (hears_one test t who) (printed past) ≡ true)
          → some_line (hears_one test t who) (printed (line (turn l.at.stamp (Client c)) (Heard u x k) ∷ past)) ≡ true
      own c u x k a false q i h = right _ (h i)
      own c u x k a true q i h = ⊎_elim
          (λ (p : (is_own who P (Client c) ≡ true) × (x ≡ f) × (k ≡ r)). now c u x k a q p.0 p.2)
          (λ (j : HeardAs P who f r). right _ (h j))
          i

      still : (node : Node) (x : Entry) (b : Bool) → (HeardAs (line (turn l.at.stamp node) x ∷ P) who f r → HeardAs P who f r)
          → HeardAs (if b then line (turn l.at.stamp node) x ∷ P else P) who f r → HeardAs P who f r
      still node x true f i = f i
      still node x false f i = i

      by : (node : Node) (x : Entry) → Allowed head past (turn l.at.stamp node) x
          → HeardAs (only t (line (turn l.at.stamp node) x ∷ past)) who f r
          → (HeardAs P who f r → some_line (hears_one test t who) (printed past) ≡ true)
          → some_line (hears_one test t who) (printed (line (turn l.at.stamp node) x ∷ past)) ≡ true
      by (Client c) (Heard u x k) a i h = own c u x k a (nat_eq t u) refl i h
      by (Target u) (Heard v x k) a i h = absurd a.ok
      by node x a i h = h (still node x (concerns t node x) (λ j. j) i)

-- ---- what it saw: in a reply, or with a lock that had waited

-- what was heard names it
pub heard_saw : (past : List Line) (who : Who) (f : Flight) (r : ReplyTo) (n : ℕ) → HeardAs past who f r → In n r.seen → SawIn past who n
heard_saw [] who f r n h i = absurd h
heard_saw (l ∷ past) who f r n h i = by l.entry h (λ k. heard_saw past who f r n k i)
  where
    by : (e : Entry) → HeardAs (line l.at e ∷ past) who f r → (HeardAs past who f r → SawIn past who n) → SawIn (line l.at e ∷ past) who n
    by (Heard t g k) (inl q) ih = inl (q.0, subst (λ (x : ReplyTo). In n x.seen) (sym q.2) i)
    by (Heard t g k) (inr j) ih = inr (ih j)
    by (Hold t lock marked size seen) j ih = inr (ih j)
    by e j ih = ih j

-- what was heard just now is so in the target's story
now_there : (past : List Line) (at : At) (t c : ℕ) (f : Flight) (r : ReplyTo) → at.node ≡ Client c → HeardNow past at t f r
    → HeardNow (only t past) at t f r
now_there [] at t c f r q h = absurd h
now_there (l ∷ past) at t c f r q h = by l.entry h (λ k. now_there past at t c f r q k)
  where
    on : (e : Entry) → (b : Bool) → (HeardNow (only t past) at t f r → HeardNow (line l.at e ∷ only t past) at t f r)
        → HeardNow (only t past) at t f r → HeardNow (if b then line l.at e ∷ only t past else only t past) at t f r
    on e true k j = k j
    on e false k j = j

    by : (e : Entry) → HeardNow (line l.at e ∷ past) at t f r → (HeardNow past at t f r → HeardNow (only t past) at t f r)
        → HeardNow (only t (line l.at e ∷ past)) at t f r
    by (Heard u g k) h ih =
        let node : l.at.node ≡ Client c = ap (λ (v : At). v.node) h.0 ∙ q in
        subst (λ (b : Bool). HeardNow (if b then line l.at (Heard u g k) ∷ only t past else only t past) at t f r)
        (sym (ap (λ (v : Node). concerns t v (Heard u g k)) node ∙ ap (nat_eq t) h.1 ∙ self t)) h
    by (Hold u lock marked size seen) h ih = on (Hold u lock marked size seen) (concerns t l.at.node (Hold u lock marked size seen))
        (λ j. j) (ih h)
    by e h ih = absurd h

module _ (n t : ℕ) (who : Who) where
  -- the law's test of a lock that is held by a grant
  one_grant : (cookie u : ℕ) (to : Node) (g : GrantNotice) → list_any (is_grant_to (lets_see n) t who cookie)
      (record { from = Target u; to = to; message = message.Grant g } ∷ [])
      ≡ (nat_eq u t && same_life g.who who && nat_eq g.cookie.0 cookie && lets_see n g)
  one_grant cookie u to g = by (nat_eq u t && same_life g.who who && nat_eq g.cookie.0 cookie && lets_see n g)
    where
      by : (b : Bool) → (b || false) ≡ b
      by true = refl
      by false = refl

  holds_test : (head : Head) (past : List Line) (stamp : Stamp) (c u : ℕ) (lock : Lock) (g : GrantNotice)
      → TookNow past (turn stamp (Client c)) (Target u) (message.Grant g) → Grown head past
      → holds_by_one (lets_see n) t who (printed past) (record {
        at = turn stamp (Client c);
        entry =
            trace.Hold (record { 0 = u }) lock.cookie;
      })
      ≡ (nat_eq u t && is_own who (only t past) (Client c) && (nat_eq u t && same_life g.who who && nat_eq g.cookie.0 lock.cookie.0
      && lets_see n g))
  holds_test head past stamp c u lock g took grown =
      ap (λ (ss : List Sending). nat_eq u t && is_by who (printed past) (Client c)
      && list_any (is_grant_to (lets_see n) t who lock.cookie.0) ss)
      (takes_one head past (turn stamp (Client c)) (Target u) (message.Grant g) grown took)
      ∙ ap (λ (b : Bool). nat_eq u t && is_by who (printed past) (Client c) && b) (one_grant lock.cookie.0 u (Client c) g)
      ∙ ap (λ (b : Bool). nat_eq u t && b && (nat_eq u t && same_life g.who who && nat_eq g.cookie.0 lock.cookie.0 && lets_see n g))
      (own_by head who past (Client c) grown ∙ own_story t who past (Client c))

  -- one that came with a reply is none
  holds_none : (head : Head) (past : List Line) (stamp : Stamp) (c u : ℕ) (lock : Lock) (f : Flight) (r : ReplyTo)
      → HeardNow past (turn stamp (Client c)) u f r → Grown head past
      → holds_by_one (lets_see n) t who (printed past) (record {
        at = turn stamp (Client c);
        entry =
            trace.Hold (record { 0 = u }) lock.cookie;
      }) ≡ false
  holds_none head past stamp c u lock f r now grown =
      ap (λ (ss : List Sending). nat_eq u t && is_by who (printed past) (Client c)
      && list_any (is_grant_to (lets_see n) t who lock.cookie.0) ss) (took_reply head past (turn stamp (Client c)) u f r grown now)
      ∙ last (nat_eq u t) (is_by who (printed past) (Client c))
    where
      last : (a b : Bool) → (a && b && false) ≡ false
      last true true = refl
      last true false = refl
      last false b = refl

  saw_on : (l : Line) (P : List Line) (b : Bool) → SawIn P who n → SawIn (if b then l ∷ P else P) who n
  saw_on l P false h = h
  saw_on l P true h = by l.entry
    where
      by : (e : Entry) → SawIn (line l.at e ∷ P) who n
      by (Heard u g k) = inr h
      by (Hold u lock marked size seen) = inr h
      by _ = h

  law_held : (head : Head) (past : List Line) → Grown head past → some_line (holds_by_one (lets_see n) t who) (printed past) ≡ true
      → SawIn (only t past) who n
  law_held head [] g e = absurd (cc)
  law_held head (l ∷ past) g e = by l.at.node l.entry g.0 e (law_held head past g.1)
    where
      P : List Line
      P = only t past

      either : (a b : Bool) → (a || b) ≡ true → (a ≡ true) ⊎ (b ≡ true)
      either true b e = inl refl
      either false b e = inr e

      more : (node : Node) (x : Entry) → SawIn P who n → SawIn (only t (line (turn l.at.stamp node) x ∷ past)) who n
      more node x h = saw_on (line (turn l.at.stamp node) x) P (concerns t node x) h

      now : (c u : ℕ) (lock : Lock) (marked : Bool) (size : Option ℕ) (seen : List ℕ)
          → Allowed head past (turn l.at.stamp (Client c)) (Hold u lock marked size seen)
          → holds_by_one (lets_see n) t who (printed past) (record
          { at = turn l.at.stamp (Client c); entry = trace.Hold (record { 0 = u }) lock.cookie }) ≡ true
          → SawIn (only t (line (turn l.at.stamp (Client c)) (Hold u lock marked size seen) ∷ past)) who n
      now c u lock marked size seen k q = of k.ok
        where
          of : HoldsOk past (turn l.at.stamp (Client c)) u lock marked size seen
              ⊎ GivenOk past (turn l.at.stamp (Client c)) c u lock marked size seen
              → SawIn (only t (line (turn l.at.stamp (Client c)) (Hold u lock marked size seen) ∷ past)) who n
          of (inl ok) = absurd (true≢false (sym q ∙ holds_none head past l.at.stamp c u lock ok.flight ok.reply ok.heard g.1))
          of (inr ok) =
              let a = and_parts (nat_eq u t && is_own who P (Client c)) _
              (sym (holds_test head past l.at.stamp c u lock ok.notice ok.took g.1) ∙ q) in
              let b = and_parts (nat_eq u t) (is_own who P (Client c)) a.0 in
              let d = and_parts (nat_eq u t && same_life ok.notice.who who && nat_eq ok.notice.cookie.0 lock.cookie.0)
              (lets_see n ok.notice) a.1 in
              let x = any_true (nat_eq n) ok.notice.seen d.1 in
              let there : In n seen = subst (λ (ns : List ℕ). In n ns) (sym ok.saw)
              (subst (λ (m : ℕ). In m ok.notice.seen) (sym (eqb-true n x.0 x.2)) x.1) in
              subst (λ (v : Bool). SawIn (if v then line (turn l.at.stamp (Client c)) (Hold u lock marked size seen) ∷ P else P) who n)
              (sym (flip t u ∙ b.0)) (inl (b.1, there))

      by : (node : Node) (x : Entry) → Allowed head past (turn l.at.stamp node) x
          → some_line (holds_by_one (lets_see n) t who) (printed (line (turn l.at.stamp node) x ∷ past)) ≡ true
          → (some_line (holds_by_one (lets_see n) t who) (printed past) ≡ true → SawIn P who n)
          → SawIn (only t (line (turn l.at.stamp node) x ∷ past)) who n
      by (Client c) (Hold u lock marked size seen) k e h = ⊎_elim (λ q. now c u lock marked size seen k q)
          (λ q. more (Client c) (Hold u lock marked size seen) (h q))
          (either _ (some_line (holds_by_one (lets_see n) t who) (printed past)) e)
      by (Target u) (Hold v lock marked size seen) k e h = absurd k.ok
      by node x k e h = more node x (h e)

  -- what the laws hold to be seen was seen
  pub law_saw : (head : Head) (past : List Line) → Grown head past → saw t who n (printed past) ≡ true → SawIn (only t past) who n
  law_saw head past g e = by (some_line (hears_one (names n) t who) (printed past)) refl e
    where
      by : (b : Bool) → some_line (hears_one (names n) t who) (printed past) ≡ b
          → (b || some_line (holds_by_one (lets_see n) t who) (printed past)) ≡ true → SawIn (only t past) who n
      by false q e = law_held head past g e
      by true q e =
          let h = law_heard (names n) t who head past g q in
          let a = any_true (nat_eq n) h.1.seen h.3 in
          heard_saw (only t past) who h.0 h.1 n h.2 (subst (λ (m : ℕ). In m h.1.seen) (sym (eqb-true n a.0 a.2)) a.1)

  -- and what was seen the laws hold to be seen
  pub saw_law : (head : Head) (past : List Line) → Grown head past → SawIn (only t past) who n → saw t who n (printed past) ≡ true
  saw_law head [] g i = absurd i
  saw_law head (l ∷ past) g i = by l.at.node l.entry g i (saw_law head past g.1)
    where
      P : List Line
      P = only t past

      heard_by : Bool
      heard_by = some_line (hears_one (names n) t who) (printed past)

      held_by : Bool
      held_by = some_line (holds_by_one (lets_see n) t who) (printed past)

      left : (a x y : Bool) → (x || y) ≡ true → ((a || x) || y) ≡ true
      left true x y q = refl
      left false x y q = q

      right : (a x y : Bool) → (x || y) ≡ true → (x || (a || y)) ≡ true
      right true true y q = refl
      right true false y q = refl
      right false x y q = q

      first : (a b x : Bool) → a ≡ true → ((a || x) || b) ≡ true
      first true b x q = refl
      first false b x q = absurd (cc)

      second : (a x y : Bool) → a ≡ true → (x || (a || y)) ≡ true
      second true true y q = refl
      second true false y q = refl
      second false x y q = absurd (cc)

      both : (a b : Bool) → a ≡ true → b ≡ true → (a && b) ≡ true
      both true true p q = refl
      both true false p q = absurd (cc)
      both false b p q = absurd (cc)

      hears : (c u : ℕ) (f : Flight) (r : ReplyTo) → Allowed head past (turn l.at.stamp (Client c)) (Heard u f r) → nat_eq t u ≡ true
          → is_own who P (Client c) ≡ true → In n r.seen
          → hears_one (names n) t who (printed past) (record {
            at = turn l.at.stamp (Client c);
            entry =
                trace.Heard (record { 0 = u }) r.xid;
          }) ≡ true
      hears c u f r a here own i =
          let at : nat_eq u t ≡ true = flip u t ∙ here in
          let mine : same_life r.who who ≡ true = subst (λ (w : Who). same_life r.who w ≡ true)
          ((a.of t here).who ∙ sym (own_is who P c own)) (life_self r.who) in
          hears_test (names n) t who head past l.at.stamp c u f r a g.1
          ∙ both (nat_eq u t && is_own who P (Client c)) _ (both (nat_eq u t) (is_own who P (Client c)) at own)
          (both (nat_eq u t && same_life r.who who && nat_eq r.xid.0 r.xid.0) (names n r)
          (both (nat_eq u t && same_life r.who who) (nat_eq r.xid.0 r.xid.0) (both (nat_eq u t) (same_life r.who who) at mine)
          (self r.xid.0)) (any_passes (nat_eq n) n r.seen i (self n)))

      heard : (c u : ℕ) (f : Flight) (r : ReplyTo) → Allowed head past (turn l.at.stamp (Client c)) (Heard u f r) → (b : Bool) → nat_eq t u
          ≡ b → SawIn (if b then line (turn l.at.stamp (Client c)) (Heard u f r) ∷ P else P) who n
          → (SawIn P who n → saw t who n (printed past) ≡ true)
          → saw t who n (printed (line (turn l.at.stamp (Client c)) (Heard u f r) ∷ past)) ≡ true
      heard c u f r a false q i h = left _ heard_by held_by (h i)
      heard c u f r a true q (inl k) h = first _ held_by heard_by (hears c u f r a q k.0 k.1)
      heard c u f r a true q (inr j) h = left _ heard_by held_by (h j)

      held : (c u : ℕ) (lock : Lock) (marked : Bool) (size : Option ℕ) (seen : List ℕ)
          → Allowed head past (turn l.at.stamp (Client c)) (Hold u lock marked size seen) → nat_eq t u ≡ true → is_own who P (Client c)
          ≡ true → In n seen → (SawIn P who n → saw t who n (printed past) ≡ true)
          → saw t who n (printed (line (turn l.at.stamp (Client c)) (Hold u lock marked size seen) ∷ past)) ≡ true
      held c u lock marked size seen a here own i h = of a.ok
        where
          of : HoldsOk past (turn l.at.stamp (Client c)) u lock marked size seen
              ⊎ GivenOk past (turn l.at.stamp (Client c)) c u lock marked size seen
              → saw t who n (printed (line (turn l.at.stamp (Client c)) (Hold u lock marked size seen) ∷ past)) ≡ true
          of (inl ok) =
              let now = now_there past (turn l.at.stamp (Client c)) t c ok.flight ok.reply refl
              (subst (λ (v : ℕ). HeardNow past (turn l.at.stamp (Client c)) v ok.flight ok.reply) (sym (eqb-true t u here)) ok.heard) in
              let heard_so = now_heard P (turn l.at.stamp (Client c)) t c ok.flight ok.reply now refl in
              right _ heard_by held_by (h (heard_saw P who ok.flight ok.reply n
              (subst (λ (w : Who). HeardAs P w ok.flight ok.reply) (sym (own_is who P c own)) heard_so)
              (subst (λ (ns : List ℕ). In n ns) ok.saw i)))
          of (inr ok) =
              let at : nat_eq u t ≡ true = flip u t ∙ here in
              let mine : same_life ok.notice.who who ≡ true = subst (λ (w : Who). same_life ok.notice.who w ≡ true)
              (ok.who ∙ life_is_of c t past ∙ sym (own_is who P c own)) (life_self ok.notice.who) in
              let cookie : nat_eq ok.notice.cookie.0 lock.cookie.0 ≡ true =
              subst (λ (k : Cookie). nat_eq ok.notice.cookie.0 k.0 ≡ true) (sym (ap (λ (l : Lock). l.cookie) ok.is ∙ ok.of_cookie))
              (self ok.notice.cookie.0) in
              second _ heard_by held_by (holds_test head past l.at.stamp c u lock ok.notice ok.took g.1
              ∙ both (nat_eq u t && is_own who P (Client c)) _ (both (nat_eq u t) (is_own who P (Client c)) at own)
              (both (nat_eq u t && same_life ok.notice.who who && nat_eq ok.notice.cookie.0 lock.cookie.0) (lets_see n ok.notice)
              (both (nat_eq u t && same_life ok.notice.who who) (nat_eq ok.notice.cookie.0 lock.cookie.0)
              (both (nat_eq u t) (same_life ok.notice.who who) at mine) cookie)
              (any_passes (nat_eq n) n ok.notice.seen (subst (λ (ns : List ℕ). In n ns) ok.saw i) (self n))))

      holds : (c u : ℕ) (lock : Lock) (marked : Bool) (size : Option ℕ) (seen : List ℕ)
          → Allowed head past (turn l.at.stamp (Client c)) (Hold u lock marked size seen) → (b : Bool) → nat_eq t u ≡ b
          → SawIn (if b then line (turn l.at.stamp (Client c)) (Hold u lock marked size seen) ∷ P else P) who n
          → (SawIn P who n → saw t who n (printed past) ≡ true)
          → saw t who n (printed (line (turn l.at.stamp (Client c)) (Hold u lock marked size seen) ∷ past)) ≡ true
      holds c u lock marked size seen a false q i h = right _ heard_by held_by (h i)
      holds c u lock marked size seen a true q (inl k) h = held c u lock marked size seen a q k.0 k.1 h
      holds c u lock marked size seen a true q (inr j) h = right _ heard_by held_by (h j)

      still : (node : Node) (x : Entry) (b : Bool) → (SawIn (line (turn l.at.stamp node) x ∷ P) who n → SawIn P who n)
          → SawIn (if b then line (turn l.at.stamp node) x ∷ P else P) who n → SawIn P who n
      still node x true f i = f i
      still node x false f i = i

      by : (node : Node) (x : Entry) → Grown head (line (turn l.at.stamp node) x ∷ past)
          → SawIn (only t (line (turn l.at.stamp node) x ∷ past)) who n → (SawIn P who n → saw t who n (printed past) ≡ true)
          → saw t who n (printed (line (turn l.at.stamp node) x ∷ past)) ≡ true
      by (Client c) (Heard u f r) g i h = heard c u f r g.0 (nat_eq t u) refl i h
      by (Client c) (Hold u lock marked size seen) g i h = holds c u lock marked size seen g.0 (nat_eq t u) refl i h
      by (Target u) (Heard v f r) g i h = absurd g.0.ok
      by (Target u) (Hold v lock marked size seen) g i h = absurd g.0.ok
      by node x g i h = h (still node x (concerns t node x) (λ j. j) i)

-- ---- numbers

module _ (t : ℕ) (who : Who) (n : ℕ) (head : Head) (past : List Line) (g : Grown head past) where
  -- a life heard a reply with that number
  pub number_law : (f : Flight) (r : ReplyTo) → HeardAs (only t past) who f r → r.txn.0 ≡ n → heard_number t who n (printed past) ≡ true
  number_law f r i e = heard_law (carries n) t who head past f r g i (eq-eqb r.txn.0 n e)

  pub law_number : heard_number t who n (printed past) ≡ true → (f : Flight) × (r : ReplyTo) × HeardAs (only t past) who f r × (r.txn.0 ≡ n)
  law_number e = let h = law_heard (carries n) t who head past g e in (h.0, h.1, h.2, eqb-true h.1.txn.0 n h.3)
