-- What stays of locks at one target by a line that gives none: what was given, called back or given back stays so, and what is over stays
-- over.
-- A lock that isn't granted any more is over, or its life is evicted; one that comes to be held was given, and wasn't over. And what a
-- close has
-- still to show is shown line by line.
use Rattle.std.proofs.Common.{◌≡◌, ℕ, ◌+◌, ◌<◌, ◌≤◌, true, false, List, [], ◌∷◌, ◌⊎◌, inl, inr, ⊎_elim, refl, sym, subst, ap, ◌∙◌, arith}
use Rattle.lu_base.specs.declared.ids.At.{At}
use Rattle.lu_base.specs.declared.ids.Cookie.{Cookie}
use Rattle.lu_base.specs.declared.ids.Node.{Node}
use Rattle.lu_base.specs.declared.ids.Node.TheVariants.{Client}
use Rattle.lu_base.specs.declared.ids.Stamp.{Stamp}
use Rattle.lu_base.specs.declared.ids.Who.{Who}
use Rattle.lu_base.specs.declared.locks.Lock.{Lock}
use Rattle.lu_msg.specs.declared.messages.GrantNotice.{GrantNotice}
use Rattle.lu_msg.specs.declared.messages.LockReplay.{LockReplay}
use Rattle.lu_msg.specs.declared.messages.Message.{Message}
use Rattle.lu_msg.specs.declared.messages.Message.TheVariants as message
use Rattle.lu_msg.specs.declared.messages.Reply.{Reply as ReplyTo}
use Rattle.lu_held.specs.declared.locks.HeldLock.{HeldLock}
use Rattle.lu_spec_entries.specs.Carried.{Deed, Flight}
use Rattle.lu_spec_entries.specs.Words.{Entry, Restore, Line, line}
use Rattle.lu_spec_target.specs.Phase.{first_of}
use Rattle.lu_spec_target.specs.Rows.{lock_again}
use Rattle.lu_spec_client.specs.Caches.{brought, held_at}
use Rattle.lu_proof_lawful.specs.Covered.TargetStates.{server_of, shown_of, closed_of, up_of, brought_of}
use Rattle.lu_proof_lawful.specs.Covered.TargetCloses.{but_first, closing_of}
use Rattle.lu_proof_lawful.specs.Covered.ClientStates.{known_of, life_of, awaits_of}
use Rattle.lu_proof_lawful.specs.Covered.Heads.{Head}
use Rattle.lu_proof_lawful.proofs.Preconditions.Guards.{In, Was}
use Rattle.lu_proof_lawful.proofs.Preconditions.StoryGuards.{IsServing, IsRecovering}
use Rattle.lu_proof_lawful.proofs.Preconditions.Grown.{ShowsNext}
use Rattle.lu_proof_lawful.proofs.Invariants.Groups.{turn, HeardAs}
use Rattle.lu_proof_lawful.proofs.Invariants.TargetGroups.{HasSlot, Acted, Hears, Promoted, tells_wait, Gave, Names, hopes_of, NoneOf, Dead}
use Rattle.lu_proof_lawful.proofs.Invariants.TargetGroups.{Evicted, Lapsed, IsOver, Holding, Called, Gone, GivenBack, Notified, AwaitedBy}
use Rattle.lu_proof_lawful.proofs.Invariants.TargetGroups.{Locks}
use Rattle.lu_proof_lawful.proofs.Invariants.Hopes.{gave_names, waits_bring}
use Rattle.lu_proof_lawful.proofs.Invariants.LockLists.{Kept}

-- ---- what only grows

pub record Grows (past new : List Line) : Type 0 where
  pub acted : (d : Deed) → Acted past d → Acted new d
  pub promoted : (l : Lock) → Promoted past l → Promoted new l
  pub hears : (who : Who) (x : ℕ) → Hears past who x → Hears new who x
  pub heard : (who : Who) (f : Flight) (r : ReplyTo) → HeardAs past who f r → HeardAs new who f r

pub gave_more : (past new : List Line) → Grows past new → (d : Deed) (l : Lock) → Gave past d l → Gave new d l
gave_more past new g d l a = (
  g.acted d a.0,
  ⊎_elim (λ (i : In l (brought d.op d.reply)). inl i) (λ (p : Promoted past l × (tells_wait d.op d.reply.answer l.cookie.0 ≡ true)). inr
      (g.promoted l p.0, p.1)) a.1,
)

-- one of four cases
pub one_of_four : {A B C D E : Type 0} → (A → E) → (B → E) → (C → E) → (D → E) → A ⊎ B ⊎ C ⊎ D → E
one_of_four {A} {B} {C} {D} a b c d x = ⊎_elim a (λ (y : B ⊎ C ⊎ D). ⊎_elim b (λ (z : C ⊎ D). ⊎_elim c d z) y) x

-- what is dead stays so
abbrev pub StaysDead : (past new : List Line) → Type 0
StaysDead past new = (d : Deed) (l : Lock) → Gave past d l → Dead past d l → Dead new d l

-- and what has lapsed
abbrev pub StaysLapsed : (past new : List Line) → Type 0
StaysLapsed past new = (d : Deed) (l : Lock) → Gave past d l → Lapsed past d l → Lapsed new d l

pub called_more : (past new : List Line) → Grows past new → (c : ℕ) (who : Who) (cookie : Cookie) → Called past c who cookie
    → Called new c who cookie
called_more past new g c who cookie h = record {
  deed = h.deed;
  lock = h.lock;
  gave = gave_more past new g h.deed h.lock h.gave;
  is = h.is;
  of = h.of;
  to = h.to;
}

pub given_more : (past new : List Line) → Grows past new → StaysDead past new → (who : Who) (cookie : Cookie) → GivenBack past who cookie
    → GivenBack new who cookie
given_more past new g dead who cookie h =
    record {
      deed = h.deed;
      lock = h.lock;
      gave = gave_more past new g h.deed h.lock h.gave;
      is = h.is;
      of = h.of;
      dead =
          dead h.deed h.lock h.gave h.dead;
    }

pub notified_more : (past new : List Line) → Grows past new → (n : GrantNotice) → Notified past n → Notified new n
notified_more past new g n h = record {
  deed = h.deed;
  lock = h.lock;
  gave = gave_more past new g h.deed h.lock h.gave;
  is = h.is;
  of =
      h.of;
  extent = h.extent;
}

-- ---- what a close has still to show: a line that doesn't restore the lock leaves that to come

pub still_closing : (head : Head) (past : List Line) (at : At) (e : Entry) → ShowsNext head past at e → (l : Lock) → (e ≡ Restore l → ⊥)
    → In (Restore l) (closing_of head.clients past) → In (Restore l) (but_first (closing_of head.clients past))
still_closing head past at e shows l other = by (closing_of head.clients past) refl
  where
    by : (left : List Entry) → closing_of head.clients past ≡ left → In (Restore l) left → In (Restore l) (but_first left)
    by [] q i = absurd i
    by (next ∷ more) q (inl same) = absurd (other ((shows next more q).0 ∙ same))
    by (next ∷ more) q (inr i) = i

-- ---- lines that give no locks

-- a lock that comes to be held was given, and what is over doesn't come
pub record Comes (osts : ℕ) (past new : List Line) (c : ℕ) (h : HeldLock) : Type 0 where
  pub holding : Holding osts new c h
  pub apart : (d : Deed) (l : Lock) → Gave past d l → IsOver past d l → d.reply.who.client ≡ c → h.lock.cookie.0 ≡ l.cookie.0 → ⊥

pub record Stays (osts clients : ℕ) (past new : List Line) : Type 0 where
  pub grows : Grows past new
  pub acted : (d : Deed) (k : ℕ) → Acted new d → Names d k → Acted past d
  pub promoted : (l : Lock) → Promoted new l → Promoted past l
  pub greatest : (first_of (server_of osts new).boot ≤ (server_of osts new).cookie)
      × ((server_of osts new).cookie ≤ first_of (server_of osts new).boot + 4294967295)
  pub low : IsServing osts new → (d : Deed) (k : ℕ) → Acted past d → Names d k → k ≤ (server_of osts new).cookie
  pub less : (l : Lock) → In l (server_of osts new).granted → In l (server_of osts past).granted
  pub lost : (d : Deed) (l : Lock) → Gave past d l → In l (server_of osts past).granted → In l (server_of osts new).granted
      ⊎ IsOver past d l ⊎ Evicted new d.reply.who
  pub shown : IsServing osts new → up_of new ≡ true → (l : Lock) → In l (server_of osts new).granted → In l (shown_of new)
      ⊎ In (Restore l) (closing_of clients new)
  pub queued : (l : Lock) → In l (server_of osts new).queued → In l (server_of osts past).queued
  pub slots : (l : Lock) → In l (server_of osts new).queued → HasSlot clients past l.ask.who → HasSlot clients new l.ask.who
  pub closed : (l : Lock) → In l (server_of osts new).queued → closed_of past ≡ closed_of new
  pub known : (c : ℕ) → known_of c past ≤ known_of c new
  pub evicted : (who : Who) → Evicted past who → Evicted new who
  pub kept : (c : ℕ) (h : HeldLock) → In h (held_at c new) → (Kept (held_at c past) h × (life_of c past ≡ life_of c new))
      ⊎ Comes osts past new c h
  pub hopes : (d : Deed) (l : Lock) → Gave past d l → Hears past d.reply.who d.reply.xid.0 → hopes_of d.reply.who l.cookie.0 past ≡ false
      → hopes_of d.reply.who l.cookie.0 new ≡ false
  pub single : (who : Who) (k : ℕ) → awaits_of who k new ≤ 1
  pub awaits : (who : Who) (k : ℕ) → 0 < awaits_of who k new → AwaitedBy new who k
  pub brought : IsRecovering osts new → (l : Lock) → In l (brought_of new) → In l (server_of osts new).granted

-- what is said of locks, as it was
pub record SaysAsBefore (past new : List Line) : Type 0 where
  pub was : (from to : Node) (m : Message) → Was new from to m → Was past from to m
  pub gone : (who : Who) (cookie : Cookie) → Gone new who cookie → Gone past who cookie

-- or as it is said now
pub record Says (osts clients : ℕ) (past : List Line) : Type 0 where
  pub blocks : (from : Node) (c : ℕ) (who : Who) (boot : ℕ) (cookie : Cookie) → Was past from (Client c) (message.Block who boot cookie)
      → Called past c who cookie
  pub cancels : (from to : Node) (who : Who) (boot : ℕ) (cookie : Cookie) → Was past from to (message.Cancel who boot cookie)
      → GivenBack past who cookie
  pub gone : (who : Who) (cookie : Cookie) → Gone past who cookie → GivenBack past who cookie
  pub notices : (from to : Node) (g : GrantNotice) → Was past from to (message.Grant g) → Notified past g
  pub relocks : (from to : Node) (r : LockReplay) → Was past from to (message.Lock r) → IsRecovering osts past
      → (server_of osts past).boot ≤ r.boot → HasSlot clients past r.who → In (lock_again r) (server_of osts past).granted

module _ (osts clients : ℕ) (past new : List Line) (s : Stays osts clients past new) (client : (c : ℕ) → (life_of c past).client ≡ c)
    (h : Locks osts clients past) where
  gave_still : (d : Deed) (l : Lock) → Gave past d l → Gave new d l
  gave_still d l g = gave_more past new s.grows d l g

  gave_before : (d : Deed) (l : Lock) → Gave new d l → Gave past d l
  gave_before d l g = (
    s.acted d l.cookie.0 g.0 (gave_names new d l g),
    ⊎_elim (λ (i : In l (brought d.op d.reply)). inl i) (λ (p : Promoted new l × (tells_wait d.op d.reply.answer l.cookie.0 ≡ true)). inr
        (s.promoted l p.0, p.1)) g.1,
  )

  -- none of its cookie comes
  none_still : (d : Deed) (l : Lock) → Gave past d l → IsOver past d l → NoneOf l.cookie (held_at d.reply.who.client past)
      → NoneOf l.cookie (held_at d.reply.who.client new)
  none_still d l g over none k i e =
      ⊎_elim
      (λ (o : Kept (held_at d.reply.who.client past) k × (life_of d.reply.who.client past ≡ life_of d.reply.who.client new)). none o.0.0
      o.0.1 (ap (λ (x : Lock). x.cookie.0) o.0.3 ∙ e))
      (λ (o : Comes osts past new d.reply.who.client k). o.apart d l g over refl e)
      (s.kept d.reply.who.client k i)

  pub stays_dead : StaysDead past new
  stays_dead d l g x = (s.grows.hears d.reply.who d.reply.xid.0 x.0, none_still d l g (inl x) x.1, s.hopes d l g x.0 x.2)

  pub stays_lapsed : StaysLapsed past new
  stays_lapsed d l g x = (let more = s.known d.reply.who.client in let lt = x.0 in omega (arith, more, lt), none_still d l g (inr x) x.1)

  stays_over : (d : Deed) (l : Lock) → Gave past d l → IsOver past d l → IsOver new d l
  stays_over d l g x = ⊎_elim (λ (y : Dead past d l). inl (stays_dead d l g y)) (λ (y : Lapsed past d l). inr (stays_lapsed d l g y)) x

  -- what is held isn't over
  held_not_over : (c : ℕ) (k : HeldLock) → In k (held_at c past) → (d : Deed) → d.reply.who ≡ life_of c past → IsOver past d k.lock → ⊥
  held_not_over c k i d own x =
      let there : In k (held_at d.reply.who.client past) = subst (λ v. In k (held_at v past))
      (sym (ap (λ (w : Who). w.client) own ∙ client c)) i in
      ⊎_elim (λ (y : Dead past d k.lock). y.1 k there refl) (λ (y : Lapsed past d k.lock). y.1 k there refl) x

  holding_still : (c : ℕ) (k : HeldLock) → Kept (held_at c past) k → life_of c past ≡ life_of c new → Holding osts new c k
  holding_still c k o same =
      let r = h.held c o.0 o.1 in
      subst (λ (l : Lock). Holding osts new c (record k { lock = l })) o.3
      (record {
        deed = r.deed;
        gave = gave_still r.deed o.0.lock r.gave;
        who = r.who ∙ same;
        heard = subst (λ (w : Who). Hears new w r.deed.reply.xid.0) same (s.grows.hears (life_of c past) r.deed.reply.xid.0 r.heard);
        came = subst (λ (w : Who). hopes_of w o.0.lock.cookie.0 new ≡ false) (r.who ∙ same)
            (s.hopes r.deed o.0.lock r.gave (subst (λ (w : Who). Hears past w r.deed.reply.xid.0) (sym r.who) r.heard)
            (subst (λ (w : Who). hopes_of w o.0.lock.cookie.0 past ≡ false) (sym r.who) r.came));
        granted = ⊎_elim
            (λ (i : In o.0.lock (server_of osts past).granted). ⊎_elim
            (λ (j : In o.0.lock (server_of osts new).granted). inl j)
            (λ (x : IsOver past r.deed o.0.lock ⊎ Evicted new r.deed.reply.who). ⊎_elim
            (λ (y : IsOver past r.deed o.0.lock). absurd (held_not_over c o.0 o.1 r.deed r.who y))
            (λ (y : Evicted new r.deed.reply.who). inr (subst (λ (w : Who). Evicted new w) (r.who ∙ same) y))
            x)
            (s.lost r.deed o.0.lock r.gave i))
            (λ (i : Evicted past (life_of c past)). inr (subst (λ (w : Who). Evicted new w) same (s.evicted (life_of c past) i)))
            r.granted;
      })

  over_either : (d e : Deed) (l k : Lock) → Gave past d l → Gave past e k → (l ≡ k) ⊎ IsOver past d l ⊎ IsOver past e k → (l ≡ k)
      ⊎ IsOver new d l ⊎ IsOver new e k
  over_either d e l k g f (inl q) = inl q
  over_either d e l k g f (inr (inl x)) = inr (inl (stays_over d l g x))
  over_either d e l k g f (inr (inr x)) = inr (inr (stays_over e k f x))

  -- still as before, or dead, or its life is evicted
  alive_still : (d : Deed) (l : Lock) → Gave past d l → In l (server_of osts new).granted ⊎ Dead new d l ⊎ Evicted new d.reply.who
      ⊎ Lapsed new d l
  alive_still d l g = one_of_four
      (λ (i : In l (server_of osts past).granted). ⊎_elim
      (λ (j : In l (server_of osts new).granted). inl j)
      (λ (x : IsOver past d l ⊎ Evicted new d.reply.who). ⊎_elim
      (λ (y : IsOver past d l). ⊎_elim (λ (z : Dead past d l). inr (inl (stays_dead d l g z)))
      (λ (z : Lapsed past d l). inr (inr (inr (stays_lapsed d l g z)))) y)
      (λ (y : Evicted new d.reply.who). inr (inr (inl y)))
      x)
      (s.lost d l g i))
      (λ (x : Dead past d l). inr (inl (stays_dead d l g x)))
      (λ (x : Evicted past d.reply.who). inr (inr (inl (s.evicted d.reply.who x))))
      (λ (x : Lapsed past d l). inr (inr (inr (stays_lapsed d l g x))))
      (h.alive d l g)

  pub says_still : SaysAsBefore past new → (IsRecovering osts new → (server_of osts new).boot ≡ (server_of osts past).boot)
      → (IsRecovering osts new → IsRecovering osts past) → (IsRecovering osts new → (who : Who) → HasSlot clients new who
      → HasSlot clients past who)
      → (IsRecovering osts new → (l : Lock) → In l (server_of osts past).granted → In l (server_of osts new).granted)
      → Says osts clients new
  says_still y boot off slot on =
      record {
        blocks = λ from c who boot cookie w. called_more past new s.grows c who cookie
            (h.blocks from c who boot cookie (y.was from (Client c) (message.Block who boot cookie) w));
        cancels = λ from to who boot cookie w. given_more past new s.grows stays_dead who cookie
            (h.cancels from to who boot cookie (y.was from to (message.Cancel who boot cookie) w));
        gone = λ who cookie w. given_more past new s.grows stays_dead who cookie (h.gone who cookie (y.gone who cookie w));
        notices = λ from to g w. notified_more past new s.grows g (h.notices from to g (y.was from to (message.Grant g) w));
        relocks = λ from to r w v le i. on v (lock_again r) (h.relocks from to r (y.was from to (message.Lock r) w) (off v)
            (let same = boot v in omega (arith, same, le)) (slot v r.who i));
      }

  pub locks_stay : Says osts clients new → Locks osts clients new
  locks_stay y =
      record {
        whose = λ d l g. h.whose d l (gave_before d l g);
        kinds = λ d l g. h.kinds d l (gave_before d l g);
        promoted = λ l p. let r = h.promoted l (s.promoted l p) in (r.0, gave_still r.0 l r.1, r.2, r.3, r.4);
        bare = λ d k a t. h.bare d k (s.acted d k a (inr (waits_bring d.op d.reply.answer k t))) t;
        cookies = λ d k a n. h.cookies d k (s.acted d k a n) n;
        greatest = s.greatest;
        low = λ v d k a n. s.low v d k (s.acted d k a n) n;
        named = λ d e k a b n m. h.named d e k (s.acted d k a n) (s.acted e k b m) n m;
        once = λ d e l k g f q. h.once d e l k (gave_before d l g) (gave_before e k f) q;
        granted = λ l i. let r = h.granted l (s.less l i) in (r.0, gave_still r.0 l r.1);
        apart = λ k l i j. h.apart k l (s.less k i) (s.less l j);
        waits = λ l i. let q = h.waits l (s.queued l i) in
            record {
              deed = q.deed;
              acted = s.grows.acted q.deed q.acted;
              who = q.who;
              tells = q.tells;
              asked = q.asked;
              kind = q.kind;
              ranged = q.ranged;
              boot = q.boot ∙ s.closed l i;
              has = s.slots l i q.has;
              new = λ d k g. q.new d k (gave_before d k g);
            };
        held = λ c k i. ⊎_elim
            (λ (o : Kept (held_at c past) k × (life_of c past ≡ life_of c new)). holding_still c k o.0 o.1)
            (λ (o : Comes osts past new c k). o.holding)
            (s.kept c k i);
        alive = λ d l g. alive_still d l (gave_before d l g);
        kin = λ d e l k g f w r c. over_either d e l k (gave_before d l g) (gave_before e k f)
            (h.kin d e l k (gave_before d l g) (gave_before e k f) w r c);
        shown = s.shown;
        single = s.single;
        awaits = s.awaits;
        blocks = y.blocks;
        cancels = y.cancels;
        gone = y.gone;
        notices = y.notices;
        relocks = y.relocks;
        brought = s.brought;
      }

-- ---- a client's line, by which nothing of the target changes, nor of what was done

module _ (osts clients : ℕ) (past : List Line) (stamp : Stamp) (c : ℕ) (e : Entry) (client : (c : ℕ) → (life_of c past).client ≡ c)
    (h : Locks osts clients past) where
  abbrev pub lining : List Line
  lining = line (turn stamp (Client c)) e ∷ past

  pub client_stays : Grows past lining → ((d : Deed) → Acted lining d → Acted past d) → ((l : Lock) → Promoted lining l → Promoted past l)
      → ((d : ℕ) → known_of d past ≤ known_of d lining)
      → ((d : ℕ) (k : HeldLock) → In k (held_at d lining) → (Kept (held_at d past) k × (life_of d past ≡ life_of d lining))
      ⊎ Comes osts past lining d k)
      → ((d : Deed) (l : Lock) → Gave past d l → Hears past d.reply.who d.reply.xid.0 → hopes_of d.reply.who l.cookie.0 past ≡ false
      → hopes_of d.reply.who l.cookie.0 lining ≡ false)
      → ((who : Who) (k : ℕ) → awaits_of who k lining ≤ 1) → ((who : Who) (k : ℕ) → 0 < awaits_of who k lining → AwaitedBy lining who k)
      → Stays osts clients past lining
  client_stays grows acted promoted known kept hopes single awaits =
      record {
        grows = grows;
        acted = λ d k a n. acted d a;
        promoted = promoted;
        greatest = h.greatest;
        low = h.low;
        less = λ l i. i;
        lost = λ d l g i. inl i;
        shown = h.shown;
        queued = λ l i. i;
        slots = λ l i has. has;
        closed = λ l i. refl;
        known = known;
        evicted = λ who i. i;
        kept = kept;
        hopes = hopes;
        single = single;
        awaits = awaits;
        brought = h.brought;
      }

  -- and nothing is said of locks
  pub client_locks : Stays osts clients past lining → SaysAsBefore past lining → Locks osts clients lining
  client_locks s y = locks_stay osts clients past lining s client h
      (says_still osts clients past lining s client h y (λ v. refl) (λ v. v) (λ v who i. i) (λ v l i. i))
