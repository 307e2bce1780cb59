-- Locks at one target as its own lines give them while it serves: an act gives locks, each with a cookie above all so far, and so does a
-- line that
-- grants a lock on an object, or tells who asked to wait for one; a lock that waited is granted with the cookie that was told. What is
-- granted
-- conflicts with nothing that is granted, and so, of its own life, with nothing that isn't over.
use Rattle.std.proofs.Common.{◌≡◌, ℕ, ◌+◌, ◌<◌, ◌≤◌, true, false, List, [], ◌⊎◌, inl, inr, ⊎_elim, sym, subst, ap, ◌∙◌, arith}
use Rattle.std.specs.Prelude.{nat_eq}
use Rattle.std.proofs.lemmas.Bool.{eq-eqb}
use Rattle.lu_base.specs.declared.ids.Cookie.{Cookie}
use Rattle.lu_base.specs.declared.ids.Node.TheVariants.{Client}
use Rattle.lu_base.specs.declared.ids.Who.{Who}
use Rattle.lu_base.specs.declared.locks.Lock.{Lock}
use Rattle.lu_lock.specs.Conflict.{conflict}
use Rattle.lu_lock.proofs.ConflictLaws.{conflict_symmetric}
use Rattle.lu_msg.specs.declared.messages.Message.TheVariants as message
use Rattle.lu_held.specs.declared.locks.HeldLock.{HeldLock}
use Rattle.lu_spec_entries.specs.Carried.{Deed}
use Rattle.lu_spec_entries.specs.Words.{Grant, Restore, Line}
use Rattle.lu_spec_target.specs.Locks.{with_locks}
use Rattle.lu_spec_target.specs.Phase.{first_of}
use Rattle.lu_spec_client.specs.Caches.{brought, held_at}
use Rattle.lu_proof_lawful.specs.Covered.TargetStates.{none, server_of, shown_of, closed_of, up_of}
use Rattle.lu_proof_lawful.specs.Covered.TargetCloses.{closing_of}
use Rattle.lu_proof_lawful.specs.Covered.Deeds.{asked}
use Rattle.lu_proof_lawful.specs.Covered.ClientStates.{known_of, life_of, awaits_of}
use Rattle.lu_proof_lawful.specs.Covered.Heads.{Head}
use Rattle.lu_proof_lawful.proofs.Preconditions.Acts.{acted}
use Rattle.lu_proof_lawful.proofs.Preconditions.Guards.{In, HasRange}
use Rattle.lu_proof_lawful.proofs.Preconditions.StoryGuards.{IsServing, IsRecovering}
use Rattle.lu_proof_lawful.proofs.Invariants.Groups.{HoldsAt}
use Rattle.lu_proof_lawful.proofs.Invariants.TargetGroups.{HasSlot, Acted, Hears, Promoted, tells_wait, Gave, Names, IsKind, AskedFor}
use Rattle.lu_proof_lawful.proofs.Invariants.TargetGroups.{hopes_of, NoneOf, Dead, Evicted, Lapsed, IsOver, Holding, Queueing, AwaitedBy}
use Rattle.lu_proof_lawful.proofs.Invariants.TargetGroups.{Locks}
use Rattle.lu_proof_lawful.proofs.Invariants.LockLists.{withs_in, withs_old, withs_new}
use Rattle.lu_proof_lawful.proofs.Invariants.LocksStay.{Grows, gave_more, one_of_four, StaysDead, StaysLapsed, called_more, given_more}
use Rattle.lu_proof_lawful.proofs.Invariants.LocksStay.{notified_more, SaysAsBefore}

-- ---- what is given

-- of its life, which has a slot; of a kind; with a cookie that no other has; and in conflict with nothing granted, nor with one another
pub record Gives (osts clients : ℕ) (past : List Line) (d : Deed) (locks : List Lock) : Type 0 where
  pub who : (l : Lock) → In l locks → l.ask.who ≡ d.reply.who
  pub kind : (l : Lock) → In l locks → IsKind l.ask.mode l.ask.policy
  pub fresh : (e : Deed) (l k : Lock) → Gave past e l → In k locks → l.cookie.0 ≡ k.cookie.0 → ⊥
  pub apart : (l k : Lock) → In l locks → In k locks → l.cookie.0 ≡ k.cookie.0 → l ≡ k
  pub clear : (l k : Lock) → In l locks → In k (server_of osts past).granted → l.resource ≡ k.resource → conflict l.ask k.ask ≡ false
  pub alone : (l k : Lock) → In l locks → In k locks → (l ≡ k) ⊎ (conflict l.ask k.ask ≡ false)
  pub has : HasSlot clients past d.reply.who

-- a line of a target that serves by which locks are given for what was done then or before; a cookie is named for it then, or was before.
-- Nothing else
-- of locks changes, but that a lock waits, or waits no longer
pub record Adds (head : Head) (past new : List Line) (d : Deed) (locks : List Lock) : Type 0 where
  pub acts : (e : Deed) (k : ℕ) → Acted new e → Names e k → Acted past e
      ⊎ ((d ≡ e) × ((server_of head.osts past).cookie < k) × (k ≤ (server_of head.osts new).cookie))
  pub bare : (e : Deed) (k : ℕ) → Acted new e → tells_wait e.op e.reply.answer k ≡ true → Acted past e ⊎ (brought e.op e.reply ≡ [])
  pub gave : (e : Deed) (l : Lock) → Gave new e l → ((d ≡ e) × In l locks) ⊎ Gave past e l
  pub mine : (l : Lock) → In l locks → Gave new d l
  pub promoted : (l : Lock) → Promoted new l → Promoted past l ⊎ (In l locks × (tells_wait d.op d.reply.answer l.cookie.0 ≡ true)
      × AskedFor d l × HasRange l.ask.policy)
  pub grows : Grows past new
  pub made : d.reply.boot ≡ (server_of head.osts past).boot
  pub granted : (server_of head.osts new).granted ≡ with_locks locks (server_of head.osts past).granted
  pub shown : shown_of new ≡ with_locks locks (shown_of past)
  pub cookie : (server_of head.osts past).cookie ≤ (server_of head.osts new).cookie
  pub room : (server_of head.osts new).cookie ≤ first_of (server_of head.osts past).boot + 4294967295
  pub boot : (server_of head.osts new).boot ≡ (server_of head.osts past).boot
  pub queued : (l : Lock) → In l (server_of head.osts new).queued
      → (In l (server_of head.osts past).queued × ((k : Lock) → In k locks → k.cookie.0 ≡ l.cookie.0 → ⊥))
      ⊎ Queueing head.osts head.clients new l
  pub closed : closed_of past ≡ closed_of new
  pub slots : (who : Who) → HasSlot head.clients past who → HasSlot head.clients new who
  pub closing : (l : Lock) → In (Restore l) (closing_of head.clients past) → In (Restore l) (closing_of head.clients new)
  pub up : up_of past ≡ up_of new
  pub known : (c : ℕ) → known_of c past ≡ known_of c new
  pub life : (c : ℕ) → life_of c past ≡ life_of c new
  pub held : (c : ℕ) → held_at c past ≡ held_at c new
  pub hopes : (who : Who) (k : ℕ) → hopes_of who k past ≡ hopes_of who k new
  pub awaits : (who : Who) (k : ℕ) → awaits_of who k past ≡ awaits_of who k new
  pub evicted : (who : Who) → Evicted past who → Evicted new who
  pub says : SaysAsBefore past new

module _ (head : Head) (past new : List Line) (d : Deed) (locks : List Lock) (a : Adds head past new d locks)
    (g : Gives head.osts head.clients past d locks) (serves : IsServing head.osts past) (all : HoldsAt head past) where
  abbrev h : Locks head.osts head.clients past
  h = all.locks

  gave_old : (e : Deed) (l : Lock) → Gave past e l → Gave new e l
  gave_old e l o = gave_more past new a.grows e l o

  granted_new : (l : Lock) → In l locks → In l (server_of head.osts new).granted
  granted_new l i = subst (λ (ls : List Lock). In l ls) (sym a.granted)
      (withs_new locks l (server_of head.osts past).granted (λ y j e. g.apart l y i j e) i)

  granted_old : (l : Lock) → In l (server_of head.osts past).granted → In l (server_of head.osts new).granted
  granted_old l i = let r = h.granted l i in subst (λ (ls : List Lock). In l ls) (sym a.granted)
      (withs_old locks l (server_of head.osts past).granted (λ y j e. absurd (g.fresh r.0 l y r.1 j e)) i)

  granted_cases : (l : Lock) → In l (server_of head.osts new).granted → In l locks ⊎ In l (server_of head.osts past).granted
  granted_cases l i = withs_in locks l (server_of head.osts past).granted (subst (λ (ls : List Lock). In l ls) a.granted i)

  shown_new : up_of past ≡ true → (l : Lock) → In l (server_of head.osts new).granted → In l (shown_of new)
      ⊎ In (Restore l) (closing_of head.clients new)
  shown_new u l i =
      ⊎_elim
      (λ (j : In l locks). inl (subst (λ (ls : List Lock). In l ls) (sym a.shown)
      (withs_new locks l (shown_of past) (λ y k e. g.apart l y j k e) j)))
      (λ (j : In l (server_of head.osts past).granted). let r = h.granted l j in
      ⊎_elim
      (λ (k : In l (shown_of past)). inl (subst (λ (ls : List Lock). In l ls) (sym a.shown)
      (withs_old locks l (shown_of past) (λ y k e. absurd (g.fresh r.0 l y r.1 k e)) k)))
      (λ (k : In (Restore l) (closing_of head.clients past)). inr (a.closing l k))
      (h.shown serves u l j))
      (granted_cases l i)

  none_still : (c : ℕ) (cookie : Cookie) → NoneOf cookie (held_at c past) → NoneOf cookie (held_at c new)
  none_still c cookie none = subst (λ (hs : List HeldLock). NoneOf cookie hs) (a.held c) none

  dead_still : StaysDead past new
  dead_still e l o x = (
    a.grows.hears e.reply.who e.reply.xid.0 x.0,
    none_still e.reply.who.client l.cookie x.1,
    sym (a.hopes e.reply.who l.cookie.0) ∙ x.2,
  )

  lapsed_still : StaysLapsed past new
  lapsed_still e l o x = (subst (λ n. e.reply.boot < n) (a.known e.reply.who.client) x.0, none_still e.reply.who.client l.cookie x.1)

  over_still : (e : Deed) (l : Lock) → Gave past e l → IsOver past e l → IsOver new e l
  over_still e l o x = ⊎_elim (λ (y : Dead past e l). inl (dead_still e l o y)) (λ (y : Lapsed past e l). inr (lapsed_still e l o y)) x

  holding_still : (c : ℕ) (k : HeldLock) → Holding head.osts past c k → Holding head.osts new c k
  holding_still c k o =
      record {
        deed = o.deed;
        gave = gave_old o.deed k.lock o.gave;
        who = o.who ∙ a.life c;
        heard = subst (λ (w : Who). Hears new w o.deed.reply.xid.0) (a.life c) (a.grows.hears (life_of c past) o.deed.reply.xid.0 o.heard);
        came = subst (λ (w : Who). hopes_of w k.lock.cookie.0 new ≡ false) (a.life c)
            (sym (a.hopes (life_of c past) k.lock.cookie.0) ∙ o.came);
        granted = ⊎_elim (λ (j : In k.lock (server_of head.osts past).granted). inl (granted_old k.lock j))
            (λ (j : Evicted past (life_of c past)). inr (subst (λ (w : Who). Evicted new w) (a.life c) (a.evicted (life_of c past) j)))
            o.granted;
      }

  queueing_still : (l : Lock) → Queueing head.osts head.clients past l → ((k : Lock) → In k locks → k.cookie.0 ≡ l.cookie.0 → ⊥)
      → Queueing head.osts head.clients new l
  queueing_still l q other =
      record {
        deed = q.deed;
        acted = a.grows.acted q.deed q.acted;
        who = q.who;
        tells = q.tells;
        asked = q.asked;
        kind = q.kind;
        ranged = q.ranged;
        boot = q.boot ∙ a.closed;
        has = a.slots l.ask.who q.has;
        new = λ e k o. ⊎_elim (λ (n : (d ≡ e) × In k locks). other k n.1) (λ (n : Gave past e k). q.new e k n) (a.gave e k o);
      }

  awaited_still : (who : Who) (k : ℕ) → AwaitedBy past who k → AwaitedBy new who k
  awaited_still who k w =
      record {
        deed = w.deed;
        acted = a.grows.acted w.deed w.acted;
        of = w.of;
        brings = w.brings;
        heard = a.grows.hears w.deed.reply.who w.deed.reply.xid.0 w.heard;
        boot = λ life. w.boot (a.life who.client ∙ life) ∙ a.known who.client;
        hopes = λ t. sym (a.hopes who k) ∙ w.hopes t;
      }

  -- of one life, what is granted now and what was given before
  kin_new : (e : Deed) (l k : Lock) → In l locks → Gave past e k → d.reply.who ≡ e.reply.who → l.resource ≡ k.resource
      → conflict l.ask k.ask ≡ true → IsOver new e k
  kin_new e l k i o own on clash = one_of_four
      (λ (j : In k (server_of head.osts past).granted). absurd (let no = g.clear l k i j on in cc))
      (λ (x : Dead past e k). inl (dead_still e k o x))
      (λ (x : Evicted past e.reply.who). absurd (let less = all.lives.apart d.reply.who e.reply.who g.has x (ap (λ (w : Who). w.client) own)
      in let same = ap (λ (w : Who). w.life) own in omega (arith, less, same)))
      (λ (x : Lapsed past e k). inr (lapsed_still e k o x))
      (h.alive e k o)

  kin_still : (e b : Deed) (l k : Lock) → ((d ≡ e) × In l locks) ⊎ Gave past e l → ((d ≡ b) × In k locks) ⊎ Gave past b k → e.reply.who
      ≡ b.reply.who → l.resource ≡ k.resource → conflict l.ask k.ask ≡ true → (l ≡ k) ⊎ IsOver new e l ⊎ IsOver new b k
  kin_still e b l k (inl x) (inl y) own on clash = ⊎_elim (λ (q : l ≡ k). inl q) (λ (no : conflict l.ask k.ask ≡ false). absurd (cc))
      (g.alone l k x.1 y.1)
  kin_still e b l k (inl x) (inr y) own on clash = inr (inr (kin_new b l k x.1 y (ap (λ (v : Deed). v.reply.who) x.0 ∙ own) on clash))
  kin_still e b l k (inr x) (inl y) own on clash = inr (inl (kin_new e k l y.1 x (ap (λ (v : Deed). v.reply.who) y.0 ∙ sym own) (sym on)
      (conflict_symmetric k.ask l.ask ∙ clash)))
  kin_still e b l k (inr x) (inr y) own on clash = ⊎_elim
      (λ (q : l ≡ k). inl q)
      (λ (z : IsOver past e l ⊎ IsOver past b k). inr (⊎_elim (λ (w : IsOver past e l). inl (over_still e l x w))
      (λ (w : IsOver past b k). inr (over_still b k y w)) z))
      (h.kin e b l k x y own on clash)

  not_recovering : IsRecovering head.osts new → ⊥
  not_recovering v = let same : nat_eq (closed_of new) (server_of head.osts new).boot ≡ true =
      eq-eqb (closed_of new) (server_of head.osts new).boot (sym a.closed ∙ serves.closed ∙ sym a.boot) in absurd (cc)

  pub locks_add : Locks head.osts head.clients new
  locks_add =
      record {
        whose = λ e l o. ⊎_elim (λ (q : (d ≡ e) × In l locks). g.who l q.1 ∙ ap (λ (v : Deed). v.reply.who) q.0)
            (λ (b : Gave past e l). h.whose e l b) (a.gave e l o);
        kinds = λ e l o. ⊎_elim (λ (q : (d ≡ e) × In l locks). g.kind l q.1) (λ (b : Gave past e l). h.kinds e l b) (a.gave e l o);
        promoted = λ l p. ⊎_elim
            (λ (b : Promoted past l). let r = h.promoted l b in (r.0, gave_old r.0 l r.1, r.2, r.3, r.4))
            (λ (b : In l locks × (tells_wait d.op d.reply.answer l.cookie.0 ≡ true) × AskedFor d l × HasRange l.ask.policy).
            (d, a.mine l b.0, b.1, b.2, b.3))
            (a.promoted l p);
        bare = λ e k b t. ⊎_elim (λ (o : Acted past e). h.bare e k o t) (λ (z : brought e.op e.reply ≡ []). z) (a.bare e k b t);
        cookies = λ e k b n. ⊎_elim
            (λ (o : Acted past e). h.cookies e k o n)
            (λ (q : (d ≡ e) × ((server_of head.osts past).cookie < k) × (k ≤ (server_of head.osts new).cookie)). subst
            (λ (v : Deed). (first_of v.reply.boot < k) × (k ≤ first_of v.reply.boot + 4294967295)) q.0
            (let low = h.greatest.0 in let more = q.1 in let most = q.2 in let room = a.room in let boot = a.made
            in (omega (arith, low, more, boot), omega (arith, most, room, boot))))
            (a.acts e k b n);
        greatest = let low = h.greatest.0 in let more = a.cookie in let room = a.room in let boot = a.boot
            in (omega (arith, low, more, boot), omega (arith, room, boot));
        low = λ v e k b n. ⊎_elim
            (λ (o : Acted past e). let le = h.low serves e k o n in let more = a.cookie in omega (arith, le, more))
            (λ (q : (d ≡ e) × ((server_of head.osts past).cookie < k) × (k ≤ (server_of head.osts new).cookie)). q.2)
            (a.acts e k b n);
        named = λ e f k b c n m. ⊎_elim
            (λ (o : Acted past e). ⊎_elim
            (λ (r : Acted past f). h.named e f k o r n m)
            (λ (q : (d ≡ f) × ((server_of head.osts past).cookie < k) × (k ≤ (server_of head.osts new).cookie)). absurd
            (let le = h.low serves e k o n in let lt = q.1 in omega (arith, le, lt)))
            (a.acts f k c m))
            (λ (q : (d ≡ e) × ((server_of head.osts past).cookie < k) × (k ≤ (server_of head.osts new).cookie)). ⊎_elim
            (λ (r : Acted past f). absurd (let le = h.low serves f k r m in let lt = q.1 in omega (arith, le, lt)))
            (λ (r : (d ≡ f) × ((server_of head.osts past).cookie < k) × (k ≤ (server_of head.osts new).cookie)). sym q.0 ∙ r.0)
            (a.acts f k c m))
            (a.acts e k b n);
        once = λ e b l k o r q. ⊎_elim
            (λ (x : (d ≡ e) × In l locks). ⊎_elim
            (λ (y : (d ≡ b) × In k locks). (sym x.0 ∙ y.0, g.apart l k x.1 y.1 (ap (λ (v : Cookie). v.0) q)))
            (λ (y : Gave past b k). absurd (g.fresh b k l y x.1 (ap (λ (v : Cookie). v.0) (sym q))))
            (a.gave b k r))
            (λ (x : Gave past e l). ⊎_elim
            (λ (y : (d ≡ b) × In k locks). absurd (g.fresh e l k x y.1 (ap (λ (v : Cookie). v.0) q)))
            (λ (y : Gave past b k). h.once e b l k x y q)
            (a.gave b k r))
            (a.gave e l o);
        granted = λ l i. ⊎_elim
            (λ (j : In l locks). (d, a.mine l j))
            (λ (j : In l (server_of head.osts past).granted). let r = h.granted l j in (r.0, gave_old r.0 l r.1))
            (granted_cases l i);
        apart = λ k l i j on other. ⊎_elim
            (λ (x : In k locks). ⊎_elim
            (λ (y : In l locks). ⊎_elim (λ (q : k ≡ l). absurd (other (ap (λ (v : Lock). v.cookie.0) q)))
            (λ (no : conflict k.ask l.ask ≡ false). no) (g.alone k l x y))
            (λ (y : In l (server_of head.osts past).granted). g.clear k l x y on)
            (granted_cases l j))
            (λ (x : In k (server_of head.osts past).granted). ⊎_elim
            (λ (y : In l locks). conflict_symmetric k.ask l.ask ∙ g.clear l k y x (sym on))
            (λ (y : In l (server_of head.osts past).granted). h.apart k l x y on other)
            (granted_cases l j))
            (granted_cases k i);
        waits = λ l i. ⊎_elim
            (λ (q : In l (server_of head.osts past).queued × ((k : Lock) → In k locks → k.cookie.0 ≡ l.cookie.0 → ⊥)). queueing_still l
            (h.waits l q.0) q.1)
            (λ (q : Queueing head.osts head.clients new l). q)
            (a.queued l i);
        held = λ c k i. holding_still c k (h.held c k (subst (λ (hs : List HeldLock). In k hs) (sym (a.held c)) i));
        alive = λ e l o. ⊎_elim
            (λ (q : (d ≡ e) × In l locks). inl (granted_new l q.1))
            (λ (b : Gave past e l). one_of_four
            (λ (i : In l (server_of head.osts past).granted). inl (granted_old l i))
            (λ (x : Dead past e l). inr (inl (dead_still e l b x)))
            (λ (x : Evicted past e.reply.who). inr (inr (inl (a.evicted e.reply.who x))))
            (λ (x : Lapsed past e l). inr (inr (inr (lapsed_still e l b x))))
            (h.alive e l b))
            (a.gave e l o);
        kin = λ e b l k o r own on clash. kin_still e b l k (a.gave e l o) (a.gave b k r) own on clash;
        shown = λ v u. shown_new (a.up ∙ u);
        single = λ who k. let le = h.single who k in let same = a.awaits who k in omega (arith, le, same);
        awaits = λ who k lt. awaited_still who k (h.awaits who k (let same = a.awaits who k in omega (arith, lt, same)));
        blocks = λ from c who boot cookie w. called_more past new a.grows c who cookie
            (h.blocks from c who boot cookie (a.says.was from (Client c) (message.Block who boot cookie) w));
        cancels = λ from to who boot cookie w. given_more past new a.grows dead_still who cookie
            (h.cancels from to who boot cookie (a.says.was from to (message.Cancel who boot cookie) w));
        gone = λ who cookie w. given_more past new a.grows dead_still who cookie (h.gone who cookie (a.says.gone who cookie w));
        notices = λ from to n w. notified_more past new a.grows n (h.notices from to n (a.says.was from to (message.Grant n) w));
        relocks = λ from to r w v. absurd (not_recovering v);
        brought = λ v. absurd (not_recovering v);
      }
