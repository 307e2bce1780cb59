-- Locks at one target as a client hears of them: a reply brings those that it grants, none of which is over yet, or tells to wait for one;
-- the
-- grant of a lock that waited brings that; a newer boot ends all waiting; and a new life waits for none.
use Rattle.std.proofs.Common.{◌≡◌, ℕ, ◌+◌, ◌<◌, ◌≤◌, Bool, true, false, List, ◌∷◌, Option, ◌⊎◌, inl, inr, ⊎_elim, refl, sym, subst, ap, ◌∙◌}
use Rattle.std.proofs.Common.{arith}
use Rattle.std.specs.Prelude.{nat_eq, ◌==◌, ◌&&◌, ◌||◌, if◌then◌else◌}
use Rattle.std.proofs.lemmas.Bool.{cond_both, eqb-true, eqb-false, and_parts, or_right}
use Rattle.lu_base.specs.declared.ids.Cookie.{Cookie}
use Rattle.lu_base.specs.declared.ids.Node.TheVariants.{Client, Target}
use Rattle.lu_base.specs.declared.ids.Stamp.{Stamp}
use Rattle.lu_base.specs.declared.ids.Who.{Who}
use Rattle.lu_base.specs.declared.locks.Lock.{Lock}
use Rattle.lu_base.specs.declared.locks.Mode.{Mode}
use Rattle.lu_base.specs.declared.locks.Policy.{Policy}
use Rattle.lu_base.specs.declared.locks.Policy.TheVariants.{Range}
use Rattle.lu_base.specs.declared.locks.Resource.{Resource}
use Rattle.lu_msg.specs.declared.answers.Answer.{Answer}
use Rattle.lu_msg.specs.declared.messages.Message.TheVariants as message
use Rattle.lu_msg.specs.declared.messages.Reply.{Reply as ReplyTo}
use Rattle.lu_msg.specs.declared.operations.Op.{Op}
use Rattle.lu_msg.specs.declared.operations.Op.TheVariants as op
use Rattle.lu_held.specs.declared.locks.HeldLock.{HeldLock}
use Rattle.lu_spec_entries.specs.Carried.{Deed, Flight}
use Rattle.lu_spec_entries.specs.Words.{Heard, Hold, Knows, Life, Line, line}
use Rattle.lu_spec_client.specs.Caches.{held_as, with_brought, brought, held_at}
use Rattle.lu_proof_lawful.specs.Covered.TargetStates.{server_of}
use Rattle.lu_proof_lawful.specs.Covered.ClientStates.{life_of, is_own, known_of, brings_cookie, awaits_of}
use Rattle.lu_proof_lawful.specs.Covered.Heads.{Head}
use Rattle.lu_proof_lawful.proofs.Preconditions.Acts.{range_is}
use Rattle.lu_proof_lawful.proofs.Preconditions.Guards.{In, HasRange}
use Rattle.lu_proof_lawful.proofs.Preconditions.StoryGuards.{HeardOk, HeldOk, GivenOf, LifeOf, BootKnownOk}
use Rattle.lu_proof_lawful.proofs.Preconditions.Lists.{self, own_is, own_self}
use Rattle.lu_proof_lawful.proofs.Invariants.Groups.{turn, HoldsAt}
use Rattle.lu_proof_lawful.proofs.Invariants.TargetGroups.{Acted, Flew, Hears, IsMade, RepliesTo, Promoted, tells_wait, Gave, Names}
use Rattle.lu_proof_lawful.proofs.Invariants.TargetGroups.{AskedFor, hopes_of, Dead, Evicted, Lapsed, IsOver, Holding, Notified, AwaitedBy}
use Rattle.lu_proof_lawful.proofs.Invariants.TargetGroups.{Locks}
use Rattle.lu_proof_lawful.proofs.Invariants.DoneGrows.{heard_hears}
use Rattle.lu_proof_lawful.proofs.Invariants.Hopes.{waits_bring, gave_names, hopes_heard}
use Rattle.lu_proof_lawful.proofs.Invariants.LockLists.{kept_same, brought_again, brought_in}
use Rattle.lu_proof_lawful.proofs.Invariants.LocksStay.{Grows, gave_more, one_of_four, Comes, Stays, client_stays, client_locks}
use Rattle.lu_proof_lawful.proofs.Invariants.LocksHeld.{hold_held, shown_held, hold_stays}

abbrev pub numbered : ℕ → Cookie
numbered v = record { 0 = v }

-- ---- a reply is heard: its locks aren't over yet

module _ (head : Head) (past : List Line) (stamp : Stamp) (c t : ℕ) (f : Flight) (r : ReplyTo) (ok : HeardOk past c f r)
    (all : HoldsAt head past) where
  abbrev hearing : List Line
  hearing = line (turn stamp (Client c)) (Heard t f r) ∷ past

  abbrev made : RepliesTo head.osts past c r
  made = all.done.sent (Target ok.from) (Client c) (message.Reply r) ok.was

  abbrev of : Deed
  of = made.deed

  of_who : of.reply.who ≡ life_of c past
  of_who = ap (λ (v : ReplyTo). v.who) (sym made.is) ∙ ok.who

  of_xid : f.xid ≡ of.reply.xid.0
  of_xid = ok.xid ∙ ap (λ (v : ReplyTo). v.xid.0) made.is

  of_op : f.op ≡ of.op
  of_op =
      let g = all.done.flew of made.acted in
      let same : f ≡ g.0 = all.numbers.one (life_of c past) f g.0 (all.numbers.flying (life_of c past) f ok.flying)
      (subst (λ (w : Who). Flew past w g.0) of_who g.1) (of_xid ∙ sym g.2) in
      ap (λ (v : Flight). v.op) same ∙ g.3

  of_answer : r.answer ≡ of.reply.answer
  of_answer = ap (λ (v : ReplyTo). v.answer) made.is

  same_brought : brought f.op r ≡ brought of.op of.reply
  same_brought = ap (λ (o : Op). brought o r) of_op ∙ brought_again of.op of.reply r made.is

  comes : (l : Lock) → In l (brought f.op r) → In l (brought of.op of.reply)
  comes l i = subst (λ (ls : List Lock). In l ls) same_brought i

  gives : (l : Lock) → In l (brought f.op r) → Gave past of l
  gives l i = (made.acted, inl (comes l i))

  -- a cookie that the reply tells was told by what was done
  brings_of : (k : ℕ) → brings_cookie f.op r.answer k ≡ true → brings_cookie of.op of.reply.answer k ≡ true
  brings_of k e = ap (λ (o : Op). brings_cookie o of.reply.answer k) (sym of_op)
      ∙ ap (λ (a : Answer). brings_cookie f.op a k) (sym of_answer) ∙ e

  tells_of : (k : ℕ) → tells_wait f.op r.answer k ≡ true → tells_wait of.op of.reply.answer k ≡ true
  tells_of k e = ap (λ (o : Op). tells_wait o of.reply.answer k) (sym of_op) ∙ ap (λ (a : Answer). tells_wait f.op a k) (sym of_answer) ∙ e

  of_tells : (k : ℕ) → tells_wait of.op of.reply.answer k ≡ true → tells_wait f.op r.answer k ≡ true
  of_tells k e = ap (λ (o : Op). tells_wait o r.answer k) of_op ∙ ap (λ (a : Answer). tells_wait of.op a k) of_answer ∙ e

  not_yet : Hears past of.reply.who of.reply.xid.0 → ⊥
  not_yet x = (all.numbers.over (life_of c past) f.xid (subst (λ v. Hears past (life_of c past) v) (sym of_xid)
      (subst (λ (w : Who). Hears past w of.reply.xid.0) of_who x))).1 f ok.flying refl

  known_as : known_of of.reply.who.client past ≡ known_of c past
  known_as = ap (λ (w : Who). known_of w.client past) of_who ∙ ap (λ v. known_of v past) (all.phase.client c)

  -- a lock that lapsed isn't heard of: what is granted is told in its own boot alone, and the client knows a newer one
  not_lapsed : (l : Lock) → In l (brought of.op of.reply) → of.reply.boot < known_of of.reply.who.client past → ⊥
  not_lapsed l i lt =
      let known : known_of of.reply.who.client past ≡ r.boot = known_as ∙ sym ok.boot in
      ⊎_elim
      (λ (same : r.boot ≡ of.reply.boot). omega (arith, lt, same, known))
      (λ (m : IsMade of). subst (λ (ls : List Lock). In l ls) (all.done.bare of made.acted m) i)
      made.own

  -- what was done for it so that it names the same is the same, and was heard of before: so there is none
  heard_once : (d : Deed) (k : ℕ) → Acted past d → Names d k → Names of k → Hears past d.reply.who d.reply.xid.0 → ⊥
  heard_once d k a n m x = not_yet (subst (λ (v : Deed). Hears past v.reply.who v.reply.xid.0) (all.locks.named d of k a made.acted n m) x)

  lives : (l : Lock) → In l (brought of.op of.reply) → In l (server_of head.osts past).granted ⊎ Evicted past (life_of c past)
  lives l i = one_of_four
      (λ (j : In l (server_of head.osts past).granted). inl j)
      (λ (x : Dead past of l). absurd (not_yet x.0))
      (λ (x : Evicted past of.reply.who). inr (subst (λ (w : Who). Evicted past w) of_who x))
      (λ (x : Lapsed past of l). absurd (not_lapsed l i x.0))
      (all.locks.alive of l (made.acted, inl i))

  held_now : (d : ℕ) (g : HeldLock) → In g (held_at d hearing) → In g (held_at d past)
      ⊎ ((d ≡ c) × ((l : Lock) × In l (brought f.op r) × (held_as t l false ≡ g)))
  held_now d g =
      cond_both (nat_eq d c) (with_brought t (brought f.op r) (held_at d past)) (held_at d past)
      (λ (hs : List HeldLock). In g hs → In g (held_at d past)
      ⊎ ((d ≡ c) × ((l : Lock) × In l (brought f.op r) × (held_as t l false ≡ g))))
      (λ q i. ⊎_elim
      (λ (j : In g (held_at d past)). inl j)
      (λ (j : (l : Lock) × In l (brought f.op r) × (held_as t l false ≡ g)). inr (eqb-true d c q, j))
      (brought_in t (brought f.op r) (held_at d past) g i))
      (λ q i. inl i)

  hears_more : Grows past hearing
  hears_more = record { acted = λ d a. a; promoted = λ l p. p; hears = λ d x a. inr a; heard = λ d g k a. inr a }

  -- ---- what it hopes for, and what is awaited

  -- one of which it heard before it doesn't hope for anew
  heard_hopes : (d : Deed) (l : Lock) → Gave past d l → Hears past d.reply.who d.reply.xid.0 → hopes_of d.reply.who l.cookie.0 past ≡ false
      → hopes_of d.reply.who l.cookie.0 hearing ≡ false
  heard_hopes d l g x e = by (is_own d.reply.who past (Client c) && tells_wait f.op r.answer l.cookie.0) refl
    where
      by : (b : Bool) → (is_own d.reply.who past (Client c) && tells_wait f.op r.answer l.cookie.0) ≡ b
          → (b || hopes_of d.reply.who l.cookie.0 past) ≡ false
      by true q =
          let p = and_parts (is_own d.reply.who past (Client c)) (tells_wait f.op r.answer l.cookie.0) q in
          absurd (heard_once d l.cookie.0 g.0 (gave_names past d l g)
          (inr (waits_bring of.op of.reply.answer l.cookie.0 (tells_of l.cookie.0 p.1))) x)
      by false q = e

  -- nor one that comes
  comes_hopes : (l : Lock) → In l (brought f.op r) → hopes_of (life_of c past) l.cookie.0 hearing ≡ false
  comes_hopes l i = by (is_own (life_of c past) past (Client c)) (tells_wait f.op r.answer l.cookie.0) refl
      (hopes_of (life_of c past) l.cookie.0 past) refl
    where
      by : (own w : Bool) → tells_wait f.op r.answer l.cookie.0 ≡ w → (b : Bool) → hopes_of (life_of c past) l.cookie.0 past ≡ b
          → ((own && w) || b) ≡ false
      by own true q b e = absurd (subst (λ (ls : List Lock). In l ls) (all.locks.bare of l.cookie.0 made.acted (tells_of l.cookie.0 q))
          (comes l i))
      by own false q true e =
          let h = hopes_heard past (life_of c past) l.cookie.0 e in
          let a = all.done.answered (life_of c past) h.0 h.1 h.2 in
          let tells : tells_wait a.0.op a.0.reply.answer l.cookie.0 ≡ true =
          ap (λ (o : Op). tells_wait o a.0.reply.answer l.cookie.0) (sym a.5)
          ∙ ap (λ (v : ReplyTo). tells_wait h.0.op v.answer l.cookie.0) (sym a.2) ∙ h.3 in
          let who : a.0.reply.who ≡ life_of c past = ap (λ (v : ReplyTo). v.who) (sym a.2) ∙ a.3 in
          absurd (heard_once a.0 l.cookie.0 a.1 (inr (waits_bring a.0.op a.0.reply.answer l.cookie.0 tells))
          (gave_names past of l (gives l i))
          (subst (λ v. Hears past a.0.reply.who v) a.4 (subst (λ (w : Who). Hears past w h.0.xid) (sym who)
          (heard_hears past (life_of c past) h.0 h.1 h.2))))
      by true false q false e = refl
      by false false q false e = refl

  abbrev brings_own : Who → ℕ → Bool
  brings_own who k = is_own who past (Client c) && brings_cookie f.op r.answer k

  -- what the reply names wasn't awaited
  awaited_not : (who : Who) (k : ℕ) → brings_own who k ≡ true → 0 < awaits_of who k past → ⊥
  awaited_not who k q lt =
      let p = and_parts (is_own who past (Client c)) (brings_cookie f.op r.answer k) q in
      let a = all.locks.awaits who k lt in
      heard_once a.deed k a.acted (inr a.brings) (inr (brings_of k p.1)) a.heard

  heard_single : (who : Who) (k : ℕ) → awaits_of who k hearing ≤ 1
  heard_single who k = by (brings_own who k) refl (all.locks.single who k) (awaited_not who k)
    where
      by : (b : Bool) → brings_own who k ≡ b → awaits_of who k past ≤ 1 → (brings_own who k ≡ true → 0 < awaits_of who k past → ⊥)
          → (if b then awaits_of who k past + 1 else awaits_of who k past) ≤ 1
      by true q le none = zero (nat_eq (awaits_of who k past) 0) refl
        where
          zero : (z : Bool) → nat_eq (awaits_of who k past) 0 ≡ z → awaits_of who k past + 1 ≤ 1
          zero true e = let is = eqb-true (awaits_of who k past) 0 e in omega (arith, is)
          zero false e = absurd (none q (let not = eqb-false (awaits_of who k past) 0 e in omega (arith, not)))
      by false q le none = le

  heard_awaits : (who : Who) (k : ℕ) → 0 < awaits_of who k hearing → AwaitedBy hearing who k
  heard_awaits who k lt = by (brings_own who k) refl (all.locks.awaits who k) lt
    where
      by : (b : Bool) → brings_own who k ≡ b → (0 < awaits_of who k past → AwaitedBy past who k)
          → 0 < (if b then awaits_of who k past + 1 else awaits_of who k past) → AwaitedBy hearing who k
      by false q more lt =
          let a = more lt in
          record {
            deed = a.deed;
            acted = a.acted;
            of = a.of;
            brings = a.brings;
            heard = inr a.heard;
            boot = a.boot;
            hopes = λ w. or_right (is_own who past (Client c) && tells_wait f.op r.answer k) (hopes_of who k past) (a.hopes w);
          }
      by true q more lt =
          let p = and_parts (is_own who past (Client c)) (brings_cookie f.op r.answer k) q in
          let own : who ≡ life_of c past = own_is who past c p.0 in
          record {
            deed = of;
            acted = made.acted;
            of = of_who ∙ sym own;
            brings = brings_of k p.1;
            heard = inl (subst (λ (w : Who). is_own w past (Client c) ≡ true) (sym of_who) (own_self past c), of_xid);
            boot = λ life.
                let known : known_of who.client past ≡ known_of c past = ap (λ (w : Who). known_of w.client past) own
                ∙ ap (λ v. known_of v past) (all.phase.client c) in
                ⊎_elim
                (λ (same : r.boot ≡ of.reply.boot). sym same ∙ ok.boot ∙ sym known)
                (λ (m : IsMade of). absurd (let yes = brings_of k p.1 in let no = all.done.plain of made.acted m k in cc))
                made.own;
            hopes = λ w. ap (λ (b : Bool). (b && tells_wait f.op r.answer k) || hopes_of who k past) p.0
                ∙ ap (λ (b : Bool). b || hopes_of who k past) (of_tells k w);
          }

  -- ---- what is held

  holding_new : (l : Lock) → In l (brought f.op r) → Holding head.osts hearing c (held_as t l false)
  holding_new l i =
      record {
        deed = of;
        gave = gave_more past hearing hears_more of l (gives l i);
        who = of_who;
        heard = inl (own_self past c, of_xid);
        came = comes_hopes l i;
        granted = lives l (comes l i);
      }

  comes_new : (l : Lock) → In l (brought f.op r) → Comes head.osts past hearing c (held_as t l false)
  comes_new l i = record { holding = holding_new l i; apart = apart }
    where
      apart : (d : Deed) (k : Lock) → Gave past d k → IsOver past d k → d.reply.who.client ≡ c → l.cookie.0 ≡ k.cookie.0 → ⊥
      apart d k g over own e =
          let same : d ≡ of = (all.locks.once d of k l g (gives l i) (ap numbered (sym e))).0 in
          ⊎_elim
          (λ (x : Dead past d k). not_yet (subst (λ (v : Deed). Hears past v.reply.who v.reply.xid.0) same x.0))
          (λ (x : Lapsed past d k). not_lapsed l (comes l i) (subst (λ (v : Deed). v.reply.boot < known_of v.reply.who.client past) same
          x.0))
          over

  pub heard_stays : Stays head.osts head.clients past hearing
  heard_stays =
      client_stays head.osts head.clients past stamp c (Heard t f r) all.phase.client all.locks hears_more (λ d a. a) (λ l p. p)
      (λ d. omega arith)
      (λ d g i. ⊎_elim
      (λ (j : In g (held_at d past)). inl (kept_same (held_at d past) g j, refl))
      (λ (j : (d ≡ c) × ((l : Lock) × In l (brought f.op r) × (held_as t l false ≡ g))). inr
      (subst (λ (v : HeldLock). Comes head.osts past hearing d v) j.1.2
      (subst (λ v. Comes head.osts past hearing v (held_as t j.1.0 false)) (sym j.0) (comes_new j.1.0 j.1.1))))
      (held_now d g i))
      heard_hopes heard_single heard_awaits

  pub locks_heard : Locks head.osts head.clients hearing
  locks_heard = client_locks head.osts head.clients past stamp c (Heard t f r) all.phase.client all.locks heard_stays
      (record { was = λ from to m w. w; gone = λ d cookie w. w })

-- ---- the grant of a lock that waited

lock_is : (l k : Lock) → l.cookie ≡ k.cookie → l.resource ≡ k.resource → l.ask.who ≡ k.ask.who → l.ask.mode ≡ k.ask.mode → l.ask.policy
    ≡ k.ask.policy → l ≡ k
lock_is l k cookie resource who mode policy =
    ap (λ (v : Cookie). record l { cookie = v }) cookie
    ∙ ap (λ (v : Resource). record { cookie = k.cookie; resource = v; ask = l.ask }) resource
    ∙ ap (λ (v : Who). record {
      cookie = k.cookie;
      resource = k.resource;
      ask =
          record { who = v; mode = l.ask.mode; policy = l.ask.policy };
    }) who
    ∙ ap (λ (v : Mode). record {
      cookie = k.cookie;
      resource = k.resource;
      ask =
          record { who = k.ask.who; mode = v; policy = l.ask.policy };
    }) mode
    ∙ ap (λ (v : Policy). record {
      cookie = k.cookie;
      resource = k.resource;
      ask =
          record { who = k.ask.who; mode = k.ask.mode; policy = v };
    }) policy

module _ (head : Head) (past : List Line) (stamp : Stamp) (c t : ℕ) (lock : Lock) (marked : Bool) (size : Option ℕ) (seen : List ℕ)
    (ok : GivenOf past c t lock seen) (all : HoldsAt head past) where
  abbrev coming : List Line
  coming = line (turn stamp (Client c)) (Hold t lock marked size seen) ∷ past

  abbrev life : Who
  life = ok.notice.who

  -- what was done for the request, and told it to wait
  abbrev answered : (d : Deed) × Acted past d × (ok.reply ≡ record d.reply { boot = ok.reply.boot; committed = ok.reply.committed })
      × (ok.reply.who ≡ life) × (ok.flight.xid ≡ d.reply.xid.0) × (ok.flight.op ≡ d.op) × (ok.flight.tag ≡ d.tag)
  answered = all.done.answered life ok.flight ok.reply ok.heard

  abbrev waited : Deed
  waited = answered.0

  waited_who : waited.reply.who ≡ life
  waited_who = ap (λ (v : ReplyTo). v.who) (sym answered.2) ∙ answered.3

  waited_op : waited.op ≡ op.Enqueue lock.resource lock.ask.mode ok.extent
  waited_op = sym answered.5 ∙ ok.asked

  waited_tells : tells_wait waited.op waited.reply.answer lock.cookie.0 ≡ true
  waited_tells =
      ap (λ (o : Op). tells_wait o waited.reply.answer lock.cookie.0) waited_op
      ∙ ap (λ (v : ReplyTo). tells_wait (op.Enqueue lock.resource lock.ask.mode ok.extent) v.answer lock.cookie.0) (sym answered.2)
      ∙ ap (λ (a : Answer). tells_wait (op.Enqueue lock.resource lock.ask.mode ok.extent) a lock.cookie.0) ok.told
      ∙ self lock.cookie.0

  waited_names : Names waited lock.cookie.0
  waited_names = inr (waits_bring waited.op waited.reply.answer lock.cookie.0 waited_tells)

  waited_heard : Hears past life waited.reply.xid.0
  waited_heard = subst (λ v. Hears past life v) answered.4 (heard_hears past life ok.flight ok.reply ok.heard)

  abbrev notified : Notified past ok.notice
  notified = all.locks.notices (Target t) (Client c) ok.notice ok.was

  same_cookie : notified.lock.cookie ≡ lock.cookie
  same_cookie = notified.is ∙ sym ok.cookie

  -- it is the same that gave the lock
  is_waited : (d : Deed) → Acted past d → Names d lock.cookie.0 → d ≡ waited
  is_waited d a n = all.locks.named d waited lock.cookie.0 a answered.1 n waited_names

  same_deed : notified.deed ≡ waited
  same_deed = is_waited notified.deed notified.gave.0 (subst (λ (v : Cookie). Names notified.deed v.0) same_cookie
      (gave_names past notified.deed notified.lock notified.gave))

  promoted : Promoted past notified.lock
  promoted =
      ⊎_elim
      (λ (i : In notified.lock (brought notified.deed.op notified.deed.reply)).
      absurd (subst (λ (ls : List Lock). In notified.lock ls) (all.locks.bare waited lock.cookie.0 answered.1 waited_tells)
      (subst (λ (d : Deed). In notified.lock (brought d.op d.reply)) same_deed i)))
      (λ (p : Promoted past notified.lock × (tells_wait notified.deed.op notified.deed.reply.answer notified.lock.cookie.0 ≡ true)). p.0)
      notified.gave.1

  abbrev by_deed : (d : Deed) × Gave past d notified.lock × (tells_wait d.op d.reply.answer notified.lock.cookie.0 ≡ true)
      × AskedFor d notified.lock × HasRange notified.lock.ask.policy
  by_deed = all.locks.promoted notified.lock promoted

  asked : AskedFor waited notified.lock
  asked = subst (λ (d : Deed). AskedFor d notified.lock) (is_waited by_deed.0 by_deed.1.0
      (subst (λ (v : Cookie). Names by_deed.0 v.0) same_cookie (gave_names past by_deed.0 notified.lock by_deed.1))) by_deed.3

  same_lock : notified.lock ≡ lock
  same_lock =
      let q : op.Enqueue notified.lock.resource notified.lock.ask.mode asked.0 ≡ op.Enqueue lock.resource lock.ask.mode ok.extent =
      sym asked.1 ∙ waited_op in
      lock_is notified.lock lock same_cookie (cc) (all.locks.whose notified.deed notified.lock notified.gave ∙ notified.of ∙ sym ok.of_life)
      (cc)
      (sym (range_is notified.lock.ask.policy by_deed.4) ∙ ap Range notified.extent ∙ sym ok.range)

  gave : Gave past waited lock
  gave = subst (λ (d : Deed). Gave past d lock) same_deed (subst (λ (l : Lock). Gave past notified.deed l) same_lock notified.gave)

  abbrev awaited : AwaitedBy past life lock.cookie.0
  awaited = all.locks.awaits life lock.cookie.0 ok.awaits

  awaited_same : awaited.deed ≡ waited
  awaited_same = is_waited awaited.deed awaited.acted (inr awaited.brings)

  pub hoped : hopes_of life lock.cookie.0 past ≡ true
  hoped = awaited.hopes (subst (λ (d : Deed). tells_wait d.op d.reply.answer lock.cookie.0 ≡ true) (sym awaited_same) waited_tells)

  here : life.client ≡ c
  here = ap (λ (w : Who). w.client) ok.who ∙ all.phase.client c

  known_boot : waited.reply.boot ≡ known_of life.client past
  known_boot = ap (λ (d : Deed). d.reply.boot) (sym awaited_same) ∙ awaited.boot (ap (λ v. life_of v past) here ∙ sym ok.who)

  not_over : (d : Deed) (l : Lock) → Gave past d l → IsOver past d l → lock.cookie.0 ≡ l.cookie.0 → ⊥
  not_over d l g over e =
      let same = all.locks.once waited d lock l gave g (ap numbered e) in
      ⊎_elim
      (λ (x : Dead past d l).
      let no : hopes_of life lock.cookie.0 past ≡ false = ap (λ (w : Who). hopes_of w lock.cookie.0 past)
      (sym waited_who ∙ ap (λ (v : Deed). v.reply.who) same.0) ∙ ap (λ v. hopes_of d.reply.who v past) e ∙ x.2 in
      let yes = hoped in
      absurd (cc))
      (λ (x : Lapsed past d l).
      let lt : waited.reply.boot < known_of waited.reply.who.client past =
      subst (λ (v : Deed). v.reply.boot < known_of v.reply.who.client past) (sym same.0) x.0 in
      let known : known_of waited.reply.who.client past ≡ known_of life.client past = ap (λ (w : Who). known_of w.client past) waited_who in
      let boot = known_boot in
      omega (arith, lt, known, boot))
      over

  came : hopes_of (life_of c past) lock.cookie.0 coming ≡ false
  came = by (is_own (life_of c past) past (Client c) && lock.cookie.0 == lock.cookie.0) own
    where
      own : (is_own (life_of c past) past (Client c) && lock.cookie.0 == lock.cookie.0) ≡ true
      own = ap (λ (b : Bool). b && lock.cookie.0 == lock.cookie.0) (own_self past c) ∙ self lock.cookie.0

      by : (b : Bool) → b ≡ true → (if b then false else hopes_of (life_of c past) lock.cookie.0 past) ≡ false
      by true q = refl
      by false q = absurd (cc)

  given_granted : In lock (server_of head.osts past).granted ⊎ Evicted past (life_of c past)
  given_granted = one_of_four
      (λ (i : In lock (server_of head.osts past).granted). inl i)
      (λ (x : Dead past waited lock). absurd (not_over waited lock gave (inl x) refl))
      (λ (x : Evicted past waited.reply.who). inr (subst (λ (w : Who). Evicted past w) (waited_who ∙ ok.who) x))
      (λ (x : Lapsed past waited lock). absurd (not_over waited lock gave (inr x) refl))
      (all.locks.alive waited lock gave)

  given_comes : Comes head.osts past coming c (held_as t lock marked)
  given_comes =
      record {
        holding = record {
          deed = waited;
          gave = gave_more past coming (record { acted = λ d a. a; promoted = λ l p. p; hears = λ d x a. a; heard = λ d g k a. a }) waited
              lock gave;
          who = waited_who ∙ ok.who;
          heard = subst (λ (w : Who). Hears past w waited.reply.xid.0) ok.who waited_heard;
          came = came;
          granted = given_granted;
        };
        apart = λ d l g over own e. not_over d l g over e;
      }

  pub given_stays : Stays head.osts head.clients past coming
  given_stays =
      hold_stays head.osts head.clients past stamp c all.phase.client all.locks t lock marked size seen
      (λ d k i. ⊎_elim
      (λ (e : (d ≡ c) × (held_as t lock marked ≡ k)). inr (subst (λ (v : HeldLock). Comes head.osts past coming d v) e.1
      (subst (λ v. Comes head.osts past coming v (held_as t lock marked)) (sym e.0) given_comes)))
      (λ (j : In k (held_at d past)). inl (kept_same (held_at d past) k j, refl))
      (hold_held past stamp c t lock marked size seen d k i))

-- a lock is shown, or comes
pub holds_stay : (head : Head) (past : List Line) (stamp : Stamp) (c t : ℕ) (lock : Lock) (marked : Bool) (size : Option ℕ) (seen : List ℕ)
    → ((marked ≡ false) × HeldOk past c t lock seen) ⊎ GivenOf past c t lock seen → HoldsAt head past
    → Stays head.osts head.clients past (line (turn stamp (Client c)) (Hold t lock marked size seen) ∷ past)
holds_stay head past stamp c t lock marked size seen (inl ok) all =
    hold_stays head.osts head.clients past stamp c all.phase.client all.locks t lock marked size seen
    (λ d k i. inl (shown_held past stamp c t lock marked size seen ok.1 d k i, refl))
holds_stay head past stamp c t lock marked size seen (inr ok) all = given_stays head past stamp c t lock marked size seen ok all

-- ---- a client is told a newer boot: it waits no longer

module _ (osts clients : ℕ) (past : List Line) (stamp : Stamp) (c t boot : ℕ) (ok : BootKnownOk past c t boot)
    (client : (c : ℕ) → (life_of c past).client ≡ c) (h : Locks osts clients past) where
  abbrev knowing : List Line
  knowing = line (turn stamp (Client c)) (Knows t boot) ∷ past

  knows_rises : (d : ℕ) → known_of d past ≤ known_of d knowing
  knows_rises d =
      cond_both (nat_eq d c) boot (known_of d past) (λ n. known_of d past ≤ n)
      (λ q. let more = ok.newer in let same : known_of d past ≡ known_of c past = ap (λ v. known_of v past) (eqb-true d c q)
      in omega (arith, more, same))
      (λ q. omega arith)

  knows_hopes : (who : Who) (k : ℕ) → hopes_of who k past ≡ false → hopes_of who k knowing ≡ false
  knows_hopes who k e = by (is_own who past (Client c))
    where
      by : (b : Bool) → (if b then false else hopes_of who k past) ≡ false
      by true = refl
      by false = e

  knows_single : (who : Who) (k : ℕ) → awaits_of who k knowing ≤ 1
  knows_single who k = by (is_own who past (Client c)) (h.single who k)
    where
      by : (b : Bool) → awaits_of who k past ≤ 1 → (if b then 0 else awaits_of who k past) ≤ 1
      by true le = omega arith
      by false le = le

  knows_awaits : (who : Who) (k : ℕ) → 0 < awaits_of who k knowing → AwaitedBy knowing who k
  knows_awaits who k lt = by (is_own who past (Client c)) refl (h.awaits who k) lt
    where
      -- a life that isn't its client's present one
      other : is_own who past (Client c) ≡ false → life_of who.client past ≡ who → nat_eq who.client c ≡ false
      other q life = at (nat_eq who.client c) refl
        where
          at : (b : Bool) → nat_eq who.client c ≡ b → b ≡ false
          at true e =
              let own : is_own who past (Client c) ≡ true = ap (λ (w : Who). is_own w past (Client c))
              (sym life ∙ ap (λ v. life_of v past) (eqb-true who.client c e)) ∙ own_self past c in
              absurd (cc)
          at false e = refl

      by : (b : Bool) → is_own who past (Client c) ≡ b → (0 < awaits_of who k past → AwaitedBy past who k)
          → 0 < (if b then 0 else awaits_of who k past) → AwaitedBy knowing who k
      by true q more lt = absurd (omega arith)
      by false q more lt =
          let a = more lt in
          record {
            deed = a.deed;
            acted = a.acted;
            of = a.of;
            brings = a.brings;
            heard = a.heard;
            boot = λ life. a.boot life ∙ ap (λ (b : Bool). if b then boot else known_of who.client past) (sym (other q life));
            hopes = λ w. ap (λ (b : Bool). if b then false else hopes_of who k past) q ∙ a.hopes w;
          }

  pub knows_stays : Stays osts clients past knowing
  knows_stays =
      client_stays osts clients past stamp c (Knows t boot) client h
      (record { acted = λ d a. a; promoted = λ l p. p; hears = λ d x a. a; heard = λ d f r a. a }) (λ d a. a) (λ l p. p) knows_rises
      (λ d k i. inl (kept_same (held_at d past) k i, refl)) (λ d l g x e. knows_hopes d.reply.who l.cookie.0 e) knows_single knows_awaits

  pub locks_knows : Locks osts clients knowing
  locks_knows = client_locks osts clients past stamp c (Knows t boot) client h knows_stays
      (record { was = λ from to m w. w; gone = λ d cookie w. w })

-- ---- a new life begins, which holds nothing, and heard nothing yet

module _ (head : Head) (past : List Line) (stamp : Stamp) (c : ℕ) (who : Who) (ok : LifeOf past c who) (all : HoldsAt head past) where
  abbrev beginning : List Line
  beginning = line (turn stamp (Client c)) (Life who) ∷ past

  life_kept : (d : ℕ) (k : HeldLock) → In k (held_at d past) → life_of d past ≡ life_of d beginning
  life_kept d k i = by (nat_eq d c) refl
    where
      by : (b : Bool) → nat_eq d c ≡ b → life_of d past ≡ (if b then who else life_of d past)
      by true e = absurd (subst (λ (hs : List HeldLock). In k hs) ok.empty (subst (λ v. In k (held_at v past)) (eqb-true d c e) i))
      by false e = refl

  life_awaits : (w : Who) (k : ℕ) → 0 < awaits_of w k past → AwaitedBy beginning w k
  life_awaits w k lt =
      let a = all.locks.awaits w k lt in
      record {
        deed = a.deed;
        acted = a.acted;
        of = a.of;
        brings = a.brings;
        heard = a.heard;
        boot = λ life. by (nat_eq w.client c) refl life (a.boot) a.deed a.acted a.of;
        hopes = a.hopes;
      }
    where
      by : (b : Bool) → nat_eq w.client c ≡ b → (if b then who else life_of w.client past) ≡ w → {X : Type 0}
          → (life_of w.client past ≡ w → X) → (d : Deed) → Acted past d → d.reply.who ≡ w → X
      by false e life more d a of = more life
      by true e life more d a of =
          let f = all.done.flew d a in
          let low = all.numbers.lived w f.0 (subst (λ (v : Who). Flew past v f.0) of f.1) in
          let same : (life_of w.client past).life ≡ (life_of c past).life = ap (λ v. (life_of v past).life) (eqb-true w.client c e) in
          let next : (life_of c past).life + 1 ≡ w.life = ap (λ (v : Who). v.life) (sym ok.next ∙ life) in
          absurd (omega (arith, low, same, next))

  pub life_stays : Stays head.osts head.clients past beginning
  life_stays =
      client_stays head.osts head.clients past stamp c (Life who) all.phase.client all.locks
      (record { acted = λ d a. a; promoted = λ l p. p; hears = λ d x a. a; heard = λ d f r a. a }) (λ d a. a) (λ l p. p)
      (λ d. omega arith)
      (λ d k i. inl (kept_same (held_at d past) k i, life_kept d k i)) (λ d l g x e. e) all.locks.single life_awaits

  pub locks_life : Locks head.osts head.clients beginning
  locks_life = client_locks head.osts head.clients past stamp c (Life who) all.phase.client all.locks life_stays
      (record { was = λ from to m w. w; gone = λ d cookie w. w })
