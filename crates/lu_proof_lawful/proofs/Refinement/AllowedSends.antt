-- What a target sends, and which locks it takes back, is allowed in the story: a reply that stands, a lock that had waited, with the object
-- as it is, that a
-- granted lock is called back; and a lock goes once it was given back, in the boot that serves, or its life was evicted.
use Rattle.std.proofs.Common.{◌≡◌, ℕ, ◌≤◌, Bool, true, false, List, ◌∷◌, Some, ◌⊎◌, inl, inr, ⊎_elim, refl, sym, subst, ap, ◌∙◌, arith}
use Rattle.std.specs.Prelude.{nat_eq, not}
use Rattle.std.proofs.lemmas.Bool.{not-true}
use Rattle.lu_base.specs.declared.ids.Cookie.{Cookie}
use Rattle.lu_base.specs.declared.ids.Node.{Node}
use Rattle.lu_base.specs.declared.ids.Node.TheVariants.{Client, Target}
use Rattle.lu_base.specs.declared.ids.Stamp.{Stamp}
use Rattle.lu_base.specs.declared.ids.Who.{Who}
use Rattle.lu_base.specs.declared.locks.Lock.{Lock as TableLock}
use Rattle.lu_base.specs.declared.locks.Resource.{Resource}
use Rattle.lu_spec_machine.specs.Objects.{range}
use Rattle.lu_msg.specs.declared.messages.GrantNotice.{GrantNotice}
use Rattle.lu_msg.specs.declared.messages.Message.TheVariants as message
use Rattle.lu_msg.specs.declared.messages.Reply.{Reply as ReplyTo}
use Rattle.lu_spec_entries.specs.Carried.{Deed, Flight}
use Rattle.lu_spec_entries.specs.Words as word
use Rattle.lu_spec_entries.specs.Words.{Line, line}
use Rattle.lu_spec_target.specs.Queues.{extent_of}
use Rattle.lu_spec_target.specs.Replies.{seen_in}
use Rattle.lu_proof_lawful.specs.Covered.Deeds.{size_at}
use Rattle.lu_proof_lawful.specs.Covered.Heads.{Head}
use Rattle.lu_proof_lawful.specs.Covered.TargetStates.{server_of, closed_of}
use Rattle.lu_proof_lawful.proofs.Preconditions.Guards.{In, Was, HasRange}
use Rattle.lu_proof_lawful.proofs.Preconditions.StoryGuards.{IsServing, ReplyOk, GivesOk, CallsOk, BackOk, LeftOk}
use Rattle.lu_proof_lawful.proofs.Preconditions.Lists.{self, turn, in_filter}
use Rattle.lu_proof_lawful.proofs.Preconditions.Grown.{ShowsNext}
use Rattle.lu_proof_lawful.proofs.Invariants.Groups.{HoldsAt}
use Rattle.lu_proof_lawful.proofs.Invariants.TargetGroups.{Gave, Flew}
use Rattle.lu_proof_bytes.specs.Object.Words.{Lock, Request, Entry, Reply, Give, Block, Cancel, covers}
use Rattle.lu_proof_bytes.specs.Object.Folds as says
use Rattle.lu_proof_bytes.specs.Object.Folds.{IsGranted, Answered}
use Rattle.lu_proof_bytes.specs.Object.Guards as guards
use Rattle.lu_proof_bytes.specs.Object.Guards.{SendOk, Sees, IsEnd}
use Rattle.lu_proof_lawful.specs.Projection.Lives.{number_of}
use Rattle.lu_proof_lawful.specs.Projection.Locks.{lock_of, given}
use Rattle.lu_proof_lawful.specs.Projection.Requests.{op_of, asked_as, among, answer_of}
use Rattle.lu_proof_lawful.specs.Projection.Messages.{request_as}
use Rattle.lu_proof_lawful.proofs.Refinement.TiedObject.{ObjectBy}
use Rattle.lu_proof_lawful.proofs.Refinement.TiedAsked.{IsOn}
use Rattle.lu_proof_lawful.proofs.Refinement.TiedTarget.{TargetBy}
use Rattle.lu_proof_lawful.proofs.Refinement.TargetOwn.{same_lock}
use Rattle.lu_proof_lawful.proofs.Refinement.AllowedBase.{ranged, ends_there}
use Rattle.lu_proof_lawful.proofs.Refinement.AllowedLocks.{committed_now, sees_lock}
use Rattle.lu_proof_lawful.proofs.Refinement.AllowedBytes.{named_there}

module _ (head : Head) (r : Resource) (past : List Line) (h : List Entry) (stamp : Stamp) (t : ℕ) (all : HoldsAt head past)
    (tied : TargetBy head r past h) (object : ObjectBy head r past h)
    (ranges : (l : TableLock) → In l (server_of head.osts past).granted → HasRange l.ask.policy) where
  -- the story's lock of a granted one's cookie
  lock_is : (l : TableLock) → In l (server_of head.osts past).granted → (m : Lock) → given l.cookie.0 h ≡ Some m → (l.resource ≡ r)
      × (lock_of l ≡ m) × IsGranted h m
  lock_is l i m e =
      let g = all.locks.granted l i in
      let o = tied.given l.cookie.0 m e in
      let on = o.0 in
      let cookie : on.1.cookie.0 ≡ l.cookie.0 = ap (λ (x : Lock). x.cookie) on.4 ∙ o.1 in
      let same : on.1 ≡ l = same_lock head past all on.0 g.0 on.1 l on.2 g.1 cookie in
      let here : l.resource ≡ r = subst (λ (x : TableLock). x.resource ≡ r) same on.3 in
      let is : lock_of l ≡ m = subst (λ (x : TableLock). lock_of x ≡ m) same on.4 in
      (here, is, subst (λ (x : Lock). IsGranted h x) is (tied.grants l i here))

  -- ---- a lock that had waited

  pub gives_allowed : (c : ℕ) (g : GrantNotice) → GivesOk head.osts past t c g
      → ShowsNext head past (turn stamp (Target t)) (word.Send (Client c) (message.Grant g)) → (m : Lock) → given g.cookie.0 h ≡ Some m
      → SendOk h (Give g.boot m g.size (among g.seen))
  gives_allowed c g ok shows m e =
      subst (λ (x : GrantNotice). given x.cookie.0 h ≡ Some m → SendOk h (Give x.boot m x.size (among x.seen))) (sym ok.is) (λ f. of_lock f)
      e
    where
      of_lock : given ok.lock.cookie.0 h ≡ Some m → SendOk h (Give (server_of head.osts past).boot m
          (size_at (server_of head.osts past) ok.lock.resource)
          (among (seen_in (range ok.lock.resource (extent_of ok.lock).first (extent_of ok.lock).last) (server_of head.osts past).log)))
      of_lock f =
          let l = lock_is ok.lock ok.granted m f in
          let g = all.locks.granted ok.lock ok.granted in
          let kind = ranged ok.lock (ranges ok.lock ok.granted) (all.locks.kinds g.0 ok.lock g.1) in (
            l.2,
            subst (λ (q : Resource). IsEnd h (size_at (server_of head.osts past) q)) (sym l.0) (ends_there head r past h all tied object),
            subst (λ (q : Resource). Sees h (among (seen_in (range q (extent_of ok.lock).first (extent_of ok.lock).last)
                (server_of head.osts past).log)) (covers m)) (sym l.0)
                (subst (λ (x : Lock). Sees h (among (seen_in (range r (extent_of ok.lock).first (extent_of ok.lock).last)
                (server_of head.osts past).log)) (covers x)) l.1
                (sees_lock head r past h all tied object ok.lock kind
                (committed_now head r past h stamp t all tied object ranges (word.Send (Client c) (message.Grant g_is)) shows
                (λ k. k)))),
            sym ok.serves.closed ∙ sym tied.closed,
          )
        where
          g_is : GrantNotice
          g_is = g

  -- ---- that a lock is called back

  pub calls_allowed : (c : ℕ) (who : Who) (boot : ℕ) (cookie : Cookie) → CallsOk head.osts past c who boot cookie → (m : Lock)
      → given cookie.0 h ≡ Some m → SendOk h (Block boot (number_of who) cookie.0)
  calls_allowed c who boot cookie ok m e =
      let l = lock_is ok.lock ok.granted m (ap (λ (k : Cookie). given k.0 h) (sym ok.of_cookie) ∙ e) in (
        m,
        l.2,
        ap (λ (x : Lock). x.life) (sym l.1) ∙ ap number_of (sym ok.of_life),
        ap (λ (x : Lock). x.cookie) (sym l.1)
            ∙ ap (λ (k : Cookie). k.0) (sym ok.of_cookie),
      )

  -- ---- a reply

  pub reply_allowed : (c : ℕ) (k : ReplyTo) → ReplyOk head past t c k
      → HoldsAt head (line (turn stamp (Target t)) (word.Send (Client c) (message.Reply k)) ∷ past) → (q : Request)
      → asked_as (number_of k.who) k.xid.0 h ≡ Some q
      → SendOk h (Reply k.boot q.life q.xid (answer_of q k))
  reply_allowed c k ok now q e =
      let sent = now.done.sent (Target t) (Client c) (message.Reply k) (inl (refl, refl, refl)) in
      let boot : k.boot ≡ closed_of past = ap (λ (x : ReplyTo). x.boot) ok.is ∙ sym ok.serves.closed in
      let counts = sent.counts (let b = boot in omega arith) in
      let f = object.flew k.who k.xid.0 q e in
      let g = all.done.flew sent.deed sent.acted in
      let who : k.who ≡ sent.deed.reply.who = ap (λ (x : ReplyTo). x.who) sent.is in
      let xid : k.xid.0 ≡ sent.deed.reply.xid.0 = ap (λ (x : ReplyTo). x.xid.0) sent.is in
      let same : f.flight ≡ g.0 = all.numbers.one k.who f.flight g.0 f.flew (subst (λ (w : Who). Flew past w g.0) (sym who) g.1)
      (f.xid ∙ xid ∙ sym g.2) in
      let op_is : f.flight.op ≡ sent.deed.op = ap (λ (x : Flight). x.op) same ∙ g.3 in
      let answered = tied.answers sent.deed q.op sent.acted counts (subst (λ o. IsOn r o) op_is f.on)
      (subst (λ o. op_of r h o ≡ Some q.op) op_is f.op) in (
        subst (λ (x : Request). Answered h q.life q.xid (answer_of x k)) (sym f.is)
            (subst (λ (x : Request). Answered h x.life x.xid (answer_of (request_as (number_of k.who) k.xid.0 q.op) k)) (sym f.is)
            (subst (λ (x : ReplyTo). Answered h (number_of k.who) k.xid.0 (answer_of (request_as (number_of k.who) k.xid.0 q.op) x))
            (sym sent.is)
            (subst (λ (w : Who). Answered h (number_of w) k.xid.0 (answer_of (request_as (number_of w) k.xid.0 q.op) sent.deed.reply))
            (sym who)
            (subst (λ (x : ℕ). Answered h (number_of sent.deed.reply.who) x
            (answer_of (request_as (number_of sent.deed.reply.who) x q.op) sent.deed.reply)) (sym xid) answered)))),
        boot ∙ sym tied.closed,
      )

  -- ---- a lock goes

  -- no other granted lock has that cookie but that of an evicted life
  left_allowed : (lock : TableLock) → LeftOk head.osts past lock → (m : Lock) → IsGranted h m → m.cookie ≡ lock.cookie.0
      → says.evicted m.life h ≡ true
  left_allowed lock ok m granted cookie =
      let g = tied.granted m granted in
      let same : g.1.cookie.0 ≡ lock.cookie.0 = ap (λ (x : Lock). x.cookie) g.4 ∙ cookie in
      subst (λ (x : Lock). says.evicted x.life h ≡ true) g.4 (tied.evicted g.1.ask.who ∙ ⊎_elim
      (λ (i : In g.1 (server_of head.osts past).granted).
      let f = in_filter (λ (k : TableLock). not (nat_eq k.cookie.0 lock.cookie.0)) g.1 (server_of head.osts past).granted
      (subst (λ (ls : List TableLock). In g.1 ls) (sym ok.still) i) in
      absurd (let no = not-true (nat_eq g.1.cookie.0 lock.cookie.0) f.1 in let yes : nat_eq g.1.cookie.0 lock.cookie.0 ≡ true =
      rw same (self lock.cookie.0) in cc))
      (λ p. p.0)
      g.5)

  -- a lock that its holder gives back
  back_allowed : (lock : TableLock) → In lock (server_of head.osts past).granted → lock.resource ≡ r → (from to : Node) (boot : ℕ)
      → Was past from to (message.Cancel lock.ask.who boot lock.cookie) → (server_of head.osts past).boot ≤ boot
      → IsServing head.osts past → guards.ReleaseOk h lock.cookie.0
  back_allowed lock i on from to boot was high serves = by (says.evicted (number_of lock.ask.who) h) refl
    where
      g : (d : Deed) × Gave past d lock
      g = all.locks.granted lock i

      is : given lock.cookie.0 h ≡ Some (lock_of lock)
      is = tied.gives g.0 lock g.1 on

      by : (b : Bool) → says.evicted (number_of lock.ask.who) h ≡ b → guards.ReleaseOk h lock.cookie.0
      by false e = (let closed : says.closed h ≡ (server_of head.osts past).boot = tied.closed ∙ serves.closed in
          inl (boot, number_of lock.ask.who, object.cancels from to lock.ask.who boot lock.cookie (lock_of lock) was e is, omega arith))
      by true e = inr (λ m granted cookie.
          let k = lock_is lock i m (given_is m granted cookie) in
          subst (λ (x : Lock). says.evicted x.life h ≡ true) k.1 e)
        where
          given_is : (m : Lock) → IsGranted h m → m.cookie ≡ lock.cookie.0 → given lock.cookie.0 h ≡ Some m
          given_is m granted cookie =
              let x = tied.granted m granted in
              let c : x.1.cookie.0 ≡ lock.cookie.0 = ap (λ (y : Lock). y.cookie) x.4 ∙ cookie in
              ap (λ (n : ℕ). given n h) (sym c) ∙ tied.gives x.0 x.1 x.2 x.3 ∙ ap Some x.4

  -- why it goes: its life was evicted in this turn, or its holder's message came, of the boot that serves or a later one
  abbrev pub GoesFor : TableLock → Type 0
  GoesFor lock = (says.evicted (number_of lock.ask.who) h ≡ true)
      ⊎ ((from to : Node) × (boot : ℕ) × Was past from to (message.Cancel lock.ask.who boot lock.cookie)
      × ((server_of head.osts past).boot ≤ boot))

  pub release_allowed : (lock : TableLock) → lock.resource ≡ r → IsServing head.osts past → BackOk head.osts past t lock
      ⊎ LeftOk head.osts past lock → GoesFor lock → guards.ReleaseOk h lock.cookie.0
  release_allowed lock on serves (inr left) why = inr (λ m granted cookie. left_allowed lock left m granted cookie)
  release_allowed lock on serves (inl back) (inr m) = back_allowed lock
      (named_there lock.ask.who lock.cookie (server_of head.osts past).granted lock back.found).among on m.0 m.1 m.2 m.3 m.4 serves
  release_allowed lock on serves (inl back) (inl evicted) = inr (λ m granted cookie.
      let i = (named_there lock.ask.who lock.cookie (server_of head.osts past).granted lock back.found).among in
      let x = tied.granted m granted in
      let c : x.1.cookie.0 ≡ lock.cookie.0 = ap (λ (y : Lock). y.cookie) x.4 ∙ cookie in
      let k = lock_is lock i m (ap (λ (n : ℕ). given n h) (sym c) ∙ tied.gives x.0 x.1 x.2 x.3 ∙ ap Some x.4) in
      subst (λ (y : Lock). says.evicted y.life h ≡ true) k.1 evicted)
