-- Who is told what: the reply that answered a call is to what was done for what it asked after it began.
use Rattle.std.proofs.Common.{◌≡◌, ℕ, ◌<◌, List, ◌∷◌, Option, Some, None, ◌⊎◌, inl, inr, ⊎_elim, refl, sym, subst, ap, ◌∙◌, arith}
use Rattle.std.specs.Prelude.{nat_eq}
use Rattle.std.proofs.lemmas.Bool.{cond_both, eqb-true}
use Rattle.lu_base.specs.declared.ids.At.{At}
use Rattle.lu_base.specs.declared.ids.Node.{Node}
use Rattle.lu_base.specs.declared.ids.Node.TheVariants.{Client, Target}
use Rattle.lu_base.specs.declared.ids.Stamp.{Stamp}
use Rattle.lu_base.specs.declared.ids.Who.{Who}
use Rattle.lu_base.specs.declared.locks.Policy.{Policy}
use Rattle.lu_base.specs.declared.locks.Policy.TheVariants.{Bits, Range}
use Rattle.lu_msg.specs.declared.calls.Call.{Call}
use Rattle.lu_msg.specs.declared.messages.Message.TheVariants as message
use Rattle.lu_msg.specs.declared.messages.Reply.{Reply as ReplyTo}
use Rattle.lu_msg.specs.declared.operations.Op.{Op}
use Rattle.lu_msg.specs.declared.operations.Op.TheVariants as op
use Rattle.lu_held.specs.declared.locks.Use.{Use}
use Rattle.lu_spec_entries.specs.Carried.{Deed, HandleFile, Flight, Answered, Stage, Plain, Enqueued, Gets, Sizes, Work, Running}
use Rattle.lu_spec_entries.specs.Words.{Entry, Tick, Queues, Heard, Life, Line, line}
use Rattle.lu_spec_entries.specs.Concerns.{only}
use Rattle.lu_spec_client.specs.Advances.{enqueue_of}
use Rattle.lu_proof_lawful.specs.Covered.Calls.{errand, call_at, life_at, operation_of}
use Rattle.lu_proof_lawful.specs.Covered.Imports.{flights_at}
use Rattle.lu_proof_lawful.specs.Covered.ClientStates.{flights_of, life_of}
use Rattle.lu_proof_lawful.specs.Covered.Heads.{Head}
use Rattle.lu_proof_lawful.proofs.Preconditions.Guards.{In, Ending, SizesStand, LockStand, StatStand, GetStand, FlushStand, MovedStand}
use Rattle.lu_proof_lawful.proofs.Preconditions.Guards.{StandsOk, EntryOk}
use Rattle.lu_proof_lawful.proofs.Preconditions.StoryGuards.{HeardOk}
use Rattle.lu_proof_lawful.proofs.Preconditions.Grown.{Grown}
use Rattle.lu_proof_lawful.proofs.Preconditions.Lists.{self}
use Rattle.lu_proof_lawful.proofs.Preconditions.ClientLines.{IsNames, IsSize, IsLock, IsAskedOf, flights_asked}
use Rattle.lu_proof_lawful.proofs.Preconditions.Parts.{flights_now, life_is_of}
use Rattle.lu_proof_lawful.proofs.Invariants.Groups.{turn, HoldsAt, CallOf, Asks, Upto, Since, IsWorking, IsPage, AnswersFor, Replied}
use Rattle.lu_proof_lawful.proofs.Invariants.Groups.{Replies}
use Rattle.lu_proof_lawful.proofs.Invariants.TargetGroups.{Flew, Acted}
use Rattle.lu_proof_lawful.proofs.Invariants.Lines.{AtEach, only_more}
use Rattle.lu_proof_lawful.proofs.Preconditions.Asks.{AsksFor, plain_errand, sizes_errand, locks_errand, stages_errand}
use Rattle.lu_proof_lawful.proofs.Preconditions.Calls.{Began, Touches, Touched, Stood, call_cases}
use Rattle.lu_proof_lawful.proofs.Preconditions.Endings.{reply_ends_none}

replied_more : (past : List Line) (l : Line) (c : ℕ) (r : Running) (target : ℕ) (reply : ReplyTo) → life_at c (l ∷ past) ≡ life_at c past
    → Replied past c r target reply → Replied (l ∷ past) c r target reply
replied_more past l c r target reply same k = record {
  deed = k.deed;
  acted = only_more target l past k.deed k.acted;
  is = k.is;
  client =
      k.client ∙ sym same;
  op = k.op;
  since = k.since;
}

-- where a call isn't told its life goes on
pub call_lives : (past : List Line) (stamp : Stamp) (node : Node) (e : Entry) → EntryOk past (turn stamp node) node e
    → (c slot : ℕ) (r : Running) → call_at c slot (line (turn stamp node) e ∷ past) ≡ Some r
    → life_at c (line (turn stamp node) e ∷ past) ≡ life_at c past
call_lives past stamp (Client d) (Life who) ok c slot r k =
    cond_both (nat_eq c d) who (life_at c past) (λ (w : Who). w ≡ life_at c past)
    (λ q. let none : call_at c slot past ≡ None = ap (λ v. call_at v slot past) (eqb-true c d q) ∙ ok.idle slot in absurd (cc))
    (λ q. refl)
call_lives past stamp (Target t) Tick ok c slot r k = refl
call_lives past stamp node e ok c slot r k = refl

-- the operation of a deed is that of the flight of its life and number
flew_op : (head : Head) (past : List Line) (who : Who) (f : Flight) (d : Deed) → HoldsAt head past → In f (flights_of who past)
    → Acted past d → d.reply.who ≡ who → d.reply.xid.0 ≡ f.xid → f.op ≡ d.op
flew_op head past who f d h i a w x =
    let g = h.done.flew d a in
    let y = g.2 in
    let same : f ≡ g.0 = h.numbers.one who f g.0 (h.numbers.flying who f i) (subst (λ v. Flew past v g.0) w g.1) (omega arith) in
    ap (λ (v : Flight). v.op) same ∙ g.3

-- what is asked for on an object isn't on names
on_object : (t : ℕ) (o : Op) → IsAskedOf t o → IsSize o ⊎ IsLock o ⊎ IsPage o → (0 < t) × (IsSize o ⊎ IsLock o ⊎ IsPage o)
on_object t o (inr a) k = (a.0, k)
on_object t o (inl a) k = absurd (by o a.1 k)
  where
    by : (o : Op) → IsNames o → IsSize o ⊎ IsLock o ⊎ IsPage o → ⊥
    by (op.Size resource) n k = n
    by (op.Enqueue resource mode extent) n k = n
    by (op.Get resource cookie page) n k = n
    by (op.Put resource cookie offset bytes) n k = n
    by (op.Cut resource cookie size) n k = n
    by o n (inl k) = k
    by o n (inr (inl k)) = k
    by o n (inr (inr k)) = k

-- the lock on a range, or the size where none is wanted
wanted_kind : (p : Policy) (wanted : Use) → IsSize (elim p [
  | Range extent ↦ op.Enqueue wanted.resource wanted.mode extent
  | Bits bits
      ↦ op.Size wanted.resource
]) ⊎ IsLock (elim p [
  | Range extent ↦ op.Enqueue wanted.resource wanted.mode extent
  | Bits bits
      ↦ op.Size wanted.resource
])
wanted_kind (Range extent) wanted = inr tt
wanted_kind (Bits bits) wanted = inl tt

-- what a call asked, that waits for the answer
call_op : (head : Head) (past : List Line) (c t slot : ℕ) (f : Flight) (r : Running) → Grown head past → In f (flights_at c t past)
    → CallOf past c t f.slot f.op → f.slot ≡ Some slot
    → call_at c slot past ≡ Some r → AnswersFor r t f.op
call_op head past c t slot f r g i k s w =
    let q = subst (λ (v : Option ℕ). CallOf past c t v f.op) s k in
    let x : Some q.0 ≡ Some r = sym q.1 ∙ w in
    let same : q.0 ≡ r = cc in
    subst (λ (v : Running). AnswersFor v t f.op) same (asks q.0 q.3)
  where
    asked : IsAskedOf t f.op
    asked = flights_asked head c t past g f i

    works : (v : Running) (stage : Stage) → v.stage ≡ stage → IsWorking stage → IsSize f.op ⊎ IsLock f.op ⊎ IsPage f.op
        → AnswersFor v t f.op
    works v stage e on k = inr (subst IsWorking (sym e) on, inl (on_object t f.op asked k))

    by : (v : Running) → errand v ≡ Some (record { target = t; op = f.op }) → (v.stage ≡ Plain) ⊎ ((y : Work) × (v.stage ≡ Sizes y))
        ⊎ ((y : Work) × (v.stage ≡ Enqueued y)) → AnswersFor v t f.op
    by v e (inl plain) = let m = plain_errand v t f.op plain e in inl (plain, m.0, m.1)
    by v e (inr (inl (y, sizes))) = works v (Sizes y) sizes tt (inl (subst IsSize (sym (sizes_errand v y t f.op sizes e).of_op) tt))
    by v e (inr (inr (y, locks))) =
        let k = locks_errand v y t f.op locks e in
        works v (Enqueued y) locks tt
        (⊎_elim
        (λ (size : IsSize (enqueue_of k.wanted)). inl (subst IsSize (sym k.of_op) size))
        (λ (lock : IsLock (enqueue_of k.wanted)). inr (inl (subst IsLock (sym k.of_op) lock)))
        (wanted_kind k.wanted.policy k.wanted))

    asks : (v : Running) → AsksFor v t f.op → AnswersFor v t f.op
    asks v (inl e) = by v e (stages_errand v (record { target = t; op = f.op }) e)
    asks v (inr k) = works v (Gets k.work) k.stage tt (inr (inr (subst IsPage (sym k.of_op) tt)))

-- the call whose request's reply is heard
heard_replied : (head : Head) (past : List Line) (d u slot : ℕ) (f : Flight) (k : ReplyTo) (before : Running) → Grown head past
    → (Ending past d → ⊥) → HeardOk (only u past) d f k → HoldsAt head (only u past) → Asks past
    → Since past
    → f.slot ≡ Some slot → call_at d slot past ≡ Some before → Replied past d before u k
heard_replied head past d u slot f k before g lives ok at asks since s call =
    let m = at.done.sent (Target ok.from) (Client d) (message.Reply k) ok.was in
    let flying : In f (flights_at d u past) = subst (λ (fs : List Flight). In f fs) (sym (flights_now head d u past g)) ok.flying in
    let mine : m.deed.reply.who ≡ life_of d (only u past) = ap (λ (v : ReplyTo). v.who) (sym m.is) ∙ ok.who in
    let x : m.deed.reply.xid.0 ≡ f.xid = ap (λ (v : ReplyTo). v.xid.0) (sym m.is) ∙ sym ok.xid in
    record {
      deed = m.deed;
      acted = m.acted;
      is = sym m.is;
      client = ok.who ∙ sym (life_is_of d u past);
      op = subst (λ (v : Op). AnswersFor before u v) (flew_op head (only u past) (life_of d (only u past)) f m.deed at ok.flying m.acted
          mine x)
          (call_op head past d u slot f before g flying (asks.fly_calls d u f lives flying) s call);
      since = subst (λ (v : ReplyTo). Upto before.at v.at) (sym m.is)
          (since d u slot f before m.deed flying s call m.acted (mine ∙ sym (life_is_of d u past)) x);
    }

-- a call that asks the same
replied_as : (past : List Line) (c : ℕ) (q r : Running) (t : ℕ) (k : ReplyTo) → q.at ≡ r.at
    → ((o : Op) → AnswersFor q t o → AnswersFor r t o) → Replied past c q t k → Replied past c r t k
replied_as past c q r t k a asked h =
    record {
      deed = h.deed;
      acted = h.acted;
      is = h.is;
      client = h.client;
      op = asked h.deed.op h.op;
      since = subst (λ (v : At). Upto v k.at) a h.since;
    }

answers_as : (q r : Running) (t : ℕ) → q.call ≡ r.call → q.file ≡ r.file → q.stage ≡ r.stage → (o : Op) → AnswersFor q t o
    → AnswersFor r t o
answers_as q r t s i n o (inl a) = inl (
  sym n ∙ a.0,
  a.1,
  ap (λ (v : Call). operation_of r.file v) (sym s)
      ∙ ap (λ (v : Option HandleFile). operation_of v q.call) (sym i) ∙ a.2,
)
answers_as q r t s i n o (inr (on, inl a)) = inr (subst IsWorking n on, inl a)
answers_as q r t s i n o (inr (on, inr a)) = inr (
  subst IsWorking n on,
  inr (a.0, ap (λ (v : Call). operation_of r.file v) (sym s) ∙ ap (λ (v : Option HandleFile). operation_of v q.call) (sym i) ∙ a.1),
)

-- a call that was answered goes on with its work
works_on : (q r : Running) (t : ℕ) → q.call ≡ r.call → q.file ≡ r.file → IsWorking r.stage → (o : Op) → AnswersFor q t o → AnswersFor r t o
works_on q r t s i on o (inl asked) = inr (
  on,
  inr (
    asked.1,
    ap (λ (v : Call). operation_of r.file v) (sym s)
        ∙ ap (λ (v : Option HandleFile). operation_of v q.call) (sym i) ∙ asked.2,
  ),
)
works_on q r t s i on o (inr (was, inl asked)) = inr (on, inl asked)
works_on q r t s i on o (inr (was, inr asked)) = inr (
  on,
  inr (
    asked.0,
    ap (λ (v : Call). operation_of r.file v) (sym s)
        ∙ ap (λ (v : Option HandleFile). operation_of v q.call) (sym i) ∙ asked.1,
  ),
)

stands_works : (past : List Line) (at : At) (c slot : ℕ) (r : Running) (ok : StandsOk past at c slot r) → IsWorking ok.stage
stands_works past at c slot r ok = by ok.how
  where
    moved : MovedStand past at c ok.running ok.stage → IsWorking ok.stage
    moved (inl s) = subst IsWorking (sym s.is) tt
    moved (inr (inl s)) = subst IsWorking (sym s.is) tt
    moved (inr (inr (inl s))) = subst IsWorking (sym s.is) tt
    moved (inr (inr (inr (inl s)))) = subst IsWorking (sym s.is) tt
    moved (inr (inr (inr (inr s)))) = subst IsWorking (sym s.is) tt

    sizes : (work : Work) (A : Type 0) → (ok.stage ≡ Sizes work) ⊎ ((ok.stage ≡ Enqueued work) × A) → IsWorking ok.stage
    sizes work A (inl e) = subst IsWorking (sym e) tt
    sizes work A (inr e) = subst IsWorking (sym e.0) tt

    by : SizesStand past at ok.running ok.stage ok.pins
        ⊎ LockStand past c ok.running ok.stage
        ⊎ StatStand past at c ok.running ok.stage ok.pins
        ⊎ GetStand past c ok.running ok.stage ok.pins
        ⊎ FlushStand past c ok.running ok.stage ok.pins
        ⊎ ((ok.pins ≡ ok.running.pins) × MovedStand past at c ok.running ok.stage)
        → IsWorking ok.stage
    by (inl s) = sizes s.work _ s.is
    by (inr (inl s)) = subst IsWorking (sym s.is) tt
    by (inr (inr (inl s))) = subst IsWorking (sym s.is) tt
    by (inr (inr (inr (inl s)))) = subst IsWorking (sym s.is) tt
    by (inr (inr (inr (inr (inl s))))) = subst IsWorking (sym s.is) tt
    by (inr (inr (inr (inr (inr s))))) = moved s.1

answers_on : (past : List Line) (at : At) (c slot : ℕ) (r : Running) (t : ℕ) (ok : StandsOk past at c slot r) → (o : Op)
    → AnswersFor ok.running t o → AnswersFor r t o
answers_on past at c slot r t ok =
    works_on ok.running r t (ap (λ (v : Running). v.call) (sym ok.is)) (ap (λ (v : Running). v.file) (sym ok.is))
    (subst IsWorking (ap (λ (v : Running). v.stage) (sym ok.is)) (stands_works past at c slot r ok))

module _ (head : Head) (past : List Line) (g : Grown head past) (at : (t : ℕ) → HoldsAt head (only t past)) (asks : Asks past)
    (since : Since past) where
  touched_replied : (stamp : Stamp) (node : Node) (e : Entry) → EntryOk past (turn stamp node) node e
      → AtEach head past (turn stamp node) node e → (c slot target : ℕ) (r : Running) (reply : ReplyTo)
      → (q : Touched past node e c slot r) → Touches node e c slot r.asking
      → r.asking ≡ Answered target reply → Replied past c r target reply
  touched_replied stamp (Client d) (Heard u f k) ok of c slot target r reply q (n, s, asking) a =
      let y : Answered u k ≡ Answered target reply = sym asking ∙ a in
      let is_target : u ≡ target = cc in
      let is_reply : k ≡ reply = cc in
      let is_client : d ≡ c = cc in
      subst (λ (v : ℕ). Replied past c r v reply) is_target
      (subst (λ (v : ReplyTo). Replied past c r u v) is_reply
      (replied_as past c q.before r u k q.at (answers_as q.before r u q.same q.file q.stage)
      (subst (λ (v : ℕ). Replied past v q.before u k) is_client
      (heard_replied head past d u slot f k q.before g (reply_ends_none head past (turn stamp (Client d)) (Target u) k d g ok.1)
      (of u (self u)) (at u) asks since s (subst (λ (v : ℕ). call_at v slot past ≡ Some q.before) (sym is_client) q.call)))))
  touched_replied stamp (Target v) (Heard u f k) ok of c slot target r reply q (n, s, asking) a = absurd (cc)
  touched_replied stamp node (Queues u w) ok of c slot target r reply q asking a = absurd (cc)
  touched_replied stamp node e ok of c slot target r reply q never a = absurd never

  stood_replied : (now : At) (c slot target : ℕ) (r : Running) (reply : ReplyTo) → (q : Stood past now c slot r)
      → Replied past c q.before target reply → Replied past c r target reply
  stood_replied now c slot target r reply q k =
      let same : q.before ≡ q.stands.running = (let w : Some q.before ≡ Some q.stands.running = sym q.call ∙ q.stands.call in cc) in
      replied_as past c q.before r target reply q.at
      (subst (λ (v : Running). (o : Op) → AnswersFor v target o → AnswersFor r target o) (sym same)
      (answers_on past now c slot r target q.stands)) k

  pub keeps_replies : (stamp : Stamp) (node : Node) (e : Entry) → EntryOk past (turn stamp node) node e
      → AtEach head past (turn stamp node) node e → Replies past → Replies (line (turn stamp node) e ∷ past)
  keeps_replies stamp node e ok of h c slot target r reply k a =
      replied_more past (line (turn stamp node) e) c r target reply (call_lives past stamp node e ok c slot r k)
      (⊎_elim
      (λ (p : call_at c slot past ≡ Some r). h c slot target r reply p a)
      (λ (p : Began past (turn stamp node) e c slot r ⊎ (Touched past node e c slot r ⊎ Stood past (turn stamp node) c slot r)). ⊎_elim
      (λ (q : Began past (turn stamp node) e c slot r). let n = q.asking in absurd (cc))
      (⊎_elim
      (λ (q : Touched past node e c slot r). touched_replied stamp node e ok of c slot target r reply q q.asking a)
      (λ (q : Stood past (turn stamp node) c slot r). stood_replied (turn stamp node) c slot target r reply q
      (h c slot target q.before reply q.call (q.asking ∙ a))))
      p)
      (call_cases past stamp node e ok c slot r k))
