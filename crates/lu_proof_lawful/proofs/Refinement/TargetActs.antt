-- What each line of a target that does something for a request makes of the ties: an answer without a lock, a transaction, a lock that is
-- granted
-- or that has to wait.
use Rattle.std.proofs.Common.{◌≡◌, ◌∙◌, ℕ, ◌≤◌, ◌<◌, Bool, true, false, List, [], ◌∷◌, Option, Some, None, ◌⊎◌, inl, inr, ⊎_elim, refl, sym}
use Rattle.std.proofs.Common.{subst, ap, arith}
use Rattle.std.specs.Prelude.{if◌then◌else◌, option_map}
use Rattle.lu_base.specs.declared.ids.At.{At}
use Rattle.lu_base.specs.declared.ids.Node.{Node}
use Rattle.lu_base.specs.declared.ids.Node.TheVariants.{Target}
use Rattle.lu_base.specs.declared.ids.Stamp.{Stamp}
use Rattle.lu_base.specs.declared.locks.Extent.{Extent}
use Rattle.lu_base.specs.declared.locks.Lock.{Lock as TableLock}
use Rattle.lu_base.specs.declared.locks.Mode.{Mode}
use Rattle.lu_base.specs.declared.locks.Resource.{Resource}
use Rattle.lu_held.specs.Locks.{same_resource}
use Rattle.lu_msg.specs.declared.answers.Answer.TheVariants as told
use Rattle.lu_msg.specs.declared.messages.Message.TheVariants as message
use Rattle.lu_msg.specs.declared.messages.Reply.{Reply as ReplyTo}
use Rattle.lu_msg.specs.declared.messages.Request.{Request as RequestOf}
use Rattle.lu_msg.specs.declared.operations.Op.{Op as TableOp}
use Rattle.lu_msg.specs.declared.operations.Op.TheVariants as op
use Rattle.lu_spec_entries.specs.Carried.{Deed}
use Rattle.lu_spec_entries.specs.Words as word
use Rattle.lu_spec_entries.specs.Words.{Line, line}
use Rattle.lu_spec_target.specs.Lives.{is_life}
use Rattle.lu_spec_target.specs.Queues.{extent_of}
use Rattle.lu_spec_target.specs.Locks.{with_locks}
use Rattle.lu_proof_lawful.specs.Covered.TargetStates.{server_of, shown_of}
use Rattle.lu_proof_lawful.specs.Covered.ClientStates.{brings_cookie}
use Rattle.lu_proof_lawful.specs.Covered.Heads.{Head}
use Rattle.lu_spec_client.specs.Caches.{brought}
use Rattle.lu_proof_lawful.proofs.Preconditions.Acts.{Acted as ActedBy, Made as MadeBy, acts_sized, sized_bare, sized_acted, responds_acted}
use Rattle.lu_proof_lawful.proofs.Preconditions.Acts.{responded, write_made, write_answer}
use Rattle.lu_proof_lawful.proofs.Preconditions.Guards.{In, Was}
use Rattle.lu_proof_lawful.proofs.Preconditions.StoryGuards.{SizedOk, WriteOk, AnswersOk, ActsOk, TxnsOk}
use Rattle.lu_proof_lawful.proofs.Preconditions.Lists.{turn}
use Rattle.lu_proof_lawful.proofs.Preconditions.LockLists.{greatest_least}
use Rattle.lu_proof_lawful.proofs.Preconditions.QueueLists.{resource_of, resource_itself}
use Rattle.lu_proof_lawful.proofs.Invariants.Groups.{HoldsAt}
use Rattle.lu_proof_lawful.proofs.Invariants.TargetGroups.{Acted, Promoted, tells_wait}
use Rattle.lu_proof_lawful.proofs.Invariants.Hopes.{waits_bring}
use Rattle.lu_proof_lawful.proofs.Invariants.Brings.{act_brings, act_plain, txns_brings, txns_plain, answers_brings, answers_plain}
use Rattle.lu_proof_lawful.proofs.Invariants.ObjectDeeds.{IsWrite, write_op}
use Rattle.lu_proof_bytes.specs.Object.Words as words
use Rattle.lu_proof_bytes.specs.Object.Words.{Lock, Request, Answer, Granted, Waiting, Done, Enqueue, Entry, Grant, Wait, Acts, Txn}
use Rattle.lu_proof_bytes.specs.Object.Folds.{IsGranted, IsWaiting}
use Rattle.lu_proof_bytes.specs.Object.Folds as says
use Rattle.lu_proof_objects.specs.Points.{is_write}
use Rattle.lu_proof_lawful.specs.Projection.Lives.{number_of}
use Rattle.lu_proof_lawful.specs.Projection.Locks.{lock_of, given}
use Rattle.lu_proof_lawful.specs.Projection.Locks as found
use Rattle.lu_proof_lawful.specs.Projection.Requests.{op_of, op_on, answer_of, answer_by, granted_as, among}
use Rattle.lu_proof_lawful.specs.Projection.Stories.{with_entry, served, acts, size_in, grants}
use Rattle.lu_proof_lawful.proofs.Refinement.TiedAsked.{IsOn, HasLock}
use Rattle.lu_proof_lawful.proofs.Refinement.TiedTarget.{CommittedAs, TargetBy}
use Rattle.lu_proof_lawful.proofs.Refinement.TargetSame.{GivesSame, GrantsSame, GivenStay, gave_from, given_same, gives_same, granted_same}
use Rattle.lu_proof_lawful.proofs.Refinement.TargetSame.{grants_same, waiting_same, queued_same}
use Rattle.lu_proof_lawful.proofs.Refinement.TargetDeeds.{asked_by, Adds, DoesOne, waits_names, names_one, answered_one, answers_one}

-- ---- requests on the object

on_is : (r q : Resource) (o x : words.Op) → op_on r q o ≡ Some x → o ≡ x
on_is r q o x e = by (same_resource q r) e
  where
    by : (b : Bool) → (if b then Some o else None) ≡ Some x → o ≡ x
    by true e = cc
    by false e = absurd (cc)

-- ---- what is answered to them

pub acts_add : (d : Deed) (h : List Entry) → Adds (λ q. Acts q (answer_of q d.reply)) (λ q. answer_of q d.reply) h
acts_add d h = record { here = λ q. inl (refl, refl, refl); older = λ q c x a i. inr i; back = λ q c x a i. i }

txn_adds : (n : ℕ) (h : List Entry) → Adds (Txn n) (λ q. Done n) h
txn_adds n h = record { here = λ q. inl (refl, refl, refl); older = λ q c x a i. inr i; back = λ q c x a i. i }

pub wait_adds : (l : Lock) (h : List Entry) → Adds (λ q. Wait q l) (λ q. Waiting l.cookie) h
wait_adds l h = record { here = λ q. inl (refl, refl, refl); older = λ q c x a i. inr i; back = λ q c x a i. i }

pub grant_adds : (l : Lock) (s : ℕ) (seen : ℕ → Bool) (h : List Entry) → Adds (λ q. Grant q l s seen) (λ q. Granted l s seen) h
grant_adds l s seen h = record { here = λ q. inl (refl, refl, refl); older = λ q c x a i. inr i; back = λ q c x a i. i }

-- a write-back is answered as done
pub write_right : (r : Resource) (h : List Entry) (c : ℕ) (p : ReplyTo) (o : TableOp) (x : words.Op) → IsWrite o → op_of r h o ≡ Some x
    → p.answer ≡ told.Done → Done p.txn.0 ≡ answer_by c p x p.answer
write_right r h c p (op.Put q cookie at bytes) x w e done = rw (← on_is r q _ x e, done) refl
write_right r h c p (op.Cut q cookie n) x w e done = rw (← on_is r q _ x e, done) refl
write_right r h c p o x w e done = absurd w

-- a granted lock is the one that is told, of who asked for it
pub granted_right : (r : Resource) (h : List Entry) (c : ℕ) (p : ReplyTo) (lock : TableLock) (resource : Resource) (mode : Mode)
    (extent : Extent) (size : ℕ) (x : words.Op)
    → op_of r h (op.Enqueue resource mode extent) ≡ Some x → p.answer ≡ told.Granted lock.cookie (extent_of lock) size
    → number_of lock.ask.who ≡ c → lock.ask.mode ≡ mode
    → Granted (lock_of lock) (size_in p.answer) (among p.seen) ≡ answer_by c p x p.answer
granted_right r h c p lock resource mode extent size x e a who same =
    rw (← on_is r resource _ x e, a)
    (ap (λ (l : Lock). Granted l size (among p.seen)) (ap (λ (n : ℕ). granted_as lock.cookie.0 n (is_write lock.ask.mode) (extent_of lock))
    who
    ∙ ap (λ (m : Mode). granted_as lock.cookie.0 c (is_write m) (extent_of lock)) same))

pub waiting_right : (r : Resource) (h : List Entry) (c : ℕ) (p : ReplyTo) (lock : TableLock) (resource : Resource) (mode : Mode)
    (extent : Extent) (x : words.Op)
    → op_of r h (op.Enqueue resource mode extent) ≡ Some x → p.answer ≡ told.Waiting lock.cookie → Waiting lock.cookie.0
    ≡ answer_by c p x p.answer
waiting_right r h c p lock resource mode extent x e a = rw (← on_is r resource _ x e, a) refl

-- ---- the entry is there where the request is on the object

pub served_either : (r : Resource) (d : Deed) (h : List Entry) (make : Request → Entry) (P : List Entry → Type 0) → P h
    → ((o : words.Op) → op_of r h d.op ≡ Some o → P (make (asked_by d o) ∷ h)) → P (with_entry (served r d h make) h)
served_either r d h make P none some = by (op_of r h d.op) refl
  where
    by : (v : Option words.Op) → op_of r h d.op ≡ v → P (with_entry (option_map (λ o. make (asked_by d o)) v) h)
    by None e = none
    by (Some o) e = some o e

pub served_some : (r : Resource) (d : Deed) (h : List Entry) (make : Request → Entry) (o : words.Op) → op_of r h d.op ≡ Some o
    → with_entry (served r d h make) h ≡ make (asked_by d o) ∷ h
served_some r d h make o e = ap (λ (v : Option words.Op). with_entry (option_map (λ o. make (asked_by d o)) v) h) e

pub served_none : (r : Resource) (d : Deed) (h : List Entry) (make : Request → Entry) → op_of r h d.op ≡ None
    → with_entry (served r d h make) h ≡ h
served_none r d h make e = ap (λ (v : Option words.Op). with_entry (option_map (λ o. make (asked_by d o)) v) h) e

pub on_here : (r q : Resource) (o : words.Op) → q ≡ r → op_on r q o ≡ Some o
on_here r q o e = ap (λ (b : Bool). if b then Some o else None) (subst (λ (x : Resource). same_resource q x ≡ true) e (resource_itself q))

pub on_not : (r q : Resource) (o : words.Op) → (q ≡ r → ⊥) → op_on r q o ≡ None
on_not r q o other = by (same_resource q r) refl
  where
    by : (b : Bool) → same_resource q r ≡ b → (if b then Some o else None) ≡ None
    by true e = absurd (other (resource_of q r e))
    by false e = refl

-- ---- answers without a lock, and transactions

-- all but what is answered is as it was
record Leaves (h k : List Entry) : Type 0 where
  closed : says.closed k ≡ says.closed h
  evicted : (c : ℕ) → says.evicted c k ≡ says.evicted c h
  top : says.top k ≡ says.top h
  given : (c : ℕ) → found.given c k ≡ found.given c h
  granted : (m : Lock) → IsGranted h m → IsGranted k m
  granted_back : (m : Lock) → IsGranted k m → IsGranted h m
  waits : (m : Lock) → IsWaiting h m → IsWaiting k m
  waits_back : (m : Lock) → IsWaiting k m → IsWaiting h m

abbrev OfDeed : Entry → Type 0
OfDeed (Acts q a) = Unit {0}
OfDeed (Txn n q) = Unit {0}
OfDeed _ = ⊥

leaves_deed : (e : Entry) (h : List Entry) → OfDeed e → Leaves h (e ∷ h)
leaves_deed (Acts q a) h o = record {
  closed = refl;
  evicted = λ c. refl;
  top = refl;
  given = λ c. refl;
  granted = λ m i. i;
  granted_back =
      λ m i. i;
  waits = λ m i. i;
  waits_back = λ m i. i;
}
leaves_deed (Txn n q) h o = record {
  closed = refl;
  evicted = λ c. refl;
  top = refl;
  given = λ c. refl;
  granted = λ m i. i;
  granted_back =
      λ m i. i;
  waits = λ m i. i;
  waits_back = λ m i. i;
}
leaves_deed _ h o = absurd o

leaves_same : (h : List Entry) → Leaves h h
leaves_same h = record {
  closed = refl;
  evicted = λ c. refl;
  top = refl;
  given = λ c. refl;
  granted = λ m i. i;
  granted_back = λ m i. i;
  waits = λ m i. i;
  waits_back = λ m i. i;
}

-- a line that does this and gives no lock
record DoesPlain (head : Head) (past new : List Line) (d : Deed) : Type 0 where
  does : DoesOne head.osts past new d
  gives : GivesSame past new
  grants : GrantsSame head.osts past new
  cookie : (server_of head.osts past).cookie ≤ (server_of head.osts new).cookie
  queued : (server_of head.osts new).queued ≡ (server_of head.osts past).queued

plain_ties : (head : Head) (r : Resource) (past new : List Line) (h : List Entry) (tied : TargetBy head r past h) (d : Deed)
    (make : Request → Entry) (told : Request → Answer)
    → DoesPlain head past new d → Adds make told h → ((q : Request) → OfDeed (make q))
    → ((o : words.Op) → op_of r h d.op ≡ Some o → told (asked_by d o) ≡ answer_of (asked_by d o) d.reply)
    → (IsOn r d.op → HasLock h d.op) → CommittedAs head new (says.committed (with_entry (served r d h make) h))
    → TargetBy head r new (with_entry (served r d h make) h)
plain_ties head r past new h tied d make told s adds of right lock committed =
    record {
      closed = q.closed ∙ tied.closed ∙ sym s.does.closed;
      evicted = λ w. q.evicted _ ∙ tied.evicted w ∙ ap (is_life w) (sym s.grants.evicted);
      committed = committed;
      top = (let same = q.top in let low = tied.top in let more = s.cookie in omega (arith, same, low, more));
      given = given_same head r past new h k tied s.gives q.given;
      gives = gives_same head r past new h k tied s.gives q.given;
      granted = granted_same head r past new h k tied s.grants s.gives.gave q.granted_back;
      grants = grants_same head r past new h k tied s.grants.granted q.granted;
      waiting = waiting_same head r past new h k tied s.queued q.waits_back;
      queued = queued_same head r past new h k tied s.queued q.waits;
      names = names_one head r past new h tied d s.does make told adds right lock stay;
      answered = answered_one head r past new h tied d s.does make told adds right lock stay;
      answers = answers_one head r past new h tied d s.does make told adds right lock stay;
    }
  where
    k : List Entry
    k = with_entry (served r d h make) h

    q : Leaves h k
    q = served_either r d h make (λ (x : List Entry). Leaves h x) (leaves_same h)
        (λ o e. leaves_deed (make (asked_by d o)) h (of (asked_by d o)))

    stay : GivenStay h k
    stay c m e = q.given c ∙ e

-- ---- each of them

-- it brings no lock
pub gives_none : (past new : List Line) (d : Deed) → ((x : Deed) → Acted past x → Acted new x)
    → ((x : Deed) → Acted new x → (d ≡ x) ⊎ Acted past x) → ((l : TableLock) → Promoted past l → Promoted new l)
    → ((l : TableLock) → Promoted new l → Promoted past l) → brought d.op d.reply ≡ []
    → ((k : ℕ) → brings_cookie d.op d.reply.answer k ≡ false) → GivesSame past new
gives_none past new d acted back promoted less bare plain =
    record {
      gave = λ e l g. gave_from past new acted promoted e l g;
      back = λ e l g. ⊎_elim
          (λ (same : d ≡ e). absurd (none l (subst (λ (x : Deed). In l (brought x.op x.reply)
          ⊎ (Promoted new l × (tells_wait x.op x.reply.answer l.cookie.0 ≡ true))) (sym same) g.1)))
          (λ (b : Acted past e). (
            b,
            ⊎_elim (λ (i : In l (brought e.op e.reply)). inl i)
                (λ (p : Promoted new l × (tells_wait e.op e.reply.answer l.cookie.0 ≡ true)). inr (less l p.0, p.1)) g.1,
          ))
          (back e g.0);
    }
  where
    none : (l : TableLock) → In l (brought d.op d.reply) ⊎ (Promoted new l × (tells_wait d.op d.reply.answer l.cookie.0 ≡ true)) → ⊥
    none l (inl i) = subst (λ (ls : List TableLock). In l ls) bare i
    none l (inr p) = absurd (let yes = waits_bring d.op d.reply.answer l.cookie.0 p.1 in let no = plain l.cookie.0 in cc)

-- every request on the object that was sent names a lock of it
abbrev pub AllName : Resource → List Line → List Entry → Type 0
AllName r past h = (from to : Node) (q : RequestOf) → Was past from to (message.Request q) → says.evicted (number_of q.who) h ≡ false
    → IsOn r q.op → HasLock h q.op

module _ (head : Head) (r : Resource) (past : List Line) (h : List Entry) (tied : TargetBy head r past h) (all : HoldsAt head past)
    (asked : AllName r past h) (stamp : Stamp) (t : ℕ) (high : 0 < t) where
  abbrev here : At
  here = turn stamp (Target t)

  -- what is done for a request that waits names a lock of the object
  pub lock_for : (d : Deed) (q : RequestOf) → In q (server_of head.osts past).waiting → d.op ≡ q.op → IsOn r d.op → HasLock h d.op
  lock_for d q i same on = subst (λ (o : TableOp). HasLock h o) (sym same)
      (waits_names head r past h tied all asked q i (subst (λ (o : TableOp). IsOn r o) same on))

  pub tied_act : (d : Deed) → ActsOk head.osts past here t d → CommittedAs head (line here (word.Act d) ∷ past)
      (says.committed (with_entry (acts r d h) h)) → TargetBy head r (line here (word.Act d) ∷ past) (with_entry (acts r d h) h)
  tied_act d ok committed =
      plain_ties head r past (line here (word.Act d) ∷ past) h tied d (λ q. Acts q (answer_of q d.reply)) (λ q. answer_of q d.reply)
      (record {
        does = record {
          here = inl refl;
          acted = λ x a. inr a;
          back = λ x a. a;
          counts = inl (does.boot ∙ sym does.serves.closed);
          closed =
              refl;
          lost = λ n. refl;
        };
        gives = gives_none past (line here (word.Act d) ∷ past) d (λ x a. inr a) (λ x a. a) (λ l p. p) (λ l p. p)
            (act_brings head.osts past here t d ok ∙ bare) (λ k. act_plain head.osts past here t d k ok);
        grants = record {
          granted = ap (λ (ls : List TableLock). with_locks ls (server_of head.osts past).granted) bare;
          evicted = refl;
          shown = λ e l g i serves. subst (λ (ls : List TableLock). In l (with_locks ls (shown_of past))) (sym bare) (i does.serves);
        };
        cookie = greatest_least (server_of head.osts past).cookie d.reply.locks;
        queued = refl;
      })
      (acts_add d h) (λ q. tt) (λ o e. refl) (lock_for d does.request does.waits does.of_op) committed
    where
      sized : SizedOk head.osts past here d
      sized = acts_sized head.osts past here t d high ok

      does : ActedBy head.osts past here d
      does = sized_acted head.osts past here d sized

      bare : d.reply.locks ≡ []
      bare = sized_bare head.osts past here d sized

  pub tied_answers : (d : Deed) → AnswersOk head.osts past here t d
      → CommittedAs head (line here (word.Answers d) ∷ past) (says.committed (with_entry (acts r d h) h))
      → TargetBy head r (line here (word.Answers d) ∷ past) (with_entry (acts r d h) h)
  tied_answers d ok committed =
      plain_ties head r past (line here (word.Answers d) ∷ past) h tied d (λ q. Acts q (answer_of q d.reply)) (λ q. answer_of q d.reply)
      (record {
        does = record {
          here = inl refl;
          acted = λ x a. inr a;
          back = λ x a. a;
          counts = inl (does.boot ∙ sym does.serves.closed);
          closed =
              refl;
          lost = λ n. refl;
        };
        gives = gives_none past (line here (word.Answers d) ∷ past) d (λ x a. inr a) (λ x a. a) (λ l p. p) (λ l p. p)
            (answers_brings head.osts past here t d ok) (λ k. answers_plain head.osts past here t d k ok);
        grants = record { granted = refl; evicted = refl; shown = λ e l g i serves. i does.serves };
        cookie = omega arith;
        queued = refl;
      })
      (acts_add d h) (λ q. tt) (λ o e. refl) (lock_for d does.request does.waits does.of_op) committed
    where
      does : ActedBy head.osts past (responded head.osts past here t d ok).when d
      does = responds_acted head.osts past here t d (responded head.osts past here t d ok)

  pub tied_txn : (d : Deed) → TxnsOk head.osts past here t d → CommittedAs head (line here (word.Txn d) ∷ past)
      (says.committed (with_entry (served r d h (Txn d.reply.txn.0)) h))
      → TargetBy head r (line here (word.Txn d) ∷ past) (with_entry (served r d h (Txn d.reply.txn.0)) h)
  tied_txn d ok committed =
      plain_ties head r past (line here (word.Txn d) ∷ past) h tied d (Txn d.reply.txn.0) (λ q. Done d.reply.txn.0)
      (record {
        does = record {
          here = inl refl;
          acted = λ x a. inr a;
          back = λ x a. a;
          counts = inl (does.boot ∙ sym does.serves.closed);
          closed =
              refl;
          lost = λ n. refl;
        };
        gives = gives_none past (line here (word.Txn d) ∷ past) d (λ x a. inr a) (λ x a. a) (λ l p. p) (λ l p. p)
            (txns_brings head.osts past here t d ok) (λ k. txns_plain head.osts past here t d k ok);
        grants = record { granted = refl; evicted = refl; shown = λ e l g i serves. i does.serves };
        cookie = omega arith;
        queued = refl;
      })
      (txn_adds d.reply.txn.0 h) (λ q. tt)
      (λ o e. write_right r h (number_of d.reply.who) d.reply d.op o (write_op head.osts past here d wrote) e
      (write_answer head.osts past here d wrote))
      (lock_for d does.request does.waits does.of_op) committed
    where
      wrote : WriteOk head.osts past here d
      wrote = by ok
        where
          by : TxnsOk head.osts past here t d → WriteOk head.osts past here d
          by (inl k) = absurd (let zero = k.0 in omega (arith, zero, high))
          by (inr k) = k.1

      does : MadeBy head.osts past here d
      does = write_made head.osts past here d wrote
