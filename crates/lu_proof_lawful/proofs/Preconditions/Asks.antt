-- What a client's calls have asked, at all targets: what is queued and in flight is for calls that wait for it, one for each, each at the
-- target that the call asks where it stands; or it writes changes back, for no call. In the turn that ends a life its calls are told first,
-- and
-- then what they asked is forgotten.
use Rattle.std.proofs.Common.{◌≡◌, ℕ, Bool, true, false, List, [], ◌∷◌, ◌++◌, Option, Some, None, ◌⊎◌, inl, inr, ⊎_elim, refl, sym, subst}
use Rattle.std.proofs.Common.{ap, ◌∙◌, arith}
use Rattle.std.specs.Prelude.{nat_eq, not, ◌&&◌}
use Rattle.std.proofs.lemmas.Bool.{and_parts, cond_both, cond-true, cond-false, eqb-true, not-true}
use Rattle.std.proofs.lemmas.Bool.Decides.{nat_tests}
use Rattle.lu_base.specs.declared.ids.At.{At}
use Rattle.lu_base.specs.declared.ids.Node.{Node}
use Rattle.lu_base.specs.declared.ids.Node.TheVariants.{Client, Target}
use Rattle.lu_base.specs.declared.ids.Stamp.{Stamp}
use Rattle.lu_base.specs.declared.ids.Who.{Who}
use Rattle.lu_base.specs.declared.locks.Extent.{Extent}
use Rattle.lu_base.specs.declared.locks.Policy.{Policy}
use Rattle.lu_base.specs.declared.locks.Policy.TheVariants.{Bits, Range}
use Rattle.lu_msg.specs.declared.answers.Answer.{Answer}
use Rattle.lu_msg.specs.declared.calls.Call.{Call}
use Rattle.lu_msg.specs.declared.messages.Reply.{Reply as ReplyTo}
use Rattle.lu_msg.specs.declared.operations.Op.{Op}
use Rattle.lu_msg.specs.declared.operations.Op.TheVariants as op
use Rattle.lu_held.specs.declared.locks.HeldLock.{HeldLock}
use Rattle.lu_held.specs.declared.locks.Use.{Use}
use Rattle.lu_spec_entries.specs.declared.changes.Flush.{Flush}
use Rattle.lu_spec_entries.specs.declared.changes.Flush.TheVariants.{Cut, Put}
use Rattle.lu_spec_entries.specs.declared.uses.Using.{Using}
use Rattle.lu_spec_entries.specs.Carried.{HandleFile, Asking, Unasked, Asked, Answered, Queued, Flight, Stage, Plain, Enqueued, Gets, Sizes}
use Rattle.lu_spec_entries.specs.Carried.{Work, Running}
use Rattle.lu_spec_entries.specs.Words.{Entry, Tick, Begin, Stands, Queues, Flies, Heard, Told, Life, Line, line}
use Rattle.lu_spec_entries.specs.Concerns.{concerns, only}
use Rattle.lu_spec_client.specs.Advances.{enqueue_of}
use Rattle.lu_spec_client.specs.WriteBack.{operation}
use Rattle.lu_proof_lawful.specs.Covered.Calls.{Errand, names_errand, size_errand, lock_errand, errand_at, errand, operation_of, becomes}
use Rattle.lu_proof_lawful.specs.Covered.Calls.{asks, asks_for, call_after, call_at, life_at}
use Rattle.lu_proof_lawful.specs.Covered.Imports.{rest, queue_at, without_flight, flights_at}
use Rattle.lu_proof_lawful.specs.Covered.Heads.{Head}
use Rattle.lu_proof_lawful.proofs.Preconditions.Guards.{In, Noticed, Ending, Closes, NamesAskOk, SizeAskOk, LockAskOk, GetAskOk, QueuesOk}
use Rattle.lu_proof_lawful.proofs.Preconditions.Guards.{EntryOk}
use Rattle.lu_proof_lawful.proofs.Preconditions.StoryGuards.{FliesOk, EntryOf}
use Rattle.lu_proof_lawful.proofs.Preconditions.Grown.{Grown}
use Rattle.lu_proof_lawful.proofs.Preconditions.Lists.{self, turn, in_append, in_filter}
use Rattle.lu_proof_lawful.proofs.Preconditions.Parts.{queue_now, flights_now}
use Rattle.lu_proof_lawful.proofs.Preconditions.Calls.{call_stays, asks_other, bad_unasked}
use Rattle.lu_proof_lawful.proofs.Preconditions.Endings.{noticed_more, ending_more}
use Rattle.lu_proof_lawful.proofs.Preconditions.ClientLines.{in_rest}

-- ---- the calls and what they asked

-- a read fetches a page under a lock in use
pub record GetsUnder (r : Running) (t : ℕ) (o : Op) : Type 0 where
  pub work : Work
  pub stage : r.stage ≡ Gets work
  pub under : Using
  pub used : In under work.used
  pub page : ℕ
  pub of_target : t ≡ under.want.target.0
  pub of_op : o ≡ op.Get under.want.resource under.lock.cookie page

-- what a call asks where it stands
abbrev pub AsksFor : Running → ℕ → Op → Type 0
AsksFor r t o = (errand r ≡ Some (record { target = t; op = o })) ⊎ GetsUnder r t o

-- a change is written back
abbrev pub IsBack : Op → Type 0
IsBack (op.Put resource cookie offset bytes) = Unit {0}
IsBack (op.Cut resource cookie size) = Unit {0}
IsBack _ = ⊥

-- the call on a slot waits for the answer to that operation, of that target: it is what the call asks where it stands
abbrev pub CallOf : List Line → (c target : ℕ) → Option ℕ → Op → Type 0
CallOf past c t None o = IsBack o
CallOf past c t (Some slot) o = (r : Running) × (call_at c slot past ≡ Some r) × (r.asking ≡ Asked) × AsksFor r t o

-- no two serve one slot
abbrev pub Apart : List Queued → Type 0
Apart [] = Unit {0}
Apart (q ∷ queue) = ((g : Queued) (slot : ℕ) → In g queue → g.slot ≡ Some slot → q.slot ≡ Some slot → ⊥) × Apart queue

-- each call asks once, at one target; but in the turn that ends its life, where calls are told before what they asked is forgotten
abbrev pub Asks : List Line → Type 0
Asks past =
    record {
      fly_calls : (c t : ℕ) (f : Flight) → (Ending past c → ⊥) → In f (flights_at c t past) → CallOf past c t f.slot f.op;
      queue_calls : (c t : ℕ) (q : Queued) → (Ending past c → ⊥) → In q (queue_at c t past) → CallOf past c t q.slot q.op;
      fly_one : (c t u slot : ℕ) (f g : Flight) → (Ending past c → ⊥) → In f (flights_at c t past) → In g (flights_at c u past) → f.slot
          ≡ Some slot → g.slot ≡ Some slot → (t ≡ u) × (f.xid ≡ g.xid);
      queue_one : (c t u slot : ℕ) (q g : Queued) → (Ending past c → ⊥) → In q (queue_at c t past) → In g (queue_at c u past) → q.slot
          ≡ Some slot → g.slot ≡ Some slot → t ≡ u;
      queue_apart : (c t : ℕ) → (Ending past c → ⊥) → Apart (queue_at c t past);
      apart : (c t u slot : ℕ) (q : Queued) (f : Flight) → (Ending past c → ⊥) → In q (queue_at c t past) → In f (flights_at c u past)
          → q.slot ≡ Some slot → f.slot ≡ Some slot → ⊥;
    }

-- ---- where a turn ends a life

-- it does so still after the line
abbrev Before : (past new : List Line) → Type 0
Before past new = (c : ℕ) → (Ending new c → ⊥) → Ending past c → ⊥

-- ---- a line that leaves calls, queues and flights

asks_same : (past new : List Line) → Before past new → ((c slot : ℕ) → call_at c slot new ≡ call_at c slot past)
    → ((c t : ℕ) → queue_at c t new ≡ queue_at c t past) → ((c t : ℕ) → flights_at c t new ≡ flights_at c t past) → Asks past → Asks new
asks_same past new b calls queues flights h =
    record {
      fly_calls = λ c t f o i. call c t f.slot f.op (h.fly_calls c t f (b c o) (old_flight c t f i));
      queue_calls = λ c t q o i. call c t q.slot q.op (h.queue_calls c t q (b c o) (old_queued c t q i));
      fly_one = λ c t u s f g o i j. h.fly_one c t u s f g (b c o) (old_flight c t f i) (old_flight c u g j);
      queue_one = λ c t u s q g o i j. h.queue_one c t u s q g (b c o) (old_queued c t q i) (old_queued c u g j);
      queue_apart = λ c t o. subst Apart (sym (queues c t)) (h.queue_apart c t (b c o));
      apart = λ c t u s q f o i j. h.apart c t u s q f (b c o) (old_queued c t q i) (old_flight c u f j);
    }
  where
    old_flight : (c t : ℕ) (f : Flight) → In f (flights_at c t new) → In f (flights_at c t past)
    old_flight c t f i = subst (λ (fs : List Flight). In f fs) (flights c t) i

    old_queued : (c t : ℕ) (q : Queued) → In q (queue_at c t new) → In q (queue_at c t past)
    old_queued c t q i = subst (λ (qs : List Queued). In q qs) (queues c t) i

    call : (c t : ℕ) (s : Option ℕ) (o : Op) → CallOf past c t s o → CallOf new c t s o
    call c t None o k = k
    call c t (Some slot) o k = (k.0, calls c slot ∙ k.1, k.2, k.3)

-- ---- what no call that waits is on

abbrev pub NotAsked : List Line → ℕ → ℕ → Type 0
NotAsked past d s = (r : Running) → call_at d s past ≡ Some r → r.asking ≡ Asked → ⊥

clear : (past : List Line) (d s c slot : ℕ) (r : Running) → NotAsked past d s → call_at c slot past ≡ Some r → r.asking ≡ Asked → c ≡ d → s
    ≡ slot → ⊥
clear past d s c slot r n k a e q = n r (subst (λ v. call_at v s past ≡ Some r) e (subst (λ v. call_at c v past ≡ Some r) (sym q) k)) a

-- a call that waits is as it was, where the entry leaves it
call_of_stays : (past : List Line) (stamp : Stamp) (d : ℕ) (e : Entry) (c t : ℕ) (s : Option ℕ) (o : Op)
    → ((slot : ℕ) (r : Running) → s ≡ Some slot → call_at c slot past ≡ Some r → r.asking ≡ Asked → c ≡ d
    → call_after slot (call_at c slot past) e ≡ call_at c slot past)
    → CallOf past c t s o → CallOf (line (turn stamp (Client d)) e ∷ past) c t s o
call_of_stays past stamp d e c t None o f k = k
call_of_stays past stamp d e c t (Some slot) o f k = (k.0, call_stays past stamp d e c slot (f slot k.0 refl k.1 k.2) ∙ k.1, k.2, k.3)

-- ---- a call begins

begin_call : (past : List Line) (stamp : Stamp) (d s : ℕ) (running : Running) → NotAsked past d s → (c t : ℕ) (served : Option ℕ) (o : Op)
    → CallOf past c t served o
    → CallOf (line (turn stamp (Client d)) (Begin s running) ∷ past) c t served o
begin_call past stamp d s running n c t served o =
    call_of_stays past stamp d (Begin s running) c t served o
    (λ slot r is k a e. cond_both (nat_eq s slot) (Some running) (call_at c slot past) (λ v. v ≡ call_at c slot past)
    (λ t. absurd (clear past d s c slot r n k a e (eqb-true s slot t))) (λ t. refl))

asks_begin : (past : List Line) (stamp : Stamp) (d s : ℕ) (running : Running) → let new = line (turn stamp (Client d)) (Begin s running)
    ∷ past in Before past new → NotAsked past d s → Asks past → Asks new
asks_begin past stamp d s running b n h =
    record {
      fly_calls = λ c t f o i. begin_call past stamp d s running n c t f.slot f.op (h.fly_calls c t f (b c o) i);
      queue_calls = λ c t q o i. begin_call past stamp d s running n c t q.slot q.op (h.queue_calls c t q (b c o) i);
      fly_one = λ c t u s f g o. h.fly_one c t u s f g (b c o);
      queue_one = λ c t u s q g o. h.queue_one c t u s q g (b c o);
      queue_apart = λ c t o. h.queue_apart c t (b c o);
      apart = λ c t u s q f o. h.apart c t u s q f (b c o);
    }

-- ---- a call stands further on: it waits for no answer

stands_call : (past : List Line) (stamp : Stamp) (d s : ℕ) (running : Running) → NotAsked past d s → (c t : ℕ) (served : Option ℕ) (o : Op)
    → CallOf past c t served o
    → CallOf (line (turn stamp (Client d)) (Stands s running) ∷ past) c t served o
stands_call past stamp d s running n c t served o =
    call_of_stays past stamp d (Stands s running) c t served o
    (λ slot r is k a e. cond_both (nat_eq s slot) (Some running) (call_at c slot past) (λ v. v ≡ call_at c slot past)
    (λ t. absurd (clear past d s c slot r n k a e (eqb-true s slot t))) (λ t. refl))

asks_stands : (past : List Line) (stamp : Stamp) (d s : ℕ) (running : Running) → let new = line (turn stamp (Client d)) (Stands s running)
    ∷ past in Before past new → NotAsked past d s → Asks past → Asks new
asks_stands past stamp d s running b n h =
    record {
      fly_calls = λ c t f o i. stands_call past stamp d s running n c t f.slot f.op (h.fly_calls c t f (b c o) i);
      queue_calls = λ c t q o i. stands_call past stamp d s running n c t q.slot q.op (h.queue_calls c t q (b c o) i);
      fly_one = λ c t u s f g o. h.fly_one c t u s f g (b c o);
      queue_one = λ c t u s q g o. h.queue_one c t u s q g (b c o);
      queue_apart = λ c t o. h.queue_apart c t (b c o);
      apart = λ c t u s q f o. h.apart c t u s q f (b c o);
    }

-- ---- a call is told

told_call : (past : List Line) (stamp : Stamp) (d s : ℕ) (named : At) (answer : Answer) (work : Option Work) → NotAsked past d s
    → (c t : ℕ) (served : Option ℕ) (o : Op) → CallOf past c t served o
    → CallOf (line (turn stamp (Client d)) (Told s named answer work) ∷ past) c t served o
told_call past stamp d s named answer work n c t served o =
    call_of_stays past stamp d (Told s named answer work) c t served o
    (λ slot r is k a e. cond_both (nat_eq s slot) None (call_at c slot past) (λ v. v ≡ call_at c slot past)
    (λ t. absurd (clear past d s c slot r n k a e (eqb-true s slot t))) (λ t. refl))

asks_told : (past : List Line) (stamp : Stamp) (d s : ℕ) (named : At) (answer : Answer) (work : Option Work) → let new =
    line (turn stamp (Client d)) (Told s named answer work) ∷ past in Before past new → NotAsked past d s → Asks past → Asks new
asks_told past stamp d s named answer work b n h =
    record {
      fly_calls = λ c t f o i. told_call past stamp d s named answer work n c t f.slot f.op (h.fly_calls c t f (b c o) i);
      queue_calls = λ c t q o i. told_call past stamp d s named answer work n c t q.slot q.op (h.queue_calls c t q (b c o) i);
      fly_one = λ c t u s f g o. h.fly_one c t u s f g (b c o);
      queue_one = λ c t u s q g o. h.queue_one c t u s q g (b c o);
      queue_apart = λ c t o. h.queue_apart c t (b c o);
      apart = λ c t u s q f o. h.apart c t u s q f (b c o);
    }

-- its life ends: what the call asked is forgotten in this turn
asks_ended : (past : List Line) (stamp : Stamp) (d s : ℕ) (named : At) (answer : Answer) (work : Option Work) → let new =
    line (turn stamp (Client d)) (Told s named answer work) ∷ past in
    Before past new → Noticed past (turn stamp (Client d)) (life_at d past) → Asks past → Asks new
asks_ended past stamp d s named answer work b ends h =
    record {
      fly_calls = λ c t f o i. other_call c t f.slot f.op o (h.fly_calls c t f (b c o) i);
      queue_calls = λ c t q o i. other_call c t q.slot q.op o (h.queue_calls c t q (b c o) i);
      fly_one = λ c t u s f g o. h.fly_one c t u s f g (b c o);
      queue_one = λ c t u s q g o. h.queue_one c t u s q g (b c o);
      queue_apart = λ c t o. h.queue_apart c t (b c o);
      apart = λ c t u s q f o. h.apart c t u s q f (b c o);
    }
  where
    told : Line
    told = line (turn stamp (Client d)) (Told s named answer work)

    ending : (c : ℕ) → c ≡ d → Ending (told ∷ past) c
    ending c e = (
      ap Client (sym e),
      subst (λ v. Noticed (told ∷ past) (turn stamp (Client d)) (life_at v past)) (sym e)
          (noticed_more told past (turn stamp (Client d)) (life_at d past) ends),
    )

    other_call : (c t : ℕ) (served : Option ℕ) (o : Op) → (Ending (told ∷ past) c → ⊥) → CallOf past c t served o
        → CallOf (told ∷ past) c t served o
    other_call c t served o out k = call_of_stays past stamp d (Told s named answer work) c t served o
        (λ slot r is w a e. absurd (out (ending c e))) k

-- ---- a target's own line

own_import : (c d t v : ℕ) → nat_eq c d && nat_eq t v ≡ true → (c ≡ d) × (t ≡ v)
own_import c d t v e = let p = and_parts (nat_eq c d) (nat_eq t v) e in (eqb-true c d p.0, eqb-true t v p.1)

other_import : (c d t v : ℕ) → nat_eq c d && nat_eq t v ≡ false → c ≡ d → t ≡ v → ⊥
other_import c d t v e p q = grind (arith, nat_tests)

-- ---- what a call asks

-- it is so of calls that stand alike
errand_same : (s : Stage) (q r : Running) → q.call ≡ r.call → q.file ≡ r.file → errand_at s q ≡ errand_at s r
errand_same Plain q r c f = ap (λ (v : Call). names_errand (operation_of q.file v)) c
    ∙ ap (λ (v : Option HandleFile). names_errand (operation_of v r.call)) f
errand_same (Sizes w) q r c f = refl
errand_same (Enqueued w) q r c f = refl
errand_same _ q r c f = refl

asks_same_call : (t : ℕ) (o : Op) (r : Running) (a : Asking) → AsksFor r t o → AsksFor (record r { asking = a }) t o
asks_same_call t o r a (inl e) = inl (errand_same r.stage (record r { asking = a }) r refl refl ∙ e)
asks_same_call t o r a (inr g) = inr (record {
  work = g.work;
  stage = g.stage;
  under = g.under;
  used = g.used;
  page = g.page;
  of_target =
      g.of_target;
  of_op = g.of_op;
})

-- a call on names asks the metadata target
pub plain_errand : (r : Running) (t : ℕ) (o : Op) → r.stage ≡ Plain → errand r ≡ Some (record { target = t; op = o }) → (t ≡ 0)
    × (becomes r ≡ Some o)
plain_errand r t o plain e = by (becomes r) refl (sym (ap (λ (v : Stage). errand_at v r) plain) ∙ e)
  where
    by : (b : Option Op) → becomes r ≡ b → names_errand b ≡ Some (record { target = t; op = o }) → (t ≡ 0) × (becomes r ≡ Some o)
    by None is q = absurd (cc)
    by (Some p) is q =
        let same : record { target = 0; op = p } ≡ record { target = t; op = o } = cc in
        (ap (λ (v : Errand). v.target) (sym same), is ∙ ap (λ (v : Errand). Some v.op) same)

-- a glimpse asks for the first object that is left
pub record OfFirst (w : Work) (t : ℕ) (o : Op) : Type 0 where
  pub wanted : Use
  pub left : List Use
  pub first : w.left ≡ wanted ∷ left
  pub of_target : t ≡ wanted.target.0
  pub of_op : o ≡ op.Size wanted.resource

pub sizes_errand : (r : Running) (w : Work) (t : ℕ) (o : Op) → r.stage ≡ Sizes w → errand r ≡ Some (record { target = t; op = o })
    → OfFirst w t o
sizes_errand r w t o sizes e = by w.left refl (sym (ap (λ (v : Stage). errand_at v r) sizes) ∙ e)
  where
    by : (left : List Use) → w.left ≡ left → size_errand left ≡ Some (record { target = t; op = o }) → OfFirst w t o
    by [] is q = absurd (cc)
    by (wanted ∷ left) is q =
        let same : record { target = wanted.target.0; op = op.Size wanted.resource } ≡ record { target = t; op = o } = cc in
        record {
          wanted = wanted;
          left = left;
          first = is;
          of_target = ap (λ (v : Errand). v.target) (sym same);
          of_op =
              ap (λ (v : Errand). v.op) (sym same);
        }

-- a read asks for the lock on it
pub record LocksFirst (w : Work) (t : ℕ) (o : Op) : Type 0 where
  pub wanted : Use
  pub left : List Use
  pub first : w.left ≡ wanted ∷ left
  pub of_target : t ≡ wanted.target.0
  pub of_op : o ≡ enqueue_of wanted

-- it is to be on that range
pub enqueue_is : (wanted : Use) (extent : Extent) → wanted.policy ≡ Range extent → enqueue_of wanted
    ≡ op.Enqueue wanted.resource wanted.mode extent
enqueue_is wanted extent e = by wanted.policy e
  where
    by : (p : Policy) → p ≡ Range extent → ◌≡◌ {A = Op} (elim p
        [ Range x ↦ op.Enqueue wanted.resource wanted.mode x | Bits bits ↦ op.Size wanted.resource ])
        (op.Enqueue wanted.resource wanted.mode extent)
    by (Range x) q = let same : x ≡ extent = cc in ap (op.Enqueue wanted.resource wanted.mode) same
    by (Bits bits) q = absurd (cc)

pub locks_errand : (r : Running) (w : Work) (t : ℕ) (o : Op) → r.stage ≡ Enqueued w → errand r ≡ Some (record { target = t; op = o })
    → LocksFirst w t o
locks_errand r w t o locks e = by w.left refl (sym (ap (λ (v : Stage). errand_at v r) locks) ∙ e)
  where
    by : (left : List Use) → w.left ≡ left → lock_errand left ≡ Some (record { target = t; op = o }) → LocksFirst w t o
    by [] is q = absurd (cc)
    by (wanted ∷ left) is q =
        let same : record { target = wanted.target.0; op = enqueue_of wanted } ≡ record { target = t; op = o } = cc in
        record {
          wanted = wanted;
          left = left;
          first = is;
          of_target = ap (λ (v : Errand). v.target) (sym same);
          of_op =
              ap (λ (v : Errand). v.op) (sym same);
        }

-- no other call asks but one that fetches a page
pub stages_errand : (r : Running) (e : Errand) → errand r ≡ Some e → (r.stage ≡ Plain) ⊎ ((w : Work) × (r.stage ≡ Sizes w))
    ⊎ ((w : Work) × (r.stage ≡ Enqueued w))
stages_errand r e is = by r.stage refl is
  where
    by : (s : Stage) → r.stage ≡ s → errand_at s r ≡ Some e → (r.stage ≡ Plain) ⊎ ((w : Work) × (r.stage ≡ Sizes w))
        ⊎ ((w : Work) × (r.stage ≡ Enqueued w))
    by Plain q k = inl q
    by (Sizes w) q k = inr (inl (w, q))
    by (Enqueued w) q k = inr (inr (w, q))
    by s q k = absurd (cc)

-- ---- one more in the queue

apart_snoc : (queue : List Queued) (q : Queued) → Apart queue → ((g : Queued) (slot : ℕ) → In g queue → g.slot ≡ Some slot → q.slot
    ≡ Some slot → ⊥) → Apart (queue ++ q ∷ [])
apart_snoc [] q a n = ((λ g s i e. absurd i), tt)
apart_snoc (p ∷ queue) q a n = (
  λ g s i e k. ⊎_elim (λ (j : In g queue). a.0 g s j e k) (λ (j : In g (q ∷ [])). ⊎_elim
      (λ (w : q ≡ g). n p s (inl refl) k (ap (λ (x : Queued). x.slot) w ∙ e)) (λ (v : ⊥). v) j) (in_append g queue (q ∷ []) i),
  apart_snoc queue q a.1 (λ g s i. n g s (inr i)),
)

module _ (past : List Line) (stamp : Stamp) (d v : ℕ) (q : Queued) (b : Before past (line (turn stamp (Client d)) (Queues v q) ∷ past))
    (ok : QueuesOk past d v q) (h : Asks past) where
  abbrev queues : List Line
  queues = line (turn stamp (Client d)) (Queues v q) ∷ past

  -- no call that waits is on the slot that it serves
  fresh : (c t s : ℕ) (r : Running) → c ≡ d → q.slot ≡ Some s → call_at c s past ≡ Some r → r.asking ≡ Asked → ⊥
  fresh c t s r e x k asked = by ok
    where
      still : (w : Running) → NamesAskOk past d v w q.op ⊎ SizeAskOk v w q.op ⊎ LockAskOk v w q.op ⊎ GetAskOk past d v w q.op → w.asking
          ≡ Asked → ⊥
      still w (inl a) out = let n : Unasked ≡ Asked = sym a.new ∙ out in absurd (cc)
      still w (inr (inl a)) out = a.still out
      still w (inr (inr (inl a))) out = a.still out
      still w (inr (inr (inr a))) out = a.still out

      by : QueuesOk past d v q → ⊥
      by (inl a) =
          let y : Some s ≡ Some a.slot = sym x ∙ a.serves in
          let z : s ≡ a.slot = cc in
          let w : Some r ≡ Some a.running = sym k ∙ ap (λ j. call_at j s past) e ∙ ap (λ j. call_at d j past) z ∙ a.call in
          let same : r ≡ a.running = cc in
          still a.running a.asks (ap (λ (y : Running). y.asking) (sym same) ∙ asked)
      by (inr a) = let y : Some s ≡ None = sym x ∙ a.serves in absurd (cc)

  -- so nothing else that is asked serves it
  serves_not : (c t s : ℕ) (u : Option ℕ) (o : Op) → c ≡ d → q.slot ≡ Some s → u ≡ Some s → CallOf past c t u o → ⊥
  serves_not c t s u o e x y k = let w = subst (λ (n : Option ℕ). CallOf past c t n o) y k in fresh c t s w.0 e x w.1 w.2

  queue_call : (c t : ℕ) (s : Option ℕ) (o : Op) → CallOf past c t s o → CallOf queues c t s o
  queue_call c t s o k = call_of_stays past stamp d (Queues v q) c t s o
      (λ slot r is w a e. asks_other q.slot slot Asked (call_at c slot past) (λ n. fresh c t slot r e n w a)) k

  mine : CallOf queues d v q.slot q.op
  mine = by ok
    where
      back : (h : HeldLock) (change : Flush) → IsBack (operation h.lock.resource h.lock.cookie change)
      back h (Put offset bytes) = tt
      back h (Cut size) = tt

      asks_it : (r : Running) → NamesAskOk past d v r q.op ⊎ SizeAskOk v r q.op ⊎ LockAskOk v r q.op ⊎ GetAskOk past d v r q.op
          → AsksFor r v q.op
      asks_it r (inl a) = inl (ap (λ (s : Stage). errand_at s r) a.good ∙ ap names_errand a.becomes
          ∙ ap (λ (t : ℕ). Some (record { target = t; op = q.op })) (sym a.names))
      asks_it r (inr (inl a)) =
          inl (ap (λ (s : Stage). errand_at s r) a.stage ∙ ap size_errand a.first
          ∙ ap (λ (t : ℕ). Some (record { target = t; op = op.Size a.wanted.resource })) (sym a.of_target)
          ∙ ap (λ (o : Op). Some (record { target = v; op = o })) (sym a.of_op))
      asks_it r (inr (inr (inl a))) =
          inl (ap (λ (s : Stage). errand_at s r) a.stage ∙ ap lock_errand a.first
          ∙ ap (λ (t : ℕ). Some (record { target = t; op = enqueue_of a.wanted })) (sym a.of_target)
          ∙ ap (λ (o : Op). Some (record { target = v; op = o })) (enqueue_is a.wanted a.extent a.policy ∙ sym a.of_op))
      asks_it r (inr (inr (inr a))) =
          inr (record {
            work = a.work;
            stage = a.stage;
            under = a.page.under;
            used = a.used;
            page = a.page.page;
            of_target = a.of_target;
            of_op = a.of_op;
          })

      by : QueuesOk past d v q → CallOf queues d v q.slot q.op
      by (inl a) = subst (λ (s : Option ℕ). CallOf queues d v s q.op) (sym a.serves)
          (record a.running { asking = Asked }, new, refl, asks_same_call v q.op a.running Asked (asks_it a.running a.asks))
        where
          new : call_at d a.slot queues ≡ Some (record a.running { asking = Asked })
          new =
              cond-true (nat_eq d d) (asks_for q.slot a.slot Asked (call_at d a.slot past)) (call_at d a.slot past) (self d)
              ∙ ap (λ (s : Option ℕ). asks_for s a.slot Asked (call_at d a.slot past)) a.serves
              ∙ cond-true (nat_eq a.slot a.slot) (asks Asked (call_at d a.slot past)) (call_at d a.slot past) (self a.slot)
              ∙ ap (λ (r : Option Running). asks Asked r) a.call
      by (inr a) = subst (λ (s : Option ℕ). CallOf queues d v s q.op) (sym a.serves) (subst IsBack (sym a.of_op) (back a.holding a.change))

  queue_in : (c t : ℕ) (g : Queued) → In g (queue_at c t queues) → ((c ≡ d) × (t ≡ v) × (q ≡ g)) ⊎ In g (queue_at c t past)
  queue_in c t g =
      cond_both (nat_eq c d && nat_eq t v) (queue_at c t past ++ q ∷ []) (queue_at c t past)
      (λ (qs : List Queued). In g qs → ((c ≡ d) × (t ≡ v) × (q ≡ g)) ⊎ In g (queue_at c t past))
      (λ e i. ⊎_elim (λ (j : In g (queue_at c t past)). inr j) (λ (j : In g (q ∷ [])). ⊎_elim
      (λ (w : q ≡ g). let o = own_import c d t v e in inl (o.0, o.1, w)) (λ (w : ⊥). absurd w) j)
      (in_append g (queue_at c t past) (q ∷ []) i))
      (λ e i. inr i)

  own_slot : (g : Queued) (s : ℕ) → q ≡ g → g.slot ≡ Some s → q.slot ≡ Some s
  own_slot g s e x = ap (λ (w : Queued). w.slot) e ∙ x

  asks_queues : Asks queues
  asks_queues =
      record {
        fly_calls = λ c t f n i. queue_call c t f.slot f.op (h.fly_calls c t f (b c n) i);
        queue_calls = λ c t g n i. ⊎_elim
            (λ (p : (c ≡ d) × (t ≡ v) × (q ≡ g)). subst (λ (w : Queued). CallOf queues c t w.slot w.op) p.2
            (subst (λ w. CallOf queues c w q.slot q.op) (sym p.1) (subst (λ w. CallOf queues w v q.slot q.op) (sym p.0) mine)))
            (λ (j : In g (queue_at c t past)). queue_call c t g.slot g.op (h.queue_calls c t g (b c n) j))
            (queue_in c t g i);
        fly_one = λ c t u s f g n. h.fly_one c t u s f g (b c n);
        queue_one = λ c t u s g k n i j x y. ⊎_elim
            (λ (p : (c ≡ d) × (t ≡ v) × (q ≡ g)). ⊎_elim
            (λ (r : (c ≡ d) × (u ≡ v) × (q ≡ k)). p.1 ∙ sym r.1)
            (λ (w : In k (queue_at c u past)). absurd (serves_not c u s k.slot k.op p.0 (own_slot g s p.2 x) y
            (h.queue_calls c u k (b c n) w)))
            (queue_in c u k j))
            (λ (w : In g (queue_at c t past)). ⊎_elim
            (λ (r : (c ≡ d) × (u ≡ v) × (q ≡ k)). absurd (serves_not c t s g.slot g.op r.0 (own_slot k s r.2 y) x
            (h.queue_calls c t g (b c n) w)))
            (λ (z : In k (queue_at c u past)). h.queue_one c t u s g k (b c n) w z x y)
            (queue_in c u k j))
            (queue_in c t g i);
        queue_apart = λ c t n. cond_both (nat_eq c d && nat_eq t v) (queue_at c t past ++ q ∷ []) (queue_at c t past) Apart
            (λ o. apart_snoc (queue_at c t past) q (h.queue_apart c t (b c n))
            (λ g s i x y. serves_not c t s g.slot g.op (own_import c d t v o).0 y x (h.queue_calls c t g (b c n) i)))
            (λ o. h.queue_apart c t (b c n));
        apart = λ c t u s g f n i j x y. ⊎_elim
            (λ (p : (c ≡ d) × (t ≡ v) × (q ≡ g)). serves_not c u s f.slot f.op p.0 (own_slot g s p.2 x) y (h.fly_calls c u f (b c n) j))
            (λ (k : In g (queue_at c t past)). h.apart c t u s g f (b c n) k j x y)
            (queue_in c t g i);
      }

-- ---- one more in flight

-- the front of the queue, which flies
record Front (past : List Line) (d v : ℕ) (f : Flight) : Type 0 where
  front : Queued
  more : List Queued
  queue : queue_at d v past ≡ front ∷ more
  slot : f.slot ≡ front.slot
  op : f.op ≡ front.op

front_at : (head : Head) (past : List Line) (d v : ℕ) (f : Flight) → Grown head past → FliesOk head (only v past) d v f → Front past d v f
front_at head past d v f g ok = record {
  front = ok.front;
  more = ok.more;
  queue = queue_now head d v past g ∙ ok.queue;
  slot =
      ap (λ (g : Flight). g.slot) ok.is;
  op = ap (λ (g : Flight). g.op) ok.is;
}

apart_rest : (queue : List Queued) → Apart queue → Apart (rest queue)
apart_rest [] a = tt
apart_rest (q ∷ queue) a = a.1

module _ (past : List Line) (stamp : Stamp) (d v : ℕ) (f : Flight) (b : Before past (line (turn stamp (Client d)) (Flies v f) ∷ past))
    (ok : Front past d v f) (h : Asks past) where
  abbrev flies : List Line
  flies = line (turn stamp (Client d)) (Flies v f) ∷ past

  fly_in : (c t : ℕ) (g : Flight) → In g (flights_at c t flies) → ((c ≡ d) × (t ≡ v) × (f ≡ g)) ⊎ In g (flights_at c t past)
  fly_in c t g =
      cond_both (nat_eq c d && nat_eq t v) (flights_at c t past ++ f ∷ []) (flights_at c t past)
      (λ (fs : List Flight). In g fs → ((c ≡ d) × (t ≡ v) × (f ≡ g)) ⊎ In g (flights_at c t past))
      (λ o i. ⊎_elim (λ (j : In g (flights_at c t past)). inr j)
      (λ (j : In g (f ∷ [])). ⊎_elim (λ (e : f ≡ g). let w = own_import c d t v o in inl (w.0, w.1, e)) (λ (w : ⊥). absurd w) j)
      (in_append g (flights_at c t past) (f ∷ []) i))
      (λ o i. inr i)

  rest_in : (c t : ℕ) (q : Queued) → In q (queue_at c t flies) → In q (queue_at c t past)
  rest_in c t q = cond_both (nat_eq c d && nat_eq t v) (rest (queue_at c t past)) (queue_at c t past)
      (λ (qs : List Queued). In q qs → In q (queue_at c t past)) (λ o i. in_rest q (queue_at c t past) i) (λ o i. i)

  front_in : In ok.front (queue_at d v past)
  front_in = subst (λ qs. In ok.front qs) (sym ok.queue) (inl refl)

  here : (c : ℕ) → c ≡ d → (Ending flies c → ⊥) → Ending past d → ⊥
  here c e n = b d (subst (λ w. Ending flies w → ⊥) e n)

  -- the front's slot is no other's
  front_apart : (c t s : ℕ) (q : Queued) → (Ending flies c → ⊥) → In q (queue_at c t flies) → c ≡ d → q.slot ≡ Some s → f.slot ≡ Some s → ⊥
  front_apart c t s q n i e x y =
      cond_both (nat_eq c d && nat_eq t v) (rest (queue_at c t past)) (queue_at c t past) (λ (qs : List Queued). In q qs → ⊥)
      (λ o j. later (queue_at d v past) (h.queue_apart d v (here c e n)) ok.queue
      (subst (λ w. In q (rest (queue_at d w past))) (own_import c d t v o).1 (subst (λ w. In q (rest (queue_at w t past))) e j)))
      (λ o j. other_import c d t v o e (h.queue_one d t v s q ok.front (here c e n) (subst (λ w. In q (queue_at w t past)) e j) front_in x
      (sym ok.slot ∙ y)))
      i
    where
      later : (qs : List Queued) → Apart qs → qs ≡ ok.front ∷ ok.more → In q (rest qs) → ⊥
      later qs a z j = let w = subst Apart z a in w.0 q s (subst (λ k. In q (rest k)) z j) x (sym ok.slot ∙ y)

  clash : (c t s : ℕ) (k : Flight) → (Ending flies c → ⊥) → In k (flights_at c t past) → c ≡ d → k.slot ≡ Some s → f.slot ≡ Some s → ⊥
  clash c t s k n i e x y = h.apart d v t s ok.front k (here c e n) front_in (subst (λ w. In k (flights_at w t past)) e i) (sym ok.slot ∙ y)
      x

  flight_slot : (g : Flight) (s : ℕ) → f ≡ g → g.slot ≡ Some s → f.slot ≡ Some s
  flight_slot g s e x = ap (λ (w : Flight). w.slot) e ∙ x

  mine_flies : (Ending flies d → ⊥) → CallOf flies d v f.slot f.op
  mine_flies n = subst (λ (s : Option ℕ). CallOf flies d v s f.op) (sym ok.slot)
      (subst (λ (o : Op). CallOf flies d v ok.front.slot o) (sym ok.op) (h.queue_calls d v ok.front (b d n) front_in))

  asks_flies : Asks flies
  asks_flies =
      record {
        fly_calls = λ c t g n i. ⊎_elim
            (λ (p : (c ≡ d) × (t ≡ v) × (f ≡ g)).
            subst (λ (w : Flight). CallOf flies c t w.slot w.op) p.2
            (subst (λ w. CallOf flies c w f.slot f.op) (sym p.1)
            (subst (λ w. (Ending flies w → ⊥) → CallOf flies w v f.slot f.op) (sym p.0) mine_flies n)))
            (λ (j : In g (flights_at c t past)). h.fly_calls c t g (b c n) j)
            (fly_in c t g i);
        queue_calls = λ c t q n i. h.queue_calls c t q (b c n) (rest_in c t q i);
        fly_one = λ c t u s g k n i j x y. ⊎_elim
            (λ (p : (c ≡ d) × (t ≡ v) × (f ≡ g)). ⊎_elim
            (λ (q : (c ≡ d) × (u ≡ v) × (f ≡ k)). (p.1 ∙ sym q.1, ap (λ (w : Flight). w.xid) (sym p.2 ∙ q.2)))
            (λ (q : In k (flights_at c u past)). absurd (clash c u s k n q p.0 y (flight_slot g s p.2 x)))
            (fly_in c u k j))
            (λ (p : In g (flights_at c t past)). ⊎_elim
            (λ (q : (c ≡ d) × (u ≡ v) × (f ≡ k)). absurd (clash c t s g n p q.0 x (flight_slot k s q.2 y)))
            (λ (q : In k (flights_at c u past)). h.fly_one c t u s g k (b c n) p q x y)
            (fly_in c u k j))
            (fly_in c t g i);
        queue_one = λ c t u s q g n i j. h.queue_one c t u s q g (b c n) (rest_in c t q i) (rest_in c u g j);
        queue_apart = λ c t n. cond_both (nat_eq c d && nat_eq t v) (rest (queue_at c t past)) (queue_at c t past) Apart
            (λ o. apart_rest (queue_at c t past) (h.queue_apart c t (b c n))) (λ o. h.queue_apart c t (b c n));
        apart = λ c t u s q g n i j x y. ⊎_elim
            (λ (p : (c ≡ d) × (u ≡ v) × (f ≡ g)). front_apart c t s q n i p.0 x (flight_slot g s p.2 y))
            (λ (k : In g (flights_at c u past)). h.apart c t u s q g (b c n) (rest_in c t q i) k x y)
            (fly_in c u g j);
      }

-- ---- one less in flight

module _ (past : List Line) (stamp : Stamp) (d v : ℕ) (f : Flight) (r : ReplyTo)
    (b : Before past (line (turn stamp (Client d)) (Heard v f r) ∷ past)) (flying : In f (flights_at d v past)) (h : Asks past) where
  abbrev heard : List Line
  heard = line (turn stamp (Client d)) (Heard v f r) ∷ past

  less : (c t : ℕ) (g : Flight) → In g (flights_at c t heard) → In g (flights_at c t past)
  less c t g = cond_both (nat_eq c d && nat_eq t v) (without_flight f.xid (flights_at c t past)) (flights_at c t past)
      (λ (fs : List Flight). In g fs → In g (flights_at c t past))
      (λ o i. (in_filter (λ (w : Flight). not (nat_eq w.xid f.xid)) g (flights_at c t past) i).0) (λ o i. i)

  there : (c : ℕ) → c ≡ d → (Ending heard c → ⊥) → Ending past d → ⊥
  there c e n = b d (subst (λ w. Ending heard w → ⊥) e n)

  -- no other is for the call that was answered
  gone : (c t s : ℕ) (g : Flight) → (Ending heard c → ⊥) → In g (flights_at c t heard) → c ≡ d → g.slot ≡ Some s → f.slot ≡ Some s → ⊥
  gone c t s g n i e x y =
      cond_both (nat_eq c d && nat_eq t v) (without_flight f.xid (flights_at c t past)) (flights_at c t past)
      (λ (fs : List Flight). In g fs → ⊥)
      (λ o j. let k = in_filter (λ (w : Flight). not (nat_eq w.xid f.xid)) g (flights_at c t past) j in let x = (one k.0).1 in let y =
      not-true (nat_eq g.xid f.xid) k.1 in grind (arith, nat_tests))
      (λ o j. other_import c d t v o e (one j).0)
      i
    where
      one : In g (flights_at c t past) → (t ≡ v) × (g.xid ≡ f.xid)
      one j = h.fly_one d t v s g f (there c e n) (subst (λ w. In g (flights_at w t past)) e j) flying x y

  heard_call : (c t : ℕ) (s : Option ℕ) (o : Op) → ((slot : ℕ) → c ≡ d → s ≡ Some slot → f.slot ≡ Some slot → ⊥) → CallOf past c t s o
      → CallOf heard c t s o
  heard_call c t s o n = call_of_stays past stamp d (Heard v f r) c t s o
      (λ slot q is k a e. asks_other f.slot slot (Answered v r) (call_at c slot past) (λ w. n slot e is w))

  asks_heard : Asks heard
  asks_heard =
      record {
        fly_calls = λ c t g n i. heard_call c t g.slot g.op (λ s e x y. gone c t s g n i e x y) (h.fly_calls c t g (b c n) (less c t g i));
        queue_calls = λ c t q n i. heard_call c t q.slot q.op (λ s e x y. h.apart d t v s q f (there c e n)
            (subst (λ w. In q (queue_at w t past)) e i) flying x y) (h.queue_calls c t q (b c n) i);
        fly_one = λ c t u s g k n i j. h.fly_one c t u s g k (b c n) (less c t g i) (less c u k j);
        queue_one = λ c t u s q g n. h.queue_one c t u s q g (b c n);
        queue_apart = λ c t n. h.queue_apart c t (b c n);
        apart = λ c t u s q g n i j. h.apart c t u s q g (b c n) i (less c u g j);
      }

-- ---- a new life has asked nothing

module _ (past : List Line) (stamp : Stamp) (d : ℕ) (new : Who) (closes : Closes past (turn stamp (Client d))) (h : Asks past) where
  abbrev lives : List Line
  lives = line (turn stamp (Client d)) (Life new) ∷ past

  -- another client's is as it was
  other : (c : ℕ) → nat_eq c d && true ≡ false → (Ending lives c → ⊥) → Ending past c → ⊥
  other c o n k =
      let q : nat_eq c d ≡ false = by (nat_eq c d) o in
      n (ending_more past stamp (Client d) (Life new) c closes (sym (cond-false (nat_eq c d) new (life_at c past) q)) k)
    where
      by : (t : Bool) → t && true ≡ false → t ≡ false
      by true e = e
      by false e = refl

  fly_old : (c t : ℕ) (f : Flight) → (Ending lives c → ⊥) → In f (flights_at c t lives) → In f (flights_at c t past) × (Ending past c → ⊥)
  fly_old c t f n = cond_both (nat_eq c d && true) [] (flights_at c t past)
      (λ (fs : List Flight). In f fs → In f (flights_at c t past) × (Ending past c → ⊥)) (λ o i. absurd i) (λ o i. (i, other c o n))

  queue_old : (c t : ℕ) (q : Queued) → (Ending lives c → ⊥) → In q (queue_at c t lives) → In q (queue_at c t past) × (Ending past c → ⊥)
  queue_old c t q n = cond_both (nat_eq c d && true) [] (queue_at c t past)
      (λ (qs : List Queued). In q qs → In q (queue_at c t past) × (Ending past c → ⊥)) (λ o i. absurd i) (λ o i. (i, other c o n))

  asks_life : Asks lives
  asks_life =
      record {
        fly_calls = λ c t f n i. let k = fly_old c t f n i in h.fly_calls c t f k.1 k.0;
        queue_calls = λ c t q n i. let k = queue_old c t q n i in h.queue_calls c t q k.1 k.0;
        fly_one = λ c t u s f g n i j. let k = fly_old c t f n i in h.fly_one c t u s f g k.1 k.0 (fly_old c u g n j).0;
        queue_one = λ c t u s q g n i j. let k = queue_old c t q n i in h.queue_one c t u s q g k.1 k.0 (queue_old c u g n j).0;
        queue_apart = λ c t n. cond_both (nat_eq c d && true) [] (queue_at c t past) Apart (λ o. tt) (λ o. h.queue_apart c t (other c o n));
        apart = λ c t u s q f n i j. let k = queue_old c t q n i in h.apart c t u s q f k.1 k.0 (fly_old c u f n j).0;
      }

-- ---- each line

-- the call on the slot, where it doesn't wait
not_asked : (past : List Line) (c slot : ℕ) (q : Running) → call_at c slot past ≡ Some q → (q.asking ≡ Asked → ⊥) → NotAsked past c slot
not_asked past c slot q w n r k a = let e : Some q ≡ Some r = sym w ∙ k in let same : q ≡ r = cc
    in n (ap (λ (v : Running). v.asking) same ∙ a)

new_not : (q : Running) → q.asking ≡ Unasked → q.asking ≡ Asked → ⊥
new_not q new a = absurd (cc)

answered_not : (q : Running) (t : ℕ) (r : ReplyTo) → q.asking ≡ Answered t r → q.asking ≡ Asked → ⊥
answered_not q t r k a = absurd (cc)

module _ (head : Head) (past : List Line) (stamp : Stamp) (c s : ℕ) (named : At) (answer : Answer) (work : Option Work)
    (g : Grown head past) (b : Before past (line (turn stamp (Client c)) (Told s named answer work) ∷ past)) (h : Asks past) where
  abbrev told : List Line
  told = line (turn stamp (Client c)) (Told s named answer work) ∷ past

  quiet : (q : Running) → call_at c s past ≡ Some q → (q.asking ≡ Asked → ⊥) → Asks told
  quiet q is n = asks_told past stamp c s named answer work b (not_asked past c s q is n) h

  keeps_told : EntryOk past (turn stamp (Client c)) (Client c) (Told s named answer work) → Asks told
  keeps_told (inl ok) = quiet ok.running ok.call (answered_not ok.running ok.target ok.reply ok.answered)
  keeps_told (inr (inl ok)) = quiet ok.running ok.call (new_not ok.running ok.new)
  keeps_told (inr (inr (inl ok))) = asks_ended past stamp c s named answer work b ok.notice h
  keeps_told (inr (inr (inr (inl ok)))) = quiet ok.running ok.call
      (new_not ok.running (bad_unasked head past g c s ok.running ok.call ok.bad))
  keeps_told (inr (inr (inr (inr (inl ok))))) = quiet ok.running ok.call ok.still
  keeps_told (inr (inr (inr (inr (inr (inl ok)))))) = quiet ok.running ok.call ok.still
  keeps_told (inr (inr (inr (inr (inr (inr (inl ok))))))) = quiet ok.running ok.call ok.still
  keeps_told (inr (inr (inr (inr (inr (inr (inr (inl ok)))))))) = quiet ok.running ok.call ok.still
  keeps_told (inr (inr (inr (inr (inr (inr (inr (inr ok)))))))) = quiet ok.running ok.call ok.still

still : (past : List Line) (stamp : Stamp) (node : Node) (e : Entry) → Closes past (turn stamp node)
    → ((c : ℕ) → life_at c past ≡ life_at c (line (turn stamp node) e ∷ past)) → Before past (line (turn stamp node) e ∷ past)
still past stamp node e closes same c n k = n (ending_more past stamp node e c closes (same c) k)

pub keeps_asks : (head : Head) (past : List Line) (stamp : Stamp) (node : Node) (e : Entry) → Grown head past
    → Closes past (turn stamp node) → EntryOk past (turn stamp node) node e
    → ((t : ℕ) → concerns t node e ≡ true → EntryOf head (only t past) (turn stamp node) node e) → Asks past
    → Asks (line (turn stamp node) e ∷ past)
keeps_asks head past stamp (Client c) (Begin s running) g x ok of h =
    asks_begin past stamp c s running (still past stamp (Client c) (Begin s running) x (λ d. refl))
    (λ r k a. let f = ok.free in absurd (cc)) h
keeps_asks head past stamp (Client c) (Told s named answer work) g x ok of h =
    keeps_told head past stamp c s named answer work g (still past stamp (Client c) (Told s named answer work) x (λ d. refl)) h ok
keeps_asks head past stamp (Client c) (Queues u q) g x ok of h =
    asks_queues past stamp c u q (still past stamp (Client c) (Queues u q) x (λ d. refl)) ok h
keeps_asks head past stamp (Client c) (Flies u f) g x ok of h =
    asks_flies past stamp c u f (still past stamp (Client c) (Flies u f) x (λ d. refl)) (front_at head past c u f g (of u (self u))) h
keeps_asks head past stamp (Client c) (Heard u f r) g x ok of h =
    let k = of u (self u) in
    asks_heard past stamp c u f r (still past stamp (Client c) (Heard u f r) x (λ d. refl))
    (subst (λ (fs : List Flight). In f fs) (sym (flights_now head c u past g)) k.flying) h
keeps_asks head past stamp (Client c) (Life who) g x ok of h = asks_life past stamp c who x h
keeps_asks head past stamp (Client c) (Stands s running) g x ok of h =
    asks_stands past stamp c s running (still past stamp (Client c) (Stands s running) x (λ d. refl))
    (not_asked past c s ok.running ok.call ok.still) h
keeps_asks head past stamp (Target t) Tick g x ok of h = asks_same past (line (turn stamp (Target t)) Tick ∷ past)
    (still past stamp (Target t) Tick x (λ d. refl)) (λ d s. refl) (λ d u. refl) (λ d u. refl) h
keeps_asks head past stamp node e g x ok of h = asks_same past (line (turn stamp node) e ∷ past) (still past stamp node e x (λ d. refl))
    (λ d s. refl) (λ d u. refl) (λ d u. refl) h

-- so it is after every line
pub asks_grown : (head : Head) (past : List Line) → Grown head past → Asks past
asks_grown head [] g =
    record {
      fly_calls = λ c t f n i. absurd i;
      queue_calls = λ c t q n i. absurd i;
      fly_one = λ c t u s f k n i. absurd i;
      queue_one = λ c t u s q k n i. absurd i;
      queue_apart = λ c t n. tt;
      apart = λ c t u s q f n i. absurd i;
    }
asks_grown head (l ∷ past) g = keeps_asks head past l.at.stamp l.at.node l.entry g.1 g.0.closes g.0.ok g.0.of (asks_grown head past g.1)
