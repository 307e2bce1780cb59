-- What a target does, whether it executes an operation on names, or answers a request on an object: with its size, a lock, a page, or
-- without any of
-- these; and of which kind the locks are that it grants: on names at the metadata target, on ranges of bytes at another one.
use Rattle.std.proofs.Common.{◌≡◌, ℕ, ◌+◌, ◌<◌, List, [], ◌∷◌, ◌⊎◌, inl, inr, refl, sym, subst, ap, ◌∙◌, arith}
use Rattle.lu_base.specs.declared.ids.At.{At}
use Rattle.lu_base.specs.declared.ids.Who.{Who}
use Rattle.lu_base.specs.declared.locks.Lock.{Lock}
use Rattle.lu_base.specs.declared.locks.Mode.TheVariants.{PR}
use Rattle.lu_base.specs.declared.locks.Policy.{Policy}
use Rattle.lu_base.specs.declared.locks.Policy.TheVariants.{Bits, Range}
use Rattle.lu_msg.specs.declared.answers.Answer.{Answer}
use Rattle.lu_msg.specs.declared.answers.Answer.TheVariants as told
use Rattle.lu_msg.specs.declared.messages.Request.{Request as RequestOf}
use Rattle.lu_msg.specs.declared.operations.Op.TheVariants as op
use Rattle.lu_part.specs.declared.parts.Part.{Part}
use Rattle.lu_part.specs.declared.parts.Want.{Want}
use Rattle.lu_spec_machine.specs.Footprint.{grants}
use Rattle.lu_spec_machine.specs.Objects.{object_writes}
use Rattle.lu_spec_entries.specs.Carried.{Deed}
use Rattle.lu_spec_entries.specs.Words.{Line}
use Rattle.lu_spec_target.specs.Glimpses.{by_holder}
use Rattle.lu_spec_target.specs.Names.{locks_from}
use Rattle.lu_spec_target.specs.Queues.{extent_in, extent_of}
use Rattle.lu_proof_lawful.specs.Covered.Deeds.{asked, size_at, told_on}
use Rattle.lu_proof_lawful.specs.Covered.TargetStates.{none, next_number, server_of}
use Rattle.lu_proof_lawful.proofs.Preconditions.Guards.{HasRange, In}
use Rattle.lu_proof_lawful.proofs.Preconditions.StoryGuards.{IsServing, ActOk, SizedOk, ActsOk, TxnOk, WriteOk, TxnsOk, RangeOk, WaitOk}
use Rattle.lu_proof_lawful.proofs.Preconditions.StoryGuards.{ReportedOk, AnswersOk}

-- a request that waits is answered as it was asked, under no number, with new locks of its life, if any
pub record Acted (osts : ℕ) (past : List Line) (at : At) (d : Deed) : Type 0 where
  pub serves : IsServing osts past
  pub request : RequestOf
  pub waits : In request (server_of osts past).waiting
  pub who : d.reply.who ≡ request.who
  pub xid : d.reply.xid ≡ request.xid
  pub tag : d.tag ≡ request.tag
  pub of_op : d.op ≡ request.op
  pub boot : d.reply.boot ≡ (server_of osts past).boot
  pub number : d.reply.txn ≡ none
  pub committed : d.reply.committed ≡ (server_of osts past).committed
  pub turn : d.reply.at ≡ at
  pub wants : List Want
  pub locks : d.reply.locks ≡ locks_from (server_of osts past).cookie request.who wants

pub names_acted : (osts : ℕ) (past : List Line) (at : At) (d : Deed) → ActOk osts past at d → Acted osts past at d
names_acted osts past at d ok =
    subst (λ (e : Deed). Acted osts past at e) (sym ok.is)
    (record {
      serves = ok.serves;
      request = ok.request;
      waits = ok.waits;
      who = refl;
      xid = refl;
      tag = refl;
      of_op = refl;
      boot = refl;
      number = refl;
      committed = refl;
      turn = refl;
      wants = grants osts (server_of osts past).tree (asked ok.request none);
      locks = refl;
    })

-- whatever is answered on an object
pub told_acted : (osts : ℕ) (past : List Line) (at : At) (d : Deed) (r : RequestOf) (parts : List Part) (a : Answer) → IsServing osts past
    → In r (server_of osts past).waiting → d ≡ told_on (server_of osts past) at r none parts a → Acted osts past at d
told_acted osts past at d r parts a serves waits is =
    subst (λ (e : Deed). Acted osts past at e) (sym is)
    (record {
      serves = serves;
      request = r;
      waits = waits;
      who = refl;
      xid = refl;
      tag = refl;
      of_op = refl;
      boot = refl;
      number = refl;
      committed = refl;
      turn = refl;
      wants = [];
      locks = refl;
    })

pub sized_acted : (osts : ℕ) (past : List Line) (at : At) (d : Deed) → SizedOk osts past at d → Acted osts past at d
sized_acted osts past at d ok = told_acted osts past at d ok.request [] (told.Size (size_at (server_of osts past) ok.resource)) ok.serves
    ok.waits ok.is

pub acted : (osts : ℕ) (past : List Line) (at : At) (t : ℕ) (d : Deed) → ActsOk osts past at t d → Acted osts past at d
acted osts past at t d (inl ok) = names_acted osts past at d ok.1
acted osts past at t d (inr ok) = sized_acted osts past at d ok.1

-- ---- which of both it is

pub acts_names : (osts : ℕ) (past : List Line) (at : At) (d : Deed) → ActsOk osts past at 0 d → ActOk osts past at d
acts_names osts past at d (inl ok) = ok.1
acts_names osts past at d (inr ok) = absurd (omega (arith, ok.0))

pub acts_sized : (osts : ℕ) (past : List Line) (at : At) (t : ℕ) (d : Deed) → 0 < t → ActsOk osts past at t d → SizedOk osts past at d
acts_sized osts past at t d high (inl ok) = absurd (let zero = ok.0 in omega (arith, zero, high))
acts_sized osts past at t d high (inr ok) = ok.1

-- a glimpse is told the size of its object, and gets no lock
pub sized_op : (osts : ℕ) (past : List Line) (at : At) (d : Deed) (ok : SizedOk osts past at d) → d.op ≡ op.Size ok.resource
sized_op osts past at d ok = ap (λ (e : Deed). e.op) ok.is ∙ ok.of_op

pub sized_answer : (osts : ℕ) (past : List Line) (at : At) (d : Deed) (ok : SizedOk osts past at d) → d.reply.answer
    ≡ told.Size (size_at (server_of osts past) ok.resource)
sized_answer osts past at d ok = ap (λ (e : Deed). e.reply.answer) ok.is

pub sized_bare : (osts : ℕ) (past : List Line) (at : At) (d : Deed) → SizedOk osts past at d → d.reply.locks ≡ []
sized_bare osts past at d ok = ap (λ (e : Deed). e.reply.locks) ok.is

-- ---- a lock on a range of bytes, that is granted or waits

pub range_acted : (osts : ℕ) (past : List Line) (at : At) (lock : Lock) (d : Deed) → RangeOk osts past at lock d → Acted osts past at d
range_acted osts past at lock d ok = told_acted osts past at d ok.request []
    (told.Granted lock.cookie (extent_of lock) (size_at (server_of osts past) ok.resource)) ok.serves ok.waits ok.is

pub range_op : (osts : ℕ) (past : List Line) (at : At) (lock : Lock) (d : Deed) (ok : RangeOk osts past at lock d) → d.op
    ≡ op.Enqueue ok.resource ok.mode ok.extent
range_op osts past at lock d ok = ap (λ (e : Deed). e.op) ok.is ∙ ok.of_op

pub range_answer : (osts : ℕ) (past : List Line) (at : At) (lock : Lock) (d : Deed) (ok : RangeOk osts past at lock d) → d.reply.answer
    ≡ told.Granted lock.cookie (extent_of lock) (size_at (server_of osts past) ok.resource)
range_answer osts past at lock d ok = ap (λ (e : Deed). e.reply.answer) ok.is

pub range_bare : (osts : ℕ) (past : List Line) (at : At) (lock : Lock) (d : Deed) → RangeOk osts past at lock d → d.reply.locks ≡ []
range_bare osts past at lock d ok = ap (λ (e : Deed). e.reply.locks) ok.is

pub wait_acted : (osts : ℕ) (past : List Line) (at : At) (lock : Lock) (d : Deed) → WaitOk osts past at lock d → Acted osts past at d
wait_acted osts past at lock d ok = told_acted osts past at d ok.request [] (told.Waiting lock.cookie) ok.serves ok.waits ok.is

pub wait_op : (osts : ℕ) (past : List Line) (at : At) (lock : Lock) (d : Deed) (ok : WaitOk osts past at lock d) → d.op
    ≡ op.Enqueue ok.resource ok.mode ok.extent
wait_op osts past at lock d ok = ap (λ (e : Deed). e.op) ok.is ∙ ok.of_op

pub wait_answer : (osts : ℕ) (past : List Line) (at : At) (lock : Lock) (d : Deed) → WaitOk osts past at lock d → d.reply.answer
    ≡ told.Waiting lock.cookie
wait_answer osts past at lock d ok = ap (λ (e : Deed). e.reply.answer) ok.is

pub wait_bare : (osts : ℕ) (past : List Line) (at : At) (lock : Lock) (d : Deed) → WaitOk osts past at lock d → d.reply.locks ≡ []
wait_bare osts past at lock d ok = ap (λ (e : Deed). e.reply.locks) ok.is

-- ---- what is answered without a printed line

-- such an answer neither grants a lock nor lets it wait
abbrev pub IsNoGrant : Answer → Type 0
IsNoGrant (told.Granted cookie extent size) = ⊥
IsNoGrant (told.Waiting cookie) = ⊥
IsNoGrant _ = Unit {0}

-- a request that waits is answered so, under no number; in this turn, or in that in which a holder said the size
pub record Responded (osts : ℕ) (past : List Line) (at : At) (t : ℕ) (d : Deed) : Type 0 where
  pub serves : IsServing osts past
  pub when : At
  pub request : RequestOf
  pub waits : In request (server_of osts past).waiting
  pub answer : Answer
  pub no_grant : IsNoGrant answer
  pub is : d ≡ told_on (server_of osts past) when request none [] answer
  pub turn : (when ≡ at) ⊎ ReportedOk osts past at t d

pub responded : (osts : ℕ) (past : List Line) (at : At) (t : ℕ) (d : Deed) → AnswersOk osts past at t d → Responded osts past at t d
responded osts past at t d (inl ok) = record {
  serves = ok.serves;
  when = at;
  request = ok.request;
  waits = ok.waits;
  answer = _;
  no_grant =
      tt;
  is = ok.is;
  turn = inl refl;
}
responded osts past at t d (inr (inl ok)) = record {
  serves = ok.serves;
  when = at;
  request = ok.request;
  waits = ok.waits;
  answer =
      told.Uncovered;
  no_grant = tt;
  is = ok.is;
  turn = inl refl;
}
responded osts past at t d (inr (inr (inl ok))) = record {
  serves = ok.serves;
  when = at;
  request = ok.request;
  waits = ok.waits;
  answer =
      told.Lock;
  no_grant = tt;
  is = ok.is;
  turn = inl refl;
}
responded osts past at t d (inr (inr (inr (inl ok)))) = record {
  serves = ok.serves;
  when = at;
  request = ok.request;
  waits = ok.waits;
  answer = told.Lock;
  no_grant = tt;
  is = ok.is;
  turn = inl refl;
}
responded osts past at t d (inr (inr (inr (inr ok)))) =
    record {
      serves = ok.serves;
      when = by_holder ok.report;
      request = ok.request;
      waits = ok.waits;
      answer = told.Size ok.size;
      no_grant =
          tt;
      is = ok.is;
      turn = inr ok;
    }

pub responds_acted : (osts : ℕ) (past : List Line) (at : At) (t : ℕ) (d : Deed) (r : Responded osts past at t d) → Acted osts past r.when d
responds_acted osts past at t d r = told_acted osts past r.when d r.request [] r.answer r.serves r.waits r.is

-- ---- transactions

-- a request that waits is made the next transaction, on names or on an object, and gets no lock
pub record Made (osts : ℕ) (past : List Line) (at : At) (d : Deed) : Type 0 where
  pub serves : IsServing osts past
  pub numbers : (server_of osts past).count < 4294967295
  pub request : RequestOf
  pub waits : In request (server_of osts past).waiting
  pub who : d.reply.who ≡ request.who
  pub xid : d.reply.xid ≡ request.xid
  pub tag : d.tag ≡ request.tag
  pub of_op : d.op ≡ request.op
  pub boot : d.reply.boot ≡ (server_of osts past).boot
  pub number : d.reply.txn ≡ next_number (server_of osts past)
  pub committed : d.reply.committed ≡ (server_of osts past).committed
  pub turn : d.reply.at ≡ at
  pub bare : d.reply.locks ≡ []

pub names_made : (osts : ℕ) (past : List Line) (at : At) (d : Deed) → TxnOk osts past at d → Made osts past at d
names_made osts past at d ok =
    subst (λ (e : Deed). Made osts past at e) (sym ok.is)
    (record {
      serves = ok.serves;
      numbers = ok.numbers;
      request = ok.request;
      waits = ok.waits;
      who = refl;
      xid = refl;
      tag = refl;
      of_op =
          refl;
      boot = refl;
      number = refl;
      committed = refl;
      turn = refl;
      bare = refl;
    })

pub write_made : (osts : ℕ) (past : List Line) (at : At) (d : Deed) → WriteOk osts past at d → Made osts past at d
write_made osts past at d ok =
    subst (λ (e : Deed). Made osts past at e) (sym ok.is)
    (record {
      serves = ok.serves;
      numbers = ok.numbers;
      request = ok.request;
      waits = ok.waits;
      who = refl;
      xid = refl;
      tag = refl;
      of_op =
          refl;
      boot = refl;
      number = refl;
      committed = refl;
      turn = refl;
      bare = refl;
    })

pub made : (osts : ℕ) (past : List Line) (at : At) (t : ℕ) (d : Deed) → TxnsOk osts past at t d → Made osts past at d
made osts past at t d (inl ok) = names_made osts past at d ok.1
made osts past at t d (inr ok) = write_made osts past at d ok.1

pub write_answer : (osts : ℕ) (past : List Line) (at : At) (d : Deed) → WriteOk osts past at d → d.reply.answer ≡ told.Done
write_answer osts past at d ok = ap (λ (e : Deed). e.reply.answer) ok.is

pub write_writes : (osts : ℕ) (past : List Line) (at : At) (d : Deed) (ok : WriteOk osts past at d) → d.writes ≡ object_writes ok.request.op
write_writes osts past at d ok = ap (λ (e : Deed). e.writes) ok.is

-- ---- kinds of locks

abbrev pub IsBits : Policy → Type 0
IsBits (Bits bits) = Unit {0}
IsBits (Range extent) = ⊥

-- on names, to read
abbrev pub NameLock : Lock → Type 0
NameLock l = (l.ask.mode ≡ PR) × IsBits l.ask.policy

-- on a range of bytes of an object
abbrev pub RangeLock : Lock → Type 0
RangeLock l = HasRange l.ask.policy

-- the metadata target has locks on names, another one has locks on objects
abbrev pub KindOf : ℕ → Lock → Type 0
KindOf t l = ((t ≡ 0) × NameLock l) ⊎ ((0 < t) × RangeLock l)

pub kind_names : (l : Lock) → KindOf 0 l → NameLock l
kind_names l (inl k) = k.1
kind_names l (inr k) = absurd (let high = k.0 in omega (arith, high))

pub kind_ranges : (t : ℕ) (l : Lock) → 0 < t → KindOf t l → RangeLock l
kind_ranges t l high (inl k) = absurd (let zero = k.0 in omega (arith, zero, high))
kind_ranges t l high (inr k) = k.1

-- none is of both
pub bits_range : (p : Policy) → IsBits p → HasRange p → ⊥
bits_range (Bits bits) b r = r
bits_range (Range extent) b r = b

-- a range is that of its extent
pub range_is : (p : Policy) → HasRange p → Range (extent_in p) ≡ p
range_is (Range extent) r = refl
range_is (Bits bits) r = absurd r

-- those of an act
pub from_names : (cookie : ℕ) (who : Who) (wants : List Want) (l : Lock) → In l (locks_from cookie who wants) → NameLock l
from_names cookie who [] l i = absurd i
from_names cookie who (want ∷ wants) l (inl e) = subst (λ (k : Lock). NameLock k) e (refl, tt)
from_names cookie who (want ∷ wants) l (inr i) = from_names (cookie + 1) who wants l i

pub range_kind : (osts : ℕ) (past : List Line) (at : At) (lock : Lock) (d : Deed) → RangeOk osts past at lock d → RangeLock lock
range_kind osts past at lock d ok = subst (λ (k : Lock). RangeLock k) (sym ok.of_lock) tt

pub wait_kind : (osts : ℕ) (past : List Line) (at : At) (lock : Lock) (d : Deed) → WaitOk osts past at lock d → RangeLock lock
wait_kind osts past at lock d ok = subst (λ (k : Lock). RangeLock k) (sym ok.of_lock) tt
