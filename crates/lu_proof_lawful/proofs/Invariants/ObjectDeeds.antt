-- What an object storage target does for a request that waited: it answers it without a transaction, be it a lock, a page, a size or a
-- refusal; or
-- it makes a put or a cut, which brings no lock.
use Rattle.std.proofs.Common.{◌≡◌, ℕ, ◌<◌, false, [], List, inl, inr, refl, sym, subst, ap}
use Rattle.lu_base.specs.declared.ids.At.{At}
use Rattle.lu_base.specs.declared.ids.Who.{Who}
use Rattle.lu_base.specs.declared.locks.Lock.{Lock}
use Rattle.lu_msg.specs.declared.answers.Answer.{Answer}
use Rattle.lu_msg.specs.declared.answers.Answer.TheVariants as told
use Rattle.lu_msg.specs.declared.messages.Reply.{Reply as ReplyTo}
use Rattle.lu_msg.specs.declared.messages.Request.{Request as RequestOf}
use Rattle.lu_msg.specs.declared.operations.Op.{Op}
use Rattle.lu_msg.specs.declared.operations.Op.TheVariants as op
use Rattle.lu_part.specs.declared.parts.Part.{Part}
use Rattle.lu_spec_machine.specs.Footprint.{touches}
use Rattle.lu_spec_machine.specs.Objects.{object_touches}
use Rattle.lu_spec_entries.specs.Carried.{Deed}
use Rattle.lu_spec_entries.specs.Words.{Line}
use Rattle.lu_spec_target.specs.Queues.{extent_of}
use Rattle.lu_spec_client.specs.Caches.{brought}
use Rattle.lu_proof_lawful.specs.Covered.ClientStates.{brings_cookie}
use Rattle.lu_proof_lawful.specs.Covered.Deeds.{asked, size_at, told_on}
use Rattle.lu_proof_lawful.specs.Covered.TargetStates.{Server, none, server_of, next_number, seen_in}
use Rattle.lu_proof_lawful.proofs.Preconditions.Acts.{responded}
use Rattle.lu_proof_lawful.proofs.Preconditions.Guards.{In}
use Rattle.lu_proof_lawful.proofs.Preconditions.StoryGuards.{IsServing, RangeOk, WaitOk, SizedOk, AnswersOk, WritesUnder, WriteOk, TxnsOk}

-- ---- without a transaction

-- it was answered so, as if in that turn
pub record ToldOn (osts : ℕ) (past : List Line) (d : Deed) : Type 0 where
  pub serves : IsServing osts past
  pub request : RequestOf
  pub waits : In request (server_of osts past).waiting
  pub turn : At
  pub answer : Answer
  pub is : d ≡ told_on (server_of osts past) turn request none [] answer

pub range_told : (osts : ℕ) (past : List Line) (at : At) (lock : Lock) (d : Deed) → RangeOk osts past at lock d → ToldOn osts past d
range_told osts past at lock d ok =
    record {
      serves = ok.serves;
      request = ok.request;
      waits = ok.waits;
      turn = at;
      answer =
          told.Granted lock.cookie (extent_of lock) (size_at (server_of osts past) ok.resource);
      is = ok.is;
    }

pub wait_told : (osts : ℕ) (past : List Line) (at : At) (lock : Lock) (d : Deed) → WaitOk osts past at lock d → ToldOn osts past d
wait_told osts past at lock d ok = record {
  serves = ok.serves;
  request = ok.request;
  waits = ok.waits;
  turn = at;
  answer =
      told.Waiting lock.cookie;
  is = ok.is;
}

pub sized_told : (osts : ℕ) (past : List Line) (at : At) (d : Deed) → SizedOk osts past at d → ToldOn osts past d
sized_told osts past at d ok = record {
  serves = ok.serves;
  request = ok.request;
  waits = ok.waits;
  turn = at;
  answer =
      told.Size (size_at (server_of osts past) ok.resource);
  is = ok.is;
}

-- all that is answered without a printed line
pub answers_told : (osts : ℕ) (past : List Line) (at : At) (t : ℕ) (d : Deed) → AnswersOk osts past at t d → ToldOn osts past d
answers_told osts past at t d ok = let k = responded osts past at t d ok
    in record { serves = k.serves; request = k.request; waits = k.waits; turn = k.when; answer = k.answer; is = k.is }

-- it makes no transaction
pub told_number : (osts : ℕ) (past : List Line) (d : Deed) → ToldOn osts past d → d.reply.txn.0 ≡ 0
told_number osts past d k = ap (λ (e : Deed). e.reply.txn.0) k.is

-- ---- puts and cuts

-- nothing comes of it but that it is done
abbrev pub IsWrite : Op → Type 0
IsWrite (op.Put resource cookie offset bytes) = Unit {0}
IsWrite (op.Cut resource cookie size) = Unit {0}
IsWrite _ = ⊥

pub under_write : (v : Server) (who : Who) (o : Op) (holder : Lock) → WritesUnder v who o holder → IsWrite o
under_write v who (op.Put resource cookie offset bytes) holder u = tt
under_write v who (op.Cut resource cookie size) holder u = tt
under_write v who o holder u = absurd u

pub write_brings : (o : Op) (r : ReplyTo) → IsWrite o → r.locks ≡ [] → brought o r ≡ []
write_brings (op.Put resource cookie offset bytes) r w e = subst
    (λ (ls : List Lock). brought (op.Put resource cookie offset bytes) (record r { locks = ls }) ≡ []) (sym e) refl
write_brings (op.Cut resource cookie size) r w e = subst (λ (ls : List Lock). brought (op.Cut resource cookie size)
    (record r { locks = ls }) ≡ []) (sym e) refl
write_brings o r w e = absurd w

pub write_plain : (o : Op) (a : Answer) (k : ℕ) → IsWrite o → brings_cookie o a k ≡ false
write_plain (op.Put resource cookie offset bytes) a k w = refl
write_plain (op.Cut resource cookie size) a k w = refl
write_plain o a k w = absurd w

pub write_op : (osts : ℕ) (past : List Line) (at : At) (d : Deed) → WriteOk osts past at d → IsWrite d.op
write_op osts past at d ok = subst IsWrite (sym (ap (λ (e : Deed). e.op) ok.is))
    (under_write (server_of osts past) ok.request.who ok.request.op ok.holder ok.under)

-- ---- transactions, on names or on an object

-- it has the next number, and saw what the log has of some parts
pub record Makes (osts : ℕ) (past : List Line) (d : Deed) : Type 0 where
  pub serves : IsServing osts past
  pub room : (server_of osts past).count < 4294967295
  pub number : d.reply.txn ≡ next_number (server_of osts past)
  pub boot : d.reply.boot ≡ (server_of osts past).boot
  pub parts : List Part
  pub saw : d.reply.seen ≡ seen_in parts (server_of osts past).log

pub makes : (osts : ℕ) (past : List Line) (at : At) (t : ℕ) (d : Deed) → TxnsOk osts past at t d → Makes osts past d
makes osts past at t d (inl ok) =
    let k = ok.1 in
    record {
      serves = k.serves;
      room = k.numbers;
      number = ap (λ (e : Deed). e.reply.txn) k.is;
      boot = ap (λ (e : Deed). e.reply.boot) k.is;
      parts = touches osts (server_of osts past).tree (asked k.request (next_number (server_of osts past)));
      saw = ap (λ (e : Deed). e.reply.seen) k.is;
    }
makes osts past at t d (inr ok) =
    let k = ok.1 in
    record {
      serves = k.serves;
      room = k.numbers;
      number = ap (λ (e : Deed). e.reply.txn) k.is;
      boot = ap (λ (e : Deed). e.reply.boot) k.is;
      parts = object_touches k.request.op told.Done;
      saw = ap (λ (e : Deed). e.reply.seen) k.is;
    }
