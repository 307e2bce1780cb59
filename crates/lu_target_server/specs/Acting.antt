-- What a request at the metadata target is told: what its reply holds, from what service, store and locks say, and what they
-- hold then.
use Rattle.std.specs.Prelude.{◌≡◌, ℕ, List, []}
use Rattle.lu_base.specs.declared.ids.At.{At}
use Rattle.lu_base.specs.declared.ids.Txn.{Txn as TxnOf}
use Rattle.lu_base.specs.declared.locks.Lock.{Lock}
use Rattle.lu_msg.specs.declared.answers.Answer.{Answer}
use Rattle.lu_msg.specs.declared.messages.Reply.{Reply}
use Rattle.lu_msg.specs.declared.messages.Request.{Request}
use Rattle.lu_part.specs.declared.parts.Part.{Part}
use Rattle.lu_part.specs.declared.parts.Want.{Want}
use Rattle.lu_service.specs.Acts.{Acts}
use Rattle.lu_service.specs.Contents.{asked}
use Rattle.lu_spec_target.specs.Replies.{seen_in, none, reply_to}
use Rattle.lu_spec_target.specs.States.{Target}
use Rattle.lu_target_store.specs.Stores.{Serves}
use Rattle.lu_target_locks.specs.Admitted.{AreAdmitted}
use Rattle.lu_target_server.specs.Servers.{ServerState}
use Rattle.lu_target_server.specs.Answering.{Tells}

-- as an act, which may bring locks with it
pub record HasTold (acts : Acts) (at : At) (r : Request) (reply : Reply) (old mid : ServerState) : Type 0 where
  pub touched : List Part
  pub seen : List ℕ
  pub wants : List Want
  pub given : List Lock
  pub told : Answer
  pub touches : touched ≡ acts.touches old.contents (asked none r.who r.op)
  pub sees : (v : Target) → Serves old.store v → seen ≡ seen_in touched v.log
  pub grants : wants ≡ acts.grants old.contents (asked none r.who r.op)
  pub tells : told ≡ acts.answer old.contents (asked none r.who r.op)
  pub left : mid.contents ≡ acts.after old.contents (asked none r.who r.op)
  pub admitted : AreAdmitted r.who wants given old.locks mid.locks
  pub mid_is : mid ≡ record old { locks = mid.locks; contents = mid.contents }
  pub replies : (v : Target) → Tells mid v → reply ≡ reply_to v r none seen at given told

-- as the transaction of this number
pub record HasToldAs (acts : Acts) (at : At) (number : TxnOf) (r : Request) (reply : Reply) (old mid : ServerState) : Type 0 where
  pub touched : List Part
  pub seen : List ℕ
  pub told : Answer
  pub touches : touched ≡ acts.touches old.contents (asked number r.who r.op)
  pub sees : (v : Target) → Serves old.store v → seen ≡ seen_in touched v.log
  pub tells : told ≡ acts.answer old.contents (asked number r.who r.op)
  pub left : mid.contents ≡ acts.after old.contents (asked number r.who r.op)
  pub mid_is : mid ≡ record old { contents = mid.contents }
  pub replies : (v : Target) → Tells mid v → reply ≡ reply_to v r number seen at [] told
