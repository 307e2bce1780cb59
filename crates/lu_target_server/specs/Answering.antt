-- How a request is answered: in parts, since in the middle of a row no state is shown.
use Rattle.std.specs.Prelude.{◌≡◌, ◌<◌, ℕ, not, List, filter, IsSome}
use Rattle.lu_base.specs.declared.locks.Lock.{Lock}
use Rattle.lu_msg.specs.Limits.{tag_count}
use Rattle.lu_msg.specs.declared.messages.Reply.{Reply}
use Rattle.lu_msg.specs.declared.messages.Request.{Request}
use Rattle.lu_part.specs.declared.parts.Part.{Part}
use Rattle.lu_txn.specs.Slots.{slot_of}
use Rattle.lu_spec_entries.specs.Carried.{Deed}
use Rattle.lu_spec_entries.specs.Words.{Txn}
use Rattle.lu_spec_target.specs.Replies.{next_number}
use Rattle.lu_spec_target.specs.States.{Target, after}
use Rattle.lu_target_refines.specs.Contents.{ShowsObjects}
use Rattle.lu_target_store.specs.Stores.{StoreState, Serves, HasTaken, KeepsTaken, IsAnsweredBy}
use Rattle.lu_target_server.specs.Requests.{is_named}
use Rattle.lu_target_server.specs.Servers.{ServerState}

-- boot and store are that state's
pub record Tells (s : ServerState) (v : Target) : Type 0 where
  pub boot : v.boot ≡ s.boot
  pub store : Serves s.store v

-- and the objects are
pub record TellsSizes (s : ServerState) (v : Target) : Type 0 where
  pub tells : Tells s v
  pub objects : ShowsObjects s.contents v.contents

-- the requests but those that this reply answers
abbrev pub others : Reply → List Request → List Request
others reply requests = filter (λ r. not (is_named reply.who reply.xid r)) requests

-- A request was answered so without a transaction: nothing but store and requests has changed.
pub record IsAnswered (tag : ℕ) (reply : Reply) (old new : ServerState) : Type 0 where
  pub store : IsAnsweredBy tag reply old.store new.store
  pub takes : KeepsTaken old.store new.store
  pub requests : new.requests ≡ others reply old.requests
  pub same : new ≡ record old { store = new.store; requests = new.requests }

-- a transaction is the store's
abbrev pub IsAppendedTo : Deed → (old new : StoreState) → Type 0
IsAppendedTo d old new = (v : Target) → Serves old v → d.reply.txn ≡ next_number v → Serves new (after v (Txn d))

-- A request was answered so as a transaction.
pub record IsAppended (d : Deed) (old new : ServerState) : Type 0 where
  pub store : IsAppendedTo d old.store new.store
  pub takes : KeepsTaken old.store new.store
  pub requests : new.requests ≡ others d.reply old.requests
  pub same : new ≡ record old { store = new.store; requests = new.requests }

-- a request of it may be answered: its life has a slot, and it was taken
pub record MayAnswer (tag : ℕ) (reply : Reply) (s : ServerState) : Type 0 where
  pub slot : IsSome (slot_of reply.who s.store.journal.slots)
  pub taken : HasTaken reply.who tag s.store

-- the same of a request that waits
pub record MayRefuse (r : Request) (s : ServerState) : Type 0 where
  pub slot : IsSome (slot_of r.who s.store.journal.slots)
  pub taken : HasTaken r.who r.tag s.store
  pub tag : r.tag < tag_count
