-- What a life tells a target that is up again (Lustre Operations Manual, recovery: replay of requests and locks, and a
-- new life that connects).
use Rattle.std.specs.Prelude.{ℕ, List, [], ◌∷◌, ◌++◌, length, map}
use Rattle.lu_base.specs.declared.ids.Node.TheVariants.{Target}
use Rattle.lu_base.specs.declared.ids.TargetId.{TargetId}
use Rattle.lu_base.specs.declared.ids.Who.{Who}
use Rattle.lu_base.specs.declared.locks.Lock.{Lock}
use Rattle.lu_msg.specs.declared.messages.LockReplay.{LockReplay}
use Rattle.lu_msg.specs.declared.messages.Message.{Message}
use Rattle.lu_msg.specs.declared.messages.Message.TheVariants as message
use Rattle.lu_msg.specs.declared.messages.Post.{Post}
use Rattle.lu_msg.specs.declared.messages.RequestReplay.{RequestReplay}
use Rattle.lu_import.specs.declared.recovery.Standing.{Standing}
use Rattle.lu_import.specs.declared.recovery.Standing.TheVariants.{Joining, Recovering, Serving}
use Rattle.lu_import.specs.Kept.{Replay, KeptState}

-- A life, the target to which it tells something, and the target's boot.
pub record TellerState : Type 0 where
  pub target : TargetId
  pub who : Who
  pub boot : ℕ

-- a message to the target
abbrev pub tells : TellerState → Message → Post
tells teller m = record { to = Target teller.target.0; message = m }

-- A replay has the numbers that its reply saw.
abbrev pub replayed : TellerState → Replay → RequestReplay
replayed teller r =
    record {
      who = teller.who;
      boot = teller.boot;
      txn = r.txn;
      xid = r.xid;
      tag = r.tag;
      seen = r.seen;
      op = r.op;
    }

abbrev pub replay_told : TellerState → Replay → Post
replay_told teller r = tells teller (message.Replay (replayed teller r))

abbrev pub replays : TellerState → List Replay → List Post
replays teller rs = map (replay_told teller) rs

abbrev pub lock_replayed : TellerState → Lock → LockReplay
lock_replayed teller lock =
    record {
      who = teller.who;
      boot = teller.boot;
      cookie = lock.cookie;
      resource = lock.resource;
      mode = lock.ask.mode;
      policy = lock.ask.policy;
    }

abbrev pub lock_told : TellerState → Lock → Post
lock_told teller lock = tells teller (message.Lock (lock_replayed teller lock))

abbrev pub lock_replays : TellerState → List Lock → List Post
lock_replays teller locks = map (lock_told teller) locks

-- How many these are, and the numbers that the life has seen.
abbrev pub word : TellerState → ℕ → ℕ → List ℕ → Post
word teller count locks seen = tells teller (message.Word teller.who teller.boot count locks seen)

-- Each transaction that isn't committed in rising number, each lock as given, and the word.
abbrev pub tells_all : TellerState → KeptState → List Lock → List Post
tells_all teller kept locks =
    replays teller kept.replays
    ++ lock_replays teller locks
    ++ word teller (length kept.replays) (length locks) kept.seen ∷ []

-- A new life asks to be served.
abbrev pub joins : TellerState → Post
joins teller = tells teller (message.Join teller.who teller.boot)

-- By how it stands: what a life tells that the target doesn't serve.
abbrev pub told_as : Standing → TellerState → KeptState → List Lock → List Post
told_as Joining teller kept locks = joins teller ∷ []
told_as Recovering teller kept locks = tells_all teller kept locks
told_as Serving teller kept locks = []

-- A new boot is heard of.
abbrev pub interrupted : Standing → Standing
interrupted Joining = Joining
interrupted _ = Recovering
