-- Replays of requests, by number and then by life (Lustre Operations Manual, recovery: replay in the order of
-- transactions).
use Rattle.std.specs.Prelude.{List, [], ◌∷◌, Option, Some, None}
use Rattle.lu_base.specs.declared.ids.Txn.{Txn}
use Rattle.lu_base.specs.declared.ids.Who.{Who}
use Rattle.lu_replay.specs.declared.handed.Key.{Key}
use Rattle.lu_replay.specs.declared.replays.Replay.{Replay}
use Rattle.lu_replay.specs.declared.replays.ReplayBody.{ReplayBody}

abbrev pub key_of : Who → Replay → Key
key_of who replay = record { number = replay.number.0; who = who }

abbrev pub body_of : Replay → ReplayBody
body_of replay = record { xid = replay.xid; tag = replay.tag; seen = replay.seen; op = replay.op }

-- The replay of which this is the key and the body, with its life.
abbrev pub replay_of : Key × ReplayBody → Who × Replay
replay_of item =
    (item.0.who, record { number = record { 0 = item.0.number }; xid = item.1.xid; tag = item.1.tag; seen = item.1.seen; op = item.1.op })

-- Its life and number.
abbrev pub name_of : Key × ReplayBody → Who × Txn
name_of item = (item.0.who, record { 0 = item.0.number })
