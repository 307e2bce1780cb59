-- What lu_window keeps, as its contracts see it.
use Rattle.std.specs.Prelude.{ℕ}
use Rattle.lu_base.specs.declared.ids.Who.{Who}
use Rattle.lu_base.specs.declared.locks.Lock.{Lock}
use Rattle.lu_replay.specs.declared.handed.Key.{Key}
use Rattle.lu_replay.specs.declared.replays.Replay.{Replay}
use Rattle.lu_replay.specs.declared.replays.ReplayBody.{ReplayBody}
use Rattle.lu_spec_entries.specs.Carried.{Said, Gone}
use Rattle.lu_spec_target.specs.Windows.{Replayed}
use Rattle.lu_window.specs.declared.brought.LockBody.{LockBody}
use Rattle.lu_window.specs.declared.outcomes.Eviction.{Eviction}
use Rattle.lu_window.specs.declared.outcomes.KeptReplay.{KeptReplay}
use Rattle.lu_window.specs.declared.words.Word.{Word}

-- A replay of this life.
abbrev pub replayed : Who → Replay → Replayed
replayed who r = record { who = who; number = r.number.0; xid = r.xid.0; tag = r.tag; seen = r.seen; op = r.op }

abbrev pub kept_replay : KeptReplay → Replayed
kept_replay kept = replayed kept.who kept.replay

abbrev pub replayed_of : Key × ReplayBody → Replayed
replayed_of item =
    record { who = item.0.who; number = item.0.number; xid = item.1.xid.0; tag = item.1.tag; seen = item.1.seen; op = item.1.op }

abbrev pub lock_of : Key × LockBody → Lock
lock_of item =
    record {
      cookie = record { 0 = item.0.number };
      resource = item.1.resource;
      ask = record { who = item.0.who; mode = item.1.mode; policy = item.1.policy };
    }

-- The word of this life.
abbrev pub said : Who → Word → Said
said who word = record { who = who; replays = word.replays; locks = word.locks; seen = word.seen }

abbrev pub said_of : Who × Word → Said
said_of entry = said entry.0 entry.1

-- A client and the life of it that wishes to join.
abbrev pub wish : ℕ × ℕ → Who
wish entry = record { client = entry.0; life = entry.1 }

abbrev pub gone : Eviction → Gone
gone eviction = record { who = eviction.who; cause = eviction.cause }
