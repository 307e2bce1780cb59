-- What words say where a message stands.
use Rattle.std.specs.Prelude.{ℕ}
use Rattle.lu_base.specs.declared.ids.Stamp.{Stamp}
use Rattle.lu_base.specs.declared.ids.Who.{Who}
use Rattle.lu_base.specs.declared.ids.Cookie.{Cookie}
use Rattle.lu_msg.specs.declared.messages.Message.{Message}
use Rattle.lu_msg.specs.declared.messages.Message.TheVariants as message
use Rattle.lu_scene.specs.Fields.{number_of}
use Rattle.lu_judge_reader.specs.declared.names.MessageName.{MessageName}
use Rattle.lu_judge_reader.specs.declared.names.MessageName.TheVariants as messages
use Rattle.lu_judge_reader.specs.Names.{message_name_of}
use Rattle.lu_judge_reader.specs.Reading.{◌>>=◌, Reader, give, one}
use Rattle.lu_judge_reader.specs.Values.{small_of, pair_of, who_of, at_of, tagged_of, size_of, extent_of}
use Rattle.lu_judge_reader.specs.Lists.{seen_of, locks_of}
use Rattle.lu_judge_reader.specs.Parts.{op_reader, answer_reader, terms}

-- a life, a boot and a lock
abbrev pub of_lock : (Who → ℕ → Cookie → Message) → Reader Message
of_lock message = one who_of >>= λ who. one (small_of 32) >>= λ boot. one pair_of >>=
    λ cookie. give (message who boot (record { 0 = cookie }))

abbrev pub request : Reader Message
request =
    one who_of >>= λ who. one (small_of 32) >>= λ boot. one tagged_of >>= λ tagged. op_reader >>= λ op.
    give (message.Request (record { who = who; boot = boot; xid = tagged.0; tag = tagged.1; op = op }))

abbrev pub replay : Reader Message
replay =
    one who_of >>= λ who. one (small_of 32) >>= λ boot. one pair_of >>= λ txn. one tagged_of >>= λ tagged. one seen_of >>=
    λ seen. op_reader >>= λ op.
    give (message.Replay (record {
      who = who;
      boot = boot;
      txn = record { 0 = txn };
      xid = tagged.0;
      tag = tagged.1;
      seen = seen;
      op =
          op;
    }))

abbrev pub lock : Reader Message
lock =
    one who_of >>= λ who. one (small_of 32) >>= λ boot. one pair_of >>= λ cookie. terms >>= λ on.
    give (message.Lock (record { who = who; boot = boot; cookie = record { 0 = cookie }; resource = on.0; mode = on.1; policy = on.2 }))

abbrev pub word : Reader Message
word =
    one who_of >>= λ who. one (small_of 32) >>= λ boot. one (small_of 32) >>= λ replays. one (small_of 32) >>= λ locks. one seen_of >>=
    λ seen.
    give (message.Word who boot replays locks seen)

-- its text doesn't have the stamp
abbrev pub size : Stamp → Reader Message
size stamp =
    one who_of >>= λ who. one (small_of 32) >>= λ boot. one pair_of >>= λ cookie. one who_of >>= λ for_who. one number_of >>=
    λ xid. one size_of >>= λ size.
    give (message.Size (record {
      who = who;
      boot = boot;
      cookie = record { 0 = cookie };
      for_who = for_who;
      xid = record { 0 = xid };
      size =
          size;
      stamp = stamp;
    }))

-- a reply up to the turn that it names, and from there on
abbrev pub reply : Reader Message
reply =
    one who_of >>= λ who. one (small_of 32) >>= λ boot. one number_of >>= λ xid. one pair_of >>= λ txn. one pair_of >>= λ committed.
    one seen_of >>= λ seen. one at_of >>= λ at. one (locks_of who) >>= λ locks. answer_reader >>= λ answer.
    give (message.Reply (record {
      who = who;
      boot = boot;
      xid = record { 0 = xid };
      txn = record { 0 = txn };
      committed =
          record { 0 = committed };
      seen = seen;
      at = at;
      locks = locks;
      answer = answer;
    }))

abbrev pub grant : Reader Message
grant =
    one who_of >>= λ who. one (small_of 32) >>= λ boot. one pair_of >>= λ cookie. one extent_of >>= λ extent. one number_of >>= λ size.
    one pair_of >>= λ committed. one seen_of >>= λ seen.
    give (message.Grant (record {
      who = who;
      boot = boot;
      cookie = record { 0 = cookie };
      extent = extent;
      size = size;
      committed =
          record { 0 = committed };
      seen = seen;
    }))

abbrev pub ask : Reader Message
ask =
    one who_of >>= λ who. one (small_of 32) >>= λ boot. one pair_of >>= λ cookie. one who_of >>= λ for_who. one number_of >>= λ xid.
    give (message.Ask who boot (record { 0 = cookie }) for_who (record { 0 = xid }))

abbrev pub message_rest : Stamp → MessageName → Reader Message
message_rest stamp messages.Request = request
message_rest stamp messages.Cancel = of_lock message.Cancel
message_rest stamp messages.Where = of_lock message.Where
message_rest stamp messages.Replay = replay
message_rest stamp messages.Lock = lock
message_rest stamp messages.Word = word
message_rest stamp messages.Join = one who_of >>= λ who. one (small_of 32) >>= λ boot. give (message.Join who boot)
message_rest stamp messages.Size = size stamp
message_rest stamp messages.Up = one (small_of 32) >>= λ boot. give (message.Up boot)
message_rest stamp messages.Reply = reply
message_rest stamp messages.Grant = grant
message_rest stamp messages.Block = of_lock message.Block
message_rest stamp messages.Ask = ask
message_rest stamp messages.Ready =
    one who_of >>= λ who. one (small_of 32) >>= λ boot. one pair_of >>=
    λ committed. give (message.Ready who boot (record { 0 = committed }))
message_rest stamp messages.Evicted = one who_of >>= λ who. one (small_of 32) >>= λ boot. give (message.Evicted who boot)

-- a message that is sent in the turn of this stamp
unfoldable pub message_reader : Stamp → Reader Message
message_reader stamp = one message_name_of >>= message_rest stamp
