-- The last reply among the messages so far.
use Rattle.std.proofs.Common.{◌≡◌, take, map}
use Rattle.std.specs.Prelude.{reverse}
use Rattle.std.specs.Option.{option_map}
use Rattle.lu_spec_laws.specs.Words.Sends.{first_fit, as_reply}
use Rattle.lu_judge_pass.specs.Tables.{sending_of}
use Rattle.lu_judge_history.proofs.carried.reply_in.Given as goal

abbrev pub invariant-loop-sending : goal.invariant-loop-sending
invariant-loop-sending l =
    option_map (λ r. r.now) l.found ≡ first_fit (λ s. as_reply l.target.0 l.who l.xid.0 s.from s.message)
    (reverse (map sending_of (take l.sending-index l.taken)))
