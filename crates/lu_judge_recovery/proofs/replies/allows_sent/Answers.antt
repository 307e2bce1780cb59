use Rattle.std.proofs.Common.{refl}
use Rattle.std.proofs.lemmas.Result.{IfOk-weaker}
use Rattle.lu_judge_recovery.specs.Turns.{turn_at}
use Rattle.lu_judge_recovery.proofs.Deeds.{sent_other}
use Rattle.lu_judge_recovery.proofs.replies.allows_sent.Goals as goal

pub returns-in-Reply : goal.returns-in-Reply
returns-in-Reply c = record {
  decided = rw c.in-Reply.is (IfOk-weaker c.allows_reply.result _ _
      (λ holds decides past known made noted ordered follows. decides past known made ordered follows) c.allows_reply.ensures.decided);
}

pub returns-in-Grant : goal.returns-in-Grant
returns-in-Grant c = record {
  decided = rw c.in-Grant.is (IfOk-weaker c.allows_grant.result _ _
      (λ holds decides past known made noted ordered follows. decides past known noted) c.allows_grant.ensures.decided);
}

pub returns-in_default : goal.returns-in_default
returns-in_default c = record {
  decided = λ past known made noted ordered follows. (
    λ done. sent_other c.args.known.now.osts c.args.turn.target past (turn_at c.args.turn.stamp c.args.turn.target) c.args.message.now
        c.in_default.not-Reply c.in_default.not-Grant,
    λ law. refl,
  );
}
