-- As each of them says.
use Rattle.std.proofs.Common.{sym, subst}
use Rattle.lu_msg.specs.declared.messages.Message.{Message}
use Rattle.lu_spec_target.specs.Rows.{row_heeds}
use Rattle.lu_target.specs.Running.{KeepsIn}
use Rattle.lu_target.proofs.running.Running.heed.Goals as goal

pub returns-in-Replay-clause-batches : goal.returns-in-Replay-clause-batches
returns-in-Replay-clause-batches g c =
    subst (λ (m : Message). KeepsIn (λ v. row_heeds v c.args.turn.now.at m) c.args.self.now c.replay.new.self) (sym c.in-Replay.is)
    c.replay.ensures.batches

pub returns-in-Lock-clause-batches : goal.returns-in-Lock-clause-batches
returns-in-Lock-clause-batches g c =
    subst (λ (m : Message). KeepsIn (λ v. row_heeds v c.args.turn.now.at m) c.args.self.now c.bring.new.self) (sym c.in-Lock.is)
    c.bring.ensures.batches

pub returns-in-Word-clause-batches : goal.returns-in-Word-clause-batches
returns-in-Word-clause-batches g c =
    subst (λ (m : Message). KeepsIn (λ v. row_heeds v c.args.turn.now.at m) c.args.self.now c.word.new.self) (sym c.in-Word.is)
    c.word.ensures.batches

pub returns-in-Join-clause-batches : goal.returns-in-Join-clause-batches
returns-in-Join-clause-batches g c =
    subst (λ (m : Message). KeepsIn (λ v. row_heeds v c.args.turn.now.at m) c.args.self.now c.join.new.self) (sym c.in-Join.is)
    c.join.ensures.batches
