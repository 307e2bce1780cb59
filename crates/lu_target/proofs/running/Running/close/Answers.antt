-- What the server keeps of a close is the row's.
use Rattle.std.proofs.Common.{sym, subst, ◌∙◌}
use Rattle.lu_spec_target.specs.Rows.{row_closes}
use Rattle.lu_target.specs.Running.{RunningState, KeepsIn}
use Rattle.lu_target.proofs.Keeping.{close_keeps}
use Rattle.lu_target.proofs.running.Running.close.Goals as goal

pub returns-in-Some-clause-batches : goal.returns-in-Some-clause-batches
returns-in-Some-clause-batches g c =
    let t : RunningState = record { server = c.self.inside.server; window = c.self.inside.recovery } in
    subst (λ (s : RunningState). KeepsIn (λ v. row_closes v c.args.turn.now.at) s
    (record { server = c.close.new.self; window = c.take.new.self })) c.self.view_is
    (close_keeps c.args.turn.now.at t.server t.window c.in-Some.recovery c.close.new.self c.take.new.self
    (sym c.take.ensures.value ∙ c.in-Some.is) c.close.ensures.batches)
