-- One more is told, and in the end all are.
use Rattle.std.proofs.Common.{◌≡◌, List, sym, ap, subst, ◌∙◌}
use Rattle.lu_target_locks.specs.declared.departing.QueueStep.{QueueStep}
use Rattle.lu_target_locks.specs.Departing.{steps_told}
use Rattle.lu_target_server.specs.Answering.{TellsSizes}
use Rattle.lu_spec_entries.specs.Given.{giving}
use Rattle.lu_target_server.specs.Servers.{ServerState}
use Rattle.lu_target_server.proofs.GoingOn.{steps_more}
use Rattle.lu_target_server.proofs.Telling.{tells_more, tells_all}
use Rattle.lu_target_server.proofs.server.Server.tell_steps.Goals as goal

pub tell_step-requires : goal.tell_step-requires
tell_step-requires g c = record { objects = ap (λ (it : ServerState). it.kind) c.loop-step.invariant.same ∙ c.requires.objects }

pub loop-step-preserved : goal.loop-step-preserved
loop-step-preserved g c = record {
  told = λ v tells.
      tells_more (steps_told v) (steps_more v) c.as_slice-step-items.result.now c.loop-step.step-index _ c.loop-step-test.true
      c.args.turn.now c.loop-step.turn c.tell_step.new.turn
      (c.loop-step.invariant.told v tells)
      (c.in_ok-tell_step.ensures.told v (subst (λ (it : ServerState). TellsSizes it v) (sym c.loop-step.invariant.same) tells));
  same = c.in_ok-tell_step.ensures.same ∙ c.loop-step.invariant.same;
}

pub returns-clause-told : goal.returns-clause-told
returns-clause-told g c =
    λ v tells.
    tells_all (steps_told v) c.as_slice-step-items.result.now c.loop-step.step-index c.loop-step-test.false c.args.turn.now c.loop-step.turn
    (c.loop-step.invariant.told v tells)
    ∙ ap (λ (them : List QueueStep). giving c.args.turn.now (steps_told v them)) c.as_slice-step-items.ensures.same
