-- One more is told, and in the end all are.
use Rattle.std.proofs.Common.{◌≡◌, List, sym, ap, subst, ◌∙◌}
use Rattle.lu_queue.specs.declared.locks.Grant.{Grant}
use Rattle.lu_target_refines.specs.Locks.{grants_told}
use Rattle.lu_target_server.specs.Answering.{TellsSizes}
use Rattle.lu_spec_entries.specs.Given.{giving}
use Rattle.lu_target_server.specs.Servers.{ServerState}
use Rattle.lu_target_server.proofs.GoingOn.{grants_more}
use Rattle.lu_target_server.proofs.Telling.{tells_more, tells_all}
use Rattle.lu_target_server.proofs.server.Server.tell_grants.Goals as goal

pub tell_grant-requires : goal.tell_grant-requires
tell_grant-requires g c = record { objects = ap (λ (it : ServerState). it.kind) c.loop-grant.invariant.same ∙ c.requires.objects }

pub loop-grant-preserved : goal.loop-grant-preserved
loop-grant-preserved g c = record {
  told = λ v tells.
      tells_more (grants_told c.args.resource v) (grants_more c.args.resource v) c.as_slice-grant-items.result.now c.loop-grant.grant-index
      _ c.loop-grant-test.true c.args.turn.now c.loop-grant.turn c.tell_grant.new.turn
      (c.loop-grant.invariant.told v tells)
      (c.in_ok-tell_grant.ensures.told v (subst (λ (it : ServerState). TellsSizes it v) (sym c.loop-grant.invariant.same) tells));
  same = c.in_ok-tell_grant.ensures.same ∙ c.loop-grant.invariant.same;
}

pub returns-clause-told : goal.returns-clause-told
returns-clause-told g c =
    λ v tells.
    tells_all (grants_told c.args.resource v) c.as_slice-grant-items.result.now c.loop-grant.grant-index c.loop-grant-test.false
    c.args.turn.now c.loop-grant.turn (c.loop-grant.invariant.told v tells)
    ∙ ap (λ (them : List Grant). giving c.args.turn.now (grants_told c.args.resource v them)) c.as_slice-grant-items.ensures.same
