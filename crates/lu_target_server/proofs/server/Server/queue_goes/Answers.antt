-- The queue of one resource goes on.
use Rattle.std.proofs.Common.{◌≡◌, sym, ap, subst, ◌∙◌}
use Rattle.lu_target_refines.specs.Locks.{grants_told}
use Rattle.lu_spec_target.specs.States.{Target, turn}
use Rattle.lu_target_locks.specs.Servers.{AreCalledBack}
use Rattle.lu_target_server.specs.Servers.{ServerState}
use Rattle.lu_target_server.proofs.GoingOn.{grants_boot, queue_went}
use Rattle.lu_target_server.proofs.Middles.{sizes_rest}
use Rattle.lu_target_server.proofs.server.Server.queue_goes.Goals as goal

pub returns-clause-went : goal.returns-clause-went
returns-clause-went g c =
    let s = c.args.self.now in
    let now = c.call_back.new.self in
    let was : c.tell_grants.new.self ≡ s = c.in_ok-tell_grants.ensures.same in
    let same : now ≡ record s { locks = now.locks } = c.call_back.ensures.same
    ∙ ap (λ (it : ServerState). record it { locks = now.locks }) was in
    let called : AreCalledBack c.args.resource c.in_ok-called.called s.locks now.locks =
    subst (λ (it : ServerState). AreCalledBack c.args.resource c.in_ok-called.called it.locks now.locks) was c.in_ok-called.ensures.called
    in
    λ w goes.
    queue_went s now w c.args.resource c.args.granted.now c.in_ok-called.called c.args.turn.now c.tell_grants.new.turn c.say_blocks.new.turn
    c.requires.objects goes same called
    (c.in_ok-tell_grants.ensures.told w (sizes_rest s w c.requires.objects goes.rest))
    (c.in_ok-say_blocks.ensures.told (turn w (grants_told c.args.resource w c.args.granted.now))
    (grants_boot c.args.resource w c.args.granted.now ∙ goes.rest.boot ∙ sym (ap (λ (it : ServerState). it.boot) same)))
