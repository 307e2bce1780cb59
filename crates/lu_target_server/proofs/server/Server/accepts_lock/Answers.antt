-- Each test is one of what is asked.
use Rattle.std.proofs.Common.{◌≡◌, ◌≤◌, true, sym, ap, subst, ◌∙◌}
use Rattle.lu_lock.specs.Overlap.{IsOrdered}
use Rattle.lu_service.specs.declared.services.Kind.{Kind}
use Rattle.lu_spec_target.specs.Lives.{is_life}
use Rattle.lu_spec_target.specs.Phase.{first_of}
use Rattle.lu_target_server.specs.Recovering.{IsLockOf}
use Rattle.lu_target_server.specs.Servers.{ServerState}
use Rattle.lu_target_server.proofs.Accepted.{served_of, may_bring, fails, unserved, not_both}
use Rattle.lu_target_server.proofs.server.Server.accepts_lock.Goals as goal
use Rattle.lu_target_server.proofs.server.Server.accepts_lock.Goals.{then-not-serves-via-then-not-serves}
use Rattle.lu_target_server.proofs.server.Server.accepts_lock.Goals.{then-not-serves-via-else-not-serves+then-not-is_earlier}
use Rattle.lu_target_server.proofs.server.Server.accepts_lock.Goals.{then-accepts_lock, else-accepts_lock}

pub returns-then-not-serves : goal.returns-then-not-serves
returns-then-not-serves g c =
    let s = c.args.self.now in
    let l = c.args.lock.now in
    let served = served_of s c.args.recovery.now l.ask.who c.serves.result c.requires.awaits c.serves.ensures.gathers in
    record {
      may = (
        λ t. absurd (cc),
        λ may.
            elim c.then-not-serves.branch [
              | then-not-serves-via-then-not-serves w ↦ unserved _ _ served w.if-not-serves.true may.is.life
              | then-not-serves-via-else-not-serves+then-not-is_earlier w
                  ↦ fails _ _ w.if-not-is_earlier.true w.is_earlier.ensures.earlier may.is.earlier
            ],
      );
    }

pub returns-then-is_ordered : goal.returns-then-is_ordered
returns-then-is_ordered g c =
    let s = c.args.self.now in
    let x = c.args.recovery.now in
    let l = c.args.lock.now in
    let served = served_of s x l.ask.who c.serves.result c.requires.awaits c.serves.ensures.gathers in
    let kind : g.S.Service.kind ≡ s.kind = ap (λ (it : ServerState). it.kind) c.self.view_is in
    let of_kind : c.accepts_lock.result ≡ true = elim c.if-accepts_lock.branch
    [ then-accepts_lock w ↦ w.if-accepts_lock.true | else-accepts_lock w ↦ sym w.value-is ∙ c.if-is_ordered.true ] in
    let ordered : IsOrdered l.ask.policy =
    elim c.if-accepts_lock.branch [
      | then-accepts_lock w ↦ w.is_ordered.ensures.test.0 (sym w.value-is ∙ c.if-is_ordered.true)
      | else-accepts_lock w ↦ not_both _ of_kind w.if-accepts_lock.false
    ] in
    let sort : IsLockOf s.kind l = subst (λ (k : Kind). IsLockOf k l) kind (c.accepts_lock.ensures.accepts.0 of_kind) in
    let life : is_life l.ask.who x.window.lives ≡ true = sym served ∙ c.if-not-serves.false in
    let earlier : l.cookie.0 ≤ first_of s.boot = c.is_earlier.ensures.earlier.0 c.if-not-is_earlier.false in
    record { may = may_bring c.is_only_lock.result l s x.window life earlier ordered sort c.is_only_lock.ensures.only }
