-- It isn't outstanding any more.
use Rattle.std.proofs.Common.{◌≡◌, List, refl, sym, ap, subst, ◌∙◌}
use Rattle.lu_callback.specs.declared.callbacks.Asked.{Asked}
use Rattle.lu_spec_target.specs.States.{after}
use Rattle.lu_target_refines.proofs.Answered.{reports, reports_was}
use Rattle.lu_target_refines.proofs.Locks.{locks_same}
use Rattle.lu_spec_entries.specs.Words.{Ends}
use Rattle.lu_target_locks.specs.Servers.{ServerState, Shows}
use Rattle.lu_target_locks.proofs.Ways.{none_glimpsed}
use Rattle.lu_target_locks.proofs.server.LockServer.report.Goals as goal

pub returns-clause-was : goal.returns-clause-was
returns-clause-was c =
    λ v s. reports_was v c.self.inside.calls c.args.report.now c.glimpsed.result
    (subst (λ (it : ServerState). Shows it v) (sym c.self.view_is) s).calls c.glimpsed.ensures.was

pub returns-clause-shows : goal.returns-clause-shows
returns-clause-shows c =
    λ v g s is. let own = subst (λ (it : ServerState). Shows it v) (sym c.self.view_is) s in record {
      locks = locks_same c.self.inside.space v (after v (Ends g)) refl refl refl own.locks;
      calls = reports v c.self.inside.calls c.glimpsed.new.self c.args.report.now g own.calls is c.glimpsed.ensures.without
          c.glimpsed.ensures.sound;
      cookie = own.cookie;
      ticks = own.ticks;
      boot = own.boot;
      counted = own.counted;
    }

pub returns-clause-kept : goal.returns-clause-kept
returns-clause-kept c =
    λ none. let it = c.self.inside in
    let same : c.glimpsed.new.self ≡ it.calls = c.glimpsed.ensures.without
    ∙ none_glimpsed c.args.report.now.cookie c.args.report.now.for_who c.args.report.now.xid it.calls
    (sym c.glimpsed.ensures.was ∙ none) in
    ap (λ (asked : List Asked). record { space = it.space; asked = asked; boot = it.boot; count = it.count; ticks = it.ticks }) same
    ∙ c.self.view_is
