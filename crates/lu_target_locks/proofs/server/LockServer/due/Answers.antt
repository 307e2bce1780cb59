-- The lives of the due locks are those that the rows condemn.
use Rattle.std.proofs.Common.{[], sym, ap, subst, ◌∙◌}
use Rattle.std.specs.List.{fold}
use Rattle.lu_target_locks.specs.Reminding.{with_holder_of}
use Rattle.lu_target_locks.specs.Servers.{ServerState, Shows}
use Rattle.lu_target_locks.proofs.Reminds.{holders_condemned}
use Rattle.lu_target_locks.proofs.server.LockServer.due.Goals as goal

pub returns : goal.returns
returns c =
    let it = c.self.inside in
    let old : ServerState = record { space = it.space; asked = it.calls; boot = it.boot; count = it.count; ticks = it.ticks } in
    record {
      due = λ v s expire.
          holders_condemned old c.args.age c.in_ok-cookies.cookies c.in_ok-lives.lives v
          (subst (λ (x : ServerState). Shows x v) (sym c.self.view_is) s) expire c.in_ok-cookies.ensures.due
          (c.in_ok-lives.ensures.holders ∙ ap (fold (with_holder_of it.space) []) c.as_slice.ensures.same);
    }
