-- What is outstanding still is what the rows send again.
use Rattle.std.proofs.Common.{sym, ap, subst, ◌∙◌}
use Rattle.std.specs.Prelude.{filter_map}
use Rattle.lu_target_locks.specs.Reminding.{again_told, reminder_of}
use Rattle.lu_target_locks.specs.Servers.{ServerState, Shows}
use Rattle.lu_target_locks.proofs.Reminds.{again_are}
use Rattle.lu_target_locks.proofs.server.LockServer.again.Goals as goal

pub returns : goal.returns
returns c =
    let it = c.self.inside in
    let old : ServerState = record { space = it.space; asked = it.calls; boot = it.boot; count = it.count; ticks = it.ticks } in
    record {
      again = λ v w was s.
          again_are old c.args.before.now v w was (subst (λ (x : ServerState). Shows x w) (sym c.self.view_is) s)
          ∙ ap (again_told w) (sym (c.from.ensures ∙ c.in_ok-reminders.ensures.reminders
          ∙ ap (filter_map (reminder_of it.calls it.space)) c.as_slice.ensures.same));
    }
