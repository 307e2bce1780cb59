-- One more is sent, and in the end all are.
use Rattle.std.proofs.Common.{◌≡◌, List, ap, ◌∙◌}
use Rattle.lu_target_locks.specs.declared.reminding.Reminder.{Reminder}
use Rattle.lu_target_locks.specs.Reminding.{again_told}
use Rattle.lu_spec_entries.specs.Given.{giving}
use Rattle.lu_target_server.proofs.Expiring.{again_more}
use Rattle.lu_target_server.proofs.Telling.{tells_more, tells_all}
use Rattle.lu_target_server.proofs.server.Server.remind_all.Goals as goal

pub loop-reminder-preserved : goal.loop-reminder-preserved
loop-reminder-preserved g c =
    λ v boot.
    tells_more (again_told v) (again_more v) c.as_slice-reminder-items.result.now c.loop-reminder.reminder-index _ c.loop-reminder-test.true
    c.args.turn.now c.loop-reminder.turn c.remind.new.turn
    (c.loop-reminder.invariant v boot) (c.in_ok-remind.ensures.told v boot)

pub returns : goal.returns
returns g c = record {
  told = λ v boot.
      tells_all (again_told v) c.as_slice-reminder-items.result.now c.loop-reminder.reminder-index c.loop-reminder-test.false
      c.args.turn.now c.loop-reminder.turn (c.loop-reminder.invariant v boot)
      ∙ ap (λ (them : List Reminder). giving c.args.turn.now (again_told v them)) c.as_slice-reminder-items.ensures.same;
}
