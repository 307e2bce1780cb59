-- It came up over the disk that was taken out of its seat.
use Rattle.std.proofs.Common.{refl, sym, subst, ◌∙◌}
use Rattle.lu_run_nodes.specs.declared.faults.TurnFault.TheVariants as fault
use Rattle.lu_run_nodes.specs.Shown.{IsUnstarted}
use Rattle.lu_run_nodes.specs.States.{TargetSeat}
use Rattle.lu_run_nodes.specs.Turns.{StartFails}
use Rattle.lu_run_nodes.proofs.TargetsComing.{no_boot_spent, none_stored, passed_on, put_back}
use Rattle.lu_run_nodes.proofs.targets.TargetSeat.start.Goals as goal

pub returns-in_err-come_up-clause-failed : goal.returns-in_err-come_up-clause-failed
returns-in_err-come_up-clause-failed g c = λ step failed head t unstarted.
    let back =
    put_back c.in-Some.disk (λ d. record { batches = g.D.Disk.batches d; faults = g.D.Disk.faults d }) _ _ _ c.self.view_is refl
    (sym c.take.ensures.value ∙ c.in-Some.is) in
    let told = passed_on c.from_residual.result c.in_err-come_up.field-0.0 (fault.Disk step) c.from_residual.ensures.1 failed in
    subst (λ (seat : TargetSeat). StartFails t c.args.stamp seat c.come_up.new.self step) back
    (c.in_err-come_up.ensures.start_failed step told head t (subst (IsUnstarted head t) (sym back) unstarted))

pub returns-clause-started : goal.returns-clause-started
returns-clause-started g c = λ head t unstarted are.
    let back =
    put_back c.in-Some.disk (λ d. record { batches = g.D.Disk.batches d; faults = g.D.Disk.faults d }) _ _ _ c.self.view_is refl
    (sym c.take.ensures.value ∙ c.in-Some.is) in
    c.in_ok-come_up.ensures.started head t (subst (IsUnstarted head t) (sym back) unstarted) are

pub returns-in_err-come_up-clause-foreseen : goal.returns-in_err-come_up-clause-foreseen
returns-in_err-come_up-clause-foreseen g c = λ failed.
    let told = passed_on c.from_residual.result c.in_err-come_up.field-0.0 fault.Unforeseen c.from_residual.ensures.1 failed in
    let none =
    none_stored c.in-Some.disk (λ d. record { batches = g.D.Disk.batches d; faults = g.D.Disk.faults d }) _ _ _ c.self.view_is refl
    (sym c.take.ensures.value ∙ c.in-Some.is) c.requires.unstarted in
    no_boot_spent (g.D.Disk.batches c.in-Some.disk) none (c.in_err-come_up.ensures.spent told)
