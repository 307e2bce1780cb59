use Rattle.std.proofs.Common.{◌≡◌, ◌++◌, sym, ap, ◌∙◌}
use Rattle.std.specs.Prelude.{filter}
use Rattle.lu_spec_laws.specs.Words.Slots.{has_slot, first_lives}
use Rattle.lu_judge_recovery.specs.Clients.{count_of}
use Rattle.lu_judge_recovery.proofs.Slotted.{taken_over}
use Rattle.lu_judge_recovery.proofs.slots.add_first.Goals as goal

pub loop-next-preserved : goal.loop-next-preserved
loop-next-preserved c = λ past ledger windows.
    let p = has_slot c.args.target past in
    ap (λ n. c.add.new.lives ++ filter p (first_lives n)) c.previous-next.ensures
    ∙ taken_over p (record { client = c.in-Some.client; life = 1 }) c.loop-next.lives c.add.new.lives (first_lives c.in-Some.client) _
    (c.in_ok-add.ensures.added past ledger windows)
    (ap (λ o. c.loop-next.lives ++ filter p (first_lives (count_of o))) (sym c.in-Some.is) ∙ c.loop-next.invariant past ledger windows)
