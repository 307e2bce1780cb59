use Rattle.std.proofs.Common.{sym, ◌∙◌}
use Rattle.lu_judge_silent.proofs.Begins.{repeats}
use Rattle.lu_judge_silent.proofs.silent.Silent.may_begin.Goals as goal

pub returns-else-not-is_repeat : goal.returns-else-not-is_repeat
returns-else-not-is_repeat c = λ past shown order.
    repeats past c.args.at c.args.later.now c.args.at.node c.in-Client.client c.args.slot c.args.call.now c.is_told_silently.result
    c.in-Client.is
    (sym (c.is_repeat.ensures past shown) ∙ c.if-not-is_repeat.false) c.is_told_silently.ensures order
