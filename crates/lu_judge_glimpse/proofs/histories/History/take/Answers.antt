use Rattle.std.proofs.Common.{refl, subst}
use Rattle.std.specs.Prelude.{Option, Some, None, IfSome}
use Rattle.lu_spec_laws.specs.Words.Glimpses.{machine_cut}
use Rattle.lu_judge_glimpse.specs.declared.items.Item.{Item}
use Rattle.lu_judge_glimpse.specs.Items.{Keeps}
use Rattle.lu_judge_glimpse.proofs.Kept.{Makes, goes_on, kept_more, on_ok_three}
use Rattle.lu_judge_glimpse.proofs.histories.History.take.Goals as goal

pub returns-in-Some-clause-shows : goal.returns-in-Some-clause-shows
returns-in-Some-clause-shows c =
    on_ok_three c.add.result
    (λ items same machine. λ past ledger calls gone windows leaves shown.
    goes_on c.args.self.now c.add.new.self past c.args.line.now (Some c.in-Some.item) items
    (subst (λ (o : Option Item). Makes past c.args.line.now o) c.in-Some.is (c.item_at.ensures.acts past ledger calls))
    shown
    (kept_more c.args.self.now c.add.new.self c.in-Some.item shown.kept
    (subst (λ (o : Option Item). IfSome o Keeps) c.in-Some.is (c.item_at.ensures.kept c.requires.formed.0 c.requires.formed.1
    c.requires.formed.2 c.requires.formed.3)) items same)
    leaves same
    (machine past (machine_cut c.args.self.now.osts past) shown.kept.some_osts shown.kept.few_osts gone windows shown.machine))
    c.add.ensures.items c.add.ensures.osts c.add.ensures.machine

pub returns-in-None-clause-shows : goal.returns-in-None-clause-shows
returns-in-None-clause-shows c = λ past ledger calls gone windows leaves shown.
    goes_on c.args.self.now c.args.self.now past c.args.line.now None refl
    (subst (λ (o : Option Item). Makes past c.args.line.now o) c.in-None.is (c.item_at.ensures.acts past ledger calls))
    shown shown.kept leaves refl shown.machine
