use Rattle.std.proofs.Common.{◌≡◌, ◌<◌, ◌∷◌, List, [], length, take, arith, ap, sym, subst, ◌∙◌}
use Rattle.std.proofs.lemmas.List.{take_more}
use Rattle.lu_spec_machine.specs.Machine.{Machine, start}
use Rattle.lu_spec_laws.specs.Words.Lives.{is_gone}
use Rattle.lu_spec_laws.specs.Words.Lost.{is_lost}
use Rattle.lu_spec_laws.specs.Words.Histories.{after_item}
use Rattle.lu_judge_glimpse.specs.declared.items.Item.{Item}
use Rattle.lu_judge_glimpse.specs.Items.{act_if, after_items}
use Rattle.lu_judge_glimpse.specs.Histories.{ShowsPlain}
use Rattle.lu_judge_glimpse.proofs.Standing.{one_more}
use Rattle.lu_judge_glimpse.proofs.histories.History.built.Goals as goal

pub loop-item-preserved : goal.loop-item-preserved
loop-item-preserved c = λ past gone windows.
    let items = c.deref-item-items.result.now in
    let i = c.loop-item.item-index in
    let osts = c.args.self.now.osts in
    let below : c.loop-item.item-index < length c.deref-item-items.result.now = omega arith in
    let so_far = after_items (is_gone past) (is_lost past) c.args.self.now.osts start
    (take c.loop-item.item-index c.deref-item-items.result.now) in
    subst (λ (x : Machine). ShowsPlain c.args.self.now.osts c.perform.new.machine x)
    (sym (ap (after_items (is_gone past) (is_lost past) c.args.self.now.osts start) (take_more items i c.item-item.result below)
    ∙ one_more (is_gone past) (is_lost past) c.args.self.now.osts start (take i items) _
    ∙ ap (λ (x : Item). after_item c.args.self.now.osts so_far (act_if (is_gone past) (is_lost past) x)) (sym c.item-item.is)))
    (c.in_ok-perform.ensures.next past c.args.self.now.osts so_far c.requires.kept.some_osts c.requires.kept.few_osts gone windows
    (c.loop-item.invariant past gone windows))
