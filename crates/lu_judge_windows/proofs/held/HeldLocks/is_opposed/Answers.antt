-- Of the locks on the resource those count that stand against the ask.
use Rattle.std.proofs.Common.{◌∙◌, sym, ap, [], ◌≡◌}
use Rattle.std.specs.Prelude.{map, unwrap_or}
use Rattle.std.specs.Option.{option_map}
use Rattle.lu_judge_windows.specs.Lists.{held_of}
use Rattle.lu_judge_windows.proofs.Opposed.{opposed, unopposed}
use Rattle.lu_judge_windows.proofs.held.HeldLocks.is_opposed.Goals as goal

pub returns-in-Some : goal.returns-in-Some
returns-in-Some c = record {
  opposed = λ past ledger shown.
      opposed c.args.ledger.now c.args.self.now past c.args.target c.args.resource c.args.ask.now ledger shown c.deref.result.now
      (ap (map held_of) c.deref.ensures.value ∙ sym (ap (λ o. unwrap_or (option_map (λ list. map held_of list.now.items) o) [])
      c.in-Some.is) ∙ c.on.ensures) c.is_opposed_by.result c.is_opposed_by.ensures;
}

pub returns-in-None : goal.returns-in-None
returns-in-None c = record {
  opposed = λ past ledger shown.
      unopposed c.args.ledger.now c.args.self.now past c.args.target c.args.resource c.args.ask.now ledger shown
      (sym (ap (λ o. unwrap_or (option_map (λ list. map held_of list.now.items) o) []) c.in-None.is) ∙ c.on.ensures);
}
