use Rattle.std.proofs.Common.{◌≡◌, ◌∷◌, sym, ◌∙◌}
use Rattle.lu_spec_laws.specs.Words.Boots.{is_recovering}
use Rattle.lu_spec_laws.specs.Words.Handed.{is_back}
use Rattle.lu_judge_recovery.proofs.Deeds.{not_again, comes_now}
use Rattle.lu_judge_recovery.proofs.returns.comes_back.Goals as goal

pub returns-then-is_back : goal.returns-then-is_back
returns-then-is_back c = λ past ledger windows.
    not_again (is_recovering c.args.target past) (is_back c.args.target (c.args.line.now ∷ past) c.args.who)
    (is_back c.args.target past c.args.who)
    (sym (c.is_back.ensures.back past ledger windows) ∙ c.if-is_back.true)

pub returns : goal.returns
returns c = λ past ledger windows.
    comes_now (is_recovering c.args.target past) (is_back c.args.target (c.args.line.now ∷ past) c.args.who)
    (is_back c.args.target past c.args.who) c.is_back_after.result
    (sym (c.is_recovering.ensures.recovering past windows) ∙ c.if-not-is_recovering.false)
    (sym (c.is_back.ensures.back past ledger windows) ∙ c.if-is_back.false)
    (c.is_back_after.ensures.back past ledger windows)
