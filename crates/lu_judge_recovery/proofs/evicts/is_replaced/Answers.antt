use Rattle.std.proofs.Common.{◌≡◌, sym, ap, ◌∙◌, subst}
use Rattle.std.specs.List.{list_any}
use Rattle.lu_spec_laws.specs.Words.Sends.{Sending, taken}
use Rattle.lu_spec_laws.specs.Laws.Messages.{Follows}
use Rattle.lu_spec_laws.specs.Laws.Recovery.{joins_after}
use Rattle.lu_judge_pass.specs.Tables.{sending_of}
use Rattle.lu_judge_recovery.proofs.Searches.{any_read}
use Rattle.lu_judge_recovery.proofs.evicts.is_replaced.Goals as goal

pub returns : goal.returns
returns c = record {
  replaced = λ past ledger ordered follows.
      c.has_newer.ensures
      ∙ sym (any_read (λ (s : Sending). joins_after c.args.who s.message) sending_of c.taken.result.now)
      ∙ ap (list_any (λ (s : Sending). joins_after c.args.who s.message))
      (c.taken.ensures.taken past ledger.present ordered (subst (λ a. Follows past a) (sym c.at-here.ensures) follows)
      ∙ ap (taken past) c.at-here.ensures);
}
