use Rattle.std.proofs.Common.{List, [], ◌∷◌, ap, sym, ◌∙◌}
use Rattle.lu_msg.specs.declared.messages.Message.{Message}
use Rattle.lu_spec_laws.specs.Words.Handed.{has_all}
use Rattle.lu_judge_windows.specs.Offers.{offer_in}
use Rattle.lu_judge_windows.proofs.OfferLines.{offer_none}
use Rattle.lu_judge_windows.proofs.offers.Offers.has_all_after.Goals as goal

pub returns-in-None : goal.returns-in-None
returns-in-None c = record {
  all = λ messages shown.
      c.has_all_after-in-None.ensures.all [] (c.new-here.ensures.shows c.args.boot)
      ∙ ap (λ (ms : List Message). has_all c.args.boot c.args.who (c.args.message.now ∷ ms))
      (sym (offer_none (offer_in c.args.self.now c.args.target) c.args.boot messages shown c.in-None.ensures.value));
}
