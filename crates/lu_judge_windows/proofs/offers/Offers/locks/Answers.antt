use Rattle.std.proofs.Common.{List, Bor, ap, sym, ◌∙◌}
use Rattle.std.specs.Prelude.{reverse, map}
use Rattle.lu_msg.specs.declared.messages.Message.{Message}
use Rattle.lu_msg.specs.declared.messages.LockReplay.{LockReplay}
use Rattle.lu_spec_laws.specs.Words.Boots.{boot}
use Rattle.lu_spec_laws.specs.Words.Handed.{handed, locks}
use Rattle.lu_judge_windows.specs.Offers.{offer_in}
use Rattle.lu_judge_windows.proofs.OfferLines.{offer_there, offer_none}
use Rattle.lu_judge_windows.proofs.offers.Offers.locks.Goals as goal

pub returns-in-Some : goal.returns-in-Some
returns-in-Some c = record {
  locks = λ past shown.
      ap (λ (ls : List (Bor LockReplay)). reverse (map (λ (l : Bor LockReplay). l.now) ls)) c.locks.ensures.locks
      ∙ (offer_there (offer_in c.args.self.now c.args.target) c.in-Some.here.now (boot c.args.target past) (handed c.args.target past)
      (shown c.args.target) c.in-Some.ensures.value).listed;
}

pub returns-in-None : goal.returns-in-None
returns-in-None c = record {
  locks = λ past shown.
      ap (λ (ls : List (Bor LockReplay)). reverse (map (λ (l : Bor LockReplay). l.now) ls))
      (c.as_slice.ensures.value ∙ c.args.self.now.bare)
      ∙ sym (ap (λ (ms : List Message). locks (boot c.args.target past) ms)
      (offer_none (offer_in c.args.self.now c.args.target) (boot c.args.target past) (handed c.args.target past) (shown c.args.target)
      c.in-None.ensures.value));
}
