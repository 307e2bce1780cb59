use Rattle.std.proofs.Common.{ℕ, ap, sym, ◌∙◌, ◌∷◌, subst}
use Rattle.std.specs.Option.{option_map}
use Rattle.lu_spec_laws.specs.Words.Sends.{Sending}
use Rattle.lu_judge_windows.specs.declared.marks.Mark.{Mark}
use Rattle.lu_judge_windows.specs.Offers.{offer_in, ShowsOffer}
use Rattle.lu_judge_windows.proofs.OfferLines.{take_shown, none_shown, boot_shown}
use Rattle.lu_judge_windows.proofs.offers.Offers.step.Goals as goal

pub returns-in_ok-take-in-Some : goal.returns-in_ok-take-in-Some
returns-in_ok-take-in-Some c = record {
  shows = λ past marks sent shown.
      let boots = ap (λ (m : Mark). m.boot) (c.get-in-Some.ensures.mark ∙ marks c.in-Target.target) in
      rw c.in-Take.is
      (take_shown past c.args.line.now.at c.in-Target.target c.in-Target.is (offer_in c.args.self.now) shown c.in-Take.number
      c.in-Some.sending.message.now (offer_in c.take.new.self)
      (ap (option_map (λ (s : Sending). s.message)) (sym (sent _) ∙ sym c.in-Some.ensures.sending))
      (λ messages. subst (λ (b : ℕ). ShowsOffer (offer_in c.args.self.now c.in-Target.target) b messages
      → ShowsOffer (offer_in c.take.new.self c.in-Target.target) b (c.in-Some.sending.message.now ∷ messages)) boots
      (c.in_ok-take-in-Some.ensures.taken messages))
      c.in_ok-take-in-Some.ensures.others);
}

pub returns-in-None : goal.returns-in-None
returns-in-None c = record {
  shows = λ past marks sent shown. rw c.in-Take.is (none_shown past c.args.line.now.at c.in-Target.target c.in-Target.is
      (offer_in c.args.self.now) shown _ (ap (option_map (λ (s : Sending). s.message)) (sym (sent _) ∙ sym c.in-None.ensures.sending)));
}

pub returns-in-Target-node : goal.returns-in-Target-node
returns-in-Target-node c = record {
  shows = λ past marks sent shown.
      rw c.in-Boot.is (boot_shown past c.args.line.now.at c.in-Target-node.target c.in-Target-node.is (offer_in c.args.self.now) shown _
      (λ t. offer_in (record c.args.self.now { by_target = c.remove.new.self }) t) (λ t. c.remove.ensures.updates.0 t));
}
