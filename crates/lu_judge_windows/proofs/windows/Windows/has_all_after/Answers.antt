use Rattle.std.proofs.Common.{ℕ, Bool, ◌∷◌, Option, ap, subst, sym, ◌∙◌}
use Rattle.std.specs.Prelude.{if◌then◌else◌}
use Rattle.std.specs.Option.{option_map}
use Rattle.lu_msg.specs.declared.messages.Message.{Message}
use Rattle.lu_spec_laws.specs.Words.Sends.{Sending, message_of}
use Rattle.lu_spec_laws.specs.Words.Boots.{boot}
use Rattle.lu_spec_laws.specs.Words.Handed.{handed, has_all, with_message}
use Rattle.lu_judge_windows.specs.Offers.{ShowsOffer, offer_in}
use Rattle.lu_judge_windows.proofs.SlotLines.{all_default}
use Rattle.lu_judge_windows.proofs.windows.Windows.has_all_after.Goals as goal

pub returns-in-Some : goal.returns-in-Some
returns-in-Some c = record {
  all = λ past at here ledger shown.
      let t = c.args.target in
      let who = c.args.who in
      let boots = c.boot.ensures.boot past shown in
      let sent = ap (option_map (λ (s : Sending). s.message)) (sym (ledger.sendings c.in-Take.number) ∙ sym c.in-Some.ensures.sending) in
      rw c.in-Take.is
      (c.has_all_after.ensures.all (handed t past) (subst (λ (b : ℕ). ShowsOffer (offer_in c.args.self.now.offers t) b (handed t past))
      (sym boots) (shown.offers t))
      ∙ ap (λ (b : ℕ). has_all b who (c.in-Some.sending.message.now ∷ handed t past)) boots
      ∙ sym (ap (λ (b : Bool). has_all (boot t past) who (if b then with_message (message_of past c.in-Take.number) (handed t past)
      else handed t past)) here
      ∙ ap (λ (o : Option Message). has_all (boot t past) who (with_message o (handed t past))) sent));
}

pub returns-in-None : goal.returns-in-None
returns-in-None c = record {
  all = λ past at here ledger shown.
      let t = c.args.target in
      let who = c.args.who in
      let none = ap (option_map (λ (s : Sending). s.message)) (sym (ledger.sendings c.in-Take.number) ∙ sym c.in-None.ensures.sending) in
      rw c.in-Take.is
      (c.has_all.ensures.all past shown.offers
      ∙ sym (ap (λ (b : Bool). has_all (boot t past) who (if b then with_message (message_of past c.in-Take.number) (handed t past)
      else handed t past)) here
      ∙ ap (λ (o : Option Message). has_all (boot t past) who (with_message o (handed t past))) none));
}

pub returns-in_default : goal.returns-in_default
returns-in_default c = record {
  all = λ past at here ledger shown.
      c.has_all-in_default.ensures.all past shown.offers ∙ all_default c.args.target c.args.who past at c.args.entry.now
      c.in_default.not-Take c.in_default.not-Boot;
}
