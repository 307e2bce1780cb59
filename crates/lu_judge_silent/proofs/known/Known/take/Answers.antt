use Rattle.std.proofs.Common.{◌≡◌, true, false, Option, ◌∷◌, refl, ap, ◌∙◌, sym, subst}
use Rattle.std.specs.Option.{option_map}
use Rattle.lu_trace.specs.declared.entries.Entry.TheVariants.{Take}
use Rattle.lu_spec_machine.specs.Tree.{same_life}
use Rattle.lu_spec_laws.specs.Words.Sends.{Sending, message_of}
use Rattle.lu_spec_laws.specs.Words.Repeats.{disturbs}
use Rattle.lu_judge_pass.specs.Tables.{sending_of}
use Rattle.lu_judge_silent.specs.declared.ups.Ups.{Ups}
use Rattle.lu_judge_silent.specs.Tables.{marks_of}
use Rattle.lu_judge_silent.specs.Shown.{ShowsUps}
use Rattle.lu_judge_silent.proofs.Lives.{takes, takes_calmly}
use Rattle.lu_judge_silent.proofs.Lines.{followed}
use Rattle.lu_judge_silent.proofs.Waiting.{ups_taken}
use Rattle.lu_judge_silent.proofs.known.Known.take.Goals as goal

pub returns-then-is_disturbing : goal.returns-then-is_disturbing
returns-then-is_disturbing c = record {
  takes = λ past at number own sent shown.
      let tells : disturbs (message_of past number) ≡ true = ap (λ (o : Option Sending). disturbs (option_map (λ s. s.message) o)) sent
      ∙ sym c.is_disturbing.ensures ∙ c.if-is_disturbing.true in
      followed c.args.self.now c.disturb.new.self past _ c.in_ok-disturb.ensures.clock shown
      (subst (λ (ups : Ups). ShowsUps ups (record { at = at; entry = Take number } ∷ past)) (sym c.in_ok-disturb.ensures.ups)
      (ups_taken c.args.self.now.ups c.take.new.self c.args.who past at number (sending_of c.args.sent) own sent shown.ups
      c.in_ok-take.ensures.takes))
      (λ w. takes c.args.self.now.clock (marks_of c.args.self.now w) (marks_of c.disturb.new.self w) w past at (same_life c.args.who w)
      number (own w) tells (shown.lives w) (c.in_ok-disturb.ensures.moves w));
}

pub returns : goal.returns
returns c = record {
  takes = λ past at number own sent shown.
      let tells : disturbs (message_of past number) ≡ false = ap (λ (o : Option Sending). disturbs (option_map (λ s. s.message) o)) sent
      ∙ sym c.is_disturbing.ensures ∙ c.if-is_disturbing.false in
      followed c.args.self.now _ past _ refl shown
      (ups_taken c.args.self.now.ups c.take.new.self c.args.who past at number (sending_of c.args.sent) own sent shown.ups
      c.in_ok-take.ensures.takes)
      (λ w. takes_calmly c.args.self.now.clock (marks_of c.args.self.now w) w past at number tells (shown.lives w));
}
