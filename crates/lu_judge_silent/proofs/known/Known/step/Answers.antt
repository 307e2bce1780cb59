use Rattle.std.proofs.Common.{◌≡◌, ◌+◌, refl, arith}
use Rattle.lu_judge_silent.specs.Shown.{Followed}
use Rattle.lu_judge_silent.proofs.Lines.{counted}
use Rattle.lu_judge_silent.proofs.known.Known.step.Goals as goal

pub returns : goal.returns
returns c = record {
  shows = λ past short ledger shown.
      let followed : Followed c.hear.new.self past c.args.line.now = c.in_ok-hear.ensures.follows past ledger shown in
      let clock = followed.clock in
      let next : c.saturating_add-self.result ≡ c.hear.new.self.clock + 1 = omega (arith, clock, c.saturating_add-self.ensures) in
      counted c.hear.new.self _ past c.args.line.now followed next refl (λ w. refl);
}
