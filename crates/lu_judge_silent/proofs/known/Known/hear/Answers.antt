use Rattle.lu_judge_silent.proofs.Lines.{at_target, own_line}
use Rattle.lu_judge_silent.proofs.known.Known.hear.Goals as goal

pub returns-in-Target : goal.returns-in-Target
returns-in-Target c = record {
  follows = λ past ledger shown. at_target c.args.self.now past c.args.line.now c.in-Target.field-0 c.in-Target.is shown;
}

pub returns-in_ok-follow-in-Client : goal.returns-in_ok-follow-in-Client
returns-in_ok-follow-in-Client c = record {
  follows = λ past ledger shown.
      c.in_ok-follow-in-Client.ensures.follows past (own_line c.args.ledger.now.lives past c.args.line.now.at.node c.in-Client.client
      c.who.result c.in-Client.is c.who.ensures.who ledger.lives) ledger shown;
}
