-- Each line makes of the machine what the history has.
use Rattle.std.proofs.Common.{◌∷◌, sym, subst, ◌∙◌}
use Rattle.std.proofs.lemmas.Result.{on_ok_weaker}
use Rattle.lu_trace.specs.declared.entries.Entry.{Entry}
use Rattle.lu_spec_laws.specs.Words.Lives.{is_gone}
use Rattle.lu_spec_laws.specs.Words.Lost.{is_lost}
use Rattle.lu_spec_laws.proofs.Tests.{both}
use Rattle.lu_posix.proofs.Both.{both_ok}
use Rattle.lu_judge_history.specs.Shown.{ShowsPlayed}
use Rattle.lu_judge_history.proofs.Playing.{tell_shown}
use Rattle.lu_judge_history.proofs.played.Played.step.Goals as goal

pub returns-then-target-eq0 : goal.returns-then-target-eq0
returns-then-target-eq0 c = record {
  shows = on_ok_weaker c.act.result
      (λ is osts whole past gone lost limited ledger calls shown.
      subst (λ (e : Entry). ShowsPlayed osts (is_gone whole) (is_lost whole) c.act.new.self
      (record { at = c.args.line.now.at; entry = e } ∷ past)) (sym c.in-Act.is)
      (is osts (is_gone whole) (is_lost whole) past _ ledger shown))
      c.act.ensures.shows;
}

pub returns-in-Target-node : goal.returns-in-Target-node
returns-in-Target-node c = record {
  shows = on_ok_weaker c.txn.result
      (λ is osts whole past gone lost limited ledger calls shown.
      subst (λ (e : Entry). ShowsPlayed osts (is_gone whole) (is_lost whole) c.txn.new.self
      (record { at = c.args.line.now.at; entry = e } ∷ past)) (sym c.in-Txn.is)
      (is osts whole past _ _ gone lost limited ledger shown))
      c.txn.ensures.shows;
}

pub returns-then-is_answer : goal.returns-then-is_answer
returns-then-is_answer c = record {
  shows = both_ok c.tell.result c.tell.ensures.shows c.tell.ensures.answers
      (λ tells same osts whole past gone lost limited ledger calls shown.
      subst (λ (e : Entry). ShowsPlayed osts (is_gone whole) (is_lost whole) c.tell.new.self
      (record { at = c.args.line.now.at; entry = e } ∷ past)) (sym c.in-Told.is)
      (tell_shown osts (is_gone whole) (is_lost whole) past c.args.self.now shown c.args.line.now.at c.in-Told.slot c.in-Told.at
      c.in-Told.answer c.tell.new.self
      c.in-Client-node-2.client c.in-Client-node-2.is
      (both (sym c.same_turn.ensures ∙ c.if-same_turn.true) (sym c.is_answer.ensures ∙ c.if-is_answer.true))
      (tells osts whole past (is_lost whole) gone limited ledger calls shown.machine) same));
}
