use Rattle.std.proofs.Common.{◌≡◌, ◌∷◌, true, false, sym, ◌∙◌, subst}
use Rattle.std.specs.Prelude.{not, Some, None}
use Rattle.lu_trace.specs.declared.entries.Line.{Line}
use Rattle.lu_spec_laws.specs.Words.Handed.{comes_back}
use Rattle.lu_judge_recovery.specs.Handing.{named}
use Rattle.lu_judge_recovery.specs.Returns.{ShowsReturns}
use Rattle.lu_judge_recovery.proofs.Lines.{line_is}
use Rattle.lu_judge_recovery.proofs.Coming.{none_returns, one_returns, named_away, unnamed_away}
use Rattle.lu_judge_recovery.proofs.returns.Returns.note.Goals as goal

pub returns-then-not-comes_back : goal.returns-then-not-comes_back
returns-then-not-comes_back c = record {
  shows = λ past ledger windows shown.
      let l = c.args.line.now in
      let whole = line_is l c.args.target c.requires.here in
      let away = subst (λ (k : Line). comes_back c.args.target c.in-Some.who past k ≡ false) (sym whole)
      (sym (c.comes_back.ensures past ledger windows) ∙ c.if-not-comes_back.true) in
      subst (λ (k : Line). ShowsReturns c.args.self.now (k ∷ past)) whole
      (none_returns c.args.self.now past l.at.stamp.0 c.args.target l.entry
      (named_away past l.at.stamp.0 c.args.target l.entry c.in-Some.who (sym (c.named.ensures past ledger) ∙ c.in-Some.is) away) shown);
}

pub returns-in-None : goal.returns-in-None
returns-in-None c = record {
  shows = λ past ledger windows shown.
      let l = c.args.line.now in
      let whole = line_is l c.args.target c.requires.here in
      subst (λ (k : Line). ShowsReturns c.args.self.now (k ∷ past)) whole
      (none_returns c.args.self.now past l.at.stamp.0 c.args.target l.entry
      (unnamed_away past l.at.stamp.0 c.args.target l.entry (sym (c.named.ensures past ledger) ∙ c.in-None.is)) shown);
}

pub returns-in_ok-insert-in-Some : goal.returns-in_ok-insert-in-Some
returns-in_ok-insert-in-Some c = record {
  shows = λ past ledger windows shown.
      let l = c.args.line.now in
      let whole = line_is l c.args.target c.requires.here in
      let comes = subst (λ (k : Line). comes_back c.args.target c.in-Some.who past k ≡ true) (sym whole)
      (sym (c.comes_back.ensures past ledger windows) ∙ c.if-not-comes_back.false) in
      subst (λ (k : Line). ShowsReturns (record { lives = c.insert.new.self }) (k ∷ past)) whole
      (one_returns c.args.self.now (record { lives = c.insert.new.self }) past l.at.stamp.0 c.args.target l.entry c.in-Some.who
      (sym (c.named.ensures past ledger) ∙ c.in-Some.is) comes
      (λ s t w. c.in_ok-insert-in-Some.ensures.updates.0 ((s, t), (w.client, w.life))) shown);
}
