use Rattle.std.proofs.Common.{◌≡◌, ◌∷◌, ap, sym, ◌∙◌, false, subst}
use Rattle.std.proofs.lemmas.Result.{on_ok_weaker}
use Rattle.lu_trace.specs.declared.entries.Entry.{Entry}
use Rattle.lu_spec_laws.specs.Words.Pasts.{Past}
use Rattle.lu_judge_recovery.specs.Clients.{count_of}
use Rattle.lu_judge_recovery.specs.Turns.{line_at}
use Rattle.lu_judge_recovery.specs.Closings.{follows, ShowsClosings}
use Rattle.lu_judge_recovery.proofs.Closed.{is_close, failing_closings, quiet_closings, is_quiet}
use Rattle.lu_judge_recovery.proofs.closings.Closings.add.Goals as goal

pub returns-then-has : goal.returns-then-has
returns-then-has c = record {
  shows = λ past ledger windows shown.
      rw c.in-Close.is
      (failing_closings c.args.self.now c.args.failing.now (count_of c.args.greatest) past c.args.turn.stamp c.args.turn.target
      (sym c.has.ensures.failing ∙ c.if-has.true) shown);
}

pub returns-in_default : goal.returns-in_default
returns-in_default c = record {
  shows = λ past ledger windows shown.
      let quiet : (is_close c.args.entry.now ≡ false) × (follows c.args.entry.now ≡ false) =
      is_quiet c.args.entry.now c.in_default.not-Close c.in_default.not-Kept c.in_default.not-Evict c.in_default.not-Restore in
      quiet_closings c.args.self.now c.args.failing.now (count_of c.args.greatest) past
      (line_at c.args.turn.stamp c.args.turn.target c.args.entry.now) quiet.0 quiet.1 shown;
}

pub returns-else-has : goal.returns-else-has
returns-else-has c = record {
  shows = rw c.in-Close.is (on_ok_weaker c.close.result (λ closes past ledger windows shown. closes c.args.failing.now past ledger windows
      shown) c.close.ensures.shows);
}

pub returns-in-Kept : goal.returns-in-Kept
returns-in-Kept c = record {
  shows = on_ok_weaker c.note.result
      (λ notes past ledger windows shown. notes c.args.failing.now (count_of c.args.greatest) past (ap follows c.in-Kept.is) shown)
      c.note.ensures.shows;
}

pub returns-in-Evict : goal.returns-in-Evict
returns-in-Evict c = record {
  shows = on_ok_weaker c.note-in-Evict.result
      (λ notes past ledger windows shown. notes c.args.failing.now (count_of c.args.greatest) past (ap follows c.in-Evict.is) shown)
      c.note-in-Evict.ensures.shows;
}

pub returns-in-Restore : goal.returns-in-Restore
returns-in-Restore c = record {
  shows = on_ok_weaker c.note-in-Restore.result
      (λ notes past ledger windows shown. notes c.args.failing.now (count_of c.args.greatest) past (ap follows c.in-Restore.is) shown)
      c.note-in-Restore.ensures.shows;
}
