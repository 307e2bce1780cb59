use Rattle.std.proofs.Common.{◌≡◌, ◌<◌, false, sym, ap, ◌∙◌, subst}
use Rattle.std.specs.Prelude.{reverse}
use Rattle.lu_trace.specs.declared.entries.Entry.TheVariants.{Kept, Restore, Evict}
use Rattle.lu_spec_laws.specs.Words.Lost.{is_fail}
use Rattle.lu_spec_laws.specs.Laws.Messages.{Follows}
use Rattle.lu_judge_recovery.specs.Clients.{count_of}
use Rattle.lu_judge_recovery.proofs.AtLines.{at_entry, evicted_within}
use Rattle.lu_judge_recovery.proofs.Wholly.{failing_is}
use Rattle.lu_judge_recovery.proofs.judge.Recovery.allows_entry.Goals as goal

pub returns-in-Kept : goal.returns-in-Kept
returns-in-Kept c = record {
  decided = λ past shown placed.
      at_entry (count_of c.args.self.now.greatest) c.args.self.now.known.osts past c.args.line.now c.args.later.now c.args.turn.stamp
      c.args.turn.target
      (Kept c.in-Kept.number) c.allows_kept.result c.requires.here c.in-Kept.is
      (c.allows_kept.ensures.decided (count_of c.args.self.now.greatest) past c.args.later.now shown.settled
      (c.decided.ensures.decided past c.args.later.now shown
      (failing_is c.args.self.now.failing (reverse c.args.self.now.lines.now) past c.args.line.now c.args.later.now c.args.turn.stamp
      c.args.turn.target shown.failing placed.whole
      (ap is_fail c.in-Kept.is))));
}

pub returns-in-Restore : goal.returns-in-Restore
returns-in-Restore c = record {
  decided = λ past shown placed.
      at_entry (count_of c.args.self.now.greatest) c.args.self.now.known.osts past c.args.line.now c.args.later.now c.args.turn.stamp
      c.args.turn.target
      (Restore c.in-Restore.lock) c.allows_restored.result c.requires.here c.in-Restore.is
      (c.allows_restored.ensures.decided (count_of c.args.self.now.greatest) past c.args.later.now
      (c.decided-in-Restore.ensures.decided past c.args.later.now shown
      (failing_is c.args.self.now.failing (reverse c.args.self.now.lines.now) past c.args.line.now c.args.later.now c.args.turn.stamp
      c.args.turn.target shown.failing placed.whole
      (ap is_fail c.in-Restore.is))));
}

pub returns-in-Evict : goal.returns-in-Evict
returns-in-Evict c = record {
  decided = λ past shown placed.
      let within = subst (λ n. c.in-Evict.who.client < n) (sym shown.greatest)
      (evicted_within (reverse c.args.self.now.lines.now) past c.args.line.now c.args.later.now c.in-Evict.who c.in-Evict.cause placed.whole
      c.in-Evict.is) in
      at_entry (count_of c.args.self.now.greatest) c.args.self.now.known.osts past c.args.line.now c.args.later.now c.args.turn.stamp
      c.args.turn.target
      (Evict c.in-Evict.who c.in-Evict.cause) c.allows_evict.result c.requires.here c.in-Evict.is
      (c.allows_evict.ensures.decided (count_of c.args.self.now.greatest) past c.args.later.now within shown.known shown.marks
      shown.callbacks placed.ordered
      (subst (λ at. Follows past at) (ap (λ l. l.at) c.requires.here) placed.messages.order)
      (c.decided-in-Evict.ensures.decided past c.args.later.now shown
      (failing_is c.args.self.now.failing (reverse c.args.self.now.lines.now) past c.args.line.now c.args.later.now c.args.turn.stamp
      c.args.turn.target shown.failing placed.whole
      (ap is_fail c.in-Evict.is))));
}
