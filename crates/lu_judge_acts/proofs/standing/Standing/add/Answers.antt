use Rattle.std.proofs.Common.{sym, ◌∙◌}
use Rattle.lu_spec_laws.specs.Words.Lost.{is_lost}
use Rattle.lu_spec_laws.specs.Laws.Acts.{standing_count}
use Rattle.lu_judge_acts.specs.Tables.{one_in, more_in}
use Rattle.lu_judge_acts.proofs.Counted.{again, first}
use Rattle.lu_judge_acts.proofs.standing.Standing.add.Goals as goal

pub returns-then-contains : goal.returns-then-contains
returns-then-contains c = record {
  added = λ whole past shown.
      again (one_in c.args.self.now) (more_in c.args.self.now) (more_in (record { one = c.args.self.now.one; more = c.insert.new.self }))
      (λ t w x. standing_count (is_lost whole) t w x past) c.args.target c.args.who c.args.xid.0 shown
      (sym c.contains.ensures ∙ c.if-contains.true)
      (λ t w x. c.in_ok-insert.ensures.updates.0 ((t, (w.client, w.life)), x));
}

pub returns : goal.returns
returns c = record {
  added = λ whole past shown.
      first (one_in c.args.self.now) (more_in c.args.self.now) (one_in (record { one = c.insert-2.new.self; more = c.args.self.now.more }))
      (λ t w x. standing_count (is_lost whole) t w x past) c.args.target c.args.who c.args.xid.0 shown
      (sym c.contains.ensures ∙ c.if-contains.false)
      (λ t w x. c.in_ok-insert-2.ensures.updates.0 ((t, (w.client, w.life)), x));
}
