-- One request more, of a turn of the metadata target.
use Rattle.std.proofs.Common.{◌≡◌, ◌∙◌, sym, true, false}
use Rattle.lu_spec_laws.specs.Words.Pasts.{is_target}
use Rattle.lu_judge_locks.proofs.Turning.{acted, elsewhere}
use Rattle.lu_judge_locks.proofs.acts.Acts.act.Goals as goal

pub returns-then-not-is_names : goal.returns-then-not-is_names
returns-then-not-is_names c =
    let away : is_target 0 c.args.at.node ≡ false = sym c.is_names.ensures ∙ c.if-not-is_names.true in
    record { acts = λ stamp. elsewhere c.args.at c.args.who c.args.xid.0 stamp _ away }

pub returns : goal.returns
returns c =
    let here : is_target 0 c.args.at.node ≡ true = sym c.is_names.ensures ∙ c.if-not-is_names.false in
    record {
      acts = λ stamp. acted c.args.at (record { who = c.args.who; xid = c.args.xid }) stamp _ _ here
          (c.in_ok-insert.ensures.updates.0 stamp);
    }
