use Rattle.std.proofs.Common.{refl}
use Rattle.lu_spec_laws.specs.Words.Lives.{is_gone}
use Rattle.lu_spec_laws.specs.Words.Lost.{is_lost}
use Rattle.lu_judge_acts.specs.Shown.{whole_of}
use Rattle.lu_judge_acts.proofs.Quiet.{asks_nothing}
use Rattle.lu_judge_acts.proofs.acts.Acts.passes.Goals as goal

pub returns-in_default : goal.returns-in_default
returns-in_default c = record {
  passes = λ past shown ordered follows order.
      let whole = whole_of c.args.self.now in (
        λ so.
            asks_nothing (is_gone whole) (is_lost whole) whole past (record { at = c.args.at; entry = c.args.entry.now }) c.args.later.now
            c.args.entry.now
            c.in_default.not-Begin c.in_default.not-Send c.in_default.not-Told c.in_default.not-Txn,
        λ law. refl,
      );
}
