-- What `make` answers is the layout of the definition.
use Rattle.std.proofs.Common.{sym, ap, subst}
use Rattle.std.specs.Prelude.{All}
use Rattle.lu_layout.specs.Raid0.{Raid0}
use Rattle.lu_layout.specs.Sound.{IsLayout}
use Rattle.lu_trace.specs.WellFormed.{Fits}
use Rattle.lu_judge_reader.proofs.Stripes.{striped_ok, striped_err}
use Rattle.lu_judge_reader.proofs.lists.striped.Goals as goal

pub returns-in-Ok-clause-read : goal.returns-in-Ok-clause-read
returns-in-Ok-clause-read c = striped_ok c.args.size c.args.targets.now c.in-Ok.layout c.in-Ok.ensures.ok
    (subst IsLayout c.in-Ok.ensures.ok c.in-Ok.ensures.sound)

pub returns-in-Ok-clause-fits : goal.returns-in-Ok-clause-fits
returns-in-Ok-clause-fits c = (
  c.in-Ok.ensures.sound,
  subst (All (Fits 16)) (sym (ap (λ (l : Raid0). l.targets) c.in-Ok.ensures.ok))
      c.requires.targets,
)

pub returns-in-Err-clause-read : goal.returns-in-Err-clause-read
returns-in-Err-clause-read c = striped_err c.args.size c.args.targets.now c.make.result c.in-Err.field-0 c.in-Err.is
    c.make.ensures.bad_size.0 c.make.ensures.bad_count.0
