use Rattle.lu_call.specs.Views.{kind_of}
use Rattle.lu_call.proofs.Wanted.{work_sound}
use Rattle.lu_call.proofs.works.Work.new.Goals as goal

pub returns-clause-sound : goal.returns-clause-sound
returns-clause-sound c = rw (c.in_ok-left.ensures.wants, c.new.ensures.items)
    (work_sound c.args.layout c.args.fid (kind_of c.args.kind) c.wants_of.ensures.sound c.requires.range)
