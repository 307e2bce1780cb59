use Rattle.lu_top.proofs.judging.tell_verdict.Goals as goal

pub returns-in-Ok-clause-told : goal.returns-in-Ok-clause-told
returns-in-Ok-clause-told g c = c.write_verdict.ensures.told c.args.trace.now c.in-Ok.ensures.is
