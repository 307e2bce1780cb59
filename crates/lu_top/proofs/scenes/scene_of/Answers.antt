use Rattle.lu_top.proofs.scenes.scene_of.Goals as goal

pub returns-in-Play-clause-only : goal.returns-in-Play-clause-only
returns-in-Play-clause-only g c = λ text scene form given is. c.read_from.ensures.only text scene given is
