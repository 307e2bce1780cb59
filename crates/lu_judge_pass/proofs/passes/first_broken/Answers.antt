use Rattle.std.proofs.Common.{refl}
use Rattle.std.proofs.lemmas.Result.{IfOk-weaker}
use Rattle.lu_judge_pass.proofs.Wholes.{none_is_whole, at_each}
use Rattle.lu_judge_pass.proofs.passes.first_broken.Goals as goal

pub first_place-requires : goal.first_place-requires
first_place-requires g c κs =
    ((refl, tt), (c.requires.shows, at_each (g.J.Judge.given (g.J.Judge.about c.args.judge)) c.args.lines.now c.requires.given))

pub returns-clause-none : goal.returns-clause-none
returns-clause-none g c =
    IfOk-weaker c.first_place.result _ _ (λ place first. none_is_whole (g.J.Judge.law (g.J.Judge.about c.args.judge)) c.args.lines.now place
    first) c.first_place.ensures
