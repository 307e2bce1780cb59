use Rattle.std.proofs.Common.{arith}
use Rattle.std.proofs.lemmas.List.{length-map}
use Rattle.std.proofs.lemmas.List.Elements.{All-map}
use Rattle.lu_base.specs.Texts.{IsName}
use Rattle.lu_base.proofs.Outcomes.{All-of_map}
use Rattle.lu_base.proofs.text.are_names.Goals as goal

pub returns : goal.returns
returns c =
    let parts = c.args.parts.now in record {
      test = (
        λ yes. (
          omega (arith, length-map parts (λ part. part.now)),
          All-map IsName (λ part. part.now) parts (c.all_are_names.ensures.test.0 yes),
        ),
        λ are. c.all_are_names.ensures.test.1 (All-of_map IsName (λ part. part.now) parts are.1),
      );
    }
