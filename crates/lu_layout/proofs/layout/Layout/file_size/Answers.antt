use Rattle.std.proofs.Common.{arith}
use Rattle.std.proofs.lemmas.Grind.{common_steps}
use Rattle.lu_layout.specs.Raid0.{IsFileSize}
use Rattle.lu_layout.proofs.Sizes.{IsFileSize-is}
use Rattle.lu_layout.proofs.layout.Layout.file_size.Goals as goal

pub returns-clause-value : goal.returns-clause-value
returns-clause-value c =
    let whole : IsFileSize c.args.self.now c.args.sizes.now c.loop-stripe.end = grind (arith, common_steps) in
    IsFileSize-is _ _ _ whole
