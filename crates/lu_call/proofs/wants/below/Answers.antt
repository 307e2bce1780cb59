use Rattle.std.proofs.Common.{◌∙◌}
use Rattle.lu_client_store.proofs.Striping.{below_is}
use Rattle.lu_call.proofs.wants.below.Goals as goal

pub returns-clause-value : goal.returns-clause-value
returns-clause-value c = c.below.ensures.value ∙ below_is c.args.layout.now c.args.stripe c.args.n c.size-size.ensures.sound
    c.requires.stripe
