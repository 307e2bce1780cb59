-- The lock's cookie leaves the map.
use Rattle.std.proofs.Common.{◌∙◌, ap}
use Rattle.lu_callback.specs.Callbacks.{without}
use Rattle.lu_callback.proofs.callbacks.Callbacks.answered.Goals as goal

pub returns-clause-without : goal.returns-clause-without
returns-clause-without c = c.remove.ensures.without ∙ ap (without c.args.cookie) c.self.view_is
