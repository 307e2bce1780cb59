-- The lock's cookie leaves the map.
use Rattle.lu_callback.proofs.Filed.{all_removed}
use Rattle.lu_callback.proofs.callbacks.remove.Goals as goal

pub returns-clause-held : goal.returns-clause-held
returns-clause-held c = (all_removed c.args.cookie c.args.holders.now.entries _ c.requires c.remove.ensures.entries).held

pub returns-clause-without : goal.returns-clause-without
returns-clause-without c = (all_removed c.args.cookie c.args.holders.now.entries _ c.requires c.remove.ensures.entries).all
