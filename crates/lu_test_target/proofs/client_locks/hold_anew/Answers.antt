-- What was removed isn't held.
use Rattle.std.proofs.Common.{◌∙◌, ap}
use Rattle.lu_held.specs.declared.names.LockName.{LockName}
use Rattle.lu_held.specs.Locks.{named, is_named}
use Rattle.lu_held.specs.Held.{is_held}
use Rattle.lu_held.proofs.Lists.{none_after}
use Rattle.lu_test_target.proofs.client_locks.hold_anew.Goals as goal

pub granted-requires : goal.granted-requires
granted-requires c =
    let name : LockName = named (record { 0 = 1 }) c.args.lock.cookie in
    record { absent = ap (λ state. is_held name state.locks) c.remove.ensures.without ∙ none_after (is_named name) c.args.held.now.locks }
