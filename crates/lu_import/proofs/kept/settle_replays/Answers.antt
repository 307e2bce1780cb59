-- What is left is all above the number.
use Rattle.std.proofs.Common.{◌≡◌, ◌∙◌, false, sym}
use Rattle.lu_import.specs.Kept.{Replay}
use Rattle.lu_import.specs.Adding.{replays_of}
use Rattle.lu_import.specs.Adding.{starts_by}
use Rattle.lu_import.proofs.SeenNumbers.{stays}
use Rattle.lu_import.proofs.kept.settle_replays.Goals as goal

pub returns-clause-settled : goal.returns-clause-settled
returns-clause-settled c =
    let left = replays_of c.loop-number.replays.entries in
    let past : starts_by (λ (r : Replay). r.txn.0) c.args.number.0 left ≡ false = sym c.starts_by.ensures.starts ∙ c.loop-number-test.false
    in
    sym (stays (λ (r : Replay). r.txn.0) c.args.number.0 left c.starts_by.ensures.rising past) ∙ c.loop-number.invariant
