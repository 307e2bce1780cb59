-- The boot stays.
use Rattle.std.proofs.Common.{ap, ◌∙◌, take}
use Rattle.lu_txn.specs.Journals.{JournalState}
use Rattle.lu_target_store.proofs.Moves.{left_boot}
use Rattle.lu_target_store.proofs.commits.drop_slots.Goals as goal

pub returns-clause-boot : goal.returns-clause-boot
returns-clause-boot c =
    ap (λ (j : JournalState). j.boot) c.loop-who.invariant ∙ left_boot (take c.loop-who.who-index c.args.gone.now) c.args.journal.now
