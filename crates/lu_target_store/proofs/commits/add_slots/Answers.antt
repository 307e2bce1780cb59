-- The boot stays.
use Rattle.std.proofs.Common.{◌≡◌, ap, ◌∙◌, take, rules}
use Rattle.lu_txn.specs.Journals.{JournalState}
use Rattle.lu_target_store.proofs.Moves.{joined_boot}
use Rattle.lu_target_store.proofs.commits.add_slots.Goals as goal

pub returns-clause-boot : goal.returns-clause-boot
returns-clause-boot c =
    ap (λ (j : JournalState). j.boot) c.loop-who.invariant ∙ joined_boot (take c.loop-who.who-index c.args.come.now) c.args.journal.now

pub returns-in_err-add_slot-clause-boot : goal.returns-in_err-add_slot-clause-boot
returns-in_err-add_slot-clause-boot c =
    let same : c.add_slot.new.self ≡ c.loop-who.journal = search rules in
    ap (λ (j : JournalState). j.boot) same ∙ ap (λ (j : JournalState). j.boot) c.loop-who.invariant
    ∙ joined_boot (take c.loop-who.who-index c.args.come.now) c.args.journal.now
