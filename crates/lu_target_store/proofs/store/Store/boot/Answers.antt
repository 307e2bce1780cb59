-- The next boot is on the disk.
use Rattle.std.proofs.Common.{◌≡◌, ◌+◌, ◌++◌, [], ◌∷◌, ap, rules}
use Rattle.lu_txn.specs.Loads.{loaded}
use Rattle.lu_txn.specs.Commits.{batch_of}
use Rattle.lu_target_store.specs.Commits.{last_boot}
use Rattle.lu_target_store.proofs.Begins.{booted, boot_stored}
use Rattle.lu_target_store.proofs.store.Store.boot.Goals as goal

pub returns-in-Ok-write-clause-booted : goal.returns-in-Ok-write-clause-booted
returns-in-Ok-write-clause-booted g c =
    let old = g.D.Disk.batches c.args.disk in
    let boot = c.last_boot-last.result in
    let is_boot : boot ≡ last_boot old = search rules in
    let is_loaded : c.in-Ok.journal ≡ loaded old (boot + 1) = search rules in
    let is_to : c.last_committed-to.result.0 ≡ c.in-Ok.journal.committed = search rules in
    let batches : g.D.Disk.batches c.write.new.disk ≡ old ++ batch_of c.last_committed-to.result.0 c.in-Ok.journal ∷ [] = search rules in
    λ v shows. booted old (g.D.Disk.batches c.write.new.disk) v (boot + 1) c.last_committed-to.result.0 c.in-Ok.journal c.write.new.journal
    c.new-2.result _ shows
    (ap (λ n. n + 1) is_boot) c.new-2.ensures.none c.in-Ok-write.ensures.sound is_loaded is_to (c.in-Ok-write.ensures.committed) batches

pub returns-in-Ok-write-clause-stored : goal.returns-in-Ok-write-clause-stored
returns-in-Ok-write-clause-stored g c =
    let old = g.D.Disk.batches c.args.disk in
    let boot = c.last_boot-last.result in
    let is_boot : boot ≡ last_boot old = search rules in
    let is_loaded : c.in-Ok.journal ≡ loaded old (boot + 1) = search rules in
    let is_to : c.last_committed-to.result.0 ≡ c.in-Ok.journal.committed = search rules in
    let batches : g.D.Disk.batches c.write.new.disk ≡ old ++ batch_of c.last_committed-to.result.0 c.in-Ok.journal ∷ [] = search rules in
    boot_stored old (g.D.Disk.batches c.write.new.disk) (boot + 1) c.last_committed-to.result.0 c.in-Ok.journal (ap (λ n. n + 1) is_boot)
    is_loaded is_to batches
