-- The stripes before are done.
use Rattle.std.proofs.Common.{◌≡◌, ℕ, drop}
use Rattle.lu_base.specs.declared.ids.At.{At}
use Rattle.lu_spec_entries.specs.Carried.{Running}
use Rattle.lu_spec_client.specs.Stripes.{stripes}
use Rattle.lu_spec_client.specs.WriteBack.{flush_from}
use Rattle.lu_call.specs.Views.{file_of}
use Rattle.lu_call.proofs.flushing.first_to_write.Given as goal

abbrev pub invariant-loop-stripe : goal.invariant-loop-stripe
invariant-loop-stripe l =
    (at : At) (slot : ℕ) (r : Running) → flush_from at slot r (file_of l.file) (drop l.from (stripes l.file.layout)) l.store.store
    ≡ flush_from at slot r (file_of l.file) (drop l.stripe (stripes l.file.layout)) l.store.store
