-- What is written back lies below 2^40, and is no more than what was changed.
use Rattle.std.proofs.Common.{subst, sym}
use Rattle.std.specs.Prelude.{Option, IfSome}
use Rattle.std.proofs.lemmas.Result.{IfOk-weaker}
use Rattle.lu_spec_entries.specs.declared.changes.Flush.{Flush}
use Rattle.lu_client_store.specs.Stored.{IsInFile}
use Rattle.lu_client_store.proofs.Bounded.{next_in_file, bounded_sent}
use Rattle.lu_client_store.proofs.objects.ObjectPatch.take_flush.Goals as goal

pub invariant_of-self : goal.invariant_of-self
invariant_of-self c = bounded_sent c.take_flush.result c.args.within c.self.inside.patch c.take_flush.new.self c.take_flush.ensures.flush
    c.take_flush.ensures.taken c.take_flush.ensures.kept c.self.invariant

pub returns-clause-in_file : goal.returns-clause-in_file
returns-clause-in_file c =
    IfOk-weaker c.take_flush.result _ _ (λ flush is. subst (λ (o : Option Flush). IfSome o IsInFile) (sym is)
    (next_in_file c.args.within c.self.inside.patch c.self.invariant)) c.take_flush.ensures.flush
