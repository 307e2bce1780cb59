-- A change that lies below 2^40 leaves the others below it.
use Rattle.lu_client_store.proofs.Bounded.{bounded_changed}
use Rattle.lu_client_store.proofs.objects.ObjectPatch.change.Goals as goal

pub invariant_of-self : goal.invariant_of-self
invariant_of-self c = bounded_changed c.make.result c.args.change.now c.self.inside.patch c.make.new.patch c.make.ensures.made
    c.make.ensures.kept c.requires.fits c.self.invariant
