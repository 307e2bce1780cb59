-- The map's keys are the resources.
use Rattle.std.proofs.Common.{◌≡◌, subst, List}
use Rattle.std.specs.Prelude.{IfSome, IfNone, []}
use Rattle.lu_base.specs.declared.locks.Resource.{Resource}
use Rattle.lu_spec_machine.specs.Objects.{Object}
use Rattle.lu_service.specs.Contents.{object_in}
use Rattle.lu_ost.specs.Stored.{sound_in}
use Rattle.lu_service.specs.Contents.{IsObject}
use Rattle.lu_ost.proofs.Lookups.{found_some, found_none, sought}
use Rattle.lu_ost.proofs.objects.Objects.of.Goals as goal

pub returns-clause-some : goal.returns-clause-some
returns-clause-some c =
    subst (λ (es : List (Resource × Object)). IfSome c.get.result (λ x. x.now ≡ object_in es c.args.resource)) c.self.view_is
    (found_some _ c.args.resource (λ k. sought c.args.resource k) c.get.result c.self.inside.entries.entries c.get.ensures.value)

pub returns-clause-none : goal.returns-clause-none
returns-clause-none c =
    subst (λ (es : List (Resource × Object)). IfNone c.get.result (object_in es c.args.resource ≡ [])) c.self.view_is
    (found_none _ c.args.resource (λ k. sought c.args.resource k) c.get.result c.self.inside.entries.entries c.get.ensures.value)

pub returns-clause-sound : goal.returns-clause-sound
returns-clause-sound c = subst (λ (es : List (Resource × Object)). IsObject (object_in es c.args.resource)) c.self.view_is
    (sound_in c.self.inside.entries.entries c.args.resource c.self.invariant)
