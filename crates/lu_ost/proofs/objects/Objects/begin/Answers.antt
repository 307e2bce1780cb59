-- A resource that is there keeps its place, and a new one goes last.
use Rattle.std.proofs.Common.{◌∙◌, ap}
use Rattle.lu_service.specs.Contents.{with_object}
use Rattle.lu_ost.proofs.Lookups.{inserted, sought}
use Rattle.lu_ost.proofs.Sound.{begun_sound}
use Rattle.lu_ost.proofs.objects.Objects.begin.Goals as goal

pub returns-clause-begun : goal.returns-clause-begun
returns-clause-begun c =
    c.in_ok-insert.ensures.entries ∙ inserted _ c.args.resource (λ k. sought c.args.resource k) c.self.inside.entries.entries c.args.object
    ∙ ap (with_object c.args.resource c.args.object) c.self.view_is

pub invariant_of-self-2 : goal.invariant_of-self-2
invariant_of-self-2 c = begun_sound c.args.resource c.args.object c.self.inside.entries.entries _ c.requires.sound c.self.invariant
    (c.in_ok-insert.ensures.entries ∙ inserted _ c.args.resource (λ k. sought c.args.resource k) c.self.inside.entries.entries
    c.args.object)
