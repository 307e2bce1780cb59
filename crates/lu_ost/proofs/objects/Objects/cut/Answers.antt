-- The object that is there is written through.
use Rattle.std.proofs.Common.{◌∙◌, refl}
use Rattle.std.proofs.lemmas.Result.{on_ok_weaker, on_err_weaker}
use Rattle.lu_spec_machine.specs.Objects.{cut_bytes}
use Rattle.lu_object.proofs.Either.{either}
use Rattle.lu_ost.proofs.Lookups.{written_through, kept_through, begun_new, entries_same, sought}
use Rattle.lu_ost.proofs.Sound.{cut_all_sound, same_sound}
use Rattle.lu_ost.proofs.objects.Objects.cut.Goals as goal

pub returns-in-Some-clause-cut : goal.returns-in-Some-clause-cut
returns-in-Some-clause-cut c =
    on_ok_weaker c.cut.result
    (λ made. written_through _ c.args.resource (λ k. sought c.args.resource k) (cut_bytes c.args.size) c.self.inside.entries.entries
    c.args.self.now _ c.in-Some.object.now c.cut.new.self c.in-Some.ensures.value (c.get_mut.follows.holds c.cut.new.self).0 made
    c.self.view_is)
    c.cut.ensures.cut

pub returns-in-Some-clause-kept : goal.returns-in-Some-clause-kept
returns-in-Some-clause-kept c =
    on_err_weaker c.cut.result
    (λ same. kept_through _ c.args.resource (λ k. sought c.args.resource k) c.self.inside.entries.entries c.args.self.now _
    c.in-Some.object.now c.cut.new.self c.in-Some.ensures.value (c.get_mut.follows.holds c.cut.new.self).0 same c.self.view_is)
    c.cut.ensures.kept

pub returns-clause-cut : goal.returns-clause-cut
returns-clause-cut c =
    let stays = entries_same c.get_mut.follows.holds-at-none ∙ c.self.view_is in
    on_ok_weaker c.begin.result
    (λ begun. begun ∙ begun_new _ c.args.resource (λ k. sought c.args.resource k) (cut_bytes c.args.size) c.self.inside.entries.entries
    c.args.self.now _ _ _ c.in_default.ensures.value c.self.view_is stays c.in_ok-cut.ensures.cut c.new-object.ensures.empty)
    c.begin.ensures.begun

pub invariant_of-self : goal.invariant_of-self
invariant_of-self c =
    either c.cut.result c.cut.ensures.cut c.cut.ensures.kept
    (λ made. cut_all_sound c.args.resource c.args.size c.self.inside.entries.entries _ c.requires.fits c.self.invariant
    (written_through _ c.args.resource (λ k. sought c.args.resource k) (cut_bytes c.args.size) c.self.inside.entries.entries
    c.self.inside.entries.entries _ c.in-Some.object.now c.cut.new.self c.in-Some.ensures.value
    (c.get_mut.follows.holds c.cut.new.self).0 made refl))
    (λ same. same_sound c.self.inside.entries.entries _ c.self.invariant
    (kept_through _ c.args.resource (λ k. sought c.args.resource k) c.self.inside.entries.entries c.self.inside.entries.entries _
    c.in-Some.object.now c.cut.new.self c.in-Some.ensures.value (c.get_mut.follows.holds c.cut.new.self).0 same refl))
