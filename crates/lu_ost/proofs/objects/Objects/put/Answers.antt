-- The object that is there is written through.
use Rattle.std.proofs.Common.{◌∙◌, sym, ap, refl, subst, arith, List, []}
use Rattle.std.proofs.lemmas.Result.{on_ok_weaker, on_err_weaker}
use Rattle.lu_spec_machine.specs.Objects.{put_bytes}
use Rattle.lu_base.specs.declared.locks.Resource.{Resource}
use Rattle.lu_spec_machine.specs.Objects.{Object}
use Rattle.lu_ost.specs.Stored.{sound_in, put_sound}
use Rattle.lu_service.specs.Contents.{object_in, IsObject}
use Rattle.lu_object.proofs.Either.{either}
use Rattle.lu_ost.proofs.Lookups.{written_through, kept_through, begun_new, entries_same, sought}
use Rattle.lu_ost.proofs.Sound.{put_all_sound, same_sound}
use Rattle.lu_ost.proofs.objects.Objects.put.Goals as goal

pub returns-in-Some-clause-put : goal.returns-in-Some-clause-put
returns-in-Some-clause-put c =
    on_ok_weaker c.write.result
    (λ made. written_through _ c.args.resource (λ k. sought c.args.resource k) (put_bytes c.args.offset c.args.bytes.now)
    c.self.inside.entries.entries c.args.self.now _ c.in-Some.object.now c.write.new.self c.in-Some.ensures.value
    (c.get_mut.follows.holds c.write.new.self).0 made c.self.view_is)
    c.write.ensures.written

pub returns-in-Some-clause-kept : goal.returns-in-Some-clause-kept
returns-in-Some-clause-kept c =
    on_err_weaker c.write.result
    (λ same. kept_through _ c.args.resource (λ k. sought c.args.resource k) c.self.inside.entries.entries c.args.self.now _
    c.in-Some.object.now c.write.new.self c.in-Some.ensures.value (c.get_mut.follows.holds c.write.new.self).0 same c.self.view_is)
    c.write.ensures.kept

pub returns-clause-put : goal.returns-clause-put
returns-clause-put c =
    let stays = entries_same c.get_mut.follows.holds-at-none ∙ c.self.view_is in
    on_ok_weaker c.begin.result
    (λ begun. begun ∙ begun_new _ c.args.resource (λ k. sought c.args.resource k) (put_bytes c.args.offset c.args.bytes.now)
    c.self.inside.entries.entries c.args.self.now _ _ _ c.in_default.ensures.value c.self.view_is stays c.in_ok-write.ensures.written
    c.new-object.ensures.empty)
    c.begin.ensures.begun

pub invariant_of-self : goal.invariant_of-self
invariant_of-self c =
    either c.write.result c.write.ensures.written c.write.ensures.kept
    (λ made. put_all_sound c.args.resource c.args.offset c.args.bytes.now c.self.inside.entries.entries _ c.requires.fits c.self.invariant
    (written_through _ c.args.resource (λ k. sought c.args.resource k) (put_bytes c.args.offset c.args.bytes.now)
    c.self.inside.entries.entries c.self.inside.entries.entries _ c.in-Some.object.now c.write.new.self c.in-Some.ensures.value
    (c.get_mut.follows.holds c.write.new.self).0 made refl))
    (λ same. same_sound c.self.inside.entries.entries _ c.self.invariant
    (kept_through _ c.args.resource (λ k. sought c.args.resource k) c.self.inside.entries.entries c.self.inside.entries.entries _
    c.in-Some.object.now c.write.new.self c.in-Some.ensures.value (c.get_mut.follows.holds c.write.new.self).0 same refl))

pub returns-in-Some-clause-sound : goal.returns-in-Some-clause-sound
returns-in-Some-clause-sound c = subst (λ (es : List (Resource × Object)). IsObject (object_in es c.args.resource)) c.self.view_is
    (sound_in c.self.inside.entries.entries c.args.resource c.self.invariant)

pub returns-in_err-write-clause-sound : goal.returns-in_err-write-clause-sound
returns-in_err-write-clause-sound c = subst (λ (es : List (Resource × Object)). IsObject (object_in es c.args.resource)) c.self.view_is
    (sound_in c.self.inside.entries.entries c.args.resource c.self.invariant)

pub returns-clause-sound : goal.returns-clause-sound
returns-clause-sound c = subst (λ (es : List (Resource × Object)). IsObject (object_in es c.args.resource)) c.self.view_is
    (sound_in c.self.inside.entries.entries c.args.resource c.self.invariant)

pub begin-requires : goal.begin-requires
begin-requires c =
    record {
      sound = subst IsObject (sym (c.in_ok-write.ensures.written
          ∙ ap (put_bytes c.args.offset c.args.bytes.now) c.new-object.ensures.empty))
          (put_sound c.args.offset c.args.bytes.now [] c.requires.fits (tt, omega arith));
    }
