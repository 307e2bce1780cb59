use Rattle.std.proofs.Common.{◌≡◌, ◌<◌, ◌∙◌, sym, ap, subst, length, arith, rules, OnOk}
use Rattle.lu_spec_machine.specs.Places.{RisingFrom}
use Rattle.lu_spec_machine.proofs.Places.{rising_laid}
use Rattle.lu_object.proofs.Cuts.{put_is_laid}
use Rattle.lu_object.proofs.Either.{either}
use Rattle.lu_object.proofs.objects.Object.write.Goals as goal

pub invariant_of-self : goal.invariant_of-self
invariant_of-self c =
    either c.lay.result c.lay.ensures.laid c.lay.ensures.kept
    (λ is. subst (λ m. RisingFrom 0 m) (sym is) (rising_laid c.args.at c.args.from.now c.self.inside.bytes c.self.invariant))
    (λ is. subst (λ m. RisingFrom 0 m) (sym is) c.self.invariant)
