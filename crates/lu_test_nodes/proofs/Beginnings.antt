-- New services show that nothing is there.
use Rattle.std.proofs.Common.{◌≡◌, ℕ, ◌≤◌, [], refl, subst, sym, arith}
use Rattle.lu_service.specs.declared.services.Kind.TheVariants.{Mdt, Ost}
use Rattle.lu_service.specs.Contents.{Contents}
use Rattle.lu_service.specs.Names.{fresh}
use Rattle.lu_service.specs.Objects.{bare}
use Rattle.lu_spec_target.specs.States.{no_contents}
use Rattle.lu_target.specs.Shown.{Shows}

names_at_first : (osts : ℕ) → Shows Mdt osts 1 (fresh osts) no_contents
names_at_first osts = record { past = []; rising = tt; above = omega arith; last = omega arith; targets = refl; tree = refl; rows = refl }

pub names_begin : (osts : ℕ) (own : Contents) → own ≡ fresh osts → Shows Mdt osts 1 own no_contents
names_begin osts own is = subst (λ (c : Contents). Shows Mdt osts 1 c no_contents) (sym is) (names_at_first osts)

objects_at_first : (osts : ℕ) → Shows Ost osts 1 bare no_contents
objects_at_first osts = (omega arith, refl)

pub objects_begin : (osts : ℕ) (own : Contents) → own ≡ bare → Shows Ost osts 1 own no_contents
objects_begin osts own is = subst (λ (c : Contents). Shows Ost osts 1 c no_contents) (sym is) (objects_at_first osts)
