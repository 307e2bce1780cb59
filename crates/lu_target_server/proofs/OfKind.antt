-- Which target it is, by the kind of its service.
use Rattle.std.proofs.Common.{◌≡◌, ℕ, ◌==◌, Bool, true, false, refl, sym, ap, ◌∙◌}
use Rattle.std.specs.Prelude.{IsTrue, ◌↔◌}
use Rattle.lu_service.specs.declared.services.Kind.{Kind}
use Rattle.lu_service.specs.declared.services.Kind.TheVariants.{Mdt, Ost}
use Rattle.lu_target_invariant.specs.Sound.{IsKindOf}
use Rattle.lu_target_refines.proofs.Slots.{never}

-- ---- what a service says of itself

pub waits_names : (b : Bool) (kind : Kind) → (IsTrue b ↔ kind ≡ Mdt) → b ≡ true → kind ≡ Mdt
waits_names b kind test is = test.0 is

pub waits_objects : (b : Bool) (kind : Kind) → (IsTrue b ↔ kind ≡ Mdt) → b ≡ false → kind ≡ Ost
waits_objects b Mdt test is = absurd (never (sym (test.1 refl) ∙ is))
waits_objects b Ost test is = refl

-- ---- its number

pub names_id : (id : ℕ) (kind : Kind) → IsKindOf id kind → kind ≡ Mdt → (id == 0) ≡ true
names_id id Mdt is names = ap (λ n. n == 0) is
names_id id Ost is names = absurd (cc)

pub objects_id : (id : ℕ) (kind : Kind) → IsKindOf id kind → kind ≡ Ost → (id == 0) ≡ false
objects_id id Mdt is objects = absurd (cc)
objects_id id Ost is objects = is
