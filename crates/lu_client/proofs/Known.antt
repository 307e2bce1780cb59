-- The boot of a target that a client knows.
use Rattle.std.proofs.Common.{◌≡◌, ℕ, zero, suc, List, [], ◌∷◌, Some, None, refl, ap}
use Rattle.std.specs.Prelude.{slice_get}
use Rattle.lu_import.specs.Imports.{ImportState}
use Rattle.lu_spec_client.specs.Imports.{Import, import_of}
use Rattle.lu_client_refines.specs.Imports.{imports_of}
use Rattle.lu_client_refines.proofs.Targets.{import_of_some}

-- that of its import
pub boot_of_some : (t : ℕ) (is : List ImportState) (i : ImportState) → slice_get is t ≡ Some i → (import_of t (imports_of is)).boot ≡ i.boot
boot_of_some t is i some = ap (λ (x : Import). x.boot) (import_of_some t is i some)

-- of a target that the run doesn't have it is the first
pub boot_of_none : (t : ℕ) (is : List ImportState) → slice_get is t ≡ None → (import_of t (imports_of is)).boot ≡ 1
boot_of_none t [] none = refl
boot_of_none zero (i ∷ is) none = absurd (cc)
boot_of_none (suc t) (i ∷ is) none = boot_of_none t is none
