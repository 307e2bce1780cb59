-- The imports of a client at the start of a run, and as a new life begins.
use Rattle.std.proofs.Common.{◌≡◌, ℕ, zero, suc, ◌+◌, List, [], ◌∷◌, ◌++◌, map, refl, sym, ap, ◌∙◌, arith, add-one}
use Rattle.std.proofs.lemmas.List.{map-append}
use Rattle.lu_base.specs.declared.ids.Who.{Who}
use Rattle.lu_import.specs.Kept.{KeptState, forgotten, IsSettled}
use Rattle.lu_import.specs.Imports.{ImportState, IsSound, reborn}
use Rattle.lu_spec_entries.specs.Words.{Life}
use Rattle.lu_spec_client.specs.Imports.{Import, first_import, imports_from, imports_after}
use Rattle.lu_spec_client.specs.States.{Limits, first_imports}
use Rattle.lu_client_refines.specs.Imports.{import_of_state, imports_of, AreImports}
use Rattle.lu_client_refines.proofs.Imports.{begins_one}

-- ---- at the start of a run

first_push : (n : ℕ) → first_imports n ++ first_import ∷ [] ≡ first_imports (suc n)
first_push zero = refl
first_push (suc n) = ap (λ (is : List Import). first_import ∷ is) (first_push n)

-- one target more
pub started_push : (n : ℕ) (is : List ImportState) (new : ImportState) → imports_of is ≡ first_imports n → import_of_state new
    ≡ first_import → imports_of (is ++ new ∷ []) ≡ first_imports (n + 1)
started_push n is new first one =
    map-append import_of_state is (new ∷ [])
    ∙ ap (λ (i : Import). imports_of is ++ i ∷ []) one
    ∙ ap (λ (js : List Import). js ++ first_import ∷ []) first
    ∙ first_push n
    ∙ ap first_imports (sym (add-one n))

-- ---- a new life begins

nothing_settled : (kept : KeptState) → IsSettled (forgotten kept)
nothing_settled kept =
    record {
      seen = λ k less. absurd (omega arith);
      unsettled = λ k d inside. absurd (omega arith);
      replays = λ i j d less inside. absurd (omega arith);
      uncommitted = λ k d inside. absurd (omega arith);
    }

-- its import is sound
pub reborn_sound : (who : Who) (i : ImportState) → IsSound i → IsSound (reborn who i)
reborn_sound who i sound =
    record {
      flight = sound.flight;
      most = omega arith;
      rising = λ i j d less inside. absurd (omega arith);
      given = λ k d inside. absurd (omega arith);
      tags = λ i j d less inside. absurd (omega arith);
      range = λ k d inside. absurd (omega arith);
      objects = λ ost i j d less inside. absurd (omega arith);
      kept = nothing_settled i.kept;
    }

reborn_from : (who : Who) (n : ℕ) (is : List ImportState) → imports_of (map (reborn who) is) ≡ imports_from n (imports_of is) (Life who)
reborn_from who n [] = refl
reborn_from who n (i ∷ is) = ap (λ (js : List Import). import_of_state (reborn who i) ∷ js) (reborn_from who (suc n) is)

-- each of its imports begins anew
pub imports_reborn : (who : Who) (is : List ImportState) → imports_of (map (reborn who) is) ≡ imports_after (imports_of is) (Life who)
imports_reborn who is = reborn_from who 0 is

-- they are those of the new life
pub are_reborn : (limits : Limits) (who next : Who) (n : ℕ) (is : List ImportState) → AreImports limits who n is
    → AreImports limits next n (map (reborn next) is)
are_reborn limits who next n [] are = tt
are_reborn limits who next n (i ∷ is) are = (
  begins_one limits who next n i (reborn next i) refl (reborn_sound next i are.0.sound) are.0,
  are_reborn limits who next (suc n) is are.1,
)
