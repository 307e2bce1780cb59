-- How many requests a client has sent after so many turns: a run of fewer than 2^60 turns finds a number for each.
use Rattle.std.proofs.Common.{◌≡◌, refl, ℕ, zero, suc, ◌+◌, ◌*◌, ◌≤◌, ◌<◌, ◌^◌, List, arith}
use Rattle.lu_spec_client.specs.Imports.{Import, import_of}
use Rattle.lu_spec_client.specs.States.{Limits, first_imports}
use Rattle.lu_client.specs.Clients.{first_client}
use Rattle.lu_client.specs.Numbers.{AreCounted, HasAsked, HasNumbers}

none_asked : (n t : ℕ) → (import_of t (first_imports n)).last ≡ 0
none_asked zero t = refl
none_asked (suc n) zero = refl
none_asked (suc n) (suc t) = none_asked n t

-- before the first turn none was asked
pub asked_first : (limits : Limits) (c : ℕ) → HasAsked 0 (first_client limits c).client.imports
asked_first limits c t = let none : (import_of t (first_imports (limits.osts + 1))).last ≡ 0 = none_asked (limits.osts + 1) t in omega arith

pub asked_more : (turns : ℕ) (old new : List Import) → HasAsked turns old → AreCounted old new → HasAsked (turns + 1) new
asked_more turns old new asked counted t =
    let before : (import_of t old).last ≤ 8 * turns = asked t in
    let more : (import_of t new).last ≤ (import_of t old).last + 8 = counted t in
    omega arith

pub asked_few : (turns : ℕ) (imports : List Import) → turns < 2 ^ 60 → HasAsked turns imports → HasNumbers imports
asked_few turns imports few asked t = let most : (import_of t imports).last ≤ 8 * turns = asked t in omega arith
