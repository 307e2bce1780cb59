-- Lines with too few words.
use Rattle.std.proofs.Common.{◌≡◌, ℕ, ◌<◌, ◌≤◌, List, [], ◌∷◌, length, Err, refl, arith}
use Rattle.lu_scene.specs.declared.faults.Fault.TheVariants as faults
use Rattle.lu_scene.specs.declared.scene.Head.{Head}
use Rattle.lu_scene.specs.Lines.{call_line}

-- a call of one word
pub call_line-one : (head : Head) (words : List (List ℕ)) → 1 ≤ length words → length words < 2 → call_line head words ≡ Err faults.Fields
call_line-one head [] least most = absurd (omega arith)
call_line-one head (word ∷ []) least most = refl
call_line-one head (word ∷ second ∷ more) least most = absurd (omega arith)
