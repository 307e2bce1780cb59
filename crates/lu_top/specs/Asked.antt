-- The scenario that a command line asks for.
use Rattle.std.specs.Prelude.{◌≡◌, ℕ, ◌≤◌, List, length, Option, Some, Result, Ok, Err}
use Rattle.lu_base.specs.Faults.{Rose, ReadWhole}
use Rattle.lu_scene.specs.Grammar.{IsScene}
use Rattle.lu_scene.specs.Storms.{storm_of}
use Rattle.lu_scene.specs.declared.scene.Scene.{Scene}
use Rattle.lu_top.specs.declared.forms.Performance.{Performance}
use Rattle.lu_top.specs.declared.forms.Performance.TheVariants.{Play, Storm}
use Rattle.lu_top.specs.declared.forms.Form.{Form}
use Rattle.lu_top.specs.declared.forms.Form.TheVariants.{Perform, Judge}
use Rattle.lu_top.specs.declared.scenes.Refusal.{Refusal}
use Rattle.lu_top.specs.declared.scenes.Refusal.TheVariants as refusal

-- ---- what the source gave

-- the most bytes that a scenario has
abbrev pub most_scene_bytes : ℕ
most_scene_bytes = 1048576

-- the most bytes that the text of a trace has
abbrev pub most_trace_bytes : ℕ
most_trace_bytes = 67108864

-- the most bytes that are read for a form
abbrev pub most_bytes : Form → ℕ
most_bytes (Perform performance) = most_scene_bytes
most_bytes Judge = most_trace_bytes

-- it was read to its end, it gave at most so many bytes, and this holds of them
abbrev pub WasRead : ℕ → Option (List ℕ) → Option (List ℕ) → (List ℕ → Type 0) → Type 0
WasRead most old new P = (text : List ℕ) × ReadWhole old new text × (length text ≤ most) × P text

-- these are the bytes that it has, not more than so many, and it met no fault
pub record IsGiven (most : ℕ) (left : Option (List ℕ)) (before now : ℕ) (text : List ℕ) : Type 0 where
  pub bytes : left ≡ Some text
  pub fits : length text ≤ most
  pub calm : ¬ Rose before now

-- ---- the scenario of a performance: that of the text that was read; or the storm of the number, and the source is as it was

abbrev pub IsSceneBy : Performance → Option (List ℕ) → Option (List ℕ) → Scene → Type 0
IsSceneBy Play old new scene = WasRead most_scene_bytes old new (λ text. IsScene text scene)
IsSceneBy (Storm seed) old new scene = (new ≡ old) × (scene ≡ storm_of seed)

-- there is none: the bytes are no scenario, or memory ran out
abbrev pub IsRefusal : Result Scene Refusal → Type 0
IsRefusal (Ok scene) = ⊥
IsRefusal (Err (refusal.Bad line fault)) = Unit {0}
IsRefusal (Err refusal.Memory) = Unit {0}
IsRefusal (Err _) = ⊥
