-- The numbers that an act has seen, and the removal law by them: what is kept saw only what is kept.
use Rattle.std.specs.Prelude.{◌≡◌, ℕ, Bool, true, List, [], ◌∷◌, if◌then◌else◌}
use Rattle.std.specs.List.{list_any}
use Rattle.lu_part.specs.declared.parts.Part.{Part}
use Rattle.lu_part.specs.Meets.{meets}
use Rattle.lu_spec_machine.specs.Tree.{Tree}
use Rattle.lu_spec_machine.specs.Footprint.{Operation, touches, writes, Every}
use Rattle.lu_spec_machine.specs.Removal.{Item, Acts, Forgets, pick, contents, Older}
use Rattle.lu_spec_machine.specs.Laws.{Alike}
use Rattle.lu_spec_machine.specs.Trim.{Rising, trimmed}

-- a part of one list meets a part of the other
abbrev pub meet : List Part → List Part → Bool
meet ws ps = list_any (λ p. list_any (λ w. meets w p) ws) ps

module _ (osts : ℕ) (of : List Item → Tree) where
  -- the numbers of the acts of a past whose writes meet what is touched: the newest first, and all of them,
  -- for the list isn't cut at the number that is committed
  abbrev pub seen : List Item → List Part → List ℕ
  seen [] ps = []
  seen (Acts a ∷ past) ps = if meet (writes osts (of past) a) ps then a.number.0 ∷ seen past ps else seen past ps
  seen (Forgets who ∷ past) ps = seen past ps

  abbrev pub SawKept : (ℕ → Bool) → List Item → Operation → Type 0
  SawKept keep past a = Every (λ n. keep n ≡ true) (seen past (touches osts (of past) a))

  -- each act that stays saw only acts that stay
  abbrev pub AllSawKept : (ℕ → Bool) → List Item → Type 0
  AllSawKept keep [] = Unit {0}
  AllSawKept keep (Acts a ∷ past) = (keep a.number.0 ≡ true → SawKept keep past a) × AllSawKept keep past
  AllSawKept keep (Forgets who ∷ past) = AllSawKept keep past

abbrev pub RemovalBySeen : Type 0
RemovalBySeen =
    (osts : ℕ) (start : Tree) (keep : ℕ → Bool) → keep 1 ≡ true → Older keep start → (past : List Item)
    → AllSawKept osts (contents osts start) keep past → (a : Operation) → SawKept osts (contents osts start) keep past a
    → Alike osts (contents osts start past) (contents osts start (pick keep past)) a

abbrev pub TrimmedRemovalBySeen : Type 0
TrimmedRemovalBySeen =
    (osts : ℕ) (keep : ℕ → Bool) → keep 1 ≡ true → (past : List Item) → Rising past → AllSawKept osts (trimmed osts) keep past
    → (a : Operation) → SawKept osts (trimmed osts) keep past a
    → Alike osts (trimmed osts past) (trimmed osts (pick keep past)) a
