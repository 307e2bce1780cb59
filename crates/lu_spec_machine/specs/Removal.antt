-- Transactions taken out of what a target has executed. A past has its newest item first.
use Rattle.std.specs.Prelude.{◌≡◌, ℕ, Bool, true, false, List, [], ◌∷◌, Some, if◌then◌else◌}
use Rattle.lu_base.specs.declared.ids.Fid.{Fid}
use Rattle.lu_base.specs.declared.ids.Who.{Who}
use Rattle.lu_part.specs.declared.parts.Part.{Part}
use Rattle.lu_spec_machine.specs.declared.child.Child.{Child}
use Rattle.lu_spec_machine.specs.Tree.{Tree, child, fid_of}
use Rattle.lu_spec_machine.specs.Footprint.{Operation, after, writes, touches, forget, Apart, Every}

-- an act, or the opens of a removed life forgotten
pub data Item : Type 0 where
  Acts : (a : Operation) → Item
  Forgets : (who : Who) → Item

-- the items that stay: acts go whose numbers aren't kept
abbrev pub pick : (ℕ → Bool) → List Item → List Item
pick keep [] = []
pick keep (Acts a ∷ past) = if keep a.number.0 then Acts a ∷ pick keep past else pick keep past
pick keep (Forgets who ∷ past) = Forgets who ∷ pick keep past

module _ (osts : ℕ) (start : Tree) where
  abbrev pub contents : List Item → Tree
  contents [] = start
  contents (Acts a ∷ past) = after osts (contents past) a
  contents (Forgets who ∷ past) = forget (contents past) who

-- over contents that are given for each past
module _ (osts : ℕ) (keep : ℕ → Bool) (of : List Item → Tree) where
  -- the part meets nothing that one taken out wrote
  abbrev pub ClearOf : List Item → Part → Type 0
  ClearOf [] p = Unit {0}
  ClearOf (Acts a ∷ past) p = (keep a.number.0 ≡ false → Apart (writes osts (of past) a) p) × ClearOf past p
  ClearOf (Forgets who ∷ past) p = ClearOf past p

  -- what an act touches is clear
  abbrev pub UntouchedOf : List Item → Operation → Type 0
  UntouchedOf past a = Every (ClearOf past) (touches osts (of past) a)

  -- no remaining one touched what an earlier one taken out wrote
  abbrev pub FreeOf : List Item → Type 0
  FreeOf [] = Unit {0}
  FreeOf (Acts a ∷ past) = (keep a.number.0 ≡ true → UntouchedOf past a) × FreeOf past
  FreeOf (Forgets who ∷ past) = FreeOf past

abbrev pub Clear : ℕ → Tree → (ℕ → Bool) → List Item → Part → Type 0
Clear osts start keep past p = ClearOf osts keep (contents osts start) past p

abbrev pub Untouched : ℕ → Tree → (ℕ → Bool) → List Item → Operation → Type 0
Untouched osts start keep past a = UntouchedOf osts keep (contents osts start) past a

abbrev pub Free : ℕ → Tree → (ℕ → Bool) → List Item → Type 0
Free osts start keep past = FreeOf osts keep (contents osts start) past

-- no name leads to an inode that one taken out is to make: the start was there before
abbrev pub Older : (ℕ → Bool) → Tree → Type 0
Older keep t = (d : Fid) (n : List ℕ) (c : Child) → child t d n ≡ Some c → keep (fid_of c).0 ≡ true
