-- The order of the tree's lists: directories and files by Fid, and names by their bytes. A list of names
-- is in byte order where each name is below those after it.
use Rattle.std.specs.Prelude.{◌≡◌, ℕ, List, is_some}
use Rattle.std.specs.List.{list_any}
use Rattle.std.specs.List.Sorted.{IsStrictlySortedBy}
use Rattle.std.specs.Map.{keys_of}
use Rattle.lu_base.specs.declared.ids.Fid.{Fid}
use Rattle.lu_base.specs.declared.ids.Who.{Who}
use Rattle.lu_spec_machine.specs.Name.{same_name, name_cmp}
use Rattle.lu_spec_machine.specs.Tree.{Tree, fid_cmp, child, listing}
use Rattle.lu_spec_machine.specs.Footprint.{Operation, empty, after, forget}

abbrev pub InByteOrder : List (List ℕ) → Type 0
InByteOrder names = IsStrictlySortedBy name_cmp names

pub record IsOrdered (t : Tree) : Type 0 where
  pub dirs : IsStrictlySortedBy fid_cmp (keys_of t.dirs)
  pub files : IsStrictlySortedBy fid_cmp (keys_of t.files)
  pub names : (d : Fid) → InByteOrder (listing t d)

-- an ordered tree stays so
abbrev pub OrderStays : Type 0
OrderStays =
    record {
      begins : IsOrdered empty;
      acts : (osts : ℕ) (t : Tree) (a : Operation) → IsOrdered t → IsOrdered (after osts t a);
      forgets : (t : Tree) (who : Who) → IsOrdered t → IsOrdered (forget t who);
    }

-- a directory lists exactly the names that lead somewhere
abbrev pub ListsNames : Type 0
ListsNames = (t : Tree) (d : Fid) (n : List ℕ) → list_any (same_name n) (listing t d) ≡ is_some (child t d n)

-- there is one list in byte order of the same names
abbrev pub ByteOrderIsOne : Type 0
ByteOrderIsOne = (xs ys : List (List ℕ)) → InByteOrder xs → InByteOrder ys
    → ((n : List ℕ) → list_any (same_name n) xs ≡ list_any (same_name n) ys) → xs ≡ ys
