-- The buckets that keep parts apart. A written part is filed in all buckets in which one that meets it may be looked
-- up: its own, and, where it is a name or the list of a directory, the one of all that is written there.
use Rattle.std.specs.Prelude.{ℕ, List, [], ◌∷◌, fold}
use Rattle.std.specs.Hash as fed
use Rattle.std.specs.Hash.FoldHasher as folding
use Rattle.lu_base.specs.declared.ids.Fid.{Fid}
use Rattle.lu_part.specs.declared.parts.Part.{Part}
use Rattle.lu_part.specs.declared.parts.Part.TheVariants as part
use Rattle.lu_judge_names.specs.declared.index.Kind.{Kind}
use Rattle.lu_judge_names.specs.declared.index.Kind.TheVariants.{Name, Inside, List as Names, Attr, Layout, Parent, Bytes}

abbrev pub kind_number : Kind → ℕ
kind_number Name = 0
kind_number Inside = 1
kind_number Names = 2
kind_number Attr = 3
kind_number Layout = 4
kind_number Parent = 5
kind_number Bytes = 6

-- A hash of the kind, the inode and the name.
unfoldable pub bucket : Kind → Fid → List ℕ → ℕ
bucket kind fid name = folding.finish (folding.write (fold folding.write (fold folding.write folding.initial (fed.u8 (kind_number kind)))
    (fed.u64 fid.0)) name)

-- where a written part is filed
abbrev pub filing : Part → List ℕ
filing (part.Name directory name) = bucket Name directory name ∷ bucket Inside directory [] ∷ []
filing (part.List directory) = bucket Names directory [] ∷ bucket Inside directory [] ∷ []
filing (part.Attr fid) = bucket Attr fid [] ∷ []
filing (part.Layout fid) = bucket Layout fid [] ∷ []
filing (part.Parent fid) = bucket Parent fid [] ∷ []
filing (part.Bytes fid _ _) = bucket Bytes fid [] ∷ []

-- where a touched part is looked up
abbrev pub lookups : Part → List ℕ
lookups (part.Name directory name) = bucket Name directory name ∷ bucket Names directory [] ∷ []
lookups (part.List directory) = bucket Inside directory [] ∷ []
lookups (part.Attr fid) = bucket Attr fid [] ∷ []
lookups (part.Layout fid) = bucket Layout fid [] ∷ []
lookups (part.Parent fid) = bucket Parent fid [] ∷ []
lookups (part.Bytes fid _ _) = bucket Bytes fid [] ∷ []
