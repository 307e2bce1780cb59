-- What a written part is filed under, and a touched part is looked up under: two parts that meet have a bucket in
-- common. A name or the list of a directory is filed under all that is written there too.
use Rattle.std.specs.Prelude.{Bool, List, [], ◌∷◌}
use Rattle.std.specs.List.{list_any}
use Rattle.lu_part.specs.declared.parts.Part.{Part}
use Rattle.lu_part.specs.declared.parts.Part.TheVariants as part
use Rattle.lu_txn.specs.declared.index.Bucket.{Bucket}
use Rattle.lu_txn.specs.declared.index.Bucket.TheVariants.{Name, Inside, List as Names, Attr, Layout, Parent, Bytes}
use Rattle.lu_txn.specs.contracts.index.BucketPartialEq.TheImpl as equality

-- Both are one bucket.
abbrev pub same_bucket : Bucket → Bucket → Bool
same_bucket = (equality.ghosts).eq

-- It is one of these buckets.
abbrev pub holds : List Bucket → Bucket → Bool
holds buckets b = list_any (λ one. same_bucket one b) buckets

-- where a written part is filed
abbrev pub filing : Part → List Bucket
filing (part.Name directory name) = Name directory name ∷ Inside directory ∷ []
filing (part.List directory) = Names directory ∷ Inside directory ∷ []
filing (part.Attr fid) = Attr fid ∷ []
filing (part.Layout fid) = Layout fid ∷ []
filing (part.Parent fid) = Parent fid ∷ []
filing (part.Bytes fid stripe _) = Bytes fid stripe ∷ []

-- where a touched part is looked up
abbrev pub lookups : Part → List Bucket
lookups (part.Name directory name) = Name directory name ∷ Names directory ∷ []
lookups (part.List directory) = Inside directory ∷ []
lookups (part.Attr fid) = Attr fid ∷ []
lookups (part.Layout fid) = Layout fid ∷ []
lookups (part.Parent fid) = Parent fid ∷ []
lookups (part.Bytes fid stripe _) = Bytes fid stripe ∷ []
