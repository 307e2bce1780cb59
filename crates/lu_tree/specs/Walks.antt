-- What a walk by names comes to in a tree: an inode, or why it is refused.
use Rattle.std.specs.Prelude.{List, [], ◌∷◌, ◌++◌, ℕ, Option, Some, None, Result, if◌then◌else◌}
use Rattle.std.specs.declared.result.Result.TheVariants.{Ok, Err}
use Rattle.lu_msg.specs.declared.answers.Errno.{Errno}
use Rattle.lu_msg.specs.declared.answers.Errno.TheVariants.{ENOENT, ENOTDIR, ENAMETOOLONG}
use Rattle.lu_part.specs.declared.bits.TheConstants.{LOOKUP}
use Rattle.lu_part.specs.declared.parts.Want.{Want}
use Rattle.lu_part.specs.declared.parts.Part.{Part}
use Rattle.lu_part.specs.declared.parts.Part.TheVariants as part
use Rattle.lu_spec_machine.specs.declared.child.Child.{Child}
use Rattle.lu_spec_machine.specs.declared.child.Child.TheVariants.{Dir, File}
use Rattle.lu_spec_machine.specs.Name.{is_too_long}
use Rattle.lu_spec_machine.specs.Tree.{Tree, fid_of, child}
use Rattle.lu_tree.specs.declared.walks.Found.{Found}

-- a name that is looked up in an inode: in a file there are none
abbrev pub find_in : Tree → Child → List ℕ → Result Found Errno
find_in t (File f) n = Err ENOTDIR
find_in t (Dir d) n = Ok (record { dir = d; child = child t d n })

-- the length of a name comes before all else
abbrev pub find : Tree → Child → List ℕ → Result Found Errno
find t at n = if is_too_long n then Err ENAMETOOLONG else find_in t at n

module _ {A : Type 0} where
  -- what is made of a name that was found, or why it is refused
  abbrev pub if_there : (Child → A) → (Errno → A) → Option Child → A
  if_there next refuse None = refuse ENOENT
  if_there next refuse (Some c) = next c

  abbrev pub if_found : (Child → A) → (Errno → A) → Result Found Errno → A
  if_found next refuse (Err e) = refuse e
  if_found next refuse (Ok x) = if_there next refuse x.child

-- from an inode name by name
abbrev pub reach : Tree → Child → List (List ℕ) → Result Child Errno
reach t at [] = Ok at
reach t at (n ∷ ns) = if_found (λ c. reach t c ns) Err (find t at n)

-- from an inode by all names in front, and then the last one is looked up
abbrev pub find_after : Tree → List ℕ → Result Child Errno → Result Found Errno
find_after t n (Err e) = Err e
find_after t n (Ok at) = find t at n

abbrev pub find_last : Tree → Child → List (List ℕ) → List ℕ → Result Found Errno
find_last t at front n = find_after t n (reach t at front)

-- the inodes that a walk comes to after the first one
abbrev pub trail : Tree → Child → List (List ℕ) → List Child
trail t at [] = []
trail t at (n ∷ ns) = if_found (λ c. c ∷ trail t c ns) (λ e. []) (find t at n)

-- the name that is looked up, if one is
abbrev pub look_of : List ℕ → Result Found Errno → List Part
look_of n (Err e) = []
look_of n (Ok x) = part.Name x.dir n ∷ []

-- the names that a walk looks up
abbrev pub looks : Tree → Child → List (List ℕ) → List Part
looks t at [] = []
looks t at (n ∷ ns) = look_of n (find t at n) ++ if_found (λ c. looks t c ns) (λ e. []) (find t at n)

-- an inode that a walk has come to, if one
abbrev pub only : Option Child → List Child
only None = []
only (Some c) = c ∷ []

-- and the lock on it, where the walk passes it
abbrev pub passed_wants : Option Child → List Want
passed_wants None = []
passed_wants (Some c) = record { fid = fid_of c; bits = LOOKUP } ∷ []
