-- A tree whose files live only as long as a name or an open has them. The tree of the table keeps the
-- record of a file that has left; nobody can tell the two apart.
use Rattle.std.specs.Prelude.{◌≡◌, ℕ, ◌<◌, Bool, true, List, [], ◌∷◌, Some, ◌||◌, nat_lt}
use Rattle.std.specs.List.{filter, list_any}
use Rattle.lu_base.specs.declared.ids.Fid.{Fid}
use Rattle.lu_spec_machine.specs.declared.child.Child.TheVariants.{File}
use Rattle.lu_spec_machine.specs.Tree.{Tree, Inode, Opened, same_fid, file, child}
use Rattle.lu_spec_machine.specs.Footprint.{Operation, empty, after, forget}
use Rattle.lu_spec_machine.specs.Removal.{Item, Acts, Forgets, pick, contents, UntouchedOf, FreeOf}
use Rattle.lu_spec_machine.specs.Laws.{Alike}

abbrev pub is_open : Fid → List Opened → Bool
is_open f opens = list_any (λ o. same_fid o.fid f) opens

-- whether a file is alive: a name leads to it, as its links count them, or it is open
abbrev pub is_alive : List Opened → Fid × Inode → Bool
is_alive opens e = nat_lt 0 e.1.links || is_open e.0 opens

abbrev pub living : List Opened → List (Fid × Inode) → List (Fid × Inode)
living opens files = filter (is_alive opens) files

abbrev pub trim : Tree → Tree
trim t = record t { files = living t.opens t.files }

-- what acts and removed lives leave of an empty tree, where each file leaves with its last name and open
abbrev pub trimmed : ℕ → List Item → Tree
trimmed osts [] = empty
trimmed osts (Acts a ∷ past) = trim (after osts (trimmed osts past) a)
trimmed osts (Forgets who ∷ past) = trim (forget (trimmed osts past) who)

-- the numbers of a past are below n, and so is the root's
abbrev pub Above : List Item → ℕ → Type 0
Above [] n = 1 < n
Above (Acts a ∷ past) n = (a.number.0 < n) × Above past n
Above (Forgets who ∷ past) n = Above past n

-- numbers rise
abbrev pub Rising : List Item → Type 0
Rising [] = Unit {0}
Rising (Acts a ∷ past) = Above past a.number.0 × Rising past
Rising (Forgets who ∷ past) = Rising past

-- nobody can tell the two trees apart
abbrev pub Unseen : Type 0
Unseen = (osts : ℕ) (past : List Item) → Rising past → (a : Operation) → Alike osts (contents osts empty past) (trimmed osts past) a

-- the removal law of that tree
abbrev pub TrimmedRemoval : Type 0
TrimmedRemoval =
    (osts : ℕ) (keep : ℕ → Bool) → keep 1 ≡ true → (past : List Item) → Rising past → FreeOf osts keep (trimmed osts) past → (a : Operation)
    → UntouchedOf osts keep (trimmed osts) past a
    → Alike osts (trimmed osts past) (trimmed osts (pick keep past)) a

-- a file that a name leads to has a link
abbrev pub NamedHaveLinks : Type 0
NamedHaveLinks = (osts : ℕ) (past : List Item) → Rising past → (d : Fid) (n : List ℕ) (f : Fid) → child (contents osts empty past) d n
    ≡ Some (File f) → 0 < (file (contents osts empty past) f).links
