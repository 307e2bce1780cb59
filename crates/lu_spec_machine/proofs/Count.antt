-- A file has at least as many links as names lead to it: how each change moves the count of names.
use Rattle.std.proofs.Common.{◌≡◌, ℕ, ◌+◌, ◌≤◌, Bool, true, false, not, List, [], ◌∷◌, Option, Some, None, refl, ap, arith}
use Rattle.std.specs.Prelude.{if◌then◌else◌}
use Rattle.std.specs.Option.{unwrap_or}
use Rattle.std.specs.Map.{lookup}
use Rattle.std.specs.Ordering.{is_lt}
use Rattle.std.proofs.lemmas.Bool.{cond_both}
use Rattle.lu_base.specs.declared.ids.Fid.{Fid}
use Rattle.lu_spec_machine.specs.declared.child.Child.{Child}
use Rattle.lu_spec_machine.specs.declared.child.Child.TheVariants.{Dir, File}
use Rattle.lu_spec_machine.specs.Name.{same_name, name_cmp}
use Rattle.lu_spec_machine.specs.Entries.{without, place}
use Rattle.lu_spec_machine.specs.Tree.{Tree, Directory, no_directory, same_fid, fid_cmp, directory, child}
use Rattle.lu_spec_machine.specs.Change.{Change, Leads, Drops, Parted, MakesDir, MakesFile, SetMode, SetLinks, Leaves, Opens, Closes}
use Rattle.lu_spec_machine.specs.Change.{new_directory, put_dir, put_name, leave, change}

abbrev pub is_file : Fid → Child → ℕ
is_file f (Dir d) = 0
is_file f (File g) = if same_fid g f then 1 else 0

abbrev pub found_file : Fid → Option Child → ℕ
found_file f None = 0
found_file f (Some c) = is_file f c

abbrev pub named_in : Fid → List (List ℕ × Child) → ℕ
named_in f [] = 0
named_in f (e ∷ es) = is_file f e.1 + named_in f es

-- how many names lead to the file
abbrev pub named : Fid → List (Fid × Directory) → ℕ
named f [] = 0
named f (e ∷ es) = named_in f e.1.entries + named f es

in_place : (f : Fid) (n : List ℕ) (c : Child) (es : List (List ℕ × Child)) → named_in f (place name_cmp n c es)
    ≡ is_file f c + named_in f es
in_place f n c [] = refl
in_place f n c (e ∷ es) =
    let ih = in_place f n c es in
    cond_both (is_lt (name_cmp n e.0)) ((n, c) ∷ e ∷ es) (e ∷ place name_cmp n c es)
    (λ xs. named_in f xs ≡ is_file f c + (is_file f e.1 + named_in f es)) (λ t. refl) (λ t. omega (arith, ih))

in_without : (f : Fid) (n : List ℕ) (es : List (List ℕ × Child))
    → named_in f (without (same_name n) es) + found_file f (lookup (same_name n) es) ≤ named_in f es
in_without f n [] = omega arith
in_without f n (e ∷ es) = by (same_name n e.0) (in_without f n es)
  where
    by : (b : Bool) → named_in f (without (same_name n) es) + found_file f (lookup (same_name n) es) ≤ named_in f es
        → named_in f (if not b then e ∷ without (same_name n) es else without (same_name n) es) + found_file f
        (if b then Some e.1 else lookup (same_name n) es) ≤ is_file f e.1 + named_in f es
    by true ih = omega (arith, ih)
    by false ih = omega (arith, ih)

in_put : (f : Fid) (n : List ℕ) (c : Child) (es : List (List ℕ × Child))
    → named_in f (put_name n c es) + found_file f (lookup (same_name n) es) ≤ named_in f es + is_file f c
in_put f n c es = omega (arith, in_place f n c (without (same_name n) es), in_without f n es)

dirs_without : (f d : Fid) (ds : List (Fid × Directory)) → named f (without (same_fid d) ds) + named_in f
    (unwrap_or (lookup (same_fid d) ds) no_directory).entries ≤ named f ds
dirs_without f d [] = omega arith
dirs_without f d (e ∷ es) = by (same_fid d e.0) (dirs_without f d es)
  where
    by : (b : Bool) → named f (without (same_fid d) es) + named_in f (unwrap_or (lookup (same_fid d) es) no_directory).entries ≤ named f es
        → named f (if not b then e ∷ without (same_fid d) es else without (same_fid d) es) + named_in f
        (unwrap_or (if b then Some e.1 else lookup (same_fid d) es) no_directory).entries ≤ named_in f e.1.entries + named f es
    by true ih = omega (arith, ih)
    by false ih = omega (arith, ih)

dirs_place : (f d : Fid) (x : Directory) (ds : List (Fid × Directory)) → named f (place fid_cmp d x ds) ≡ named_in f x.entries + named f ds
dirs_place f d x [] = refl
dirs_place f d x (e ∷ es) =
    let ih = dirs_place f d x es in
    cond_both (is_lt (fid_cmp d e.0)) ((d, x) ∷ e ∷ es) (e ∷ place fid_cmp d x es)
    (λ xs. named f xs ≡ named_in f x.entries + (named_in f e.1.entries + named f es)) (λ t. refl) (λ t. omega (arith, ih))

dirs_put : (f d : Fid) (x : Directory) (ds : List (Fid × Directory))
    → named f (put_dir d x ds) + named_in f (unwrap_or (lookup (same_fid d) ds) no_directory).entries ≤ named f ds + named_in f x.entries
dirs_put f d x ds = omega (arith, dirs_place f d x (without (same_fid d) ds), dirs_without f d ds)

-- what the name led to is taken from the count, what it leads to is given
abbrev pub taken : Tree → Change → Fid → ℕ
taken t (Leads d n c) f = found_file f (child t d n)
taken t (Drops d n) f = found_file f (child t d n)
taken t _ f = 0

abbrev pub given : Change → Fid → ℕ
given (Leads d n c) f = is_file f c
given _ f = 0

left_named : (f d : Fid) (ds : List (Fid × Directory)) (es : List (List ℕ × Child))
    → (unwrap_or (lookup (same_fid d) ds) no_directory).entries ≡ es → named f (leave d es ds) ≤ named f ds
left_named f d ds [] is = omega (arith, dirs_without f d ds)
left_named f d ds (e ∷ es) is = omega (arith, dirs_put f d (record { mode = 0; entries = e ∷ es }) ds, ap (named_in f) is)

pub named_after : (t : Tree) (x : Change) (f : Fid) → named f (change t x).dirs + taken t x f ≤ named f t.dirs + given x f
named_after t (Leads d n c) f = omega (
  arith,
  dirs_put f d (record
      { mode = (directory t d).mode; entries = put_name n c (directory t d).entries }) t.dirs,
  in_put f n c (directory t d).entries,
)
named_after t (Drops d n) f = omega (
  arith,
  dirs_put f d (record
      { mode = (directory t d).mode; entries = without (same_name n) (directory t d).entries }) t.dirs,
  in_without f n (directory t d).entries,
)
named_after t (Parted g) f = omega arith
named_after t (MakesDir g) f = omega (arith, dirs_put f g new_directory t.dirs)
named_after t (MakesFile g l) f = omega arith
named_after t (SetMode (Dir g) m) f = omega (arith, dirs_put f g (record { mode = m; entries = (directory t g).entries }) t.dirs)
named_after t (SetMode (File g) m) f = omega arith
named_after t (SetLinks g k) f = omega arith
named_after t (Leaves g) f = omega (arith, left_named f g t.dirs (directory t g).entries refl)
named_after t (Opens k l g) f = omega arith
named_after t (Closes k l) f = omega arith

pub found_named : (t : Tree) (f d : Fid) (n : List ℕ) → found_file f (child t d n) ≤ named f t.dirs
found_named t f d n = omega (arith, dirs_without f d t.dirs, in_without f n (directory t d).entries)
