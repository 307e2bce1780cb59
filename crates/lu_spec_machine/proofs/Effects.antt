-- What each change does to each part.
use Rattle.std.proofs.Common.{◌≡◌, ℕ, List, [], ◌∷◌, refl, ap, arith}
use Rattle.std.specs.Prelude.{if◌then◌else◌}
use Rattle.std.specs.Option.{unwrap_or}
use Rattle.std.specs.Map.{keys_of, lookup}
use Rattle.std.proofs.lemmas.Bool.Decides.{nat_tests}
use Rattle.lu_base.specs.declared.ids.Fid.{Fid}
use Rattle.lu_spec_machine.specs.declared.child.Child.{Child}
use Rattle.lu_spec_machine.specs.declared.child.Child.TheVariants.{Dir, File}
use Rattle.lu_spec_machine.specs.Name.{same_name, name_cmp}
use Rattle.lu_spec_machine.specs.Entries.{without}
use Rattle.lu_spec_machine.specs.Tree.{Tree, Directory, Inode, no_directory, no_file, same_fid, fid_cmp, directory, file, child, listing}
use Rattle.lu_spec_machine.specs.Tree.{attributes, layout}
use Rattle.lu_spec_machine.specs.Change.{Change, Leads, Drops, Parted, MakesDir, MakesFile, SetMode, SetLinks, Leaves, Opens, Closes}
use Rattle.lu_spec_machine.specs.Change.{new_directory, new_file, put_dir, put_file, put_name, leave, change}
use Rattle.lu_spec_machine.specs.Effect.{on_name, on_listing, on_attributes, on_layout}
use Rattle.lu_spec_machine.proofs.Keys.{find-without, find-put, fid_tells, name_tells, names-put, names-without}

-- what stands under a number
pub dir_put : (d : Fid) (x : Directory) (e : Fid) (ds : List (Fid × Directory))
    → unwrap_or (lookup (same_fid e) (put_dir d x ds)) no_directory
    ≡ (if same_fid d e then x else unwrap_or (lookup (same_fid e) ds) no_directory)
dir_put d x e ds = let h = find-put same_fid fid_tells fid_cmp d x e ds in grind (arith, nat_tests, h)

pub file_put : (f : Fid) (x : Inode) (g : Fid) (fs : List (Fid × Inode)) → unwrap_or (lookup (same_fid g) (put_file f x fs)) no_file
    ≡ (if same_fid f g then x else unwrap_or (lookup (same_fid g) fs) no_file)
file_put f x g fs = let h = find-put same_fid fid_tells fid_cmp f x g fs in grind (arith, nat_tests, h)

dir_without : (d e : Fid) (ds : List (Fid × Directory)) → unwrap_or (lookup (same_fid e) (without (same_fid d) ds)) no_directory
    ≡ (if same_fid d e then no_directory else unwrap_or (lookup (same_fid e) ds) no_directory)
dir_without d e ds = let h = find-without same_fid fid_tells d e ds in grind (arith, nat_tests, h)

-- what a directory that leaves has left
pub left_entries : (d e : Fid) (ds : List (Fid × Directory)) (es : List (List ℕ × Child))
    → (unwrap_or (lookup (same_fid d) ds) no_directory).entries ≡ es
    → (unwrap_or (lookup (same_fid e) (leave d es ds)) no_directory).entries ≡ (unwrap_or (lookup (same_fid e) ds) no_directory).entries
left_entries d e ds [] is = let h = dir_without d e ds in grind (arith, nat_tests, fid_tells, h)
left_entries d e ds (n ∷ ns) is = let h = dir_put d (record { mode = 0; entries = n ∷ ns }) e ds in grind (arith, nat_tests, fid_tells, h)

left_mode : (d e : Fid) (ds : List (Fid × Directory)) (es : List (List ℕ × Child))
    → (unwrap_or (lookup (same_fid e) (leave d es ds)) no_directory).mode
    ≡ (if same_fid d e then 0 else (unwrap_or (lookup (same_fid e) ds) no_directory).mode)
left_mode d e ds [] = let h = dir_without d e ds in grind (arith, nat_tests, h)
left_mode d e ds (n ∷ ns) = let h = dir_put d (record { mode = 0; entries = n ∷ ns }) e ds in grind (arith, nat_tests, h)

pub name_after : (t : Tree) (x : Change) (e : Fid) (m : List ℕ) → child (change t x) e m ≡ on_name x e m (child t e m)
name_after t (Leads d n c) e m =
    let h = dir_put d (record { mode = (directory t d).mode; entries = put_name n c (directory t d).entries }) e t.dirs in
    let k = find-put same_name name_tells name_cmp n c m (directory t d).entries in
    grind (arith, nat_tests, fid_tells, h, k)
name_after t (Drops d n) e m =
    let h = dir_put d (record { mode = (directory t d).mode; entries = without (same_name n) (directory t d).entries }) e t.dirs in
    let k = find-without same_name name_tells n m (directory t d).entries in
    grind (arith, nat_tests, fid_tells, h, k)
name_after t (Parted f) e m = refl
name_after t (MakesDir d) e m = let h = dir_put d new_directory e t.dirs in grind (arith, nat_tests, h)
name_after t (MakesFile f l) e m = refl
name_after t (SetMode (Dir d) k) e m = let h = dir_put d (record { mode = k; entries = (directory t d).entries }) e t.dirs
    in grind (arith, nat_tests, fid_tells, h)
name_after t (SetMode (File f) k) e m = refl
name_after t (SetLinks f k) e m = refl
name_after t (Leaves d) e m = ap (lookup (same_name m)) (left_entries d e t.dirs (directory t d).entries refl)
name_after t (Opens number life f) e m = refl
name_after t (Closes number life) e m = refl

pub listing_after : (t : Tree) (x : Change) (e : Fid) → listing (change t x) e ≡ on_listing x e (listing t e)
listing_after t (Leads d n c) e =
    let h = dir_put d (record { mode = (directory t d).mode; entries = put_name n c (directory t d).entries }) e t.dirs in
    let k = names-put n c (directory t d).entries in
    grind (arith, nat_tests, fid_tells, h, k)
listing_after t (Drops d n) e =
    let h = dir_put d (record { mode = (directory t d).mode; entries = without (same_name n) (directory t d).entries }) e t.dirs in
    let k = names-without n (directory t d).entries in
    grind (arith, nat_tests, fid_tells, h, k)
listing_after t (Parted f) e = refl
listing_after t (MakesDir d) e = let h = dir_put d new_directory e t.dirs in grind (arith, nat_tests, h)
listing_after t (MakesFile f l) e = refl
listing_after t (SetMode (Dir d) k) e = let h = dir_put d (record { mode = k; entries = (directory t d).entries }) e t.dirs
    in grind (arith, nat_tests, fid_tells, h)
listing_after t (SetMode (File f) k) e = refl
listing_after t (SetLinks f k) e = refl
listing_after t (Leaves d) e = ap keys_of (left_entries d e t.dirs (directory t d).entries refl)
listing_after t (Opens number life f) e = refl
listing_after t (Closes number life) e = refl

pub dir_mode_after : (t : Tree) (x : Change) (e : Fid) → attributes (change t x) (Dir e) ≡ on_attributes x (Dir e) (attributes t (Dir e))
dir_mode_after t (Leads d n c) e = let h = dir_put d (record {
  mode = (directory t d).mode;
  entries =
      put_name n c (directory t d).entries;
}) e t.dirs in grind (arith, nat_tests, fid_tells, h)
dir_mode_after t (Drops d n) e = let h = dir_put d (record {
  mode = (directory t d).mode;
  entries =
      without (same_name n) (directory t d).entries;
}) e t.dirs in grind (arith, nat_tests, fid_tells, h)
dir_mode_after t (Parted f) e = refl
dir_mode_after t (MakesDir d) e = let h = dir_put d new_directory e t.dirs in grind (arith, nat_tests, h)
dir_mode_after t (MakesFile f l) e = refl
dir_mode_after t (SetMode (Dir d) k) e = let h = dir_put d (record { mode = k; entries = (directory t d).entries }) e t.dirs
    in grind (arith, nat_tests, h)
dir_mode_after t (SetMode (File f) k) e = refl
dir_mode_after t (SetLinks f k) e = refl
dir_mode_after t (Leaves d) e = let h = left_mode d e t.dirs (directory t d).entries in grind (arith, nat_tests, h)
dir_mode_after t (Opens number life f) e = refl
dir_mode_after t (Closes number life) e = refl

pub file_mode_after : (t : Tree) (x : Change) (g : Fid) → attributes (change t x) (File g)
    ≡ on_attributes x (File g) (attributes t (File g))
file_mode_after t (MakesFile f l) g = let h = file_put f (new_file l) g t.files in grind (arith, nat_tests, h)
file_mode_after t (SetMode (Dir d) k) g = refl
file_mode_after t (SetMode (File f) k) g = let h = file_put f (record { mode = k; links = (file t f).links; layout = (file t f).layout }) g
    t.files in grind (arith, nat_tests, fid_tells, h)
file_mode_after t (SetLinks f k) g = let h = file_put f (record { mode = (file t f).mode; links = k; layout = (file t f).layout }) g t.files
    in grind (arith, nat_tests, fid_tells, h)
file_mode_after t _ g = refl

pub layout_after : (t : Tree) (x : Change) (g : Fid) → layout (change t x) g ≡ on_layout x g (layout t g)
layout_after t (MakesFile f l) g = let h = file_put f (new_file l) g t.files in grind (arith, nat_tests, h)
layout_after t (SetMode (Dir d) k) g = refl
layout_after t (SetMode (File f) k) g = let h = file_put f (record { mode = k; links = (file t f).links; layout = (file t f).layout }) g
    t.files in grind (arith, nat_tests, fid_tells, h)
layout_after t (SetLinks f k) g = let h = file_put f (record { mode = (file t f).mode; links = k; layout = (file t f).layout }) g t.files
    in grind (arith, nat_tests, fid_tells, h)
layout_after t _ g = refl
