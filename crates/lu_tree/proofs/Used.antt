-- What a change does to numbers that are used.
use Rattle.std.proofs.Common.{◌≡◌, ℕ, ◌<◌, ◌≤◌, ◌⊎◌, inl, inr, Bool, true, false, List, [], ◌∷◌, Option, Some, None, sym, ap, subst, ◌∙◌}
use Rattle.std.proofs.Common.{arith}
use Rattle.std.specs.Prelude.{◌&&◌, if◌then◌else◌}
use Rattle.std.specs.List.{AllByRecursion}
use Rattle.std.specs.Map.{lookup}
use Rattle.std.specs.Option.{unwrap_or}
use Rattle.std.proofs.lemmas.Bool.Decides.{nat_tests}
use Rattle.lu_base.specs.declared.ids.Fid.{Fid}
use Rattle.lu_base.specs.declared.ids.Txn.{Txn}
use Rattle.lu_base.specs.declared.ids.Who.{Who}
use Rattle.lu_spec_machine.specs.declared.child.Child.{Child}
use Rattle.lu_spec_machine.specs.declared.child.Child.TheVariants.{Dir, File}
use Rattle.lu_spec_machine.specs.Entries.{place, without}
use Rattle.lu_spec_machine.specs.Name.{same_name}
use Rattle.lu_spec_machine.specs.Tree.{Tree, Directory, Inode, no_directory, no_file, same_fid, fid_cmp, fid_of, directory, file, child}
use Rattle.lu_spec_machine.specs.Change.{Change, Leads, Drops, Parted, MakesDir, MakesFile, SetMode, SetLinks, Leaves, Opens, Closes}
use Rattle.lu_spec_machine.specs.Change.{put_dir, new_directory, new_file, leave, change, changed}
use Rattle.lu_spec_machine.specs.Effect.{on_name}
use Rattle.lu_spec_machine.specs.Footprint.{Every}
use Rattle.lu_spec_machine.specs.Trim.{trim}
use Rattle.lu_spec_machine.proofs.Effects.{name_after}
use Rattle.lu_spec_machine.proofs.Keys.{fid_tells, find-put, find-without}
use Rattle.lu_tree.specs.declared.ends.End.{End}
use Rattle.lu_tree.specs.declared.ends.End.TheVariants.{Makes, Creates, Links, Loses, Moves, Replaces, SetsMode, OpensFile, ClosesFile}
use Rattle.lu_tree.specs.Ends.{changes_of, leaving, IsReached, Seen}
use Rattle.lu_tree.specs.State.{IsUsed, HasUsed}
use Rattle.lu_tree.proofs.Entries.{all_filter, all_place}

-- what a change names is used
abbrev pub Fits : ℕ → Change → Type 0
Fits b (Leads d n c) = (d.0 ≤ b) × ((fid_of c).0 ≤ b)
Fits b (Drops d n) = d.0 ≤ b
Fits b (MakesDir f) = f.0 ≤ b
Fits b (MakesFile f l) = f.0 ≤ b
Fits b (SetMode c m) = (fid_of c).0 ≤ b
Fits b (SetLinks f k) = (f.0 ≤ b) × (k ≤ b)
Fits b (Leaves d) = d.0 ≤ b
Fits b _ = Unit {0}

-- ---- files

-- no file above the last number
pub none_above : (b : ℕ) (f : Fid) (es : List (Fid × Inode)) → AllByRecursion (HasUsed b) es → b < f.0 → lookup (same_fid f) es ≡ None
none_above b f [] h lt = cc
none_above b f (e ∷ es) h lt = let ih = none_above b f es h.1 lt in let le = h.0.0 in grind (arith, nat_tests, le, ih)

pub links_below : (b : ℕ) (f : Fid) (es : List (Fid × Inode)) → AllByRecursion (HasUsed b) es
    → (unwrap_or (lookup (same_fid f) es) no_file).links ≤ b
links_below b f [] h = omega arith
links_below b f (e ∷ es) h = by (same_fid f e.0) (links_below b f es h.1)
  where
    by : (v : Bool) → (unwrap_or (lookup (same_fid f) es) no_file).links ≤ b
        → (unwrap_or (if v then Some e.1 else lookup (same_fid f) es) no_file).links ≤ b
    by true ih = h.0.1
    by false ih = ih

put_file_used : (b : ℕ) (f : Fid) (x : Inode) (es : List (Fid × Inode)) → f.0 ≤ b → x.links ≤ b → AllByRecursion (HasUsed b) es
    → AllByRecursion (HasUsed b) (place fid_cmp f x (without (same_fid f) es))
put_file_used b f x es le lk h = all_place (HasUsed b) fid_cmp f x (without (same_fid f) es) (le, lk) (all_filter (HasUsed b) _ es h)

files_used : (b : ℕ) (t : Tree) (x : Change) → Fits b x → IsUsed b t → AllByRecursion (HasUsed b) (change t x).files
files_used b t (MakesFile f l) h u = put_file_used b f (new_file l) t.files h u.root u.files
files_used b t (SetMode (Dir d) m) h u = u.files
files_used b t (SetMode (File f) m) h u = put_file_used b f (record { mode = m; links = (file t f).links; layout = (file t f).layout })
    t.files h (links_below b f t.files u.files) u.files
files_used b t (SetLinks f k) h u = put_file_used b f (record { mode = (file t f).mode; links = k; layout = (file t f).layout }) t.files h.0
    h.1 u.files
files_used b t _ h u = u.files

-- ---- directories and names

more_used : (a b : ℕ) (es : List (Fid × Inode)) → a ≤ b → AllByRecursion (HasUsed a) es → AllByRecursion (HasUsed b) es
more_used a b [] le h = tt
more_used a b (e ∷ es) le h = let p = h.0.0 in let q = h.0.1 in ((omega arith, omega arith), more_used a b es le h.1)

pub used_more : (a b : ℕ) (t : Tree) → a ≤ b → IsUsed a t → IsUsed b t
used_more a b t le u =
    record {
      root = let r = u.root in omega arith;
      dirs = λ f lt. u.dirs f (omega arith);
      files = more_used a b t.files le u.files;
      names = λ d n c is. let r = u.names d n c is in omega arith;
    }

put_used : (b : ℕ) (d : Fid) (x : Directory) (ds : List (Fid × Directory)) → d.0 ≤ b → ((f : Fid) → b < f.0 → lookup (same_fid f) ds ≡ None)
    → (f : Fid) → b < f.0 → lookup (same_fid f) (put_dir d x ds) ≡ None
put_used b d x ds le u f lt = let h = find-put same_fid fid_tells fid_cmp d x f ds in let k = u f lt in grind (arith, nat_tests, h, k)

leave_used : (b : ℕ) (d : Fid) (es : List (List ℕ × Child)) (ds : List (Fid × Directory)) → d.0 ≤ b
    → ((f : Fid) → b < f.0 → lookup (same_fid f) ds ≡ None) → (f : Fid) → b < f.0 → lookup (same_fid f) (leave d es ds) ≡ None
leave_used b d [] ds le u f lt = let h = find-without same_fid fid_tells d f ds in let k = u f lt in grind (arith, nat_tests, h, k)
leave_used b d (e ∷ es) ds le u f lt = put_used b d (record { mode = 0; entries = e ∷ es }) ds le u f lt

dirs_used : (b : ℕ) (t : Tree) (x : Change) → Fits b x → IsUsed b t → (f : Fid) → b < f.0 → lookup (same_fid f) (change t x).dirs ≡ None
dirs_used b t (Leads d n c) h u = put_used b d _ t.dirs h.0 u.dirs
dirs_used b t (Drops d n) h u = put_used b d _ t.dirs h u.dirs
dirs_used b t (Parted f) h u = u.dirs
dirs_used b t (MakesDir f) h u = put_used b f new_directory t.dirs h u.dirs
dirs_used b t (MakesFile f l) h u = u.dirs
dirs_used b t (SetMode (Dir d) m) h u = put_used b d _ t.dirs h u.dirs
dirs_used b t (SetMode (File f) m) h u = u.dirs
dirs_used b t (SetLinks f k) h u = u.dirs
dirs_used b t (Leaves d) h u = leave_used b d (directory t d).entries t.dirs h u.dirs
dirs_used b t (Opens k l f) h u = u.dirs
dirs_used b t (Closes k l) h u = u.dirs

name_used : (b : ℕ) (x : Change) (d : Fid) (n : List ℕ) (o : Option Child) → Fits b x → ((c : Child) → o ≡ Some c → (fid_of c).0 ≤ b)
    → (c : Child) → on_name x d n o ≡ Some c → (fid_of c).0 ≤ b
name_used b (Leads e m a) d n o h u c is = by (same_fid e d && same_name m n) is
  where
    by : (v : Bool) → (if v then Some a else o) ≡ Some c → (fid_of c).0 ≤ b
    by true q = let e : a ≡ c = cc in subst (λ k. (fid_of k).0 ≤ b) e h.1
    by false q = u c q
name_used b (Drops e m) d n o h u c is = by (same_fid e d && same_name m n) is
  where
    by : (v : Bool) → (if v then None else o) ≡ Some c → (fid_of c).0 ≤ b
    by true q = absurd (cc)
    by false q = u c q
name_used b (MakesDir e) d n o h u c is = by (same_fid e d) is
  where
    by : (v : Bool) → (if v then None else o) ≡ Some c → (fid_of c).0 ≤ b
    by true q = absurd (cc)
    by false q = u c q
name_used b (Parted f) d n o h u c is = u c is
name_used b (MakesFile f l) d n o h u c is = u c is
name_used b (SetMode k m) d n o h u c is = u c is
name_used b (SetLinks f k) d n o h u c is = u c is
name_used b (Leaves e) d n o h u c is = u c is
name_used b (Opens k l f) d n o h u c is = u c is
name_used b (Closes k l) d n o h u c is = u c is

used_change : (b : ℕ) (t : Tree) (x : Change) → Fits b x → IsUsed b t → IsUsed b (change t x)
used_change b t x h u =
    record {
      root = u.root;
      dirs = dirs_used b t x h u;
      files = files_used b t x h u;
      names = λ d n c is. name_used b x d n (child t d n) h (u.names d n) c (sym (name_after t x d n) ∙ is);
    }

pub used_changes : (b : ℕ) (t : Tree) (xs : List Change) → Every (Fits b) xs → IsUsed b t → IsUsed b (changed t xs)
used_changes b t [] h u = u
used_changes b t (x ∷ xs) h u = used_changes b (change t x) xs h.1 (used_change b t x h.0 u)

reached_used : (b : ℕ) (t : Tree) (c : Child) → IsUsed b t → IsReached t c → (fid_of c).0 ≤ b
reached_used b t c u (inl e) = subst (λ k. (fid_of k).0 ≤ b) (sym e) u.root
reached_used b t c u (inr h) = u.names h.0 h.1 c h.2

-- a name that leads somewhere stands in a directory that is there
named_used : (b : ℕ) (t : Tree) (d : Fid) (n : List ℕ) (c : Child) → IsUsed b t → child t d n ≡ Some c → d.0 ≤ b
named_used b t d n c u is = by (split d.0)
  where
    split : (f : ℕ) → (f ≤ b) ⊎ (b < f)
    split f = grind arith

    by : (d.0 ≤ b) ⊎ (b < d.0) → d.0 ≤ b
    by (inl le) = le
    by (inr lt) = let h = u.dirs d lt in let k : child t d n ≡ None = ap (λ o. lookup (same_name n) (unwrap_or o no_directory).entries) h
        in absurd (cc)

pub used_trim : (b : ℕ) (t : Tree) → IsUsed b t → IsUsed b (trim t)
used_trim b t u = record { root = u.root; dirs = u.dirs; files = all_filter (HasUsed b) _ t.files u.files; names = u.names }

-- ---- ends

leaving_fits : (last b : ℕ) (t : Tree) (g : Child) → IsUsed last t → last < b → (fid_of g).0 ≤ last → Fits b (leaving t g)
leaving_fits last b t (Dir f) u lt le = omega arith
leaving_fits last b t (File f) u lt le = let k = links_below last f t.files u.files in (omega arith, omega arith)

pub end_fits : (last osts : ℕ) (number : Txn) (who : Who) (t : Tree) (end : End) → last < number.0 → IsUsed last t → Seen osts t end
    → Every (Fits number.0) (changes_of osts t number who end)
end_fits last osts number who t (Makes new) lt u s =
    let r : new.dir.0 ≤ last = reached_used last t (Dir new.dir) u s.0 in
    (omega arith, ((omega arith, omega arith), tt))
end_fits last osts number who t (Creates new size count) lt u s =
    let r : new.dir.0 ≤ last = reached_used last t (Dir new.dir) u s.0 in
    (omega arith, ((omega arith, omega arith), tt))
end_fits last osts number who t (Links new f) lt u s =
    let r : new.dir.0 ≤ last = reached_used last t (Dir new.dir) u s.0 in
    let q : f.0 ≤ last = reached_used last t (File f) u s.2 in
    let k = links_below last f t.files u.files in
    ((omega arith, omega arith), ((omega arith, omega arith), tt))
end_fits last osts number who t (Loses old g) lt u s =
    let r : old.dir.0 ≤ last = named_used last t old.dir old.name.now g u s.0 in
    (omega arith, (tt, (leaving_fits last number.0 t g u lt (u.names old.dir old.name.now g s.0), tt)))
end_fits last osts number who t (SetsMode c mode) lt u s =
    let r : (fid_of c).0 ≤ last = reached_used last t c u s in
    (omega arith, tt)
end_fits last osts number who t (Moves old c new) lt u s =
    let p : old.dir.0 ≤ last = named_used last t old.dir old.name.now c u s.0 in
    let q : (fid_of c).0 ≤ last = u.names old.dir old.name.now c s.0 in
    let r : new.dir.0 ≤ last = reached_used last t (Dir new.dir) u s.2 in
    (omega arith, ((omega arith, omega arith), (tt, tt)))
end_fits last osts number who t (Replaces old c new g) lt u s =
    let p : old.dir.0 ≤ last = named_used last t old.dir old.name.now c u s.0 in
    let q : (fid_of c).0 ≤ last = u.names old.dir old.name.now c s.0 in
    let r : new.dir.0 ≤ last = named_used last t new.dir new.name.now g u s.1 in
    (omega arith, ((omega arith, omega arith), (tt, (tt, (leaving_fits last number.0 t g u lt (u.names new.dir new.name.now g s.1), tt)))))
end_fits last osts number who t (OpensFile f) lt u s = (tt, tt)
end_fits last osts number who t (ClosesFile opened f) lt u s = (tt, tt)
end_fits last osts number who t _ lt u s = tt
