-- What the map of directories has after a change is what the tree has.
use Rattle.std.proofs.Common.{◌≡◌, ℕ, Bool, true, false, not, if◌then◌else◌, inl, inr, arith, List, [], ◌∷◌, Some, None, refl, sym, ap}
use Rattle.std.proofs.Common.{subst, ◌∙◌}
use Rattle.std.specs.BTreeMap.{insert_entry, is_at}
use Rattle.std.specs.Map.{keys_of, lookup, remove_entry, set_value}
use Rattle.std.specs.Option.{unwrap_or}
use Rattle.std.specs.declared.cmp.Ordering.{Ordering}
use Rattle.lu_base.specs.declared.ids.Fid.{Fid}
use Rattle.lu_spec_machine.specs.declared.child.Child.{Child}
use Rattle.lu_spec_machine.specs.declared.child.Child.TheVariants.{Dir}
use Rattle.lu_spec_machine.specs.Entries.{without, place}
use Rattle.lu_spec_machine.specs.Name.{same_name}
use Rattle.lu_spec_machine.specs.Order.{IsOrdered}
use Rattle.lu_spec_machine.specs.Tree.{Tree, Directory, Inode, no_directory, same_fid, fid_cmp, directory, listing}
use Rattle.lu_spec_machine.specs.Change.{Change, Leads, Drops, MakesDir, SetMode, Leaves, put_dir, put_file, put_name, new_directory, leave}
use Rattle.lu_spec_machine.specs.Change.{change}
use Rattle.lu_spec_machine.specs.Effect.{without_name}
use Rattle.lu_spec_machine.proofs.Effects.{dir_put, listing_after}
use Rattle.lu_spec_machine.proofs.Keys.{Told, fid_tells}
use Rattle.lu_spec_machine.proofs.Ordered.{change_ordered}
use Rattle.lu_tree.proofs.Maps.{fid_found, fid_put, fid_set, fid_gone}

pub no_keys : {K A : Type 0} (es : List (K × A)) → keys_of es ≡ [] → es ≡ []
no_keys [] h = refl
no_keys (e ∷ es) h = absurd (cc)

module _ (t : Tree) (o : IsOrdered t) (d : Fid) where
  pub found : (w : Directory) → lookup (is_at (fid_cmp d)) t.dirs ≡ Some w → directory t d ≡ w
  found w h = ap (λ x. unwrap_or x no_directory) (sym (fid_found d t.dirs) ∙ h)

  pub not_found : lookup (is_at (fid_cmp d)) t.dirs ≡ None → directory t d ≡ no_directory
  not_found h = ap (λ x. unwrap_or x no_directory) (sym (fid_found d t.dirs) ∙ h)

  pub led : (n : List ℕ) (c : Child) (w : Directory) → lookup (is_at (fid_cmp d)) t.dirs ≡ Some w
      → set_value (is_at (fid_cmp d)) t.dirs (record { mode = w.mode; entries = put_name n c w.entries }) ≡ (change t (Leads d n c)).dirs
  led n c w h =
      fid_set d (record { mode = w.mode; entries = put_name n c w.entries }) w t.dirs o.dirs h
      ∙ ap (λ (x : Directory). put_dir d (record { mode = x.mode; entries = put_name n c x.entries }) t.dirs) (sym (found w h))

  pub led_new : (n : List ℕ) (c : Child) → lookup (is_at (fid_cmp d)) t.dirs ≡ None
      → insert_entry fid_cmp t.dirs d (record { mode = 0; entries = put_name n c [] }) ≡ (change t (Leads d n c)).dirs
  led_new n c h =
      fid_put d (record { mode = 0; entries = put_name n c [] }) t.dirs o.dirs
      ∙ ap (λ (x : Directory). put_dir d (record { mode = x.mode; entries = put_name n c x.entries }) t.dirs) (sym (not_found h))

  pub dropped : (n : List ℕ) (w : Directory) → lookup (is_at (fid_cmp d)) t.dirs ≡ Some w
      → set_value (is_at (fid_cmp d)) t.dirs (record { mode = w.mode; entries = without (same_name n) w.entries })
      ≡ (change t (Drops d n)).dirs
  dropped n w h =
      fid_set d (record { mode = w.mode; entries = without (same_name n) w.entries }) w t.dirs o.dirs h
      ∙ ap (λ (x : Directory). put_dir d (record { mode = x.mode; entries = without (same_name n) x.entries }) t.dirs) (sym (found w h))

  pub moded : (m : ℕ) (w : Directory) → lookup (is_at (fid_cmp d)) t.dirs ≡ Some w
      → set_value (is_at (fid_cmp d)) t.dirs (record { mode = m; entries = w.entries }) ≡ (change t (SetMode (Dir d) m)).dirs
  moded m w h = fid_set d (record { mode = m; entries = w.entries }) w t.dirs o.dirs h
      ∙ ap (λ (x : Directory). put_dir d (record { mode = m; entries = x.entries }) t.dirs) (sym (found w h))

  pub moded_new : (m : ℕ) → lookup (is_at (fid_cmp d)) t.dirs ≡ None → insert_entry fid_cmp t.dirs d (record { mode = m; entries = [] })
      ≡ (change t (SetMode (Dir d) m)).dirs
  moded_new m h = fid_put d (record { mode = m; entries = [] }) t.dirs o.dirs
      ∙ ap (λ (x : Directory). put_dir d (record { mode = m; entries = x.entries }) t.dirs) (sym (not_found h))

  pub made : insert_entry fid_cmp t.dirs d new_directory ≡ (change t (MakesDir d)).dirs
  made = fid_put d new_directory t.dirs o.dirs

  pub left : listing t d ≡ [] → remove_entry (is_at (fid_cmp d)) t.dirs ≡ (change t (Leaves d)).dirs
  left h = fid_gone d t.dirs o.dirs ∙ ap (λ es. leave d es t.dirs) (sym (no_keys (directory t d).entries h))

-- with other directories
abbrev pub with_dirs : Tree → List (Fid × Directory) → Tree
with_dirs t ds = record t { dirs = ds }

-- after a change of directories a tree is in order
pub still_ordered : (t : Tree) (x : Change) (ds : List (Fid × Directory)) → IsOrdered t → ds ≡ (change t x).dirs → change t x
    ≡ with_dirs t (change t x).dirs → IsOrdered (with_dirs t ds)
still_ordered t x ds o is same = subst IsOrdered (same ∙ ap (with_dirs t) (sym is)) (change_ordered t x o)

-- ---- what is made and leaves at once

module _ {K A : Type 0} (same : K → K → Bool) (tells : (a b : K) → Told same a b) where
  pub without_absent : (k : K) (es : List (K × A)) → lookup (same k) es ≡ None → without (same k) es ≡ es
  without_absent k [] h = refl
  without_absent k (e ∷ es) h = by (same k e.0) h (without_absent k es)
    where
      by : (v : Bool) → (if v then Some e.1 else lookup (same k) es) ≡ None → (lookup (same k) es ≡ None → without (same k) es ≡ es)
          → (if not v then e ∷ without (same k) es else without (same k) es) ≡ e ∷ es
      by true h ih = absurd (cc)
      by false h ih = ap (λ xs. e ∷ xs) (ih h)

  without_place : (cmp : K → K → Ordering) (k : K) (a : A) (es : List (K × A)) → lookup (same k) es ≡ None
      → without (same k) (place cmp k a es) ≡ es
  without_place cmp k a [] h = let t = tells k k in grind (arith, t)
  without_place cmp k a (e ∷ es) h =
      let t = tells k k in
      let u = without_absent k (e ∷ es) h in
      let ih = without_place cmp k a es in
      grind (arith, t, u, ih)

pub unmade : (t : Tree) (f : Fid) → lookup (same_fid f) t.dirs ≡ None → change (change t (MakesDir f)) (Leaves f) ≡ t
unmade t f h =
    let new = put_dir f new_directory t.dirs in
    let none : (directory (change t (MakesDir f)) f).entries ≡ [] = ap (λ (x : Directory). x.entries) (dir_put f new_directory f t.dirs)
    ∙ own (fid_tells f f) in
    ap (λ es. with_dirs t (leave f es new)) none ∙ ap (λ ds. with_dirs t (without (same_fid f) (place fid_cmp f new_directory ds)))
    (without_absent same_fid fid_tells f t.dirs h)
    ∙ ap (with_dirs t) (without_place same_fid fid_tells fid_cmp f new_directory t.dirs h)
  where
    own : Told same_fid f f → (if same_fid f f then new_directory else unwrap_or (lookup (same_fid f) t.dirs) no_directory).entries ≡ []
    own (inl q) = ap (λ v. (if v then new_directory else unwrap_or (lookup (same_fid f) t.dirs) no_directory).entries) q.0
    own (inr q) = absurd (q.1 refl)

-- a file that is made and leaves at once
pub unmade_file : (t : Tree) (f : Fid) (x : Inode) → lookup (same_fid f) t.files ≡ None
    → record t { files = without (same_fid f) (put_file f x t.files) } ≡ t
unmade_file t f x h =
    ap (λ fs. record t { files = without (same_fid f) (place fid_cmp f x fs) }) (without_absent same_fid fid_tells f t.files h)
    ∙ ap (λ fs. record t { files = fs }) (without_place same_fid fid_tells fid_cmp f x t.files h)

-- an inode that was made has no names
pub made_empty : (t : Tree) (f : Fid) → listing (change t (MakesDir f)) f ≡ []
made_empty t f = listing_after t (MakesDir f) f ∙ own (fid_tells f f)
  where
    own : Told same_fid f f → (if same_fid f f then [] else listing t f) ≡ []
    own (inl q) = ap (λ v. if v then [] else listing t f) q.0
    own (inr q) = absurd (q.1 refl)

-- an empty directory stays so where a name goes
pub still_empty : (t : Tree) (d : Fid) (n : List ℕ) (e : Fid) → listing t e ≡ [] → listing (change t (Drops d n)) e ≡ []
still_empty t d n e h = listing_after t (Drops d n) e ∙ by (same_fid d e)
  where
    by : (v : Bool) → (if v then without_name n (listing t e) else listing t e) ≡ []
    by true = ap (without_name n) h
    by false = h
