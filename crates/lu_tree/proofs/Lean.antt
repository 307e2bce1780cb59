-- Where files leave with their last name and open.
use Rattle.std.proofs.Common.{◌≡◌, ◌≤◌, Bool, true, false, List, [], ◌∷◌, Some, refl, ap, ◌∙◌, arith}
use Rattle.std.specs.Prelude.{◌||◌, nat_lt, if◌then◌else◌}
use Rattle.std.specs.Map.{keys_of, lookup}
use Rattle.std.specs.declared.cmp.Ordering.TheVariants.{Less}
use Rattle.std.specs.List.{AllByRecursion}
use Rattle.std.specs.List.Sorted.{IsStrictlySortedBy}
use Rattle.std.specs.Option.{unwrap_or}
use Rattle.std.proofs.lemmas.Bool.Decides.{nat_tests}
use Rattle.lu_base.specs.declared.ids.Fid.{Fid}
use Rattle.lu_spec_machine.specs.Order.{IsOrdered}
use Rattle.lu_spec_machine.specs.Tree.{Tree, Directory, Inode, Opened, no_file, same_fid, fid_cmp, file}
use Rattle.lu_spec_machine.specs.Trim.{is_open, living, trim}

-- ---- what is lean

twice : (os : List Opened) (es : List (Fid × Inode)) → living os (living os es) ≡ living os es
twice os [] = refl
twice os (e ∷ es) = by (nat_lt 0 e.1.links || is_open e.0 os) refl (twice os es)
  where
    by : (v : Bool) → (nat_lt 0 e.1.links || is_open e.0 os) ≡ v → living os (living os es) ≡ living os es
        → living os (if v then e ∷ living os es else living os es) ≡ (if v then e ∷ living os es else living os es)
    by true p h = ap (λ b. if b then e ∷ living os (living os es) else living os (living os es)) p ∙ ap (λ xs. e ∷ xs) h
    by false p h = h

pub lean_twice : (t : Tree) → trim (trim t) ≡ trim t
lean_twice t = ap (λ fs. record t { files = fs }) (twice t.opens t.files)

pub lean_with : (t : Tree) (ds : List (Fid × Directory)) → trim t ≡ t → trim (record t { dirs = ds }) ≡ record t { dirs = ds }
lean_with t ds h = ap (λ (u : Tree). record { dirs = ds; files = u.files; opens = t.opens }) h

-- ---- order

below_living : (os : List Opened) (f : Fid) (es : List (Fid × Inode)) → AllByRecursion (λ g. fid_cmp f g ≡ Less) (keys_of es)
    → AllByRecursion (λ g. fid_cmp f g ≡ Less) (keys_of (living os es))
below_living os f [] h = h
below_living os f (e ∷ es) h = by (nat_lt 0 e.1.links || is_open e.0 os) (below_living os f es h.1)
  where
    by : (v : Bool) → AllByRecursion (λ g. fid_cmp f g ≡ Less) (keys_of (living os es))
        → AllByRecursion (λ g. fid_cmp f g ≡ Less) (keys_of (if v then e ∷ living os es else living os es))
    by true r = (h.0, r)
    by false r = r

sorted_living : (os : List Opened) (es : List (Fid × Inode)) → IsStrictlySortedBy fid_cmp (keys_of es)
    → IsStrictlySortedBy fid_cmp (keys_of (living os es))
unfolding IsStrictlySortedBy
sorted_living os [] s = s
sorted_living os (e ∷ es) s = by (nat_lt 0 e.1.links || is_open e.0 os) (sorted_living os es s.1)
  where
    by : (v : Bool) → IsStrictlySortedBy fid_cmp (keys_of (living os es))
        → IsStrictlySortedBy fid_cmp (keys_of (if v then e ∷ living os es else living os es))
    by true r = (below_living os e.0 es s.0, r)
    by false r = r

pub trim_ordered : (t : Tree) → IsOrdered t → IsOrdered (trim t)
trim_ordered t o = record { dirs = o.dirs; files = sorted_living t.opens t.files o.files; names = o.names }

-- ---- links

links_living : (os : List Opened) (f : Fid) (es : List (Fid × Inode))
    → (unwrap_or (lookup (same_fid f) es) no_file).links ≤ (unwrap_or (lookup (same_fid f) (living os es)) no_file).links
links_living os f [] = omega arith
links_living os f (e ∷ es) = by (same_fid f e.0) refl (nat_lt 0 e.1.links || is_open e.0 os) refl (links_living os f es)
  where
    gone : nat_lt 0 e.1.links || is_open e.0 os ≡ false → e.1.links ≡ 0
    gone q = grind (arith, nat_tests, q)

    by : (b : Bool) → same_fid f e.0 ≡ b → (v : Bool) → (nat_lt 0 e.1.links || is_open e.0 os) ≡ v
        → (unwrap_or (lookup (same_fid f) es) no_file).links ≤ (unwrap_or (lookup (same_fid f) (living os es)) no_file).links
        → (unwrap_or (if b then Some e.1 else lookup (same_fid f) es) no_file).links ≤
        (unwrap_or (lookup (same_fid f) (if v then e ∷ living os es else living os es)) no_file).links
    by true p true q ih = rw p (omega arith)
    by true p false q ih = omega (arith, gone q)
    by false p true q ih = rw p ih
    by false p false q ih = ih

-- a file keeps its links
pub trim_links : (t : Tree) (f : Fid) → (file t f).links ≤ (file (trim t) f).links
trim_links t f = links_living t.opens f t.files
