-- The lists of a tree are in order, and a list of names in byte order is one.
use Rattle.std.proofs.Common.{◌≡◌, ◌≢◌, ℕ, Bool, true, false, List, [], ◌∷◌, ◌⊎◌, inl, inr, Some, None, refl, sym, ap, subst, ◌∙◌, arith}
use Rattle.std.proofs.Common.{is_some}
use Rattle.std.specs.Prelude.{◌||◌, if◌then◌else◌}
use Rattle.std.specs.declared.cmp.Ordering.{Ordering}
use Rattle.std.specs.declared.cmp.Ordering.TheVariants.{Less, Equal, Greater}
use Rattle.std.specs.List.{list_any, AllByRecursion}
use Rattle.std.specs.List.Sorted.{IsStrictlySortedBy}
use Rattle.std.specs.Map.{keys_of, lookup}
use Rattle.std.specs.Option.{unwrap_or}
use Rattle.std.specs.Ordering.{is_eq, ordering_reverse}
use Rattle.std.proofs.lemmas.Bool.Decides.{nat_tests}
use Rattle.std.proofs.lemmas.Cmp.{nat_list_cmp_total}
use Rattle.std.proofs.lemmas.Map.Text.{is_eq-slice_cmp}
use Rattle.std.specs.Cmp.{IsTotalOrder, on_total, nat_cmp_total}
use Rattle.lu_base.specs.declared.ids.Fid.{Fid}
use Rattle.lu_spec_machine.specs.declared.child.Child.{Child}
use Rattle.lu_spec_machine.specs.declared.child.Child.TheVariants.{Dir, File}
use Rattle.lu_spec_machine.specs.Name.{same_name, name_cmp}
use Rattle.lu_spec_machine.specs.Entries.{without, place}
use Rattle.lu_spec_machine.specs.Tree.{Tree, Directory, Inode, no_directory, same_fid, fid_cmp, directory, file}
use Rattle.lu_spec_machine.specs.Change.{Change, Leads, Drops, Parted, MakesDir, MakesFile, SetMode, SetLinks, Leaves, Opens, Closes}
use Rattle.lu_spec_machine.specs.Change.{new_directory, new_file, put_dir, put_file, put_name, leave, change, changed}
use Rattle.lu_spec_machine.specs.Footprint.{outcome_of}
use Rattle.lu_spec_machine.specs.Order.{IsOrdered, OrderStays, ListsNames, ByteOrderIsOne}
use Rattle.lu_spec_machine.proofs.Keys.{fid_tells, name_tells, find-gone}
use Rattle.lu_spec_machine.proofs.Effects.{dir_put, left_entries}
use Rattle.lu_spec_machine.proofs.Sorted.{IsKeyOrder, sorted_without, sorted_place, not_same}

name_ties : (a b : List ℕ) → name_cmp a b ≡ Equal → a ≡ b
name_ties a b e = by (name_tells a b)
  where
    same : same_name a b ≡ true
    same = sym (is_eq-slice_cmp a b) ∙ ap is_eq e

    by : ((same_name a b ≡ true) × (a ≡ b)) ⊎ ((same_name a b ≡ false) × (a ≢ b)) → a ≡ b
    by (inl t) = t.1
    by (inr t) = absurd (cc (t.0, same))

-- equal to itself, since it is so either way round
level : (v : Ordering) → v ≡ ordering_reverse v → v ≡ Equal
level Less e = absurd (cc)
level Equal e = refl
level Greater e = absurd (cc)

pub name_order : IsKeyOrder name_cmp same_name
name_order = record {
  total = nat_list_cmp_total;
  tells = name_tells;
  ties = name_ties;
  itself =
      λ a. level (name_cmp a a) (nat_list_cmp_total.antisymm a a);
}

fid_total : IsTotalOrder fid_cmp
fid_total = on_total (λ (f : Fid). f.0) nat_cmp_total

fid_ties : (f g : Fid) → fid_cmp f g ≡ Equal → f ≡ g
fid_ties f g e = let h : f.0 ≡ g.0 = grind (arith, nat_tests, e) in ap (λ i. record { 0 = i }) h

pub fid_order : IsKeyOrder fid_cmp same_fid
fid_order = record { total = fid_total; tells = fid_tells; ties = fid_ties; itself = λ f. level (fid_cmp f f) (fid_total.antisymm f f) }

-- ---- trees

abbrev ByFid : {A : Type 0} → List (Fid × A) → Type 0
ByFid es = IsStrictlySortedBy fid_cmp (keys_of es)

abbrev ByName : Directory → Type 0
ByName x = IsStrictlySortedBy name_cmp (keys_of x.entries)

put_ordered : {A : Type 0} (f : Fid) (a : A) (es : List (Fid × A)) → ByFid es → ByFid (place fid_cmp f a (without (same_fid f) es))
put_ordered f a es s = sorted_place fid_cmp same_fid fid_order f a (without (same_fid f) es)
    (sorted_without fid_cmp same_fid fid_order f es s) (find-gone same_fid fid_tells f es)

leave_ordered : (d : Fid) (es : List (List ℕ × Child)) (ds : List (Fid × Directory)) → ByFid ds → ByFid (leave d es ds)
leave_ordered d [] ds s = sorted_without fid_cmp same_fid fid_order d ds s
leave_ordered d (e ∷ es) ds s = put_ordered d (record { mode = 0; entries = e ∷ es }) ds s

with_dir : (d : Fid) (x : Directory) (ds : List (Fid × Directory)) → ByName x
    → ((e : Fid) → ByName (unwrap_or (lookup (same_fid e) ds) no_directory)) → (e : Fid)
    → ByName (unwrap_or (lookup (same_fid e) (put_dir d x ds)) no_directory)
with_dir d x ds h s e = subst ByName (sym (dir_put d x e ds)) (by (same_fid d e))
  where
    by : (v : Bool) → ByName (if v then x else unwrap_or (lookup (same_fid e) ds) no_directory)
    by true = h
    by false = s e

with_entries : (t : Tree) (d : Fid) (m : ℕ) (es : List (List ℕ × Child)) → IsStrictlySortedBy name_cmp (keys_of es) → IsOrdered t
    → IsOrdered (record t { dirs = put_dir d (record { mode = m; entries = es }) t.dirs })
with_entries t d m es h o = record {
  dirs = put_ordered d (record { mode = m; entries = es }) t.dirs o.dirs;
  files = o.files;
  names =
      with_dir d (record { mode = m; entries = es }) t.dirs h o.names;
}

with_file : (t : Tree) (f : Fid) (x : Inode) → IsOrdered t → IsOrdered (record t { files = put_file f x t.files })
with_file t f x o = record { dirs = o.dirs; files = put_ordered f x t.files o.files; names = o.names }

pub change_ordered : (t : Tree) (x : Change) → IsOrdered t → IsOrdered (change t x)
unfolding IsStrictlySortedBy
change_ordered t (Leads d n c) o =
    let es = (directory t d).entries in
    with_entries t d (directory t d).mode (put_name n c es)
    (sorted_place name_cmp same_name name_order n c (without (same_name n) es)
    (sorted_without name_cmp same_name name_order n es (o.names d)) (find-gone same_name name_tells n es)) o
change_ordered t (Drops d n) o = with_entries t d (directory t d).mode (without (same_name n) (directory t d).entries)
    (sorted_without name_cmp same_name name_order n (directory t d).entries (o.names d)) o
change_ordered t (Parted f) o = o
change_ordered t (MakesDir d) o = with_entries t d 493 [] tt o
change_ordered t (MakesFile f l) o = with_file t f (new_file l) o
change_ordered t (SetMode (Dir d) m) o = with_entries t d m (directory t d).entries (o.names d) o
change_ordered t (SetMode (File f) m) o = with_file t f (record { mode = m; links = (file t f).links; layout = (file t f).layout }) o
change_ordered t (SetLinks f k) o = with_file t f (record { mode = (file t f).mode; links = k; layout = (file t f).layout }) o
change_ordered t (Leaves d) o =
    record {
      dirs = leave_ordered d (directory t d).entries t.dirs o.dirs;
      files = o.files;
      names = λ e. subst (λ es. IsStrictlySortedBy name_cmp (keys_of es)) (sym (left_entries d e t.dirs (directory t d).entries refl))
          (o.names e);
    }
change_ordered t (Opens k l f) o = record { dirs = o.dirs; files = o.files; names = o.names }
change_ordered t (Closes k l) o = record { dirs = o.dirs; files = o.files; names = o.names }

pub changes_ordered : (t : Tree) (xs : List Change) → IsOrdered t → IsOrdered (changed t xs)
changes_ordered t [] o = o
changes_ordered t (x ∷ xs) o = changes_ordered (change t x) xs (change_ordered t x o)

pub order_stays : OrderStays
unfolding IsStrictlySortedBy
order_stays =
    record {
      begins = record { dirs = (tt, tt); files = tt; names = λ d. only (same_fid d (record { 0 = 1 })) };
      acts = λ osts t a o. changes_ordered t (outcome_of osts t a).changes o;
      forgets = λ t who o. record { dirs = o.dirs; files = o.files; names = o.names };
    }
  where
    only : (v : Bool) → ByName (unwrap_or (if v then Some new_directory else None) no_directory)
    only true = tt
    only false = tt

-- ---- lists of names

listed : (n : List ℕ) (es : List (List ℕ × Child)) → list_any (same_name n) (keys_of es) ≡ is_some (lookup (same_name n) es)
listed n [] = refl
listed n (e ∷ es) = by (same_name n e.0) (listed n es)
  where
    by : (v : Bool) → list_any (same_name n) (keys_of es) ≡ is_some (lookup (same_name n) es) → (v || list_any (same_name n) (keys_of es))
        ≡ is_some (if v then Some e.1 else lookup (same_name n) es)
    by true h = refl
    by false h = h

pub lists_names : ListsNames
lists_names t d n = listed n (directory t d).entries

itself : (n : List ℕ) → same_name n n ≡ true
itself n = by (name_tells n n)
  where
    by : ((same_name n n ≡ true) × (n ≡ n)) ⊎ ((same_name n n ≡ false) × (n ≢ n)) → same_name n n ≡ true
    by (inl t) = t.0
    by (inr t) = absurd (t.1 refl)

abbrev AllAbove : List ℕ → List (List ℕ) → Type 0
AllAbove n xs = AllByRecursion (λ y. name_cmp n y ≡ Less) xs

not_listed : (n : List ℕ) (xs : List (List ℕ)) → AllAbove n xs → list_any (same_name n) xs ≡ false
not_listed n [] h = refl
not_listed n (x ∷ xs) h = ap (λ v. v || list_any (same_name n) xs) (not_same name_cmp same_name name_order n x h.0) ∙ not_listed n xs h.1

above_more : (k l : List ℕ) (xs : List (List ℕ)) → name_cmp k l ≡ Less → AllAbove l xs → AllAbove k xs
above_more k l [] h b = tt
above_more k l (x ∷ xs) h b = (nat_list_cmp_total.trans k l x h b.0, above_more k l xs h b.1)

-- the first name of one list is in no list whose first name is greater
first_apart : (x y : List ℕ) (xs ys : List (List ℕ)) → name_cmp x y ≡ Less → AllAbove y ys → list_any (same_name x) (x ∷ xs)
    ≡ list_any (same_name x) (y ∷ ys) → ⊥
first_apart x y xs ys l b h =
    let p : list_any (same_name x) (x ∷ xs) ≡ true = ap (λ v. v || list_any (same_name x) xs) (itself x) in
    let q : list_any (same_name x) (y ∷ ys) ≡ false = not_listed x (y ∷ ys) (l, above_more x y ys l b) in
    absurd (cc (p, q, h))

pub byte_order_is_one : ByteOrderIsOne
unfolding IsStrictlySortedBy
byte_order_is_one [] [] s r h = refl
byte_order_is_one [] (y ∷ ys) s r h = absurd (cc (h y, ap (λ v. v || list_any (same_name y) ys) (itself y)))
byte_order_is_one (x ∷ xs) [] s r h = absurd (cc (h x, ap (λ v. v || list_any (same_name x) xs) (itself x)))
byte_order_is_one (x ∷ xs) (y ∷ ys) s r h = by (name_cmp x y) refl (byte_order_is_one xs ys s.1 r.1)
  where
    rest : x ≡ y → (n : List ℕ) → list_any (same_name n) xs ≡ list_any (same_name n) ys
    rest e n = case (name_tells n x)
      where
        below : AllAbove x ys
        below = subst (λ z. AllAbove z ys) (sym e) r.0

        equal : (n : List ℕ) → n ≡ x → list_any (same_name n) xs ≡ list_any (same_name n) ys
        equal n q = ap (λ z. list_any (same_name z) xs) q ∙ not_listed x xs s.0
            ∙ sym (ap (λ z. list_any (same_name z) ys) q ∙ not_listed x ys below)

        case : ((same_name n x ≡ true) × (n ≡ x)) ⊎ ((same_name n x ≡ false) × (n ≢ x)) → list_any (same_name n) xs
            ≡ list_any (same_name n) ys
        case (inl t) = equal n t.1
        case (inr t) =
            sym (ap (λ v. v || list_any (same_name n) xs) t.0) ∙ h n ∙ ap (λ z. same_name n z || list_any (same_name n) ys) (sym e)
            ∙ ap (λ v. v || list_any (same_name n) ys) t.0

    by : (v : Ordering) → name_cmp x y ≡ v → (((n : List ℕ) → list_any (same_name n) xs ≡ list_any (same_name n) ys) → xs ≡ ys) → x ∷ xs ≡ y
        ∷ ys
    by Less p ih = absurd (first_apart x y xs ys p r.0 (h x))
    by Equal p ih = let e = name_ties x y p in ap (λ z. z ∷ xs) e ∙ ap (λ zs. y ∷ zs) (ih (rest e))
    by Greater p ih = absurd (first_apart y x ys xs (nat_list_cmp_total.antisymm y x ∙ ap ordering_reverse p) s.0 (sym (h y)))
