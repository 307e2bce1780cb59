-- Paths as words.
use Rattle.std.proofs.Common.{◌≡◌, ◌≢◌, ℕ, ◌<◌, Bool, true, false, not, cond, ◌&&◌, ◌==◌, List, [], ◌∷◌, ◌++◌, length, Option, Some, None}
use Rattle.std.proofs.Common.{refl, sym, ap, ◌∙◌, subst, arith}
use Rattle.std.specs.Prelude.{IfSome, IfNone, nat_lt, codes}
use Rattle.std.specs.List.{All, list_all, slice_split, join_with_byte}
use Rattle.std.specs.Str.{bytes_eq}
use Rattle.std.proofs.lemmas.Bool.{true≢false, lt-ltb, leb-true, le-leb, eqb-true, ne_eqb, and_parts, and_from, not-true, not_from_false}
use Rattle.std.proofs.lemmas.Bool.{false_from_ne_true, cond-false}
use Rattle.std.proofs.lemmas.Option.{cond_some}
use Rattle.std.proofs.lemmas.List.Elements.{All-nil, All-cons, All-head, All-tail}
use Rattle.std.proofs.lemmas.List.Sums.{AllPass-from_list_all, list_all-from_AllPass}
use Rattle.std.proofs.lemmas.List.Splits.{join_with_byte-slice_split}
use Rattle.lu_base.specs.Texts.{is_name_byte, IsName, IsPath, path_text}
use Rattle.lu_base.proofs.Paths.{split_of-joined}
use Rattle.lu_scene.specs.Fields.{is_name, is_path, between_slashes, path_of}
use Rattle.lu_scene.proofs.Options.{none_from, same_bytes, bytes_same}

-- a list that is not empty is long
filled : {A : Type 0} (xs : List A) → xs ≢ [] → 0 < length xs
filled [] some = absurd (some refl)
filled (x ∷ xs) some = omega arith

other_bytes : (xs ys : List ℕ) → xs ≢ ys → not (bytes_eq xs ys) ≡ true
other_bytes xs ys other = not_from_false _ (false_from_ne_true (bytes_eq xs ys) (λ e. other (bytes_same xs ys e)))

bytes_other : (xs ys : List ℕ) → not (bytes_eq xs ys) ≡ true → xs ≢ ys
bytes_other xs ys test same = true≢false (sym (same_bytes xs ys same) ∙ not-true _ test)

pub is_name-from : (name : List ℕ) → IsName name → is_name name ≡ true
is_name-from name is =
    and_from _ _ (and_from _ _ (and_from _ _ (lt-ltb 0 (length name) (filled name is.filled))
    (list_all-from_AllPass is_name_byte name is.bytes)) (other_bytes name (codes ".") is.not_here))
    (other_bytes name (codes "..") is.not_above)

pub is_name-true : (name : List ℕ) → is_name name ≡ true → IsName name
is_name-true name test =
    let a = and_parts _ _ test in
    let b = and_parts _ _ a.0 in
    let c = and_parts _ _ b.0 in
    record {
      filled = λ none. true≢false (sym c.0 ∙ ap (λ (xs : List ℕ). nat_lt 0 (length xs)) none);
      bytes = AllPass-from_list_all is_name_byte name c.1;
      not_here = bytes_other name (codes ".") b.1;
      not_above = bytes_other name (codes "..") a.1;
    }

pub names-from : (names : List (List ℕ)) → All IsName names → list_all is_name names ≡ true
names-from [] are = refl
names-from (x ∷ xs) are = and_from _ _ (is_name-from x (All-head IsName x xs are)) (names-from xs (All-tail IsName x xs are))

pub names-true : (names : List (List ℕ)) → list_all is_name names ≡ true → All IsName names
names-true [] test = All-nil IsName
names-true (x ∷ xs) test =
    let parts = and_parts (is_name x) (list_all is_name xs) test in
    All-cons IsName x xs (is_name-true x parts.0) (names-true xs parts.1)

pub is_path-from : (names : List (List ℕ)) → IsPath names → is_path names ≡ true
is_path-from names is =
    and_from _ _ (and_from _ _ (le-leb (length names) 32 is.are_names.0) (le-leb (length (path_text names)) 1024 is.bytes))
    (names-from names is.are_names.1)

pub is_path-true : (names : List (List ℕ)) → is_path names ≡ true → IsPath names
is_path-true names test =
    let a = and_parts _ _ test in
    let b = and_parts _ _ a.0 in
    record { are_names = (leb-true (length names) 32 b.0, names-true names a.1); bytes = leb-true (length (path_text names)) 1024 b.1 }

-- what stands between slashes, joined again
joined : (rest : List ℕ) → join_with_byte 47 (between_slashes rest) ≡ rest
joined [] = refl
joined (b ∷ more) =
    ap (join_with_byte 47) (cond-false (length (b ∷ more) == 0) [] (slice_split (λ c. c == 47) (b ∷ more))
    (ne_eqb (length (b ∷ more)) 0 (λ e. omega arith)))
    ∙ join_with_byte-slice_split 47 (b ∷ more)

-- a joined list that begins with a name isn't empty
long : (x : List ℕ) (xs : List (List ℕ)) → x ≢ [] → (length (join_with_byte 47 (x ∷ xs)) == 0) ≡ false
long [] xs some = absurd (some refl)
long (b ∷ bs) [] some = ne_eqb (length (b ∷ bs)) 0 (λ e. omega arith)
long (b ∷ bs) (y ∷ ys) some = ne_eqb (length (b ∷ (bs ++ 47 ∷ join_with_byte 47 (y ∷ ys)))) 0 (λ e. omega arith)

-- what stood between slashes
parted : (names : List (List ℕ)) → All IsName names → between_slashes (join_with_byte 47 names) ≡ names
parted [] are = refl
parted (x ∷ xs) are =
    cond-false _ [] (slice_split (λ b. b == 47) (join_with_byte 47 (x ∷ xs))) (long x xs (All-head IsName x xs are).filled)
    ∙ split_of-joined (x ∷ xs) (λ e. cc e) are

-- a path's text is read as the path
pub path_of-text : (names : List (List ℕ)) → IsPath names → path_of (path_text names) ≡ Some names
unfolding path_of
path_of-text names is =
    ap (λ (found : List (List ℕ)). cond ((47 == 47) && is_path found) (Some found) None) (parted names is.are_names.1)
    ∙ ap (λ (b : Bool). cond ((47 == 47) && b) (Some names) None) (is_path-from names is)

-- what is read as a path is its text
pub path_of-read : (text : List ℕ) (names : List (List ℕ)) → path_of text ≡ Some names → IsPath names × (text ≡ path_text names)
unfolding path_of
path_of-read [] names e = absurd cc
path_of-read (b ∷ rest) names e =
    let found = cond_some (b == 47 && is_path (between_slashes rest)) (between_slashes rest) names e in
    let parts = and_parts (b == 47) (is_path (between_slashes rest)) found.0 in (
      subst IsPath found.1 (is_path-true (between_slashes rest) parts.1),
      ap (λ (c : ℕ). c ∷ rest) (eqb-true b 47 parts.0) ∙ ap (λ (xs : List ℕ). 47 ∷ xs) (sym (joined rest))
          ∙ ap (λ (xs : List (List ℕ)). 47 ∷ join_with_byte 47 xs) found.1,
    )

-- what a reader of paths answers
pub path_of-answered : (r : Option (List (List ℕ))) (text : List ℕ) → IfSome r (λ names. IsPath names × (text ≡ path_text names))
    → IfNone r ((names : List (List ℕ)) → IsPath names → text ≢ path_text names) → path_of text ≡ r
path_of-answered (Some names) text some none = ap path_of some.1 ∙ path_of-text names some.0
path_of-answered None text some none = none_from (path_of text)
    (λ names e. let read = path_of-read text names e in none names read.0 read.1)
