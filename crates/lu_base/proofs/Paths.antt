-- Facts on the text of a path.
use Rattle.std.proofs.Common.{◌≡◌, ◌≢◌, ℕ, ◌+◌, ◌<◌, ◌≤◌, ◌==◌, true, false, List, [], ◌∷◌, ◌++◌, length, take, drop, get_or, subst, refl}
use Rattle.std.proofs.Common.{ap, sym, ◌∙◌, append_assoc, append-nil, add-one, arith}
use Rattle.std.proofs.Math.Seq.{take-suc}
use Rattle.std.proofs.lemmas.Bool.Decides.{nat_tests}
use Rattle.std.specs.List.{slice_split, join_with_byte, All}
use Rattle.std.proofs.lemmas.List.Splits.{slice_split_none, slice_split_at, join_with_byte-slice_split}
use Rattle.std.proofs.lemmas.List.Elements.{All-weaker, All-head, All-tail}
use Rattle.lu_base.specs.Texts.{path_text, further_text, is_name_byte, IsName, AreNames, IsPath}

-- the text of names, one list after the other
pub further_text-append : (xs ys : List (List ℕ)) → further_text (xs ++ ys) ≡ further_text xs ++ further_text ys
further_text-append [] ys = refl
further_text-append (x ∷ xs) ys =
    ap (λ w. 47 ∷ x ++ w) (further_text-append xs ys) ∙ ap (λ w. 47 ∷ w) (sym (append_assoc x (further_text xs) (further_text ys)))

-- one more name adds its text
pub further_more : (before now slashed after : List ℕ) (names : List (List ℕ)) (name : List ℕ) (i : ℕ) (d : List ℕ) → i < length names
    → now ≡ before ++ further_text (take i names) → name ≡ get_or names i d
    → slashed ≡ now ++ 47 ∷ [] → after ≡ slashed ++ name
    → after ≡ before ++ further_text (take (i + 1) names)
further_more before now slashed after names name i d within so_far is slash added =
    let joined : further_text (take i names) ++ (47 ∷ name) ≡ further_text (take (i + 1) names) =
    ap (λ w. further_text (take i names) ++ (47 ∷ w)) (is ∙ sym (append-nil (get_or names i d)))
    ∙ sym (further_text-append (take i names) (get_or names i d ∷ []))
    ∙ ap further_text (sym (take-suc names i d within) ∙ ap (λ k. take k names) (sym (add-one i))) in
    added ∙ ap (λ w. w ++ name) (slash ∙ ap (λ w. w ++ 47 ∷ []) so_far)
    ∙ append_assoc (before ++ further_text (take i names)) (47 ∷ []) name
    ∙ append_assoc before (further_text (take i names)) (47 ∷ name)
    ∙ ap (λ w. before ++ w) joined

-- a path's text is that of its names, each behind a `/`
pub path_text-further : (names : List (List ℕ)) → names ≢ [] → path_text names ≡ further_text names
path_text-further [] some = absurd (some refl)
path_text-further (x ∷ []) some = ap (λ w. 47 ∷ w) (sym (append-nil x))
path_text-further (x ∷ y ∷ more) some = ap (λ w. 47 ∷ x ++ w) (path_text-further (y ∷ more) (λ e. cc e))

-- no byte of a name is `/`
no_slash : (name : List ℕ) → IsName name → All (λ byte. (byte == 47) ≡ false) name
no_slash name is = All-weaker (λ byte. is_name_byte byte ≡ true) (λ byte. (byte == 47) ≡ false) other name is.bytes
  where
    other : (byte : ℕ) → is_name_byte byte ≡ true → (byte == 47) ≡ false
    other byte may = grind (arith, nat_tests)

-- names that were joined are the parts of their text
pub split_of-joined : (names : List (List ℕ)) → names ≢ [] → All IsName names → slice_split (λ byte. byte == 47) (join_with_byte 47 names)
    ≡ names
split_of-joined [] some are = absurd (some refl)
split_of-joined (x ∷ []) some are = slice_split_none (λ byte. byte == 47) x (no_slash x (All-head IsName x [] are))
split_of-joined (x ∷ y ∷ more) some are =
    slice_split_at (λ byte. byte == 47) x 47 (join_with_byte 47 (y ∷ more)) (no_slash x (All-head IsName x (y ∷ more) are)) refl
    ∙ ap (λ w. x ∷ w) (split_of-joined (y ∷ more) (λ e. cc e) (All-tail IsName x (y ∷ more) are))

-- the text of a path that was read is the text of its parts
pub path_of-parts : (text rest : List ℕ) (names : List (List ℕ)) → text ≡ 47 ∷ rest → length text ≤ 1024
    → (names ≡ slice_split (λ byte. byte == 47) rest) × AreNames names → IsPath names × (text ≡ path_text names)
path_of-parts text rest names is short (parts, are) =
    let same : text ≡ path_text names = is ∙ ap (λ w. 47 ∷ w) (sym (join_with_byte-slice_split 47 rest)
    ∙ ap (join_with_byte 47) (sym parts)) in
    (record { are_names = are; bytes = omega (arith, short, ap length same) }, same)

-- where the parts are no names, the text is no path
pub no_path-parts : (text rest : List ℕ) → text ≡ 47 ∷ rest → rest ≢ [] → (AreNames (slice_split (λ byte. byte == 47) rest) → ⊥)
    → (path : List (List ℕ)) → IsPath path → text ≢ path_text path
no_path-parts text rest is some not_names path is_path same =
    let joined : rest ≡ join_with_byte 47 path = ap (drop 1) (sym is ∙ same) in
    let filled : path ≢ [] = λ none. some (joined ∙ ap (join_with_byte 47) none) in
    let parts : slice_split (λ byte. byte == 47) rest ≡ path = ap (slice_split (λ byte. byte == 47)) joined
    ∙ split_of-joined path filled is_path.are_names.1 in
    not_names (subst AreNames (sym parts) is_path.are_names)

-- a name isn't empty, so joined names aren't
joined_some : (name : List ℕ) (names : List (List ℕ)) → IsName name → join_with_byte 47 (name ∷ names) ≡ [] → ⊥
joined_some [] names is none = is.filled refl
joined_some (byte ∷ name) [] is none = cc
joined_some (byte ∷ name) (next ∷ names) is none = cc

-- two paths with one text are one path
pub path_text-injective : (p q : List (List ℕ)) → IsPath p → IsPath q → path_text p ≡ path_text q → p ≡ q
path_text-injective [] [] is_p is_q same = refl
path_text-injective [] (x ∷ xs) is_p is_q same =
    absurd (joined_some x xs (All-head IsName x xs is_q.are_names.1) (sym (ap (drop 1) same)))
path_text-injective (x ∷ xs) [] is_p is_q same = absurd (joined_some x xs (All-head IsName x xs is_p.are_names.1) (ap (drop 1) same))
path_text-injective (x ∷ xs) (y ∷ ys) is_p is_q same =
    sym (split_of-joined (x ∷ xs) (λ e. cc e) is_p.are_names.1)
    ∙ ap (slice_split (λ byte. byte == 47)) (ap (drop 1) same)
    ∙ split_of-joined (y ∷ ys) (λ e. cc e) is_q.are_names.1
