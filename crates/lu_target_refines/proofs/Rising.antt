-- Lists whose keys rise: two of them in which the same is found are one; what is found once an item is put in its place.
use Rattle.std.proofs.Common.{◌≡◌, Bool, true, false, cond, List, [], ◌∷◌, filter, Option, Some, None, refl, sym, ap, ◌∙◌}
use Rattle.std.specs.Prelude.{⊤, if◌then◌else◌}

-- ---- an order of keys, and lists that rise in it

pub record IsOrder {A : Type 0} (same before : A → A → Bool) : Type 0 where
  pub own : (a : A) → same a a ≡ true
  pub back : (a b : A) → same a b ≡ same b a
  pub through : (a b c : A) → same a b ≡ true → same a c ≡ same b c
  pub apart : (a b : A) → before a b ≡ true → same a b ≡ false
  pub later : (a b c : A) → before a b ≡ true → before b c ≡ true → before a c ≡ true
  pub beside : (a b c : A) → same a b ≡ true → before a c ≡ before b c
  pub either : (a b : A) → same a b ≡ false → before a b ≡ false → before b a ≡ true

abbrev pub AllAfter : {A : Type 0} → (A → A → Bool) → A → List A → Type 0
AllAfter before x [] = ⊤
AllAfter before x (y ∷ ys) = (before x y ≡ true) × AllAfter before x ys

abbrev pub Rises : {A : Type 0} → (A → A → Bool) → List A → Type 0
Rises before [] = ⊤
Rises before (x ∷ xs) = AllAfter before x xs × Rises before xs

-- the item of this key
abbrev pub found : {A : Type 0} → (A → A → Bool) → A → List A → Option A
found same x [] = None
found same x (y ∷ ys) = if same x y then Some y else found same x ys

some_is : {A : Type 0} (a b : A) → Some a ≡ Some b → a ≡ b
some_is a b e = cc

no_some : {A : Type 0} {B : Type 0} (a : A) → Some a ≡ None → B
no_some a e = absurd (cc)

clash : {B : Type 0} → true ≡ false → B
clash e = absurd (cc)

-- ---- what comes after

pub after_beside : {A : Type 0} (same before : A → A → Bool) → IsOrder same before → (z x : A) (ys : List A) → same z x ≡ true
    → AllAfter before x ys → AllAfter before z ys
after_beside same before order z x [] e all = all
after_beside same before order z x (y ∷ ys) e all = (order.beside z x y e ∙ all.0, after_beside same before order z x ys e all.1)

after_later : {A : Type 0} (same before : A → A → Bool) → IsOrder same before → (z x : A) (ys : List A) → before z x ≡ true
    → AllAfter before x ys → AllAfter before z ys
after_later same before order z x [] e all = all
after_later same before order z x (y ∷ ys) e all = (order.later z x y e all.0, after_later same before order z x ys e all.1)

pub none_after : {A : Type 0} (same before : A → A → Bool) → IsOrder same before → (z : A) (ys : List A) → AllAfter before z ys
    → found same z ys ≡ None
none_after same before order z [] all = refl
none_after same before order z (y ∷ ys) all = rw (order.apart z y all.0) (none_after same before order z ys all.1)

-- ---- two lists in which the same is found

tail_same : {A : Type 0} (same before : A → A → Bool) → IsOrder same before → (x : A) (xs ys : List A) → AllAfter before x xs
    → AllAfter before x ys
    → ((z : A) → found same z (x ∷ xs) ≡ found same z (x ∷ ys)) → (z : A) → found same z xs ≡ found same z ys
tail_same same before order x xs ys one two all z = by (same z x) refl (all z) where
  by : (here : Bool) → same z x ≡ here → (if here then Some x else found same z xs) ≡ (if here then Some x else found same z ys)
      → found same z xs ≡ found same z ys
  by true e h =
      none_after same before order z xs (after_beside same before order z x xs e one)
      ∙ sym (none_after same before order z ys (after_beside same before order z x ys e two))
  by false e h = h

lone : {A : Type 0} {B : Type 0} (same before : A → A → Bool) → IsOrder same before → (x : A) (xs ys : List A) → AllAfter before x ys
    → found same x (x ∷ xs) ≡ found same x ys → B
lone same before order x xs ys all e =
    let here : found same x (x ∷ xs) ≡ Some x = rw (order.own x) refl in
    no_some x (sym here ∙ e ∙ none_after same before order x ys all)

pub one_list : {A : Type 0} (same before : A → A → Bool) → IsOrder same before → (xs ys : List A) → Rises before xs → Rises before ys
    → ((z : A) → found same z xs ≡ found same z ys) → xs ≡ ys
one_list same before order [] [] one two all = refl
one_list same before order [] (y ∷ ys) one two all = let here : found same y (y ∷ ys) ≡ Some y = rw (order.own y) refl
    in no_some y (sym here ∙ sym (all y))
one_list same before order (x ∷ xs) [] one two all = let here : found same x (x ∷ xs) ≡ Some x = rw (order.own x) refl
    in no_some x (sym here ∙ all x)
one_list same before order (x ∷ xs) (y ∷ ys) one two all = by (same x y) refl (before x y) refl
    (one_list same before order xs ys one.1 two.1) where
      Tails : Type 0
      Tails = (z : _) → found same z xs ≡ found same z ys

      by : (own : Bool) → same x y ≡ own → (first : Bool) → before x y ≡ first
          → (((z : _) → found same z xs ≡ found same z ys) → xs ≡ ys) → x ∷ xs ≡ y ∷ ys
      by true e first f rest =
          let left : found same x (x ∷ xs) ≡ Some x = rw (order.own x) refl in
          let right : found same x (y ∷ ys) ≡ Some y = rw e refl in
          let one_item : x ≡ y = some_is x y (sym left ∙ all x ∙ right) in
          let heads : (z : _) → found same z (x ∷ xs) ≡ found same z (x ∷ ys) = λ z. all z
          ∙ ap (λ item. found same z (item ∷ ys)) (sym one_item) in
          ap (λ more. x ∷ more) (rest (tail_same same before order x xs ys one.0 (after_beside same before order x y ys e two.0) heads))
          ∙ ap (λ item. item ∷ ys) one_item
      by false e true f rest = lone same before order x xs (y ∷ ys) (f, after_later same before order x y ys f two.0) (all x)
      by false e false f rest =
          let turned : before y x ≡ true = order.either x y e f in
          lone same before order y ys (x ∷ xs) (turned, after_later same before order y x xs turned one.0) (sym (all y))

-- ---- an item is put in its place, where another of its key goes

abbrev pub put : {A : Type 0} → (same before : A → A → Bool) → A → List A → List A
put same before x [] = x ∷ []
put same before x (y ∷ ys) = if same x y then x ∷ ys else (if before x y then x ∷ y ∷ ys else y ∷ put same before x ys)

pub found_put : {A : Type 0} (same before : A → A → Bool) → IsOrder same before → (x : A) (ys : List A) (z : A)
    → found same z (put same before x ys) ≡ (if same z x then Some x else found same z ys)
found_put same before order x [] z = refl
found_put same before order x (y ∷ ys) z = by (same x y) refl (before x y) (same z y) refl (same z x) refl
    (found_put same before order x ys z) where
      by : (own : Bool) → same x y ≡ own → (first : Bool) → (there : Bool) → same z y ≡ there → (here : Bool) → same z x ≡ here
          → found same z (put same before x ys) ≡ (if here then Some x else found same z ys)
          → found same z (if own then x ∷ ys else (if first then x ∷ y ∷ ys else y ∷ put same before x ys))
          ≡ (if here then Some x else (if there then Some y else found same z ys))
      by true e first there f true g rest = rw g refl
      by true e first true f false g rest = clash (sym f ∙ order.back z y ∙ sym (order.through x y z e) ∙ order.back x z ∙ g)
      by true e first false f false g rest = rw g refl
      by false e true there f true g rest = rw g refl
      by false e true there f false g rest = rw (g, f) refl
      by false e false true f true g rest = clash (sym f ∙ order.through z x y g ∙ e)
      by false e false true f false g rest = rw f refl
      by false e false false f here g rest = rw f rest

after_put : {A : Type 0} (same before : A → A → Bool) → (w x : A) (ys : List A) → before w x ≡ true → AllAfter before w ys
    → AllAfter before w (put same before x ys)
after_put same before w x [] e all = (e, all)
after_put same before w x (y ∷ ys) e all = by (same x y) (before x y) (after_put same before w x ys e all.1) where
  by : (own first : Bool) → AllAfter before w (put same before x ys)
      → AllAfter before w (if own then x ∷ ys else (if first then x ∷ y ∷ ys else y ∷ put same before x ys))
  by true first rest = (e, all.1)
  by false true rest = (e, all)
  by false false rest = (all.0, rest)

pub rises_put : {A : Type 0} (same before : A → A → Bool) → IsOrder same before → (x : A) (ys : List A) → Rises before ys
    → Rises before (put same before x ys)
rises_put same before order x [] rises = (rises, rises)
rises_put same before order x (y ∷ ys) rises = by (same x y) refl (before x y) refl (rises_put same before order x ys rises.1) where
  by : (own : Bool) → same x y ≡ own → (first : Bool) → before x y ≡ first → Rises before (put same before x ys)
      → Rises before (if own then x ∷ ys else (if first then x ∷ y ∷ ys else y ∷ put same before x ys))
  by true e first f rest = (after_beside same before order x y ys e rises.0, rises.1)
  by false e true f rest = ((f, after_later same before order x y ys f rises.0), rises)
  by false e false f rest = (after_put same before y x ys (order.either x y e f) rises.0, rest)

-- ---- some items are left out

after_filter : {A : Type 0} (before : A → A → Bool) (test : A → Bool) (w : A) (ys : List A) → AllAfter before w ys
    → AllAfter before w (filter test ys)
after_filter before test w [] all = all
after_filter before test w (y ∷ ys) all = by (test y) (after_filter before test w ys all.1) where
  by : (stays : Bool) → AllAfter before w (filter test ys) → AllAfter before w (cond stays (y ∷ filter test ys) (filter test ys))
  by true rest = (all.0, rest)
  by false rest = rest

pub rises_filter : {A : Type 0} (before : A → A → Bool) (test : A → Bool) (ys : List A) → Rises before ys → Rises before (filter test ys)
rises_filter before test [] rises = rises
rises_filter before test (y ∷ ys) rises = by (test y) (rises_filter before test ys rises.1) where
  by : (stays : Bool) → Rises before (filter test ys) → Rises before (cond stays (y ∷ filter test ys) (filter test ys))
  by true rest = (after_filter before test y ys rises.0, rest)
  by false rest = rest
