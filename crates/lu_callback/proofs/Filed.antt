-- What the calls of a map from cookies to what was asked do to the list of all that is outstanding.
use Rattle.std.proofs.Common.{Ordering, ◌≡◌, ℕ, ◌+◌, ◌<◌, ◌≤◌, ◌==◌, ◌&&◌, ◌||◌, Bool, true, false, not, cond, nat_lt, List, [], ◌∷◌, ◌++◌}
use Rattle.std.proofs.Common.{length, get_or, filter, Option, Some, None, refl, ap, sym, subst, ◌∙◌, append_assoc, arith}
use Rattle.std.specs.Prelude.{All}
use Rattle.std.specs.List.{list_any}
use Rattle.std.specs.Option.{option_map_or}
use Rattle.std.specs.Ordering.{nat_cmp, match_ordering}
use Rattle.std.specs.Map.{lookup, set_value, remove_entry}
use Rattle.std.specs.BTreeMap.{BTreeMap, insert_entry}
use Rattle.std.proofs.lemmas.Bool.{eq-eqb, eqb-true}
use Rattle.std.proofs.lemmas.Bool.Decides.{nat_tests}
use Rattle.std.proofs.lemmas.List.Elements.{All-append, All-cons, All-filter, filter-append}
use Rattle.std.proofs.lemmas.List.{append-nil}
use Rattle.std.proofs.lemmas.List.Folds.{list_any-append, list_any_none}
use Rattle.lu_base.specs.declared.ids.Cookie.{Cookie}
use Rattle.lu_callback.specs.declared.callbacks.Asked.{Asked}
use Rattle.lu_callback.specs.declared.callbacks.Kind.{Kind}
use Rattle.lu_callback.specs.Callbacks.{is_block, is_asked, is_outstanding, stands_before, with_asked, without, of_lock, IsSound}
use Rattle.lu_callback.specs.Filed.{of_kind, put_in, all_asked, at, is_idle, IsFiled, IsHeld}
use Rattle.lu_callback.proofs.Orders.{rest_all, none_at, sound_asked, sound_filtered}

abbrev pub Entries : Type 0
Entries = List (Cookie × List Asked)

-- cookies as keys
abbrev pub by_cookie : Cookie → Cookie → Ordering
by_cookie one other = nat_cmp one.0 other.0

key_is : (cookie key : Cookie) → at cookie key ≡ true → key.0 ≡ cookie.0
key_is cookie key = grind (arith, nat_tests)

key_apart : (cookie key : Cookie) → at cookie key ≡ false → (key.0 == cookie.0) ≡ false
key_apart cookie key = grind (arith, nat_tests)

below_apart : (cookie key : Cookie) → key.0 < cookie.0 → at cookie key ≡ false
below_apart cookie key less = grind (arith, nat_tests)

step_more : {A : Type 0} (cookie key : Cookie) (less equal more : A) → key.0 < cookie.0
    → match_ordering (by_cookie cookie key) less equal more ≡ more
step_more cookie key less equal more below = grind (arith, nat_tests)

step_less : {A : Type 0} (cookie key : Cookie) (less equal more : A) → cookie.0 < key.0
    → match_ordering (by_cookie cookie key) less equal more ≡ less
step_less cookie key less equal more above = grind (arith, nat_tests)

some_is : (one other : List Asked) → Some one ≡ Some other → one ≡ other
some_is one other e = cc

-- of one lock, of later ones, and of others
abbrev pub Of : ℕ → Asked → Type 0
Of n asked = asked.cookie.0 ≡ n

abbrev Above : ℕ → Asked → Type 0
Above n asked = n ≤ asked.cookie.0

abbrev Apart : Cookie → Asked → Type 0
Apart cookie asked = (asked.cookie.0 == cookie.0) ≡ false

of_apart : (cookie : Cookie) (n : ℕ) (xs : List Asked) → (n == cookie.0) ≡ false → All (Of n) xs → All (Apart cookie) xs
of_apart cookie n xs apart of = λ k d within. subst (λ m. (m == cookie.0) ≡ false) (sym (of k d within)) apart

above_apart : (cookie : Cookie) (n : ℕ) (xs : List Asked) → cookie.0 < n → All (Above n) xs → All (Apart cookie) xs
above_apart cookie n xs less above = λ k d within. by (get_or xs k d).cookie.0 (above k d within) where
  by : (m : ℕ) → n ≤ m → (m == cookie.0) ≡ false
  by m more = grind (arith, nat_tests)

pub lower : (m n : ℕ) (entries : Entries) → m ≤ n → IsFiled n entries → IsFiled m entries
lower m n [] less filed = filed
lower m n (entry ∷ entries) less filed = (omega (arith, filed.0), filed.1, filed.2)

above : (n : ℕ) (entries : Entries) → IsFiled n entries → All (Above n) (all_asked entries)
above n [] filed = λ k d within. absurd (omega arith)
above n (entry ∷ entries) filed = All-append (Above n) entry.1 (all_asked entries) here (more (above (entry.0.0 + 1) entries filed.2)) where
  here : All (Above n) entry.1
  here = λ k d within. let e : (get_or entry.1 k d).cookie.0 ≡ entry.0.0 = filed.1 k d within in omega (arith, filed.0)

  more : All (Above (entry.0.0 + 1)) (all_asked entries) → All (Above n) (all_asked entries)
  more rest = λ k d within. let l : entry.0.0 + 1 ≤ (get_or (all_asked entries) k d).cookie.0 = rest k d within in omega (arith, filed.0)

rest_apart : (cookie : Cookie) (entry : Cookie × List Asked) (entries : Entries) → entry.0.0 ≡ cookie.0 → IsFiled (entry.0.0 + 1) entries
    → All (Apart cookie) (all_asked entries)
rest_apart cookie entry entries key filed = above_apart cookie (entry.0.0 + 1) (all_asked entries) (omega (arith, key))
    (above (entry.0.0 + 1) entries filed)

-- what is outstanding of a lock is outstanding under its cookie
kind_alone : (cookie : Cookie) (kind : Kind) (xs : List Asked) → All (Of cookie.0) xs → list_any (is_asked cookie kind) xs
    ≡ list_any (of_kind kind) xs
kind_alone cookie kind [] of = refl
kind_alone cookie kind (one ∷ xs) of =
    let here : (one.cookie.0 == cookie.0) ≡ true = eq-eqb one.cookie.0 cookie.0 (of 0 one (omega arith)) in
    rw (here, kind_alone cookie kind xs (rest_all (Of cookie.0) one xs of)) refl

other_lock : (cookie : Cookie) (kind : Kind) (xs : List Asked) → All (Apart cookie) xs → list_any (is_asked cookie kind) xs ≡ false
other_lock cookie kind xs apart = list_any_none (is_asked cookie kind) xs (λ k d within. rw (apart k d within) refl)

or_false : (a : Bool) → (a || false) ≡ a
or_false true = refl
or_false false = refl

pub any_is : (cookie : Cookie) (kind : Kind) (n : ℕ) (entries : Entries) → IsFiled n entries
    → is_outstanding cookie kind (all_asked entries) ≡ option_map_or (list_any (of_kind kind)) (lookup (at cookie) entries) false
any_is cookie kind n [] filed = refl
any_is cookie kind n (entry ∷ entries) filed = by (at cookie entry.0) refl (any_is cookie kind (entry.0.0 + 1) entries filed.2) where
  all : is_outstanding cookie kind (entry.1 ++ all_asked entries)
      ≡ (is_outstanding cookie kind entry.1 || is_outstanding cookie kind (all_asked entries))
  all = list_any-append (is_asked cookie kind) entry.1 (all_asked entries)

  by : (same : Bool) → at cookie entry.0 ≡ same → is_outstanding cookie kind (all_asked entries)
      ≡ option_map_or (list_any (of_kind kind)) (lookup (at cookie) entries) false
      → is_outstanding cookie kind (entry.1 ++ all_asked entries)
      ≡ option_map_or (list_any (of_kind kind)) (cond same (Some entry.1) (lookup (at cookie) entries)) false
  by true e rest =
      let key : entry.0.0 ≡ cookie.0 = key_is cookie entry.0 e in
      let own : is_outstanding cookie kind entry.1 ≡ list_any (of_kind kind) entry.1 =
      kind_alone cookie kind entry.1 (subst (λ m. All (Of m) entry.1) key filed.1) in
      let none : is_outstanding cookie kind (all_asked entries) ≡ false =
      other_lock cookie kind (all_asked entries) (rest_apart cookie entry entries key filed.2) in
      all ∙ ap (λ b. b || is_outstanding cookie kind (all_asked entries)) own ∙ ap (λ b. list_any (of_kind kind) entry.1 || b) none
      ∙ or_false (list_any (of_kind kind) entry.1)
  by false e rest =
      let none : is_outstanding cookie kind entry.1 ≡ false = other_lock cookie kind entry.1
      (of_apart cookie entry.0.0 entry.1 (key_apart cookie entry.0 e) filed.1) in
      all ∙ ap (λ b. b || is_outstanding cookie kind (all_asked entries)) none ∙ rest

-- asking
lower_before : (one asked : Asked) → one.cookie.0 < asked.cookie.0 → stands_before one asked ≡ true
lower_before one asked less = grind (arith, nat_tests)

higher_behind : (one asked : Asked) → asked.cookie.0 < one.cookie.0 → stands_before one asked ≡ false
higher_behind one asked more = grind (arith, nat_tests)

same_place : (one asked : Asked) → one.cookie.0 ≡ asked.cookie.0 → stands_before one asked ≡ not (is_block asked.kind)
same_place one asked same = by (is_block asked.kind) where
  by : (block : Bool) → (nat_lt one.cookie.0 asked.cookie.0 || (one.cookie.0 == asked.cookie.0 && not block)) ≡ not block
  by true = grind (arith, nat_tests)
  by false = grind (arith, nat_tests)

ahead : (asked : Asked) (xs ys : List Asked) → All (λ one. stands_before one asked ≡ true) xs → with_asked asked (xs ++ ys) ≡ xs
    ++ with_asked asked ys
ahead asked [] ys before = refl
ahead asked (one ∷ xs) ys before =
    let here : stands_before one asked ≡ true = before 0 one (omega arith) in
    rw here (ap (λ more. one ∷ more) (ahead asked xs ys (rest_all (λ other. stands_before other asked ≡ true) one xs before)))

behind : (asked : Asked) (ys : List Asked) → All (λ one. stands_before one asked ≡ false) ys → with_asked asked ys ≡ asked ∷ ys
behind asked [] after = refl
behind asked (one ∷ ys) after = let here : stands_before one asked ≡ false = after 0 one (omega arith) in rw here refl

all_behind : (asked : Asked) (ys : List Asked) → All (Above (asked.cookie.0 + 1)) ys → All (λ one. stands_before one asked ≡ false) ys
all_behind asked ys above = λ k d within. let l : asked.cookie.0 + 1 ≤ (get_or ys k d).cookie.0 = above k d within
    in higher_behind (get_or ys k d) asked (omega arith)

all_ahead : (asked : Asked) (n : ℕ) (xs : List Asked) → n < asked.cookie.0 → All (Of n) xs → All (λ one. stands_before one asked ≡ true) xs
all_ahead asked n xs less of = λ k d within. let e : (get_or xs k d).cookie.0 ≡ n = of k d within
    in lower_before (get_or xs k d) asked (omega arith)

put_same : (asked : Asked) (xs ys : List Asked) → All (Of asked.cookie.0) xs → All (Above (asked.cookie.0 + 1)) ys
    → with_asked asked (xs ++ ys) ≡ put_in asked xs ++ ys
put_same asked xs ys of above = by (is_block asked.kind) refl where
  by : (block : Bool) → is_block asked.kind ≡ block → with_asked asked (xs ++ ys) ≡ cond block (asked ∷ xs) (xs ++ asked ∷ []) ++ ys
  by true e =
      behind asked (xs ++ ys) (All-append (λ one. stands_before one asked ≡ false) xs ys
      (λ k d within. same_place (get_or xs k d) asked (of k d within) ∙ ap not e) (all_behind asked ys above))
  by false e =
      ahead asked xs ys (λ k d within. same_place (get_or xs k d) asked (of k d within) ∙ ap not e)
      ∙ ap (λ more. xs ++ more) (behind asked ys (all_behind asked ys above))
      ∙ sym (append_assoc xs (asked ∷ []) ys)

found_above : (cookie : Cookie) (n : ℕ) (entries : Entries) (xs : List Asked) → IsFiled n entries → lookup (at cookie) entries ≡ Some xs
    → n ≤ cookie.0
found_above cookie n [] xs filed found = absurd (cc)
found_above cookie n (entry ∷ entries) xs filed found = by (at cookie entry.0) refl found
    (found_above cookie (entry.0.0 + 1) entries xs filed.2) where
      by : (same : Bool) → at cookie entry.0 ≡ same → cond same (Some entry.1) (lookup (at cookie) entries) ≡ Some xs
          → (lookup (at cookie) entries ≡ Some xs → entry.0.0 + 1 ≤ cookie.0) → n ≤ cookie.0
      by true e h rest = let key : entry.0.0 ≡ cookie.0 = key_is cookie entry.0 e in omega (arith, filed.0)
      by false e h rest = let l : entry.0.0 + 1 ≤ cookie.0 = rest h in omega (arith, filed.0)

found_of : (cookie : Cookie) (n : ℕ) (entries : Entries) (xs : List Asked) → IsFiled n entries → lookup (at cookie) entries ≡ Some xs
    → All (Of cookie.0) xs
found_of cookie n [] xs filed found = absurd (cc)
found_of cookie n (entry ∷ entries) xs filed found = by (at cookie entry.0) refl found
    (found_of cookie (entry.0.0 + 1) entries xs filed.2) where
      by : (same : Bool) → at cookie entry.0 ≡ same → cond same (Some entry.1) (lookup (at cookie) entries) ≡ Some xs
          → (lookup (at cookie) entries ≡ Some xs → All (Of cookie.0) xs) → All (Of cookie.0) xs
      by true e h rest = subst (All (Of cookie.0)) (some_is entry.1 xs h) (subst (λ m. All (Of m) entry.1) (key_is cookie entry.0 e) filed.1)
      by false e h rest = rest h

abbrev pub put_at : Asked → List Asked → Entries → Entries
put_at asked xs entries = set_value (at asked.cookie) entries (put_in asked xs)

put_there : (asked : Asked) (n : ℕ) (entries : Entries) (xs : List Asked) → IsFiled n entries → lookup (at asked.cookie) entries ≡ Some xs
    → all_asked (put_at asked xs entries) ≡ with_asked asked (all_asked entries)
put_there asked n [] xs filed found = absurd (cc)
put_there asked n (entry ∷ entries) xs filed found = by (at asked.cookie entry.0) refl found
    (put_there asked (entry.0.0 + 1) entries xs filed.2) where
      by : (same : Bool) → at asked.cookie entry.0 ≡ same → cond same (Some entry.1) (lookup (at asked.cookie) entries) ≡ Some xs
          → (lookup (at asked.cookie) entries ≡ Some xs → all_asked (put_at asked xs entries) ≡ with_asked asked (all_asked entries))
          → all_asked (cond same ((entry.0, put_in asked xs) ∷ entries) (entry ∷ put_at asked xs entries))
          ≡ with_asked asked (entry.1 ++ all_asked entries)
      by true e h rest =
          let key : entry.0.0 ≡ asked.cookie.0 = key_is asked.cookie entry.0 e in
          ap (λ list. put_in asked list ++ all_asked entries) (sym (some_is entry.1 xs h))
          ∙ sym (put_same asked entry.1 (all_asked entries) (subst (λ m. All (Of m) entry.1) key filed.1)
          (subst (λ m. All (Above (m + 1)) (all_asked entries)) key (above (entry.0.0 + 1) entries filed.2)))
      by false e h rest =
          let less : entry.0.0 + 1 ≤ asked.cookie.0 = found_above asked.cookie (entry.0.0 + 1) entries xs filed.2 h in
          ap (λ more. entry.1 ++ more) (rest h) ∙ sym (ahead asked entry.1 (all_asked entries)
          (all_ahead asked entry.0.0 entry.1 (omega arith) filed.1))

abbrev pub put_new : Asked → Entries → Entries
put_new asked entries = insert_entry by_cookie entries asked.cookie (asked ∷ [])

none_behind : (cookie : Cookie) (key : Cookie) (same : Bool) (xs : List Asked) (found : Option (List Asked)) → at cookie key ≡ same
    → cond same (Some xs) found ≡ None → nat_lt key.0 cookie.0 ≡ false → cookie.0 < key.0
none_behind cookie key true xs found e none past = absurd (cc)
none_behind cookie key false xs found e none past = by (key_apart cookie key e) where
  by : (key.0 == cookie.0) ≡ false → cookie.0 < key.0
  by apart = grind (arith, nat_tests)

none_rest : (same : Bool) (xs : List Asked) (found : Option (List Asked)) → cond same (Some xs) found ≡ None → found ≡ None
none_rest true xs found e = absurd (cc)
none_rest false xs found e = e

new_there : (asked : Asked) (n : ℕ) (entries : Entries) → IsFiled n entries → lookup (at asked.cookie) entries ≡ None
    → all_asked (put_new asked entries) ≡ with_asked asked (all_asked entries)
new_there asked n [] filed none = refl
new_there asked n (entry ∷ entries) filed none = by (nat_lt entry.0.0 asked.cookie.0) refl
    (new_there asked (entry.0.0 + 1) entries filed.2 (none_rest (at asked.cookie entry.0) entry.1 (lookup (at asked.cookie) entries)
    none)) where
      front : Entries
      front = (asked.cookie, asked ∷ []) ∷ entry ∷ entries

      by : (below : Bool) → nat_lt entry.0.0 asked.cookie.0 ≡ below → all_asked (put_new asked entries) ≡ with_asked asked (all_asked entries)
          → all_asked (put_new asked (entry ∷ entries)) ≡ with_asked asked (entry.1 ++ all_asked entries)
      by true e rest =
          let less : entry.0.0 < asked.cookie.0 = grind (arith, nat_tests) in
          ap all_asked (step_more asked.cookie entry.0 ((asked.cookie, asked ∷ []) ∷ entry ∷ entries) ((entry.0, asked ∷ []) ∷ entries)
          (entry ∷ put_new asked entries) less)
          ∙ ap (λ more. entry.1 ++ more) rest
          ∙ sym (ahead asked entry.1 (all_asked entries) (all_ahead asked entry.0.0 entry.1 less filed.1))
      by false e rest =
          let more : asked.cookie.0 < entry.0.0 = none_behind asked.cookie entry.0 (at asked.cookie entry.0) entry.1
          (lookup (at asked.cookie) entries) refl none e in
          let later : IsFiled (asked.cookie.0 + 1) (entry ∷ entries) = (omega arith, filed.1, filed.2) in
          ap all_asked (step_less asked.cookie entry.0 ((asked.cookie, asked ∷ []) ∷ entry ∷ entries) ((entry.0, asked ∷ []) ∷ entries)
          (entry ∷ put_new asked entries) more)
          ∙ sym (behind asked (entry.1 ++ all_asked entries) (all_behind asked (entry.1 ++ all_asked entries)
          (above (asked.cookie.0 + 1) (entry ∷ entries) later)))

filed_set : (cookie : Cookie) (n : ℕ) (entries : Entries) (xs : List Asked) → IsFiled n entries → All (Of cookie.0) xs
    → IsFiled n (set_value (at cookie) entries xs)
filed_set cookie n [] xs filed of = filed
filed_set cookie n (entry ∷ entries) xs filed of = by (at cookie entry.0) refl
    (filed_set cookie (entry.0.0 + 1) entries xs filed.2 of) where
      by : (same : Bool) → at cookie entry.0 ≡ same → IsFiled (entry.0.0 + 1) (set_value (at cookie) entries xs)
          → IsFiled n (cond same ((entry.0, xs) ∷ entries) (entry ∷ set_value (at cookie) entries xs))
      by true e rest = (filed.0, subst (λ m. All (Of m) xs) (sym (key_is cookie entry.0 e)) of, filed.2)
      by false e rest = (filed.0, filed.1, rest)

filed_new : (asked : Asked) (n : ℕ) (entries : Entries) → n ≤ asked.cookie.0 → IsFiled n entries → lookup (at asked.cookie) entries ≡ None
    → IsFiled n (put_new asked entries)
filed_new asked n [] less filed none = (less, All-cons (Of asked.cookie.0) asked [] refl (λ k d within. absurd (omega arith)), tt)
filed_new asked n (entry ∷ entries) less filed none = by (nat_lt entry.0.0 asked.cookie.0) refl
    (λ below. filed_new asked (entry.0.0 + 1) entries below filed.2
    (none_rest (at asked.cookie entry.0) entry.1 (lookup (at asked.cookie) entries) none)) where
      by : (below : Bool) → nat_lt entry.0.0 asked.cookie.0 ≡ below
          → (entry.0.0 + 1 ≤ asked.cookie.0 → IsFiled (entry.0.0 + 1) (put_new asked entries)) → IsFiled n (put_new asked (entry ∷ entries))
      by true e rest =
          let less : entry.0.0 < asked.cookie.0 = grind (arith, nat_tests) in
          subst (IsFiled n) (sym (step_more asked.cookie entry.0 ((asked.cookie, asked ∷ []) ∷ entry ∷ entries)
          ((entry.0, asked ∷ []) ∷ entries) (entry ∷ put_new asked entries) less)) (filed.0, filed.1, rest (omega arith))
      by false e rest =
          let more : asked.cookie.0 < entry.0.0 = none_behind asked.cookie entry.0 (at asked.cookie entry.0) entry.1
          (lookup (at asked.cookie) entries) refl none e in
          subst (IsFiled n) (sym (step_less asked.cookie entry.0 ((asked.cookie, asked ∷ []) ∷ entry ∷ entries)
          ((entry.0, asked ∷ []) ∷ entries) (entry ∷ put_new asked entries) more))
          (less, All-cons (Of asked.cookie.0) asked [] refl (λ k d within. absurd (omega arith)), (omega arith, filed.1, filed.2))

put_of : (asked : Asked) (xs : List Asked) → All (Of asked.cookie.0) xs → All (Of asked.cookie.0) (put_in asked xs)
put_of asked xs of = by (is_block asked.kind) where
  by : (block : Bool) → All (Of asked.cookie.0) (cond block (asked ∷ xs) (xs ++ asked ∷ []))
  by true = All-cons (Of asked.cookie.0) asked xs refl of
  by false = All-append (Of asked.cookie.0) xs (asked ∷ []) of (All-cons (Of asked.cookie.0) asked [] refl
      (λ k d within. absurd (omega arith)))

-- what a call makes of all that is kept
pub record IsAsked (asked : Asked) (old new : Entries) : Type 0 where
  pub held : IsHeld new
  pub all : all_asked new ≡ with_asked asked (all_asked old)

pub asked_there : (asked : Asked) (xs : List Asked) (old new : Entries) → IsHeld old
    → is_outstanding asked.cookie asked.kind (all_asked old) ≡ false → lookup (at asked.cookie) old ≡ Some xs → new ≡ put_at asked xs old
    → IsAsked asked old new
asked_there asked xs old new held absent found is =
    let all : all_asked (put_at asked xs old) ≡ with_asked asked (all_asked old) = put_there asked 0 old xs held.filed found in
    subst (IsAsked asked old) (sym is) (record {
      held = record {
        filed = filed_set asked.cookie 0 old (put_in asked xs) held.filed
            (put_of asked xs (found_of asked.cookie 0 old xs held.filed found));
        sound = subst IsSound (sym all) (sound_asked asked (all_asked old) absent held.sound);
      };
      all = all;
    })

pub asked_new : (asked : Asked) (old new : Entries) → IsHeld old → is_outstanding asked.cookie asked.kind (all_asked old) ≡ false
    → lookup (at asked.cookie) old ≡ None → new ≡ put_new asked old → IsAsked asked old new
asked_new asked old new held absent none is =
    let all : all_asked (put_new asked old) ≡ with_asked asked (all_asked old) = new_there asked 0 old held.filed none in
    subst (IsAsked asked old) (sym is) (record {
      held = record {
        filed = filed_new asked 0 old (omega arith) held.filed none;
        sound = subst IsSound (sym all) (sound_asked asked (all_asked old) absent held.sound);
      };
      all = all;
    })

pub put_first : (asked : Asked) → put_in asked [] ≡ asked ∷ []
put_first asked = by (is_block asked.kind) where
  by : (block : Bool) → cond block (asked ∷ []) ([] ++ asked ∷ []) ≡ asked ∷ []
  by true = refl
  by false = refl

-- taking away
filter_all : (test : Asked → Bool) (xs : List Asked) → All (λ one. test one ≡ true) xs → filter test xs ≡ xs
filter_all test [] all = refl
filter_all test (one ∷ xs) all =
    let here : test one ≡ true = all 0 one (omega arith) in
    rw here (ap (λ more. one ∷ more) (filter_all test xs (rest_all (λ other. test other ≡ true) one xs all)))

filter_none : (test : Asked → Bool) (xs : List Asked) → All (λ one. test one ≡ false) xs → filter test xs ≡ []
filter_none test [] all = refl
filter_none test (one ∷ xs) all =
    let here : test one ≡ false = all 0 one (omega arith) in
    rw here (filter_none test xs (rest_all (λ other. test other ≡ false) one xs all))

abbrev off : Cookie → Asked → Bool
off cookie one = not (one.cookie.0 == cookie.0)

apart_stays : (cookie : Cookie) (xs : List Asked) → All (Apart cookie) xs → without cookie xs ≡ xs
apart_stays cookie xs apart = filter_all (off cookie) xs (λ k d within. ap not (apart k d within))

of_goes : (cookie : Cookie) (xs : List Asked) → All (Of cookie.0) xs → without cookie xs ≡ []
of_goes cookie xs of = filter_none (off cookie) xs (λ k d within. ap not (eq-eqb (get_or xs k d).cookie.0 cookie.0 (of k d within)))

removed : (cookie : Cookie) (n : ℕ) (entries : Entries) → IsFiled n entries → all_asked (remove_entry (at cookie) entries)
    ≡ without cookie (all_asked entries)
removed cookie n [] filed = refl
removed cookie n (entry ∷ entries) filed = by (at cookie entry.0) refl (removed cookie (entry.0.0 + 1) entries filed.2) where
  all : without cookie (entry.1 ++ all_asked entries) ≡ without cookie entry.1 ++ without cookie (all_asked entries)
  all = filter-append (off cookie) entry.1 (all_asked entries)

  by : (same : Bool) → at cookie entry.0 ≡ same → all_asked (remove_entry (at cookie) entries) ≡ without cookie (all_asked entries)
      → all_asked (cond same entries (entry ∷ remove_entry (at cookie) entries)) ≡ without cookie (entry.1 ++ all_asked entries)
  by true e rest =
      let key : entry.0.0 ≡ cookie.0 = key_is cookie entry.0 e in
      sym (all ∙ ap (λ xs. xs ++ without cookie (all_asked entries)) (of_goes cookie entry.1 (subst (λ m. All (Of m) entry.1) key filed.1))
      ∙ apart_stays cookie (all_asked entries) (rest_apart cookie entry entries key filed.2))
  by false e rest =
      ap (λ more. entry.1 ++ more) rest
      ∙ ap (λ xs. xs ++ without cookie (all_asked entries)) (sym
      (apart_stays cookie entry.1 (of_apart cookie entry.0.0 entry.1 (key_apart cookie entry.0 e) filed.1)))
      ∙ sym all

filed_removed : (cookie : Cookie) (n : ℕ) (entries : Entries) → IsFiled n entries → IsFiled n (remove_entry (at cookie) entries)
filed_removed cookie n [] filed = filed
filed_removed cookie n (entry ∷ entries) filed = by (at cookie entry.0) (filed_removed cookie (entry.0.0 + 1) entries filed.2) where
  by : (same : Bool) → IsFiled (entry.0.0 + 1) (remove_entry (at cookie) entries)
      → IsFiled n (cond same entries (entry ∷ remove_entry (at cookie) entries))
  by true rest = lower n (entry.0.0 + 1) entries (omega (arith, filed.0)) filed.2
  by false rest = (filed.0, filed.1, rest)

pub record IsFiltered (test : Asked → Bool) (old new : Entries) : Type 0 where
  pub held : IsHeld new
  pub all : all_asked new ≡ filter test (all_asked old)

pub all_removed : (cookie : Cookie) (old new : Entries) → IsHeld old → new ≡ remove_entry (at cookie) old → IsFiltered (off cookie) old new
all_removed cookie old new held is =
    let all : all_asked (remove_entry (at cookie) old) ≡ without cookie (all_asked old) = removed cookie 0 old held.filed in
    subst (IsFiltered (off cookie) old) (sym is) (record {
      held = record {
        filed = filed_removed cookie 0 old held.filed;
        sound = subst IsSound (sym all) (sound_filtered (off cookie) (all_asked old) held.sound);
      };
      all = all;
    })

abbrev pub other_than : Cookie → Kind → Asked → Bool
other_than cookie kind one = not (is_asked cookie kind one)

abbrev pub of_others : Kind → Asked → Bool
of_others kind one = not (of_kind kind one)

others_stay : (cookie : Cookie) (kind : Kind) (xs : List Asked) → All (Apart cookie) xs → filter (other_than cookie kind) xs ≡ xs
others_stay cookie kind xs apart = filter_all (other_than cookie kind) xs (λ k d within. rw (apart k d within) refl)

kind_goes : (cookie : Cookie) (kind : Kind) (xs : List Asked) → All (Of cookie.0) xs → filter (other_than cookie kind) xs
    ≡ filter (of_others kind) xs
kind_goes cookie kind [] of = refl
kind_goes cookie kind (one ∷ xs) of =
    let here : (one.cookie.0 == cookie.0) ≡ true = eq-eqb one.cookie.0 cookie.0 (of 0 one (omega arith)) in
    rw (here, kind_goes cookie kind xs (rest_all (Of cookie.0) one xs of)) refl

abbrev pub forgot : Cookie → Kind → List Asked → Entries → Entries
forgot cookie kind xs entries = set_value (at cookie) entries (filter (of_others kind) xs)

kind_forgot : (cookie : Cookie) (kind : Kind) (n : ℕ) (entries : Entries) (xs : List Asked) → IsFiled n entries → lookup (at cookie) entries
    ≡ Some xs → all_asked (forgot cookie kind xs entries) ≡ filter (other_than cookie kind) (all_asked entries)
kind_forgot cookie kind n [] xs filed found = absurd (cc)
kind_forgot cookie kind n (entry ∷ entries) xs filed found = by (at cookie entry.0) refl found
    (kind_forgot cookie kind (entry.0.0 + 1) entries xs filed.2) where
      test : Asked → Bool
      test = other_than cookie kind

      all : filter (other_than cookie kind) (entry.1 ++ all_asked entries) ≡ filter (other_than cookie kind) entry.1
          ++ filter (other_than cookie kind) (all_asked entries)
      all = filter-append (other_than cookie kind) entry.1 (all_asked entries)

      by : (same : Bool) → at cookie entry.0 ≡ same → cond same (Some entry.1) (lookup (at cookie) entries) ≡ Some xs
          → (lookup (at cookie) entries ≡ Some xs → all_asked (forgot cookie kind xs entries)
          ≡ filter (other_than cookie kind) (all_asked entries))
          → all_asked (cond same ((entry.0, filter (of_others kind) xs) ∷ entries) (entry ∷ forgot cookie kind xs entries))
          ≡ filter (other_than cookie kind) (entry.1 ++ all_asked entries)
      by true e h rest =
          let key : entry.0.0 ≡ cookie.0 = key_is cookie entry.0 e in
          ap (λ list. filter (of_others kind) list ++ all_asked entries) (sym (some_is entry.1 xs h))
          ∙ ap (λ list. list ++ all_asked entries) (sym (kind_goes cookie kind entry.1 (subst (λ m. All (Of m) entry.1) key filed.1)))
          ∙ ap (λ more. filter (other_than cookie kind) entry.1 ++ more)
          (sym (others_stay cookie kind (all_asked entries) (rest_apart cookie entry entries key filed.2)))
          ∙ sym all
      by false e h rest =
          ap (λ more. entry.1 ++ more) (rest h)
          ∙ ap (λ list. list ++ filter (other_than cookie kind) (all_asked entries))
          (sym (others_stay cookie kind entry.1 (of_apart cookie entry.0.0 entry.1 (key_apart cookie entry.0 e) filed.1)))
          ∙ sym all

pub all_forgot : (cookie : Cookie) (kind : Kind) (xs : List Asked) (old new : Entries) → IsHeld old → lookup (at cookie) old ≡ Some xs → new
    ≡ forgot cookie kind xs old → IsFiltered (other_than cookie kind) old new
all_forgot cookie kind xs old new held found is =
    let all : all_asked (forgot cookie kind xs old) ≡ filter (other_than cookie kind) (all_asked old) =
    kind_forgot cookie kind 0 old xs held.filed found in
    subst (IsFiltered (other_than cookie kind) old) (sym is) (record {
      held = record {
        filed = filed_set cookie 0 old (filter (of_others kind) xs) held.filed
            (All-filter (of_others kind) (Of cookie.0) xs (found_of cookie 0 old xs held.filed found));
        sound = subst IsSound (sym all) (sound_filtered (other_than cookie kind) (all_asked old) held.sound);
      };
      all = all;
    })

pub none_forgot : (cookie : Cookie) (kind : Kind) (entries : Entries) → IsHeld entries → lookup (at cookie) entries ≡ None
    → all_asked entries ≡ filter (other_than cookie kind) (all_asked entries)
none_forgot cookie kind entries held none =
    let absent : is_outstanding cookie kind (all_asked entries) ≡ false = any_is cookie kind 0 entries held.filed
    ∙ ap (λ found. option_map_or (list_any (of_kind kind)) found false) none in
    sym (filter_all (other_than cookie kind) (all_asked entries)
    (λ k d within. ap not (none_at (is_asked cookie kind) (all_asked entries) absent k d within)))

-- what stands under a cookie is what is outstanding of its lock
abbrev on : Cookie → Asked → Bool
on cookie one = one.cookie.0 == cookie.0

of_stays : (cookie : Cookie) (xs : List Asked) → All (Of cookie.0) xs → of_lock cookie xs ≡ xs
of_stays cookie xs of = filter_all (on cookie) xs (λ k d within. eq-eqb (get_or xs k d).cookie.0 cookie.0 (of k d within))

apart_goes : (cookie : Cookie) (xs : List Asked) → All (Apart cookie) xs → of_lock cookie xs ≡ []
apart_goes cookie xs apart = filter_none (on cookie) xs apart

abbrev pub found_in : Option (List Asked) → List Asked
found_in None = []
found_in (Some xs) = xs

of_is : (cookie : Cookie) (n : ℕ) (entries : Entries) → IsFiled n entries → of_lock cookie (all_asked entries)
    ≡ found_in (lookup (at cookie) entries)
of_is cookie n [] filed = refl
of_is cookie n (entry ∷ entries) filed = by (at cookie entry.0) refl (of_is cookie (entry.0.0 + 1) entries filed.2) where
  all : of_lock cookie (entry.1 ++ all_asked entries) ≡ of_lock cookie entry.1 ++ of_lock cookie (all_asked entries)
  all = filter-append (on cookie) entry.1 (all_asked entries)

  by : (same : Bool) → at cookie entry.0 ≡ same → of_lock cookie (all_asked entries) ≡ found_in (lookup (at cookie) entries)
      → of_lock cookie (entry.1 ++ all_asked entries) ≡ found_in (cond same (Some entry.1) (lookup (at cookie) entries))
  by true e rest =
      let key : entry.0.0 ≡ cookie.0 = key_is cookie entry.0 e in
      all
      ∙ ap (λ xs. xs ++ of_lock cookie (all_asked entries)) (of_stays cookie entry.1 (subst (λ m. All (Of m) entry.1) key filed.1))
      ∙ ap (λ more. entry.1 ++ more) (apart_goes cookie (all_asked entries) (rest_apart cookie entry entries key filed.2))
      ∙ append-nil entry.1
  by false e rest =
      all
      ∙ ap (λ xs. xs ++ of_lock cookie (all_asked entries)) (apart_goes cookie entry.1
      (of_apart cookie entry.0.0 entry.1 (key_apart cookie entry.0 e) filed.1))
      ∙ rest

pub of_found : (cookie : Cookie) (entries : Entries) (found : Option (List Asked)) → IsHeld entries → found ≡ lookup (at cookie) entries
    → of_lock cookie (all_asked entries) ≡ found_in found
of_found cookie entries found held is = of_is cookie 0 entries held.filed ∙ ap found_in (sym is)

-- letting go of a cookie under which nothing stands
idle_found : (found : Option (List Asked)) → option_map_or (λ asked. length asked == 0) found false ≡ true → found ≡ Some []
idle_found None idle = absurd (cc)
idle_found (Some []) idle = refl
idle_found (Some (one ∷ xs)) idle = let none : length (one ∷ xs) ≡ 0 = eqb-true (length (one ∷ xs)) 0 idle in absurd (omega arith)

gone : (cookie : Cookie) (entries : Entries) → lookup (at cookie) entries ≡ Some [] → all_asked (remove_entry (at cookie) entries)
    ≡ all_asked entries
gone cookie [] found = absurd (cc)
gone cookie (entry ∷ entries) found = by (at cookie entry.0) found (gone cookie entries) where
  by : (same : Bool) → cond same (Some entry.1) (lookup (at cookie) entries) ≡ Some []
      → (lookup (at cookie) entries ≡ Some [] → all_asked (remove_entry (at cookie) entries) ≡ all_asked entries)
      → all_asked (cond same entries (entry ∷ remove_entry (at cookie) entries)) ≡ entry.1 ++ all_asked entries
  by true h rest = ap (λ xs. xs ++ all_asked entries) (sym (some_is entry.1 [] h))
  by false h rest = ap (λ more. entry.1 ++ more) (rest h)

pub idle_gone : (cookie : Cookie) (entries : Entries) → is_idle cookie entries ≡ true → all_asked (remove_entry (at cookie) entries)
    ≡ all_asked entries
idle_gone cookie entries idle = gone cookie entries (idle_found (lookup (at cookie) entries) idle)

-- a map of which nothing was lent
pub entries_same : {one other : BTreeMap Cookie (List Asked)} → one ≡ other → one.entries ≡ other.entries
entries_same e = ap (λ (m : BTreeMap Cookie (List Asked)). m.entries) e

pub inserted : {m old : BTreeMap Cookie (List Asked)} (new : Entries) (asked : Asked) (list : List Asked) → new
    ≡ insert_entry by_cookie m.entries asked.cookie list → m ≡ old → list ≡ asked ∷ [] → new ≡ put_new asked old.entries
inserted {m} {old} new asked list is same one =
    is
    ∙ ap (λ (n : BTreeMap Cookie (List Asked)). insert_entry by_cookie n.entries asked.cookie list) same
    ∙ ap (λ (xs : List Asked). insert_entry by_cookie old.entries asked.cookie xs) one
