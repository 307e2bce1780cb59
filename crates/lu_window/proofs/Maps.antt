-- What the calls of lu_window's maps do to the lists that contracts see.
use Rattle.std.proofs.Common.{Ordering, ◌≡◌, ℕ, Bool, true, false, cond, not, ◌||◌, List, [], ◌∷◌, ◌++◌, length, filter, map, Option, Some}
use Rattle.std.proofs.Common.{None, refl, ap, sym, ◌∙◌, arith, nat_eq, nat_lt}
use Rattle.std.specs.Prelude.{is_some, option_map, fold}
use Rattle.std.specs.List.{list_any}
use Rattle.std.specs.Ordering.{nat_cmp, ordering_then, match_ordering, is_eq}
use Rattle.std.specs.Map.{lookup}
use Rattle.std.specs.BTreeMap.{insert_entry}
use Rattle.std.specs.BTreeSet.{insert_key}
use Rattle.std.proofs.lemmas.Bool.Decides.{nat_tests}
use Rattle.lu_base.specs.declared.ids.Who.{Who}
use Rattle.lu_spec_entries.specs.Carried.{Said}
use Rattle.lu_spec_entries.specs.Words.{same_life}
use Rattle.lu_replay.specs.declared.handed.Key.{Key}
use Rattle.lu_replay.specs.Handed.{same_key, key_before, has, with_item}
use Rattle.lu_spec_target.specs.Lives.{life_before, with_life, with_lives}
use Rattle.lu_spec_target.specs.Windows.{placed, word_of, with_word, wish_of, with_wish}
use Rattle.lu_window.specs.declared.words.Word.{Word}
use Rattle.lu_window.specs.Shown.{said, said_of, wish}

pub any_same : {A : Type 0} (p q : A → Bool) (xs : List A) → ((x : A) → p x ≡ q x) → list_any p xs ≡ list_any q xs
any_same p q [] same = refl
any_same p q (x ∷ xs) same = ap (λ b. b || list_any p xs) (same x) ∙ ap (λ b. q x || b) (any_same p q xs same)

pub map_map : {A B C : Type 0} (f : A → B) (g : B → C) (xs : List A) → map g (map f xs) ≡ map (λ x. g (f x)) xs
map_map f g [] = refl
map_map f g (x ∷ xs) = ap (λ more. g (f x) ∷ more) (map_map f g xs)

module _ {A B : Type 0} where
  pub any_map : (f : A → B) (p : B → Bool) (xs : List A) → list_any p (map f xs) ≡ list_any (λ x. p (f x)) xs
  any_map f p [] = refl
  any_map f p (x ∷ xs) = ap (λ b. p (f x) || b) (any_map f p xs)

  pub filter_map : (f : A → B) (p : B → Bool) (xs : List A) → filter p (map f xs) ≡ map f (filter (λ x. p (f x)) xs)
  filter_map f p [] = refl
  filter_map f p (x ∷ xs) = by (p (f x)) (filter_map f p xs) where
    by : (b : Bool) → filter p (map f xs) ≡ map f (filter (λ x. p (f x)) xs)
        → cond b (f x ∷ filter p (map f xs)) (filter p (map f xs))
        ≡ map f (cond b (x ∷ filter (λ x. p (f x)) xs) (filter (λ x. p (f x)) xs))
    by true rest = ap (λ more. f x ∷ more) rest
    by false rest = rest

  many_map : (f : A → B) (xs : List A) → length (map f xs) ≡ length xs
  many_map f [] = refl
  many_map f (x ∷ xs) = grind (arith, many_map f xs)

  pub count_map : (f : A → B) (p : B → Bool) (xs : List A) → length (filter p (map f xs)) ≡ length (filter (λ x. p (f x)) xs)
  count_map f p xs = ap length (filter_map f p xs) ∙ many_map f (filter (λ x. p (f x)) xs)

-- ---- things under a number and a life

module _ {T A : Type 0} where
  placed_map : (f : Key × T → A) (before : A → A → Bool) (key : Key) (item : T) (items : List (Key × T))
      → ((x : Key × T) → before (f (key, item)) (f x) ≡ key_before key x.0)
      → map f (with_item key item items) ≡ placed before (f (key, item)) (map f items)
  placed_map f before key item [] order = refl
  placed_map f before key item (x ∷ xs) order = by (key_before key x.0) (order x) (placed_map f before key item xs order) where
    by : (first : Bool) → before (f (key, item)) (f x) ≡ first → map f (with_item key item xs) ≡ placed before (f (key, item)) (map f xs)
        → map f (cond first ((key, item) ∷ x ∷ xs) (x ∷ with_item key item xs)) ≡ placed before (f (key, item)) (map f (x ∷ xs))
    by true e rest = rw e refl
    by false e rest = rw e (ap (λ more. f x ∷ more) rest)

  -- a thing was put under its key, where nothing was there
  pub put_once : (f : Key × T → A) (before : A → A → Bool) (test : A → Bool) (key : Key) (item : T) (items more : List (Key × T))
      (new : Bool)
      → ((x : Key × T) → before (f (key, item)) (f x) ≡ key_before key x.0)
      → ((x : Key × T) → test (f x) ≡ same_key x.0 key)
      → new ≡ not (has key items)
      → more ≡ cond new (with_item key item items) items
      → map f more ≡ cond (list_any test (map f items)) (map f items) (placed before (f (key, item)) (map f items))
  put_once f before test key item items more new order same is put = ap (map f) put ∙ by (has key items) refl where
    there : list_any test (map f items) ≡ has key items
    there = any_map f test items ∙ any_same (λ x. test (f x)) (λ x. same_key x.0 key) items same

    by : (b : Bool) → has key items ≡ b → map f (cond new (with_item key item items) items)
        ≡ cond (list_any test (map f items)) (map f items) (placed before (f (key, item)) (map f items))
    by true e = rw (there, e, is, e) refl
    by false e = rw (there, e, is, e) (placed_map f before key item items order)

-- ---- lives as the maps compare them

abbrev pub by_who : Who → Who → Ordering
by_who one other = ordering_then (nat_cmp one.client other.client) (nat_cmp one.life other.life)

abbrev pub at_who : Who → Who → Bool
at_who who other = is_eq (by_who who other)

at_same : (who other : Who) → at_who who other ≡ same_life other who
at_same who other = grind (arith, nat_tests)

step : {A : Type 0} (who other : Who) (less equal more : A) → at_who who other ≡ false → match_ordering (by_who who other) less equal more
    ≡ cond (life_before who other) less more
step who other less equal more apart = grind (arith, nat_tests)

one : (who life : Who) → at_who who life ≡ true → who ≡ life
one who life same = ap (λ (p : ℕ × ℕ). record { client = p.0; life = p.1 }) (grind (arith, nat_tests))

-- ---- words

pub word_found : (who : Who) (entries : List (Who × Word)) → option_map (said who) (lookup (at_who who) entries)
    ≡ word_of who (map said_of entries)
word_found who [] = refl
word_found who (e ∷ entries) = by (at_who who e.0) refl (word_found who entries) where
  by : (here : Bool) → at_who who e.0 ≡ here → option_map (said who) (lookup (at_who who) entries) ≡ word_of who (map said_of entries)
      → option_map (said who) (cond here (Some e.1) (lookup (at_who who) entries)) ≡ word_of who (map said_of (e ∷ entries))
  by true h rest = let same : same_life e.0 who ≡ true = sym (at_same who e.0) ∙ h
      in rw same (ap (λ (life : Who). Some (said life e.1)) (one who e.0 h))
  by false h rest = let apart : same_life e.0 who ≡ false = sym (at_same who e.0) ∙ h in rw apart rest

pub word_among : (who : Who) (entries : List (Who × Word)) → is_some (lookup (at_who who) entries)
    ≡ list_any (λ word. same_life word.who who) (map said_of entries)
word_among who [] = refl
word_among who (e ∷ entries) = by (at_who who e.0) (at_same who e.0) (word_among who entries) where
  by : (here : Bool) → here ≡ same_life e.0 who → is_some (lookup (at_who who) entries)
      ≡ list_any (λ word. same_life word.who who) (map said_of entries)
      → is_some (cond here (Some e.1) (lookup (at_who who) entries)) ≡ list_any (λ word. same_life word.who who) (map said_of (e ∷ entries))
  by true h rest = rw (← h) refl
  by false h rest = rw (← h) rest

pub word_put : (who : Who) (word : Word) (entries : List (Who × Word)) → list_any (λ w. same_life w.who who) (map said_of entries) ≡ false
    → map said_of (insert_entry by_who entries who word) ≡ with_word (said who word) (map said_of entries)
word_put who word [] none = refl
word_put who word (e ∷ entries) none = by (same_life e.0 who) refl none (word_put who word entries) where
  past : (before : Bool) → life_before who e.0 ≡ before → map said_of (insert_entry by_who entries who word)
      ≡ with_word (said who word) (map said_of entries)
      → map said_of (cond before ((who, word) ∷ e ∷ entries) (e ∷ insert_entry by_who entries who word))
      ≡ with_word (said who word) (map said_of (e ∷ entries))
  past true h rest = rw h refl
  past false h rest = rw h (ap (λ more. said_of e ∷ more) rest)

  by : (here : Bool) → same_life e.0 who ≡ here → (here || list_any (λ w. same_life w.who who) (map said_of entries)) ≡ false
      → (list_any (λ w. same_life w.who who) (map said_of entries) ≡ false → map said_of (insert_entry by_who entries who word)
      ≡ with_word (said who word) (map said_of entries))
      → map said_of (insert_entry by_who (e ∷ entries) who word) ≡ with_word (said who word) (map said_of (e ∷ entries))
  by true h absent rest = absurd (cc)
  by false h absent rest =
      ap (map said_of) (step who e.0 ((who, word) ∷ e ∷ entries) ((e.0, word) ∷ entries) (e ∷ insert_entry by_who entries who word)
      (at_same who e.0 ∙ h))
      ∙ past (life_before who e.0) refl (rest absent)

-- without a word of this life there is none to be met
pub word_none : (who : Who) (words : List Said) → list_any (λ w. same_life w.who who) words ≡ false → word_of who words ≡ None
word_none who [] none = refl
word_none who (w ∷ words) none = by (same_life w.who who) none (word_none who words) where
  by : (here : Bool) → (here || list_any (λ w. same_life w.who who) words) ≡ false
      → (list_any (λ w. same_life w.who who) words ≡ false → word_of who words ≡ None)
      → cond here (Some w) (word_of who words) ≡ None
  by true absent rest = absurd (cc)
  by false absent rest = rest absent

-- ---- wishes

pub wish_found : (client : ℕ) (entries : List (ℕ × ℕ)) → option_map (λ life. wish (client, life))
    (lookup (λ key. is_eq (nat_cmp client key)) entries) ≡ wish_of client (map wish entries)
wish_found client [] = refl
wish_found client (e ∷ entries) = by (nat_eq e.0 client) refl (wish_found client entries) where
  by : (here : Bool) → nat_eq e.0 client ≡ here → option_map (λ life. wish (client, life))
      (lookup (λ key. is_eq (nat_cmp client key)) entries) ≡ wish_of client (map wish entries)
      → option_map (λ life. wish (client, life)) (lookup (λ key. is_eq (nat_cmp client key)) (e ∷ entries))
      ≡ wish_of client (map wish (e ∷ entries))
  by true h rest =
      let at : is_eq (nat_cmp client e.0) ≡ true = grind (arith, nat_tests) in
      let same : client ≡ e.0 = grind (arith, nat_tests) in
      rw (at, h) (ap (λ n. Some (wish (n, e.1))) same)
  by false h rest = let at : is_eq (nat_cmp client e.0) ≡ false = grind (arith, nat_tests) in rw (at, h) rest

pub wish_there : (client : ℕ) (entries : List (ℕ × ℕ)) → is_some (lookup (λ key. is_eq (nat_cmp client key)) entries)
    ≡ list_any (λ life. nat_eq life.client client) (map wish entries)
wish_there client [] = refl
wish_there client (e ∷ entries) = by (nat_eq e.0 client) refl (wish_there client entries) where
  by : (here : Bool) → nat_eq e.0 client ≡ here → is_some (lookup (λ key. is_eq (nat_cmp client key)) entries)
      ≡ list_any (λ life. nat_eq life.client client) (map wish entries)
      → is_some (lookup (λ key. is_eq (nat_cmp client key)) (e ∷ entries))
      ≡ list_any (λ life. nat_eq life.client client) (map wish (e ∷ entries))
  by true h rest = let at : is_eq (nat_cmp client e.0) ≡ true = grind (arith, nat_tests) in rw (at, h) refl
  by false h rest = let at : is_eq (nat_cmp client e.0) ≡ false = grind (arith, nat_tests) in rw (at, h) rest

pub wish_put : (who : Who) (entries : List (ℕ × ℕ)) → map wish (insert_entry nat_cmp entries who.client who.life)
    ≡ with_wish who (map wish entries)
wish_put who [] = refl
wish_put who (e ∷ entries) = by (nat_eq who.client e.0) refl (nat_lt who.client e.0) refl (wish_put who entries) where
  at : (here before : Bool) → nat_eq who.client e.0 ≡ here → nat_lt who.client e.0 ≡ before
      → with_wish who (map wish (e ∷ entries)) ≡ cond here (who ∷ map wish entries)
      (cond before (who ∷ wish e ∷ map wish entries) (wish e ∷ with_wish who (map wish entries)))
  at here before h k = rw (h, k) refl

  by : (here : Bool) → nat_eq who.client e.0 ≡ here → (before : Bool) → nat_lt who.client e.0 ≡ before
      → map wish (insert_entry nat_cmp entries who.client who.life) ≡ with_wish who (map wish entries)
      → map wish (match_ordering (nat_cmp who.client e.0) ((who.client, who.life) ∷ e ∷ entries) ((e.0, who.life) ∷ entries)
      (e ∷ insert_entry nat_cmp entries who.client who.life)) ≡ with_wish who (map wish (e ∷ entries))
  by true h before k rest =
      let same : e.0 ≡ who.client = grind (arith, nat_tests) in
      let equal : match_ordering (nat_cmp who.client e.0) ((who.client, who.life) ∷ e ∷ entries) ((e.0, who.life) ∷ entries)
      (e ∷ insert_entry nat_cmp entries who.client who.life) ≡ (e.0, who.life) ∷ entries = grind (arith, nat_tests) in
      ap (map wish) equal ∙ ap (λ n. wish (n, who.life) ∷ map wish entries) same ∙ sym (at true before h k)
  by false h true k rest =
      let less : match_ordering (nat_cmp who.client e.0) ((who.client, who.life) ∷ e ∷ entries) ((e.0, who.life) ∷ entries)
      (e ∷ insert_entry nat_cmp entries who.client who.life) ≡ (who.client, who.life) ∷ e ∷ entries = grind (arith, nat_tests) in
      ap (map wish) less ∙ sym (at false true h k)
  by false h false k rest =
      let more : match_ordering (nat_cmp who.client e.0) ((who.client, who.life) ∷ e ∷ entries) ((e.0, who.life) ∷ entries)
      (e ∷ insert_entry nat_cmp entries who.client who.life) ≡ e ∷ insert_entry nat_cmp entries who.client who.life =
      grind (arith, nat_tests) in
      ap (map wish) more ∙ ap (λ (all : List Who). wish e ∷ all) rest ∙ sym (at false false h k)

-- ---- lives with a slot

pub life_put : (who : Who) (lives : List Who) → insert_key by_who lives who ≡ with_life who lives
life_put who [] = refl
life_put who (w ∷ lives) = by (at_who who w) refl (life_put who lives) where
  by : (here : Bool) → at_who who w ≡ here → insert_key by_who lives who ≡ with_life who lives
      → match_ordering (by_who who w) (who ∷ w ∷ lives) (w ∷ lives) (w ∷ insert_key by_who lives who) ≡ with_life who (w ∷ lives)
  by true h rest =
      let same : same_life who w ≡ true = grind (arith, nat_tests) in
      let equal : match_ordering (by_who who w) (who ∷ w ∷ lives) (w ∷ lives) (w ∷ insert_key by_who lives who) ≡ w ∷ lives =
      grind (arith, nat_tests) in
      rw same equal
  by false h rest =
      let apart : same_life who w ≡ false = grind (arith, nat_tests) in
      rw apart (step who w (who ∷ w ∷ lives) (w ∷ lives) (w ∷ insert_key by_who lives who) h
      ∙ ap (λ more. cond (life_before who w) (who ∷ w ∷ lives) (w ∷ more)) rest)

pub lives_fold : (more lives : List Who) → with_lives more lives ≡ fold (λ lives who. with_life who lives) lives more
lives_fold [] lives = refl
lives_fold (who ∷ more) lives = lives_fold more (with_life who lives)
