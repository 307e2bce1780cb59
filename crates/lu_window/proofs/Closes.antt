-- How the close goes: the kept numbers by a walk over the replays, and what hangs on them by membership alone.
use Rattle.std.proofs.Common.{◌≡◌, ℕ, Bool, true, false, cond, not, ◌||◌, ◌&&◌, List, [], ◌∷◌, ◌++◌, filter, map, Option, Some, None, refl}
use Rattle.std.proofs.Common.{ap, sym, ◌∙◌, arith, nat_eq, nat_lt}
use Rattle.std.specs.List.{list_any}
use Rattle.std.specs.Ordering.{nat_cmp, is_eq}
use Rattle.std.specs.BTreeSet.{BTreeSet, Updates}
use Rattle.std.proofs.lemmas.Bool.Decides.{nat_tests}
use Rattle.lu_base.specs.declared.ids.Who.{Who}
use Rattle.lu_spec_entries.specs.Carried.{Said, Gone}
use Rattle.lu_spec_entries.specs.Words.{same_life}
use Rattle.lu_spec_target.specs.Windows.{Replayed, Window, has_number, misses, is_kept, kept_from, kept_of, is_lost, lost_of, has_lost}
use Rattle.lu_spec_target.specs.Windows.{word_misses, has_gap, gone_with, gone_from, is_back, is_left, word_of}

-- the same numbers
abbrev pub Same : List ℕ → List ℕ → Type 0
Same ns ms = (n : ℕ) → has_number n ns ≡ has_number n ms

pub contained : (n : ℕ) (ns : List ℕ) → list_any (λ k. is_eq (nat_cmp n k)) ns ≡ has_number n ns
contained n [] = refl
contained n (m ∷ ns) = by (nat_eq m n) refl (contained n ns) where
  by : (here : Bool) → nat_eq m n ≡ here → list_any (λ k. is_eq (nat_cmp n k)) ns ≡ has_number n ns
      → (is_eq (nat_cmp n m) || list_any (λ k. is_eq (nat_cmp n k)) ns) ≡ (nat_eq m n || has_number n ns)
  by true h rest = let at : is_eq (nat_cmp n m) ≡ true = grind (arith, nat_tests) in rw (at, h) refl
  by false h rest = let at : is_eq (nat_cmp n m) ≡ false = grind (arith, nat_tests) in rw (at, h) rest

pub one_more : (n m : ℕ) (ns : List ℕ) → has_number n (ns ++ m ∷ []) ≡ (nat_eq m n || has_number n ns)
one_more n m [] = refl
one_more n m (k ∷ ns) = by (nat_eq k n) (nat_eq m n) (one_more n m ns) where
  by : (a b : Bool) → has_number n (ns ++ m ∷ []) ≡ (b || has_number n ns) → (a || has_number n (ns ++ m ∷ []))
      ≡ (b || (a || has_number n ns))
  by true true rest = refl
  by true false rest = refl
  by false true rest = rest
  by false false rest = rest

pub misses_same : (committed : ℕ) (ns ms seen : List ℕ) → Same ns ms → misses committed ns seen ≡ misses committed ms seen
misses_same committed ns ms [] same = refl
misses_same committed ns ms (n ∷ seen) same = ap2 (λ a b. (nat_lt committed n && not a) || b) (same n)
    (misses_same committed ns ms seen same) where
      ap2 : {A B C : Type 0} (f : A → B → C) {a a' : A} {b b' : B} → a ≡ a' → b ≡ b' → f a b ≡ f a' b'
      ap2 f p q = cc

pub kept_same : (v : Window) (ns ms : List ℕ) (r : Replayed) → Same ns ms → is_kept v ns r ≡ is_kept v ms r
kept_same v ns ms r same = ap (λ b. nat_lt v.committed r.number && (is_back v r.who && not b)) (misses_same v.committed ns ms r.seen same)

pub filter_same : {A : Type 0} (p q : A → Bool) (xs : List A) → ((x : A) → p x ≡ q x) → filter p xs ≡ filter q xs
filter_same p q [] same = refl
filter_same p q (x ∷ xs) same = by (p x) (q x) (same x) (filter_same p q xs same) where
  by : (a b : Bool) → a ≡ b → filter p xs ≡ filter q xs → cond a (x ∷ filter p xs) (filter p xs) ≡ cond b (x ∷ filter q xs) (filter q xs)
  by true true e rest = ap (λ more. x ∷ more) rest
  by true false e rest = absurd (cc)
  by false true e rest = absurd (cc)
  by false false e rest = rest

pub kept_of_same : (ns ms : List ℕ) (replays : List Replayed) → Same ns ms → kept_of ns replays ≡ kept_of ms replays
kept_of_same ns ms replays same = filter_same (λ r. has_number r.number ns) (λ r. has_number r.number ms) replays (λ r. same r.number)

lost_same : (committed : ℕ) (ns ms : List ℕ) (r : Replayed) → Same ns ms → is_lost committed ns r ≡ is_lost committed ms r
lost_same committed ns ms r same = ap (λ b. nat_lt committed r.number && not b) (same r.number)

pub lost_of_same : (committed : ℕ) (ns ms : List ℕ) (replays : List Replayed) → Same ns ms → lost_of committed ns replays
    ≡ lost_of committed ms replays
lost_of_same committed ns ms replays same = ap (map (λ r. r.number))
    (filter_same (is_lost committed ns) (is_lost committed ms) replays (λ r. lost_same committed ns ms r same))

has_lost_same : (committed : ℕ) (ns ms : List ℕ) (replays : List Replayed) (who : Who) → Same ns ms → has_lost committed ns replays who
    ≡ has_lost committed ms replays who
has_lost_same committed ns ms [] who same = refl
has_lost_same committed ns ms (r ∷ replays) who same =
    ap (λ b. (same_life r.who who && b) || has_lost committed ns replays who) (lost_same committed ns ms r same)
    ∙ ap (λ b. (same_life r.who who && is_lost committed ms r) || b) (has_lost_same committed ns ms replays who same)

word_same : (committed : ℕ) (ns ms : List ℕ) (word : Option Said) → Same ns ms → word_misses committed ns word
    ≡ word_misses committed ms word
word_same committed ns ms None same = refl
word_same committed ns ms (Some w) same = misses_same committed ns ms w.seen same

gap_same : (v : Window) (ns ms : List ℕ) (who : Who) → Same ns ms → has_gap v ns who ≡ has_gap v ms who
gap_same v ns ms who same =
    ap (λ b. b || word_misses v.committed ns (word_of who v.words)) (has_lost_same v.committed ns ms v.replays who same)
    ∙ ap (λ b. has_lost v.committed ms v.replays who || b) (word_same v.committed ns ms (word_of who v.words) same)

pub gone_same : (v : Window) (ns ms : List ℕ) (lives : List Who) → Same ns ms → gone_from v ns lives ≡ gone_from v ms lives
gone_same v ns ms [] same = refl
gone_same v ns ms (who ∷ lives) same =
    ap (λ gap. gone_with (not (is_back v who) || is_left v who) gap who (gone_from v ns lives)) (gap_same v ns ms who same)
    ∙ ap (gone_with (not (is_back v who) || is_left v who) (has_gap v ms who) who) (gone_same v ns ms lives same)

-- the walk goes by which numbers are kept, in whatever order they are listed
same_more : (ns ms : List ℕ) (m : ℕ) → Same ns ms → Same (ns ++ m ∷ []) (ms ++ m ∷ [])
same_more ns ms m same = λ n. one_more n m ns ∙ ap (λ b. nat_eq m n || b) (same n) ∙ sym (one_more n m ms)

pub kept_from_same : (v : Window) (ns ms : List ℕ) (replays : List Replayed) → Same ns ms
    → Same (kept_from v ns replays) (kept_from v ms replays)
kept_from_same v ns ms [] same = same
kept_from_same v ns ms (r ∷ replays) same =
    by (is_kept v ns r) (is_kept v ms r) (kept_same v ns ms r same)
    (kept_from_same v (ns ++ r.number ∷ []) (ms ++ r.number ∷ []) replays (same_more ns ms r.number same))
    (kept_from_same v ns ms replays same) where
      by : (a b : Bool) → a ≡ b
          → Same (kept_from v (ns ++ r.number ∷ []) replays) (kept_from v (ms ++ r.number ∷ []) replays)
          → Same (kept_from v ns replays) (kept_from v ms replays)
          → Same (cond a (kept_from v (ns ++ r.number ∷ []) replays) (kept_from v ns replays))
          (cond b (kept_from v (ms ++ r.number ∷ []) replays) (kept_from v ms replays))
      by true true e with_it without = with_it
      by true false e with_it without = absurd (cc)
      by false true e with_it without = absurd (cc)
      by false false e with_it without = without

-- a number that was put among others
pub put_number : (m : ℕ) (old new : BTreeSet ℕ) → Updates nat_cmp old new m true → Same (old.keys ++ m ∷ []) new.keys
put_number m old new put = λ n. one_more n m old.keys ∙ by n (nat_eq m n) refl ∙ sym (put.0 n) ∙ contained n new.keys where
  by : (n : ℕ) (here : Bool) → nat_eq m n ≡ here → (nat_eq m n || has_number n old.keys)
      ≡ cond (is_eq (nat_cmp m n)) true (list_any (λ k. is_eq (nat_cmp n k)) old.keys)
  by n true h = let at : is_eq (nat_cmp m n) ≡ true = grind (arith, nat_tests) in ap (λ b. b || has_number n old.keys) h
      ∙ sym (ap (λ b. cond b true (list_any (λ k. is_eq (nat_cmp n k)) old.keys)) at)
  by n false h =
      let at : is_eq (nat_cmp m n) ≡ false = grind (arith, nat_tests) in
      ap (λ b. b || has_number n old.keys) h ∙ sym (contained n old.keys)
      ∙ sym (ap (λ b. cond b true (list_any (λ k. is_eq (nat_cmp n k)) old.keys)) at)

-- the next replay is kept, or isn't
pub kept_next : (v : Window) (r : Replayed) (rest : List Replayed) (old new : BTreeSet ℕ) (all : List ℕ) → is_kept v old.keys r ≡ true
    → Updates nat_cmp old new r.number true
    → Same (kept_from v old.keys (r ∷ rest)) all → Same (kept_from v new.keys rest) all
kept_next v r rest old new all kept put before =
    let step : kept_from v old.keys (r ∷ rest) ≡ kept_from v (old.keys ++ r.number ∷ []) rest = rw kept refl in
    λ n. sym (kept_from_same v (old.keys ++ r.number ∷ []) new.keys rest (put_number r.number old new put) n) ∙ sym (ap (has_number n) step)
    ∙ before n

pub not_kept_next : (v : Window) (r : Replayed) (rest : List Replayed) (keys all : List ℕ) → is_kept v keys r ≡ false
    → Same (kept_from v keys (r ∷ rest)) all → Same (kept_from v keys rest) all
not_kept_next v r rest keys all kept before =
    let step : kept_from v keys (r ∷ rest) ≡ kept_from v keys rest = rw kept refl in
    λ n. sym (ap (has_number n) step) ∙ before n
