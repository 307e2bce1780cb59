-- That all stand in their order, nothing twice, once a callback is asked anew.
use Rattle.std.proofs.Common.{◌≡◌, ℕ, suc, map, filter, ◌<◌, ◌==◌, ◌&&◌, ◌||◌, Bool, true, false, not, cond, nat_lt, List, [], ◌∷◌, length}
use Rattle.std.proofs.Common.{get_or, arith, refl}
use Rattle.std.specs.Prelude.{All, AllPairs}
use Rattle.std.specs.List.{list_any}
use Rattle.std.proofs.lemmas.List.Kept.{AllPairs-cons, AllPairs-filter}
use Rattle.std.proofs.lemmas.List.Elements.{All-cons}
use Rattle.std.proofs.lemmas.List.Folds.{list_any_at}
use Rattle.std.proofs.lemmas.Bool.Decides.{nat_tests}
use Rattle.lu_base.specs.declared.ids.Cookie.{Cookie}
use Rattle.lu_callback.specs.declared.callbacks.Asked.{Asked}
use Rattle.lu_callback.specs.declared.callbacks.Kind.{Kind}
use Rattle.lu_callback.specs.declared.callbacks.Kind.TheVariants.{Block, Glimpse}
use Rattle.lu_callback.specs.Callbacks.{is_block, same_kind, is_asked, is_outstanding, stands_before, with_asked, is_due, due, IsSound}

abbrev pub Before : Asked → Asked → Type 0
Before earlier later = stands_before earlier later ≡ true

abbrev pub Others : Asked → Asked → Type 0
Others one other = is_asked one.cookie one.kind other ≡ false

-- the order
transitive : (a b c : Asked) → Before a b → Before b c → Before a c
transitive a b c = grind (arith, nat_tests)

other_way : (there asked : Asked) → stands_before there asked ≡ false → is_asked asked.cookie asked.kind there ≡ false → Before asked there
other_way there asked = by there.kind asked.kind where
  by : (k l : Kind) → (nat_lt there.cookie.0 asked.cookie.0 || (there.cookie.0 == asked.cookie.0 && not (is_block l))) ≡ false
      → (there.cookie.0 == asked.cookie.0 && same_kind k l) ≡ false
      → (nat_lt asked.cookie.0 there.cookie.0 || (asked.cookie.0 == there.cookie.0 && not (is_block k))) ≡ true
  by Block Block = grind (arith, nat_tests)
  by Block (Glimpse _ _) = grind (arith, nat_tests)
  by (Glimpse _ _) Block = grind (arith, nat_tests)
  by (Glimpse _ _) (Glimpse _ _) = grind (arith, nat_tests)

symmetric : (one other : Asked) → is_asked one.cookie one.kind other ≡ false → is_asked other.cookie other.kind one ≡ false
symmetric one other = by one.kind other.kind where
  by : (k l : Kind) → (other.cookie.0 == one.cookie.0 && same_kind l k) ≡ false → (one.cookie.0 == other.cookie.0 && same_kind k l) ≡ false
  by Block Block = grind (arith, nat_tests)
  by Block (Glimpse _ _) = grind (arith, nat_tests)
  by (Glimpse _ _) Block = grind (arith, nat_tests)
  by (Glimpse _ _) (Glimpse _ _) = grind (arith, nat_tests)

rest_pairs : (R : Asked → Asked → Type 0) (there : Asked) (callbacks : List Asked) → AllPairs R (there ∷ callbacks) → AllPairs R callbacks
rest_pairs R there callbacks pairs = λ i j d less within. pairs (suc i) (suc j) d (omega arith) (omega arith)

first_pairs : (R : Asked → Asked → Type 0) (there : Asked) (callbacks : List Asked) → AllPairs R (there ∷ callbacks)
    → All (R there) callbacks
first_pairs R there callbacks pairs = λ k d within. pairs 0 (suc k) d (omega arith) (omega arith)

pub rest_all : (P : Asked → Type 0) (there : Asked) (callbacks : List Asked) → All P (there ∷ callbacks) → All P callbacks
rest_all P there callbacks all = λ k d within. all (suc k) d (omega arith)

all_with : (P : Asked → Type 0) (asked : Asked) (callbacks : List Asked) → P asked → All P callbacks → All P (with_asked asked callbacks)
all_with P asked [] here all = All-cons P asked [] here all
all_with P asked (there ∷ callbacks) here all = by (stands_before there asked)
    (all_with P asked callbacks here (rest_all P there callbacks all)) where
      by : (before : Bool) → All P (with_asked asked callbacks) → All P
          (cond before (there ∷ with_asked asked callbacks) (asked ∷ there ∷ callbacks))
      by true rest = All-cons P there (with_asked asked callbacks) (all 0 there (omega arith)) rest
      by false rest = All-cons P asked (there ∷ callbacks) here all

-- a new callback in its place: what holds of each that comes before it, and of it with all behind it, holds of all
pairs_with : (R : Asked → Asked → Type 0) (asked : Asked)
    → ((there : Asked) → Others asked there → Before there asked → R there asked)
    → ((there : Asked) (callbacks : List Asked) → stands_before there asked ≡ false → AllPairs R (there ∷ callbacks)
    → All (Others asked) (there ∷ callbacks) → All (R asked) (there ∷ callbacks))
    → (callbacks : List Asked) → AllPairs R callbacks → All (Others asked) callbacks → AllPairs R (with_asked asked callbacks)
pairs_with R asked ahead behind [] pairs others = λ i j d less within. absurd (omega arith)
pairs_with R asked ahead behind (there ∷ callbacks) pairs others =
    by (stands_before there asked) refl (pairs_with R asked ahead behind callbacks (rest_pairs R there callbacks pairs)
    (rest_all (Others asked) there callbacks others)) where
      by : (before : Bool) → stands_before there asked ≡ before → AllPairs R (with_asked asked callbacks)
          → AllPairs R (cond before (there ∷ with_asked asked callbacks) (asked ∷ there ∷ callbacks))
      by true e rest = AllPairs-cons R there (with_asked asked callbacks)
          (all_with (R there) asked callbacks (ahead there (others 0 there (omega arith)) e) (first_pairs R there callbacks pairs)) rest
      by false e rest = AllPairs-cons R asked (there ∷ callbacks) (behind there callbacks e pairs others) pairs

behind_ordered : (asked there : Asked) (callbacks : List Asked) → stands_before there asked ≡ false → AllPairs Before (there ∷ callbacks)
    → All (Others asked) (there ∷ callbacks) → All (Before asked) (there ∷ callbacks)
behind_ordered asked there callbacks e pairs others =
    let front : Before asked there = other_way there asked e (others 0 there (omega arith)) in
    All-cons (Before asked) there callbacks front (λ k d within. transitive asked there (get_or callbacks k d) front
    (first_pairs Before there callbacks pairs k d within))

-- what a test of the whole list refuses it refuses at each place
pub none_at : (test : Asked → Bool) (callbacks : List Asked) → list_any test callbacks ≡ false → (place : ℕ) (d : Asked)
    → place < length callbacks → test (get_or callbacks place d) ≡ false
none_at test callbacks none place d within = by (test (get_or callbacks place d)) refl where
  by : (there : Bool) → test (get_or callbacks place d) ≡ there → there ≡ false
  by false e = refl
  by true e = let some : list_any test callbacks ≡ true = list_any_at test callbacks place d within e in absurd (cc)

pub sound_asked : (asked : Asked) (callbacks : List Asked) → is_outstanding asked.cookie asked.kind callbacks ≡ false → IsSound callbacks
    → IsSound (with_asked asked callbacks)
sound_asked asked callbacks absent sound =
    let others : All (Others asked) callbacks = none_at (is_asked asked.cookie asked.kind) callbacks absent in
    record {
      ordered = pairs_with Before asked (λ there other before. before) (behind_ordered asked) callbacks sound.ordered others;
      once = pairs_with Others asked (λ there other before. symmetric asked there other) (λ there rest e pairs all. all) callbacks
          sound.once others;
    }

pub sound_filtered : (test : Asked → Bool) (callbacks : List Asked) → IsSound callbacks → IsSound (filter test callbacks)
sound_filtered test callbacks sound = record {
  ordered = AllPairs-filter Before test callbacks sound.ordered;
  once = AllPairs-filter Others test callbacks sound.once;
}

-- the blocks that are due rise by cookie
block_above : (there later : Asked) → Before there later → is_block later.kind ≡ true → there.cookie.0 < later.cookie.0
block_above there later = by (is_block later.kind) where
  by : (block : Bool) → (nat_lt there.cookie.0 later.cookie.0 || (there.cookie.0 == later.cookie.0 && not block)) ≡ true → block ≡ true
      → there.cookie.0 < later.cookie.0
  by true = grind (arith, nat_tests)
  by false = λ before block. absurd (cc)

a_block : (block : Bool) (old : Bool) → (block && old) ≡ true → block ≡ true
a_block true old e = refl
a_block false old e = cc

abbrev Above : Asked → Cookie → Type 0
Above there cookie = there.cookie.0 < cookie.0

due_above : (tick age : ℕ) (there : Asked) (callbacks : List Asked) → All (Before there) callbacks
    → All (Above there) (due tick age callbacks)
due_above tick age there [] all = λ k d within. absurd (omega arith)
due_above tick age there (later ∷ callbacks) all = by (is_due tick age later) refl
    (due_above tick age there callbacks (rest_all (Before there) later callbacks all)) where
      by : (here : Bool) → is_due tick age later ≡ here → All (Above there) (due tick age callbacks)
          → All (Above there) (map (λ asked. asked.cookie) (cond here (later ∷ filter (is_due tick age) callbacks)
          (filter (is_due tick age) callbacks)))
      by true e rest = All-cons (Above there) later.cookie (due tick age callbacks)
          (block_above there later (all 0 later (omega arith)) (a_block _ _ e)) rest
      by false e rest = rest

pub due_rises : (tick age : ℕ) (callbacks : List Asked) → AllPairs Before callbacks
    → AllPairs (λ earlier later. earlier.0 < later.0) (due tick age callbacks)
due_rises tick age [] pairs = λ i j d less within. absurd (omega arith)
due_rises tick age (there ∷ callbacks) pairs = by (is_due tick age there)
    (due_rises tick age callbacks (rest_pairs Before there callbacks pairs)) where
      by : (here : Bool) → AllPairs (λ earlier later. earlier.0 < later.0) (due tick age callbacks)
          → AllPairs (λ earlier later. earlier.0 < later.0) (map (λ asked. asked.cookie)
          (cond here (there ∷ filter (is_due tick age) callbacks) (filter (is_due tick age) callbacks)))
      by true rest = AllPairs-cons (λ earlier later. earlier.0 < later.0) there.cookie (due tick age callbacks)
          (due_above tick age there callbacks (first_pairs Before there callbacks pairs)) rest
      by false rest = rest
