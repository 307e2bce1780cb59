-- What the calls of a map by number and life do to the list of what was handed in, and to the counts of lives.
use Rattle.std.proofs.Common.{Ordering, ◌≡◌, ◌≤◌, ◌-◌, ◌+◌, ◌-◌, ℕ, suc, Bool, true, false, cond, List, [], ◌∷◌, length, filter, Option}
use Rattle.std.proofs.Common.{Some, None, refl, ap, sym, ◌∙◌, arith}
use Rattle.std.specs.Prelude.{is_some}
use Rattle.std.specs.Ordering.{nat_cmp, ordering_then, match_ordering, is_eq}
use Rattle.std.specs.Map.{lookup}
use Rattle.std.specs.BTreeMap.{BTreeMap, Updates, insert_entry}
use Rattle.std.specs.Option.{unwrap_or}
use Rattle.std.proofs.lemmas.Bool.Decides.{nat_tests}
use Rattle.lu_base.specs.declared.ids.Who.{Who}
use Rattle.lu_replay.specs.declared.handed.Key.{Key}
use Rattle.lu_replay.specs.Handed.{same_life, same_key, key_before, has, with_item, count_at, IsCounted}

-- lives and keys as the maps compare them
abbrev pub by_who : Who → Who → Ordering
by_who one other = ordering_then (nat_cmp one.client other.client) (nat_cmp one.life other.life)

abbrev pub by_key : Key → Key → Ordering
by_key one other = ordering_then (nat_cmp one.number other.number) (by_who one.who other.who)

abbrev pub at_key : Key → Key → Bool
at_key key other = is_eq (by_key key other)

same : (key other : Key) → at_key key other ≡ same_key other key
same key other = grind (arith, nat_tests)

step : {A : Type 0} (key other : Key) (less equal more : A) → at_key key other ≡ false → match_ordering (by_key key other) less equal more
    ≡ cond (key_before key other) less more
step key other less equal more apart = grind (arith, nat_tests)

module _ {T : Type 0} where
  pub found : (key : Key) (items : List (Key × T)) → is_some (lookup (at_key key) items) ≡ has key items
  found key [] = refl
  found key (first ∷ items) = by (at_key key first.0) (same key first.0) (found key items) where
    by : (there : Bool) → there ≡ same_key first.0 key → is_some (lookup (at_key key) items) ≡ has key items
        → is_some (cond there (Some first.1) (lookup (at_key key) items)) ≡ has key (first ∷ items)
    by true e rest = rw (← e) refl
    by false e rest = rw (← e) rest

  -- a key that isn't there gets its place
  pub put : (key : Key) (item : T) (items : List (Key × T)) → lookup (at_key key) items ≡ None → insert_entry by_key items key item
      ≡ with_item key item items
  put key item [] none = refl
  put key item (first ∷ items) none = by (at_key key first.0) refl none (put key item items) where
    by : (there : Bool) → at_key key first.0 ≡ there → cond there (Some first.1) (lookup (at_key key) items) ≡ None
        → (lookup (at_key key) items ≡ None → insert_entry by_key items key item ≡ with_item key item items)
        → insert_entry by_key (first ∷ items) key item ≡ with_item key item (first ∷ items)
    by true e h rest = absurd (cc)
    by false e h rest =
        step key first.0 ((key, item) ∷ first ∷ items) ((first.0, item) ∷ items) (first ∷ insert_entry by_key items key item) e
        ∙ ap (λ more. cond (key_before key first.0) ((key, item) ∷ first ∷ items) (first ∷ more)) (rest h)

  -- one more of those that pass, where it does
  pub counted_in : (p : Key × T → Bool) (key : Key) (item : T) (items : List (Key × T)) → length (filter p (with_item key item items))
      ≡ cond (p (key, item)) (length (filter p items) + 1) (length (filter p items))
  counted_in p key item [] = grind (arith)
  counted_in p key item (first ∷ items) = by (key_before key first.0) (p (key, item)) refl (p first) refl
      (counted_in p key item items) where
        by : (before : Bool)
            → (new : Bool) → p (key, item) ≡ new
            → (old : Bool) → p first ≡ old
            → length (filter p (with_item key item items)) ≡ cond (p (key, item)) (length (filter p items) + 1) (length (filter p items))
            → length (filter p (cond before ((key, item) ∷ first ∷ items) (first ∷ with_item key item items)))
            ≡ cond (p (key, item)) (length (filter p (first ∷ items)) + 1) (length (filter p (first ∷ items)))
        by true true e true f rest = rw (e, f) (grind (arith))
        by true true e false f rest = rw (e, f) (grind (arith))
        by true false e true f rest = rw (e, f) (grind (arith))
        by true false e false f rest = rw (e, f) (grind (arith))
        by false new e true f rest = rw f (grind (arith, rest))
        by false new e false f rest = rw f rest

  pub few : (p : Key × T → Bool) (items : List (Key × T)) → length (filter p items) ≤ length items
  few p [] = omega arith
  few p (first ∷ items) = by (p first) (few p items) where
    by : (passes : Bool) → length (filter p items) ≤ length items
        → length (cond passes (first ∷ filter p items) (filter p items)) ≤ length (first ∷ items)
    by true rest = omega arith
    by false rest = omega arith

pub none_of : {T : Type 0} (found : Option T) → is_some found ≡ false → found ≡ None
none_of None absent = refl
none_of (Some x) absent = absurd (cc)

-- ---- counts: C before, D once the life has one more, E once that is taken back

at_life : (who life : Who) → is_eq (by_who who life) ≡ same_life life who
at_life who life = grind (arith, nat_tests)

-- the count of a life, once that of another or of the same was put
put_count : (who life : Who) (n : ℕ) (counts more : BTreeMap Who ℕ) → Updates by_who counts more who (Some n)
    → count_at more.entries life ≡ cond (same_life life who) n (count_at counts.entries life)
put_count who life n counts more put = ap (λ found. unwrap_or found 0) (put.0 life) ∙ by (is_eq (by_who who life)) (at_life who life) where
  by : (here : Bool) → here ≡ same_life life who → unwrap_or (cond here (Some n) (lookup (λ key. is_eq (by_who life key)) counts.entries)) 0
      ≡ cond (same_life life who) n (count_at counts.entries life)
  by true e = rw (← e) refl
  by false e = rw (← e) refl

one : (who life : Who) → same_life life who ≡ true → life ≡ who
one who life same = ap (λ (p : ℕ × ℕ). record { client = p.0; life = p.1 }) (grind (arith, nat_tests))

same_count : (who life : Who) (counts : List (Who × ℕ)) → same_life life who ≡ true → count_at counts life ≡ count_at counts who
same_count who life counts same = ap (λ (other : Who). count_at counts other) (one who life same)

pub restored : {T : Type 0} (who : Who) (n : ℕ) (items : List (Key × T)) (counts more back : BTreeMap Who ℕ) → n
    ≡ count_at counts.entries who
    → Updates by_who counts more who (Some (n + 1))
    → ((life : Who) → count_at back.entries life ≡ cond (same_life life who) (count_at more.entries life - 1) (count_at more.entries life))
    → IsCounted items counts.entries → IsCounted items back.entries
restored who n items counts more back is put lowered counted life =
    lowered life ∙ by (same_life life who) refl (put_count who life (n + 1) counts more put) ∙ counted life where
      by : (here : Bool) → same_life life who ≡ here → count_at more.entries life ≡ cond here (n + 1) (count_at counts.entries life)
          → cond here (count_at more.entries life - 1) (count_at more.entries life) ≡ count_at counts.entries life
      by true e h = let one : count_at counts.entries life ≡ count_at counts.entries who = same_count who life counts.entries e
          in grind (arith, h, is, one)
      by false e h = h

pub taken : {T : Type 0} (key : Key) (item : T) (n : ℕ) (items : List (Key × T)) (counts more : BTreeMap Who ℕ) → n
    ≡ count_at counts.entries key.who
    → Updates by_who counts more key.who (Some (n + 1)) → IsCounted items counts.entries → IsCounted (with_item key item items) more.entries
taken key item n items counts more is put counted life =
    put_count key.who life (n + 1) counts more put ∙ by (same_life life key.who) refl (same_life key.who life) refl
    ∙ sym (counted_more life) where
      counted_more : (life : Who) → length (filter (λ one. same_life one.0.who life) (with_item key item items))
          ≡ cond (same_life key.who life) (length (filter (λ one. same_life one.0.who life) items) + 1)
          (length (filter (λ one. same_life one.0.who life) items))
      counted_more life = counted_in (λ one. same_life one.0.who life) key item items

      by : (here : Bool) → same_life life key.who ≡ here → (there : Bool) → same_life key.who life ≡ there
          → cond here (n + 1) (count_at counts.entries life) ≡ cond there (length (filter (λ one. same_life one.0.who life) items) + 1)
          (length (filter (λ one. same_life one.0.who life) items))
      by true e true f = let one : count_at counts.entries life ≡ count_at counts.entries key.who = same_count key.who life counts.entries e
          in grind (arith, is, one, counted life)
      by true e false f = absurd (grind (arith, nat_tests))
      by false e true f = absurd (grind (arith, nat_tests))
      by false e false f = counted life
