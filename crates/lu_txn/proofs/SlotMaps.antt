-- What the calls of a map from lives to slots do to the list of its slots.
use Rattle.std.proofs.Common.{Ordering, ◌≡◌, ℕ, suc, Bool, true, false, cond, List, [], ◌∷◌, Option, Some, None, refl, ap, sym, subst, ◌∙◌}
use Rattle.std.proofs.Common.{arith}
use Rattle.std.specs.Prelude.{All, AllPairs, slice_get, option_map, is_some}
use Rattle.std.specs.Ordering.{nat_cmp, ordering_then, match_ordering, is_eq}
use Rattle.std.specs.Map.{keys_of, values_of, lookup, remove_entry, set_value}
use Rattle.std.specs.BTreeMap.{BTreeMap, insert_entry}
use Rattle.std.proofs.lemmas.List.Elements.{All-cons}
use Rattle.std.proofs.lemmas.Option.{slice_get-map}
use Rattle.std.proofs.lemmas.Bool.Decides.{nat_tests}
use Rattle.lu_base.specs.declared.ids.Who.{Who}
use Rattle.lu_msg.specs.declared.messages.Reply.{Reply}
use Rattle.lu_txn.specs.declared.slots.Slot.{Slot}
use Rattle.lu_txn.specs.Slots.{same_life, is_before, is_of, slot_of, lives_of, empty, with_tag, with_life, without_life, with_reply}
use Rattle.lu_txn.specs.Slots.{IsByLife}
use Rattle.lu_txn.proofs.SlotLaws.{Before, Eight, first_before, rest_rises, rises-with_life, rises-without_life, lives-with_reply}
use Rattle.lu_txn.proofs.SlotLaws.{tags-with_life, tags-without_life, tags-with_reply}

-- lives as keys
abbrev pub by_who : Who → Who → Ordering
by_who one other = ordering_then (nat_cmp one.client other.client) (nat_cmp one.life other.life)

abbrev pub at : Who → Who → Bool
at who key = is_eq (by_who who key)

same_key : (who key : Who) → at who key ≡ same_life key who
same_key who key = grind (arith, nat_tests)

step : {A : Type 0} (who key : Who) (less equal more : A) → at who key ≡ false → match_ordering (by_who who key) less equal more
    ≡ cond (is_before key who) more less
step who key less equal more apart = grind (arith, nat_tests)

abbrev pub Entries : Type 0
Entries = List (Who × Slot)

abbrev Keyed : Who × Slot → Type 0
Keyed entry = entry.0 ≡ entry.1.who

rest_keyed : (entry : Who × Slot) (entries : Entries) → All Keyed (entry ∷ entries) → All Keyed entries
rest_keyed entry entries keyed = λ k d within. keyed (suc k) d (omega arith)

here : (who : Who) (entry : Who × Slot) → Keyed entry → at who entry.0 ≡ is_of who entry.1
here who entry keyed = same_key who entry.0 ∙ ap (λ key. same_life key who) keyed

some_is : (one other : Slot) → Some one ≡ Some other → one ≡ other
some_is one other e = cc

-- looking up
pub slot_found : (who : Who) (entries : Entries) → All Keyed entries → lookup (at who) entries ≡ slot_of who (values_of entries)
slot_found who [] keyed = refl
slot_found who (entry ∷ entries) keyed = rw (
  here who entry (keyed 0 entry (omega arith)),
  slot_found who entries (rest_keyed entry entries keyed),
) refl

pub keys_lives : (entries : Entries) → All Keyed entries → keys_of entries ≡ lives_of (values_of entries)
keys_lives [] keyed = refl
keys_lives (entry ∷ entries) keyed =
    let key : entry.0 ≡ entry.1.who = keyed 0 entry (omega arith) in
    let rest : keys_of entries ≡ lives_of (values_of entries) = keys_lives entries (rest_keyed entry entries keyed) in
    ap (λ life. life ∷ keys_of entries) key ∙ ap (λ more. entry.1.who ∷ more) rest

pub life_at : (entries : Entries) (place : ℕ) → All Keyed entries → slice_get (keys_of entries) place
    ≡ option_map (λ slot. slot.who) (slice_get (values_of entries) place)
life_at entries place keyed = ap (λ lives. slice_get lives place) (keys_lives entries keyed)
    ∙ slice_get-map (λ slot. slot.who) (values_of entries) place

-- keeping a reply
abbrev pub kept : Who → ℕ → Reply → Slot → Entries → Entries
kept who tag reply slot entries = set_value (at who) entries (with_tag tag reply slot)

pub reply_kept : (who : Who) (tag : ℕ) (reply : Reply) (slot : Slot) (entries : Entries) → All Keyed entries → lookup (at who) entries
    ≡ Some slot → values_of (kept who tag reply slot entries) ≡ with_reply who tag reply (values_of entries)
reply_kept who tag reply slot [] keyed found = absurd (cc)
reply_kept who tag reply slot (entry ∷ entries) keyed found = by (at who entry.0) refl found
    (reply_kept who tag reply slot entries (rest_keyed entry entries keyed)) where
      on : at who entry.0 ≡ is_of who entry.1
      on = here who entry (keyed 0 entry (omega arith))

      by : (same : Bool) → at who entry.0 ≡ same → cond same (Some entry.1) (lookup (at who) entries) ≡ Some slot
          → (lookup (at who) entries ≡ Some slot → values_of (kept who tag reply slot entries) ≡ with_reply who tag reply (values_of entries))
          → values_of (cond same ((entry.0, with_tag tag reply slot) ∷ entries) (entry ∷ kept who tag reply slot entries))
          ≡ with_reply who tag reply (entry.1 ∷ values_of entries)
      by true e h rest =
          let same : is_of who entry.1 ≡ true = sym on ∙ e in
          rw same (ap (λ one. with_tag tag reply one ∷ values_of entries) (sym (some_is entry.1 slot h)))
      by false e h rest =
          let other : is_of who entry.1 ≡ false = sym on ∙ e in
          rw other (ap (λ more. entry.1 ∷ more) (rest h))

pub no_reply : (who : Who) (tag : ℕ) (reply : Reply) (entries : Entries) → All Keyed entries → lookup (at who) entries ≡ None
    → values_of entries ≡ with_reply who tag reply (values_of entries)
no_reply who tag reply [] keyed none = refl
no_reply who tag reply (entry ∷ entries) keyed none = by (at who entry.0) refl none
    (no_reply who tag reply entries (rest_keyed entry entries keyed)) where
      on : at who entry.0 ≡ is_of who entry.1
      on = here who entry (keyed 0 entry (omega arith))

      by : (same : Bool) → at who entry.0 ≡ same → cond same (Some entry.1) (lookup (at who) entries) ≡ None
          → (lookup (at who) entries ≡ None → values_of entries ≡ with_reply who tag reply (values_of entries)) → entry.1 ∷ values_of entries
          ≡ with_reply who tag reply (entry.1 ∷ values_of entries)
      by true e h rest = absurd (cc)
      by false e h rest =
          let other : is_of who entry.1 ≡ false = sym on ∙ e in
          rw other (ap (λ more. entry.1 ∷ more) (rest h))

keyed_kept : (who : Who) (tag : ℕ) (reply : Reply) (slot : Slot) (entries : Entries) → All Keyed entries → lookup (at who) entries
    ≡ Some slot → All Keyed (kept who tag reply slot entries)
keyed_kept who tag reply slot [] keyed found = absurd (cc)
keyed_kept who tag reply slot (entry ∷ entries) keyed found = by (at who entry.0) found
    (keyed_kept who tag reply slot entries (rest_keyed entry entries keyed)) where
      by : (same : Bool) → cond same (Some entry.1) (lookup (at who) entries) ≡ Some slot
          → (lookup (at who) entries ≡ Some slot → All Keyed (kept who tag reply slot entries))
          → All Keyed (cond same ((entry.0, with_tag tag reply slot) ∷ entries) (entry ∷ kept who tag reply slot entries))
      by true h rest = All-cons Keyed (entry.0, with_tag tag reply slot) entries
          (keyed 0 entry (omega arith) ∙ ap (λ one. one.who) (some_is entry.1 slot h)) (rest_keyed entry entries keyed)
      by false h rest = All-cons Keyed entry (kept who tag reply slot entries) (keyed 0 entry (omega arith)) (rest h)

pub by_life_kept : (who : Who) (tag : ℕ) (reply : Reply) (slot : Slot) (entries : Entries) → IsByLife entries → lookup (at who) entries
    ≡ Some slot → IsByLife (kept who tag reply slot entries)
by_life_kept who tag reply slot entries before found =
    let lives : lives_of (values_of (kept who tag reply slot entries)) ≡ lives_of (values_of entries) =
    ap lives_of (reply_kept who tag reply slot entries before.keyed found) ∙ lives-with_reply who tag reply (values_of entries) in
    record {
      keyed = keyed_kept who tag reply slot entries before.keyed found;
      rising = subst (AllPairs Before) (sym lives) before.rising;
      tags = subst (All Eight) (sym (reply_kept who tag reply slot entries before.keyed found))
          (tags-with_reply who tag reply (values_of entries) before.tags);
    }

-- a new life
abbrev pub added : Who → Entries → Entries
added who entries = insert_entry by_who entries who (empty who)

pub life_added : (who : Who) (entries : Entries) → All Keyed entries → lookup (at who) entries ≡ None → values_of (added who entries)
    ≡ with_life who (values_of entries)
life_added who [] keyed none = refl
life_added who (entry ∷ entries) keyed none = by (at who entry.0) refl none (life_added who entries (rest_keyed entry entries keyed)) where
  key : entry.0 ≡ entry.1.who
  key = keyed 0 entry (omega arith)

  past : (before : Bool) → is_before entry.1.who who ≡ before → is_of who entry.1 ≡ false → values_of (added who entries)
      ≡ with_life who (values_of entries) → values_of (cond before (entry ∷ added who entries) ((who, empty who) ∷ entry ∷ entries))
      ≡ with_life who (entry.1 ∷ values_of entries)
  past true e other rest = rw e (ap (λ more. entry.1 ∷ more) rest)
  past false e other rest = rw (e, other) refl

  by : (same : Bool) → at who entry.0 ≡ same → cond same (Some entry.1) (lookup (at who) entries) ≡ None
      → (lookup (at who) entries ≡ None → values_of (added who entries) ≡ with_life who (values_of entries))
      → values_of (added who (entry ∷ entries)) ≡ with_life who (entry.1 ∷ values_of entries)
  by true e h rest = absurd (cc)
  by false e h rest =
      ap values_of (step who entry.0 ((who, empty who) ∷ entry ∷ entries) ((entry.0, empty who) ∷ entries) (entry ∷ added who entries) e)
      ∙ ap (λ life. values_of (cond (is_before life who) (entry ∷ added who entries) ((who, empty who) ∷ entry ∷ entries))) key
      ∙ past (is_before entry.1.who who) refl (sym (here who entry key) ∙ e) (rest h)

keyed_added : (who : Who) (entries : Entries) → All Keyed entries → lookup (at who) entries ≡ None → All Keyed (added who entries)
keyed_added who [] keyed none = All-cons Keyed (who, empty who) [] refl keyed
keyed_added who (entry ∷ entries) keyed none = by (at who entry.0) refl none
    (keyed_added who entries (rest_keyed entry entries keyed)) where
      past : (before : Bool) → All Keyed (added who entries) → All Keyed
          (cond before (entry ∷ added who entries) ((who, empty who) ∷ entry ∷ entries))
      past true rest = All-cons Keyed entry (added who entries) (keyed 0 entry (omega arith)) rest
      past false rest = All-cons Keyed (who, empty who) (entry ∷ entries) refl keyed

      by : (same : Bool) → at who entry.0 ≡ same → cond same (Some entry.1) (lookup (at who) entries) ≡ None
          → (lookup (at who) entries ≡ None → All Keyed (added who entries)) → All Keyed (added who (entry ∷ entries))
      by true e h rest = absurd (cc)
      by false e h rest = subst (All Keyed) (sym (step who entry.0 ((who, empty who) ∷ entry ∷ entries) ((entry.0, empty who) ∷ entries)
          (entry ∷ added who entries) e)) (past (is_before entry.0 who) (rest h))

pub by_life_added : (who : Who) (entries : Entries) → IsByLife entries → lookup (at who) entries ≡ None → IsByLife (added who entries)
by_life_added who entries before none = record {
  keyed = keyed_added who entries before.keyed none;
  rising = subst (λ slots. AllPairs Before (lives_of slots)) (sym (life_added who entries before.keyed none))
      (rises-with_life who (values_of entries) before.rising);
  tags = subst (All Eight) (sym (life_added who entries before.keyed none)) (tags-with_life who (values_of entries) before.tags);
}

-- a life that has its slot
same_before : (earlier life who : Who) → Before earlier life → same_life life who ≡ true → Before earlier who
same_before earlier life who before same = grind (arith, nat_tests)

not_before : (life who : Who) → same_life life who ≡ true → is_before life who ≡ false
not_before life who same = grind (arith, nat_tests)

before_found : (earlier who : Who) (slots : List Slot) (slot : Slot) → All (Before earlier) (lives_of slots) → slot_of who slots ≡ Some slot
    → Before earlier who
before_found earlier who [] slot before found = absurd (cc)
before_found earlier who (first ∷ slots) slot before found = by (is_of who first) refl found
    (before_found earlier who slots slot (λ k d within. before (suc k) d (omega arith))) where
      by : (same : Bool) → is_of who first ≡ same → cond same (Some first) (slot_of who slots) ≡ Some slot
          → (slot_of who slots ≡ Some slot → Before earlier who) → Before earlier who
      by true e h rest = same_before earlier first.who who (before 0 first.who (omega arith)) e
      by false e h rest = rest h

stays : (who : Who) (slots : List Slot) (slot : Slot) → AllPairs Before (lives_of slots) → slot_of who slots ≡ Some slot → slots
    ≡ with_life who slots
stays who [] slot rising found = absurd (cc)
stays who (first ∷ slots) slot rising found = by (is_of who first) refl found
    (stays who slots slot (rest_rises first.who (lives_of slots) rising)) where
      by : (same : Bool) → is_of who first ≡ same → cond same (Some first) (slot_of who slots) ≡ Some slot
          → (slot_of who slots ≡ Some slot → slots ≡ with_life who slots) → first ∷ slots ≡ with_life who (first ∷ slots)
      by true e h rest = rw (not_before first.who who e, e) refl
      by false e h rest = rw (before_found first.who who slots slot (first_before first.who (lives_of slots) rising) h)
          (ap (λ more. first ∷ more) (rest h))

pub life_stays : (who : Who) (entries : Entries) (slot : Slot) → IsByLife entries → lookup (at who) entries ≡ Some slot → values_of entries
    ≡ with_life who (values_of entries)
life_stays who entries slot before found = stays who (values_of entries) slot before.rising
    (sym (slot_found who entries before.keyed) ∙ found)

pub none_of : (found : Option Slot) → is_some found ≡ false → found ≡ None
none_of None e = refl
none_of (Some slot) e = absurd (cc)

pub there_stays : (who : Who) (entries : Entries) → IsByLife entries → is_some (lookup (at who) entries) ≡ true → values_of entries
    ≡ with_life who (values_of entries)
there_stays who entries before there = by (lookup (at who) entries) refl there where
  by : (found : Option Slot) → lookup (at who) entries ≡ found → is_some found ≡ true → values_of entries
      ≡ with_life who (values_of entries)
  by None e h = absurd (cc)
  by (Some slot) e h = life_stays who entries slot before e

-- a life without its slot
abbrev pub removed : Who → Entries → Entries
removed who entries = remove_entry (at who) entries

pub life_removed : (who : Who) (entries : Entries) → All Keyed entries → values_of (removed who entries)
    ≡ without_life who (values_of entries)
life_removed who [] keyed = refl
life_removed who (entry ∷ entries) keyed = by (at who entry.0) refl (life_removed who entries (rest_keyed entry entries keyed)) where
  on : at who entry.0 ≡ is_of who entry.1
  on = here who entry (keyed 0 entry (omega arith))

  by : (same : Bool) → at who entry.0 ≡ same → values_of (removed who entries) ≡ without_life who (values_of entries)
      → values_of (cond same entries (entry ∷ removed who entries)) ≡ without_life who (entry.1 ∷ values_of entries)
  by true e rest = let same : is_of who entry.1 ≡ true = sym on ∙ e in rw same refl
  by false e rest = let other : is_of who entry.1 ≡ false = sym on ∙ e in rw other (ap (λ more. entry.1 ∷ more) rest)

keyed_removed : (who : Who) (entries : Entries) → All Keyed entries → All Keyed (removed who entries)
keyed_removed who [] keyed = keyed
keyed_removed who (entry ∷ entries) keyed = by (at who entry.0) (keyed_removed who entries (rest_keyed entry entries keyed)) where
  by : (same : Bool) → All Keyed (removed who entries) → All Keyed (cond same entries (entry ∷ removed who entries))
  by true rest = rest_keyed entry entries keyed
  by false rest = All-cons Keyed entry (removed who entries) (keyed 0 entry (omega arith)) rest

pub by_life_removed : (who : Who) (entries : Entries) → IsByLife entries → IsByLife (removed who entries)
by_life_removed who entries before = record {
  keyed = keyed_removed who entries before.keyed;
  rising = subst (λ slots. AllPairs Before (lives_of slots)) (sym (life_removed who entries before.keyed))
      (rises-without_life who (values_of entries) before.rising);
  tags = subst (All Eight) (sym (life_removed who entries before.keyed)) (tags-without_life who (values_of entries) before.tags);
}

-- the entries of a map that was written to
pub values_all : {one other : Entries} → one ≡ other → values_of one ≡ values_of other
values_all e = ap values_of e

pub values_same : {one other : BTreeMap Who Slot} → one ≡ other → values_of one.entries ≡ values_of other.entries
values_same e = ap (λ (m : BTreeMap Who Slot). values_of m.entries) e

pub by_life_all : {one other : Entries} → one ≡ other → IsByLife other → IsByLife one
by_life_all e before = subst IsByLife (sym e) before
