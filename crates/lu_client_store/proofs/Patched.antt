-- What the looks at a patch tell: whether a cut is pending, whether it is clean, whether a range has a change, and how many
-- bytes are dirty.
use Rattle.std.proofs.Common.{◌≡◌, ℕ, ◌-◌, ◌^◌, ◌<◌, ◌≤◌, ◌==◌, ◌||◌, max, nat_lt, Bool, true, false, not, cond, [], ◌∷◌, length, Option}
use Rattle.std.proofs.Common.{Some, None, is_some, refl, sym, ap, ◌∙◌, arith}
use Rattle.std.proofs.lemmas.Bool.Decides.{nat_tests}
use Rattle.lu_base.specs.declared.locks.Extent.{Extent}
use Rattle.lu_spec_entries.specs.declared.changes.Dirty.{Dirty}
use Rattle.lu_spec_machine.specs.Places.{Places, found_at, is_in, inside, end_of}
use Rattle.lu_spec_machine.proofs.Places.{end_past, in_whole, found_inside}
use Rattle.lu_spec_client.specs.Bytes.{first_position, first_run}
use Rattle.lu_spec_client.specs.Patches.{Patch, base, size_over, cut_at, over_at, reads_at, cut_extent, holds_extent, cut_within}
use Rattle.lu_spec_client.specs.Patches.{has_change, dirty_in}
use Rattle.lu_spec_client.specs.WriteBack.{is_clean}

-- ---- ranges

pub nothing_inside : {A : Type 0} (extent : Extent) → extent.last < extent.first → (m : Places A) → inside extent m ≡ []
nothing_inside extent none [] = refl
nothing_inside extent none (e ∷ m) = let out : is_in extent e.0 ≡ false = grind (arith, nat_tests, none)
    in rw out (nothing_inside extent none m)

-- ---- a pending cut

-- at the size nothing is dirty: what is read there is 0 exactly where a cut is pending
cut_of : (pending : Option ℕ) (dirty : Places Dirty) (size : ℕ) → size ≡ max (base pending 0) (end_of dirty)
    → is_some (over_at (found_at dirty size) pending size None) ≡ is_some pending
cut_of None dirty size is = let bare : found_at dirty size ≡ None = end_past dirty size (omega (arith, is)) in rw bare refl
cut_of (Some q) dirty size is =
    let bare : found_at dirty size ≡ None = end_past dirty size (omega (arith, is)) in
    let past : nat_lt size q ≡ false = grind (arith, nat_tests, is) in
    rw (bare, past) refl

pub cut_seen : (p : Patch) → is_some (reads_at p (size_over 0 p) None) ≡ is_some p.pending
cut_seen p = cut_of p.pending p.dirty (size_over 0 p) refl

-- ---- a clean patch

bare_if : (dirty : Places Dirty) → (max 0 (end_of dirty) == 0) ≡ not (is_some (first_position dirty))
bare_if [] = refl
bare_if (e ∷ dirty) = grind (arith, nat_tests)

clean_of : (pending : Option ℕ) (dirty : Places Dirty) → is_some pending ≡ false → (max (base pending 0) (end_of dirty) == 0)
    ≡ not (is_some pending || is_some (first_position dirty))
clean_of None dirty none = bare_if dirty
clean_of (Some q) dirty none = absurd (cc)

pub clean_if : (p : Patch) → is_some p.pending ≡ false → (size_over 0 p == 0) ≡ is_clean p
clean_if p none = clean_of p.pending p.dirty none

pub unclean_if : (p : Patch) → is_some p.pending ≡ true → false ≡ is_clean p
unclean_if p some = ap (λ (cut : Bool). not (cut || is_some (first_position p.dirty))) (sym some)

-- ---- changes in a range

run_there : (m : Places Dirty) → 0 < length m → is_some (first_run m) ≡ true
run_there [] some = absurd (omega (arith, some))
run_there (e ∷ m) some = refl

run_nowhere : (m : Places Dirty) → length m ≡ 0 → m ≡ []
run_nowhere [] none = refl
run_nowhere (e ∷ m) none = absurd (omega (arith, none))

either : (a : Bool) → (a || true) ≡ true
either true = refl
either false = refl

one_of : (a : Bool) → (a || false) ≡ a
one_of true = refl
one_of false = refl

pub dirty_changes : (within : Extent) (p : Patch) → 0 < dirty_in within p → true ≡ has_change within p
dirty_changes within p some =
    let run : is_some (first_run (inside within p.dirty)) ≡ true = run_there (inside within p.dirty) some in
    sym (ap (λ (b : Bool). is_some (cut_within within p.pending) || b) run ∙ either (is_some (cut_within within p.pending)))

pub bare_changes : (within : Extent) (p : Patch) → dirty_in within p ≡ 0 → is_some (cut_within within p.pending) ≡ has_change within p
bare_changes within p none =
    let bare : inside within p.dirty ≡ [] = run_nowhere (inside within p.dirty) none in
    sym (ap (λ (m : Places Dirty). is_some (cut_within within p.pending) || is_some (first_run m)) bare
    ∙ one_of (is_some (cut_within within p.pending)))

-- ---- a cut in a range

shut_of : (within : Extent) (pending : Option ℕ) → within.last < 2 ^ 64 - 1 → is_some (cut_within within pending) ≡ false
shut_of within None short = refl
shut_of within (Some q) short = let out : holds_extent within (cut_extent q) ≡ false = grind (arith, nat_tests, short) in rw out refl

pub no_cut_before : (within : Extent) (p : Patch) → within.last < 2 ^ 64 - 1 → false ≡ is_some (cut_within within p.pending)
no_cut_before within p short = sym (shut_of within p.pending short)

none_of : (within : Extent) (pending : Option ℕ) → is_some pending ≡ false → is_some (cut_within within pending) ≡ false
none_of within None none = refl
none_of within (Some q) none = absurd (cc)

pub no_cut_pending : (within : Extent) (p : Patch) → is_some p.pending ≡ false → false ≡ is_some (cut_within within p.pending)
no_cut_pending within p none = sym (none_of within p.pending none)

whole_of : (within : Extent) (pending : Option ℕ) → 2 ^ 64 - 1 ≤ within.last → within.first ≡ 0 → is_some pending ≡ true
    → is_some (cut_within within pending) ≡ true
whole_of within None far first some = absurd (cc)
whole_of within (Some q) far first some = let here : holds_extent within (cut_extent q) ≡ true = grind (arith, nat_tests, far, first)
    in rw here refl

pub cut_in_whole : (within : Extent) (p : Patch) → 2 ^ 64 - 1 ≤ within.last → within.first ≡ 0 → is_some p.pending ≡ true → true
    ≡ is_some (cut_within within p.pending)
cut_in_whole within p far first some = sym (whole_of within p.pending far first some)

-- nothing is dirty at the range's first position: what is read there isn't known exactly where the cut ends the object past it
from_of : (within : Extent) (pending : Option ℕ) → 2 ^ 64 - 1 ≤ within.last → 0 < within.first → is_some pending ≡ true
    → not (is_some (cut_at pending within.first None)) ≡ is_some (cut_within within pending)
from_of within None far first some = absurd (cc)
from_of within (Some q) far first some = by (nat_lt within.first q) refl where
  by : (v : Bool) → nat_lt within.first q ≡ v → not (is_some {T = ℕ} (cond v None (Some 0)))
      ≡ is_some (cond (holds_extent within (cut_extent q)) (Some q) None)
  by true less = let here : holds_extent within (cut_extent q) ≡ true = grind (arith, nat_tests, less, far, first) in rw here refl
  by false less = let here : holds_extent within (cut_extent q) ≡ false = grind (arith, nat_tests, less, far, first) in rw here refl

bare_at : (within : Extent) (m : Places Dirty) → within.first ≤ within.last → length (inside within m) ≡ 0 → found_at m within.first ≡ None
bare_at within m range none =
    let here : is_in within within.first ≡ true = in_whole within within.first (omega arith) range in
    let empty : inside within m ≡ [] = run_nowhere (inside within m) none in
    ap (λ (v : Bool). cond v (found_at m within.first) None) (sym here) ∙ sym (found_inside within m within.first)
    ∙ ap (λ (i : Places Dirty). found_at i within.first) empty

pub cut_from : (within : Extent) (p : Patch) → dirty_in within p ≡ 0 → within.first ≤ within.last → 2 ^ 64 - 1 ≤ within.last
    → 0 < within.first → is_some p.pending ≡ true → not (is_some (reads_at p within.first None)) ≡ is_some (cut_within within p.pending)
cut_from within p none range far first some =
    ap (λ (d : Option Dirty). not (is_some (over_at d p.pending within.first None))) (bare_at within p.dirty range none)
    ∙ from_of within p.pending far first some

pub not_back : (a b : Bool) → a ≡ not b → b ≡ not a
not_back a true e = cc
not_back a false e = cc
