-- Keys that test alike are one.
use Rattle.std.proofs.Common.{◌≡◌, ℕ, Bool, true, false, ◌==◌, List, refl, ap, sym, ◌∙◌}
use Rattle.std.specs.Prelude.{if◌then◌else◌, Option, Some, None, unwrap_or, []}
use Rattle.std.specs.Option.{option_map}
use Rattle.std.proofs.lemmas.Bool.{and_parts, eqb-true}
use Rattle.lu_spec_laws.specs.Words.Held.{Held}
use Rattle.lu_judge_windows.specs.Shown.{same_two, same_three}

two_is : (a b : ℕ × ℕ) → same_two a b ≡ true → ◌≡◌ {A = ℕ × ℕ} a b
two_is a b same =
    let both = and_parts (a.0 == b.0) (a.1 == b.1) same in
    let first : a.0 ≡ b.0 = eqb-true a.0 b.0 both.0 in
    let second : a.1 ≡ b.1 = eqb-true a.1 b.1 both.1 in
    ap (λ (n : ℕ). (n, a.1)) first ∙ ap (λ (n : ℕ). (b.0, n)) second

three_is : (a b : ℕ × (ℕ × ℕ)) → same_three a b ≡ true → ◌≡◌ {A = ℕ × (ℕ × ℕ)} a b
three_is a b same =
    let both = and_parts (a.0 == b.0) (same_two a.1 b.1) same in
    let first : a.0 ≡ b.0 = eqb-true a.0 b.0 both.0 in
    ap (λ (n : ℕ). (n, a.1)) first ∙ ap (λ (p : ℕ × ℕ). (b.0, p)) (two_is a.1 b.1 both.1)

-- what a list becomes at its key, said at the key where it is looked up
pub at_two : (lists : ℕ × ℕ → List Held) (changed : List Held → List Held) (key k : ℕ × ℕ) (new : List Held) → new
    ≡ (if same_two key k then changed (lists key) else lists k) → new ≡ (if same_two key k then changed (lists k) else lists k)
at_two lists changed key k new is = by (same_two key k) refl is where
  by : (same : Bool) → same_two key k ≡ same → new ≡ (if same then changed (lists key) else lists k) → new
      ≡ (if same then changed (lists k) else lists k)
  by true same is = is ∙ ap (λ (j : ℕ × ℕ). changed (lists j)) (two_is key k same)
  by false same is = is

pub at_three : (lists : ℕ × (ℕ × ℕ) → List Held) (changed : List Held → List Held) (key k : ℕ × (ℕ × ℕ)) (new : List Held) → new
    ≡ (if same_three key k then changed (lists key) else lists k) → new ≡ (if same_three key k then changed (lists k) else lists k)
at_three lists changed key k new is = by (same_three key k) refl is where
  by : (same : Bool) → same_three key k ≡ same → new ≡ (if same then changed (lists key) else lists k) → new
      ≡ (if same then changed (lists k) else lists k)
  by true same is = is ∙ ap (λ (j : ℕ × (ℕ × ℕ)). changed (lists j)) (three_is key k same)
  by false same is = is

-- the list at a key, once one list was changed
pub changed : {V : Type 0} (rows : V → List Held) (here : Bool) (kept : V) (now old : Option V) (change : List Held → List Held)
    (was : List Held) → now ≡ (if here then Some kept else old) → rows kept ≡ change was
    → unwrap_or (option_map rows now) [] ≡ (if here then change was else unwrap_or (option_map rows old) [])
changed rows true kept now old change was is does = rw is does
changed rows false kept now old change was is does = rw is refl
