-- The lines that are judged, and what the end of a turn decides.
use Rattle.std.proofs.Common.{◌≡◌, ℕ, ◌+◌, ◌<◌, ◌≤◌, Bool, true, false, List, [], ◌∷◌, ◌++◌, length, drop, refl, ap, ◌∙◌, sym, subst}
use Rattle.std.proofs.Common.{⊎_elim, arith}
use Rattle.std.specs.Prelude.{◌&&◌, not, slice_index_or, ◌↔◌, Option, Some, None}
use Rattle.std.proofs.lemmas.Bool.{cases_lt}
use Rattle.lu_trace.specs.declared.entries.Line.{Line}
use Rattle.lu_spec_machine.specs.Machine.{Machine}
use Rattle.lu_spec_laws.specs.Words.Pasts.{Past, same_turn}
use Rattle.lu_spec_laws.specs.Words.Glimpses.{machine_cut}
use Rattle.lu_judge_pass.specs.Firsts.{before, HoldsBelow, IsFirst}
use Rattle.lu_judge_glimpse.specs.declared.wanted.Wanted.{Wanted}
use Rattle.lu_judge_glimpse.specs.Wanted.{meets, clears, IsLeast}
use Rattle.lu_judge_glimpse.specs.Shown.{turn_end, ends, Pending, Fresh}
use Rattle.lu_judge_glimpse.proofs.Numbers.{and_left, and_right, and_true}
use Rattle.lu_judge_glimpse.proofs.Told.{clears_both}
use Rattle.lu_judge_glimpse.proofs.Turns.{turn_goes_on}

-- the next line leaves what was wanted before as it was: either nothing was, or its turn goes on
pub wanted_stays : (osts : ℕ) (past : Past) (l : Line) (later : List Line) (ws : List Wanted) → (ends past (l ∷ later) ≡ true → ws ≡ [])
    → (j : ℕ)
    → clears (meets (machine_cut osts (turn_end past (l ∷ later)))) j ws
    ≡ clears (meets (machine_cut osts (turn_end (l ∷ past) later))) j ws
wanted_stays osts [] l later ws done j = none (done refl)
  where
    none : ws ≡ [] → clears (meets (machine_cut osts (turn_end [] (l ∷ later)))) j ws
        ≡ clears (meets (machine_cut osts (turn_end (l ∷ []) later))) j ws
    none is = rw is refl
wanted_stays osts (k ∷ past) l later ws done j = by (same_turn k.at l.at) refl
  where
    by : (v : Bool) → same_turn k.at l.at ≡ v → clears (meets (machine_cut osts (turn_end (k ∷ past) (l ∷ later)))) j ws
        ≡ clears (meets (machine_cut osts (turn_end (l ∷ k ∷ past) later))) j ws
    by true is = ap (λ (p : Past). clears (meets (machine_cut osts p)) j ws) (turn_goes_on k l past later is)
    by false is =
        let none : ws ≡ [] = done (ap not is) in
        ap (clears (meets (machine_cut osts (turn_end (k ∷ past) (l ∷ later)))) j) none
        ∙ sym (ap (clears (meets (machine_cut osts (turn_end (l ∷ k ∷ past) later))) j) none)

pub fresh_more : (k : ℕ) (ws told : List Wanted) → Fresh k ws → ((met : Wanted → Bool) (j : ℕ) → (k ≡ j → ⊥) → clears met j told ≡ true)
    → Fresh (k + 1) (ws ++ told)
fresh_more k ws told fresh others met j above =
    clears_both met j ws told ∙ and_true (clears met j ws) (clears met j told) (fresh met j (omega (arith, above)))
    (others met j (λ is. omega (arith, above, is)))

pub pending_more : (law : Past → Line → List Line → Type 0) (lines : List Line) (k : ℕ) (before_met met : Wanted → Bool)
    (ws told : List Wanted)
    → Fresh k ws → Pending law lines k before_met ws → ((j : ℕ) → clears before_met j ws ≡ clears met j ws)
    → ((j : ℕ) → (k ≡ j → ⊥) → clears met j told ≡ true)
    → ((d : Line) → (clears met k told ≡ true) ↔ law (before lines k) (slice_index_or lines k d) (drop (k + 1) lines))
    → Pending law lines (k + 1) met (ws ++ told)
pending_more law lines k before_met met ws told fresh pending same others here j below d = ⊎_elim old new (cases_lt j k)
  where
    old : j < k → (clears met j (ws ++ told) ≡ true) ↔ law (before lines j) (slice_index_or lines j d) (drop (j + 1) lines)
    old less =
        let iff = pending j less d in
        let left : clears met j told ≡ true = others j (λ is. omega (arith, less, is)) in (
          λ clear. iff.0 (same j ∙ and_left (clears met j ws) (clears met j told) (sym (clears_both met j ws told) ∙ clear)),
          λ holds. clears_both met j ws told ∙ and_true (clears met j ws) (clears met j told) (sym (same j) ∙ iff.1 holds) left,
        )

    new : k ≤ j → (clears met j (ws ++ told) ≡ true) ↔ law (before lines j) (slice_index_or lines j d) (drop (j + 1) lines)
    new more =
        let is : k ≡ j = omega (arith, below, more) in
        let iff : (clears met j told ≡ true) ↔ law (before lines j) (slice_index_or lines j d) (drop (j + 1) lines) =
        subst (λ (i : ℕ). (clears met i told ≡ true) ↔ law (before lines i) (slice_index_or lines i d) (drop (i + 1) lines)) is (here d)
        in (
          λ clear. iff.0 (and_right (clears met j ws) (clears met j told) (sym (clears_both met j ws told) ∙ clear)),
          λ holds. clears_both met j ws told ∙ and_true (clears met j ws) (clears met j told) (fresh met j more) (iff.1 holds),
        )

pub none_holds : (law : Past → Line → List Line → Type 0) (lines : List Line) (k : ℕ) (met : Wanted → Bool) (ws : List Wanted)
    → Pending law lines k met ws → IsLeast met ws None → HoldsBelow law lines k
none_holds law lines k met ws pending least j below d = (pending j below d).0 (least j)

pub first_breaks : (law : Past → Line → List Line → Type 0) (lines : List Line) (k : ℕ) (met : Wanted → Bool) (ws : List Wanted) (first : ℕ)
    → k ≤ length lines → Fresh k ws → Pending law lines k met ws → IsLeast met ws (Some first)
    → IsFirst law lines (Some first)
first_breaks law lines k met ws first within fresh pending least =
    let inside : first < k = ⊎_elim (λ less. less) (λ more. absurd (cc (least.0, fresh met first more))) (cases_lt first k) in (
      omega (arith, inside, within),
      λ j less d. (pending j (omega (arith, less, inside)) d).0 (least.1 j less),
      λ d holds. let clear : clears met first ws ≡ true = (pending first inside d).1 holds in absurd (cc (clear, least.0)),
    )
