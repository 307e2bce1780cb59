-- The lines of the rest of a turn.
use Rattle.std.proofs.Common.{◌≡◌, ℕ, zero, suc, ◌+◌, ◌-◌, ◌<◌, Bool, true, false, List, [], ◌∷◌, length, drop, refl, ap, sym, ◌∙◌, subst}
use Rattle.std.proofs.Common.{arith}
use Rattle.std.proofs.lemmas.List.{drop_more}
use Rattle.std.specs.Prelude.{◌&&◌, ◌||◌, slice_index_or, if◌then◌else◌}
use Rattle.std.specs.List.{list_any}
use Rattle.lu_base.specs.declared.ids.At.{At}
use Rattle.lu_base.specs.declared.ids.Who.{Who}
use Rattle.lu_trace.specs.declared.entries.Entry.{Entry}
use Rattle.lu_trace.specs.declared.entries.Line.{Line}
use Rattle.lu_spec_laws.specs.Words.Pasts.{same_turn}
use Rattle.lu_spec_laws.specs.Words.Scopes.{any_later}
use Rattle.lu_spec_laws.specs.Words.Closes.{is_kept, evicts_for, restores_as}
use Rattle.lu_judge_pass.specs.Places.{InOrder, turn_of}
use Rattle.lu_judge_pass.proofs.Rests.{any_later_in_turn, next_in_in_turn}
use Rattle.lu_judge_recovery.specs.Rest.{ShowsRest}
use Rattle.lu_judge_recovery.specs.declared.rest.Rest.{Rest}

-- each is of the turn
pub same_in_turn : (at : At) (later : List Line) (k : ℕ) (d : Line) → k < length (turn_of at later)
    → same_turn (slice_index_or (turn_of at later) k d).at at ≡ true
same_in_turn at [] k d below = absurd (omega arith)
same_in_turn at (l ∷ later) k d below = by (same_turn l.at at) refl k below (same_in_turn at later) where
  by : (same : Bool) → same_turn l.at at ≡ same → (k : ℕ) → k < length (if same then l ∷ turn_of at later else [])
      → ((k : ℕ) (d : Line) → k < length (turn_of at later) → same_turn (slice_index_or (turn_of at later) k d).at at ≡ true)
      → same_turn (slice_index_or (if same then l ∷ turn_of at later else []) k d).at at ≡ true
  by true is zero below rest = is
  by true is (suc k) below rest = rest k d (omega arith)
  by false is k below rest = absurd (omega arith)

and_here : (b : Bool) → (b && true) ≡ b
and_here true = refl
and_here false = refl

-- so what one of them says is said in the turn
any_of_turn : (says : Entry → Bool) (at : At) (later : List Line) → any_later says at (turn_of at later)
    ≡ list_any (λ (l : Line). says l.entry) (turn_of at later)
any_of_turn says at [] = refl
any_of_turn says at (l ∷ later) = by (same_turn l.at at) refl (any_of_turn says at later) where
  by : (same : Bool) → same_turn l.at at ≡ same → any_later says at (turn_of at later)
      ≡ list_any (λ (l : Line). says l.entry) (turn_of at later)
      → any_later says at (if same then l ∷ turn_of at later else [])
      ≡ list_any (λ (l : Line). says l.entry) (if same then l ∷ turn_of at later else [])
  by true is rest = rw (is, rest) (ap (λ (b : Bool). b || list_any (λ (l : Line). says l.entry) (turn_of at later))
      (and_here (says l.entry)))
  by false is rest = refl

pub any_in_rest : (says : Entry → Bool) (at : At) (later : List Line) → InOrder at later → any_later says at later
    ≡ list_any (λ (l : Line). says l.entry) (turn_of at later)
any_in_rest says at later order = any_later_in_turn says at later order ∙ any_of_turn says at later

pub whole_rest : (r : Rest) (at : At) (later : List Line) → InOrder at later → ShowsRest r at (turn_of at later) → ShowsRest r at later
whole_rest r at later order shown = record {
  kept = λ n. shown.kept n ∙ sym (any_later_in_turn (is_kept n) at later order);
  evicted = λ who. shown.evicted who ∙ sym (next_in_in_turn (evicts_for who) at later order);
  restored = λ who cookie. shown.restored who cookie ∙ sym (next_in_in_turn (restores_as who cookie) at later order);
}

pub more_lines : (lines : List Line) (place : ℕ) (d : Line) → 0 < place → place - 1 < length lines → slice_index_or lines (place - 1) d
    ∷ drop place lines ≡ drop (place - 1) lines
more_lines lines place d some below =
    let next : place - 1 + 1 ≡ place = omega arith in
    ap (λ (k : ℕ). slice_index_or lines (place - 1) d ∷ drop k lines) (sym next) ∙ sym (drop_more lines (place - 1) d below)

pub none_dropped : (lines : List Line) (place : ℕ) → place ≡ 0 → drop place lines ≡ lines
none_dropped lines place is = ap (λ (k : ℕ). drop k lines) is
