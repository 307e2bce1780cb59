-- The answer that is told later in a turn, line by line.
use Rattle.std.proofs.Common.{◌≡◌, ℕ, ◌<◌, ◌≤◌, ◌+◌, Bool, true, false, List, [], ◌∷◌, length, drop, Option, Some, None, refl, sym, ap}
use Rattle.std.proofs.Common.{subst, ◌∙◌}
use Rattle.std.specs.Prelude.{◌==◌, ◌&&◌, if◌then◌else◌, slice_index_or}
use Rattle.std.proofs.lemmas.List.{drop_more, drop_all}
use Rattle.lu_base.specs.declared.ids.At.{At}
use Rattle.lu_msg.specs.declared.answers.Answer.{Answer}
use Rattle.lu_trace.specs.declared.entries.Entry.{Entry}
use Rattle.lu_trace.specs.declared.entries.Entry.TheVariants.{Told}
use Rattle.lu_trace.specs.declared.entries.Line.{Line}
use Rattle.lu_spec_laws.specs.Words.Pasts.{same_turn, or_else}
use Rattle.lu_spec_laws.specs.Words.Later.{told_later}
use Rattle.lu_spec_laws.proofs.Tests.{turn_is}
use Rattle.lu_judge_pass.specs.Places.{InOrder, turn_of}
use Rattle.lu_judge_pass.proofs.Rests.{told_later_in_turn}
use Rattle.lu_judge_acts.specs.Answers.{told_at}

-- a line of another turn
none_of : (slot : ℕ) (at : At) (l : Line) (rest : List Line) → same_turn l.at at ≡ false → InOrder at (l ∷ rest)
    → told_later slot at (l ∷ rest) ≡ None
none_of slot at l rest other order = told_later_in_turn slot at (l ∷ rest) order ∙ rw other refl

module _ (slot : ℕ) (at : At) (later : List Line) (place : ℕ) (l : Line) (below : place < length later)
    (is : slice_index_or later place l ≡ l) where
  here : drop place later ≡ l ∷ drop (place + 1) later
  here = drop_more later place l below ∙ ap (λ (k : Line). k ∷ drop (place + 1) later) is

  pub ended : same_turn l.at at ≡ false → InOrder at (drop place later) → told_later slot at later ≡ told_later slot at (drop place later)
      → told_later slot at later ≡ None
  ended other order so_far = so_far ∙ ap (told_later slot at) here
      ∙ none_of slot at l (drop (place + 1) later) other (subst (λ (lines : List Line). InOrder at lines) here order)
