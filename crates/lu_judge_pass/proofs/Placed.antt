-- Where the law of messages holds of a whole trace, each line of it is in its place.
use Rattle.std.proofs.Common.{◌≡◌, List, [], ◌∷◌, refl, ◌∙◌, sym, ap, ◌++◌, append_assoc}
use Rattle.std.specs.Prelude.{ℕ, reverse}
use Rattle.std.proofs.lemmas.List.{reverse-append}
use Rattle.lu_trace.specs.declared.entries.Line.{Line}
use Rattle.lu_spec_laws.specs.Words.Pasts.{Past}
use Rattle.lu_spec_laws.specs.Laws.Messages.{Messages}
use Rattle.lu_spec_laws.specs.Holds.{HoldsBefore, Holds}
use Rattle.lu_judge_pass.specs.Places.{Ordered, InOrder, PlacedIn, Placed}

-- the later lines stand in order after the newest line
abbrev After : Past → List Line → Type 0
After [] later = Unit {0}
After (l ∷ past) later = InOrder l.at later

ordered : (later : List Line) (past : Past) → HoldsBefore Messages later past → Ordered past
ordered later [] holds = tt
ordered later (l ∷ past) holds = (holds.0.order, ordered (l ∷ later) past holds.1)

before_it : (l : Line) (later : List Line) (past : Past) → Messages past l later → InOrder l.at later → After past (l ∷ later)
before_it l later [] here after = tt
before_it l later (k ∷ past) here after = (here.order, after)

moved : (l : Line) (later : List Line) (past : Past) → reverse later ++ l ∷ past ≡ reverse (l ∷ later) ++ past
moved l later past = sym (ap (λ (lines : List Line). lines ++ past) (reverse-append (l ∷ []) later)
    ∙ append_assoc (reverse later) (l ∷ []) past)

placed_from : (whole : Past) (later : List Line) (past : Past) → whole ≡ reverse later ++ past → After past later
    → HoldsBefore Messages later past → HoldsBefore (PlacedIn whole) later past
placed_from whole later [] is after holds = tt
placed_from whole later (l ∷ past) is after holds = (
  record { messages = holds.0; ordered = ordered (l ∷ later) past holds.1; later = after; whole = is },
  placed_from whole (l ∷ later) past (is ∙ moved l later past) (before_it l later past holds.0 after) holds.1,
)

after_none : (past : Past) → After past []
after_none [] = tt
after_none (l ∷ past) = tt

pub placed : (osts : ℕ) (whole : Past) → Holds Messages whole → Holds (Placed (record { osts = osts; whole = whole })) whole
placed osts whole holds = placed_from whole [] whole refl (after_none whole) holds
