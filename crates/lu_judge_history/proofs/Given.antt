-- What is known of each line of a well formed trace that keeps the law of messages.
use Rattle.std.proofs.Common.{◌≡◌, ℕ, List, refl, sym, subst}
use Rattle.std.specs.Prelude.{All, None, reverse}
use Rattle.lu_base.specs.declared.ids.At.{At}
use Rattle.lu_trace.specs.declared.entries.Entry.{Entry}
use Rattle.lu_trace.specs.declared.entries.Entry.TheVariants.{Send}
use Rattle.lu_trace.specs.declared.entries.Line.{Line}
use Rattle.lu_trace.specs.WellFormed.{IsLine}
use Rattle.lu_spec_laws.specs.Words.Pasts.{Past}
use Rattle.lu_spec_laws.specs.Laws.Messages.{Messages, Passes}
use Rattle.lu_spec_laws.specs.Holds.{Holds}
use Rattle.lu_judge_pass.specs.Firsts.{About}
use Rattle.lu_judge_pass.specs.Places.{Placed}
use Rattle.lu_judge_pass.proofs.Placed.{placed}
use Rattle.lu_judge_pass.proofs.Wholes.{at_each, none_is_whole}
use Rattle.lu_judge_history.specs.Carried.{HasNumber}
use Rattle.lu_judge_history.specs.Shown.{GivenAt}

pub given_holds : (osts : ℕ) (lines : List Line) → Holds Messages (reverse lines) → All IsLine lines
    → Holds (GivenAt (record { osts = osts; whole = reverse lines })) (reverse lines)
given_holds osts lines holds formed =
    let about : About = record { osts = osts; whole = reverse lines } in
    (none_is_whole (GivenAt about) lines None
    (λ k below d. record {
      placed = at_each (Placed about) lines (placed osts (reverse lines) holds) k below d;
      limits =
          formed k d below;
    })).0
    refl

pub moved : (P : ℕ → List Line → List Line → Type 0) (osts n : ℕ) (all lines entries : List Line) → n ≡ osts → all ≡ entries → lines
    ≡ entries → P n all lines → P osts entries entries
moved P osts n all lines entries count whole same holds =
    subst (λ (m : ℕ). P m entries entries) count (subst (λ (ls : List Line). P n ls entries) whole
    (subst (λ (ls : List Line). P n all ls) same holds))

pub given_of : (osts : ℕ) (all lines entries : List Line) → all ≡ entries → lines ≡ entries → Holds Messages (reverse entries)
    → All IsLine entries
    → Holds (GivenAt (record { osts = osts; whole = reverse all })) (reverse lines)
given_of osts all lines entries whole same holds formed =
    subst (λ (ls : List Line). Holds (GivenAt (record { osts = osts; whole = reverse ls })) (reverse lines)) (sym whole)
    (subst (λ (ls : List Line). Holds (GivenAt (record { osts = osts; whole = reverse entries })) (reverse ls)) (sym same)
    (given_holds osts entries holds formed))

number_at : (past : Past) (at : At) (e : Entry) → Passes past at e → HasNumber past (record { at = at; entry = e })
number_at past at (Send number to message) passes = passes
number_at past at _ passes = tt

-- a message has its number where the law of messages holds
pub number_of : (past : Past) (l : Line) → Passes past l.at l.entry → HasNumber past l
number_of past l passes = number_at past l.at l.entry passes
