-- A step of which a line tells that a disk failed is of a turn in which one did.
use Rattle.std.proofs.Common.{◌≡◌, ◌↔◌, zero, suc, Bool, true, List, [], ◌∷◌, refl, sym, subst, ap, ◌∙◌, arith}
use Rattle.std.specs.List.{Any}
use Rattle.std.specs.Prelude.{IsTrue}
use Rattle.lu_base.specs.declared.ids.At.{At}
use Rattle.lu_trace.specs.declared.entries.Entry.{Entry as PrintedEntry}
use Rattle.lu_trace.specs.declared.entries.Entry.TheVariants as entry
use Rattle.lu_trace.specs.declared.entries.Line.{Line as PrintedLine}
use Rattle.lu_trace.specs.declared.traces.Step.{Step}
use Rattle.lu_spec_entries.specs.Words.{Entry, Line, with_turn}
use Rattle.lu_spec_entries.specs.Given.{step_of}
use Rattle.lu_spec_run.specs.Runs.{has_failed}
use Rattle.lu_proof_run.proofs.Unfailed.{shows_fail, shown_fails}

-- a line tells of it
abbrev pub Tells : PrintedLine → Type 0
Tells line = line.entry ≡ entry.Fail

first_tells : (line : PrintedLine) (lines : List PrintedLine) → Tells line → shows_fail (line ∷ lines) ≡ true
first_tells line lines tells =
    subst (λ (e : PrintedEntry). elim e [ entry.Fail ↦ true | _ ↦ shows_fail lines ] ≡ true) (sym tells) refl

later_tells : (line : PrintedLine) (lines : List PrintedLine) → shows_fail lines ≡ true → shows_fail (line ∷ lines) ≡ true
later_tells line lines tells = by line.entry
  where
    by : (e : PrintedEntry) → elim e [ entry.Fail ↦ true | _ ↦ shows_fail lines ] ≡ true
    by entry.Fail = refl
    by _ = tells

any_shows : (lines : List PrintedLine) → Any Tells lines → shows_fail lines ≡ true
any_shows [] (k, x, within, is, tells) = absurd (omega (arith, within))
any_shows (line ∷ lines) (zero, x, within, is, tells) = first_tells line lines (subst Tells (sym is) tells)
any_shows (line ∷ lines) (suc k, x, within, is, tells) = later_tells line lines (any_shows lines (k, x, omega (arith, within), is, tells))

-- a search finds one among its lines
pub says_told : (found : Bool) (lines : List PrintedLine) (step : Step) → lines ≡ step.entries → IsTrue found ↔ Any Tells lines
    → IsTrue found
    → (at : At) (es : List Entry) (past : List Line) → step ≡ step_of at es → has_failed (with_turn at es past) ≡ true
says_told found lines step same finds is at es past gives =
    shown_fails at es past
    (subst (λ (ls : List PrintedLine). shows_fail ls ≡ true) (same ∙ ap (λ (s : Step). s.entries) gives) (any_shows lines (finds.0 is)))
