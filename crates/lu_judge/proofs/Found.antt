-- Each trace has a verdict: whether a law holds at a line is decided, so the first line that breaks it is found.
use Rattle.std.proofs.Common.{◌≡◌, ℕ, zero, suc, ◌+◌, ◌<◌, ◌≤◌, Bool, true, false, List, length, drop, ◌⊎◌, inl, inr, refl, subst, arith}
use Rattle.std.specs.Prelude.{slice_index_or, reverse, Option, Some, None}
use Rattle.std.proofs.lemmas.Bool.{cases_lt}
use Rattle.std.proofs.lemmas.List.{get_or_default}
use Rattle.lu_trace.specs.declared.entries.Line.{Line}
use Rattle.lu_trace.specs.declared.traces.Trace.{Trace}
use Rattle.lu_spec_laws.specs.Words.Pasts.{Past}
use Rattle.lu_spec_laws.proofs.Decides.{Decided, Deciding, says_yes, says_no}
use Rattle.lu_spec_laws.proofs.Decides.Messages.{decide_messages}
use Rattle.lu_spec_laws.proofs.Decides.Locks.{decide_locks}
use Rattle.lu_spec_laws.proofs.Decides.Silent.{decide_silent}
use Rattle.lu_spec_laws.proofs.Decides.Acts.{decide_acts}
use Rattle.lu_spec_laws.proofs.Decides.Recovery.{decide_recovery}
use Rattle.lu_spec_laws.proofs.Decides.History.{decide_history}
use Rattle.lu_spec_laws.proofs.Decides.Glimpse.{decide_glimpse}
use Rattle.lu_judge_pass.specs.Firsts.{before, HoldsAt, HoldsBelow, BreaksAt, IsFirst}
use Rattle.lu_judge.specs.declared.laws.Law.{Law}
use Rattle.lu_judge.specs.declared.laws.Law.TheVariants as law
use Rattle.lu_judge.specs.declared.verdicts.Verdict.{Verdict}
use Rattle.lu_judge.specs.declared.verdicts.Verdict.TheVariants.{Lawful, Broken}
use Rattle.lu_judge.specs.Laws.{law_of}
use Rattle.lu_judge.specs.Verdicts.{Keeps, KeepsBefore, IsVerdict, HasOne}
use Rattle.lu_judge.proofs.Only.{some_of, least_line, none_kept, only}

-- ---- the first line that breaks a law

module _ (law : Past → Line → List Line → Type 0) (lines : List Line) where
  -- below a place no line breaks it, or the first that does is there
  abbrev LookedTo : ℕ → Type 0
  LookedTo n = HoldsBelow law lines n ⊎ ((place : ℕ) × (place < n) × HoldsBelow law lines place × BreaksAt law lines place)

  -- the law at the line of a place, past whose end stands this one
  abbrev At : ℕ → Line → Type 0
  At n d = law (before lines n) (slice_index_or lines n d) (drop (n + 1) lines)

  at_any : (n : ℕ) (d e : Line) → n < length lines → At n d → At n e
  at_any n d e below holds = subst (λ (l : Line). law (before lines n) l (drop (n + 1) lines)) (get_or_default lines n d e below) holds

  holds_more : (n : ℕ) → HoldsBelow law lines n → HoldsAt law lines n → HoldsBelow law lines (suc n)
  holds_more n holds here = λ k below.
      elim (cases_lt k n) [
        | inl less ↦ holds k less
        | inr past ↦ let is : n ≡ k = omega arith in subst (λ (i : ℕ). HoldsAt law lines i) is here
      ]

  look_at : (n : ℕ) (d : Line) → n < length lines → HoldsBelow law lines n → Decided (At n d) → LookedTo (suc n)
  look_at n d below holds decided = by decided.answer refl
    where
      by : (answer : Bool) → decided.answer ≡ answer → LookedTo (suc n)
      by true is = inl (holds_more n holds (λ e. at_any n d e below (says_yes decided is)))
      by false is = inr (n, omega arith, holds, λ e holds. says_no decided is (at_any n e d below holds))

  look_on : (n : ℕ) → n < length lines → Deciding law → LookedTo n → LookedTo (suc n)
  look_on n below decide (inl holds) =
      let d = some_of lines n below in
      look_at n d below holds (decide (before lines n) (slice_index_or lines n d) (drop (n + 1) lines))
  look_on n below decide (inr found) = let less : found.0 < n = found.1 in inr (found.0, omega arith, found.2, found.3)

  look_to : (n : ℕ) → n ≤ length lines → Deciding law → LookedTo n
  look_to zero within decide = inl (λ k below. absurd (omega arith))
  look_to (suc n) within decide = look_on n (omega arith) decide (look_to n (omega arith) decide)

  first_of : LookedTo (length lines) → (place : Option ℕ) × IsFirst law lines place
  first_of (inl holds) = (None, holds)
  first_of (inr found) = (Some found.0, (found.1, found.2, found.3))

decide_law : (trace : Trace) (this : Law) → Deciding (law_of trace this)
decide_law trace law.Messages = decide_messages
decide_law trace law.Locks = decide_locks trace.osts
decide_law trace law.Silent = decide_silent
decide_law trace law.Acts = decide_acts (reverse trace.entries)
decide_law trace law.Recovery = decide_recovery trace.osts (reverse trace.entries)
decide_law trace law.History = decide_history trace.osts (reverse trace.entries)
decide_law trace law.Glimpse = decide_glimpse trace.osts (reverse trace.entries)

first_place : (trace : Trace) (this : Law) → (place : Option ℕ) × IsFirst (law_of trace this) trace.entries place
first_place trace this =
    first_of (law_of trace this) trace.entries (look_to (law_of trace this) trace.entries (length trace.entries) (omega arith)
    (decide_law trace this))

-- ---- the verdict

abbrev Judged : Trace → Type 0
Judged trace = (verdict : Verdict) × IsVerdict trace verdict

-- by one law after those before it, and by the later ones where it is kept
judge_on : (trace : Trace) (this : Law) → KeepsBefore trace this → (Keeps trace this → Judged trace) → Judged trace
judge_on trace this before later = by (first_place trace this).0 (first_place trace this).1
  where
    by : (place : Option ℕ) → IsFirst (law_of trace this) trace.entries place → Judged trace
    by None first = later (none_kept trace this first)
    by (Some place) first = (Broken this (place + 1), record { before = before; least = least_line trace this place place refl first })

judged : (trace : Trace) → Judged trace
judged trace =
    judge_on trace law.Messages tt
    (λ messages.
    judge_on trace law.Locks (messages, tt)
    (λ locks.
    judge_on trace law.Silent (locks, (messages, tt))
    (λ silent.
    judge_on trace law.Acts (silent, (locks, (messages, tt)))
    (λ acts.
    judge_on trace law.Recovery (acts, (silent, (locks, (messages, tt))))
    (λ recovery.
    judge_on trace law.History (recovery, (acts, (silent, (locks, (messages, tt)))))
    (λ history.
    judge_on trace law.Glimpse (history, (recovery, (acts, (silent, (locks, (messages, tt))))))
    (λ glimpse. (
      Lawful,
      record {
        messages = messages;
        locks = locks;
        silent = silent;
        acts = acts;
        recovery = recovery;
        history = history;
        glimpse = glimpse;
      },
    ))))))))

pub has_one : (trace : Trace) → HasOne trace
has_one trace = let is = judged trace in (is.0, is.1, λ other holds. only trace other is.0 holds is.1)
