-- What is answered for the text of a line, of a last line and of neither.
use Rattle.std.proofs.Common.{◌≡◌, ◌≢◌, ℕ, ◌≤◌, List, [], ◌∷◌, ◌++◌, Option, Some, None, Result, Err, refl, sym, ap, subst, ◌∙◌}
use Rattle.std.specs.Prelude.{IfOk}
use Rattle.std.proofs.lemmas.List.{append_cancel_right}
use Rattle.lu_trace.specs.declared.entries.Line.{Line}
use Rattle.lu_trace.specs.declared.traces.Trace.{Trace}
use Rattle.lu_trace.specs.declared.traces.End.{End}
use Rattle.lu_trace.specs.declared.traces.End.TheVariants.{Done}
use Rattle.lu_trace.specs.Words.{words}
use Rattle.lu_trace.specs.Entries.{line_text}
use Rattle.lu_trace.specs.Traces.{end_words, osts_words, trace_text}
use Rattle.lu_trace.specs.WellFormed.{IsLine}
use Rattle.lu_judge_reader.specs.declared.faults.LineFault.{LineFault}
use Rattle.lu_judge_reader.specs.declared.faults.LineFault.TheVariants as faults
use Rattle.lu_judge_reader.specs.Reading.{Gives}
use Rattle.lu_judge_reader.specs.Entries.{words_of, said, end_of, behind, only}
use Rattle.lu_judge_reader.proofs.Alls.{some_is}
use Rattle.lu_judge_reader.proofs.DataFit.{given_fit}
use Rattle.lu_judge_reader.proofs.LinesAgain.{said_again, split_end, end_again, end_text_read}

none_some : {A : Type 0} (o : Option A) (x : A) → o ≡ None → o ≡ Some x → ⊥
none_some None x none some = cc some
none_some (Some y) x none some = cc none

-- last lines

pub end_given : (text : List ℕ) (ws : List (List ℕ)) (r : Result (End × ℕ) LineFault) → ws ≡ words_of text → Gives r (end_of ws)
    → IfOk r (λ last. words (end_words last.0 ++ osts_words last.1) ≡ text)
end_given text ws r are read =
    given_fit (λ (last : End × ℕ). words (end_words last.0 ++ osts_words last.1) ≡ text) r (end_of (words_of text))
    (subst (λ (vs : List (List ℕ)). Gives r (end_of vs)) are read) (end_text_read text)

pub end_missed : (text : List ℕ) (ws : List (List ℕ)) (r : Result (End × ℕ) LineFault) → ws ≡ words_of text → Gives r (end_of ws) → r
    ≡ Err faults.Unread
    → (end : End) (osts : ℕ) → 1 ≤ osts → osts ≤ 8 → words (end_words end ++ osts_words osts) ≢ text
end_missed text ws r are read unread end osts some few same =
    let none : end_of ws ≡ None = subst (λ (q : Result (End × ℕ) LineFault). Gives q (end_of ws)) unread read in
    none_some (end_of ws) (end, osts) none
    (ap end_of are ∙ ap (λ (t : List ℕ). end_of (words_of t)) (sym same) ∙ ap end_of (split_end end osts few) ∙ end_again end osts some few)

-- lines

pub line_missed : (text : List ℕ) (r : Result Line LineFault) → Gives r (said text) → r ≡ Err faults.Unread → (line : Line) → IsLine line
    → line_text line ≢ text
line_missed text r read unread line is same =
    none_some (said text) line (subst (λ (q : Result Line LineFault). Gives q (said text)) unread read)
    (ap said (sym same) ∙ said_again line is)

pub line_other : (text : List ℕ) (l line : Line) → said text ≡ Some l → IsLine line → line_text line ≡ text → line_text l ≡ text
line_other text l line read is same = ap line_text (some_is l line (sym read ∙ ap said (sym same) ∙ said_again line is)) ∙ same

-- the text of a trace of one line

pieces : (x : List ℕ) → ((x ++ 10 ∷ []) ++ []) ++ 101 ∷ 110 ∷ 100 ∷ 10 ∷ [] ≡ x ++ behind
pieces [] = refl
pieces (b ∷ x) = ap (λ (rest : List ℕ). b ∷ rest) (pieces x)

shown_only : (line : Line) → trace_text (only line) Done ≡ line_text line ++ behind
shown_only line = pieces (line_text line)

rendered : (line : Line) (text shown : List ℕ) (trace : Trace) → trace ≡ only line → shown ≡ trace_text trace Done → shown ≡ line_text line
    ++ behind
rendered line text shown trace is text_is = text_is ∙ ap (λ (t : Trace). trace_text t Done) is ∙ shown_only line

pub same_text : (line : Line) (text shown wanted : List ℕ) (trace : Trace) → trace ≡ only line → shown ≡ trace_text trace Done → wanted
    ≡ text ++ behind → shown ≡ wanted → line_text line ≡ text
same_text line text shown wanted trace is text_is framed same =
    append_cancel_right (line_text line) text behind (sym (rendered line text shown trace is text_is) ∙ same ∙ framed)

pub other_text : (line : Line) (text shown wanted : List ℕ) (trace : Trace) → trace ≡ only line → shown ≡ trace_text trace Done → wanted
    ≡ text ++ behind → shown ≢ wanted → line_text line ≢ text
other_text line text shown wanted trace is text_is framed other same =
    other (rendered line text shown trace is text_is ∙ ap (λ (t : List ℕ). t ++ behind) same ∙ sym framed)
