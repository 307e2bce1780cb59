-- A turn's lines as a node gives them, with their numbers, are those of the printed trace.
use Rattle.std.proofs.Common.{◌≡◌, ℕ, ◌+◌, List, [], ◌∷◌, ◌++◌, length, Option, Some, None, refl, sym, ap, ◌∙◌, arith}
use Rattle.std.specs.Prelude.{reverse}
use Rattle.std.proofs.lemmas.List.{append-nil, append_assoc, reverse-append}
use Rattle.lu_base.specs.declared.ids.At.{At}
use Rattle.lu_base.specs.declared.ids.Node.{Node}
use Rattle.lu_msg.specs.declared.messages.Message.{Message}
use Rattle.lu_trace.specs.declared.entries.Line.{Line as PrintedLine}
use Rattle.lu_trace.specs.declared.entries.Entry.{Entry as PrintedEntry}
use Rattle.lu_trace.specs.declared.entries.Entry.TheVariants as entry
use Rattle.lu_spec_entries.specs.Words.{Entry, Send, Take, Line, line, with_turn}
use Rattle.lu_spec_entries.specs.Sent.{count_sent}
use Rattle.lu_spec_entries.specs.Printed.{printed, printed_entry}
use Rattle.lu_spec_entries.specs.Given.{line_of, step_lines, step_posts}
use Rattle.lu_proof_run.specs.Numbering.{last_after_all, numbered_sends, numbered_step}

cons_last : (x : PrintedLine) (xs ys : List PrintedLine) → reverse (x ∷ xs) ++ ys ≡ reverse xs ++ x ∷ ys
cons_last x xs ys = ap (λ zs. zs ++ ys) (reverse-append (x ∷ []) xs) ∙ append_assoc (reverse xs) (x ∷ []) ys

-- a turn without a message that was taken
pub turn_prints : (past : List Line) (at : At) (es : List Entry) → reverse (printed (with_turn at es past)) ≡ reverse (printed past)
    ++ numbered_sends (count_sent past) (step_lines at es)
turn_prints past at [] = sym (append-nil (reverse (printed past)))
turn_prints past at (e ∷ es) = by e (λ e. turn_prints (line at e ∷ past) at es)
  where
    More : Type 0
    More = (e : Entry) → reverse (printed (with_turn at es (line at e ∷ past))) ≡ reverse (printed (line at e ∷ past))
        ++ numbered_sends (count_sent (line at e ∷ past)) (step_lines at es)

    one : (p : PrintedEntry) (ys : List PrintedLine) → reverse (record { at = at; entry = p } ∷ printed past) ++ ys ≡ reverse (printed past)
        ++ record { at = at; entry = p } ∷ ys
    one p ys = cons_last (record { at = at; entry = p }) (printed past) ys

    -- a line that is printed, or none
    shown : (o : Option PrintedEntry) (ys : List PrintedLine)
        → reverse (elim o [ None ↦ printed past | Some p ↦ record { at = at; entry = p } ∷ printed past ]) ++ ys ≡ reverse (printed past)
        ++ line_of at o ys
    shown None ys = refl
    shown (Some p) ys = one p ys

    by : (e : Entry) → More → reverse (printed (with_turn at es (line at e ∷ past))) ≡ reverse (printed past)
        ++ numbered_sends (count_sent past) (step_lines at (e ∷ es))
    by (Send to m) more = more (Send to m) ∙ one (entry.Send (count_sent past + 1) to m) _
    by e more = more e ∙ shown (printed_entry 0 e) (numbered_sends (count_sent past) (step_lines at es))

-- a turn in which a message came: the node gives its line without the number
pub taken_prints : (n : ℕ) (past : List Line) (at : At) (from : Node) (m : Message) (rest : List Entry)
    → reverse (printed (with_turn at (Take n from m ∷ rest) past)) ≡ reverse (printed past)
    ++ numbered_step (count_sent past) n (step_lines at (Take 0 from m ∷ rest))
taken_prints n past at from m rest = turn_prints past at (Take n from m ∷ rest)

-- the messages of a turn are counted by its lines
pub turn_sent : (past : List Line) (at : At) (es : List Entry) → count_sent (with_turn at es past)
    ≡ count_sent past + length (step_posts es)
turn_sent past at [] = omega arith
turn_sent past at (e ∷ es) = turn_sent (line at e ∷ past) at es ∙ by e
  where
    by : (e : Entry) → count_sent (line at e ∷ past) + length (step_posts es) ≡ count_sent past + length (step_posts (e ∷ es))
    by (Send to m) = omega arith
    by e = refl

pub lines_last : (last : ℕ) (at : At) (es : List Entry) → last_after_all last (step_lines at es) ≡ last + length (step_posts es)
lines_last last at [] = omega arith
lines_last last at (e ∷ es) = by e (λ l. lines_last l at es)
  where
    by : (e : Entry) → ((l : ℕ) → last_after_all l (step_lines at es) ≡ l + length (step_posts es))
        → last_after_all last (step_lines at (e ∷ es)) ≡ last + length (step_posts (e ∷ es))
    by (Send to m) more = let h = more (last + 1) in omega arith
    by e more = more last
