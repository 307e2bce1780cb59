-- Turns are counted line by line.
use Rattle.std.proofs.Common.{◌≡◌, ◌≤◌, ◌<◌, ℕ, ◌+◌, Bool, true, false, List, [], ◌∷◌, drop, get_or, length, Option, Some, refl, sym, ap}
use Rattle.std.proofs.Common.{◌∙◌, arith}
use Rattle.std.specs.Prelude.{if◌then◌else◌}
use Rattle.std.proofs.lemmas.List.{drop_more}
use Rattle.lu_base.specs.declared.ids.At.{At}
use Rattle.lu_trace.specs.declared.entries.Line.{Line}
use Rattle.lu_run_summary.specs.Summaries.{begins, turns_after, turns_in}

-- the lines from a place on
next_line : (lines : List Line) (i : ℕ) (line : Line) → i < length lines → line ≡ get_or lines i line → drop i lines ≡ line
    ∷ drop (i + 1) lines
next_line lines i line below is = drop_more lines i line below ∙ ap (λ (l : Line). l ∷ drop (i + 1) lines) (sym is)

module _ (lines : List Line) (i turns : ℕ) (last : Option At) (line : Line) (below : i < length lines) (is : line ≡ get_or lines i line)
    (counted : turns + turns_after last (drop i lines) ≡ turns_in lines) where
  next : turns + ((if begins last line.at then 1 else 0) + turns_after (Some line.at) (drop (i + 1) lines)) ≡ turns_in lines
  next = ap (λ (ls : List Line). turns + turns_after last ls) (sym (next_line lines i line below is)) ∙ counted

  pub begun : begins last line.at ≡ true → turns + 1 + turns_after (Some line.at) (drop (i + 1) lines) ≡ turns_in lines
  begun e =
      let one : turns + 1 + turns_after (Some line.at) (drop (i + 1) lines)
      ≡ turns + (1 + turns_after (Some line.at) (drop (i + 1) lines)) = omega arith in
      one ∙ sym (ap (λ (b : Bool). turns + ((if b then 1 else 0) + turns_after (Some line.at) (drop (i + 1) lines))) e) ∙ next

  pub same : begins last line.at ≡ false → turns + turns_after (Some line.at) (drop (i + 1) lines) ≡ turns_in lines
  same e =
      none (turns_after (Some line.at) (drop (i + 1) lines))
      ∙ sym (ap (λ (b : Bool). turns + ((if b then 1 else 0) + turns_after (Some line.at) (drop (i + 1) lines))) e) ∙ next
    where
      none : (n : ℕ) → turns + n ≡ turns + (0 + n)
      none n = omega arith

drop_all : (lines : List Line) → drop (length lines) lines ≡ []
drop_all [] = refl
drop_all (l ∷ lines) = drop_all lines

pub all : (lines : List Line) (turns : ℕ) (last : Option At) (i : ℕ) → length lines ≤ i → i ≤ length lines
    → turns + turns_after last (drop i lines) ≡ turns_in lines → turns ≡ turns_in lines
all lines turns last i past within counted =
    let end : i ≡ length lines = omega (arith, past, within) in
    let left : turns + turns_after last [] ≡ turns_in lines =
    ap (λ (ls : List Line). turns + turns_after last ls) (sym (ap (λ (n : ℕ). drop n lines) end ∙ drop_all lines)) ∙ counted in
    add-nothing turns ∙ left
  where
    add-nothing : (n : ℕ) → n ≡ n + 0
    add-nothing n = omega arith

pub nothing_before : (lines : List Line) → 0 + turns_in lines ≡ turns_in lines
nothing_before lines = omega arith
