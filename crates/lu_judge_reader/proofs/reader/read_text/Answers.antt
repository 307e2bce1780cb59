-- A text is its lines and what follows the last line feed.
use Rattle.std.proofs.Common.{ℕ, List, Bor, ap, sym, subst, ◌∙◌, length}
use Rattle.lu_judge_reader.specs.Reads.{IsOutcome}
use Rattle.lu_judge_reader.proofs.Pieces.{parted, no_pieces}
use Rattle.lu_judge_reader.proofs.reader.read_text.Goals as goal

pub read_lines-requires-clause-lines : goal.read_lines-requires-clause-lines
read_lines-requires-clause-lines c =
    (parted (λ (w : Bor (List ℕ)). w.now) c.args.text.now c.in-Ok.pieces.items c.in-Some.lines.now c.in-Some.last.now c.in-Ok.ensures.parts
    (sym c.as_slice.ensures.value ∙ c.in-Some.ensures.cases.0)).lines_free

pub read_lines-requires-clause-last : goal.read_lines-requires-clause-last
read_lines-requires-clause-last c =
    (parted (λ (w : Bor (List ℕ)). w.now) c.args.text.now c.in-Ok.pieces.items c.in-Some.lines.now c.in-Some.last.now c.in-Ok.ensures.parts
    (sym c.as_slice.ensures.value ∙ c.in-Some.ensures.cases.0)).last_free

pub returns-in-Some : goal.returns-in-Some
returns-in-Some c = record {
  outcome = subst (λ (t : List ℕ). IsOutcome t c.read_lines.result)
      (parted (λ (w : Bor (List ℕ)). w.now) c.args.text.now c.in-Ok.pieces.items c.in-Some.lines.now c.in-Some.last.now
      c.in-Ok.ensures.parts (sym c.as_slice.ensures.value ∙ c.in-Some.ensures.cases.0)).whole
      c.read_lines.ensures.outcome;
}

pub returns : goal.returns
returns c = absurd (no_pieces (λ (w : Bor (List ℕ)). w.now) c.args.text.now c.in-Ok.pieces.items c.in-Ok.ensures.parts
    (ap length (sym c.as_slice.ensures.value) ∙ c.in-None.ensures.cases))
