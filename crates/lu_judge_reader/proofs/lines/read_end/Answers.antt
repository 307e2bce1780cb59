-- A last line is read as it is written.
use Rattle.std.proofs.Common.{ℕ, List, Bor, map, ap, ◌∙◌}
use Rattle.lu_judge_reader.proofs.LinesRead.{end_given, end_missed}
use Rattle.lu_judge_reader.proofs.lines.read_end.Goals as goal

pub returns-clause-read : goal.returns-clause-read
returns-clause-read c =
    end_given c.args.text.now (map (λ (w : Bor (List ℕ)). w.now) c.as_slice.result.now) c.end_of.result
    (ap (map (λ (w : Bor (List ℕ)). w.now)) c.as_slice.ensures.value ∙ c.in_ok-parts.ensures.parts) c.end_of.ensures.read

pub returns-clause-none : goal.returns-clause-none
returns-clause-none c =
    end_missed c.args.text.now (map (λ (w : Bor (List ℕ)). w.now) c.as_slice.result.now) c.end_of.result
    (ap (map (λ (w : Bor (List ℕ)). w.now)) c.as_slice.ensures.value ∙ c.in_ok-parts.ensures.parts) c.end_of.ensures.read
