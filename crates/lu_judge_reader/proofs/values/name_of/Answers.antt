-- The test for names is the definition's.
use Rattle.std.proofs.Common.{ℕ, List, Some, None, sym, ap, ◌∙◌}
use Rattle.std.proofs.lemmas.Bool.{true≢false, false_from_ne_true, cond-true, cond-false}
use Rattle.lu_scene.specs.Fields.{is_name}
use Rattle.lu_scene.proofs.PathWords.{is_name-from, is_name-true}
use Rattle.lu_judge_reader.proofs.values.name_of.Goals as goal

pub returns-in_ok-from_slice-clause-read : goal.returns-in_ok-from_slice-clause-read
returns-in_ok-from_slice-clause-read c =
    let word = c.args.word.now in
    cond-true (is_name word) (Some word) None (is_name-from word (c.is_name.ensures.test.0 c.if-is_name.true))
    ∙ ap (λ (held : List ℕ). Some held) (sym c.in_ok-from_slice.ensures.same)

pub returns-else-is_name-clause-read : goal.returns-else-is_name-clause-read
returns-else-is_name-clause-read c =
    let word = c.args.word.now in
    cond-false (is_name word) (Some word) None
    (false_from_ne_true (is_name word) (λ e. true≢false (sym (c.is_name.ensures.test.1 (is_name-true word e)) ∙ c.if-is_name.false)))
