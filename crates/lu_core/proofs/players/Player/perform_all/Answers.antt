use Rattle.std.proofs.Common.{◌∙◌, ◌+◌, [], drop, subst}
use Rattle.lu_core.specs.declared.faults.PlayFault.TheVariants.{Unforeseen}
use Rattle.lu_core.specs.declared.players.Progress.{Progress}
use Rattle.lu_core.specs.Progress.{Comes}
use Rattle.lu_core.proofs.Performing.{next_line, comes_whole, passed_on}
use Rattle.lu_core.proofs.players.Player.perform_all.Goals as goal

pub perform-requires : goal.perform-requires
perform-requires g c =
    let left = c.requires.left in
    let lines = c.args.lines.now in
    let i = c.loop-line.line-index in
    let d = c.loop-line.invariant left.0 left.1.0 left.1.1 left.1.2 in
    record {
      due = (
        drop (i + 1) lines,
        (
          left.0,
          (
            d.0,
            d.1,
            d.2
                ∙ next_line lines i c.line-item.result c.loop-line-test.true c.line-item.is,
          ),
        ),
      );
    }

pub returns-in_err-other-clause-unforeseen : goal.returns-in_err-other-clause-unforeseen
returns-in_err-other-clause-unforeseen g c = λ failed scene config at is all.
    let lines = c.args.lines.now in
    let i = c.loop-line.line-index in
    let d = c.loop-line.invariant scene config at is in
    c.in_err-other.ensures.unforeseen (passed_on c.from_residual.result c.in_err-other.field-0.0 Unforeseen c.from_residual.ensures.1
    failed)
    (drop (i + 1) lines) scene d.0 d.1 (d.2 ∙ next_line lines i c.line-item.result c.loop-line-test.true c.line-item.is) all

pub returns-in_default : goal.returns-in_default
returns-in_default g c = record {
  performs = λ scene config at is.
      let lines = c.args.lines.now in
      let i = c.loop-line.line-index in
      let d = c.loop-line.invariant scene config at is in
      comes_whole scene (drop (i + 1) lines) [] c.perform.new.self c.in_ok-other.other c.in_default.not-Made
      (c.in_ok-other.ensures.performs scene d.0 (drop (i + 1) lines) d.1
      (d.2 ∙ next_line lines i c.line-item.result c.loop-line-test.true c.line-item.is));
  unforeseen = λ failed scene config at is all. absurd (cc);
}

pub loop-line-preserved : goal.loop-line-preserved
loop-line-preserved g c = λ scene config at is.
    let lines = c.args.lines.now in
    let i = c.loop-line.line-index in
    let d = c.loop-line.invariant scene config at is in
    subst (λ (came : Progress). Comes scene (drop (i + 1) lines) c.perform.new.self came) c.in-Made.is
    (c.in_ok-other.ensures.performs scene d.0 (drop (i + 1) lines) d.1
    (d.2 ∙ next_line lines i c.line-item.result c.loop-line-test.true c.line-item.is))
