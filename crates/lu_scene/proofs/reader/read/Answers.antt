use Rattle.std.proofs.Common.{sym, ap, ◌∙◌, map, subst}
use Rattle.lu_scene.specs.Lines.{lines_of, lines_after, nothing}
use Rattle.lu_scene.specs.Ends.{Stops}
use Rattle.lu_scene.proofs.Going.{went_on, stopped, ended}
use Rattle.lu_scene.proofs.reader.read.Goals as goal

pub loop-place-init : goal.loop-place-init
loop-place-init c =
    ap (λ p. lines_after 1 p (map (λ line. line.now) c.deref-line-items.result.now)) c.nothing-progress.ensures.nothing
    ∙ ap (λ items. lines_after 1 nothing (map (λ line. line.now) items)) c.deref-line-items.ensures.value
    ∙ ap (lines_after 1 nothing) c.in_ok-lines.ensures.lines

pub returns-in-Err : goal.returns-in-Err
returns-in-Err c =
    let total = lines_after 1 nothing (lines_of c.args.text.now) in
    record {
      read = subst (λ e. Stops e total) (sym c.on_line.ensures.fault)
          (stopped c.in-Err.error (λ line. line.now) c.deref-line-items.result.now c.loop-place.place _ c.loop-place.progress total
          c.loop-place-test.true c.in-Err.ensures.after c.loop-place.invariant);
    }

pub loop-place-preserved : goal.loop-place-preserved
loop-place-preserved c =
    went_on (λ line. line.now) c.deref-line-items.result.now c.loop-place.place _ c.loop-place.progress c.take_line.new.self _
    c.loop-place-test.true c.in_default.ensures.after c.loop-place.invariant

pub returns : goal.returns
returns c = record {
  read = ended (λ line. line.now) c.deref-line-items.result.now c.loop-place.place c.loop-place.progress _
      c.loop-place-test.false c.loop-place.invariant;
}
