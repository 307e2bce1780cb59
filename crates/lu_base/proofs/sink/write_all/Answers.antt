use Rattle.std.proofs.Common.{arith, length, ◌∙◌, ◌+◌, ◌≤◌, List, ℕ, subst}
use Rattle.std.specs.Io.KnownBytes.{Appends}
use Rattle.std.proofs.lemmas.Grind.{common_steps}
use Rattle.lu_base.proofs.KnownBytes.{appends_on, put_together}
use Rattle.lu_base.proofs.sink.write_all.Goals as goal

pub loop-written-preserved : goal.loop-written-preserved
loop-written-preserved g c =
    let on = appends_on _ _ _ _ _ c.loop-written.invariant.wrote c.in_ok-written.ensures.bytes in
    let within : c.loop-written.written + c.in_ok-written.field-0 ≤ length c.args.from.now = grind (arith, common_steps) in
    let P : List ℕ → Type 0 = λ xs. Appends (g.K.Sink.holds c.args.sink.now) (g.K.Sink.holds c.write.new.self) xs in
    record {
      wrote = subst P (put_together c.args.from.now c.loop-written.written c.in_ok-written.field-0 within) on;
      within = within;
      steady = c.in_ok-written.ensures.steady ∙ c.loop-written.invariant.steady;
    }
