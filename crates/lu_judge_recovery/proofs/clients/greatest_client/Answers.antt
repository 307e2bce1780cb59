use Rattle.std.proofs.Common.{◌≡◌, ◌<◌, ◌∷◌, length, sym, ap, ◌∙◌, subst, arith}
use Rattle.lu_trace.specs.declared.entries.Line.{Line}
use Rattle.lu_spec_laws.specs.Words.Pasts.{Past}
use Rattle.lu_spec_laws.specs.Words.Clients.{clients, clients_step}
use Rattle.lu_judge_pass.specs.Firsts.{before}
use Rattle.lu_judge_pass.proofs.Wholes.{before_more}
use Rattle.lu_judge_recovery.proofs.clients.greatest_client.Goals as goal

pub loop-place-preserved : goal.loop-place-preserved
loop-place-preserved c = record {
  within = omega arith;
  count =
      let below : c.loop-place.place < length c.args.lines.now = omega arith in
      let past = before c.args.lines.now c.loop-place.place in
      c.after-known.ensures
      ∙ ap (clients_step c.index-lines-place.result) c.loop-place.invariant.count
      ∙ ap (λ (l : Line). clients (l ∷ past)) c.index-lines-place.is
      ∙ sym (ap clients (before_more c.args.lines.now c.loop-place.place c.index-lines-place.result below));
}
