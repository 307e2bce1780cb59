use Rattle.std.proofs.Common.{◌≡◌, true, false, refl, sym, ap, ◌∙◌, subst}
use Rattle.std.specs.Prelude.{◌||◌}
use Rattle.lu_spec_laws.specs.Words.Pasts.{same_turn}
use Rattle.lu_spec_laws.specs.Words.Sends.{Sending, taken}
use Rattle.lu_spec_laws.specs.Laws.Messages.{Follows}
use Rattle.lu_spec_laws.specs.Laws.Recovery.{answers_size, is_size_for}
use Rattle.lu_judge_pass.specs.Tables.{sending_of}
use Rattle.lu_judge_recovery.specs.Turns.{turn_at}
use Rattle.lu_judge_recovery.proofs.Searches.{any_read}
use Rattle.lu_judge_recovery.proofs.replies.is_executed.Goals as goal

pub returns-then-same_turn : goal.returns-then-same_turn
returns-then-same_turn c = record {
  executed = λ past ledger ordered follows.
      let here : same_turn c.args.reply.now.at (turn_at c.args.turn.stamp c.args.turn.target) ≡ true =
      ap (same_turn c.args.reply.now.at) (sym c.at-here.ensures) ∙ sym c.same_turn.ensures ∙ c.if-same_turn.true in
      rw here refl;
}

pub returns : goal.returns
returns c = record {
  executed = λ past ledger ordered follows.
      let at = turn_at c.args.turn.stamp c.args.turn.target in
      let other : same_turn c.args.reply.now.at at ≡ false = ap (same_turn c.args.reply.now.at) (sym c.at-here.ensures)
      ∙ sym c.same_turn.ensures ∙ c.if-same_turn.false in
      c.is_size_for.ensures
      ∙ sym (any_read (λ (s : Sending). answers_size c.args.reply.now.who c.args.reply.now.xid.0 s.message) sending_of c.taken.result.now)
      ∙ ap (is_size_for c.args.reply.now.who c.args.reply.now.xid.0)
      (c.taken.ensures.taken past ledger.present ordered (subst (λ a. Follows past a) (sym c.at-here.ensures) follows)
      ∙ ap (taken past) c.at-here.ensures)
      ∙ sym (ap (λ b. b || is_size_for c.args.reply.now.who c.args.reply.now.xid.0 (taken past at)) other);
}
