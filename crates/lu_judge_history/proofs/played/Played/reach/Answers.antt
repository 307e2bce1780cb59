-- The piece of a life that is gone is performed.
use Rattle.std.proofs.Common.{◌≡◌, true, false, Option, refl, sym, ap, subst, ◌∙◌}
use Rattle.std.specs.Option.{option_map}
use Rattle.std.proofs.lemmas.Result.{on_ok_weaker}
use Rattle.lu_msg.specs.declared.messages.Request.{Request}
use Rattle.lu_msg.specs.declared.operations.Op.{Op}
use Rattle.lu_posix.specs.Shown.{Shows}
use Rattle.lu_spec_laws.specs.Words.Lives.{is_gone}
use Rattle.lu_spec_laws.specs.Words.Requests.{asked}
use Rattle.lu_spec_laws.specs.Words.Histories.{piece_act, after_item, machine_of}
use Rattle.lu_judge_history.specs.Deeds.{PieceWithin}
use Rattle.lu_judge_history.proofs.Limits.{asked_within}
use Rattle.lu_judge_history.proofs.Playing.{reach_shown}
use Rattle.lu_judge_history.proofs.played.Played.reach.Goals as goal

pub returns-then-not-has : goal.returns-then-not-has
returns-then-not-has c = record {
  shows = λ osts whole past lost at txn seen said own stands gone limited ledger shown.
      let stays : is_gone whole c.args.who ≡ false = sym (gone c.args.who) ∙ sym c.has.ensures.gone ∙ c.if-not-has.true in
      reach_shown osts (is_gone whole) lost past c.args.self.now shown at c.args.who c.args.xid c.args.self.now c.args.target txn seen said
      c.requires.other own stands
      (rw stays shown.machine) refl;
}

pub returns : goal.returns
returns c = record {
  shows = on_ok_weaker c.perform_piece.result
      (λ next osts whole past lost at txn seen said own stands gone limited ledger shown.
      let asks : option_map (λ o. o.now) c.asked-op.result ≡ asked past c.args.target c.args.who c.args.xid.0 =
      c.asked-op.ensures.asked ∙ ap (λ (r : Option Request). option_map (λ q. q.op) r)
      (ledger.requests c.args.target c.args.who c.args.xid.0) in
      let goes : is_gone whole c.args.who ≡ true = sym (gone c.args.who) ∙ sym c.has.ensures.gone ∙ c.if-not-has.false in
      reach_shown osts (is_gone whole) lost past c.args.self.now shown at c.args.who c.args.xid _ c.args.target txn seen said
      c.requires.other own stands
      (rw goes
      (subst (λ (o : Option Op). Shows osts c.perform_piece.new.machine
      (after_item osts (machine_of (is_gone whole) lost osts past) (piece_act c.args.who txn o))) asks
      (next osts _ c.args.who txn shown.machine (subst PieceWithin (sym asks)
      (asked_within past limited c.args.target c.args.who c.args.xid.0)))))
      refl)
      c.perform_piece.ensures.next;
}
