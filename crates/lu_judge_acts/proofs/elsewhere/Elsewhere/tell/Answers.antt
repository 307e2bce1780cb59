use Rattle.std.proofs.Common.{◌≡◌, ℕ, Option, Some, None, sym, ap, ◌∙◌}
use Rattle.std.specs.Option.{option_map}
use Rattle.lu_base.specs.declared.ids.Who.{Who}
use Rattle.lu_base.specs.declared.ids.Xid.{Xid}
use Rattle.lu_spec_laws.specs.Words.Lives.{who_is, is_by}
use Rattle.lu_spec_laws.specs.Words.Calls.{heard_in}
use Rattle.lu_spec_laws.specs.Laws.Acts.{is_number}
use Rattle.lu_judge_acts.proofs.Telling.{here_kept, unheard_kept, told_put}
use Rattle.lu_judge_acts.proofs.elsewhere.Elsewhere.tell.Goals as goal

pub returns-then-same_turn : goal.returns-then-same_turn
returns-then-same_turn c = record {
  shows = λ past ordered follows ledger shown slot answer w x.
      here_kept (is_by w past c.args.at.node) (is_number x (heard_in past c.args.at)) _ _ c.args.turn c.args.at
      (sym c.same_turn.ensures ∙ c.if-same_turn.true) (shown w x);
}

pub returns-in_ok-insert-in-Some : goal.returns-in_ok-insert-in-Some
returns-in_ok-insert-in-Some c = record {
  shows = λ past ordered follows ledger shown slot answer w x.
      let own : c.who-who.result ≡ who_is c.args.client past = c.who-who.ensures.who
      ∙ ap (λ (n : ℕ). let w : Who = record { client = c.args.client; life = n } in w) (ledger.lives c.args.client) in
      let heard : Some c.in-Some.xid.0 ≡ heard_in past c.args.at = ap (λ (o : Option Xid). option_map (λ x. x.0) o) (sym c.in-Some.is)
      ∙ c.heard.ensures.heard past ledger.present ordered follows in
      told_put c.args.client c.in-Some.xid.0 x c.who-who.result w past c.args.at c.args.turn (heard_in past c.args.at) _ _ _ c.requires.own
      own (sym c.same_turn.ensures ∙ c.if-same_turn.false) heard
      (c.in_ok-insert-in-Some.ensures.updates.0 ((w.client, w.life), x)) (shown w x);
}

pub returns-in-None : goal.returns-in-None
returns-in-None c = record {
  shows = λ past ordered follows ledger shown slot answer w x.
      let heard : heard_in past c.args.at ≡ None = sym (c.heard.ensures.heard past ledger.present ordered follows)
      ∙ ap (λ (o : Option Xid). option_map (λ x. x.0) o) c.in-None.is in
      unheard_kept _ _ _ x (heard_in past c.args.at) heard (shown w x);
}
