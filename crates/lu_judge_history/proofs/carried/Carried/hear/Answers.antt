-- The first layout of a file counts.
use Rattle.std.proofs.Common.{◌≡◌, Some, None, List, refl, sym, ap, ◌∙◌}
use Rattle.std.specs.Option.{option_map}
use Rattle.std.proofs.lemmas.Result.{on_ok_weaker}
use Rattle.lu_spec_laws.specs.Words.Lives.{who_is}
use Rattle.lu_spec_laws.specs.Words.Pieces.{opened_layout}
use Rattle.lu_spec_laws.specs.Words.Sends.{Sending, first_fit, as_reply, reply_in}
use Rattle.lu_judge_history.proofs.Steps.{opened_none, hear_shown, hears_nothing, hears_layout}
use Rattle.lu_judge_history.proofs.Telling.{who_at}
use Rattle.lu_judge_history.proofs.carried.Carried.hear.Goals as goal

pub returns-in_default : goal.returns-in_default
returns-in_default c = record {
  shows = λ past ordered follows ledger shown.
      let whose : c.who-who.result ≡ who_is c.args.client past = c.who-who.ensures.who
      ∙ who_at c.args.ledger.now.lives past ledger.lives c.args.client in
      let found : None ≡ reply_in past c.args.at c.args.target.0 c.who-who.result c.args.xid.0 =
      sym (ap (option_map (λ r. r.now)) c.in_default.is) ∙ c.reply_in.ensures
      ∙ ap (λ (ss : List Sending). first_fit (λ s. as_reply c.args.target.0 c.who-who.result c.args.xid.0 s.from s.message) ss)
      (c.taken.ensures.taken past ledger.present ordered follows) in
      hear_shown c.args.self.now past shown c.args.at c.args.client c.who-who.result c.requires.own whose c.args.self.now c.args.target
      c.args.xid None found refl refl refl
      (hears_nothing c.args.self.now past shown c.args.at c.args.client c.who-who.result c.requires.own whose None (λ f. refl));
}

pub returns-in-OpenFile : goal.returns-in-OpenFile
returns-in-OpenFile c = record {
  shows = on_ok_weaker c.hear.result
      (λ hears past ordered follows ledger shown.
      let whose : c.who-who.result ≡ who_is c.args.client past = c.who-who.ensures.who
      ∙ who_at c.args.ledger.now.lives past ledger.lives c.args.client in
      let found : Some c.in-Some.reply.now ≡ reply_in past c.args.at c.args.target.0 c.who-who.result c.args.xid.0 =
      sym (ap (option_map (λ r. r.now)) c.in-Some.is) ∙ c.reply_in.ensures
      ∙ ap (λ (ss : List Sending). first_fit (λ s. as_reply c.args.target.0 c.who-who.result c.args.xid.0 s.from s.message) ss)
      (c.taken.ensures.taken past ledger.present ordered follows) in
      hear_shown c.args.self.now past shown c.args.at c.args.client c.who-who.result c.requires.own whose _ c.args.target c.args.xid
      (Some c.in-Some.reply.now) found refl refl refl
      (λ w f.
      hears_layout c.args.self.now past shown c.args.at c.args.client c.who-who.result c.requires.own whose c.in-Some.reply.now
      c.in-OpenFile.fid c.in-OpenFile.layout w f _ _
      (ap (opened_layout f) c.in-OpenFile.is) (hears w f)))
      c.hear.ensures.heard;
}

pub returns-in_default-answer : goal.returns-in_default-answer
returns-in_default-answer c = record {
  shows = λ past ordered follows ledger shown.
      let whose : c.who-who.result ≡ who_is c.args.client past = c.who-who.ensures.who
      ∙ who_at c.args.ledger.now.lives past ledger.lives c.args.client in
      let found : Some c.in-Some.reply.now ≡ reply_in past c.args.at c.args.target.0 c.who-who.result c.args.xid.0 =
      sym (ap (option_map (λ r. r.now)) c.in-Some.is) ∙ c.reply_in.ensures
      ∙ ap (λ (ss : List Sending). first_fit (λ s. as_reply c.args.target.0 c.who-who.result c.args.xid.0 s.from s.message) ss)
      (c.taken.ensures.taken past ledger.present ordered follows) in
      hear_shown c.args.self.now past shown c.args.at c.args.client c.who-who.result c.requires.own whose c.args.self.now c.args.target
      c.args.xid (Some c.in-Some.reply.now) found refl refl refl
      (hears_nothing c.args.self.now past shown c.args.at c.args.client c.who-who.result c.requires.own whose (Some c.in-Some.reply.now)
      (λ f. opened_none f c.in-Some.reply.now.answer c.in_default-answer.not-OpenFile));
}
