use Rattle.std.proofs.Common.{◌≡◌, true, false, refl, sym, ◌∙◌, subst}
use Rattle.std.specs.Prelude.{List}
use Rattle.lu_base.specs.declared.ids.Who.{Who}
use Rattle.lu_spec_laws.specs.Words.Closes.{kept_at, cause_at}
use Rattle.lu_judge_pass.specs.Places.{InOrder}
use Rattle.lu_judge_recovery.specs.Closings.{KnowsClose}
use Rattle.lu_judge_recovery.specs.Rest.{ShowsRest}
use Rattle.lu_judge_recovery.specs.Turns.{turn_at}
use Rattle.lu_judge_recovery.proofs.Judging.{follows_unkept, follows_unevicted, follows_restored}
use Rattle.lu_judge_recovery.proofs.closes.follows.Goals as goal

pub returns-then-not-keeps_all : goal.returns-then-not-keeps_all
returns-then-not-keeps_all c = record {
  follows = λ clients past ledger windows order lives.
      let at = turn_at c.args.turn.stamp c.args.turn.target in
      let rest : ShowsRest c.in_ok-rest.rest at c.args.later.now =
      subst (λ a. InOrder a c.args.later.now → ShowsRest c.in_ok-rest.rest a c.args.later.now) c.at.ensures c.in_ok-rest.ensures.shows order
      in
      follows_unkept clients c.args.turn.target past at c.args.later.now _ _
      (c.as_slice.ensures.same ∙ c.in_ok-kept.ensures.kept past ledger windows) (c.keeps_all.ensures.keeps at c.args.later.now rest)
      c.if-not-keeps_all.true;
}

pub returns-then-not-evicts_all : goal.returns-then-not-evicts_all
returns-then-not-evicts_all c = record {
  follows = λ clients past ledger windows order lives.
      let at = turn_at c.args.turn.stamp c.args.turn.target in
      let rest : ShowsRest c.in_ok-rest.rest at c.args.later.now =
      subst (λ a. InOrder a c.args.later.now → ShowsRest c.in_ok-rest.rest a c.args.later.now) c.at.ensures c.in_ok-rest.ensures.shows order
      in
      let knows : KnowsClose c.in_ok-close.close c.args.turn.target past = c.in_ok-close.ensures.knows past ledger windows in
      follows_unevicted clients c.args.turn.target past at c.args.later.now _ _ lives
      (c.evicts_all.ensures.evicts at c.args.later.now c.args.turn.target past c.args.lives.now rest knows
      (c.in_ok-causes.ensures.causes c.args.turn.target past knows)) c.if-not-evicts_all.true;
}

pub returns : goal.returns
returns c = record {
  follows = λ clients past ledger windows order lives.
      let at = turn_at c.args.turn.stamp c.args.turn.target in
      let rest : ShowsRest c.in_ok-rest.rest at c.args.later.now =
      subst (λ a. InOrder a c.args.later.now → ShowsRest c.in_ok-rest.rest a c.args.later.now) c.at.ensures c.in_ok-rest.ensures.shows order
      in
      let knows : KnowsClose c.in_ok-close.close c.args.turn.target past = c.in_ok-close.ensures.knows past ledger windows in
      let causes = c.in_ok-causes.ensures.causes c.args.turn.target past knows in
      follows_restored clients c.args.turn.target past at c.args.later.now _ _ _ _ _
      (c.as_slice.ensures.same ∙ c.in_ok-kept.ensures.kept past ledger windows) lives
      (c.keeps_all.ensures.keeps at c.args.later.now rest) c.if-not-keeps_all.false
      (c.evicts_all.ensures.evicts at c.args.later.now c.args.turn.target past c.args.lives.now rest knows causes) c.if-not-evicts_all.false
      (c.restores_all.ensures.restores at c.args.later.now c.args.turn.target past c.args.lives.now rest knows causes);
}
