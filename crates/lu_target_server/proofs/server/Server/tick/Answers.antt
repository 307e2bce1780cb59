-- The tick is counted, and then what comes of it.
use Rattle.std.proofs.Common.{◌≡◌, [], ◌∷◌, ap, subst, inl, inr, rules, ◌∙◌}
use Rattle.std.proofs.lemmas.Result.{on_ok_weaker}
use Rattle.lu_base.specs.declared.ids.At.{At}
use Rattle.lu_trace.specs.Turns.{Making}
use Rattle.lu_spec_entries.specs.Words.{Tick}
use Rattle.lu_spec_target.specs.Leaving.{ticked}
use Rattle.lu_target_server.specs.Servers.{Makes}
use Rattle.lu_target_server.proofs.Composing.{makes_then}
use Rattle.lu_target_server.specs.Numbers.{Overruns}
use Rattle.lu_target_server.proofs.Overrunning.{over_then}
use Rattle.lu_target_server.proofs.server.Server.tick.Goals as goal

pub returns-clause-makes : goal.returns-clause-makes
returns-clause-makes g c =
    let s = c.args.self.now in
    let mid = c.count_tick.new.self in
    let now = c.expire_and_remind.new.self in
    let at : c.count_tick.new.turn.at ≡ c.args.turn.now.at = ap (λ (making : Making). making.at) c.in_ok-count_tick.ensures.given in
    on_ok_weaker c.expire_and_remind.result
    (λ makes. makes_then (λ v. Tick ∷ []) (ticked c.args.turn.now.at) s mid now c.args.turn.now c.count_tick.new.turn
    c.expire_and_remind.new.turn
    (record { gives = λ v shows. c.in_ok-count_tick.ensures.given; shows = c.in_ok-count_tick.ensures.shows })
    (subst (λ (it : At). Makes (ticked it) mid now c.count_tick.new.turn c.expire_and_remind.new.turn) at makes))
    c.expire_and_remind.ensures.makes

pub returns-in_err-count_tick-clause-numbers : goal.returns-in_err-count_tick-clause-numbers
returns-in_err-count_tick-clause-numbers g c = λ is. inl (λ v shows. shows.locks.ticks ∙ c.count_tick.ensures.numbers (search rules))

pub returns-clause-numbers : goal.returns-clause-numbers
returns-clause-numbers g c =
    λ is.
    let s = c.args.self.now in
    let mid = c.count_tick.new.self in
    let at : c.count_tick.new.turn.at ≡ c.args.turn.now.at = ap (λ (making : Making). making.at) c.in_ok-count_tick.ensures.given in
    inr (over_then (λ v. Tick ∷ []) (ticked c.args.turn.now.at) s mid c.args.turn.now c.count_tick.new.turn
    (record { gives = λ v shows. c.in_ok-count_tick.ensures.given; shows = c.in_ok-count_tick.ensures.shows })
    (subst (λ (it : At). Overruns (ticked it) mid) at (c.expire_and_remind.ensures.numbers is)))
