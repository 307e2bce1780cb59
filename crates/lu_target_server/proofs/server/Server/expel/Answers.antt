-- The lives leave, and what waited goes on.
use Rattle.std.proofs.Common.{◌≡◌, ◌≢◌, [], ◌∷◌, List, sym, ap, subst, ◌∙◌, rules, true}
use Rattle.std.proofs.lemmas.Result.{on_ok_weaker}
use Rattle.lu_base.specs.declared.ids.Who.{Who}
use Rattle.lu_base.specs.declared.locks.Cause.TheVariants.{Expired}
use Rattle.lu_spec_target.specs.Leaving.{all_go, expels}
use Rattle.lu_spec_target.specs.Stored.{batch_of}
use Rattle.lu_spec_target.specs.States.{Target, turn}
use Rattle.lu_target_store.specs.Stores.{MayMove}
use Rattle.lu_target_server.specs.Middles.{MakesRest, KeepsFirst}
use Rattle.lu_target_server.specs.Releases.{GoesOn, moves, AreMoved}
use Rattle.lu_target_server.specs.Servers.{Shows}
use Rattle.lu_target_server.proofs.Expiring.{may_expel, expels_then, expels_keep}
use Rattle.lu_target_server.proofs.MovedLives.{keeps_one}
use Rattle.lu_base.specs.declared.ids.At.{At}
use Rattle.lu_trace.specs.Turns.{Making}
use Rattle.lu_spec_target.specs.Rows.{overruns}
use Rattle.lu_target_server.proofs.Expiring.{over_expels}
use Rattle.lu_target_server.proofs.server.Server.expel.Goals as goal

pub move_lives-requires-clause-may : goal.move_lives-requires-clause-may
move_lives-requires-clause-may g c =
    let v = c.requires.stands.0 in
    let shows = c.requires.stands.1 in
    subst (λ (lives : List Who). MayMove lives [] c.args.self.now.store) (sym (c.as_slice.ensures.same ∙ c.requires.due v shows))
    (may_expel c.args.self.now v shows)

pub returns-in_err-steps-clause-batches : goal.returns-in_err-steps-clause-batches
returns-in_err-steps-clause-batches g c =
    let some : c.args.gone.now ≢ [] = search rules in
    λ v shows.
    expels_keep c.args.self.now c.move_lives.new.self v c.args.turn.now.at c.args.gone.now some
    (subst (λ (lives : List Who). KeepsFirst (batch_of v.log lives [] ∷ []) c.args.self.now.store c.move_lives.new.self.store)
    c.as_slice.ensures.same (c.in_err-steps.ensures.batches v shows))

pub returns-clause-makes : goal.returns-clause-makes
returns-clause-makes g c =
    let some : c.args.gone.now ≢ [] = search rules in
    let s = c.args.self.now in
    let m = c.move_lives.new.self in
    let now = c.all_go.new.self in
    let made : ((u : Target) → GoesOn c.in_ok-steps.steps m u → MakesRest (all_go c.move_lives.new.turn.at u) u now c.move_lives.new.turn
    c.all_go.new.turn) → (v : Target) → Shows s v
    → MakesRest (expels c.args.turn.now.at c.args.gone.now v) v now c.args.turn.now c.all_go.new.turn =
    (λ went v shows.
    let moved : AreMoved Expired c.args.gone.now [] c.in_ok-steps.steps v s m c.args.turn.now c.move_lives.new.turn =
    subst (λ (lives : List Who). AreMoved Expired lives [] c.in_ok-steps.steps v s m c.args.turn.now c.move_lives.new.turn)
    c.as_slice.ensures.same (c.in_ok-steps.ensures.moved v shows) in
    let u : Target = turn v (moves c.args.turn.now.at Expired c.args.gone.now [] v) in
    expels_then s m now v c.args.gone.now c.in_ok-steps.steps c.args.turn.now c.move_lives.new.turn c.all_go.new.turn some moved
    (went u moved.goes)) in
    on_ok_weaker c.all_go.result (λ went. record {
      gives = λ v shows. (made went v shows).gives;
      shows =
          λ v shows. (made went v shows).shows;
    }) c.all_go.ensures.went

pub returns-clause-batches : goal.returns-clause-batches
returns-clause-batches g c =
    let some : c.args.gone.now ≢ [] = search rules in
    λ v shows.
    let moved : AreMoved Expired c.args.gone.now [] c.in_ok-steps.steps v c.args.self.now c.move_lives.new.self c.args.turn.now
    c.move_lives.new.turn =
    subst (λ (lives : List Who). AreMoved Expired lives [] c.in_ok-steps.steps v c.args.self.now c.move_lives.new.self c.args.turn.now
    c.move_lives.new.turn) c.as_slice.ensures.same
    (c.in_ok-steps.ensures.moved v shows) in
    expels_keep c.args.self.now c.all_go.new.self v c.args.turn.now.at c.args.gone.now some
    (keeps_one c.args.self.now.store c.all_go.new.self.store (batch_of v.log c.args.gone.now []) []
    (c.all_go.ensures.disk.batches ∙ moved.batches))

pub returns-clause-numbers : goal.returns-clause-numbers
returns-clause-numbers g c =
    let some : c.args.gone.now ≢ [] = search rules in
    λ is v shows.
    let moved : AreMoved Expired c.args.gone.now [] c.in_ok-steps.steps v c.args.self.now c.move_lives.new.self c.args.turn.now
    c.move_lives.new.turn =
    subst (λ (lives : List Who). AreMoved Expired lives [] c.in_ok-steps.steps v c.args.self.now c.move_lives.new.self c.args.turn.now
    c.move_lives.new.turn) c.as_slice.ensures.same
    (c.in_ok-steps.ensures.moved v shows) in
    let u : Target = turn v (moves c.args.turn.now.at Expired c.args.gone.now [] v) in
    over_expels v c.args.turn.now.at c.args.gone.now some
    (subst (λ (it : At). overruns u (all_go it u) ≡ true) (ap (λ (making : Making). making.at) moved.gives)
    (c.all_go.ensures.numbers is u moved.goes))
