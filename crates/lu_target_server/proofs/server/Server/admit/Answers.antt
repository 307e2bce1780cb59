-- The life takes the place of the older one of its client.
use Rattle.std.proofs.Common.{◌≡◌, [], ◌∷◌, refl, ◌∙◌, true, ap, subst}
use Rattle.std.proofs.lemmas.Result.{on_ok_weaker}
use Rattle.lu_base.specs.declared.locks.Cause.TheVariants.{Replaced}
use Rattle.lu_trace.specs.declared.entries.Entry.TheVariants as line
use Rattle.lu_spec_entries.specs.Words.{Joined}
use Rattle.lu_spec_target.specs.Leaving.{all_go, row_admits}
use Rattle.lu_spec_target.specs.Stored.{batch_of}
use Rattle.lu_spec_target.specs.States.{Target, turn}
use Rattle.lu_target_server.specs.Middles.{MakesRest}
use Rattle.lu_target_server.specs.Releases.{GoesOn, moves}
use Rattle.lu_target_server.specs.Servers.{Shows}
use Rattle.lu_target_server.proofs.Items.{on_err}
use Rattle.lu_target_server.proofs.Joining.{alone, may_join, admits_then}
use Rattle.lu_target_server.proofs.Middles.{noted, tells_rest}
use Rattle.lu_target_server.proofs.MovedLives.{keeps_one, keeps_first}
use Rattle.lu_base.specs.declared.ids.At.{At}
use Rattle.lu_trace.specs.Turns.{Making}
use Rattle.lu_spec_target.specs.Rows.{overruns}
use Rattle.lu_target_invariant.proofs.Spent.{overruns_later}
use Rattle.lu_spec_target.specs.Leaving.{admits}
use Rattle.lu_target_server.proofs.server.Server.admit.Goals as goal

pub move_lives-requires-clause-may : goal.move_lives-requires-clause-may
move_lives-requires-clause-may g c =
    may_join c.args.self.now c.requires.stands.0 c.args.old.now c.args.who c.requires.stands.1
    (c.requires.place c.requires.stands.0 c.requires.stands.1)

pub move_lives-requires-clause-alone : goal.move_lives-requires-clause-alone
move_lives-requires-clause-alone g c = λ v shows. alone c.args.self.now v c.args.old.now c.args.who shows (c.requires.place v shows)

pub returns-in_err-steps-clause-batches : goal.returns-in_err-steps-clause-batches
returns-in_err-steps-clause-batches g c =
    λ v shows. keeps_first c.args.self.now.store c.move_lives.new.self.store (batch_of v.log c.args.old.now (c.args.who ∷ [])) _
    (c.in_err-steps.ensures.batches v shows)

pub returns-in_err-note-clause-batches : goal.returns-in_err-note-clause-batches
returns-in_err-note-clause-batches g c =
    λ v shows. keeps_one c.args.self.now.store c.move_lives.new.self.store (batch_of v.log c.args.old.now (c.args.who ∷ [])) _
    (c.in_ok-steps.ensures.moved v shows).batches

pub returns-in_err-ready-clause-batches : goal.returns-in_err-ready-clause-batches
returns-in_err-ready-clause-batches g c =
    λ v shows. keeps_one c.args.self.now.store c.move_lives.new.self.store (batch_of v.log c.args.old.now (c.args.who ∷ [])) _
    (c.in_ok-steps.ensures.moved v shows).batches

pub returns-clause-batches : goal.returns-clause-batches
returns-clause-batches g c =
    λ v shows. keeps_one c.args.self.now.store c.all_go.new.self.store (batch_of v.log c.args.old.now (c.args.who ∷ [])) _
    (c.all_go.ensures.disk.batches ∙ (c.in_ok-steps.ensures.moved v shows).batches)

pub returns-clause-makes : goal.returns-clause-makes
returns-clause-makes g c =
    let s = c.args.self.now in
    let m = c.move_lives.new.self in
    let now = c.all_go.new.self in
    let joined = noted c.move_lives.new.turn c.note.new.self (Joined c.args.who) (line.Joined c.args.who) refl refl c.note.ensures.turn
    c.in_ok-note.ensures.added in
    let made : ((u : Target) → GoesOn c.in_ok-steps.steps m u → MakesRest (all_go c.ready.new.turn.at u) u now c.ready.new.turn
    c.all_go.new.turn) → (v : Target) → Shows s v
    → MakesRest (row_admits c.args.turn.now.at c.args.old.now c.args.who v) v now c.args.turn.now c.all_go.new.turn =
    (λ went v shows.
    let moved = c.in_ok-steps.ensures.moved v shows in
    let u : Target = turn v (moves c.args.turn.now.at Replaced c.args.old.now (c.args.who ∷ []) v) in
    admits_then s m now v c.args.old.now c.args.who c.in_ok-steps.steps c.args.turn.now c.move_lives.new.turn c.note.new.self
    c.ready.new.turn c.all_go.new.turn moved joined
    (c.in_ok-ready.ensures.said u (tells_rest m u moved.goes.rest)) (went u moved.goes)) in
    on_ok_weaker c.all_go.result (λ went. record {
      gives = λ v shows. (made went v shows).gives;
      shows =
          λ v shows. (made went v shows).shows;
    }) c.all_go.ensures.went

pub returns-clause-numbers : goal.returns-clause-numbers
returns-clause-numbers g c =
    λ is v shows.
    let at : At = c.args.turn.now.at in
    let m = c.move_lives.new.self in
    let joined = noted c.move_lives.new.turn c.note.new.self (Joined c.args.who) (line.Joined c.args.who) refl refl c.note.ensures.turn
    c.in_ok-note.ensures.added in
    let moved = c.in_ok-steps.ensures.moved v shows in
    let es = moves at Replaced c.args.old.now (c.args.who ∷ []) v in
    let u : Target = turn v es in
    let same : c.ready.new.turn.at ≡ at =
    ap (λ (making : Making). making.at) (c.in_ok-ready.ensures.said u (tells_rest m u moved.goes.rest))
    ∙ ap (λ (making : Making). making.at) joined ∙ ap (λ (making : Making). making.at) moved.gives in
    overruns_later v es (admits at c.args.who u) (subst (λ (it : At). overruns u (all_go it u) ≡ true) same
    (c.all_go.ensures.numbers is u moved.goes))
