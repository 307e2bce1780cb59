-- The wish of a life with a slot is its word; that of a newer life is kept in mind; others are passed over.
use Rattle.std.proofs.Common.{◌≡◌, true, false, [], refl, sym, ◌∙◌}
use Rattle.std.proofs.lemmas.Result.{IfOk-weaker}
use Rattle.lu_spec_target.specs.Lives.{is_life}
use Rattle.lu_spec_target.specs.Recovery.{row_wish, row_word, settles}
use Rattle.lu_spec_target.specs.States.{turn}
use Rattle.lu_target_refines.specs.Windows.{wishes}
use Rattle.lu_target_server.proofs.Backs.{life_shown, own_begins, wish_still}
use Rattle.lu_target_server.specs.Recovering.{Gathers, Recovers}
use Rattle.lu_target_server.proofs.Passings.{passes_then, stops_then, batches_then, no_batches}
use Rattle.lu_target_server.proofs.Takings.{wish_begins}
use Rattle.lu_target_server.proofs.server.Server.wish.Goals as goal

pub word-requires-clause-life : goal.word-requires-clause-life
word-requires-clause-life g c =
    let v = c.requires.awaits.0 in
    let it = c.requires.awaits.1 in
    life_shown c.args.self.now c.args.recovery v c.args.who it.gathers ∙ sym (c.serves.ensures.gathers c.args.recovery v it.gathers)
    ∙ c.if-serves.true

pub returns-then-serves-clause-passes : goal.returns-then-serves-clause-passes
returns-then-serves-clause-passes g c =
    let v = c.requires.awaits.0 in
    let it = c.requires.awaits.1 in
    let own : is_life c.args.who c.args.recovery.window.lives ≡ true =
    life_shown c.args.self.now c.args.recovery v c.args.who it.gathers ∙ sym (c.serves.ensures.gathers c.args.recovery v it.gathers)
    ∙ c.if-serves.true in
    let begins = own_begins c.args.self.now c.args.recovery c.args.who c.new-seen.result c.args.turn.now c.new-seen.ensures.empty own in
    IfOk-weaker c.word.result _ _ (λ left passes. passes_then _ _ _ _ _ _ _ _ begins c.word.new.self left passes) c.word.ensures.passes

pub returns-then-serves-clause-failed : goal.returns-then-serves-clause-failed
returns-then-serves-clause-failed g c = λ e.
    let v = c.requires.awaits.0 in
    let it = c.requires.awaits.1 in
    let own : is_life c.args.who c.args.recovery.window.lives ≡ true =
    life_shown c.args.self.now c.args.recovery v c.args.who it.gathers ∙ sym (c.serves.ensures.gathers c.args.recovery v it.gathers)
    ∙ c.if-serves.true in
    let begins = own_begins c.args.self.now c.args.recovery c.args.who c.new-seen.result c.args.turn.now c.new-seen.ensures.empty own in
    let failed = c.word.ensures.failed e in
    (failed.0, stops_then _ _ _ _ _ _ _ _ begins failed.1)

pub returns-then-serves-clause-batches : goal.returns-then-serves-clause-batches
returns-then-serves-clause-batches g c =
    let v = c.requires.awaits.0 in
    let it = c.requires.awaits.1 in
    let own : is_life c.args.who c.args.recovery.window.lives ≡ true =
    life_shown c.args.self.now c.args.recovery v c.args.who it.gathers ∙ sym (c.serves.ensures.gathers c.args.recovery v it.gathers)
    ∙ c.if-serves.true in
    let begins = own_begins c.args.self.now c.args.recovery c.args.who c.new-seen.result c.args.turn.now c.new-seen.ensures.empty own in
    batches_then (Recovers c.args.self.now c.args.recovery) (Recovers c.args.self.now c.args.recovery) (λ v. [])
    (λ v. row_word v c.args.turn.now.at (record { who = c.args.who; replays = 0; locks = 0; seen = c.new-seen.result }))
    (λ v. row_wish v c.args.turn.now.at c.args.who) c.args.turn.now c.args.turn.now
    c.word.new.turn begins c.args.self.now.store.batches c.word.new.self.store.batches c.word.ensures.batches

pub joined-requires : goal.joined-requires
joined-requires g c = record { unclosed = c.requires.awaits.1.gathers.unclosed }

pub returns-in_err-joined-clause-batches : goal.returns-in_err-joined-clause-batches
returns-in_err-joined-clause-batches g c = no_batches (Recovers c.args.self.now c.args.recovery)
    (λ v. row_wish v c.args.turn.now.at c.args.who) c.args.self.now.store.batches c.args.self.now.store.batches refl

pub settle-requires : goal.settle-requires
settle-requires g c =
    let begins = wish_begins c.args.self.now c.args.recovery c.joined.new.self c.args.who c.args.turn.now
    (sym c.in_ok-joined.ensures.older ∙ c.if-branch.true) (c.in_ok-joined.ensures.taken c.if-branch.true) in
    let v = c.requires.awaits.0 in
    record { gathers = (turn v (wishes v c.args.who), begins.stands v c.requires.awaits.1) }

pub returns-then-branch-clause-passes : goal.returns-then-branch-clause-passes
returns-then-branch-clause-passes g c =
    let begins = wish_begins c.args.self.now c.args.recovery c.joined.new.self c.args.who c.args.turn.now
    (sym c.in_ok-joined.ensures.older ∙ c.if-branch.true) (c.in_ok-joined.ensures.taken c.if-branch.true) in
    IfOk-weaker c.settle.result _ _ (λ left passes. passes_then _ _ _ _ _ _ _ _ begins c.settle.new.self left passes)
    c.settle.ensures.passes

pub returns-then-branch-clause-failed : goal.returns-then-branch-clause-failed
returns-then-branch-clause-failed g c = λ e.
    let begins = wish_begins c.args.self.now c.args.recovery c.joined.new.self c.args.who c.args.turn.now
    (sym c.in_ok-joined.ensures.older ∙ c.if-branch.true) (c.in_ok-joined.ensures.taken c.if-branch.true) in
    let failed = c.settle.ensures.failed e in
    (failed.0, stops_then _ _ _ _ _ _ _ _ begins failed.1)

pub returns-then-branch-clause-batches : goal.returns-then-branch-clause-batches
returns-then-branch-clause-batches g c =
    let begins = wish_begins c.args.self.now c.args.recovery c.joined.new.self c.args.who c.args.turn.now
    (sym c.in_ok-joined.ensures.older ∙ c.if-branch.true) (c.in_ok-joined.ensures.taken c.if-branch.true) in
    batches_then (Recovers c.args.self.now c.args.recovery) (Gathers c.args.self.now c.joined.new.self) (λ v. wishes v c.args.who)
    (settles c.args.turn.now.at) (λ v. row_wish v c.args.turn.now.at c.args.who)
    c.args.turn.now c.args.turn.now c.settle.new.turn begins c.args.self.now.store.batches c.settle.new.self.store.batches
    c.settle.ensures.batches

pub returns-clause-passes : goal.returns-clause-passes
returns-clause-passes g c =
    wish_still c.args.self.now c.args.recovery c.joined.new.self c.args.who c.args.turn.now
    (c.in_ok-joined.ensures.passed c.if-branch.false) (sym c.in_ok-joined.ensures.older ∙ c.if-branch.false)
    (λ v it. sym (c.serves.ensures.gathers c.args.recovery v it) ∙ c.if-serves.false)

pub returns-clause-batches : goal.returns-clause-batches
returns-clause-batches g c = no_batches (Recovers c.args.self.now c.args.recovery) (λ v. row_wish v c.args.turn.now.at c.args.who)
    c.args.self.now.store.batches c.args.self.now.store.batches refl
