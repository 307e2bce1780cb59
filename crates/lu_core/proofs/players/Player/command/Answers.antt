use Rattle.std.proofs.Common.{◌≡◌, ◌+◌, ◌∙◌, Err, sym, subst, ap}
use Rattle.lu_base.specs.declared.ids.At.{At}
use Rattle.lu_base.specs.declared.ids.Node.TheVariants.{Target}
use Rattle.lu_run_nodes.specs.Turns.{turn_at, event_of}
use Rattle.lu_core.specs.declared.players.Progress.TheVariants as progress
use Rattle.lu_core.specs.States.{PlayerState}
use Rattle.lu_core.specs.Progress.{IsNext, Performs, IsLineUnforeseen}
use Rattle.lu_core.proofs.Lines.{stops, turned, line_failed, line_broke, command_turns, command_one, command_unforeseen}
use Rattle.lu_core.proofs.players.Player.command.Goals as goal

pub returns-then-is_full-clause-performs : goal.returns-then-is_full-clause-performs
returns-then-is_full-clause-performs g c =
    let parts : PlayerState = record { nodes = c.self.inside.nodes; wire = c.self.inside.wire } in
    λ line is.
    subst (λ (p : PlayerState). Performs p line p progress.Full) c.self.view_is
    (stops parts line (Target c.args.target) (event_of c.args.command) (command_turns parts c.args.target c.args.command line is)
    (sym c.is_full.ensures.full ∙ c.if-is_full.true))

pub command-requires-clause-one : goal.command-requires-clause-one
command-requires-clause-one g c =
    let parts : PlayerState = record { nodes = c.self.inside.nodes; wire = c.self.inside.wire } in
    let due = c.requires.due in
    command_one parts c.args.target c.args.command due.0 due.1 (subst (λ (p : PlayerState). IsNext p due.0) (sym c.self.view_is) due.2)

pub returns-then-not-says_fail-clause-performs : goal.returns-then-not-says_fail-clause-performs
returns-then-not-says_fail-clause-performs g c =
    let parts : PlayerState = record { nodes = c.self.inside.nodes; wire = c.self.inside.wire } in
    λ line is.
    let q : PlayerState = record { nodes = c.command.new.self; wire = c.self.inside.wire } in
    subst (λ (p : PlayerState). Performs p line q (progress.Broken (record { 0 = c.args.target }))) c.self.view_is
    (line_broke parts q line c.args.target (event_of c.args.command) c.next_turn-at.result.stamp c.in-Err-Disk.step
    (c.command.ensures.failed c.in-Err-Disk.step (c.in-Err-Disk.is ∙ ap Err c.in-Err-Disk.field-0-is)))

pub returns-in_ok-add-in-Ok-clause-performs : goal.returns-in_ok-add-in-Ok-clause-performs
returns-in_ok-add-in-Ok-clause-performs g c =
    let parts : PlayerState = record { nodes = c.self.inside.nodes; wire = c.self.inside.wire } in
    let q : PlayerState = record { nodes = c.command.new.self; wire = c.add.new.self } in
    let here = c.next_turn-at.result in
    λ line is.
    subst (λ (p : PlayerState). Performs p line q progress.Made) c.self.view_is
    (turned parts q line (Target c.args.target) (event_of c.args.command) here c.in-Ok.step
    (command_turns parts c.args.target c.args.command line is)
    (sym c.is_full.ensures.full ∙ c.if-is_full.false)
    (subst (λ (p : PlayerState). here ≡ turn_at (record { 0 = p.wire.turns + 1 }) (Target c.args.target)) (sym c.self.view_is)
    c.next_turn-at.ensures.at)
    c.in-Ok.ensures.made c.in_ok-add-in-Ok.ensures.shows)

pub returns-in_ok-add-in-Err-Disk-clause-performs : goal.returns-in_ok-add-in-Err-Disk-clause-performs
returns-in_ok-add-in-Err-Disk-clause-performs g c =
    let parts : PlayerState = record { nodes = c.self.inside.nodes; wire = c.self.inside.wire } in
    let q : PlayerState = record { nodes = c.command.new.self; wire = c.add-in-Err-Disk.new.self } in
    let here = c.next_turn-at.result in
    λ line is.
    subst (λ (p : PlayerState). Performs p line q (progress.Failed (record { 0 = c.args.target }))) c.self.view_is
    (line_failed parts q line c.args.target (event_of c.args.command) here c.in-Err-Disk.step
    (command_turns parts c.args.target c.args.command line is)
    (sym c.is_full.ensures.full ∙ c.if-is_full.false)
    (subst (λ (p : PlayerState). here ≡ turn_at (record { 0 = p.wire.turns + 1 }) (Target c.args.target)) (sym c.self.view_is)
    c.next_turn-at.ensures.at)
    (c.command.ensures.failed c.in-Err-Disk.step (c.in-Err-Disk.is ∙ ap Err c.in-Err-Disk.field-0-is)) c.in_ok-add-in-Err-Disk.ensures.shows
    (c.says_fail.ensures.told c.if-not-says_fail.false))

pub returns-in-Err-Unforeseen-clause-unforeseen : goal.returns-in-Err-Unforeseen-clause-unforeseen
returns-in-Err-Unforeseen-clause-unforeseen g c =
    let parts : PlayerState = record { nodes = c.self.inside.nodes; wire = c.self.inside.wire } in
    let here = c.next_turn-at.result in
    λ same line is.
    subst (λ (p : PlayerState). IsLineUnforeseen p line) c.self.view_is
    (command_unforeseen parts c.args.target c.args.command line here.stamp is (sym c.is_full.ensures.full ∙ c.if-is_full.false)
    (ap (λ (a : At). a.stamp) (subst (λ (p : PlayerState). here ≡ turn_at (record { 0 = p.wire.turns + 1 }) (Target c.args.target))
    (sym c.self.view_is) c.next_turn-at.ensures.at))
    (c.command.ensures.foreseen (c.in-Err-Unforeseen.is ∙ ap Err c.in-Err-Unforeseen.field-0-is)))
