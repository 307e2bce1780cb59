use Rattle.std.proofs.Common.{refl, ap}
use Rattle.std.specs.Prelude.{Err}
use Rattle.lu_run_nodes.specs.declared.faults.TurnFault.{TurnFault}
use Rattle.lu_core.specs.States.{PlayerState}
use Rattle.lu_core.proofs.Arrivals.{take_made, take_later, take_failed, take_broken, take_unforeseen}
use Rattle.lu_core.proofs.players.Player.take.Goals as goal

pub returns-then-not-says_fail-clause-takes : goal.returns-then-not-says_fail-clause-takes
returns-then-not-says_fail-clause-takes g c =
    let p = c.args.self.now in
    let parts : PlayerState = record { nodes = c.self.inside.nodes; wire = c.self.inside.wire } in
    let t = c.target_of-target.result.0 in
    take_broken parts p c.self.view_is c.args.number c.in-Some.sent.now c.next_stamp.result c.requires.up c.requires.room
    c.in-Some.ensures.sent c.next_stamp.ensures.stamp
    c.hand_over.new.self c.in-Err-Disk.step t (c.in-Err-Disk.ensures.failed c.in-Err-Disk.step
    (ap (λ (f : TurnFault). Err f) c.in-Err-Disk.field-0-is) t c.target_of-target.ensures.target)

pub returns-in_ok-add_taken-in-Ok-clause-takes : goal.returns-in_ok-add_taken-in-Ok-clause-takes
returns-in_ok-add_taken-in-Ok-clause-takes g c =
    let p = c.args.self.now in
    let parts : PlayerState = record { nodes = c.self.inside.nodes; wire = c.self.inside.wire } in
    take_made parts p c.self.view_is c.args.number c.in-Some.sent.now c.next_stamp.result c.requires.up c.requires.room
    c.in-Some.ensures.sent c.next_stamp.ensures.stamp
    c.hand_over.new.self c.in-Ok.step c.spend.new.self c.add_taken.new.self c.spend.ensures.spent c.in_ok-add_taken-in-Ok.ensures.shows
    c.in-Ok.ensures.made

pub returns-in_ok-add_taken-in-Ok-clause-later : goal.returns-in_ok-add_taken-in-Ok-clause-later
returns-in_ok-add_taken-in-Ok-clause-later g c = λ came.
    let p = c.args.self.now in
    let parts : PlayerState = record { nodes = c.self.inside.nodes; wire = c.self.inside.wire } in
    take_later parts p c.self.view_is c.args.number c.in-Some.sent.now c.next_stamp.result c.requires.up c.requires.room
    c.in-Some.ensures.sent c.next_stamp.ensures.stamp
    c.hand_over.new.self c.in-Ok.step c.spend.new.self c.add_taken.new.self c.spend.ensures.spent c.in_ok-add_taken-in-Ok.ensures.shows
    c.in-Ok.ensures.made c.requires.playing

pub returns-in_ok-add_taken-in-Err-Disk-clause-takes : goal.returns-in_ok-add_taken-in-Err-Disk-clause-takes
returns-in_ok-add_taken-in-Err-Disk-clause-takes g c =
    let p = c.args.self.now in
    let parts : PlayerState = record { nodes = c.self.inside.nodes; wire = c.self.inside.wire } in
    let t = c.target_of-target.result.0 in
    take_failed parts p c.self.view_is c.args.number c.in-Some.sent.now c.next_stamp.result c.requires.up c.requires.room
    c.in-Some.ensures.sent c.next_stamp.ensures.stamp
    c.hand_over.new.self c.in-Err-Disk.step c.spend-in-Err-Disk.new.self c.add_taken-in-Err-Disk.new.self c.spend-in-Err-Disk.ensures.spent
    c.in_ok-add_taken-in-Err-Disk.ensures.shows
    t c.target_of-target.ensures.target (c.in-Err-Disk.ensures.failed c.in-Err-Disk.step
    (ap (λ (f : TurnFault). Err f) c.in-Err-Disk.field-0-is) t c.target_of-target.ensures.target) (c.if-not-says_fail.ensures.told refl)

pub returns-in-Err-Unforeseen-clause-unforeseen : goal.returns-in-Err-Unforeseen-clause-unforeseen
returns-in-Err-Unforeseen-clause-unforeseen g c = λ is.
    let p = c.args.self.now in
    let parts : PlayerState = record { nodes = c.self.inside.nodes; wire = c.self.inside.wire } in
    take_unforeseen parts p c.self.view_is c.args.number c.in-Some.sent.now c.next_stamp.result c.requires.up c.requires.room
    c.in-Some.ensures.sent c.next_stamp.ensures.stamp
    (c.in-Err-Unforeseen.ensures.foreseen (ap (λ (f : TurnFault). Err f) c.in-Err-Unforeseen.field-0-is))
