-- Its lines are written, the first with the number of the message that came, and its messages sent: the wire shows the run with that turn.
use Rattle.std.proofs.Common.{◌+◌, rules}
use Rattle.lu_proof_run.specs.Numbering.{with_taken}
use Rattle.lu_run_wire.specs.Wires.{WireState}
use Rattle.lu_run_wire.proofs.Turns.{Adds, taken_added}
use Rattle.lu_run_wire.proofs.wires.Wire.add_taken.Goals as goal

pub returns : goal.returns
returns c =
    let old = c.args.self.now in
    let new : WireState = record {
      links = c.self.inside.links;
      entries = c.self.inside.entries;
      turns = c.self.inside.turns + 1;
      messages =
          c.self.inside.messages;
    } in
    let at = c.args.at in
    let step = c.args.step in
    let number = c.args.number in
    let adds : Adds old new at (with_taken number step.entries) step.sends =
    record { entries = search rules; links = search rules; turns = search rules; messages = search rules } in
    record { shows = taken_added old new at step number adds }
