use Rattle.std.proofs.Common.{ap, ◌∙◌}
use Rattle.lu_base.specs.declared.ids.Node.TheVariants.{Target}
use Rattle.lu_spec_client.specs.Rows.{Comes, row}
use Rattle.lu_trace.specs.declared.entries.Entry.TheVariants as line
use Rattle.lu_trace.specs.Turns.{Making, with_line}
use Rattle.lu_client.specs.Clients.{Makes, turn_of}
use Rattle.lu_client.proofs.Turning.{comes_asks, counted_then, first_making, given, left, numbers_still, taken_turn}
use Rattle.lu_client.proofs.client.Client.make_message_turn.Goals as goal

pub rest-requires : goal.rest-requires
rest-requires c = record {
  numbers = numbers_still (comes_asks c.note.new.self.at (Target c.args.from.0) c.args.message.now
      c.in_ok-heed.ensures.makes) c.requires.numbers;
}

pub returns : goal.returns
returns c =
    let makes : Makes (row c.args.self.now.limits (turn_of c.args.stamp c.args.self.now)
    (Comes 0 (Target c.args.from.0) c.args.message.now)) c.args.self.now c.rest.new.self (first_making c.args.stamp c.args.self.now)
    c.rest.new.turn =
    taken_turn c.args.stamp 0 (Target c.args.from.0) c.args.message.now
    (c.in_ok-note.ensures.added ∙ ap (λ (m : Making). with_line m.at m.step (line.Take 0)) c.turn-turn.ensures.empty)
    (c.in_ok-note.ensures.turn ∙ ap (λ (m : Making). m.at) c.turn-turn.ensures.empty) c.in_ok-heed.ensures.makes c.in_ok-rest.ensures.makes
    in
    record {
      step = c.into_step.ensures.step ∙ given c.args.stamp c.rest.new.turn makes;
      after = left makes;
      counted = counted_then c.rest.new.self.client.imports (comes_asks c.note.new.self.at (Target c.args.from.0) c.args.message.now
          c.in_ok-heed.ensures.makes) c.in_ok-rest.ensures.counted;
    }
