use Rattle.std.proofs.Common.{ap, ◌∙◌}
use Rattle.lu_spec_client.specs.Rows.{Ticks, row}
use Rattle.lu_trace.specs.declared.entries.Entry.TheVariants as line
use Rattle.lu_trace.specs.Turns.{Making, with_line}
use Rattle.lu_client.specs.Clients.{Makes, turn_of}
use Rattle.lu_client.proofs.Turning.{counted_then, first_making, given, left, numbers_still, ticked_turn, ticks_asks}
use Rattle.lu_client.proofs.client.Client.make_tick_turn.Goals as goal

pub rest-requires : goal.rest-requires
rest-requires c = record { numbers = numbers_still (ticks_asks c.in_ok-remind_all.ensures.makes) c.requires.numbers }

pub returns : goal.returns
returns c =
    let makes : Makes (row c.args.self.now.limits (turn_of c.args.stamp c.args.self.now) Ticks) c.args.self.now c.rest.new.self
    (first_making c.args.stamp c.args.self.now) c.rest.new.turn =
    ticked_turn c.args.stamp (c.in_ok-note.ensures.added ∙ ap (λ (m : Making). with_line m.at m.step line.Tick) c.turn-turn.ensures.empty)
    (c.in_ok-note.ensures.turn ∙ ap (λ (m : Making). m.at) c.turn-turn.ensures.empty) c.in_ok-remind_all.ensures.makes
    c.in_ok-rest.ensures.makes in
    record {
      step = c.into_step.ensures.step ∙ given c.args.stamp c.rest.new.turn makes;
      after = left makes;
      counted = counted_then c.rest.new.self.client.imports (ticks_asks c.in_ok-remind_all.ensures.makes) c.in_ok-rest.ensures.counted;
    }
