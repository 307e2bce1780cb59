use Rattle.lu_client.proofs.Replying.{still_new, taken_all}
use Rattle.lu_client.proofs.client.Client.take_in_answer.Goals as goal
use Rattle.std.proofs.lemmas.Result.{on_ok_weaker}

pub hold_all_brought-requires-clause-new : goal.hold_all_brought-requires-clause-new
hold_all_brought-requires-clause-new c =
    still_new c.args.target.0 c.args.reply.now c.args.asked.now c.args.locks.now c.args.self.now c.requires.asked c.take_reply.new.self
    c.args.turn.now c.take_reply.new.turn c.in_ok-take_reply.ensures.taken c.requires.new

pub returns : goal.returns
returns c =
    record {
      makes = on_ok_weaker c.learn_answer.result
          (λ learned. taken_all c.args.target.0 c.args.reply.now c.args.asked.now c.args.locks.now c.args.self.now c.requires.asked
          c.take_reply.new.self c.hold_all_brought.new.self c.learn_answer.new.self c.args.turn.now c.take_reply.new.turn
          c.hold_all_brought.new.turn
          c.size_with.result c.requires.target c.requires.brought c.requires.new c.size_with.ensures.size c.in_ok-take_reply.ensures.taken
          c.in_ok-hold_all_brought.ensures.held learned)
          c.learn_answer.ensures.learned;
    }
