use Rattle.std.proofs.Common.{List, ap, ◌∙◌}
use Rattle.std.proofs.lemmas.Result.{on_ok_weaker}
use Rattle.lu_base.specs.declared.locks.Lock.{Lock}
use Rattle.lu_client.specs.Comings.{are_new}
use Rattle.lu_client.proofs.Replying.{all_heard, may_be_heard, still_inside}
use Rattle.lu_client.proofs.client.Client.hear_answer.Goals as goal

pub take_in_answer-requires-clause-new : goal.take_in_answer-requires-clause-new
take_in_answer-requires-clause-new c =
    ap (λ (locks : List Lock). are_new c.args.target.0 locks c.args.self.now.client.store.held)
    (c.as_slice.ensures.same ∙ c.in_ok-locks.ensures.brought)
    ∙ (may_be_heard c.args.target.0 c.args.reply.now c.args.self.now.client c.args.asked.now c.requires.may c.requires.asked
    c.requires.fits).new

pub take_in_answer-requires-clause-short : goal.take_in_answer-requires-clause-short
take_in_answer-requires-clause-short c = (may_be_heard c.args.target.0 c.args.reply.now c.args.self.now.client c.args.asked.now c.requires.may
    c.requires.asked c.requires.fits).short

pub heed_answer-requires-clause-target : goal.heed_answer-requires-clause-target
heed_answer-requires-clause-target c =
    still_inside c.args.target.0 c.args.reply.now c.args.asked.now c.as_slice.result.now c.args.self.now c.requires.asked
    c.take_in_answer.new.self c.args.turn.now c.take_in_answer.new.turn c.requires.target c.in_ok-take_in_answer.ensures.makes

pub heed_answer-requires-clause-file : goal.heed_answer-requires-clause-file
heed_answer-requires-clause-file c = (may_be_heard c.args.target.0 c.args.reply.now c.args.self.now.client c.args.asked.now c.requires.may
    c.requires.asked c.requires.fits).file

pub returns : goal.returns
returns c =
    record {
      makes = on_ok_weaker c.heed_answer.result
          (λ heeded. all_heard c.args.target.0 c.args.reply.now c.args.asked.now c.as_slice.result.now c.args.self.now
          c.take_in_answer.new.self c.heed_answer.new.self c.args.turn.now c.take_in_answer.new.turn
          c.requires.asked c.requires.fits (c.as_slice.ensures.same ∙ c.in_ok-locks.ensures.brought) c.in_ok-take_in_answer.ensures.makes
          heeded)
          c.heed_answer.ensures.makes;
    }
