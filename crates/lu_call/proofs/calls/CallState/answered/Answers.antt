use Rattle.std.proofs.Common.{ap, None}
use Rattle.lu_msg.specs.declared.answers.Answer.{Answer}
use Rattle.lu_spec_client.specs.Starts.{answers}
use Rattle.lu_call.specs.Starting.{alone}
use Rattle.lu_call.proofs.Going.{goes_as}
use Rattle.lu_call.proofs.Beginning.{tells_other}
use Rattle.lu_call.proofs.calls.CallState.answered.Goals as goal

pub returns-in-OpenFile : goal.returns-in-OpenFile
returns-in-OpenFile c = record {
  goes = λ slot. goes_as (ap (λ (a : Answer). answers c.args.at slot c.args.acted a c.args.self.now.call
      c.args.self.now (alone c.args.self.now c.args.store.now)) c.in-OpenFile.is) (c.opened.ensures.goes c.args.at slot);
}

pub returns-in_default : goal.returns-in_default
returns-in_default c =
    record {
      goes = λ slot.
          goes_as (tells_other c.args.at slot c.args.acted c.args.answer c.args.self.now.call c.args.self.now
          (alone c.args.self.now c.args.store.now) c.in_default.not-OpenFile c.in_default.not-FileStat)
          (c.tell.ensures.told slot None);
    }
