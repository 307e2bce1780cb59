use Rattle.std.proofs.Common.{ap}
use Rattle.std.proofs.lemmas.Result.{IfOk-weaker}
use Rattle.lu_spec_entries.specs.Carried.{Work}
use Rattle.lu_spec_client.specs.Advances.{reads_wide}
use Rattle.lu_call.specs.Ranges.{is_glimpse}
use Rattle.lu_call.specs.Views.{work_of}
use Rattle.lu_call.proofs.Going.{goes_asks, goes_acts}
use Rattle.lu_call.proofs.Acting.{widens_on, looked_wanting, looked_acting}
use Rattle.lu_call.proofs.calls.CallState.widen.Goals as goal

pub returns-in-Some : goal.returns-in-Some
returns-in-Some c =
    record {
      goes = λ slot.
          widens_on c.args.at slot c.args.offset c.args.count c.args.self.now c.unpin_locks.new.self (work_of c.args.work)
          (work_of c.in_ok-work.work) c.unpin_locks.ensures.call c.unpin_locks.ensures.store c.in_ok-work.ensures.work
          (goes_asks c.in_ok-wanted.field-0 c.in-Some.wanted (reads_wide c.args.at slot c.args.offset c.args.count) c.in-Some.is
          c.in_ok-wanted.ensures.looked (c.ask_lock.ensures.asks slot c.look.new.store));
    }

pub ask_lock-requires : goal.ask_lock-requires
ask_lock-requires c =
    record {
      wanting = looked_wanting c.in_ok-wanted.field-0 c.in-Some.wanted (work_of c.look.new.work) c.in-Some.is
          c.in_ok-wanted.ensures.looked.first c.in_ok-wanted.ensures.sound;
    }

pub read_wide-requires-clause-acting : goal.read_wide-requires-clause-acting
read_wide-requires-clause-acting c = looked_acting c.in_ok-wanted.ensures.looked
    (ap (λ (w : Work). is_glimpse w.kind) c.in_ok-work.ensures.work) c.in_ok-wanted.ensures.sound

pub returns : goal.returns
returns c =
    record {
      goes = IfOk-weaker c.read_wide.result _ _
          (λ out goes slot.
          widens_on c.args.at slot c.args.offset c.args.count c.args.self.now c.unpin_locks.new.self (work_of c.args.work)
          (work_of c.in_ok-work.work) c.unpin_locks.ensures.call c.unpin_locks.ensures.store c.in_ok-work.ensures.work
          (goes_acts c.in_ok-wanted.field-0 (reads_wide c.args.at slot c.args.offset c.args.count) c.in-None.is
          c.in_ok-wanted.ensures.looked (goes slot)))
          c.read_wide.ensures.goes;
    }
