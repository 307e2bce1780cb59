use Rattle.lu_call.specs.Views.{work_of}
use Rattle.lu_call.proofs.Beginning.{if_ok, stats_pinned}
use Rattle.lu_call.proofs.calls.CallState.stat_file.Goals as goal

pub returns : goal.returns
returns c =
    record {
      goes = if_ok c.look_and_act.result _ _ c.look_and_act.ensures.goes
          (λ out goes slot cookies told. stats_pinned c.args.at slot c.args.file.fid c.args.file.layout c.args.file.mode c.args.file.links
          cookies c.args.locks.now c.args.self.now c.pin_all.new.self (work_of c.in_ok-work.work) told c.in_ok-pin_all.ensures.pinned
          c.in_ok-pin_all.ensures.store c.in_ok-work.ensures.work (goes slot));
    }
