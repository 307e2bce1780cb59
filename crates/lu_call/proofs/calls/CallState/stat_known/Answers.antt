use Rattle.lu_call.proofs.Beginning.{if_ok, stats_told}
use Rattle.lu_call.proofs.calls.CallState.stat_known.Goals as goal

pub returns-in-FileStat : goal.returns-in-FileStat
returns-in-FileStat c =
    record {
      goes = if_ok c.stat_file.result _ _ c.stat_file.ensures.goes
          (λ out goes slot file told. stats_told c.args.at slot c.args.known c.in-FileStat.fid c.in-FileStat.mode c.in-FileStat.links
          c.in-FileStat.layout file c.args.self.now c.in-FileStat.is told (goes slot));
    }
