use Rattle.std.proofs.Common.{sym, ◌∙◌}
use Rattle.lu_spec_client.specs.Known.{found_at_path}
use Rattle.lu_cache.specs.Tells.{notes}
use Rattle.lu_call.proofs.Beginning.{if_ok, stats_known_file, tells_known_directory, asks_stat}
use Rattle.lu_call.proofs.calls.CallState.start_stat.Goals as goal

pub returns-in-Some : goal.returns-in-Some
returns-in-Some c =
    let n = notes c.args.store.now.facts c.args.store.now.store.held in
    record {
      goes = if_ok c.stat_known.result _ _ c.stat_known.ensures.goes
          (λ out goes slot. stats_known_file c.args.at slot c.args.path c.args.self.now n (found_at_path n c.args.path) c.in-Some.known
          (sym c.in_ok-is_file.ensures.file ∙ c.if-is_file.true) (sym c.in-Some.is ∙ c.in_ok-known.ensures.known) (goes slot));
    }

pub returns-in-Some-2 : goal.returns-in-Some-2
returns-in-Some-2 c =
    let n = notes c.args.store.now.facts c.args.store.now.store.held in
    record {
      goes = if_ok c.tell_known.result _ _ c.tell_known.ensures.goes
          (λ out goes slot. tells_known_directory c.args.at slot c.args.path c.args.self.now n (found_at_path n c.args.path) c.in-Some.known
          (sym c.in_ok-is_file.ensures.file ∙ c.if-is_file.false) (sym c.in-Some.is ∙ c.in_ok-known.ensures.known) (goes slot));
    }

pub returns : goal.returns
returns c =
    let n = notes c.args.store.now.facts c.args.store.now.store.held in
    record {
      goes = λ slot. asks_stat c.args.at slot c.args.path c.args.self.now n (found_at_path n c.args.path)
          (sym c.in-None.is ∙ c.in_ok-known.ensures.known) (c.ask_names.ensures.goes slot c.args.store.now);
    }
