use Rattle.std.proofs.Common.{◌≡◌, ◌∙◌, sym, ap, None}
use Rattle.lu_msg.specs.declared.answers.Answer.TheVariants as answer
use Rattle.lu_msg.specs.declared.calls.Call.{Call}
use Rattle.lu_msg.specs.declared.calls.Call.TheVariants as call
use Rattle.lu_spec_entries.specs.Carried.{Running}
use Rattle.lu_cache.specs.Tells.{notes}
use Rattle.lu_spec_client.specs.Known.{cookies_of_file}
use Rattle.lu_spec_client.specs.Starts.{answers}
use Rattle.lu_call.specs.Starting.{alone}
use Rattle.lu_call.proofs.Going.{goes_as}
use Rattle.lu_call.proofs.Beginning.{if_ok, stats_other}
use Rattle.lu_call.proofs.calls.CallState.stat_answered.Goals as goal

pub returns-in_ok-locks-in-Stat : goal.returns-in_ok-locks-in-Stat
returns-in_ok-locks-in-Stat c =
    let it_is : c.args.self.now.call ≡ call.Stat c.in-Stat.path = sym (ap (λ (r : Running). r.call) c.self.view_is) ∙ c.in-Stat.is in
    record {
      goes = if_ok c.stat_file.result _ _ c.stat_file.ensures.goes
          (λ out goes slot. goes_as (ap (λ (it : Call). answers c.args.at slot c.args.acted
          (answer.FileStat c.args.file.fid c.args.file.mode c.args.file.links c.args.file.layout) it c.args.self.now
          (alone c.args.self.now c.args.store.now)) it_is) (goes slot
          (cookies_of_file (notes c.args.store.now.facts c.args.store.now.store.held) c.in-Stat.path c.args.file.fid)
          c.in_ok-locks-in-Stat.ensures.locks));
    }

pub returns-in_default : goal.returns-in_default
returns-in_default c =
    let it_is : c.self.inside.call ≡ c.args.self.now.call = ap (λ (r : Running). r.call) c.self.view_is in
    record {
      goes = λ slot. goes_as (stats_other c.args.at slot c.args.acted c.args.file.fid c.args.file.mode c.args.file.links
          c.args.file.layout c.args.self.now.call c.args.self.now (alone c.args.self.now c.args.store.now)
          (λ p e. c.in_default.not-Stat p (it_is ∙ e))) (c.tell.ensures.told slot None);
    }
