-- The glimpse goes on with the size that it was told.
use Rattle.std.proofs.Common.{◌≡◌, drop, rules}
use Rattle.lu_call.specs.Views.{work_of}
use Rattle.lu_call.proofs.Beginning.{if_ok}
use Rattle.lu_call.proofs.Glimpsing.{left_sound, goes_heard}
use Rattle.lu_call.proofs.calls.CallState.glimpse_size.Goals as goal

pub glimpse-requires : goal.glimpse-requires
glimpse-requires c =
    let shorter : c.pop_front.new.self.items ≡ drop 1 c.args.work.left.items = search rules in
    record { work = left_sound (work_of c.args.work) c.pop_front.new.self.items shorter c.requires.work }

pub returns : goal.returns
returns c =
    let shorter : c.pop_front.new.self.items ≡ drop 1 c.args.work.left.items = search rules in
    record {
      goes = if_ok c.glimpse.result _ _ c.glimpse.ensures.goes
          (λ out goes slot. goes_heard c.args.at c.args.size c.args.work.left.items c.pop_front.new.self.items c.args.sizes c.push.new.self
          c.args.self.now (work_of c.args.work) c.requires.some shorter c.in_ok-push.ensures.added (goes slot));
    }
