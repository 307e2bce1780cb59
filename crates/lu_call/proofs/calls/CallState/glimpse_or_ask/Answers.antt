-- A held lock is used as one that came, or the lock is asked for.
use Rattle.std.proofs.Common.{◌≡◌, ◌∷◌, drop, sym}
use Rattle.lu_call.specs.Views.{work_of}
use Rattle.lu_call.proofs.Beginning.{if_ok}
use Rattle.lu_call.proofs.Glimpsing.{serves_as_came, asks_for_lock}
use Rattle.lu_call.proofs.Going.{goes_as}
use Rattle.lu_call.proofs.Reaching.{first_is}
use Rattle.lu_call.proofs.calls.CallState.glimpse_or_ask.Goals as goal

pub returns-in-Some : goal.returns-in-Some
returns-in-Some c =
    let first : c.args.work.left.items ≡ c.index-wanted.result.now ∷ drop 1 c.args.work.left.items =
    first_is c.args.work.left.items c.index-wanted.result.now c.requires.some c.index-wanted.ensures in
    record {
      goes = if_ok c.glimpse_come.result _ _ c.glimpse_come.ensures.goes
          (λ out goes slot. goes_as (serves_as_came c.args.at slot c.index-wanted.result.now c.in-Some.lock c.args.work.left.items
          c.args.sizes c.args.self.now (work_of c.args.work) c.args.store.now.store first (sym c.in-Some.ensures.serving)) (goes slot));
    }

pub returns-in-None : goal.returns-in-None
returns-in-None c =
    let first : c.args.work.left.items ≡ c.index-wanted.result.now ∷ drop 1 c.args.work.left.items =
    first_is c.args.work.left.items c.index-wanted.result.now c.requires.some c.index-wanted.ensures in
    record {
      goes = λ slot. goes_as (asks_for_lock c.args.at slot c.index-wanted.result.now c.args.work.left.items c.args.sizes
          c.args.self.now (work_of c.args.work) c.args.store.now.store first (sym c.in-None.ensures.serving))
          (c.ask_lock.ensures.asks slot c.args.store.now);
    }
