-- The locks have counted the tick.
use Rattle.std.proofs.Common.{◌≡◌, sym, ap, subst}
use Rattle.lu_target_locks.specs.Servers as locking
use Rattle.lu_target_locks.specs.Servers.{ServerState as LockState}
use Rattle.lu_target_server.specs.Servers.{ServerState}
use Rattle.lu_target_server.proofs.Expiring.{tick_shows}
use Rattle.lu_target_server.proofs.server.Server.count_tick.Goals as goal

pub returns-clause-shows : goal.returns-clause-shows
returns-clause-shows g c =
    let old : c.self.inside.locks ≡ c.args.self.now.locks = ap (λ (it : ServerState). it.locks) c.self.view_is in
    λ v shows.
    tick_shows c.args.self.now _ v shows (ap (λ (it : ServerState). record it { locks = c.tick.new.self }) c.self.view_is)
    (c.in_ok-tick.ensures.shows v (subst (λ (it : LockState). locking.Shows it v) (sym old) shows.locks))

pub returns-clause-counts : goal.returns-clause-counts
returns-clause-counts g c =
    let old : c.self.inside.locks ≡ c.args.self.now.locks = ap (λ (it : ServerState). it.locks) c.self.view_is in
    λ v counts. c.in_ok-tick.ensures.counts v (subst (λ (it : LockState). locking.ShowsCounts it v) (sym old) counts)
