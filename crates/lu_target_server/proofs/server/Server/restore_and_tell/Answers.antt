-- The locks that stand are those of the close.
use Rattle.std.proofs.Common.{sym, ap, subst}
use Rattle.std.proofs.lemmas.Result.{on_ok_weaker}
use Rattle.lu_spec_target.specs.States.{Target}
use Rattle.lu_target_store.specs.Stores.{Serves}
use Rattle.lu_target_locks.specs.Servers as locking
use Rattle.lu_target_locks.specs.Servers.{ShowsCounts}
use Rattle.lu_target_locks.specs.Standing.{StandAgain}
use Rattle.lu_target_server.specs.Servers.{ServerState}
use Rattle.lu_target_server.proofs.Lines.{on_ok_any}
use Rattle.lu_target_server.proofs.Itemwise.{close_told}
use Rattle.lu_target_server.proofs.server.Server.restore_and_tell.Goals as goal

pub returns-clause-told : goal.returns-clause-told
returns-clause-told g c =
    on_ok_weaker c.tell_close.result
    (λ told v serves.
    close_told c.self.inside.boot v.committed c.args.lives.now c.args.gone.now c.args.evicted.now c.in_ok-standing.standing c.args.joins.now
    c.args.self.now.boot c.args.locks.now c.args.turn.now
    c.tell_close.new.turn (ap (λ (s : ServerState). s.boot) c.self.view_is) c.in_ok-standing.ensures.stand
    (told v (subst (λ (s : ServerState). Serves s.store v) (sym c.self.view_is) serves)))
    c.tell_close.ensures.told

pub returns-clause-stand : goal.returns-clause-stand
returns-clause-stand g c =
    on_ok_any c.tell_close.result ((v w : Target) → ShowsCounts c.args.self.now.locks v → StandAgain c.args.locks.now v w
    → locking.Shows c.restore.new.self w)
    (λ v w counts again. c.in_ok-standing.ensures.shows v w (subst (λ (s : ServerState). ShowsCounts s.locks v) (sym c.self.view_is) counts)
    again)
