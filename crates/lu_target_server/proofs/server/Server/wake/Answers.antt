-- The line of the boot, what each life is told, and then what the window does.
use Rattle.std.proofs.Common.{ap}
use Rattle.lu_target_server.specs.Servers.{ServerState}
use Rattle.lu_target_server.proofs.Waking.{HasWoken, woken, has_woken, gathers, wakes_ok, wakes_stop, wakes_batches}
use Rattle.lu_target_server.proofs.server.Server.wake.Goals as goal

pub settle-requires : goal.settle-requires
settle-requires g c =
    let woke : HasWoken c.args.self.now c.in_ok-lives.lives c.last_committed-committed.result.0 c.in_ok-recovery.recovery c.args.turn.now
    c.note.new.self c.say_all_up.new.turn =
    has_woken c.args.self.now c.self.inside.boot c.self.inside.store c.in_ok-lives.lives c.as_slice.result.now
    c.last_committed-committed.result.0 c.in_ok-recovery.recovery
    c.args.turn.now c.note.new.self c.say_all_up.new.turn
    (ap (λ (it : ServerState). it.boot) c.self.view_is) (ap (λ (it : ServerState). it.store) c.self.view_is)
    c.in_ok-note.ensures.added c.note.ensures.turn c.in_ok-say_all_up.ensures.told
    c.in_ok-lives.ensures.recovering c.last_committed-committed.ensures.recovering c.in_ok-recovery.ensures.opened c.as_slice.ensures.same
    in
    record {
      gathers = (
        woken c.requires.booting.0,
        gathers c.args.self.now c.in_ok-lives.lives c.last_committed-committed.result.0
            c.in_ok-recovery.recovery c.args.turn.now c.note.new.self c.say_all_up.new.turn woke (woken c.requires.booting.0)
            c.requires.booting.1,
      );
    }

pub returns-clause-passes : goal.returns-clause-passes
returns-clause-passes g c =
    let woke : HasWoken c.args.self.now c.in_ok-lives.lives c.last_committed-committed.result.0 c.in_ok-recovery.recovery c.args.turn.now
    c.note.new.self c.say_all_up.new.turn =
    has_woken c.args.self.now c.self.inside.boot c.self.inside.store c.in_ok-lives.lives c.as_slice.result.now
    c.last_committed-committed.result.0 c.in_ok-recovery.recovery
    c.args.turn.now c.note.new.self c.say_all_up.new.turn
    (ap (λ (it : ServerState). it.boot) c.self.view_is) (ap (λ (it : ServerState). it.store) c.self.view_is)
    c.in_ok-note.ensures.added c.note.ensures.turn c.in_ok-say_all_up.ensures.told
    c.in_ok-lives.ensures.recovering c.last_committed-committed.ensures.recovering c.in_ok-recovery.ensures.opened c.as_slice.ensures.same
    in
    wakes_ok c.args.self.now c.in_ok-lives.lives c.last_committed-committed.result.0 c.in_ok-recovery.recovery c.args.turn.now
    c.note.new.self c.say_all_up.new.turn woke c.settle.result c.settle.new.self c.settle.new.turn c.settle.ensures.passes

pub returns-clause-failed : goal.returns-clause-failed
returns-clause-failed g c = λ e.
    let woke : HasWoken c.args.self.now c.in_ok-lives.lives c.last_committed-committed.result.0 c.in_ok-recovery.recovery c.args.turn.now
    c.note.new.self c.say_all_up.new.turn =
    has_woken c.args.self.now c.self.inside.boot c.self.inside.store c.in_ok-lives.lives c.as_slice.result.now
    c.last_committed-committed.result.0 c.in_ok-recovery.recovery
    c.args.turn.now c.note.new.self c.say_all_up.new.turn
    (ap (λ (it : ServerState). it.boot) c.self.view_is) (ap (λ (it : ServerState). it.store) c.self.view_is)
    c.in_ok-note.ensures.added c.note.ensures.turn c.in_ok-say_all_up.ensures.told
    c.in_ok-lives.ensures.recovering c.last_committed-committed.ensures.recovering c.in_ok-recovery.ensures.opened c.as_slice.ensures.same
    in
    let failed = c.settle.ensures.failed e in (
      failed.0,
      wakes_stop c.args.self.now c.in_ok-lives.lives c.last_committed-committed.result.0 c.in_ok-recovery.recovery c.args.turn.now
          c.note.new.self c.say_all_up.new.turn woke c.settle.new.turn failed.1,
    )

pub returns-clause-batches : goal.returns-clause-batches
returns-clause-batches g c =
    let woke : HasWoken c.args.self.now c.in_ok-lives.lives c.last_committed-committed.result.0 c.in_ok-recovery.recovery c.args.turn.now
    c.note.new.self c.say_all_up.new.turn =
    has_woken c.args.self.now c.self.inside.boot c.self.inside.store c.in_ok-lives.lives c.as_slice.result.now
    c.last_committed-committed.result.0 c.in_ok-recovery.recovery
    c.args.turn.now c.note.new.self c.say_all_up.new.turn
    (ap (λ (it : ServerState). it.boot) c.self.view_is) (ap (λ (it : ServerState). it.store) c.self.view_is)
    c.in_ok-note.ensures.added c.note.ensures.turn c.in_ok-say_all_up.ensures.told
    c.in_ok-lives.ensures.recovering c.last_committed-committed.ensures.recovering c.in_ok-recovery.ensures.opened c.as_slice.ensures.same
    in
    wakes_batches c.args.self.now c.in_ok-lives.lives c.last_committed-committed.result.0 c.in_ok-recovery.recovery c.args.turn.now
    c.note.new.self c.say_all_up.new.turn woke c.args.self.now.store.batches c.settle.new.self.store.batches c.settle.ensures.batches
