-- One asker more is answered, and in the end all are.
use Rattle.std.proofs.Common.{◌≡◌, ◌+◌, [], ◌∷◌, List, length, map, drop, get_or, refl, sym, ap, subst, ◌∙◌}
use Rattle.lu_spec_entries.specs.Carried.{Glimpse}
use Rattle.lu_spec_target.specs.Glimpses.{glimpses_of, glimpses_end}
use Rattle.lu_spec_target.specs.Requests.{releases}
use Rattle.lu_spec_target.specs.States.{Target, turn}
use Rattle.lu_target_locks.specs.declared.departing.Asker.{Asker}
use Rattle.lu_target_locks.specs.Departing.{asker_of}
use Rattle.lu_target_server.specs.Releases.{MayRelease}
use Rattle.lu_target_server.specs.Servers.{ServerState}
use Rattle.lu_target_server.proofs.Items.{item_at, items_done}
use Rattle.lu_target_server.proofs.Middles.{SoFar}
use Rattle.lu_target_server.proofs.Releases.{AreEnding, may_refuse, release_begins, release_goes, release_ends, disk_then, store_then}
use Rattle.lu_target_server.proofs.Releases.{answered_same_rest}
use Rattle.lu_target_server.proofs.server.Server.release.Goals as goal

pub say_lock-requires : goal.say_lock-requires
say_lock-requires g c =
    let may = c.requires.may in
    let so_far = c.loop-asker.invariant.made may.0 may.1 in
    record { may = λ r found. may_refuse c.loop-asker.self (turn may.0 so_far.es) _ _ r so_far.shows.waits found }

pub loop-asker-init : goal.loop-asker-init
loop-asker-init g c = record {
  made = λ v may. release_begins c.args.self.now v c.args.ended.now c.args.turn.now c.note.new.self may c.note.ensures.turn
      c.in_ok-note.ensures.added;
  same = refl;
  disk = record { batches = refl; faults = refl };
}

pub loop-asker-preserved : goal.loop-asker-preserved
loop-asker-preserved g c =
    let k = c.loop-asker.asker-index in
    let items : List Asker = c.as_slice-asker-items.result.now in
    let s = c.loop-asker.self in
    let now = c.say_lock.new.self in
    let nobody : Asker = record { who = record { client = 0; life = 0 }; xid = record { 0 = 0 } } in
    let made_of : (v : Target) → MayRelease c.args.ended.now c.args.self.now v → items
    ≡ map {A = Glimpse} {B = Asker} asker_of (glimpses_of c.args.ended.now.lock v.glimpses) =
    (λ v may. c.as_slice-asker-items.ensures.same ∙ may.askers) in
    record {
      made = λ v may.
          let gs : List Glimpse = glimpses_of c.args.ended.now.lock v.glimpses in
          item_at asker_of gs items k nobody (made_of v may) c.loop-asker-test.true
          (SoFar (AreEnding v (drop (k + 1) gs)) (releases c.args.turn.now.at c.args.ended.now.lock v)
          (λ _. glimpses_end c.args.turn.now.at (drop (k + 1) gs) v) v now c.args.turn.now c.say_lock.new.turn)
          (λ x left is. release_goes s now v c.args.ended.now.lock gs (drop k gs) x (drop (k + 1) gs) (get_or items k nobody)
          c.args.turn.now c.loop-asker.turn c.say_lock.new.turn left is
          (c.loop-asker.invariant.made v may) c.in_ok-say_lock.ensures.sent c.in_ok-say_lock.ensures.answered);
      same =
          let v = c.requires.may.0 in
          let may = c.requires.may.1 in
          let gs : List Glimpse = glimpses_of c.args.ended.now.lock v.glimpses in
          let so_far = c.loop-asker.invariant.made v may in
          item_at asker_of gs items k nobody (made_of v may) c.loop-asker-test.true
          (now ≡ record c.args.self.now { store = now.store; requests = now.requests })
          (λ x left is. let ending : AreEnding v (x ∷ drop (k + 1) gs) s (turn v so_far.es) =
          subst (λ (all : List Glimpse). AreEnding v all s (turn v so_far.es)) left so_far.shows in
          store_then c.args.self.now s now c.loop-asker.invariant.same
          (answered_same_rest s now (turn v so_far.es) x (get_or items k nobody) c.loop-asker.turn is ending.waits ending.asked.0
          c.in_ok-say_lock.ensures.answered));
      disk = disk_then c.args.self.now.store s.store now.store c.loop-asker.invariant.disk c.say_lock.ensures.disk;
    }

pub returns-clause-released : goal.returns-clause-released
returns-clause-released g c =
    λ v may.
    release_ends c.args.self.now c.loop-asker.self v c.args.ended.now
    (drop c.loop-asker.asker-index (glimpses_of c.args.ended.now.lock v.glimpses)) c.args.turn.now c.loop-asker.turn may
    (items_done asker_of (glimpses_of c.args.ended.now.lock v.glimpses) c.as_slice-asker-items.result.now c.loop-asker.asker-index
    (c.as_slice-asker-items.ensures.same ∙ may.askers) c.loop-asker-test.false)
    (c.loop-asker.invariant.made v may) c.loop-asker.invariant.same
