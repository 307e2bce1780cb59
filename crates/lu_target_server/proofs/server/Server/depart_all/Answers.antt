-- One life more leaves, and in the end all have left.
use Rattle.std.proofs.Common.{◌≡◌, ◌+◌, [], ◌∷◌, List, map, drop, get_or, refl, sym, ap, subst, ◌∙◌}
use Rattle.std.proofs.lemmas.List.{drop_more}
use Rattle.lu_base.specs.declared.ids.Who.{Who}
use Rattle.lu_base.specs.declared.locks.Lock.{Lock}
use Rattle.lu_spec_target.specs.Leaving.{locks_of, evictions}
use Rattle.lu_spec_target.specs.States.{Target, turn}
use Rattle.lu_target_locks.specs.declared.departing.Departure.{Departure}
use Rattle.lu_target_server.specs.Releases.{MayDepart, departs, MayDepartAll}
use Rattle.lu_target_server.proofs.Items.{item_at, items_done}
use Rattle.lu_target_server.proofs.Middles.{SoFar}
use Rattle.lu_target_server.proofs.Releases.{disk_then}
use Rattle.lu_target_server.proofs.Departing.{depart_all_begins, depart_all_asks, depart_all_goes, depart_all_ends}
use Rattle.lu_target_server.proofs.server.Server.depart_all.Goals as goal

pub depart-requires : goal.depart-requires
depart-requires g c =
    let w = c.requires.may.0 in
    let granted = c.requires.may.1 in
    let gone = c.requires.may.2 in
    let may = c.requires.may.3 in
    let items : List Departure = c.as_slice-departure-items.result.now in
    let k = c.loop-departure.departure-index in
    let item = c.departure-item.result in
    let is_item : drop k items ≡ item ∷ drop (k + 1) items = drop_more items k item c.loop-departure-test.true
    ∙ ap (λ (x : Departure). x ∷ drop (k + 1) items) (sym c.departure-item.is) in
    let so_far = c.loop-departure.invariant.made w granted gone may in
    record {
      may = item_at (departs w.glimpses granted) gone items k item (c.as_slice-departure-items.ensures.same ∙ may.are)
          c.loop-departure-test.true
          ((x : Target) × (locks : List Lock) × MayDepart locks item.released c.loop-departure.self x)
          (λ x left is. (
            turn w so_far.es,
            locks_of x granted,
            depart_all_asks c.loop-departure.self w _ _ granted x _ _ item _ _
                c.args.turn.now c.loop-departure.turn left is_item so_far,
          ));
    }

pub loop-departure-init : goal.loop-departure-init
loop-departure-init g c = record {
  made = λ w granted gone may.
      depart_all_begins c.args.self.now w c.args.cause granted gone c.as_slice-departure-items.result.now c.args.turn.now
      (subst (λ (them : List Departure). MayDepartAll granted gone them c.args.self.now w) (sym c.as_slice-departure-items.ensures.same)
      may);
  locks = refl;
  disk = record { batches = refl; faults = refl };
}

pub loop-departure-preserved : goal.loop-departure-preserved
loop-departure-preserved g c =
    let items : List Departure = c.as_slice-departure-items.result.now in
    let k = c.loop-departure.departure-index in
    let item = c.departure-item.result in
    let is_item : drop k items ≡ item ∷ drop (k + 1) items = drop_more items k item c.loop-departure-test.true
    ∙ ap (λ (x : Departure). x ∷ drop (k + 1) items) (sym c.departure-item.is) in
    let s = c.loop-departure.self in
    let now = c.depart.new.self in
    record {
      made = λ w granted gone may.
          item_at (departs w.glimpses granted) gone items k item (c.as_slice-departure-items.ensures.same ∙ may.are)
          c.loop-departure-test.true
          (SoFar (MayDepartAll granted (drop (k + 1) gone) (drop (k + 1) items)) (evictions c.args.turn.now.at c.args.cause granted gone w)
          (evictions c.args.turn.now.at c.args.cause granted (drop (k + 1) gone)) w now
          c.args.turn.now c.depart.new.turn)
          (λ x left is. depart_all_goes s now w (evictions c.args.turn.now.at c.args.cause granted gone w) c.args.cause granted x
          (drop (k + 1) gone) (drop k gone) item (drop (k + 1) items) (drop k items)
          c.args.turn.now c.loop-departure.turn c.depart.new.turn left is_item (c.loop-departure.invariant.made w granted gone may)
          c.in_ok-depart.ensures.departed);
      locks =
          let w = c.requires.may.0 in
          let granted = c.requires.may.1 in
          let gone = c.requires.may.2 in
          let may = c.requires.may.3 in
          let so_far = c.loop-departure.invariant.made w granted gone may in
          item_at (departs w.glimpses granted) gone items k item (c.as_slice-departure-items.ensures.same ∙ may.are)
          c.loop-departure-test.true (now.locks ≡ c.args.self.now.locks)
          (λ x left is. (c.in_ok-depart.ensures.departed (turn w so_far.es) (locks_of x granted)
          (depart_all_asks s w _ _ granted x _ _ item _ _ c.args.turn.now c.loop-departure.turn left is_item so_far)).locks
          ∙ c.loop-departure.invariant.locks);
      disk = disk_then c.args.self.now.store s.store now.store c.loop-departure.invariant.disk c.depart.ensures.disk;
    }

pub returns-clause-departed : goal.returns-clause-departed
returns-clause-departed g c =
    λ w granted gone may.
    depart_all_ends c.args.self.now c.loop-departure.self w (evictions c.args.turn.now.at c.args.cause granted gone w) c.args.cause granted
    (drop c.loop-departure.departure-index gone)
    (drop c.loop-departure.departure-index c.as_slice-departure-items.result.now) c.args.turn.now c.loop-departure.turn
    (items_done (departs w.glimpses granted) gone c.as_slice-departure-items.result.now c.loop-departure.departure-index
    (c.as_slice-departure-items.ensures.same ∙ may.are) c.loop-departure-test.false)
    (c.loop-departure.invariant.made w granted gone may) c.loop-departure.invariant.locks
