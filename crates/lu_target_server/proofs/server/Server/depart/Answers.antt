-- One lock more is released, and in the end all are.
use Rattle.std.proofs.Common.{◌≡◌, ◌+◌, [], ◌∷◌, List, map, drop, get_or, refl, sym, ap, subst, ◌∙◌}
use Rattle.std.proofs.lemmas.List.{drop_more}
use Rattle.lu_base.specs.declared.locks.Lock.{Lock}
use Rattle.lu_msg.specs.declared.messages.Message.TheVariants as message
use Rattle.lu_spec_target.specs.Replies.{to_life}
use Rattle.lu_spec_target.specs.Leaving.{all_released}
use Rattle.lu_spec_target.specs.States.{Target, turn}
use Rattle.lu_target_store.specs.Stores.{KeepsDisk}
use Rattle.lu_target_locks.specs.declared.departing.EndedLock.{EndedLock}
use Rattle.lu_target_locks.specs.Departing.{ended_with}
use Rattle.lu_spec_entries.specs.Given.{giving}
use Rattle.lu_target_server.specs.Releases.{MayRelease, MayDepart}
use Rattle.lu_target_server.specs.Servers.{ServerState}
use Rattle.lu_target_server.proofs.Items.{item_at, items_done}
use Rattle.lu_target_server.proofs.Middles.{SoFar}
use Rattle.lu_target_server.proofs.Releases.{disk_then}
use Rattle.lu_target_server.proofs.Departing.{departing, depart_begins, depart_asks, depart_goes, depart_ends}
use Rattle.lu_target_server.proofs.server.Server.depart.Goals as goal

pub release-requires : goal.release-requires
release-requires g c =
    let may = c.requires.may in
    let items : List EndedLock = c.as_slice-ended-items.result.now in
    let k = c.loop-ended.ended-index in
    let item = c.ended-item.result in
    let is_item : drop k items ≡ item ∷ drop (k + 1) items = drop_more items k item c.loop-ended-test.true
    ∙ ap (λ (x : EndedLock). x ∷ drop (k + 1) items) (sym c.ended-item.is) in
    let so_far = c.loop-ended.invariant.made may.0 may.1 may.2 in
    record {
      may = (
        turn may.0 so_far.es,
        item_at (ended_with may.0.glimpses) may.1 items k item (c.as_slice-ended-items.ensures.same ∙ may.2.are) c.loop-ended-test.true
            (MayRelease item c.loop-ended.self (turn may.0 so_far.es))
            (λ x left is. depart_asks c.loop-ended.self may.0 _ _ x _ _ item _ _ c.args.turn.now c.loop-ended.turn left is_item so_far),
      );
    }

pub loop-ended-init : goal.loop-ended-init
loop-ended-init g c = record {
  made = λ v locks may.
      depart_begins c.args.self.now v c.args.cause c.args.departure.now.who locks c.as_slice-ended-items.result.now c.args.turn.now
      c.note.new.self c.say_evicted.new.turn
      (subst (λ (them : List EndedLock). MayDepart locks them c.args.self.now v) (sym c.as_slice-ended-items.ensures.same) may)
      c.note.ensures.turn c.in_ok-note.ensures.added
      (c.in_ok-say_evicted.ensures.said
      ∙ ap (λ (it : ServerState). giving c.note.new.self (to_life c.args.departure.now.who
      (message.Evicted c.args.departure.now.who it.boot) ∷ [])) c.self.view_is);
  locks = refl;
  disk = record { batches = refl; faults = refl };
}

pub loop-ended-preserved : goal.loop-ended-preserved
loop-ended-preserved g c =
    let items : List EndedLock = c.as_slice-ended-items.result.now in
    let k = c.loop-ended.ended-index in
    let item = c.ended-item.result in
    let is_item : drop k items ≡ item ∷ drop (k + 1) items = drop_more items k item c.loop-ended-test.true
    ∙ ap (λ (x : EndedLock). x ∷ drop (k + 1) items) (sym c.ended-item.is) in
    let s = c.loop-ended.self in
    let now = c.release.new.self in
    record {
      made = λ v locks may.
          item_at (ended_with v.glimpses) locks items k item (c.as_slice-ended-items.ensures.same ∙ may.are) c.loop-ended-test.true
          (SoFar (MayDepart (drop (k + 1) locks) (drop (k + 1) items))
          (departing c.args.turn.now.at c.args.cause c.args.departure.now.who locks v)
          (all_released c.args.turn.now.at (drop (k + 1) locks)) v now
          c.args.turn.now c.release.new.turn)
          (λ x left is. depart_goes s now v (departing c.args.turn.now.at c.args.cause c.args.departure.now.who locks v) x
          (drop (k + 1) locks) (drop k locks) item (drop (k + 1) items) (drop k items)
          c.args.turn.now c.loop-ended.turn c.release.new.turn left is_item (c.loop-ended.invariant.made v locks may)
          c.in_ok-release.ensures.released);
      locks =
          let may = c.requires.may in
          let so_far = c.loop-ended.invariant.made may.0 may.1 may.2 in
          item_at (ended_with may.0.glimpses) may.1 items k item (c.as_slice-ended-items.ensures.same ∙ may.2.are) c.loop-ended-test.true
          (now.locks ≡ c.args.self.now.locks)
          (λ x left is. (c.in_ok-release.ensures.released (turn may.0 so_far.es)
          (depart_asks s may.0 _ _ x _ _ item _ _ c.args.turn.now c.loop-ended.turn left is_item so_far)).locks
          ∙ c.loop-ended.invariant.locks);
      disk = disk_then c.args.self.now.store s.store now.store c.loop-ended.invariant.disk c.release.ensures.disk;
    }

pub returns-clause-departed : goal.returns-clause-departed
returns-clause-departed g c =
    λ v locks may.
    depart_ends c.args.self.now c.loop-ended.self v (departing c.args.turn.now.at c.args.cause c.args.departure.now.who locks v)
    (drop c.loop-ended.ended-index locks) (drop c.loop-ended.ended-index c.as_slice-ended-items.result.now)
    c.args.turn.now c.loop-ended.turn
    (items_done (ended_with v.glimpses) locks c.as_slice-ended-items.result.now c.loop-ended.ended-index
    (c.as_slice-ended-items.ensures.same ∙ may.are) c.loop-ended-test.false)
    (c.loop-ended.invariant.made v locks may) c.loop-ended.invariant.locks
