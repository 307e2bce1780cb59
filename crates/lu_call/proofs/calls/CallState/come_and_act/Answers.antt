use Rattle.std.proofs.Common.{◌≡◌, ◌∷◌, drop, sym, ap, subst}
use Rattle.std.proofs.lemmas.Result.{IfOk-weaker}
use Rattle.lu_spec_entries.specs.Carried.{Kind, Work}
use Rattle.lu_spec_client.specs.Advances.{acts, looks}
use Rattle.lu_call.specs.Going.{GoesBy}
use Rattle.lu_call.specs.Ranges.{IsActing}
use Rattle.lu_call.specs.Views.{kind_of, work_of}
use Rattle.lu_call.proofs.Reaching.{first_is, using_sound, goes_come}
use Rattle.lu_call.proofs.calls.CallState.come_and_act.Goals as goal

pub look_and_act-requires : goal.look_and_act-requires
look_and_act-requires c =
    let first : c.args.work.left.items ≡ c.index-wanted.result.now ∷ drop 1 c.args.work.left.items =
    first_is c.args.work.left.items c.index-wanted.result.now c.requires.some c.index-wanted.ensures in
    record {
      acting = subst IsActing (sym c.in_ok-take_up.ensures.used)
          (record {
            work = using_sound c.index-wanted.result.now c.args.lock (drop 1 c.args.work.left.items) (work_of c.args.work) first
                c.requires.acting.work;
            kind = c.requires.acting.kind;
          });
    }

pub returns : goal.returns
returns c =
    let first : c.args.work.left.items ≡ c.index-wanted.result.now ∷ drop 1 c.args.work.left.items =
    first_is c.args.work.left.items c.index-wanted.result.now c.requires.some c.index-wanted.ensures in
    let kind : kind_of c.take_up.new.work.kind ≡ kind_of c.args.work.kind = ap (λ (w : Work). w.kind) c.in_ok-take_up.ensures.used in
    record {
      goes = IfOk-weaker c.look_and_act.result _ _
          (λ out goes slot. goes_come c.args.self.now (work_of c.args.work) c.args.store.now
          (acts c.args.at slot (kind_of c.args.work.kind)) c.index-wanted.result.now c.args.lock first c.in_ok-take_up.ensures.pinned
          c.in_ok-take_up.ensures.used c.in_ok-take_up.ensures.store
          (subst (λ (k : Kind). GoesBy (looks slot (acts c.args.at slot k) c.take_up.new.work.left.items c.take_up.new.self
          (work_of c.take_up.new.work) c.take_up.new.store.store) slot c.look_and_act.new.self c.take_up.new.store
          c.look_and_act.new.store out) kind (goes slot))) c.look_and_act.ensures.goes;
    }
