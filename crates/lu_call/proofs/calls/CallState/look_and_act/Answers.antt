use Rattle.std.proofs.Common.{◌≡◌, Some, None, ap, subst}
use Rattle.std.proofs.lemmas.Result.{IfOk-weaker}
use Rattle.lu_spec_entries.specs.Carried.{Kind, Work}
use Rattle.lu_spec_client.specs.Advances.{acts}
use Rattle.lu_call.specs.Going.{GoesBy}
use Rattle.lu_call.specs.Looked.{Looked}
use Rattle.lu_call.specs.Views.{kind_of, work_of}
use Rattle.lu_call.proofs.Going.{goes_looked}
use Rattle.lu_call.proofs.calls.CallState.look_and_act.Goals as goal

pub returns-in-Some : goal.returns-in-Some
returns-in-Some c =
    let looked : Looked (Some c.in-Some.wanted) c.args.self.now c.look.new.self (work_of c.args.work) (work_of c.look.new.work)
    c.args.store.now c.look.new.store =
    rw c.in-Some.is at c.in_ok-wanted.ensures.looked in
    record {
      goes = λ slot. goes_looked (acts c.args.at slot (kind_of c.args.work.kind)) looked
          (c.ask_lock.ensures.asks slot c.look.new.store);
    }

pub returns-in-None : goal.returns-in-None
returns-in-None c =
    let looked : Looked None c.args.self.now c.look.new.self (work_of c.args.work) (work_of c.look.new.work) c.args.store.now
    c.look.new.store =
    rw c.in-None.is at c.in_ok-wanted.ensures.looked in
    let kind : kind_of c.look.new.work.kind ≡ kind_of c.args.work.kind = ap (λ (w : Work). w.kind) looked.same in
    record {
      goes = IfOk-weaker c.act.result _ _
          (λ out goes slot. goes_looked (acts c.args.at slot (kind_of c.args.work.kind)) looked
          (subst (λ (k : Kind). GoesBy (acts c.args.at slot k c.look.new.self (work_of c.look.new.work) c.look.new.store.store) slot
          c.act.new.self c.look.new.store c.act.new.store out) kind (goes slot))) c.act.ensures.goes;
    }
