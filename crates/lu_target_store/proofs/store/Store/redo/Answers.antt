-- The journal has the kept transaction.
use Rattle.std.proofs.Common.{◌≡◌, OnOk, sym, subst, rules}
use Rattle.lu_spec_entries.specs.Carried.{Deed}
use Rattle.lu_target_refines.specs.Batches.{appended_one}
use Rattle.lu_target_store.specs.Stores.{StoreState, Redoes, IsRedone}
use Rattle.lu_target_store.proofs.Closing.{one_more}
use Rattle.lu_target_store.proofs.store.Store.redo.Goals.{in-Ok, in-Err-Memory}
use Rattle.lu_target_store.proofs.store.Store.redo.Goals as goal

pub returns-clause-redone : goal.returns-clause-redone
returns-clause-redone g c =
    let d : Deed = record { tag = c.args.tag; op = c.args.op; writes = c.args.writes; reply = c.args.reply } in
    let batches = g.D.Disk.batches c.self.inside.disk in
    let faults = g.D.Disk.faults c.self.inside.disk in
    let new : StoreState = record { journal = c.append.new.self; taken = c.self.inside.taken; batches = batches; faults = faults } in
    let Redone : Type 0 = IsRedone d c.args.self.now new in
    elim c.match-append.branch [
      | in-Ok w ↦
          let added : c.append.new.self ≡ appended_one c.self.inside.journal d = search rules in
          let redone : Redone = (λ v deeds shows. one_more c.self.inside.journal c.append.new.self c.self.inside.taken batches faults faults
          v deeds d added (subst (λ (it : StoreState). Redoes deeds it v) (sym c.self.view_is) shows)) in
          subst (λ r. OnOk r Redone) (sym w.result-is) redone
      | in-Err-Memory w ↦ subst (λ r. OnOk r Redone) (sym w.result-is) (search rules)
    ]
