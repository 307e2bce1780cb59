-- The journal has the transaction, and the request is answered.
use Rattle.std.proofs.Common.{◌≡◌, OnOk, sym, subst, rules}
use Rattle.std.specs.Prelude.{IsSome}
use Rattle.lu_spec_entries.specs.Carried.{Deed}
use Rattle.lu_spec_entries.specs.Words.{Txn}
use Rattle.lu_txn.specs.Slots.{slot_of, IsReplyKept}
use Rattle.lu_txn.specs.Journals.{appended}
use Rattle.lu_spec_target.specs.Replies.{next_number}
use Rattle.lu_spec_target.specs.States.{Target, after}
use Rattle.lu_target_refines.specs.Journals.{IsAnswered}
use Rattle.lu_target_store.specs.Taken.{taken_of}
use Rattle.lu_target_store.specs.Stores.{StoreState, Serves, HasTaken, KeepsTaken}
use Rattle.lu_target_store.proofs.Showing.{transacted}
use Rattle.lu_target_store.proofs.Keeping.{answered_keeps}
use Rattle.lu_target_store.proofs.store.Store.append.Goals.{in-Ok, in-Err-Memory}
use Rattle.lu_target_store.proofs.store.Store.append.Goals as goal

pub returns-clause-shows : goal.returns-clause-shows
returns-clause-shows g c =
    let d : Deed = record { tag = c.args.tag; op = c.args.op; writes = c.args.writes; reply = c.args.reply } in
    let batches = g.D.Disk.batches c.self.inside.disk in
    let faults = g.D.Disk.faults c.self.inside.disk in
    let Shows : Type 0 = (v : Target) → Serves c.args.self.now v → c.args.reply.txn ≡ next_number v
    → Serves (record { journal = c.append.new.self; taken = c.answer.new.self; batches = batches; faults = faults }) (after v (Txn d))
    in
    elim c.match-append.branch [
      | in-Ok w ↦
          let slot : IsSome (slot_of d.reply.who c.self.inside.journal.slots) = search rules in
          let some : IsSome (taken_of c.self.inside.taken d.reply.who d.tag) = search rules in
          let is : IsAnswered d.reply.who d.tag (taken_of c.self.inside.taken) (taken_of c.answer.new.self) = search rules in
          let added : c.append.new.self ≡ appended d.reply.txn d.reply.who d.tag d.op d.writes d.reply c.self.inside.journal = search rules
          in
          let replies : IsReplyKept d.reply.who d.tag d.reply c.self.inside.journal.slots c.append.new.self.slots = search rules in
          let shows : Shows = (λ v s next. transacted c.self.inside.journal c.append.new.self c.self.inside.taken c.answer.new.self batches
          faults faults d slot some is added replies c.append.ensures.sound v (subst (λ it. Serves it v) (sym c.self.view_is) s) next)
          in
          subst (λ r. OnOk r Shows) (sym w.result-is) shows
      | in-Err-Memory w ↦ subst (λ r. OnOk r Shows) (sym w.result-is) (search rules)
    ]

pub returns-clause-takes : goal.returns-clause-takes
returns-clause-takes g c =
    let batches = g.D.Disk.batches c.self.inside.disk in
    let faults = g.D.Disk.faults c.self.inside.disk in
    let Takes : Type 0 = KeepsTaken c.args.self.now (record {
      journal = c.append.new.self;
      taken = c.answer.new.self;
      batches = batches;
      faults = faults;
    }) in
    elim c.match-append.branch [
      | in-Ok w ↦
          let is : IsAnswered c.args.reply.who c.args.tag (taken_of c.self.inside.taken) (taken_of c.answer.new.self) = search rules in
          let takes : Takes = (λ who tag some.
          answered_keeps c.args.reply.who c.args.tag c.self.inside.taken c.answer.new.self is who tag
          (subst (λ (it : StoreState). HasTaken who tag it) (sym c.self.view_is) some)) in
          subst (λ r. OnOk r Takes) (sym w.result-is) takes
      | in-Err-Memory w ↦ subst (λ r. OnOk r Takes) (sym w.result-is) (search rules)
    ]
