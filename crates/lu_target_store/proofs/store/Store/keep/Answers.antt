-- The journal kept the reply, and the request is answered.
use Rattle.std.proofs.Common.{sym, subst, rules}
use Rattle.lu_target_refines.specs.Journals.{IsAnswered}
use Rattle.lu_target_store.specs.Taken.{taken_of}
use Rattle.lu_target_store.specs.Stores.{StoreState, HasTaken, IsAnsweredBy}
use Rattle.lu_target_store.proofs.Showing.{IsKept, kept_shows}
use Rattle.lu_target_store.proofs.Keeping.{answered_keeps}
use Rattle.lu_target_store.proofs.store.Store.keep.Goals as goal

pub returns-clause-shows : goal.returns-clause-shows
returns-clause-shows g c =
    let kept : IsKept c.self.inside.journal c.keep.new.self c.self.inside.taken c.answer.new.self c.args.tag c.args.reply = record {
      some = search rules;
      answers = search rules;
      stored = search rules;
      replies = search rules;
      sound = search rules;
    } in
    let batches = g.D.Disk.batches c.self.inside.disk in
    let faults = g.D.Disk.faults c.self.inside.disk in
    let new : StoreState = record { journal = c.keep.new.self; taken = c.answer.new.self; batches = batches; faults = faults } in
    subst (λ (old : StoreState). IsAnsweredBy c.args.tag c.args.reply old new) c.self.view_is
    (kept_shows c.self.inside.journal c.keep.new.self c.self.inside.taken c.answer.new.self batches faults faults c.args.tag c.args.reply
    kept)

pub returns-clause-takes : goal.returns-clause-takes
returns-clause-takes g c =
    let is : IsAnswered c.args.reply.who c.args.tag (taken_of c.self.inside.taken) (taken_of c.answer.new.self) = search rules in
    λ who tag some.
    answered_keeps c.args.reply.who c.args.tag c.self.inside.taken c.answer.new.self is who tag
    (subst (λ (it : StoreState). HasTaken who tag it) (sym c.self.view_is) some)
