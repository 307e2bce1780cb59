-- The lives of the slots are those of the rows.
use Rattle.std.proofs.Common.{◌≡◌, is_some, ap, sym, ◌∙◌, rules}
use Rattle.lu_spec_target.specs.Lives.{is_life}
use Rattle.lu_txn.specs.Slots.{slot_of}
use Rattle.lu_target_refines.proofs.LifeLists.{has_slot}
use Rattle.lu_target_store.proofs.store.Store.serves.Goals as goal

pub returns-clause-serving : goal.returns-clause-serving
returns-clause-serving g c =
    let is : c.is_ok.result ≡ is_some (slot_of c.args.who c.args.self.now.journal.slots) = search rules in
    λ v s. is ∙ has_slot c.args.who c.args.self.now.journal.slots ∙ ap (is_life c.args.who) (sym s.journal.booted.lives)

pub returns-clause-recovering : goal.returns-clause-recovering
returns-clause-recovering g c =
    let is : c.is_ok.result ≡ is_some (slot_of c.args.who c.args.self.now.journal.slots) = search rules in
    λ v s. is ∙ has_slot c.args.who c.args.self.now.journal.slots ∙ ap (is_life c.args.who) (sym s.journal.booted.lives)
