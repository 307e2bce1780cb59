-- The slots keep their lives.
use Rattle.std.proofs.Common.{rules}
use Rattle.std.specs.Prelude.{IsSome}
use Rattle.lu_txn.specs.Slots.{slot_of}
use Rattle.lu_txn.proofs.Lookups.{reply_after}
use Rattle.lu_txn.proofs.SlotLaws.{length-with_reply}
use Rattle.lu_txn.proofs.Soundness.{sound_kept}
use Rattle.lu_txn.proofs.journals.Journal.keep.Goals as goal

pub invariant_of-self : goal.invariant_of-self
invariant_of-self c = (
  rw c.keep.ensures.kept (sound_kept _ c.args.who c.args.tag c.args.reply c.self.invariant.0),
  c.self.invariant.1,
  rw (c.keep.ensures.kept, length-with_reply c.args.who c.args.tag c.args.reply c.self.inside.slots) c.self.invariant.2,
)

pub returns-clause-sound : goal.returns-clause-sound
returns-clause-sound c = (invariant_of-self c).0

pub returns-clause-replies : goal.returns-clause-replies
returns-clause-replies c = λ other t.
    let some : IsSome (slot_of c.args.who c.self.inside.slots) = search rules in
    rw (c.keep.ensures.kept, ← c.self.view_is) (reply_after c.args.who c.args.tag c.args.reply c.self.inside.slots other t c.requires.tag
    c.self.invariant.0.tags some)
