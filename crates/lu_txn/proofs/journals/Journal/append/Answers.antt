-- The transactions and the one that is added are sound together.
use Rattle.std.proofs.Common.{◌≡◌, ◌+◌, ◌*◌, ◌^◌, ◌<◌, sym, subst, rules}
use Rattle.std.specs.Prelude.{IsSome}
use Rattle.lu_txn.specs.Slots.{slot_of}
use Rattle.lu_txn.proofs.Lookups.{reply_after}
use Rattle.lu_txn.proofs.SlotLaws.{length-with_reply}
use Rattle.lu_txn.proofs.Soundness.{sound_appended}
use Rattle.lu_txn.proofs.journals.Journal.append.Goals as goal

pub invariant_of-self-2 : goal.invariant_of-self-2
invariant_of-self-2 c =
    let journal = c.self.inside in
    let number = c.args.number.0 in
    let above : journal.log.newest < number = subst (λ j. j.newest < number) (sym c.self.view_is) c.requires.above in
    let boot : number < (journal.boot + 1) * 2 ^ 32 = subst (λ j. number < (j.boot + 1) * 2 ^ 32) (sym c.self.view_is) c.requires.boot in (
      rw (c.in_ok-push.ensures.added, c.in_ok-kept.ensures.same, c.keep.ensures.kept)
          (sound_appended c.args.number c.args.who c.args.tag c.args.op c.args.writes c.args.reply _ c.requires.tag above boot
          c.self.invariant.0),
      c.self.invariant.1,
      rw (c.keep.ensures.kept, length-with_reply c.args.who c.args.tag c.args.reply journal.slots) c.self.invariant.2,
    )

pub returns-clause-sound : goal.returns-clause-sound
returns-clause-sound c = (invariant_of-self-2 c).0

pub returns-clause-replies : goal.returns-clause-replies
returns-clause-replies c = λ other t.
    let some : IsSome (slot_of c.args.who c.self.inside.slots) = search rules in
    rw (c.keep.ensures.kept, ← c.self.view_is) (reply_after c.args.who c.args.tag c.args.reply c.self.inside.slots other t c.requires.tag
    c.self.invariant.0.tags some)
