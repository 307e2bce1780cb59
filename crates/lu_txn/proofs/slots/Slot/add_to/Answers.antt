-- No tag is left.
use Rattle.std.proofs.Common.{◌≡◌, [], ◌++◌, drop, ap, sym, ◌∙◌, arith}
use Rattle.std.proofs.lemmas.List.{append-nil, drop_all}
use Rattle.lu_txn.specs.Slots.{tagged}
use Rattle.lu_txn.proofs.slots.Slot.add_to.Goals as goal

pub returns : goal.returns
returns c =
    let slot = c.args.self.now in
    let none : drop c.loop-tag.tag slot.replies ≡ [] = drop_all c.loop-tag.tag slot.replies
    (omega (arith, c.loop-tag-test.false, c.requires.tags)) in
    record {
      added = sym (append-nil c.loop-tag.replies) ∙ ap (λ rest. c.loop-tag.replies ++ tagged slot.who c.loop-tag.tag rest) (sym none)
          ∙ c.loop-tag.invariant;
    }
