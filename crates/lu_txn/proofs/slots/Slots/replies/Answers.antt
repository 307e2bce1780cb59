-- The next slot's replies come after those before.
use Rattle.std.proofs.Common.{◌≡◌, ℕ, suc, ◌∷◌, ◌++◌, length, ap, subst, ◌∙◌, arith}
use Rattle.std.specs.Prelude.{All}
use Rattle.std.proofs.lemmas.List.{append_assoc}
use Rattle.lu_msg.specs.Limits.{tag_count}
use Rattle.lu_txn.specs.Slots.{tagged, kept_in}
use Rattle.lu_txn.proofs.slots.Slots.replies.Goals as goal

pub loop-slot-preserved : goal.loop-slot-preserved
loop-slot-preserved c =
    let slot = c.in-Some.slot.now in
    let slots = c.next.new.self in
    let replies = c.loop-slot.replies in
    let all : c.loop-slot.slot-iterator ≡ slot ∷ slots = c.in-Some.ensures.steps in
    let told : replies ++ kept_in (slot ∷ slots) ≡ kept_in c.args.self.now =
    subst (λ left. replies ++ kept_in left ≡ kept_in c.args.self.now) all c.loop-slot.invariant.0 in
    let eight = subst (λ left. All (λ one. length one.replies ≡ tag_count) left) all c.loop-slot.invariant.1 in (
      ap (λ more. more ++ kept_in slots) c.in_ok-add_to.ensures.added
          ∙ append_assoc replies (tagged slot.who 0 slot.replies) (kept_in slots) ∙ told,
      λ k d within. eight (suc k) d (omega arith),
    )
