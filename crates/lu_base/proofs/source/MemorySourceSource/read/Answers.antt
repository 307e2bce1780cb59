-- The bytes that came are the first of those that were left.
use Rattle.std.proofs.Common.{arith, length, take, drop, List, ℕ, subst, sym, ap, ◌∙◌, ◌-◌, ◌≡◌, ◌+◌, ◌≤◌}
use Rattle.std.proofs.lemmas.Grind.{common_steps}
use Rattle.lu_base.proofs.KnownBytes.{rest_read, none_left}
use Rattle.lu_base.proofs.source.MemorySourceSource.read.Goals as goal

pub returns-clause-bytes : goal.returns-clause-bytes
returns-clause-bytes c =
    let held = c.self.inside.held in
    let position = c.self.inside.position in
    let count = c.min-count.result in
    let within : position + count ≤ length held = grind (arith, common_steps) in
    let P : List ℕ → Type 0 = λ w. c.copy_from_slice.new.self ≡ take count (take (length w - position) (drop position w)) in
    let out = subst P c.as_slice-2.ensures.same c.copy_from_slice.ensures.after in
    let left : c.args.self.now.left ≡ drop position held = sym (ap (λ v. v.left) c.self.view_is) in (
      left ∙ rest_read held c.copy_from_slice.new.self _ position count within out,
      λ none room. none_left held position count (grind arith) none (grind (arith, common_steps)),
    )
