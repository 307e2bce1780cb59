-- What is above the number stays.
use Rattle.std.proofs.Common.{◌≡◌, ◌≤◌, length, sym, subst, ◌∙◌, arith}
use Rattle.lu_txn.proofs.Soundness.{sound_committed}
use Rattle.lu_txn.proofs.journals.Journal.committed.Goals as goal

pub invariant_of-self : goal.invariant_of-self
invariant_of-self c =
    let to = c.args.to.0 in
    let removed = c.self.inside.removed in
    let given : to ≤ c.self.inside.log.newest = subst (λ j. to ≤ j.newest) (sym c.self.view_is) c.requires.given in
    let long : c.len-settled.result ≡ length removed.items = c.len-settled.ensures ∙ removed.ok.0 in (
      rw c.drop_to.ensures.left (sound_committed to _ _ _ given c.self.invariant.0),
      omega (arith, long),
      c.self.invariant.2,
    )

pub returns-clause-sound : goal.returns-clause-sound
returns-clause-sound c = (invariant_of-self c).0
