-- What acts at the metadata target without a transaction changes nothing of the machine.
use Rattle.std.proofs.Common.{◌≡◌, ℕ, Bool, true, false, max, refl, ap, ◌∙◌, arith}
use Rattle.std.specs.Prelude.{not, ◌&&◌, nat_lt, if◌then◌else◌}
use Rattle.std.proofs.lemmas.Bool.Decides.{nat_tests}
use Rattle.lu_base.specs.declared.ids.Who.{Who}
use Rattle.lu_msg.specs.declared.operations.Op.{Op}
use Rattle.lu_spec_machine.specs.Tree.{Tree}
use Rattle.lu_spec_machine.specs.Footprint.{Operation, changes, after}
use Rattle.lu_spec_machine.specs.Machine.{Machine}
use Rattle.lu_spec_machine.proofs.Stated.{unchanged_stay}
use Rattle.lu_spec_laws.specs.Words.Histories.{ActsLeave, none}

abbrev tree_after : ℕ → Machine → Operation → Bool → Tree
tree_after osts m a v = if v && not (nat_lt m.last a.number.0) then m.tree else after osts m.tree a

below_none : (n : ℕ) → nat_lt n 0 ≡ false
below_none n = grind (arith, nat_tests)

tree_stays : (osts : ℕ) (m : Machine) (who : Who) (o : Op) (v : Bool) → changes osts m.tree (record { number = none; who = who; op = o })
    ≡ v → tree_after osts m (record { number = none; who = who; op = o }) v ≡ m.tree
tree_stays osts m who o true e = ap (λ (w : Bool). if not w then m.tree
    else after osts m.tree (record { number = none; who = who; op = o })) (below_none m.last)
tree_stays osts m who o false e = (unchanged_stay osts m.tree (record { number = none; who = who; op = o }) e).0

pub acts_leave : ActsLeave
acts_leave osts m who o =
    ap (λ (t : Tree). record m { tree = t; last = max m.last 0 })
    (tree_stays osts m who o (changes osts m.tree (record { number = none; who = who; op = o })) refl)
    ∙ ap (λ (n : ℕ). record m { last = n }) (omega arith)
