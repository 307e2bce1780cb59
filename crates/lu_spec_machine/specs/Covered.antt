-- What the locks that came with an answer keep true: no transaction whose guards meet none of them changes it,
-- nor which locks they are.
use Rattle.std.specs.Prelude.{◌≡◌, ℕ, Bool, false, List, Some, ◌==◌, ◌&&◌}
use Rattle.lu_base.specs.declared.ids.Fid.{Fid}
use Rattle.lu_base.specs.declared.ids.Txn.{Txn}
use Rattle.lu_base.specs.declared.locks.Policy.TheVariants.{Bits}
use Rattle.lu_lock.specs.Overlap.{policies_meet}
use Rattle.lu_msg.specs.declared.answers.Answer.TheVariants.{Refused}
use Rattle.lu_msg.specs.declared.answers.Errno.{Errno}
use Rattle.lu_part.specs.Guards.{guard}
use Rattle.lu_part.specs.declared.parts.Part.{Part}
use Rattle.lu_part.specs.declared.parts.Want.{Want}
use Rattle.lu_spec_machine.specs.declared.child.Child.{Child}
use Rattle.lu_spec_machine.specs.Tree.{Tree, child, fid_of, same_fid}
use Rattle.lu_spec_machine.specs.Footprint.{Operation, empty, answer, grants, writes, after, Every}
use Rattle.lu_spec_machine.specs.Laws.{IsReading}
use Rattle.lu_spec_machine.specs.Removal.{Item, contents}
use Rattle.lu_spec_machine.specs.Trim.{Above}

-- the guard of a part meets a lock on an inode
abbrev pub cuts : Part → Want → Bool
cuts p k = same_fid (guard p).0.fid k.fid && ((guard p).0.stripe == 0 && policies_meet (guard p).1 (Bits k.bits))

-- no guard of what is written meets a lock
abbrev pub Uncut : List Part → List Want → Type 0
Uncut ws ks = Every (λ k. Every (λ w. cuts w k ≡ false) ws) ks

-- the number is new: it is not the root's, and no name leads to an inode of that number
abbrev pub IsNew : Tree → Txn → Type 0
IsNew t number = (number.0 ≡ 1 → ⊥) × ((d : Fid) (n : List ℕ) (c : Child) → child t d n ≡ Some c → number.0 ≡ (fid_of c).0 → ⊥)

abbrev pub LocksCover : Type 0
LocksCover =
    (osts : ℕ) (t : Tree) (a b : Operation) → IsNew t a.number → IsReading b.op → ((e : Errno) → answer osts t b ≡ Refused e → ⊥)
    → Uncut (writes osts t a) (grants osts t b)
    → (answer osts (after osts t a) b ≡ answer osts t b) × (grants osts (after osts t a) b ≡ grants osts t b)

-- a number above all of a past is new there
abbrev pub AboveIsNew : Type 0
AboveIsNew = (osts : ℕ) (past : List Item) (number : Txn) → Above past number.0 → IsNew (contents osts empty past) number
