-- A worked scenario: the answer to each act, and at its end which transactions a refused `rename` and the
-- list of `/` have seen, and the locks that come with that list.
use Rattle.std.proofs.Common.{◌≡◌, ℕ, ◌+◌, List, [], ◌∷◌, refl, pos}
use Rattle.std.specs.Prelude.{codes}
use Rattle.lu_base.specs.declared.ids.Txn.{Txn}
use Rattle.lu_base.specs.declared.ids.Who.{Who}
use Rattle.lu_msg.specs.declared.answers.Answer.{Answer}
use Rattle.lu_msg.specs.declared.answers.Answer.TheVariants as told
use Rattle.lu_msg.specs.declared.answers.Errno.TheVariants.{ENOTEMPTY, EINVAL}
use Rattle.lu_msg.specs.declared.operations.Op.{Op}
use Rattle.lu_msg.specs.declared.operations.Op.TheVariants as op
use Rattle.lu_spec_machine.specs.declared.acts.Act.{Act}
use Rattle.lu_spec_machine.specs.declared.acts.Deed.TheVariants.{Names}
use Rattle.lu_spec_machine.specs.Footprint.{Operation, empty, touches, grants}
use Rattle.lu_spec_machine.specs.Machine.{start, answers, run}
use Rattle.lu_spec_machine.specs.Removal.{Item, Acts, contents}
use Rattle.lu_spec_machine.specs.Seen.{seen}

-- the number of a transaction of boot 1
abbrev number : ℕ → Txn
number count = record { 0 = 4294967296 + count }

abbrev made : ℕ → Answer
made count = told.Made (record { 0 = 4294967296 + count })

abbrev none : Txn
none = record { 0 = 0 }

abbrev me : Who
me = record { client = 0; life = 1 }

abbrev act : Txn → Op → Act
act n o = record { who = me; number = n; deed = Names o }

abbrev a : List ℕ
a = codes "a"

abbrev b : List ℕ
b = codes "b"

abbrev f : List ℕ
f = codes "f"

abbrev g : List ℕ
g = codes "g"

abbrev acts : List Act
acts =
    act (number 1) (op.Mkdir (a ∷ []))
    ∷ act (number 2) (op.Create (f ∷ []) 1048576 (pos 1))
    ∷ act (number 3) (op.Link (f ∷ []) (g ∷ []))
    ∷ act none (op.Rename (f ∷ []) (f ∷ []))
    ∷ act none (op.Rename (f ∷ []) (g ∷ []))
    ∷ act (number 4) (op.Mkdir (b ∷ []))
    ∷ act (number 5) (op.Create (b ∷ codes "x" ∷ []) 1048576 (pos 1))
    ∷ act none (op.Rename (a ∷ []) (b ∷ []))
    ∷ act none (op.Rename (b ∷ []) (b ∷ codes "c" ∷ []))
    ∷ act none (op.List [])
    ∷ []

worked : answers 1 start acts
    ≡ made 1
    ∷ made 2
    ∷ told.Done
    ∷ told.Done
    ∷ told.Done
    ∷ made 4
    ∷ made 5
    ∷ told.Refused ENOTEMPTY
    ∷ told.Refused EINVAL
    ∷ told.Names (a ∷ b ∷ f ∷ g ∷ [])
    ∷ []
worked = refl

-- ---- the transactions of that, the newest first, and what was seen of them

abbrev asked : Txn → Op → Operation
asked n o = record { number = n; who = me; op = o }

abbrev past : List Item
past =
    Acts (asked (number 5) (op.Create (b ∷ codes "x" ∷ []) 1048576 (pos 1)))
    ∷ Acts (asked (number 4) (op.Mkdir (b ∷ [])))
    ∷ Acts (asked (number 3) (op.Link (f ∷ []) (g ∷ [])))
    ∷ Acts (asked (number 2) (op.Create (f ∷ []) 1048576 (pos 1)))
    ∷ Acts (asked (number 1) (op.Mkdir (a ∷ [])))
    ∷ []

same_tree : contents 1 empty past ≡ (run 1 start acts).tree
same_tree = refl

abbrev saw : Op → List ℕ
saw o = seen 1 (contents 1 empty) past (touches 1 (contents 1 empty past) (asked none o))

refused_saw : saw (op.Rename (a ∷ []) (b ∷ [])) ≡ (number 5).0 ∷ (number 4).0 ∷ (number 1).0 ∷ []
refused_saw = refl

list_saw : saw (op.List []) ≡ (number 4).0 ∷ (number 3).0 ∷ (number 2).0 ∷ (number 1).0 ∷ []
list_saw = refl

-- UPDATE on the root
list_grants : grants 1 (contents 1 empty past) (asked none (op.List [])) ≡ record { fid = record { 0 = 1 }; bits = 2 } ∷ []
list_grants = refl
