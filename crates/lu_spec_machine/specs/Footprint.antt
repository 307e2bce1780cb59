-- What an act on names answers, touches, writes, grants and leaves; and when two trees hold the same at a part.
use Rattle.std.specs.Prelude.{◌≡◌, ℕ, Bool, true, false, not, List, [], ◌∷◌}
use Rattle.std.specs.List.{filter}
use Rattle.lu_base.specs.declared.ids.Fid.{Fid}
use Rattle.lu_base.specs.declared.ids.Txn.{Txn}
use Rattle.lu_base.specs.declared.ids.Who.{Who}
use Rattle.lu_msg.specs.declared.answers.Answer.{Answer}
use Rattle.lu_msg.specs.declared.operations.Op.{Op}
use Rattle.lu_msg.specs.declared.operations.Op.TheVariants as op
use Rattle.lu_part.specs.declared.parts.Part.{Part}
use Rattle.lu_part.specs.declared.parts.Part.TheVariants as part
use Rattle.lu_part.specs.declared.parts.Want.{Want}
use Rattle.lu_part.specs.Meets.{meets}
use Rattle.lu_spec_machine.specs.declared.child.Child.TheVariants.{Dir, File}
use Rattle.lu_spec_machine.specs.Tree.{Tree, same_life, child, listing, attributes, layout}
use Rattle.lu_spec_machine.specs.Change.{Change, new_directory, changed, written}
use Rattle.lu_spec_machine.specs.Plan.{Outcome, outcome, looked}
use Rattle.lu_spec_machine.specs.Table.{plan}

-- an operation on names, under the number of its transaction (0 where it makes none), by a life
pub record Operation : Type 0 where
  pub number : Txn
  pub who : Who
  pub op : Op

-- the tree of a new file system: the root, octal 755, without names
abbrev pub empty : Tree
empty = record { dirs = (record { 0 = 1 }, new_directory) ∷ []; files = []; opens = [] }

abbrev pub is_some_change : List Change → Bool
is_some_change [] = false
is_some_change (x ∷ xs) = true

module _ (osts : ℕ) (t : Tree) (a : Operation) where
  abbrev pub outcome_of : Outcome
  outcome_of = outcome t (plan osts a.number a.who a.op)

  abbrev pub answer : Answer
  answer = outcome_of.answer

  abbrev pub grants : List Want
  grants = outcome_of.grants

  abbrev pub touches : List Part
  touches = looked t (plan osts a.number a.who a.op)

  abbrev pub writes : List Part
  writes = written outcome_of.changes

  -- whether it makes a transaction
  abbrev pub changes : Bool
  changes = is_some_change outcome_of.changes

  abbrev pub after : Tree
  after = changed t outcome_of.changes

-- whether the asking life has a part in what an operation answers, touches, writes and grants
abbrev pub asks_life : Op → Bool
asks_life (op.Lookup path) = false
asks_life (op.Stat path) = false
asks_life (op.List path) = false
asks_life (op.Layout path) = false
asks_life (op.Mkdir path) = false
asks_life (op.Create path size count) = false
asks_life (op.Link old new) = false
asks_life (op.Unlink path) = false
asks_life (op.Rmdir path) = false
asks_life (op.Rename old new) = false
asks_life (op.Chmod path mode) = false
asks_life (op.Open path) = false
asks_life (op.Close opened fid) = false
asks_life (op.Enqueue resource mode extent) = false
asks_life (op.Get resource cookie page) = false
asks_life (op.Put resource cookie offset bytes) = false
asks_life (op.Cut resource cookie size) = false
asks_life (op.Size resource) = false

-- the opens of a life go
abbrev pub forget : Tree → Who → Tree
forget t who = record t { opens = filter (λ o. not (same_life o.life who)) t.opens }

-- the two trees hold the same there; of Parent and of bytes a tree holds nothing
abbrev pub Same : Tree → Tree → Part → Type 0
Same t u (part.Name d n) = child t d n ≡ child u d n
Same t u (part.List d) = listing t d ≡ listing u d
Same t u (part.Attr f) = (attributes t (Dir f) ≡ attributes u (Dir f)) × (attributes t (File f) ≡ attributes u (File f))
Same t u (part.Layout f) = layout t f ≡ layout u f
Same t u (part.Parent f) = Unit {0}
Same t u (part.Bytes f stripe extent) = Unit {0}

abbrev pub Every : {A : Type 0} → (A → Type 0) → List A → Type 0
Every P [] = Unit {0}
Every P (x ∷ xs) = P x × Every P xs

-- the part meets none of them
abbrev pub Apart : List Part → Part → Type 0
Apart ws p = Every (λ w. meets w p ≡ false) ws

-- the inode that a part is of
abbrev pub inode_of : Part → Fid
inode_of (part.Name d n) = d
inode_of (part.List d) = d
inode_of (part.Attr f) = f
inode_of (part.Layout f) = f
inode_of (part.Parent f) = f
inode_of (part.Bytes f stripe extent) = f
