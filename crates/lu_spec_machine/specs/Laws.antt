-- The laws of footprints and of removal, over the table.
use Rattle.std.specs.Prelude.{◌≡◌, ◌≢◌, ℕ, ◌+◌, ◌%◌, ◌<◌, ◌≤◌, ◌⊎◌, Bool, true, false, not, List, [], ◌∷◌, Some, ℤ, length, slice_index}
use Rattle.std.specs.List.{filter}
use Rattle.lu_base.specs.declared.ids.Cookie.{Cookie}
use Rattle.lu_base.specs.declared.ids.Fid.{Fid}
use Rattle.lu_base.specs.declared.ids.Txn.{Txn}
use Rattle.lu_base.specs.declared.ids.Who.{Who}
use Rattle.lu_base.specs.declared.locks.Resource.{Resource}
use Rattle.lu_layout.specs.Raid0.{Raid0}
use Rattle.lu_layout.specs.Sound.{IsLayout}
use Rattle.lu_msg.specs.declared.answers.Answer.TheVariants.{Done, Made, Refused}
use Rattle.lu_msg.specs.declared.answers.Errno.{Errno}
use Rattle.lu_msg.specs.declared.answers.Errno.TheVariants.{EBADF}
use Rattle.lu_msg.specs.declared.calls.Call.TheVariants as call
use Rattle.lu_msg.specs.declared.operations.Op.{Op}
use Rattle.lu_msg.specs.declared.operations.Op.TheVariants as op
use Rattle.lu_part.specs.declared.parts.Part.{Part}
use Rattle.lu_part.specs.declared.parts.Part.TheVariants.{Parent}
use Rattle.lu_spec_machine.specs.declared.acts.Act.{Act}
use Rattle.lu_spec_machine.specs.declared.acts.Deed.TheVariants.{Data}
use Rattle.lu_spec_machine.specs.declared.child.Child.{Child}
use Rattle.lu_spec_machine.specs.Tree.{Tree, child, fid_of, same_life}
use Rattle.lu_spec_machine.specs.Footprint.{Operation, empty, answer, grants, touches, writes, changes, asks_life, after, forget, Same}
use Rattle.lu_spec_machine.specs.Footprint.{Every, Apart, inode_of}
use Rattle.lu_spec_machine.specs.Objects.{object_after}
use Rattle.lu_spec_machine.specs.Machine as machine
use Rattle.lu_spec_machine.specs.Machine.{Machine}
use Rattle.lu_spec_machine.specs.Striping.{stripe_size, stripe_count, new_layout}
use Rattle.lu_spec_machine.specs.Removal.{Item, Acts, Forgets, pick, contents, Untouched, Clear, Free, Older}

abbrev pub Alike : ℕ → Tree → Tree → Operation → Type 0
Alike osts t u a =
    record {
      answer : answer osts t a ≡ answer osts u a;
      touches : touches osts t a ≡ touches osts u a;
      writes : writes osts t a ≡ writes osts u a;
      grants : grants osts t a ≡ grants osts u a;
      changes : changes osts t a ≡ changes osts u a;
    }

-- trees that agree on what an act touches give it the same
abbrev pub TouchedDecide : Type 0
TouchedDecide = (osts : ℕ) (t u : Tree) (a : Operation) → Every (Same t u) (touches osts t a) → Alike osts t u a

-- what meets nothing that is written stays, but in the inode that is made
abbrev pub OthersStay : Type 0
OthersStay = (osts : ℕ) (t : Tree) (a : Operation) (p : Part) → Apart (writes osts t a) p → (answer osts t a ≡ Made (inode_of p) → ⊥)
    → Same t (after osts t a) p

-- and that inode has the act's number
abbrev pub MadeHasNumber : Type 0
MadeHasNumber = (osts : ℕ) (t : Tree) (a : Operation) (f : Fid) → answer osts t a ≡ Made f → f.0 ≡ a.number.0

-- each part after it depends on what it touches and on that part before it, the written ones too
abbrev pub NewFromOld : Type 0
NewFromOld = (osts : ℕ) (t u : Tree) (a : Operation) (p : Part) → Every (Same t u) (touches osts t a) → Same t u p
    → Same (after osts t a) (after osts u a) p

-- a refusal makes no transaction, and grants and writes nothing
abbrev pub RefusalsStay : Type 0
RefusalsStay = (osts : ℕ) (t : Tree) (a : Operation) (e : Errno) → answer osts t a ≡ Refused e → (changes osts t a ≡ false)
    × (grants osts t a ≡ []) × (writes osts t a ≡ []) × (after osts t a ≡ t)

-- what makes no transaction changes and writes nothing
abbrev pub UnchangedStay : Type 0
UnchangedStay = (osts : ℕ) (t : Tree) (a : Operation) → changes osts t a ≡ false → (after osts t a ≡ t) × (writes osts t a ≡ [])

-- what a transaction is: it grants nothing, since only readings do
abbrev pub TransactionsGrantNothing : Type 0
TransactionsGrantNothing = (osts : ℕ) (t : Tree) (a : Operation) → changes osts t a ≡ true → grants osts t a ≡ []

-- what an operation touches, writes and grants, and whether it makes a transaction, depend neither on the number that it
-- gets nor, where it doesn't ask that, on the life that asks
abbrev pub NumberIsFree : Type 0
NumberIsFree =
    (osts : ℕ) (t : Tree) (a b : Operation) → a.op ≡ b.op → (a.who ≡ b.who) ⊎ (asks_life a.op ≡ false)
    → record {
      touches : touches osts t a ≡ touches osts t b;
      writes : writes osts t a ≡ writes osts t b;
      grants : grants osts t a ≡ grants osts t b;
      changes : changes osts t a ≡ changes osts t b;
    }

-- the operations that only look
abbrev pub IsReading : Op → Type 0
IsReading (op.Lookup path) = Unit {0}
IsReading (op.Stat path) = Unit {0}
IsReading (op.List path) = Unit {0}
IsReading (op.Layout path) = Unit {0}
IsReading (op.Mkdir path) = ⊥
IsReading (op.Create path size count) = ⊥
IsReading (op.Link old new) = ⊥
IsReading (op.Unlink path) = ⊥
IsReading (op.Rmdir path) = ⊥
IsReading (op.Rename old new) = ⊥
IsReading (op.Chmod path mode) = ⊥
IsReading (op.Open path) = ⊥
IsReading (op.Close opened fid) = ⊥
IsReading (op.Enqueue resource mode extent) = ⊥
IsReading (op.Get resource cookie page) = ⊥
IsReading (op.Put resource cookie offset bytes) = ⊥
IsReading (op.Cut resource cookie size) = ⊥
IsReading (op.Size resource) = ⊥

-- the seven operations that change something wherever they aren't refused. `rename` and `chmod` aren't among
-- them: of two names of one inode, and to the mode that stands, they change nothing
abbrev pub AlwaysChanges : Op → Type 0
AlwaysChanges (op.Mkdir path) = Unit {0}
AlwaysChanges (op.Create path size count) = Unit {0}
AlwaysChanges (op.Link old new) = Unit {0}
AlwaysChanges (op.Unlink path) = Unit {0}
AlwaysChanges (op.Rmdir path) = Unit {0}
AlwaysChanges (op.Open path) = Unit {0}
AlwaysChanges (op.Close opened fid) = Unit {0}
AlwaysChanges (op.Lookup path) = ⊥
AlwaysChanges (op.Stat path) = ⊥
AlwaysChanges (op.List path) = ⊥
AlwaysChanges (op.Layout path) = ⊥
AlwaysChanges (op.Rename old new) = ⊥
AlwaysChanges (op.Chmod path mode) = ⊥
AlwaysChanges (op.Enqueue resource mode extent) = ⊥
AlwaysChanges (op.Get resource cookie page) = ⊥
AlwaysChanges (op.Put resource cookie offset bytes) = ⊥
AlwaysChanges (op.Cut resource cookie size) = ⊥
AlwaysChanges (op.Size resource) = ⊥

abbrev pub ReadingsChangeNothing : Type 0
ReadingsChangeNothing = (osts : ℕ) (t : Tree) (a : Operation) → IsReading a.op → changes osts t a ≡ false

abbrev pub AlwaysMakeTransactions : Type 0
AlwaysMakeTransactions = (osts : ℕ) (t : Tree) (a : Operation) → AlwaysChanges a.op → ((e : Errno) → answer osts t a ≡ Refused e → ⊥)
    → changes osts t a ≡ true

-- the machine is the table, where the number of what makes a transaction is above all before it
abbrev pub MachineIsTable : Type 0
MachineIsTable =
    (osts : ℕ) (m : Machine) (a : Operation) → (changes osts m.tree a ≡ true → m.last < a.number.0)
    → (machine.names_answer osts m a ≡ machine.as_told m (answer osts m.tree a))
    × ((machine.names_next osts m a).tree ≡ after osts m.tree a)

-- under a number that was passed, what would make a transaction is refused, and the tree and the bytes stay
abbrev pub PassedIsRefused : Type 0
PassedIsRefused =
    (osts : ℕ) (m : Machine) (a : Operation) → changes osts m.tree a ≡ true → a.number.0 ≤ m.last
    → (machine.names_answer osts m a ≡ Refused EBADF) × ((machine.names_next osts m a).tree ≡ m.tree)
    × ((machine.names_next osts m a).bytes ≡ m.bytes)

-- a flush is done and changes nothing
abbrev pub FlushesStay : Type 0
FlushesStay =
    (osts : ℕ) (m : Machine) (i : Act) (f : Fid) (handle : ℕ)
    → record {
      answer : machine.answer_to osts m i (Data f (call.Flush handle)) ≡ Done;
      tree : (machine.next_after osts m i (Data f (call.Flush handle))).tree ≡ m.tree;
      last : (machine.next_after osts m i (Data f (call.Flush handle))).last ≡ m.last;
      bytes : (g : Fid) → machine.bytes_of (machine.next_after osts m i (Data f (call.Flush handle))) g ≡ machine.bytes_of m g;
    }

-- what reaches an object changes it as the operation does, and no other object
abbrev pub Reaches : Machine → Op → Resource → Type 0
Reaches m o resource =
    record {
      own : machine.object_of (machine.piece_next m o) resource.fid resource.stripe
          ≡ object_after o (machine.object_of m resource.fid resource.stripe);
      others : (f : Fid) (stripe : ℕ) → (f ≢ resource.fid) ⊎ (stripe ≢ resource.stripe)
          → machine.object_of (machine.piece_next m o) f stripe ≡ machine.object_of m f stripe;
    }

abbrev pub PiecesReach : Type 0
PiecesReach =
    (m : Machine) (resource : Resource) (cookie : Cookie)
    → record {
      put : (offset : ℕ) (bytes : List ℕ) → Reaches m (op.Put resource cookie offset bytes) resource;
      cut : (size : ℕ) → Reaches m (op.Cut resource cookie size) resource;
    }

-- the layout of a new file: its size and the number of its stripes, where they lie, and that it is one
abbrev pub NewLayouts : Type 0
NewLayouts =
    (osts : ℕ) (number : Txn) (size : ℕ) (count : ℤ) (l : Raid0) → new_layout osts number size count ≡ Some l
    → record {
      size : l.size ≡ stripe_size size;
      stripes : length l.targets ≡ stripe_count osts count;
      places : (i : ℕ) → i < length l.targets → slice_index l.targets i ≡ 1 + (number.0 % 4294967296 + i) % osts;
      sound : 0 < osts → osts ≤ 8 → IsLayout l;
    }

-- `forget` drops the opens of that life and nothing else
abbrev pub ForgetDropsOpens : Type 0
ForgetDropsOpens =
    (t : Tree) (who : Who)
    → record {
      dirs : (forget t who).dirs ≡ t.dirs;
      files : (forget t who).files ≡ t.files;
      own : filter (λ o. same_life o.life who) (forget t who).opens ≡ [];
      others : (forget t who).opens ≡ filter (λ o. not (same_life o.life who)) t.opens;
    }

-- what a name leads to changes only where Parent of that inode is written (in a directory that was there before)
abbrev pub LeadsStay : Type 0
LeadsStay =
    (osts : ℕ) (t : Tree) (a : Operation) (d : Fid) (n : List ℕ) (c : Child) → child t d n ≡ Some c → (a.number.0 ≡ d.0 → ⊥)
    → Apart (writes osts t a) (Parent (fid_of c))
    → child (after osts t a) d n ≡ Some c

-- taking out the acts whose numbers aren't kept, where none that stays touched what an earlier one of them
-- wrote: the next act comes out the same, if it touches nothing that they wrote
abbrev pub RemovalLaw : Type 0
RemovalLaw =
    (osts : ℕ) (start : Tree) (keep : ℕ → Bool) → keep 1 ≡ true → Older keep start → (past : List Item) → Free osts start keep past
    → (a : Operation) → Untouched osts start keep past a
    → Alike osts (contents osts start past) (contents osts start (pick keep past)) a

-- and the contents agree on each part that meets nothing that they wrote, of an inode that they didn't make
abbrev pub RemovalAgrees : Type 0
RemovalAgrees =
    (osts : ℕ) (start : Tree) (keep : ℕ → Bool) → keep 1 ≡ true → Older keep start → (past : List Item) → Free osts start keep past
    → (p : Part) → Clear osts start keep past p → keep (inode_of p).0 ≡ true
    → Same (contents osts start past) (contents osts start (pick keep past)) p

abbrev pub AllKept : (ℕ → Bool) → List Item → Type 0
AllKept keep [] = Unit {0}
AllKept keep (Acts a ∷ past) = (keep a.number.0 ≡ true) × AllKept keep past
AllKept keep (Forgets who ∷ past) = AllKept keep past

-- contents that earlier acts have left have only names that lead to the root or to inodes with their numbers
abbrev pub EarlierAreOlder : Type 0
EarlierAreOlder = (osts : ℕ) (keep : ℕ → Bool) → keep 1 ≡ true → (past : List Item) → AllKept keep past
    → Older keep (contents osts empty past)
