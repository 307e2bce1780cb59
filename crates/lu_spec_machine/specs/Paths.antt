-- Where a path leads, what an operation that is done has done to it, and which chmod and rename change something.
use Rattle.std.specs.Prelude.{◌≡◌, ℕ, ℤ, Bool, true, false, not, List, [], ◌∷◌, ◌++◌, Option, Some, None, ◌==◌}
use Rattle.std.specs.Option.{option_and_then}
use Rattle.lu_base.specs.declared.ids.Fid.{Fid}
use Rattle.lu_base.specs.declared.ids.Txn.{Txn}
use Rattle.lu_base.specs.declared.ids.Who.{Who}
use Rattle.lu_layout.specs.Raid0.{Raid0}
use Rattle.lu_msg.specs.declared.answers.Answer.TheVariants as told
use Rattle.lu_msg.specs.declared.answers.Errno.{Errno}
use Rattle.lu_msg.specs.declared.operations.Op.{Op}
use Rattle.lu_msg.specs.declared.operations.Op.TheVariants as op
use Rattle.lu_spec_machine.specs.declared.child.Child.{Child}
use Rattle.lu_spec_machine.specs.declared.child.Child.TheVariants.{Dir, File}
use Rattle.lu_spec_machine.specs.Name.{is_too_long}
use Rattle.lu_spec_machine.specs.Tree.{Tree, same_fid, fid_of, child, attributes, layout}
use Rattle.lu_spec_machine.specs.Table.{root, found}
use Rattle.lu_spec_machine.specs.Footprint.{Operation, answer, changes, after, Every}
use Rattle.lu_spec_machine.specs.Covered.{IsNew}

-- from an inode name by name; through a file, or by a name that leads nowhere, nowhere
abbrev pub leads_to : Tree → Child → List (List ℕ) → Option Child
leads_to t at [] = Some at
leads_to t (File f) (n ∷ ns) = None
leads_to t (Dir d) (n ∷ ns) = option_and_then (λ c. leads_to t c ns) (child t d n)

abbrev pub at_path : Tree → List (List ℕ) → Option Child
at_path t path = leads_to t root path

module _ (osts : ℕ) (t : Tree) (number : Txn) (who : Who) where
  abbrev pub act : Op → Operation
  act o = record { number = number; who = who; op = o }

  abbrev pub done : Op → Tree
  done o = after osts t (act o)

  -- a look-up tells where the path leads
  abbrev pub LookupTells : List (List ℕ) → Child → Type 0
  LookupTells path c =
      record {
        right : answer osts t (act (op.Lookup path)) ≡ found c → at_path t path ≡ Some c;
        whole : Every (λ n. is_too_long n ≡ false) path → at_path t path ≡ Some c → answer osts t (act (op.Lookup path)) ≡ found c;
      }

  -- where paths lead once it is done
  abbrev pub DoneAtPaths : Type 0
  DoneAtPaths =
      record {
        mkdir : (path : List (List ℕ)) (f : Fid) → answer osts t (act (op.Mkdir path)) ≡ told.Made f → at_path (done (op.Mkdir path)) path
            ≡ Some (Dir f);
        create : (path : List (List ℕ)) (size : ℕ) (count : ℤ) (f : Fid) → answer osts t (act (op.Create path size count)) ≡ told.Made f
            → at_path (done (op.Create path size count)) path ≡ Some (File f);
        link : (old new : List (List ℕ)) → answer osts t (act (op.Link old new)) ≡ told.Done → at_path (done (op.Link old new)) new
            ≡ at_path t old;
        unlink : (path : List (List ℕ)) → answer osts t (act (op.Unlink path)) ≡ told.Done → at_path (done (op.Unlink path)) path ≡ None;
        rmdir : (path : List (List ℕ)) → answer osts t (act (op.Rmdir path)) ≡ told.Done → at_path (done (op.Rmdir path)) path ≡ None;
        rename : (old new : List (List ℕ)) → changes osts t (act (op.Rename old new)) ≡ true → at_path (done (op.Rename old new)) new
            ≡ at_path t old;
        left : (old new front : List (List ℕ)) (n : List ℕ) (d : Fid) → old ≡ front ++ n ∷ [] → at_path t front ≡ Some (Dir d)
            → changes osts t (act (op.Rename old new)) ≡ true → child (done (op.Rename old new)) d n ≡ None;
        chmod : (path : List (List ℕ)) (mode : ℕ) (c : Child) → answer osts t (act (op.Chmod path mode)) ≡ told.Done → at_path t path
            ≡ Some c → (attributes (done (op.Chmod path mode)) c).mode ≡ mode;
        opened : (path : List (List ℕ)) (f : Fid) (n : Txn) (l : Raid0) → answer osts t (act (op.Open path)) ≡ told.OpenFile f n l
            → (at_path t path ≡ Some (File f)) × (l ≡ layout t f)
            × ((done (op.Open path)).opens ≡ t.opens ++ record { number = number; life = who; fid = f } ∷ []);
      }

abbrev pub LookupsTell : Type 0
LookupsTell = (osts : ℕ) (t : Tree) (number : Txn) (who : Who) (path : List (List ℕ)) (c : Child) → LookupTells osts t number who path c

abbrev pub PathsFollow : Type 0
PathsFollow = (osts : ℕ) (t : Tree) (number : Txn) (who : Who) → IsNew t number → DoneAtPaths osts t number who

-- both lead somewhere, and to one inode
abbrev pub is_one : Option Child → Option Child → Bool
is_one (Some c) (Some g) = same_fid (fid_of g) (fid_of c)
is_one _ _ = false

-- it leads somewhere, and that mode stands there
abbrev pub has_mode : Tree → ℕ → Option Child → Bool
has_mode t mode None = false
has_mode t mode (Some c) = (attributes t c).mode == mode

-- a chmod that isn't refused changes something exactly where another mode stands
abbrev pub ChmodsChange : Type 0
ChmodsChange =
    (osts : ℕ) (t : Tree) (number : Txn) (who : Who) (path : List (List ℕ)) (mode : ℕ)
    → ((e : Errno) → answer osts t (act osts t number who (op.Chmod path mode)) ≡ told.Refused e → ⊥)
    → changes osts t (act osts t number who (op.Chmod path mode)) ≡ not (has_mode t mode (at_path t path))

-- a rename that isn't refused changes something but where both paths lead to one inode
abbrev pub RenamesChange : Type 0
RenamesChange =
    (osts : ℕ) (t : Tree) (number : Txn) (who : Who) (old new : List (List ℕ))
    → ((e : Errno) → answer osts t (act osts t number who (op.Rename old new)) ≡ told.Refused e → ⊥)
    → changes osts t (act osts t number who (op.Rename old new)) ≡ not (is_one (at_path t old) (at_path t new))
