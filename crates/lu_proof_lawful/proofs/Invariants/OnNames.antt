-- What calls become: operations on names. How they are answered, and what a user is told of it as it is.
use Rattle.std.proofs.Common.{◌≡◌, ℕ, true, List, Option, Some, None, refl, sym, subst, ap, ◌∙◌, pos}
use Rattle.lu_layout.specs.Raid0.{Raid0}
use Rattle.lu_base.specs.declared.ids.Fid.{Fid}
use Rattle.lu_base.specs.declared.ids.Txn.{Txn}
use Rattle.lu_msg.specs.declared.answers.Answer.{Answer}
use Rattle.lu_msg.specs.declared.answers.Answer.TheVariants as told
use Rattle.lu_msg.specs.declared.calls.Call.{Call}
use Rattle.lu_msg.specs.declared.calls.Call.TheVariants as call
use Rattle.lu_msg.specs.declared.operations.Op.{Op}
use Rattle.lu_msg.specs.declared.operations.Op.TheVariants as op
use Rattle.lu_spec_machine.specs.Fits.{answer_fits}
use Rattle.lu_spec_machine.specs.Laws.{IsReading}
use Rattle.lu_spec_entries.specs.Carried.{HandleFile}
use Rattle.lu_proof_lawful.specs.Covered.Calls.{operation_of, told_as}
use Rattle.lu_proof_lawful.proofs.Preconditions.ClientLines.{IsNames}

-- the operations that calls on names become
abbrev pub IsOnNames : Op → Type 0
IsOnNames (op.Lookup path) = Unit {0}
IsOnNames (op.Stat path) = Unit {0}
IsOnNames (op.List path) = Unit {0}
IsOnNames (op.Layout path) = Unit {0}
IsOnNames (op.Mkdir path) = Unit {0}
IsOnNames (op.Create path size count) = Unit {0}
IsOnNames (op.Link old new) = Unit {0}
IsOnNames (op.Unlink path) = Unit {0}
IsOnNames (op.Rmdir path) = Unit {0}
IsOnNames (op.Rename old new) = Unit {0}
IsOnNames (op.Chmod path mode) = Unit {0}
IsOnNames (op.Open path) = Unit {0}
IsOnNames (op.Close number fid) = Unit {0}
IsOnNames _ = ⊥

-- all that may be asked of the metadata target
pub names_on : (o : Op) → IsNames o → IsOnNames o
names_on (op.Enqueue resource mode extent) n = absurd n
names_on (op.Get resource cookie page) n = absurd n
names_on (op.Put resource cookie offset bytes) n = absurd n
names_on (op.Cut resource cookie size) n = absurd n
names_on (op.Size resource) n = absurd n
names_on o n = tt

pub op_is : (a b : Op) → Some a ≡ Some b → a ≡ b
op_is a b e = cc

pub becomes_on_names : (file : Option HandleFile) (c : Call) (o : Op) → operation_of file c ≡ Some o → IsOnNames o
becomes_on_names file (call.Lookup path) o e = subst IsOnNames (op_is (op.Lookup path) o e) tt
becomes_on_names file (call.Stat path) o e = subst IsOnNames (op_is (op.Stat path) o e) tt
becomes_on_names file (call.List path) o e = subst IsOnNames (op_is (op.List path) o e) tt
becomes_on_names file (call.Layout path) o e = subst IsOnNames (op_is (op.Layout path) o e) tt
becomes_on_names file (call.Mkdir path) o e = subst IsOnNames (op_is (op.Mkdir path) o e) tt
becomes_on_names file (call.Create path None) o e = subst IsOnNames (op_is (op.Create path 1048576 (pos 1)) o e) tt
becomes_on_names file (call.Create path (Some stripes)) o e = subst IsOnNames (op_is (op.Create path stripes.0 stripes.1) o e) tt
becomes_on_names file (call.Link old new) o e = subst IsOnNames (op_is (op.Link old new) o e) tt
becomes_on_names file (call.Unlink path) o e = subst IsOnNames (op_is (op.Unlink path) o e) tt
becomes_on_names file (call.Rmdir path) o e = subst IsOnNames (op_is (op.Rmdir path) o e) tt
becomes_on_names file (call.Rename old new) o e = subst IsOnNames (op_is (op.Rename old new) o e) tt
becomes_on_names file (call.Chmod path mode) o e = subst IsOnNames (op_is (op.Chmod path mode) o e) tt
becomes_on_names file (call.Open h path) o e = subst IsOnNames (op_is (op.Open path) o e) tt
becomes_on_names (Some f) (call.Close h) o e = subst IsOnNames (op_is (op.Close f.number f.fid) o e) tt
becomes_on_names file c o e = absurd (cc)

-- ---- answers

abbrev pub IsRefusal : Answer → Type 0
IsRefusal (told.Refused e) = Unit {0}
IsRefusal _ = ⊥

-- a user is told of it at once: it isn't a file's attributes, which are told with its size
abbrev pub IsPlain : Answer → Type 0
IsPlain (told.FileStat fid mode links layout) = ⊥
IsPlain _ = Unit {0}

-- what it is told so: of an open the file alone, else all
abbrev pub told_so : Answer → Answer
told_so (told.OpenFile fid number layout) = told.Made fid
told_so a = a

-- attributes are told by a stat alone
no_attributes : (o : Op) (fid : Fid) (mode links : ℕ) (layout : Raid0) → IsOnNames o → answer_fits o (told.FileStat fid mode links layout)
    ≡ true → ((path : List (List ℕ)) → o ≡ op.Stat path → ⊥) → ⊥
no_attributes (op.Lookup path) fid mode links layout is fits other = absurd (cc)
no_attributes (op.Stat path) fid mode links layout is fits other = other path refl
no_attributes (op.List path) fid mode links layout is fits other = absurd (cc)
no_attributes (op.Layout path) fid mode links layout is fits other = absurd (cc)
no_attributes (op.Mkdir path) fid mode links layout is fits other = absurd (cc)
no_attributes (op.Create path size count) fid mode links layout is fits other = absurd (cc)
no_attributes (op.Link old new) fid mode links layout is fits other = absurd (cc)
no_attributes (op.Unlink path) fid mode links layout is fits other = absurd (cc)
no_attributes (op.Rmdir path) fid mode links layout is fits other = absurd (cc)
no_attributes (op.Rename old new) fid mode links layout is fits other = absurd (cc)
no_attributes (op.Chmod path bits) fid mode links layout is fits other = absurd (cc)
no_attributes (op.Open path) fid mode links layout is fits other = absurd (cc)
no_attributes (op.Close opened file) fid mode links layout is fits other = absurd (cc)
no_attributes _ fid mode links layout is fits other = is

-- a file that is open is told by an open alone
pub open_op : (o : Op) (fid : Fid) (number : Txn) (layout : Raid0) → IsOnNames o → answer_fits o (told.OpenFile fid number layout) ≡ true
    → (path : List (List ℕ)) × (o ≡ op.Open path)
open_op (op.Lookup path) fid number layout is fits = absurd (cc)
open_op (op.Stat path) fid number layout is fits = absurd (cc)
open_op (op.List path) fid number layout is fits = absurd (cc)
open_op (op.Layout path) fid number layout is fits = absurd (cc)
open_op (op.Mkdir path) fid number layout is fits = absurd (cc)
open_op (op.Create path size count) fid number layout is fits = absurd (cc)
open_op (op.Link old new) fid number layout is fits = absurd (cc)
open_op (op.Unlink path) fid number layout is fits = absurd (cc)
open_op (op.Rmdir path) fid number layout is fits = absurd (cc)
open_op (op.Rename old new) fid number layout is fits = absurd (cc)
open_op (op.Chmod path bits) fid number layout is fits = absurd (cc)
open_op (op.Open path) fid number layout is fits = (path, refl)
open_op (op.Close opened file) fid number layout is fits = absurd (cc)
open_op _ fid number layout is fits = absurd is

-- no other call is an open
open_call : (file : Option HandleFile) (k : Call) (path : List (List ℕ)) → operation_of file k ≡ Some (op.Open path) → (h : ℕ)
    × (k ≡ call.Open h path)
open_call file (call.Open h made) path e = let same : made ≡ path = cc in (h, ap (λ (v : List (List ℕ)). call.Open h v) same)
open_call file (call.Create made None) path e = absurd (cc)
open_call file (call.Create made (Some stripes)) path e = absurd (cc)
open_call (Some f) (call.Close h) path e = absurd (cc)
open_call file k path e = absurd (cc)

-- so what answers a call is told as it is, but of an open
pub told_as_so : (file : Option HandleFile) (k : Call) (o : Op) (a : Answer) → operation_of file k ≡ Some o → answer_fits o a ≡ true
    → told_as k a ≡ told_so a
told_as_so file k o (told.OpenFile fid number layout) e fits = by k e
  where
    by : (c : Call) → operation_of file c ≡ Some o → told_as c (told.OpenFile fid number layout) ≡ told.Made fid
    by (call.Open h path) e = refl
    by c e =
        let k = open_op o fid number layout (becomes_on_names file c o e) fits in
        let q = open_call file c k.0 (e ∙ ap (λ (v : Op). Some v) k.1) in
        ap (λ (v : Call). told_as v (told.OpenFile fid number layout)) q.1
told_as_so file (call.Open h path) o a e fits = refl
told_as_so file k o a e fits = refl

-- nor is a reading told otherwise
pub reading_told : (o : Op) (a : Answer) → IsReading o → answer_fits o a ≡ true → told_so a ≡ a
reading_told (op.Lookup path) (told.OpenFile fid number layout) is fits = absurd (cc)
reading_told (op.Stat path) (told.OpenFile fid number layout) is fits = absurd (cc)
reading_told (op.List path) (told.OpenFile fid number layout) is fits = absurd (cc)
reading_told (op.Layout path) (told.OpenFile fid number layout) is fits = absurd (cc)
reading_told o (told.OpenFile fid number layout) is fits = absurd is
reading_told o a is fits = refl

-- so an answer of the table is plain, where a reading is refused
pub is_plain : (o : Op) (a : Answer) → IsOnNames o → answer_fits o a ≡ true → (IsReading o → IsRefusal a) → IsPlain a
is_plain o (told.FileStat fid mode links layout) is fits refused =
    no_attributes o fid mode links layout is fits (λ path e. refused (subst IsReading (sym e) tt))
is_plain o a is fits refused = tt
