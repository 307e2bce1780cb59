-- The layout that a file has or had stays, and a `create` that isn't refused gives its new file one.
use Rattle.std.proofs.Common.{◌≡◌, ◌≢◌, ℕ, ◌+◌, ◌-◌, ◌<◌, Bool, true, false, List, inl, inr, Option, Some, None, refl, sym, ap, ◌∙◌, subst}
use Rattle.std.proofs.Common.{arith, ℤ}
use Rattle.std.specs.Prelude.{if◌then◌else◌}
use Rattle.std.specs.Map.{lookup}
use Rattle.std.specs.Option.{option_map, unwrap_or}
use Rattle.lu_base.specs.declared.ids.Fid.{Fid}
use Rattle.lu_base.specs.declared.ids.Txn.{Txn}
use Rattle.lu_base.specs.declared.ids.Who.{Who}
use Rattle.lu_layout.specs.Raid0.{Raid0}
use Rattle.lu_msg.specs.declared.answers.Answer.{Answer}
use Rattle.lu_msg.specs.declared.answers.Answer.TheVariants.{Made}
use Rattle.lu_msg.specs.declared.answers.Errno.TheVariants.{EEXIST}
use Rattle.lu_msg.specs.declared.operations.Op.{Op}
use Rattle.lu_msg.specs.declared.operations.Op.TheVariants as op
use Rattle.lu_spec_machine.specs.declared.child.Child.TheVariants.{Dir, File}
use Rattle.lu_spec_machine.specs.Tree.{Tree, Inode, no_file, same_fid, fid_cmp, file, child}
use Rattle.lu_spec_machine.specs.Change.{new_file, put_file, changed}
use Rattle.lu_spec_machine.specs.Fits.{answer_fits}
use Rattle.lu_spec_machine.specs.Footprint.{Operation, empty, answer, after, outcome_of}
use Rattle.lu_spec_machine.specs.Plan.{Outcome, outcome}
use Rattle.lu_spec_machine.specs.Removal.{Item, contents}
use Rattle.lu_spec_machine.specs.Striping.{new_layout}
use Rattle.lu_spec_machine.specs.Table.{made_by, absent, row_mkdir, row_create}
use Rattle.lu_spec_machine.specs.Trim.{Rising}
use Rattle.lu_spec_machine.proofs.Fits.{answers_fit}
use Rattle.lu_spec_machine.proofs.Keys.{Told, fid_tells, find-put}
use Rattle.lu_spec_machine.proofs.Outcomes.{Comes, refused, learns, mkdir, create, link, unlink, rmdir, move, replace_dir, replace_file}
use Rattle.lu_spec_machine.proofs.Outcomes.{chmod, opens, closes, plan_comes}
use Rattle.lu_spec_machine.proofs.Trim.{named_have_links}
use Rattle.lu_spec_machine.proofs.Walks.{absent_ends, to_last_ends}
use Rattle.lu_posix.specs.Names.{made_layout}
use Rattle.lu_posix.specs.Shown.{layout_in}

-- with a new file's layout, if there is one
abbrev pub noted : Option Raid0 → Txn → Fid → Option Raid0 → Option Raid0
noted None number f old = old
noted (Some l) number f old = if same_fid (made_by number) f then Some l else old

abbrev own : Option Inode → Option Raid0
own o = option_map (λ (i : Inode). i.layout) o

-- ---- a file that is set again

found : (t : Tree) (g : Fid) → 0 < (file t g).links → lookup (same_fid g) t.files ≡ Some (file t g)
found t g live = by (lookup (same_fid g) t.files) refl
  where
    by : (o : Option Inode) → lookup (same_fid g) t.files ≡ o → lookup (same_fid g) t.files ≡ Some (file t g)
    by None is = let none : 0 < no_file.links = subst (λ (p : Option Inode). 0 < (unwrap_or p no_file).links) is live
        in absurd (omega (arith, none))
    by (Some i) is = is ∙ ap (λ (p : Option Inode). Some (unwrap_or p no_file)) (sym is)

set_again : (t : Tree) (g : Fid) (x : Inode) → x.layout ≡ (file t g).layout → 0 < (file t g).links → (f : Fid)
    → own (lookup (same_fid f) (put_file g x t.files)) ≡ own (lookup (same_fid f) t.files)
set_again t g x same live f = ap own (find-put same_fid fid_tells fid_cmp g x f t.files) ∙ by (fid_tells g f)
  where
    by : Told same_fid g f → own (if same_fid g f then Some x else lookup (same_fid f) t.files) ≡ own (lookup (same_fid f) t.files)
    by (inl h) = ap (λ v. own (if v then Some x else lookup (same_fid f) t.files)) h.0 ∙ ap Some same ∙ sym (ap own (found t g live))
        ∙ ap (λ (k : Fid). own (lookup (same_fid k) t.files)) h.1
    by (inr h) = ap (λ v. own (if v then Some x else lookup (same_fid f) t.files)) h.0

-- ---- all but creates

abbrev Keeps : Tree → Outcome → Type 0
Keeps t o = (f : Fid) → layout_in (changed t o.changes) f ≡ layout_in t f

module _ (t : Tree) (number : Txn) (who : Who) (named : (d : Fid) (n : List ℕ) (f : Fid) → child t d n ≡ Some (File f)
    → 0 < (file t f).links) where
  keeps : (o : Outcome) → Comes t number who o → ((f : Fid) → o.answer ≢ Made f) → Keeps t o
  keeps _ (refused e) misses f = refl
  keeps _ (learns answer grants is) misses f = refl
  keeps _ (mkdir d n free) misses f = refl
  keeps _ (create d n l free) misses f = absurd (misses (made_by number) refl)
  keeps _ (link d n g free h) misses f = set_again t g (record {
    mode = (file t g).mode;
    links = (file t g).links + 1;
    layout =
        (file t g).layout;
  }) refl (named h.0 h.1.0 g h.1.1) f
  keeps _ (unlink d n g is) misses f = set_again t g (record {
    mode = (file t g).mode;
    links = (file t g).links - 1;
    layout =
        (file t g).layout;
  }) refl (named d n g is) f
  keeps _ (rmdir d n e is none) misses f = refl
  keeps _ (move d n c e m is free) misses f = refl
  keeps _ (replace_dir d n g e m h is at ne none) misses f = refl
  keeps _ (replace_file d n h e m g is at ne) misses f = set_again t g
      (record { mode = (file t g).mode; links = (file t g).links - 1; layout = (file t g).layout }) refl (named e m g at) f
  keeps _ (chmod (Dir d) mode r) misses f = refl
  keeps _ (chmod (File g) mode (inl root)) misses f = absurd (cc)
  keeps _ (chmod (File g) mode (inr h)) misses f = set_again t g
      (record { mode = mode; links = (file t g).links; layout = (file t g).layout }) refl (named h.0 h.1.0 g h.1.1) f
  keeps _ (opens g is) misses f = refl
  keeps _ (closes opened) misses f = refl

  module _ (osts : ℕ) where
    abbrev asks : Op → Operation
    asks o = record { number = number; who = who; op = o }

    others : (o : Op) → ((f : Fid) → answer_fits o (Made f) ≡ false) → Keeps t (outcome_of osts t (asks o))
    others o misfit =
        keeps (outcome_of osts t (asks o)) (plan_comes t number who osts o)
        (λ f is. let fits : answer_fits o (Made f) ≡ true = subst (λ (a : Answer). answer_fits o a ≡ true) is (answers_fit osts t (asks o))
        in absurd (cc (fits, misfit f)))

    mkdirs : (path : List (List ℕ)) → Keeps t (outcome_of osts t (asks (op.Mkdir path)))
    mkdirs path =
        to_last_ends t (Keeps t) (λ e f. refl) EEXIST path (λ cs d n. absent (row_mkdir number d n))
        (λ cs d n. absent_ends t (Keeps t) (λ e f. refl) (row_mkdir number d n) (child t d n) (λ free f. refl))

    abbrev Notes : Op → Outcome → Type 0
    Notes o r = (f : Fid) → layout_in (changed t r.changes) f ≡ noted (made_layout osts number o r.answer) number f (layout_in t f)

    creates : (path : List (List ℕ)) (size : ℕ) (count : ℤ) → Notes (op.Create path size count)
        (outcome_of osts t (asks (op.Create path size count)))
    creates path size count =
        to_last_ends t (Notes (op.Create path size count)) (λ e f. refl) EEXIST path
        (λ cs d n. absent (row_create number d n (new_layout osts number size count)))
        (λ cs d n. absent_ends t (Notes (op.Create path size count)) (λ e f. refl)
        (row_create number d n (new_layout osts number size count)) (child t d n)
        (λ free. row d n (new_layout osts number size count) refl))
      where
        row : (d : Fid) (n : List ℕ) (o : Option Raid0) → new_layout osts number size count ≡ o
            → Notes (op.Create path size count) (outcome t (row_create number d n o))
        row d n None is f = refl
        row d n (Some l) is f =
            ap own (find-put same_fid fid_tells fid_cmp (made_by number) (new_file l) f t.files)
            ∙ by (same_fid (made_by number) f)
            ∙ ap (λ (o : Option Raid0). noted o number f (layout_in t f)) (sym is)
          where
            by : (v : Bool) → own (if v then Some (new_file l) else lookup (same_fid f) t.files) ≡ (if v then Some l else layout_in t f)
            by true = refl
            by false = refl

    notes : (o : Op) → Notes o (outcome_of osts t (asks o))
    notes (op.Lookup path) = others (op.Lookup path) (λ f. refl)
    notes (op.Stat path) = others (op.Stat path) (λ f. refl)
    notes (op.List path) = others (op.List path) (λ f. refl)
    notes (op.Layout path) = others (op.Layout path) (λ f. refl)
    notes (op.Mkdir path) = mkdirs path
    notes (op.Create path size count) = creates path size count
    notes (op.Link old new) = others (op.Link old new) (λ f. refl)
    notes (op.Unlink path) = others (op.Unlink path) (λ f. refl)
    notes (op.Rmdir path) = others (op.Rmdir path) (λ f. refl)
    notes (op.Rename old new) = others (op.Rename old new) (λ f. refl)
    notes (op.Chmod path mode) = others (op.Chmod path mode) (λ f. refl)
    notes (op.Open path) = others (op.Open path) (λ f. refl)
    notes (op.Close opened fid) = others (op.Close opened fid) (λ f. refl)
    notes (op.Enqueue resource mode extent) = others (op.Enqueue resource mode extent) (λ f. refl)
    notes (op.Get resource cookie page) = others (op.Get resource cookie page) (λ f. refl)
    notes (op.Put resource cookie offset bytes) = others (op.Put resource cookie offset bytes) (λ f. refl)
    notes (op.Cut resource cookie size) = others (op.Cut resource cookie size) (λ f. refl)
    notes (op.Size resource) = others (op.Size resource) (λ f. refl)

-- in what a past has left
pub layouts_after : (osts : ℕ) (past : List Item) → Rising past → (a : Operation) (f : Fid)
    → layout_in (after osts (contents osts empty past) a) f ≡ noted
    (made_layout osts a.number a.op (answer osts (contents osts empty past) a)) a.number f (layout_in (contents osts empty past) f)
layouts_after osts past rising a f = notes (contents osts empty past) a.number a.who (λ d n g. named_have_links osts past rising d n g) osts
    a.op f
