-- Which operations make transactions.
use Rattle.std.proofs.Common.{◌≡◌, ◌≢◌, ℕ, ◌+◌, Bool, true, false, List, [], ◌∷◌, ◌⊎◌, inl, inr, Option, Some, None, refl, sym, ap, ◌∙◌}
use Rattle.std.proofs.Common.{arith}
use Rattle.std.specs.Prelude.{◌&&◌, not, nat_lt, if◌then◌else◌}
use Rattle.std.specs.Map.{lookup}
use Rattle.std.specs.Option.{unwrap_or}
use Rattle.std.proofs.lemmas.Bool.{lt-ltb, cond_both}
use Rattle.std.proofs.lemmas.Bool.Decides.{nat_tests}
use Rattle.lu_base.specs.declared.ids.Fid.{Fid}
use Rattle.lu_base.specs.declared.ids.Txn.{Txn}
use Rattle.lu_base.specs.declared.ids.Who.{Who}
use Rattle.lu_base.specs.declared.locks.Resource.{Resource}
use Rattle.lu_layout.specs.Raid0.{Raid0}
use Rattle.lu_msg.specs.declared.answers.Answer.{Answer}
use Rattle.lu_msg.specs.declared.answers.Answer.TheVariants as told
use Rattle.lu_msg.specs.declared.answers.Answer.TheVariants.{Refused}
use Rattle.lu_msg.specs.declared.answers.Errno.{Errno}
use Rattle.lu_msg.specs.declared.answers.Errno.TheVariants.{EEXIST, EISDIR, EBUSY, EBADF}
use Rattle.lu_msg.specs.declared.operations.Op.{Op}
use Rattle.lu_msg.specs.declared.operations.Op.TheVariants as op
use Rattle.lu_spec_machine.specs.declared.child.Child.{Child}
use Rattle.lu_spec_machine.specs.declared.child.Child.TheVariants.{Dir, File}
use Rattle.lu_spec_machine.specs.Tree.{Tree, same_fid, fid_cmp, child, listing}
use Rattle.lu_spec_machine.specs.Change.{Leads, Drops, Parted, SetLinks, Leaves}
use Rattle.lu_spec_machine.specs.Striping.{new_layout}
use Rattle.lu_spec_machine.specs.Plan.{LookAttr, Outcome, outcome}
use Rattle.lu_spec_machine.specs.Table.{root, absent, there, last_of, does, row_lookup, row_stat, row_list, row_layout, row_mkdir}
use Rattle.lu_spec_machine.specs.Table.{row_create, row_link, row_unlink, row_rmdir, row_open, plan}
use Rattle.lu_spec_machine.specs.Footprint as footprint
use Rattle.lu_spec_machine.specs.Footprint.{Operation, is_some_change, changes, after}
use Rattle.lu_spec_machine.specs.Objects.{Object, put_bytes, cut_bytes}
use Rattle.lu_spec_machine.specs.Bytes.{FileBytes, object_at, on_object}
use Rattle.lu_spec_machine.specs.Machine.{Machine, is_stale, as_told, names_answer, names_next, bytes_of, with_bytes, object_of, was_file}
use Rattle.lu_spec_machine.specs.Laws.{IsReading, AlwaysChanges, ReadingsChangeNothing, AlwaysMakeTransactions, MachineIsTable}
use Rattle.lu_spec_machine.specs.Laws.{PassedIsRefused, FlushesStay, PiecesReach}
use Rattle.lu_spec_machine.proofs.Bytes.{on_here, on_other}
use Rattle.lu_spec_machine.proofs.Keys.{Told, fid_tells, find-put}
use Rattle.lu_spec_machine.proofs.Walks.{there_ends, absent_ends, if_empty_ends, walk_ends, to_last_ends}

abbrev Looks : Outcome → Type 0
Looks o = is_some_change o.changes ≡ false

looks_refused : (e : Errno) → Looks (record { answer = Refused e; grants = []; changes = [] })
looks_refused e = refl

module _ (t : Tree) where
  stat_looks : (cs : List Child) (c : Child) → Looks (outcome t (row_stat cs c))
  stat_looks cs (Dir d) = refl
  stat_looks cs (File f) = refl

  list_looks : (cs : List Child) (c : Child) → Looks (outcome t (row_list cs c))
  list_looks cs (Dir d) = refl
  list_looks cs (File f) = refl

  layout_looks : (cs : List Child) (c : Child) → Looks (outcome t (row_layout cs c))
  layout_looks cs (Dir d) = refl
  layout_looks cs (File f) = refl

  looks : (osts : ℕ) (number : Txn) (who : Who) (o : Op) → IsReading o → Looks (outcome t (plan osts number who o))
  looks osts number who (op.Lookup path) r = walk_ends t Looks looks_refused root path (λ cs. row_lookup cs (last_of root cs))
      (λ cs h. refl)
  looks osts number who (op.Stat path) r = walk_ends t Looks looks_refused root path (λ cs. row_stat cs (last_of root cs))
      (λ cs h. stat_looks cs (last_of root cs))
  looks osts number who (op.List path) r = walk_ends t Looks looks_refused root path (λ cs. row_list cs (last_of root cs))
      (λ cs h. list_looks cs (last_of root cs))
  looks osts number who (op.Layout path) r = walk_ends t Looks looks_refused root path (λ cs. row_layout cs (last_of root cs))
      (λ cs h. layout_looks cs (last_of root cs))
  looks osts number who _ r = absurd r

-- refused, or a transaction
abbrev Acts : Outcome → Type 0
Acts o = ((e : Errno) × (o.answer ≡ Refused e)) ⊎ (is_some_change o.changes ≡ true)

acts_refused : (e : Errno) → Acts (record { answer = Refused e; grants = []; changes = [] })
acts_refused e = inl (e, refl)

module _ (t : Tree) where
  create_acts : (number : Txn) (d : Fid) (n : List ℕ) (o : Option Raid0) → Acts (outcome t (row_create number d n o))
  create_acts number d n None = acts_refused _
  create_acts number d n (Some l) = inr refl

  link_acts : (new : List (List ℕ)) (c : Child) → Acts (outcome t (row_link new c))
  link_acts new (Dir d) = acts_refused _
  link_acts new (File f) =
      to_last_ends t Acts acts_refused EEXIST new (λ cs d n. absent
      (LookAttr (File f) (λ a. does told.Done (Leads d n (File f) ∷ SetLinks f (a.links + 1) ∷ []))))
      (λ cs d n. absent_ends t Acts acts_refused (LookAttr (File f)
      (λ a. does told.Done (Leads d n (File f) ∷ SetLinks f (a.links + 1) ∷ []))) (child t d n) (λ _. inr refl))

  unlink_acts : (d : Fid) (n : List ℕ) (c : Child) → Acts (outcome t (row_unlink d n c))
  unlink_acts d n (Dir e) = acts_refused _
  unlink_acts d n (File f) = inr refl

  rmdir_acts : (d : Fid) (n : List ℕ) (c : Child) → Acts (outcome t (row_rmdir d n c))
  rmdir_acts d n (File f) = acts_refused _
  rmdir_acts d n (Dir e) = if_empty_ends t Acts acts_refused (listing t e) (does told.Done (Drops d n ∷ Parted e ∷ Leaves e ∷ []))
      (λ _. inr refl)

  open_acts : (number : Txn) (who : Who) (c : Child) → Acts (outcome t (row_open number who c))
  open_acts number who (Dir d) = acts_refused _
  open_acts number who (File f) = inr refl

  acts : (osts : ℕ) (number : Txn) (who : Who) (o : Op) → AlwaysChanges o → Acts (outcome t (plan osts number who o))
  acts osts number who (op.Mkdir path) m = to_last_ends t Acts acts_refused EEXIST path (λ cs d n. absent (row_mkdir number d n))
      (λ cs d n. absent_ends t Acts acts_refused (row_mkdir number d n) (child t d n) (λ _. inr refl))
  acts osts number who (op.Create path size count) m =
      to_last_ends t Acts acts_refused EEXIST path (λ cs d n. absent (row_create number d n (new_layout osts number size count)))
      (λ cs d n. absent_ends t Acts acts_refused (row_create number d n (new_layout osts number size count)) (child t d n)
      (λ _. create_acts number d n (new_layout osts number size count)))
  acts osts number who (op.Link old new) m = walk_ends t Acts acts_refused root old (λ cs. row_link new (last_of root cs))
      (λ cs h. link_acts new (last_of root cs))
  acts osts number who (op.Unlink path) m = to_last_ends t Acts acts_refused EISDIR path (λ cs d n. there (row_unlink d n))
      (λ cs d n. there_ends t Acts acts_refused (row_unlink d n) (child t d n) (λ c is. unlink_acts d n c))
  acts osts number who (op.Rmdir path) m = to_last_ends t Acts acts_refused EBUSY path (λ cs d n. there (row_rmdir d n))
      (λ cs d n. there_ends t Acts acts_refused (row_rmdir d n) (child t d n) (λ c is. rmdir_acts d n c))
  acts osts number who (op.Open path) m = walk_ends t Acts acts_refused root path (λ cs. row_open number who (last_of root cs))
      (λ cs h. open_acts number who (last_of root cs))
  acts osts number who (op.Close opened fid) m = inr refl
  acts osts number who _ m = absurd m

pub readings_change_nothing : ReadingsChangeNothing
readings_change_nothing osts t a r = looks t osts a.number a.who a.op r

pub always_make_transactions : AlwaysMakeTransactions
always_make_transactions osts t a m not_refused = by (acts t osts a.number a.who a.op m)
  where
    by : Acts (footprint.outcome_of osts t a) → changes osts t a ≡ true
    by (inl r) = absurd (not_refused r.0 r.1)
    by (inr h) = h

pub machine_is_table : MachineIsTable
machine_is_table osts m a above = by (changes osts m.tree a) refl
  where
    now : Answer
    now = as_told m (footprint.answer osts m.tree a)

    both : is_stale osts m a ≡ false → (names_answer osts m a ≡ now) × ((names_next osts m a).tree ≡ after osts m.tree a)
    both s = (ap (λ v. if v then Refused EBADF else now) s, ap (λ v. if v then m.tree else after osts m.tree a) s)

    by : (v : Bool) → changes osts m.tree a ≡ v → (names_answer osts m a ≡ now) × ((names_next osts m a).tree ≡ after osts m.tree a)
    by false e = both (ap (λ v. v && not (nat_lt m.last a.number.0)) e)
    by true e =
        let l : nat_lt m.last a.number.0 ≡ true = lt-ltb m.last a.number.0 (above e) in
        both (ap (λ v. v && not (nat_lt m.last a.number.0)) e ∙ ap not l)

pub passed_is_refused : PassedIsRefused
passed_is_refused osts m a e passed =
    let l : nat_lt m.last a.number.0 ≡ false = grind (arith, nat_tests, passed) in
    let s : is_stale osts m a ≡ true = ap (λ v. v && not (nat_lt m.last a.number.0)) e ∙ ap not l in (
      ap (λ v. if v then Refused EBADF else as_told m (footprint.answer osts m.tree a)) s,
      ap (λ v. if v then m.tree else after osts m.tree a) s,
      refl,
    )

-- what is put where it stands
put_back : (m : Machine) (f g : Fid) → bytes_of (with_bytes m f (bytes_of m f)) g ≡ bytes_of m g
put_back m f g = ap (λ (o : Option FileBytes). unwrap_or o []) (find-put same_fid fid_tells fid_cmp f (bytes_of m f) g m.bytes)
    ∙ by (fid_tells f g)
  where
    on : Bool → FileBytes
    on v = unwrap_or (if v then Some (bytes_of m f) else lookup (same_fid g) m.bytes) []

    by : Told same_fid f g → on (same_fid f g) ≡ bytes_of m g
    by (inl h) = ap on h.0 ∙ ap (bytes_of m) h.1
    by (inr h) = ap on h.0

pub flushes_stay : FlushesStay
flushes_stay osts m i f handle =
    record {
      answer = refl;
      tree = cond_both (was_file m f) (with_bytes m f (bytes_of m f)) m (λ (x : Machine). x.tree ≡ m.tree) (λ _. refl) (λ _. refl);
      last = cond_both (was_file m f) (with_bytes m f (bytes_of m f)) m (λ (x : Machine). x.last ≡ m.last) (λ _. refl) (λ _. refl);
      bytes = λ g. cond_both (was_file m f) (with_bytes m f (bytes_of m f)) m (λ x. bytes_of x g ≡ bytes_of m g) (λ _. put_back m f g)
          (λ _. refl);
    }

-- ---- pieces

module _ (m : Machine) (f : Fid) (b : FileBytes) where
  put_at : (g : Fid) → bytes_of (with_bytes m f b) g ≡ unwrap_or (if same_fid f g then Some b else lookup (same_fid g) m.bytes) []
  put_at g = ap (λ (o : Option FileBytes). unwrap_or o []) (find-put same_fid fid_tells fid_cmp f b g m.bytes)

  put_there : bytes_of (with_bytes m f b) f ≡ b
  put_there = put_at f ∙ by (fid_tells f f)
    where
      by : Told same_fid f f → unwrap_or (if same_fid f f then Some b else lookup (same_fid f) m.bytes) [] ≡ b
      by (inl h) = ap (λ v. unwrap_or (if v then Some b else lookup (same_fid f) m.bytes) []) h.0
      by (inr h) = absurd (h.1 refl)

  put_elsewhere : (g : Fid) → g ≢ f → bytes_of (with_bytes m f b) g ≡ bytes_of m g
  put_elsewhere g ne = put_at g ∙ by (fid_tells f g)
    where
      by : Told same_fid f g → unwrap_or (if same_fid f g then Some b else lookup (same_fid g) m.bytes) [] ≡ bytes_of m g
      by (inl h) = absurd (ne (sym h.1))
      by (inr h) = ap (λ v. unwrap_or (if v then Some b else lookup (same_fid g) m.bytes) []) h.0

module _ (m : Machine) (resource : Resource) (change : Object → Object) where
  abbrev reached : Machine
  reached = with_bytes m resource.fid (on_object change resource.stripe (bytes_of m resource.fid))

  own_object : object_of reached resource.fid resource.stripe ≡ change (object_of m resource.fid resource.stripe)
  own_object =
      ap (λ b. object_at b resource.stripe) (put_there m resource.fid (on_object change resource.stripe (bytes_of m resource.fid)))
      ∙ on_here change resource.stripe (bytes_of m resource.fid)

  other_objects : (f : Fid) (stripe : ℕ) → (f ≢ resource.fid) ⊎ (stripe ≢ resource.stripe) → object_of reached f stripe
      ≡ object_of m f stripe
  other_objects f stripe (inl ne) = ap (λ b. object_at b stripe)
      (put_elsewhere m resource.fid (on_object change resource.stripe (bytes_of m resource.fid)) f ne)
  other_objects f stripe (inr ne) = by (fid_tells resource.fid f)
    where
      by : Told same_fid resource.fid f → object_of reached f stripe ≡ object_of m f stripe
      by (inr h) = ap (λ b. object_at b stripe) (put_elsewhere m resource.fid (on_object change resource.stripe (bytes_of m resource.fid)) f
          (λ e. h.1 (sym e)))
      by (inl h) =
          ap (λ g. object_of reached g stripe) (sym h.1) ∙ ap (λ b. object_at b stripe)
          (put_there m resource.fid (on_object change resource.stripe (bytes_of m resource.fid)))
          ∙ on_other change resource.stripe stripe (bytes_of m resource.fid) ne ∙ ap (λ g. object_of m g stripe) h.1

pub pieces_reach : PiecesReach
pieces_reach m resource cookie =
    record {
      put = λ offset bytes. record {
        own = own_object m resource (put_bytes offset bytes);
        others =
            other_objects m resource (put_bytes offset bytes);
      };
      cut = λ size. record { own = own_object m resource (cut_bytes size); others = other_objects m resource (cut_bytes size) };
    }
