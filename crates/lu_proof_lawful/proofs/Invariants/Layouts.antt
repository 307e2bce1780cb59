-- The layout of a file is the one that its create gave it, since no operation changes one: so what holds of each new file's layout holds of
-- each
-- layout in the tree, and of each that is told. Each stripe of a file lies on one of the run's object storage targets.
use Rattle.std.proofs.Common.{◌≡◌, ◌∙◌, ℕ, ℤ, zero, suc, ◌+◌, ◌%◌, ◌<◌, ◌≤◌, Bool, true, false, List, [], ◌∷◌, Option, Some, None, ◌⊎◌, inl}
use Rattle.std.proofs.Common.{inr, ⊎_elim, refl, sym, subst, ap, arith}
use Rattle.std.specs.Prelude.{◌≢◌, length, map, slice_index, ◌==◌, if◌then◌else◌}
use Rattle.std.specs.List.{range_with_len}
use Rattle.std.proofs.lemmas.Bool.{cond_both}
use Rattle.std.proofs.lemmas.Bool.Decides.{nat_tests}
use Rattle.lu_base.specs.declared.ids.At.{At}
use Rattle.lu_base.specs.declared.ids.Fid.{Fid}
use Rattle.lu_base.specs.declared.ids.Txn.{Txn as TxnOf}
use Rattle.lu_base.specs.declared.ids.Who.{Who}
use Rattle.lu_layout.specs.Raid0.{Raid0}
use Rattle.lu_msg.specs.declared.answers.Answer.{Answer}
use Rattle.lu_msg.specs.declared.answers.Answer.TheVariants as told
use Rattle.lu_msg.specs.declared.answers.Errno.{Errno}
use Rattle.lu_msg.specs.declared.answers.Errno.TheVariants.{EEXIST, EISDIR, EINVAL, EBUSY}
use Rattle.lu_msg.specs.declared.operations.Op.{Op}
use Rattle.lu_msg.specs.declared.operations.Op.TheVariants as op
use Rattle.lu_part.specs.declared.parts.Part.TheVariants as part
use Rattle.lu_spec_machine.specs.declared.child.Child.{Child}
use Rattle.lu_spec_machine.specs.declared.child.Child.TheVariants.{Dir, File}
use Rattle.lu_spec_machine.specs.Tree.{Tree, no_file, same_fid, fid_of, child, listing, attributes, layout}
use Rattle.lu_spec_machine.specs.Change.{Change, MakesFile, Leads, Drops, Parted, SetMode, SetLinks, Leaves, change, changed}
use Rattle.lu_spec_machine.specs.Effect.{on_layout}
use Rattle.lu_spec_machine.specs.Striping.{stripe_size, stripe_count, is_bad, stripe_targets, new_layout}
use Rattle.lu_spec_machine.specs.Plan.{Plan, Refuse, LookAttr, Outcome, outcome}
use Rattle.lu_spec_machine.specs.Table.{made_by, root, there, absent, walk_up, last_of, tells, does, row_lookup, row_stat, row_list}
use Rattle.lu_spec_machine.specs.Table.{row_layout, row_mkdir, row_create, row_link, row_unlink, row_rmdir, passes, moves, row_replace}
use Rattle.lu_spec_machine.specs.Table.{row_rename, rename, row_chmod, row_open, plan}
use Rattle.lu_spec_machine.specs.Footprint.{Operation, Every, empty, after, answer}
use Rattle.lu_spec_machine.specs.Removal.{Item, contents}
use Rattle.lu_spec_machine.specs.Fits.{answer_fits}
use Rattle.lu_spec_machine.proofs.Effects.{layout_after}
use Rattle.lu_spec_machine.proofs.Fits.{answers_fit}
use Rattle.lu_spec_machine.proofs.Keys.{fid_tells}
use Rattle.lu_spec_machine.proofs.Outcomes.{IsReached}
use Rattle.lu_spec_machine.proofs.Walks.{IsNamed, there_ends, absent_ends, if_empty_ends, walk_ends, walk_up_ends, to_last_ends}
use Rattle.lu_spec_entries.specs.Carried.{Deed}
use Rattle.lu_spec_entries.specs.Words.{Line}
use Rattle.lu_spec_entries.specs.Concerns.{only}
use Rattle.lu_proof_lawful.specs.Covered.TargetStates.{none, next_number, server_of}
use Rattle.lu_proof_lawful.specs.Covered.Heads.{Head}
use Rattle.lu_proof_lawful.proofs.Preconditions.StoryGuards.{ActOk, TxnOk}
use Rattle.lu_proof_lawful.proofs.Preconditions.Grown.{Grown}
use Rattle.lu_proof_lawful.proofs.Invariants.Groups.{HoldsAt, ItemOk, items_of}
use Rattle.lu_proof_lawful.proofs.Invariants.TargetGroups.{Acted, IsMade}
use Rattle.lu_proof_lawful.proofs.Invariants.All.{holds}
use Rattle.lu_proof_lawful.proofs.Invariants.OverItems.{over_now}
use Rattle.lu_proof_lawful.proofs.Invariants.OnNames.{IsOnNames}
use Rattle.lu_proof_lawful.proofs.Invariants.ObjectAnswers.{IsObjectAnswer, OfObject}
use Rattle.lu_proof_lawful.proofs.Invariants.FirstDeeds.{first_does, acted_either}
use Rattle.lu_proof_lawful.proofs.Invariants.Asked.{acted_on_names}

-- each of these is an object storage target of the run
abbrev pub OnTargets : ℕ → List ℕ → Type 0
OnTargets osts [] = Unit {0}
OnTargets osts (t ∷ ts) = (0 < t) × (t ≤ osts) × OnTargets osts ts

-- so is that of each stripe
pub on_target : (osts : ℕ) (ts : List ℕ) → OnTargets osts ts → (stripe : ℕ) → stripe < length ts → (0 < slice_index ts stripe)
    × (slice_index ts stripe ≤ osts)
on_target osts [] on stripe low = absurd (omega (arith, low))
on_target osts (t ∷ ts) on zero low = (on.0, on.1)
on_target osts (t ∷ ts) on (suc stripe) low = on_target osts ts on.2 stripe (omega (arith, low))

-- ---- a new file

places_on : (osts first : ℕ) → 0 < osts → (is : List ℕ) → OnTargets osts (map (λ (i : ℕ). 1 + (first + i) % osts) is)
places_on osts first some [] = tt
places_on osts first some (i ∷ is) = (omega arith, omega (arith, some), places_on osts first some is)

stripes_on : (osts : ℕ) (number : TxnOf) (count : ℕ) → count ≤ osts → OnTargets osts (stripe_targets osts number count)
stripes_on osts number zero le = tt
stripes_on osts number (suc count) le = places_on osts (number.0 % 4294967296) (omega (arith, le)) (range_with_len 0 (suc count))

new_on : (osts : ℕ) (number : TxnOf) (size : ℕ) (count : ℤ) (l : Raid0) → new_layout osts number size count ≡ Some l
    → OnTargets osts l.targets
new_on osts number size count l is = by (is_bad osts (stripe_size size) (stripe_count osts count)) refl is
  where
    new : Raid0
    new = record { size = stripe_size size; targets = stripe_targets osts number (stripe_count osts count) }

    few : is_bad osts (stripe_size size) (stripe_count osts count) ≡ false → stripe_count osts count ≤ osts
    few e = grind (arith, nat_tests, e)

    by : (b : Bool) → is_bad osts (stripe_size size) (stripe_count osts count) ≡ b → (if b then None else Some new) ≡ Some l
        → OnTargets osts l.targets
    by true e q = absurd (cc)
    by false e q = let same : new ≡ l = cc in subst (λ (v : Raid0). OnTargets osts v.targets) same
        (stripes_on osts number (stripe_count osts count) (few e))

-- ---- the tree

-- a claim of each file and its layout; where no file is, there is none
abbrev pub LaidBy : (Fid → Raid0 → Type 0) → Tree → Type 0
LaidBy L t = (f : Fid) → L f (layout t f)

abbrev pub Lays : (Fid → Raid0 → Type 0) → Change → Type 0
Lays L (MakesFile f l) = L f l
Lays L _ = Unit {0}

laid_change : (L : Fid → Raid0 → Type 0) (t : Tree) (x : Change) → Lays L x → LaidBy L t → LaidBy L (change t x)
laid_change L t x lays laid f = subst (L f) (sym (layout_after t x f)) (by x lays)
  where
    by : (x : Change) → Lays L x → L f (on_layout x f (layout t f))
    by (MakesFile g l) lays = ⊎_elim
        (λ (same : (same_fid g f ≡ true) × (g ≡ f)). subst (λ (b : Bool). L f (if b then l else layout t f)) (sym same.0)
        (subst (λ (h : Fid). L h l) same.1 lays))
        (λ (other : (same_fid g f ≡ false) × (g ≢ f)). subst (λ (b : Bool). L f (if b then l else layout t f)) (sym other.0) (laid f))
        (fid_tells g f)
    by _ lays = laid f

laid_changed : (L : Fid → Raid0 → Type 0) (t : Tree) (xs : List Change) → Every (Lays L) xs → LaidBy L t → LaidBy L (changed t xs)
laid_changed L t [] lays laid = laid
laid_changed L t (x ∷ xs) lays laid = laid_changed L (change t x) xs lays.1 (laid_change L t x lays.0 laid)

-- ---- what operations change

module _ (L : Fid → Raid0 → Type 0) (t : Tree) where
  abbrev AllLay : Outcome → Type 0
  AllLay o = Every (Lays L) o.changes

  abbrev PlanLays : Plan → Type 0
  PlanLays p = AllLay (outcome t p)

  refused : (e : Errno) → AllLay (record { answer = told.Refused e; grants = []; changes = [] })
  refused e = tt

  stat_lays : (cs : List Child) (c : Child) → PlanLays (row_stat cs c)
  stat_lays cs (Dir d) = tt
  stat_lays cs (File f) = tt

  list_lays : (cs : List Child) (c : Child) → PlanLays (row_list cs c)
  list_lays cs (Dir d) = tt
  list_lays cs (File f) = tt

  layout_lays : (cs : List Child) (c : Child) → PlanLays (row_layout cs c)
  layout_lays cs (Dir d) = tt
  layout_lays cs (File f) = tt

  create_lays : (number : TxnOf) (d : Fid) (n : List ℕ) (l : Option Raid0) → ((x : Raid0) → l ≡ Some x → L (made_by number) x)
      → PlanLays (row_create number d n l)
  create_lays number d n None on = tt
  create_lays number d n (Some l) on = (on l refl, (tt, tt))

  link_lays : (new : List (List ℕ)) (c : Child) → PlanLays (row_link new c)
  link_lays new (Dir d) = tt
  link_lays new (File f) =
      to_last_ends t AllLay refused EEXIST new (λ cs d n. absent
      (LookAttr (File f) (λ a. does told.Done (Leads d n (File f) ∷ SetLinks f (a.links + 1) ∷ []))))
      (λ cs d n. absent_ends t AllLay refused (LookAttr (File f) (λ a. does told.Done (Leads d n (File f) ∷ SetLinks f (a.links + 1) ∷ [])))
      (child t d n) (λ _. (tt, (tt, tt))))

  unlink_lays : (d : Fid) (n : List ℕ) (c : Child) → PlanLays (row_unlink d n c)
  unlink_lays d n (Dir e) = tt
  unlink_lays d n (File f) = (tt, (tt, (tt, tt)))

  rmdir_lays : (d : Fid) (n : List ℕ) (c : Child) → PlanLays (row_rmdir d n c)
  rmdir_lays d n (File f) = tt
  rmdir_lays d n (Dir e) = if_empty_ends t AllLay refused (listing t e) (does told.Done (Drops d n ∷ Parted e ∷ Leaves e ∷ []))
      (λ _. (tt, (tt, (tt, tt))))

  replace_lays : (d : Fid) (n : List ℕ) (c : Child) (e : Fid) (m : List ℕ) (g : Child) → PlanLays (row_replace d n c e m g)
  replace_lays d n (Dir f) e m (File g) = tt
  replace_lays d n (File f) e m (Dir g) = tt
  replace_lays d n (Dir f) e m (Dir g) = if_empty_ends t AllLay refused (listing t g) (moves d n (Dir f) e m (Parted g ∷ Leaves g ∷ []))
      (λ _. (tt, (tt, (tt, (tt, (tt, tt))))))
  replace_lays d n (File f) e m (File g) = (tt, (tt, (tt, (tt, (tt, tt)))))

  rename_row_lays : (d : Fid) (n : List ℕ) (c : Child) (cs : List Child) (e : Fid) (m : List ℕ) (found : Option Child)
      → PlanLays (row_rename d n c cs e m found)
  rename_row_lays d n c cs e m None = cond_both (passes c cs) (Refuse EINVAL) (moves d n c e m []) PlanLays (λ _. tt)
      (λ _. (tt, (tt, (tt, tt))))
  rename_row_lays d n c cs e m (Some g) =
      cond_both (same_fid (fid_of g) (fid_of c)) (tells told.Done []) (if passes c cs then Refuse EINVAL else row_replace d n c e m g)
      PlanLays (λ _. tt)
      (λ _. cond_both (passes c cs) (Refuse EINVAL) (row_replace d n c e m g) PlanLays (λ _. tt) (λ _. replace_lays d n c e m g))

  rename_lays : (old new : List (List ℕ)) → PlanLays (rename old new)
  rename_lays old [] = tt
  rename_lays old (m ∷ ms) =
      to_last_ends t AllLay refused EBUSY old (λ cs d n. there (λ c. walk_up root m ms (λ cs e m. row_rename d n c cs e m)))
      (λ cs d n. there_ends t AllLay refused (λ c. walk_up root m ms (λ cs e m. row_rename d n c cs e m)) (child t d n)
      (λ c _. walk_up_ends t AllLay refused root m ms (λ cs e m. row_rename d n c cs e m)
      (λ cs e m. rename_row_lays d n c cs e m (child t e m))))

  chmod_lays : (mode : ℕ) (c : Child) → PlanLays (row_chmod mode c)
  chmod_lays mode c = cond_both ((attributes t c).mode == mode) (tells told.Done []) (does told.Done (SetMode c mode ∷ [])) PlanLays
      (λ _. tt) (λ _. (tt, tt))

  open_lays : (number : TxnOf) (who : Who) (c : Child) → PlanLays (row_open number who c)
  open_lays number who (Dir d) = tt
  open_lays number who (File f) = (tt, tt)

  -- as it holds of the layout that a create gives
  pub plan_lays : (osts : ℕ) (number : TxnOf) (who : Who) (o : Op)
      → ((path : List (List ℕ)) (size : ℕ) (count : ℤ) (l : Raid0) → o ≡ op.Create path size count → new_layout osts number size count
      ≡ Some l → L (made_by number) l) → PlanLays (plan osts number who o)
  plan_lays osts number who (op.Lookup path) made = walk_ends t AllLay refused root path (λ cs. row_lookup cs (last_of root cs))
      (λ cs _. tt)
  plan_lays osts number who (op.Stat path) made = walk_ends t AllLay refused root path (λ cs. row_stat cs (last_of root cs))
      (λ cs _. stat_lays cs (last_of root cs))
  plan_lays osts number who (op.List path) made = walk_ends t AllLay refused root path (λ cs. row_list cs (last_of root cs))
      (λ cs _. list_lays cs (last_of root cs))
  plan_lays osts number who (op.Layout path) made = walk_ends t AllLay refused root path (λ cs. row_layout cs (last_of root cs))
      (λ cs _. layout_lays cs (last_of root cs))
  plan_lays osts number who (op.Mkdir path) made =
      to_last_ends t AllLay refused EEXIST path (λ cs d n. absent (row_mkdir number d n))
      (λ cs d n. absent_ends t AllLay refused (row_mkdir number d n) (child t d n) (λ _. (tt, (tt, tt))))
  plan_lays osts number who (op.Create path size count) made =
      to_last_ends t AllLay refused EEXIST path (λ cs d n. absent (row_create number d n (new_layout osts number size count)))
      (λ cs d n. absent_ends t AllLay refused (row_create number d n (new_layout osts number size count)) (child t d n)
      (λ _. create_lays number d n (new_layout osts number size count) (λ l is. made path size count l refl is)))
  plan_lays osts number who (op.Link old new) made = walk_ends t AllLay refused root old (λ cs. row_link new (last_of root cs))
      (λ cs _. link_lays new (last_of root cs))
  plan_lays osts number who (op.Unlink path) made =
      to_last_ends t AllLay refused EISDIR path (λ cs d n. there (row_unlink d n))
      (λ cs d n. there_ends t AllLay refused (row_unlink d n) (child t d n) (λ c _. unlink_lays d n c))
  plan_lays osts number who (op.Rmdir path) made =
      to_last_ends t AllLay refused EBUSY path (λ cs d n. there (row_rmdir d n))
      (λ cs d n. there_ends t AllLay refused (row_rmdir d n) (child t d n) (λ c _. rmdir_lays d n c))
  plan_lays osts number who (op.Rename old new) made = rename_lays old new
  plan_lays osts number who (op.Chmod path mode) made = walk_ends t AllLay refused root path (λ cs. row_chmod mode (last_of root cs))
      (λ cs _. chmod_lays mode (last_of root cs))
  plan_lays osts number who (op.Open path) made = walk_ends t AllLay refused root path (λ cs. row_open number who (last_of root cs))
      (λ cs _. open_lays number who (last_of root cs))
  plan_lays osts number who (op.Close opened fid) made = (tt, tt)
  plan_lays osts number who (op.Enqueue resource mode extent) made = tt
  plan_lays osts number who (op.Get resource cookie page) made = tt
  plan_lays osts number who (op.Put resource cookie offset bytes) made = tt
  plan_lays osts number who (op.Cut resource cookie size) made = tt
  plan_lays osts number who (op.Size resource) made = tt

-- after an operation
pub laid_after : (L : Fid → Raid0 → Type 0) (osts : ℕ) (t : Tree) (a : Operation)
    → ((path : List (List ℕ)) (size : ℕ) (count : ℤ) (l : Raid0) → a.op ≡ op.Create path size count → new_layout osts a.number size count
    ≡ Some l → L (made_by a.number) l) → LaidBy L t → LaidBy L (after osts t a)
laid_after L osts t a new laid = laid_changed L t (outcome t (plan osts a.number a.who a.op)).changes
    (plan_lays L t osts a.number a.who a.op new) laid

-- it holds where there is no file, and of the layout that each create of the story gives
pub record Given (osts : ℕ) (story : List Line) (L : Fid → Raid0 → Type 0) : Type 0 where
  pub none : (f : Fid) → L f no_file.layout
  pub new : (d : Deed) → Acted story d → IsMade d → (path : List (List ℕ)) (size : ℕ) (count : ℤ) (l : Raid0) → d.op
      ≡ op.Create path size count → new_layout osts d.reply.txn size count ≡ Some l → L (made_by d.reply.txn) l

-- so of each file in the metadata target's tree
pub laid_by : (head : Head) (past : List Line) (L : Fid → Raid0 → Type 0) → Grown head past → Given head.osts (only 0 past) L
    → LaidBy L (server_of head.osts (only 0 past)).tree
laid_by head past L g k f = subst (L f) (at.history.tree (part.Layout f)) (left f)
  where
    story : List Line
    story = only 0 past

    at : HoldsAt head story
    at = (holds head past g).at 0

    made : (is : List Item) (a : Operation) → ItemOk head.osts story is a → (path : List (List ℕ)) (size : ℕ) (count : ℤ) (l : Raid0) → a.op
        ≡ op.Create path size count → new_layout head.osts a.number size count ≡ Some l → L (made_by a.number) l
    made is a ok path size count l creates new =
        let number : ok.deed.reply.txn ≡ a.number = ap (λ (o : Operation). o.number) ok.operates in
        subst (λ (n : TxnOf). L (made_by n) l) number
        (k.new ok.deed ok.acted ok.made path size count l (ap (λ (o : Operation). o.op) ok.operates ∙ creates)
        (ap (λ (n : TxnOf). new_layout head.osts n size count) number ∙ new))

    left : LaidBy L (contents head.osts empty (items_of head.osts story))
    left =
        over_now head story (λ n t. LaidBy L t) (λ n le f. k.none f)
        (λ is a n ok lt h. laid_after L head.osts (contents head.osts empty is) a (made is a ok) h)
        (λ n t who h. h) (λ n m t le h. h) at

-- ---- what is told

-- the layout that an answer tells: that of a file that is open, or stated, or asked for
abbrev pub TellsBy : (Fid → Raid0 → Type 0) → Answer → Type 0
TellsBy L (told.FileStat fid mode links l) = L fid l
TellsBy L (told.OpenFile fid number l) = L fid l
TellsBy L (told.Layout l) = (f : Fid) × L f l
TellsBy L _ = Unit {0}

abbrev TellsNone : Op → Type 0
TellsNone (op.Stat path) = ⊥
TellsNone (op.Layout path) = ⊥
TellsNone (op.Open path) = ⊥
TellsNone o = IsOnNames o

other_laid : (L : Fid → Raid0 → Type 0) (o : Op) (a : Answer) → answer_fits o a ≡ true → TellsNone o → TellsBy L a
other_laid L (op.Lookup path) (told.FileStat f bits links l) fits other = absurd (cc)
other_laid L (op.Lookup path) (told.OpenFile f number l) fits other = absurd (cc)
other_laid L (op.Lookup path) (told.Layout l) fits other = absurd (cc)
other_laid L (op.List path) (told.FileStat f bits links l) fits other = absurd (cc)
other_laid L (op.List path) (told.OpenFile f number l) fits other = absurd (cc)
other_laid L (op.List path) (told.Layout l) fits other = absurd (cc)
other_laid L (op.Mkdir path) (told.FileStat f bits links l) fits other = absurd (cc)
other_laid L (op.Mkdir path) (told.OpenFile f number l) fits other = absurd (cc)
other_laid L (op.Mkdir path) (told.Layout l) fits other = absurd (cc)
other_laid L (op.Create path size count) (told.FileStat f bits links l) fits other = absurd (cc)
other_laid L (op.Create path size count) (told.OpenFile f number l) fits other = absurd (cc)
other_laid L (op.Create path size count) (told.Layout l) fits other = absurd (cc)
other_laid L (op.Link old new) (told.FileStat f bits links l) fits other = absurd (cc)
other_laid L (op.Link old new) (told.OpenFile f number l) fits other = absurd (cc)
other_laid L (op.Link old new) (told.Layout l) fits other = absurd (cc)
other_laid L (op.Unlink path) (told.FileStat f bits links l) fits other = absurd (cc)
other_laid L (op.Unlink path) (told.OpenFile f number l) fits other = absurd (cc)
other_laid L (op.Unlink path) (told.Layout l) fits other = absurd (cc)
other_laid L (op.Rmdir path) (told.FileStat f bits links l) fits other = absurd (cc)
other_laid L (op.Rmdir path) (told.OpenFile f number l) fits other = absurd (cc)
other_laid L (op.Rmdir path) (told.Layout l) fits other = absurd (cc)
other_laid L (op.Rename old new) (told.FileStat f bits links l) fits other = absurd (cc)
other_laid L (op.Rename old new) (told.OpenFile f number l) fits other = absurd (cc)
other_laid L (op.Rename old new) (told.Layout l) fits other = absurd (cc)
other_laid L (op.Chmod path mode) (told.FileStat f bits links l) fits other = absurd (cc)
other_laid L (op.Chmod path mode) (told.OpenFile f number l) fits other = absurd (cc)
other_laid L (op.Chmod path mode) (told.Layout l) fits other = absurd (cc)
other_laid L (op.Close opened fid) (told.FileStat f bits links l) fits other = absurd (cc)
other_laid L (op.Close opened fid) (told.OpenFile f number l) fits other = absurd (cc)
other_laid L (op.Close opened fid) (told.Layout l) fits other = absurd (cc)
other_laid L o (told.FileStat f bits links l) fits other = absurd other
other_laid L o (told.OpenFile f number l) fits other = absurd other
other_laid L o (told.Layout l) fits other = absurd other
other_laid L o a fits other = tt

reached : (t : Tree) (c : Child) (cs : List Child) → IsReached t c → Every (IsNamed t) cs → IsReached t (last_of c cs)
reached t c [] r h = r
reached t c (d ∷ ds) r h = reached t d ds (inr h.0) h.1

file_named : (t : Tree) (f : Fid) → IsReached t (File f) → IsNamed t (File f)
file_named t f (inl e) = absurd (cc)
file_named t f (inr h) = h

-- what the table answers tells the layout that stands, of a file that a name leads to
pub table_tells : (L : Fid → Raid0 → Type 0) (osts : ℕ) (t : Tree) (number : TxnOf) (who : Who) (o : Op)
    → ((f : Fid) → IsNamed t (File f) → L f (layout t f)) → IsOnNames o
    → TellsBy L (answer osts t (record { number = number; who = who; op = o }))
table_tells L osts t number who o laid is = by o is
  where
    So : Outcome → Type 0
    So r = TellsBy L r.answer

    ends : (cs : List Child) → Every (IsNamed t) cs → IsReached t (last_of root cs)
    ends cs h = reached t root cs (inl refl) h

    stat : (cs : List Child) (c : Child) → IsReached t c → So (outcome t (row_stat cs c))
    stat cs (Dir d) r = tt
    stat cs (File f) r = laid f (file_named t f r)

    lays : (cs : List Child) (c : Child) → IsReached t c → So (outcome t (row_layout cs c))
    lays cs (Dir d) r = tt
    lays cs (File f) r = (f, laid f (file_named t f r))

    opens : (c : Child) → IsReached t c → So (outcome t (row_open number who c))
    opens (Dir d) r = tt
    opens (File f) r = laid f (file_named t f r)

    by : (o : Op) → IsOnNames o → TellsBy L (answer osts t (record { number = number; who = who; op = o }))
    by (op.Stat path) is = walk_ends t So (λ e. tt) root path (λ cs. row_stat cs (last_of root cs))
        (λ cs h. stat cs (last_of root cs) (ends cs h))
    by (op.Layout path) is = walk_ends t So (λ e. tt) root path (λ cs. row_layout cs (last_of root cs))
        (λ cs h. lays cs (last_of root cs) (ends cs h))
    by (op.Open path) is = walk_ends t So (λ e. tt) root path (λ cs. row_open number who (last_of root cs))
        (λ cs h. opens (last_of root cs) (ends cs h))
    by o is = other_laid L o (answer osts t (record { number = number; who = who; op = o }))
        (answers_fit osts t (record { number = number; who = who; op = o })) is

-- an answer of an object tells none
object_laid : (L : Fid → Raid0 → Type 0) (a : Answer) → IsObjectAnswer a → TellsBy L a
object_laid L told.Done is = tt
object_laid L (told.Granted cookie extent size) is = tt
object_laid L (told.Waiting cookie) is = tt
object_laid L (told.Content bytes) is = tt
object_laid L (told.Size size) is = tt
object_laid L told.Lock is = tt
object_laid L told.Uncovered is = tt
object_laid L a is = absurd is

-- each layout that is told, where it held of those that names led to when it was done
pub acted_so : (head : Head) (past : List Line) (L : Fid → Raid0 → Type 0) (d : Deed) → Grown head past
    → ((before : List Line) → Grown head before → ((e : Deed) → Acted (only 0 before) e → Acted (only 0 past) e) → (f : Fid)
    → IsNamed (server_of head.osts (only 0 before)).tree (File f) → L f (layout (server_of head.osts (only 0 before)).tree f))
    → Acted past d → TellsBy L d.reply.answer
acted_so head past L d g laid a = ⊎_elim
    (λ (b : Acted (only 0 past) d). let k = first_does head past d g b
    in by k.past (laid k.past k.grown k.older) k.at (acted_on_names head past d g b) k.does)
    (λ (o : OfObject d). object_laid L d.reply.answer o.answer)
    (acted_either head past d g a)
  where
    by : (before : List Line) → ((f : Fid) → IsNamed (server_of head.osts (only 0 before)).tree (File f)
        → L f (layout (server_of head.osts (only 0 before)).tree f)) → (at : At) → IsOnNames d.op → ActOk head.osts (only 0 before) at d
        ⊎ TxnOk head.osts (only 0 before) at d → TellsBy L d.reply.answer
    by before so at is (inl ok) =
        let v = server_of head.osts (only 0 before) in
        subst (λ (y : Deed). TellsBy L y.reply.answer) (sym ok.is)
        (table_tells L head.osts v.tree none ok.request.who ok.request.op so (subst IsOnNames (ap (λ (y : Deed). y.op) ok.is) is))
    by before so at is (inr ok) =
        let v = server_of head.osts (only 0 before) in
        subst (λ (y : Deed). TellsBy L y.reply.answer) (sym ok.is)
        (table_tells L head.osts v.tree (next_number v) ok.request.who ok.request.op so
        (subst IsOnNames (ap (λ (y : Deed). y.op) ok.is) is))

pub acted_tells : (head : Head) (past : List Line) (L : Fid → Raid0 → Type 0) (d : Deed) → Grown head past → Given head.osts (only 0 past) L
    → Acted past d → TellsBy L d.reply.answer
acted_tells head past L d g given a = acted_so head past L d g (λ before grown older f named. laid_by head before L grown
    (record { none = given.none; new = λ e b. given.new e (older e b) }) f) a

-- ---- where they lie

abbrev Lies : ℕ → Fid → Raid0 → Type 0
Lies osts f l = OnTargets osts l.targets

lies : (osts : ℕ) (story : List Line) → Given osts story (Lies osts)
lies osts story = record { none = λ f. tt; new = λ d a made path size count l creates is. new_on osts d.reply.txn size count l is }

-- each layout that is told is on object storage targets of the run
abbrev pub IsLaid : ℕ → Answer → Type 0
IsLaid osts (told.FileStat fid mode links l) = OnTargets osts l.targets
IsLaid osts (told.OpenFile fid number l) = OnTargets osts l.targets
IsLaid osts (told.Layout l) = OnTargets osts l.targets
IsLaid osts _ = Unit {0}

pub acted_laid : (head : Head) (past : List Line) (d : Deed) → Grown head past → Acted past d → IsLaid head.osts d.reply.answer
acted_laid head past d g a = by d.reply.answer (acted_tells head past (Lies head.osts) d g (lies head.osts (only 0 past)) a)
  where
    by : (a : Answer) → TellsBy (Lies head.osts) a → IsLaid head.osts a
    by (told.FileStat fid mode links l) on = on
    by (told.OpenFile fid number l) on = on
    by (told.Layout l) on = on.1
    by _ on = tt
