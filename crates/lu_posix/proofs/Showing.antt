-- What the program's objects and layouts show of the plain machine, and that it goes on so.
use Rattle.std.proofs.Common.{◌≡◌, ℕ, ◌+◌, ◌-◌, min, max, Bool, true, false, List, [], inl, inr, Option, Some, None, refl, sym, ap, ◌∙◌}
use Rattle.std.proofs.Common.{subst, arith}
use Rattle.std.specs.Prelude.{map, is_some, if◌then◌else◌}
use Rattle.std.specs.List.{range_with_len}
use Rattle.std.specs.Map.{lookup}
use Rattle.std.specs.Option.{option_map, unwrap_or}
use Rattle.lu_base.specs.declared.ids.Fid.{Fid}
use Rattle.lu_base.specs.declared.locks.Resource.{Resource}
use Rattle.lu_layout.specs.Raid0.{Raid0, greatest_end}
use Rattle.lu_msg.specs.declared.answers.Answer.{Answer}
use Rattle.lu_msg.specs.declared.answers.Answer.TheVariants as told
use Rattle.lu_msg.specs.declared.answers.Errno.TheVariants.{EBADF}
use Rattle.lu_msg.specs.declared.calls.Call.{Call}
use Rattle.lu_msg.specs.declared.calls.Call.TheVariants as call
use Rattle.lu_msg.specs.declared.operations.Op.{Op}
use Rattle.lu_msg.specs.declared.operations.Op.TheVariants as op
use Rattle.lu_spec_machine.specs.Bytes.{FileBytes, object_at, on_object, byte_at, read}
use Rattle.lu_spec_machine.specs.Footprint.{Operation, answer, after}
use Rattle.lu_spec_machine.specs.Machine.{Machine, bytes_of, with_bytes, was_file, changed_bytes, object_of, is_stale, names_next}
use Rattle.lu_spec_machine.specs.Machine.{data_answer, data_change}
use Rattle.lu_spec_machine.specs.Objects.{Object}
use Rattle.lu_spec_machine.specs.Tree.{Tree, Inode, no_file, same_fid, fid_cmp, layout}
use Rattle.lu_spec_machine.proofs.Keys.{Told, fid_tells, find-put}
use Rattle.lu_service.specs.Contents.{object_in, with_object}
use Rattle.lu_tree.specs.State.{performed}
use Rattle.lu_posix.specs.Files.{object, ShowsFile, Others}
use Rattle.lu_posix.specs.Names.{NamesState, is_passed, answer_of, names_after, made_layout}
use Rattle.lu_posix.specs.Shown.{MachineState, Shows, ShowsNames, ShowsLayouts, layout_in}
use Rattle.lu_posix.proofs.FileLayouts.{noted, layouts_after}
use Rattle.lu_posix.proofs.SameNames.{names_bytes, answer_same, names_shown}
use Rattle.lu_posix.proofs.Written.{shows_piece, others_with}

-- ---- which files there are

was_by : (t : Tree) (f : Fid) (l : Raid0) → layout_in t f ≡ Some l → (is_some (lookup (same_fid f) t.files) ≡ true) × (layout t f ≡ l)
was_by t f l is = by (lookup (same_fid f) t.files) is
  where
    by : (o : Option Inode) → option_map (λ (i : Inode). i.layout) o ≡ Some l → (is_some o ≡ true) × ((unwrap_or o no_file).layout ≡ l)
    by None h = absurd (cc (h))
    by (Some i) h = (refl, cc (h))

never_by : (t : Tree) (f : Fid) → layout_in t f ≡ None → (is_some (lookup (same_fid f) t.files) ≡ false) × (layout t f ≡ no_file.layout)
never_by t f is = by (lookup (same_fid f) t.files) is
  where
    by : (o : Option Inode) → option_map (λ (i : Inode). i.layout) o ≡ None → (is_some o ≡ false)
        × ((unwrap_or o no_file).layout ≡ no_file.layout)
    by None h = (refl, refl)
    by (Some i) h = absurd (cc (h))

-- of what never was a file nothing is read
pub read_nothing : (b : FileBytes) (offset count : ℕ) → read no_file.layout b offset count ≡ []
unfolding greatest_end
read_nothing b offset count =
    let none : min count (0 - offset) ≡ 0 = omega arith in
    ap (λ (n : ℕ). map (λ i. unwrap_or (byte_at no_file.layout b (offset + i)) 0) (range_with_len 0 n)) none

module _ (osts : ℕ) (s : MachineState) (m : Machine) (shown : Shows osts s m) where
  -- the objects of a file are its bytes
  pub file_shown : (f : Fid) → ShowsFile s.objects f (bytes_of m f)
  file_shown f stripe = shown.objects (object f stripe)

  pub was_shown : (f : Fid) (l : Raid0) → Some l ≡ lookup (same_fid f) s.layouts → (was_file m f ≡ true) × (layout m.tree f ≡ l)
  was_shown f l is = was_by m.tree f l (sym (shown.layouts f) ∙ sym is)

  pub never_shown : (f : Fid) → None ≡ lookup (same_fid f) s.layouts → (was_file m f ≡ false) × (layout m.tree f ≡ no_file.layout)
  never_shown f is = never_by m.tree f (sym (shown.layouts f) ∙ sym is)

  -- the bytes of one file change
  pub bytes_shown : (t : MachineState) (f : Fid) (b : FileBytes) → t.names ≡ s.names → t.layouts ≡ s.layouts → ShowsFile t.objects f b
      → Others f s.objects t.objects → Shows osts t (with_bytes m f b)
  bytes_shown t f b names layouts own others =
      record {
        names = subst (λ (n : NamesState). ShowsNames osts n (with_bytes m f b)) (sym names) (names_bytes osts s.names m f b shown.names);
        layouts = subst (λ (ls : List (Fid × Raid0)). ShowsLayouts ls m) (sym layouts) shown.layouts;
        objects = λ r. by r (fid_tells f r.fid);
      }
    where
      by : (r : Resource) → Told same_fid f r.fid → object_in t.objects r ≡ object_of (with_bytes m f b) r.fid r.stripe
      by r (inl h) =
          ap (λ (k : Fid). object_in t.objects (object k r.stripe)) (sym h.1) ∙ own r.stripe
          ∙ sym (ap (λ (o : Option FileBytes). object_at (unwrap_or o []) r.stripe) (find-put same_fid fid_tells fid_cmp f b r.fid m.bytes)
          ∙ ap (λ (v : Bool). object_at (unwrap_or (if v then Some b else lookup (same_fid r.fid) m.bytes) []) r.stripe) h.0)
      by r (inr h) =
          others r (λ e. h.1 (ap (λ (n : ℕ). record { 0 = n }) (sym e))) ∙ shown.objects r
          ∙ sym (ap (λ (o : Option FileBytes). object_at (unwrap_or o []) r.stripe) (find-put same_fid fid_tells fid_cmp f b r.fid m.bytes)
          ∙ ap (λ (v : Bool). object_at (unwrap_or (if v then Some b else lookup (same_fid r.fid) m.bytes) []) r.stripe) h.0)

  -- through the layout of what is or was a file
  pub changed_shown : (t : MachineState) (f : Fid) (change : FileBytes → FileBytes) → was_file m f ≡ true → t.names ≡ s.names → t.layouts
      ≡ s.layouts → ShowsFile t.objects f (change (bytes_of m f)) → Others f s.objects t.objects
      → Shows osts t (changed_bytes m f change)
  changed_shown t f change was names layouts own others =
      subst (λ (v : Bool). Shows osts t (if v then with_bytes m f (change (bytes_of m f)) else m)) (sym was)
      (bytes_shown t f (change (bytes_of m f)) names layouts own others)

  pub nothing_shown : (f : Fid) (change : FileBytes → FileBytes) → was_file m f ≡ false → Shows osts s (changed_bytes m f change)
  nothing_shown f change never = subst (λ (v : Bool). Shows osts s (if v then with_bytes m f (change (bytes_of m f)) else m)) (sym never)
      shown

  -- what changes no byte
  pub idle_shown : (f : Fid) → Shows osts s (changed_bytes m f (λ b. b))
  idle_shown f = by (was_file m f) refl
    where
      by : (v : Bool) → was_file m f ≡ v → Shows osts s (changed_bytes m f (λ b. b))
      by true is = changed_shown s f (λ b. b) is refl refl (file_shown f) (λ r ne. refl)
      by false is = nothing_shown f (λ b. b) is

  -- and what is no call on bytes
  pub quiet : (f : Fid) (x : Call) → ((h o n : ℕ) → x ≡ call.Read h o n → ⊥) → ((h o : ℕ) (bs : List ℕ) → x ≡ call.Write h o bs → ⊥)
      → ((h n : ℕ) → x ≡ call.Cut h n → ⊥) → ((h : ℕ) → x ≡ call.Flush h → ⊥)
      → (told.Refused EBADF ≡ data_answer m f x) × Shows osts s (changed_bytes m f (data_change m f x))
  quiet f (call.Read h o n) reads writes cuts flushes = absurd (reads h o n refl)
  quiet f (call.Write h o bs) reads writes cuts flushes = absurd (writes h o bs refl)
  quiet f (call.Cut h n) reads writes cuts flushes = absurd (cuts h n refl)
  quiet f (call.Flush h) reads writes cuts flushes = absurd (flushes h refl)
  quiet f _ reads writes cuts flushes = (refl, idle_shown f)

  -- what reaches one object
  pub piece_shown : (t : MachineState) (r : Resource) (change : Object → Object) → t.names ≡ s.names → t.layouts ≡ s.layouts → t.objects
      ≡ with_object r (change (object_in s.objects r)) s.objects
      → Shows osts t (with_bytes m r.fid (on_object change r.stripe (bytes_of m r.fid)))
  piece_shown t r change names layouts made =
      bytes_shown t r.fid (on_object change r.stripe (bytes_of m r.fid)) names layouts
      (subst (λ (os : List (Resource × Object)). ShowsFile os r.fid (on_object change r.stripe (bytes_of m r.fid))) (sym made)
      (shows_piece change s.objects r.fid r.stripe (bytes_of m r.fid) (file_shown r.fid)))
      (subst (λ (os : List (Resource × Object)). Others r.fid s.objects os) (sym made)
      (others_with s.objects r.fid r.stripe (change (object_in s.objects r))))

  -- a file that was made has its layout noted
  pub names_step : (t : MachineState) (a : Operation) (x : Answer) (o : Option Raid0) → x ≡ answer_of s.names a → o
      ≡ made_layout t.names.osts a.number a.op x → t.names ≡ names_after s.names a
      → ((f : Fid) → lookup (same_fid f) t.layouts ≡ noted o a.number f (lookup (same_fid f) s.layouts)) → t.objects ≡ s.objects
      → Shows osts t (names_next osts m a)
  names_step t a x o answered made names layouts objects =
      record {
        names = subst (λ (n : NamesState). ShowsNames osts n (names_next osts m a)) (sym names) (names_shown osts s.names m shown.names a);
        layouts = λ f. layouts f ∙ ap (λ (p : Option Raid0). noted p a.number f (lookup (same_fid f) s.layouts)) is_made
            ∙ ap (λ (p : Option Raid0). noted (made_layout osts a.number a.op right) a.number f p) (shown.layouts f)
            ∙ noted_by f (is_stale osts m a) refl;
        objects = λ r. ap (λ (os : List (Resource × Object)). object_in os r) objects ∙ shown.objects r;
      }
    where
      right : Answer
      right = if is_stale osts m a then told.Refused EBADF else answer osts m.tree a

      over_same : t.names.osts ≡ osts
      over_same = ap (λ (n : NamesState). n.osts) names ∙ by (is_passed s.names a) ∙ shown.names.count
        where
          by : (v : Bool) → (if v then s.names else record {
            osts = s.names.osts;
            last = max s.names.last a.number.0;
            tree =
                performed s.names.tree a;
          }).osts ≡ s.names.osts
          by true = refl
          by false = refl

      is_made : o ≡ made_layout osts a.number a.op right
      is_made = made ∙ ap (λ (n : ℕ). made_layout n a.number a.op x) over_same
          ∙ ap (λ (y : Answer). made_layout osts a.number a.op y) (answered ∙ answer_same osts s.names m shown.names a)

      refused_none : (c : Op) → made_layout osts a.number c (told.Refused EBADF) ≡ None
      refused_none (op.Create path size count) = refl
      refused_none _ = refl

      noted_by : (f : Fid) (v : Bool) → is_stale osts m a ≡ v → noted
          (made_layout osts a.number a.op (if v then told.Refused EBADF else answer osts m.tree a)) a.number f (layout_in m.tree f)
          ≡ layout_in (if v then m.tree else after osts m.tree a) f
      noted_by f true is = ap (λ (p : Option Raid0). noted p a.number f (layout_in m.tree f)) (refused_none a.op)
      noted_by f false is =
          subst (λ (u : Tree). noted (made_layout osts a.number a.op (answer osts u a)) a.number f (layout_in u f)
          ≡ layout_in (after osts u a) f) (sym shown.names.plain)
          (sym (layouts_after osts shown.names.past shown.names.rising a f))
