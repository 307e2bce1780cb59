-- The names of the program and those of the plain machine answer the same, and go on so.
use Rattle.std.proofs.Common.{◌≡◌, ℕ, ◌+◌, ◌<◌, ◌≤◌, max, Bool, true, false, not, List, [], ◌∷◌, refl, sym, ap, ◌∙◌, subst, arith}
use Rattle.std.specs.Prelude.{nat_lt, ◌==◌, ◌&&◌, if◌then◌else◌}
use Rattle.std.specs.List.{filter}
use Rattle.std.proofs.lemmas.Bool.{and_parts}
use Rattle.std.proofs.lemmas.Bool.Decides.{nat_tests}
use Rattle.lu_base.specs.declared.ids.Fid.{Fid}
use Rattle.lu_msg.specs.declared.answers.Answer.{Answer}
use Rattle.lu_msg.specs.declared.answers.Answer.TheVariants.{Refused}
use Rattle.lu_msg.specs.declared.answers.Errno.TheVariants.{EBADF}
use Rattle.lu_spec_machine.specs.Footprint.{Operation, empty, answer, changes, after}
use Rattle.lu_spec_machine.specs.Laws.{Alike}
use Rattle.lu_spec_machine.specs.Bytes.{FileBytes}
use Rattle.lu_spec_machine.specs.Machine.{Machine, is_stale, names_next, names_answer, as_told, with_bytes}
use Rattle.lu_spec_machine.specs.Removal.{Item, Acts, Forgets, contents}
use Rattle.lu_spec_machine.specs.Tree.{Tree, Inode, Opened}
use Rattle.lu_spec_machine.specs.Trim.{is_alive, living, trim, trimmed, Above}
use Rattle.lu_spec_machine.proofs.Stated.{unchanged_stay}
use Rattle.lu_spec_machine.proofs.Trim.{unseen}
use Rattle.lu_tree.specs.State.{performed}
use Rattle.lu_posix.specs.Names.{NamesState, is_passed, answer_of, names_after}
use Rattle.lu_posix.specs.Shown.{ShowsNames}

-- ---- a tree without files that have left has none to leave

living_twice : (os : List Opened) (fs : List (Fid × Inode)) → living os (living os fs) ≡ living os fs
living_twice os [] = refl
living_twice os (e ∷ fs) = by (is_alive os e) refl (living_twice os fs)
  where
    by : (v : Bool) → is_alive os e ≡ v → living os (living os fs) ≡ living os fs → living os (if v then e ∷ living os fs else living os fs)
        ≡ (if v then e ∷ living os fs else living os fs)
    by true is rest = ap (λ (w : Bool). if w then e ∷ living os (living os fs) else living os (living os fs)) is
        ∙ ap (λ (es : List (Fid × Inode)). e ∷ es) rest
    by false is rest = rest

trim_twice : (t : Tree) → trim (trim t) ≡ trim t
trim_twice t = ap (λ (fs : List (Fid × Inode)). record { dirs = t.dirs; files = fs; opens = t.opens }) (living_twice t.opens t.files)

trimmed_lean : (osts : ℕ) (past : List Item) → trim (trimmed osts past) ≡ trimmed osts past
trimmed_lean osts [] = refl
trimmed_lean osts (Acts a ∷ past) = trim_twice (after osts (trimmed osts past) a)
trimmed_lean osts (Forgets who ∷ past) = trim_twice (record (trimmed osts past)
    { opens = filter (λ o. not (o.life.client == who.client && o.life.life == who.life)) (trimmed osts past).opens })

above_more : (past : List Item) (m n : ℕ) → m ≤ n → Above past m → Above past n
above_more [] m n less h = omega (arith, h)
above_more (Acts a ∷ past) m n less h = (omega (arith, h.0), above_more past m n less h.1)
above_more (Forgets who ∷ past) m n less h = above_more past m n less h

-- ---- one operation

module _ (osts : ℕ) (s : NamesState) (m : Machine) (shown : ShowsNames osts s m) (a : Operation) where
  seen : Alike osts (contents osts empty shown.past) (trimmed osts shown.past) a
  seen = unseen osts shown.past shown.rising a

  changes_same : changes s.tree.osts s.tree.tree a ≡ changes osts m.tree a
  changes_same =
      ap (λ (n : ℕ). changes n s.tree.tree a) shown.over ∙ ap (λ (t : Tree). changes osts t a) shown.kept ∙ sym seen.changes
      ∙ sym (ap (λ (t : Tree). changes osts t a) shown.plain)

  answers_same : answer s.tree.osts s.tree.tree a ≡ answer osts m.tree a
  answers_same =
      ap (λ (n : ℕ). answer n s.tree.tree a) shown.over ∙ ap (λ (t : Tree). answer osts t a) shown.kept ∙ sym seen.answer
      ∙ sym (ap (λ (t : Tree). answer osts t a) shown.plain)

  pub passed_same : is_passed s a ≡ is_stale osts m a
  passed_same = ap (λ (v : Bool). v && not (nat_lt s.last a.number.0)) changes_same
      ∙ ap (λ (k : ℕ). changes osts m.tree a && not (nat_lt k a.number.0)) shown.last

  pub answer_same : answer_of s a ≡ (if is_stale osts m a then Refused EBADF else answer osts m.tree a)
  answer_same =
      ap (λ (v : Bool). if v then Refused EBADF else answer s.tree.osts s.tree.tree a) passed_same
      ∙ ap (λ (x : Answer). if is_stale osts m a then Refused EBADF else x) answers_same

  pub told_same : as_told m (answer_of s a) ≡ names_answer osts m a
  told_same = ap (as_told m) answer_same ∙ by (is_stale osts m a)
    where
      by : (v : Bool) → as_told m (if v then Refused EBADF else answer osts m.tree a)
          ≡ (if v then Refused EBADF else as_told m (answer osts m.tree a))
      by true = refl
      by false = refl

  -- what is refused under a number that was passed leaves all
  refused_shown : is_stale osts m a ≡ true → ShowsNames osts s (record m { tree = m.tree; last = max m.last a.number.0 })
  refused_shown stale =
      let passed : nat_lt m.last a.number.0 ≡ false = not_false (nat_lt m.last a.number.0)
      (and_parts (changes osts m.tree a) (not (nat_lt m.last a.number.0)) stale).1 in
      let below : a.number.0 ≤ m.last = grind (arith, nat_tests) in
      let same : m.last ≡ max m.last a.number.0 = omega (arith, below) in
      record {
        count = shown.count;
        over = shown.over;
        last = shown.last ∙ same;
        past = shown.past;
        rising = shown.rising;
        below = above_more shown.past (m.last + 1) (max m.last a.number.0 + 1) (omega arith) shown.below;
        plain = shown.plain;
        kept = shown.kept;
      }
    where
      not_false : (v : Bool) → not v ≡ true → v ≡ false
      not_false true h = absurd (cc (h))
      not_false false h = refl

  abbrev done : NamesState
  done = record { osts = s.osts; last = max s.last a.number.0; tree = performed s.tree a }

  last_same : max s.last a.number.0 ≡ max m.last a.number.0
  last_same = ap (λ (k : ℕ). max k a.number.0) shown.last

  -- what makes no transaction leaves the tree
  unchanged_shown : changes osts m.tree a ≡ false → ShowsNames osts done
      (record m { tree = after osts m.tree a; last = max m.last a.number.0 })
  unchanged_shown none =
      record {
        count = shown.count;
        over = shown.over;
        last = last_same;
        past = shown.past;
        rising = shown.rising;
        below = above_more shown.past (m.last + 1) (max m.last a.number.0 + 1) (omega arith) shown.below;
        plain = (unchanged_stay osts m.tree a none).0 ∙ shown.plain;
        kept = ap trim (unchanged_stay s.tree.osts s.tree.tree a (changes_same ∙ none)).0 ∙ ap trim shown.kept
            ∙ trimmed_lean osts shown.past;
      }

  -- a transaction goes on the past
  changed_shown : m.last < a.number.0 → ShowsNames osts done (record m { tree = after osts m.tree a; last = max m.last a.number.0 })
  changed_shown new =
      record {
        count = shown.count;
        over = shown.over;
        last = last_same;
        past = Acts a ∷ shown.past;
        rising = (above_more shown.past (m.last + 1) a.number.0 (omega (arith, new)) shown.below, shown.rising);
        below = (omega arith, above_more shown.past (m.last + 1) (max m.last a.number.0 + 1) (omega arith) shown.below);
        plain = ap (λ (t : Tree). after osts t a) shown.plain;
        kept = ap (λ (n : ℕ). trim (after n s.tree.tree a)) shown.over ∙ ap (λ (t : Tree). trim (after osts t a)) shown.kept;
      }

  pub names_shown : ShowsNames osts (names_after s a) (names_next osts m a)
  names_shown =
      subst (λ (v : Bool). ShowsNames osts (if v then s else done) (names_next osts m a)) (sym passed_same) (by (is_stale osts m a) refl)
    where
      goes : (v w : Bool) → changes osts m.tree a ≡ v → nat_lt m.last a.number.0 ≡ w → (v && not w) ≡ false
          → ShowsNames osts done (record m { tree = after osts m.tree a; last = max m.last a.number.0 })
      goes false w is less free = unchanged_shown is
      goes true true is less free = changed_shown (grind (arith, nat_tests))
      goes true false is less free = absurd (cc (free))

      by : (v : Bool) → is_stale osts m a ≡ v → ShowsNames osts (if v then s else done)
          (record m { tree = if v then m.tree else after osts m.tree a; last = max m.last a.number.0 })
      by true is = refused_shown is
      by false is = goes (changes osts m.tree a) (nat_lt m.last a.number.0) refl refl is

-- the bytes have no part in it
pub names_bytes : (osts : ℕ) (s : NamesState) (m : Machine) (f : Fid) (b : FileBytes) → ShowsNames osts s m
    → ShowsNames osts s (with_bytes m f b)
names_bytes osts s m f b shown =
    record {
      count = shown.count;
      over = shown.over;
      last = shown.last;
      past = shown.past;
      rising = shown.rising;
      below = shown.below;
      plain = shown.plain;
      kept = shown.kept;
    }
