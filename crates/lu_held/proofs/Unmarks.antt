-- Marks of one target that are taken away one by one.
use Rattle.std.proofs.Common.{◌≡◌, ◌<◌, ◌==◌, ◌&&◌, Bool, true, false, cond, List, [], ◌∷◌, length, filter, find, Option, Some, None, refl}
use Rattle.std.proofs.Common.{ap, subst, sym, ◌∙◌, arith}
use Rattle.std.specs.Prelude.{All, slice_get, option_map}
use Rattle.std.proofs.lemmas.Bool.Decides.{nat_tests}
use Rattle.lu_base.specs.declared.ids.TargetId.{TargetId}
use Rattle.lu_held.specs.declared.names.LockName.{LockName}
use Rattle.lu_held.specs.declared.locks.HeldLock.{HeldLock}
use Rattle.lu_held.specs.declared.locks.Change.TheVariants.{Unmark}
use Rattle.lu_held.specs.declared.locks.Wanted.TheVariants.{Marked}
use Rattle.lu_held.specs.Locks.{name_of, is_named, after, matches}
use Rattle.lu_held.specs.Held.{changed, unmarked, in_order, those}
use Rattle.lu_held.proofs.Lists.{some_is, first_passes, none_passes, rest_all, rest_pairs, first_pairs}
use Rattle.lu_held.proofs.NameLaws.{same_is}
use Rattle.lu_held.proofs.Entries.{changed_none}
use Rattle.lu_held.proofs.Looks.{Once, from_order, found_at}

-- the marks that are left to take away
abbrev pub left : TargetId → List HeldLock → List HeldLock
left target locks = filter (matches (Marked target)) locks

of_target : (target : TargetId) (name : LockName) (held : HeldLock) → (name.target.0 == target.0) ≡ true → is_named name held ≡ true
    → (held.target.0 == target.0) ≡ true
of_target target name held here same = grind (arith, nat_tests)

pub unmarked_changed : (target : TargetId) (name : LockName) (locks : List HeldLock) → (name.target.0 == target.0) ≡ true
    → unmarked target (changed name Unmark locks) ≡ unmarked target locks
unmarked_changed target name [] here = refl
unmarked_changed target name (held ∷ locks) here = by (is_named name held) refl (unmarked_changed target name locks here) where
  by : (same : Bool) → is_named name held ≡ same → unmarked target (changed name Unmark locks) ≡ unmarked target locks
      → unmarked target (cond same (after Unmark held) held ∷ changed name Unmark locks) ≡ unmarked target (held ∷ locks)
  by true e rest = let at : (held.target.0 == target.0) ≡ true = of_target target name held here e
      in rw at (ap (λ more. after Unmark held ∷ more) rest)
  by false e rest = ap (λ more. cond (held.target.0 == target.0) (after Unmark held) held ∷ more) rest

no_mark : (there : Bool) → (there && false) ≡ false
no_mark true = refl
no_mark false = refl

pub none_behind : (name : LockName) (first : HeldLock) (locks : List HeldLock) → Once (first ∷ locks) → is_named name first ≡ true
    → All (λ other. is_named name other ≡ false) locks
none_behind name first locks once e =
    subst (λ n. All (λ other. is_named n other ≡ false) locks) (sym (same_is name (name_of first) e))
    (first_pairs (λ one other. is_named (name_of one) other ≡ false) first locks once)

pub fewer : (target : TargetId) (name : LockName) (locks : List HeldLock) (held : HeldLock) → Once locks → find (is_named name) locks
    ≡ Some held → matches (Marked target) held ≡ true → length (left target (changed name Unmark locks)) < length (left target locks)
fewer target name [] held once there marked = absurd (cc)
fewer target name (first ∷ locks) held once there marked = by (is_named name first) (matches (Marked target) first) refl refl there
    (λ on. fewer target name locks held (rest_pairs (λ one other. is_named (name_of one) other ≡ false) first locks once) on marked) where
      by : (same here : Bool) → is_named name first ≡ same → matches (Marked target) first ≡ here
          → cond same (Some first) (find (is_named name) locks) ≡ Some held
          → (find (is_named name) locks ≡ Some held → length (left target (changed name Unmark locks)) < length (left target locks))
          → length (left target (cond same (after Unmark first) first ∷ changed name Unmark locks)) < length
          (cond here (first ∷ left target locks) (left target locks))
      by true true e f h rest =
          let still : changed name Unmark locks ≡ locks = changed_none name Unmark locks (none_behind name first locks once e) in
          rw (no_mark (first.target.0 == target.0), still) (omega arith)
      by true false e f h rest =
          let found : first ≡ held = some_is first held h in
          let not_marked : matches (Marked target) held ≡ false = subst (λ l. matches (Marked target) l ≡ false) found f in
          absurd (cc)
      by false true e f h rest = let on : length (left target (changed name Unmark locks)) < length (left target locks) = rest h
          in rw f (omega arith)
      by false false e f h rest = rw f (rest h)

-- no mark is left
none_there : (found : Option HeldLock) → option_map name_of found ≡ None → found ≡ None
none_there None e = refl
none_there (Some held) e = absurd (cc)

stays : (held : HeldLock) (there marked : Bool) → held.marked ≡ marked → (there && marked) ≡ false → cond there (after Unmark held) held
    ≡ held
stays held true true e none = absurd (cc)
stays held true false e none = ap (λ m. record held { marked = m }) (sym e)
stays held false marked e none = refl

unmarked_none : (target : TargetId) (locks : List HeldLock) → All (λ held. matches (Marked target) held ≡ false) locks
    → unmarked target locks ≡ locks
unmarked_none target [] none = refl
unmarked_none target (held ∷ locks) none =
    ap (λ more. cond (held.target.0 == target.0) (after Unmark held) held ∷ more)
    (unmarked_none target locks (rest_all (λ other. matches (Marked target) other ≡ false) held locks none))
    ∙ ap (λ first. first ∷ locks) (stays held (held.target.0 == target.0) held.marked refl (none 0 held (omega arith)))

pub done : (target : TargetId) (locks : List HeldLock) → option_map name_of (slice_get (those (Marked target) locks) 0) ≡ None
    → unmarked target locks ≡ locks
done target locks none =
    unmarked_none target locks (from_order (λ held. matches (Marked target) held ≡ false) locks
    (none_passes (matches (Marked target)) (in_order locks) (none_there (slice_get (those (Marked target) locks) 0) none)))

-- what is found is marked, and of the target
here_of : (there marked : Bool) → (there && marked) ≡ true → there ≡ true
here_of true marked e = refl
here_of false marked e = cc

pub record IsNextMark (at : TargetId) (locks : List HeldLock) (name : LockName) : Type 0 where
  pub target : (name.target.0 == at.0) ≡ true
  pub less : length (left at (changed name Unmark locks)) < length (left at locks)

pub next_mark : (target : TargetId) (locks : List HeldLock) (name : LockName) → Once locks
    → option_map name_of (slice_get (those (Marked target) locks) 0) ≡ Some name → IsNextMark target locks name
next_mark target locks name once found = by (slice_get (those (Marked target) locks) 0) refl found
    (found_at (Marked target) locks 0 name once found) where
      by : (first : Option HeldLock) → slice_get (those (Marked target) locks) 0 ≡ first → option_map name_of first ≡ Some name
          → find (is_named name) locks ≡ slice_get (those (Marked target) locks) 0 → IsNextMark target locks name
      by None e h there = absurd (cc)
      by (Some held) e h there =
          let marked : matches (Marked target) held ≡ true = first_passes (matches (Marked target)) (in_order locks) held e in
          record {
            target = subst (λ n. (n.target.0 == target.0) ≡ true) (some_is (name_of held) name h)
                (here_of (held.target.0 == target.0) held.marked marked);
            less = fewer target name locks held once (there ∙ e) marked;
          }
