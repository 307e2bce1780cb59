-- The names of the marked locks in order, and how many locks are free, once one lock changed, left, or was used.
use Rattle.std.proofs.Common.{◌≡◌, ℕ, suc, ◌+◌, ◌<◌, ◌≤◌, Bool, true, false, not, cond, List, [], ◌∷◌, ◌++◌, length, filter, find, map}
use Rattle.std.proofs.Common.{Option, Some, None, refl, ap, subst, sym, ◌∙◌, length-append, arith}
use Rattle.std.specs.Prelude.{All, AllPairs}
use Rattle.std.specs.Map.{values_of, lookup, set_value, remove_entry}
use Rattle.std.proofs.lemmas.List.Elements.{All-cons, All-filter}
use Rattle.std.proofs.lemmas.List.Kept.{AllPairs-cons, AllPairs-filter}
use Rattle.std.proofs.lemmas.List.Filters.{length-filter_both}
use Rattle.std.proofs.lemmas.Bool.Decides.{nat_tests}
use Rattle.lu_held.specs.declared.names.LockName.{LockName}
use Rattle.lu_held.specs.declared.locks.HeldLock.{HeldLock}
use Rattle.lu_held.specs.declared.locks.Change.{Change}
use Rattle.lu_held.specs.Names.{same_name, is_before, with_name, sorted}
use Rattle.lu_held.specs.Locks.{name_of, is_named, after, is_free}
use Rattle.lu_held.specs.Held.{changed, without, used, put_in, in_order, IsOnce, IsBefore}
use Rattle.lu_held.specs.Kept.{is_marked, marks, remarked, recounted, IsKept, IsIndexed}
use Rattle.lu_held.proofs.Lists.{some_is, rest_all, rest_pairs, first_pairs, filter_all, filter_none, turned}
use Rattle.lu_held.proofs.NameLaws.{Apart, same_is, commute, filter_with, all_others, all_sorted}
use Rattle.lu_held.proofs.Entries.{name_after, lookup_find, values_set, values_removed}
use Rattle.lu_held.proofs.Keeping.{kept_set}
use Rattle.lu_held.proofs.Unmarks.{none_behind}
use Rattle.lu_held.proofs.Looks.{names_in_order}
use Rattle.lu_held.proofs.Choices.{rising_order}

abbrev Others : HeldLock → HeldLock → Type 0
Others one other = is_named (name_of one) other ≡ false

-- a filter of the locks in order gives the filtered locks in order
put_front : (held : HeldLock) (locks : List HeldLock) → All (λ other. is_before (name_of other) (name_of held) ≡ false) locks
    → put_in held locks ≡ held ∷ locks
put_front held [] behind = refl
put_front held (first ∷ locks) behind = rw (behind 0 first (omega arith)) refl

still_behind : (a b x : LockName) → is_before a b ≡ false → is_before a x ≡ true → is_before x b ≡ false
still_behind a b x = grind (arith, nat_tests)

all_behind : (held first : HeldLock) (locks : List HeldLock) → is_before (name_of first) (name_of held) ≡ false → All (IsBefore first) locks
    → All (λ other. is_before (name_of other) (name_of held) ≡ false) locks
all_behind held first [] back before = λ k d within. absurd (omega arith)
all_behind held first (other ∷ locks) back before =
    All-cons (λ other. is_before (name_of other) (name_of held) ≡ false) other locks
    (still_behind (name_of first) (name_of held) (name_of other) back (before 0 other (omega arith)))
    (all_behind held first locks back (rest_all (IsBefore first) other locks before))

filter_put : (test : HeldLock → Bool) (held : HeldLock) (locks : List HeldLock) → AllPairs IsBefore locks → filter test (put_in held locks)
    ≡ cond (test held) (put_in held (filter test locks)) (filter test locks)
filter_put test held [] rising = refl
filter_put test held (first ∷ locks) rising = by (is_before (name_of first) (name_of held)) (test first) (test held) refl refl refl
    (filter_put test held locks (rest_pairs IsBefore first locks rising)) where
      by : (before here this : Bool) → is_before (name_of first) (name_of held) ≡ before → test first ≡ here → test held ≡ this
          → filter test (put_in held locks) ≡ cond (test held) (put_in held (filter test locks)) (filter test locks)
          → filter test (cond before (first ∷ put_in held locks) (held ∷ first ∷ locks))
          ≡ cond this (put_in held (cond here (first ∷ filter test locks) (filter test locks)))
          (cond here (first ∷ filter test locks) (filter test locks))
      by true true true e f g rest = let on : filter test (put_in held locks) ≡ put_in held (filter test locks) = rest ∙ rw g refl
          in rw (f, e) (ap (λ more. first ∷ more) on)
      by true true false e f g rest = let on : filter test (put_in held locks) ≡ filter test locks = rest ∙ rw g refl
          in rw f (ap (λ more. first ∷ more) on)
      by true false true e f g rest = let on : filter test (put_in held locks) ≡ put_in held (filter test locks) = rest ∙ rw g refl in rw f on
      by true false false e f g rest = let on : filter test (put_in held locks) ≡ filter test locks = rest ∙ rw g refl in rw f on
      by false true true e f g rest = rw (g, f, e) refl
      by false true false e f g rest = rw (g, f) refl
      by false false true e f g rest =
          let behind = All-filter test (λ other. is_before (name_of other) (name_of held) ≡ false) locks
          (all_behind held first locks e (first_pairs IsBefore first locks rising)) in
          rw (g, f) (sym (put_front held (filter test locks) behind))
      by false false false e f g rest = rw (g, f) refl

pub filter_in_order : (test : HeldLock → Bool) (locks : List HeldLock) → IsOnce locks → filter test (in_order locks)
    ≡ in_order (filter test locks)
filter_in_order test [] once = refl
filter_in_order test (held ∷ locks) once =
    let more : IsOnce locks = rest_pairs Others held locks once in
    filter_put test held (in_order locks) (rising_order locks more)
    ∙ by (test held) (filter_in_order test locks more) where
      by : (here : Bool) → filter test (in_order locks) ≡ in_order (filter test locks)
          → cond here (put_in held (filter test (in_order locks))) (filter test (in_order locks))
          ≡ in_order (cond here (held ∷ filter test locks) (filter test locks))
      by true rest = ap (put_in held) rest
      by false rest = rest

-- the names of the marked ones stand in order
pub marks_are : (locks : List HeldLock) → IsOnce locks → marks locks ≡ map name_of (filter is_marked (in_order locks))
marks_are locks once = sym (names_in_order (filter is_marked locks)) ∙ ap (map name_of) (sym (filter_in_order is_marked locks once))

pairs_map : (locks : List HeldLock) → AllPairs IsBefore locks → AllPairs (λ one other. is_before one other ≡ true) (map name_of locks)
pairs_map [] rising = λ i j d less within. absurd (omega arith)
pairs_map (held ∷ locks) rising = AllPairs-cons (λ one other. is_before one other ≡ true) (name_of held) (map name_of locks)
    (by locks (first_pairs IsBefore held locks rising)) (pairs_map locks (rest_pairs IsBefore held locks rising)) where
      by : (some : List HeldLock) → All (IsBefore held) some → All (λ other. is_before (name_of held) other ≡ true) (map name_of some)
      by [] all = λ k d within. absurd (omega arith)
      by (other ∷ some) all = All-cons (λ other. is_before (name_of held) other ≡ true) (name_of other) (map name_of some)
          (all 0 other (omega arith)) (by some (rest_all (IsBefore held) other some all))

pub marks_rise : (locks : List HeldLock) → IsOnce locks → AllPairs (λ one other. is_before one other ≡ true) (marks locks)
marks_rise locks once =
    subst (AllPairs (λ one other. is_before one other ≡ true)) (names_in_order (filter is_marked locks))
    (pairs_map (in_order (filter is_marked locks)) (rising_order (filter is_marked locks) (AllPairs-filter Others is_marked locks once)))

-- one lock among the others
marks_of : (name : LockName) (locks : List HeldLock) (held : HeldLock) → IsOnce locks → find (is_named name) locks ≡ Some held → marks locks
    ≡ cond held.marked (with_name name (marks (without name locks))) (marks (without name locks))
marks_of name [] held once there = absurd (cc)
marks_of name (first ∷ locks) held once there = by (is_named name first) refl there
    (λ on. marks_of name locks held (rest_pairs Others first locks once) on) where
      apart : (one two : Bool) → marks locks ≡ cond two (with_name name (marks (without name locks))) (marks (without name locks))
          → Apart name (name_of first)
          → sorted (map name_of (cond one (first ∷ filter is_marked locks) (filter is_marked locks)))
          ≡ cond two (with_name name (sorted (map name_of (cond one (first ∷ filter is_marked (without name locks))
          (filter is_marked (without name locks)))))) (sorted (map name_of
          (cond one (first ∷ filter is_marked (without name locks)) (filter is_marked (without name locks)))))
      apart true true rest off = ap (with_name (name_of first)) rest ∙ sym (commute name (name_of first) off (marks (without name locks)))
      apart true false rest off = ap (with_name (name_of first)) rest
      apart false true rest off = rest
      apart false false rest off = rest

      by : (same : Bool) → is_named name first ≡ same → cond same (Some first) (find (is_named name) locks) ≡ Some held
          → (find (is_named name) locks ≡ Some held → marks locks ≡ cond held.marked (with_name name (marks (without name locks)))
          (marks (without name locks)))
          → marks (first ∷ locks) ≡ cond held.marked (with_name name
          (marks (cond (not same) (first ∷ without name locks) (without name locks))))
          (marks (cond (not same) (first ∷ without name locks) (without name locks)))
      by true e h rest =
          let still : without name locks ≡ locks = filter_all (λ held. not (is_named name held)) locks
          (turned (is_named name) locks (none_behind name first locks once e)) in
          let is : first ≡ held = some_is first held h in
          let same : name ≡ name_of first = same_is name (name_of first) e in
          subst (λ l. marks (first ∷ locks) ≡ cond l.marked (with_name name (marks (without name locks))) (marks (without name locks))) is
          (subst (λ n. marks (first ∷ locks) ≡ cond first.marked (with_name n (marks (without name locks))) (marks (without name locks)))
          (sym same)
          (subst (λ some. marks (first ∷ locks) ≡ cond first.marked (with_name (name_of first) (marks some)) (marks some)) (sym still)
          (here first.marked))) where
            here : (marked : Bool) → sorted (map name_of (cond marked (first ∷ filter is_marked locks) (filter is_marked locks)))
                ≡ cond marked (with_name (name_of first) (marks locks)) (marks locks)
            here true = refl
            here false = refl
      by false e h rest = apart first.marked held.marked (rest h) e

free_of : (name : LockName) (locks : List HeldLock) (held : HeldLock) → IsOnce locks → find (is_named name) locks ≡ Some held
    → length (filter is_free locks) ≡ cond (is_free held) 1 0 + length (filter is_free (without name locks))
free_of name [] held once there = absurd (cc)
free_of name (first ∷ locks) held once there = by (is_named name first) refl there
    (λ on. free_of name locks held (rest_pairs Others first locks once) on) where
      front : (one : Bool) (n k : ℕ) (some more : List HeldLock) → length some ≡ n + length more → length (cond one (first ∷ some) some)
          ≡ n + length (cond one (first ∷ more) more)
      front true n k some more e = omega arith
      front false n k some more e = e

      only : (one : Bool) (some : List HeldLock) → length (cond one (first ∷ some) some) ≡ cond one 1 0 + length some
      only true some = omega arith
      only false some = omega arith

      by : (same : Bool) → is_named name first ≡ same → cond same (Some first) (find (is_named name) locks) ≡ Some held
          → (find (is_named name) locks ≡ Some held → length (filter is_free locks)
          ≡ cond (is_free held) 1 0 + length (filter is_free (without name locks)))
          → length (filter is_free (first ∷ locks)) ≡ cond (is_free held) 1 0 + length
          (filter is_free (cond (not same) (first ∷ without name locks) (without name locks)))
      by true e h rest =
          let still : without name locks ≡ locks = filter_all (λ held. not (is_named name held)) locks
          (turned (is_named name) locks (none_behind name first locks once e)) in
          let is : first ≡ held = some_is first held h in
          subst (λ l. length (filter is_free (first ∷ locks)) ≡ cond (is_free l) 1 0 + length (filter is_free (without name locks))) is
          (subst (λ some. length (filter is_free (first ∷ locks)) ≡ cond (is_free first) 1 0 + length (filter is_free some)) (sym still)
          (only (is_free first) (filter is_free locks)))
      by false e h rest = front (is_free first) (cond (is_free held) 1 0) 0 (filter is_free locks) (filter is_free (without name locks))
          (rest h)

fewer_without : (name : LockName) (locks : List HeldLock) (held : HeldLock) → find (is_named name) locks ≡ Some held
    → length (without name locks) < length locks
fewer_without name [] held there = absurd (cc)
fewer_without name (first ∷ locks) held there = by (is_named name first) there (fewer_without name locks held) (at_most locks) where
  at_most : (some : List HeldLock) → length (without name some) ≤ length some
  at_most [] = omega arith
  at_most (one ∷ some) = step (not (is_named name one)) (at_most some) where
    step : (kept : Bool) → length (without name some) ≤ length some
        → length (cond kept (one ∷ without name some) (without name some)) ≤ suc (length some)
    step true e = omega arith
    step false e = omega arith

  by : (same : Bool) → cond same (Some first) (find (is_named name) locks) ≡ Some held
      → (find (is_named name) locks ≡ Some held → length (without name locks) < length locks) → length (without name locks) ≤ length locks
      → length (cond (not same) (first ∷ without name locks) (without name locks)) < suc (length locks)
  by true h rest most = omega arith
  by false h rest most = let less : length (without name locks) < length locks = rest h in omega arith

-- a change of one leaves the others
without_changed : (name : LockName) (change : Change) (locks : List HeldLock) → without name (changed name change locks)
    ≡ without name locks
without_changed name change [] = refl
without_changed name change (first ∷ locks) = by (is_named name first) refl (without_changed name change locks) where
  by : (same : Bool) → is_named name first ≡ same → without name (changed name change locks) ≡ without name locks
      → without name (cond same (after change first) first ∷ changed name change locks)
      ≡ cond (not same) (first ∷ without name locks) (without name locks)
  by true e rest = let at : is_named name (after change first) ≡ true =
      subst (λ n. same_name name n ≡ true) (sym (name_after change first)) e in rw at rest
  by false e rest = rw e (ap (λ more. first ∷ more) rest)

found_changed : (name : LockName) (change : Change) (locks : List HeldLock) (held : HeldLock) → find (is_named name) locks ≡ Some held
    → find (is_named name) (changed name change locks) ≡ Some (after change held)
found_changed name change [] held there = absurd (cc)
found_changed name change (first ∷ locks) held there = by (is_named name first) refl there (found_changed name change locks held) where
  by : (same : Bool) → is_named name first ≡ same → cond same (Some first) (find (is_named name) locks) ≡ Some held
      → (find (is_named name) locks ≡ Some held → find (is_named name) (changed name change locks) ≡ Some (after change held))
      → find (is_named name) (cond same (after change first) first ∷ changed name change locks) ≡ Some (after change held)
  by true e h rest = let at : is_named name (after change first) ≡ true =
      subst (λ n. same_name name n ≡ true) (sym (name_after change first)) e
      in rw at (ap (λ l. Some (after change l)) (some_is first held h))
  by false e h rest = rw e (rest h)

-- the lock itself, under its name
named_found : (name : LockName) (locks : List HeldLock) (held : HeldLock) → find (is_named name) locks ≡ Some held → name ≡ name_of held
named_found name [] held there = absurd (cc)
named_found name (first ∷ locks) held there = by (is_named name first) refl there (named_found name locks held) where
  by : (same : Bool) → is_named name first ≡ same → cond same (Some first) (find (is_named name) locks) ≡ Some held
      → (find (is_named name) locks ≡ Some held → name ≡ name_of held) → name ≡ name_of held
  by true e h rest = same_is name (name_of first) e ∙ ap name_of (some_is first held h)
  by false e h rest = rest h

-- no mark under this name
marks_apart : (name : LockName) (locks : List HeldLock) → All (Apart name) (marks (without name locks))
marks_apart name locks = all_sorted (Apart name) (map name_of (filter is_marked (without name locks)))
    (by (filter is_marked (without name locks)) (All-filter is_marked (λ held. is_named name held ≡ false) (without name locks)
    (off locks))) where
      off : (some : List HeldLock) → All (λ held. is_named name held ≡ false) (without name some)
      off [] = λ k d within. absurd (omega arith)
      off (one ∷ some) = step (is_named name one) refl (off some) where
        step : (same : Bool) → is_named name one ≡ same → All (λ held. is_named name held ≡ false) (without name some)
            → All (λ held. is_named name held ≡ false) (cond (not same) (one ∷ without name some) (without name some))
        step true e rest = rest
        step false e rest = All-cons (λ held. is_named name held ≡ false) one (without name some) e rest

      by : (some : List HeldLock) → All (λ held. is_named name held ≡ false) some → All (Apart name) (map name_of some)
      by [] all = λ k d within. absurd (omega arith)
      by (one ∷ some) all = All-cons (Apart name) (name_of one) (map name_of some) (all 0 one (omega arith))
          (by some (rest_all (λ held. is_named name held ≡ false) one some all))

-- marks and counts that follow
remarks : (name : LockName) (was now : Bool) (names : List LockName) → All (Apart name) names
    → remarked name was now (cond was (with_name name names) names) ≡ cond now (with_name name names) names
remarks name true true names apart = refl
remarks name true false names apart = filter_with name names ∙ all_others name names apart
remarks name false true names apart = refl
remarks name false false names apart = refl

recounts : (was now : Bool) (n : ℕ) → recounted was now (cond was 1 0 + n) ≡ cond now 1 0 + n
recounts true true n = refl
recounts true false n = omega arith
recounts false true n = omega arith
recounts false false n = refl

length_with : (name : LockName) (names : List LockName) → length (with_name name names) ≡ suc (length names)
length_with name [] = refl
length_with name (first ∷ names) = by (is_before first name) (length_with name names) where
  by : (before : Bool) → length (with_name name names) ≡ suc (length names)
      → length (cond before (first ∷ with_name name names) (name ∷ first ∷ names)) ≡ suc (suc (length names))
  by true rest = ap suc rest
  by false rest = refl

marks_at_most : (locks : List HeldLock) → length (marks locks) ≤ length locks
marks_at_most [] = omega arith
marks_at_most (held ∷ locks) = by held.marked (marks_at_most locks) where
  by : (marked : Bool) → length (marks locks) ≤ length locks → length
      (sorted (map name_of (cond marked (held ∷ filter is_marked locks) (filter is_marked locks)))) ≤ suc (length locks)
  by true rest = let one : length (with_name (name_of held) (marks locks)) ≡ suc (length (marks locks)) =
      length_with (name_of held) (marks locks) in omega arith
  by false rest = omega arith

free_at_most : (locks : List HeldLock) → length (filter is_free locks) ≤ length locks
free_at_most [] = omega arith
free_at_most (held ∷ locks) = by (is_free held) (free_at_most locks) where
  by : (free : Bool) → length (filter is_free locks) ≤ length locks
      → length (cond free (held ∷ filter is_free locks) (filter is_free locks)) ≤ suc (length locks)
  by true rest = omega arith
  by false rest = omega arith

length_changed : (name : LockName) (change : Change) (locks : List HeldLock) → length (changed name change locks) ≡ length locks
length_changed name change [] = refl
length_changed name change (held ∷ locks) = ap suc (length_changed name change locks)

-- there is room for one mark more, and the count is below the bound
pub mark_fits : (name : LockName) (locks : List HeldLock) (held : HeldLock) (names : List LockName) (space count : ℕ) → IsOnce locks
    → find (is_named name) locks ≡ Some held → IsIndexed locks names space count → held.marked ≡ false → length names < space
mark_fits name locks held names space count once there indexed unmarked =
    let are : marks locks ≡ marks (without name locks) = marks_of name locks held once there
    ∙ ap (λ m. cond m (with_name name (marks (without name locks))) (marks (without name locks))) unmarked in
    let same : length names ≡ length (marks (without name locks)) = ap length (indexed.marked ∙ are) in
    let most : length (marks (without name locks)) ≤ length (without name locks) = marks_at_most (without name locks) in
    let fewer : length (without name locks) < length locks = fewer_without name locks held there in
    let room : length locks ≤ space = indexed.space in
    omega arith

pub count_fits : (locks : List HeldLock) (names : List LockName) (space count : ℕ) → IsIndexed locks names space count
    → count ≤ length locks
count_fits locks names space count indexed = subst (λ n. n ≤ length locks) (sym indexed.free) (free_at_most locks)

-- what is kept beside the locks, once one was granted, changed, gave up or was used
none_more : (n : ℕ) → cond false 1 0 + n ≡ n
none_more n = omega arith

one_more : (n : ℕ) → n + 1 ≡ suc n
one_more n = omega arith

pub indexed_granted : (held : HeldLock) (locks : List HeldLock) (names : List LockName) (space more count : ℕ) → held.marked ≡ false
    → is_free held ≡ true → length locks + 1 ≤ more → IsIndexed locks names space count → IsIndexed (held ∷ locks) names more (count + 1)
indexed_granted held locks names space more count unmarked free room indexed = record {
  marked = rw unmarked indexed.marked;
  space = omega arith;
  free = rw free (ap (λ n. n + 1) indexed.free ∙ one_more (length (filter is_free locks)));
}

pub indexed_changed : (name : LockName) (change : Change) (locks : List HeldLock) (held : HeldLock) (names : List LockName)
    (space more count : ℕ) → IsOnce locks → IsOnce (changed name change locks) → find (is_named name) locks ≡ Some held → space ≤ more
    → IsIndexed locks names space count
    → IsIndexed (changed name change locks) (remarked name held.marked (after change held).marked names) more
    (recounted (is_free held) (is_free (after change held)) count)
indexed_changed name change locks held names space more count once still there larger indexed =
    let found = found_changed name change locks held there in
    let rest = without name locks in
    let kept : without name (changed name change locks) ≡ rest = without_changed name change locks in
    let now : marks (changed name change locks) ≡ cond (after change held).marked (with_name name (marks rest)) (marks rest) =
    subst (λ some. marks (changed name change locks) ≡ cond (after change held).marked (with_name name (marks some)) (marks some)) kept
    (marks_of name (changed name change locks) (after change held) still found) in
    let free : length (filter is_free (changed name change locks)) ≡ cond (is_free (after change held)) 1 0 + length (filter is_free rest) =
    subst (λ some. length (filter is_free (changed name change locks))
    ≡ cond (is_free (after change held)) 1 0 + length (filter is_free some)) kept
    (free_of name (changed name change locks) (after change held) still found) in
    let same : length (changed name change locks) ≡ length locks = length_changed name change locks in
    let room : length locks ≤ space = indexed.space in
    record {
      marked = ap (remarked name held.marked (after change held).marked) (indexed.marked ∙ marks_of name locks held once there)
          ∙ remarks name held.marked (after change held).marked (marks rest) (marks_apart name locks) ∙ sym now;
      space = omega arith;
      free = ap (recounted (is_free held) (is_free (after change held))) (indexed.free ∙ free_of name locks held once there)
          ∙ recounts (is_free held) (is_free (after change held)) (length (filter is_free rest)) ∙ sym free;
    }

pub indexed_removed : (name : LockName) (locks : List HeldLock) (held : HeldLock) (names : List LockName) (space more count : ℕ)
    → IsOnce locks → find (is_named name) locks ≡ Some held → space ≤ more → IsIndexed locks names space count
    → IsIndexed (without name locks) (remarked name held.marked false names) more (recounted (is_free held) false count)
indexed_removed name locks held names space more count once there larger indexed =
    let fewer : length (without name locks) < length locks = fewer_without name locks held there in
    let room : length locks ≤ space = indexed.space in
    record {
      marked = ap (remarked name held.marked false) (indexed.marked ∙ marks_of name locks held once there)
          ∙ remarks name held.marked false (marks (without name locks)) (marks_apart name locks);
      space = omega arith;
      free = ap (recounted (is_free held) false) (indexed.free ∙ free_of name locks held once there)
          ∙ recounts (is_free held) false (length (filter is_free (without name locks)))
          ∙ none_more (length (filter is_free (without name locks)));
    }

only_one : (name : LockName) (locks : List HeldLock) (held : HeldLock) → IsOnce locks → find (is_named name) locks ≡ Some held
    → filter (is_named name) locks ≡ held ∷ []
only_one name [] held once there = absurd (cc)
only_one name (first ∷ locks) held once there = by (is_named name first) refl there
    (λ on. only_one name locks held (rest_pairs Others first locks once) on) where
      by : (same : Bool) → is_named name first ≡ same → cond same (Some first) (find (is_named name) locks) ≡ Some held
          → (find (is_named name) locks ≡ Some held → filter (is_named name) locks ≡ held ∷ [])
          → cond same (first ∷ filter (is_named name) locks) (filter (is_named name) locks) ≡ held ∷ []
      by true e h rest = rw (filter_none (is_named name) locks (none_behind name first locks once e)) (ap (λ l. l ∷ []) (some_is first held h))
      by false e h rest = rest h

none_found : (name : LockName) (locks : List HeldLock) → find (is_named name) locks ≡ None → All (λ held. is_named name held ≡ false) locks
none_found name [] none = λ k d within. absurd (omega arith)
none_found name (first ∷ locks) none = by (is_named name first) refl none (none_found name locks) where
  by : (same : Bool) → is_named name first ≡ same → cond same (Some first) (find (is_named name) locks) ≡ None
      → (find (is_named name) locks ≡ None → All (λ held. is_named name held ≡ false) locks)
      → All (λ held. is_named name held ≡ false) (first ∷ locks)
  by true e h rest = absurd (cc)
  by false e h rest = All-cons (λ held. is_named name held ≡ false) first locks e (rest h)

length_used : (name : LockName) (locks : List HeldLock) → length (used name locks) ≡ length locks
length_used name locks = length-append (filter (is_named name) locks) (without name locks)
    ∙ length-filter_both (is_named name) (λ held. not (is_named name held)) (λ held. refl) locks

pub indexed_used : (name : LockName) (locks : List HeldLock) (names : List LockName) (space count : ℕ) → IsOnce locks
    → IsIndexed locks names space count → IsIndexed (used name locks) names space count
indexed_used name locks names space count once indexed = by (find (is_named name) locks) refl where
  front : (marked : Bool) (held : HeldLock) (rest : List HeldLock) → cond marked (with_name (name_of held) (marks rest)) (marks rest)
      ≡ sorted (map name_of (cond marked (held ∷ filter is_marked rest) (filter is_marked rest)))
  front true held rest = refl
  front false held rest = refl

  counted : (free : Bool) (held : HeldLock) (some : List HeldLock) → cond free 1 0 + length some ≡ length (cond free (held ∷ some) some)
  counted true held some = omega arith
  counted false held some = omega arith

  by : (found : Option HeldLock) → find (is_named name) locks ≡ found → IsIndexed (used name locks) names space count
  by None e =
      let none = none_found name locks e in
      let same : used name locks ≡ locks = rw (
        filter_none (is_named name) locks none,
        filter_all (λ held. not (is_named name held)) locks (turned (is_named name) locks none),
      ) refl in
      subst (λ some. IsIndexed some names space count) (sym same) indexed
  by (Some held) e =
      let is : name ≡ name_of held = named_found name locks held e in
      let first : used name locks ≡ held ∷ without name locks = ap (λ some. some ++ without name locks) (only_one name locks held once e) in
      let same : length (used name locks) ≡ length locks = length_used name locks in
      let room : length locks ≤ space = indexed.space in
      record {
        marked = indexed.marked ∙ marks_of name locks held once e
            ∙ ap (λ n. cond held.marked (with_name n (marks (without name locks))) (marks (without name locks))) is
            ∙ front held.marked held (without name locks) ∙ sym (ap marks first);
        space = omega arith;
        free = indexed.free ∙ free_of name locks held once e ∙ counted (is_free held) held (filter is_free (without name locks))
            ∙ sym (ap (λ some. length (filter is_free some)) first);
      }

-- the same among the cache's entries
pub length_values : (entries : List (LockName × HeldLock)) → length (values_of entries) ≡ length entries
length_values [] = refl
length_values ((key, held) ∷ entries) = ap suc (length_values entries)

pub found_value : (names : List LockName) (name : LockName) (entries : List (LockName × HeldLock)) (held : HeldLock) → IsKept names entries
    → lookup (same_name name) entries ≡ Some held → find (is_named name) (values_of entries) ≡ Some held
found_value names name entries held kept there = sym (lookup_find name entries kept.keyed) ∙ there

pub indexed_set : (names : List LockName) (name : LockName) (change : Change) (entries : List (LockName × HeldLock)) (held : HeldLock)
    (marked : List LockName) (space more count : ℕ) → IsKept names entries → lookup (same_name name) entries ≡ Some held → space ≤ more
    → IsIndexed (values_of entries) marked space count
    → IsIndexed (values_of (set_value (same_name name) entries (after change held)))
    (remarked name held.marked (after change held).marked marked) more (recounted (is_free held) (is_free (after change held)) count)
indexed_set names name change entries held marked space more count kept there larger indexed =
    let values : values_of (set_value (same_name name) entries (after change held)) ≡ changed name change (values_of entries) =
    values_set name change entries held kept.keyed kept.once there in
    let still : IsOnce (changed name change (values_of entries)) =
    subst IsOnce values (kept_set names name change entries held kept there).sound in
    subst (λ locks. IsIndexed locks (remarked name held.marked (after change held).marked marked) more
    (recounted (is_free held) (is_free (after change held)) count)) (sym values)
    (indexed_changed name change (values_of entries) held marked space more count kept.sound still
    (found_value names name entries held kept there) larger indexed)

pub indexed_popped : (names : List LockName) (name : LockName) (entries : List (LockName × HeldLock)) (held : HeldLock)
    (marked : List LockName) (space more count : ℕ) → IsKept names entries → lookup (same_name name) entries ≡ Some held → space ≤ more
    → IsIndexed (values_of entries) marked space count
    → IsIndexed (values_of (remove_entry (same_name name) entries)) (remarked name held.marked false marked) more
    (recounted (is_free held) false count)
indexed_popped names name entries held marked space more count kept there larger indexed =
    subst (λ locks. IsIndexed locks (remarked name held.marked false marked) more (recounted (is_free held) false count))
    (sym (values_removed name entries kept.keyed kept.once))
    (indexed_removed name (values_of entries) held marked space more count kept.sound (found_value names name entries held kept there)
    larger indexed)

pub indexed_grown : (locks : List HeldLock) (names same : List LockName) (space more count : ℕ) → same ≡ names → space ≤ more
    → IsIndexed locks names space count → IsIndexed locks same more count
indexed_grown locks names same space more count is larger indexed = record {
  marked = is ∙ indexed.marked;
  space = let room : length locks ≤ space = indexed.space in omega arith;
  free = indexed.free;
}

pub none_removed : (name : LockName) (entries : List (LockName × HeldLock)) → lookup (same_name name) entries ≡ None
    → remove_entry (same_name name) entries ≡ entries
none_removed name [] none = refl
none_removed name ((key, held) ∷ entries) none = by (same_name name key) none (none_removed name entries) where
  by : (same : Bool) → cond same (Some held) (lookup (same_name name) entries) ≡ None
      → (lookup (same_name name) entries ≡ None → remove_entry (same_name name) entries ≡ entries)
      → cond same entries ((key, held) ∷ remove_entry (same_name name) entries) ≡ (key, held) ∷ entries
  by true h rest = absurd (cc)
  by false h rest = ap (λ more. (key, held) ∷ more) (rest h)
