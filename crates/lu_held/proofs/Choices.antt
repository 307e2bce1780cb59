-- The order of held locks rises; the first of those that pass a test is before the others; and which lock does for a use.
use Rattle.std.proofs.Common.{◌≡◌, ◌≤◌, ◌==◌, ◌&&◌, Bool, true, false, not, cond, List, [], ◌∷◌, filter, get_or, Option, Some, None}
use Rattle.std.proofs.Common.{Contains, IfSome, refl, subst, sym, ◌∙◌, arith}
use Rattle.std.specs.Prelude.{All, AllPairs, slice_get, IfNone}
use Rattle.std.proofs.lemmas.List.Kept.{AllPairs-cons}
use Rattle.std.proofs.lemmas.List.Elements.{All-cons, All-filter, All-contains_itself}
use Rattle.std.proofs.lemmas.Option.{slice_get_within, get_or_from_slice_get}
use Rattle.std.proofs.lemmas.Bool.Decides.{nat_tests}
use Rattle.lu_held.specs.declared.names.LockName.{LockName}
use Rattle.lu_held.specs.declared.locks.HeldLock.{HeldLock}
use Rattle.lu_held.specs.declared.locks.Use.{Use}
use Rattle.lu_held.specs.declared.locks.Wanted.{Wanted}
use Rattle.lu_held.specs.declared.locks.Wanted.TheVariants.{Serving, ServingToTheEnd}
use Rattle.lu_held.specs.Names.{same_name, is_before}
use Rattle.lu_lock.specs.Modes.{serves}
use Rattle.lu_lock.specs.Overlap.{covers}
use Rattle.lu_held.specs.Locks.{name_of, is_named, same_resource, reaches_end, is_for, serves_use, matches}
use Rattle.lu_held.specs.Held.{put_in, in_order, those, serving, IsOnce, IsBefore, IsBest}
use Rattle.lu_held.proofs.Lists.{some_is, first_passes, none_passes, rest_all, rest_pairs, first_pairs}
use Rattle.lu_held.proofs.Looks.{all_put, all_in_order, from_order}

abbrev Others : HeldLock → HeldLock → Type 0
Others one other = is_named (name_of one) other ≡ false

-- the order
pub transitive : (a b c : LockName) → is_before a b ≡ true → is_before b c ≡ true → is_before a c ≡ true
transitive a b c = grind (arith, nat_tests)

other_way : (a b : LockName) → is_before a b ≡ false → same_name b a ≡ false → is_before b a ≡ true
other_way a b = grind (arith, nat_tests)

not_back : (a b : LockName) → is_before a b ≡ true → is_before b a ≡ false
not_back a b = grind (arith, nat_tests)

not_self : (a : LockName) → is_before a a ≡ false
not_self a = grind (arith, nat_tests)

rising_put : (held : HeldLock) (locks : List HeldLock) → AllPairs IsBefore locks → All (Others held) locks
    → AllPairs IsBefore (put_in held locks)
rising_put held [] rising others = λ i j d less within. absurd (omega arith)
rising_put held (first ∷ locks) rising others = by (is_before (name_of first) (name_of held)) refl
    (rising_put held locks (rest_pairs IsBefore first locks rising) (rest_all (Others held) first locks others)) where
      by : (before : Bool) → is_before (name_of first) (name_of held) ≡ before → AllPairs IsBefore (put_in held locks)
          → AllPairs IsBefore (cond before (first ∷ put_in held locks) (held ∷ first ∷ locks))
      by true e rest = AllPairs-cons IsBefore first (put_in held locks)
          (all_put (IsBefore first) held locks e (first_pairs IsBefore first locks rising)) rest
      by false e rest =
          let front : IsBefore held first = other_way (name_of first) (name_of held) e (others 0 first (omega arith)) in
          AllPairs-cons IsBefore held (first ∷ locks) (All-cons (IsBefore held) first locks front
          (λ k d within. transitive (name_of held) (name_of first) (name_of (get_or locks k d)) front
          (first_pairs IsBefore first locks rising k d within))) rising

pub rising_order : (locks : List HeldLock) → IsOnce locks → AllPairs IsBefore (in_order locks)
rising_order [] once = λ i j d less within. absurd (omega arith)
rising_order (held ∷ locks) once =
    rising_put held (in_order locks) (rising_order locks (rest_pairs Others held locks once))
    (all_in_order (Others held) locks (first_pairs Others held locks once))

pub all_there : (locks : List HeldLock) → All (Contains (in_order locks)) locks
all_there locks = from_order (Contains (in_order locks)) locks (All-contains_itself (in_order locks))

pub only_there : (locks : List HeldLock) → All (Contains locks) (in_order locks)
only_there locks = all_in_order (Contains locks) locks (All-contains_itself locks)

-- the first that passes a test
first_is : (P : HeldLock → Type 0) (locks : List HeldLock) (held : HeldLock) → All P locks → slice_get locks 0 ≡ Some held → P held
first_is P locks held all found = subst P (get_or_from_slice_get locks 0 held held found) (all 0 held (slice_get_within locks 0 held found))

abbrev NotAhead : (test : HeldLock → Bool) → HeldLock → HeldLock → Type 0
NotAhead test held other = test other ≡ true → is_before (name_of other) (name_of held) ≡ false

first_before : (test : HeldLock → Bool) (first : HeldLock) (locks : List HeldLock) → All (IsBefore first) locks
    → All (NotAhead test first) locks
first_before test first [] before = λ k d within. absurd (omega arith)
first_before test first (other ∷ locks) before = All-cons (NotAhead test first) other locks
    (λ _. not_back (name_of first) (name_of other) (before 0 other (omega arith)))
    (first_before test first locks (rest_all (IsBefore first) other locks before))

none_ahead : (test : HeldLock → Bool) (locks : List HeldLock) (held : HeldLock) → AllPairs IsBefore locks → slice_get (filter test locks) 0
    ≡ Some held → All (NotAhead test held) locks
none_ahead test [] held rising found = absurd (cc)
none_ahead test (first ∷ locks) held rising found = by (test first) refl found
    (none_ahead test locks held (rest_pairs IsBefore first locks rising)) where
      by : (here : Bool) → test first ≡ here → slice_get (cond here (first ∷ filter test locks) (filter test locks)) 0 ≡ Some held
          → (slice_get (filter test locks) 0 ≡ Some held → All (NotAhead test held) locks) → All (NotAhead test held) (first ∷ locks)
      by true e h rest =
          subst (λ l. All (NotAhead test l) (first ∷ locks)) (some_is first held h)
          (All-cons (NotAhead test first) first locks (λ _. not_self (name_of first))
          (first_before test first locks (first_pairs IsBefore first locks rising)))
      by false e h rest = All-cons (NotAhead test held) first locks (λ t. absurd (cc)) (rest h)

-- the lock that does for a use
pub both : (a b : Bool) → (a && b) ≡ true → (a ≡ true) × (b ≡ true)
both true true e = (refl, refl)
both true false e = absurd (cc)
both false b e = absurd (cc)

one_of : (a b : Bool) → a ≡ true → (a && b) ≡ b
one_of true b e = refl
one_of false b e = absurd (cc)

abbrev to_the_end : Use → List HeldLock → Option HeldLock
to_the_end wanted locks = slice_get (those (ServingToTheEnd wanted) locks) 0

abbrev to_any : Use → List HeldLock → Option HeldLock
to_any wanted locks = slice_get (those (Serving wanted) locks) 0

some_there : (wanted : Wanted) (locks : List HeldLock) (held : HeldLock) → slice_get (those wanted locks) 0 ≡ Some held
    → Contains locks held
some_there wanted locks held found = first_is (Contains locks) (those wanted locks) held
    (All-filter (matches wanted) (Contains locks) (in_order locks) (only_there locks)) found

pub serving_held : (wanted : Use) (locks : List HeldLock) → IfSome (serving wanted locks) (Contains locks)
serving_held wanted locks = by (to_the_end wanted locks) (to_any wanted locks) refl refl where
  by : (end any : Option HeldLock) → to_the_end wanted locks ≡ end → to_any wanted locks ≡ any
      → IfSome (serving wanted locks) (Contains locks)
  by (Some held) any e f = rw e (some_there (ServingToTheEnd wanted) locks held e)
  by None (Some held) e f = rw (e, f) (some_there (Serving wanted) locks held f)
  by None None e f = rw (e, f) tt

pub serving_serves : (wanted : Use) (locks : List HeldLock) → IfSome (serving wanted locks) (λ held. serves_use wanted held ≡ true)
serving_serves wanted locks = by (to_the_end wanted locks) (to_any wanted locks) refl refl where
  by : (end any : Option HeldLock) → to_the_end wanted locks ≡ end → to_any wanted locks ≡ any
      → IfSome (serving wanted locks) (λ held. serves_use wanted held ≡ true)
  by (Some held) any e f = rw e (both (serves_use wanted held) (reaches_end held.lock.ask.policy)
      (first_passes (matches (ServingToTheEnd wanted)) (in_order locks) held e)).0
  by None (Some held) e f = rw (e, f) (first_passes (matches (Serving wanted)) (in_order locks) held f)
  by None None e f = rw (e, f) tt

pub serving_none : (wanted : Use) (locks : List HeldLock) → IfNone (serving wanted locks)
    (All (λ held. serves_use wanted held ≡ false) locks)
serving_none wanted locks = by (to_the_end wanted locks) (to_any wanted locks) refl refl where
  by : (end any : Option HeldLock) → to_the_end wanted locks ≡ end → to_any wanted locks ≡ any
      → IfNone (serving wanted locks) (All (λ held. serves_use wanted held ≡ false) locks)
  by (Some held) any e f = rw e tt
  by None (Some held) e f = rw (e, f) tt
  by None None e f = rw (e, f) (from_order (λ held. serves_use wanted held ≡ false) locks
      (none_passes (matches (Serving wanted)) (in_order locks) f))

pub of_target : (wanted : Use) (held : HeldLock) → serves_use wanted held ≡ true → (held.target.0 == wanted.target.0) ≡ true
of_target wanted held does =
    let two : (is_for wanted.target wanted.resource held && serves held.lock.ask.mode wanted.mode) ≡ true =
    (both (is_for wanted.target wanted.resource held && serves held.lock.ask.mode wanted.mode)
    (covers held.lock.ask.policy wanted.policy) does).0 in
    let fits : is_for wanted.target wanted.resource held ≡ true =
    (both (is_for wanted.target wanted.resource held) (serves held.lock.ask.mode wanted.mode) two).0 in
    let there : (held.target.0 == wanted.target.0 && same_resource held.lock.resource wanted.resource) ≡ true =
    (both (held.target.0 == wanted.target.0 && same_resource held.lock.resource wanted.resource) (not held.marked) fits).0 in
    (both (held.target.0 == wanted.target.0) (same_resource held.lock.resource wanted.resource) there).0

up_to : (wanted : Use) (held other : HeldLock) → serves_use wanted held ≡ true → serves_use wanted other ≡ true
    → is_before (name_of other) (name_of held) ≡ false → held.lock.cookie.0 ≤ other.lock.cookie.0
up_to wanted held other one two back =
    let here : (held.target.0 == wanted.target.0) ≡ true = of_target wanted held one in
    let there : (other.target.0 == wanted.target.0) ≡ true = of_target wanted other two in
    grind (arith, nat_tests)

pub serving_best : (wanted : Use) (locks : List HeldLock) → IsOnce locks
    → IfSome (serving wanted locks) (λ held. All (λ other. serves_use wanted other ≡ true → IsBest held other) locks)
serving_best wanted locks once = by (to_the_end wanted locks) (to_any wanted locks) refl refl where
  by : (end any : Option HeldLock) → to_the_end wanted locks ≡ end → to_any wanted locks ≡ any
      → IfSome (serving wanted locks) (λ held. All (λ other. serves_use wanted other ≡ true → IsBest held other) locks)
  by (Some held) any e f =
      let own = both (serves_use wanted held) (reaches_end held.lock.ask.policy)
      (first_passes (matches (ServingToTheEnd wanted)) (in_order locks) held e) in
      let ahead = from_order (NotAhead (matches (ServingToTheEnd wanted)) held) locks
      (none_ahead (matches (ServingToTheEnd wanted)) (in_order locks) held (rising_order locks once) e) in
      rw e (λ k d within two. (
        λ same. up_to wanted held (get_or locks k d) own.0 two
            (ahead k d within (one_of (serves_use wanted (get_or locks k d)) (reaches_end (get_or locks k d).lock.ask.policy) two ∙ sym same
            ∙ own.1)),
        λ _. own.1,
      ))
  by None (Some held) e f =
      let own = first_passes (matches (Serving wanted)) (in_order locks) held f in
      let ahead = from_order (NotAhead (matches (Serving wanted)) held) locks
      (none_ahead (matches (Serving wanted)) (in_order locks) held (rising_order locks once) f) in
      let no_end = from_order (λ other. matches (ServingToTheEnd wanted) other ≡ false) locks
      (none_passes (matches (ServingToTheEnd wanted)) (in_order locks) e) in
      rw (e, f) (λ k d within two. (
        λ _. up_to wanted held (get_or locks k d) own two (ahead k d within two),
        λ reaches. let off : (serves_use wanted (get_or locks k d) && reaches_end (get_or locks k d).lock.ask.policy) ≡ false =
            no_end k d within in let on : (serves_use wanted (get_or locks k d) && reaches_end (get_or locks k d).lock.ask.policy) ≡ true =
            one_of (serves_use wanted (get_or locks k d)) (reaches_end (get_or locks k d).lock.ask.policy) two ∙ reaches in absurd (cc),
      ))
  by None None e f = rw (e, f) tt
