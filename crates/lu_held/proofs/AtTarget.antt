-- Where locks of one target are looked for, the names of its locks lead to them; they stand between two names.
use Rattle.std.proofs.Common.{◌≡◌, ℕ, ◌<◌, ◌+◌, ◌-◌, ◌^◌, ◌==◌, ◌&&◌, Bool, true, false, not, cond, List, [], ◌∷◌, filter, Option, Some}
use Rattle.std.proofs.Common.{None, refl, ap, subst, sym, ◌∙◌, arith}
use Rattle.std.specs.declared.ops.Bound.TheVariants.{Included, Excluded, Unbounded}
use Rattle.std.specs.Prelude.{All, nat_lt}
use Rattle.std.specs.List.{filter_map}
use Rattle.std.specs.Option.{option_map_or}
use Rattle.std.specs.Map.{lookup}
use Rattle.std.specs.BTreeMap.Range.{range_contains}
use Rattle.std.proofs.lemmas.Bool.Decides.{nat_tests}
use Rattle.lu_base.specs.declared.ids.TargetId.{TargetId}
use Rattle.lu_held.specs.declared.names.LockName.{LockName}
use Rattle.lu_held.specs.declared.locks.HeldLock.{HeldLock}
use Rattle.lu_held.specs.declared.locks.Wanted.{Wanted}
use Rattle.lu_held.specs.declared.locks.Wanted.TheVariants.{Of, Marked, Ready, Serving, ServingToTheEnd, Holding}
use Rattle.lu_held.specs.Names.{same_name}
use Rattle.lu_held.specs.Locks.{name_of, named, matches, serves_use, reaches_end, is_for, same_resource, holds_offset}
use Rattle.lu_held.specs.Kept.{target_of, is_at, names_for, is_asked, asked, where_it_is}
use Rattle.lu_held.proofs.Lists.{some_is, rest_all, filter_within}
use Rattle.lu_held.proofs.NameLaws.{by_name, same_is}
use Rattle.lu_held.proofs.Choices.{both, of_target}
use Rattle.lu_held.proofs.Entries.{Keyed}
use Rattle.lu_held.proofs.Looks.{filter_alike}

matches_at : (wanted : Wanted) (target : TargetId) (held : HeldLock) → target_of wanted ≡ Some target → matches wanted held ≡ true
    → (held.target.0 == target.0) ≡ true
matches_at (Of at) target held of does = subst (λ t. (held.target.0 == t.0) ≡ true) (some_is at target of) does
matches_at (Marked at) target held of does = subst (λ t. (held.target.0 == t.0) ≡ true) (some_is at target of)
    (both (held.target.0 == at.0) held.marked does).0
matches_at Ready target held of does = absurd (cc)
matches_at (Serving wanted) target held of does = subst (λ t. (held.target.0 == t.0) ≡ true) (some_is wanted.target target of)
    (of_target wanted held does)
matches_at (ServingToTheEnd wanted) target held of does =
    subst (λ t. (held.target.0 == t.0) ≡ true) (some_is wanted.target target of)
    (of_target wanted held (both (serves_use wanted held) (reaches_end held.lock.ask.policy) does).0)
matches_at (Holding at resource offset) target held of does =
    let fits : is_for at resource held ≡ true = (both (is_for at resource held) (holds_offset offset held.lock.ask.policy) does).0 in
    let there : (held.target.0 == at.0 && same_resource held.lock.resource resource) ≡ true =
    (both (held.target.0 == at.0 && same_resource held.lock.resource resource) (not held.marked) fits).0 in
    subst (λ t. (held.target.0 == t.0) ≡ true) (some_is at target of)
    (both (held.target.0 == at.0) (same_resource held.lock.resource resource) there).0

found_named : (name : LockName) (entries : List (LockName × HeldLock)) (held : HeldLock) → All Keyed entries
    → lookup (same_name name) entries ≡ Some held → name ≡ name_of held
found_named name [] held keyed there = absurd (cc)
found_named name ((key, first) ∷ entries) held keyed there = by (same_name name key) refl there
    (found_named name entries held (rest_all Keyed (key, first) entries keyed)) where
      by : (same : Bool) → same_name name key ≡ same → cond same (Some first) (lookup (same_name name) entries) ≡ Some held
          → (lookup (same_name name) entries ≡ Some held → name ≡ name_of held) → name ≡ name_of held
      by true e h rest = let here : key ≡ name_of first = keyed 0 (key, first) (omega arith) in same_is name key e ∙ here
          ∙ ap name_of (some_is first held h)
      by false e h rest = rest h

asked_at : (wanted : Wanted) (target : TargetId) (entries : List (LockName × HeldLock)) (name : LockName) → target_of wanted ≡ Some target
    → All Keyed entries → is_asked wanted entries name ≡ true → is_at target name ≡ true
asked_at wanted target entries name of keyed asked = by (lookup (same_name name) entries) refl asked where
  by : (found : Option HeldLock) → lookup (same_name name) entries ≡ found → option_map_or (matches wanted) found false ≡ true
      → is_at target name ≡ true
  by None e h = absurd (cc)
  by (Some held) e h = subst (λ n. is_at target n ≡ true) (sym (found_named name entries held keyed e)) (matches_at wanted target held of h)

pub asked_for : (wanted : Wanted) (entries : List (LockName × HeldLock)) (names : List LockName) → All Keyed entries
    → filter (is_asked wanted entries) (names_for wanted names) ≡ filter (is_asked wanted entries) names
asked_for wanted entries names keyed = by (target_of wanted) refl where
  by : (of : Option TargetId) → target_of wanted ≡ of → filter (is_asked wanted entries) (names_for wanted names)
      ≡ filter (is_asked wanted entries) names
  by None e = rw e refl
  by (Some target) e = rw e (step (nat_lt target.0 (2 ^ 16 - 1))) where
    step : (before : Bool) → filter (is_asked wanted entries) (cond before (filter (is_at target) names) names)
        ≡ filter (is_asked wanted entries) names
    step true = filter_within (is_asked wanted entries) (is_at target) (λ name. asked_at wanted target entries name e keyed) names
    step false = refl

map_within : (look : LockName → Option HeldLock) (wider : LockName → Bool) → ((name : LockName) → wider name ≡ false → look name ≡ None)
    → (names : List LockName) → filter_map look (filter wider names) ≡ filter_map look names
map_within look wider nothing [] = refl
map_within look wider nothing (name ∷ names) = by (wider name) refl (look name) refl (map_within look wider nothing names) where
  by : (there : Bool) → wider name ≡ there → (found : Option HeldLock) → look name ≡ found → filter_map look (filter wider names)
      ≡ filter_map look names → filter_map look (cond there (name ∷ filter wider names) (filter wider names))
      ≡ filter_map look (name ∷ names)
  by true e None f rest = rw f rest
  by true e (Some held) f rest = rw f (ap (λ more. held ∷ more) rest)
  by false e found f rest = rw (nothing name e) rest

not_asked : (wanted : Wanted) (target : TargetId) (entries : List (LockName × HeldLock)) (name : LockName) → target_of wanted ≡ Some target
    → All Keyed entries → is_at target name ≡ false → asked wanted entries name ≡ None
not_asked wanted target entries name of keyed away = by (lookup (same_name name) entries) refl where
  by : (found : Option HeldLock) → lookup (same_name name) entries ≡ found → where_it_is (matches wanted) found ≡ None
  by None e = refl
  by (Some held) e = step (matches wanted held) refl where
    step : (does : Bool) → matches wanted held ≡ does → cond does (Some held) None ≡ None
    step true f = let on : is_at target name ≡ true = subst (λ n. is_at target n ≡ true) (sym (found_named name entries held keyed e))
        (matches_at wanted target held of f) in absurd (cc)
    step false f = refl

pub listed_for : (wanted : Wanted) (entries : List (LockName × HeldLock)) (names : List LockName) → All Keyed entries
    → filter_map (asked wanted entries) (names_for wanted names) ≡ filter_map (asked wanted entries) names
listed_for wanted entries names keyed = by (target_of wanted) refl where
  by : (of : Option TargetId) → target_of wanted ≡ of → filter_map (asked wanted entries) (names_for wanted names)
      ≡ filter_map (asked wanted entries) names
  by None e = rw e refl
  by (Some target) e = rw e (step (nat_lt target.0 (2 ^ 16 - 1))) where
    step : (before : Bool) → filter_map (asked wanted entries) (cond before (filter (is_at target) names) names)
        ≡ filter_map (asked wanted entries) names
    step true = map_within (asked wanted entries) (is_at target) (λ name. not_asked wanted target entries name e keyed) names
    step false = refl

between : (target next : TargetId) (name : LockName) → next.0 ≡ target.0 + 1
    → range_contains by_name (Included (named target (record { 0 = 0 }))) (Excluded (named next (record { 0 = 0 }))) name
    ≡ is_at target name
between target next name follows = grind (arith, nat_tests)

pub target_between : (target next : TargetId) (names : List LockName) → next.0 ≡ target.0 + 1
    → filter (range_contains by_name (Included (named target (record { 0 = 0 }))) (Excluded (named next (record { 0 = 0 })))) names
    ≡ filter (is_at target) names
target_between target next names follows = filter_alike (range_contains by_name (Included (named target (record { 0 = 0 })))
    (Excluded (named next (record { 0 = 0 })))) (is_at target) (λ name. between target next name follows) names

pub all_between : (names : List LockName) → filter (range_contains by_name Unbounded Unbounded) names ≡ names
all_between [] = refl
all_between (name ∷ names) = ap (λ more. name ∷ more) (all_between names)

pub before_last : (n : ℕ) → n < 2 ^ 16 - 1 → nat_lt n (2 ^ 16 - 1) ≡ true
before_last n less = grind (arith, nat_tests)
