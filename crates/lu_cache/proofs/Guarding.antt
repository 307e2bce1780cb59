-- A lock that is held and not called back, found by its name.
use Rattle.std.proofs.Common.{◌≡◌, ℕ, ◌==◌, ◌&&◌, ◌||◌, Bool, true, false, not, cond, List, [], ◌∷◌, find, Option, Some, None, refl, sym}
use Rattle.std.proofs.Common.{ap, subst, ◌∙◌, arith}
use Rattle.std.specs.Prelude.{All, AllPairs}
use Rattle.std.specs.List.{list_any}
use Rattle.std.proofs.lemmas.Bool.Decides.{nat_tests}
use Rattle.std.proofs.lemmas.List.Elements.{All-cons}
use Rattle.lu_base.specs.declared.ids.Cookie.{Cookie}
use Rattle.lu_held.specs.declared.locks.HeldLock.{HeldLock}
use Rattle.lu_held.specs.declared.names.LockName.{LockName}
use Rattle.lu_held.specs.Locks.{name_of, is_named}
use Rattle.lu_held.proofs.Lists.{rest_all, rest_pairs, first_pairs}
use Rattle.lu_spec_client.specs.Known.{is_usable}

-- the name of a lock of the metadata target
abbrev pub name : Cookie → LockName
name c = record { target = record { 0 = 0 }; cookie = c }

abbrev test : Cookie → HeldLock → Bool
test c h = h.target.0 == 0 && h.lock.cookie.0 == c.0 && not h.marked

test_named : (c : Cookie) (h : HeldLock) → is_named (name c) h ≡ true → test c h ≡ not h.marked
test_named c h named =
    let t : (h.target.0 == 0) ≡ true = grind (arith, nat_tests) in
    let k : (h.lock.cookie.0 == c.0) ≡ true = grind (arith, nat_tests) in
    rw (t, k) refl

test_other : (c : Cookie) (h : HeldLock) → is_named (name c) h ≡ false → test c h ≡ false
test_other c h other = by (h.target.0 == 0) refl (h.lock.cookie.0 == c.0) refl where
  by : (v : Bool) → (h.target.0 == 0) ≡ v → (w : Bool) → (h.lock.cookie.0 == c.0) ≡ w → (v && w && not h.marked) ≡ false
  by true e true f = absurd (grind (arith, nat_tests))
  by true e false f = refl
  by false e w f = refl

none_usable : (c : Cookie) (held : List HeldLock) → All (λ other. is_named (name c) other ≡ false) held → is_usable c held ≡ false
none_usable c [] all = refl
none_usable c (h ∷ held) all = rw (test_other c h (all 0 h (omega arith)))
    (none_usable c held (rest_all (λ other. is_named (name c) other ≡ false) h held all))

same_names : (c : Cookie) (h other : HeldLock) → is_named (name c) h ≡ true → is_named (name_of h) other ≡ false → is_named (name c) other
    ≡ false
same_names c h other named off = grind (arith, nat_tests)

others_off : (c : Cookie) (h : HeldLock) (held : List HeldLock) → is_named (name c) h ≡ true
    → All (λ other. is_named (name_of h) other ≡ false) held → All (λ other. is_named (name c) other ≡ false) held
others_off c h [] named all = λ k d within. absurd (omega arith)
others_off c h (g ∷ held) named all = All-cons (λ other. is_named (name c) other ≡ false) g held
    (same_names c h g named (all 0 g (omega arith))) (others_off c h held named
    (rest_all (λ other. is_named (name_of h) other ≡ false) g held all))

or_false : (v : Bool) → (v || false) ≡ v
or_false true = refl
or_false false = refl

pub usable_held : (c : Cookie) (held : List HeldLock) (h : HeldLock) → AllPairs (λ one other. is_named (name_of one) other ≡ false) held
    → Some h ≡ find (is_named (name c)) held → not h.marked ≡ is_usable c held
usable_held c [] h once found = absurd (cc)
usable_held c (g ∷ held) h once found = by (is_named (name c) g) refl found
    (usable_held c held h (rest_pairs (λ one other. is_named (name_of one) other ≡ false) g held once)) where
      by : (here : Bool) → is_named (name c) g ≡ here → Some h ≡ cond here (Some g) (find (is_named (name c)) held)
          → (Some h ≡ find (is_named (name c)) held → not h.marked ≡ is_usable c held) → not h.marked ≡ (test c g || is_usable c held)
      by true e f rest =
          let is : h ≡ g = cc in
          let none : is_usable c held ≡ false = none_usable c held (others_off c g held e
          (first_pairs (λ one other. is_named (name_of one) other ≡ false) g held once)) in
          rw (test_named c g e, none) (ap (λ (x : HeldLock). not x.marked) is ∙ sym (or_false (not g.marked)))
      by false e f rest = rw (test_other c g e) (rest f)

pub usable_none : (c : Cookie) (held : List HeldLock) → None ≡ find (is_named (name c)) held → false ≡ is_usable c held
usable_none c [] found = refl
usable_none c (g ∷ held) found = by (is_named (name c) g) refl found (usable_none c held) where
  by : (here : Bool) → is_named (name c) g ≡ here → None ≡ cond here (Some g) (find (is_named (name c)) held)
      → (None ≡ find (is_named (name c)) held → false ≡ is_usable c held) → false ≡ (test c g || is_usable c held)
  by true e f rest = absurd (cc)
  by false e f rest = rw (test_other c g e) (rest f)
