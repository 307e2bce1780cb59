-- What is held under a name: a life, a target and a cookie.
use Rattle.std.proofs.Common.{◌≡◌, ℕ, Bool, true, false, not, ◌==◌, ◌&&◌, ◌||◌, List, [], ◌∷◌, ◌++◌, Option, Some, None, refl, ap, sym}
use Rattle.std.proofs.Common.{subst, ◌∙◌, arith}
use Rattle.std.specs.Prelude.{if◌then◌else◌, filter}
use Rattle.std.specs.List.{list_any}
use Rattle.std.specs.Option.{option_map}
use Rattle.std.proofs.lemmas.Bool.{and_parts, eqb-true, eq-eqb}
use Rattle.lu_base.specs.declared.ids.Who.{Who}
use Rattle.lu_base.specs.declared.locks.Lock.{Lock}
use Rattle.lu_spec_machine.specs.Tree.{same_life}
use Rattle.lu_spec_laws.specs.Words.Held.{Held, is_held_by}
use Rattle.lu_judge_windows.specs.Shown.{held_by, passes}
use Rattle.lu_judge_windows.proofs.HeldTests.{any_same, any_none, any_kept}

-- the names are one
abbrev pub same_name : Who → ℕ → ℕ → Who → ℕ → ℕ → Bool
same_name who t c other u d = (t == u && c == d) && same_life who other

pub record One (who : Who) (t c : ℕ) (other : Who) (u d : ℕ) : Type 0 where
  pub life : who ≡ other
  pub target : t ≡ u
  pub cookie : c ≡ d

who_is_one : (a b : Who) → same_life a b ≡ true → a ≡ b
who_is_one a b same =
    let both = and_parts (a.client == b.client) (a.life == b.life) same in
    let client : a.client ≡ b.client = eqb-true a.client b.client both.0 in
    let life : a.life ≡ b.life = eqb-true a.life b.life both.1 in
    ap (λ (n : ℕ). record { client = n; life = a.life }) client ∙ ap (λ (n : ℕ). record { client = b.client; life = n }) life

pub one_of : (who : Who) (t c : ℕ) (other : Who) (u d : ℕ) → same_name who t c other u d ≡ true → One who t c other u d
one_of who t c other u d same =
    let both = and_parts (t == u && c == d) (same_life who other) same in
    let first = and_parts (t == u) (c == d) both.0 in
    record { life = who_is_one who other both.1; target = eqb-true t u first.0; cookie = eqb-true c d first.1 }

pub its_own : (who : Who) (t c : ℕ) → same_name who t c who t c ≡ true
its_own who t c = rw (eq-eqb t t refl, eq-eqb c c refl, eq-eqb who.client who.client refl, eq-eqb who.life who.life refl) refl

-- one lock has no two names
apart : (a : Who) (t c : ℕ) (b : Who) (u d : ℕ) (h : Held) → same_name a t c b u d ≡ false
    → (not (is_held_by a t c h) && is_held_by b u d h) ≡ is_held_by b u d h
apart a t c b u d h other = by (is_held_by a t c h) (is_held_by b u d h) refl refl where
  by : (v w : Bool) → is_held_by a t c h ≡ v → is_held_by b u d h ≡ w → (not v && w) ≡ w
  by true true here there =
      let x = one_of h.who h.target h.lock.cookie.0 a t c here in
      let y = one_of h.who h.target h.lock.cookie.0 b u d there in
      let e : a ≡ b = sym x.life ∙ y.life in
      let f : t ≡ u = sym x.target ∙ y.target in
      let g : c ≡ d = sym x.cookie ∙ y.cookie in
      let same : same_name a t c b u d ≡ true = subst (λ (w : Who). same_name a t c w u d ≡ true) e
      (subst (λ (n : ℕ). same_name a t c a n d ≡ true) f (subst (λ (n : ℕ). same_name a t c a t n ≡ true) g (its_own a t c))) in
      absurd (cc)
  by true false here there = refl
  by false w here there = refl

-- Of each name at most one is held: the one that is named.
abbrev pub AtMostOne : (Who → ℕ → ℕ → Option Lock) → List Held → Type 0
AtMostOne named held =
    (who : Who) (t c : ℕ) (also : Held → Bool) → list_any (λ h. is_held_by who t c h && also h) held
    ≡ passes also (option_map (held_by who t) (named who t c))

module _ (who : Who) (t c : ℕ) where
  abbrev pub stays : Held → Bool
  stays h = not (is_held_by who t c h)

  away : (h : Held) (also : Bool) → (stays h && (is_held_by who t c h && also)) ≡ false
  away h also = by (is_held_by who t c h) where
    by : (b : Bool) → (not b && (b && also)) ≡ false
    by true = refl
    by false = refl

  joined : (a b c d : Bool) → (a && b) ≡ c → (a && (b && d)) ≡ (c && d)
  joined true b c d is = ap (λ (v : Bool). v && d) is
  joined false b c d is = ap (λ (v : Bool). v && d) is

  -- a name is free now
  pub one_gone : (old new : Who → ℕ → ℕ → Option Lock) (held : List Held)
      → ((other : Who) (u d : ℕ) → new other u d ≡ (if same_name who t c other u d then None else old other u d)) → AtMostOne old held
      → AtMostOne new (filter stays held)
  one_gone old new held is one = λ other u d also. any_kept stays (λ h. is_held_by other u d h && also h) held
      ∙ by (same_name who t c other u d) other u d also refl (is other u d) where
        by : (same : Bool) (other : Who) (u d : ℕ) (also : Held → Bool) → same_name who t c other u d ≡ same → new other u d
            ≡ (if same then None else old other u d) → list_any (λ h. stays h && (is_held_by other u d h && also h)) held
            ≡ passes also (option_map (held_by other u) (new other u d))
        by true other u d also same after =
            let x = one_of who t c other u d same in
            rw after
            (subst (λ (w : Who). list_any (λ h. stays h && (is_held_by w u d h && also h)) held ≡ false) x.life
            (subst (λ (n : ℕ). list_any (λ h. stays h && (is_held_by who n d h && also h)) held ≡ false) x.target
            (subst (λ (n : ℕ). list_any (λ h. stays h && (is_held_by who t n h && also h)) held ≡ false) x.cookie
            (any_none (λ h. stays h && (is_held_by who t c h && also h)) held (λ h. away h (also h))))))
        by false other u d also same after =
            rw after
            (any_same (λ h. stays h && (is_held_by other u d h && also h)) (λ h. is_held_by other u d h && also h) held
            (λ h. joined (stays h) (is_held_by other u d h) (is_held_by other u d h) (also h) (apart who t c other u d h same))
            ∙ one other u d also)

or_false : (a b : Bool) → b ≡ false → (a || b) ≡ a
or_false true b is = refl
or_false false b is = is

-- what is said of the lock and the others at its name
abbrev Its : Held → List Held → (Held → Bool) → Who → ℕ → ℕ → Type 0
Its h held also w u d = ((is_held_by w u d h && also h) || list_any (λ x. is_held_by w u d x && also x) held) ≡ also (held_by w u h.lock)

-- a name that was free is taken
pub one_more : (h : Held) (old new : Who → ℕ → ℕ → Option Lock) (held : List Held)
    → ((other : Who) (u d : ℕ) → new other u d ≡ (if same_name h.who h.target h.lock.cookie.0 other u d then Some h.lock
    else old other u d)) → old h.who h.target h.lock.cookie.0 ≡ None → AtMostOne old held → AtMostOne new (h ∷ held)
one_more h old new held is free one = λ other u d also. by (same_name h.who h.target h.lock.cookie.0 other u d) other u d also refl
    (is other u d) where
      its : (also : Held → Bool) → Its h held also h.who h.target h.lock.cookie.0
      its also =
          let none : list_any (λ x. is_held_by h.who h.target h.lock.cookie.0 x && also x) held ≡ false =
          one h.who h.target h.lock.cookie.0 also ∙ ap (λ o. passes also (option_map (held_by h.who h.target) o)) free in
          rw (its_own h.who h.target h.lock.cookie.0) (or_false (also h) _ none)

      by : (same : Bool) (other : Who) (u d : ℕ) (also : Held → Bool) → same_name h.who h.target h.lock.cookie.0 other u d ≡ same
          → new other u d ≡ (if same then Some h.lock else old other u d)
          → ((is_held_by other u d h && also h) || list_any (λ x. is_held_by other u d x && also x) held)
          ≡ passes also (option_map (held_by other u) (new other u d))
      by true other u d also same after =
          let x = one_of h.who h.target h.lock.cookie.0 other u d same in
          rw after (subst (λ (w : Who). Its h held also w u d) x.life
          (subst (λ (n : ℕ). Its h held also h.who n d) x.target (subst (λ (n : ℕ). Its h held also h.who h.target n) x.cookie (its also))))
      by false other u d also same after = rw (after, same) (one other u d also)
