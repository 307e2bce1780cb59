-- Of each client the newest life counts, whichever wished first.
use Rattle.std.proofs.Common.{◌≡◌, ℕ, Bool, true, false, cond, List, [], ◌∷◌, Option, Some, None, refl, ap, sym, ◌∙◌, arith, nat_eq, nat_lt}
use Rattle.std.proofs.lemmas.Bool.Decides.{nat_tests}
use Rattle.lu_base.specs.declared.ids.Who.{Who}
use Rattle.lu_spec_target.specs.Windows.{with_wish, wish_of, is_after, is_newest}

-- once a wish came
abbrev pub wished : Who → List Who → List Who
wished who wishes = cond (is_newest who wishes) (with_wish who wishes) wishes

found : (a : Who) (ws : List Who) → wish_of a.client (with_wish a ws) ≡ Some a
found a [] = grind (arith, nat_tests)
found a (w ∷ ws) = by (nat_eq a.client w.client) refl (nat_lt a.client w.client) refl (found a ws) where
  by : (same : Bool) → nat_eq a.client w.client ≡ same → (before : Bool) → nat_lt a.client w.client ≡ before
      → wish_of a.client (with_wish a ws) ≡ Some a
      → wish_of a.client (cond same (a ∷ ws) (cond before (a ∷ w ∷ ws) (w ∷ with_wish a ws))) ≡ Some a
  by true e before f rest = grind (arith, nat_tests)
  by false e true f rest = grind (arith, nat_tests)
  by false e false f rest = let other : nat_eq w.client a.client ≡ false = grind (arith, nat_tests) in rw other rest

apart : (a b : Who) (ws : List Who) → nat_eq b.client a.client ≡ false → wish_of a.client (with_wish b ws) ≡ wish_of a.client ws
apart a b [] other = rw other refl
apart a b (w ∷ ws) other = by (nat_eq b.client w.client) refl (nat_lt b.client w.client) (nat_eq w.client a.client) refl
    (apart a b ws other) where
      by : (same : Bool) → nat_eq b.client w.client ≡ same → (before : Bool) → (here : Bool) → nat_eq w.client a.client ≡ here
          → wish_of a.client (with_wish b ws) ≡ wish_of a.client ws
          → wish_of a.client (cond same (b ∷ ws) (cond before (b ∷ w ∷ ws) (w ∷ with_wish b ws))) ≡ wish_of a.client (w ∷ ws)
      by true e before true f rest = absurd (grind (arith, nat_tests))
      by true e before false f rest = rw (other, f) refl
      by false e true here f rest = rw other refl
      by false e false true f rest = rw f refl
      by false e false false f rest = rw f rest

over : (a b : Who) (ws : List Who) → nat_eq a.client b.client ≡ true → with_wish a (with_wish b ws) ≡ with_wish a ws
over a b [] same = rw same refl
over a b (w ∷ ws) same = by (nat_eq b.client w.client) refl (nat_lt b.client w.client) refl (over a b ws same) where
  by : (here : Bool) → nat_eq b.client w.client ≡ here → (before : Bool) → nat_lt b.client w.client ≡ before → with_wish a (with_wish b ws)
      ≡ with_wish a ws
      → with_wish a (cond here (b ∷ ws) (cond before (b ∷ w ∷ ws) (w ∷ with_wish b ws))) ≡ with_wish a (w ∷ ws)
  by true e before f rest = let here : nat_eq a.client w.client ≡ true = grind (arith, nat_tests) in rw (same, here) refl
  by false e true f rest =
      let here : nat_eq a.client w.client ≡ false = grind (arith, nat_tests) in
      let ahead : nat_lt a.client w.client ≡ true = grind (arith, nat_tests) in
      rw (same, here, ahead) refl
  by false e false f rest =
      let here : nat_eq a.client w.client ≡ false = grind (arith, nat_tests) in
      let ahead : nat_lt a.client w.client ≡ false = grind (arith, nat_tests) in
      rw (here, ahead) (ap (λ more. w ∷ more) rest)

swapped : (a b : Who) (ws : List Who) → nat_lt a.client b.client ≡ true → with_wish a (with_wish b ws) ≡ with_wish b (with_wish a ws)
swapped a b [] less =
    let one : nat_eq a.client b.client ≡ false = grind (arith, nat_tests) in
    let other : nat_eq b.client a.client ≡ false = grind (arith, nat_tests) in
    let back : nat_lt b.client a.client ≡ false = grind (arith, nat_tests) in
    rw (one, less, other, back) refl
swapped a b (w ∷ ws) less = by (nat_eq b.client w.client) refl (nat_lt b.client w.client) refl (nat_eq a.client w.client) refl
    (nat_lt a.client w.client) refl (swapped a b ws less) where
      one : nat_eq a.client b.client ≡ false
      one = grind (arith, nat_tests)

      other : nat_eq b.client a.client ≡ false
      other = grind (arith, nat_tests)

      back : nat_lt b.client a.client ≡ false
      back = grind (arith, nat_tests)

      by : (here : Bool) → nat_eq b.client w.client ≡ here → (before : Bool) → nat_lt b.client w.client ≡ before
          → (there : Bool) → nat_eq a.client w.client ≡ there → (ahead : Bool) → nat_lt a.client w.client ≡ ahead
          → with_wish a (with_wish b ws) ≡ with_wish b (with_wish a ws)
          → with_wish a (cond here (b ∷ ws) (cond before (b ∷ w ∷ ws) (w ∷ with_wish b ws)))
          ≡ with_wish b (cond there (a ∷ ws) (cond ahead (a ∷ w ∷ ws) (w ∷ with_wish a ws)))
      by true e before f true g ahead h rest = absurd (grind (arith, nat_tests))
      by true e before f false g true h rest = rw (one, less, other, back, e) refl
      by true e before f false g false h rest = absurd (grind (arith, nat_tests))
      by false e true f true g ahead h rest = absurd (grind (arith, nat_tests))
      by false e true f false g true h rest = rw (one, less, other, back, e, f) refl
      by false e true f false g false h rest = absurd (grind (arith, nat_tests))
      by false e false f true g ahead h rest = rw (g, other, back) refl
      by false e false f false g true h rest = rw (g, h, other, back, e, f) refl
      by false e false f false g false h rest = rw (g, h, e, f) (ap (λ more. w ∷ more) rest)

-- two of different clients
two : (a b : Who) (ws : List Who) → nat_eq a.client b.client ≡ false → with_wish a (with_wish b ws) ≡ with_wish b (with_wish a ws)
two a b ws differ = by (nat_lt a.client b.client) refl where
  by : (less : Bool) → nat_lt a.client b.client ≡ less → with_wish a (with_wish b ws) ≡ with_wish b (with_wish a ws)
  by true e = swapped a b ws e
  by false e = sym (swapped b a ws (grind (arith, nat_tests)))

strangers : (a b : Who) (ws : List Who) → nat_eq a.client b.client ≡ false → wished a (wished b ws) ≡ wished b (wished a ws)
strangers a b ws differ = by (is_newest a ws) refl (is_newest b ws) refl where
  back : nat_eq b.client a.client ≡ false
  back = grind (arith, nat_tests)

  new_a : is_newest a (with_wish b ws) ≡ is_newest a ws
  new_a = ap (is_after a) (apart a b ws back)

  new_b : is_newest b (with_wish a ws) ≡ is_newest b ws
  new_b = ap (is_after b) (apart b a ws differ)

  by : (na : Bool) → is_newest a ws ≡ na → (nb : Bool) → is_newest b ws ≡ nb → wished a (wished b ws) ≡ wished b (wished a ws)
  by true e true f = rw (e, f, new_a, new_b, e, f) (two a b ws differ)
  by true e false f = rw (e, f, new_b, e, f) refl
  by false e true f = rw (e, f, new_a, e) refl
  by false e false f = rw (e, f, e) refl

-- two lives of one client
newest : (a b : Who) (ws : List Who) → nat_eq a.client b.client ≡ true → is_newest a (with_wish b ws) ≡ nat_lt b.life a.life
newest a b ws same = ap (is_after a) (ap (λ client. wish_of client (with_wish b ws)) (grind (arith, nat_tests)) ∙ found b ws)

passes : (a b : Who) (w : Option Who) → is_after a w ≡ true → is_after b w ≡ false → nat_lt b.life a.life ≡ true
passes a b None e f = absurd (cc)
passes a b (Some w) e f = grind (arith, nat_tests)

one_client : (a b : Who) (ws : List Who) → nat_eq a.client b.client ≡ true → is_after b (wish_of a.client ws) ≡ is_newest b ws
one_client a b ws same = ap (λ client. is_after b (wish_of client ws)) (grind (arith, nat_tests))

same_who : (a b : Who) → nat_eq a.client b.client ≡ true → nat_lt a.life b.life ≡ false → nat_lt b.life a.life ≡ false → a ≡ b
same_who a b client more less = ap (λ (p : ℕ × ℕ). record { client = p.0; life = p.1 }) (grind (arith, nat_tests))

kin : (a b : Who) (ws : List Who) → nat_eq a.client b.client ≡ true → wished a (wished b ws) ≡ wished b (wished a ws)
kin a b ws same = by (is_newest a ws) refl (is_newest b ws) refl where
  back : nat_eq b.client a.client ≡ true
  back = grind (arith, nat_tests)

  last : (less : Bool) → nat_lt b.life a.life ≡ less → (more : Bool) → nat_lt a.life b.life ≡ more
      → cond less (with_wish a (with_wish b ws)) (with_wish b ws) ≡ cond more (with_wish b (with_wish a ws)) (with_wish a ws)
  last true e true f = absurd (grind (arith, nat_tests))
  last true e false f = over a b ws same
  last false e true f = sym (over b a ws back)
  last false e false f = ap (λ who. with_wish who ws) (sym (same_who a b same f e))

  by : (na : Bool) → is_newest a ws ≡ na → (nb : Bool) → is_newest b ws ≡ nb → wished a (wished b ws) ≡ wished b (wished a ws)
  by true e true f = rw (e, f, newest a b ws same, newest b a ws back) (last (nat_lt b.life a.life) refl (nat_lt a.life b.life) refl)
  by true e false f =
      let less : nat_lt b.life a.life ≡ true = passes a b (wish_of a.client ws) e (one_client a b ws same ∙ f) in
      let stays : nat_lt a.life b.life ≡ false = grind (arith, nat_tests) in
      rw (e, f, newest b a ws back, stays, e) refl
  by false e true f =
      let less : nat_lt a.life b.life ≡ true = passes b a (wish_of b.client ws) f (one_client b a ws back ∙ e) in
      let stays : nat_lt b.life a.life ≡ false = grind (arith, nat_tests) in
      rw (e, f, newest a b ws same, stays) refl
  by false e false f = rw (e, f, e) refl

pub wished_either : (a b : Who) (ws : List Who) → wished a (wished b ws) ≡ wished b (wished a ws)
wished_either a b ws = by (nat_eq a.client b.client) refl where
  by : (same : Bool) → nat_eq a.client b.client ≡ same → wished a (wished b ws) ≡ wished b (wished a ws)
  by true e = kin a b ws e
  by false e = strangers a b ws e

pub wished_again : (a : Who) (ws : List Who) → wished a (wished a ws) ≡ wished a ws
wished_again a ws = by (is_newest a ws) refl where
  old : is_newest a (with_wish a ws) ≡ false
  old = ap (is_after a) (found a ws) ∙ grind (arith, nat_tests)

  by : (new : Bool) → is_newest a ws ≡ new → wished a (cond new (with_wish a ws) ws) ≡ cond new (with_wish a ws) ws
  by true e = rw old refl
  by false e = rw e refl
