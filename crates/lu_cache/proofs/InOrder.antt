-- Cookies put one by one into a set in order.
use Rattle.std.proofs.Common.{◌≡◌, ℕ, ◌==◌, Bool, true, false, cond, List, [], ◌∷◌, ◌++◌, refl, sym, ap, subst, ◌∙◌, arith}
use Rattle.std.specs.Prelude.{map, nat_lt, nat_eq}
use Rattle.std.specs.BTreeSet.{insert_key}
use Rattle.std.specs.Ordering.{match_ordering, nat_cmp}
use Rattle.std.proofs.lemmas.Bool.Decides.{nat_tests}
use Rattle.lu_base.specs.declared.ids.Cookie.{Cookie}
use Rattle.lu_held.specs.declared.names.LockName.{LockName}
use Rattle.lu_spec_client.specs.Known.{name_of, with_name, names_of}
use Rattle.lu_cache.specs.Filings.{by_cookie}
use Rattle.lu_cache.specs.Tells.{locks_of}

-- these put into a set, the last first
abbrev pub upon : List Cookie → List Cookie → List Cookie
upon [] keys = keys
upon (c ∷ cookies) keys = insert_key by_cookie (upon cookies keys) c

pub upon_last : (cookies : List Cookie) (c : Cookie) (keys : List Cookie) → upon (cookies ++ c ∷ []) keys
    ≡ upon cookies (insert_key by_cookie keys c)
upon_last [] c keys = refl
upon_last (d ∷ cookies) c keys = ap (λ more. insert_key by_cookie more d) (upon_last cookies c keys)

abbrev cookies_of : List LockName → List Cookie
cookies_of names = map (λ name. name.cookie) names

cookie_is : (c d : Cookie) → c.0 ≡ d.0 → c ≡ d
cookie_is c d e = ap (λ n. record { 0 = n }) e

put_name : (c : Cookie) (names : List LockName) → insert_key by_cookie (cookies_of names) c ≡ cookies_of (with_name c names)
put_name c [] = refl
put_name c (n ∷ names) = by (nat_lt n.cookie.0 c.0) refl (n.cookie.0 == c.0) refl (put_name c names) where
  by : (v : Bool) → nat_lt n.cookie.0 c.0 ≡ v → (w : Bool) → (n.cookie.0 == c.0) ≡ w → insert_key by_cookie (cookies_of names) c
      ≡ cookies_of (with_name c names) → insert_key by_cookie (cookies_of (n ∷ names)) c
      ≡ cookies_of (cond v (n ∷ with_name c names) (cond w (n ∷ names) (name_of c ∷ n ∷ names)))
  by true e w f rest =
      let a : nat_lt c.0 n.cookie.0 ≡ false = grind (arith, nat_tests) in
      let b : nat_eq c.0 n.cookie.0 ≡ false = grind (arith, nat_tests) in
      rw (a, b) (ap (λ more. n.cookie ∷ more) rest)
  by false e true f rest =
      let a : nat_lt c.0 n.cookie.0 ≡ false = grind (arith, nat_tests) in
      let b : nat_eq c.0 n.cookie.0 ≡ true = grind (arith, nat_tests) in
      rw (a, b) refl
  by false e false f rest =
      let a : nat_lt c.0 n.cookie.0 ≡ true = grind (arith, nat_tests) in
      rw a refl

pub all_upon : (cookies : List Cookie) → upon cookies [] ≡ locks_of cookies
all_upon [] = refl
all_upon (c ∷ cookies) = ap (λ more. insert_key by_cookie more c) (all_upon cookies) ∙ put_name c (names_of cookies)
