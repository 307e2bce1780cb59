-- The write lock of greatest start among the granted locks of an object, gone through in rising cookie.
use Rattle.std.proofs.Common.{◌≡◌, ℕ, zero, suc, ◌+◌, ◌≤◌, ◌<◌, nat_lt, Bool, true, false, Option, Some, None, List, [], ◌∷◌, ◌++◌, take}
use Rattle.std.proofs.Common.{length, All, refl, sym, ap, ◌∙◌, arith}
use Rattle.std.specs.Prelude.{if◌then◌else◌, slice_get}
use Rattle.std.proofs.lemmas.Bool.Decides.{nat_tests}
use Rattle.std.proofs.lemmas.List.{take_all}
use Rattle.std.proofs.lemmas.List.Elements.{All-filter}
use Rattle.lu_base.specs.declared.locks.Lock.{Lock}
use Rattle.lu_base.specs.declared.locks.Mode.TheVariants.{PW}
use Rattle.lu_base.specs.declared.locks.Resource.{Resource}
use Rattle.lu_held.proofs.Lists.{rest_all}
use Rattle.lu_lock.specs.Modes.{serves}
use Rattle.lu_lockspace.specs.Spaces.{IsAt, same_resource}
use Rattle.lu_spec_target.specs.Glimpses.{higher, highest}
use Rattle.lu_spec_target.specs.Queues.{extent_of}
use Rattle.lu_spec_target.specs.Replies.{locks_on}
use Rattle.lu_spec_target.specs.States.{Target}
use Rattle.lu_target_refines.proofs.LockLists.{Above, Rises, rises_from, rises_filter}
use Rattle.lu_target_refines.proofs.Ranks.{granted_at}
use Rattle.lu_target_locks.specs.Starts.{joined}
use Rattle.lu_target_locks.specs.Servers.{ServerState, Shows, greatest}

-- ---- the locks before and those behind

-- of three the one of greatest start, whichever two are looked at first
higher_joined : (x : Lock) (before behind : Option Lock) → higher x (joined before behind) ≡ joined (higher x before) behind
higher_joined x None behind = refl
higher_joined x (Some k) None = by (nat_lt (extent_of k).first (extent_of x).first) where
  by : (less : Bool) → (if less then Some x else Some k) ≡ joined (if less then Some x else Some k) None
  by true = refl
  by false = refl
higher_joined x (Some k) (Some l) = by (nat_lt (extent_of l).first (extent_of k).first) refl
    (nat_lt (extent_of k).first (extent_of x).first) refl where
      less : nat_lt (extent_of l).first (extent_of k).first ≡ true → nat_lt (extent_of k).first (extent_of x).first ≡ true
          → nat_lt (extent_of l).first (extent_of x).first ≡ true
      less e f = grind (arith, nat_tests, e, f)

      least : nat_lt (extent_of l).first (extent_of k).first ≡ false → nat_lt (extent_of k).first (extent_of x).first ≡ false
          → nat_lt (extent_of l).first (extent_of x).first ≡ false
      least e f = grind (arith, nat_tests, e, f)

      by : (v : Bool) → nat_lt (extent_of l).first (extent_of k).first ≡ v → (w : Bool) → nat_lt (extent_of k).first (extent_of x).first ≡ w
          → higher x (if v then Some k else Some l) ≡ joined (if w then Some x else Some k) (Some l)
      by true e true f = ap (λ b. if b then Some x else Some k) f ∙ sym (ap (λ b. if b then Some x else Some l) (less e f))
      by true e false f = ap (λ b. if b then Some x else Some k) f ∙ sym (ap (λ b. if b then Some k else Some l) e)
      by false e true f = refl
      by false e false f = ap (λ b. if b then Some x else Some l) (least e f) ∙ sym (ap (λ b. if b then Some k else Some l) e)

pub highest_more : (locks : List Lock) (l : Lock) → highest (locks ++ l ∷ []) ≡ joined (highest locks) (highest (l ∷ []))
highest_more [] l = refl
highest_more (k ∷ locks) l = by (serves k.ask.mode PW) (highest_more locks l) where
  by : (writes : Bool) → highest (locks ++ l ∷ []) ≡ joined (highest locks) (highest (l ∷ []))
      → (if writes then higher k (highest (locks ++ l ∷ [])) else highest (locks ++ l ∷ []))
      ≡ joined (if writes then higher k (highest locks) else highest locks) (highest (l ∷ []))
  by true rest = ap (higher k) rest ∙ higher_joined k (highest locks) (highest (l ∷ []))
  by false rest = rest

-- ---- one place after another

one_longer : (locks : List Lock) (at : ℕ) (l : Lock) → slice_get locks at ≡ Some l → take (suc at) locks ≡ take at locks ++ l ∷ []
one_longer [] at l there = absurd (cc)
one_longer (k ∷ locks) zero l there = let same : k ≡ l = cc in ap (λ (x : Lock). x ∷ []) same
one_longer (k ∷ locks) (suc at) l there = ap (λ (rest : List Lock). k ∷ rest) (one_longer locks at l there)

one_more : (locks : List Lock) (at : ℕ) (l : Lock) → slice_get locks at ≡ Some l → take (at + 1) locks ≡ take at locks ++ l ∷ []
one_more locks at l there = let next : at + 1 ≡ suc at = omega arith in ap (λ n. take n locks) next ∙ one_longer locks at l there

pub no_more : (locks : List Lock) (at : ℕ) → slice_get locks at ≡ None → take at locks ≡ locks
no_more [] zero none = refl
no_more [] (suc at) none = refl
no_more (k ∷ locks) zero none = absurd (cc)
no_more (k ∷ locks) (suc at) none = ap (λ (rest : List Lock). k ∷ rest) (no_more locks at none)

-- ---- there are no more locks than cookies

above_count : (n most : ℕ) (locks : List Lock) → Above n locks → Rises locks → All (λ l. l.cookie.0 ≤ most) locks → n ≤ most
    → n + length locks ≤ most
above_count n most [] above rises low within = omega (arith, within)
above_count n most (l ∷ locks) above rises low within =
    let here : n < l.cookie.0 = above.0 in
    let high : l.cookie.0 ≤ most = low 0 l (omega arith) in
    let rest = above_count l.cookie.0 most locks rises.0 rises.1 (rest_all (λ k. k.cookie.0 ≤ most) l locks low) high in
    omega (arith, here, rest)

pub count_most : (most : ℕ) (locks : List Lock) → Rises locks → All (λ l. l.cookie.0 ≤ most) locks → length locks ≤ most + 1
count_most most [] rises low = omega arith
count_most most (l ∷ locks) rises low =
    let high : l.cookie.0 ≤ most = low 0 l (omega arith) in
    let rest = above_count l.cookie.0 most locks rises.0 rises.1 (rest_all (λ k. k.cookie.0 ≤ most) l locks low) high in
    omega (arith, rest)

-- ---- the places of a lock server's granted locks

pub at_place : (s : ServerState) (v : Target) (r : Resource) (at : ℕ) (found : Option Lock) → Shows s v → IsAt r at s.space.granted found
    → found ≡ slice_get (locks_on r v.granted) at
at_place s v r at found shows is = granted_at s.space v r at found shows.locks is

-- one more was looked at
pub looked : (s : ServerState) (v : Target) (r : Resource) (at : ℕ) (before : Option Lock) (l : Lock) → Shows s v
    → IsAt r at s.space.granted (Some l)
    → before ≡ highest (take at (locks_on r v.granted)) → joined before (highest (l ∷ [])) ≡ highest (take (at + 1) (locks_on r v.granted))
looked s v r at before l shows is e =
    ap (λ o. joined o (highest (l ∷ []))) e ∙ sym (highest_more (take at (locks_on r v.granted)) l)
    ∙ ap highest (sym (one_more (locks_on r v.granted) at l (sym (at_place s v r at (Some l) shows is))))

-- all were looked at
pub looked_all : (s : ServerState) (v : Target) (r : Resource) (at : ℕ) (found : Option Lock) → Shows s v → IsAt r at s.space.granted None
    → found ≡ highest (take at (locks_on r v.granted)) → found ≡ highest (locks_on r v.granted)
looked_all s v r at found shows is e = e ∙ ap highest (no_more (locks_on r v.granted) at (sym (at_place s v r at None shows is)))

-- there are no more places than cookies
pub looked_most : (s : ServerState) (v : Target) (r : Resource) (at : ℕ) (found : Option Lock) → Shows s v → greatest s < at
    → found ≡ highest (take at (locks_on r v.granted)) → found ≡ highest (locks_on r v.granted)
looked_most s v r at found shows most e =
    let rises : Rises (locks_on r v.granted) = rises_filter (λ l. same_resource l.resource r) v.granted
    (rises_from v.granted shows.locks.rising) in
    let low : All (λ l. l.cookie.0 ≤ v.cookie) (locks_on r v.granted) =
    All-filter (λ l. same_resource l.resource r) (λ (l : Lock). l.cookie.0 ≤ v.cookie) v.granted shows.locks.granted in
    let count : length (locks_on r v.granted) ≤ v.cookie + 1 = count_most v.cookie (locks_on r v.granted) rises low in
    let cookie = shows.cookie in
    e ∙ ap highest (take_all at (locks_on r v.granted) (omega (arith, count, most, cookie)))
