-- Cookies in order, and relations over the rest of a list.
use Rattle.std.proofs.Common.{◌≡◌, ℕ, suc, ◌+◌, ◌<◌, ◌≤◌, ◌==◌, Bool, true, false, cond, List, [], ◌∷◌, ◌++◌, length, map, filter, take}
use Rattle.std.proofs.Common.{drop, get_or, refl, sym, subst, arith, IsPermutation}
use Rattle.std.specs.List.{count_by}
use Rattle.std.proofs.lemmas.Grind.{common_steps}
use Rattle.std.proofs.lemmas.Bool.Decides.{nat_tests}
use Rattle.std.proofs.lemmas.List.{append_assoc}
use Rattle.std.proofs.Math.Seq.{drop-cons}
use Rattle.std.proofs.lemmas.List.Sums.{count_by_more_yes, sum_by-take-drop}
use Rattle.std.proofs.lemmas.List.Sorted.{sum_by-IsPermutation}
use Rattle.lu_base.specs.declared.ids.Cookie.{Cookie}
use Rattle.lu_base.specs.declared.locks.Lock.{Lock}
use Rattle.lu_queue.specs.declared.locks.Grant.{Grant}
use Rattle.lu_queue.specs.Queues as queue
use Rattle.lu_queue.specs.Queues.{IsRising}
use Rattle.lu_lockspace.specs.Spaces.{blocking_more, AreBlocking, times}

abbrev number_of : ℕ → List Cookie → ℕ
number_of n cookies = count_by (λ cookie. cookie.0 == n) cookies

numbers_of_locks : (n : ℕ) (test : Lock → Bool) (xs : List Lock) → number_of n (map (λ lock. lock.cookie) (filter test xs)) ≤ times n xs
numbers_of_locks n test [] = omega arith
numbers_of_locks n test (x ∷ xs) = let rest = numbers_of_locks n test xs in grind (arith, common_steps, rest)

numbers_of_grants : (n : ℕ) (test : Grant → Bool) (xs : List Grant)
    → number_of n (map (λ lock. lock.cookie) (filter test xs)) ≤ queue.times n xs
numbers_of_grants n test [] = omega arith
numbers_of_grants n test (x ∷ xs) = let rest = numbers_of_grants n test xs in grind (arith, common_steps, rest)

abbrev NotFalling : List Cookie → Type 0
NotFalling cookies = (place : ℕ) (d : Cookie) → place + 1 < length cookies → (get_or cookies place d).0 ≤ (get_or cookies (place + 1) d).0

-- cookies that don't fall rise, where none is there twice
rising_all : (all cookies : List Cookie) → ((n : ℕ) → number_of n all ≤ 1) → IsPermutation all cookies → NotFalling cookies
    → IsRising cookies
rising_all all cookies once moved sorted = λ place d within.
    let n = (get_or cookies place d).0 in
    let low : n ≤ (get_or cookies (place + 1) d).0 = sorted place d within in
    by place d within n refl low (get_or cookies (place + 1) d).0 refl (n == (get_or cookies (place + 1) d).0) refl
  where
    by : (place : ℕ) (d : Cookie) → place + 1 < length cookies → (n : ℕ) → (get_or cookies place d).0 ≡ n
        → n ≤ (get_or cookies (place + 1) d).0 →
        (m : ℕ) → (get_or cookies (place + 1) d).0 ≡ m → (same : Bool) → (n == (get_or cookies (place + 1) d).0) ≡ same
        → n < (get_or cookies (place + 1) d).0
    by place d within n e low m f false differ = grind (arith, nat_tests, differ)
    by place d within n e low m f true equal =
        let here : ((get_or cookies place d).0 == n) ≡ true = grind (arith, nat_tests, e) in
        let next : ((get_or cookies (place + 1) d).0 == n) ≡ true = grind (arith, nat_tests, equal) in
        let one : number_of n (take (place + 1) cookies) ≡ number_of n (take place cookies) + 1 =
        count_by_more_yes (λ (cookie : Cookie). cookie.0 == n) cookies place d (omega arith) here in
        let two : number_of n (take (place + 1 + 1) cookies) ≡ number_of n (take (place + 1) cookies) + 1 =
        count_by_more_yes (λ (cookie : Cookie). cookie.0 == n) cookies (place + 1) d within next in
        let whole : number_of n (take (place + 1 + 1) cookies) + number_of n (drop (place + 1 + 1) cookies) ≡ number_of n cookies =
        sum_by-take-drop (λ (cookie : Cookie). cond (cookie.0 == n) 1 0) cookies (place + 1 + 1) in
        let before : number_of n cookies ≡ number_of n all =
        sum_by-IsPermutation (λ (cookie : Cookie). cond (cookie.0 == n) 1 0) all cookies moved in
        let most : number_of n all ≤ 1 = once n in
        absurd (omega arith)

pub rising_locks : (test : Lock → Bool) (locks : List Lock) (cookies : List Cookie) → ((n : ℕ) → times n locks ≤ 1) →
    IsPermutation (map (λ lock. lock.cookie) (filter test locks)) cookies → NotFalling cookies → IsRising cookies
rising_locks test locks cookies once moved sorted =
    rising_all (map (λ lock. lock.cookie) (filter test locks)) cookies
    (λ n. let a = numbers_of_locks n test locks in let b = once n in omega arith) moved sorted

pub rising_grants : (test : Grant → Bool) (locks : List Grant) (cookies : List Cookie) → ((n : ℕ) → queue.times n locks ≤ 1) →
    IsPermutation (map (λ lock. lock.cookie) (filter test locks)) cookies → NotFalling cookies → IsRising cookies
rising_grants test locks cookies once moved sorted =
    rising_all (map (λ lock. lock.cookie) (filter test locks)) cookies
    (λ n. let a = numbers_of_grants n test locks in let b = once n in omega arith) moved sorted

-- ---- the rest of a list, an item at a time

pub rest_at : {X : Type 0} (xs : List X) (i : ℕ) (d : X) → i < length xs → drop i xs ≡ get_or xs i d ∷ drop (i + 1) xs
rest_at xs i d within =
    let next : suc i ≡ i + 1 = omega arith in
    subst (λ n. drop i xs ≡ get_or xs i d ∷ drop n xs) next (drop-cons xs i d within)

pub blocking_step : (granted waiting : List Grant) (i : ℕ) (d : Grant) (told first : List Cookie) → i < length waiting →
    IsPermutation (blocking_more (get_or waiting i d).ask granted told) first → IsRising first →
    ((rest : List Cookie) → AreBlocking granted (drop i waiting) told rest → AreBlocking granted waiting [] (told ++ rest)) →
    (rest : List Cookie) → AreBlocking granted (drop (i + 1) waiting) (told ++ first) rest
    → AreBlocking granted waiting [] ((told ++ first) ++ rest)
blocking_step granted waiting i d told first within moved rising goes_on rest h =
    subst (AreBlocking granted waiting []) (sym (append_assoc told first rest))
    (goes_on (first ++ rest) (subst (λ ws. AreBlocking granted ws told (first ++ rest)) (sym (rest_at waiting i d within))
    (first, rest, refl, rising, moved, h)))
