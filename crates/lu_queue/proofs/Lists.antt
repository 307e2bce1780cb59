-- Lists of locks: how often a cookie is there, and what conflicts.
use Rattle.std.proofs.Common.{◌≡◌, ℕ, zero, suc, ◌+◌, ◌<◌, ◌≤◌, ◌==◌, ◌||◌, ◌∙◌, Bool, true, false, cond, Option, Some, None, find, List}
use Rattle.std.proofs.Common.{[], ◌∷◌, ◌++◌, length, map, filter, take, drop, get_or, refl, sym, ap, subst, arith}
use Rattle.std.specs.List.{count_by}
use Rattle.std.specs.List.Sorted.{IsPermutation, IsSorted}
use Rattle.std.specs.Option.{option_or}
use Rattle.std.specs.Ordering.{is_lt}
use Rattle.std.specs.declared.cmp.Ordering.{Ordering}
use Rattle.std.proofs.lemmas.Grind.{common_steps}
use Rattle.std.proofs.lemmas.Bool.Decides.{nat_tests}
use Rattle.std.proofs.lemmas.List.Sums.{count_by_more_yes, sum_by-take-drop, sum_by-append}
use Rattle.std.proofs.lemmas.List.Folds.{find-append}
use Rattle.std.proofs.lemmas.List.Sorted.{sum_by-IsPermutation, IsPermutation-trans, IsPermutation-append_left}
use Rattle.lu_base.specs.declared.ids.Cookie.{Cookie}
use Rattle.lu_base.specs.declared.locks.Ask.{Ask}
use Rattle.lu_lock.specs.Conflict.{conflict, conflicts_with_any}
use Rattle.lu_queue.specs.declared.locks.Grant.{Grant}
use Rattle.lu_queue.specs.Queues.{QueueState, asks, has, times, lock_of, IsOnce, IsInOrder, conflicts, IsRising}

pub or_false : (a b : Bool) → (a || b) ≡ false → (a ≡ false) × (b ≡ false)
or_false true b h = cc
or_false false b h = (refl, h)

-- ---- how often a cookie is there

pub times-append : (cookie : ℕ) (xs ys : List Grant) → times cookie (xs ++ ys) ≡ times cookie xs + times cookie ys
times-append cookie xs ys = sum_by-append (λ (lock : Grant). cond (lock.cookie.0 == cookie) 1 0) xs ys

pub times_of_none : (cookie : ℕ) (xs : List Grant) → has cookie xs ≡ false → times cookie xs ≡ 0
times_of_none cookie [] h = refl
times_of_none cookie (x ∷ xs) h =
    let parts = or_false (x.cookie.0 == cookie) (has cookie xs) h in
    rw parts.0 (times_of_none cookie xs parts.1)

pub none_of_times : (cookie : ℕ) (xs : List Grant) → times cookie xs ≡ 0 → has cookie xs ≡ false
none_of_times cookie [] h = refl
none_of_times cookie (x ∷ xs) h = by (x.cookie.0 == cookie) refl (none_of_times cookie xs) where
  by : (here : Bool) → (x.cookie.0 == cookie) ≡ here → (times cookie xs ≡ 0 → has cookie xs ≡ false) → has cookie (x ∷ xs) ≡ false
  by true e rest = absurd (grind (arith, common_steps, h, e))
  by false e rest = rw e (rest (grind (arith, common_steps, h, e)))

pub times_of_filter : (cookie : ℕ) (test : Grant → Bool) (xs : List Grant) → times cookie (filter test xs) ≤ times cookie xs
times_of_filter cookie test [] = omega arith
times_of_filter cookie test (x ∷ xs) = let rest = times_of_filter cookie test xs in grind (arith, common_steps, rest)

-- a lock of a list in which no cookie is twice isn't among those before it
pub new_after : (before : List Grant) (lock : Grant) (after : List Grant) → IsOnce (before ++ lock ∷ after) → has lock.cookie.0 before
    ≡ false
new_after before lock after once =
    let here : (lock.cookie.0 == lock.cookie.0) ≡ true = grind (arith, nat_tests) in
    let one : times lock.cookie.0 (lock ∷ []) ≡ 1 = rw here refl in
    let rest = times-append lock.cookie.0 (lock ∷ []) after in
    let all = times-append lock.cookie.0 before (lock ∷ after) in
    let most : times lock.cookie.0 (before ++ lock ∷ after) ≤ 1 = once lock.cookie.0 in
    none_of_times lock.cookie.0 before (omega arith)

-- one more, of a new cookie
pub once_with : (xs : List Grant) (lock : Grant) → IsOnce xs → has lock.cookie.0 xs ≡ false → IsOnce (xs ++ lock ∷ [])
once_with xs lock once new = λ cookie.
    by cookie (lock.cookie.0 == cookie) refl (once cookie) (times-append cookie xs (lock ∷ [])) where
      by : (cookie : ℕ) (here : Bool) → (lock.cookie.0 == cookie) ≡ here → times cookie xs ≤ 1 →
          times cookie (xs ++ lock ∷ []) ≡ times cookie xs + times cookie (lock ∷ []) → times cookie (xs ++ lock ∷ []) ≤ 1
      by cookie true e most all =
          let same : lock.cookie.0 ≡ cookie = grind (arith, nat_tests) in
          let none : times cookie xs ≡ 0 = times_of_none cookie xs (subst (λ c. has c xs ≡ false) same new) in
          let one : times cookie (lock ∷ []) ≡ 1 = rw e refl in
          omega arith
      by cookie false e most all =
          let none : times cookie (lock ∷ []) ≡ 0 = rw e refl in
          omega arith

pub once_left : (xs ys : List Grant) → IsOnce (xs ++ ys) → IsOnce xs
once_left xs ys once = λ cookie. let all = times-append cookie xs ys in let most = once cookie in omega arith

pub once_right : (xs ys : List Grant) → IsOnce (xs ++ ys) → IsOnce ys
once_right xs ys once = λ cookie. let all = times-append cookie xs ys in let most = once cookie in omega arith

-- ---- what conflicts

pub conflicts-asks : (ask : Ask) (locks : List Grant) → conflicts ask locks ≡ conflicts_with_any ask (asks locks)
conflicts-asks ask [] = refl
conflicts-asks ask (lock ∷ locks) = ap (λ b. conflict ask lock.ask || b) (conflicts-asks ask locks)

pub conflicts-append : (ask : Ask) (xs ys : List Grant) → conflicts ask (xs ++ ys) ≡ (conflicts ask xs || conflicts ask ys)
conflicts-append ask [] ys = refl
conflicts-append ask (x ∷ xs) ys = by (conflict ask x.ask) (conflicts-append ask xs ys) where
  by : (v : Bool) → conflicts ask (xs ++ ys) ≡ (conflicts ask xs || conflicts ask ys) →
      (v || conflicts ask (xs ++ ys)) ≡ ((v || conflicts ask xs) || conflicts ask ys)
  by true rest = refl
  by false rest = rest

-- what conflicts with none of a list doesn't conflict with any one
pub no_conflict_at : (ask : Ask) (locks : List Grant) → conflicts ask locks ≡ false →
    (place : ℕ) (d : Grant) → place < length locks → conflict ask (get_or locks place d).ask ≡ false
no_conflict_at ask [] none place d within = absurd (omega arith)
no_conflict_at ask (lock ∷ locks) none zero d within = (or_false _ _ none).0
no_conflict_at ask (lock ∷ locks) none (suc place) d within =
    no_conflict_at ask locks (or_false (conflict ask lock.ask) (conflicts ask locks) none).1 place d (omega arith)

-- ---- cookies in order

abbrev number_of : ℕ → List Cookie → ℕ
number_of n cookies = count_by (λ cookie. cookie.0 == n) cookies

numbers_of_filter : (n : ℕ) (test : Grant → Bool) (xs : List Grant) → number_of n (map (λ lock. lock.cookie) (filter test xs)) ≤ times n xs
numbers_of_filter n test [] = omega arith
numbers_of_filter n test (x ∷ xs) = let rest = numbers_of_filter n test xs in grind (arith, common_steps, rest)

-- sorted cookies don't fall
pub not_falling : (cmp : Cookie → Cookie → Ordering) → ((a b : Cookie) → is_lt (cmp b a) ≡ false → a.0 ≤ b.0) → (cookies : List Cookie)
    → IsSorted cmp cookies →
    (place : ℕ) (d : Cookie) → place + 1 < length cookies → (get_or cookies place d).0 ≤ (get_or cookies (place + 1) d).0
not_falling cmp orders cookies sorted place d within = orders _ _ (sorted place d (omega arith) within)

-- cookies in an order that doesn't fall rise, where none is there twice
pub rising_once : (test : Grant → Bool) (locks : List Grant) (cookies : List Cookie) → IsOnce locks →
    IsPermutation (map (λ lock. lock.cookie) (filter test locks)) cookies →
    ((place : ℕ) (d : Cookie) → place + 1 < length cookies → (get_or cookies place d).0 ≤ (get_or cookies (place + 1) d).0) →
    IsRising cookies
rising_once test locks cookies once moved sorted = λ place d within.
    let n = (get_or cookies place d).0 in
    let low : n ≤ (get_or cookies (place + 1) d).0 = sorted place d within in
    by place d within n refl low (get_or cookies (place + 1) d).0 refl (n == (get_or cookies (place + 1) d).0) refl
  where
    by : (place : ℕ) (d : Cookie) → place + 1 < length cookies → (n : ℕ) → (get_or cookies place d).0 ≡ n
        → n ≤ (get_or cookies (place + 1) d).0 →
        (m : ℕ) → (get_or cookies (place + 1) d).0 ≡ m → (same : Bool) → (n == (get_or cookies (place + 1) d).0) ≡ same
        → n < (get_or cookies (place + 1) d).0
    by place d within n e low m f false differ = grind (arith, nat_tests, differ)
    by place d within n e low m f true equal =
        let here : ((get_or cookies place d).0 == n) ≡ true = grind (arith, nat_tests, e) in
        let next : ((get_or cookies (place + 1) d).0 == n) ≡ true = grind (arith, nat_tests, equal) in
        let one : number_of n (take (place + 1) cookies) ≡ number_of n (take place cookies) + 1 =
        count_by_more_yes (λ (cookie : Cookie). cookie.0 == n) cookies place d (omega arith) here in
        let two : number_of n (take (place + 1 + 1) cookies) ≡ number_of n (take (place + 1) cookies) + 1 =
        count_by_more_yes (λ (cookie : Cookie). cookie.0 == n) cookies (place + 1) d within next in
        let all : number_of n (take (place + 1 + 1) cookies) + number_of n (drop (place + 1 + 1) cookies) ≡ number_of n cookies =
        sum_by-take-drop (λ (cookie : Cookie). cond (cookie.0 == n) 1 0) cookies (place + 1 + 1) in
        let before : number_of n cookies ≡ number_of n (map (λ lock. lock.cookie) (filter test locks)) =
        sum_by-IsPermutation (λ (cookie : Cookie). cond (cookie.0 == n) 1 0) (map (λ lock. lock.cookie) (filter test locks)) cookies moved
        in
        let few = numbers_of_filter n test locks in
        let most : times n locks ≤ 1 = once n in
        absurd (omega arith)

-- one more, among locks in rising cookie
pub in_order_with : (locks rising order : List Grant) (lock : Grant) → IsInOrder locks rising → IsInOrder (rising ++ lock ∷ []) order
    → IsInOrder (locks ++ lock ∷ []) order
in_order_with locks rising order lock before after = record {
  same = IsPermutation-trans (locks ++ lock ∷ []) (rising ++ lock ∷ []) order
      (IsPermutation-append_left (lock ∷ []) locks rising before.same) after.same;
  rising = after.rising;
}

-- ---- what is found by its cookie: granted, or else waiting

pub found_first : (cookie : ℕ) (queue : QueueState) (lock : Grant) → Some lock ≡ find (λ l. l.cookie.0 == cookie) queue.granted → Some lock
    ≡ lock_of cookie queue
found_first cookie queue lock h =
    sym (find-append (λ (l : Grant). l.cookie.0 == cookie) queue.granted queue.waiting
    ∙ ap (λ found. option_or found (find (λ l. l.cookie.0 == cookie) queue.waiting)) (sym h))

pub found_next : (cookie : ℕ) (queue : QueueState) (found : Option Grant) → None ≡ find (λ l. l.cookie.0 == cookie) queue.granted →
    found ≡ find (λ l. l.cookie.0 == cookie) queue.waiting → found ≡ lock_of cookie queue
found_next cookie queue found none h =
    h ∙ sym (find-append (λ (l : Grant). l.cookie.0 == cookie) queue.granted queue.waiting
    ∙ ap (λ first. option_or first (find (λ l. l.cookie.0 == cookie) queue.waiting)) (sym none))
