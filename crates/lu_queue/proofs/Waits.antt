-- Which locks have to wait, as locks are added.
use Rattle.std.proofs.Common.{◌≡◌, ℕ, suc, ◌+◌, ◌<◌, ◌≤◌, ◌||◌, Bool, true, false, List, [], ◌∷◌, ◌++◌, length, take, drop, get_or, refl}
use Rattle.std.proofs.Common.{sym, subst, arith, ◌⊎◌, inl, inr}
use Rattle.std.proofs.lemmas.Bool.{cases_lt}
use Rattle.std.proofs.lemmas.List.{take-append-le, length-append, get_or_append_left, length-take-le}
use Rattle.std.proofs.Math.Seq.{get_or-append_seam, take-append_seam, split_at}
use Rattle.lu_base.specs.declared.locks.Ask.{Ask}
use Rattle.lu_queue.specs.declared.locks.Grant.{Grant}
use Rattle.lu_queue.specs.Queues.{conflicts, has_to_wait, AllWait, as_granted, IsGranted}
use Rattle.lu_queue.proofs.Lists.{conflicts-append}

-- what has to wait still has to, where more is granted
pub waits_more : (ask : Ask) (granted more ahead : List Grant) → has_to_wait ask granted ahead ≡ true
    → has_to_wait ask (granted ++ more) ahead ≡ true
waits_more ask granted more ahead h =
    rw (conflicts-append ask granted more) (by (conflicts ask granted) (conflicts ask more) (conflicts ask ahead) h) where
      by : (a b c : Bool) → (a || c) ≡ true → ((a || b) || c) ≡ true
      by true b c h = refl
      by false true c h = refl
      by false false c h = h

pub all_wait_more : (granted more waiting : List Grant) → AllWait granted waiting → AllWait (granted ++ more) waiting
all_wait_more granted more waiting all = λ place d within.
    waits_more (get_or waiting place d).ask granted more (take place waiting) (all place d within)

-- one more that has to wait behind the others
pub all_wait_push : (granted waiting : List Grant) (lock : Grant) → AllWait granted waiting → has_to_wait lock.ask granted waiting ≡ true →
    AllWait granted (waiting ++ lock ∷ [])
all_wait_push granted waiting lock all last = λ place d within.
    by place d within (cases_lt place (length waiting)) (length-append waiting (lock ∷ [])) where
      by : (place : ℕ) (d : Grant) → place < length (waiting ++ lock ∷ []) → (place < length waiting) ⊎ (length waiting ≤ place) →
          length (waiting ++ lock ∷ []) ≡ length waiting + 1 →
          has_to_wait (get_or (waiting ++ lock ∷ []) place d).ask granted (take place (waiting ++ lock ∷ [])) ≡ true
      by place d within (inl below) count =
          rw (get_or_append_left waiting (lock ∷ []) d place below, take-append-le place waiting (lock ∷ []) (omega arith))
          (all place d below)
      by place d within (inr past) count =
          let e : place ≡ length waiting = omega arith in
          rw (e, get_or-append_seam waiting lock [] d, take-append_seam waiting (lock ∷ [])) last

-- ---- one step of going through the waiting locks

-- The lock at this place is the first that doesn't have to wait.
pub granted_at : (granted waiting : List Grant) (place : ℕ) (d : Grant) → place < length waiting → AllWait granted (take place waiting) →
    has_to_wait (get_or waiting place d).ask granted (take place waiting) ≡ false →
    IsGranted (record { granted = granted; waiting = waiting })
    (as_granted (get_or waiting place d) granted (take place waiting ++ drop (place + 1) waiting))
    (record {
      granted = granted ++ as_granted (get_or waiting place d) granted (take place waiting ++ drop (place + 1) waiting) ∷ [];
      waiting = take place waiting ++ drop (place + 1) waiting;
    })
granted_at granted waiting place d within first free = record {
  ahead = take place waiting;
  lock = get_or waiting place d;
  behind = drop (place + 1) waiting;
  waiting = subst (λ n. waiting ≡ take place waiting ++ get_or waiting place d ∷ drop n waiting) next (split_at waiting place d within);
  first = first;
  free = free;
  grown = refl;
  left = refl;
}
  where
    next : suc place ≡ place + 1
    next = omega arith

-- What was passed over still has to wait.
pub front_waits : (granted more waiting : List Grant) (place : ℕ) → place ≤ length waiting → AllWait granted (take place waiting) →
    AllWait (granted ++ more) (take place (take place waiting ++ drop (place + 1) waiting))
front_waits granted more waiting place within first =
    let count = length-take-le place waiting within in
    let front : take place (take place waiting ++ drop (place + 1) waiting) ≡ take place waiting =
    subst (λ n. take n (take place waiting ++ drop (place + 1) waiting) ≡ take place waiting) count
    (take-append_seam (take place waiting) (drop (place + 1) waiting)) in
    subst (AllWait (granted ++ more)) (sym front) (all_wait_more granted more (take place waiting) first)
