-- Which of the waiting locks of a resource is granted first, and that only it can be.
use Rattle.std.proofs.Common.{◌≡◌, Bool, true, false, List, [], ◌∷◌, ◌++◌, length, take, get_or, refl, sym, ◌∙◌, subst, arith}
use Rattle.std.specs.Prelude.{⊤}
use Rattle.std.proofs.lemmas.List.{append-nil, append_assoc, length-append}
use Rattle.std.proofs.Math.Seq.{get_or-append_seam, take-append_seam}
use Rattle.lu_queue.specs.declared.locks.Grant.{Grant}
use Rattle.lu_queue.specs.Queues.{QueueState, has_to_wait, AllWait, as_granted, IsGranted}
use Rattle.lu_queue.proofs.Waits.{waits_more}

-- each has to wait behind those ahead of it
abbrev pub Stuck : (granted ahead waiting : List Grant) → Type 0
Stuck granted ahead [] = ⊤
Stuck granted ahead (lock ∷ waiting) = (has_to_wait lock.ask granted ahead ≡ true) × Stuck granted (ahead ++ lock ∷ []) waiting

pub waits_at : (granted ahead : List Grant) (lock : Grant) (behind : List Grant) → AllWait granted (ahead ++ lock ∷ behind)
    → has_to_wait lock.ask granted ahead ≡ true
waits_at granted ahead lock behind all =
    let count = length-append ahead (lock ∷ behind) in
    let here : get_or (ahead ++ lock ∷ behind) (length ahead) lock ≡ lock = get_or-append_seam ahead lock behind lock in
    let front : take (length ahead) (ahead ++ lock ∷ behind) ≡ ahead = take-append_seam ahead (lock ∷ behind) in
    subst (λ x. has_to_wait x.ask granted ahead ≡ true) here
    (subst (λ xs. has_to_wait (get_or (ahead ++ lock ∷ behind) (length ahead) lock).ask granted xs ≡ true) front
    (all (length ahead) lock (omega (arith, count))))

pub stuck_from : (granted ahead waiting : List Grant) → AllWait granted (ahead ++ waiting) → Stuck granted ahead waiting
stuck_from granted ahead [] all = tt
stuck_from granted ahead (lock ∷ waiting) all = (
  waits_at granted ahead lock waiting all,
  stuck_from granted (ahead ++ lock ∷ []) waiting (subst (AllWait granted) (sym (append_assoc ahead (lock ∷ []) waiting)) all),
)

-- one more that has to wait behind the others
pub stuck_push : (granted ahead waiting : List Grant) (lock : Grant) → Stuck granted ahead waiting
    → has_to_wait lock.ask granted (ahead ++ waiting) ≡ true →
    Stuck granted ahead (waiting ++ lock ∷ [])
stuck_push granted ahead [] lock stuck last = (subst (λ xs. has_to_wait lock.ask granted xs ≡ true) (append-nil ahead) last, tt)
stuck_push granted ahead (x ∷ waiting) lock stuck last = (
  stuck.0,
  stuck_push granted (ahead ++ x ∷ []) waiting lock stuck.1 (subst (λ xs. has_to_wait lock.ask granted xs ≡ true)
      (sym (append_assoc ahead (x ∷ []) waiting)) last),
)

-- they still have to wait where more is granted
pub stuck_more : (granted more ahead waiting : List Grant) → Stuck granted ahead waiting → Stuck (granted ++ more) ahead waiting
stuck_more granted more ahead [] stuck = tt
stuck_more granted more ahead (lock ∷ waiting) stuck =
    (waits_more lock.ask granted more ahead stuck.0, stuck_more granted more (ahead ++ lock ∷ []) waiting stuck.1)

-- none of them is free
pub not_free : (granted passed ahead : List Grant) (lock : Grant) (behind : List Grant) → Stuck granted passed (ahead ++ lock ∷ behind) →
    has_to_wait lock.ask granted (passed ++ ahead) ≡ true
not_free granted passed [] lock behind stuck = subst (λ xs. has_to_wait lock.ask granted xs ≡ true) (sym (append-nil passed)) stuck.0
not_free granted passed (x ∷ ahead) lock behind stuck =
    subst (λ xs. has_to_wait lock.ask granted xs ≡ true) (append_assoc passed (x ∷ []) ahead)
    (not_free granted (passed ++ x ∷ []) ahead lock behind stuck.1)

first_is : (x y : Grant) (xs ys : List Grant) → x ∷ xs ≡ y ∷ ys → x ≡ y
first_is x y xs ys e = cc

rest_is : (x y : Grant) (xs ys : List Grant) → x ∷ xs ≡ y ∷ ys → xs ≡ ys
rest_is x y xs ys e = cc

clash : (v : Bool) → v ≡ true → v ≡ false → ⊥
clash v yes_it no_it = cc

-- the first free one is found in one place alone
same_first : (granted passed xs : List Grant) (x : Grant) (us ys : List Grant) (y : Grant) (vs : List Grant) →
    Stuck granted passed xs → has_to_wait x.ask granted (passed ++ xs) ≡ false → Stuck granted passed ys
    → has_to_wait y.ask granted (passed ++ ys) ≡ false →
    xs ++ x ∷ us ≡ ys ++ y ∷ vs → (xs ≡ ys) × (x ≡ y) × (us ≡ vs)
same_first granted passed [] x us [] y vs stuck free stuck2 free2 e = (refl, first_is x y us vs e, rest_is x y us vs e)
same_first granted passed [] x us (b ∷ ys) y vs stuck free stuck2 free2 e =
    let same : x ≡ b = first_is x b us (ys ++ y ∷ vs) e in
    let waits : has_to_wait x.ask granted passed ≡ true = subst (λ g. has_to_wait g.ask granted passed ≡ true) (sym same) stuck2.0 in
    let not_so : has_to_wait x.ask granted passed ≡ false = subst (λ gs. has_to_wait x.ask granted gs ≡ false) (append-nil passed) free in
    absurd (clash (has_to_wait x.ask granted passed) waits not_so)
same_first granted passed (a ∷ xs) x us [] y vs stuck free stuck2 free2 e =
    let same : a ≡ y = first_is a y (xs ++ x ∷ us) vs e in
    let waits : has_to_wait y.ask granted passed ≡ true = subst (λ g. has_to_wait g.ask granted passed ≡ true) same stuck.0 in
    let not_so : has_to_wait y.ask granted passed ≡ false = subst (λ gs. has_to_wait y.ask granted gs ≡ false) (append-nil passed) free2 in
    absurd (clash (has_to_wait y.ask granted passed) waits not_so)
same_first granted passed (a ∷ xs) x us (b ∷ ys) y vs stuck free stuck2 free2 e =
    let same : a ≡ b = first_is a b (xs ++ x ∷ us) (ys ++ y ∷ vs) e in
    let one : has_to_wait x.ask granted ((passed ++ a ∷ []) ++ xs) ≡ false =
    subst (λ gs. has_to_wait x.ask granted gs ≡ false) (sym (append_assoc passed (a ∷ []) xs)) free in
    let two : has_to_wait y.ask granted ((passed ++ b ∷ []) ++ ys) ≡ false =
    subst (λ gs. has_to_wait y.ask granted gs ≡ false) (sym (append_assoc passed (b ∷ []) ys)) free2 in
    let three : has_to_wait y.ask granted ((passed ++ a ∷ []) ++ ys) ≡ false =
    subst (λ g. has_to_wait y.ask granted ((passed ++ g ∷ []) ++ ys) ≡ false) (sym same) two in
    let stuck3 : Stuck granted (passed ++ a ∷ []) ys = subst (λ g. Stuck granted (passed ++ g ∷ []) ys) (sym same) stuck2.1 in
    let rest = same_first granted (passed ++ a ∷ []) xs x us ys y vs stuck.1 one stuck3 three (rest_is a b (xs ++ x ∷ us) (ys ++ y ∷ vs) e)
    in
    ((λ i. same i ∷ rest.0 i), rest.1, rest.2)

-- so a step grants the first free one, and no other
pub first_granted : (before : QueueState) (ahead : List Grant) (lock : Grant) (behind : List Grant) (grant : Grant) (after : QueueState) →
    before.waiting ≡ ahead ++ lock ∷ behind → Stuck before.granted [] ahead → has_to_wait lock.ask before.granted ahead ≡ false
    → IsGranted before grant after →
    (grant ≡ as_granted lock before.granted (ahead ++ behind)) × (after
    ≡ record { granted = before.granted ++ grant ∷ []; waiting = ahead ++ behind })
first_granted before ahead lock behind grant after is stuck free step =
    let place = same_first before.granted [] step.ahead step.lock step.behind ahead lock behind
    (stuck_from before.granted [] step.ahead step.first) step.free stuck free (sym step.waiting ∙ is) in
    let others : step.ahead ++ step.behind ≡ ahead ++ behind = λ i. place.0 i ++ place.2 i in (
      step.grown ∙ (λ i. as_granted (place.1 i) before.granted (others i)),
      step.left ∙ (λ i. record { granted = before.granted ++ grant ∷ []; waiting = others i }),
    )

-- where all have to wait none is granted
pub none_granted : (before : QueueState) (grant : Grant) (after : QueueState) → Stuck before.granted [] before.waiting
    → IsGranted before grant after → ⊥
none_granted before grant after stuck step =
    let waits = not_free before.granted [] step.ahead step.lock step.behind (subst (Stuck before.granted []) step.waiting stuck) in
    clash (has_to_wait step.lock.ask before.granted step.ahead) waits step.free

-- and where one is free one is granted
pub some_granted : (granted ahead : List Grant) (lock : Grant) (behind : List Grant) → has_to_wait lock.ask granted ahead ≡ false
    → AllWait granted (ahead ++ lock ∷ behind) → ⊥
some_granted granted ahead lock behind free all = clash (has_to_wait lock.ask granted ahead) (waits_at granted ahead lock behind all) free
