-- What growth keeps: the granted extent holds the asked one, and conflicts with no lock that the ask doesn't
-- conflict with.
use Rattle.std.proofs.Common.{◌≡◌, ℕ, ◌+◌, ◌-◌, ◌<◌, ◌≤◌, Bool, true, false, ◌||◌, List, [], ◌∷◌, ◌++◌, refl, sym, ◌∙◌, ap, arith, min, max}
use Rattle.std.proofs.Common.{map, filter, fold, nat_lt, IsTrue, length, take, get_or, subst}
use Rattle.std.specs.List.{list_any}
use Rattle.std.proofs.lemmas.List.{map-append, take_more}
use Rattle.std.proofs.lemmas.List.Sums.{fold-append}
use Rattle.std.proofs.lemmas.List.Elements.{filter-append, filter_map-append}
use Rattle.std.proofs.lemmas.Bool.Decides.{nat_tests}
use Rattle.lu_base.specs.declared.locks.Ask.{Ask}
use Rattle.lu_base.specs.declared.locks.Extent.{Extent}
use Rattle.lu_base.specs.declared.locks.Mode.{Mode}
use Rattle.lu_base.specs.declared.locks.Policy.{Policy}
use Rattle.lu_base.specs.declared.locks.Policy.TheVariants.{Bits, Range}
use Rattle.lu_lock.specs.Modes.{compatible}
use Rattle.lu_lock.specs.Overlap.{extents_meet, Covers, IsOrdered}
use Rattle.lu_lock.specs.Conflict.{conflicts_with_any}
use Rattle.lu_lock.specs.Growth.{the_end, opposing, greatest, least, past_below, before_above, grown_extent, granted_policy, granted_ask}

or_false : (a b : Bool) → (a || b) ≡ false → (a ≡ false) × (b ≡ false)
or_false true b h = cc
or_false false b h = (refl, h)

or_both : (a b : Bool) → a ≡ false → b ≡ false → (a || b) ≡ false
or_both a b p q = rw (p, q) refl

-- ---- the greatest and the least of two lists

greatest_from : (start : ℕ) (numbers : List ℕ) → fold max start numbers ≡ max start (greatest numbers)
greatest_from start [] = grind arith
greatest_from start (n ∷ numbers) =
    let e = greatest_from (max start n) numbers in
    let f = greatest_from (max 0 n) numbers in
    omega arith

least_from : (start : ℕ) (numbers : List ℕ) → start ≤ the_end → fold min start numbers ≡ min start (least numbers)
least_from start [] within = omega arith
least_from start (n ∷ numbers) within =
    let e = least_from (min start n) numbers (omega arith) in
    let f = least_from (min the_end n) numbers (omega arith) in
    omega arith

pub greatest-append : (xs ys : List ℕ) → greatest (xs ++ ys) ≡ max (greatest xs) (greatest ys)
greatest-append xs ys = fold-append max 0 xs ys ∙ greatest_from (greatest xs) ys

least_within : (numbers : List ℕ) → least numbers ≤ the_end
least_within [] = omega arith
least_within (n ∷ numbers) = let e = least_from (min the_end n) numbers (omega arith) in omega arith

pub least-append : (xs ys : List ℕ) → least (xs ++ ys) ≡ min (least xs) (least ys)
least-append xs ys = fold-append min the_end xs ys ∙ least_from (least xs) ys (least_within xs)

pub past_below-append : (offset : ℕ) (xs ys : List Extent) →
    past_below offset (xs ++ ys) ≡ max (past_below offset xs) (past_below offset ys)
past_below-append offset xs ys = simp (filter-append, map-append) (greatest-append (ends xs) (ends ys)) where
  ends : List Extent → List ℕ
  ends others = map (λ extent. extent.last + 1) (filter (λ extent. nat_lt extent.last offset) others)

pub before_above-append : (offset : ℕ) (xs ys : List Extent) →
    before_above offset (xs ++ ys) ≡ min (before_above offset xs) (before_above offset ys)
before_above-append offset xs ys = simp (filter-append, map-append) (least-append (starts xs) (starts ys)) where
  starts : List Extent → List ℕ
  starts others = map (λ extent. extent.first - 1) (filter (λ extent. nat_lt offset extent.first) others)

pub opposing-append : (mode : Mode) (xs ys : List Ask) →
    opposing mode (xs ++ ys) ≡ opposing mode xs ++ opposing mode ys
opposing-append mode xs ys = simp (filter-append, filter_map-append)

-- ---- the grown extent holds the asked one

past_below_one : (offset : ℕ) (extent : Extent) → past_below offset (extent ∷ []) ≤ offset
past_below_one offset extent = by (nat_lt extent.last offset) refl where
  by : (v : Bool) → nat_lt extent.last offset ≡ v → past_below offset (extent ∷ []) ≤ offset
  by true below = rw below (grind (arith, nat_tests))
  by false above = rw above (omega arith)

pub past_below_within : (offset : ℕ) (others : List Extent) → past_below offset others ≤ offset
past_below_within offset [] = omega arith
past_below_within offset (extent ∷ others) =
    let e = past_below-append offset (extent ∷ []) others in
    let one = past_below_one offset extent in
    let rest = past_below_within offset others in
    omega arith

before_above_one : (offset : ℕ) (extent : Extent) → offset ≤ the_end → offset ≤ before_above offset (extent ∷ [])
before_above_one offset extent within = by (nat_lt offset extent.first) refl where
  by : (v : Bool) → nat_lt offset extent.first ≡ v → offset ≤ before_above offset (extent ∷ [])
  by true above = rw above (grind (arith, nat_tests))
  by false below = rw below within

pub before_above_within : (offset : ℕ) (others : List Extent) → offset ≤ the_end → offset ≤ before_above offset others
before_above_within offset [] within = within
before_above_within offset (extent ∷ others) within =
    let e = before_above-append offset (extent ∷ []) others in
    let one = before_above_one offset extent within in
    let rest = before_above_within offset others within in
    omega arith

pub grown_extent_covers : (asked : Extent) (granted waiting : List Extent) → asked.last ≤ the_end →
    Covers (Range (grown_extent asked granted waiting)) (Range asked)
grown_extent_covers asked granted waiting within = by (list_any (extents_meet asked) waiting) refl where
  by : (v : Bool) → list_any (extents_meet asked) waiting ≡ v →
      Covers (Range (grown_extent asked granted waiting)) (Range asked)
  by true met = rw met (omega arith, omega arith)
  by false apart =
      rw apart (past_below_within asked.first (granted ++ waiting), before_above_within asked.last (granted ++ waiting) within)

-- ---- the grown extent meets no extent that the asked one doesn't meet

past_below_least : (offset first : ℕ) (extent : Extent) →
    past_below offset (extent ∷ []) ≤ first → extent.last < offset → extent.last < first
past_below_least offset first extent = by (nat_lt extent.last offset) refl where
  by : (v : Bool) → nat_lt extent.last offset ≡ v →
      past_below offset (extent ∷ []) ≤ first → extent.last < offset → extent.last < first
  by true below = rw below (λ low under. omega arith)
  by false above = λ _ below. absurd (grind (arith, nat_tests))

before_above_most : (offset last : ℕ) (extent : Extent) →
    last ≤ before_above offset (extent ∷ []) → offset < extent.first → last < extent.first
before_above_most offset last extent = by (nat_lt offset extent.first) refl where
  by : (v : Bool) → nat_lt offset extent.first ≡ v →
      last ≤ before_above offset (extent ∷ []) → offset < extent.first → last < extent.first
  by true above = rw above (λ high over. omega arith)
  by false below = λ _ above. absurd (grind (arith, nat_tests))

apart_one : (asked extent : Extent) (first last : ℕ) → asked.first ≤ asked.last →
    past_below asked.first (extent ∷ []) ≤ first → last ≤ before_above asked.last (extent ∷ []) →
    extents_meet asked extent ≡ false → extents_meet (record { first = first; last = last }) extent ≡ false
apart_one asked extent first last ordered low high =
    by (past_below_least asked.first first extent low) (before_above_most asked.last last extent high) where
      by : (extent.last < asked.first → extent.last < first) → (asked.last < extent.first → last < extent.first) →
          extents_meet asked extent ≡ false → extents_meet (record { first = first; last = last }) extent ≡ false
      by under over apart = grind (arith, nat_tests)

apart_all : (asked : Extent) (first last : ℕ) (others : List Extent) → asked.first ≤ asked.last →
    past_below asked.first others ≤ first → last ≤ before_above asked.last others →
    list_any (extents_meet asked) others ≡ false →
    list_any (extents_meet (record { first = first; last = last })) others ≡ false
apart_all asked first last [] ordered low high apart = refl
apart_all asked first last (extent ∷ others) ordered low high apart =
    let e = past_below-append asked.first (extent ∷ []) others in
    let f = before_above-append asked.last (extent ∷ []) others in
    let parts = or_false _ _ apart in
    or_both _ _
    (apart_one asked extent first last ordered (omega arith) (omega arith) parts.0)
    (apart_all asked first last others ordered (omega arith) (omega arith) parts.1)

pub grown_extent_apart : (asked : Extent) (granted waiting : List Extent) → asked.first ≤ asked.last →
    (list_any (extents_meet asked) granted ≡ false → list_any (extents_meet (grown_extent asked granted waiting)) granted ≡ false)
    × (list_any (extents_meet asked) waiting ≡ false → list_any (extents_meet (grown_extent asked granted waiting)) waiting ≡ false)
grown_extent_apart asked granted waiting ordered = by (list_any (extents_meet asked) waiting) refl where
  by : (v : Bool) → list_any (extents_meet asked) waiting ≡ v →
      (list_any (extents_meet asked) granted ≡ false → list_any (extents_meet (grown_extent asked granted waiting)) granted ≡ false)
      × (list_any (extents_meet asked) waiting ≡ false → list_any (extents_meet (grown_extent asked granted waiting)) waiting ≡ false)
  by true met = (λ apart. rw met apart, λ apart. cc)
  by false none =
      let e = past_below-append asked.first granted waiting in
      let f = before_above-append asked.last granted waiting in
      let first = past_below asked.first (granted ++ waiting) in
      let last = before_above asked.last (granted ++ waiting) in (
        λ apart. rw none (apart_all asked first last granted ordered (omega arith) (omega arith) apart),
        λ apart. rw none (apart_all asked first last waiting ordered (omega arith) (omega arith) none),
      )

-- ---- the same over locks

pub conflicts-range : (ask : Ask) (extent : Extent) (locks : List Ask) → ask.policy ≡ Range extent →
    conflicts_with_any ask locks ≡ list_any (extents_meet extent) (opposing ask.mode locks)
conflicts-range ask extent [] e = refl
conflicts-range ask extent (lock ∷ locks) e =
    by (compatible ask.mode lock.mode) lock.policy refl refl (conflicts-range ask extent locks e) where
      by : (v : Bool) (policy : Policy) → compatible ask.mode lock.mode ≡ v → lock.policy ≡ policy →
          conflicts_with_any ask locks ≡ list_any (extents_meet extent) (opposing ask.mode locks) →
          conflicts_with_any ask (lock ∷ locks) ≡ list_any (extents_meet extent) (opposing ask.mode (lock ∷ locks))
      by true policy c p rest = rw c rest
      by false (Bits bits) c p rest = rw (c, p, e) rest
      by false (Range other) c p rest = rw (c, p, e) (ap (λ b. extents_meet extent other || b) rest)

-- A lock that conflicts with no granted lock, or with no waiting one, conflicts with none as it is granted.
pub granted_apart : (ask : Ask) (granted waiting : List Ask) → IsOrdered ask.policy →
    (conflicts_with_any ask granted ≡ false → conflicts_with_any (granted_ask ask granted waiting) granted ≡ false)
    × (conflicts_with_any ask waiting ≡ false → conflicts_with_any (granted_ask ask granted waiting) waiting ≡ false)
granted_apart ask granted waiting = by ask.policy refl where
  by : (policy : Policy) → ask.policy ≡ policy → IsOrdered ask.policy →
      (conflicts_with_any ask granted ≡ false → conflicts_with_any (granted_ask ask granted waiting) granted ≡ false)
      × (conflicts_with_any ask waiting ≡ false → conflicts_with_any (granted_ask ask granted waiting) waiting ≡ false)
  by (Bits bits) e ordered =
      let same : granted_ask ask granted waiting ≡ ask = rw e refl in
      (λ apart. rw same apart, λ apart. rw same apart)
  by (Range asked) e ordered =
      let as_granted = granted_ask ask granted waiting in
      let grown = grown_extent asked (opposing ask.mode granted) (opposing ask.mode waiting) in
      let g : as_granted.policy ≡ Range grown = rw e refl in
      let in_order : asked.first ≤ asked.last = subst IsOrdered e ordered in
      let apart = grown_extent_apart asked (opposing ask.mode granted) (opposing ask.mode waiting) in_order in (
        λ none. conflicts-range as_granted grown granted g ∙ apart.0 (sym (conflicts-range ask asked granted e) ∙ none),
        λ none. conflicts-range as_granted grown waiting g ∙ apart.1 (sym (conflicts-range ask asked waiting e) ∙ none),
      )

-- Where a waiting lock conflicts with it, a lock is granted as it was asked for.
pub granted_as_asked : (ask : Ask) (granted waiting : List Ask) → IsTrue (conflicts_with_any ask waiting) →
    granted_policy ask granted waiting ≡ ask.policy
granted_as_asked ask granted waiting = by ask.policy refl where
  by : (policy : Policy) → ask.policy ≡ policy → IsTrue (conflicts_with_any ask waiting) →
      granted_policy ask granted waiting ≡ ask.policy
  by (Bits bits) e met = rw e refl
  by (Range asked) e met = rw (e, sym (conflicts-range ask asked waiting e) ∙ met) refl

-- What is granted of a range covers what was asked for, and its ends are in order.
pub granted_covers : (ask : Ask) (asked : Extent) (granted waiting : List Ask) → ask.policy ≡ Range asked →
    asked.last ≤ the_end → Covers (granted_policy ask granted waiting) ask.policy
granted_covers ask asked granted waiting e within =
    rw e (grown_extent_covers asked (opposing ask.mode granted) (opposing ask.mode waiting) within)

-- ---- one more lock, as at a step of a loop

pub past_below_step : (offset : ℕ) (mode : Mode) (locks : List Ask) (i : ℕ) (d : Ask) (first one next : ℕ) →
    i < length locks → first ≡ past_below offset (opposing mode (take i locks)) →
    one ≡ past_below offset (opposing mode (get_or locks i d ∷ [])) → next ≡ max first one →
    next ≡ past_below offset (opposing mode (take (i + 1) locks))
past_below_step offset mode locks i d first one next within seen here e =
    e ∙ ap (λ n. max n one) seen ∙ ap (max (past_below offset (opposing mode (take i locks)))) here
    ∙ sym (past_below-append offset (opposing mode (take i locks)) (opposing mode (get_or locks i d ∷ [])))
    ∙ ap (past_below offset) (sym (opposing-append mode (take i locks) (get_or locks i d ∷ [])))
    ∙ ap (λ more. past_below offset (opposing mode more)) (sym (take_more locks i d within))

pub before_above_step : (offset : ℕ) (mode : Mode) (locks : List Ask) (i : ℕ) (d : Ask) (last one next : ℕ) →
    i < length locks → last ≡ before_above offset (opposing mode (take i locks)) →
    one ≡ before_above offset (opposing mode (get_or locks i d ∷ [])) → next ≡ min last one →
    next ≡ before_above offset (opposing mode (take (i + 1) locks))
before_above_step offset mode locks i d last one next within seen here e =
    e ∙ ap (λ n. min n one) seen ∙ ap (min (before_above offset (opposing mode (take i locks)))) here
    ∙ sym (before_above-append offset (opposing mode (take i locks)) (opposing mode (get_or locks i d ∷ [])))
    ∙ ap (before_above offset) (sym (opposing-append mode (take i locks) (get_or locks i d ∷ [])))
    ∙ ap (λ more. before_above offset (opposing mode more)) (sym (take_more locks i d within))

-- The extent from both lists, each bounded by itself.
pub grown_extent-apart : (asked : Extent) (granted waiting : List Extent) (first last : ℕ) →
    list_any (extents_meet asked) waiting ≡ false →
    first ≡ max (past_below asked.first granted) (past_below asked.first waiting) →
    last ≡ min (before_above asked.last granted) (before_above asked.last waiting) →
    record { first = first; last = last } ≡ grown_extent asked granted waiting
grown_extent-apart asked granted waiting first last none low high =
    rw (none, low, high, past_below-append asked.first granted waiting, before_above-append asked.last granted waiting) refl
