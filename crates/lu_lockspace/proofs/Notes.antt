-- What is there is noted, whatever becomes of the queue of one resource.
use Rattle.std.proofs.Common.{◌≡◌, ℕ, Bool, true, false, not, cond, ◌||◌, ◌&&◌, ◌==◌, is_some, List, [], ◌∷◌, ◌++◌, filter}
use Rattle.std.proofs.Common.{refl, sym, ◌∙◌, ap, subst, arith}
use Rattle.std.specs.Prelude.{slice_get}
use Rattle.std.specs.List.{list_any}
use Rattle.std.specs.Option.{unwrap_or}
use Rattle.std.specs.BTreeMap.{is_at}
use Rattle.std.specs.List.Sorted.{IsStrictlySortedBy}
use Rattle.std.proofs.lemmas.Bool.Decides.{nat_tests}
use Rattle.std.proofs.lemmas.Grind.{common_steps}
use Rattle.std.proofs.lemmas.List.Folds.{list_any-append}
use Rattle.lu_base.specs.declared.ids.Who.{Who}
use Rattle.lu_base.specs.declared.locks.Resource.{Resource}
use Rattle.lu_queue.specs.declared.locks.Grant.{Grant}
use Rattle.lu_queue.specs.Queues as queue
use Rattle.lu_queue.specs.Queues.{QueueState, same_who, is_of, has_of, has_to_wait, as_granted, with_lock, may_restore, restored, without}
use Rattle.lu_queue.specs.Queues.{without_lives, IsGranted, AreGranted}
use Rattle.lu_lockspace.specs.declared.stays.Stay.{Stay}
use Rattle.lu_lockspace.specs.Spaces.{same_resource, some_waits}
use Rattle.lu_lockspace.specs.Entries.{Entries, order, at, AreRising, Keeps}
use Rattle.lu_lockspace.specs.Notes.{stay, stay_order, is_noted, is_waited, HasStays, HasResources, AreNoted, IsFewer}
use Rattle.lu_lockspace.proofs.Resources.{same_is, is_at_same}
use Rattle.lu_lockspace.proofs.Waited.{none_waits}

differ : true ≡ false → ⊥
differ p = cc

-- ---- what passes a test in a part of a list passes it in the list

pub or_left : (a b : Bool) → a ≡ true → (a || b) ≡ true
or_left a b h = ap (λ v. v || b) h

pub or_right : (a b : Bool) → b ≡ true → (a || b) ≡ true
or_right true b h = refl
or_right false b h = h

-- each of two parts
or_more : (a b v w : Bool) → (a ≡ true → v ≡ true) → (b ≡ true → w ≡ true) → (a || b) ≡ true → (v || w) ≡ true
or_more true b v w f g h = or_left v w (f refl)
or_more false b v w f g h = or_right v w (g h)

any_filter : {X : Type 0} (test p : X → Bool) (xs : List X) → list_any test (filter p xs) ≡ true → list_any test xs ≡ true
any_filter test p [] h = h
any_filter test p (x ∷ xs) h = by (p x) h (any_filter test p xs) where
  by : (b : Bool) → list_any test (cond b (x ∷ filter p xs) (filter p xs)) ≡ true
      → (list_any test (filter p xs) ≡ true → list_any test xs ≡ true) → (test x || list_any test xs) ≡ true
  by true h rest = or_more (test x) (list_any test (filter p xs)) (test x) (list_any test xs) (λ e. e) rest h
  by false h rest = or_right (test x) (list_any test xs) (rest h)

some_filter : {X : Type 0} (p : X → Bool) (xs : List X) → is_some (slice_get (filter p xs) 0) ≡ true → is_some (slice_get xs 0) ≡ true
some_filter p [] h = h
some_filter p (x ∷ xs) h = refl

-- ---- the locks of a life in a queue

fewer_granted : (who : Who) (before : QueueState) (grant : Grant) (after : QueueState) → IsGranted before grant after →
    has_of (who ∷ []) after ≡ true → has_of (who ∷ []) before ≡ true
fewer_granted who before grant after step h =
    let of : Grant → Bool = is_of (who ∷ []) in
    let any : List Grant → Bool = λ xs. list_any of xs in
    let same : of grant ≡ of step.lock = ap of step.grown in
    let all : (any (before.granted ++ grant ∷ []) || any (step.ahead ++ step.behind)) ≡ true =
    sym (ap (has_of (who ∷ [])) step.left) ∙ h in
    let parts : ((any before.granted || (of step.lock || false)) || (any step.ahead || any step.behind)) ≡ true =
    sym (λ i. (list_any-append of before.granted (grant ∷ []) ∙ ap (λ v. any before.granted || (v || false)) same) i
    || list_any-append of step.ahead step.behind i) ∙ all in
    let waits : any before.waiting ≡ (any step.ahead || (of step.lock || any step.behind)) =
    ap any step.waiting ∙ list_any-append of step.ahead (step.lock ∷ step.behind) in
    ap (λ v. any before.granted || v) waits ∙ moved (any before.granted) (of step.lock) (any step.ahead) (any step.behind) parts
  where
    moved : (a t u v : Bool) → ((a || (t || false)) || (u || v)) ≡ true → (a || (u || (t || v))) ≡ true
    moved true t u v h = refl
    moved false true true v h = refl
    moved false true false v h = refl
    moved false false true v h = refl
    moved false false false v h = h

lives_granted : (who : Who) (before : QueueState) (grants : List Grant) (after : QueueState) → AreGranted before grants after →
    has_of (who ∷ []) after ≡ true → has_of (who ∷ []) before ≡ true
lives_granted who before [] after (same, stuck) h = sym (ap (has_of (who ∷ [])) same) ∙ h
lives_granted who before (grant ∷ grants) after (next, step, rest) h =
    fewer_granted who before grant next step (lives_granted who next grants after rest h)

first_waits : (ahead : List Grant) (lock : Grant) (behind : List Grant) (q : QueueState) → q.waiting ≡ ahead ++ lock ∷ behind
    → some_waits q ≡ true
unfolding some_waits
first_waits [] lock behind q is = ap (λ xs. is_some (slice_get xs 0)) is
first_waits (x ∷ ahead) lock behind q is = ap (λ xs. is_some (slice_get xs 0)) is

-- where locks are granted some waited
waits_granted : (before : QueueState) (grants : List Grant) (after : QueueState) → AreGranted before grants after → some_waits after ≡ true
    → some_waits before ≡ true
waits_granted before [] after (same, stuck) h = sym (ap some_waits same) ∙ h
waits_granted before (grant ∷ grants) after (next, step, rest) h = first_waits step.ahead step.lock step.behind before step.waiting

waits_without : (c : ℕ) (q : QueueState) → some_waits (without c q) ≡ true → some_waits q ≡ true
unfolding some_waits
waits_without c q h = some_filter (λ lock. not (lock.cookie.0 == c)) q.waiting h

waits_without_lives : (lives : List Who) (q : QueueState) → some_waits (without_lives lives q) ≡ true → some_waits q ≡ true
unfolding some_waits
waits_without_lives lives q h = some_filter (λ lock. not (is_of lives lock)) q.waiting h

-- a lock less, and what is granted then
pub fewer_without : (c : ℕ) (q : QueueState) (grants : List Grant) (after : QueueState) → AreGranted (without c q) grants after
    → IsFewer after q
fewer_without c q grants after steps = record {
  lives = λ who h.
      let of : Grant → Bool = is_of (who ∷ []) in
      let others : Grant → Bool = λ lock. not (lock.cookie.0 == c) in
      or_more (list_any of (filter others q.granted)) (list_any of (filter others q.waiting)) (list_any of q.granted)
      (list_any of q.waiting) (any_filter of others q.granted) (any_filter of others q.waiting)
      (lives_granted who (without c q) grants after steps h);
  waits = λ h. waits_without c q (waits_granted (without c q) grants after steps h);
}

-- the locks of some lives less
pub fewer_ended : (lives : List Who) (q : QueueState) (grants : List Grant) (after : QueueState)
    → AreGranted (without_lives lives q) grants after → IsFewer after q
fewer_ended lives q grants after steps = record {
  lives = λ who h.
      let of : Grant → Bool = is_of (who ∷ []) in
      let others : Grant → Bool = λ lock. not (is_of lives lock) in
      or_more (list_any of (filter others q.granted)) (list_any of (filter others q.waiting)) (list_any of q.granted)
      (list_any of q.waiting) (any_filter of others q.granted) (any_filter of others q.waiting)
      (lives_granted who (without_lives lives q) grants after steps h);
  waits = λ h. waits_without_lives lives q (waits_granted (without_lives lives q) grants after steps h);
}

-- one lock more
more_granted : (who : Who) (lock : Grant) (q : QueueState) → has_of (who ∷ []) (record q { granted = q.granted ++ lock ∷ [] }) ≡ true
    → (same_who who lock.ask.who || has_of (who ∷ []) q) ≡ true
more_granted who lock q h =
    moved (list_any of q.granted) (list_any of q.waiting) (same_who who lock.ask.who)
    (sym (ap (λ v. v || list_any of q.waiting) (list_any-append of q.granted (lock ∷ []))) ∙ h)
  where
    of : Grant → Bool
    of = is_of (who ∷ [])

    moved : (a b t : Bool) → ((a || ((t || false) || false)) || b) ≡ true → (t || (a || b)) ≡ true
    moved true b true h = refl
    moved true b false h = refl
    moved false b true h = refl
    moved false b false h = h

more_waits : (who : Who) (lock : Grant) (q : QueueState) → has_of (who ∷ []) (record q { waiting = q.waiting ++ lock ∷ [] }) ≡ true
    → (same_who who lock.ask.who || has_of (who ∷ []) q) ≡ true
more_waits who lock q h =
    moved (list_any of q.granted) (list_any of q.waiting) (same_who who lock.ask.who)
    (sym (ap (λ v. list_any of q.granted || v) (list_any-append of q.waiting (lock ∷ []))) ∙ h)
  where
    of : Grant → Bool
    of = is_of (who ∷ [])

    moved : (a b t : Bool) → (a || (b || ((t || false) || false))) ≡ true → (t || (a || b)) ≡ true
    moved true b true h = refl
    moved true b false h = refl
    moved false true true h = refl
    moved false true false h = refl
    moved false false true h = refl
    moved false false false h = h

pub lives_with : (who : Who) (lock : Grant) (q : QueueState) → has_of (who ∷ []) (with_lock lock q) ≡ true
    → (same_who who lock.ask.who || has_of (who ∷ []) q) ≡ true
lives_with who lock q = by (has_to_wait lock.ask q.granted q.waiting) where
  by : (v : Bool) → has_of (who ∷ []) (cond v (record q { waiting = q.waiting ++ lock ∷ [] })
      (record q { granted = q.granted ++ as_granted lock q.granted q.waiting ∷ [] })) ≡ true
      → (same_who who lock.ask.who || has_of (who ∷ []) q) ≡ true
  by true h = more_waits who lock q h
  by false h = more_granted who (as_granted lock q.granted q.waiting) q h

pub lives_restored : (who : Who) (lock : Grant) (q : QueueState) → has_of (who ∷ []) (restored lock q) ≡ true
    → (same_who who lock.ask.who || has_of (who ∷ []) q) ≡ true
lives_restored who lock q = by (may_restore lock q) where
  by : (v : Bool) → has_of (who ∷ []) (cond v (record q { granted = q.granted ++ lock ∷ [] }) q) ≡ true
      → (same_who who lock.ask.who || has_of (who ∷ []) q) ≡ true
  by true h = more_granted who lock q h
  by false h = or_right (same_who who lock.ask.who) (has_of (who ∷ []) q) h

-- no lock comes to wait
pub waits_restored : (lock : Grant) (q : QueueState) → some_waits (restored lock q) ≡ true → some_waits q ≡ true
unfolding some_waits
waits_restored lock q = by (may_restore lock q) where
  by : (v : Bool) → is_some (slice_get (cond v (record q { granted = q.granted ++ lock ∷ [] }) q).waiting 0) ≡ true
      → is_some (slice_get q.waiting 0) ≡ true
  by true h = h
  by false h = h

-- ---- notes

pub same_life : (a b : Who) → same_who a b ≡ true → a ≡ b
same_life a b h =
    let client : a.client ≡ b.client = grind (arith, nat_tests) in
    let life : a.life ≡ b.life = grind (arith, nat_tests) in
    λ i. record { client = client i; life = life i }

pub life_turned : (a b : Who) → same_who a b ≡ same_who b a
life_turned a b = grind (arith, nat_tests)

pub is_stay : (a b : Stay) → is_at (stay_order a) b ≡ (same_who a.who b.who && same_resource a.resource b.resource)
is_stay a b = grind (arith, nat_tests, common_steps)

pub both : (a b : Bool) → (a && b) ≡ true → (a ≡ true) × (b ≡ true)
both true true h = (refl, refl)
both true false h = absurd (cc)
both false b h = absurd (cc)

-- the test of notes is equality
pub stay_is : (a b : Stay) → is_at (stay_order a) b ≡ true → a ≡ b
stay_is a b h =
    let parts = both (same_who a.who b.who) (same_resource a.resource b.resource) (sym (is_stay a b) ∙ h) in
    λ i. record { who = same_life a.who b.who parts.0 i; resource = same_is a.resource b.resource parts.1 i }

-- there is nothing at first
none_rises : AreRising []
unfolding IsStrictlySortedBy
none_rises = tt

pub none_noted : (es : Entries) (stays : List Stay) (waited : List Resource) → es ≡ [] → AreNoted es stays waited
none_noted es stays waited none = subst (λ xs. AreNoted xs stays waited) (sym none) (record {
  rising = none_rises;
  lives = λ who r h. absurd (differ (sym h));
  waits = λ r h. absurd (differ (sym h ∙ none_waits));
})

-- the queue of one resource changes
pub noted_changed : (r : Resource) (before after : Entries) (stays : List Stay) (waited : List Resource) → AreNoted before stays waited →
    AreRising after → Keeps r before after → ((who : Who) → has_of (who ∷ []) (at r after) ≡ true → is_noted (stay who r) stays ≡ true) →
    (some_waits (at r after) ≡ true → is_waited r waited ≡ true) → AreNoted after stays waited
noted_changed r before after stays waited noted up keeps lives waits = record {
  rising = up;
  lives = λ who s h. lives_at who s (same_resource r s) refl h;
  waits = λ s h. waits_at s (same_resource r s) refl h;
}
  where
    still : (s : Resource) → same_resource r s ≡ false → at s after ≡ at s before
    still s apart = ap (λ found. unwrap_or found queue.empty) (keeps s apart)

    lives_at : (who : Who) (s : Resource) (b : Bool) → same_resource r s ≡ b → has_of (who ∷ []) (at s after) ≡ true
        → is_noted (stay who s) stays ≡ true
    lives_at who s true same h =
        subst (λ k. has_of (who ∷ []) (at k after) ≡ true → is_noted (stay who k) stays ≡ true) (same_is r s same) (lives who) h
    lives_at who s false apart h = noted.lives who s (sym (ap (has_of (who ∷ [])) (still s apart)) ∙ h)

    waits_at : (s : Resource) (b : Bool) → same_resource r s ≡ b → some_waits (at s after) ≡ true → is_waited s waited ≡ true
    waits_at s true same h = subst (λ k. some_waits (at k after) ≡ true → is_waited k waited ≡ true) (same_is r s same) waits h
    waits_at s false apart h = noted.waits s (sym (ap some_waits (still s apart)) ∙ h)

-- the new queue has fewer locks
pub noted_fewer : (r : Resource) (before after : Entries) (stays : List Stay) (waited : List Resource) → AreNoted before stays waited →
    AreRising after → Keeps r before after → IsFewer (at r after) (at r before) → AreNoted after stays waited
noted_fewer r before after stays waited noted up keeps fewer =
    noted_changed r before after stays waited noted up keeps (λ who h. noted.lives who r (fewer.lives who h))
    (λ h. noted.waits r (fewer.waits h))

-- more is noted
pub noted_more : (es : Entries) (stays more : List Stay) (waited others : List Resource) → AreNoted es stays waited → HasStays stays more
    → HasResources waited others → AreNoted es more others
noted_more es stays more waited others noted has has2 = record {
  rising = noted.rising;
  lives = λ who r h. has (stay who r) (noted.lives who r h);
  waits = λ r h. has2 r (noted.waits r h);
}

-- a note of what is gone is forgotten
pub noted_without : (es : Entries) (stays new : List Stay) (waited : List Resource) (who : Who) (r : Resource) → AreNoted es stays waited →
    has_of (who ∷ []) (at r es) ≡ false →
    ((s : Stay) → is_noted s new ≡ cond (is_at (stay_order (stay who r)) s) false (is_noted s stays)) → AreNoted es new waited
noted_without es stays new waited who r noted gone less = record {
  rising = noted.rising;
  lives = λ w s h. less (stay w s) ∙ by w s (is_at (stay_order (stay who r)) (stay w s)) refl h;
  waits = noted.waits;
}
  where
    by : (w : Who) (s : Resource) (b : Bool) → is_at (stay_order (stay who r)) (stay w s) ≡ b → has_of (w ∷ []) (at s es) ≡ true
        → cond b false (is_noted (stay w s) stays) ≡ true
    by w s true e h =
        let same : stay who r ≡ stay w s = stay_is (stay who r) (stay w s) e in
        absurd (differ (sym h ∙ sym (ap (λ (k : Stay). has_of (k.who ∷ []) (at k.resource es)) same) ∙ gone))
    by w s false e h = noted.lives w s h

pub waits_forgotten : (es : Entries) (stays : List Stay) (waited new : List Resource) (r : Resource) → AreNoted es stays waited →
    some_waits (at r es) ≡ false → ((s : Resource) → is_waited s new ≡ cond (is_at (order r) s) false (is_waited s waited))
    → AreNoted es stays new
waits_forgotten es stays waited new r noted gone less = record {
  rising = noted.rising;
  lives = noted.lives;
  waits = λ s h. less s ∙ by s (is_at (order r) s) refl h;
}
  where
    by : (s : Resource) (b : Bool) → is_at (order r) s ≡ b → some_waits (at s es) ≡ true → cond b false (is_waited s waited) ≡ true
    by s true e h =
        let same : r ≡ s = same_is r s (sym (is_at_same r s) ∙ e) in
        absurd (differ (sym h ∙ sym (ap (λ k. some_waits (at k es)) same) ∙ gone))
    by s false e h = noted.waits s h

-- the new lock's life is noted
pub noted_life : (who own : Who) (r : Resource) (stays : List Stay) (was : Bool) → is_noted (stay own r) stays ≡ true →
    (was ≡ true → is_noted (stay who r) stays ≡ true) → (same_who who own || was) ≡ true → is_noted (stay who r) stays ≡ true
noted_life who own r stays was here old h = by (same_who who own) refl h where
  by : (b : Bool) → same_who who own ≡ b → (b || was) ≡ true → is_noted (stay who r) stays ≡ true
  by true e h = subst (λ w. is_noted (stay w r) stays ≡ true) (sym (same_life who own e)) here
  by false e h = old h

-- what was noted is noted still
pub kept_more : (b v new : Bool) → new ≡ cond b true v → v ≡ true → new ≡ true
kept_more true v new is h = is
kept_more false v new is h = is ∙ h
