-- The queue of one seat becomes another, and seats come and go.
use Rattle.std.proofs.Common.{◌≡◌, ◌≢◌, ℕ, ◌+◌, length, ◌==◌, Bool, true, false, cond, Option, Some, None, is_some, [], ◌∷◌, refl, sym, ◌∙◌, ap, subst, arith}
use Rattle.std.specs.Prelude.{IsSome}
use Rattle.std.specs.Option.{unwrap_or, option_map}
use Rattle.std.specs.Map.{keys_of}
use Rattle.std.specs.BTreeMap.{is_at}
use Rattle.std.specs.List.Sorted.{IsStrictlySortedBy}
use Rattle.std.proofs.lemmas.Bool.Decides.{nat_tests}
use Rattle.std.proofs.lemmas.List.Sums.{sum_by-set}
use Rattle.std.proofs.lemmas.Option.{same_Some}
use Rattle.slab.specs.Slab.{Slab, get, slab_len, with_value, Updates}
use Rattle.slab.proofs.SlabLemmas.{ContainsKey-within, Updates-with_value}
use Rattle.lu_base.specs.declared.locks.Resource.{Resource}
use Rattle.lu_queue.specs.Queues as queue
use Rattle.lu_queue.specs.Queues.{QueueState}
use Rattle.lu_lockspace.specs.Spaces.{same_resource}
use Rattle.lu_lockspace.specs.Entries.{Entries, order, entry_of, at, AreRising, Keeps}
use Rattle.lu_lockspace.specs.Seats.{Seats, seat_of, queue_at, seated, IsSeated}
use Rattle.lu_lockspace.proofs.Resources.{same_itself, same_is, is_at_same}

differ : true ≡ false → ⊥
differ p = cc

keys_seated : (seats : Seats) (qs : Slab QueueState) → keys_of (seated seats qs) ≡ keys_of seats
keys_seated [] qs = refl
keys_seated (s ∷ seats) qs = ap (λ ks. s.0 ∷ ks) (keys_seated seats qs)

pub rising_seated : (seats : Seats) (qs : Slab QueueState) → IsStrictlySortedBy order (keys_of seats) → AreRising (seated seats qs)
rising_seated seats qs rising = subst (IsStrictlySortedBy order) (sym (keys_seated seats qs)) rising

pub entry_seated : (r : Resource) (seats : Seats) (qs : Slab QueueState) → entry_of r (seated seats qs)
    ≡ option_map (queue_at qs) (seat_of r seats)
entry_seated r [] qs = refl
entry_seated r (s ∷ seats) qs = by (is_at (order r) s.0) (entry_seated r seats qs) where
  by : (b : Bool) → entry_of r (seated seats qs) ≡ option_map (queue_at qs) (seat_of r seats)
      → cond b (Some (queue_at qs s.1)) (entry_of r (seated seats qs)) ≡ option_map (queue_at qs) (cond b (Some s.1) (seat_of r seats))
  by true rest = refl
  by false rest = rest

pub unseated : (r : Resource) (seats : Seats) (qs : Slab QueueState) → entry_of r (seated seats qs) ≡ None → seat_of r seats ≡ None
unseated r seats qs none = by (seat_of r seats) (sym (entry_seated r seats qs) ∙ none) where
  by : (o : Option ℕ) → option_map (queue_at qs) o ≡ None → o ≡ None
  by None h = refl
  by (Some k) h = absurd (cc)

-- the queue of a resource is that at its seat
pub found_seated : (r : Resource) (seats : Seats) (qs : Slab QueueState) (k : ℕ) → IsSeated seats qs → seat_of r seats ≡ Some k
    → entry_of r (seated seats qs) ≡ get qs k
found_seated r seats qs k whole at = entry_seated r seats qs ∙ ap (option_map (queue_at qs)) at ∙ by (get qs k) (whole.there r k at) where
  by : (o : Option QueueState) → IsSome o → Some (unwrap_or o queue.empty) ≡ o
  by None h = absurd (cc)
  by (Some q) h = refl

pub none_seated : (r : Resource) (seats : Seats) (qs : Slab QueueState) → seat_of r seats ≡ None → entry_of r (seated seats qs) ≡ None
none_seated r seats qs at = entry_seated r seats qs ∙ ap (option_map (queue_at qs)) at

pub at_seated : (r : Resource) (seats : Seats) (qs : Slab QueueState) (k : ℕ) (q : QueueState) → IsSeated seats qs
    → seat_of r seats ≡ Some k → get qs k ≡ Some q → at r (seated seats qs) ≡ q
at_seated r seats qs k q whole seat here = ap (λ o. unwrap_or o queue.empty) (found_seated r seats qs k whole seat ∙ here)

pub at_unseated : (r : Resource) (seats : Seats) (qs : Slab QueueState) → seat_of r seats ≡ None → at r (seated seats qs) ≡ queue.empty
at_unseated r seats qs none = ap (λ o. unwrap_or o queue.empty) (none_seated r seats qs none)

pub not_unseated : (r : Resource) (seats : Seats) (qs : Slab QueueState) → seat_of r seats ≡ None → IsSome (entry_of r (seated seats qs)) → ⊥
not_unseated r seats qs none some = differ (sym some ∙ ap is_some (none_seated r seats qs none))

is_number : (a b : ℕ) → (a == b) ≡ true → a ≡ b
is_number a b h = grind (arith, nat_tests, h)

not_number : (a b : ℕ) → (a == b) ≡ false → a ≢ b
not_number a b h = λ e. differ (sym (itself b) ∙ sym (ap (λ k. k == b) e) ∙ h) where
  itself : (n : ℕ) → (n == n) ≡ true
  itself n = grind (arith, nat_tests)

-- a queue is written at the seat of a resource
pub keeps_written : (r : Resource) (seats : Seats) (old new : Slab QueueState) (k : ℕ) → IsSeated seats old → seat_of r seats ≡ Some k →
    ((j : ℕ) → j ≢ k → get new j ≡ get old j) → Keeps r (seated seats old) (seated seats new)
keeps_written r seats old new k whole at others = λ s apart.
    entry_seated s seats new ∙ by s apart (seat_of s seats) refl ∙ sym (entry_seated s seats old)
  where
    by : (s : Resource) → same_resource r s ≡ false → (o : Option ℕ) → seat_of s seats ≡ o
        → option_map (queue_at new) (seat_of s seats) ≡ option_map (queue_at old) (seat_of s seats)
    by s apart None e = ap (option_map (queue_at new)) e ∙ sym (ap (option_map (queue_at old)) e)
    by s apart (Some j) e = ap (option_map (queue_at new)) e ∙ at_seat (j == k) refl ∙ sym (ap (option_map (queue_at old)) e) where
      at_seat : (b : Bool) → (j == k) ≡ b → Some (queue_at new j) ≡ Some (queue_at old j)
      at_seat true h = absurd (differ (sym (whole.apart r s k at (e ∙ ap Some (is_number j k h))) ∙ apart))
      at_seat false h = ap (λ o. Some (unwrap_or o queue.empty)) (others j (not_number j k h))

pub seated_written : (seats : Seats) (old new : Slab QueueState) (k : ℕ) → IsSeated seats old → IsSome (get new k) →
    ((j : ℕ) → j ≢ k → get new j ≡ get old j) → slab_len new ≡ slab_len old → IsSeated seats new
seated_written seats old new k whole here others count = record {
  rising = whole.rising;
  there = there;
  apart = whole.apart;
  full = count ∙ whole.full;
}
  where
    there : (r : Resource) (j : ℕ) → seat_of r seats ≡ Some j → IsSome (get new j)
    there r j at = by (j == k) refl where
      by : (b : Bool) → (j == k) ≡ b → IsSome (get new j)
      by true h = subst (λ i. IsSome (get new i)) (sym (is_number j k h)) here
      by false h = subst IsSome (sym (others j (not_number j k h))) (whole.there r j at)

abbrev weight : Bool → ℕ
weight b = cond b 1 0

count_with : (qs : Slab QueueState) (k : ℕ) (q : QueueState) → IsSome (get qs k) → slab_len (with_value qs k q) ≡ slab_len qs
count_with qs k q there =
    let one : weight (is_some (get qs k)) ≡ weight true = ap weight there in
    let counted : slab_len (with_value qs k q) + weight (is_some (get qs k)) ≡ slab_len qs + weight true =
    sum_by-set (λ o. cond (is_some o) 1 0) qs.slots k (Some q) None (ContainsKey-within qs k there) in
    omega (arith, counted, one)

-- the same, where it is written through
pub whole_with : (r : Resource) (seats : Seats) (qs : Slab QueueState) (k : ℕ) (q : QueueState) → IsSeated seats qs
    → seat_of r seats ≡ Some k → IsSeated seats (with_value qs k q)
whole_with r seats qs k q whole seat =
    let now : Updates qs (with_value qs k q) k (Some q) = Updates-with_value qs k q (whole.there r k seat) in
    seated_written seats qs (with_value qs k q) k whole (ap is_some now.changed) now.others
    (count_with qs k q (whole.there r k seat))

pub at_with : (r : Resource) (seats : Seats) (qs : Slab QueueState) (k : ℕ) (q : QueueState) → IsSeated seats qs
    → seat_of r seats ≡ Some k → at r (seated seats (with_value qs k q)) ≡ q
at_with r seats qs k q whole seat =
    at_seated r seats (with_value qs k q) k q (whole_with r seats qs k q whole seat) seat
    (Updates-with_value qs k q (whole.there r k seat)).changed

pub keeps_with : (r : Resource) (seats : Seats) (qs : Slab QueueState) (k : ℕ) (q : QueueState) → IsSeated seats qs
    → seat_of r seats ≡ Some k → Keeps r (seated seats qs) (seated seats (with_value qs k q))
keeps_with r seats qs k q whole seat = keeps_written r seats qs (with_value qs k q) k whole seat
    (Updates-with_value qs k q (whole.there r k seat)).others

-- a resource gets a seat
pub keeps_begun : (r : Resource) (seats more : Seats) (old new : Slab QueueState) (k : ℕ) → IsSeated seats old → get old k ≡ None →
    ((j : ℕ) → j ≢ k → get new j ≡ get old j) →
    ((s : Resource) → seat_of s more ≡ cond (is_at (order r) s) (Some k) (seat_of s seats)) → Keeps r (seated seats old) (seated more new)
keeps_begun r seats more old new k whole free others put = λ s apart.
    entry_seated s more new ∙ ap (option_map (queue_at new)) (put s ∙ ap (λ b. cond b (Some k) (seat_of s seats)) (is_at_same r s ∙ apart))
    ∙ by s (seat_of s seats) refl ∙ sym (entry_seated s seats old)
  where
    by : (s : Resource) (o : Option ℕ) → seat_of s seats ≡ o
        → option_map (queue_at new) (seat_of s seats) ≡ option_map (queue_at old) (seat_of s seats)
    by s None e = ap (option_map (queue_at new)) e ∙ sym (ap (option_map (queue_at old)) e)
    by s (Some j) e = ap (option_map (queue_at new)) e ∙ at_seat (j == k) refl ∙ sym (ap (option_map (queue_at old)) e) where
      at_seat : (b : Bool) → (j == k) ≡ b → Some (queue_at new j) ≡ Some (queue_at old j)
      at_seat true h = absurd (differ (sym (whole.there s j e) ∙ ap is_some (ap (get old) (is_number j k h) ∙ free)))
      at_seat false h = ap (λ o. Some (unwrap_or o queue.empty)) (others j (not_number j k h))

pub seated_begun : (r : Resource) (seats more : Seats) (old new : Slab QueueState) (k : ℕ) → IsSeated seats old → get old k ≡ None →
    IsSome (get new k) → ((j : ℕ) → j ≢ k → get new j ≡ get old j) → IsStrictlySortedBy order (keys_of more) →
    ((s : Resource) → seat_of s more ≡ cond (is_at (order r) s) (Some k) (seat_of s seats)) →
    slab_len new ≡ slab_len old + 1 → length more ≡ length seats + 1 → IsSeated more new
seated_begun r seats more old new k whole free here others up put count longer = record {
  rising = up;
  there = there;
  apart = apart;
  full = omega (arith, count, longer, whole.full);
}
  where
    now : (s : Resource) → seat_of s more ≡ cond (same_resource r s) (Some k) (seat_of s seats)
    now s = put s ∙ ap (λ b. cond b (Some k) (seat_of s seats)) (is_at_same r s)

    -- no other resource has the new seat
    not_new : (s : Resource) (j : ℕ) → seat_of s seats ≡ Some j → j ≢ k
    not_new s j at = λ e. differ (sym (whole.there s j at) ∙ ap is_some (ap (get old) e ∙ free))

    there : (s : Resource) (j : ℕ) → seat_of s more ≡ Some j → IsSome (get new j)
    there s j at = by (same_resource r s) (sym (now s) ∙ at) where
      by : (b : Bool) → cond b (Some k) (seat_of s seats) ≡ Some j → IsSome (get new j)
      by true h = subst (λ i. IsSome (get new i)) (same_Some k j h) here
      by false h = subst IsSome (sym (others j (not_new s j h))) (whole.there s j h)

    apart : (a b : Resource) (j : ℕ) → seat_of a more ≡ Some j → seat_of b more ≡ Some j → same_resource a b ≡ true
    apart a b j at at2 = by (same_resource r a) refl (same_resource r b) refl (sym (now a) ∙ at) (sym (now b) ∙ at2) where
      by : (v : Bool) → same_resource r a ≡ v → (w : Bool) → same_resource r b ≡ w → cond v (Some k) (seat_of a seats) ≡ Some j →
          cond w (Some k) (seat_of b seats) ≡ Some j → same_resource a b ≡ true
      by true e true f h g = subst (λ x. same_resource x b ≡ true) (same_is r a e) f
      by true e false f h g = absurd (not_new b j g (sym (same_Some k j h)))
      by false e true f h g = absurd (not_new a j h (sym (same_Some k j g)))
      by false e false f h g = whole.apart a b j h g

-- so the queue of a resource is what was put at its new seat
pub record IsBegun (r : Resource) (before after : Entries) (q : QueueState) : Type 0 where
  pub here : at r after ≡ q
  pub others : Keeps r before after

pub begun : (r : Resource) (seats more : Seats) (old new : Slab QueueState) (k : ℕ) (q : QueueState) → IsSeated seats old
    → get old k ≡ None → Updates old new k (Some q) → IsStrictlySortedBy order (keys_of more) →
    ((s : Resource) → seat_of s more ≡ cond (is_at (order r) s) (Some k) (seat_of s seats)) →
    slab_len new ≡ slab_len old + 1 → length more ≡ length seats + 1
    → IsSeated more new × IsBegun r (seated seats old) (seated more new) q
begun r seats more old new k q whole free now up put count longer =
    let after : IsSeated more new =
    seated_begun r seats more old new k whole free (ap is_some now.changed) now.others up put count longer in
    let seat : seat_of r more ≡ Some k =
    put r ∙ ap (λ b. cond b (Some k) (seat_of r seats)) (is_at_same r r ∙ same_itself r) in (
      after,
      record {
        here = at_seated r more new k q after seat now.changed;
        others = keeps_begun r seats more old new k whole free now.others put;
      },
    )

-- more room changes no seat
pub seated_room : (seats : Seats) (old new : Slab QueueState) → ((k : ℕ) → get new k ≡ get old k) → slab_len new ≡ slab_len old
    → IsSeated seats old → IsSeated seats new × (seated seats new ≡ seated seats old)
seated_room seats old new same count whole = (
  record {
    rising = whole.rising;
    there = λ r k at. subst IsSome (sym (same k)) (whole.there r k at);
    apart = whole.apart;
    full = count ∙ whole.full;
  },
  entries seats,
)
  where
    entries : (seats : Seats) → seated seats new ≡ seated seats old
    entries [] = refl
    entries (s ∷ seats) = λ i. (s.0, unwrap_or (same s.1 i) queue.empty) ∷ entries seats i

-- a resource loses its seat
pub keeps_left : (r : Resource) (seats less : Seats) (old new : Slab QueueState) (k : ℕ) → IsSeated seats old → seat_of r seats ≡ Some k →
    ((j : ℕ) → j ≢ k → get new j ≡ get old j) →
    ((s : Resource) → seat_of s less ≡ cond (is_at (order r) s) None (seat_of s seats)) → Keeps r (seated seats old) (seated less new)
keeps_left r seats less old new k whole at others gone = λ s apart.
    entry_seated s less new ∙ ap (option_map (queue_at new)) (gone s ∙ ap (λ b. cond b None (seat_of s seats)) (is_at_same r s ∙ apart))
    ∙ sym (entry_seated s seats new) ∙ keeps_written r seats old new k whole at others s apart

pub seated_left : (r : Resource) (seats less : Seats) (old new : Slab QueueState) (k : ℕ) → IsSeated seats old → seat_of r seats ≡ Some k →
    ((j : ℕ) → j ≢ k → get new j ≡ get old j) → IsStrictlySortedBy order (keys_of less) →
    ((s : Resource) → seat_of s less ≡ cond (is_at (order r) s) None (seat_of s seats)) →
    slab_len new + 1 ≡ slab_len old → length less + 1 ≡ length seats → IsSeated less new
seated_left r seats less old new k whole at others up gone count shorter = record {
  rising = up;
  there = there;
  apart = apart;
  full = omega (arith, count, shorter, whole.full);
}
  where
    now : (s : Resource) → seat_of s less ≡ cond (same_resource r s) None (seat_of s seats)
    now s = gone s ∙ ap (λ b. cond b None (seat_of s seats)) (is_at_same r s)

    -- what has a seat had it, and is another
    had : (s : Resource) (j : ℕ) → seat_of s less ≡ Some j → (same_resource r s ≡ false) × (seat_of s seats ≡ Some j)
    had s j h = by (same_resource r s) refl (sym (now s) ∙ h) where
      by : (b : Bool) → same_resource r s ≡ b → cond b None (seat_of s seats) ≡ Some j → (b ≡ false) × (seat_of s seats ≡ Some j)
      by true e h = absurd (cc)
      by false e h = (refl, h)

    there : (s : Resource) (j : ℕ) → seat_of s less ≡ Some j → IsSome (get new j)
    there s j h = by (j == k) refl where
      by : (b : Bool) → (j == k) ≡ b → IsSome (get new j)
      by true e = absurd (differ (sym (whole.apart r s k at ((had s j h).1 ∙ ap Some (is_number j k e))) ∙ (had s j h).0))
      by false e = subst IsSome (sym (others j (not_number j k e))) (whole.there s j (had s j h).1)

    apart : (a b : Resource) (j : ℕ) → seat_of a less ≡ Some j → seat_of b less ≡ Some j → same_resource a b ≡ true
    apart a b j h g = whole.apart a b j (had a j h).1 (had b j g).1

pub at_left : (r : Resource) (seats less : Seats) (new : Slab QueueState) →
    ((s : Resource) → seat_of s less ≡ cond (is_at (order r) s) None (seat_of s seats)) → at r (seated less new) ≡ queue.empty
at_left r seats less new gone = at_unseated r less new
    (gone r ∙ ap (λ b. cond b None (seat_of r seats)) (is_at_same r r ∙ same_itself r))
