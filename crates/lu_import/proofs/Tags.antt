-- Requests that have all tags below a number are at least that many.
use Rattle.std.proofs.Common.{◌≡◌, ◌≢◌, ℕ, zero, suc, ◌+◌, ◌<◌, ◌≤◌, ◌==◌, ◌||◌, Bool, true, false, not, cond, List, [], ◌∷◌, length}
use Rattle.std.proofs.Common.{filter, ◌⊎◌, inl, inr, refl, sym, subst, arith}
use Rattle.std.proofs.lemmas.Grind.{common_steps}
use Rattle.std.proofs.lemmas.Bool.Decides.{nat_tests}
use Rattle.std.proofs.lemmas.Bool.{cases_lt}
use Rattle.lu_import.specs.declared.requests.InFlight.{InFlight}
use Rattle.lu_import.specs.InFlights.{has_tag}

-- the requests of other tags
other_tags : ℕ → List InFlight → List InFlight
other_tags tag requests = filter (λ request. not (request.tag == tag)) requests

no_more : (tag : ℕ) (requests : List InFlight) → length (other_tags tag requests) ≤ length requests
unfolding other_tags
no_more tag [] = omega arith
no_more tag (request ∷ requests) = grind (arith, common_steps, nat_tests, no_more tag requests)

-- where a request has the tag, those of other tags are fewer
fewer : (tag : ℕ) (requests : List InFlight) → has_tag tag requests ≡ true → length (other_tags tag requests) + 1 ≤ length requests
unfolding other_tags
fewer tag [] h = absurd (cc)
fewer tag (request ∷ requests) h = by (request.tag == tag) h (fewer tag requests) (no_more tag requests) where
  by : (here : Bool) → (here || has_tag tag requests) ≡ true → (has_tag tag requests ≡ true
      → length (other_tags tag requests) + 1 ≤ length requests) → length (other_tags tag requests) ≤ length requests
      → length (cond (not here) (request ∷ other_tags tag requests) (other_tags tag requests)) + 1 ≤ suc (length requests)
  by true h rest all = omega arith
  by false h rest all = let some = rest h in omega arith

-- a request of another tag stays
still : (tag other : ℕ) (requests : List InFlight) → other ≢ tag → has_tag other requests ≡ true → has_tag other (other_tags tag requests)
    ≡ true
unfolding other_tags
still tag other [] apart h = h
still tag other (request ∷ requests) apart h = by (request.tag == tag) (request.tag == other) refl refl h
    (still tag other requests apart) where
      by : (here there : Bool) → (request.tag == tag) ≡ here → (request.tag == other) ≡ there → (there || has_tag other requests) ≡ true
          → (has_tag other requests ≡ true → has_tag other (other_tags tag requests) ≡ true)
          → has_tag other (cond (not here) (request ∷ other_tags tag requests) (other_tags tag requests)) ≡ true
      by true true e f h rest = absurd (grind (arith, nat_tests))
      by true false e f h rest = rest h
      by false true e f h rest = rw f refl
      by false false e f h rest = rw f (rest h)

-- the tags below a number are all taken: the requests are at least that many
pub taken_below : (count : ℕ) (requests : List InFlight) → ((tag : ℕ) → tag < count → has_tag tag requests ≡ true) → count ≤ length requests
taken_below zero requests h = omega arith
taken_below (suc count) requests h =
    let rest = taken_below count (other_tags count requests) (λ tag below. still count tag requests (omega arith) (h tag (omega arith))) in
    let one : length (other_tags count requests) + 1 ≤ length requests = fewer count requests (h count (omega arith)) in
    omega arith

-- and one more where the number itself is taken
pub taken_with : (tag : ℕ) (requests : List InFlight) → ((lower : ℕ) → lower < tag → has_tag lower requests ≡ true) → has_tag tag requests
    ≡ true → tag + 1 ≤ length requests
taken_with tag requests below at = taken_below (tag + 1) requests (λ lower less. by lower (cases_lt lower tag) less) where
  by : (lower : ℕ) → (lower < tag) ⊎ (tag ≤ lower) → lower < tag + 1 → has_tag lower requests ≡ true
  by lower (inl less) h = below lower less
  by lower (inr past) h = let e : lower ≡ tag = omega arith in subst (λ t. has_tag t requests ≡ true) (sym e) at
