-- The least tag that no request in flight has is the one that the rows give to the next request.
use Rattle.std.proofs.Common.{◌≡◌, ℕ, zero, suc, max, ◌+◌, ◌<◌, ◌≤◌, Bool, true, false, ◌==◌, ◌||◌, if◌then◌else◌, List, [], ◌∷◌, map, ◌⊎◌}
use Rattle.std.proofs.Common.{inl, inr, true≢false, refl, sym, ap, ◌∙◌, arith}
use Rattle.std.proofs.lemmas.Bool.{cases_lt}
use Rattle.std.proofs.lemmas.Bool.Decides.{nat_tests}
use Rattle.lu_import.specs.declared.requests.InFlight.{InFlight}
use Rattle.lu_import.specs.InFlights as own
use Rattle.lu_spec_entries.specs.Carried.{Flight}
use Rattle.lu_spec_client.specs.Imports.{has_tag, above_tags, free_from, free_tag}
use Rattle.lu_client_refines.specs.Imports.{flight_of}

same_tags : (tag : ℕ) (requests : List InFlight) → has_tag tag (map flight_of requests) ≡ own.has_tag tag requests
same_tags tag [] = refl
same_tags tag (request ∷ requests) = ap (λ (b : Bool). request.tag == tag || b) (same_tags tag requests)

-- each tag in flight is below
below_above : (tag : ℕ) (flights : List Flight) → has_tag tag flights ≡ true → tag < above_tags flights
below_above tag [] h = absurd (cc)
below_above tag (f ∷ flights) h = by (f.tag == tag) refl h (below_above tag flights) where
  by : (here : Bool) → (f.tag == tag) ≡ here → (here || has_tag tag flights) ≡ true
      → (has_tag tag flights ≡ true → tag < above_tags flights) → tag < max (f.tag + 1) (above_tags flights)
  by true e h rest = grind (arith, nat_tests)
  by false e h rest = let below : tag < above_tags flights = rest h in omega arith

-- the search finds the tag that is free and has none below
finds : (more : ℕ) (flights : List Flight) (from tag : ℕ) → has_tag tag flights ≡ false
    → ((lower : ℕ) → lower < tag → has_tag lower flights ≡ true) → from ≤ tag → tag ≤ from + more → free_from more flights from ≡ tag
finds zero flights from tag free below least most = omega arith
finds (suc more) flights from tag free below least most = by (has_tag from flights) refl (cases_lt from tag)
    (λ less. finds more flights (from + 1) tag free below less (omega arith)) where
      by : (taken : Bool) → has_tag from flights ≡ taken → (from < tag) ⊎ (tag ≤ from)
          → (from + 1 ≤ tag → free_from more flights (from + 1) ≡ tag) → (if taken then free_from more flights (from + 1) else from) ≡ tag
      by true e (inl less) next = next (omega arith)
      by true e (inr past) next = let same : from ≡ tag = omega arith in absurd (true≢false (sym e ∙ ap (λ n. has_tag n flights) same ∙ free))
      by false e (inl less) next = absurd (true≢false (sym (below from less) ∙ e))
      by false e (inr past) next = omega arith

-- the least tag that is free isn't above those in flight
no_higher : (flights : List Flight) (tag : ℕ) → ((lower : ℕ) → lower < tag → has_tag lower flights ≡ true) → tag ≤ above_tags flights
no_higher flights tag below = by (cases_lt (above_tags flights) tag) where
  by : (above_tags flights < tag) ⊎ (tag ≤ above_tags flights) → tag ≤ above_tags flights
  by (inl less) = let higher : above_tags flights < above_tags flights =
      below_above (above_tags flights) flights (below (above_tags flights) less) in omega arith
  by (inr most) = most

-- the tag that an import gives is the rows'
pub least_free : (requests : List InFlight) (tag : ℕ) → own.IsLeastFree requests tag → tag ≡ free_tag (map flight_of requests)
least_free requests tag least =
    let flights : List Flight = map flight_of requests in
    let free : has_tag tag flights ≡ false = same_tags tag requests ∙ least.free in
    let below : (lower : ℕ) → lower < tag → has_tag lower flights ≡ true = λ lower less. same_tags lower requests ∙ least.least lower less
    in
    let most : tag ≤ above_tags flights = no_higher flights tag below in
    sym (finds (above_tags flights) flights 0 tag free below (omega arith) (omega arith))
