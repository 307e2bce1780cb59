-- What holds of every import still holds once a reply was heard, and once a request was sent.
use Rattle.std.proofs.Common.{◌≡◌, ◌≢◌, ℕ, ◌+◌, ◌<◌, ◌≤◌, ◌==◌, ◌||◌, Bool, true, false, not, cond, Some, is_some, List, [], ◌∷◌, ◌++◌}
use Rattle.std.proofs.Common.{length, get_or, refl, arith}
use Rattle.std.specs.List.{list_any}
use Rattle.std.proofs.lemmas.Grind.{common_steps}
use Rattle.std.proofs.lemmas.Bool.Decides.{nat_tests}
use Rattle.std.proofs.lemmas.List.Kept.{AllPairs-filter}
use Rattle.std.proofs.lemmas.List.Elements.{All-filter, All-push}
use Rattle.std.proofs.lemmas.List.Quantifiers.{all_pairs_push}
use Rattle.std.proofs.lemmas.List.{length_push}
use Rattle.std.proofs.lemmas.List.Folds.{list_any_at}
use Rattle.lu_import.specs.declared.requests.Waiting.{Waiting}
use Rattle.lu_import.specs.declared.requests.InFlight.{InFlight}
use Rattle.lu_import.specs.Objects.{same_object}
use Rattle.lu_import.specs.InFlights.{has_number, request_of, without, has_tag, front_waits}
use Rattle.lu_import.specs.Kept.{KeptState, IsSettled}
use Rattle.lu_import.specs.Imports.{ImportState, IsSound}

-- no request of this number is left
pub none_left : (number : ℕ) (requests : List InFlight) → has_number number (without number requests) ≡ false
none_left number [] = refl
none_left number (request ∷ requests) = by (request.xid.0 == number) refl (none_left number requests) where
  by : (here : Bool) → (request.xid.0 == number) ≡ here → has_number number (without number requests) ≡ false
      → has_number number (cond (not here) (request ∷ without number requests) (without number requests)) ≡ false
  by true e rest = rest
  by false e rest = rw e rest

pub no_more : (number : ℕ) (requests : List InFlight) → length (without number requests) ≤ length requests
no_more number [] = omega arith
no_more number (request ∷ requests) = grind (arith, common_steps, nat_tests, no_more number requests)

-- the facts of two requests, and of one
abbrev Rising : InFlight → InFlight → Type 0
Rising earlier later = earlier.xid.0 < later.xid.0

abbrev OtherTags : InFlight → InFlight → Type 0
OtherTags one other = one.tag ≢ other.tag

abbrev OtherObjects : InFlight → InFlight → Type 0
OtherObjects one other = same_object one.op other.op ≡ false

abbrev UpTo : ℕ → InFlight → Type 0
UpTo last request = request.xid.0 ≤ last

abbrev TagBelow : ℕ → InFlight → Type 0
TagBelow flight request = request.tag < flight

pub sound_heard : (import : ImportState) (number : ℕ) (kept : KeptState) → IsSound import → IsSettled kept
    → IsSound (record import { in_flight = without number import.in_flight; kept = kept })
sound_heard import number kept sound settled =
    let other : InFlight → Bool = λ request. not (request.xid.0 == number) in
    let fewer : length (without number import.in_flight) ≤ length import.in_flight = no_more number import.in_flight in
    let most : length import.in_flight ≤ import.flight = sound.most in
    record {
      flight = sound.flight;
      most = omega arith;
      rising = AllPairs-filter Rising other import.in_flight sound.rising;
      given = All-filter other (UpTo import.last) import.in_flight sound.given;
      tags = AllPairs-filter OtherTags other import.in_flight sound.tags;
      range = All-filter other (TagBelow import.flight) import.in_flight sound.range;
      objects = λ ost. AllPairs-filter OtherObjects other import.in_flight (sound.objects ost);
      kept = settled;
    }

-- what a test of the whole list refuses it refuses at each place
pub none_at : (test : InFlight → Bool) (requests : List InFlight) → list_any test requests ≡ false → (place : ℕ) (d : InFlight)
    → place < length requests → test (get_or requests place d) ≡ false
none_at test requests none place d within = by (test (get_or requests place d)) refl where
  by : (there : Bool) → test (get_or requests place d) ≡ there → there ≡ false
  by false e = refl
  by true e = let some : list_any test requests ≡ true = list_any_at test requests place d within e in absurd (cc)

pub sound_sent : (import : ImportState) (request : InFlight) (rest : List Waiting) → IsSound import
    → length import.in_flight < import.flight → request.xid.0 ≡ import.last + 1 → has_tag request.tag import.in_flight ≡ false
    → request.tag ≤ length import.in_flight → front_waits import.target import.in_flight request.op ≡ false
    → IsSound (record import { last = import.last + 1; queue = rest; in_flight = import.in_flight ++ request ∷ [] })
sound_sent import request rest sound room number free within unblocked =
    let requests = import.in_flight in
    let count : length (requests ++ request ∷ []) ≡ length requests + 1 = length_push requests request in
    record {
      flight = sound.flight;
      most = omega arith;
      rising = all_pairs_push Rising requests request sound.rising
          (λ place d below. let old : (get_or requests place d).xid.0 ≤ import.last = sound.given place d below in omega arith);
      given = All-push (UpTo (import.last + 1)) requests request
          (λ place d below. let old : (get_or requests place d).xid.0 ≤ import.last = sound.given place d below in omega arith)
          (omega arith);
      tags = all_pairs_push OtherTags requests request sound.tags
          (λ place d below. apart (get_or requests place d).tag (none_at (λ r. r.tag == request.tag) requests free place d below));
      range = All-push (TagBelow import.flight) requests request sound.range (omega arith);
      objects = λ ost. all_pairs_push OtherObjects requests request (sound.objects ost)
          (λ place d below. none_at (λ r. same_object r.op request.op) requests (idle ost) place d below);
      kept = sound.kept;
    }
  where
    apart : (tag : ℕ) → (tag == request.tag) ≡ false → tag ≢ request.tag
    apart tag e = grind (arith, nat_tests)

    idle : 0 < import.target.0 → list_any (λ r. same_object r.op request.op) import.in_flight ≡ false
    idle ost = grind (arith, nat_tests)

-- a request of a number is in flight exactly where one is found
pub number_found : (number : ℕ) (requests : List InFlight) → has_number number requests ≡ is_some (request_of number requests)
number_found number [] = refl
number_found number (request ∷ requests) = by (request.xid.0 == number) (number_found number requests) where
  by : (here : Bool) → has_number number requests ≡ is_some (request_of number requests) → (here || has_number number requests)
      ≡ is_some (cond here (Some request) (request_of number requests))
  by true rest = refl
  by false rest = rest
