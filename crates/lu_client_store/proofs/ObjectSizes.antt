-- One turn of the search for the lock in use on a stripe, and of the loop over the stripes' sizes.
use Rattle.std.proofs.Common.{◌≡◌, ℕ, ◌+◌, ◌<◌, ◌≤◌, List, [], ◌∷◌, ◌++◌, length, take, drop, get_or, true, false, sym, ap, subst, ◌∙◌}
use Rattle.std.proofs.Common.{arith}
use Rattle.std.specs.Prelude.{nat_eq, if◌then◌else◌, map, All}
use Rattle.std.specs.List.{range_with_len}
use Rattle.std.proofs.Math.ListN.{set, length-set}
use Rattle.std.proofs.lemmas.List.{take_more_set}
use Rattle.std.proofs.lemmas.List.FromFn.{map-range_with_len_more}
use Rattle.std.proofs.lemmas.Bool.Decides.{nat_tests}
use Rattle.std.proofs.lemmas.List.Elements.{All-push}
use Rattle.lu_spec_entries.specs.declared.uses.Using.{Using}
use Rattle.lu_spec_client.specs.States.{Store}
use Rattle.lu_spec_client.specs.Looks.{size_under, size_on}
use Rattle.lu_client_store.proofs.Rests.{dropped}

pub size_later : (i : ℕ) (s : Store) (used : List Using) (k : ℕ) (d : Using) → k < length used
    → ((get_or used k d).want.resource.stripe ≡ i → ⊥) → size_on i (drop k used) s ≡ size_on i (drop (k + 1) used) s
size_later i s used k d less other =
    let test : nat_eq (get_or used k d).want.resource.stripe i ≡ false = grind (arith, nat_tests, other) in
    ap (λ us. size_on i us s) (dropped used k d less)
    ∙ ap (λ v. if v then size_under (get_or used k d).lock s else size_on i (drop (k + 1) used) s) test

pub size_here : (i : ℕ) (s : Store) (used : List Using) (k : ℕ) (d : Using) → k < length used → (get_or used k d).want.resource.stripe ≡ i
    → size_on i (drop k used) s ≡ size_under (get_or used k d).lock s
size_here i s used k d less here =
    let test : nat_eq (get_or used k d).want.resource.stripe i ≡ true = grind (arith, nat_tests, here) in
    ap (λ us. size_on i us s) (dropped used k d less)
    ∙ ap (λ v. if v then size_under (get_or used k d).lock s else size_on i (drop (k + 1) used) s) test

-- ---- one after another

pub count_stays : (xs : List ℕ) (k v : ℕ) → length (set xs k v) ≡ length xs
count_stays xs k v = length-set xs k v

pub sizes_more : (f : ℕ → ℕ) (xs : List ℕ) (k v : ℕ) → k < length xs → v ≡ f k → take k xs ≡ map f (range_with_len 0 k)
    → take (k + 1) (set xs k v) ≡ map f (range_with_len 0 (k + 1))
sizes_more f xs k v less is before =
    take_more_set xs k v less
    ∙ ap (λ (ys : List ℕ). ys ++ v ∷ []) before
    ∙ ap (λ (y : ℕ). map f (range_with_len 0 k) ++ y ∷ []) is
    ∙ sym (map-range_with_len_more f 0 k k (omega arith))

pub short_more : (n : ℕ) (xs : List ℕ) (k v : ℕ) → k < length xs → v ≤ n → All (λ (x : ℕ). x ≤ n) (take k xs)
    → All (λ (x : ℕ). x ≤ n) (take (k + 1) (set xs k v))
short_more n xs k v less short before =
    subst (λ (ys : List ℕ). All (λ (x : ℕ). x ≤ n) ys) (sym (take_more_set xs k v less))
    (All-push (λ (x : ℕ). x ≤ n) (take k xs) v before short)
