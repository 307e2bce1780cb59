-- What is read of one page, and of one page after the other.
use Rattle.std.proofs.Common.{◌≡◌, ℕ, zero, suc, ◌+◌, ◌*◌, ◌<◌, ◌≤◌, Bool, true, false, List, [], ◌∷◌, ◌++◌, Option, Some, None, refl, sym}
use Rattle.std.proofs.Common.{ap, ◌∙◌, arith}
use Rattle.std.specs.Prelude.{if◌then◌else◌}
use Rattle.lu_base.specs.declared.locks.Extent.{Extent}
use Rattle.lu_spec_machine.specs.Places.{Places, found_at, is_in, inside}
use Rattle.lu_spec_machine.proofs.Places.{found_inside}
use Rattle.lu_spec_bytes.specs.Runs.{run_with, run_at, found_run}
use Rattle.lu_page.specs.Sheets.{Sheet}
use Rattle.lu_page.specs.Pages.{joined, PagesFrom}
use Rattle.lu_page.proofs.Joined.{found_joined, page_found}
use Rattle.lu_page.proofs.Seen.{page_items, items_found}

-- ---- two maps with the same at so many positions

found_alike : {A : Type 0} (k p : ℕ) (a b : Places A) → ((q : ℕ) → p ≤ q → q < p + k → found_at a q ≡ found_at b q) → found_run k a p
    ≡ found_run k b p
found_alike zero p a b same = refl
found_alike (suc k) p a b same =
    ap (λ o. o ∷ found_run k a (p + 1)) (same p (omega arith) (omega arith))
    ∙ ap (λ r. found_at b p ∷ r) (found_alike k (p + 1) a b (λ q low high. same q (omega (arith, low)) (omega (arith, high))))

run_alike : {A : Type 0} (k p : ℕ) (a b : Places A) → ((q : ℕ) → p ≤ q → q < p + k → found_at a q ≡ found_at b q) → run_at k a p
    ≡ run_at k b p
run_alike zero p a b same = refl
run_alike (suc k) p a b same =
    ap (λ o. run_with o (run_at k a (p + 1))) (same p (omega arith) (omega arith))
    ∙ ap (λ r. run_with (found_at b p) r) (run_alike k (p + 1) a b (λ q low high. same q (omega (arith, low)) (omega (arith, high))))

-- ---- one page

page_there : {A : Type 0} (k q : ℕ) (o : Option (Sheet A)) (es : Places (Sheet A)) → PagesFrom 0 es → found_at es k ≡ o → k * 4096 ≤ q
    → q < (k + 1) * 4096 → found_at (page_items o) q ≡ found_at (joined es) q
page_there k q o es h is low high = sym (found_joined 0 k q es h low high ∙ ap (λ o. page_found o q) is ∙ items_found o q)

pub page_read : {A : Type 0} (k p count : ℕ) (o : Option (Sheet A)) (es : Places (Sheet A)) → PagesFrom 0 es → found_at es k ≡ o
    → k * 4096 ≤ p → p + count ≤ (k + 1) * 4096 → found_run count (page_items o) p ≡ found_run count (joined es) p
page_read k p count o es h is low high = found_alike count p (page_items o) (joined es)
    (λ q over under. page_there k q o es h is (omega (arith, low, over)) (omega (arith, high, under)))

pub page_run : {A : Type 0} (extent : Extent) (k p count : ℕ) (o : Option (Sheet A)) (es : Places (Sheet A)) → PagesFrom 0 es
    → found_at es k ≡ o → k * 4096 ≤ p → p + count ≤ (k + 1) * 4096 → run_at count (inside extent (page_items o)) p
    ≡ run_at count (inside extent (joined es)) p
page_run extent k p count o es h is low high =
    run_alike count p (inside extent (page_items o)) (inside extent (joined es))
    (λ q over under.
    found_inside extent (page_items o) q
    ∙ ap (λ x. if is_in extent q then x else None) (page_there k q o es h is (omega (arith, low, over)) (omega (arith, high, under)))
    ∙ sym (found_inside extent (joined es) q))

-- ---- one part behind another

pub found_two : {A : Type 0} (j k p : ℕ) (m : Places A) → found_run (j + k) m p ≡ found_run j m p ++ found_run k m (p + j)
found_two zero k p m =
    let none : zero + k ≡ k = omega arith in
    let same : p ≡ p + 0 = omega arith in
    ap (λ n. found_run n m p) none ∙ ap (found_run k m) same
found_two (suc j) k p m =
    let more : suc j + k ≡ suc (j + k) = omega arith in
    let there : p + 1 + j ≡ p + suc j = omega arith in
    ap (λ n. found_run n m p) more ∙ ap (λ r. found_at m p ∷ r) (found_two j k (p + 1) m)
    ∙ ap (λ q. found_at m p ∷ (found_run j m (p + 1) ++ found_run k m q)) there
