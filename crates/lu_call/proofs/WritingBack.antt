-- The stripe at which a flush stands, and what it does there.
use Rattle.std.proofs.Common.{◌≡◌, ℕ, zero, suc, ◌+◌, ◌<◌, ◌≤◌, ◌&&◌, not, Bool, true, false, List, [], ◌∷◌, length, drop, None, refl, sym}
use Rattle.std.proofs.Common.{ap, subst, ◌∙◌, arith}
use Rattle.std.specs.Prelude.{if◌then◌else◌}
use Rattle.std.specs.List.{range_with_len}
use Rattle.std.proofs.lemmas.List.{drop_all}
use Rattle.std.proofs.lemmas.List.FromFn.{length-range_with_len}
use Rattle.lu_base.specs.declared.ids.At.{At}
use Rattle.lu_layout.specs.Raid0.{Raid0}
use Rattle.lu_spec_entries.specs.Carried.{HandleFile, Flushing, Running}
use Rattle.lu_spec_entries.specs.Words.{Entry, Stands}
use Rattle.lu_spec_client.specs.States.{Store}
use Rattle.lu_spec_client.specs.Caches.{patch_at}
use Rattle.lu_spec_client.specs.Patches.{in_flight}
use Rattle.lu_spec_client.specs.Stripes.{stripes, object}
use Rattle.lu_spec_client.specs.Advances.{at_stage}
use Rattle.lu_spec_client.specs.WriteBack.{is_clean, flush_from}
use Rattle.lu_call.specs.Flushed.{is_written, flush_object, flush_stripe, flush_at}

-- ---- stripe by stripe

next_number : (a n k : ℕ) → k < n → drop k (range_with_len a n) ≡ (a + k) ∷ drop (suc k) (range_with_len a n)
next_number a zero k less = absurd (omega (arith, less))
next_number a (suc n) zero less = let here : a ≡ a + 0 = omega arith in ap (λ (i : ℕ). i ∷ range_with_len (a + 1) n) here
next_number a (suc n) (suc k) less =
    let here : a + 1 + k ≡ a + suc k = omega arith in
    next_number (a + 1) n k (omega (arith, less)) ∙ ap (λ (i : ℕ). i ∷ drop (suc k) (range_with_len (a + 1) n)) here

next_stripe : (l : Raid0) (i : ℕ) → i < length l.targets → drop i (stripes l) ≡ i ∷ drop (i + 1) (stripes l)
next_stripe l i less =
    let here : 0 + i ≡ i = omega arith in
    let next : suc i ≡ i + 1 = omega arith in
    next_number 0 (length l.targets) i less
    ∙ ap (λ (j : ℕ). j ∷ drop (suc i) (stripes l)) here
    ∙ ap (λ (k : ℕ). i ∷ drop k (stripes l)) next

last_stripe : (l : Raid0) (i : ℕ) → length l.targets ≤ i → drop i (stripes l) ≡ []
last_stripe l i past =
    drop_all i (stripes l) (subst (λ (n : ℕ). n ≤ i) (sym (length-range_with_len 0 (length l.targets))) past)

-- a stripe that is done is passed over
pub flush_past : (at : At) (slot : ℕ) (r : Running) (f : HandleFile) (s : Store) (i : ℕ) → i < length f.layout.targets
    → is_written (patch_at (object f.fid i) s.patches) ≡ true → flush_from at slot r f (drop i (stripes f.layout)) s
    ≡ flush_from at slot r f (drop (i + 1) (stripes f.layout)) s
flush_past at slot r f s i less done =
    ap (λ (is : List ℕ). flush_from at slot r f is s) (next_stripe f.layout i less)
    ∙ by (in_flight (patch_at (object f.fid i) s.patches)) (is_clean (patch_at (object f.fid i) s.patches)) done
  where
    rest : List Entry
    rest = flush_from at slot r f (drop (i + 1) (stripes f.layout)) s

    waits : List Entry
    waits = Stands slot (at_stage r (Flushing i)) ∷ []

    by : (flies clean : Bool) → (not flies && clean) ≡ true → (if flies then waits else if clean then rest else flush_object slot r f i s)
        ≡ rest
    by true clean done = absurd (cc)
    by false true done = refl
    by false false done = absurd (cc)

-- it stands at the first that isn't
pub flush_here : (at : At) (slot : ℕ) (r : Running) (f : HandleFile) (s : Store) (i : ℕ) → i < length f.layout.targets
    → is_written (patch_at (object f.fid i) s.patches) ≡ false → flush_from at slot r f (drop i (stripes f.layout)) s
    ≡ flush_stripe slot r f i s
flush_here at slot r f s i less done =
    ap (λ (is : List ℕ). flush_from at slot r f is s) (next_stripe f.layout i less)
    ∙ by (in_flight (patch_at (object f.fid i) s.patches)) (is_clean (patch_at (object f.fid i) s.patches)) done
  where
    rest : List Entry
    rest = flush_from at slot r f (drop (i + 1) (stripes f.layout)) s

    waits : List Entry
    waits = Stands slot (at_stage r (Flushing i)) ∷ []

    by : (flies clean : Bool) → (not flies && clean) ≡ false → (if flies then waits else if clean then rest else flush_object slot r f i s)
        ≡ (if flies then waits else flush_object slot r f i s)
    by true clean done = refl
    by false true done = absurd (cc)
    by false false done = refl

-- all are done
pub flush_done : (at : At) (slot : ℕ) (r : Running) (f : HandleFile) (s : Store) (i : ℕ) → length f.layout.targets ≤ i
    → flush_from at slot r f (drop i (stripes f.layout)) s ≡ flush_at at slot r f None s
flush_done at slot r f s i past = ap (λ (is : List ℕ). flush_from at slot r f is s) (last_stripe f.layout i past)
