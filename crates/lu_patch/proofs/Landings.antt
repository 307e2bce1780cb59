-- What an answer leaves of the dirty bytes.
use Rattle.std.proofs.Common.{◌≡◌, ℕ, zero, suc, ◌+◌, ◌-◌, ◌<◌, ◌≤◌, Bool, true, false, cond, List, [], ◌∷◌, ◌++◌, length, Option, Some}
use Rattle.std.proofs.Common.{None, refl, sym, ap, subst, ◌∙◌, arith}
use Rattle.std.specs.Prelude.{nat_eq, nat_lt, nat_le, map, filter, not, slice_index, if◌then◌else◌}
use Rattle.std.proofs.lemmas.Bool.{eq-eqb}
use Rattle.std.proofs.lemmas.Bool.Decides.{nat_tests}
use Rattle.std.proofs.lemmas.List.{length-map}
use Rattle.std.proofs.lemmas.List.Elements.{filter-append}
use Rattle.lu_spec_entries.specs.declared.changes.Dirty.{Dirty}
use Rattle.lu_spec_machine.specs.Places.{Places, found_at, RisingFrom, below, from, placed, laid}
use Rattle.lu_spec_machine.proofs.Places.{overlay, found_laid, none_before}
use Rattle.lu_spec_client.specs.Patches.{Patch, fresh, sent, landed}
use Rattle.lu_patch.specs.Sound.{NoneFlies, FliesUnder, IsAtRest}
use Rattle.lu_patch.proofs.Maps.{around}

-- ---- at a position

abbrev pub at_rest : Option Dirty → Option Dirty
at_rest None = None
at_rest (Some d) = if not d.flies then Some d else None

pub found_landed : (n : ℕ) (m : Places Dirty) (q : ℕ) → RisingFrom n m → found_at (landed m) q ≡ at_rest (found_at m q)
found_landed n [] q h = refl
found_landed n (e ∷ m) q h = by (nat_eq q e.0) (not e.1.flies) refl refl (found_landed (e.0 + 1) m q h.1)
  where
    by : (v w : Bool) → nat_eq q e.0 ≡ v → not e.1.flies ≡ w → found_at (landed m) q ≡ at_rest (found_at m q)
        → found_at (cond w (e ∷ landed m) (landed m)) q ≡ at_rest (if v then Some e.1 else found_at m q)
    by true true here rest ih = rw (here, rest) refl
    by true false here flies ih =
        let gone : found_at m q ≡ None = none_before (e.0 + 1) q m h.1 (grind (arith, nat_tests)) in
        rw flies (ih ∙ ap at_rest gone)
    by false true here rest ih = rw here ih
    by false false here flies ih = ih

pub fresh_at : (at : ℕ) (bs : List ℕ) (k : ℕ) (x : Option Dirty) → k < length bs → overlay at (fresh bs) (at + k) x
    ≡ Some (record { byte = slice_index bs k; flies = false })
fresh_at at [] k x less = absurd (omega (arith, less))
fresh_at at (b ∷ bs) zero x less = let test : nat_eq (at + 0) at ≡ true = eq-eqb (at + 0) at (omega arith) in rw test refl
fresh_at at (b ∷ bs) (suc k) x less =
    let test : nat_eq (at + suc k) at ≡ false = grind (arith, nat_tests) in
    let moved : at + suc k ≡ at + 1 + k = omega arith in
    rw test (ap (λ q. overlay (at + 1) (fresh bs) q x) moved ∙ fresh_at (at + 1) bs k x (omega (arith, less)))

pub sent_at : (at : ℕ) (bs : List ℕ) (k : ℕ) (x : Option Dirty) → k < length bs → overlay at (sent bs) (at + k) x
    ≡ Some (record { byte = slice_index bs k; flies = true })
sent_at at [] k x less = absurd (omega (arith, less))
sent_at at (b ∷ bs) zero x less = let test : nat_eq (at + 0) at ≡ true = eq-eqb (at + 0) at (omega arith) in rw test refl
sent_at at (b ∷ bs) (suc k) x less =
    let test : nat_eq (at + suc k) at ≡ false = grind (arith, nat_tests) in
    let moved : at + suc k ≡ at + 1 + k = omega arith in
    rw test (ap (λ q. overlay (at + 1) (sent bs) q x) moved ∙ sent_at (at + 1) bs k x (omega (arith, less)))

-- ---- as lists

pub none_flies : (p : Patch) → IsAtRest p → NoneFlies p.dirty
none_flies p rest = subst (λ f. FliesUnder f p.dirty) rest.0 rest.1.flies

pub none_flies_landed : (m : Places Dirty) → NoneFlies (landed m)
none_flies_landed [] = tt
none_flies_landed (e ∷ m) = by e.1.flies refl (none_flies_landed m)
  where
    by : (v : Bool) → e.1.flies ≡ v → NoneFlies (landed m) → NoneFlies (cond (not v) (e ∷ landed m) (landed m))
    by true flies ih = ih
    by false rest ih = (rest, ih)

pub landed_rest : (m : Places Dirty) → NoneFlies m → landed m ≡ m
landed_rest [] h = refl
landed_rest (e ∷ m) h = by e.1.flies h.0 (landed_rest m h.1)
  where
    by : (v : Bool) → v ≡ false → landed m ≡ m → cond (not v) (e ∷ landed m) (landed m) ≡ e ∷ m
    by true flies ih = absurd (cc (flies))
    by false rests ih = ap (λ r. e ∷ r) ih

pub none_flies_filter : (test : ℕ × Dirty → Bool) (m : Places Dirty) → NoneFlies m → NoneFlies (filter test m)
none_flies_filter test [] h = tt
none_flies_filter test (e ∷ m) h = by (test e) (none_flies_filter test m h.1)
  where
    by : (v : Bool) → NoneFlies (filter test m) → NoneFlies (cond v (e ∷ filter test m) (filter test m))
    by true ih = (h.0, ih)
    by false ih = ih

landed_sent : (at : ℕ) (bs : List ℕ) → landed (placed at (sent bs)) ≡ []
landed_sent at [] = refl
landed_sent at (b ∷ bs) = landed_sent (at + 1) bs

-- where nothing flew before, a run that is sent and lands leaves what stands round it
pub landed_run : (at : ℕ) (bs : List ℕ) (m : Places Dirty) → NoneFlies m → landed (laid at (sent bs) m) ≡ around at (length bs) m
landed_run at bs m rest =
    filter-append (λ (e : ℕ × Dirty). not e.1.flies) (below at m) (placed at (sent bs) ++ from (at + length (sent bs)) m)
    ∙ ap (λ r. landed (below at m) ++ r) (filter-append (λ (e : ℕ × Dirty). not e.1.flies) (placed at (sent bs))
    (from (at + length (sent bs)) m))
    ∙ ap (λ r. landed (below at m) ++ (r ++ landed (from (at + length (sent bs)) m))) (landed_sent at bs)
    ∙ ap (λ r. r ++ landed (from (at + length (sent bs)) m)) (landed_rest (below at m)
    (none_flies_filter (λ (e : ℕ × Dirty). nat_lt e.0 at) m rest))
    ∙ ap (λ r. below at m ++ r) (landed_rest (from (at + length (sent bs)) m)
    (none_flies_filter (λ (e : ℕ × Dirty). nat_le (at + length (sent bs)) e.0) m rest))
    ∙ ap (λ n. below at m ++ from (at + n) m) (length-map bs (λ b. record { byte = b; flies = true }))
