-- Runs of bytes that lie over what stands at positions: as the rows lay them, and as the theory does.
use Rattle.std.proofs.Common.{◌≡◌, ℕ, zero, suc, ◌+◌, Bool, true, false, List, [], ◌∷◌, Option, Some, None, refl, ap, subst, ◌∙◌, arith}
use Rattle.std.proofs.Common.{add-one}
use Rattle.std.specs.Prelude.{nat_eq, ◌&&◌, ◌||◌, not, take, if◌then◌else◌}
use Rattle.std.proofs.lemmas.Bool.Decides.{nat_tests}
use Rattle.lu_spec_bytes.specs.Runs.{run_from}
use Rattle.lu_spec_machine.specs.Places.{Places, found_at, RisingFrom}
use Rattle.lu_spec_machine.proofs.Places as places
use Rattle.lu_spec_machine.proofs.Places.{none_before}
use Rattle.lu_spec_entries.specs.declared.changes.Dirty.{Dirty}
use Rattle.lu_spec_client.specs.Patches.{fresh, sent, bytes_of}
use Rattle.lu_proof_bytes.specs.Object.Words.{overlay, within}
use Rattle.lu_proof_objects.specs.Points.{byte_of, is_flying}

pub same_place : (p at : ℕ) → nat_eq p at ≡ nat_eq at p
same_place p at = by (nat_eq at p) refl
  where
    by : (v : Bool) → nat_eq at p ≡ v → nat_eq p at ≡ v
    by true e = grind (arith, nat_tests)
    by false e = grind (arith, nat_tests)

-- bytes over a byte
pub run_is : (at : ℕ) (bs : List ℕ) (p : ℕ) (x : Option ℕ) → places.overlay at bs p x ≡ overlay at bs p x
run_is at [] p x = refl
run_is at (b ∷ bs) p x =
    ap (λ (v : Bool). if v then Some b else places.overlay (at + 1) bs p x) (same_place p at)
    ∙ ap (λ (y : Option ℕ). if nat_eq at p then Some b else y) (ap (λ (n : ℕ). places.overlay n bs p x) (add-one at)
    ∙ run_is (suc at) bs p x)

-- ---- marked bytes over a marked byte

pub fresh_byte : (at : ℕ) (bs : List ℕ) (p : ℕ) (x : Option Dirty) → byte_of (places.overlay at (fresh bs) p x)
    ≡ overlay at bs p (byte_of x)
fresh_byte at [] p x = refl
fresh_byte at (b ∷ bs) p x =
    ap (λ (v : Bool). byte_of (if v then Some (record { byte = b; flies = false }) else places.overlay (at + 1) (fresh bs) p x))
    (same_place p at)
    ∙ ap (λ (n : ℕ). byte_of (if nat_eq at p then Some (record { byte = b; flies = false }) else places.overlay n (fresh bs) p x))
    (add-one at)
    ∙ by (nat_eq at p) (fresh_byte (suc at) bs p x)
  where
    by : (v : Bool) → byte_of (places.overlay (suc at) (fresh bs) p x) ≡ overlay (suc at) bs p (byte_of x)
        → byte_of (if v then Some (record { byte = b; flies = false }) else places.overlay (suc at) (fresh bs) p x)
        ≡ (if v then Some b else overlay (suc at) bs p (byte_of x))
    by true ih = refl
    by false ih = ih

pub fresh_flying : (at : ℕ) (bs : List ℕ) (p : ℕ) (x : Option Dirty) → is_flying (places.overlay at (fresh bs) p x)
    ≡ (not (within at bs p) && is_flying x)
fresh_flying at [] p x = refl
fresh_flying at (b ∷ bs) p x =
    ap (λ (v : Bool). is_flying (if v then Some (record { byte = b; flies = false }) else places.overlay (at + 1) (fresh bs) p x))
    (same_place p at)
    ∙ ap (λ (n : ℕ). is_flying (if nat_eq at p then Some (record { byte = b; flies = false }) else places.overlay n (fresh bs) p x))
    (add-one at)
    ∙ by (nat_eq at p) (fresh_flying (suc at) bs p x)
  where
    by : (v : Bool) → is_flying (places.overlay (suc at) (fresh bs) p x) ≡ (not (within (suc at) bs p) && is_flying x)
        → is_flying (if v then Some (record { byte = b; flies = false }) else places.overlay (suc at) (fresh bs) p x)
        ≡ (not (v || within (suc at) bs p) && is_flying x)
    by true ih = refl
    by false ih = ih

pub sent_byte : (at : ℕ) (bs : List ℕ) (p : ℕ) (x : Option Dirty) → byte_of (places.overlay at (sent bs) p x) ≡ overlay at bs p (byte_of x)
sent_byte at [] p x = refl
sent_byte at (b ∷ bs) p x =
    ap (λ (v : Bool). byte_of (if v then Some (record { byte = b; flies = true }) else places.overlay (at + 1) (sent bs) p x))
    (same_place p at)
    ∙ ap (λ (n : ℕ). byte_of (if nat_eq at p then Some (record { byte = b; flies = true }) else places.overlay n (sent bs) p x))
    (add-one at)
    ∙ by (nat_eq at p) (sent_byte (suc at) bs p x)
  where
    by : (v : Bool) → byte_of (places.overlay (suc at) (sent bs) p x) ≡ overlay (suc at) bs p (byte_of x)
        → byte_of (if v then Some (record { byte = b; flies = true }) else places.overlay (suc at) (sent bs) p x)
        ≡ (if v then Some b else overlay (suc at) bs p (byte_of x))
    by true ih = refl
    by false ih = ih

pub sent_flying : (at : ℕ) (bs : List ℕ) (p : ℕ) (x : Option Dirty) → is_flying (places.overlay at (sent bs) p x)
    ≡ (within at bs p || is_flying x)
sent_flying at [] p x = refl
sent_flying at (b ∷ bs) p x =
    ap (λ (v : Bool). is_flying (if v then Some (record { byte = b; flies = true }) else places.overlay (at + 1) (sent bs) p x))
    (same_place p at)
    ∙ ap (λ (n : ℕ). is_flying (if nat_eq at p then Some (record { byte = b; flies = true }) else places.overlay n (sent bs) p x))
    (add-one at)
    ∙ by (nat_eq at p) (sent_flying (suc at) bs p x)
  where
    by : (v : Bool) → is_flying (places.overlay (suc at) (sent bs) p x) ≡ (within (suc at) bs p || is_flying x)
        → is_flying (if v then Some (record { byte = b; flies = true }) else places.overlay (suc at) (sent bs) p x)
        ≡ ((v || within (suc at) bs p) || is_flying x)
    by true ih = refl
    by false ih = ih

-- ---- the bytes of a run that stands there

pub run_found : (k at p b : ℕ) (m : Places Dirty) → RisingFrom at m → overlay at (bytes_of (take k (run_from at m))) p None ≡ Some b
    → byte_of (found_at m p) ≡ Some b
run_found zero at p b m h e = absurd (cc)
run_found (suc k) at p b [] h e = absurd (cc)
run_found (suc k) at p b (x ∷ m) h e = by (nat_eq x.0 at) refl (λ next i. run_found k (at + 1) p b m next i) e
  where
    rest : List Dirty
    rest = take k (run_from (at + 1) m)

    Rest : Type 0
    Rest = RisingFrom (at + 1) m → overlay (at + 1) (bytes_of rest) p None ≡ Some b → byte_of (found_at m p) ≡ Some b

    more : x.0 ≡ at → Rest → (v : Bool) → nat_eq at p ≡ v → (if v then Some x.1.byte else overlay (suc at) (bytes_of rest) p None) ≡ Some b
        → byte_of (found_at (x ∷ m) p) ≡ Some b
    more is ih true here e = let same : nat_eq p x.0 ≡ true = grind (arith, nat_tests) in rw same e
    more is ih false here e =
        let other : nat_eq p x.0 ≡ false = grind (arith, nat_tests) in
        let next : RisingFrom (at + 1) m = subst (λ (n : ℕ). RisingFrom (n + 1) m) is h.1 in
        rw other (ih next (ap (λ (n : ℕ). overlay n (bytes_of rest) p None) (add-one at) ∙ e))

    by : (v : Bool) → nat_eq x.0 at ≡ v → Rest → overlay at (bytes_of (take (suc k) (if v then x.1 ∷ run_from (at + 1) m else []))) p None
        ≡ Some b → byte_of (found_at (x ∷ m) p) ≡ Some b
    by true is ih e = more (grind (arith, nat_tests)) ih (nat_eq at p) refl e
    by false is ih e = absurd (cc)
