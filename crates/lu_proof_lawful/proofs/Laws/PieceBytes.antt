-- Which byte of a write an offset of an object's stripe has, and where a cut ends the stripe.
use Rattle.std.proofs.Common.{◌≡◌, ℕ, suc, ◌+◌, ◌-◌, ◌<◌, ◌≤◌, Bool, true, false, List, [], ◌∷◌, Option, Some, None, length, refl, sym}
use Rattle.std.proofs.Common.{subst, ap, ◌∙◌, arith, add-one}
use Rattle.std.specs.Prelude.{nat_eq, nat_le, ◌==◌, if◌then◌else◌, slice_get}
use Rattle.std.proofs.lemmas.Bool.{eqb-true, eq-eqb, and_from}
use Rattle.std.proofs.lemmas.Bool.Decides.{nat_tests}
use Rattle.lu_layout.specs.Raid0.{Raid0, stripe_of, offset_of, position_of, below_of}
use Rattle.lu_layout.specs.Sound.{IsLayout}
use Rattle.lu_layout.proofs.Below.{IsCount-is, at_reached}
use Rattle.lu_layout.proofs.Places.{position_of-place}
use Rattle.lu_msg.specs.declared.calls.Call.TheVariants as call
use Rattle.lu_spec_client.specs.Stripes.{below_on, bytes_on}
use Rattle.lu_proof_objects.proofs.Pieces.{below_is}
use Rattle.lu_proof_bytes.specs.Object.Words.{overlay}
use Rattle.lu_spec_laws.specs.Words.Pieces.{is_byte, wrote, cuts_to}

below_step : (l : Raid0) (i n : ℕ) → below_of l i (suc n) ≡ below_of l i n + (if stripe_of l n == i then 1 else 0)
unfolding below_of
below_step l i n = refl

-- the bytes of a write from a position on have this one there
abbrev BytesThere : ℕ → List ℕ → ℕ → ℕ → Type 0
BytesThere p bs pos b = (p ≤ pos) × (slice_get bs (pos - p) ≡ Some b)

byte_later : (p : ℕ) (c : ℕ) (bs : List ℕ) (pos b : ℕ) → BytesThere (p + 1) bs pos b → BytesThere p (c ∷ bs) pos b
byte_later p c bs pos b h =
    let le = h.0 in
    let less : pos - p ≡ suc (pos - (p + 1)) = omega (arith, le) in
    (omega (arith, le), ap (slice_get (c ∷ bs)) less ∙ h.1)

bytes_there : (l : Raid0) (i p : ℕ) (bs : List ℕ) (q b : ℕ) → IsLayout l → i < length l.targets
    → overlay (below_of l i p) (bytes_on l i p bs) q None ≡ Some b → BytesThere p bs (position_of l i q) b
bytes_there l i p [] q b good here e = absurd (cc)
bytes_there l i p (c ∷ bs) q b good here e = by (stripe_of l p == i) refl e (bytes_there l i (p + 1) bs q b good here)
  where
    next : below_of l i (p + 1) ≡ below_of l i (suc p)
    next = ap (below_of l i) (add-one p)

    by : (v : Bool) → (stripe_of l p == i) ≡ v → overlay (below_of l i p)
        (if v then c ∷ bytes_on l i (p + 1) bs else bytes_on l i (p + 1) bs) q None ≡ Some b
        → (overlay (below_of l i (p + 1)) (bytes_on l i (p + 1) bs) q None ≡ Some b → BytesThere (p + 1) bs (position_of l i q) b)
        → BytesThere p (c ∷ bs) (position_of l i q) b
    by false s e ih =
        let same : below_of l i (p + 1) ≡ below_of l i p = next ∙ below_step l i p
        ∙ ap (λ (v : Bool). below_of l i p + (if v then 1 else 0)) s ∙ omega arith in
        byte_later p c bs (position_of l i q) b (ih (ap (λ (n : ℕ). overlay n (bytes_on l i (p + 1) bs) q None) same ∙ e))
    by true s e ih = first (nat_eq (below_of l i p) q) refl e
      where
        stripe : stripe_of l p ≡ i
        stripe = eqb-true (stripe_of l p) i s

        at : offset_of l p ≡ below_of l i p
        at = IsCount-is l i p (offset_of l p) good here (at_reached l i p (stripe_of l p) (offset_of l p) good refl refl (sym stripe))

        more : below_of l i (p + 1) ≡ suc (below_of l i p)
        more = next ∙ below_step l i p ∙ ap (λ (v : Bool). below_of l i p + (if v then 1 else 0)) s ∙ add-one (below_of l i p)

        first : (v : Bool) → nat_eq (below_of l i p) q ≡ v → (if v then Some c
            else overlay (suc (below_of l i p)) (bytes_on l i (p + 1) bs) q None) ≡ Some b → BytesThere p (c ∷ bs) (position_of l i q) b
        first true t f =
            let pos : position_of l i q ≡ p = ap (position_of l i) (sym (eqb-true (below_of l i p) q t) ∙ sym at)
            ∙ ap (λ (j : ℕ). position_of l j (offset_of l p)) (sym stripe) ∙ position_of-place l p good in
            let zero : position_of l i q - p ≡ 0 = omega (arith, pos) in
            (omega (arith, pos), ap (slice_get (c ∷ bs)) zero ∙ f)
        first false t f = byte_later p c bs (position_of l i q) b (ih (ap (λ (n : ℕ). overlay n (bytes_on l i (p + 1) bs) q None) more ∙ f))

-- what a write puts to a stripe it wrote at those positions
pub wrote_there : (l : Raid0) (i h p : ℕ) (bs : List ℕ) (q b : ℕ) → IsLayout l → i < length l.targets
    → overlay (below_on l i p) (bytes_on l i p bs) q None ≡ Some b → wrote (position_of l i q) b (call.Write h p bs) ≡ true
wrote_there l i h p bs q b good here e =
    let t = bytes_there l i p bs q b good here (ap (λ (n : ℕ). overlay n (bytes_on l i p bs) q None) (below_is l i p good here) ∙ e) in
    let low = t.0 in
    and_from (nat_le p (position_of l i q)) _ (grind (arith, nat_tests, low))
    (subst (λ (o : Option ℕ). is_byte b o ≡ true) (sym t.1) (eq-eqb b b refl))

-- where a cut ends it
pub cuts_there : (l : Raid0) (i h size n : ℕ) → IsLayout l → i < length l.targets → n ≡ below_on l i size → cuts_to l i n (call.Cut h size)
    ≡ true
cuts_there l i h size n good here e = eq-eqb (below_of l i size) n (below_is l i size good here ∙ sym e)
