-- What is seen through a patch, position by position, and its size.
use Rattle.std.proofs.Common.{◌≡◌, ◌≢◌, ℕ, zero, suc, ◌+◌, ◌-◌, ◌<◌, ◌≤◌, ◌⊎◌, inl, inr, Bool, true, false, List, [], ◌∷◌, Option, Some}
use Rattle.std.proofs.Common.{None, refl, sym, ap, subst, ◌∙◌, arith}
use Rattle.std.specs.Prelude.{nat_eq, nat_lt, max, if◌then◌else◌, IfSome}
use Rattle.std.specs.Option.{unwrap_or}
use Rattle.std.proofs.lemmas.Bool.Decides.{nat_tests}
use Rattle.lu_spec_entries.specs.declared.changes.Dirty.{Dirty}
use Rattle.lu_spec_machine.specs.Places.{Places, found_at, RisingFrom, end_of}
use Rattle.lu_spec_machine.specs.Objects.{Object, put_bytes, cut_bytes, object_size}
use Rattle.lu_spec_machine.proofs.Places.{or_else, found_laid}
use Rattle.lu_spec_machine.proofs.Objects.{object_puts, object_cuts}
use Rattle.lu_spec_client.specs.Patches.{Patch, base, cut_at, over_at, reads_at, size_over}
use Rattle.lu_patch.specs.Seen.{cut_by, put_on, seen}
use Rattle.lu_patch.specs.SeenLaws.{byte_of, ReadsWhatIsSeen, ReadsWhatIsKnown, SizeIsSeen}
use Rattle.lu_patch.proofs.Maps.{end_laid}

abbrev pub byte_in : Option Dirty → Option ℕ
byte_in None = None
byte_in (Some d) = Some d.byte

pub found_put_on : (m : Places Dirty) (object : Object) (q : ℕ) → found_at (put_on m object) q
    ≡ or_else (byte_in (found_at m q)) (found_at object q)
found_put_on [] object q = refl
found_put_on (e ∷ m) object q = found_laid e.0 (e.1.byte ∷ []) (put_on m object) q ∙ by (nat_eq q e.0) (found_put_on m object q)
  where
    by : (v : Bool) → found_at (put_on m object) q ≡ or_else (byte_in (found_at m q)) (found_at object q)
        → (if v then Some e.1.byte else found_at (put_on m object) q)
        ≡ or_else (byte_in (if v then Some e.1 else found_at m q)) (found_at object q)
    by true ih = refl
    by false ih = ih

pub rising_put_on : (m : Places Dirty) (object : Object) → RisingFrom 0 object → RisingFrom 0 (put_on m object)
rising_put_on [] object h = h
rising_put_on (e ∷ m) object h = (object_puts e.0 (e.1.byte ∷ []) (put_on m object)).rises (rising_put_on m object h)

pub rising_cut_by : (pending : Option ℕ) (object : Object) → RisingFrom 0 object → RisingFrom 0 (cut_by pending object)
rising_cut_by None object h = h
rising_cut_by (Some n) object h = (object_cuts n object).rises h

pub rising_seen : (p : Patch) (object : Object) → RisingFrom 0 object → RisingFrom 0 (seen p object)
rising_seen p object h = rising_put_on p.dirty (cut_by p.pending object) (rising_cut_by p.pending object h)

-- ---- reads

-- a cut leaves what is read below it
cut_reads : (n q : ℕ) (object : Object) → q < n → byte_of (cut_bytes n object) q ≡ byte_of object q
cut_reads n q object less = by (nat_lt (q + 1) n) (found_at object q) refl refl
  where
    by : (v : Bool) (x : Option ℕ) → nat_lt (q + 1) n ≡ v → found_at object q ≡ x → byte_of (cut_bytes n object) q ≡ byte_of object q
    by true x far is = ap (λ y. unwrap_or y 0) ((object_cuts n object).leaves q (grind (arith, nat_tests)))
    by false None far is = ap (λ y. unwrap_or y 0) ((object_cuts n object).zero q (grind (arith, nat_tests, less)) is)
        ∙ sym (ap (λ y. unwrap_or y 0) is)
    by false (Some b) far is = ap (λ y. unwrap_or y 0) ((object_cuts n object).keeps q b less is) ∙ sym (ap (λ y. unwrap_or y 0) is)

cut_reads_at : (pending : Option ℕ) (object : Object) (q : ℕ) (known : Option ℕ)
    → IfSome known (λ b. b ≡ byte_of object q) → IfSome (cut_at pending q known) (λ b. b ≡ byte_of (cut_by pending object) q)
cut_reads_at None object q known h = h
cut_reads_at (Some n) object q known h = by (nat_lt q n) known refl h
  where
    by : (v : Bool) (known : Option ℕ) → nat_lt q n ≡ v → IfSome known (λ b. b ≡ byte_of object q)
        → IfSome (if v then known else Some 0) (λ b. b ≡ byte_of (cut_bytes n object) q)
    by true None less h = h
    by true (Some b) less h = h ∙ sym (cut_reads n q object (grind (arith, nat_tests)))
    by false known less h = sym (ap (λ y. unwrap_or y 0) ((object_cuts n object).drops q (grind (arith, nat_tests))))

pub reads_what_is_seen : ReadsWhatIsSeen
reads_what_is_seen p object q known h = by (found_at p.dirty q) refl
  where
    is : byte_of (seen p object) q ≡ unwrap_or (or_else (byte_in (found_at p.dirty q)) (found_at (cut_by p.pending object) q)) 0
    is = ap (λ y. unwrap_or y 0) (found_put_on p.dirty (cut_by p.pending object) q)

    by : (x : Option Dirty) → found_at p.dirty q ≡ x → IfSome (over_at x p.pending q known) (λ b. b ≡ byte_of (seen p object) q)
    by (Some d) e = sym (is ∙ ap (λ y. unwrap_or (or_else (byte_in y) (found_at (cut_by p.pending object) q)) 0) e)
    by None e =
        subst (λ (c : ℕ). IfSome (cut_at p.pending q known) (λ b. b ≡ c))
        (sym (is ∙ ap (λ y. unwrap_or (or_else (byte_in y) (found_at (cut_by p.pending object) q)) 0) e))
        (cut_reads_at p.pending object q known h)

pub reads_what_is_known : ReadsWhatIsKnown
reads_what_is_known p q b = by (found_at p.dirty q) p.pending
  where
    cut : (n : ℕ) (v : Bool) → (if v then Some b else Some 0) ≢ None
    cut n true e = absurd (cc)
    cut n false e = absurd (cc)

    by : (x : Option Dirty) (pending : Option ℕ) → over_at x pending q (Some b) ≢ None
    by (Some d) pending e = absurd (cc)
    by None None e = absurd (cc)
    by None (Some n) e = cut n (nat_lt q n) e

-- ---- the size

end_put_on : (m : Places Dirty) (object : Object) → end_of (put_on m object) ≡ max (end_of object) (end_of m)
end_put_on [] object = omega arith
end_put_on (e ∷ m) object =
    let ih : end_of (put_on m object) ≡ max (end_of object) (end_of m) = end_put_on m object in
    let is : end_of (put_on (e ∷ m) object) ≡ max (e.0 + 1) (end_of (put_on m object)) = end_laid e.0 e.1.byte (put_on m object) in
    omega (arith, ih, is)

end_cut_by : (pending : Option ℕ) (object : Object) → base pending (object_size object) ≡ object_size (cut_by pending object)
end_cut_by None object = refl
end_cut_by (Some n) object = sym ((object_cuts n object).size)

pub size_is_seen : SizeIsSeen
size_is_seen p object = ap (λ n. max n (end_of p.dirty)) (end_cut_by p.pending object) ∙ sym (end_put_on p.dirty (cut_by p.pending object))
