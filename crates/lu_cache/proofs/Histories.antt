-- What is known after a history is what the history tells.
use Rattle.std.proofs.Common.{◌≡◌, ◌⊎◌, inl, inr, ℕ, zero, suc, ◌+◌, ◌==◌, ◌&&◌, Bool, true, false, not, cond, List, [], ◌∷◌, ◌++◌, Option}
use Rattle.std.proofs.Common.{Some, None, refl, sym, ap, subst, ◌∙◌, arith}
use Rattle.std.specs.Prelude.{◌↔◌, filter, map, nat_eq, nat_le, nat_lt, option_map}
use Rattle.std.proofs.lemmas.Bool.Decides.{nat_tests}
use Rattle.lu_base.specs.declared.locks.Extent.{Extent}
use Rattle.lu_base.specs.declared.locks.Lock.{Lock}
use Rattle.lu_base.specs.declared.locks.Policy.{Policy}
use Rattle.lu_base.specs.declared.locks.Policy.TheVariants.{Bits, Range}
use Rattle.lu_base.specs.declared.locks.Resource.{Resource}
use Rattle.lu_held.specs.Locks.{same_resource, holds_offset}
use Rattle.lu_spec_machine.specs.Places.{found_at, is_in, laid}
use Rattle.lu_spec_machine.proofs.Places.{overlay, found_laid}
use Rattle.lu_spec_bytes.specs.Changes.{Bytes, outside, zeroed}
use Rattle.lu_spec_bytes.proofs.Rising.{found_filter}
use Rattle.lu_spec_entries.specs.Words.{Entry, Learns, Drop, Life, Fills, Zeroes}
use Rattle.lu_spec_client.specs.Facts.{Fact, taught, without_facts, facts_after}
use Rattle.lu_spec_client.specs.Caches.{at_object, with_object, on_object, bytes_at, bytes_after, forgotten_bytes}
use Rattle.lu_cache.specs.Cached.{Cached, cache_after}
use Rattle.lu_cache.specs.Histories.{known_after, byte_in, or_else, takes_byte, byte_known, IsAmong, IsKnown}

abbrev Table : Type 0
Table = List (Resource × Bytes)

-- ---- one object of a table

at_with : (r s : Resource) (x : Bytes) (m : Table) → bytes_at r (with_object s x m) ≡ cond (same_resource s r) x (bytes_at r m)
at_with r s x [] = refl
at_with r s x (e ∷ m) = by (same_resource e.0 s) refl (same_resource e.0 r) refl (same_resource s r) refl (at_with r s x m) where
  by : (u : Bool) → same_resource e.0 s ≡ u → (v : Bool) → same_resource e.0 r ≡ v → (w : Bool) → same_resource s r ≡ w
      → bytes_at r (with_object s x m) ≡ cond (same_resource s r) x (bytes_at r m)
      → bytes_at r (cond u ((e.0, x) ∷ m) (e ∷ with_object s x m)) ≡ cond w x (cond v e.1 (bytes_at r m))
  by true a true b true d rest = rw b refl
  by true a true b false d rest = absurd (grind (arith, nat_tests))
  by true a false b true d rest = absurd (grind (arith, nat_tests))
  by true a false b false d rest = rw b refl
  by false a true b true d rest = absurd (grind (arith, nat_tests))
  by false a true b false d rest = rw b refl
  by false a false b true d rest = rw b (rest ∙ rw d refl)
  by false a false b false d rest = rw b (rest ∙ rw d refl)

at_on : (r s : Resource) (f : Bytes → Bytes) (m : Table) → f [] ≡ [] → bytes_at r (on_object s f m)
    ≡ cond (same_resource s r) (f (bytes_at r m)) (bytes_at r m)
at_on r s f [] empty = by (same_resource s r) where
  by : (w : Bool) → [] ≡ cond w (f []) []
  by true = sym empty
  by false = refl
at_on r s f (e ∷ m) empty = by (same_resource e.0 s) refl (same_resource e.0 r) refl (same_resource s r) refl (at_on r s f m empty) where
  by : (u : Bool) → same_resource e.0 s ≡ u → (v : Bool) → same_resource e.0 r ≡ v → (w : Bool) → same_resource s r ≡ w
      → bytes_at r (on_object s f m) ≡ cond (same_resource s r) (f (bytes_at r m)) (bytes_at r m)
      → bytes_at r (cond u ((e.0, f e.1) ∷ m) (e ∷ on_object s f m)) ≡ cond w (f (cond v e.1 (bytes_at r m))) (cond v e.1 (bytes_at r m))
  by true a true b true d rest = rw b refl
  by true a true b false d rest = absurd (grind (arith, nat_tests))
  by true a false b true d rest = absurd (grind (arith, nat_tests))
  by true a false b false d rest = rw b refl
  by false a true b true d rest = absurd (grind (arith, nat_tests))
  by false a true b false d rest = rw b refl
  by false a false b true d rest = rw b (rest ∙ rw d refl)
  by false a false b false d rest = rw b (rest ∙ rw d refl)

-- ---- one position of an object

over_run : (at : ℕ) (xs : List ℕ) (p : ℕ) (x : Option ℕ) → overlay at xs p x ≡ or_else (byte_in at xs p) x
over_run at [] p x = refl
over_run at (b ∷ xs) p x = by (nat_eq p at) (over_run (at + 1) xs p x) where
  by : (v : Bool) → overlay (at + 1) xs p x ≡ or_else (byte_in (at + 1) xs p) x → cond v (Some b) (overlay (at + 1) xs p x)
      ≡ or_else (cond v (Some b) (byte_in (at + 1) xs p)) x
  by true rest = refl
  by false rest = rest

nothing : (v : Bool) → ◌≡◌ {A = Option ℕ} None (cond v None None)
nothing true = refl
nothing false = refl

found_zeroed : (n p : ℕ) (m : Bytes) → found_at (zeroed n m) p ≡ cond (nat_le n p) (option_map (λ _. 0) (found_at m p)) (found_at m p)
found_zeroed n p [] = nothing (nat_le n p)
found_zeroed n p (e ∷ m) = by (nat_eq p e.0) refl (nat_lt e.0 n) refl (nat_le n p) refl (found_zeroed n p m) where
  by : (u : Bool) → nat_eq p e.0 ≡ u → (v : Bool) → nat_lt e.0 n ≡ v → (w : Bool) → nat_le n p ≡ w → found_at (zeroed n m) p
      ≡ cond (nat_le n p) (option_map (λ _. 0) (found_at m p)) (found_at m p) → cond u (Some (cond v e.1 0)) (found_at (zeroed n m) p)
      ≡ cond w (option_map (λ _. 0) (cond u (Some e.1) (found_at m p))) (cond u (Some e.1) (found_at m p))
  by true a true b true d rest = absurd (grind (arith, nat_tests))
  by true a true b false d rest = refl
  by true a false b true d rest = refl
  by true a false b false d rest = absurd (grind (arith, nat_tests))
  by false a v b true d rest = rest ∙ rw d refl
  by false a v b false d rest = rest ∙ rw d refl

-- ---- the entries of a history

same_bytes : (r s : Resource) (es : Table) → same_resource s r ≡ true → bytes_at s es ≡ bytes_at r es
same_bytes r s [] e = refl
same_bytes r s (d ∷ es) e = let here : same_resource d.0 s ≡ same_resource d.0 r = grind (arith, nat_tests)
    in rw (here, same_bytes r s es e) refl

after_fill : (r s : Resource) (at p : ℕ) (bs : List ℕ) (m : Table) → found_at (bytes_at r (with_object s (laid at bs (bytes_at s m)) m)) p
    ≡ cond (same_resource s r) (or_else (byte_in at bs p) (found_at (bytes_at r m) p)) (found_at (bytes_at r m) p)
after_fill r s at p bs m = ap (λ (b : Bytes). found_at b p) (at_with r s (laid at bs (bytes_at s m)) m) ∙ by (same_resource s r) refl where
  by : (v : Bool) → same_resource s r ≡ v → found_at (cond v (laid at bs (bytes_at s m)) (bytes_at r m)) p
      ≡ cond v (or_else (byte_in at bs p) (found_at (bytes_at r m) p)) (found_at (bytes_at r m) p)
  by true e = found_laid at bs (bytes_at s m) p ∙ over_run at bs p (found_at (bytes_at s m) p)
      ∙ ap (λ (b : Bytes). or_else (byte_in at bs p) (found_at b p)) (same_bytes r s m e)
  by false e = refl

after_cut : (r s : Resource) (n p : ℕ) (m : Table) → found_at (bytes_at r (on_object s (zeroed n) m)) p
    ≡ cond (same_resource s r && nat_le n p) (option_map (λ _. 0) (found_at (bytes_at r m) p)) (found_at (bytes_at r m) p)
after_cut r s n p m = ap (λ (b : Bytes). found_at b p) (at_on r s (zeroed n) m refl) ∙ by (same_resource s r) where
  by : (v : Bool) → found_at (cond v (zeroed n (bytes_at r m)) (bytes_at r m)) p
      ≡ cond (v && nat_le n p) (option_map (λ _. 0) (found_at (bytes_at r m) p)) (found_at (bytes_at r m) p)
  by true = found_zeroed n p (bytes_at r m)
  by false = refl

after_drop : (r : Resource) (p : ℕ) (l : Lock) (m : Table) → found_at (bytes_at r (forgotten_bytes l.ask.policy l.resource m)) p
    ≡ cond (takes_byte r p l) None (found_at (bytes_at r m) p)
after_drop r p l m = by l.ask.policy where
  and_false : (v : Bool) (x : Option ℕ) → x ≡ cond (v && false) None x
  and_false true x = refl
  and_false false x = refl

  by : (policy : Policy) → found_at (bytes_at r (forgotten_bytes policy l.resource m)) p
      ≡ cond (same_resource l.resource r && holds_offset p policy) None (found_at (bytes_at r m) p)
  by (Bits bits) = and_false (same_resource l.resource r) (found_at (bytes_at r m) p)
  by (Range extent) = ap (λ (b : Bytes). found_at b p) (at_on r l.resource (outside extent) m refl) ∙ or (same_resource l.resource r) where
    turned : (v : Bool) (x : Option ℕ) → cond (not v) x None ≡ cond v None x
    turned true x = refl
    turned false x = refl

    or : (v : Bool) → found_at (cond v (outside extent (bytes_at r m)) (bytes_at r m)) p
        ≡ cond (v && (nat_le extent.first p && nat_le p extent.last)) None (found_at (bytes_at r m) p)
    or true = found_filter (λ (q : ℕ). not (is_in extent q)) (bytes_at r m) p ∙ turned (is_in extent p) (found_at (bytes_at r m) p)
    or false = refl

pub byte_law : (r : Resource) (p : ℕ) (history : List Entry) → found_at (bytes_at r (known_after history).bytes) p ≡ byte_known r p history
byte_law r p [] = refl
byte_law r p (Fills s at bs ∷ h) = after_fill r s at p bs (known_after h).bytes
    ∙ ap (λ (x : Option ℕ). cond (same_resource s r) (or_else (byte_in at bs p) x) x) (byte_law r p h)
byte_law r p (Zeroes s n ∷ h) = after_cut r s n p (known_after h).bytes
    ∙ ap (λ (x : Option ℕ). cond (same_resource s r && nat_le n p) (option_map (λ _. 0) x) x) (byte_law r p h)
byte_law r p (Drop t l ∷ h) = after_drop r p l (known_after h).bytes
    ∙ ap (λ (x : Option ℕ). cond (takes_byte r p l) None x) (byte_law r p h)
byte_law r p (Life who ∷ h) = refl
byte_law r p (_ ∷ h) = byte_law r p h

-- ---- facts

either : {A B C : Type 0} → (A → C) → (B → C) → A ⊎ B → C
either f g (inl a) = f a
either f g (inr b) = g b

among_both : (f : Fact) (a b : List Fact) → IsAmong f (a ++ b) ↔ (IsAmong f a ⊎ IsAmong f b)
among_both f [] b = (inr, λ h. either (λ none. absurd none) (λ x. x) h)
among_both f (g ∷ a) b = (
  λ h. either (λ e. inl (inl e)) (λ rest. either (λ x. inl (inr x)) (λ y. inr y) ((among_both f a b).0 rest)) h,
  λ h. either (λ first. either (λ e. inl e) (λ x. inr ((among_both f a b).1 (inl x))) first) (λ y. inr ((among_both f a b).1 (inr y))) h,
)

among_filter : (f : Fact) (test : Fact → Bool) (facts : List Fact) → IsAmong f (filter test facts) ↔ ((test f ≡ true) × IsAmong f facts)
among_filter f test [] = (λ h. absurd h, λ h. absurd h.1)
among_filter f test (g ∷ facts) = by (test g) refl (among_filter f test facts) where
  by : (v : Bool) → test g ≡ v → (IsAmong f (filter test facts) ↔ ((test f ≡ true) × IsAmong f facts))
      → IsAmong f (cond v (g ∷ filter test facts) (filter test facts)) ↔ ((test f ≡ true) × ((g ≡ f) ⊎ IsAmong f facts))
  by true e rest = (
    λ h. either (λ same. (subst (λ (x : Fact). test x ≡ true) same e, inl same)) (λ more. ((rest.0 more).0, inr (rest.0 more).1)) h,
    λ h. either (λ same. inl same) (λ more. inr (rest.1 (h.0, more))) h.1,
  )
  by false e rest = (
    λ h. ((rest.0 h).0, inr (rest.0 h).1),
    λ h. either (λ same. absurd (let off : test f ≡ false = subst (λ (x : Fact). test x ≡ false) same e in let on : test f ≡ true = h.0
        in cc)) (λ more. rest.1 (h.0, more)) h.1,
  )

not_false : (v : Bool) → (not v ≡ true) ↔ (v ≡ false)
not_false true = (λ e. absurd (cc), λ e. absurd (cc))
not_false false = (λ e. refl, λ e. refl)

pub fact_law : (f : Fact) (history : List Entry) → IsAmong f (known_after history).facts ↔ IsKnown f history
fact_law f [] = (λ h. h, λ h. h)
fact_law f (Learns t o a locks ∷ history) = (
  λ h. either (λ x. inl x) (λ y. inr ((fact_law f history).0 y)) ((among_both f (taught o a locks) (known_after history).facts).0 h),
  λ h. (among_both f (taught o a locks) (known_after history).facts).1 (either (λ x. inl x) (λ y. inr ((fact_law f history).1 y)) h),
)
fact_law f (Drop zero l ∷ history) = (
  λ h. let both = (among_filter f (λ (g : Fact). not (g.cookie.0 == l.cookie.0)) (known_after history).facts).0 h
      in ((not_false (f.cookie.0 == l.cookie.0)).0 both.0, (fact_law f history).0 both.1),
  λ h. (among_filter f (λ (g : Fact). not (g.cookie.0 == l.cookie.0)) (known_after history).facts).1
      ((not_false (f.cookie.0 == l.cookie.0)).1 h.0, (fact_law f history).1 h.1),
)
fact_law f (Drop (suc t) l ∷ history) = fact_law f history
fact_law f (Life who ∷ history) = (λ h. h, λ h. h)
fact_law f (_ ∷ history) = fact_law f history
