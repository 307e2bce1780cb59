-- A life is put ahead of the first that is it or stands behind it, where it isn't there.
use Rattle.std.proofs.Common.{◌≡◌, ℕ, suc, ◌+◌, ◌<◌, ◌≤◌, ◌||◌, nat_lt, Bool, true, false, not, cond, List, [], ◌∷◌, ◌++◌, length, get_or}
use Rattle.std.proofs.Common.{refl, sym, ◌∙◌, ap, subst, arith}
use Rattle.std.specs.Prelude.{if◌then◌else◌, insert, position, Some, None}
use Rattle.std.specs.List.{position_or_len}
use Rattle.std.proofs.lemmas.Bool.Decides.{nat_tests}
use Rattle.lu_base.specs.declared.ids.Who.{Who}
use Rattle.lu_spec_entries.specs.Words.{same_life}
use Rattle.lu_spec_target.specs.Lives.{life_before, with_life}
use Rattle.lu_target_locks.specs.Reminding.{stands_from}

abbrev place_of : Who → List Who → ℕ
place_of who lives = position_or_len (stands_from who) lives

-- it stands behind all
pub at_end : (who : Who) (lives : List Who) → length lives ≤ place_of who lives → with_life who lives ≡ lives ++ who ∷ []
at_end who [] past = refl
at_end who (w ∷ lives) past = by (same_life who w) (life_before who w) past (at_end who lives) where
  by : (same before : Bool) → length (w ∷ lives) ≤ cond (not (same || before)) (1 + place_of who lives) 0
      → (length lives ≤ place_of who lives → with_life who lives ≡ lives ++ who ∷ [])
      → (if same then w ∷ lives else (if before then who ∷ w ∷ lives else w ∷ with_life who lives)) ≡ w ∷ (lives ++ who ∷ [])
  by true before past rest = absurd (omega (arith, past))
  by false true past rest = absurd (omega (arith, past))
  by false false past rest = ap (λ (more : List Who). w ∷ more) (rest (omega (arith, past)))

-- it is there, or goes into that place
pub at_place : (who : Who) (lives : List Who) (d : Who) → place_of who lives < length lives →
    with_life who lives ≡ (if same_life who (get_or lives (place_of who lives) d) then lives else insert lives (place_of who lives) who)
at_place who [] d within = absurd (omega arith)
at_place who (w ∷ lives) d within = by (same_life who w) refl (life_before who w) within (at_place who lives d) where
  more : (b : Bool) → w ∷ (if b then lives else insert lives (place_of who lives) who)
      ≡ (if b then w ∷ lives else insert (w ∷ lives) (suc (place_of who lives)) who)
  more true = refl
  more false = refl

  by : (same : Bool) → same_life who w ≡ same → (before : Bool)
      → cond (not (same || before)) (1 + place_of who lives) 0 < length (w ∷ lives)
      → (place_of who lives < length lives → with_life who lives
      ≡ (if same_life who (get_or lives (place_of who lives) d) then lives else insert lives (place_of who lives) who))
      → (if same then w ∷ lives else (if before then who ∷ w ∷ lives else w ∷ with_life who lives))
      ≡ (if same_life who (get_or (w ∷ lives) (cond (not (same || before)) (1 + place_of who lives) 0) d) then w ∷ lives
      else insert (w ∷ lives) (cond (not (same || before)) (1 + place_of who lives) 0) who)
  by true e before within rest = ap (λ b. if b then w ∷ lives else insert (w ∷ lives) 0 who) (sym e)
  by false e true within rest = ap (λ b. if b then w ∷ lives else insert (w ∷ lives) 0 who) (sym e)
  by false e false within rest =
      let next : suc (place_of who lives) ≡ 1 + place_of who lives = omega arith in
      subst (λ k. w ∷ with_life who lives ≡ (if same_life who (get_or (w ∷ lives) k d) then w ∷ lives else insert (w ∷ lives) k who)) next
      (ap (λ (more : List Who). w ∷ more) (rest (omega (arith, within))) ∙ more (same_life who (get_or lives (place_of who lives) d)))

-- as the search for its place answers
not_some : (n : ℕ) → None ≡ Some n → ⊥
not_some n e = cc

some_number : (m n : ℕ) → Some m ≡ Some n → m ≡ n
some_number m n e = cc

pub put_last : (who : Who) (lives : List Who) → None ≡ position (stands_from who) lives → with_life who lives ≡ lives ++ who ∷ []
put_last who lives none = by (nat_lt (place_of who lives) (length lives)) refl none where
  by : (b : Bool) → nat_lt (place_of who lives) (length lives) ≡ b → None ≡ cond b (Some (place_of who lives)) None → with_life who lives
      ≡ lives ++ who ∷ []
  by true e h = absurd (not_some (place_of who lives) h)
  by false e h = at_end who lives (grind (arith, nat_tests, e))

pub put_at : (who : Who) (lives : List Who) (n : ℕ) (d : Who) → Some n ≡ position (stands_from who) lives →
    with_life who lives ≡ (if same_life who (get_or lives n d) then lives else insert lives n who)
put_at who lives n d some = by (nat_lt (place_of who lives) (length lives)) refl some where
  by : (b : Bool) → nat_lt (place_of who lives) (length lives) ≡ b → Some n ≡ cond b (Some (place_of who lives)) None
      → with_life who lives ≡ (if same_life who (get_or lives n d) then lives else insert lives n who)
  by true e h =
      subst (λ m. with_life who lives ≡ (if same_life who (get_or lives m d) then lives else insert lives m who))
      (sym (some_number n (place_of who lives) h))
      (at_place who lives d (grind (arith, nat_tests, e)))
  by false e h = absurd (not_some n (sym h))
