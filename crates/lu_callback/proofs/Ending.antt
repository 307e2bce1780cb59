-- What ends with some lives: what is outstanding of their locks, and the glimpses for their requests.
use Rattle.std.proofs.Common.{◌≡◌, ℕ, zero, suc, ◌+◌, ◌≤◌, ◌==◌, ◌||◌, Bool, true, false, not, cond, List, [], ◌∷◌, ◌++◌, length, filter}
use Rattle.std.proofs.Common.{refl, ap, sym, subst, ◌∙◌, arith}
use Rattle.std.specs.Prelude.{All}
use Rattle.std.specs.List.{list_any}
use Rattle.std.specs.Map.Calls.{RetainsPairs}
use Rattle.std.proofs.lemmas.Bool.{eqb-true}
use Rattle.std.proofs.lemmas.List.Elements.{All-filter, filter-append}
use Rattle.lu_base.specs.declared.ids.Cookie.{Cookie}
use Rattle.lu_base.specs.declared.ids.Who.{Who}
use Rattle.lu_callback.specs.declared.callbacks.Asked.{Asked}
use Rattle.lu_callback.specs.Callbacks.{without, is_of_locks, is_for, without_locks, without_lives, IsSound}
use Rattle.lu_callback.specs.Filed.{all_asked, IsFiled, IsHeld}
use Rattle.lu_callback.proofs.Orders.{sound_filtered}
use Rattle.lu_callback.proofs.Filed.{Entries, Of, lower}

-- of no lock
pub of_none : (callbacks : List Asked) → without_locks [] callbacks ≡ callbacks
of_none [] = refl
of_none (asked ∷ callbacks) = ap (λ more. asked ∷ more) (of_none callbacks)

-- of one lock, and then of others
pub of_next : (cookie : Cookie) (cookies : List Cookie) (callbacks : List Asked) → without_locks cookies (without cookie callbacks)
    ≡ without_locks (cookie ∷ cookies) callbacks
of_next cookie cookies [] = refl
of_next cookie cookies (asked ∷ callbacks) = by (asked.cookie.0 == cookie.0) (is_of_locks cookies asked) refl
    (of_next cookie cookies callbacks) where
      by : (here other : Bool) → is_of_locks cookies asked ≡ other → without_locks cookies (without cookie callbacks)
          ≡ without_locks (cookie ∷ cookies) callbacks
          → without_locks cookies (cond (not here) (asked ∷ without cookie callbacks) (without cookie callbacks))
          ≡ cond (not (here || other)) (asked ∷ without_locks (cookie ∷ cookies) callbacks) (without_locks (cookie ∷ cookies) callbacks)
      by true other e rest = rest
      by false true e rest = rw e rest
      by false false e rest = rw e (ap (λ more. asked ∷ more) rest)

-- ---- the glimpses for requests of some lives

module _ (lives : List Who) where
  abbrev pub outlives : Asked → Bool
  outlives asked = not (is_for lives asked.kind)

  -- how the closure changes what stands under a cookie
  abbrev pub Ends : {F : Type 0} → F → List Asked → Bool → List Asked → F → Type 0
  Ends f v b w f' = (b ≡ not (length w == 0)) × (w ≡ without_lives lives v) × (f' ≡ f)

  empty_is : (xs : List Asked) → not (length xs == 0) ≡ false → xs ≡ []
  empty_is [] none = refl
  empty_is (x ∷ xs) none = by (length (x ∷ xs) == 0) refl none where
    by : (zero : Bool) → (length (x ∷ xs) == 0) ≡ zero → not zero ≡ false → x ∷ xs ≡ []
    by true e none = let zero : length (x ∷ xs) ≡ 0 = eqb-true (length (x ∷ xs)) 0 e in absurd (omega arith)
    by false e none = absurd (cc)

  pub record AreEnded (old new : Entries) : Type 0 where
    pub filed : (n : ℕ) → IsFiled n old → IsFiled n new
    pub all : all_asked new ≡ without_lives lives (all_asked old)

  pub ended : {F : Type 0} (T : F → Cookie → List Asked → Bool → List Asked → F → Type 0) (f : F)
      → ((k : Cookie) (v : List Asked) (b : Bool) (w : List Asked) (f' : F) → T f k v b w f' → Ends f v b w f')
      → (old new : Entries) → RetainsPairs T f old new → AreEnded old new
  ended T f step [] new kept = record { filed = λ n filed. subst (IsFiled n) (sym kept) tt; all = ap all_asked kept }
  ended T f step (entry ∷ old) new (b, w, f', rest, called, more, kept) =
      let does : Ends f entry.1 b w f' = step entry.0 entry.1 b w f' called in
      let later : AreEnded old rest = ended T f step old rest (subst (λ g. RetainsPairs T g old rest) does.2 more) in
      subst (AreEnded (entry ∷ old)) (sym kept) (by b does.0 does.1 later)
    where
      below : (n : ℕ) → IsFiled n (entry ∷ old) → n ≤ entry.0.0 + 1
      below n filed = omega (arith, filed.0)

      split : without_lives lives (entry.1 ++ all_asked old) ≡ without_lives lives entry.1 ++ without_lives lives (all_asked old)
      split = filter-append outlives entry.1 (all_asked old)

      of_key : (w : List Asked) → w ≡ without_lives lives entry.1 → All (Of entry.0.0) entry.1 → All (Of entry.0.0) w
      of_key w is of = subst (All (Of entry.0.0)) (sym is) (All-filter outlives (Of entry.0.0) entry.1 of)

      by : (b : Bool) → b ≡ not (length w == 0) → w ≡ without_lives lives entry.1 → AreEnded old rest
          → AreEnded (entry ∷ old) (cond b ((entry.0, w) ∷ rest) rest)
      by true left is later = record {
        filed = λ n filed. (filed.0, of_key w is filed.1, later.filed (entry.0.0 + 1) filed.2);
        all = ap (λ xs. xs ++ all_asked rest) is ∙ ap (λ more. without_lives lives entry.1 ++ more) later.all ∙ sym split;
      }
      by false left is later = record {
        filed = λ n filed. lower n (entry.0.0 + 1) rest (below n filed) (later.filed (entry.0.0 + 1) filed.2);
        all = later.all ∙ ap (λ xs. xs ++ without_lives lives (all_asked old)) (sym (empty_is w (sym left)) ∙ is) ∙ sym split;
      }

  pub held : (old new : Entries) → AreEnded old new → IsHeld old → IsHeld new
  held old new are before = record {
    filed = are.filed 0 before.filed;
    sound = subst IsSound (sym are.all) (sound_filtered outlives (all_asked old) before.sound);
  }
