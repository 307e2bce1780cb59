-- Of a whole trace, and of any lives and numbers that fit it: what isn't lost at its end no close has lost, and who isn't out no target has
-- evicted.
-- And so it is of the lives that are gone by the laws.
use Rattle.std.proofs.Common.{◌≡◌, ℕ, Bool, true, false, List, [], ◌∷◌, ◌⊎◌, ⊎_elim, refl, sym, subst, ap, ◌∙◌}
use Rattle.std.specs.Prelude.{◌&&◌, ◌||◌}
use Rattle.lu_base.specs.declared.ids.Node.{Node}
use Rattle.lu_base.specs.declared.ids.Node.TheVariants.{Client, Target}
use Rattle.lu_base.specs.declared.ids.Who.{Who}
use Rattle.lu_spec_machine.specs.Tree.{same_life}
use Rattle.lu_spec_entries.specs.Words.{Entry, Evict, Line, line}
use Rattle.lu_spec_entries.specs.Concerns.{only}
use Rattle.lu_spec_entries.specs.Printed.{printed}
use Rattle.lu_proof_lawful.specs.Covered.TargetCloses.{is_lost, closing_of}
use Rattle.lu_proof_lawful.specs.Covered.Heads.{Head}
use Rattle.lu_spec_laws.specs.Words.Pasts.{is_target}
use Rattle.lu_spec_laws.specs.Words.Lives.{is_evicted, is_gone}
use Rattle.lu_proof_lawful.specs.Fits.{WasMade, EvictedOut, Fits}
use Rattle.lu_proof_lawful.proofs.Preconditions.Grown.{Allowed, Grown}
use Rattle.lu_proof_lawful.proofs.Preconditions.Guards.{In}
use Rattle.lu_proof_lawful.proofs.Preconditions.Lists.{life_is, life_self}
use Rattle.lu_proof_lawful.proofs.Invariants.Groups.{turn}
use Rattle.lu_proof_lawful.proofs.Invariants.TargetGroups.{Evicted}
use Rattle.lu_proof_lawful.proofs.Laws.CloseSlots.{LeftEvict, evicted_law}
use Rattle.lu_proof_lawful.proofs.Laws.Commits.{listed}
use Rattle.lu_proof_lawful.proofs.Laws.ToldLaw.{Lasting}

-- ---- who isn't out

module _ (out : Who → Bool) (t : ℕ) (who : Who) (stays : out who ≡ false) where
  -- wasn't evicted by the laws
  pub kept_in : (past : List Line) → EvictedOut out past → is_evicted t (printed past) who ≡ true → ⊥
  kept_in [] k e = absurd (cc)
  kept_in (l ∷ past) k e = by l.entry k e (kept_in past)
    where
      only_left : (a : Bool) → (a || false) ≡ true → a ≡ true
      only_left true e = refl
      only_left false e = absurd (cc)

      either : (o : Who) (a b : Bool) → out o ≡ true → ((a && same_life o who) || b) ≡ true → (b ≡ true → ⊥) → ⊥
      either o a true gone q h = h refl
      either o true false gone q h = let same = life_is o who (only_left (same_life o who) q) in let goes = ap out (sym same) ∙ gone
          in absurd (cc)
      either o false false gone q h = absurd (cc)

      by : (e : Entry) → EvictedOut out (line l.at e ∷ past) → is_evicted t (printed (line l.at e ∷ past)) who ≡ true
          → (EvictedOut out past → is_evicted t (printed past) who ≡ true → ⊥) → ⊥
      by (Evict o cause) k q h = either o (is_target t l.at.node) (is_evicted t (printed past) who) k.0 q (h k.1)
      by _ k q h = h k q

  -- nor by any line, once a close has shown all
  pub stays_in : (head : Head) (past : List Line) → Grown head past → EvictedOut out past → closing_of head.clients (only t past) ≡ []
      → Evicted (only t past) who → ⊥
  stays_in head past g f quiet gone =
      ⊎_elim (λ (e : is_evicted t (printed past) who ≡ true). kept_in past f e)
      (λ (e : LeftEvict head (only t past) who). subst (λ (es : List Entry). In (Evict who e.0) es) quiet e.1)
      (evicted_law head t past g who gone)

-- ---- what isn't lost

pub lasting : (head : Head) (out : Who → Bool) (lost : ℕ → ℕ → Bool) (past : List Line) → Grown head past
    → ((t : ℕ) → closing_of head.clients (only t past) ≡ []) → Fits head.osts out lost past → Lasting head out lost past
lasting head out lost past g quiet f = (
  λ t d a made stays. stands t d.reply.txn.0 (listed head t past d g a made).made stays,
  λ who stays t gone. stays_in out t who stays head past g f.gone (quiet t) gone,
)
  where
    stands : (t n : ℕ) → WasMade t past n → lost t n ≡ false → is_lost head.osts (only t past) n ≡ false
    stands t n made stays = by (is_lost head.osts (only t past) n) refl
      where
        by : (b : Bool) → is_lost head.osts (only t past) n ≡ b → b ≡ false
        by true e = absurd (let gone = f.stays t n made e in cc)
        by false e = refl

-- ---- who is gone by the laws

-- whom a line evicts is gone at the end
pub gone_out : (head : Head) (past : List Line) → Grown head past → EvictedOut (is_gone (printed past)) past
gone_out head past g = inside past g (λ who e. e)
  where
    inside : (old : List Line) → Grown head old → ((who : Who) → is_gone (printed old) who ≡ true → is_gone (printed past) who ≡ true)
        → EvictedOut (is_gone (printed past)) old
    inside [] g h = tt
    inside (l ∷ old) g h = by l.at.node l.entry g.0 h (inside old g.1)
      where
        here : (who : Who) (b : Bool) → ((true && same_life who who) || b) ≡ true
        here who b = rw (life_self who) refl

        more : (a b : Bool) → b ≡ true → (a || b) ≡ true
        more true b e = refl
        more false b e = e

        by : (node : Node) (e : Entry) → Allowed head old (turn l.at.stamp node) e
            → ((who : Who) → is_gone (printed (line (turn l.at.stamp node) e ∷ old)) who ≡ true → is_gone (printed past) who ≡ true)
            → (((who : Who) → is_gone (printed old) who ≡ true → is_gone (printed past) who ≡ true)
            → EvictedOut (is_gone (printed past)) old) → EvictedOut (is_gone (printed past)) (line (turn l.at.stamp node) e ∷ old)
        by (Client c) (Evict who cause) k h ih = absurd k.ok
        by (Target t) (Evict who cause) k h ih = (
          h who (here who (is_gone (printed old) who)),
          ih (λ other e. h other (more (same_life who other) (is_gone (printed old) other) e)),
        )
        by _ _ k h ih = ih h
