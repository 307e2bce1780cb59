-- Lists of lives by the test that the facts speak of: what stands in one once lives came or went, that none which is over is as new as
-- one that isn't, and the lives of the start.
use Rattle.std.proofs.Common.{◌≡◌, ℕ, zero, suc, ◌+◌, ◌<◌, ◌≤◌, Bool, true, false, List, [], ◌∷◌, Option, Some, None, ◌⊎◌, inl, inr, refl}
use Rattle.std.proofs.Common.{sym, ap, ◌∙◌, subst, arith}
use Rattle.std.specs.Prelude.{nat_eq, ◌||◌}
use Rattle.std.specs.List.{list_any}
use Rattle.std.proofs.lemmas.Bool.{eqb-false}
use Rattle.std.proofs.lemmas.Bool.Decides.{nat_tests}
use Rattle.lu_base.specs.declared.ids.Who.{Who}
use Rattle.lu_spec_entries.specs.Carried.{Said}
use Rattle.lu_spec_entries.specs.Words.{same_life}
use Rattle.lu_spec_target.specs.Leaving.{is_over}
use Rattle.lu_spec_target.specs.Lives.{is_life, with_life, without_lives}
use Rattle.lu_spec_target.specs.States.{lives_from}
use Rattle.lu_spec_target.specs.Windows.{Window, word_of, has_all, is_back}
use Rattle.lu_proof_lawful.specs.Covered.Calls.{first_life}
use Rattle.lu_proof_lawful.proofs.Preconditions.Guards.{In}
use Rattle.lu_proof_lawful.proofs.Preconditions.Lists.{life_is, life_self}
use Rattle.lu_proof_lawful.proofs.Preconditions.ClientLocks.{any_false}
use Rattle.lu_proof_lawful.proofs.Preconditions.LifeLists.{stands_life, life_put_or, life_stays, life_left, any_with}

-- what stands there once one came is it, or stood there
pub put_or : (x who : Who) (lives : List Who) → is_life x (with_life who lives) ≡ true → (x ≡ who) ⊎ (is_life x lives ≡ true)
put_or x who lives t = by (same_life x who) refl (life_put_or x who lives t)
  where
    by : (b : Bool) → same_life x who ≡ b → (b || is_life x lives) ≡ true → (x ≡ who) ⊎ (is_life x lives ≡ true)
    by true e t = inl (life_is x who e)
    by false e t = inr t

-- what stood there is the one that goes, or stays
pub goes_or : (x who : Who) (lives : List Who) → is_life x lives ≡ true → (x ≡ who) ⊎ (is_life x (without_lives (who ∷ []) lives) ≡ true)
goes_or x who lives t = by (same_life x who) refl
  where
    by : (b : Bool) → same_life x who ≡ b → (x ≡ who) ⊎ (is_life x (without_lives (who ∷ []) lives) ≡ true)
    by true e = inl (life_is x who e)
    by false e = inr (life_stays x who lives (λ s. let same : same_life x who ≡ true =
        subst (λ (v : Who). same_life x v ≡ true) s (life_self x) in absurd (cc)) t)

-- where a life is over none of its client is as new
pub older_than : (who : Who) (lives : List Who) → list_any (is_over who) lives ≡ false → (x : Who) → is_life x lives ≡ true → x.client
    ≡ who.client → x.life < who.life
older_than who lives n x t e = let f = any_false (is_over who) lives n x (stands_life x lives t) in grind (arith, nat_tests)

-- ---- the lives of the start

pub first_among : (from more c : ℕ) → from ≤ c → c < from + more → is_life (first_life c) (lives_from from more) ≡ true
first_among from zero c low high = absurd (omega (arith, low, high))
first_among from (suc more) c low high = by (nat_eq c from) refl
    (λ e. first_among (from + 1) more c (omega (arith, low, eqb-false c from e)) (omega (arith, high)))
  where
    by : (b : Bool) → nat_eq c from ≡ b → (nat_eq c from ≡ false → is_life (first_life c) (lives_from (from + 1) more) ≡ true)
        → is_life (first_life c) (lives_from from (suc more)) ≡ true
    by true e more = rw e refl
    by false e more = rw e (more e)

pub from_low : (w : Who) (client more : ℕ) → In w (lives_from client more) → w.client < client + more
from_low w client zero i = absurd i
from_low w client (suc more) (inl e) = let q : client ≡ w.client = ap (λ (u : Who). u.client) e in omega (arith, q)
from_low w client (suc more) (inr i) = let lt = from_low w (client + 1) more i in omega (arith, lt)

-- a life that is back had a word
pub back_word : (v : Window) (x : Who) → is_back v x ≡ true → (w : Said) × (word_of x v.words ≡ Some w)
back_word v x t = by (word_of x v.words) refl t
  where
    by : (o : Option Said) → word_of x v.words ≡ o → has_all v x o ≡ true → (w : Said) × (word_of x v.words ≡ Some w)
    by None e t = absurd (cc)
    by (Some w) e t = (w, e)

-- ---- what changes nothing

-- one goes that isn't there
pub goes_none : (x who : Who) (lives : List Who) → is_life who lives ≡ false → is_life x (without_lives (who ∷ []) lives) ≡ is_life x lives
goes_none x who lives none = by (is_life x lives) (is_life x (without_lives (who ∷ []) lives)) refl refl
  where
    other : is_life x lives ≡ true → x ≡ who → ⊥
    other t e = let there : is_life who lives ≡ true = subst (λ (w : Who). is_life w lives ≡ true) e t in absurd (cc)

    by : (a b : Bool) → is_life x lives ≡ a → is_life x (without_lives (who ∷ []) lives) ≡ b → b ≡ a
    by true true p q = refl
    by true false p q = let stays = life_stays x who lives (other p) p in absurd (cc)
    by false true p q = let left = life_left x who lives q in let had = left.0 in absurd (cc)
    by false false p q = refl

-- one comes that is there
pub puts_there : (x who : Who) (lives : List Who) → is_life who lives ≡ true → is_life x (with_life who lives) ≡ is_life x lives
puts_there x who lives there = any_with (same_life x) who lives ∙ by (same_life x who) refl
  where
    by : (b : Bool) → same_life x who ≡ b → (b || is_life x lives) ≡ is_life x lives
    by true e = sym (subst (λ (w : Who). is_life w lives ≡ true) (sym (life_is x who e)) there)
    by false e = refl
