-- Of each client one life has a slot, whoever leaves, and whoever comes without an older life there.
use Rattle.std.proofs.Common.{◌≡◌, ◌==◌, Bool, true, false, cond, not, List, [], ◌∷◌, filter, Some, None, refl, arith}
use Rattle.std.specs.Prelude.{if◌then◌else◌}
use Rattle.std.proofs.lemmas.Bool.Decides.{nat_tests}
use Rattle.lu_base.specs.declared.ids.Who.{Who}
use Rattle.lu_spec_entries.specs.Words.{same_life}
use Rattle.lu_spec_target.specs.Leaving.{life_of}
use Rattle.lu_spec_target.specs.Lives.{is_life, life_before, with_life, without_lives}
use Rattle.lu_target_refines.specs.Lives.{AreOthers, OfClients}

others_filter : (test : Who → Bool) (who : Who) (lives : List Who) → AreOthers who lives → AreOthers who (filter test lives)
others_filter test who [] others = tt
others_filter test who (w ∷ lives) others = by (test w) (others_filter test who lives others.1) where
  by : (stays : Bool) → AreOthers who (filter test lives) → AreOthers who (cond stays (w ∷ filter test lives) (filter test lives))
  by true rest = (others.0, rest)
  by false rest = rest

clients_filter : (test : Who → Bool) (lives : List Who) → OfClients lives → OfClients (filter test lives)
clients_filter test [] of = tt
clients_filter test (w ∷ lives) of = by (test w) (clients_filter test lives of.1) where
  by : (stays : Bool) → OfClients (filter test lives) → OfClients (cond stays (w ∷ filter test lives) (filter test lives))
  by true rest = (others_filter test w lives of.0, rest)
  by false rest = rest

pub clients_without : (gone lives : List Who) → OfClients lives → OfClients (without_lives gone lives)
clients_without gone lives of = clients_filter (λ w. not (is_life w gone)) lives of

others_with : (a who : Who) (lives : List Who) → (who.client == a.client) ≡ false → AreOthers a lives → AreOthers a (with_life who lives)
others_with a who [] other others = (other, tt)
others_with a who (w ∷ lives) other others = by (same_life who w) (life_before who w) (others_with a who lives other others.1) where
  by : (same before : Bool) → AreOthers a (with_life who lives)
      → AreOthers a (if same then w ∷ lives else (if before then who ∷ w ∷ lives else w ∷ with_life who lives))
  by true before rest = others
  by false true rest = (other, others)
  by false false rest = (others.0, rest)

apart_back : (a b : Who) → (a.client == b.client) ≡ false → (b.client == a.client) ≡ false
apart_back a b apart = grind (arith, nat_tests)

clients_put : (who : Who) (lives : List Who) → AreOthers who lives → OfClients lives → OfClients (with_life who lives)
clients_put who [] others of = (tt, tt)
clients_put who (w ∷ lives) others of = by (same_life who w) (life_before who w) (clients_put who lives others.1 of.1) where
  by : (same before : Bool) → OfClients (with_life who lives) → OfClients
      (if same then w ∷ lives else (if before then who ∷ w ∷ lives else w ∷ with_life who lives))
  by true before rest = of
  by false true rest = (others, of)
  by false false rest = (others_with w who lives (apart_back w who others.0) of.0, rest)

no_life : (who : Who) (lives : List Who) → life_of who.client lives ≡ None → AreOthers who lives
no_life who [] none = tt
no_life who (w ∷ lives) none = by (w.client == who.client) refl none (no_life who lives) where
  by : (here : Bool) → (w.client == who.client) ≡ here → (if here then Some w else life_of who.client lives) ≡ None
      → (life_of who.client lives ≡ None → AreOthers who lives)
      → ((w.client == who.client) ≡ false) × AreOthers who lives
  by true h n rest = absurd (cc)
  by false h n rest = (h, rest n)

pub clients_with : (who : Who) (lives : List Who) → life_of who.client lives ≡ None → OfClients lives → OfClients (with_life who lives)
clients_with who lives none of = clients_put who lives (no_life who lives none) of
