-- No row of a client has the line of a failed disk.
use Rattle.std.proofs.Common.{◌≡◌, ℕ, ◌&&◌, Bool, true, false, List, [], ◌∷◌, refl}
use Rattle.lu_base.specs.declared.ids.At.{At}
use Rattle.lu_spec_entries.specs.Words.{Entry, Fail}
use Rattle.lu_spec_client.specs.Rows.{Event, Dies, row}
use Rattle.lu_spec_client.specs.States.{Client, Limits}
use Rattle.lu_proof_run.proofs.Lives.{lives, all_live, row_lives}
use Rattle.lu_proof_run.proofs.Unfailing.{no_fail}

-- of entries of which none is a death, a failed disk or a life of another number
live_unfailing : (c : ℕ) (es : List Entry) → all_live c es ≡ true → no_fail es ≡ true
live_unfailing c [] live = refl
live_unfailing c (e ∷ es) live = by e live (λ (h : all_live c es ≡ true). live_unfailing c es h)
  where
    rest : (b : Bool) → (b && all_live c es) ≡ true → all_live c es ≡ true
    rest true h = h
    rest false h = absurd (cc)

    by : (e : Entry) → all_live c (e ∷ es) ≡ true → (all_live c es ≡ true → no_fail es ≡ true) → no_fail (e ∷ es) ≡ true
    by Fail live more = absurd (cc)
    by e live more = more (rest (lives c e) live)

pub client_unfailing : (limits : Limits) (at : At) (event : Event) (k : Client) → no_fail (row limits at event k) ≡ true
client_unfailing limits at Dies k = refl
client_unfailing limits at event k = live_unfailing k.who.client (row limits at event k) (row_lives limits at event k refl)
