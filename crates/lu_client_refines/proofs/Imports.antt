-- Each call of an import leaves what the rows' entries make of it, and the import stays that of its target and life.
use Rattle.std.proofs.Common.{◌≡◌, ℕ, Bool, List, [], ◌∷◌, ◌++◌, Option, refl, ap, ◌∙◌}
use Rattle.std.proofs.lemmas.List.{map-append}
use Rattle.lu_base.specs.declared.ids.TargetId.{TargetId}
use Rattle.lu_base.specs.declared.ids.Who.{Who}
use Rattle.lu_base.specs.declared.locks.Lock.{Lock}
use Rattle.lu_import.specs.declared.requests.Waiting.{Waiting}
use Rattle.lu_import.specs.Kept as own
use Rattle.lu_import.specs.Imports.{ImportState, IsSound, fresh, reborn}
use Rattle.lu_spec_entries.specs.Carried.{Queued}
use Rattle.lu_spec_entries.specs.Words.{Life, Queues, Hold, Settles}
use Rattle.lu_spec_client.specs.Imports as row
use Rattle.lu_spec_client.specs.States.{Limits}
use Rattle.lu_client_refines.specs.Imports.{waiting_of, import_of_state, IsOne}
use Rattle.lu_client_refines.proofs.Kept.{noted_as}

-- ---- it stays that of its target and life

-- a call that changed neither target nor life nor limit
pub stays_one : (limits : Limits) (who : Who) (t : ℕ) (old new : ImportState) → new.target ≡ old.target → new.who ≡ old.who → new.flight
    ≡ old.flight → IsSound new → IsOne limits who t old → IsOne limits who t new
stays_one limits who t old new target life flight sound one =
    record {
      target = ap (λ (to : TargetId). to.0) target ∙ one.target;
      life = life ∙ one.life;
      flight = flight ∙ one.flight;
      sound = sound;
    }

-- a new life's
pub begins_one : (limits : Limits) (who next : Who) (t : ℕ) (old new : ImportState) → new ≡ reborn next old → IsSound new
    → IsOne limits who t old → IsOne limits next t new
begins_one limits who next t old new is sound one =
    record {
      target = ap (λ (i : ImportState). i.target.0) is ∙ one.target;
      life = ap (λ (i : ImportState). i.who) is;
      flight = ap (λ (i : ImportState). i.flight) is ∙ one.flight;
      sound = sound;
    }

-- ---- at the start of a run

-- the first life's import, whose target is in its first boot
pub fresh_shown : (target : TargetId) (who : Who) (flight : ℕ) (new : ImportState) → who.life ≡ 1 → new ≡ fresh target who 1 flight
    → import_of_state new ≡ row.first_import
fresh_shown target who flight new first is = ap import_of_state is ∙ rw first refl

-- it is that of its target and life
pub fresh_one : (limits : Limits) (who : Who) (t : ℕ) (target : TargetId) (new : ImportState) → target.0 ≡ t → new
    ≡ fresh target who 1 limits.flight → IsSound new → IsOne limits who t new
fresh_one limits who t target new at is sound =
    record {
      target = ap (λ (i : ImportState). i.target.0) is ∙ at;
      life = ap (λ (i : ImportState). i.who) is;
      flight = ap (λ (i : ImportState). i.flight) is;
      sound = sound;
    }

-- ---- an operation is queued

-- the import after a call, or a write-back, queued an operation
pub queued_shown : (t : ℕ) (old new : ImportState) (w : Waiting) → new ≡ record old { queue = old.queue ++ w ∷ [] } → import_of_state new
    ≡ row.import_after (import_of_state old) (Queues t (waiting_of w))
queued_shown t old new w is =
    ap import_of_state is
    ∙ ap (λ (qs : List Queued). record (import_of_state old) { queue = qs }) (map-append waiting_of old.queue (w ∷ []))

-- it stays that of its target and life
pub queued_one : (limits : Limits) (who : Who) (t : ℕ) (old new : ImportState) (w : Waiting) → new
    ≡ record old { queue = old.queue ++ w ∷ [] } → IsSound new → IsOne limits who t old → IsOne limits who t new
queued_one limits who t old new w is sound one =
    stays_one limits who t old new (ap (λ (i : ImportState). i.target) is) (ap (λ (i : ImportState). i.who) is)
    (ap (λ (i : ImportState). i.flight) is) sound one

-- ---- a grant is noted

-- the numbers that it saw come first, and then what it says is committed
pub noted_shown : (t : ℕ) (old new : ImportState) (l : Lock) (marked : Bool) (size : Option ℕ) (n : ℕ) (seen : List ℕ) → new
    ≡ record old { kept = own.noted n seen old.kept } → import_of_state new
    ≡ row.import_after (row.import_after (import_of_state old) (Hold t l marked size seen)) (Settles t n)
noted_shown t old new l marked size n seen is =
    ap import_of_state is
    ∙ ap (λ (k : row.Kept). record (import_of_state old) { kept = k }) (noted_as t l marked size n seen old.kept)

-- it stays that of its target and life
pub noted_one : (limits : Limits) (who : Who) (t : ℕ) (old new : ImportState) (n : ℕ) (seen : List ℕ) → new
    ≡ record old { kept = own.noted n seen old.kept } → IsSound new → IsOne limits who t old → IsOne limits who t new
noted_one limits who t old new n seen is sound one =
    stays_one limits who t old new (ap (λ (i : ImportState). i.target) is) (ap (λ (i : ImportState). i.who) is)
    (ap (λ (i : ImportState). i.flight) is) sound one

-- ---- a new life begins

-- the import after a new life began
pub reborn_shown : (who : Who) (old new : ImportState) → new ≡ reborn who old → import_of_state new
    ≡ row.import_after (import_of_state old) (Life who)
reborn_shown who old new is = ap import_of_state is
