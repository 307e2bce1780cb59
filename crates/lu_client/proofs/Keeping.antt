-- What always holds of a client's parts goes on to hold where one of them changes.
use Rattle.std.proofs.Common.{◌≡◌, ℕ, ◌≤◌, ◌<◌, List, [], ◌∷◌, ◌++◌, length, get_or, Option, refl, sym, ap, subst, ◌∙◌}
use Rattle.std.specs.Prelude.{slice_set, Result, Ok, Err, OnOk, OnErr}
use Rattle.std.proofs.lemmas.List.{length-set, set_past}
use Rattle.lu_base.specs.declared.faults.Memory.{Memory}
use Rattle.lu_base.specs.declared.ids.Who.{Who}
use Rattle.lu_import.specs.declared.requests.Waiting.{Waiting}
use Rattle.lu_import.specs.Imports.{ImportState, IsSound}
use Rattle.lu_client_store.specs.Stored.{StoreState}
use Rattle.lu_spec_entries.specs.Carried.{Queued, Running}
use Rattle.lu_spec_entries.specs.Words.{Queues}
use Rattle.lu_spec_client.specs.Imports.{Import, import_after, imports_after, import_of}
use Rattle.lu_spec_client.specs.States.{Limits}
use Rattle.lu_client_refines.specs.Imports.{waiting_of, import_of_state, imports_of, IsOne, AreImports}
use Rattle.lu_client_refines.proofs.Imports.{queued_one, queued_shown}
use Rattle.lu_client_refines.proofs.Lists.{self}
use Rattle.lu_client_refines.proofs.Targets.{are_set, are_limits, imports_at, imports_shown}
use Rattle.lu_client.specs.Clients.{limits_of, AreKept}

module _ {osts flight dirty : ℕ} {who : Who} {calls : List (Option Running)} {imports : List ImportState} {store : StoreState}
    (kept : AreKept osts flight dirty who calls imports store) where
  -- as many slots
  pub kept_calls : (next : List (Option Running)) → length next ≡ length calls → AreKept osts flight dirty who next imports store
  kept_calls next count =
      record { slots = count ∙ kept.slots; targets = kept.targets; few = kept.few; least = kept.least; most = kept.most; kept = kept.kept }

  -- one slot's call
  pub kept_call : (slot : ℕ) (call : Option Running) → AreKept osts flight dirty who (slice_set calls slot call) imports store
  kept_call slot call = kept_calls (slice_set calls slot call) (length-set calls slot call)

  -- the store
  pub kept_store : (next : StoreState) → AreKept osts flight dirty who calls imports next
  kept_store next =
      record {
        slots = kept.slots;
        targets = kept.targets;
        few = kept.few;
        least = kept.least;
        most = kept.most;
        kept = are_limits (limits_of osts flight dirty store) (limits_of osts flight dirty next) who 0 imports refl kept.kept;
      }

  -- the imports, of this life or another
  pub kept_imports : (next : Who) (new : List ImportState) → length new ≡ length imports
      → AreImports (limits_of osts flight dirty store) next 0 new → AreKept osts flight dirty next calls new store
  kept_imports next new count are =
      record { slots = kept.slots; targets = count ∙ kept.targets; few = kept.few; least = kept.least; most = kept.most; kept = are }

  -- one target's import
  pub kept_import : (t : ℕ) (new : ImportState) → IsOne (limits_of osts flight dirty store) who t new
      → AreKept osts flight dirty who calls (slice_set imports t new) store
  kept_import t new one =
      kept_imports who (slice_set imports t new) (length-set imports t new)
      (are_set (limits_of osts flight dirty store) who t imports new kept.kept one)

-- ---- an operation is queued, or memory ran out

pub queued_keeps : (limits : Limits) (who : Who) (t : ℕ) (r : Result (Unit {0}) Memory) (old new : ImportState) (w : Waiting)
    → OnOk r (new ≡ record old { queue = old.queue ++ w ∷ [] }) → OnErr r (new ≡ old) → IsSound new → IsOne limits who t old
    → IsOne limits who t new
queued_keeps limits who t (Ok u) old new w added kept sound one = queued_one limits who t old new w added sound one
queued_keeps limits who t (Err e) old new w added kept sound one = subst (IsOne limits who t) (sym kept) one

-- where there is no such target nothing is
pub queued_nowhere : (t : ℕ) (imports : List Import) (q : Queued) → length imports ≤ t → imports_after imports (Queues t q) ≡ imports
queued_nowhere t imports q past = imports_at t imports (Queues t q) (self t)
    ∙ set_past imports t (import_after (import_of t imports) (Queues t q)) past

-- where there is, it has it at the end of its queue
pub queued_imports : (t : ℕ) (is : List ImportState) (old new : ImportState) (w : Waiting) → t < length is → old ≡ get_or is t old → new
    ≡ record old { queue = old.queue ++ w ∷ [] } → imports_of (slice_set is t new) ≡ imports_after (imports_of is) (Queues t (waiting_of w))
queued_imports t is old new w inside at added =
    imports_shown t is new old (Queues t (waiting_of w) ∷ []) inside (rw (self t) refl)
    (queued_shown t old new w added ∙ ap (λ (i : ImportState). import_after (import_of_state i) (Queues t (waiting_of w))) at)
