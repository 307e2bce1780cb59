-- One import of a client was changed: the client shows that import in its place; and what an import sends next is its
-- client's front.
use Rattle.std.proofs.Common.{◌≡◌, ℕ, ◌<◌, ◌≤◌, Bool, List, length, get_or, Option, Some, None, Result, Ok, Err, IfOk, OnErr, IfSome}
use Rattle.std.proofs.Common.{IfNone, sym, ap, subst, ◌∙◌, arith}
use Rattle.std.specs.Prelude.{slice_set}
use Rattle.std.proofs.lemmas.List.{length-map, map-set, set-get_or}
use Rattle.lu_base.specs.declared.ids.Who.{Who}
use Rattle.lu_base.specs.declared.faults.Memory.{Memory}
use Rattle.lu_call.specs.declared.nexts.Binding.{Binding}
use Rattle.lu_client_store.specs.Stored.{StoreState}
use Rattle.lu_msg.specs.declared.messages.Message.{Message}
use Rattle.lu_msg.specs.Limits.{tag_count}
use Rattle.lu_import.specs.Imports.{ImportState, IsSound, Sends, MustWait}
use Rattle.lu_spec_entries.specs.Carried.{Running}
use Rattle.lu_spec_client.specs.Imports.{Import, import_of}
use Rattle.lu_spec_client.specs.Sending.{sends_to}
use Rattle.lu_spec_client.specs.States.{Limits}
use Rattle.lu_client_refines.specs.Imports.{import_of_state, imports_of, flight_of, IsOne}
use Rattle.lu_client_refines.specs.Sending.{SendsFront}
use Rattle.lu_client_refines.proofs.Sending.{next_front, next_one, waits_row}
use Rattle.lu_client_refines.proofs.Targets.{import_of_at, one_of}
use Rattle.lu_client.specs.Clients.{ClientState, AreKept, limits_of, state_of, with_imports}
use Rattle.lu_client.specs.Fronts.{NextIs}
use Rattle.lu_client.proofs.Keeping.{kept_import}

-- a target of the client has its import
pub import_inside : (imports : List ImportState) (rows : List Import) → imports_of imports ≡ rows → {t : ℕ} → t < length rows
    → t < length imports
import_inside imports rows shows {t = t} inside = subst (λ (n : ℕ). t < n) (sym (ap length shows) ∙ length-map imports import_of_state)
    inside

-- an import that sent, or that didn't, stays that of its target and life
pub next_is_one : (limits : Limits) (who : Who) (t : ℕ) (old new : ImportState) (result : Result (Option Message) Memory)
    → IsOne limits who t old → IsSound new
    → IfOk result (λ next. IfSome next (Sends old new)) → IfOk result (λ next. IfNone next (new ≡ old)) → OnErr result (new ≡ old)
    → IsOne limits who t new
next_is_one limits who t old new (Ok (Some m)) one sound sent waits kept = next_one limits who t old new m sent sound one
next_is_one limits who t old new (Ok None) one sound sent waits kept = subst (IsOne limits who t) (sym waits) one
next_is_one limits who t old new (Err e) one sound sent waits kept = subst (IsOne limits who t) (sym kept) one

module _ (osts flight dirty : ℕ) (who : Who) (handles : List Binding) (calls : List (Option Running)) (store : StoreState)
    (spent : Bool) where
  abbrev shown : List ImportState → ClientState
  shown imports = state_of osts flight dirty who handles calls imports store spent

  -- another import is put in its place
  pub import_put : (t : ℕ) (imports : List ImportState) (new : ImportState) → shown (slice_set imports t new)
      ≡ with_imports (slice_set (imports_of imports) t (import_of_state new)) (shown imports)
  import_put t imports new = ap (λ (is : List Import). with_imports is (shown imports)) (map-set import_of_state imports t new)

  module _ (t : ℕ) (imports : List ImportState) (old new : ImportState) (kept : AreKept osts flight dirty who calls imports store)
      (inside : t < length imports) (is : old ≡ get_or imports t old) where
    here : import_of t (imports_of imports) ≡ import_of_state old
    here = import_of_at t imports old inside ∙ ap import_of_state (sym is)

    one : IsOne (limits_of osts flight dirty store) who t old
    one = subst (IsOne (limits_of osts flight dirty store) who t) (sym is)
        (one_of (limits_of osts flight dirty store) who t imports old kept.kept inside)

    -- the client keeps what always holds of it
    pub next_keeps : (result : Result (Option Message) Memory) → IsSound new
        → IfOk result (λ next. IfSome next (Sends old new)) → IfOk result (λ next. IfNone next (new ≡ old)) → OnErr result (new ≡ old)
        → AreKept osts flight dirty who calls (slice_set imports t new) store
    next_keeps result sound sent waits same = kept_import kept t new
        (next_is_one (limits_of osts flight dirty store) who t old new result one sound sent waits same)

    room : IsSound new → length (import_of_state new).flights ≤ tag_count
    room sound = let most = sound.most in let few = sound.flight in let count : length (import_of_state new).flights
        ≡ length new.in_flight = length-map new.in_flight flight_of in omega (arith, most, few, count)

    same_put : new ≡ old → shown (slice_set imports t new) ≡ shown imports
    same_put same = ap (λ (i : ImportState). shown (slice_set imports t i)) (same ∙ is) ∙ ap shown (set-get_or imports t old)

    -- what it sends next
    gone : (next : Option Message) → IsSound new → IfSome next (Sends old new) → IfNone next (MustWait old) → IfNone next (new ≡ old)
        → NextIs t (shown imports) (shown (slice_set imports t new)) next
    gone None sound sent must same =
        record {
          row = ap (sends_to (limits_of osts flight dirty store) who t) here
              ∙ waits_row (limits_of osts flight dirty store) who t old one must;
          stays = same_put same;
        }
    gone (Some m) sound sent must same =
        record {
          import = import_of_state new;
          front = subst (λ (i : Import). SendsFront (limits_of osts flight dirty store) who t i (import_of_state new) m) (sym here)
              (next_front (limits_of osts flight dirty store) who t old new m one sent);
          shows = import_put t imports new;
          room = room sound;
        }

    pub next_gone : (c : ClientState) → shown imports ≡ c → (next : Option Message) → IsSound new → IfSome next (Sends old new)
        → IfNone next (MustWait old) → IfNone next (new ≡ old) → NextIs t c (shown (slice_set imports t new)) next
    next_gone c shows next sound sent must same = subst (λ (s : ClientState). NextIs t s (shown (slice_set imports t new)) next) shows
        (gone next sound sent must same)
