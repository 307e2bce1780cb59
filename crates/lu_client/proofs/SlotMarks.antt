-- Marks of how the call on one slot stands: the client has that call changed, and nothing was given.
use Rattle.std.proofs.Common.{◌≡◌, ℕ, ◌<◌, true, List, [], ◌∷◌, length, get_or, Option, Some, None, refl, sym, ap, ◌∙◌}
use Rattle.std.specs.Prelude.{slice_set}
use Rattle.std.proofs.lemmas.List.{set-get_or}
use Rattle.lu_trace.specs.Turns.{Making}
use Rattle.lu_spec_entries.specs.Carried.{Stage, Running}
use Rattle.lu_spec_entries.specs.Words.{Entry}
use Rattle.lu_spec_client.specs.Calls.{call_after, call_on}
use Rattle.lu_spec_client.specs.Messages.{on_running, on_slot}
use Rattle.lu_call.specs.Turning as own
use Rattle.lu_client_refines.specs.Prints.{prints}
use Rattle.lu_client_refines.specs.Turns.{call_turn, none_read, reads_beside_calls, all_on}
use Rattle.lu_client_refines.proofs.Follow.{goes_marks}
use Rattle.lu_client_refines.proofs.Slots.{call_on_get, calls_turn_at}
use Rattle.lu_client_refines.proofs.Turns.{turned_calls}
use Rattle.lu_client.specs.Clients.{ClientState, with_call, Makes}
use Rattle.lu_client.proofs.Making.{makes_as, makes_nothing}

-- a call by itself reads entries as its client does
same_turn : (slot : ℕ) (call : Option Running) (es : List Entry) → own.call_turn slot call es ≡ call_turn slot call es
same_turn slot call [] = refl
same_turn slot call (e ∷ es) = same_turn slot (call_after slot call e) es

-- entries that mark how this call stands, and nothing else
pub record AreMarks (slot : ℕ) (es : List Entry) : Type 0 where
  pub here : all_on slot es ≡ true
  pub quiet : none_read prints es ≡ true
  pub alone : none_read reads_beside_calls es ≡ true

-- the call stands as they say
pub stands_by : (slot : ℕ) (es : List Entry) (old : ClientState) (call next : Running) (making : Making) → AreMarks slot es
    → slot < length old.client.calls → call_on slot old.client.calls ≡ Some call
    → own.call_turn slot (Some call) es ≡ Some next → Makes (λ k. es) old (with_call slot (Some next) old) making making
stands_by slot es old call next making marks inside was turns =
    let after : call_turn slot (call_on slot old.client.calls) es ≡ Some next =
    ap (λ (c : Option Running). call_turn slot c es) was ∙ sym (same_turn slot (Some call) es) ∙ turns in
    record {
      goes = goes_marks old.client (with_call slot (Some next) old).client making es marks.quiet
          (turned_calls old.client (slice_set old.client.calls slot (Some next)) es marks.alone
          (ap (slice_set old.client.calls slot) (sym after) ∙ sym (calls_turn_at slot old.client.calls es inside marks.here)));
      limits = refl;
      spent = refl;
    }

-- the call on a slot as it was
pub same_call : (slot : ℕ) (c : ClientState) (call : Option Running) → slot < length c.client.calls → call_on slot c.client.calls ≡ call
    → with_call slot call c ≡ c
same_call slot c call inside was =
    let here : call ≡ get_or c.client.calls slot call = sym was ∙ call_on_get slot c.client.calls call inside in
    ap (λ (o : Option Running). with_call slot o c) here
    ∙ ap (λ (calls : List (Option Running)). record c { client = record c.client { calls = calls } }) (set-get_or c.client.calls slot call)

-- what a row marks of the call on a slot
pub slot_stands : (stands : ℕ → Running → Stage → List Entry) (slot : ℕ) (old : ClientState) (call next : Running) (making : Making)
    → AreMarks slot (stands slot call call.stage) → slot < length old.client.calls
    → call_on slot old.client.calls ≡ Some call → own.call_turn slot (Some call) (stands slot call call.stage) ≡ Some next
    → Makes (λ k. on_slot stands (Some slot) k) old (with_call slot (Some next) old) making making
slot_stands stands slot old call next making marks inside was turns =
    makes_as (ap (on_running stands slot) (sym was)) (stands_by slot (stands slot call call.stage) old call next making marks inside was
    turns)

-- none of a slot that has no call
pub slot_empty : (stands : ℕ → Running → Stage → List Entry) (slot : ℕ) (c : ClientState) (making : Making) → call_on slot c.client.calls
    ≡ None → Makes (λ k. on_slot stands (Some slot) k) c c making making
slot_empty stands slot c making none = makes_as (ap (on_running stands slot) (sym none)) (makes_nothing c making)
