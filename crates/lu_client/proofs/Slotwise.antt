-- What is done for each call by itself, slot by slot: one slot, and then what is left.
use Rattle.std.proofs.Common.{◌≡◌, ℕ, zero, suc, ◌+◌, ◌<◌, ◌≤◌, true, List, [], ◌∷◌, ◌++◌, length, drop, Option, Some, None, refl, sym, ap}
use Rattle.std.proofs.Common.{subst, ◌∙◌, arith, add-one}
use Rattle.std.specs.Prelude.{slice_set}
use Rattle.std.proofs.lemmas.List.{drop_all, set_past}
use Rattle.lu_base.specs.declared.ids.Node.TheVariants.{Target}
use Rattle.lu_trace.specs.Turns.{Making, no_step}
use Rattle.lu_spec_entries.specs.Carried.{Stage, Running}
use Rattle.lu_spec_entries.specs.Words.{Entry}
use Rattle.lu_call.specs.Turning as call_state
use Rattle.lu_spec_client.specs.Calls.{call_on, call_after}
use Rattle.lu_spec_client.specs.Recovery.{on_call, on_calls}
use Rattle.lu_spec_client.specs.States.{Client, turn, follow}
use Rattle.lu_client_refines.specs.Prints.{prints}
use Rattle.lu_client_refines.specs.Turns.{call_turn, reads_beside_calls, none_read, all_on}
use Rattle.lu_client_refines.proofs.Follow.{goes_as, goes_marks}
use Rattle.lu_client_refines.proofs.Lists.{drop_past}
use Rattle.lu_client_refines.proofs.Slots.{calls_turn_at, slots_stay}
use Rattle.lu_client_refines.proofs.Turns.{turns, turned_calls}
use Rattle.lu_client.specs.Clients.{ClientState, with_call, Makes}
use Rattle.lu_client.proofs.Making.{makes_nothing, makes_as}

-- ---- the slots

-- no entries make a slot
pub makes_slots : {row : Client → List Entry} {old new : ClientState} {before after : Making} → Makes row old new before after
    → length new.client.calls ≡ length old.client.calls
makes_slots {row = row} {old = old} {new = new} makes =
    ap (λ (k : Client). length k.calls) (makes.goes.shows ∙ turns old.client (row old.client))
    ∙ slots_stay old.client.calls (row old.client)

-- so do marks, which any turn has room for
pub marks_slots : {row : Client → List Entry} {old new : ClientState} → ((making : Making) → Makes row old new making making)
    → length new.client.calls ≡ length old.client.calls
marks_slots makes = makes_slots (makes (record { at = record { stamp = record { 0 = 0 }; node = Target 0 }; step = no_step }))

first_call : (slot : ℕ) (calls : List (Option Running)) → slot < length calls → drop slot calls ≡ call_on slot calls ∷ drop (suc slot) calls
first_call slot [] inside = absurd (omega arith)
first_call zero (call ∷ calls) inside = refl
first_call (suc slot) (call ∷ calls) inside = first_call slot calls (omega arith)

same_call : (slot : ℕ) (call : Option Running) (es : List Entry) → call_state.call_turn slot call es ≡ call_turn slot call es
same_call slot call [] = refl
same_call slot call (e ∷ es) = same_call slot (call_after slot call e) es

-- a slot without a call is left so
left_free : (slot : ℕ) (calls : List (Option Running)) → call_on slot calls ≡ None → slice_set calls slot None ≡ calls
left_free slot [] none = set_past [] slot None (omega arith)
left_free zero (call ∷ calls) none = ap (λ (c : Option Running). c ∷ calls) (sym none)
left_free (suc slot) (call ∷ calls) none = ap (λ (cs : List (Option Running)). call ∷ cs) (left_free slot calls none)

-- ---- entries about the call on a slot alone

-- what is done for a call, by how it stands
module _ (stands : ℕ → Running → Stage → List Entry) where
  abbrev pub on_one : ℕ → Client → List Entry
  on_one slot k = on_call stands slot (call_on slot k.calls)

  abbrev pub on_left : ℕ → Client → List Entry
  on_left slot k = on_calls stands slot (drop slot k.calls)

  -- past the last slot nothing is left
  pub on_done : (slot : ℕ) (k : Client) → length k.calls ≤ slot → on_left slot k ≡ []
  on_done slot k most = ap (on_calls stands slot) (drop_all slot k.calls most)

  -- a slot without a call, or with this one
  pub on_none : (slot : ℕ) (k : Client) → call_on slot k.calls ≡ None → on_one slot k ≡ []
  on_none slot k none = ap (on_call stands slot) none

  pub on_some : (slot : ℕ) (k : Client) (r : Running) → call_on slot k.calls ≡ Some r → on_one slot k ≡ stands slot r r.stage
  on_some slot k r some = ap (on_call stands slot) some

  module _ (own : (slot : ℕ) (r : Running) → all_on slot (stands slot r r.stage) ≡ true)
      (unread : (slot : ℕ) (r : Running) → none_read reads_beside_calls (stands slot r r.stage) ≡ true) where
    own_call : (slot : ℕ) (call : Option Running) → all_on slot (on_call stands slot call) ≡ true
    own_call slot None = refl
    own_call slot (Some r) = own slot r

    unread_call : (slot : ℕ) (call : Option Running) → none_read reads_beside_calls (on_call stands slot call) ≡ true
    unread_call slot None = refl
    unread_call slot (Some r) = unread slot r

    -- the call on the slot, after them
    abbrev next_on : ℕ → Client → Option Running
    next_on slot k = call_turn slot (call_on slot k.calls) (on_one slot k)

    -- they change that call alone
    pub on_turn : (slot : ℕ) (k : Client) → slot < length k.calls → record k { calls = slice_set k.calls slot (next_on slot k) }
        ≡ turn k (on_one slot k)
    on_turn slot k inside =
        turned_calls k (slice_set k.calls slot (next_on slot k)) (on_one slot k) (unread_call slot (call_on slot k.calls))
        (sym (calls_turn_at slot k.calls (on_one slot k) inside (own_call slot (call_on slot k.calls))))

    -- one slot, and then what is left
    pub on_step : (slot : ℕ) (k : Client) → slot < length k.calls → on_left slot k ≡ follow (on_one slot k) (on_left (slot + 1)) k
    on_step slot k inside =
        let next : Option Running = next_on slot k in
        let left : drop (slot + 1) (slice_set k.calls slot next) ≡ drop (suc slot) k.calls =
        ap (λ (n : ℕ). drop n (slice_set k.calls slot next)) (add-one slot) ∙ drop_past slot k.calls next in
        ap (on_calls stands slot) (first_call slot k.calls inside)
        ∙ ap (λ (calls : List (Option Running)). on_one slot k ++ on_calls stands (slot + 1) calls) (sym left)
        ∙ ap (λ (j : Client). on_one slot k ++ on_left (slot + 1) j) (on_turn slot k inside)

    -- the call stands as its entries leave it, and they are marks
    module _ (marks : (slot : ℕ) (r : Running) → none_read prints (stands slot r r.stage) ≡ true) (slot : ℕ) (old new : ClientState)
        (inside : slot < length old.client.calls) (making : Making) where
      marks_call : (call : Option Running) → none_read prints (on_call stands slot call) ≡ true
      marks_call None = refl
      marks_call (Some r) = marks slot r

      pub on_marked : new ≡ with_call slot (next_on slot old.client) old → Makes (on_one slot) old new making making
      on_marked shows =
          let es : List Entry = on_one slot old.client in
          record {
            goes = goes_as (λ k. es) (on_one slot) old.client new.client making making refl
                (goes_marks old.client new.client making es (marks_call (call_on slot old.client.calls))
                (ap (λ (c : ClientState). c.client) shows ∙ on_turn slot old.client inside));
            limits = ap (λ (c : ClientState). c.limits) shows;
            spent = ap (λ (c : ClientState). c.spent) shows;
          }

      -- the same as the call tells it
      pub on_stood : (r left : Running) → call_on slot old.client.calls ≡ Some r
          → call_state.call_turn slot (Some r) (stands slot r r.stage) ≡ Some left → new ≡ with_call slot (Some left) old
          → Makes (on_one slot) old new making making
      on_stood r left some stood shows =
          let next : next_on slot old.client ≡ Some left =
          ap (λ (call : Option Running). call_turn slot call (on_call stands slot call)) some
          ∙ sym (same_call slot (Some r) (stands slot r r.stage)) ∙ stood in
          on_marked (shows ∙ ap (λ (call : Option Running). with_call slot call old) (sym next))

  -- where there is no call nothing is done
  pub on_free : (slot : ℕ) (c : ClientState) (making : Making) → call_on slot c.client.calls ≡ None → Makes (on_one slot) c c making making
  on_free slot c making none = makes_as (sym (on_none slot c.client none)) (makes_nothing c making)

  pub on_left_free : (slot : ℕ) (old new : ClientState) → call_on slot old.client.calls ≡ None → new ≡ with_call slot None old
      → (making : Making) → Makes (on_one slot) old new making making
  on_left_free slot old new none shows making =
      let same : new ≡ old = shows ∙ ap (λ (calls : List (Option Running)). record old { client = record old.client { calls = calls } })
      (left_free slot old.client.calls none) in
      subst (λ (c : ClientState). Makes (on_one slot) old c making making) (sym same) (on_free slot old making none)
