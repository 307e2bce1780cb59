-- What it means to a client that a target serves its life: how the import stands then, what is sent again, and which
-- calls make an ask again that was forgotten.
use Rattle.std.specs.Prelude.{◌≡◌, ℕ, List, length, drop}
use Rattle.lu_msg.specs.declared.messages.Post.{Post}
use Rattle.lu_trace.specs.Turns.{Making}
use Rattle.lu_spec_entries.specs.Words.{Entry, Serves, Settles}
use Rattle.lu_spec_client.specs.Calls.{call_on}
use Rattle.lu_spec_client.specs.Imports.{import_of, imports_after}
use Rattle.lu_spec_client.specs.Recovery.{looks_stage, on_call, on_calls, ticks}
use Rattle.lu_spec_client.specs.Sending.{resends}
use Rattle.lu_spec_client.specs.States.{Client}
use Rattle.lu_client_refines.specs.Posts.{posted}
use Rattle.lu_client_refines.specs.Rounds.{ticks_left}
use Rattle.lu_client.specs.Clients.{ClientState, with_imports, Remains}

-- The target serves the life in this boot, and all up to a number is committed; these messages are what is in flight
-- there, sent again.
pub record IsServed (t boot committed : ℕ) (old new : ClientState) (again : List Post) : Type 0 where
  pub shows : new ≡ with_imports (imports_after (imports_after old.client.imports (Serves t boot)) (Settles t committed)) old
  pub sends : posted again ≡ resends old.client.who boot t (import_of t old.client.imports).flights

-- ---- asks that were forgotten

-- The call on one slot makes its ask again, if it was forgotten at this target, and so those from that slot on.
abbrev pub looks_one : ℕ → ℕ → Client → List Entry
looks_one t slot k = on_call (looks_stage t) slot (call_on slot k.calls)

abbrev pub looks_left : ℕ → ℕ → Client → List Entry
looks_left t slot k = on_calls (looks_stage t) slot (drop slot k.calls)

-- In the middle: this slot and those after it are left, of as many as there were.
pub record LooksOn (t slot : ℕ) (first now : ClientState) : Type 0 where
  pub remains : (making : Making) → Remains (λ k. on_calls (looks_stage t) 0 k.calls) (looks_left t slot) first now making making
  pub slots : length now.client.calls ≡ length first.client.calls

-- ---- ticks

-- In the middle: this target and those after it are left, and the client is as it was.
pub record TicksOn (t : ℕ) (first now : ClientState) (before making : Making) : Type 0 where
  pub remains : Remains (λ k. ticks 0 k.imports k) (ticks_left t) first now before making
  pub still : now.client ≡ first.client
