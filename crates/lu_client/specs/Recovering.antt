-- What a client tells a target that is up again or doesn't serve the life yet, and what it forgets before.
use Rattle.std.specs.Prelude.{◌≡◌, ℕ, Bool, true, false, List, ◌∷◌, ◌++◌, length, drop}
use Rattle.lu_msg.specs.declared.messages.Post.{Post}
use Rattle.lu_trace.specs.Turns.{Making}
use Rattle.lu_spec_entries.specs.Words.{Entry, Knows}
use Rattle.lu_spec_client.specs.Calls.{call_on}
use Rattle.lu_spec_client.specs.Imports.{Standing, Joining, interrupted, import_of, imports_after}
use Rattle.lu_spec_client.specs.Recovery.{forgets_stage, on_call, on_calls, up}
use Rattle.lu_spec_client.specs.States.{Client}
use Rattle.lu_client_refines.specs.Posts.{posted}
use Rattle.lu_client_refines.specs.Rounds.{ticks_one}
use Rattle.lu_client_refines.specs.Telling.{forgets}
use Rattle.lu_client.specs.Clients.{ClientState, Remains, with_imports}

-- ---- what is told

-- The target is up in a boot above the known one: the client knows it, and once it forgot what it waits for there, it tells
-- these messages.
pub record IsUp (t boot : ℕ) (posts : List Post) (old new : ClientState) : Type 0 where
  pub row : up t boot old.client ≡ Knows t boot ∷ forgets t old.client.calls (interrupted (import_of t old.client.imports).standing)
      ++ posted posts
  pub shows : new ≡ with_imports (imports_after old.client.imports (Knows t boot)) old

-- The known boot is told again: these messages are what a tick tells, and nothing has changed.
pub record IsTold (t : ℕ) (posts : List Post) (old new : ClientState) : Type 0 where
  pub row : ticks_one t old.client ≡ posted posts
  pub stays : new ≡ old

-- ---- what is forgotten

-- whether the life is joining there
abbrev pub is_joining : Standing → Bool
is_joining Joining = true
is_joining _ = false

-- what a client forgets at a target that is up again, as its life stands there
abbrev pub forgets_row : ℕ → Client → List Entry
forgets_row t k = forgets t k.calls (import_of t k.imports).standing

-- The call on one slot forgets a lock of the target that it waits for, and so do those from that slot on.
abbrev pub forgets_one : ℕ → ℕ → Client → List Entry
forgets_one t slot k = on_call (forgets_stage t) slot (call_on slot k.calls)

abbrev pub forgets_left : ℕ → ℕ → Client → List Entry
forgets_left t slot k = on_calls (forgets_stage t) slot (drop slot k.calls)

-- In the middle: this slot and those after it are left, of as many as there were.
pub record ForgetsOn (t slot : ℕ) (first now : ClientState) : Type 0 where
  pub remains : (making : Making) → Remains (λ k. on_calls (forgets_stage t) 0 k.calls) (forgets_left t slot) first now making making
  pub slots : length now.client.calls ≡ length first.client.calls
