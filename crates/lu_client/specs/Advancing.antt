-- How a client's call goes on: which close waits for other calls, what the call leaves to its client, and what the client does
-- with it.
use Rattle.std.specs.Prelude.{◌≡◌, ℕ, nat_lt, if◌then◌else◌, Bool, false, List, ◌∷◌, Option, Some, None, option_map}
use Rattle.lu_base.specs.declared.ids.At.{At}
use Rattle.lu_base.specs.declared.ids.Txn.{Txn}
use Rattle.lu_msg.specs.declared.calls.Call.{Call}
use Rattle.lu_msg.specs.declared.calls.Call.TheVariants as call
use Rattle.lu_trace.specs.Turns.{Making}
use Rattle.lu_spec_entries.specs.Carried.{HandleFile, Running}
use Rattle.lu_spec_entries.specs.Words.{Queues}
use Rattle.lu_spec_client.specs.Advances.{queued_for}
use Rattle.lu_spec_client.specs.Calls.{Bound}
use Rattle.lu_spec_client.specs.Imports.{imports_after}
use Rattle.lu_spec_client.specs.Slots.{goes_at, is_close}
use Rattle.lu_spec_client.specs.Starts.{count_on}
use Rattle.lu_client_store.specs.Stored.{StoreState}
use Rattle.lu_call.specs.declared.nexts.Binding.{Binding}
use Rattle.lu_call.specs.declared.nexts.Next.{Next}
use Rattle.lu_call.specs.declared.nexts.Next.TheVariants as next
use Rattle.lu_call.specs.Going.{GoesFrom, back_of, entries_of}
pub use Rattle.lu_call.specs.Hearing.{is_plain}
use Rattle.lu_call.specs.Starting.{alone}
use Rattle.lu_spec_entries.specs.Given.{giving}
use Rattle.lu_client.specs.Clients.{ClientState, bound_of, with_handles, with_call, with_imports, stored_of, with_store}

-- ---- a close that waits

-- of a close that has asked nothing, the number of its open
abbrev pub number_of : Option HandleFile → Option Txn
number_of file = option_map (λ (f : HandleFile). f.number) file

abbrev pub close_number : Option Running → Option Txn
close_number None = None
close_number (Some r) = if is_close r.call r.asking then number_of r.file else None

-- more than one call is on the open of this number
abbrev pub is_crowded : List (Option Running) → Option Txn → Bool
is_crowded calls None = false
is_crowded calls (Some number) = nat_lt 1 (count_on number.0 calls)

-- of a close that begins, the number of its open
abbrev pub begun_number : Option Running → Option Txn
begun_number None = None
begun_number (Some r) = if is_plain r.stage then close_number (Some r) else None

-- it waits while other calls are on its open
abbrev pub must_wait : List (Option Running) → Option Running → Bool
must_wait calls call = is_crowded calls (begun_number call)

-- ---- what a call leaves to its client

-- A call went as far as it could: it stands otherwise, and the store has what it made of it.
pub record IsAdvanced (at : At) (slot : ℕ) (r : Running) (old new : ClientState) (out : Next) : Type 0 where
  pub left : Running
  pub after : StoreState
  pub goes : GoesFrom (goes_at at slot r.stage r (alone r (stored_of old))) slot r left (stored_of old) after out
  pub shows : new ≡ with_store after (with_call slot (Some left) old)

-- where there is no call nothing is done
abbrev pub Advances : At → ℕ → Option Running → ClientState → ClientState → Next → Type 0
Advances at slot None old new out = (new ≡ old) × (out ≡ next.Waits)
Advances at slot (Some r) old new out = IsAdvanced at slot r old new out

-- ---- what its client does then

-- a handle, if any, is bound
abbrev pub bound_by : Option Binding → List Bound → List Bound
bound_by None handles = handles
bound_by (Some b) handles = bound_of b ∷ handles

-- it queues what is asked, or binds a handle and frees the slot
abbrev pub finished : ℕ → Next → ClientState → ClientState
finished slot next.Waits c = c
finished slot (next.Asks target o) c = with_imports (imports_after c.client.imports (Queues target.0 (queued_for slot o))) c
finished slot (next.WritesBack target o) c = with_imports (imports_after c.client.imports (Queues target.0 (back_of o))) c
finished slot (next.Told at answer binding) c = with_call slot None (with_handles (bound_by binding c.client.handles) c)

-- It did so, and gave the lines of it.
pub record Finishes (slot : ℕ) (out : Next) (old new : ClientState) (before after : Making) : Type 0 where
  pub gives : after ≡ giving before (entries_of slot out)
  pub shows : new ≡ finished slot out old

-- ---- the call that begins

-- the handle of a call on a handle that isn't a close
abbrev pub handle_of : Call → Option ℕ
handle_of (call.Read h p n) = Some h
handle_of (call.Write h p bs) = Some h
handle_of (call.Cut h n) = Some h
handle_of (call.Flush h) = Some h
handle_of (call.Glimpse h) = Some h
handle_of _ = None

-- a call that is neither an open nor a close
abbrev pub IsOther : Call → Type 0
IsOther (call.Open h path) = ⊥
IsOther (call.Close h) = ⊥
IsOther _ = Unit {0}
