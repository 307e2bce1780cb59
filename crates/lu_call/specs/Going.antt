-- What a call does when it goes on: the entries of the client's rows that it makes, and what it leaves to its client.
use Rattle.std.specs.Prelude.{◌≡◌, ℕ, ◌==◌, ◌&&◌, Bool, true, false, List, [], ◌∷◌, Option, Some, None}
use Rattle.lu_msg.specs.declared.operations.Op.{Op}
use Rattle.lu_spec_entries.specs.Carried.{Queued, Running}
use Rattle.lu_spec_entries.specs.Words.{Entry, Told, Queues, Stands, Binds, Pins, Unpins, Changes, WritesBack, Shows}
use Rattle.lu_spec_client.specs.Advances.{queued_for}
use Rattle.lu_client_store.specs.Stored.{StoreState, stored_turn}
use Rattle.lu_call.specs.declared.nexts.Next.{Next}
use Rattle.lu_call.specs.declared.nexts.Next.TheVariants as next
use Rattle.lu_call.specs.declared.nexts.Binding.{Binding}
use Rattle.lu_call.specs.Views.{file_of}
pub use Rattle.lu_call.specs.Turning.{call_turn}

-- ---- entries of a call that goes on

-- those that a call makes: of its own slot, of the locks and objects that it uses, and what it asks
abbrev pub is_own : ℕ → Entry → Bool
is_own slot (Stands s running) = s == slot
is_own slot (Told s at answer work) = s == slot
is_own slot (Queues target queued) = true
is_own slot (Binds handle file) = true
is_own slot (Pins name) = true
is_own slot (Unpins name) = true
is_own slot (Changes resource change) = true
is_own slot (WritesBack resource change) = true
is_own slot (Shows resource cookie last) = true
is_own slot _ = false

abbrev pub are_own : ℕ → List Entry → Bool
are_own slot [] = true
are_own slot (e ∷ es) = is_own slot e && are_own slot es

-- what its client does with them: it queues requests, binds a handle, and tells the answer
abbrev pub outward : List Entry → List Entry
outward [] = []
outward (Queues target queued ∷ es) = Queues target queued ∷ outward es
outward (Binds handle file ∷ es) = Binds handle file ∷ outward es
outward (Told slot at answer work ∷ es) = Told slot at answer None ∷ outward es
outward (_ ∷ es) = outward es

-- ---- what is left to its client

abbrev pub back_of : Op → Queued
back_of o = record { slot = None; op = o }

abbrev pub binds : Option Binding → List Entry → List Entry
binds None es = es
binds (Some b) es = Binds b.handle (file_of b.file) ∷ es

abbrev pub entries_of : ℕ → Next → List Entry
entries_of slot next.Waits = []
entries_of slot (next.Asks target o) = Queues target.0 (queued_for slot o) ∷ []
entries_of slot (next.WritesBack target o) = Queues target.0 (back_of o) ∷ []
entries_of slot (next.Told at answer binding) = binds binding (Told slot at answer None ∷ [])

-- the call after it: none where it is told
abbrev pub standing : Next → Running → Option Running
standing (next.Told at answer binding) r = None
standing _ r = Some r

-- It goes on by these entries: the store is what they make of it, its client is left to do the rest, and the call stands as
-- they say, however it stood.
pub record GoesBy (es : List Entry) (slot : ℕ) (new : Running) (before after : StoreState) (out : Next) : Type 0 where
  pub own : are_own slot es ≡ true
  pub store : after ≡ stored_turn before es
  pub said : outward es ≡ entries_of slot out
  pub call : (c : Running) → call_turn slot (Some c) es ≡ standing out new

-- The same, of a call that may stand as it stood.
pub record GoesFrom (es : List Entry) (slot : ℕ) (old new : Running) (before after : StoreState) (out : Next) : Type 0 where
  pub own : are_own slot es ≡ true
  pub store : after ≡ stored_turn before es
  pub said : outward es ≡ entries_of slot out
  pub call : call_turn slot (Some old) es ≡ standing out new
