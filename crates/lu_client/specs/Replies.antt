-- What a client makes of a reply: the request that it answers, and what is held and known after it.
use Rattle.std.specs.Prelude.{◌≡◌, ℕ, if◌then◌else◌, true, List, [], ◌∷◌, Option, None}
use Rattle.lu_base.specs.declared.locks.Lock.{Lock}
use Rattle.lu_msg.specs.declared.messages.Reply.{Reply as ReplyTo}
use Rattle.lu_trace.specs.Turns.{Making}
use Rattle.lu_spec_entries.specs.Carried.{Flight, Running}
use Rattle.lu_spec_entries.specs.Given.{giving}
use Rattle.lu_spec_entries.specs.Words.{Entry, Heard}
use Rattle.lu_spec_client.specs.Calls.{calls_after}
use Rattle.lu_spec_client.specs.Imports.{import_of, imports_after}
use Rattle.lu_spec_client.specs.Messages.{find_flight, holds, is_present}
use Rattle.lu_spec_client.specs.States.{Client}
use Rattle.lu_client_store.specs.Stored.{stored_turn}
use Rattle.lu_client.specs.declared.replies.Asked.{Asked}
use Rattle.lu_client.specs.Clients.{ClientState, stored_of, with_imports, with_store}
use Rattle.lu_client.specs.Comings.{are_new}

-- ---- the request that is answered

-- the one in flight, if any, that a reply of this life and the known boot answers
abbrev pub answered : ℕ → ReplyTo → Client → Option Flight
answered t r k = if is_present r.who r.boot t k then find_flight r.xid.0 (import_of t k.imports).flights else None

-- what it asks, and for which call
abbrev pub asked_of : Flight → Asked
asked_of f = record { slot = f.slot; op = f.op }

-- ---- it was answered

abbrev pub with_calls : List (Option Running) → ClientState → ClientState
with_calls calls c = record c { client = record c.client { calls = calls } }

-- its call is told, and it isn't in flight any more
abbrev pub with_reply : ℕ → Flight → ReplyTo → ClientState → ClientState
with_reply t f r c =
    with_calls (calls_after c.client.calls (Heard t f r)) (with_imports (imports_after c.client.imports (Heard t f r)) c)

-- The reply was heard so, and the line of it was given. The locks that it brings aren't held yet.
pub record IsTaken (t : ℕ) (f : Flight) (r : ReplyTo) (old new : ClientState) (before after : Making) : Type 0 where
  pub gives : after ≡ giving before (Heard t f r ∷ [])
  pub shows : new ≡ with_reply t f r old

-- ---- what it brings

-- What is held and known is as these entries leave it, and their lines were given.
pub record Stores (es : List Entry) (old new : ClientState) (before after : Making) : Type 0 where
  pub gives : after ≡ giving before es
  pub shows : new ≡ with_store (stored_turn (stored_of old) es) old

-- In the middle: these locks are left to hold, and once they are held, all are.
pub record HoldsOn (t : ℕ) (size : Option ℕ) (locks left : List Lock) (first now : ClientState) (before making : Making) : Type 0 where
  pub new : are_new t left now.client.store.held ≡ true
  pub ends : (seen : List ℕ) (last : ClientState) (end : Making) → Stores (holds t size seen left) now last making end
      → Stores (holds t size seen locks) first last before end
