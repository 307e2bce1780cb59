-- What a grant or a callback of a lock makes of a client, and what a glimpse of another client asks.
use Rattle.std.specs.Prelude.{◌≡◌, ℕ, Bool, true, false, List, [], ◌∷◌, Option, Some, None}
use Rattle.lu_base.specs.declared.ids.Cookie.{Cookie}
use Rattle.lu_call.specs.declared.hearing.CameLock.{CameLock}
use Rattle.lu_held.specs.declared.names.LockName.{LockName}
use Rattle.lu_msg.specs.declared.messages.GrantNotice.{GrantNotice}
use Rattle.lu_spec_entries.specs.Carried.{Running}
use Rattle.lu_spec_entries.specs.Words.{Entry, Marks, Peek}
use Rattle.lu_spec_client.specs.Calls.{call_on}
use Rattle.lu_spec_client.specs.Messages.{is_waiter, lock_granted, on_slot, Question}
use Rattle.lu_client_store.specs.Stored.{stored_after}
use Rattle.lu_call.specs.Hearing.{comes_by_grant}
use Rattle.lu_client.specs.Clients.{ClientState, stored_of, with_call, with_store}
use Rattle.lu_client.specs.declared.glimpses.Question.{Question as QuestionAsked}

-- ---- a grant

-- The call on a slot goes on with the lock that came, which has the name that it waited for.
pub record IsGranted (t : ℕ) (g : GrantNotice) (slot : ℕ) (old new : ClientState) (came : CameLock) : Type 0 where
  pub next : Running
  pub row : on_slot (lock_granted t g) (Some slot) old.client ≡ comes_by_grant t g slot next (Some came)
  pub cookie : (name : LockName) → is_waiter name (call_on slot old.client.calls) ≡ true → came.lock.cookie ≡ name.cookie
  pub shows : new ≡ with_call slot (Some next) old

-- It waits for no lock.
pub record IsUnmet (t : ℕ) (g : GrantNotice) (slot : ℕ) (old new : ClientState) : Type 0 where
  pub row : on_slot (lock_granted t g) (Some slot) old.client ≡ []
  pub stays : new ≡ old

abbrev pub GrantGoes : ℕ → GrantNotice → ℕ → ClientState → ClientState → Option CameLock → Type 0
GrantGoes t g slot old new None = IsUnmet t g slot old new
GrantGoes t g slot old new (Some came) = IsGranted t g slot old new came

-- ---- a callback

-- a held lock is marked; where none is held nothing is done
abbrev pub MarksHeld : LockName → Bool → ClientState → ClientState → Type 0
MarksHeld name true old new = new ≡ with_store (stored_after (stored_of old) (Marks name)) old
MarksHeld name false old new = new ≡ old

-- ---- a glimpse

-- what is asked, as the rows read it
abbrev pub question_of : QuestionAsked → Question
question_of q = record { cookie = q.cookie; for_who = q.for_who; xid = q.xid }

-- the line of a size that is told, if any
abbrev pub peeked : ℕ → Cookie → Option ℕ → List Entry
peeked t cookie None = []
peeked t cookie (Some size) = Peek t cookie size ∷ []
