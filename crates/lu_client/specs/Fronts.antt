-- What a client sends to a target: the front of its queue, and then the next one, as long as there is room.
use Rattle.std.specs.Prelude.{◌≡◌, ◌≢◌, ℕ, ◌+◌, ◌≤◌, Bool, true, false, List, [], length, slice_set, Option, Some, None}
use Rattle.lu_msg.specs.declared.messages.Message.{Message}
use Rattle.lu_msg.specs.Limits.{tag_count}
use Rattle.lu_trace.specs.Turns.{Making}
use Rattle.lu_spec_entries.specs.Words.{Entry}
use Rattle.lu_spec_client.specs.Imports.{Import, import_of}
use Rattle.lu_spec_client.specs.States.{Client, follow}
use Rattle.lu_client_refines.specs.Rounds.{sends_one, sends_left}
use Rattle.lu_client_refines.specs.Sending.{SendsFront, front_sent}
use Rattle.lu_client.specs.Clients.{ClientState, with_imports, Makes, Remains}

-- ---- the front of one target's queue

-- It goes out as this message; the target's import is another after it.
pub record IsNext (t : ℕ) (old new : ClientState) (m : Message) : Type 0 where
  pub import : Import
  pub front : SendsFront old.limits old.client.who t (import_of t old.client.imports) import m
  pub shows : new ≡ with_imports (slice_set old.client.imports t import) old
  pub room : length import.flights ≤ tag_count

-- Nothing may be sent.
pub record MustRest (t : ℕ) (old new : ClientState) : Type 0 where
  pub row : sends_one old.limits t old.client ≡ []
  pub stays : new ≡ old

abbrev pub NextIs : ℕ → ClientState → ClientState → Option Message → Type 0
NextIs t old new None = MustRest t old new
NextIs t old new (Some m) = IsNext t old new m

-- the entries of it
abbrev pub front_row : ℕ → Client → List Entry
front_row t k = front_sent k.who t (import_of t k.imports)

-- It was sent, and what the rows send after it is left.
pub record IsFrontSent (t : ℕ) (old new : ClientState) (before after : Making) : Type 0 where
  pub makes : Makes (front_row t) old new before after
  pub left : sends_one old.limits t old.client ≡ follow (front_row t old.client) (sends_one old.limits t) old.client
  pub import : Import
  pub shows : new.client.imports ≡ slice_set old.client.imports t import
  pub number : import.last ≡ (import_of t old.client.imports).last + 1
  pub flights : length import.flights ≡ length (import_of t old.client.imports).flights + 1
  pub shorter : length (import_of t old.client.imports).queue ≡ length import.queue + 1
  pub room : length import.flights ≤ tag_count

-- Nothing may be sent, and nothing was given.
pub record IsFrontKept (t : ℕ) (old new : ClientState) (before after : Making) : Type 0 where
  pub rests : MustRest t old new
  pub given : after ≡ before

abbrev pub FrontGoes : ℕ → Bool → ClientState → ClientState → Making → Making → Type 0
FrontGoes t true old new before after = IsFrontSent t old new before after
FrontGoes t false old new before after = IsFrontKept t old new before after

-- ---- one target

-- This target alone was asked more, at most 8 requests.
pub record IsCountedAt (t : ℕ) (old new : List Import) : Type 0 where
  pub here : (import_of t new).last ≤ (import_of t old).last + tag_count
  pub others : (u : ℕ) → u ≢ t → import_of u new ≡ import_of u old
  pub count : length new ≡ length old

-- In the middle: the rest is left, and as many numbers were used as requests went into flight.
pub record SendsOn (t : ℕ) (first now : ClientState) (before making : Making) : Type 0 where
  pub remains : Remains (sends_one first.limits t) (sends_one first.limits t) first now before making
  pub used : (import_of t now.client.imports).last + length (import_of t first.client.imports).flights
      ≡ (import_of t first.client.imports).last + length (import_of t now.client.imports).flights
  pub counted : IsCountedAt t first.client.imports now.client.imports

-- ---- all targets

-- In the middle: this target and those after it are left, and nothing was sent to them.
pub record SendsToAll (t : ℕ) (first now : ClientState) (before making : Making) : Type 0 where
  pub remains : Remains (sends_left first.limits 0) (sends_left first.limits t) first now before making
  pub counted : (u : ℕ) → (import_of u now.client.imports).last ≤ (import_of u first.client.imports).last + tag_count
  pub still : (u : ℕ) → t ≤ u → import_of u now.client.imports ≡ import_of u first.client.imports
  pub count : length now.client.imports ≡ length first.client.imports
