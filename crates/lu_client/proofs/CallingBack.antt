-- A lock is called back: what the client does is what the rows say, whether the lock is held, waited for, or unknown.
use Rattle.std.proofs.Common.{◌≡◌, ℕ, ◌≤◌, ◌||◌, cond, Bool, true, false, List, [], ◌∷◌, length, Some, refl, sym, ap, ◌∙◌}
use Rattle.std.specs.Prelude.{slice_get, Option, None, is_some, IfSome, IfNone, IsSomeAnd}
use Rattle.lu_base.specs.declared.ids.Node.TheVariants.{Target}
use Rattle.lu_base.specs.declared.ids.Who.{Who}
use Rattle.lu_held.specs.declared.locks.HeldLock.{HeldLock}
use Rattle.lu_held.specs.declared.locks.Change.TheVariants as lock
use Rattle.lu_held.specs.declared.names.LockName.{LockName}
use Rattle.lu_held.specs.Held.{changed, is_held}
use Rattle.lu_held.specs.Locks.{after, is_named}
use Rattle.lu_import.specs.declared.requests.InFlight.{InFlight}
use Rattle.lu_import.specs.Imports.{ImportState}
use Rattle.lu_msg.specs.declared.messages.Message.TheVariants as message
use Rattle.lu_msg.specs.declared.messages.Post.{Post}
use Rattle.lu_trace.specs.Turns.{Making, with_post}
use Rattle.lu_spec_entries.specs.Carried.{Stage, Waits, Running}
use Rattle.lu_spec_entries.specs.Words.{Entry, Marks, Send, same_life}
use Rattle.lu_spec_client.specs.Imports.{Import, import_of}
use Rattle.lu_spec_client.specs.Messages.{blocked, blocked_held, blocked_waiting, cancels_unknown, lock_blocked, waiter}
use Rattle.lu_spec_client.specs.States.{Client, store_after}
use Rattle.lu_client_store.specs.Stored.{StoreState, stored_after}
use Rattle.lu_client_refines.specs.Imports.{import_of_state}
use Rattle.lu_client_refines.proofs.Follow.{goes_post}
use Rattle.lu_client_refines.proofs.Lists.{self}
use Rattle.lu_client_refines.proofs.Turns.{turned_store}
use Rattle.lu_client_refines.proofs.Whole.{cancels_none, cancels_one}
use Rattle.lu_client.specs.Callbacks.{MarksHeld}
use Rattle.lu_client.specs.Clients.{ClientState, stored_of, with_store, Makes}
use Rattle.lu_client.proofs.Making.{makes_as, makes_mark, makes_nothing}
use Rattle.lu_client.proofs.SlotMarks.{AreMarks}

-- ---- a held lock

changes_none : (name : LockName) (locks : List HeldLock) → is_held name locks ≡ false → changed name lock.Mark locks ≡ locks
changes_none name [] none = refl
changes_none name (h ∷ locks) none = by (is_named name h) none (changes_none name locks) where
  by : (here : Bool) → (here || is_held name locks) ≡ false → (is_held name locks ≡ false → changed name lock.Mark locks ≡ locks)
      → cond here (after lock.Mark h) h ∷ changed name lock.Mark locks ≡ h ∷ locks
  by true none rest = absurd (cc)
  by false none rest = ap (λ (more : List HeldLock). h ∷ more) (rest none)

-- a lock that isn't held is no change of the store
marks_none : (name : LockName) (s : StoreState) → is_held name s.store.held ≡ false → stored_after s (Marks name) ≡ s
marks_none name s none = ap (λ (held : List HeldLock). record s { store = record s.store { held = held } })
    (changes_none name s.store.held none)

-- so a mark is put where the lock is held
pub marks_held : (name : LockName) (held : Bool) (old new : ClientState) (store : StoreState) → held ≡ is_held name old.client.store.held
    → store ≡ stored_after (stored_of old) (Marks name) → new ≡ with_store store old → MarksHeld name held old new
marks_held name true old new store is marks shows = shows ∙ ap (λ (s : StoreState). with_store s old) marks
marks_held name false old new store is marks shows = shows ∙ ap (λ (s : StoreState). with_store s old)
    (marks ∙ marks_none name (stored_of old) (sym is))

-- the row of it
pub block_marked : (name : LockName) (old new : ClientState) (who : Who) (making : Making) → same_life who old.client.who ≡ true
    → is_held name old.client.store.held ≡ true → MarksHeld name true old new
    → Makes (λ k. blocked name k (same_life who k.who)) old new making making
block_marked name old new who making ours held shows =
    makes_as (sym (ap (blocked name old.client) ours ∙ ap (blocked_held name old.client) held))
    (makes_mark (Marks name) refl refl
    (ap (λ (c : ClientState). c.client) shows ∙ turned_store old.client (store_after old.client.store (Marks name)) (Marks name ∷ []) refl
    refl)
    (ap (λ (c : ClientState). c.limits) shows) (ap (λ (c : ClientState). c.spent) shows))

-- ---- one that isn't held

pub blocked_other : (name : LockName) (k : Client) (who : Who) → same_life who k.who ≡ false → blocked name k (same_life who k.who) ≡ []
blocked_other name k who other = ap (blocked name k) other

pub blocked_unheld : (name : LockName) (k : Client) (who : Who) → same_life who k.who ≡ true → is_held name k.store.held ≡ false
    → blocked_waiting name k (waiter name 0 k.calls) ≡ blocked name k (same_life who k.who)
blocked_unheld name k who ours none = sym (ap (blocked name k) ours ∙ ap (blocked_held name k) none)

-- a call's mark is about its slot alone
pub blocked_marks : (slot : ℕ) (r : Running) (stage : Stage) → AreMarks slot (lock_blocked slot r stage)
blocked_marks slot r (Waits w target l marked) = record { here = rw (self slot) refl; quiet = refl; alone = refl }
blocked_marks slot r stage = record { here = refl; quiet = refl; alone = refl }

-- ---- one that isn't known

abbrev cancels_row : LockName → Client → List Entry
cancels_row name k = cancels_unknown k.who name (import_of name.target.0 k.imports).boot (import_of name.target.0 k.imports).flights

-- where one in flight is answered there is a first
pub first_flies : {X : Type 0} (P : X → InFlight → Type 0) (found : Option X) (requests : List InFlight) → is_some found ≡ true
    → IfSome found (λ x. IsSomeAnd (slice_get requests 0) (P x)) → (request : InFlight) × (slice_get requests 0 ≡ Some request)
first_flies P None requests some at = absurd (cc)
first_flies P (Some x) requests some at = by (slice_get requests 0) refl at where
  by : (o : Option InFlight) → slice_get requests 0 ≡ o → IsSomeAnd o (P x) → (request : InFlight) × (slice_get requests 0 ≡ Some request)
  by None is at = absurd at
  by (Some request) is at = (request, is)

-- where none is answered none is in flight
pub none_flies : {X Q : Type 0} (found : Option X) → is_some found ≡ false → IfNone found Q → Q
none_flies None none flies = flies
none_flies (Some x) none flies = absurd (cc)

-- while a request is in flight nothing is done
pub cancel_rests : (name : LockName) (c : ClientState) (i : ImportState) (request : InFlight) (making : Making)
    → import_of name.target.0 c.client.imports ≡ import_of_state i → slice_get i.in_flight 0 ≡ Some request
    → Makes (cancels_row name) c c making making
cancel_rests name c i request making known some =
    makes_as (sym (ap (λ (x : Import). cancels_unknown c.client.who name x.boot x.flights) known
    ∙ cancels_none c.client.who name i.boot i request some)) (makes_nothing c making)

-- else it is given back
pub cancel_sends : (name : LockName) (c : ClientState) (i : ImportState) (before after : Making) → import_of name.target.0 c.client.imports
    ≡ import_of_state i → length i.in_flight ≤ 0
    → after.step ≡ with_post before.at before.step (record {
      to = Target name.target.0;
      message =
          message.Cancel c.client.who i.boot name.cookie;
    }) → after.at ≡ before.at → Makes (cancels_row name) c c before after
cancel_sends name c i before after known none post at =
    let word : Post = record { to = Target name.target.0; message = message.Cancel c.client.who i.boot name.cookie } in
    let sent : Makes (λ k. Send word.to word.message ∷ []) c c before after =
    record { goes = goes_post c.client before after word post at; limits = refl; spent = refl } in
    makes_as (sym (ap (λ (x : Import). cancels_unknown c.client.who name x.boot x.flights) known
    ∙ cancels_one c.client.who name i.boot i none)) sent
