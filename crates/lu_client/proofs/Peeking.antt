-- A glimpse of another client: what is told of the size is what the rows tell.
use Rattle.std.proofs.Common.{◌≡◌, ℕ, cond, Bool, true, false, List, [], ◌∷◌, ◌++◌, find, Option, Some, None, refl, sym, ap, ◌∙◌}
use Rattle.std.specs.Prelude.{option_map}
use Rattle.lu_base.specs.declared.ids.At.{At}
use Rattle.lu_base.specs.declared.ids.Cookie.{Cookie}
use Rattle.lu_base.specs.declared.ids.Node.TheVariants.{Target}
use Rattle.lu_base.specs.declared.ids.Who.{Who}
use Rattle.lu_held.specs.declared.locks.HeldLock.{HeldLock}
use Rattle.lu_held.specs.declared.names.LockName.{LockName}
use Rattle.lu_held.specs.Locks.{is_named, lock_of, named}
use Rattle.lu_msg.specs.declared.messages.Message.TheVariants as message
use Rattle.lu_msg.specs.declared.messages.Post.{Post}
use Rattle.lu_trace.specs.declared.entries.Entry.TheVariants as printed
use Rattle.lu_trace.specs.Turns.{Making, with_line, with_post}
use Rattle.lu_spec_entries.specs.Words.{Entry, Peek, Send, same_life}
use Rattle.lu_spec_client.specs.Imports.{import_of}
use Rattle.lu_spec_client.specs.Messages.{asked, held_as, peeks, reports, size_held, Question}
use Rattle.lu_spec_client.specs.States.{Client}
use Rattle.lu_client_refines.proofs.Follow.{goes_post}
use Rattle.lu_client_refines.proofs.Turns.{turned, calls_stay, imports_stay}
use Rattle.lu_client.specs.Callbacks.{peeked}
use Rattle.lu_client.specs.Clients.{ClientState, Makes}
use Rattle.lu_client.proofs.Making.{makes_as, makes_note, makes_then}

-- the lock of a name, as it is held
pub held_found : (name : LockName) (held : List HeldLock) → option_map lock_of (find (is_named name) held) ≡ held_as name held
held_found name [] = refl
held_found name (h ∷ held) = by (is_named name h) (held_found name held) where
  by : (here : Bool) → option_map lock_of (find (is_named name) held) ≡ held_as name held
      → option_map lock_of (cond here (Some h) (find (is_named name) held)) ≡ cond here (Some h.lock) (held_as name held)
  by true rest = refl
  by false rest = rest

-- a line of the size
pub peek_noted : (t size : ℕ) (cookie : Cookie) (c : ClientState) (before after : Making) → after.step
    ≡ with_line before.at before.step (printed.Peek (record { 0 = t }) cookie size) → after.at ≡ before.at
    → Makes (λ k. peeked t cookie (Some size)) c c before after
peek_noted t size cookie c before after line at =
    let e : Entry = Peek t cookie size in
    makes_note e refl refl line at (turned c.client c.client (e ∷ []) refl refl (sym (calls_stay c.client.calls e refl))
    (sym (imports_stay c.client.imports e refl)) refl refl) refl refl

-- and the report
all_told : (at : At) (t : ℕ) (q : Question) (who : Who) (boot : ℕ) (size : Option ℕ) → peeked t q.cookie size
    ++ reports at t q who boot size ∷ [] ≡ peeks at t q who boot size
all_told at t q who boot None = refl
all_told at t q who boot (Some size) = refl

module _ (t : ℕ) (q : Question) (size : Option ℕ) (c : ClientState) (at : At) (before between after : Making) (same : at ≡ before.at) where
  -- as it is sent in this turn
  abbrev report : At → Post
  report a = record {
    to = Target t;
    message = message.Size (record {
      who = c.client.who;
      boot = (import_of t c.client.imports).boot;
      cookie = q.cookie;
      for_who = q.for_who;
      xid = q.xid;
      size = size;
      stamp = a.stamp;
    });
  }

  pub reported : Makes (λ k. peeked t q.cookie size) c c before between → after.step ≡ with_post between.at between.step (report at)
      → after.at ≡ between.at → Makes (λ k. peeks before.at t q k.who (import_of t k.imports).boot size) c c before after
  reported line post ends =
      let boot : ℕ = (import_of t c.client.imports).boot in
      let word : Post = report before.at in
      let sent : Makes (λ k. Send word.to word.message ∷ []) c c between after =
      record {
        goes = goes_post c.client between after word (post ∙ ap (λ (a : At). with_post between.at between.step (report a)) same)
            ends;
        limits = refl;
        spent = refl;
      } in
      makes_as (all_told before.at t q c.client.who boot size) (makes_then line sent)

-- a glimpse of another life
pub asked_other : (at : At) (t : ℕ) (q : Question) (k : Client) (who : Who) → same_life who k.who ≡ false
    → asked at t q k (same_life who k.who) ≡ []
asked_other at t q k who other = ap (asked at t q k) other

-- of this one
pub asked_ours : (at : At) (t : ℕ) (q : Question) (k : Client) (who : Who) (size : Option ℕ) → same_life who k.who ≡ true → size
    ≡ size_held k.store (held_as (named (record { 0 = t }) q.cookie) k.store.held)
    → peeks at t q k.who (import_of t k.imports).boot size ≡ asked at t q k (same_life who k.who)
asked_ours at t q k who size ours is = ap (peeks at t q k.who (import_of t k.imports).boot) is ∙ sym (ap (asked at t q k) ours)
