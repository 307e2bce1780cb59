-- A call begins on a slot: it stands there, or is told at once that its handle is bad.
use Rattle.std.proofs.Common.{◌≡◌, ℕ, [], ◌∷◌, List, Option, Some, None, refl, sym, ap, subst, ◌∙◌}
use Rattle.std.specs.Prelude.{slice_set}
use Rattle.lu_base.specs.declared.ids.At.{At}
use Rattle.lu_msg.specs.declared.answers.Answer.TheVariants as answer
use Rattle.lu_msg.specs.declared.answers.Errno.TheVariants.{EBADF}
use Rattle.lu_msg.specs.declared.calls.Call.{Call}
use Rattle.lu_trace.specs.declared.entries.Entry.TheVariants as line
use Rattle.lu_trace.specs.Turns.{Making, with_line}
use Rattle.lu_spec_entries.specs.Carried.{HandleFile, Plain, Bad, Running}
use Rattle.lu_spec_entries.specs.Words.{Entry, Begin, Told, Unbinds}
use Rattle.lu_spec_client.specs.Calls.{call_on, calls_after, unbound}
use Rattle.lu_spec_client.specs.Slots.{begun, refuses}
use Rattle.lu_spec_client.specs.States.{after}
use Rattle.lu_client_refines.specs.Turns.{calls_turn}
use Rattle.lu_client_refines.proofs.Slots.{calls_begin, calls_refused}
use Rattle.lu_client_refines.proofs.Turns.{turned_calls, turned_handles}
use Rattle.lu_client.specs.Clients.{ClientState, with_call, with_handles, Makes}
use Rattle.lu_client.proofs.Making.{makes_note, makes_mark, makes_on}

-- a client with these calls
abbrev Calling : ClientState → List (Option Running) → ClientState
Calling c calls = record c { client = record c.client { calls = calls } }

-- the call stands on its slot
pub stood : (c : ClientState) (before after : Making) (slot : ℕ) (call : Call) (at : At) (file : Option HandleFile) → at ≡ before.at
    → after.step ≡ with_line before.at before.step (line.Begin slot call) → after.at ≡ before.at
    → Makes (λ k. Begin slot (begun before.at call file Plain) ∷ []) c (with_call slot (Some (begun at call file Plain)) c) before after
stood c before after slot call at file same step stays =
    subst (λ (a : At). Makes (λ k. Begin slot (begun before.at call file Plain) ∷ []) c (with_call slot (Some (begun a call file Plain)) c)
    before after) (sym same)
    (makes_note (Begin slot (begun before.at call file Plain)) refl refl step stays
    (turned_calls c.client (slice_set c.client.calls slot (Some (begun before.at call file Plain)))
    (Begin slot (begun before.at call file Plain) ∷ []) refl (sym (calls_begin slot c.client.calls (begun before.at call file Plain))))
    refl refl)

-- it begins, and is told that its handle is bad: the slot is free as before
pub refused : (c : ClientState) (before between after : Making) (slot : ℕ) (call : Call) (at : At) → call_on slot c.client.calls ≡ None → at
    ≡ between.at
    → between.step ≡ with_line before.at before.step (line.Begin slot call) → between.at ≡ before.at → after.step
    ≡ with_line between.at between.step (line.Told slot at (answer.Refused EBADF)) → after.at ≡ between.at
    → Makes (λ k. refuses before.at slot call) c c before after
refused c before between after slot call at free same one stays two ends =
    let r : Running = begun before.at call None Bad in
    let told : Entry = Told slot before.at (answer.Refused EBADF) None in
    let mid : ClientState = Calling c (calls_after c.client.calls (Begin slot r)) in
    let begins : Makes (λ k. Begin slot r ∷ []) c mid before between =
    makes_note (Begin slot r) refl refl one stays (turned_calls c.client mid.client.calls (Begin slot r ∷ []) refl refl) refl refl in
    let first : at ≡ before.at = same ∙ stays in
    let step : after.step ≡ with_line between.at between.step (line.Told slot before.at (answer.Refused EBADF)) =
    two ∙ ap (λ (a : At). with_line between.at between.step (line.Told slot a (answer.Refused EBADF))) first in
    let back : c.client.calls ≡ calls_turn mid.client.calls (told ∷ []) =
    sym (calls_refused slot c.client.calls r before.at (answer.Refused EBADF) None free) in
    makes_on begins (makes_note told refl refl step ends (turned_calls mid.client c.client.calls (told ∷ []) refl back) refl refl)

-- a close unbinds its handle
pub unbinds : (c : ClientState) (m : Making) (h : ℕ) → Makes (λ k. Unbinds h ∷ []) c (with_handles (unbound h c.client.handles) c) m m
unbinds c m h =
    makes_mark (Unbinds h) refl refl (turned_handles c.client (unbound h c.client.handles) (Unbinds h ∷ []) refl refl) refl refl
