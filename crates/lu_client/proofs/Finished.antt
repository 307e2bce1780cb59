-- A call goes on and its client does what it left: the call is taken out of its slot and put back, a request is queued, or the
-- answer is told.
use Rattle.std.proofs.Common.{◌≡◌, ℕ, zero, suc, nat_lt, false, [], ◌∷◌, List, Option, Some, None, refl, sym, ap, subst, ◌∙◌}
use Rattle.std.specs.Prelude.{slice_set}
use Rattle.std.proofs.lemmas.List.{set-set}
use Rattle.lu_base.specs.declared.ids.At.{At}
use Rattle.lu_base.specs.declared.ids.TargetId.{TargetId}
use Rattle.lu_base.specs.declared.ids.Txn.{Txn}
use Rattle.lu_call.specs.declared.nexts.Binding.{Binding}
use Rattle.lu_call.specs.declared.nexts.Next.{Next}
use Rattle.lu_call.specs.declared.nexts.Next.TheVariants as next
use Rattle.lu_call.specs.Going.{GoesFrom, back_of, entries_of}
use Rattle.lu_call.specs.Starting.{alone}
use Rattle.lu_call.specs.Views.{file_of}
use Rattle.lu_client_refines.proofs.Follow.{giving_none, giving_mark, giving_past, noted}
use Rattle.lu_spec_client.specs.Advances.{queued_for}
use Rattle.lu_spec_client.specs.Calls.{call_on}
use Rattle.lu_spec_client.specs.Imports.{imports_after}
use Rattle.lu_spec_client.specs.Slots.{goes_at}
use Rattle.lu_spec_client.specs.Starts.{count_on}
use Rattle.lu_client_store.specs.Stored.{StoreState}
use Rattle.lu_msg.specs.declared.answers.Answer.{Answer}
use Rattle.lu_msg.specs.declared.operations.Op.{Op}
use Rattle.lu_trace.specs.declared.entries.Entry.TheVariants as line
use Rattle.lu_trace.specs.Turns.{Making, with_line}
use Rattle.lu_spec_entries.specs.Carried.{Running}
use Rattle.lu_spec_entries.specs.Given.{giving}
use Rattle.lu_spec_entries.specs.Words.{Binds, Queues, Told}
use Rattle.lu_client.specs.Advancing.{Advances, Finishes, begun_number, bound_by, is_crowded, must_wait}
use Rattle.lu_client.specs.Clients.{ClientState, stored_of, with_call, with_handles, with_imports, with_store}

-- ---- a close that waits

-- more than one call is on the open of the close on the slot
pub crowd : (slot : ℕ) (calls : List (Option Running)) (r : Running) (number : Txn) (count : ℕ) → call_on slot calls ≡ Some r → Some number
    ≡ begun_number (Some r) → count ≡ count_on number.0 calls → nat_lt 1 count ≡ must_wait calls (call_on slot calls)
crowd slot calls r number count some is same = ap (nat_lt 1) same ∙ ap (is_crowded calls) is ∙ ap (must_wait calls) (sym some)

-- or no close begins there
pub no_crowd : (slot : ℕ) (calls : List (Option Running)) (r : Running) → call_on slot calls ≡ Some r → None ≡ begun_number (Some r) → false
    ≡ must_wait calls (call_on slot calls)
no_crowd slot calls r some is = ap (is_crowded calls) is ∙ ap (must_wait calls) (sym some)

-- ---- a call goes on

-- it was taken out of its slot, and put back
shown_back : (slot : ℕ) (c : ClientState) (left : Running) (stored : StoreState)
    → with_call slot (Some left) (with_store stored (with_call slot None c)) ≡ with_store stored (with_call slot (Some left) c)
shown_back slot c left stored =
    ap (λ (calls : List (Option Running)). record (with_store stored c) { client = record (with_store stored c).client { calls = calls } })
    (set-set c.client.calls slot None (Some left))

pub went : (at : At) (slot : ℕ) (c new : ClientState) (r left : Running) (stored : StoreState) (out : Next) → call_on slot c.client.calls
    ≡ Some r
    → GoesFrom (goes_at at slot r.stage r (alone r (stored_of c))) slot r left (stored_of c) stored out
    → new ≡ with_call slot (Some left) (with_store stored (with_call slot None c))
    → Advances at slot (call_on slot c.client.calls) c new out
went at slot c new r left stored out some goes back =
    subst (λ (call : Option Running). Advances at slot call c new out) (sym some)
    (record { left = left; after = stored; goes = goes; shows = back ∙ shown_back slot c left stored })

-- there was none
none_stays : (slot : ℕ) (calls : List (Option Running)) → call_on slot calls ≡ None → slice_set calls slot None ≡ calls
none_stays slot [] none = refl
none_stays zero (call ∷ calls) none = ap (λ (c : Option Running). c ∷ calls) (sym none)
none_stays (suc slot) (call ∷ calls) none = ap (λ (cs : List (Option Running)). call ∷ cs) (none_stays slot calls none)

pub stayed : (at : At) (slot : ℕ) (c new : ClientState) → call_on slot c.client.calls ≡ None → new ≡ with_call slot None c
    → Advances at slot (call_on slot c.client.calls) c new next.Waits
stayed at slot c new none taken =
    subst (λ (call : Option Running). Advances at slot call c new next.Waits) (sym none) (
      taken ∙ ap (λ (calls : List (Option Running)). record c { client = record c.client { calls = calls } })
          (none_stays slot c.client.calls none),
      refl,
    )

-- ---- what its client does then

pub finished_nothing : (slot : ℕ) (c : ClientState) (m : Making) → Finishes slot next.Waits c c m m
finished_nothing slot c m = record { gives = sym (giving_none m); shows = refl }

-- a request is queued
pub finished_asking : (slot : ℕ) (target : TargetId) (o : Op) (c new : ClientState) (m : Making)
    → new ≡ with_imports (imports_after c.client.imports (Queues target.0 (queued_for slot o))) c
    → Finishes slot (next.Asks target o) c new m m
finished_asking slot target o c new m queued = record {
  gives = sym (giving_mark m (Queues target.0 (queued_for slot o)) refl refl);
  shows =
      queued;
}

pub finished_writing : (slot : ℕ) (target : TargetId) (o : Op) (c new : ClientState) (m : Making)
    → new ≡ with_imports (imports_after c.client.imports (Queues target.0 (back_of o))) c
    → Finishes slot (next.WritesBack target o) c new m m
finished_writing slot target o c new m queued = record {
  gives = sym (giving_mark m (Queues target.0 (back_of o)) refl refl);
  shows =
      queued;
}

-- the answer is told
gives_told : (slot : ℕ) (at : At) (answer : Answer) (binding : Option Binding) (before after : Making) → after.step
    ≡ with_line before.at before.step (line.Told slot at answer) → after.at ≡ before.at
    → after ≡ giving before (entries_of slot (next.Told at answer binding))
gives_told slot at answer None before after step same = noted before after (line.Told slot at answer) (Told slot at answer None) refl refl
    step same
gives_told slot at answer (Some b) before after step same =
    noted before after (line.Told slot at answer) (Told slot at answer None) refl refl step same
    ∙ sym (giving_past before (Binds b.handle (file_of b.file)) (Told slot at answer None ∷ []) refl refl)

pub finished_telling : (slot : ℕ) (at : At) (answer : Answer) (binding : Option Binding) (c new : ClientState) (before after : Making)
    → after.step ≡ with_line before.at before.step (line.Told slot at answer) → after.at ≡ before.at
    → new ≡ with_call slot None (with_handles (bound_by binding c.client.handles) c)
    → Finishes slot (next.Told at answer binding) c new before after
finished_telling slot at answer binding c new before after step same told =
    record { gives = gives_told slot at answer binding before after step same; shows = told }
