use Rattle.std.proofs.Common.{◌≡◌, ◌<◌, List, length, Option, Some, sym, subst, ◌∙◌}
use Rattle.lu_spec_entries.specs.Carried.{Running}
use Rattle.lu_spec_client.specs.Calls.{call_on}
use Rattle.lu_spec_client.specs.Messages.{lock_blocked, on_slot}
use Rattle.lu_client_refines.proofs.Slots.{call_on_get}
use Rattle.lu_client.specs.Clients.{ClientState, state_of, with_call, Makes}
use Rattle.lu_client.proofs.CallingBack.{blocked_marks}
use Rattle.lu_client.proofs.SlotMarks.{same_call, slot_empty, slot_stands}
use Rattle.lu_client.proofs.client.Client.block_call.Goals as goal
use Rattle.lu_client.proofs.client.Client.block_call.Goals.{in-Some, in_default}

pub returns : goal.returns
returns c =
    let calls : List (Option Running) = c.self.inside.calls.items in
    let old : ClientState = state_of c.self.inside.osts c.self.inside.flight c.self.inside.dirty c.self.inside.who
    c.self.inside.handles.items calls c.self.inside.imports.items c.self.inside.store c.self.inside.spent in
    let inside : c.args.slot < length calls = subst (λ (s : ClientState). c.args.slot < length s.client.calls) (sym c.self.view_is)
    c.requires.slot in
    let here : call_on c.args.slot calls ≡ c.index_mut.result.now = call_on_get c.args.slot calls c.index_mut.result.now inside
    ∙ sym c.index_mut.ensures.value in
    elim c.match-index_mut.branch [
      | in-Some w ↦ rw w.self-inside-is
          (record {
            makes = λ turn. subst (λ (s : ClientState). Makes (λ k. on_slot lock_blocked (Some c.args.slot) k) s
                (with_call c.args.slot (Some w.blocked.new.self) old) turn turn) c.self.view_is
                (slot_stands lock_blocked c.args.slot old w.in-Some.call w.blocked.new.self turn
                (blocked_marks c.args.slot w.in-Some.call w.in-Some.call.stage) inside (here ∙ w.in-Some.is)
                (w.blocked.ensures.blocked c.args.slot));
          })
      | in_default w ↦ rw w.self-inside-is
          (record {
            makes = λ turn. subst (λ (s : ClientState). Makes (λ k. on_slot lock_blocked (Some c.args.slot) k) s
                (with_call c.args.slot c.index_mut.result.now old) turn turn) c.self.view_is
                (subst (λ (s : ClientState). Makes (λ k. on_slot lock_blocked (Some c.args.slot) k) old s turn turn)
                (sym (same_call c.args.slot old c.index_mut.result.now inside here))
                (slot_empty lock_blocked c.args.slot old turn (here ∙ w.in_default.is)));
          })
    ]
