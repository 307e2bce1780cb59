use Rattle.std.proofs.Common.{◌≡◌, false, Option, Some, None, sym, ap, subst, ◌∙◌}
use Rattle.std.proofs.lemmas.Result.{on_ok_weaker}
use Rattle.lu_held.specs.declared.locks.HeldLock.{HeldLock}
use Rattle.lu_msg.specs.declared.operations.Op.{Op}
use Rattle.lu_spec_entries.specs.Words.{Queues}
use Rattle.lu_spec_client.specs.Caches.{patch_at}
use Rattle.lu_spec_client.specs.Imports.{imports_after}
use Rattle.lu_spec_client.specs.Patches.{in_flight}
use Rattle.lu_client_store.specs.declared.flushes.WriteBack.{WriteBack}
use Rattle.lu_client_store.specs.Stored.{stored_turn}
use Rattle.lu_client_store.specs.WriteBacks.{backs}
use Rattle.lu_client.specs.Clients.{ClientState, Makes, state_of, stored_of, with_imports, with_store}
use Rattle.lu_client.specs.Visits.{back_row}
use Rattle.lu_client.proofs.Visiting.{back_answer, back_made}
use Rattle.lu_client.proofs.client.Client.write_back.Goals as goal

pub returns : goal.returns
returns c =
    let old : ClientState = state_of c.self.inside.osts c.self.inside.flight c.self.inside.dirty c.self.inside.who
    c.self.inside.handles.items c.self.inside.calls.items c.self.inside.imports.items c.self.inside.store c.self.inside.spent in
    let held : HeldLock = c.args.held.now in
    let back : WriteBack = c.in-Some.back in
    let rests : in_flight (patch_at held.lock.resource old.client.store.patches) ≡ false = sym c.in_flight.ensures.flies
    ∙ c.if-in_flight.false in
    let row : back_row held old.client ≡ backs (Some back) = back_answer held old.client c.in_ok-back.field-0 rests
    c.in_ok-back.ensures.back ∙ ap backs c.in-Some.is in
    let stored : c.take_flush_under.new.self ≡ stored_turn (stored_of old) (backs (Some back)) = c.in_ok-back.ensures.sent
    ∙ ap (λ (o : Option WriteBack). stored_turn (stored_of old) (backs o)) c.in-Some.is in
    record {
      makes = on_ok_weaker c.queue.result
          (λ queued turn. subst (λ (s : ClientState). Makes (back_row held) s c.queue.new.self turn turn) c.self.view_is
          (back_made held old c.queue.new.self c.take_flush_under.new.self back turn row stored
          (queued ∙ ap (λ (o : Op). with_imports (imports_after old.client.imports (Queues back.target.0 (record { slot = None; op = o })))
          (with_store c.take_flush_under.new.self old)) c.operation.ensures.asks)))
          c.queue.ensures.queued;
    }
