use Rattle.std.proofs.Common.{◌≡◌, ◌≤◌, false, length, nat_lt, Option, Some, sym, subst, arith, ℕ}
use Rattle.std.proofs.lemmas.Bool.Decides.{nat_tests}
use Rattle.lu_spec_entries.specs.Carried.{Running}
use Rattle.lu_spec_client.specs.Messages.{enqueue_heard, on_running, on_slot}
use Rattle.lu_call.specs.Turning.{call_turn}
use Rattle.lu_client.specs.Clients.{ClientState, Makes, state_of, with_call}
use Rattle.lu_client.proofs.Answering.{enqueue_about, on_call, on_none}
use Rattle.lu_client.proofs.client.Client.heed_lock.Goals as goal

pub returns-in_default-get_mut : goal.returns-in_default-get_mut
returns-in_default-get_mut c =
    let old : ClientState = state_of c.self.inside.osts c.self.inside.flight c.self.inside.dirty c.self.inside.who
    c.self.inside.handles.items c.self.inside.calls.items c.self.inside.imports.items c.self.inside.store c.self.inside.spent in
    let none : nat_lt c.in-Some.slot (length c.self.inside.calls.items) ≡ false = sym c.in_default-get_mut.ensures.item.0 in
    let past : length c.self.inside.calls.items ≤ c.in-Some.slot = grind (arith, nat_tests, none) in
    record {
      makes = λ turn. subst (λ (o : Option ℕ). Makes (λ k. on_slot (enqueue_heard k.who c.args.answer.now c.args.locks.now) o k)
          c.args.self.now old turn turn) (sym c.in-Some.is)
          (subst (λ (s : ClientState). Makes (λ k. on_slot (enqueue_heard k.who c.args.answer.now c.args.locks.now) (Some c.in-Some.slot) k)
          s old turn turn) c.self.view_is
          (on_none (λ k. enqueue_heard k.who c.args.answer.now c.args.locks.now) old c.in-Some.slot turn past));
    }

pub returns : goal.returns
returns c =
    let old : ClientState = state_of c.self.inside.osts c.self.inside.flight c.self.inside.dirty c.self.inside.who
    c.self.inside.handles.items c.self.inside.calls.items c.self.inside.imports.items c.self.inside.store c.self.inside.spent in
    let new : ClientState = with_call c.in-Some.slot c.lock_heard.new.call old in
    record {
      makes = λ turn. subst (λ (o : Option ℕ). Makes (λ k. on_slot (enqueue_heard k.who c.args.answer.now c.args.locks.now) o k)
          c.args.self.now new turn turn) (sym c.in-Some.is)
          (subst (λ (s : ClientState). Makes (λ k. on_slot (enqueue_heard k.who c.args.answer.now c.args.locks.now) (Some c.in-Some.slot) k)
          s new turn turn) c.self.view_is
          (on_call (λ k. enqueue_heard k.who c.args.answer.now c.args.locks.now) old c.in-Some.slot c.in-Some-get_mut.call.now
          c.lock_heard.new.call turn c.in-Some-get_mut.ensures.item.3.0
          (λ r. enqueue_about old.client.who c.args.answer.now c.args.locks.now c.in-Some.slot r r.stage)
          (subst (λ (o : Option Running). call_turn c.in-Some.slot o
          (on_running (enqueue_heard old.client.who c.args.answer.now c.args.locks.now) c.in-Some.slot o) ≡ c.lock_heard.new.call)
          c.in-Some-get_mut.ensures.value
          (c.lock_heard.ensures.heard c.in-Some.slot))));
    }
