use Rattle.std.proofs.Common.{◌≡◌, ◌≤◌, false, List, Option, length, nat_lt, sym, ap, ◌∙◌, arith}
use Rattle.std.proofs.lemmas.Bool.Decides.{nat_tests}
use Rattle.std.proofs.lemmas.Result.{on_ok_weaker}
use Rattle.lu_spec_entries.specs.Carried.{Running}
use Rattle.lu_spec_entries.specs.Words.{Heard}
use Rattle.lu_spec_client.specs.Calls.{calls_after}
use Rattle.lu_client.specs.Clients.{ClientState, state_of}
use Rattle.lu_client.specs.Replies.{with_calls}
use Rattle.lu_client.proofs.Requests.{none_told, past_told, slot_told}
use Rattle.lu_client.proofs.client.Client.tell_call.Goals as goal

pub returns-in_default : goal.returns-in_default
returns-in_default c =
    record {
      told = λ f serves. ap (λ (calls : List (Option Running)). with_calls calls c.args.self.now)
          (sym (none_told c.args.target.0 f c.args.reply.now c.args.self.now.client.calls (serves ∙ c.in_default.is)));
    }

pub returns-in_default-get_mut : goal.returns-in_default-get_mut
returns-in_default-get_mut c =
    let old : ClientState = state_of c.self.inside.osts c.self.inside.flight c.self.inside.dirty c.self.inside.who
    c.self.inside.handles.items c.self.inside.calls.items c.self.inside.imports.items c.self.inside.store c.self.inside.spent in
    let none : nat_lt c.in-Some.slot (length c.self.inside.calls.items) ≡ false = sym c.in_default-get_mut.ensures.item.0 in
    let past : length c.self.inside.calls.items ≤ c.in-Some.slot = grind (arith, nat_tests, none) in
    record {
      told = λ f serves. ap (λ (calls : List (Option Running)). with_calls calls old)
          (sym (past_told c.args.target.0 c.in-Some.slot f c.args.reply.now c.self.inside.calls.items (serves ∙ c.in-Some.is) past))
          ∙ ap (λ (s : ClientState). with_calls (calls_after s.client.calls (Heard c.args.target.0 f c.args.reply.now)) s) c.self.view_is;
    }

pub returns : goal.returns
returns c =
    let old : ClientState = state_of c.self.inside.osts c.self.inside.flight c.self.inside.dirty c.self.inside.who
    c.self.inside.handles.items c.self.inside.calls.items c.self.inside.imports.items c.self.inside.store c.self.inside.spent in
    record {
      told = on_ok_weaker c.tell.result
          (λ told f serves. ap (λ (calls : List (Option Running)). with_calls calls old)
          (slot_told c.args.target.0 c.in-Some.slot f c.args.reply.now c.self.inside.calls.items c.in-Some-get_mut.call.now c.tell.new.call
          (serves ∙ c.in-Some.is) c.in-Some-get_mut.ensures.item.3.0 c.in-Some-get_mut.ensures.value
          (told c.in-Some.slot f (serves ∙ c.in-Some.is)))
          ∙ ap (λ (s : ClientState). with_calls (calls_after s.client.calls (Heard c.args.target.0 f c.args.reply.now)) s) c.self.view_is)
          c.tell.ensures.told;
    }
