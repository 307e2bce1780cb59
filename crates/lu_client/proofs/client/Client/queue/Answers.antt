use Rattle.std.proofs.Common.{◌≡◌, ◌≤◌, false, List, length, nat_lt, sym, ap, subst, ◌∙◌, arith}
use Rattle.std.proofs.lemmas.Bool.Decides.{nat_tests}
use Rattle.std.proofs.lemmas.List.{length-map}
use Rattle.std.proofs.lemmas.Result.{on_ok_weaker}
use Rattle.lu_import.specs.declared.requests.Waiting.{Waiting}
use Rattle.lu_import.specs.Imports.{ImportState}
use Rattle.lu_spec_entries.specs.Carried.{Queued}
use Rattle.lu_spec_entries.specs.Words.{Queues}
use Rattle.lu_spec_client.specs.Imports.{Import, imports_after}
use Rattle.lu_spec_client.specs.States.{Limits}
use Rattle.lu_client_refines.specs.Imports.{import_of_state, IsOne}
use Rattle.lu_client_refines.proofs.Targets.{one_of}
use Rattle.lu_client.specs.Clients.{ClientState, limits_of, state_of, with_imports}
use Rattle.lu_client.proofs.Keeping.{kept_import, queued_keeps, queued_nowhere, queued_imports}
use Rattle.lu_client.proofs.client.Client.queue.Goals as goal

pub returns-in_default : goal.returns-in_default
returns-in_default c =
    let old : ClientState = state_of c.self.inside.osts c.self.inside.flight c.self.inside.dirty c.self.inside.who
    c.self.inside.handles.items c.self.inside.calls.items c.self.inside.imports.items c.self.inside.store c.self.inside.spent in
    let q : Queued = record { slot = c.args.slot; op = c.args.op } in
    let none : nat_lt c.args.target.0 (length c.self.inside.imports.items) ≡ false = sym c.in_default.ensures.item.0 in
    let count : length old.client.imports ≡ length c.self.inside.imports.items = length-map c.self.inside.imports.items import_of_state in
    let past : length old.client.imports ≤ c.args.target.0 = grind (arith, nat_tests, none, count) in
    record {
      queued = ap (λ (is : List Import). with_imports is old) (sym (queued_nowhere c.args.target.0 old.client.imports q past))
          ∙ ap (λ (s : ClientState). with_imports (imports_after s.client.imports (Queues c.args.target.0 q)) s) c.self.view_is;
    }

pub invariant_of-self-2 : goal.invariant_of-self-2
invariant_of-self-2 c =
    let limits : Limits = limits_of c.self.inside.osts c.self.inside.flight c.self.inside.dirty c.self.inside.store in
    let old : ImportState = c.in-Some.import.now in
    let one : IsOne limits c.self.inside.who c.args.target.0 old =
    subst (IsOne limits c.self.inside.who c.args.target.0) (sym c.in-Some.ensures.value)
    (one_of limits c.self.inside.who c.args.target.0 c.self.inside.imports.items old c.self.invariant.kept c.in-Some.ensures.item.3.0) in
    kept_import c.self.invariant c.args.target.0 c.queue.new.self
    (queued_keeps limits c.self.inside.who c.args.target.0 c.queue.result old c.queue.new.self (record { slot = c.args.slot; op = c.args.op })
    c.queue.ensures.added c.queue.ensures.kept c.queue.ensures.sound one)

pub returns : goal.returns
returns c =
    let old : ClientState = state_of c.self.inside.osts c.self.inside.flight c.self.inside.dirty c.self.inside.who
    c.self.inside.handles.items c.self.inside.calls.items c.self.inside.imports.items c.self.inside.store c.self.inside.spent in
    let q : Queued = record { slot = c.args.slot; op = c.args.op } in
    let w : Waiting = record { slot = c.args.slot; op = c.args.op } in
    record {
      queued = on_ok_weaker c.queue.result
          (λ added. ap (λ (is : List Import). with_imports is old)
          (queued_imports c.args.target.0 c.self.inside.imports.items c.in-Some.import.now c.queue.new.self w c.in-Some.ensures.item.3.0
          c.in-Some.ensures.value added)
          ∙ ap (λ (s : ClientState). with_imports (imports_after s.client.imports (Queues c.args.target.0 q)) s) c.self.view_is)
          c.queue.ensures.added;
    }
