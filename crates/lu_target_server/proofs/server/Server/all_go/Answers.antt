-- What waited goes on: the requests, or the queues of locks.
use Rattle.std.proofs.Common.{◌≡◌, sym, ap, ◌∙◌}
use Rattle.std.proofs.lemmas.Result.{on_ok_weaker}
use Rattle.lu_service.specs.declared.services.Kind.TheVariants.{Mdt, Ost}
use Rattle.lu_target_server.specs.Servers.{ServerState}
use Rattle.lu_target_server.proofs.GoingOn.{all_went_names, all_went_objects, all_over}
use Rattle.lu_target_server.proofs.OfKind.{waits_names, waits_objects, names_id, objects_id}
use Rattle.lu_target_server.proofs.Middles.{sizes_rest}
use Rattle.lu_target_server.proofs.server.Server.all_go.Goals as goal

pub returns-then-requests_wait-clause-went : goal.returns-then-requests_wait-clause-went
returns-then-requests_wait-clause-went g c =
    let s = c.args.self.now in
    let names : s.kind ≡ Mdt = ap (λ (x : ServerState). x.kind) (sym c.self.view_is)
    ∙ waits_names c.requests_wait.result g.S.Service.kind c.requests_wait.ensures.waits c.if-requests_wait.true in
    on_ok_weaker c.names_go.result
    (λ makes. λ u goes. all_went_names s c.names_go.new.self u c.args.turn.now.at c.args.steps.now c.args.turn.now c.names_go.new.turn
    names (names_id s.id s.kind goes.rest.kind names) goes makes)
    c.names_go.ensures.makes

pub returns-clause-went : goal.returns-clause-went
returns-clause-went g c =
    let s = c.args.self.now in
    let kind : s.kind ≡ Ost = ap (λ (x : ServerState). x.kind) (sym c.self.view_is)
    ∙ waits_objects c.requests_wait.result g.S.Service.kind c.requests_wait.ensures.waits c.if-requests_wait.false in
    λ u goes.
    let test = objects_id s.id s.kind goes.rest.kind kind in
    all_went_objects s c.tell_steps.new.self u c.args.turn.now.at c.args.steps.now c.args.turn.now c.tell_steps.new.turn kind test goes
    c.in_ok-tell_steps.ensures.same
    (c.in_ok-tell_steps.ensures.told u (sizes_rest s u kind goes.rest))

pub returns-then-requests_wait-clause-numbers : goal.returns-then-requests_wait-clause-numbers
returns-then-requests_wait-clause-numbers g c =
    λ is.
    let s = c.args.self.now in
    let names : s.kind ≡ Mdt = ap (λ (x : ServerState). x.kind) (sym c.self.view_is)
    ∙ waits_names c.requests_wait.result g.S.Service.kind c.requests_wait.ensures.waits c.if-requests_wait.true in
    all_over s c.args.turn.now.at c.args.steps.now (λ u goes. names)
    (names_id s.id s.kind c.requires.goes.1.rest.kind names)
    (c.names_go.ensures.numbers is)
