-- The lock is released, and then what waited goes on.
use Rattle.std.proofs.Common.{◌≡◌, sym, ap, subst, ◌∙◌}
use Rattle.std.proofs.lemmas.Result.{on_ok_weaker}
use Rattle.lu_service.specs.declared.services.Kind.TheVariants.{Mdt, Ost}
use Rattle.lu_trace.specs.Turns.{Making}
use Rattle.lu_spec_target.specs.Requests.{releases}
use Rattle.lu_spec_target.specs.States.{Target, turn}
use Rattle.lu_target_server.specs.Middles.{MakesPart}
use Rattle.lu_target_server.specs.Releases.{IsGivenBack, IsReturn}
use Rattle.lu_target_server.specs.Servers.{ServerState, Shows}
use Rattle.lu_target_server.proofs.Cancels.{may_release_back, names_after, queue_after, goes_names, goes_objects, over_names, over_cancels}
use Rattle.lu_target_server.proofs.Cancels.{cancels}
use Rattle.lu_target_server.proofs.OfKind.{waits_names, waits_objects, names_id, objects_id}
use Rattle.lu_target_server.proofs.Rooms.{room_made}
use Rattle.lu_spec_target.specs.Requests.{row_cancel}
use Rattle.lu_target_server.proofs.server.Server.cancel.Goals as goal

pub release-requires : goal.release-requires
release-requires g c =
    let s = c.args.self.now in
    let back = c.take_back.new.self in
    let ended = c.in-Some.ended in
    let granted = c.in-Some.granted in
    let is_back : IsGivenBack c.args.who c.args.cookie ended granted s.locks back.locks =
    subst (λ o. IsReturn c.args.who c.args.cookie o s.locks back.locks) c.in-Some.is c.in_ok-ended.ensures.back in
    record {
      may = (
        c.requires.stands.0,
        may_release_back s back c.requires.stands.0 c.args.who c.args.cookie ended granted
            c.requires.stands.1 c.take_back.ensures.same is_back,
      );
    }

pub names_go-requires-clause-names : goal.names_go-requires-clause-names
names_go-requires-clause-names g c =
    let released = c.release.new.self in
    let same : released.kind ≡ g.S.Service.kind = ap (λ (x : ServerState). x.kind) (sym c.self.view_is) in
    let kind : released.kind ≡ Mdt = same
    ∙ waits_names c.requests_wait.result g.S.Service.kind c.requests_wait.ensures.waits c.if-requests_wait.true in
    kind

pub names_go-requires-clause-stands : goal.names_go-requires-clause-stands
names_go-requires-clause-stands g c =
    let s = c.args.self.now in
    let back = c.take_back.new.self in
    let ended = c.in-Some.ended in
    let granted = c.in-Some.granted in
    let is_back : IsGivenBack c.args.who c.args.cookie ended granted s.locks back.locks =
    subst (λ o. IsReturn c.args.who c.args.cookie o s.locks back.locks) c.in-Some.is c.in_ok-ended.ensures.back in
    let released = c.release.new.self in
    let part : (v : Target) → Shows s v → MakesPart (releases c.args.turn.now.at ended.lock v) v back released c.args.turn.now
    c.release.new.turn =
    (λ v shows. c.in_ok-release.ensures.released v (may_release_back s back v c.args.who c.args.cookie ended granted shows
    c.take_back.ensures.same is_back)) in
    let same : released.kind ≡ g.S.Service.kind = ap (λ (x : ServerState). x.kind) (sym c.self.view_is) in
    let kind : released.kind ≡ Mdt = same
    ∙ waits_names c.requests_wait.result g.S.Service.kind c.requests_wait.ensures.waits c.if-requests_wait.true in
    let v = c.requires.stands.0 in
    let shows = c.requires.stands.1 in (
      turn v (releases c.args.turn.now.at ended.lock v),
      names_after s back released v c.args.who c.args.cookie ended granted c.args.turn.now c.release.new.turn shows is_back (part v shows)
          kind,
    )

pub returns-then-requests_wait-clause-makes : goal.returns-then-requests_wait-clause-makes
returns-then-requests_wait-clause-makes g c =
    let s = c.args.self.now in
    let back = c.take_back.new.self in
    let ended = c.in-Some.ended in
    let granted = c.in-Some.granted in
    let is_back : IsGivenBack c.args.who c.args.cookie ended granted s.locks back.locks =
    subst (λ o. IsReturn c.args.who c.args.cookie o s.locks back.locks) c.in-Some.is c.in_ok-ended.ensures.back in
    let released = c.release.new.self in
    let part : (v : Target) → Shows s v → MakesPart (releases c.args.turn.now.at ended.lock v) v back released c.args.turn.now
    c.release.new.turn =
    (λ v shows. c.in_ok-release.ensures.released v (may_release_back s back v c.args.who c.args.cookie ended granted shows
    c.take_back.ensures.same is_back)) in
    let same : released.kind ≡ g.S.Service.kind = ap (λ (x : ServerState). x.kind) (sym c.self.view_is) in
    let kind : released.kind ≡ Mdt = same
    ∙ waits_names c.requests_wait.result g.S.Service.kind c.requests_wait.ensures.waits c.if-requests_wait.true in
    let test = names_id released.id released.kind (part c.requires.stands.0 c.requires.stands.1).shows.kind kind in
    on_ok_weaker c.names_go.result
    (λ makes. cancels s c.names_go.new.self c.args.who c.args.cookie ended.lock c.args.turn.now c.names_go.new.turn
    (λ v shows. is_back.released.was v shows.locks)
    (λ v shows. goes_names s back released v c.args.who c.args.cookie ended granted c.args.turn.now c.release.new.turn shows is_back
    (part v shows) c.names_go.new.self c.names_go.new.turn kind test
    (ap (λ (making : Making). making.at) (part v shows).gives) makes)) c.names_go.ensures.makes

pub queue_goes-requires-clause-objects : goal.queue_goes-requires-clause-objects
queue_goes-requires-clause-objects g c =
    let released = c.release.new.self in
    let same : released.kind ≡ g.S.Service.kind = ap (λ (x : ServerState). x.kind) (sym c.self.view_is) in
    let kind : released.kind ≡ Ost = same
    ∙ waits_objects c.requests_wait.result g.S.Service.kind c.requests_wait.ensures.waits c.if-requests_wait.false in
    kind

pub queue_goes-requires-clause-goes : goal.queue_goes-requires-clause-goes
queue_goes-requires-clause-goes g c =
    let s = c.args.self.now in
    let back = c.take_back.new.self in
    let ended = c.in-Some.ended in
    let granted = c.in-Some.granted in
    let is_back : IsGivenBack c.args.who c.args.cookie ended granted s.locks back.locks =
    subst (λ o. IsReturn c.args.who c.args.cookie o s.locks back.locks) c.in-Some.is c.in_ok-ended.ensures.back in
    let released = c.release.new.self in
    let part : (v : Target) → Shows s v → MakesPart (releases c.args.turn.now.at ended.lock v) v back released c.args.turn.now
    c.release.new.turn =
    (λ v shows. c.in_ok-release.ensures.released v (may_release_back s back v c.args.who c.args.cookie ended granted shows
    c.take_back.ensures.same is_back)) in
    let v = c.requires.stands.0 in
    let shows = c.requires.stands.1 in (
      turn v (releases c.args.turn.now.at ended.lock v),
      queue_after s back released v c.args.who c.args.cookie ended granted c.args.turn.now
          c.release.new.turn shows is_back (part v shows),
    )

pub returns-clause-makes : goal.returns-clause-makes
returns-clause-makes g c =
    let s = c.args.self.now in
    let back = c.take_back.new.self in
    let ended = c.in-Some.ended in
    let granted = c.in-Some.granted in
    let is_back : IsGivenBack c.args.who c.args.cookie ended granted s.locks back.locks =
    subst (λ o. IsReturn c.args.who c.args.cookie o s.locks back.locks) c.in-Some.is c.in_ok-ended.ensures.back in
    let released = c.release.new.self in
    let part : (v : Target) → Shows s v → MakesPart (releases c.args.turn.now.at ended.lock v) v back released c.args.turn.now
    c.release.new.turn =
    (λ v shows. c.in_ok-release.ensures.released v (may_release_back s back v c.args.who c.args.cookie ended granted shows
    c.take_back.ensures.same is_back)) in
    let same : released.kind ≡ g.S.Service.kind = ap (λ (x : ServerState). x.kind) (sym c.self.view_is) in
    let kind : released.kind ≡ Ost = same
    ∙ waits_objects c.requests_wait.result g.S.Service.kind c.requests_wait.ensures.waits c.if-requests_wait.false in
    let test = objects_id released.id released.kind (part c.requires.stands.0 c.requires.stands.1).shows.kind kind in
    on_ok_weaker c.queue_goes.result
    (λ went. cancels s c.queue_goes.new.self c.args.who c.args.cookie ended.lock c.args.turn.now c.queue_goes.new.turn
    (λ v shows. is_back.released.was v shows.locks)
    (λ v shows. goes_objects s back released v c.args.who c.args.cookie ended granted c.args.turn.now c.release.new.turn shows is_back
    (part v shows) c.queue_goes.new.self c.queue_goes.new.turn test
    (went (turn v (releases c.args.turn.now.at ended.lock v))
    (queue_after s back released v c.args.who c.args.cookie ended granted c.args.turn.now c.release.new.turn shows is_back
    (part v shows))))) c.queue_goes.ensures.went

pub returns-then-requests_wait-clause-numbers : goal.returns-then-requests_wait-clause-numbers
returns-then-requests_wait-clause-numbers g c =
    λ is.
    let s = c.args.self.now in
    let back = c.take_back.new.self in
    let ended = c.in-Some.ended in
    let granted = c.in-Some.granted in
    let is_back : IsGivenBack c.args.who c.args.cookie ended granted s.locks back.locks =
    subst (λ o. IsReturn c.args.who c.args.cookie o s.locks back.locks) c.in-Some.is c.in_ok-ended.ensures.back in
    let released = c.release.new.self in
    let part : (v : Target) → Shows s v → MakesPart (releases c.args.turn.now.at ended.lock v) v back released c.args.turn.now
    c.release.new.turn =
    (λ v shows. c.in_ok-release.ensures.released v (may_release_back s back v c.args.who c.args.cookie ended granted shows
    c.take_back.ensures.same is_back)) in
    let same : released.kind ≡ g.S.Service.kind = ap (λ (x : ServerState). x.kind) (sym c.self.view_is) in
    let kind : released.kind ≡ Mdt = same
    ∙ waits_names c.requests_wait.result g.S.Service.kind c.requests_wait.ensures.waits c.if-requests_wait.true in
    let test = names_id released.id released.kind (part c.requires.stands.0 c.requires.stands.1).shows.kind kind in
    over_cancels s c.args.who c.args.cookie ended.lock c.args.turn.now.at (λ v shows. is_back.released.was v shows.locks)
    (λ v shows. over_names s back released v c.args.who c.args.cookie ended granted c.args.turn.now c.release.new.turn shows is_back
    (part v shows) kind test
    (ap (λ (making : Making). making.at) (part v shows).gives) (c.names_go.ensures.numbers is))

pub returns-then-requests_wait-clause-room : goal.returns-then-requests_wait-clause-room
returns-then-requests_wait-clause-room g c =
    on_ok_weaker c.names_go.result
    (room_made (λ v. row_cancel v c.args.turn.now.at c.args.who c.args.cookie) c.args.self.now c.names_go.new.self c.args.turn.now
    c.names_go.new.turn) (returns-then-requests_wait-clause-makes g c)

pub returns-clause-room : goal.returns-clause-room
returns-clause-room g c =
    on_ok_weaker c.queue_goes.result
    (room_made (λ v. row_cancel v c.args.turn.now.at c.args.who c.args.cookie) c.args.self.now c.queue_goes.new.self c.args.turn.now
    c.queue_goes.new.turn) (returns-clause-makes g c)
