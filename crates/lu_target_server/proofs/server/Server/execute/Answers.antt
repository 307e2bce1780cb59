-- A transaction, or an act.
use Rattle.std.proofs.Common.{◌≡◌, ◌∙◌, true, false, sym, ap, subst}
use Rattle.std.proofs.lemmas.Result.{on_ok_weaker}
use Rattle.lu_service.specs.declared.services.Kind.TheVariants.{Mdt}
use Rattle.lu_service.specs.Contents.{asked}
use Rattle.lu_service.specs.Takes.{Takes}
use Rattle.lu_spec_target.specs.Names.{does_change}
use Rattle.lu_spec_target.specs.Replies.{none}
use Rattle.lu_spec_target.specs.States.{Target}
use Rattle.lu_target_server.specs.Servers.{ServerState, Shows, IsTaken}
use Rattle.lu_target_server.proofs.Executions.{waiting_taken, would_is, as_transacts, as_acts}
use Rattle.lu_target_server.proofs.Overrunning.{over_transacting, over_acting}
use Rattle.lu_target_server.proofs.server.Server.execute.Goals as goal

pub changes-requires : goal.changes-requires
changes-requires g c =
    let s = c.requires.stands in
    record {
      takes = subst (λ (x : ServerState). Takes x.kind c.args.request.op) (sym c.self.view_is)
          (IsTaken.takes (waiting_taken c.args.self.now s.0 c.args.request s.1 c.requires.waits));
    }

pub transact-requires : goal.transact-requires
transact-requires g c =
    let r = c.args.request in
    let old = c.args.self.now in
    let kind_is : g.S.Service.kind ≡ Mdt = ap (λ (x : ServerState). x.kind) c.self.view_is ∙ c.requires.names in
    record {
      names = c.requires.names;
      stands = c.requires.stands;
      waits = c.requires.waits;
      changes = λ v shows.
          would_is g.S.Service.acts (g.met.S.Service.serves_names kind_is) old v r c.requires.names shows
          ∙ sym (c.changes.ensures.changes none ∙ ap (λ (x : ServerState). g.S.Service.acts.changes x.contents (asked none r.who r.op))
          c.self.view_is)
          ∙ c.if-changes.true;
    }

pub act-requires : goal.act-requires
act-requires g c =
    let r = c.args.request in
    let old = c.args.self.now in
    let kind_is : g.S.Service.kind ≡ Mdt = ap (λ (x : ServerState). x.kind) c.self.view_is ∙ c.requires.names in
    record {
      names = c.requires.names;
      stands = c.requires.stands;
      waits = c.requires.waits;
      still = λ v shows.
          would_is g.S.Service.acts (g.met.S.Service.serves_names kind_is) old v r c.requires.names shows
          ∙ sym (c.changes.ensures.changes none ∙ ap (λ (x : ServerState). g.S.Service.acts.changes x.contents (asked none r.who r.op))
          c.self.view_is)
          ∙ c.if-changes.false;
    }

pub returns-then-changes-clause-makes : goal.returns-then-changes-clause-makes
returns-then-changes-clause-makes g c =
    let r = c.args.request in
    let old = c.args.self.now in
    let kind_is : g.S.Service.kind ≡ Mdt = ap (λ (x : ServerState). x.kind) c.self.view_is ∙ c.requires.names in
    let changes : ((v : Target) → Shows old v → does_change v r ≡ true) = (λ v shows.
    would_is g.S.Service.acts (g.met.S.Service.serves_names kind_is) old v r c.requires.names shows
    ∙ sym (c.changes.ensures.changes none ∙ ap (λ (x : ServerState). g.S.Service.acts.changes x.contents (asked none r.who r.op))
    c.self.view_is)
    ∙ c.if-changes.true) in
    on_ok_weaker c.transact.result (λ made. as_transacts c.args.turn.now.at r old c.transact.new.self c.args.turn.now c.transact.new.turn
    changes made) c.transact.ensures.makes

pub returns-clause-makes : goal.returns-clause-makes
returns-clause-makes g c =
    let r = c.args.request in
    let old = c.args.self.now in
    let kind_is : g.S.Service.kind ≡ Mdt = ap (λ (x : ServerState). x.kind) c.self.view_is ∙ c.requires.names in
    let still : ((v : Target) → Shows old v → does_change v r ≡ false) = (λ v shows.
    would_is g.S.Service.acts (g.met.S.Service.serves_names kind_is) old v r c.requires.names shows
    ∙ sym (c.changes.ensures.changes none ∙ ap (λ (x : ServerState). g.S.Service.acts.changes x.contents (asked none r.who r.op))
    c.self.view_is)
    ∙ c.if-changes.false) in
    on_ok_weaker c.act.result (λ made. as_acts c.args.turn.now.at r old c.act.new.self c.args.turn.now c.act.new.turn still made)
    c.act.ensures.makes

pub returns-then-changes-clause-numbers : goal.returns-then-changes-clause-numbers
returns-then-changes-clause-numbers g c =
    λ is.
    let r = c.args.request in
    let old = c.args.self.now in
    let kind_is : g.S.Service.kind ≡ Mdt = ap (λ (x : ServerState). x.kind) c.self.view_is ∙ c.requires.names in
    let changes : ((v : Target) → Shows old v → does_change v r ≡ true) = (λ v shows.
    would_is g.S.Service.acts (g.met.S.Service.serves_names kind_is) old v r c.requires.names shows
    ∙ sym (c.changes.ensures.changes none ∙ ap (λ (x : ServerState). g.S.Service.acts.changes x.contents (asked none r.who r.op))
    c.self.view_is)
    ∙ c.if-changes.true) in
    over_transacting old c.args.turn.now.at r changes (c.transact.ensures.numbers is)

pub returns-clause-numbers : goal.returns-clause-numbers
returns-clause-numbers g c =
    λ is.
    let r = c.args.request in
    let old = c.args.self.now in
    let kind_is : g.S.Service.kind ≡ Mdt = ap (λ (x : ServerState). x.kind) c.self.view_is ∙ c.requires.names in
    let still : ((v : Target) → Shows old v → does_change v r ≡ false) = (λ v shows.
    would_is g.S.Service.acts (g.met.S.Service.serves_names kind_is) old v r c.requires.names shows
    ∙ sym (c.changes.ensures.changes none ∙ ap (λ (x : ServerState). g.S.Service.acts.changes x.contents (asked none r.who r.op))
    c.self.view_is)
    ∙ c.if-changes.false) in
    over_acting old c.args.turn.now.at r still (c.act.ensures.numbers is)
