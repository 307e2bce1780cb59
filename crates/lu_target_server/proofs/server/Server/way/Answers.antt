-- What the service and the locks tell of the request.
use Rattle.std.proofs.Common.{◌≡◌, ◌≢◌, [], ◌∙◌, true, false, Some, slice_get, sym, ap, subst, rules}
use Rattle.lu_service.specs.declared.services.Kind.TheVariants.{Mdt}
use Rattle.lu_service.specs.Contents.{asked}
use Rattle.lu_service.specs.Takes.{Takes}
use Rattle.lu_spec_target.specs.Names.{is_read}
use Rattle.lu_spec_target.specs.Replies.{none}
use Rattle.lu_target_locks.specs.Servers as locking
use Rattle.lu_target_server.specs.Servers.{ServerState, IsTaken}
use Rattle.lu_target_server.proofs.Executions.{waiting_taken}
use Rattle.lu_target_server.proofs.FoundWays.{still_free, unguarded_free, guarded_barred}
use Rattle.lu_target_server.proofs.server.Server.way.Goals as goal

pub writes-requires : goal.writes-requires
writes-requires g c =
    let s = c.requires.stands in
    let q = c.in-Some.request.now in
    let here : slice_get c.self.inside.requests c.args.place ≡ Some q = search rules in
    let found : slice_get c.args.self.now.requests c.args.place ≡ Some q =
    subst (λ (x : ServerState). slice_get x.requests c.args.place ≡ Some q) c.self.view_is here in
    record {
      takes = subst (λ (x : ServerState). Takes x.kind q.op) (sym c.self.view_is)
          (IsTaken.takes (waiting_taken c.args.self.now s.0 q s.1 (c.args.place, found)));
    }

pub returns-then-not-changes : goal.returns-then-not-changes
returns-then-not-changes g c =
    let old = c.args.self.now in
    let q = c.in-Some.request.now in
    let kind_is : g.S.Service.kind ≡ Mdt = ap (λ (x : ServerState). x.kind) c.self.view_is ∙ c.requires.names in
    let here : slice_get c.self.inside.requests c.args.place ≡ Some q = search rules in
    let found : slice_get old.requests c.args.place ≡ Some q = subst (λ (x : ServerState). slice_get x.requests c.args.place ≡ Some q)
    c.self.view_is here in
    let changes : is_read q.op ≡ false = search rules in
    let still : g.S.Service.acts.changes (g.S.Service.contents c.self.inside.service) (asked none q.who q.op) ≡ false =
    sym (c.changes.ensures.changes none) ∙ c.if-not-changes.true in
    record {
      way = still_free g.S.Service.acts (g.met.S.Service.serves_names kind_is) old c.requires.names c.args.place c.args.stood q found _
          (search rules) changes
          (subst (λ (x : ServerState). g.S.Service.acts.changes x.contents (asked none q.who q.op) ≡ false) c.self.view_is still);
    }

pub returns-then-is_empty : goal.returns-then-is_empty
returns-then-is_empty g c =
    let old = c.args.self.now in
    let q = c.in-Some.request.now in
    let kind_is : g.S.Service.kind ≡ Mdt = ap (λ (x : ServerState). x.kind) c.self.view_is ∙ c.requires.names in
    let here : slice_get c.self.inside.requests c.args.place ≡ Some q = search rules in
    let found : slice_get old.requests c.args.place ≡ Some q = subst (λ (x : ServerState). slice_get x.requests c.args.place ≡ Some q)
    c.self.view_is here in
    let changes : is_read q.op ≡ false = search rules in
    let would : g.S.Service.acts.changes (g.S.Service.contents c.self.inside.service) (asked none q.who q.op) ≡ true =
    sym (c.changes.ensures.changes none) ∙ c.if-not-changes.false in
    let nothing : c.in_ok-cookies.cookies ≡ [] = search rules in
    record {
      way = unguarded_free g.S.Service.acts (g.met.S.Service.serves_names kind_is) old c.requires.names c.args.place c.args.stood q found
          c.in_ok-written.written
          (λ number. subst (λ (x : ServerState). c.in_ok-written.written ≡ g.S.Service.acts.writes x.contents (asked number q.who q.op))
          c.self.view_is (c.in_ok-written.ensures.writes number))
          c.in_ok-cookies.cookies
          (λ v shows. c.in_ok-cookies.ensures.cookies v (subst (λ (x : ServerState). locking.Shows x.locks v) (sym c.self.view_is) shows))
          changes (subst (λ (x : ServerState). g.S.Service.acts.changes x.contents (asked none q.who q.op) ≡ true) c.self.view_is would) _
          (search rules) nothing;
    }

pub returns : goal.returns
returns g c =
    let old = c.args.self.now in
    let q = c.in-Some.request.now in
    let kind_is : g.S.Service.kind ≡ Mdt = ap (λ (x : ServerState). x.kind) c.self.view_is ∙ c.requires.names in
    let here : slice_get c.self.inside.requests c.args.place ≡ Some q = search rules in
    let found : slice_get old.requests c.args.place ≡ Some q = subst (λ (x : ServerState). slice_get x.requests c.args.place ≡ Some q)
    c.self.view_is here in
    let changes : is_read q.op ≡ false = search rules in
    let would : g.S.Service.acts.changes (g.S.Service.contents c.self.inside.service) (asked none q.who q.op) ≡ true =
    sym (c.changes.ensures.changes none) ∙ c.if-not-changes.false in
    let some : c.in_ok-cookies.cookies ≢ [] = search rules in
    record {
      way = guarded_barred g.S.Service.acts (g.met.S.Service.serves_names kind_is) old c.requires.names c.args.place c.args.stood q found
          c.in_ok-written.written
          (λ number. subst (λ (x : ServerState). c.in_ok-written.written ≡ g.S.Service.acts.writes x.contents (asked number q.who q.op))
          c.self.view_is (c.in_ok-written.ensures.writes number))
          c.in_ok-cookies.cookies
          (λ v shows. c.in_ok-cookies.ensures.cookies v (subst (λ (x : ServerState). locking.Shows x.locks v) (sym c.self.view_is) shows))
          changes (subst (λ (x : ServerState). g.S.Service.acts.changes x.contents (asked none q.who q.op) ≡ true) c.self.view_is would)
          some;
    }
