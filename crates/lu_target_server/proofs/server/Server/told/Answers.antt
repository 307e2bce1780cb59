-- What the service says, and the locks that come with it.
use Rattle.std.proofs.Common.{◌≡◌, ◌<◌, ◌+◌, ◌∙◌, length, true, false, sym, ap, subst}
use Rattle.lu_service.specs.declared.services.Kind.{Kind}
use Rattle.lu_service.specs.declared.services.Kind.TheVariants.{Mdt}
use Rattle.lu_service.specs.Contents.{Contents, asked}
use Rattle.lu_service.specs.Takes.{Takes, Performs}
use Rattle.lu_spec_target.specs.Replies.{none}
use Rattle.lu_target_store.specs.Stores.{Serves}
use Rattle.lu_target_locks.specs.Admitted.{AreAdmitted}
use Rattle.lu_target_locks.specs.Servers.{most_cookies}
use Rattle.lu_target_server.specs.Servers.{ServerState, IsTaken}
use Rattle.lu_target_server.proofs.Executions.{waiting_taken, waiting_named, would_is}
use Rattle.lu_target_server.proofs.Overrunning.{lacks_cookies, lock_spent}
use Rattle.lu_target_server.proofs.server.Server.told.Goals as goal

true-false : true ≡ false → ⊥
true-false is = cc

pub touches-requires : goal.touches-requires
touches-requires g c =
    let s = c.requires.stands in
    record {
      takes = subst (λ (x : ServerState). Takes x.kind c.args.request.now.op) (sym c.self.view_is)
          (IsTaken.takes (waiting_taken c.args.self.now s.0 c.args.request.now s.1 c.requires.waits));
    }

pub grants-requires : goal.grants-requires
grants-requires g c =
    let s = c.requires.stands in
    record {
      takes = subst (λ (x : ServerState). Takes x.kind c.args.request.now.op) (sym c.self.view_is)
          (IsTaken.takes (waiting_taken c.args.self.now s.0 c.args.request.now s.1 c.requires.waits));
    }

pub apply-requires : goal.apply-requires
apply-requires g c =
    let s = c.requires.stands in
    let old = c.args.self.now in
    let r = c.args.request.now in
    let kind_is : g.S.Service.kind ≡ Mdt = ap (λ (x : ServerState). x.kind) c.self.view_is ∙ c.requires.names in
    let still : g.S.Service.acts.changes (g.S.Service.contents c.self.inside.service) (asked none r.who r.op) ≡ false =
    ap (λ (x : ServerState). g.S.Service.acts.changes x.contents (asked none r.who r.op)) c.self.view_is
    ∙ sym (would_is g.S.Service.acts (g.met.S.Service.serves_names kind_is) old s.0 r c.requires.names s.1) ∙ c.requires.still s.0 s.1 in
    record {
      performs = subst (λ (k : Kind). Performs k r.op) (sym kind_is) (waiting_named old s.0 r c.requires.names s.1 c.requires.waits);
      above = λ would. absurd (true-false (sym would ∙ still));
    }

pub returns-clause-told : goal.returns-clause-told
returns-clause-told g c =
    let r = c.args.request.now in
    let old = c.args.self.now in
    let acts = g.S.Service.acts in
    let contents_is : g.S.Service.contents c.self.inside.service ≡ old.contents = ap (λ (x : ServerState). x.contents) c.self.view_is in
    let given = c.in_ok-locks.locks in
    record {
      touched = c.in_ok-touched.touched;
      seen = c.in_ok-seen.seen;
      wants = c.in_ok-wants.wants;
      given = given;
      told = c.in_ok-answer.answer;
      touches = subst (λ (x : Contents). c.in_ok-touched.touched ≡ acts.touches x (asked none r.who r.op)) contents_is
          (c.in_ok-touched.ensures.touches none);
      sees = λ v serves. c.in_ok-seen.ensures.seen v (subst (λ (x : ServerState). Serves x.store v) (sym c.self.view_is) serves);
      grants = subst (λ (x : Contents). c.in_ok-wants.wants ≡ acts.grants x (asked none r.who r.op)) contents_is
          (c.in_ok-wants.ensures.grants none);
      tells = subst (λ (x : Contents). c.in_ok-answer.answer ≡ acts.answer x (asked none r.who r.op)) contents_is
          c.in_ok-answer.ensures.answer;
      left = subst (λ (x : Contents). g.S.Service.contents c.apply.new.self ≡ acts.after x (asked none r.who r.op)) contents_is
          c.in_ok-answer.ensures.after;
      admitted = subst (λ (x : ServerState). AreAdmitted r.who c.in_ok-wants.wants given x.locks c.admit.new.self) c.self.view_is
          c.in_ok-locks.ensures.admitted;
      mid_is = ap (λ (x : ServerState). record x { locks = c.admit.new.self; contents = g.S.Service.contents c.apply.new.self })
          c.self.view_is;
      replies = c.reply.ensures.reply;
    }

pub returns-in_err-locks-clause-numbers : goal.returns-in_err-locks-clause-numbers
returns-in_err-locks-clause-numbers g c =
    λ is.
    let r = c.args.request.now in
    let kind_is : g.S.Service.kind ≡ Mdt = ap (λ (x : ServerState). x.kind) c.self.view_is ∙ c.requires.names in
    let contents_is : g.S.Service.contents c.self.inside.service ≡ c.args.self.now.contents =
    ap (λ (x : ServerState). x.contents) c.self.view_is in
    let spent = lock_spent c.from_residual-in_err-locks.result c.in_err-locks.field-0.0 _ _ c.from_residual-in_err-locks.ensures.1 is
    c.in_err-locks.ensures.spent in
    lacks_cookies g.S.Service.acts (g.met.S.Service.serves_names kind_is) c.args.self.now r c.in_ok-wants.wants c.requires.names
    (subst (λ (x : Contents). c.in_ok-wants.wants ≡ g.S.Service.acts.grants x (asked none r.who r.op)) contents_is
    (c.in_ok-wants.ensures.grants none))
    (subst (λ (x : ServerState). most_cookies < x.locks.count + length c.in_ok-wants.wants) c.self.view_is spent.1)
