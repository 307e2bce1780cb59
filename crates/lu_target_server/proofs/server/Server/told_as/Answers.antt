-- What the service says of it.
use Rattle.std.proofs.Common.{◌≡◌, ◌<◌, List, ◌∙◌, sym, ap, subst}
use Rattle.lu_base.specs.declared.locks.Lock.{Lock}
use Rattle.lu_service.specs.declared.services.Kind.{Kind}
use Rattle.lu_service.specs.declared.services.Kind.TheVariants.{Mdt}
use Rattle.lu_service.specs.Contents.{Contents, asked}
use Rattle.lu_service.specs.Takes.{Takes, Performs}
use Rattle.lu_spec_target.specs.Replies.{reply_to}
use Rattle.lu_target_store.specs.Stores.{Serves}
use Rattle.lu_target_server.specs.Servers.{ServerState, IsTaken}
use Rattle.lu_target_server.proofs.Executions.{waiting_taken, waiting_named}
use Rattle.lu_target_server.proofs.server.Server.told_as.Goals as goal

pub touches-requires : goal.touches-requires
touches-requires g c =
    let s = c.requires.stands in
    record {
      takes = subst (λ (x : ServerState). Takes x.kind c.args.request.now.op) (sym c.self.view_is)
          (IsTaken.takes (waiting_taken c.args.self.now s.0 c.args.request.now s.1 c.requires.waits));
    }

pub apply-requires : goal.apply-requires
apply-requires g c =
    let s = c.requires.stands in
    let old = c.args.self.now in
    let r = c.args.request.now in
    let kind_is : g.S.Service.kind ≡ Mdt = ap (λ (x : ServerState). x.kind) c.self.view_is ∙ c.requires.names in
    record {
      performs = subst (λ (k : Kind). Performs k r.op) (sym kind_is) (waiting_named old s.0 r c.requires.names s.1 c.requires.waits);
      above = λ would. subst (λ (x : ServerState). x.contents.last < c.args.number.0) (sym c.self.view_is) c.requires.above;
    }

pub returns-clause-told : goal.returns-clause-told
returns-clause-told g c =
    let r = c.args.request.now in
    let old = c.args.self.now in
    let acts = g.S.Service.acts in
    let contents_is : g.S.Service.contents c.self.inside.service ≡ old.contents = ap (λ (x : ServerState). x.contents) c.self.view_is in
    let number = c.args.number in
    record {
      touched = c.in_ok-touched.touched;
      seen = c.in_ok-seen.seen;
      told = c.in_ok-answer.answer;
      touches = subst (λ (x : Contents). c.in_ok-touched.touched ≡ acts.touches x (asked number r.who r.op)) contents_is
          (c.in_ok-touched.ensures.touches number);
      sees = λ v serves. c.in_ok-seen.ensures.seen v (subst (λ (x : ServerState). Serves x.store v) (sym c.self.view_is) serves);
      tells = subst (λ (x : Contents). c.in_ok-answer.answer ≡ acts.answer x (asked number r.who r.op)) contents_is
          c.in_ok-answer.ensures.answer;
      left = subst (λ (x : Contents). g.S.Service.contents c.apply.new.self ≡ acts.after x (asked number r.who r.op)) contents_is
          c.in_ok-answer.ensures.after;
      mid_is = ap (λ (x : ServerState). record x { contents = g.S.Service.contents c.apply.new.self }) c.self.view_is;
      replies = λ v tells.
          c.reply.ensures.reply v tells
          ∙ ap (λ (locks : List Lock). reply_to v r number c.in_ok-seen.seen c.args.at locks c.in_ok-answer.answer)
          c.new-locks.ensures.empty;
    }
