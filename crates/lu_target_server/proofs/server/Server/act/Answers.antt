-- The request acts: its locks come with it, and nothing else changes.
use Rattle.std.proofs.Common.{◌≡◌, ◌∙◌, sym, ap, subst, rules}
use Rattle.lu_service.specs.declared.services.Kind.TheVariants.{Mdt}
use Rattle.lu_service.specs.Names.{names}
use Rattle.lu_base.specs.declared.ids.At.{At}
use Rattle.lu_target_server.specs.Acting.{HasTold}
use Rattle.lu_target_server.specs.Servers.{ServerState, IsTaken}
use Rattle.lu_target_server.proofs.Composing.{on_ok_two}
use Rattle.lu_target_server.proofs.Executions.{waiting_taken, would_is, may_answer, act_given, acts_made}
use Rattle.lu_target_server.proofs.Overrunning.{over_acts}
use Rattle.lu_target_server.proofs.server.Server.act.Goals as goal

pub told-requires : goal.told-requires
told-requires g c = record { names = c.requires.names; stands = c.requires.stands; waits = c.requires.waits; still = c.requires.still }

pub answer-requires : goal.answer-requires
answer-requires g c =
    let s = c.requires.stands in
    record {
      may = may_answer c.args.self.now _ s.0 c.args.request c.in_ok-reply.reply s.1 c.requires.waits
          (ap (λ (x : ServerState). x.store) c.in_ok-reply.ensures.told.mid_is) c.in_ok-reply.ensures.own;
      tag = IsTaken.tag (waiting_taken c.args.self.now s.0 c.args.request s.1 c.requires.waits);
    }

pub returns-clause-makes : goal.returns-clause-makes
returns-clause-makes g c =
    let r = c.args.request in
    let old = c.args.self.now in
    let acts = g.S.Service.acts in
    let kind_is : g.S.Service.kind ≡ Mdt = ap (λ (x : ServerState). x.kind) c.self.view_is
    ∙ ap (λ (x : ServerState). x.kind) c.in_ok-reply.ensures.told.mid_is ∙ c.requires.names in
    let names_is : acts ≡ names = g.met.S.Service.serves_names kind_is in
    let reply = c.in_ok-reply.reply in
    let s = c.requires.stands in
    on_ok_two _ _ _
    (λ sent answered.
    acts_made acts c.args.turn.now.at r reply old c.told.new.self c.answer.new.self
    (record {
      names = names_is;
      kind = c.requires.names;
      waits = c.requires.waits;
      still = sym (would_is acts names_is old s.0 r c.requires.names s.1) ∙ c.requires.still s.0 s.1;
      by = subst (λ (at : At). HasTold acts at r reply old c.told.new.self) c.at.ensures.at c.in_ok-reply.ensures.told;
      answered = answered;
    })
    c.args.turn.now c.answer.new.turn
    (λ d is. act_given c.args.turn.now c.note_act.new.turn c.answer.new.turn d reply is (c.in_ok-note_act.ensures.noted d is) sent))
    c.answer.result c.answer.ensures.sent c.answer.ensures.answered

pub returns-in_err-reply-clause-numbers : goal.returns-in_err-reply-clause-numbers
returns-in_err-reply-clause-numbers g c =
    λ is.
    over_acts c.args.self.now c.args.turn.now.at c.args.request
    (c.told.ensures.numbers (search rules))
