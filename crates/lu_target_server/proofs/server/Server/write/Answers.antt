-- The row asks for the lock on the object that the request names, and the code for that lock.
use Rattle.std.proofs.Common.{◌≡◌, true, false, Option, sym, subst, rules}
use Rattle.std.proofs.lemmas.Result.{on_ok_weaker}
use Rattle.lu_base.specs.declared.locks.Lock.{Lock}
use Rattle.lu_msg.specs.declared.answers.Answer.TheVariants as told
use Rattle.lu_service.specs.Covered.{covered}
use Rattle.lu_spec_target.specs.Objects.{objects_go, row_uncovered, row_written, written}
use Rattle.lu_target_locks.specs.Servers as locking
use Rattle.lu_target_server.specs.Servers.{ServerState}
use Rattle.lu_target_server.proofs.AnsweredObjects.{may_refuse}
use Rattle.lu_target_server.proofs.Composing.{makes_as, tells}
use Rattle.lu_target_server.proofs.ObjectRows.{makes_answers, write_found, write_uncovered}
use Rattle.lu_target_server.proofs.Replying.{on_ok_two}
use Rattle.lu_target_server.proofs.Overrunning.{over_as}
use Rattle.lu_target_server.proofs.server.Server.write.Goals as goal

pub answer_unseen-requires-clause-may : goal.answer_unseen-requires-clause-may
answer_unseen-requires-clause-may g c = may_refuse c.args.self.now c.requires.stands.0 c.args.request.now c.requires.stands.1
    c.requires.waits

pub returns-then-not-covered-clause-makes : goal.returns-then-not-covered-clause-makes
returns-then-not-covered-clause-makes g c =
    let r = c.args.request.now in
    let at = c.args.turn.now.at in
    let found : Option Lock = c.find-lock.result in
    let un : covered r.op found r.who ≡ false = search rules in
    on_ok_two c.answer_unseen.result
    (λ sent answers.
    makes_as (λ v. row_uncovered v at r) (λ v. objects_go v at r r.op) c.args.self.now c.answer_unseen.new.self c.args.turn.now
    c.answer_unseen.new.turn
    (λ v s. let own : locking.Shows c.self.inside.locks v = subst (λ (x : ServerState). locking.Shows x.locks v) (sym c.self.view_is)
    s.locks in
    sym (write_uncovered c.self.inside.locks v at r c.args.cookie r.op found c.requires.op own (c.find-lock.ensures.lock v own) un))
    (makes_answers c.args.self.now c.answer_unseen.new.self c.args.turn.now c.answer_unseen.new.turn r at (λ v. told.Uncovered)
    c.requires.unasked c.requires.objects
    (λ v s. sent v (tells c.args.self.now v s)) (λ v s. answers v (tells c.args.self.now v s))))
    c.answer_unseen.ensures.sent c.answer_unseen.ensures.answered

pub returns-clause-makes : goal.returns-clause-makes
returns-clause-makes g c =
    let r = c.args.request.now in
    let at = c.args.turn.now.at in
    let found : Option Lock = c.find-lock.result in
    let covers : covered r.op found r.who ≡ true = search rules in
    on_ok_weaker c.perform_write.result
    (λ makes.
    makes_as (λ v. row_written (written v at r)) (λ v. objects_go v at r r.op) c.args.self.now c.perform_write.new.self c.args.turn.now
    c.perform_write.new.turn
    (λ v s. let own : locking.Shows c.self.inside.locks v = subst (λ (x : ServerState). locking.Shows x.locks v) (sym c.self.view_is)
    s.locks in
    sym (write_found c.self.inside.locks v at r c.args.cookie r.op found c.requires.op own (c.find-lock.ensures.lock v own) covers)) makes)
    c.perform_write.ensures.makes

pub returns-clause-numbers : goal.returns-clause-numbers
returns-clause-numbers g c =
    λ is.
    let r = c.args.request.now in
    let at = c.args.turn.now.at in
    let found : Option Lock = c.find-lock.result in
    let covers : covered r.op found r.who ≡ true = search rules in
    over_as (λ v. row_written (written v at r)) (λ v. objects_go v at r r.op) c.args.self.now
    (λ v s. let own : locking.Shows c.self.inside.locks v = subst (λ (x : ServerState). locking.Shows x.locks v) (sym c.self.view_is)
    s.locks in
    sym (write_found c.self.inside.locks v at r c.args.cookie r.op found c.requires.op own (c.find-lock.ensures.lock v own) covers))
    (c.perform_write.ensures.numbers is)
