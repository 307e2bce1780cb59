-- The row asks for the lock on the object that the request names, and the code for that lock.
use Rattle.std.proofs.Common.{◌≡◌, true, false, Option, Some, None, sym, ap, subst, ◌∙◌, rules}
use Rattle.lu_base.specs.declared.locks.Lock.{Lock}
use Rattle.lu_base.specs.declared.locks.Extent.{Extent}
use Rattle.lu_spec_machine.specs.Objects.{content}
use Rattle.lu_msg.specs.declared.answers.Answer.TheVariants as told
use Rattle.lu_msg.specs.declared.operations.Op.{Op}
use Rattle.lu_msg.specs.declared.operations.Op.TheVariants as op
use Rattle.lu_service.specs.Covered.{covered}
use Rattle.lu_spec_target.specs.Glimpses.{answered, row_answers}
use Rattle.lu_spec_target.specs.Objects.{lock_of, row_get, row_uncovered}
use Rattle.lu_spec_target.specs.Queues.{extent_of, object}
use Rattle.lu_spec_target.specs.Replies.{locks_on}
use Rattle.lu_spec_target.specs.States.{Target}
use Rattle.lu_target_locks.specs.Servers as locking
use Rattle.lu_target_server.specs.Servers.{ServerState, Shows}
use Rattle.lu_target_server.proofs.AnsweredObjects.{may_refuse}
use Rattle.lu_target_server.proofs.Composing.{makes_as, tells, tells_sizes}
use Rattle.lu_target_server.proofs.ObjectRows.{makes_answers, get_covered, get_uncovered}
use Rattle.lu_target_server.proofs.Replying.{on_ok_two}
use Rattle.lu_target_server.proofs.server.Server.get.Goals as goal
use Rattle.lu_target_server.proofs.server.Server.get.Goals.{in_default-via-in-Some+else-covered, in_default-via-in_default}

pub read-requires-clause-may : goal.read-requires-clause-may
read-requires-clause-may g c = may_refuse c.args.self.now c.requires.stands.0 c.args.request.now c.requires.stands.1 c.requires.waits

pub answer_unseen-requires-clause-may : goal.answer_unseen-requires-clause-may
answer_unseen-requires-clause-may g c = may_refuse c.args.self.now c.requires.stands.0 c.args.request.now c.requires.stands.1
    c.requires.waits

pub returns-in-Some-clause-makes : goal.returns-in-Some-clause-makes
returns-in-Some-clause-makes g c =
    let r = c.args.request.now in
    let at = c.args.turn.now.at in
    let range : Extent = c.extent_of.result in
    let covers : covered r.op (Some c.in-Some.lock) r.who ≡ true = search rules in
    let covers_get : covered (op.Get c.args.resource c.args.cookie c.args.page) (Some c.in-Some.lock) r.who ≡ true =
    subst (λ (o : Op). covered o (Some c.in-Some.lock) r.who ≡ true) c.requires.op covers
    in
    let same : (v : Target) → Shows c.args.self.now v → row_answers
    (answered v at r (told.Content (content c.args.page range (object v c.args.resource))))
    ≡ row_get v at r c.args.resource c.args.page (lock_of r.who c.args.cookie (locks_on c.args.resource v.granted)) = λ v s.
    let own : locking.Shows c.self.inside.locks v = subst (λ (x : ServerState). locking.Shows x.locks v) (sym c.self.view_is) s.locks in
    ap (λ (x : Extent). row_answers (answered v at r (told.Content (content c.args.page x (object v c.args.resource)))))
    c.extent_of.ensures.extent
    ∙ sym (get_covered c.self.inside.locks v at r c.args.resource c.args.cookie c.args.page c.in-Some.lock own
    (c.in-Some.ensures.lock v own) covers_get)
    in
    on_ok_two c.read.result
    (λ sent answers.
    makes_as (λ v. row_answers (answered v at r (told.Content (content c.args.page range (object v c.args.resource)))))
    (λ v. row_get v at r c.args.resource c.args.page (lock_of r.who c.args.cookie (locks_on c.args.resource v.granted))) c.args.self.now
    c.read.new.self c.args.turn.now c.read.new.turn same
    (makes_answers c.args.self.now c.read.new.self c.args.turn.now c.read.new.turn r at
    (λ v. told.Content (content c.args.page range (object v c.args.resource))) c.requires.unasked c.requires.objects
    (λ v s. sent v (tells_sizes c.args.self.now v c.requires.objects s))
    (λ v s. answers v (tells_sizes c.args.self.now v c.requires.objects s))))
    c.read.ensures.sent c.read.ensures.answered

pub returns-in_default-clause-makes : goal.returns-in_default-clause-makes
returns-in_default-clause-makes g c =
    let r = c.args.request.now in
    let at = c.args.turn.now.at in
    let un : covered r.op c.find.result r.who ≡ false = elim c.in_default.branch [
      | in_default-via-in-Some+else-covered w ↦ search rules
      | in_default-via-in_default w ↦ let none : c.find.result ≡ None = search rules in ap (λ (o : Option Lock). covered r.op o r.who) none
    ] in
    let un_get : covered (op.Get c.args.resource c.args.cookie c.args.page) c.find.result r.who ≡ false =
    subst (λ (o : Op). covered o c.find.result r.who ≡ false) c.requires.op un in
    let same : (v : Target) → Shows c.args.self.now v → row_uncovered v at r
    ≡ row_get v at r c.args.resource c.args.page (lock_of r.who c.args.cookie (locks_on c.args.resource v.granted)) = λ v s.
    let own : locking.Shows c.self.inside.locks v = subst (λ (x : ServerState). locking.Shows x.locks v) (sym c.self.view_is) s.locks in
    sym (get_uncovered c.self.inside.locks v at r c.args.resource c.args.cookie c.args.page c.find.result own (c.find.ensures.lock v own)
    un_get)
    in
    on_ok_two c.answer_unseen.result
    (λ sent answers.
    makes_as (λ v. row_uncovered v at r)
    (λ v. row_get v at r c.args.resource c.args.page (lock_of r.who c.args.cookie (locks_on c.args.resource v.granted))) c.args.self.now
    c.answer_unseen.new.self c.args.turn.now c.answer_unseen.new.turn same
    (makes_answers c.args.self.now c.answer_unseen.new.self c.args.turn.now c.answer_unseen.new.turn r at (λ v. told.Uncovered)
    c.requires.unasked c.requires.objects
    (λ v s. sent v (tells c.args.self.now v s)) (λ v s. answers v (tells c.args.self.now v s))))
    c.answer_unseen.ensures.sent c.answer_unseen.ensures.answered
