-- By the write lock of greatest start, as the row has it.
use Rattle.std.proofs.Common.{◌≡◌, ◌==◌, nat_lt, true, false, Some, None, refl, sym, ap, subst, ◌∙◌, rules}
use Rattle.lu_lock.specs.Growth.{the_end}
use Rattle.lu_msg.specs.declared.answers.Answer.TheVariants as told
use Rattle.lu_spec_target.specs.Glimpses.{answered}
use Rattle.lu_spec_target.specs.Queues.{extent_of}
use Rattle.lu_spec_target.specs.States.{Target}
use Rattle.lu_target_locks.specs.Servers as locking
use Rattle.lu_target_server.specs.Answering.{Tells, MayRefuse, IsAnswered}
use Rattle.lu_target_server.specs.Servers.{ServerState, Shows}
use Rattle.lu_target_server.proofs.AnsweredObjects.{may_refuse}
use Rattle.lu_target_server.proofs.Composing.{tells}
use Rattle.lu_target_server.proofs.Glimpsing.{ends_before, makes_said, makes_locked, top_held}
use Rattle.lu_target_server.proofs.Replying.{on_ok_two}
use Rattle.lu_target_server.proofs.server.Server.size.Goals as goal

pub say_size-requires-clause-may : goal.say_size-requires-clause-may
say_size-requires-clause-may g c = subst (MayRefuse c.args.request.now) (sym c.in_ok-size.ensures.same)
    (may_refuse c.args.self.now c.requires.stands.0 c.args.request.now c.requires.stands.1 c.requires.waits)

pub ask-requires-clause-held : goal.ask-requires-clause-held
ask-requires-clause-held g c = λ v s.
    top_held v c.args.resource c.in-Some.lock (c.in-Some.ensures.highest v
    (subst (λ (x : ServerState). locking.Shows x.locks v) (sym c.self.view_is) s.locks))

pub say_size-requires-in-Some-2-clause-may : goal.say_size-requires-in-Some-2-clause-may
say_size-requires-in-Some-2-clause-may g c = subst (MayRefuse c.args.request.now) (sym c.in_ok-size.ensures.same)
    (may_refuse c.args.self.now c.requires.stands.0 c.args.request.now c.requires.stands.1 c.requires.waits)

pub answer_unseen-requires-clause-may : goal.answer_unseen-requires-clause-may
answer_unseen-requires-clause-may g c = subst (MayRefuse c.args.request.now) (sym c.in_ok-size.ensures.same)
    (may_refuse c.args.self.now c.requires.stands.0 c.args.request.now c.requires.stands.1 c.requires.waits)

pub returns-in-None-clause-makes : goal.returns-in-None-clause-makes
returns-in-None-clause-makes g c =
    let r = c.args.request.now in
    let at = c.args.turn.now.at in
    let back : c.size_of.new.self ≡ c.args.self.now = c.in_ok-size.ensures.same in
    let own : (v : Target) → Shows c.args.self.now v → locking.Shows c.self.inside.locks v = λ v s.
    subst (λ (x : ServerState). locking.Shows x.locks v) (sym (c.self.view_is ∙ back)) s.locks
    in
    let sees : (v : Target) → Shows c.args.self.now v → Tells c.size_of.new.self v =
    λ v s. tells c.size_of.new.self v (subst (λ (x : ServerState). Shows x v) (sym back) s) in
    on_ok_two c.say_size.result
    (λ sent answers.
    makes_said c.args.self.now c.say_size.new.self c.args.turn.now c.say_size.new.turn r at c.args.resource c.in_ok-size.size None
    c.requires.unasked c.requires.objects c.in_ok-size.ensures.size
    (λ v s. c.in-None.ensures.highest v (own v s))
    (λ v e. refl) (λ v s. sent v (sees v s))
    (λ v s. subst (λ (x : ServerState). IsAnswered r.tag (answered v at r (told.Size c.in_ok-size.size)).reply x c.say_size.new.self) back
    (answers v (sees v s))))
    c.say_size.ensures.sent c.say_size.ensures.answered

pub returns-in-Some-2-clause-makes : goal.returns-in-Some-2-clause-makes
returns-in-Some-2-clause-makes g c =
    let r = c.args.request.now in
    let at = c.args.turn.now.at in
    let back : c.size_of.new.self ≡ c.args.self.now = c.in_ok-size.ensures.same in
    let own : (v : Target) → Shows c.args.self.now v → locking.Shows c.self.inside.locks v = λ v s.
    subst (λ (x : ServerState). locking.Shows x.locks v) (sym (c.self.view_is ∙ back)) s.locks
    in
    let sees : (v : Target) → Shows c.args.self.now v → Tells c.size_of.new.self v =
    λ v s. tells c.size_of.new.self v (subst (λ (x : ServerState). Shows x v) (sym back) s) in
    let short : ((extent_of c.in-Some-2.lock).last == the_end) ≡ false = search rules in
    let less : nat_lt (extent_of c.in-Some-2.lock).last c.in_ok-size.size ≡ true = search rules in
    on_ok_two c.say_size-in-Some-2.result
    (λ sent answers.
    makes_said c.args.self.now c.say_size-in-Some-2.new.self c.args.turn.now c.say_size-in-Some-2.new.turn r at c.args.resource
    c.in_ok-size.size (Some c.in-Some-2.lock) c.requires.unasked c.requires.objects
    c.in_ok-size.ensures.size (λ v s. c.in-Some-2.ensures.highest v (own v s))
    (λ v e. ends_before v at r c.args.resource c.in-Some-2.lock short (ap (nat_lt (extent_of c.in-Some-2.lock).last) e ∙ less))
    (λ v s. sent v (sees v s))
    (λ v s. subst (λ (x : ServerState). IsAnswered r.tag (answered v at r (told.Size c.in_ok-size.size)).reply x
    c.say_size-in-Some-2.new.self) back (answers v (sees v s))))
    c.say_size-in-Some-2.ensures.sent c.say_size-in-Some-2.ensures.answered

pub returns-in-Some-3-clause-makes : goal.returns-in-Some-3-clause-makes
returns-in-Some-3-clause-makes g c =
    let r = c.args.request.now in
    let at = c.args.turn.now.at in
    let back : c.size_of.new.self ≡ c.args.self.now = c.in_ok-size.ensures.same in
    let own : (v : Target) → Shows c.args.self.now v → locking.Shows c.self.inside.locks v = λ v s.
    subst (λ (x : ServerState). locking.Shows x.locks v) (sym (c.self.view_is ∙ back)) s.locks
    in
    let sees : (v : Target) → Shows c.args.self.now v → Tells c.size_of.new.self v =
    λ v s. tells c.size_of.new.self v (subst (λ (x : ServerState). Shows x v) (sym back) s) in
    let short : ((extent_of c.in-Some-3.field-0).last == the_end) ≡ false = search rules in
    let least : nat_lt (extent_of c.in-Some-3.field-0).last c.in_ok-size.size ≡ false = search rules in
    on_ok_two c.answer_unseen.result
    (λ sent answers.
    makes_locked c.args.self.now c.answer_unseen.new.self c.args.turn.now c.answer_unseen.new.turn r at c.args.resource c.in_ok-size.size
    c.in-Some-3.field-0 c.requires.unasked c.requires.objects
    c.in_ok-size.ensures.size (λ v s. c.in-Some-3.ensures.highest v (own v s)) short least (λ v s. sent v (sees v s))
    (λ v s. subst (λ (x : ServerState). IsAnswered r.tag (answered v at r told.Lock).reply x c.answer_unseen.new.self) back
    (answers v (sees v s))))
    c.answer_unseen.ensures.sent c.answer_unseen.ensures.answered
