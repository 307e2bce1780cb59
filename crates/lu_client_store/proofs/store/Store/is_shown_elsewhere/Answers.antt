-- Each lock of the list is looked at in turn.
use Rattle.std.proofs.Common.{◌≡◌, ◌+◌, ◌<◌, ◌∙◌, ℕ, Some, None, sym, ap, subst, arith, length, drop}
use Rattle.std.specs.Vec.{vec_len}
use Rattle.lu_held.specs.declared.locks.Wanted.TheVariants.{Holding}
use Rattle.lu_held.specs.Held.{those}
use Rattle.lu_spec_client.specs.Looks.{shown_elsewhere}
use Rattle.lu_client_store.proofs.Reaching.{LockAt, none_here, one_here, none_left, is_within}
use Rattle.lu_client_store.proofs.store.Store.is_shown_elsewhere.Goals as goal

pub returns-then-is_shown_before_end : goal.returns-then-is_shown_before_end
returns-then-is_shown_before_end c =
    let some = those (Holding c.args.target c.args.resource c.args.offset) c.args.self.now.store.held in
    let there : LockAt some (vec_len c.loop-lock.passed) (Some c.in-Some.lock.now) =
    subst (λ (n : ℕ). LockAt some n (Some c.in-Some.lock.now)) c.len.ensures c.in-Some.ensures.lock in
    record {
      shown = sym (c.loop-lock.invariant ∙ one_here c.args.offset c.args.self.now.store some (vec_len c.loop-lock.passed)
          c.in-Some.lock.now there (sym c.is_shown_before_end.ensures.shown ∙ c.if-is_shown_before_end.true));
    }

pub loop-lock-smaller : goal.loop-lock-smaller
loop-lock-smaller c =
    let some = those (Holding c.args.target c.args.resource c.args.offset) c.args.self.now.store.held in
    let there : LockAt some (vec_len c.loop-lock.passed) (Some c.in-Some.lock.now) =
    subst (λ (n : ℕ). LockAt some n (Some c.in-Some.lock.now)) c.len.ensures c.in-Some.ensures.lock in
    let within : vec_len c.loop-lock.passed < length some = is_within some (vec_len c.loop-lock.passed) c.in-Some.lock.now there in
    let longer : vec_len c.push.new.self ≡ vec_len c.loop-lock.passed + 1 = c.in_ok-push.ensures.len in
    omega (arith, within, longer)

pub loop-lock-preserved : goal.loop-lock-preserved
loop-lock-preserved c =
    let some = those (Holding c.args.target c.args.resource c.args.offset) c.args.self.now.store.held in
    let there : LockAt some (vec_len c.loop-lock.passed) (Some c.in-Some.lock.now) =
    subst (λ (n : ℕ). LockAt some n (Some c.in-Some.lock.now)) c.len.ensures c.in-Some.ensures.lock in
    let longer : vec_len c.push.new.self ≡ vec_len c.loop-lock.passed + 1 = c.in_ok-push.ensures.len in
    c.loop-lock.invariant
    ∙ none_here c.args.offset c.args.self.now.store some (vec_len c.loop-lock.passed) c.in-Some.lock.now there
    (sym c.is_shown_before_end.ensures.shown ∙ c.if-is_shown_before_end.false)
    ∙ ap (λ (n : ℕ). shown_elsewhere c.args.offset c.args.self.now.store (drop n some)) (sym longer)

pub returns : goal.returns
returns c =
    let some = those (Holding c.args.target c.args.resource c.args.offset) c.args.self.now.store.held in
    let none : LockAt some (vec_len c.loop-lock.passed) None = subst (λ (n : ℕ). LockAt some n None) c.len.ensures c.in_default.ensures.lock
    in
    record { shown = sym (c.loop-lock.invariant ∙ none_left c.args.offset c.args.self.now.store some (vec_len c.loop-lock.passed) none) }
