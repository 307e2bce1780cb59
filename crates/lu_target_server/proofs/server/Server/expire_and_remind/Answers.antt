-- Lives leave, and what is outstanding still is sent again.
use Rattle.std.proofs.Common.{◌≡◌, sym, ap, subst, ◌∙◌, rules}
use Rattle.lu_spec_target.specs.Leaving.{condemned}
use Rattle.lu_spec_target.specs.States.{Target}
use Rattle.lu_target_locks.specs.Servers as locking
use Rattle.lu_target_server.specs.Servers.{ServerState, Shows}
use Rattle.lu_target_server.proofs.Items.{on_err}
use Rattle.lu_target_server.proofs.Expiring.{ticks, ticks_keep}
use Rattle.lu_target_server.proofs.Expiring.{over_ticked}
use Rattle.lu_target_server.proofs.server.Server.expire_and_remind.Goals as goal

pub returns-in_err-expel-clause-batches : goal.returns-in_err-expel-clause-batches
returns-in_err-expel-clause-batches g c =
    let due : (v : Target) → Shows c.args.self.now v → c.in_ok-condemned.condemned ≡ condemned v v.called =
    (λ v shows. c.in_ok-condemned.ensures.due v (subst (λ (it : ServerState). locking.Shows it.locks v) (sym c.self.view_is) shows.locks)
    (shows.expire ∙ sym (ap (λ (it : ServerState). it.expire) c.self.view_is))) in
    ticks_keep c.args.self.now c.expel.new.self c.in_ok-condemned.condemned c.args.turn.now.at due c.expel.ensures.batches

pub returns-in_err-reminders-clause-batches : goal.returns-in_err-reminders-clause-batches
returns-in_err-reminders-clause-batches g c =
    let due : (v : Target) → Shows c.args.self.now v → c.in_ok-condemned.condemned ≡ condemned v v.called =
    (λ v shows. c.in_ok-condemned.ensures.due v (subst (λ (it : ServerState). locking.Shows it.locks v) (sym c.self.view_is) shows.locks)
    (shows.expire ∙ sym (ap (λ (it : ServerState). it.expire) c.self.view_is))) in
    ticks_keep c.args.self.now c.expel.new.self c.in_ok-condemned.condemned c.args.turn.now.at due c.expel.ensures.batches

pub returns-in_err-remind_all-clause-batches : goal.returns-in_err-remind_all-clause-batches
returns-in_err-remind_all-clause-batches g c =
    let due : (v : Target) → Shows c.args.self.now v → c.in_ok-condemned.condemned ≡ condemned v v.called =
    (λ v shows. c.in_ok-condemned.ensures.due v (subst (λ (it : ServerState). locking.Shows it.locks v) (sym c.self.view_is) shows.locks)
    (shows.expire ∙ sym (ap (λ (it : ServerState). it.expire) c.self.view_is))) in
    ticks_keep c.args.self.now c.expel.new.self c.in_ok-condemned.condemned c.args.turn.now.at due c.expel.ensures.batches

pub returns-clause-batches : goal.returns-clause-batches
returns-clause-batches g c =
    let due : (v : Target) → Shows c.args.self.now v → c.in_ok-condemned.condemned ≡ condemned v v.called =
    (λ v shows. c.in_ok-condemned.ensures.due v (subst (λ (it : ServerState). locking.Shows it.locks v) (sym c.self.view_is) shows.locks)
    (shows.expire ∙ sym (ap (λ (it : ServerState). it.expire) c.self.view_is))) in
    ticks_keep c.args.self.now c.expel.new.self c.in_ok-condemned.condemned c.args.turn.now.at due c.expel.ensures.batches

pub returns-clause-makes : goal.returns-clause-makes
returns-clause-makes g c =
    let due : (v : Target) → Shows c.args.self.now v → c.in_ok-condemned.condemned ≡ condemned v v.called =
    (λ v shows. c.in_ok-condemned.ensures.due v (subst (λ (it : ServerState). locking.Shows it.locks v) (sym c.self.view_is) shows.locks)
    (shows.expire ∙ sym (ap (λ (it : ServerState). it.expire) c.self.view_is))) in
    ticks c.args.self.now c.expel.new.self c.in_ok-condemned.condemned c.in_ok-before.before c.in_ok-reminders.reminders c.args.turn.now
    c.expel.new.turn c.remind_all.new.turn due
    (λ v shows. c.in_ok-before.ensures.asked v (subst (λ (it : ServerState). locking.Shows it.locks v) (sym c.self.view_is) shows))
    c.in_ok-expel.ensures.makes
    (λ v w calls shows. c.in_ok-reminders.ensures.again v w calls
    (subst (λ (it : ServerState). locking.Shows it.locks w) (sym c.self-2.view_is) shows))
    c.in_ok-remind_all.ensures.told

pub returns-in_err-expel-clause-numbers : goal.returns-in_err-expel-clause-numbers
returns-in_err-expel-clause-numbers g c =
    λ is.
    let due : (v : Target) → Shows c.args.self.now v → c.in_ok-condemned.condemned ≡ condemned v v.called =
    (λ v shows. c.in_ok-condemned.ensures.due v (subst (λ (it : ServerState). locking.Shows it.locks v) (sym c.self.view_is) shows.locks)
    (shows.expire ∙ sym (ap (λ (it : ServerState). it.expire) c.self.view_is))) in
    over_ticked c.args.self.now c.in_ok-condemned.condemned c.args.turn.now.at due (c.expel.ensures.numbers (search rules))
