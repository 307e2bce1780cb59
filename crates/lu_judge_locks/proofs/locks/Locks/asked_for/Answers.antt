-- Without a wait the request tells.
use Rattle.std.proofs.Common.{◌≡◌, ℕ, ◌∙◌, sym, ap, subst, None}
use Rattle.std.specs.Prelude.{find}
use Rattle.std.specs.Option.{option_map}
use Rattle.std.proofs.lemmas.Result.{IfOk-weaker}
use Rattle.lu_base.specs.declared.ids.Node.TheVariants.{Target}
use Rattle.lu_spec_laws.specs.Words.Queues.{waits}
use Rattle.lu_spec_laws.specs.Words.Sends.{taken}
use Rattle.lu_spec_laws.specs.Words.Asked.{is_for, asked_for}
use Rattle.lu_judge_locks.specs.Asked.{requested_in, enqueued_with}
use Rattle.lu_judge_locks.proofs.Asking.{enqueued_is}
use Rattle.lu_judge_locks.proofs.Decided.{from_names, from_request, from_taken}
use Rattle.lu_judge_locks.proofs.locks.Locks.asked_for.Goals as goal

pub returns-then-target-eq0 : goal.returns-then-target-eq0
returns-then-target-eq0 c =
    let zero : c.args.target ≡ 0 = c.if-target-eq0.true in
    IfOk-weaker c.wanted.result _ _
    (λ asked is. λ past shown ordered follows.
    let none : waits c.args.target c.args.lock.now.cookie.0 past ≡ None = sym (c.waits.ensures.waits past shown.queues)
    ∙ ap (option_map (λ lock. lock.now)) c.in_default.is in
    subst (λ (t : ℕ). asked ≡ asked_for c.args.self.now.osts t past c.args.at c.args.lock.now) (sym zero)
    (from_names c.args.self.now.osts past c.args.at c.args.lock.now asked (c.requires ∙ ap Target zero)
    (subst (λ (t : ℕ). waits t c.args.lock.now.cookie.0 past ≡ None) zero none) (is past shown)))
    c.wanted.ensures

pub returns : goal.returns
returns c = λ past shown ordered follows.
    let none : waits c.args.target c.args.lock.now.cookie.0 past ≡ None = sym (c.waits.ensures.waits past shown.queues)
    ∙ ap (option_map (λ lock. lock.now)) c.in_default.is in
    let asks = requested_in c.args.self.now.ledger.requests c.args.target in
    let fits = is_for c.args.lock.now in
    from_request c.args.self.now.osts c.args.target past c.args.at c.args.lock.now c.find_enqueued.result none
    (c.find_enqueued.ensures
    ∙ ap (λ sent. find fits (enqueued_with asks c.args.lock.now.cookie sent))
    (c.taken-taken.ensures.taken past shown.ledger.present ordered follows)
    ∙ ap (find fits) (enqueued_is c.args.target past asks (λ who x. ap (option_map (λ r. r.op)) (shown.ledger.requests c.args.target who x))
    c.args.lock.now.cookie (taken past c.args.at))
    ∙ ap (find fits) (sym (from_taken c.args.self.now.osts c.args.target past c.args.at c.args.lock.now.cookie c.if-target-eq0.false)))
