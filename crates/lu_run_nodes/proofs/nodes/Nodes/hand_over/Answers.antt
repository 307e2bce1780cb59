use Rattle.std.proofs.Common.{◌≡◌, ℕ, sym, subst, ◌∙◌}
use Rattle.std.specs.Prelude.{IfOk}
use Rattle.std.proofs.lemmas.Result.{IfOk-weaker}
use Rattle.lu_base.specs.declared.ids.Node.{Node}
use Rattle.lu_spec_target.specs.Rows.{Comes}
use Rattle.lu_run_nodes.specs.Foreseen.{IsForeseen}
use Rattle.lu_run_nodes.specs.Turns.{arrives, NodesMake, NodesFail}
use Rattle.lu_run_nodes.proofs.TargetsForeseen.{true_false}
use Rattle.lu_run_nodes.proofs.nodes.Nodes.hand_over.Goals as goal

pub returns-in-Client-clause-made : goal.returns-in-Client-clause-made
returns-in-Client-clause-made g c =
    let sent = c.args.sent.now in
    subst
    (λ (to : Node). IfOk c.reach.result (λ step. (n : ℕ) → NodesMake to (arrives 0 sent.from sent.message to)
    (arrives n sent.from sent.message to) c.args.stamp c.args.self.now c.reach.new.self step))
    (sym c.in-Client.is) c.reach.ensures.made

pub returns-in-Target-clause-made : goal.returns-in-Target-clause-made
returns-in-Target-clause-made g c =
    let sent = c.args.sent.now in
    subst
    (λ (to : Node). IfOk c.serve.result (λ step. (n : ℕ) → NodesMake to (arrives 0 sent.from sent.message to)
    (arrives n sent.from sent.message to) c.args.stamp c.args.self.now c.serve.new.self step))
    (sym c.in-Target.is) (IfOk-weaker c.serve.result _ _ (λ step makes n. makes n sent.from) c.serve.ensures.made)

pub returns-in-Target-clause-failed : goal.returns-in-Target-clause-failed
returns-in-Target-clause-failed g c = λ step is t to.
    let sent = c.args.sent.now in
    let same : c.in-Target.target ≡ t = cc (to, c.in-Target.is) in
    subst (λ (k : ℕ). NodesFail k (Comes 0 sent.from sent.message) c.args.stamp c.args.self.now c.serve.new.self step) same
    (c.serve.ensures.failed step is sent.from)

pub returns-in-Client-clause-foreseen : goal.returns-in-Client-clause-foreseen
returns-in-Client-clause-foreseen g c = λ is head turns past shows foreseen.
    let sent = c.args.sent.now in
    let own = subst (λ (to : Node). IsForeseen head past c.args.stamp (record sent { to = to })) c.in-Client.is foreseen in
    true_false (sym own.2 ∙ c.reach.ensures.foreseen is head turns past shows own.0 own.1.0 own.1.1)

pub returns-in-Target-clause-foreseen : goal.returns-in-Target-clause-foreseen
returns-in-Target-clause-foreseen g c = λ is head turns past shows foreseen.
    let sent = c.args.sent.now in
    let own = subst (λ (to : Node). IsForeseen head past c.args.stamp (record sent { to = to })) c.in-Target.is foreseen in
    c.serve.ensures.foreseen is head turns past sent.from shows own.0 (own.1, own.2, own.3, own.4)
