use Rattle.std.proofs.Common.{sym, subst}
use Rattle.std.specs.Prelude.{IsTrue, ◌↔◌}
use Rattle.lu_base.specs.declared.ids.Node.{Node}
use Rattle.lu_base.specs.declared.ids.Node.TheVariants.{Target}
use Rattle.lu_msg.specs.declared.messages.Message.{Message}
use Rattle.lu_trace.specs.declared.entries.Entry.TheVariants.{Send}
use Rattle.lu_spec_laws.specs.Laws.Acts.{SendsAt}
use Rattle.lu_judge_acts.proofs.Sending.{may_fly, may_not_fly}
use Rattle.lu_judge_acts.proofs.acts.Acts.may_send.Goals as goal

pub returns-then-fly : goal.returns-then-fly
returns-then-fly c = record {
  may = λ past shown at number.
      let u = c.in-Target.target in
      let result = c.has_its_tag.result in
      subst (λ (n : Node). IsTrue result ↔ SendsAt past (record { at = at; entry = Send number n c.args.message.now }) n c.args.message.now)
      (sym c.in-Target.is)
      (subst (λ (m : Message). IsTrue result ↔ SendsAt past (record { at = at; entry = Send number (Target u) m }) (Target u) m)
      (sym c.in-Request.is)
      (may_fly c.args.self.now.flights past at number u c.in-Request.request c.fly.result result shown.flights shown.flying
      c.fly.ensures.flies (c.has_its_tag.ensures.tag past shown) c.if-fly.true));
}

pub returns-else-fly : goal.returns-else-fly
returns-else-fly c = record {
  may = λ past shown at number.
      let u = c.in-Target.target in
      let result = c.fly.result in
      subst (λ (n : Node). IsTrue result ↔ SendsAt past (record { at = at; entry = Send number n c.args.message.now }) n c.args.message.now)
      (sym c.in-Target.is)
      (subst (λ (m : Message). IsTrue result ↔ SendsAt past (record { at = at; entry = Send number (Target u) m }) (Target u) m)
      (sym c.in-Request.is)
      (may_not_fly c.args.self.now.flights past at number u c.in-Request.request result shown.flights shown.flying c.fly.ensures.flies
      c.if-fly.false));
}
