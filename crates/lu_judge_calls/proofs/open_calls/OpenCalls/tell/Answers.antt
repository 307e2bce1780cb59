use Rattle.std.proofs.Common.{◌≡◌, ℕ, refl, ap, ◌∙◌}
use Rattle.lu_base.specs.declared.ids.Who.{Who}
use Rattle.lu_spec_laws.specs.Words.Lives.{who_is}
use Rattle.lu_spec_laws.specs.Words.Calls.{told_binding, binding, call_in, number_heard, heard_in}
use Rattle.lu_judge_pass.proofs.Shown.{taken}
use Rattle.lu_judge_calls.specs.Tables.{begun_of}
use Rattle.lu_judge_calls.proofs.Steps.{told_out, life_put}
use Rattle.lu_judge_calls.proofs.open_calls.OpenCalls.tell.Goals as goal

pub returns : goal.returns
returns c = record {
  shows = λ past ordered follows ledger shown.
      let own : c.who-who.result ≡ who_is c.args.client past = c.who-who.ensures.who
      ∙ ap (λ (n : ℕ). let w : Who = record { client = c.args.client; life = n } in w) (ledger.lives c.args.client) in
      record {
        standing = λ d s.
            taken begun_of _ _ _ _ (c.remove.ensures.updates.0 (d, s)) (shown.standing d s)
            ∙ told_out c.args.client d s c.args.slot c.args.at _ c.requires.own;
        handles = λ w h.
            life_put c.args.client c.args.at c.who-who.result w past
            (λ (v : Who). told_binding h (call_in v.client c.args.slot past) c.args.answer.now
            (number_heard past c.args.turn v (heard_in past c.args.at)) (binding w h past)) _ _ _ c.requires.own own (shown.handles w h)
            (c.in_ok-tell.ensures.bindings w h ∙ rw (
              shown.handles w h,
              c.call_in-call.ensures.call past shown,
              c.number_heard-number.ensures.number past ordered follows ledger shown,
              ap (λ (v : Who). v.client) own,
            ) refl);
        transactions = shown.transactions;
      };
}
