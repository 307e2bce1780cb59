use Rattle.std.proofs.Common.{◌≡◌, ℕ, refl, ap, ◌∙◌}
use Rattle.lu_base.specs.declared.ids.Who.{Who}
use Rattle.lu_spec_laws.specs.Words.Lives.{who_is}
use Rattle.lu_spec_laws.specs.Words.Calls.{begun_binding, binding}
use Rattle.lu_judge_pass.proofs.Shown.{put}
use Rattle.lu_judge_calls.specs.Tables.{begun_of}
use Rattle.lu_judge_calls.proofs.Steps.{begun_put, life_put}
use Rattle.lu_judge_calls.proofs.open_calls.OpenCalls.begin.Goals as goal

pub returns : goal.returns
returns c = record {
  shows = λ past ledger shown.
      let own : c.who.result ≡ who_is c.args.client past = c.who.ensures.who
      ∙ ap (λ (n : ℕ). let w : Who = record { client = c.args.client; life = n } in w) (ledger.lives c.args.client) in
      record {
        standing = λ d s.
            put begun_of _ _ _ _ _ (c.in_ok-insert.ensures.updates.0 (d, s)) (shown.standing d s)
            ∙ begun_put c.args.client d s c.args.slot c.args.at c.args.call.now past _ _ c.requires.own
            (rw (c.is_bad.ensures.bad past ledger shown, c.bound_by.ensures.bound past ledger shown) refl);
        handles = λ w h.
            life_put c.args.client c.args.at c.who.result w past (λ _. begun_binding h c.args.call.now (binding w h past)) _ _ _
            c.requires.own own (shown.handles w h)
            (c.begin.ensures.bindings w h ∙ rw (shown.handles w h) refl);
        transactions = shown.transactions;
      };
}
