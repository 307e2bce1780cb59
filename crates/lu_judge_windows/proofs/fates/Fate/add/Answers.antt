use Rattle.std.proofs.Common.{ℕ, Bool, List, ◌∷◌, ap, ◌∙◌}
use Rattle.std.specs.Prelude.{◌==◌, ◌||◌, reverse}
use Rattle.lu_spec_laws.specs.Words.Lost.{is_among}
use Rattle.lu_judge_windows.proofs.Listed.{reverse_push}
use Rattle.lu_judge_windows.proofs.Tests.{put_test, eq_swap}
use Rattle.lu_judge_windows.proofs.fates.Fate.add.Goals as goal

pub returns : goal.returns
returns c = record {
  added = λ lost fate. record {
    order = ap reverse c.in_ok-push.ensures.items ∙ reverse_push c.args.self.now.in_order.items c.args.number
        ∙ ap (λ (ns : List ℕ). c.args.number ∷ ns) fate.order;
    among = λ n.
        c.in_ok-insert.ensures.updates.0 n ∙ put_test (c.args.number == n) _ ∙ ap (λ (b : Bool). (c.args.number == n) || b) (fate.among n)
        ∙ ap (λ (b : Bool). b || is_among lost n) (eq_swap c.args.number n);
  };
}
