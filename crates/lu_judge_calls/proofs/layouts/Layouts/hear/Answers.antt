-- The first layout counts.
use Rattle.std.proofs.Common.{sym, ◌∙◌}
use Rattle.lu_judge_calls.proofs.Firsts.{is_some_map, stays, comes, put_map, same_layout}
use Rattle.lu_judge_calls.proofs.layouts.Layouts.hear.Goals as goal

pub returns-then-contains_key : goal.returns-then-contains_key
returns-then-contains_key c = record {
  heard = λ w f.
      stays _ _ _ _ (same_layout c.args.self.now c.args.who c.args.fid w f)
      (is_some_map (λ l. l.now) _ ∙ sym c.contains_key.ensures ∙ c.if-contains_key.true);
}

pub returns : goal.returns
returns c = record {
  heard = λ w f.
      comes _ _ _ _ _ (same_layout c.args.self.now c.args.who c.args.fid w f)
      (is_some_map (λ l. l.now) _ ∙ sym c.contains_key.ensures ∙ c.if-contains_key.false)
      (put_map (λ l. l.now) _ _ _ _ (c.in_ok-insert.ensures.updates.0 ((w.client, w.life), f.0)));
}
