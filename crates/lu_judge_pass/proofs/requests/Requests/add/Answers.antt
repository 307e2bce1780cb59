use Rattle.std.proofs.Common.{sym, refl, ◌∙◌}
use Rattle.lu_judge_pass.proofs.Asked.{is_some_map, stays, comes}
use Rattle.lu_judge_pass.proofs.Shown.{put}
use Rattle.lu_judge_pass.proofs.requests.Requests.add.Goals as goal

pub returns-then-contains_key : goal.returns-then-contains_key
returns-then-contains_key c = record {
  added = stays c.args.self.now c.args.target c.args.request.now
      (is_some_map (λ r. r.now) _ ∙ sym c.contains_key.ensures ∙ c.if-contains_key.true);
}

pub returns : goal.returns
returns c = record {
  added =
      comes c.args.self.now (record { first = c.insert.new.self }) c.args.target c.args.request.now
      (is_some_map (λ r. r.now) _ ∙ sym c.contains_key.ensures ∙ c.if-contains_key.false)
      (λ t who x. put (λ r. r.now) _ _ _ _ _ (c.in_ok-insert.ensures.updates.0 ((t, (who.client, who.life)), x)) refl);
}
