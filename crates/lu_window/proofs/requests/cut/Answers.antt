-- What is kept of the seen numbers is below the replay's own.
use Rattle.std.proofs.Common.{◌≡◌, ◌∙◌, ap, filter, nat_lt, rules}
use Rattle.std.proofs.lemmas.Fn.{filter_same}
use Rattle.lu_window.proofs.requests.cut.Goals as goal

pub returns : goal.returns
returns c =
    let kept : c.retain.new.self.items ≡ filter (λ n. nat_lt n c.args.replay.number.0) c.into_vec-below.result.items =
    filter_same _ _ _ (λ x b f' k. search rules) _ _ c.retain.ensures.filtered in
    let below : c.from-seen.result ≡ filter (λ n. nat_lt n c.args.replay.number.0) c.args.replay.seen = c.from-seen.ensures ∙ kept
    ∙ ap (filter (λ n. nat_lt n c.args.replay.number.0)) c.into_vec-below.ensures.items in
    λ who. ap (λ seen. record {
      who = who;
      number = c.args.replay.number.0;
      xid = c.args.replay.xid.0;
      tag = c.args.replay.tag;
      seen = seen;
      op = c.args.replay.op;
    }) below
