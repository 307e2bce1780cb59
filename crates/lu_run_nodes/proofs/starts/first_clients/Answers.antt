use Rattle.std.proofs.Common.{ℕ, ◌+◌, [], ◌∷◌, List, length, get_or, sym, subst, ap, ◌∙◌}
use Rattle.std.proofs.lemmas.List.{length-append}
use Rattle.lu_spec_run.specs.Scenarios.{head_of}
use Rattle.lu_run_nodes.specs.States.{ClientSeat}
use Rattle.lu_run_nodes.specs.Shown.{ShowsClient}
use Rattle.lu_run_nodes.proofs.StartsMade.{one_added}
use Rattle.lu_run_nodes.proofs.starts.first_clients.Goals as goal

pub loop-number-preserved : goal.loop-number-preserved
loop-number-preserved c =
    let clients = c.loop-number.clients.items in
    let seat = c.in_ok-new.field-0 in
    let n = c.loop-number.number in
    let items = c.in_ok-push.ensures.items in
    record {
      count = ap (λ (xs : List ClientSeat). length xs) items ∙ length-append clients (seat ∷ [])
          ∙ ap (λ (k : ℕ). k + 1) c.loop-number.invariant.count;
      shows = λ k d below.
          subst (λ (xs : List ClientSeat). ShowsClient (head_of c.args.head.now) 0 [] k (get_or xs k d)) (sym items)
          (one_added (ShowsClient (head_of c.args.head.now) 0 []) clients n seat c.loop-number.invariant.count c.loop-number.invariant.shows
          c.in_ok-new.ensures.shows k d below);
    }
