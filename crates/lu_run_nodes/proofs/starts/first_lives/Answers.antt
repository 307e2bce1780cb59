use Rattle.std.proofs.Common.{◌++◌, ◌∷◌, [], List, ap, ◌∙◌}
use Rattle.lu_base.specs.declared.ids.Who.{Who}
use Rattle.lu_run_nodes.proofs.StartsMade.{lives_next}
use Rattle.lu_run_nodes.proofs.starts.first_lives.Goals as goal

pub loop-client-preserved : goal.loop-client-preserved
loop-client-preserved c =
    c.in_ok-push.ensures.added ∙ ap (λ (lives : List Who). lives ++ record { client = c.loop-client.client; life = 1 } ∷ [])
    c.loop-client.invariant ∙ lives_next c.loop-client.client
