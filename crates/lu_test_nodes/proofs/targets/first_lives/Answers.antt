-- One life more.
use Rattle.std.proofs.Common.{List, [], ◌∷◌, ◌++◌, ap, ◌∙◌}
use Rattle.lu_base.specs.declared.ids.Who.{Who}
use Rattle.lu_test_nodes.proofs.Lives.{one_life_more}
use Rattle.lu_test_nodes.proofs.targets.first_lives.Goals as goal

pub loop-client-preserved : goal.loop-client-preserved
loop-client-preserved c =
    let client = c.loop-client.client in
    c.in_ok-push.ensures.added
    ∙ (ap (λ (lives : List Who). lives ++ record { client = client; life = 1 } ∷ []) c.loop-client.invariant ∙ one_life_more client)
