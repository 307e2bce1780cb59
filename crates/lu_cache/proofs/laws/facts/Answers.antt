use Rattle.lu_cache.proofs.Histories.{fact_law}
use Rattle.lu_cache.proofs.laws.facts.Goals as goal

pub returns : goal.returns
returns c = record { fact = fact_law }
