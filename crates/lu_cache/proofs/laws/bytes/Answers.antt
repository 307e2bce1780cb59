use Rattle.lu_cache.proofs.Histories.{byte_law}
use Rattle.lu_cache.proofs.laws.bytes.Goals as goal

pub returns : goal.returns
returns c = record { byte = byte_law }
