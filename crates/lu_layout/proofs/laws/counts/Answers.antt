use Rattle.lu_layout.specs.Raid0.{below_of}
use Rattle.lu_layout.proofs.Below.{IsCount-below_of, IsCount-le}
use Rattle.lu_layout.proofs.laws.counts.Goals as goal

pub returns : goal.returns
returns c = record {
  below = λ l i n q good here. (IsCount-below_of l i n good here).counts q;
  within = λ l i n good here. IsCount-le l i n (below_of l i n) good (IsCount-below_of l i n good here);
}
