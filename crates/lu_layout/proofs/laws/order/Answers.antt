use Rattle.lu_layout.proofs.Places.{position_of-rising, offset-le-position_of}
use Rattle.lu_layout.proofs.laws.order.Goals as goal

pub returns : goal.returns
returns c = record { rising = position_of-rising; beyond = offset-le-position_of }
