use Rattle.lu_spec_machine.proofs.Ordered.{order_stays, lists_names, byte_order_is_one}
use Rattle.lu_spec_machine.proofs.theorems.ordering.Goals as goal

pub returns : goal.returns
returns c = record { stays = order_stays; names = lists_names; one = byte_order_is_one }
