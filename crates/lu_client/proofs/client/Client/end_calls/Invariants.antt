-- The calls on this slot and those after it are left, and there are as many slots.
use Rattle.std.proofs.Common.{◌≡◌, length}
use Rattle.lu_spec_client.specs.Recovery.{ends_calls}
use Rattle.lu_client_refines.specs.Rounds.{ends_left}
use Rattle.lu_client.specs.Clients.{Remains}
use Rattle.lu_client.proofs.client.Client.end_calls.Given as goal

abbrev pub invariant-loop-slot : goal.invariant-loop-slot
invariant-loop-slot l =
    record {
      left : Remains (λ k. ends_calls l.fn.turn.at 0 k.calls) (ends_left l.fn.turn.at l.slot) l.fn.self l.self l.fn.turn l.turn;
      count : length l.self.client.calls ≡ length l.fn.self.client.calls;
    }
