-- The locks from this one on are left.
use Rattle.std.proofs.Common.{drop}
use Rattle.lu_client.specs.Replies.{HoldsOn}
use Rattle.lu_client.proofs.client.Client.hold_all_brought.Given as goal

abbrev pub invariant-loop-lock : goal.invariant-loop-lock
invariant-loop-lock l = HoldsOn l.target.0 l.size l.locks (drop l.lock-index l.locks) l.initial.self l.self l.initial.turn l.turn
