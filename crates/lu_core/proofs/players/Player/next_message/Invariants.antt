use Rattle.std.proofs.Common.{◌≡◌}
use Rattle.lu_core.specs.Progress.{Throws}
use Rattle.lu_core.proofs.Throwing.{unspent}
use Rattle.lu_core.proofs.players.Player.next_message.Given as goal

-- messages were thrown away, and no turn was made
abbrev pub invariant-loop-number : goal.invariant-loop-number
invariant-loop-number g l = record {
  throws : Throws l.initial.self l.self;
  turns : l.self.wire.turns ≡ l.initial.self.wire.turns;
}

-- each message that is thrown away is spent
abbrev pub decreases-loop-number : goal.decreases-loop-number
decreases-loop-number g l = unspent l.self.wire.links
