-- The requests before this place did what they may, and none acted.
use Rattle.lu_target_server.proofs.Sweeps.{IsAtPlace}
use Rattle.lu_target_server.proofs.server.Server.pass.Given as goal

abbrev pub invariant-loop-place : goal.invariant-loop-place
invariant-loop-place g l = IsAtPlace l.place l.stood l.fn.self l.self l.fn.turn l.turn
