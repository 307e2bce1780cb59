-- In each pass so far one acted.
use Rattle.lu_target_server.proofs.Sweeps.{HaveSwept}
use Rattle.lu_target_server.proofs.server.Server.names_go.Given as goal

abbrev pub invariant-loop-pass : goal.invariant-loop-pass
invariant-loop-pass g l = HaveSwept l._pass l.fn.self l.self l.fn.turn l.turn
