use Rattle.std.proofs.Common.{length, take, ◌≡◌, ◌≤◌, ◌-◌}
use Rattle.std.specs.Io.KnownBytes.{Appends}
use Rattle.lu_base.proofs.sink.write_all.Given as goal

abbrev pub invariant-loop-written : goal.invariant-loop-written
invariant-loop-written g l = record {
  wrote : Appends (g.K.Sink.holds l.initial.sink) (g.K.Sink.holds l.sink) (take l.written l.from);
  within : l.written ≤ length l.from;
  steady : g.K.Sink.faults l.sink ≡ g.K.Sink.faults l.initial.sink;
}

abbrev pub decreases-loop-written : goal.decreases-loop-written
decreases-loop-written g l = length l.from - l.written
