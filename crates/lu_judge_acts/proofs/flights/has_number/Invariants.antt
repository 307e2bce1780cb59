use Rattle.std.proofs.Common.{◌≡◌, ◌==◌, ◌≤◌, ◌-◌, Bor, length, drop, map}
use Rattle.std.specs.List.{list_any}
use Rattle.lu_msg.specs.declared.messages.Request.{Request}
use Rattle.lu_judge_acts.proofs.flights.has_number.Given as goal

abbrev pub invariant-loop-place : goal.invariant-loop-place
invariant-loop-place l = record {
  within : l.place ≤ length l.flight;
  none : list_any (λ (r : Request). r.xid.0 == l.xid.0) (map (λ (r : Bor Request). r.now) l.flight)
      ≡ list_any (λ (r : Request). r.xid.0 == l.xid.0) (map (λ (r : Bor Request). r.now) (drop l.place l.flight));
}

abbrev pub decreases-loop-place : goal.decreases-loop-place
decreases-loop-place l = length l.flight - l.place
