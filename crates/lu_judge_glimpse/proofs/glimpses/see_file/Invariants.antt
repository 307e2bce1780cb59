use Rattle.std.proofs.Common.{◌≡◌, ℕ, ◌≤◌, ◌-◌, nat_lt}
use Rattle.std.specs.Prelude.{◌==◌, ◌&&◌}
use Rattle.lu_base.specs.declared.ids.Fid.{Fid}
use Rattle.lu_spec_laws.specs.Words.Pasts.{Past}
use Rattle.lu_spec_laws.specs.Words.Glimpses.{machine_cut}
use Rattle.lu_judge_glimpse.specs.Histories.{ShowsHistory}
use Rattle.lu_judge_glimpse.specs.Sightings.{last_in}
use Rattle.lu_judge_glimpse.specs.Watched.{seen_after}
use Rattle.lu_judge_glimpse.proofs.glimpses.see_file.Given as goal

abbrev pub invariant-loop-stripe : goal.invariant-loop-stripe
invariant-loop-stripe l = record {
  within : l.stripe ≤ l.watch.count;
  seen : (past : Past) → ShowsHistory l.history past → (f : Fid) (s n : ℕ)
      → last_in l.sightings f s n ≡ seen_after (machine_cut l.history.osts past) l.place (l.watch.fid.0 == f.0 && nat_lt s l.stripe) f s n
      (last_in l.initial.sightings f s n);
}

abbrev pub decreases-loop-stripe : goal.decreases-loop-stripe
decreases-loop-stripe l = l.watch.count - l.stripe
