use Rattle.std.proofs.Common.{◌≡◌, ℕ, map}
use Rattle.lu_base.specs.declared.ids.Fid.{Fid}
use Rattle.lu_spec_laws.specs.Words.Pasts.{Past}
use Rattle.lu_spec_laws.specs.Words.Glimpses.{machine_cut}
use Rattle.lu_judge_glimpse.specs.Histories.{ShowsHistory}
use Rattle.lu_judge_glimpse.specs.Sightings.{last_in}
use Rattle.lu_judge_glimpse.specs.Watched.{seen_after, logged}
use Rattle.lu_judge_glimpse.proofs.glimpses.see_files.Given as goal

abbrev pub invariant-loop-watch : goal.invariant-loop-watch
invariant-loop-watch l = (past : Past) → ShowsHistory l.history past → (f : Fid) (s n : ℕ)
    → last_in l.sightings f s n ≡ seen_after (machine_cut l.history.osts past) l.place (logged (map (λ w. w.now) l.yielded) f s) f s n
    (last_in l.initial.sightings f s n)
