-- What performing a scenario comes to is what the top call owes.
use Rattle.std.proofs.Common.{◌≡◌, ℕ, List, Option, sym, ap, subst, ◌∙◌}
use Rattle.std.specs.Io.KnownBytes.{Appends}
use Rattle.lu_base.specs.Faults.{Rose}
use Rattle.lu_base.specs.declared.ids.TargetId.{TargetId}
use Rattle.lu_scene.specs.Storms.{storm_of}
use Rattle.lu_scene.specs.declared.scene.Scene.{Scene}
use Rattle.lu_run_summary.specs.Summaries.{summary_text}
use Rattle.lu_core.specs.Nodes.{DiskState}
use Rattle.lu_core.specs.declared.playing.Played.{Played}
use Rattle.lu_core.specs.Played.{IsPlayed, SomeRose}
use Rattle.lu_top.specs.declared.forms.Performance.{Performance}
use Rattle.lu_top.specs.declared.forms.Performance.TheVariants.{Play, Storm}
use Rattle.lu_top.specs.Asked.{IsSceneBy}
use Rattle.lu_top.specs.Outcomes.{OfScene, HasFailed, WroteStorm, IsWritten, IsOutcome, IsDone}
use Rattle.lu_top.specs.declared.status.Status.{Status}
use Rattle.lu_top.specs.declared.status.Status.TheVariants as status

same_seed : (m n : ℕ) → Storm m ≡ Storm n → m ≡ n
same_seed m n is = cc

-- where neither the sink nor a disk failed, a run that was written is done
pub done_of : (performance : Performance) (scene : Scene) (held : List DiskState) (played : Played) (old new : Option (List ℕ))
    (before now : ℕ) (answer : Status)
    → IsWritten performance played old new before now answer → IsPlayed scene played held → (Rose before now → ⊥)
    → (SomeRose scene held → ⊥) → IsDone answer
done_of performance scene held played old new before now status.Done out run calm sound = tt
done_of performance scene held played old new before now status.WriteFault out run calm sound = absurd (calm out.2)
done_of performance scene held played old new before now (status.DiskFault t) out run calm sound = let rose = run.rose t out.0
    in absurd (sound (t.0, rose.0, rose.1))
done_of performance scene held played old new before now status.Memory out run calm sound = tt
done_of performance scene held played old new before now _ out run calm sound = absurd out

-- of what the source had and has left, the disks, and what the sink held and holds with its counts
module _ (performance : Performance) (left rest : Option (List ℕ)) (held : List DiskState) (old new : Option (List ℕ)) (before now : ℕ)
    (scene : Scene) (is : IsSceneBy performance left rest scene) (answer : Status)
    (out : IsOutcome performance scene held old new before now answer) where
  as_is : (a : Status) → answer ≡ a → IsOutcome performance scene held old new before now a
  as_is a same = subst (λ (s : Status). IsOutcome performance scene held old new before now s) same out

  -- the disk whose failure is told did fail
  pub disk_failed : (t : TargetId) → answer ≡ status.DiskFault t → OfScene performance left rest (HasFailed held t)
  disk_failed t same = let out = as_is (status.DiskFault t) same in (scene, is, out.1.rose t out.3.0)

  -- under `storm` the summary was written
  pub wrote_storm : (seed : ℕ) → answer ≡ status.Done → performance ≡ Storm seed → WroteStorm old new held seed
  wrote_storm seed done storm = by performance storm is (as_is status.Done done)
    where
      by : (p : Performance) → p ≡ Storm seed → IsSceneBy p left rest scene → IsOutcome p scene held old new before now status.Done
          → WroteStorm old new held seed
      by Play same read out = absurd (cc same)
      by (Storm other) same read out = by_seed other (sym (same_seed other seed same)) read.1 out
        where
          by_seed : (n : ℕ) → seed ≡ n → scene ≡ storm_of n → IsOutcome (Storm n) scene held old new before now status.Done
              → WroteStorm old new held seed
          by_seed n same one out = record {
            played = out.0;
            run = subst (λ (s : Scene). IsPlayed s out.0 held) (one ∙ ap storm_of (sym same)) out.1;
            whole = out.3.0;
            wrote = subst (λ (k : ℕ). Appends old new (summary_text k out.0.trace.entries)) (sym same) out.3.1;
            lawful = out.2;
          }
