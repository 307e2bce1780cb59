-- The scenes with locks, those with a file that is opened, or whose size is asked for, that with commits, that in which a client is
-- evicted, and
-- those in which a target crashes, boots and closes a window keep the limits, so what they come to is lawful.
use Rattle.std.proofs.Common.{◌≡◌, false, List, [], ◌∷◌, inl, inr, refl, arith, lit≤}
use Rattle.std.specs.Prelude.{All}
use Rattle.std.proofs.lemmas.List.Elements.{All-head, All-tail}
use Rattle.lu_scene.specs.declared.scene.SceneLine.{SceneLine}
use Rattle.lu_scene.specs.Grammar.{LineFits}
use Rattle.lu_spec_run.specs.Runs.{has_failed}
use Rattle.lu_spec_run.specs.Limits.{KeepsLimits}
use Rattle.lu_spec_run.specs.Scenarios.{past_of}
use Rattle.lu_spec_laws.proofs.Words.{◌then◌}
use Rattle.lu_spec_laws.specs.Lawful.{Lawful}
use Rattle.lu_proof_scenes.specs.Quiet.{IsMade, IsBareScene, IsBareLine, IsNoCommand, LineMisses, EvictsNone, AsksNoDisk}
use Rattle.lu_proof_scenes.proofs.Runs.{scene_unfailed}
use Rattle.lu_proof_examples.proofs.Runs.Words.{after, trace_after, never}
use Rattle.lu_proof_examples.proofs.Runs.Names.{commits}
use Rattle.lu_proof_examples.proofs.Runs.Lives.{expires}
use Rattle.lu_proof_examples.proofs.Runs.Locks.{called_back, known}
use Rattle.lu_proof_examples.proofs.Runs.AbsentAndGap.{absent_and_gap}
use Rattle.lu_proof_examples.proofs.Runs.Keeping.{is_path, is_path_b, is_root, is_head, is_short, all_of, leads, lawful}

pub called_back_keeps : KeepsLimits called_back
called_back_keeps =
    record {
      head = is_head 2 1 (lit≤ tt) (lit≤ tt) (lit≤ tt) (lit≤ tt);
      lines =
          all_of (LineFits called_back.head) called_back.lines
          ((lit≤ tt, lit≤ tt, is_path) then tt then (lit≤ tt, lit≤ tt, is_path) then tt then (lit≤ tt, lit≤ tt, is_path) then tt then tt);
    }

pub known_keeps : KeepsLimits known
known_keeps =
    record {
      head = is_head 2 1 (lit≤ tt) (lit≤ tt) (lit≤ tt) (lit≤ tt);
      lines =
          all_of (LineFits known.head) known.lines ((lit≤ tt, lit≤ tt, is_path) then tt then (lit≤ tt, lit≤ tt, is_path) then tt
          then (lit≤ tt, lit≤ tt, is_path) then (lit≤ tt, lit≤ tt, is_root) then (lit≤ tt, lit≤ tt, is_path) then (lit≤ tt, lit≤ tt)
          then (lit≤ tt, lit≤ tt) then lit≤ tt then tt then tt);
    }

pub commits_keeps : KeepsLimits commits
commits_keeps =
    record {
      head = is_head 1 1 (lit≤ tt) (lit≤ tt) (lit≤ tt) (lit≤ tt);
      lines =
          all_of (LineFits commits.head) commits.lines ((lit≤ tt, lit≤ tt, is_path) then (lit≤ tt, lit≤ tt) then lit≤ tt
          then (lit≤ tt, lit≤ tt)
          then (lit≤ tt, lit≤ tt) then (lit≤ tt, lit≤ tt, is_path) then (lit≤ tt, lit≤ tt) then (lit≤ tt, lit≤ tt)
          then (lit≤ tt, lit≤ tt, lit≤ tt)
          then lit≤ tt then tt);
    }

pub expires_keeps : KeepsLimits expires
expires_keeps =
    record {
      head = is_short;
      lines =
          all_of (LineFits expires.head) expires.lines ((lit≤ tt, lit≤ tt, is_path) then tt then (lit≤ tt, lit≤ tt, is_path) then tt
          then (lit≤ tt, lit≤ tt, is_path) then (lit≤ tt, lit≤ tt) then (lit≤ tt, lit≤ tt, is_path_b) then (lit≤ tt, lit≤ tt)
          then (lit≤ tt, lit≤ tt)
          then lit≤ tt then (lit≤ tt, lit≤ tt) then lit≤ tt then tt then (lit≤ tt, lit≤ tt, is_path) then tt then tt);
    }

-- ---- scenes with a window that is closed

pub absent_and_gap_keeps : KeepsLimits absent_and_gap
absent_and_gap_keeps =
    record {
      head = is_head 3 1 (lit≤ tt) (lit≤ tt) (lit≤ tt) (lit≤ tt);
      lines =
          all_of (LineFits absent_and_gap.head) absent_and_gap.lines ((lit≤ tt, lit≤ tt, is_path) then tt then (lit≤ tt, lit≤ tt, is_path)
          then (lit≤ tt, lit≤ tt, is_path_b) then tt then lit≤ tt then lit≤ tt then lit≤ tt then tt then lit≤ tt then tt then tt);
    }

-- ---- so what they come to is lawful: no disk fails in it

pub called_back_lawful : Lawful 1 (trace_after 20 called_back)
called_back_lawful = lawful called_back 20 called_back_keeps refl

pub known_lawful : Lawful 1 (trace_after 30 known)
known_lawful = lawful known 30 known_keeps refl

pub commits_lawful : Lawful 1 (trace_after 10 commits)
commits_lawful = lawful commits 10 commits_keeps refl

pub expires_lawful : Lawful 1 (trace_after 50 expires)
expires_lawful = lawful expires 50 expires_keeps refl

pub absent_and_gap_lawful : Lawful 1 (trace_after 40 absent_and_gap)
absent_and_gap_lawful = lawful absent_and_gap 40 absent_and_gap_keeps refl

-- ---- where no call changes bytes, no line gives a command and no client is evicted, no disk fails whichever could

called_back_bare : IsBareScene called_back
called_back_bare = record {
  limits = called_back_keeps;
  lines =
      all_of IsBareLine called_back.lines (tt then tt then tt then tt then tt then tt then tt);
}

called_back_quiet : AsksNoDisk called_back
called_back_quiet = record {
  commands = all_of IsNoCommand called_back.lines (tt then tt then tt then tt then tt then tt then tt);
  evicts =
      inl (lit≤ tt);
}

pub called_back_unfailed : has_failed (past_of (after 20 called_back)) ≡ false
called_back_unfailed = scene_unfailed called_back called_back_bare called_back_quiet never (after 20 called_back) (leads called_back 20)
    refl

-- and `commits` gives some, and so does `crashed`: its third line is a command
abbrev ThirdGivesNone : List SceneLine → Type 0
ThirdGivesNone (a ∷ b ∷ c ∷ lines) = IsNoCommand c
ThirdGivesNone _ = Unit {0}

third : (lines : List SceneLine) → All IsNoCommand lines → ThirdGivesNone lines
third [] quiet = tt
third (a ∷ []) quiet = tt
third (a ∷ b ∷ []) quiet = tt
third (a ∷ b ∷ c ∷ lines) quiet = All-head IsNoCommand c lines (All-tail IsNoCommand b (c ∷ lines)
    (All-tail IsNoCommand a (b ∷ c ∷ lines) quiet))

pub commits_command : AsksNoDisk commits → ⊥
commits_command quiet = third commits.lines quiet.commands

-- in `expires` a client is evicted: it ticks as often as locks have time, and a line reads what another makes
abbrev ThirdMisses : List SceneLine → Type 0
ThirdMisses (a ∷ b ∷ c ∷ lines) = LineMisses (IsMade expires.lines) c
ThirdMisses _ = Unit {0}

third_misses : (lines : List SceneLine) → All (LineMisses (IsMade expires.lines)) lines → ThirdMisses lines
third_misses [] miss = tt
third_misses (a ∷ []) miss = tt
third_misses (a ∷ b ∷ []) miss = tt
third_misses (a ∷ b ∷ c ∷ lines) miss =
    let P = LineMisses (IsMade expires.lines) in
    All-head P c lines (All-tail P b (c ∷ lines) (All-tail P a (b ∷ c ∷ lines) miss))

pub expires_evicts : EvictsNone expires → ⊥
expires_evicts (inl low) = absurd (omega (arith, low))
expires_evicts (inr miss) = (third_misses expires.lines miss).1 (inl refl)
