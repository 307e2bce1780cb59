-- What is known of the lines of a scenario, and of its calls; and that a run of a scenario that changes no bytes changes none.
use Rattle.std.proofs.Common.{◌≡◌, ℕ, ◌<◌, ◌≤◌, List, [], ◌∷◌, None, ◌⊎◌, inl, inr, refl, sym, subst, arith}
use Rattle.std.specs.Prelude.{All}
use Rattle.std.proofs.lemmas.List.Elements.{All-head, All-tail}
use Rattle.lu_base.specs.declared.ids.Node.TheVariants.{Client, Target}
use Rattle.lu_msg.specs.declared.calls.Call.{Call as CallOf}
use Rattle.lu_msg.specs.declared.calls.Call.TheVariants as call
use Rattle.lu_scene.specs.Grammar.{LineFits}
use Rattle.lu_scene.specs.declared.scene.Scene.{Scene}
use Rattle.lu_scene.specs.declared.scene.SceneLine.{SceneLine}
use Rattle.lu_scene.specs.declared.scene.SceneLine.TheVariants.{Call, Run, RunSome, Deliver, Lose, Tick, Commit, CommitSome, Crash, Boot}
use Rattle.lu_scene.specs.declared.scene.SceneLine.TheVariants.{Close, Die}
use Rattle.lu_trace.specs.WellFormed.{IsCall}
use Rattle.lu_proof_lawful.specs.Covered.Makes.{Path, CallMakes, Misses}
use Rattle.lu_proof_lawful.proofs.Invariants.Asked.{Began}
use Rattle.lu_proof_lawful.proofs.Invariants.Finds.{Made_in}
use Rattle.lu_proof_lawful.proofs.Invariants.Unlocked.{misses_fewer, AllMiss}
use Rattle.lu_proof_lawful.specs.Covered.Runs.{ChangesNoBytes, AllBare}
use Rattle.lu_spec_run.specs.Limits.{KeepsLimits}
use Rattle.lu_spec_run.specs.Scenarios.{head_of, with_stripes}
use Rattle.lu_spec_entries.specs.Words.{Entry, Begin, Line, line}
use Rattle.lu_proof_run.proofs.Runs.{begins_meets}
use Rattle.lu_proof_scenes.specs.Quiet as scenes
use Rattle.lu_proof_scenes.specs.Quiet.{IsMade, IsBareLine, IsNoCommand, LineMisses, IsBareScene, AsksNoDisk}

-- ---- calls

-- a call changes no bytes with the stripes that it is given either
changes_none : (call : CallOf) → ChangesNoBytes call → ChangesNoBytes (with_stripes call)
changes_none (call.Create path None) is = tt
changes_none call is = is

-- the stripes make no other path, and ask for none
makes_same : (call : CallOf) (path : Path) → CallMakes (with_stripes call) path → CallMakes call path
makes_same (call.Create made None) path m = m
makes_same call path m = m

misses_same : (Made : Path → Type 0) (call : CallOf) → Misses Made call → Misses Made (with_stripes call)
misses_same Made (call.Create made None) m = tt
misses_same Made call m = m

-- ---- disks

-- of a scenario that changes no bytes: it asks none
abbrev pub IsQuiet : Scene → Type 0
IsQuiet scene = IsBareScene scene × AsksNoDisk scene

-- a turn of what the scenario comes to may ask one
abbrev pub MayAsk : Scene → Type 0
MayAsk scene = IsQuiet scene → ⊥

-- ---- lines

-- the call of one of these lines begins as that call
abbrev pub Calls : List SceneLine → CallOf → Type 0
Calls [] call = ⊥
Calls (Call client slot begun ∷ lines) call = (with_stripes begun ≡ call) ⊎ Calls lines call
Calls (line ∷ lines) call = Calls lines call

-- a command to a target: so the lines aren't without one
pub record IsCommandTo (lines : List SceneLine) (osts target : ℕ) : Type 0 where
  pub one : target ≤ osts
  pub some : All IsNoCommand lines → ⊥

-- what is known of a line of a scenario of these lines, with so many clients and object storage targets
abbrev pub IsKnown : List SceneLine → (clients osts : ℕ) → SceneLine → Type 0
IsKnown lines clients osts (Call client slot call) =
    record { one : client < clients; small : slot < 4; limits : IsCall (with_stripes call); among : Calls lines (with_stripes call) }
IsKnown lines clients osts Run = Unit {0}
IsKnown lines clients osts (RunSome turns) = Unit {0}
IsKnown lines clients osts (Deliver number) = Unit {0}
IsKnown lines clients osts (Lose number) = Unit {0}
IsKnown lines clients osts (Tick (Client client)) = client < clients
IsKnown lines clients osts (Tick (Target target)) = target ≤ osts
IsKnown lines clients osts (Commit target) = IsCommandTo lines osts target.0
IsKnown lines clients osts (CommitSome target count) = IsCommandTo lines osts target.0
IsKnown lines clients osts (Crash target) = IsCommandTo lines osts target.0
IsKnown lines clients osts (Boot target) = IsCommandTo lines osts target.0
IsKnown lines clients osts (Close target) = IsCommandTo lines osts target.0
IsKnown lines clients osts (Die client) = client < clients

abbrev pub AllKnown : Scene → List SceneLine → Type 0
AllKnown scene [] = Unit {0}
AllKnown scene (line ∷ lines) = IsKnown scene.lines scene.head.clients scene.head.osts line × AllKnown scene lines

module _ (scene : Scene) where
  one_known : (line : SceneLine) → LineFits scene.head line → (All IsNoCommand scene.lines → IsNoCommand line)
      → ((call : CallOf) → Calls (line ∷ []) call → Calls scene.lines call) → IsKnown scene.lines scene.head.clients scene.head.osts line
  one_known (Call client slot call) fits quiet among =
      record {
        one = fits.0;
        small = omega (arith, fits.1);
        limits =
            (begins_meets (head_of scene.head) [] client slot call fits.0 refl (omega (arith, fits.1)) fits.2).2;
        among =
            among (with_stripes call) (inl refl);
      }
  one_known Run fits quiet among = tt
  one_known (RunSome turns) fits quiet among = tt
  one_known (Deliver number) fits quiet among = tt
  one_known (Lose number) fits quiet among = tt
  one_known (Tick (Client client)) fits quiet among = fits
  one_known (Tick (Target target)) fits quiet among = fits
  one_known (Commit target) fits quiet among = record { one = fits; some = quiet }
  one_known (CommitSome target count) fits quiet among = record { one = fits.0; some = quiet }
  one_known (Crash target) fits quiet among = record { one = fits; some = quiet }
  one_known (Boot target) fits quiet among = record { one = fits; some = quiet }
  one_known (Close target) fits quiet among = record { one = fits; some = quiet }
  one_known (Die client) fits quiet among = fits

  first : (line : SceneLine) (lines : List SceneLine) (call : CallOf) → Calls (line ∷ []) call → Calls (line ∷ lines) call
  first (Call client slot begun) lines call (inl e) = inl e
  first (Call client slot begun) lines call (inr n) = absurd n
  first _ lines call n = absurd n

  later : (line : SceneLine) (lines : List SceneLine) (call : CallOf) → Calls lines call → Calls (line ∷ lines) call
  later (Call client slot begun) lines call i = inr i
  later _ lines call i = i

  all_known : (lines : List SceneLine) → All (LineFits scene.head) lines → (All IsNoCommand scene.lines → All IsNoCommand lines)
      → ((call : CallOf) → Calls lines call → Calls scene.lines call) → AllKnown scene lines
  all_known [] fit quiet among = tt
  all_known (line ∷ lines) fit quiet among = (
    one_known line (All-head (LineFits scene.head) line lines fit)
        (λ all. All-head IsNoCommand line lines (quiet all)) (λ call i. among call (first line lines call i)),
    all_known lines (All-tail (LineFits scene.head) line lines fit)
        (λ all. All-tail IsNoCommand line lines (quiet all)) (λ call i. among call (later line lines call i)),
  )

  pub lines_known : KeepsLimits scene → AllKnown scene scene.lines
  lines_known limits = all_known scene.lines limits.lines (λ all. all) (λ call i. i)

-- ---- the calls of lines

-- what each line's call is, and is so with stripes, holds of each call of the lines
called : (Q : SceneLine → Type 0) (P : CallOf → Type 0) → ((client slot : ℕ) (begun : CallOf) → Q (Call client slot begun)
    → P (with_stripes begun)) → (lines : List SceneLine) (call : CallOf) → All Q lines → Calls lines call → P call
called Q P so [] call are i = absurd i
called Q P so (line ∷ lines) call are i = by line (All-head Q line lines are) i (called Q P so lines call (All-tail Q line lines are))
  where
    by : (line : SceneLine) → Q line → Calls (line ∷ lines) call → (Calls lines call → P call) → P call
    by (Call client slot begun) q (inl e) more = subst P e (so client slot begun q)
    by (Call client slot begun) q (inr j) more = more j
    by line q j more = more j

called_made : (lines : List SceneLine) (call : CallOf) (path : Path) → Calls lines call → CallMakes call path → IsMade lines path
called_made [] call path i m = absurd i
called_made (line ∷ lines) call path i m = by line i (λ j. called_made lines call path j m)
  where
    by : (line : SceneLine) → Calls (line ∷ lines) call → (Calls lines call → IsMade lines path) → IsMade (line ∷ lines) path
    by (Call client slot begun) (inl e) more = inl (makes_same begun path (subst (λ (c : CallOf). CallMakes c path) (sym e) m))
    by (Call client slot begun) (inr j) more = inr (more j)
    by line j more = inr (more j)

-- each keeps the limits of calls
pub called_fits : (scene : Scene) (lines : List SceneLine) → AllKnown scene lines → (call : CallOf) → Calls lines call → IsCall call
called_fits scene [] known call i = absurd i
called_fits scene (line ∷ lines) known call i = by line known.0 i (called_fits scene lines known.1 call)
  where
    by : (line : SceneLine) → IsKnown scene.lines scene.head.clients scene.head.osts line → Calls (line ∷ lines) call
        → (Calls lines call → IsCall call) → IsCall call
    by (Call client slot begun) known (inl e) more = subst IsCall e known.limits
    by (Call client slot begun) known (inr j) more = more j
    by line known j more = more j

-- ---- where all calls that began are those of lines

abbrev pub AllOfLines : Scene → List Line → Type 0
AllOfLines scene past = (call : CallOf) → Began past call → Calls scene.lines call

-- where no line makes what another reads, no call does
pub all_miss : (scene : Scene) → scenes.AllMiss scene.lines → (past : List Line) → AllOfLines scene past → AllMiss past
all_miss scene miss past begun call began =
    misses_fewer (IsMade scene.lines) (Made_in past) (λ path m. called_made scene.lines m.0 path (begun m.0 m.1) m.2) call
    (called (LineMisses (IsMade scene.lines)) (Misses (IsMade scene.lines)) (λ client slot made m. misses_same (IsMade scene.lines) made m)
    scene.lines call miss (begun call began))

-- ---- where no line's call changes bytes, none does

pub all_bare : (scene : Scene) → IsBareScene scene → (past : List Line) → AllOfLines scene past → AllBare past
all_bare scene bare_scene [] begun = tt
all_bare scene bare_scene (l ∷ past) begun = by l.entry begun (all_bare scene bare_scene past)
  where
    bare : (call : CallOf) → Calls scene.lines call → ChangesNoBytes call
    bare call i = called IsBareLine ChangesNoBytes (λ client slot made is. changes_none made is) scene.lines call bare_scene.lines i

    by : (e : Entry) → AllOfLines scene (line l.at e ∷ past) → (AllOfLines scene past → AllBare past) → AllBare (line l.at e ∷ past)
    by (Begin slot running) begun more = (inr (bare running.call (begun running.call (inl refl))), more (λ call i. begun call (inr i)))
    by e begun more = (tt, more begun)
