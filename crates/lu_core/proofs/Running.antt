-- Messages come one after another: what is left of the lines, and of the player, after each.
use Rattle.std.proofs.Common.{◌≡◌, ◌≤◌, ◌<◌, ◌+◌, ◌-◌, ℕ, zero, suc, true, false, List, ◌∷◌, Option, Some, None, refl, sym, subst, ap, ◌∙◌}
use Rattle.std.proofs.Common.{arith}
use Rattle.std.specs.Prelude.{◌≢◌, option_map, Result, Err}
use Rattle.std.specs.Result.{IsErrAnd}
use Rattle.lu_net.specs.declared.links.Sent.{Sent as SentMessage}
use Rattle.lu_net.specs.Posts.{sent_at, least_unspent}
use Rattle.lu_scene.specs.declared.scene.Scene.{Scene}
use Rattle.lu_scene.specs.declared.scene.SceneLine.{SceneLine}
use Rattle.lu_scene.specs.declared.scene.SceneLine.TheVariants.{Run, RunSome, Deliver, Lose}
use Rattle.lu_spec_run.specs.Scenarios.{Config, Stops, Goes, head_of, past_of, left, is_down, arrives}
use Rattle.lu_proof_run.specs.Steps.{LeadsTo, GoesOn, IsDue, none_failing, spent}
use Rattle.lu_proof_run.proofs.Due.{left_leads}
use Rattle.lu_proof_run.proofs.Turning.{full_same, due_stops}
use Rattle.lu_proof_run.proofs.Messages.{run_done, run_due, some_done, some_none, some_due, deliver_none, deliver_thrown, deliver_due}
use Rattle.lu_proof_run.proofs.Messages.{lose_leads}
use Rattle.lu_run_nodes.specs.States.{is_down_in}
use Rattle.lu_run_wire.specs.Wires.{is_full_in}
use Rattle.lu_run_wire.proofs.Shown.{left_shows, full_is}
use Rattle.lu_core.specs.declared.faults.PlayFault.{PlayFault}
use Rattle.lu_core.specs.declared.players.Progress.{Progress}
use Rattle.lu_core.specs.declared.players.Progress.TheVariants as progress
use Rattle.lu_core.specs.States.{PlayerState, is_thrown_in, player_spent}
use Rattle.lu_core.specs.Progress.{IsAt, IsPlaying, IsNext, Comes, Performs, IsLineUnforeseen, RunsOn, Throws, taken, TakesTo, Takes}
use Rattle.lu_core.specs.Progress.{IsTakeUnforeseen}
use Rattle.lu_core.proofs.Throwing.{found_at, least_at, spent_at}

-- ---- what is left

-- these lines are left, and after it those
abbrev pub Leaves : PlayerState → List SceneLine → PlayerState → List SceneLine → Type 0
Leaves p lines q after = (scene : Scene) (c : Config) → IsAt scene p c → c.lines ≡ lines → (d : Config) × IsAt scene q d × (d.lines ≡ after)

pub leaves_then : (p q r : PlayerState) (lines middle after : List SceneLine) → Leaves p lines q middle → Leaves q middle r after
    → Leaves p lines r after
leaves_then p q r lines middle after first second scene c at is = let d = first scene c at is in second scene d.0 d.1 d.2

pub leaves_thrown : (p q : PlayerState) (line : SceneLine) (rest : List SceneLine) → RunsOn line → Throws p q
    → Leaves p (line ∷ rest) q (line ∷ rest)
leaves_thrown p q line rest runs throws scene c at is = throws scene c line rest runs at is

-- a line of which nothing comes
left_at : (scene : Scene) (p : PlayerState) (c : Config) (line : SceneLine) (rest : List SceneLine) → IsAt scene p c → c.lines ≡ line ∷ rest
    → GoesOn scene c (Goes (left c rest)) → (d : Config) × IsAt scene p d × (d.lines ≡ rest)
left_at scene p c line rest at is goes = (
  left c rest,
  record {
    leads = left_leads scene c rest line at.leads is goes;
    nodes = at.nodes;
    wire =
        left_shows p.wire c rest at.wire;
  },
  refl,
)

-- a turn is due that a limit forbids
stops_at : (scene : Scene) (p : PlayerState) (c : Config) (n : ℕ) (m : SentMessage) (lines : List SceneLine) → IsAt scene p c
    → IsDue scene c (spent c n lines) m.to (arrives (head_of scene.head) none_failing n m.from m.message m.to) → is_full_in p.wire ≡ true
    → (d : Config) × IsAt scene p d × GoesOn scene d Stops
stops_at scene p c n m lines at turn full =
    let event = arrives (head_of scene.head) none_failing n m.from m.message m.to in (
      c,
      at,
      due_stops scene c (spent c n lines) m.to event turn
          (full_same scene c (spent c n lines) m.to event turn ∙ sym (full_is p.wire c at.wire) ∙ full),
    )

-- a disk failed in the turn, and the lines don't count any more
pub failed_comes : (scene : Scene) (c : Config) (n : ℕ) (m : SentMessage) (lines rest : List SceneLine) (q : PlayerState) (came : Progress)
    → came ≢ progress.Made → TakesTo scene c n m lines q came → Comes scene rest q came
failed_comes scene c n m lines rest q progress.Made other takes = absurd (other refl)
failed_comes scene c n m lines rest q progress.Full other takes = absurd takes
failed_comes scene c n m lines rest q (progress.Failed t) other takes = takes
failed_comes scene c n m lines rest q (progress.Broken t) other takes = takes

-- ---- `run`, and `run` with a number

-- the line that is left once a message came
abbrev pub after : SceneLine → SceneLine
after (RunSome (suc k)) = RunSome k
after line = line

done_goes : (line : SceneLine) (scene : Scene) (c : Config) (rest : List SceneLine) → RunsOn line → LeadsTo scene c → c.lines ≡ line ∷ rest
    → least_unspent c.posts ≡ None → GoesOn scene c (Goes (left c rest))
done_goes Run scene c rest runs = run_done scene c rest
done_goes (RunSome (suc k)) scene c rest runs = some_none scene c rest k
done_goes (RunSome zero) scene c rest runs = absurd runs
done_goes _ scene c rest runs = absurd runs

comes_due : (line : SceneLine) (scene : Scene) (c : Config) (rest : List SceneLine) (n : ℕ) (m : SentMessage) → RunsOn line
    → LeadsTo scene c
    → c.lines ≡ line ∷ rest → least_unspent c.posts ≡ Some n → sent_at c.posts n ≡ Some m
    → is_down (head_of scene.head) none_failing m.to (past_of c) ≡ false
    → IsDue scene c (spent c n (after line ∷ rest)) m.to (arrives (head_of scene.head) none_failing n m.from m.message m.to)
comes_due Run scene c rest n m runs = run_due scene c rest n m
comes_due (RunSome (suc k)) scene c rest n m runs = some_due scene c rest k n m
comes_due (RunSome zero) scene c rest n m runs = absurd runs
comes_due _ scene c rest n m runs = absurd runs

module _ (line : SceneLine) (runs : RunsOn line) (rest : List SceneLine) where
  -- no message is there
  pub ends : (p : PlayerState) → least_unspent p.wire.links ≡ None → Leaves p (line ∷ rest) p rest
  ends p none scene c at is =
      left_at scene p c line rest at is (done_goes line scene c rest runs at.leads is (least_at scene p c at None none))

  -- one is due
  due_at : (p : PlayerState) (n : ℕ) → least_unspent p.wire.links ≡ Some n → is_thrown_in p n ≡ Some false
      → (scene : Scene) (c : Config) → IsAt scene p c → c.lines ≡ line ∷ rest
      → (m : SentMessage) × (sent_at c.posts n ≡ Some m)
      × IsDue scene c (spent c n (after line ∷ rest)) m.to (arrives (head_of scene.head) none_failing n m.from m.message m.to)
  due_at p n least up scene c at is =
      let m = found_at scene p c at n false up in
      (m.0, m.1, comes_due line scene c rest n m.0 runs at.leads is (least_at scene p c at (Some n) least) m.1 m.2)

  -- a limit forbids the turn
  pub stops : (p : PlayerState) (n : ℕ) → least_unspent p.wire.links ≡ Some n → is_thrown_in p n ≡ Some false → is_full_in p.wire ≡ true
      → (scene : Scene) (c : Config) → IsAt scene p c → c.lines ≡ line ∷ rest → Comes scene rest p progress.Full
  stops p n least up full scene c at is =
      let m = due_at p n least up scene c at is in
      stops_at scene p c n m.0 (after line ∷ rest) at m.2 full

  -- it came
  pub takes : (p q : PlayerState) (n : ℕ) → least_unspent p.wire.links ≡ Some n → is_thrown_in p n ≡ Some false → Takes p n q progress.Made
      → Leaves p (line ∷ rest) q (after line ∷ rest)
  takes p q n least up turn scene c at is =
      let m = due_at p n least up scene c at is in
      (taken scene c n m.0 (after line ∷ rest), turn scene c m.0 (after line ∷ rest) at m.1 m.2, refl)

  -- a disk failed
  pub fails : (p q : PlayerState) (n : ℕ) (came : Progress) → least_unspent p.wire.links ≡ Some n → is_thrown_in p n ≡ Some false
      → came ≢ progress.Made
      → Takes p n q came → (scene : Scene) (c : Config) → IsAt scene p c → c.lines ≡ line ∷ rest → Comes scene rest q came
  fails p q n came least up other turn scene c at is =
      let m = due_at p n least up scene c at is in
      failed_comes scene c n m.0 (after line ∷ rest) rest q came other (turn scene c m.0 (after line ∷ rest) at m.1 m.2)

-- no turn is left of `run` with a number
pub none_left : (p : PlayerState) (rest : List SceneLine) → Leaves p (RunSome 0 ∷ rest) p rest
none_left p rest scene c at is = left_at scene p c (RunSome 0) rest at is (some_done scene c rest at.leads is)

-- ---- what holds where the player comes, of where it began

pub playing_then : (p q : PlayerState) (line : SceneLine) (middle : List SceneLine → List SceneLine)
    → ((rest : List SceneLine) → Leaves p (line ∷ rest) q (middle rest)) → IsNext p line → IsPlaying q
playing_then p q line middle leaves due =
    let d = leaves due.0 due.1.0 due.1.1.0 due.1.1.1 due.1.1.2 in
    (due.1.0, (d.0, d.1))

pub unforeseen_then : (p q : PlayerState) (line : SceneLine) (middle : List SceneLine → List SceneLine)
    → ((rest : List SceneLine) → Leaves p (line ∷ rest) q (middle rest)) → IsTakeUnforeseen q → IsLineUnforeseen p line
unforeseen_then p q line middle leaves unforeseen rest scene c at is =
    let d = leaves rest scene c at is in
    unforeseen scene d.0 d.1

-- what a `?` passes on
pub passed_on : (result : Result Progress PlayFault) (error f : PlayFault) → IsErrAnd result (λ e. e ≡ error) → result ≡ Err f
    → ◌≡◌ {A = Result Progress PlayFault} (Err error) (Err f)
passed_on result error f given failed =
    ap (λ (e : PlayFault). Err e) (sym (subst (λ (r : Result Progress PlayFault). IsErrAnd r (λ e. e ≡ error)) failed given))

-- messages were thrown away before the next comes
pub thrown_before : (first p q : PlayerState) (rest : List SceneLine) → Leaves first (Run ∷ rest) p (Run ∷ rest) → Throws p q
    → Leaves first (Run ∷ rest) q (Run ∷ rest)
thrown_before first p q rest leaves throws =
    leaves_then first p q (Run ∷ rest) (Run ∷ rest) (Run ∷ rest) leaves (leaves_thrown p q Run rest tt throws)

-- and of so many turns at least one is left
pub thrown_among : (first p q : PlayerState) (turns done : ℕ) (rest : List SceneLine) → done < turns
    → Leaves first (RunSome turns ∷ rest) p (RunSome (turns - done) ∷ rest) → Throws p q
    → Leaves first (RunSome turns ∷ rest) q (RunSome (suc (turns - (done + 1))) ∷ rest)
thrown_among first p q turns done rest below leaves throws =
    let k = turns - (done + 1) in
    let some : turns - done ≡ suc k = omega arith in
    leaves_then first p q (RunSome turns ∷ rest) (RunSome (suc k) ∷ rest) (RunSome (suc k) ∷ rest)
    (subst (λ n. Leaves first (RunSome turns ∷ rest) p (RunSome n ∷ rest)) some leaves) (leaves_thrown p q (RunSome (suc k)) rest tt throws)

-- all turns were made
pub none_among : (first p : PlayerState) (turns done : ℕ) (rest : List SceneLine) → turns ≤ done
    → Leaves first (RunSome turns ∷ rest) p (RunSome (turns - done) ∷ rest) → Leaves first (RunSome turns ∷ rest) p rest
none_among first p turns done rest past leaves =
    let none : turns - done ≡ 0 = omega arith in
    leaves_then first p p (RunSome turns ∷ rest) (RunSome 0 ∷ rest) rest
    (subst (λ n. Leaves first (RunSome turns ∷ rest) p (RunSome n ∷ rest)) none leaves) (none_left p rest)

-- ---- `deliver` and `lose`

module _ (p : PlayerState) (n : ℕ) where
  pub deliver_nothing : is_thrown_in p n ≡ None → Performs p (Deliver n) p progress.Made
  deliver_nothing e scene c rest at is =
      left_at scene p c (Deliver n) rest at is
      (deliver_none scene c rest n at.leads is (ap (λ ps. sent_at ps n) (sym at.wire.links) ∙ by (sent_at p.wire.links n) refl e))
    where
      by : (o : Option SentMessage) → sent_at p.wire.links n ≡ o → option_map (λ sent. is_down_in p.nodes sent.to) o ≡ None
          → sent_at p.wire.links n ≡ None
      by None f e = f
      by (Some m) f e = absurd (cc)

  pub deliver_throws : is_thrown_in p n ≡ Some true → Performs p (Deliver n) (player_spent p n) progress.Made
  deliver_throws e scene c rest at is =
      let m = found_at scene p c at n true e in
      (spent c n rest, spent_at scene p c n rest at (deliver_thrown scene c rest n m.0 at.leads is m.1 m.2), refl)

  delivers : is_thrown_in p n ≡ Some false → (scene : Scene) (c : Config) (rest : List SceneLine) → IsAt scene p c → c.lines ≡ Deliver n
      ∷ rest
      → (m : SentMessage) × (sent_at c.posts n ≡ Some m)
      × IsDue scene c (spent c n rest) m.to (arrives (head_of scene.head) none_failing n m.from m.message m.to)
  delivers e scene c rest at is =
      let m = found_at scene p c at n false e in
      (m.0, m.1, deliver_due scene c rest n m.0 at.leads is m.1 m.2)

  pub deliver_stops : is_thrown_in p n ≡ Some false → is_full_in p.wire ≡ true → Performs p (Deliver n) p progress.Full
  deliver_stops e full scene c rest at is =
      let m = delivers e scene c rest at is in
      stops_at scene p c n m.0 rest at m.2 full

  pub deliver_takes : (q : PlayerState) (came : Progress) → is_thrown_in p n ≡ Some false → Takes p n q came → Performs p (Deliver n) q came
  deliver_takes q progress.Made e turn scene c rest at is =
      let m = delivers e scene c rest at is in
      (taken scene c n m.0 rest, turn scene c m.0 rest at m.1 m.2, refl)
  deliver_takes q progress.Full e turn scene c rest at is =
      let m = delivers e scene c rest at is in
      absurd (turn scene c m.0 rest at m.1 m.2)
  deliver_takes q (progress.Failed t) e turn scene c rest at is =
      let m = delivers e scene c rest at is in
      turn scene c m.0 rest at m.1 m.2
  deliver_takes q (progress.Broken t) e turn scene c rest at is =
      let m = delivers e scene c rest at is in
      turn scene c m.0 rest at m.1 m.2

  pub loses : Performs p (Lose n) (player_spent p n) progress.Made
  loses scene c rest at is = (spent c n rest, spent_at scene p c n rest at (lose_leads scene c rest n at.leads is), refl)
