-- Whatever a scenario comes to, where no disk has failed, is a covered run of the whole table; and it changes no bytes, where the scenario
-- doesn't. Where one has failed, it did so in the last turn of a run of the table.
use Rattle.std.proofs.Common.{◌≡◌, ℕ, zero, suc, ◌+◌, ◌<◌, ◌≤◌, Bool, true, false, List, [], ◌∷◌, Option, Some, None, inl, inr, refl, sym}
use Rattle.std.proofs.Common.{subst, ap, arith}
use Rattle.std.specs.Prelude.{not, if◌then◌else◌, length}
use Rattle.std.proofs.lemmas.Bool.Decides.{nat_tests}
use Rattle.lu_base.specs.declared.ids.Node.{Node}
use Rattle.lu_base.specs.declared.ids.Node.TheVariants.{Client, Target}
use Rattle.lu_msg.specs.declared.messages.Message.{Message}
use Rattle.lu_net.specs.declared.links.Sent.{Sent as SentMessage}
use Rattle.lu_net.specs.Posts.{sent_at, least_unspent, spend}
use Rattle.lu_scene.specs.declared.scene.Scene.{Scene}
use Rattle.lu_scene.specs.declared.scene.SceneLine.{SceneLine}
use Rattle.lu_scene.specs.declared.scene.SceneLine.TheVariants.{Call, Run, RunSome, Deliver, Lose, Tick, Commit, CommitSome, Crash, Boot}
use Rattle.lu_scene.specs.declared.scene.SceneLine.TheVariants.{Close, Die}
use Rattle.lu_spec_entries.specs.Words.{Entry, Line}
use Rattle.lu_spec_entries.specs.Sent.{Sent}
use Rattle.lu_spec_client.specs.Calls.{is_dead}
use Rattle.lu_spec_client.specs.Rows as client
use Rattle.lu_spec_client.specs.States.{first_imports}
use Rattle.lu_spec_target.specs.Disks.{row_start}
use Rattle.lu_spec_target.specs.Rows as target
use Rattle.lu_spec_run.specs.Heads.{Head}
use Rattle.lu_spec_run.specs.Runs.{EventAt, Turn, lines_of, has_failed, IsRun, Meets, row_at, client_of, target_of, limits_of}
use Rattle.lu_spec_run.specs.Scenarios.{Config, Next, Stops, Fails, Goes, head_of, past_of, is_full, with_turn, left, Disks, start_fails}
use Rattle.lu_spec_run.specs.Scenarios.{first_failing, fails_at}
use Rattle.lu_spec_run.specs.Scenarios.{start_turn, is_down, turn_of, due, arrives, due_alive, comes, runs, next_by, with_stripes, Leads}
use Rattle.lu_spec_run.specs.Scenarios.{here, more, start}
use Rattle.lu_proof_lawful.specs.Covered.Runs.{AllCovered, AllBare}
use Rattle.lu_spec_run.specs.Limits.{KeepsLimits}
use Rattle.lu_proof_run.specs.InTable.{next_at}
use Rattle.lu_proof_run.proofs.Clients.{client_first}
use Rattle.lu_proof_run.proofs.Posts.{sent_at_is}
use Rattle.lu_proof_run.proofs.Runs.{first_in, left_in, spent_in, client_meets}
use Rattle.lu_proof_lawful.proofs.Preconditions.Turns.{covered_head}
use Rattle.lu_proof_scenes.specs.Quiet.{IsBareScene, EvictsNone, AsksNoDisk, ticks_of}
use Rattle.lu_proof_scenes.proofs.Arrivals.{client_calm, to_client}
use Rattle.lu_proof_scenes.proofs.Every.{Every}
use Rattle.lu_proof_scenes.proofs.Clients.{ImportCalm, Calm}
use Rattle.lu_proof_scenes.proofs.ClientRows.{EventCalm}
use Rattle.lu_proof_scenes.proofs.Lines.{IsQuiet, MayAsk, Calls, IsCommandTo, AllKnown, lines_known, all_bare}
use Rattle.lu_proof_scenes.proofs.Turns.{Sound, IsTimely, Timely, Makes, made, Spared, covered_unfailed, past_grown, begun_fit}
use Rattle.lu_proof_scenes.proofs.Turns.{client_makes, client_timely, comes_makes, comes_timely, names_due, others_due, tick_makes}
use Rattle.lu_proof_scenes.proofs.Turns.{names_timely, other_timely, commit_makes, commit_timely, crash_makes, crash_timely, close_makes}
use Rattle.lu_proof_scenes.proofs.Turns.{close_timely, boot_makes, boot_timely}

-- a configuration to which a scenario leads
pub record Follows (scene : Scene) (c : Config) : Type 0 where
  pub sound : Sound scene c
  pub lines : AllKnown scene c.lines
  pub time : Timely scene (ticks_of c.lines) (past_of c)

-- a run in whose last turn a disk has failed, and in none before
pub record Broke (head : Head) (c : Config) : Type 0 where
  pub last : Turn
  pub earlier : List Turn
  pub turns : c.turns ≡ last ∷ earlier
  pub run : IsRun head (last ∷ earlier)
  pub before : has_failed (lines_of earlier) ≡ false

-- so it is, if one has failed
abbrev pub Breaks : Head → Config → Type 0
Breaks head c = has_failed (past_of c) ≡ true → Broke head c

goes : (c d : Config) → Goes c ≡ Goes d → c ≡ d
goes c d e = cc

has_room : (c : Config) → is_full c ≡ false → length c.turns < 65536
has_room c free = grind (arith, nat_tests)

-- ---- lines that are left

-- so many ticks or fewer
fewer_timely : (scene : Scene) (past : List Line) (few many : ℕ) → few ≤ many → Timely scene many past → Timely scene few past
fewer_timely scene past few many less time quiet = by (time quiet)
  where
    by : IsTimely scene many past → IsTimely scene few past
    by (inl low) = inl (omega (arith, less, low))
    by (inr miss) = inr miss

ticks_rest : (line : SceneLine) (rest : List SceneLine) → ticks_of rest ≤ ticks_of (line ∷ rest)
ticks_rest (Tick (Target zero)) rest = omega arith
ticks_rest line rest = omega arith

-- a target that isn't down
pub so_up : (up : Bool) → not up ≡ false → up ≡ true
so_up true e = refl
so_up false e = absurd (cc)

-- ---- a client at the start of a run

imports_calm : (MayAsk : Type 0) (n : ℕ) → Every (ImportCalm MayAsk) (first_imports n)
imports_calm MayAsk zero = tt
imports_calm MayAsk (suc n) = (record { stands = tt; queue = tt; flights = tt }, imports_calm MayAsk n)

imports_count : (n : ℕ) → length (first_imports n) ≤ n
imports_count zero = omega arith
imports_count (suc n) = let few = imports_count n in omega (arith, few)

pub calm_first : (MayAsk : Type 0) (head : Head) (who : ℕ) → Calm MayAsk head.osts (client_of head who [])
calm_first MayAsk head who =
    subst (Calm MayAsk head.osts) (sym (client_first (limits_of head) who))
    (record {
      handles = tt;
      calls = (tt, (tt, (tt, (tt, tt))));
      imports = imports_calm MayAsk ((limits_of head).osts + 1);
      targets = imports_count ((limits_of head).osts + 1);
      facts = tt;
    })

-- ---- the target whose start fails is one of so many

start_one : (disks : Disks) (from count t : ℕ) → start_fails disks from count ≡ Some t → t < from + count
start_one disks from zero t is = absurd (cc)
start_one disks from (suc count) t is =
    by (first_failing (disks from) 0 2) is (λ e. let low = start_one disks (from + 1) count t e in omega (arith, low))
  where
    by : (o : Option ℕ) → (elim o [ Some n ↦ Some from | None ↦ start_fails disks (from + 1) count ]) ≡ Some t
        → (start_fails disks (from + 1) count ≡ Some t → t < from + suc count) → t < from + suc count
    by (Some n) e rest = let same : from ≡ t = cc in omega (arith, same)
    by None e rest = rest e

module _ (scene : Scene) (limits : KeepsLimits scene) (disks : Disks) where
  abbrev head : Head
  head = head_of scene.head

  -- lines that may be left: these, or some of them
  pub record Left (c : Config) (lines : List SceneLine) : Type 0 where
    pub known : AllKnown scene lines
    pub time : Timely scene (ticks_of lines) (past_of c)

  rest_left : (c : Config) (line : SceneLine) (rest : List SceneLine) → Left c (line ∷ rest) → Left c rest
  rest_left c line rest l = record {
    known = l.known.1;
    time = fewer_timely scene (past_of c) (ticks_of rest) (ticks_of (line ∷ rest))
        (ticks_rest line rest) l.time;
  }

  sound_left : (c : Config) (lines : List SceneLine) → Sound scene c → Sound scene (left c lines)
  sound_left c lines s = record {
    table = left_in head c lines s.table;
    covered = s.covered;
    suits = s.suits;
    calm = s.calm;
    below =
        s.below;
    ticks = s.ticks;
    begun = s.begun;
  }

  abbrev spent : Config → ℕ → List SceneLine → Config
  spent c n lines = record { turns = c.turns; posts = spend c.posts n; lines = lines }

  sound_spent : (c : Config) (n : ℕ) (lines : List SceneLine) → Sound scene c → Sound scene (spent c n lines)
  sound_spent c n lines s = record {
    table = spent_in head c n lines s.table;
    covered = s.covered;
    suits = s.suits;
    calm = s.calm;
    below =
        s.below;
    ticks = s.ticks;
    begun = s.begun;
  }

  -- ---- one step: whatever comes next, if the run goes on

  abbrev Went : Config → Type 0
  Went d = (Spared scene limits (past_of d) → Follows scene d) × Breaks head d

  abbrev Kept : Next → Type 0
  Kept next = (d : Config) → next ≡ Goes d → Went d

  -- none has failed without a turn
  whole : (c : Config) → Follows scene c → Breaks head c
  whole c f failed = let unfailed = covered_unfailed (past_of c) f.sound.covered in absurd (cc)

  moved : (c : Config) → Follows scene c → Kept (Goes c)
  moved c f d e = subst Went (goes c d e) (λ spared. f, whole c f)

  left_moved : (c : Config) (lines : List SceneLine) → Sound scene c → Left c lines → Kept (Goes (left c lines))
  left_moved c lines s l = moved (left c lines) (record { sound = sound_left c lines s; lines = l.known; time = l.time })

  -- a turn that its node makes
  turn_follows : (c : Config) (node : Node) (event : EventAt node) → AllKnown scene c.lines → Makes scene limits c node event
      → Timely scene (ticks_of c.lines) (past_of (made scene limits c node event))
      → Spared scene limits (past_of (with_turn c (turn_of head disks c node event)))
      → Follows scene (with_turn c (turn_of head disks c node event))
  turn_follows c node event known m time spared =
      subst (λ (es : List Entry). Follows scene (with_turn c (record { at = next_at c node; entries = es }))) (sym (m.same disks spared))
      (record { sound = m.sound; lines = known; time = time })

  due_keeps : (c : Config) (node : Node) (event : EventAt node) → AllKnown scene c.lines
      → (length c.turns < 65536 → Makes scene limits c node event)
      → Timely scene (ticks_of c.lines) (past_of (made scene limits c node event))
      → Kept (due head disks c node event)
  due_keeps c node event known makes time = by (is_full c) refl
    where
      by : (full : Bool) → is_full c ≡ full → Kept (if full then Stops else Goes (with_turn c (turn_of head disks c node event)))
      by true e = λ d same. absurd (cc)
      by false e = λ d same.
          let next = with_turn c (turn_of head disks c node event) in
          let m = makes (has_room c e) in
          subst Went (goes next d same) (
            turn_follows c node event known m time,
            λ failed. record {
              last = turn_of head disks c node event;
              earlier = c.turns;
              turns = refl;
              run = (m.breaks (fails_at disks (past_of c) node (row_at head (past_of c) (next_at c node) node event))).run;
              before = m.before;
            },
          )

  -- ---- a line of a client

  alive_keeps : (c : Config) (who : ℕ) (event : client.Event) (rest : List SceneLine) → Sound scene c → Left c rest
      → EventCalm (Calls scene.lines) (MayAsk scene) head.osts event
      → (is_dead who (past_of c) ≡ false → Meets head (past_of c) (Client who) event) → Kept (due_alive head disks c who event rest)
  alive_keeps c who event rest s l calm meets = by (is_dead who (past_of c)) refl
    where
      by : (dead : Bool) → is_dead who (past_of c) ≡ dead → Kept
          (if dead then Goes (left c rest) else due head disks (left c rest) (Client who) event)
      by true e = left_moved c rest s l
      by false e =
          due_keeps (left c rest) (Client who) event l.known (λ room. client_makes scene limits (left c rest) who event
          (sound_left c rest s) (meets e) calm)
          (client_timely scene limits (left c rest) who event (ticks_of rest) l.time)

  -- ---- a message

  -- it comes to its node, where that is up
  arrives_keeps : (c : Config) (n : ℕ) (from : Node) (m : Message) (node : Node) → Sound scene c → AllKnown scene c.lines
      → Timely scene (ticks_of c.lines) (past_of c) → Sent (past_of c) n from node m → is_down head disks node (past_of c) ≡ false
      → Kept (due head disks c node (arrives head disks n from m node))
  arrives_keeps c n from m (Client who) s known time sent up =
      let g = past_grown scene limits c s in
      due_keeps c (Client who) (client.Comes n from m) known
      (λ room. client_makes scene limits c who (client.Comes n from m) s
      (client_meets head (past_of c) who n from m (to_client (MayAsk scene) head.osts (covered_head head) (past_of c) g s.suits n who
      from m sent) up sent)
      (client_calm (IsQuiet scene) (covered_head head) head.osts (past_of c) g s.suits (begun_fit scene limits c s) n who from m sent))
      (client_timely scene limits c who (client.Comes n from m) (ticks_of c.lines) time)
  arrives_keeps c n from m (Target t) s known time sent up =
      due_keeps c (Target t) (target.Comes n from m) known (comes_makes scene limits c t n from m s sent
      (so_up (target_of head t (past_of c)).up up)) (comes_timely scene limits c t n from m s sent (ticks_of c.lines) time)

  comes_keeps : (c : Config) (n : ℕ) (o : Option SentMessage) (thrown taken : List SceneLine) → Sound scene c → sent_at c.posts n ≡ o
      → Left c thrown → Left c taken → Kept (comes head disks c n o thrown taken)
  comes_keeps c n None thrown taken s e if_thrown if_taken = left_moved c thrown s if_thrown
  comes_keeps c n (Some m) thrown taken s e if_thrown if_taken = by (is_down head disks m.to (past_of c)) refl
    where
      by : (down : Bool) → is_down head disks m.to (past_of c) ≡ down
          → Kept (if down then Goes (spent c n thrown) else due head disks (spent c n taken) m.to
          (arrives head disks n m.from m.message m.to))
      by true down = moved (spent c n thrown) (record { sound = sound_spent c n thrown s; lines = if_thrown.known; time = if_thrown.time })
      by false up =
          arrives_keeps (spent c n taken) n m.from m.message m.to (sound_spent c n taken s) if_taken.known if_taken.time
          (sent_at_is (past_of c) c.posts n m s.table.posts e) up

  runs_keeps : (c : Config) (o : Option ℕ) (done thrown taken : List SceneLine) → Sound scene c → Left c done → Left c thrown → Left c taken
      → Kept (runs head disks c o done thrown taken)
  runs_keeps c None done thrown taken s if_done if_thrown if_taken = left_moved c done s if_done
  runs_keeps c (Some n) done thrown taken s if_done if_thrown if_taken =
      comes_keeps c n (sent_at c.posts n) thrown taken s refl if_thrown if_taken

  -- ---- time goes on at a target

  tick_keeps : (c : Config) (t : ℕ) (rest : List SceneLine) → Sound scene c → Left c (Tick (Target t) ∷ rest)
      → Kept (due head disks (left c rest) (Target t) target.Ticks)
  tick_keeps c zero rest s l =
      let after = left c rest in
      let sound = sound_left c rest s in
      due_keeps after (Target 0) target.Ticks l.known.1 (λ room. tick_makes scene limits after 0 sound
      (names_due scene limits after (ticks_of rest) sound l.time) room l.known.0)
      (names_timely scene limits after (ticks_of rest) sound l.time)
  tick_keeps c (suc t) rest s l =
      let after = left c rest in
      let sound = sound_left c rest s in
      due_keeps after (Target (suc t)) target.Ticks l.known.1 (λ room. tick_makes scene limits after (suc t) sound
      (others_due scene limits after (suc t) sound (λ e. absurd (cc))) room l.known.0)
      (other_timely scene limits after (suc t) (ticks_of rest) (grind (arith, nat_tests)) l.time)

  -- ---- a command to a target

  commit_keeps : (c : Config) (t : ℕ) (count : Option ℕ) (rest : List SceneLine) → Sound scene c → Left c rest
      → IsCommandTo scene.lines head.osts t → Kept (due head disks (left c rest) (Target t) (target.Commits count))
  commit_keeps c t count rest s l to =
      let after = left c rest in
      let sound = sound_left c rest s in
      due_keeps after (Target t) (target.Commits count) l.known (λ room. commit_makes scene limits after t sound to.some count room to.one)
      (commit_timely scene limits after t sound to.some count (ticks_of rest) l.time)

  crash_keeps : (c : Config) (t : ℕ) (rest : List SceneLine) → Sound scene c → Left c rest → IsCommandTo scene.lines head.osts t
      → Kept (due head disks (left c rest) (Target t) target.Crashes)
  crash_keeps c t rest s l to =
      let after = left c rest in
      let sound = sound_left c rest s in
      due_keeps after (Target t) target.Crashes l.known (λ room. crash_makes scene limits after t sound to.some room to.one)
      (crash_timely scene limits after t sound to.some (ticks_of rest) l.time)

  close_keeps : (c : Config) (t : ℕ) (rest : List SceneLine) → Sound scene c → Left c rest → IsCommandTo scene.lines head.osts t
      → Kept (due head disks (left c rest) (Target t) target.Closes)
  close_keeps c t rest s l to =
      let after = left c rest in
      let sound = sound_left c rest s in
      due_keeps after (Target t) target.Closes l.known (λ room. close_makes scene limits after t sound to.some room to.one)
      (close_timely scene limits after t sound to.some (ticks_of rest) l.time)

  boot_keeps : (c : Config) (t : ℕ) (rest : List SceneLine) → Sound scene c → Left c rest → IsCommandTo scene.lines head.osts t
      → Kept (due head disks (left c rest) (Target t) target.Boots)
  boot_keeps c t rest s l to =
      let after = left c rest in
      let sound = sound_left c rest s in
      due_keeps after (Target t) target.Boots l.known (λ room. boot_makes scene limits after t sound to.some room to.one)
      (boot_timely scene limits after t sound to.some (ticks_of rest) l.time)

  step_keeps : (c : Config) (lines : List SceneLine) → Sound scene c → Left c lines → Kept (next_by head disks c lines)
  step_keeps c [] s l = λ d e. absurd (cc)
  step_keeps c (Call who slot call ∷ rest) s l =
      let k = l.known.0 in
      alive_keeps c who (client.Begins slot (with_stripes call)) rest s (rest_left c (Call who slot call) rest l) (k.among, k.limits)
      (λ up. (record { one = k.one; alive = up }, k.small, k.limits))
  step_keeps c (Run ∷ rest) s l = runs_keeps c (least_unspent c.posts) rest (Run ∷ rest) (Run ∷ rest) s (rest_left c Run rest l) l l
  step_keeps c (RunSome zero ∷ rest) s l = left_moved c rest s (rest_left c (RunSome zero) rest l)
  step_keeps c (RunSome (suc k) ∷ rest) s l =
      runs_keeps c (least_unspent c.posts) rest (RunSome (suc k) ∷ rest) (RunSome k ∷ rest) s (rest_left c (RunSome (suc k)) rest l) l
      (record { known = l.known; time = l.time })
  step_keeps c (Deliver n ∷ rest) s l = comes_keeps c n (sent_at c.posts n) rest rest s refl (rest_left c (Deliver n) rest l)
      (rest_left c (Deliver n) rest l)
  step_keeps c (Lose n ∷ rest) s l =
      let r = rest_left c (Lose n) rest l in
      moved (spent c n rest) (record { sound = sound_spent c n rest s; lines = r.known; time = r.time })
  step_keeps c (Tick (Client who) ∷ rest) s l = alive_keeps c who client.Ticks rest s (rest_left c (Tick (Client who)) rest l) tt
      (λ up. record { one = l.known.0; alive = up })
  step_keeps c (Tick (Target t) ∷ rest) s l = tick_keeps c t rest s l
  step_keeps c (Die who ∷ rest) s l = alive_keeps c who client.Dies rest s (rest_left c (Die who) rest l) tt
      (λ up. record { one = l.known.0; alive = up })
  step_keeps c (Commit t ∷ rest) s l = commit_keeps c t.0 None rest s (rest_left c (Commit t) rest l) l.known.0
  step_keeps c (CommitSome t k ∷ rest) s l = commit_keeps c t.0 (Some k) rest s (rest_left c (CommitSome t k) rest l) l.known.0
  step_keeps c (Crash t ∷ rest) s l = crash_keeps c t.0 rest s (rest_left c (Crash t) rest l) l.known.0
  step_keeps c (Boot t ∷ rest) s l = boot_keeps c t.0 rest s (rest_left c (Boot t) rest l) l.known.0
  step_keeps c (Close t ∷ rest) s l = close_keeps c t.0 rest s (rest_left c (Close t) rest l) l.known.0

  -- a run goes on only where no disk has failed
  next_keeps : (c d : Config) (failed : Bool) → (if failed then Fails else next_by head disks c c.lines) ≡ Goes d
      → Follows scene c → Went d
  next_keeps c d true e f = absurd (cc)
  next_keeps c d false e f = step_keeps c c.lines f.sound (record { known = f.lines; time = f.time }) d e

  went_on : (c d : Config) (failed : Bool) → (if failed then Fails else next_by head disks c c.lines) ≡ Goes d → failed ≡ false
  went_on c d true e = absurd (cc)
  went_on c d false e = refl

  -- ---- from the start

  first_time : Timely scene (ticks_of scene.lines) []
  first_time quiet = by quiet.1.evicts
    where
      by : EvictsNone scene → IsTimely scene (ticks_of scene.lines) []
      by (inl low) = inl (omega (arith, low))
      by (inr miss) = inr miss

  start_follows : (o : Option ℕ) → has_failed (lines_of (start_turn o)) ≡ false
      → Follows scene (record { turns = start_turn o; posts = []; lines = scene.lines })
  start_follows None unfailed =
      record {
        sound =
            record {
              table = first_in head scene.lines;
              covered = tt;
              suits = tt;
              calm = calm_first (MayAsk scene) head;
              below = λ t. record {
                queue = tt;
                few = omega arith;
                number = omega arith;
                cookie = omega arith;
                boot = omega arith;
                disk =
                    refl;
                waiting = tt;
              };
              ticks = λ t. omega arith;
              begun = λ call i. absurd i;
            };
        lines = lines_known scene limits;
        time = first_time;
      }
  start_follows (Some t) unfailed = absurd (cc)

  leads_on : (a c : Config) → Leads head disks a c → Spared scene limits (past_of c) → Follows scene a → Follows scene c
  leads_on a _ (here _) spared f = f
  leads_on a c (more _ b _ l e) spared f =
      (next_keeps b c (has_failed (past_of b)) e (leads_on a b l (inl (went_on b c (has_failed (past_of b)) e)) f)).0 spared

  -- nor had one at first
  was_unfailed : (a c : Config) → Leads head disks a c → has_failed (past_of c) ≡ false → has_failed (past_of a) ≡ false
  was_unfailed a _ (here _) unfailed = unfailed
  was_unfailed a c (more _ b _ l e) unfailed = was_unfailed a b l (went_on b c (has_failed (past_of b)) e)

  -- so none has failed, or none does at a start
  pub leads_follow : (c : Config) → Leads head disks (start head disks scene) c → has_failed (past_of c) ≡ false → Follows scene c
  leads_follow c l unfailed =
      let first = start head disks scene in
      leads_on first c l (inl unfailed) (start_follows (start_fails disks 0 (head.osts + 1)) (was_unfailed first c l unfailed))

  -- where one has failed, it was at a start or in the last turn: the run goes no further
  start_breaks : (o : Option ℕ) → ((t : ℕ) → o ≡ Some t → t ≤ head.osts)
      → Breaks head (record { turns = start_turn o; posts = []; lines = scene.lines })
  start_breaks None one failed = absurd (cc)
  start_breaks (Some t) one failed =
      let first : Turn = record { at = record { stamp = record { 0 = 1 }; node = Target t }; entries = row_start true } in
      record {
        last = first;
        earlier = [];
        turns = refl;
        run = (tt, inr (record { first = refl; target = t; one = one t refl; node = refl; is = refl }), tt);
        before = refl;
      }

  pub leads_break : (c : Config) → Leads head disks (start head disks scene) c → Breaks head c
  leads_break _ (here _) =
      let first : Option ℕ = start_fails disks 0 (head.osts + 1) in
      start_breaks first (λ t is. let few = start_one disks 0 (head.osts + 1) t is in omega (arith, few))
  leads_break c (more _ b _ l e) =
      (next_keeps b c (has_failed (past_of b)) e (leads_follow b l (went_on b c (has_failed (past_of b)) e))).1

  pub starts_follow : (c : Config) → IsQuiet scene → Leads head disks (start head disks scene) c → start_fails disks 0 (head.osts + 1)
      ≡ None → Follows scene c
  starts_follow c quiet l none =
      leads_on (start head disks scene) c l (inr quiet) (start_follows (start_fails disks 0 (head.osts + 1))
      (ap (λ (o : Option ℕ). has_failed (lines_of (start_turn o))) none))

-- ---- as it is stated

pub scene_run : (scene : Scene) → KeepsLimits scene → (disks : Disks) (c : Config)
    → Leads (head_of scene.head) disks (start (head_of scene.head) disks scene) c → has_failed (past_of c) ≡ false
    → IsRun (head_of scene.head) c.turns
scene_run scene limits disks c l unfailed = (leads_follow scene limits disks c l unfailed).sound.table.run

pub scene_covered : (scene : Scene) → KeepsLimits scene → (disks : Disks) (c : Config)
    → Leads (head_of scene.head) disks (start (head_of scene.head) disks scene) c → has_failed (past_of c) ≡ false
    → AllCovered (past_of c)
scene_covered scene limits disks c l unfailed = (leads_follow scene limits disks c l unfailed).sound.covered

pub scene_bare : (scene : Scene) → IsBareScene scene → (disks : Disks) (c : Config)
    → Leads (head_of scene.head) disks (start (head_of scene.head) disks scene) c → has_failed (past_of c) ≡ false
    → AllBare (past_of c)
scene_bare scene bare disks c l unfailed = all_bare scene bare (past_of c) (leads_follow scene bare.limits disks c l unfailed).sound.begun

-- where no start fails, and no line gives a command and no client is evicted, none does later: no turn asks a disk
pub scene_unfailed : (scene : Scene) → IsBareScene scene → AsksNoDisk scene → (disks : Disks) (c : Config)
    → Leads (head_of scene.head) disks (start (head_of scene.head) disks scene) c
    → start_fails disks 0 (scene.head.osts + 1) ≡ None → has_failed (past_of c) ≡ false
scene_unfailed scene bare quiet disks c l none = covered_unfailed (past_of c)
    (starts_follow scene bare.limits disks c (bare, quiet) l none).sound.covered
