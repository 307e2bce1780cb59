-- What a scenario's next line comes to, where no disk has failed: a turn of its node, or nothing where its client is dead; and that the
-- node
-- may make this turn.
use Rattle.std.proofs.Common.{◌≡◌, ◌≤◌, ◌<◌, ℕ, if◌then◌else◌, Bool, true, false, List, [], ◌∷◌, Some, None, refl, subst, ap, ◌∙◌, arith}
use Rattle.std.specs.Prelude.{All}
use Rattle.std.proofs.lemmas.List.Elements.{All-head, All-tail}
use Rattle.lu_base.specs.declared.ids.Node.{Node}
use Rattle.lu_base.specs.declared.ids.Node.TheVariants.{Client, Target}
use Rattle.lu_base.specs.declared.ids.TargetId.{TargetId}
use Rattle.lu_msg.specs.Limits.{slot_count}
use Rattle.lu_msg.specs.declared.calls.Call.{Call as CallOf}
use Rattle.lu_scene.specs.declared.scene.Scene.{Scene}
use Rattle.lu_scene.specs.declared.scene.SceneLine.{SceneLine}
use Rattle.lu_scene.specs.declared.scene.SceneLine.TheVariants.{Call, Tick, Commit, CommitSome, Crash, Boot, Close, Die}
use Rattle.lu_trace.specs.WellFormed.{IsCall}
use Rattle.lu_spec_client.specs.Calls.{is_dead}
use Rattle.lu_spec_client.specs.Rows as client
use Rattle.lu_spec_target.specs.Rows as target
use Rattle.lu_spec_run.specs.Heads.{Head}
use Rattle.lu_spec_run.specs.Runs.{EventAt, Meets}
use Rattle.lu_spec_run.specs.Scenarios.{Config, Disks, Ends, Goes, Fails, head_of, past_of, left, due, due_alive, next, next_by}
use Rattle.lu_spec_run.specs.Scenarios.{with_stripes}
use Rattle.lu_proof_run.proofs.Runs.{IsCommand, left_in, begins_meets, ticks_meets, dies_meets, command_meets as table_meets}
use Rattle.lu_proof_run.specs.Steps.{LeftFits, LeadsTo, GoesOn, IsDue}
use Rattle.lu_proof_run.proofs.Turning.{goes_leads}

-- ---- any line

pub line_fits : (scene : Scene) (c : Config) (rest : List SceneLine) (line : SceneLine) → LeadsTo scene c → c.lines ≡ line ∷ rest
    → LeftFits scene.head line
line_fits scene c rest line is lines = All-head (LeftFits scene.head) line rest (subst (All (LeftFits scene.head)) lines is.lines)

pub rest_fits : (scene : Scene) (c : Config) (rest : List SceneLine) (line : SceneLine) → LeadsTo scene c → c.lines ≡ line ∷ rest
    → All (LeftFits scene.head) rest
rest_fits scene c rest line is lines = All-tail (LeftFits scene.head) line rest (subst (All (LeftFits scene.head)) lines is.lines)

-- what comes next is what the lines that are left come to
pub next_is : (scene : Scene) (c : Config) (lines : List SceneLine) → LeadsTo scene c → c.lines ≡ lines
    → (disks : Disks) → next (head_of scene.head) disks c ≡ next_by (head_of scene.head) disks c lines
next_is scene c lines is same disks =
    ap (λ (failed : Bool). if failed then Fails else next_by (head_of scene.head) disks c c.lines) is.unfailed
    ∙ ap (next_by (head_of scene.head) disks c) same

-- none is left
pub ends : (scene : Scene) (c : Config) → LeadsTo scene c → c.lines ≡ [] → GoesOn scene c Ends
ends scene c is none = next_is scene c [] is none

-- a line that nothing comes of
pub left_leads : (scene : Scene) (c : Config) (rest : List SceneLine) (line : SceneLine) → LeadsTo scene c → c.lines ≡ line ∷ rest
    → GoesOn scene c (Goes (left c rest)) → LeadsTo scene (left c rest)
left_leads scene c rest line is lines goes =
    goes_leads scene c (left c rest) is goes refl (left_in (head_of scene.head) c rest is.table) (rest_fits scene c rest line is lines)

-- a line of which a turn comes
left_due : (scene : Scene) (c : Config) (rest : List SceneLine) (line : SceneLine) (node : Node) (event : EventAt node) → LeadsTo scene c
    → c.lines ≡ line ∷ rest
    → ((disks : Disks) → next_by (head_of scene.head) disks c (line ∷ rest) ≡ due (head_of scene.head) disks (left c rest) node event)
    → IsDue scene c (left c rest) node event
left_due scene c rest line node event is lines comes = record {
  next = λ disks. next_is scene c (line ∷ rest) is lines disks ∙ comes disks;
  turns = refl;
  posts = refl;
  table = left_in (head_of scene.head) c rest is.table;
  lines = rest_fits scene c rest line is lines;
}

-- ---- a line of a client, which may be dead

client_dead : (head : Head) (disks : Disks) (c : Config) (who : ℕ) (event : client.Event) (rest : List SceneLine) → is_dead who (past_of c)
    ≡ true
    → due_alive head disks c who event rest ≡ Goes (left c rest)
client_dead head disks c who event rest dead =
    ap (λ (is : Bool). if is then Goes (left c rest) else due head disks (left c rest) (Client who) event) dead

client_due : (head : Head) (disks : Disks) (c : Config) (who : ℕ) (event : client.Event) (rest : List SceneLine) → is_dead who (past_of c)
    ≡ false
    → due_alive head disks c who event rest ≡ due head disks (left c rest) (Client who) event
client_due head disks c who event rest alive =
    ap (λ (is : Bool). if is then Goes (left c rest) else due head disks (left c rest) (Client who) event) alive

pub call_dead : (scene : Scene) (c : Config) (rest : List SceneLine) (who slot : ℕ) (call : CallOf) → LeadsTo scene c → c.lines
    ≡ Call who slot call ∷ rest
    → is_dead who (past_of c) ≡ true → GoesOn scene c (Goes (left c rest))
call_dead scene c rest who slot call is lines dead =
    λ disks. next_is scene c (Call who slot call ∷ rest) is lines disks
    ∙ client_dead (head_of scene.head) disks c who (client.Begins slot (with_stripes call)) rest dead

pub tick_dead : (scene : Scene) (c : Config) (rest : List SceneLine) (who : ℕ) → LeadsTo scene c → c.lines ≡ Tick (Client who) ∷ rest
    → is_dead who (past_of c) ≡ true → GoesOn scene c (Goes (left c rest))
tick_dead scene c rest who is lines dead =
    λ disks. next_is scene c (Tick (Client who) ∷ rest) is lines disks
    ∙ client_dead (head_of scene.head) disks c who (client.Ticks) rest dead

pub die_dead : (scene : Scene) (c : Config) (rest : List SceneLine) (who : ℕ) → LeadsTo scene c → c.lines ≡ Die who ∷ rest
    → is_dead who (past_of c) ≡ true → GoesOn scene c (Goes (left c rest))
die_dead scene c rest who is lines dead =
    λ disks. next_is scene c (Die who ∷ rest) is lines disks ∙ client_dead (head_of scene.head) disks c who (client.Dies) rest dead

pub call_due : (scene : Scene) (c : Config) (rest : List SceneLine) (who slot : ℕ) (call : CallOf) → LeadsTo scene c → c.lines
    ≡ Call who slot call ∷ rest
    → is_dead who (past_of c) ≡ false → IsDue scene c (left c rest) (Client who) (client.Begins slot (with_stripes call))
call_due scene c rest who slot call is lines alive =
    left_due scene c rest (Call who slot call) (Client who) (client.Begins slot (with_stripes call)) is lines
    (λ disks. client_due (head_of scene.head) disks c who (client.Begins slot (with_stripes call)) rest alive)

pub tick_due : (scene : Scene) (c : Config) (rest : List SceneLine) (who : ℕ) → LeadsTo scene c → c.lines ≡ Tick (Client who) ∷ rest
    → is_dead who (past_of c) ≡ false → IsDue scene c (left c rest) (Client who) (client.Ticks)
tick_due scene c rest who is lines alive =
    left_due scene c rest (Tick (Client who)) (Client who) (client.Ticks) is lines
    (λ disks. client_due (head_of scene.head) disks c who (client.Ticks) rest alive)

pub die_due : (scene : Scene) (c : Config) (rest : List SceneLine) (who : ℕ) → LeadsTo scene c → c.lines ≡ Die who ∷ rest
    → is_dead who (past_of c) ≡ false → IsDue scene c (left c rest) (Client who) (client.Dies)
die_due scene c rest who is lines alive =
    left_due scene c rest (Die who) (Client who) (client.Dies) is lines
    (λ disks. client_due (head_of scene.head) disks c who (client.Dies) rest alive)

small : (slot : ℕ) → slot ≤ 3 → slot < slot_count
small slot fits = omega arith

pub call_meets : (scene : Scene) (c : Config) (rest : List SceneLine) (who slot : ℕ) (call : CallOf) → LeadsTo scene c → c.lines
    ≡ Call who slot call ∷ rest
    → is_dead who (past_of c) ≡ false → Meets (head_of scene.head) (past_of c) (Client who) (client.Begins slot (with_stripes call))
call_meets scene c rest who slot call is lines alive =
    let fits : LeftFits scene.head (Call who slot call) = line_fits scene c rest (Call who slot call) is lines in
    begins_meets (head_of scene.head) (past_of c) who slot call fits.0 alive (small slot fits.1) fits.2

-- so it keeps the limits, whether or not its client is dead
pub call_fits : (scene : Scene) (c : Config) (rest : List SceneLine) (who slot : ℕ) (call : CallOf) → LeadsTo scene c → c.lines
    ≡ Call who slot call ∷ rest
    → (who < scene.head.clients) × (slot < slot_count) × IsCall (with_stripes call)
call_fits scene c rest who slot call is lines =
    let fits : LeftFits scene.head (Call who slot call) = line_fits scene c rest (Call who slot call) is lines in
    let alone : Meets (head_of scene.head) [] (Client who) (client.Begins slot (with_stripes call)) =
    begins_meets (head_of scene.head) [] who slot call fits.0 refl (small slot fits.1) fits.2 in
    (fits.0, alone.1, alone.2)

pub tick_meets : (scene : Scene) (c : Config) (rest : List SceneLine) (who : ℕ) → LeadsTo scene c → c.lines ≡ Tick (Client who) ∷ rest
    → is_dead who (past_of c) ≡ false → Meets (head_of scene.head) (past_of c) (Client who) client.Ticks
tick_meets scene c rest who is lines alive =
    ticks_meets (head_of scene.head) (past_of c) who (line_fits scene c rest (Tick (Client who)) is lines) alive

pub die_meets : (scene : Scene) (c : Config) (rest : List SceneLine) (who : ℕ) → LeadsTo scene c → c.lines ≡ Die who ∷ rest
    → is_dead who (past_of c) ≡ false → Meets (head_of scene.head) (past_of c) (Client who) client.Dies
die_meets scene c rest who is lines alive =
    dies_meets (head_of scene.head) (past_of c) who (line_fits scene c rest (Die who) is lines) alive

-- ---- a line of a target

pub target_tick_due : (scene : Scene) (c : Config) (rest : List SceneLine) (t : ℕ) → LeadsTo scene c → c.lines ≡ Tick (Target t) ∷ rest
    → IsDue scene c (left c rest) (Target t) target.Ticks
target_tick_due scene c rest t is lines = left_due scene c rest (Tick (Target t)) (Target t) target.Ticks is lines (λ disks. refl)

pub commit_due : (scene : Scene) (c : Config) (rest : List SceneLine) (t : TargetId) → LeadsTo scene c → c.lines ≡ Commit t ∷ rest
    → IsDue scene c (left c rest) (Target t.0) (target.Commits None)
commit_due scene c rest t is lines = left_due scene c rest (Commit t) (Target t.0) (target.Commits None) is lines (λ disks. refl)

pub commit_some_due : (scene : Scene) (c : Config) (rest : List SceneLine) (t : TargetId) (count : ℕ) → LeadsTo scene c → c.lines
    ≡ CommitSome t count ∷ rest
    → IsDue scene c (left c rest) (Target t.0) (target.Commits (Some count))
commit_some_due scene c rest t count is lines = left_due scene c rest (CommitSome t count) (Target t.0) (target.Commits (Some count)) is
    lines (λ disks. refl)

pub crash_due : (scene : Scene) (c : Config) (rest : List SceneLine) (t : TargetId) → LeadsTo scene c → c.lines ≡ Crash t ∷ rest
    → IsDue scene c (left c rest) (Target t.0) target.Crashes
crash_due scene c rest t is lines = left_due scene c rest (Crash t) (Target t.0) target.Crashes is lines (λ disks. refl)

pub boot_due : (scene : Scene) (c : Config) (rest : List SceneLine) (t : TargetId) → LeadsTo scene c → c.lines ≡ Boot t ∷ rest
    → IsDue scene c (left c rest) (Target t.0) target.Boots
boot_due scene c rest t is lines = left_due scene c rest (Boot t) (Target t.0) target.Boots is lines (λ disks. refl)

pub close_due : (scene : Scene) (c : Config) (rest : List SceneLine) (t : TargetId) → LeadsTo scene c → c.lines ≡ Close t ∷ rest
    → IsDue scene c (left c rest) (Target t.0) target.Closes
close_due scene c rest t is lines = left_due scene c rest (Close t) (Target t.0) target.Closes is lines (λ disks. refl)

-- each of these events may come to a target of the run
pub command_meets : (scene : Scene) (c : Config) (t : ℕ) (event : target.Event) → LeadsTo scene c → IsCommand event → t ≤ scene.head.osts
    → Meets (head_of scene.head) (past_of c) (Target t) event
command_meets scene c t event is command one = table_meets (head_of scene.head) (past_of c) t event command one is.unfailed

-- and each of these lines is of one
pub target_tick_one : (scene : Scene) (c : Config) (rest : List SceneLine) (t : ℕ) → LeadsTo scene c → c.lines ≡ Tick (Target t) ∷ rest
    → t ≤ scene.head.osts
target_tick_one scene c rest t is lines = line_fits scene c rest (Tick (Target t)) is lines

pub commit_one : (scene : Scene) (c : Config) (rest : List SceneLine) (t : TargetId) → LeadsTo scene c → c.lines ≡ Commit t ∷ rest
    → t.0 ≤ scene.head.osts
commit_one scene c rest t is lines = line_fits scene c rest (Commit t) is lines

pub commit_some_one : (scene : Scene) (c : Config) (rest : List SceneLine) (t : TargetId) (count : ℕ) → LeadsTo scene c → c.lines
    ≡ CommitSome t count ∷ rest → t.0 ≤ scene.head.osts
commit_some_one scene c rest t count is lines = let fits : LeftFits scene.head (CommitSome t count) =
    line_fits scene c rest (CommitSome t count) is lines in fits.0

pub crash_one : (scene : Scene) (c : Config) (rest : List SceneLine) (t : TargetId) → LeadsTo scene c → c.lines ≡ Crash t ∷ rest
    → t.0 ≤ scene.head.osts
crash_one scene c rest t is lines = line_fits scene c rest (Crash t) is lines

pub boot_one : (scene : Scene) (c : Config) (rest : List SceneLine) (t : TargetId) → LeadsTo scene c → c.lines ≡ Boot t ∷ rest
    → t.0 ≤ scene.head.osts
boot_one scene c rest t is lines = line_fits scene c rest (Boot t) is lines

pub close_one : (scene : Scene) (c : Config) (rest : List SceneLine) (t : TargetId) → LeadsTo scene c → c.lines ≡ Close t ∷ rest
    → t.0 ≤ scene.head.osts
close_one scene c rest t is lines = line_fits scene c rest (Close t) is lines

pub target_tick_meets : (scene : Scene) (c : Config) (rest : List SceneLine) (t : ℕ) → LeadsTo scene c → c.lines ≡ Tick (Target t) ∷ rest
    → Meets (head_of scene.head) (past_of c) (Target t) target.Ticks
target_tick_meets scene c rest t is lines = command_meets scene c t target.Ticks is tt (target_tick_one scene c rest t is lines)

pub commit_meets : (scene : Scene) (c : Config) (rest : List SceneLine) (t : TargetId) → LeadsTo scene c → c.lines ≡ Commit t ∷ rest
    → Meets (head_of scene.head) (past_of c) (Target t.0) (target.Commits None)
commit_meets scene c rest t is lines = command_meets scene c t.0 (target.Commits None) is tt (commit_one scene c rest t is lines)

pub commit_some_meets : (scene : Scene) (c : Config) (rest : List SceneLine) (t : TargetId) (count : ℕ) → LeadsTo scene c → c.lines
    ≡ CommitSome t count ∷ rest
    → Meets (head_of scene.head) (past_of c) (Target t.0) (target.Commits (Some count))
commit_some_meets scene c rest t count is lines = command_meets scene c t.0 (target.Commits (Some count)) is tt
    (commit_some_one scene c rest t count is lines)

pub crash_meets : (scene : Scene) (c : Config) (rest : List SceneLine) (t : TargetId) → LeadsTo scene c → c.lines ≡ Crash t ∷ rest
    → Meets (head_of scene.head) (past_of c) (Target t.0) target.Crashes
crash_meets scene c rest t is lines = command_meets scene c t.0 target.Crashes is tt (crash_one scene c rest t is lines)

pub boot_meets : (scene : Scene) (c : Config) (rest : List SceneLine) (t : TargetId) → LeadsTo scene c → c.lines ≡ Boot t ∷ rest
    → Meets (head_of scene.head) (past_of c) (Target t.0) target.Boots
boot_meets scene c rest t is lines = command_meets scene c t.0 target.Boots is tt (boot_one scene c rest t is lines)

pub close_meets : (scene : Scene) (c : Config) (rest : List SceneLine) (t : TargetId) → LeadsTo scene c → c.lines ≡ Close t ∷ rest
    → Meets (head_of scene.head) (past_of c) (Target t.0) target.Closes
close_meets scene c rest t is lines = command_meets scene c t.0 target.Closes is tt (close_one scene c rest t is lines)
