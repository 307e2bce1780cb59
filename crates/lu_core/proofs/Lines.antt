-- What performing a line of a client or a command to a target comes to: nothing where the client is dead, a limit, a turn, or one in which
-- a disk fails.
use Rattle.std.proofs.Common.{◌≡◌, ◌≤◌, ◌<◌, ℕ, ◌+◌, ◌^◌, true, false, List, ◌∷◌, length, Some, None, refl, sym, subst, ap, ◌∙◌, arith}
use Rattle.lu_base.specs.declared.ids.At.{At}
use Rattle.lu_base.specs.declared.ids.Node.{Node}
use Rattle.lu_base.specs.declared.ids.Node.TheVariants.{Client, Target}
use Rattle.lu_base.specs.declared.ids.Stamp.{Stamp}
use Rattle.lu_run_nodes.specs.Ranges.{IsCall, IsSpan}
use Rattle.lu_msg.specs.Limits.{slot_count}
use Rattle.lu_msg.specs.declared.calls.Call.{Call as CallOf}
use Rattle.lu_msg.specs.declared.calls.Call.TheVariants as call
use Rattle.lu_scene.specs.Grammar.{CallFits}
use Rattle.lu_scene.specs.declared.scene.Scene.{Scene}
use Rattle.lu_scene.specs.declared.scene.SceneLine.{SceneLine}
use Rattle.lu_scene.specs.declared.scene.SceneLine.TheVariants.{Call, Tick, Commit, CommitSome, Crash, Boot, Close, Die}
use Rattle.lu_trace.specs.declared.traces.Step.{Step}
use Rattle.lu_spec_entries.specs.Words.{Entry, Line, with_turn as with_lines}
use Rattle.lu_spec_entries.specs.Given.{step_of}
use Rattle.lu_spec_target.specs.Disks.{failing}
use Rattle.lu_spec_target.specs.Rows as target
use Rattle.lu_spec_client.specs.Calls.{is_dead}
use Rattle.lu_spec_client.specs.Rows as client
use Rattle.lu_spec_run.specs.Heads.{Head}
use Rattle.lu_spec_run.specs.Runs.{EventAt, Meets, row_at, has_failed}
use Rattle.lu_spec_run.specs.Scenarios.{Config, Goes, head_of, past_of, left, with_turn, with_stripes}
use Rattle.lu_proof_run.specs.Steps.{LeftFits, GoesOn, IsDue, made, none_failing}
use Rattle.lu_proof_run.proofs.Turning.{due_stops}
use Rattle.lu_proof_run.proofs.Due as due
use Rattle.lu_run_wire.specs.Wires.{is_full_in, ShowsWire}
use Rattle.lu_run_wire.proofs.Shown.{left_shows}
use Rattle.lu_run_nodes.specs.declared.nodes.Command.{Command}
use Rattle.lu_run_nodes.specs.declared.nodes.Command.TheVariants as command
use Rattle.lu_run_nodes.specs.States.{is_dead_in}
use Rattle.lu_run_nodes.specs.Shown.{ShowsNodes, AreShown}
use Rattle.lu_run_nodes.specs.Turns.{turn_at, event_of, NodesMake, NodesFail}
use Rattle.lu_run_nodes.specs.Foreseen.{IsTickForeseen}
use Rattle.lu_core.specs.declared.players.Progress.TheVariants as progress
use Rattle.lu_core.specs.States.{PlayerState}
use Rattle.lu_core.specs.Commands.{CommandLine}
use Rattle.lu_core.specs.Progress.{IsAt, IsNext, Performs, IsLineUnforeseen}
use Rattle.lu_core.proofs.Moves.{shown_at, due_room, due_full, dead_at, open_at, stamp_at, moved, failed, broke}

-- ---- any line

-- a line that nothing comes of
pub passes : (p : PlayerState) (line : SceneLine)
    → ((scene : Scene) (c : Config) (rest : List SceneLine) → IsAt scene p c → c.lines ≡ line ∷ rest → GoesOn scene c (Goes (left c rest)))
    → Performs p line p progress.Made
passes p line goes scene c rest at lines = (
  left c rest,
  record {
    leads = due.left_leads scene c rest line at.leads lines (goes scene c rest at lines);
    nodes = at.nodes;
    wire =
        left_shows p.wire c rest at.wire;
  },
  refl,
)

-- a turn is due of it: it may be made
abbrev pub Turns : PlayerState → SceneLine → (node : Node) → EventAt node → Type 0
Turns p line node event = (scene : Scene) (c : Config) (rest : List SceneLine) → IsAt scene p c → c.lines ≡ line ∷ rest
    → IsDue scene c (left c rest) node event × Meets (head_of scene.head) (past_of c) node event

-- a limit forbids the turn
pub stops : (p : PlayerState) (line : SceneLine) (node : Node) (event : EventAt node) → Turns p line node event → is_full_in p.wire ≡ true
    → Performs p line p progress.Full
stops p line node event turns full scene c rest at lines =
    let is = turns scene c rest at lines in
    (c, at, due_stops scene c (left c rest) node event is.0 (due_full scene p c (left c rest) node event at is.0 full))

-- the turn is made, and its lines are added
pub turned : (p q : PlayerState) (line : SceneLine) (node : Node) (event : EventAt node) (here : At) (step : Step) → Turns p line node event
    → is_full_in p.wire ≡ false → here ≡ turn_at (record { 0 = p.wire.turns + 1 }) node
    → NodesMake node event event here.stamp p.nodes q.nodes step
    → ((d : Config) (es : List Entry) → ShowsWire p.wire d → step ≡ step_of here es
    → ShowsWire q.wire (with_turn d (record { at = here; entries = es })))
    → Performs p line q progress.Made
turned p q line node event here step turns room is makes adds scene c rest at lines =
    let head = head_of scene.head in
    let from : Config = left c rest in
    let both = turns scene c rest at lines in
    let stamp : Stamp = record { 0 = length c.turns + 1 } in
    let there : here ≡ turn_at stamp node = is ∙ ap (λ (n : ℕ). turn_at (record { 0 = n + 1 }) node) at.wire.turns in
    let makes2 : NodesMake node event event stamp p.nodes q.nodes step =
    subst (λ (a : At). NodesMake node event event a.stamp p.nodes q.nodes step) there makes in
    let adds2 = subst (λ (a : At). (d : Config) (es : List Entry) → ShowsWire p.wire d → step ≡ step_of a es
    → ShowsWire q.wire (with_turn d (record { at = a; entries = es }))) there adds in (
      made head from node event,
      moved scene c from node event event stamp p q step at both.0 (due_room scene p c from node event at both.0 room) (λ one. both.1) refl
          makes2
          (adds2 from (row_at head (past_of c) (turn_at stamp node) node event) (left_shows p.wire c rest at.wire)
          (makes2.gives head (length c.turns) (past_of c) at.nodes)),
      refl,
    )

-- a disk fails in the turn, and its lines are added, of which one tells of it
pub line_failed : (p q : PlayerState) (line : SceneLine) (t : ℕ) (event : target.Event) (here : At) (step : Step)
    → Turns p line (Target t) event
    → is_full_in p.wire ≡ false → here ≡ turn_at (record { 0 = p.wire.turns + 1 }) (Target t)
    → NodesFail t event here.stamp p.nodes q.nodes step
    → ((d : Config) (es : List Entry) → ShowsWire p.wire d → step ≡ step_of here es
    → ShowsWire q.wire (with_turn d (record { at = here; entries = es })))
    → ((at : At) (es : List Entry) (past : List Line) → step ≡ step_of at es → has_failed (with_lines at es past) ≡ true)
    → Performs p line q (progress.Failed (record { 0 = t }))
line_failed p q line t event here step turns room is fails adds told scene c rest at lines =
    let head = head_of scene.head in
    let from : Config = left c rest in
    let both = turns scene c rest at lines in
    let stamp : Stamp = record { 0 = length c.turns + 1 } in
    let there : here ≡ turn_at stamp (Target t) = is ∙ ap (λ (n : ℕ). turn_at (record { 0 = n + 1 }) (Target t)) at.wire.turns in
    let fails2 : NodesFail t event stamp p.nodes q.nodes step =
    subst (λ (a : At). NodesFail t event a.stamp p.nodes q.nodes step) there fails in
    let adds2 = subst (λ (a : At). (d : Config) (es : List Entry) → ShowsWire p.wire d → step ≡ step_of a es
    → ShowsWire q.wire (with_turn d (record { at = a; entries = es }))) there adds in
    failed scene c from t event event stamp p q step at both.0 (due_room scene p c from (Target t) event at both.0 room) refl fails2
    (λ n gives. let es : List Entry = failing (row_at head (past_of c) (turn_at stamp (Target t)) (Target t) event) n in
    (adds2 from es (left_shows p.wire c rest at.wire) gives, told (turn_at stamp (Target t)) es (past_of c) gives))

-- none does
pub line_broke : (p q : PlayerState) (line : SceneLine) (t : ℕ) (event : target.Event) (stamp : Stamp) (step : Step)
    → NodesFail t event stamp p.nodes q.nodes step → Performs p line q (progress.Broken (record { 0 = t }))
line_broke p q line t event stamp step fails scene c rest at lines = broke scene c t event stamp p q step at fails

-- ---- a line of a client

-- the numbers of its call are in range
spanned : (p n : ℕ) → (1 ≤ n) → (n ≤ 65536) → (p + n ≤ 2 ^ 40) → IsSpan p n
spanned p n some few ends = record { some = omega (arith, some); few = few; ends = ends }

call_ranges : (call : CallOf) → CallFits call → IsCall call
call_ranges (call.Read h p n) fits = spanned p n fits.1 fits.2 fits.3
call_ranges (call.Write h p bs) fits = spanned p (length bs) fits.2 fits.3 fits.4
call_ranges (call.Cut h n) fits = fits.1
call_ranges _ fits = tt

-- a line that is the next is one of a player whose nodes may make turns
pub next_shown : (p : PlayerState) (line : SceneLine) → IsNext p line → is_full_in p.wire ≡ false → AreShown p.nodes
next_shown p line next room = shown_at next.1.0 p next.1.1.0 next.1.1.1 room

-- a call is of a client that is there, and keeps the limits
pub call_one : (p : PlayerState) (who slot : ℕ) (call : CallOf) → IsNext p (Call who slot call) → who < length p.nodes.clients
call_one p who slot call next =
    let fits : LeftFits next.1.0.head (Call who slot call) = due.line_fits next.1.0 next.1.1.0 next.0 (Call who slot call) next.1.1.1.leads
    next.1.1.2 in
    subst (λ (n : ℕ). who < n) (sym next.1.1.1.nodes.clients) fits.0

pub call_small : (p : PlayerState) (who slot : ℕ) (call : CallOf) → IsNext p (Call who slot call) → slot < slot_count
call_small p who slot call next = (due.call_fits next.1.0 next.1.1.0 next.0 who slot call next.1.1.1.leads next.1.1.2).1

pub call_range : (p : PlayerState) (who slot : ℕ) (call : CallOf) → IsNext p (Call who slot call) → IsCall call
call_range p who slot call next =
    let fits : LeftFits next.1.0.head (Call who slot call) = due.line_fits next.1.0 next.1.1.0 next.0 (Call who slot call) next.1.1.1.leads
    next.1.1.2 in
    call_ranges call fits.2

pub call_passes : (p : PlayerState) (who slot : ℕ) (call : CallOf) → is_dead_in p.nodes who ≡ true
    → Performs p (Call who slot call) p progress.Made
call_passes p who slot call dead = passes p (Call who slot call)
    (λ scene c rest at lines. due.call_dead scene c rest who slot call at.leads lines
    (sym (dead_at scene p c who at (due.call_fits scene c rest who slot call at.leads lines).0) ∙ dead))

pub call_turns : (p : PlayerState) (who slot : ℕ) (call : CallOf) → is_dead_in p.nodes who ≡ false
    → Turns p (Call who slot call) (Client who) (client.Begins slot (with_stripes call))
call_turns p who slot call alive scene c rest at lines =
    let living : is_dead who (past_of c) ≡ false = sym (dead_at scene p c who at
    (due.call_fits scene c rest who slot call at.leads lines).0) ∙ alive in
    (due.call_due scene c rest who slot call at.leads lines living, due.call_meets scene c rest who slot call at.leads lines living)

pub tick_one : (p : PlayerState) (who : ℕ) → IsNext p (Tick (Client who)) → who < length p.nodes.clients
tick_one p who next =
    subst (λ (n : ℕ). who < n) (sym next.1.1.1.nodes.clients) (due.line_fits next.1.0 next.1.1.0 next.0 (Tick (Client who)) next.1.1.1.leads
    next.1.1.2)

pub tick_passes : (p : PlayerState) (who : ℕ) → is_dead_in p.nodes who ≡ true → Performs p (Tick (Client who)) p progress.Made
tick_passes p who dead = passes p (Tick (Client who))
    (λ scene c rest at lines. due.tick_dead scene c rest who at.leads lines
    (sym (dead_at scene p c who at (due.line_fits scene c rest (Tick (Client who)) at.leads lines)) ∙ dead))

pub tick_turns : (p : PlayerState) (who : ℕ) → is_dead_in p.nodes who ≡ false → Turns p (Tick (Client who)) (Client who) client.Ticks
tick_turns p who alive scene c rest at lines =
    let living : is_dead who (past_of c) ≡ false = sym (dead_at scene p c who at
    (due.line_fits scene c rest (Tick (Client who)) at.leads lines)) ∙ alive in
    (due.tick_due scene c rest who at.leads lines living, due.tick_meets scene c rest who at.leads lines living)

pub die_one : (p : PlayerState) (who : ℕ) → IsNext p (Die who) → who < length p.nodes.clients
die_one p who next =
    subst (λ (n : ℕ). who < n) (sym next.1.1.1.nodes.clients) (due.line_fits next.1.0 next.1.1.0 next.0 (Die who) next.1.1.1.leads
    next.1.1.2)

pub die_passes : (p : PlayerState) (who : ℕ) → is_dead_in p.nodes who ≡ true → Performs p (Die who) p progress.Made
die_passes p who dead = passes p (Die who)
    (λ scene c rest at lines. due.die_dead scene c rest who at.leads lines
    (sym (dead_at scene p c who at (due.line_fits scene c rest (Die who) at.leads lines)) ∙ dead))

pub die_turns : (p : PlayerState) (who : ℕ) → is_dead_in p.nodes who ≡ false → Turns p (Die who) (Client who) client.Dies
die_turns p who alive scene c rest at lines =
    let living : is_dead who (past_of c) ≡ false = sym (dead_at scene p c who at (due.line_fits scene c rest (Die who) at.leads lines))
    ∙ alive in
    (due.die_due scene c rest who at.leads lines living, due.die_meets scene c rest who at.leads lines living)

-- ---- a command to a target

-- the line is that of the command
same_lines : (c : Config) (line other : SceneLine) (rest : List SceneLine) → line ≡ other → c.lines ≡ line ∷ rest → c.lines ≡ other ∷ rest
same_lines c line other rest same lines = lines ∙ ap (λ (l : SceneLine). l ∷ rest) same

pub command_turns : (p : PlayerState) (t : ℕ) (order : Command) (line : SceneLine) → CommandLine t order line
    → Turns p line (Target t) (event_of order)
command_turns p t command.Tick line is scene c rest at lines =
    let here = same_lines c line (Tick (Target t)) rest is lines in
    (due.target_tick_due scene c rest t at.leads here, due.target_tick_meets scene c rest t at.leads here)
command_turns p t (command.Commit None) line is scene c rest at lines =
    let here = same_lines c line (Commit (record { 0 = t })) rest is lines in
    (due.commit_due scene c rest (record { 0 = t }) at.leads here, due.commit_meets scene c rest (record { 0 = t }) at.leads here)
command_turns p t (command.Commit (Some count)) line is scene c rest at lines =
    let here = same_lines c line (CommitSome (record { 0 = t }) count) rest is lines in (
      due.commit_some_due scene c rest (record { 0 = t }) count at.leads here,
      due.commit_some_meets scene c rest (record { 0 = t }) count at.leads here,
    )
command_turns p t command.Crash line is scene c rest at lines =
    let here = same_lines c line (Crash (record { 0 = t })) rest is lines in
    (due.crash_due scene c rest (record { 0 = t }) at.leads here, due.crash_meets scene c rest (record { 0 = t }) at.leads here)
command_turns p t command.Boot line is scene c rest at lines =
    let here = same_lines c line (Boot (record { 0 = t })) rest is lines in
    (due.boot_due scene c rest (record { 0 = t }) at.leads here, due.boot_meets scene c rest (record { 0 = t }) at.leads here)
command_turns p t command.Close line is scene c rest at lines =
    let here = same_lines c line (Close (record { 0 = t })) rest is lines in
    (due.close_due scene c rest (record { 0 = t }) at.leads here, due.close_meets scene c rest (record { 0 = t }) at.leads here)

-- its target is there
of_run : (scene : Scene) (c : Config) (t : ℕ) (order : Command) → Meets (head_of scene.head) (past_of c) (Target t) (event_of order)
    → t ≤ scene.head.osts
of_run scene c t command.Tick meets = meets.0
of_run scene c t (command.Commit count) meets = meets.0
of_run scene c t command.Crash meets = meets.0
of_run scene c t command.Boot meets = meets.0
of_run scene c t command.Close meets = meets.0

pub command_one : (p : PlayerState) (t : ℕ) (order : Command) (line : SceneLine) → CommandLine t order line → IsNext p line
    → t ≤ length p.nodes.objects
command_one p t order line is next =
    let scene = next.1.0 in
    let c = next.1.1.0 in
    let at = next.1.1.1 in
    subst (λ (n : ℕ). t ≤ n) (sym at.nodes.objects) (of_run scene c t order
    (command_turns p t order line is scene c next.0 at next.1.1.2).1)

-- so many transactions are few
pub count_small : (p : PlayerState) (t count : ℕ) → IsNext p (CommitSome (record { 0 = t }) count) → count < 2 ^ 32
count_small p t count next =
    let line : SceneLine = CommitSome (record { 0 = t }) count in
    let fits : LeftFits next.1.0.head line = due.line_fits next.1.0 next.1.1.0 next.0 line next.1.1.1.leads next.1.1.2 in
    let few = fits.2 in
    omega (arith, few)

-- no scenario that is foreseen has a line that gives a target a command that isn't performed
pub command_unforeseen : (p : PlayerState) (t : ℕ) (order : Command) (line : SceneLine) (stamp : Stamp) → CommandLine t order line
    → is_full_in p.wire ≡ false
    → stamp ≡ record { 0 = p.wire.turns + 1 }
    → (order ≡ command.Tick → (head : Head) (turns : ℕ) (past : List Line) → ShowsNodes head turns past p.nodes
    → ¬ IsTickForeseen head past stamp t)
    → IsLineUnforeseen p line
command_unforeseen p t command.Tick line stamp is room stamped unforeseen rest scene c at lines all =
    unforeseen refl (head_of scene.head) (length c.turns) (past_of c) at.nodes
    (subst (λ (s : Stamp). IsTickForeseen (head_of scene.head) (past_of c) s t) (sym (stamp_at scene p c stamp at stamped))
    (all.ticks none_failing c t rest (open_at scene p c at room) (same_lines c line (Tick (Target t)) rest is lines)))
command_unforeseen p t (command.Commit None) line stamp is room stamped unforeseen rest scene c at lines all =
    all.commands none_failing c (Commit (record { 0 = t })) rest (open_at scene p c at room)
    (same_lines c line (Commit (record { 0 = t })) rest is lines) tt
command_unforeseen p t (command.Commit (Some count)) line stamp is room stamped unforeseen rest scene c at lines all =
    all.commands none_failing c (CommitSome (record { 0 = t }) count) rest (open_at scene p c at room)
    (same_lines c line (CommitSome (record { 0 = t }) count) rest is lines) tt
command_unforeseen p t command.Crash line stamp is room stamped unforeseen rest scene c at lines all =
    all.commands none_failing c (Crash (record { 0 = t })) rest (open_at scene p c at room)
    (same_lines c line (Crash (record { 0 = t })) rest is lines) tt
command_unforeseen p t command.Boot line stamp is room stamped unforeseen rest scene c at lines all =
    all.commands none_failing c (Boot (record { 0 = t })) rest (open_at scene p c at room)
    (same_lines c line (Boot (record { 0 = t })) rest is lines) tt
command_unforeseen p t command.Close line stamp is room stamped unforeseen rest scene c at lines all =
    all.commands none_failing c (Close (record { 0 = t })) rest (open_at scene p c at room)
    (same_lines c line (Close (record { 0 = t })) rest is lines) tt
