-- A message comes that is due: the turn of its node, made, failed, or not foreseen.
use Rattle.std.proofs.Common.{◌≡◌, ℕ, ◌+◌, ◌<◌, true, false, List, [], ◌∷◌, length, Some, refl, sym, subst, ap, ◌∙◌, arith}
use Rattle.lu_base.specs.declared.ids.At.{At}
use Rattle.lu_base.specs.declared.ids.Node.{Node}
use Rattle.lu_base.specs.declared.ids.Node.TheVariants.{Client, Target}
use Rattle.lu_base.specs.declared.ids.Stamp.{Stamp}
use Rattle.lu_msg.specs.declared.messages.Message.{Message}
use Rattle.lu_net.specs.declared.links.Sent.{Sent as SentMessage}
use Rattle.lu_net.specs.Posts.{sent_at}
use Rattle.lu_scene.specs.declared.scene.Scene.{Scene}
use Rattle.lu_scene.specs.declared.scene.SceneLine.{SceneLine}
use Rattle.lu_trace.specs.declared.traces.Step.{Step}
use Rattle.lu_spec_entries.specs.Words.{Entry, Take, Fail, Line, line, with_turn as with_lines}
use Rattle.lu_spec_entries.specs.Given.{step_of}
use Rattle.lu_spec_target.specs.Disks.{failing}
use Rattle.lu_spec_target.specs.Rows as target
use Rattle.lu_spec_run.specs.Heads.{Head}
use Rattle.lu_spec_run.specs.Runs.{EventAt, limits_of, client_of, target_of, row_at, has_failed}
use Rattle.lu_spec_run.specs.Scenarios.{Config, head_of, past_of, with_turn}
use Rattle.lu_spec_run.specs.Scenarios as run
use Rattle.lu_proof_run.specs.InTable.{next_at}
use Rattle.lu_proof_run.proofs.Clients as clients
use Rattle.lu_proof_run.proofs.Targets as targets
use Rattle.lu_proof_run.specs.Steps.{IsDue, made, spent, none_failing}
use Rattle.lu_proof_run.proofs.Messages.{message_meets}
use Rattle.lu_run_wire.specs.Wires.{WireState, ShowsWire, is_full_in}
use Rattle.lu_run_wire.proofs.Shown.{spent_shows}
use Rattle.lu_run_nodes.specs.States.{NodesState, is_down_in}
use Rattle.lu_run_nodes.specs.Shown.{ShowsNodes}
use Rattle.lu_run_nodes.specs.Turns.{turn_at, arrives, NodesMake, NodesFail}
use Rattle.lu_run_nodes.specs.Foreseen.{IsForeseen}
use Rattle.lu_core.specs.declared.players.Progress.TheVariants as progress
use Rattle.lu_core.specs.States.{PlayerState, is_thrown_in, wire_spent}
use Rattle.lu_core.specs.Progress.{IsAt, IsPlaying, Takes, IsTakeUnforeseen}
use Rattle.lu_core.proofs.Moves.{moved, failed, broke, due_room, due_stamp, down_is, foreseen_at}
use Rattle.lu_core.proofs.Throwing.{found_in}

-- ---- the lines of the turn: the first tells which message came

abbrev after_take : Head → List Line → At → (node : Node) → Node → Message → List Entry
after_take head past at (Client c) from m = clients.comes_rest (limits_of head) at from m (client_of head c past)
after_take head past at (Target t) from m = target.row_heeds (target_of head t past) at m

take_first : (head : Head) (past : List Line) (at : At) (node : Node) (n : ℕ) (from : Node) (m : Message)
    → row_at head past at node (arrives n from m node) ≡ Take n from m ∷ after_take head past at node from m
take_first head past at (Client c) n from m = clients.comes_row (limits_of head) at from m (client_of head c past) n
take_first head past at (Target t) n from m = targets.comes_row (target_of head t past) at n from m

-- the event, as the scenario's run has it
same_event : (head : Head) (node : Node) (n : ℕ) (from : Node) (m : Message) → arrives n from m node
    ≡ run.arrives head none_failing n from m node
same_event head (Client c) n from m = refl
same_event head (Target t) n from m = refl

-- what the wire shows once a turn is added in which a message of this number came
abbrev pub AddsTaken : WireState → At → Step → ℕ → WireState → Type 0
AddsTaken w at step number v =
    (c : Config) (from : Node) (m : Message) (es : List Entry) → ShowsWire w c → step ≡ step_of at (Take 0 from m ∷ es)
    → ShowsWire v (with_turn c (record { at = at; entries = Take number from m ∷ es }))

taken_shows : (head : Head) (c : Config) (node : Node) (n : ℕ) (from : Node) (m : Message) (w v : WireState) (step : Step) → ShowsWire w c
    → AddsTaken w (next_at c node) step n v → step ≡ step_of (next_at c node)
    (row_at head (past_of c) (next_at c node) node (arrives 0 from m node))
    → ShowsWire v (made head c node (arrives n from m node))
taken_shows head c node n from m w v step shows adds gives =
    let at = next_at c node in
    let es = after_take head (past_of c) at node from m in
    subst (λ (entries : List Entry). ShowsWire v (with_turn c (record { at = at; entries = entries })))
    (sym (take_first head (past_of c) at node n from m))
    (adds c from m es shows (gives ∙ ap (step_of at) (take_first head (past_of c) at node 0 from m)))

-- a disk fails in a turn, whatever the line before told
same_failed : (at : At) (es : List Entry) (old new : List Line) → has_failed old ≡ has_failed new → has_failed (with_lines at es old)
    ≡ has_failed (with_lines at es new)
same_failed at [] old new same = same
same_failed at (e ∷ es) old new same = same_failed at es (line at e ∷ old) (line at e ∷ new) (by e same)
  where
    by : (x : Entry) → has_failed old ≡ has_failed new → has_failed (line at x ∷ old) ≡ has_failed (line at x ∷ new)
    by Fail same = refl
    by x same = same

-- ---- what the player found

same_some : (x y : SentMessage) → Some x ≡ Some y → x ≡ y
same_some x y e = cc

-- the run has the message that the player found
same_message : (scene : Scene) (p : PlayerState) (c : Config) (n : ℕ) (sent m : SentMessage) → IsAt scene p c → sent_at p.wire.links n
    ≡ Some sent
    → sent_at c.posts n ≡ Some m → sent ≡ m
same_message scene p c n sent m at found stands = same_some sent m (sym found ∙ ap (λ posts. sent_at posts n) at.wire.links ∙ stands)

is_up : (p : PlayerState) (n : ℕ) (sent : SentMessage) → is_thrown_in p n ≡ Some false → sent_at p.wire.links n ≡ Some sent
    → is_down_in p.nodes sent.to ≡ false
is_up p n sent up found =
    let m = found_in p n false up in
    ap (λ (s : SentMessage). is_down_in p.nodes s.to) (same_some sent m.0 (sym found ∙ m.1)) ∙ m.2

module _ (p : PlayerState) (n : ℕ) (sent : SentMessage) (stamp : Stamp) (up : is_thrown_in p n ≡ Some false)
    (room : is_full_in p.wire ≡ false)
    (found : sent_at p.wire.links n ≡ Some sent) (next : stamp ≡ record { 0 = p.wire.turns + 1 }) where
  -- the number of turns is one more
  pub taken_later : (v : WireState) (step : Step) (nodes : NodesState) (scene : Scene) (c : Config) → IsAt scene p c
      → ((k : ℕ) → NodesMake sent.to (arrives 0 sent.from sent.message sent.to) (arrives k sent.from sent.message sent.to) stamp p.nodes
      nodes step)
      → AddsTaken (wire_spent p.wire n) (turn_at stamp sent.to) step n v → p.wire.turns < v.turns
  taken_later v step nodes scene c at makes adds =
      let head = head_of scene.head in
      let here = turn_at stamp sent.to in
      let gives = (makes 0).gives head (length c.turns) (past_of c) at.nodes in
      let shows : ShowsWire v (with_turn (spent c n c.lines) (record
      { at = here; entries = Take n sent.from sent.message ∷ after_take head (past_of c) here sent.to sent.from sent.message })) =
      adds (spent c n c.lines) sent.from sent.message (after_take head (past_of c) here sent.to sent.from sent.message)
      (spent_shows p.wire c n c.lines at.wire)
      (gives ∙ ap (step_of here) (take_first head (past_of c) here sent.to 0 sent.from sent.message)) in
      let before = at.wire.turns in
      let now = shows.turns in
      omega arith

  module _ (scene : Scene) (c : Config) (m : SentMessage) (lines : List SceneLine) (at : IsAt scene p c)
      (stands : sent_at c.posts n ≡ Some m) where
    same : sent ≡ m
    same = same_message scene p c n sent m at found stands

    up_there : run.is_down (head_of scene.head) none_failing m.to (past_of c) ≡ false
    up_there = sym (down_is scene p c m.to at) ∙ ap (λ (s : SentMessage). is_down_in p.nodes s.to) (sym same) ∙ is_up p n sent up found

    spent_wire : ShowsWire (wire_spent p.wire n) (spent c n lines)
    spent_wire = spent_shows p.wire c n lines at.wire

    module _ (due : IsDue scene c (spent c n lines) m.to (run.arrives (head_of scene.head) none_failing n m.from m.message m.to)) where
      room_there : run.is_full (spent c n lines) ≡ false
      room_there = due_room scene p c (spent c n lines) m.to (run.arrives (head_of scene.head) none_failing n m.from m.message m.to) at due
          room

      stamp_there : stamp ≡ record { 0 = length c.turns + 1 }
      stamp_there = due_stamp scene p c (spent c n lines) m.to (run.arrives (head_of scene.head) none_failing n m.from m.message m.to) stamp
          at due next

  -- it is made
  pub takes_made : (q : PlayerState) (step : Step)
      → ((k : ℕ) → NodesMake sent.to (arrives 0 sent.from sent.message sent.to) (arrives k sent.from sent.message sent.to) stamp p.nodes
      q.nodes step)
      → AddsTaken (wire_spent p.wire n) (turn_at stamp sent.to) step n q.wire → Takes p n q progress.Made
  takes_made q step makes adds scene c m lines at stands due =
      let head = head_of scene.head in
      let from = spent c n lines in
      let event = run.arrives head none_failing n m.from m.message m.to in
      let is : sent ≡ m = same scene c m lines at stands in
      let stamped : stamp ≡ record { 0 = length c.turns + 1 } = stamp_there scene c m lines at stands due in
      let here : turn_at stamp m.to ≡ next_at from m.to = ap (λ (s : Stamp). turn_at s m.to) stamped in
      let own : NodesMake m.to (arrives 0 m.from m.message m.to) (arrives n m.from m.message m.to) stamp p.nodes q.nodes step =
      subst (λ (s : SentMessage). NodesMake s.to (arrives 0 s.from s.message s.to) (arrives n s.from s.message s.to) stamp p.nodes q.nodes
      step) is (makes n) in
      let added : AddsTaken (wire_spent p.wire n) (next_at from m.to) step n q.wire =
      subst (λ (a : At). AddsTaken (wire_spent p.wire n) a step n q.wire) here
      (subst (λ (s : SentMessage). AddsTaken (wire_spent p.wire n) (turn_at stamp s.to) step n q.wire) is adds) in
      let gives : step ≡ step_of (next_at from m.to) (row_at head (past_of from) (next_at from m.to) m.to
      (arrives 0 m.from m.message m.to)) =
      subst (λ (a : At). step ≡ step_of a (row_at head (past_of c) a m.to (arrives 0 m.from m.message m.to))) here
      (own.gives head (length c.turns) (past_of c) at.nodes) in
      let wire : ShowsWire q.wire (made head from m.to (arrives n m.from m.message m.to)) =
      taken_shows head from m.to n m.from m.message (wire_spent p.wire n) q.wire step (spent_wire scene c m lines at stands) added gives in
      let to = same_event head m.to n m.from m.message in
      moved scene c from m.to (arrives 0 m.from m.message m.to) event stamp p q step at due (room_there scene c m lines at stands due)
      (λ one. message_meets scene c n m at.leads stands one (up_there scene c m lines at stands)) stamped
      (subst (λ (e : EventAt m.to). NodesMake m.to (arrives 0 m.from m.message m.to) e stamp p.nodes q.nodes step) to own)
      (subst (λ (e : EventAt m.to). ShowsWire q.wire (made head from m.to e)) to wire)

  -- a disk fails, and the turn tells of it
  pub takes_failed : (q : PlayerState) (step : Step) (t : ℕ) → sent.to ≡ Target t
      → NodesFail t (target.Comes 0 sent.from sent.message) stamp p.nodes q.nodes step
      → AddsTaken (wire_spent p.wire n) (turn_at stamp sent.to) step n q.wire
      → ((a : At) (es : List Entry) (past : List Line) → step ≡ step_of a es → has_failed (with_lines a es past) ≡ true)
      → Takes p n q (progress.Failed (record { 0 = t }))
  takes_failed q step t to fails adds told scene c m lines at stands due =
      let head = head_of scene.head in
      let from = spent c n lines in
      let is : sent ≡ m = same scene c m lines at stands in
      let there : m.to ≡ Target t = ap (λ (s : SentMessage). s.to) (sym is) ∙ to in
      let stamped : stamp ≡ record { 0 = length c.turns + 1 } = stamp_there scene c m lines at stands due in
      let here : turn_at stamp (Target t) ≡ next_at from (Target t) = ap (λ (s : Stamp). turn_at s (Target t)) stamped in
      let own : NodesFail t (target.Comes 0 m.from m.message) stamp p.nodes q.nodes step =
      subst (λ (s : SentMessage). NodesFail t (target.Comes 0 s.from s.message) stamp p.nodes q.nodes step) is fails in
      let added : AddsTaken (wire_spent p.wire n) (next_at from (Target t)) step n q.wire =
      subst (λ (a : At). AddsTaken (wire_spent p.wire n) a step n q.wire) here
      (subst (λ (node : Node). AddsTaken (wire_spent p.wire n) (turn_at stamp node) step n q.wire) to adds) in
      let turn : IsDue scene c from (Target t) (target.Comes n m.from m.message) =
      subst (λ (node : Node). IsDue scene c from node (run.arrives head none_failing n m.from m.message node)) there due in
      failed scene c from t (target.Comes 0 m.from m.message) (target.Comes n m.from m.message) stamp p q step at turn
      (room_there scene c m lines at stands due) stamped own
      (λ calls gives.
      let es = failing (target.row_heeds (target_of head t (past_of c)) (next_at from (Target t)) m.message) calls in (
        added from m.from m.message es (spent_wire scene c m lines at stands) gives,
        same_failed (next_at from (Target t)) es (line (next_at from (Target t)) (Take n m.from m.message) ∷ past_of c)
            (line (next_at from (Target t)) (Take 0 m.from m.message) ∷ past_of c) refl
            ∙ told (next_at from (Target t)) (Take 0 m.from m.message ∷ es) (past_of c) gives,
      ))

  -- a disk fails, and no line of the turn tells of it
  pub takes_broken : (nodes : NodesState) (step : Step) (t : ℕ)
      → NodesFail t (target.Comes 0 sent.from sent.message) stamp p.nodes nodes step
      → Takes p n (record { nodes = nodes; wire = p.wire }) (progress.Broken (record { 0 = t }))
  takes_broken nodes step t fails scene c m lines at stands due =
      broke scene c t (target.Comes 0 sent.from sent.message) stamp p (record { nodes = nodes; wire = p.wire }) step at fails

  -- it may not come, so the scenario isn't foreseen
  pub takes_unforeseen : ((head : Head) (turns : ℕ) (past : List Line) → ShowsNodes head turns past p.nodes
      → ¬ IsForeseen head past stamp sent)
      → IsTakeUnforeseen p
  takes_unforeseen refused scene c at all =
      let stands : sent_at c.posts n ≡ Some sent = ap (λ posts. sent_at posts n) (sym at.wire.links) ∙ found in
      refused (head_of scene.head) (length c.turns) (past_of c) at.nodes
      (foreseen_at scene p c n sent stamp all at room stands (is_up p n sent up found) next)

-- ---- as the parts of the player have it, whose value is p

module _ (parts p : PlayerState) (seen : parts ≡ p) (n : ℕ) (sent : SentMessage) (stamp : Stamp) (thrown : is_thrown_in p n ≡ Some false)
    (full : is_full_in p.wire ≡ false) (was : Some sent ≡ sent_at parts.wire.links n)
    (stamped : stamp ≡ record { 0 = parts.wire.turns + 1 }) where
  up_in : is_thrown_in parts n ≡ Some false
  up_in = subst (λ (v : PlayerState). is_thrown_in v n ≡ Some false) (sym seen) thrown

  room_in : is_full_in parts.wire ≡ false
  room_in = subst (λ (v : PlayerState). is_full_in v.wire ≡ false) (sym seen) full

  module _ (nodes : NodesState) (step : Step) (w v : WireState) (spends : w ≡ wire_spent parts.wire n)
      (adds : AddsTaken w (turn_at stamp sent.to) step n v) where
    added : AddsTaken (wire_spent parts.wire n) (turn_at stamp sent.to) step n v
    added = subst (λ (x : WireState). AddsTaken x (turn_at stamp sent.to) step n v) spends adds

    pub take_made : ((k : ℕ) → NodesMake sent.to (arrives 0 sent.from sent.message sent.to) (arrives k sent.from sent.message sent.to) stamp
        parts.nodes nodes step)
        → Takes p n (record { nodes = nodes; wire = v }) progress.Made
    take_made makes =
        subst (λ (x : PlayerState). Takes x n (record { nodes = nodes; wire = v }) progress.Made) seen
        (takes_made parts n sent stamp up_in room_in (sym was) stamped (record { nodes = nodes; wire = v }) step makes added)

    pub take_later : ((k : ℕ) → NodesMake sent.to (arrives 0 sent.from sent.message sent.to) (arrives k sent.from sent.message sent.to)
        stamp parts.nodes nodes step)
        → IsPlaying p → p.wire.turns < v.turns
    take_later makes playing =
        subst (λ (x : PlayerState). x.wire.turns < v.turns) seen
        (taken_later parts n sent stamp up_in room_in (sym was) stamped v step nodes playing.0 playing.1.0
        (subst (λ (x : PlayerState). IsAt playing.0 x playing.1.0) (sym seen) playing.1.1) makes added)

    pub take_failed : (t : ℕ) → sent.to ≡ Target t → NodesFail t (target.Comes 0 sent.from sent.message) stamp parts.nodes nodes step
        → ((a : At) (es : List Entry) (past : List Line) → step ≡ step_of a es → has_failed (with_lines a es past) ≡ true)
        → Takes p n (record { nodes = nodes; wire = v }) (progress.Failed (record { 0 = t }))
    take_failed t to fails told =
        subst (λ (x : PlayerState). Takes x n (record { nodes = nodes; wire = v }) (progress.Failed (record { 0 = t }))) seen
        (takes_failed parts n sent stamp up_in room_in (sym was) stamped (record { nodes = nodes; wire = v }) step t to fails added told)

  pub take_broken : (nodes : NodesState) (step : Step) (t : ℕ) → NodesFail t (target.Comes 0 sent.from sent.message) stamp parts.nodes nodes
      step
      → Takes p n (record { nodes = nodes; wire = parts.wire }) (progress.Broken (record { 0 = t }))
  take_broken nodes step t fails =
      subst (λ (x : PlayerState). Takes x n (record { nodes = nodes; wire = parts.wire }) (progress.Broken (record { 0 = t }))) seen
      (takes_broken parts n sent stamp up_in room_in (sym was) stamped nodes step t fails)

  pub take_unforeseen : ((head : Head) (turns : ℕ) (past : List Line) → ShowsNodes head turns past parts.nodes
      → ¬ IsForeseen head past stamp sent)
      → IsTakeUnforeseen p
  take_unforeseen refused =
      subst IsTakeUnforeseen seen (takes_unforeseen parts n sent stamp up_in room_in (sym was) stamped refused)
