-- The run of a scenario: its lines are performed in order, all of them. A turn's stamp is the number of turns so far, from
-- 1. What is left to do after each step is decided by the turns so far, the messages and the lines that are left.
use Rattle.std.specs.Prelude.{◌≡◌, ℕ, zero, suc, ◌+◌, Bool, true, false, not, ◌||◌, nat_le, if◌then◌else◌, List, [], ◌∷◌, ◌++◌, length, map}
use Rattle.std.specs.Prelude.{Option, Some, None, nat_eq, option_map}
use Rattle.std.specs.List.{list_any}
use Rattle.lu_base.specs.declared.ids.At.{At}
use Rattle.lu_base.specs.declared.ids.Node.{Node}
use Rattle.lu_base.specs.declared.ids.Node.TheVariants.{Client, Target}
use Rattle.lu_msg.specs.declared.messages.Message.{Message}
use Rattle.lu_msg.specs.declared.messages.Post.{Post}
use Rattle.lu_net.specs.declared.links.Posted.{Posted}
use Rattle.lu_net.specs.declared.links.Sent.{Sent as SentMessage}
use Rattle.lu_net.specs.Posts.{sent_at, least_unspent, spend}
use Rattle.lu_scene.specs.declared.scene.Head.{Head as SceneHead}
use Rattle.lu_scene.specs.declared.scene.Scene.{Scene}
use Rattle.lu_scene.specs.declared.scene.SceneLine.{SceneLine}
use Rattle.lu_scene.specs.declared.scene.SceneLine.TheVariants.{Call, Run, RunSome, Deliver, Lose, Tick, Commit, CommitSome, Crash, Boot}
use Rattle.lu_scene.specs.declared.scene.SceneLine.TheVariants.{Close, Die}
use Rattle.lu_spec_entries.specs.Words.{Entry, Line, is_target}
use Rattle.lu_spec_entries.specs.Given.{step_posts}
use Rattle.lu_spec_run.specs.Heads.{Head}
use Rattle.lu_spec_target.specs.Disks.{calls, row_start}
use Rattle.lu_spec_target.specs.Rows as target
use Rattle.lu_spec_client.specs.Calls.{is_dead}
use Rattle.lu_spec_client.specs.Rows as client
pub use Rattle.lu_spec_client.specs.Starts.{with_stripes}
use Rattle.lu_spec_run.specs.Runs.{EventAt, Turn, lines_of, has_failed, target_of, row_at, row}

-- the turns so far, the newest first; all messages so far, each spent (taken or lost) or not; and the lines left
pub record Config : Type 0 where
  pub turns : List Turn
  pub posts : List Posted
  pub lines : List SceneLine

-- nothing is left, a turn is due that a limit forbids, a disk has failed, or the run goes on
pub data Next : Type 0 where
  Ends : Next
  Stops : Next
  Fails : Next
  Goes : (config : Config) → Next

-- what the nodes of a run know of a scenario's head
abbrev pub head_of : SceneHead → Head
head_of head =
    record {
      clients = head.clients;
      osts = head.osts;
      expire = head.expire;
      dirty = head.dirty;
      unused = head.unused;
      flight =
          head.flight;
    }

abbrev pub past_of : Config → List Line
past_of c = lines_of c.turns

-- no turn begins once a run has so many turns or messages
abbrev pub is_full : Config → Bool
is_full c = nat_le 65536 (length c.turns) || nat_le 131072 (length c.posts)

abbrev pub posted : At → Post → Posted
posted at post = record {
  sent = record { number = 0; stamp = at.stamp; from = at.node; to = post.to; message = post.message };
  spent =
      false;
}

-- one more turn, and its messages
abbrev pub with_turn : Config → Turn → Config
with_turn c turn = record { turns = turn ∷ c.turns; posts = c.posts ++ map (posted turn.at) (step_posts turn.entries); lines = c.lines }

abbrev pub left : Config → List SceneLine → Config
left c lines = record c { lines = lines }

-- ---- disks: the calls of each target's disk that fail, counted from 0 over the whole run

abbrev pub Disks : Type 0
Disks = ℕ → List ℕ

-- how often a target's disk was asked: twice at its start, to load what stands there and to commit the first boot
abbrev pub calls_at : ℕ → List Line → ℕ
calls_at t [] = 2
calls_at t (l ∷ past) = if is_target t l.at.node then calls_at t past + calls (l.entry ∷ []) else calls_at t past

-- of so many next calls, the first that fails
abbrev pub first_failing : List ℕ → (from more : ℕ) → Option ℕ
first_failing failing from zero = None
first_failing failing from (suc more) = if list_any (nat_eq from) failing then Some 0
    else option_map suc (first_failing failing (from + 1) more)

abbrev pub fails_at : Disks → List Line → Node → List Entry → Option ℕ
fails_at disks past (Client c) es = None
fails_at disks past (Target t) es = first_failing (disks t) (calls_at t past) (calls es)

-- the first target whose start fails, among so many
abbrev pub start_fails : Disks → (from more : ℕ) → Option ℕ
start_fails disks from zero = None
start_fails disks from (suc more) = elim (first_failing (disks from) 0 2) [ Some n ↦ Some from | None ↦ start_fails disks (from + 1) more ]

abbrev pub start_turn : Option ℕ → List Turn
start_turn None = []
start_turn (Some t) = record { at = record { stamp = record { 0 = 1 }; node = Target t }; entries = row_start true } ∷ []

-- ---- the lines

module _ (head : Head) (disks : Disks) where
  -- a dead client and a target that is down take nothing
  abbrev pub is_down : Node → List Line → Bool
  is_down (Client c) past = is_dead c past
  is_down (Target t) past = not (target_of head t past).up

  abbrev pub turn_of : Config → (node : Node) → EventAt node → Turn
  turn_of c node event =
      let at : At = record { stamp = record { 0 = length c.turns + 1 }; node = node } in
      record { at = at; entries = row head (past_of c) at event (fails_at disks (past_of c) node (row_at head (past_of c) at node event)) }

  abbrev pub due : Config → (node : Node) → EventAt node → Next
  due c node event = if is_full c then Stops else Goes (with_turn c (turn_of c node event))

  -- a message comes to a node
  abbrev pub arrives : ℕ → Node → Message → (node : Node) → EventAt node
  arrives n from m (Client c) = client.Comes n from m
  arrives n from m (Target t) = target.Comes n from m

  -- a line of a client: nothing where it is dead
  abbrev pub due_alive : Config → ℕ → client.Event → List SceneLine → Next
  due_alive c who event rest = if is_dead who (past_of c) then Goes (left c rest) else due (left c rest) (Client who) event

  -- a message comes or is thrown away, and is spent; `thrown` and `taken` are the lines that are left then
  abbrev pub comes : Config → ℕ → Option SentMessage → List SceneLine → List SceneLine → Next
  comes c n None thrown taken = Goes (left c thrown)
  comes c n (Some sent) thrown taken =
      if is_down sent.to (past_of c)
      then Goes (record { turns = c.turns; posts = spend c.posts n; lines = thrown })
      else due (record { turns = c.turns; posts = spend c.posts n; lines = taken }) sent.to (arrives n sent.from sent.message sent.to)

  -- the least message that is neither taken nor lost; `done` are the lines that are left where there is none
  abbrev pub runs : Config → Option ℕ → List SceneLine → List SceneLine → List SceneLine → Next
  runs c None done thrown taken = Goes (left c done)
  runs c (Some n) done thrown taken = comes c n (sent_at c.posts n) thrown taken

  -- what a line comes to, by the lines after it
  abbrev pub next_by : Config → List SceneLine → Next
  next_by c [] = Ends
  next_by c (Call who slot call ∷ rest) = due_alive c who (client.Begins slot (with_stripes call)) rest
  next_by c (Run ∷ rest) = runs c (least_unspent c.posts) rest (Run ∷ rest) (Run ∷ rest)
  next_by c (RunSome zero ∷ rest) = Goes (left c rest)
  next_by c (RunSome (suc k) ∷ rest) = runs c (least_unspent c.posts) rest (RunSome (suc k) ∷ rest) (RunSome k ∷ rest)
  next_by c (Deliver n ∷ rest) = comes c n (sent_at c.posts n) rest rest
  next_by c (Lose n ∷ rest) = Goes (record { turns = c.turns; posts = spend c.posts n; lines = rest })
  next_by c (Tick (Client who) ∷ rest) = due_alive c who client.Ticks rest
  next_by c (Tick (Target t) ∷ rest) = due (left c rest) (Target t) target.Ticks
  next_by c (Commit t ∷ rest) = due (left c rest) (Target t.0) (target.Commits None)
  next_by c (CommitSome t count ∷ rest) = due (left c rest) (Target t.0) (target.Commits (Some count))
  next_by c (Crash t ∷ rest) = due (left c rest) (Target t.0) target.Crashes
  next_by c (Boot t ∷ rest) = due (left c rest) (Target t.0) target.Boots
  next_by c (Close t ∷ rest) = due (left c rest) (Target t.0) target.Closes
  next_by c (Die who ∷ rest) = due_alive c who client.Dies rest

  abbrev pub next : Config → Next
  next c = if has_failed (past_of c) then Fails else next_by c c.lines

  -- one configuration leads to another
  pub data Leads : Config → Config → Type 0 where
    here : (c : Config) → Leads c c
    more : (a b c : Config) → Leads a b → next b ≡ Goes c → Leads a c

  -- nothing is left, a limit forbids to go on, or a disk has failed
  abbrev pub IsFinal : Config → Type 0
  IsFinal c = (d : Config) → next c ≡ Goes d → ⊥

  -- before the first line; where a target's start fails, with its turn
  abbrev pub start : Scene → Config
  start scene = record { turns = start_turn (start_fails disks 0 (head.osts + 1)); posts = []; lines = scene.lines }

  -- at most so many steps: to compute a scenario
  abbrev pub steps : ℕ → Config → Config
  steps zero c = c
  steps (suc n) c = elim (next c) [ Goes d ↦ steps n d | _ ↦ c ]
