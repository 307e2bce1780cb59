-- The turns of a scenario's configuration are a run of the table: so at the start, with other lines, once a message is spent, and
-- after one more turn that its node may make. And what a scenario's step knows lets each kind of event come.
use Rattle.std.proofs.Common.{◌≡◌, ◌≤◌, ◌<◌, ℕ, ◌+◌, not, Bool, true, false, List, [], ◌∷◌, length, Option, Some, None, inl, refl, ◌∙◌}
use Rattle.std.proofs.Common.{arith}
use Rattle.std.specs.Prelude.{All, slice_index, ℤ, pos, negsuc}
use Rattle.std.proofs.lemmas.Bool.Decides.{nat_tests}
use Rattle.std.proofs.lemmas.List.Elements.{All-from_get_or}
use Rattle.lu_base.specs.declared.ids.At.{At}
use Rattle.lu_base.specs.declared.ids.Node.{Node}
use Rattle.lu_base.specs.declared.ids.Node.TheVariants.{Client, Target}
use Rattle.lu_msg.specs.Limits.{slot_count}
use Rattle.lu_msg.specs.declared.calls.Call.{Call}
use Rattle.lu_msg.specs.declared.calls.Call.TheVariants.{Create, Write}
use Rattle.lu_msg.specs.declared.messages.Message.{Message}
use Rattle.lu_net.specs.declared.links.Sent.{Sent as SentMessage}
use Rattle.lu_net.specs.Posts.{sent_at, spend}
use Rattle.lu_scene.specs.Grammar.{CountFits, CallFits}
use Rattle.lu_scene.specs.declared.scene.SceneLine.{SceneLine}
use Rattle.lu_trace.specs.WellFormed.{Fits, IsCount, IsCall}
use Rattle.lu_spec_entries.specs.Words.{Entry, Fail, Line, line}
use Rattle.lu_spec_entries.specs.Sent.{Sent}
use Rattle.lu_spec_target.specs.Rows as target
use Rattle.lu_spec_client.specs.Calls.{is_dead}
use Rattle.lu_spec_client.specs.Rows as client
use Rattle.lu_spec_run.specs.Heads.{Head}
use Rattle.lu_spec_run.specs.Runs.{target_of, EventAt, row_at, row, has_failed, start_failed, Meets, HasNumbers, Turn, Follows}
use Rattle.lu_spec_run.specs.Scenarios.{Config, past_of, with_turn, Disks, with_stripes, is_down, arrives}
use Rattle.lu_proof_run.specs.InTable.{IsOfRun, next_at, IsStamped, InTable}
use Rattle.lu_proof_run.proofs.Posts.{sent_at_is, spend_messages, turn_messages}

-- ---- where no disk has failed

earlier : (l : Line) (past : List Line) → has_failed (l ∷ past) ≡ false → has_failed past ≡ false
earlier l past none = by l.entry none
  where
    by : (e : Entry) → has_failed (line l.at e ∷ past) ≡ false → has_failed past ≡ false
    by Fail none = absurd (cc)
    by e none = none

-- no start has
start_unfailed : (past : List Line) → has_failed past ≡ false → start_failed past ≡ false
start_unfailed [] none = refl
start_unfailed (l ∷ []) none = by l.entry none
  where
    by : (e : Entry) → has_failed (line l.at e ∷ []) ≡ false → start_failed (line l.at e ∷ []) ≡ false
    by Fail none = absurd (cc)
    by e none = refl
start_unfailed (l ∷ m ∷ past) none = start_unfailed (m ∷ past) (earlier l (m ∷ past) none)

-- that of no target has
pub target_unfailed : (head : Head) (t : ℕ) (past : List Line) → has_failed past ≡ false → (target_of head t past).failed ≡ false
target_unfailed head t [] none = refl
target_unfailed head t (l ∷ past) none = by l.entry none (target_unfailed head t past (earlier l past none))
  where
    by : (e : Entry) → has_failed (line l.at e ∷ past) ≡ false → (target_of head t past).failed ≡ false
        → (target_of head t (line l.at e ∷ past)).failed ≡ false
    by Fail none before = absurd (cc)
    by e none before = before

-- ---- configurations

pub first_in : (head : Head) (lines : List SceneLine) → InTable head (record { turns = []; posts = []; lines = lines })
first_in head lines = record { run = tt; stamped = tt; posts = refl }

pub left_in : (head : Head) (c : Config) (lines : List SceneLine) → InTable head c → InTable head (record c { lines = lines })
left_in head c lines is = record { run = is.run; stamped = is.stamped; posts = is.posts }

pub spent_in : (head : Head) (c : Config) (n : ℕ) (lines : List SceneLine) → InTable head c
    → InTable head (record { turns = c.turns; posts = spend c.posts n; lines = lines })
spent_in head c n lines is = record { run = is.run; stamped = is.stamped; posts = spend_messages c.posts n ∙ is.posts }

follows_next : (turns : List Turn) (at : At) → IsStamped turns → at.stamp.0 ≡ length turns + 1 → Follows turns at
follows_next [] at stamped next = tt
follows_next (turn ∷ turns) at stamped next = let last = stamped.0 in grind (arith, nat_tests)

-- a turn that its node may make, whichever of its calls to the disk fails
pub turn_in : (head : Head) (c : Config) (node : Node) (event : EventAt node) (fails : Option ℕ) → InTable head c → has_failed (past_of c)
    ≡ false
    → Meets head (past_of c) node event → HasNumbers head (past_of c) (next_at c node) node event
    → InTable head (with_turn c (record { at = next_at c node; entries = row head (past_of c) (next_at c node) event fails }))
turn_in head c node event fails is unfailed meets numbers =
    let at = next_at c node in
    record {
      run = (
        follows_next c.turns at is.stamped refl,
        inl (record {
          event = event;
          fails = fails;
          goes_on = start_unfailed (past_of c) unfailed;
          meets = meets;
          numbers = numbers;
          is =
              refl;
        }),
        is.run,
      );
      stamped = (refl, is.stamped);
      posts = turn_messages (past_of c) c.posts at (row head (past_of c) at event fails) is.posts;
    }

-- where none of them fails
pub turned_in : (head : Head) (c : Config) (node : Node) (event : EventAt node) → InTable head c → has_failed (past_of c) ≡ false
    → Meets head (past_of c) node event → HasNumbers head (past_of c) (next_at c node) node event
    → InTable head (with_turn c (record { at = next_at c node; entries = row_at head (past_of c) (next_at c node) node event }))
turned_in head c node event is unfailed meets numbers = turn_in head c node event None is unfailed meets numbers

-- ---- a client's events

all_fit : (bytes : List ℕ) → ((i : ℕ) → slice_index bytes i < 256) → All (Fits 8) bytes
all_fit bytes are = All-from_get_or (Fits 8) bytes 0 (λ i within. are i)

count_is : (count : ℤ) → CountFits count → IsCount count
count_is (pos n) fits = fits
count_is (negsuc n) fits = fits

-- a call of a scenario, with the stripes that it is given
call_is : (call : Call) → CallFits call → IsCall (with_stripes call)
call_is (Create path None) fits = (fits.0, (omega arith, omega arith))
call_is (Create path (Some stripes)) fits = (fits.0, (fits.1.0, count_is stripes.1 fits.1.1))
call_is (Write handle offset bytes) fits = (fits.0, (fits.2, fits.3, fits.4, all_fit bytes fits.1))
call_is call fits = fits

pub begins_meets : (head : Head) (past : List Line) (c slot : ℕ) (call : Call) → c < head.clients → is_dead c past ≡ false
    → slot < slot_count → CallFits call → Meets head past (Client c) (client.Begins slot (with_stripes call))
begins_meets head past c slot call one alive small fits = (record { one = one; alive = alive }, small, call_is call fits)

pub ticks_meets : (head : Head) (past : List Line) (c : ℕ) → c < head.clients → is_dead c past ≡ false
    → Meets head past (Client c) client.Ticks
ticks_meets head past c one alive = record { one = one; alive = alive }

pub dies_meets : (head : Head) (past : List Line) (c : ℕ) → c < head.clients → is_dead c past ≡ false
    → Meets head past (Client c) client.Dies
dies_meets head past c one alive = record { one = one; alive = alive }

-- ---- a target's ticks and commands

abbrev pub IsCommand : target.Event → Type 0
IsCommand (target.Comes n from m) = ⊥
IsCommand _ = Unit {0}

pub command_meets : (head : Head) (past : List Line) (t : ℕ) (event : target.Event) → IsCommand event → t ≤ head.osts → has_failed past
    ≡ false
    → Meets head past (Target t) event
command_meets head past t (target.Comes n from m) is one unfailed = absurd is
command_meets head past t event is one unfailed = (one, target_unfailed head t past unfailed)

-- ---- a message comes

pub client_meets : (head : Head) (past : List Line) (c n : ℕ) (from : Node) (m : Message) → c < head.clients → is_dead c past ≡ false
    → Sent past n from (Client c) m → Meets head past (Client c) (client.Comes n from m)
client_meets head past c n from m one alive sent = (record { one = one; alive = alive }, sent)

pub target_meets : (head : Head) (past : List Line) (t n : ℕ) (from : Node) (m : Message) → t ≤ head.osts → has_failed past ≡ false
    → (target_of head t past).up ≡ true → Sent past n from (Target t) m → Meets head past (Target t) (target.Comes n from m)
target_meets head past t n from m one unfailed up sent = (one, target_unfailed head t past unfailed, up, sent)

-- what stands among a configuration's messages was sent
pub sent_in : (head : Head) (c : Config) (n : ℕ) (m : SentMessage) → InTable head c → sent_at c.posts n ≡ Some m
    → Sent (past_of c) n m.from m.to m.message
sent_in head c n m is stands = sent_at_is (past_of c) c.posts n m is.posts stands

isnt_down : (up : Bool) → not up ≡ false → up ≡ true
isnt_down true is = refl
isnt_down false is = absurd (cc)

-- and may come to its node, where that takes anything
pub comes_meets : (head : Head) (disks : Disks) (c : Config) (n : ℕ) (m : SentMessage) → InTable head c → sent_at c.posts n ≡ Some m
    → IsOfRun head m.to → has_failed (past_of c) ≡ false → is_down head disks m.to (past_of c) ≡ false
    → Meets head (past_of c) m.to (arrives head disks n m.from m.message m.to)
comes_meets head disks c n m is stands one unfailed up = by m.to one up (sent_in head c n m is stands)
  where
    by : (node : Node) → IsOfRun head node → is_down head disks node (past_of c) ≡ false → Sent (past_of c) n m.from node m.message
        → Meets head (past_of c) node (arrives head disks n m.from m.message node)
    by (Client d) one up sent = client_meets head (past_of c) d n m.from m.message one up sent
    by (Target t) one up sent = target_meets head (past_of c) t n m.from m.message one unfailed
        (isnt_down (target_of head t (past_of c)).up up) sent
