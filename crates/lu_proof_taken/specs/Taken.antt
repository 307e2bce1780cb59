-- What is sent to a client in a covered run may come to it, and what is sent again to a target that recovers may be kept.
use Rattle.std.specs.Prelude.{◌≡◌, ◌==◌, ◌⊎◌, ◌+◌, ◌<◌, ◌≤◌, ◌^◌, ℕ, true, false, List, [], ◌∷◌, length}
use Rattle.lu_base.specs.declared.ids.Node.{Node}
use Rattle.lu_base.specs.declared.ids.Node.TheVariants.{Client, Target}
use Rattle.lu_base.specs.declared.ids.Who.{Who}
use Rattle.lu_base.specs.declared.locks.Lock.{Lock}
use Rattle.lu_msg.specs.declared.messages.LockReplay.{LockReplay}
use Rattle.lu_msg.specs.declared.messages.Message.{Message}
use Rattle.lu_msg.specs.declared.messages.Message.TheVariants as message
use Rattle.lu_msg.specs.declared.messages.RequestReplay.{RequestReplay}
use Rattle.lu_spec_machine.specs.Footprint.{Every}
use Rattle.lu_spec_entries.specs.Concerns.{only}
use Rattle.lu_spec_entries.specs.Words.{Send, Line}
use Rattle.lu_spec_target.specs.Lives.{is_life}
use Rattle.lu_spec_target.specs.Phase.{first_of}
use Rattle.lu_spec_target.specs.Windows.{Replayed}
use Rattle.lu_spec_run.specs.Heads.{Head, IsHead}
use Rattle.lu_spec_run.specs.Runs.{Turn, lines_of, IsRun, client_of}
use Rattle.lu_client.specs.Comings.{may_from}
use Rattle.lu_proof_lawful.specs.Covered.Runs.{AllCovered}
use Rattle.lu_proof_lawful.specs.Covered.TargetStates.{server_of, closed_of, lives_of, replays_of, brought_of}

-- that node sent that message to that node: reads Send
abbrev pub WasSent : List Line → (from to : Node) → Message → Type 0
WasSent [] from to m = ⊥
WasSent (l ∷ past) from to m = elim l.entry [
  | Send node message ↦ ((l.at.node ≡ from) × (node ≡ to) × (message ≡ m)) ⊎ WasSent past from to m
  | _ ↦ WasSent past from to m
]

-- between two turns of a run that isn't longer than a life has numbers, whatever a target of the run sent to a client
abbrev pub AllMayCome : Type 0
AllMayCome =
    (head : Head) (turns : List Turn) → IsHead head → IsRun head turns → AllCovered (lines_of turns)
    → length turns + 2 < 2 ^ 32 → (c t : ℕ) → t ≤ head.osts → (m : Message) → WasSent (lines_of turns) (Target t) (Client c) m
    → may_from t m (client_of head c (lines_of turns)) ≡ true

-- ---- what is sent again to a target that recovers

-- a request: it was done in an earlier boot, and whoever else handed in that number is the same life
pub record KeptAgain (osts : ℕ) (story : List Line) (r : RequestReplay) : Type 0 where
  pub earlier : r.txn.0 ≤ first_of (server_of osts story).boot
  pub late : 1 < r.txn.0
  pub only : Every (λ (s : Replayed). s.number ≡ r.txn.0 → s.who ≡ r.who) (replays_of story)

-- a lock: it was granted in an earlier boot, and whoever else handed in that cookie is the same life
pub record RestoredAgain (osts : ℕ) (story : List Line) (l : LockReplay) : Type 0 where
  pub earlier : l.cookie.0 ≤ first_of (server_of osts story).boot
  pub only : Every (λ (k : Lock). k.cookie.0 ≡ l.cookie.0 → k.ask.who ≡ l.who) (brought_of story)

-- a life with a slot sent that message to that target, which recovers, in its present boot
pub record HandsIn (head : Head) (past : List Line) (t : ℕ) (who : Who) (boot : ℕ) (m : Message) : Type 0 where
  pub recovers : (closed_of (only t past) == (server_of head.osts (only t past)).boot) ≡ false
  pub from : ℕ
  pub sent : WasSent past (Client from) (Target t) m
  pub present : (server_of head.osts (only t past)).boot ≤ boot
  pub slot : is_life who (lives_of head.clients (only t past)) ≡ true

abbrev pub AllMayBeKept : Type 0
AllMayBeKept =
    (head : Head) (turns : List Turn) → IsHead head → IsRun head turns → AllCovered (lines_of turns) → (t : ℕ) (r : RequestReplay)
    → HandsIn head (lines_of turns) t r.who r.boot (message.Replay r) → KeptAgain head.osts (only t (lines_of turns)) r

abbrev pub AllMayBeRestored : Type 0
AllMayBeRestored =
    (head : Head) (turns : List Turn) → IsHead head → IsRun head turns → AllCovered (lines_of turns) → (t : ℕ) (l : LockReplay)
    → HandsIn head (lines_of turns) t l.who l.boot (message.Lock l) → RestoredAgain head.osts (only t (lines_of turns)) l
