-- The turns that are sure to be made, unless memory or a disk fails: what comes may come, and numbers are left.
use Rattle.std.specs.Prelude.{◌≡◌, ◌≢◌, ◌≤◌, ◌<◌, ℕ, true, List, All}
use Rattle.lu_base.specs.declared.ids.Node.{Node}
use Rattle.lu_base.specs.declared.ids.Node.TheVariants.{Client, Target}
use Rattle.lu_base.specs.declared.ids.Stamp.{Stamp}
use Rattle.lu_msg.specs.Limits.{tag_count}
use Rattle.lu_msg.specs.declared.messages.Message.{Message}
use Rattle.lu_msg.specs.declared.messages.Message.TheVariants.{Request}
use Rattle.lu_net.specs.declared.links.Sent.{Sent}
use Rattle.lu_service.specs.Takes.{Takes}
use Rattle.lu_spec_entries.specs.Words.{Line}
use Rattle.lu_spec_target.specs.Locks.{same_request}
use Rattle.lu_spec_target.specs.Rows as target
use Rattle.lu_spec_target.specs.States as rows
use Rattle.lu_spec_target.specs.States.{is_serving}
use Rattle.lu_client.specs.Comings.{may_come}
use Rattle.lu_target.specs.LockServers.{most_ticks}
use Rattle.lu_spec_run.specs.Heads.{Head}
use Rattle.lu_spec_run.specs.Runs.{client_of, target_of, HasNumbers}
use Rattle.lu_run_nodes.specs.Shown.{kind_of}
use Rattle.lu_run_nodes.specs.Turns.{turn_at}

-- a target that serves may be given this message: of a request the tag is one that there is, the operation one of its
-- service's, and a request that waits of its life and number has its tag
abbrev pub MayHave : Message → rows.Target → Type 0
MayHave (Request r) v = (r.tag < tag_count) × Takes (kind_of v.setting.id) r.op × All (λ q. same_request q r ≡ true → q.tag ≡ r.tag) v.queue
MayHave _ v = Unit {0}

-- a target is up and serves, and may be given this message, for which it has numbers left
abbrev pub TakesSurely : Head → List Line → Stamp → Node → Message → ℕ → Type 0
TakesSurely head past stamp from m t =
    ((target_of head t past).up ≡ true) × (is_serving (target_of head t past) ≡ true) × MayHave m (target_of head t past)
    × HasNumbers head past (turn_at stamp (Target t)) (Target t) (target.Comes 0 from m)

-- a message comes in this turn: to a client of the run from a target, or to a target of the run that serves
abbrev pub IsForeseen : Head → List Line → Stamp → Sent → Type 0
IsForeseen head past stamp sent = by sent.to
  where
    by : Node → Type 0
    by (Client c) = (c < head.clients) × ((t : ℕ) × (sent.from ≡ Target t))
        × (may_come sent.from sent.message (client_of head c past) ≡ true)
    by (Target t) =
        (t ≤ head.osts) × ((target_of head t past).up ≡ true) × (is_serving (target_of head t past) ≡ true)
        × MayHave sent.message (target_of head t past)
        × HasNumbers head past (turn_at stamp (Target t)) (Target t) (target.Comes 0 sent.from sent.message)

-- the time of a target goes on
abbrev pub IsTickForeseen : Head → List Line → Stamp → ℕ → Type 0
IsTickForeseen head past stamp t = ((target_of head t past).ticks ≢ most_ticks)
    × HasNumbers head past (turn_at stamp (Target t)) (Target t) target.Ticks
