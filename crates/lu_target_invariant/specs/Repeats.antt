-- Targets that make only rows: what of their logs, replays and batches may be performed again.
use Rattle.std.specs.Prelude.{◌≡◌, ◌≤◌, nat_lt, true, false, ⊤, List}
use Rattle.lu_spec_machine.specs.Footprint.{Every}
use Rattle.lu_msg.specs.declared.messages.Message.{Message}
use Rattle.lu_msg.specs.declared.messages.Message.TheVariants as message
use Rattle.lu_msg.specs.declared.messages.Request.{Request}
use Rattle.lu_service.specs.declared.services.Kind.{Kind}
use Rattle.lu_service.specs.Takes.{Takes}
use Rattle.lu_spec_entries.specs.Carried.{Deed}
use Rattle.lu_spec_entries.specs.Words.{Entry}
use Rattle.lu_spec_target.specs.Disks.{batches_of}
use Rattle.lu_spec_target.specs.Lives.{is_life}
use Rattle.lu_spec_target.specs.Rows.{Event, Comes, Boots}
use Rattle.lu_spec_target.specs.States.{Target, is_serving, turn}
use Rattle.lu_spec_target.specs.Windows.{Replayed}
use Rattle.lu_target_redo.specs.Shown.{IsRepeatable, AllRepeatable}
use Rattle.lu_target_invariant.specs.Sound.{IsKindOf}

-- ---- the state

-- each deed of the log may be performed again
abbrev pub LogRepeats : Kind → Target → Type 0
LogRepeats kind v = Every (λ (d : Deed). IsRepeatable kind d.op) v.log

-- and each replay that the window has
abbrev pub ReplaysRepeat : Kind → Target → Type 0
ReplaysRepeat kind v = Every (λ (r : Replayed). IsRepeatable kind r.op) v.replays

-- each request that waits has an operation of the service's
abbrev pub QueueTakes : Kind → Target → Type 0
QueueTakes kind v = Every (λ (r : Request). Takes kind r.op) v.queue

-- ---- entries

-- their batches may be performed again, and so may the log that they leave
pub record KeepsRepeatable (kind : Kind) (v : Target) (es : List Entry) : Type 0 where
  pub batches : AllRepeatable kind (batches_of es)
  pub log : LogRepeats kind (turn v es)

-- the log that they leave counts where the target then is up and serves: no row of one that recovers reads it, and a close empties it
pub record KeepsServing (kind : Kind) (v : Target) (es : List Entry) : Type 0 where
  pub batches : AllRepeatable kind (batches_of es)
  pub log : (turn v es).up ≡ true → is_serving (turn v es) ≡ true → LogRepeats kind (turn v es)

-- ---- what is asked before a row

-- a request that is taken has an operation of the service's, a replay that is kept one that it may perform again
abbrev pub MayHeed : Kind → Target → Message → Type 0
MayHeed kind v (message.Request r) = is_serving v ≡ true → nat_lt r.boot v.boot ≡ false → is_life r.who v.lives ≡ true → Takes kind r.op
MayHeed kind v (message.Replay r) = is_serving v ≡ false → r.boot ≡ v.boot → is_life r.who v.lives ≡ true → IsRepeatable kind r.op
MayHeed kind v _ = ⊤

-- what comes while the target is down makes no turn; the boot of its last close is on its disk when it boots
abbrev pub MayCome : Kind → Target → Event → Type 0
MayCome kind v (Comes number from m) = (v.up ≡ true) × MayHeed kind v m
MayCome kind v Boots = v.up ≡ false → v.closed ≤ v.disk.boot
MayCome kind v _ = ⊤

-- of a target that serves its log and the requests that wait, of one that recovers its replays, and of any what comes
pub record MayMake (kind : Kind) (v : Target) (e : Event) : Type 0 where
  pub sort : IsKindOf v.setting.id kind
  pub log : v.up ≡ true → is_serving v ≡ true → LogRepeats kind v
  pub queue : v.up ≡ true → is_serving v ≡ true → QueueTakes kind v
  pub replays : v.up ≡ true → is_serving v ≡ false → ReplaysRepeat kind v
  pub event : MayCome kind v e
