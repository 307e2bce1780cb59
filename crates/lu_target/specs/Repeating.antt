-- Whether the disk that a target leaves may be booted: what stands there, and what the target has yet to commit, may be performed
-- again.
use Rattle.std.specs.Prelude.{◌≡◌, ◌≤◌, true, ⊤, List}
use Rattle.lu_msg.specs.declared.commits.Batch.{Batch}
use Rattle.lu_service.specs.declared.services.Kind.{Kind}
use Rattle.lu_service.specs.Contents.{Contents}
use Rattle.lu_spec_target.specs.Rows.{Event, Comes}
use Rattle.lu_spec_target.specs.States.{Target, is_serving, no_contents}
use Rattle.lu_target_server.specs.Journals.{ShowsDisk}
use Rattle.lu_target_server.specs.Lives.{OfClients}
use Rattle.lu_target_server.specs.Shown as redo
use Rattle.lu_target_server.specs.Shown.{AllRepeatable}
use Rattle.lu_target_invariant.specs.Repeats.{LogRepeats}
use Rattle.lu_target_server.specs.declared.booting.Place.{Place}
use Rattle.lu_target_server.specs.Booting.{StandsOn}
use Rattle.lu_target.specs.Running.{RunningState, MayHeed}

-- The batches on its disk may be performed again, and where it is up and serves so may its log.
pub record Repeats (kind : Kind) (t : RunningState) (v : Target) : Type 0 where
  pub batches : AllRepeatable kind t.server.store.batches
  pub log : v.up ≡ true → is_serving v ≡ true → LogRepeats kind v

-- what is asked of an event: of a message what `accepts` decides
abbrev pub MayComeTo : Event → RunningState → Type 0
MayComeTo (Comes number from m) t = MayHeed m t
MayComeTo _ t = ⊤

-- ---- it goes down

-- A disk that a target left whose state after its crash is this: it stands there, and may be performed again.
pub record IsLeft (kind : Kind) (batches : List Batch) (v : Target) : Type 0 where
  pub disk : ShowsDisk batches v
  pub closed : v.closed ≤ v.boot
  pub clients : OfClients v.lives
  pub repeatable : AllRepeatable kind batches

-- a new service of a target's kind, at its place
pub record IsNextOf (place : Place) (kind : Kind) (own : Contents) (t : RunningState) (v : Target) : Type 0 where
  pub id : place.id.0 ≡ t.server.id
  pub expire : place.expire ≡ t.server.expire
  pub sort : kind ≡ t.server.kind
  pub contents : redo.Shows kind v.setting.osts 1 own no_contents

-- all that `boot` asks of a disk with batches
pub record MayBoot (place : Place) (kind : Kind) (own : Contents) (batches : List Batch) (v : Target) : Type 0 where
  pub stands : StandsOn place kind own batches v
  pub repeatable : AllRepeatable kind batches
