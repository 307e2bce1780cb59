-- A turn that wants a transaction number or a cookie more than the boot has.
use Rattle.std.specs.Prelude.{◌≡◌, ◌+◌, ◌<◌, true, false, List, length}
use Rattle.lu_base.specs.declared.ids.At.{At}
use Rattle.lu_spec_machine.specs.Footprint.{grants}
use Rattle.lu_msg.specs.declared.messages.Request.{Request}
use Rattle.lu_spec_entries.specs.Words.{Entry}
use Rattle.lu_spec_target.specs.Leaving.{all_go}
use Rattle.lu_spec_target.specs.Names.{asked}
use Rattle.lu_spec_target.specs.Phase.{first_of}
use Rattle.lu_spec_target.specs.Replies.{none}
use Rattle.lu_spec_target.specs.Rows.{most_numbers, overruns}
use Rattle.lu_spec_target.specs.States.{Target}
use Rattle.lu_target_locks.specs.Servers.{most_ticks}
use Rattle.lu_target_locks.specs.declared.departing.QueueStep.{QueueStep}
use Rattle.lu_target_server.specs.Releases.{GoesOn}
use Rattle.lu_target_server.specs.Servers.{ServerState, Shows}

-- the row overruns, whatever state is shown
abbrev pub Overruns : (row : Target → List Entry) → ServerState → Type 0
Overruns row s = (v : Target) → Shows s v → overruns v (row v) ≡ true

-- the row doesn't overrun, whatever state is shown
abbrev pub HasRoom : (row : Target → List Entry) → ServerState → Type 0
HasRoom row s = (v : Target) → Shows s v → overruns v (row v) ≡ false

-- what goes on once lives have left overruns
abbrev pub OverrunsRest : At → List QueueStep → ServerState → Type 0
OverrunsRest at steps s = (u : Target) → GoesOn steps s u → overruns u (all_go at u) ≡ true

-- the boot has fewer cookies left than the request wants locks
abbrev pub LacksCookies : Request → ServerState → Type 0
LacksCookies r s =
    (v : Target) → Shows s v → first_of v.boot + most_numbers < v.cookie + length (grants v.setting.osts v.contents.tree (asked r none))

-- no tick of the boot is left
abbrev pub HasNoTick : ServerState → Type 0
HasNoTick s = (v : Target) → Shows s v → v.ticks ≡ most_ticks
