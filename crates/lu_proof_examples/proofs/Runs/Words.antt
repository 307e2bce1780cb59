-- Short words in which worked scenarios are written: their heads, where they come to, and the printed lines of that.
use Rattle.std.proofs.Common.{ℕ, []}
use Rattle.lu_scene.specs.Lines.{default_head}
use Rattle.lu_scene.specs.declared.scene.Head.{Head as SceneHead}
use Rattle.lu_scene.specs.declared.scene.Scene.{Scene}
use Rattle.lu_spec_entries.specs.Printed.{printed}
use Rattle.lu_spec_run.specs.Scenarios.{Config, Disks, head_of, past_of, start, steps}
use Rattle.lu_spec_laws.specs.Words.Pasts.{Past}

-- no call to a disk fails
abbrev pub never : Disks
never t = []

-- so many clients, and so many requests of one in flight at most
abbrev pub with_head : (clients flight : ℕ) → SceneHead
with_head clients flight = record default_head { clients = clients; flight = flight }

-- where a scenario comes to in so many steps
abbrev pub after : ℕ → Scene → Config
after n scene = steps (head_of scene.head) never n (start (head_of scene.head) never scene)

-- the printed lines of that, the newest first
abbrev pub trace_after : ℕ → Scene → Past
trace_after n scene = printed (past_of (after n scene))
