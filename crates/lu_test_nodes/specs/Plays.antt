-- A target of a run, as the player of a conversation has it.
use Rattle.std.specs.Prelude.{◌≡◌, List, None}
use Rattle.lu_msg.specs.declared.commits.Batch.{Batch}
use Rattle.lu_service.specs.declared.services.Kind.{Kind}
use Rattle.lu_spec_target.specs.States.{Setting, Target}
use Rattle.lu_target.specs.Repeating.{Repeats, IsLeft}
use Rattle.lu_target.specs.Running.{IsIn}
use Rattle.lu_target.specs.Targets.{TargetState}
use Rattle.lu_test_nodes.specs.declared.runs.Run.{Run}

-- what the rows' target knows of the run
abbrev pub setting_of : Run → Setting
setting_of run = record { id = run.id.0; osts = run.osts; expire = run.expire }

-- It is up: it isn't spent, and shows some state of the run, whose disk may be performed again.
pub record Plays (run : Run) (t : TargetState) : Type 0 where
  pub id : t.id ≡ run.id.0
  pub unspent : t.spent ≡ None
  pub state : Target
  pub shows : IsIn t.running state
  pub same : state.setting ≡ setting_of run
  pub repeats : Repeats t.running.server.kind t.running state

-- A target of the run left the disk that has these batches.
pub record Stood (run : Run) (kind : Kind) (batches : List Batch) : Type 0 where
  pub state : Target
  pub same : state.setting ≡ setting_of run
  pub left : IsLeft kind batches state
