use Rattle.std.proofs.Common.{None}
use Rattle.lu_judge_calls.specs.Tables.{binding_of}
use Rattle.lu_judge_calls.proofs.Steps.{bind_at}
use Rattle.lu_judge_calls.proofs.handles.Handles.begin.Goals as goal

pub returns-in-Close : goal.returns-in-Close
returns-in-Close c = record {
  bindings = λ other h. rw c.in-Close.is (bind_at binding_of _ _ None _ _ (c.remove.ensures.updates.0 ((other.client, other.life), h)));
}
