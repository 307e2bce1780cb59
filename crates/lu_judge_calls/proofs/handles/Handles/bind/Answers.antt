use Rattle.std.proofs.Common.{◌==◌, Option, Some}
use Rattle.lu_judge_calls.specs.declared.begun.Binding.{Binding}
use Rattle.lu_judge_calls.specs.Tables.{binding_of, is_life}
use Rattle.lu_judge_calls.proofs.Steps.{bind_at}
use Rattle.lu_judge_calls.proofs.handles.Handles.bind.Goals as goal

pub returns-in_ok-insert-in-Made : goal.returns-in_ok-insert-in-Made
returns-in_ok-insert-in-Made c =
    let binding : Option Binding = Some (record { fid = c.in-Made.fid; number = c.args.number }) in
    record {
      bindings = λ other h.
          rw (c.in-Open.is, c.in-Made.is)
          (bind_at binding_of (is_life c.args.who other) (c.in-Open.handle == h) binding _ _
          (c.in_ok-insert-in-Made.ensures.updates.0 ((other.client, other.life), h)));
    }
