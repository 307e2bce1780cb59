-- A call as the client's rows have it.
use Rattle.std.specs.Prelude.{List, Option, option_map}
use Rattle.lu_base.specs.declared.ids.At.{At}
use Rattle.lu_held.specs.declared.names.LockName.{LockName}
use Rattle.lu_msg.specs.declared.calls.Call.{Call}
use Rattle.lu_spec_entries.specs.Carried.{HandleFile as RowFile, Kind as RowKind, Narrow, Wide, Writes, Cuts, Stats, Glimpses}
use Rattle.lu_spec_entries.specs.Carried.{Work as RowWork, Asking as RowAsking, Unasked, Asked, Answered, Stage as RowStage, Plain, Looks}
use Rattle.lu_spec_entries.specs.Carried.{Enqueued, Waits, Came, Forgotten, Gets, Flushing, Sizes, Running}
use Rattle.lu_call.specs.declared.works.HandleFile.{HandleFile}
use Rattle.lu_call.specs.declared.works.Kind.{Kind}
use Rattle.lu_call.specs.declared.works.Kind.TheVariants as kind
use Rattle.lu_call.specs.declared.works.Work.{Work}
use Rattle.lu_call.specs.declared.calls.Asking.{Asking}
use Rattle.lu_call.specs.declared.calls.Asking.TheVariants as asking
use Rattle.lu_call.specs.declared.calls.Stage.{Stage}
use Rattle.lu_call.specs.declared.calls.Stage.TheVariants as stage

abbrev pub file_of : HandleFile → RowFile
file_of f = record { fid = f.fid; number = f.number; layout = f.layout }

abbrev pub kind_of : Kind → RowKind
kind_of (kind.Narrow offset count) = Narrow offset count
kind_of (kind.Wide offset count) = Wide offset count
kind_of (kind.Writes offset bytes) = Writes offset bytes
kind_of (kind.Cuts size) = Cuts size
kind_of (kind.Stats mode links) = Stats mode links
kind_of (kind.Glimpses sizes) = Glimpses sizes

abbrev pub work_of : Work → RowWork
work_of w = record { kind = kind_of w.kind; fid = w.fid; layout = w.layout; used = w.used.items; left = w.left.items }

abbrev pub asking_of : Asking → RowAsking
asking_of asking.Unasked = Unasked
asking_of asking.Asked = Asked
asking_of (asking.Answered target reply) = Answered target.0 reply

abbrev pub stage_of : Stage → RowStage
stage_of stage.Plain = Plain
stage_of (stage.Looks w) = Looks (work_of w)
stage_of (stage.Enqueued w) = Enqueued (work_of w)
stage_of (stage.Waits w target lock marked) = Waits (work_of w) target lock marked
stage_of (stage.Came w lock) = Came (work_of w) lock
stage_of (stage.Forgotten w) = Forgotten (work_of w)
stage_of (stage.Gets w) = Gets (work_of w)
stage_of (stage.Flushing stripe) = Flushing stripe
stage_of (stage.Sizes w) = Sizes (work_of w)

abbrev pub running_of : At → Call → Option HandleFile → Asking → Stage → List LockName → Running
running_of at call file asking stage pins =
    record {
      at = at;
      call = call;
      file = option_map file_of file;
      asking = asking_of asking;
      stage = stage_of stage;
      pins = pins;
    }
