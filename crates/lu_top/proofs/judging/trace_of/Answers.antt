use Rattle.std.proofs.Common.{◌∙◌}
use Rattle.lu_top.proofs.Reading.{read_is}
use Rattle.lu_top.proofs.judging.trace_of.Goals as goal

pub returns-in-Ok-read_trace-clause-refused : goal.returns-in-Ok-read_trace-clause-refused
returns-in-Ok-read_trace-clause-refused g c = λ text given none.
    let same = c.as_slice.ensures.same ∙ read_is _ _ c.in-Ok.text text c.in-Ok.ensures.whole given.bytes in
    let read = c.in-Ok-read_trace.ensures.read in
    none c.in-Ok-read_trace.trace (record { formed = read.0; end = c.in-Ok-read_trace.field-0-1; is = read.1 ∙ same })
