use Rattle.std.proofs.Common.{sym, subst}
use Rattle.lu_trace.specs.declared.traces.Trace.{Trace}
use Rattle.lu_top.specs.Outcomes.{Tells}
use Rattle.lu_top.specs.Judged.{IsJudgedStatus, IsVerdictStatus}
use Rattle.lu_top.specs.declared.judging.NoTrace.TheVariants as no_trace
use Rattle.lu_top.specs.declared.status.Status.{Status}
use Rattle.lu_top.proofs.Reading.{that_one}
use Rattle.lu_top.proofs.Verdicts.{judged_of, verdict_of}
use Rattle.lu_top.proofs.judging.judge_source.Goals as goal

pub returns-in-Ok-clause-judged : goal.returns-in-Ok-clause-judged
returns-in-Ok-clause-judged g c = λ text trace given is.
    let there = c.trace_of.ensures.only text trace given is in
    let same = that_one c.trace_of.result c.in-Ok.trace trace no_trace.Memory c.in-Ok.is there in
    subst (λ (t : Trace). IsJudgedStatus t c.tell_verdict.result) (sym same)
    (judged_of c.in-Ok.trace _ _ _ _ c.tell_verdict.result c.tell_verdict.ensures.told)

pub returns-in-Ok-clause-verdict : goal.returns-in-Ok-clause-verdict
returns-in-Ok-clause-verdict g c = λ text trace given is calm.
    let there = c.trace_of.ensures.only text trace given is in
    let same = that_one c.trace_of.result c.in-Ok.trace trace no_trace.Memory c.in-Ok.is there in
    subst (λ (t : Trace). IsVerdictStatus t c.tell_verdict.result) (sym same)
    (verdict_of c.in-Ok.trace _ _ _ _ c.tell_verdict.result c.tell_verdict.ensures.told calm)

pub returns-in-Err-ReadFault-clause-told : goal.returns-in-Err-ReadFault-clause-told
returns-in-Err-ReadFault-clause-told g c =
    subst (λ (answer : Status). Tells (g.K.Sink.holds c.args.sink.now) (g.K.Sink.holds c.tell.new.sink)
    (g.K.Sink.faults c.args.sink.now) (g.K.Sink.faults c.tell.new.sink) answer) (sym c.tell.ensures.status) c.tell.ensures.told
