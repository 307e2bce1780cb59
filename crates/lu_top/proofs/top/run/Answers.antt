use Rattle.std.proofs.Common.{map, string_bytes, inl}
use Rattle.lu_top.specs.declared.forms.Performance.TheVariants.{Play, Storm}
use Rattle.lu_top.specs.declared.forms.Form.TheVariants.{Perform, Judge}
use Rattle.lu_top.proofs.Words.{one_performance}
use Rattle.lu_top.proofs.top.run.Goals as goal

-- ---- a scenario is performed

pub returns-in-Ok-Some-Perform-clause-storm : goal.returns-in-Ok-Some-Perform-clause-storm
returns-in-Ok-Some-Perform-clause-storm g c = λ seed done says.
    let which = c.in-Ok-Some-Perform in
    let said = rw (which.field-0-is, which.field-0-0-is) at which.ensures.some in
    c.perform_asked.ensures.storm seed done (one_performance (map string_bytes c.args.words.now) which.performance (Storm seed) said says)

pub returns-in-Ok-Some-Perform-clause-performed : goal.returns-in-Ok-Some-Perform-clause-performed
returns-in-Ok-Some-Perform-clause-performed g c = λ text scene says given is.
    let which = c.in-Ok-Some-Perform in
    let said = rw (which.field-0-is, which.field-0-0-is) at which.ensures.some in
    c.perform_asked.ensures.performed text scene (one_performance (map string_bytes c.args.words.now) which.performance Play said says)
    given is

pub returns-in-Ok-Some-Perform-clause-done : goal.returns-in-Ok-Some-Perform-clause-done
returns-in-Ok-Some-Perform-clause-done g c = λ text scene says given is bare quiet calm sound.
    let which = c.in-Ok-Some-Perform in
    let said = rw (which.field-0-is, which.field-0-0-is) at which.ensures.some in
    c.perform_asked.ensures.done text scene (one_performance (map string_bytes c.args.words.now) which.performance Play said says) given is
    bare quiet calm sound

pub returns-in-Ok-Some-Perform-clause-written : goal.returns-in-Ok-Some-Perform-clause-written
returns-in-Ok-Some-Perform-clause-written g c = λ done.
    let which = c.in-Ok-Some-Perform in
    let said = rw (which.field-0-is, which.field-0-0-is) at which.ensures.some in
    inl (which.performance, said, c.perform_asked.ensures.written done)

pub returns-in-Ok-Some-Perform-clause-write_fault_written : goal.returns-in-Ok-Some-Perform-clause-write_fault_written
returns-in-Ok-Some-Perform-clause-write_fault_written g c = λ fault.
    let which = c.in-Ok-Some-Perform in
    let said = rw (which.field-0-is, which.field-0-0-is) at which.ensures.some in
    inl (which.performance, said, c.perform_asked.ensures.write_fault_written fault)

-- ---- a trace is judged

pub returns-in-Ok-Some-Judge-clause-judged : goal.returns-in-Ok-Some-Judge-clause-judged
returns-in-Ok-Some-Judge-clause-judged g c = λ text trace says given is. c.judge_source.ensures.judged text trace given is

pub returns-in-Ok-Some-Judge-clause-verdict : goal.returns-in-Ok-Some-Judge-clause-verdict
returns-in-Ok-Some-Judge-clause-verdict g c = λ text trace says given is calm. c.judge_source.ensures.verdict text trace given is calm

-- ---- the words are of no form

pub returns-in-Ok-None-clause-refused : goal.returns-in-Ok-None-clause-refused
returns-in-Ok-None-clause-refused g c = λ text says. absurd ((rw c.in-Ok-None.field-0-is at c.in-Ok-None.ensures.none) (Perform Play) says)

pub returns-in-Ok-None-clause-performed : goal.returns-in-Ok-None-clause-performed
returns-in-Ok-None-clause-performed g c = λ text scene says. absurd
    ((rw c.in-Ok-None.field-0-is at c.in-Ok-None.ensures.none) (Perform Play) says)

pub returns-in-Ok-None-clause-done : goal.returns-in-Ok-None-clause-done
returns-in-Ok-None-clause-done g c = λ text scene says. absurd ((rw c.in-Ok-None.field-0-is at c.in-Ok-None.ensures.none) (Perform Play)
    says)

pub returns-in-Ok-None-clause-storm_performed : goal.returns-in-Ok-None-clause-storm_performed
returns-in-Ok-None-clause-storm_performed g c = λ seed says. absurd
    ((rw c.in-Ok-None.field-0-is at c.in-Ok-None.ensures.none) (Perform (Storm seed)) says)

pub returns-in-Ok-None-clause-judge_answers : goal.returns-in-Ok-None-clause-judge_answers
returns-in-Ok-None-clause-judge_answers g c = λ says. absurd ((rw c.in-Ok-None.field-0-is at c.in-Ok-None.ensures.none) Judge says)

pub returns-in-Ok-None-clause-refused_trace : goal.returns-in-Ok-None-clause-refused_trace
returns-in-Ok-None-clause-refused_trace g c = λ text says. absurd ((rw c.in-Ok-None.field-0-is at c.in-Ok-None.ensures.none) Judge says)

pub returns-in-Ok-None-clause-judged : goal.returns-in-Ok-None-clause-judged
returns-in-Ok-None-clause-judged g c = λ text trace says. absurd ((rw c.in-Ok-None.field-0-is at c.in-Ok-None.ensures.none) Judge says)

pub returns-in-Ok-None-clause-verdict : goal.returns-in-Ok-None-clause-verdict
returns-in-Ok-None-clause-verdict g c = λ text trace says. absurd ((rw c.in-Ok-None.field-0-is at c.in-Ok-None.ensures.none) Judge says)
