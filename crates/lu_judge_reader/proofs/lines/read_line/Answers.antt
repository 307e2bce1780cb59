-- What isn't read is the text of no line.
use Rattle.std.proofs.Common.{Err}
use Rattle.lu_judge_reader.proofs.LinesRead.{line_missed, line_other}
use Rattle.lu_judge_reader.proofs.lines.read_line.Goals as goal

pub returns-in-Ok-clause-none : goal.returns-in-Ok-clause-none
returns-in-Ok-clause-none c = λ unread line is same. c.checked.ensures.other unread
    (line_other c.args.text.now c.in-Ok.line line c.in-Ok.ensures.read is same)

pub returns-in-Err-clause-none : goal.returns-in-Err-clause-none
returns-in-Err-clause-none c = line_missed c.args.text.now (Err c.in-Err.fault) c.in-Err.ensures.read
