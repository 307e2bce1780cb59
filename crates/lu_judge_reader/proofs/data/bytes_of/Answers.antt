-- Bytes that are read are bytes.
use Rattle.std.specs.Prelude.{All}
use Rattle.lu_trace.specs.WellFormed.{Fits}
use Rattle.lu_scene.specs.Fields.{data_of}
use Rattle.lu_judge_reader.specs.Values.{repeated_of}
use Rattle.lu_judge_reader.proofs.DataFit.{given_fit, data_fit, repeated_of-fit}
use Rattle.lu_judge_reader.proofs.data.bytes_of.Goals as goal

pub returns-then-has_star-clause-bytes : goal.returns-then-has_star-clause-bytes
returns-then-has_star-clause-bytes c = given_fit (All (Fits 8)) c.repeated_of.result (repeated_of c.args.word.now)
    c.repeated_of.ensures.read (repeated_of-fit c.args.word.now)

pub returns-else-has_star-clause-bytes : goal.returns-else-has_star-clause-bytes
returns-else-has_star-clause-bytes c = given_fit (All (Fits 8)) c.data_of.result (data_of c.args.word.now) c.data_of.ensures.read
    (data_fit c.args.word.now)
