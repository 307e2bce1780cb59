-- The words that are read so far, and one that isn't.
use Rattle.std.proofs.Common.{ℕ, List, Bor}
use Rattle.lu_trace.specs.WellFormed.{Fits}
use Rattle.lu_scene.specs.Fields.{number_of}
use Rattle.lu_judge_reader.proofs.Alls.{words_more, words_fault, fits_more}
use Rattle.lu_judge_reader.proofs.lists.numbers_of.Goals as goal

pub returns-in-Err-clause-read : goal.returns-in-Err-clause-read
returns-in-Err-clause-read c =
    words_fault number_of (λ (w : Bor (List ℕ)). w.now) c.args.words.now c.loop-word.word-index _ c.loop-word.numbers c.in-Err.fault
    c.loop-word-test.true c.loop-word.invariant.0 c.in-Err.ensures.read

pub loop-word-preserved : goal.loop-word-preserved
loop-word-preserved c = (
  words_more number_of (λ (w : Bor (List ℕ)). w.now) c.args.words.now c.loop-word.word-index _ c.loop-word.numbers c.push.new.self
      c.in-Ok.number c.loop-word-test.true c.loop-word.invariant.0 c.in-Ok.ensures.read c.in_ok-push-in-Ok.ensures.added,
  fits_more (Fits 64) c.loop-word.numbers c.push.new.self c.in-Ok.number c.loop-word.invariant.1 c.in-Ok.ensures.fits
      c.in_ok-push-in-Ok.ensures.added,
)
