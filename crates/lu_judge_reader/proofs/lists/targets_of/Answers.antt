-- The words that are read so far, and one that isn't.
use Rattle.std.proofs.Common.{ℕ, List, Bor}
use Rattle.lu_trace.specs.WellFormed.{Fits}
use Rattle.lu_judge_reader.specs.Values.{small_of}
use Rattle.lu_judge_reader.proofs.Alls.{words_more, words_fault, fits_more}
use Rattle.lu_judge_reader.proofs.lists.targets_of.Goals as goal

pub returns-in-Err-clause-read : goal.returns-in-Err-clause-read
returns-in-Err-clause-read c =
    words_fault (small_of 16) (λ (w : Bor (List ℕ)). w.now) c.args.words.now c.loop-word.word-index _ c.loop-word.targets c.in-Err.fault
    c.loop-word-test.true c.loop-word.invariant.0 c.in-Err.ensures.read

pub loop-word-preserved : goal.loop-word-preserved
loop-word-preserved c = (
  words_more (small_of 16) (λ (w : Bor (List ℕ)). w.now) c.args.words.now c.loop-word.word-index _ c.loop-word.targets c.push.new.self
      c.in-Ok.target c.loop-word-test.true c.loop-word.invariant.0 c.in-Ok.ensures.read c.in_ok-push-in-Ok.ensures.added,
  fits_more (Fits 16) c.loop-word.targets c.push.new.self c.in-Ok.target c.loop-word.invariant.1 c.in-Ok.ensures.fits
      c.in_ok-push-in-Ok.ensures.added,
)
