-- What is read, and zeros after it, are the bytes one by one.
use Rattle.std.proofs.Common.{◌-◌, ◌++◌, ℕ, List, [], length, sym, ap, ◌∙◌, arith}
use Rattle.std.specs.Prelude.{replicate}
use Rattle.std.proofs.lemmas.Result.{on_ok_weaker}
use Rattle.lu_spec_machine.specs.Objects.{Object}
use Rattle.lu_object.specs.Reading.{read_from}
use Rattle.lu_posix.specs.Files.{run_in}
use Rattle.lu_posix.proofs.Runs.{run_none, read_length, padded}
use Rattle.lu_posix.proofs.files.add_run.Goals as goal

pub returns-in_default : goal.returns-in_default
returns-in_default c =
    record {
      added =
          on_ok_weaker c.add_zeros.result
          (λ made. made ∙ ap (λ (bs : List ℕ). c.args.bytes.now ++ bs)
          (sym (ap (λ (o : Object). run_in o c.args.offset c.args.count) c.in_default.ensures.none
          ∙ run_none [] c.args.offset c.args.count (omega arith))))
          c.add_zeros.ensures.added;
    }

pub overflow_sub-count : goal.overflow_sub-count
overflow_sub-count c =
    let read = ap (λ (bs : List ℕ). length bs) c.in_ok-run.ensures.read in
    let short = read_length c.args.offset c.args.count c.in-Some.object.now c.read.ensures.rises in
    omega (arith, c.len.ensures.count, read, short)

pub returns : goal.returns
returns c =
    let o = c.in-Some.object.now in
    let count = c.len.ensures.count ∙ ap (λ (bs : List ℕ). length bs) c.in_ok-run.ensures.read in
    let bytes = c.in_ok-extend.ensures.added ∙ ap (λ (bs : List ℕ). c.args.bytes.now ++ bs)
    (c.as_slice.ensures.same ∙ c.in_ok-run.ensures.read) in
    record {
      added =
          on_ok_weaker c.add_zeros-2.result
          (λ made. made
          ∙ ap (λ (n : ℕ). c.extend.new.self ++ replicate (c.args.count - n) 0) count
          ∙ ap (λ (bs : List ℕ). bs ++ replicate (c.args.count - length (read_from c.args.offset c.args.count o)) 0) bytes
          ∙ padded c.args.offset c.args.count o c.read.ensures.rises c.args.bytes.now
          ∙ ap (λ (x : Object). c.args.bytes.now ++ run_in x c.args.offset c.args.count) c.in-Some.ensures.some)
          c.add_zeros-2.ensures.added;
    }
