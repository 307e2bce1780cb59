-- Zeros from the page's start, and then what is read of the part.
use Rattle.std.proofs.Common.{rules, ◌≡◌, ◌∙◌, sym, ap, List, [], ◌++◌, replicate, ◌%◌, true, false, ℕ}
use Rattle.lu_object.specs.Reading.{read_from}
use Rattle.lu_object.proofs.Pages.{none_read, some_read}
use Rattle.lu_ost.proofs.reading.page_content.Goals as goal

pub returns-then-is_empty : goal.returns-then-is_empty
returns-then-is_empty c =
    let none : c.in_ok-read.read ≡ [] = c.is_empty.ensures.empty.0 c.if-is_empty.true in
    record {
      read = none ∙ sym (none_read c.args.part c.args.object.now c.requires.ordered c.requires.page c.read.ensures.rises
          (sym c.in_ok-read.ensures.read ∙ none));
    }

pub returns : goal.returns
returns c =
    record {
      read =
          c.in_ok-extend.ensures.added ∙ ap (λ (xs : List ℕ). xs ++ c.as_slice.result.now) c.in_ok-content.ensures.zeros
          ∙ ap (λ (ys : List ℕ). replicate (c.args.part.first % 4096) 0 ++ ys) (c.as_slice.ensures.same ∙ c.in_ok-read.ensures.read)
          ∙ sym (some_read c.args.part c.args.object.now c.requires.ordered c.requires.page c.read.ensures.rises
          (λ none. absurd (cc (c.is_empty.ensures.empty.1 (c.in_ok-read.ensures.read ∙ none), c.if-is_empty.false))));
    }
