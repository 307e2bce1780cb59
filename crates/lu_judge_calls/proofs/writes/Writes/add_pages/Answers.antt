-- One page more, and at the end all of them.
use Rattle.std.proofs.Common.{arith}
use Rattle.lu_judge_calls.specs.Marks.{mark_of, same_file}
use Rattle.lu_judge_calls.specs.PieceTables.{page_in}
use Rattle.lu_judge_calls.proofs.Pages.{one_more, all_of}
use Rattle.lu_judge_calls.proofs.writes.Writes.add_pages.Goals as goal

pub loop-page-preserved : goal.loop-page-preserved
loop-page-preserved c = record {
  last = c.requires.last;
  from = let from = c.loop-page.invariant.from in omega arith;
  upper = λ less. let up = c.loop-page-test.true in omega arith;
  added = λ w f p.
      one_more (page_in c.args.self.now w f p) (mark_of c.args.kept) (same_file c.args.who c.args.fid w f) c.args.first c.loop-page.page p _
      _
      c.loop-page.invariant.from (c.loop-page.invariant.added w f p) (c.in_ok-add_to.ensures.added w f p);
}

pub returns : goal.returns
returns c = record {
  added = λ w f p.
      all_of (page_in c.args.self.now w f p) (mark_of c.args.kept) (same_file c.args.who c.args.fid w f) c.args.first c.args.last
      c.loop-page.page p _
      c.loop-page-test.false c.loop-page.invariant.upper (c.loop-page.invariant.added w f p);
}
