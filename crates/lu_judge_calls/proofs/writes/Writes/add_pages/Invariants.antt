-- The write is added to the pages so far.
use Rattle.std.proofs.Common.{◌≡◌, ℕ, ◌+◌, ◌-◌, ◌≤◌, ◌<◌, ◌^◌, ◌++◌, [], ◌∷◌}
use Rattle.std.specs.Prelude.{nat_le, nat_lt, ◌&&◌, if◌then◌else◌}
use Rattle.lu_base.specs.declared.ids.Fid.{Fid}
use Rattle.lu_base.specs.declared.ids.Who.{Who}
use Rattle.lu_judge_calls.specs.Marks.{mark_of, same_file}
use Rattle.lu_judge_calls.specs.PieceTables.{page_in}
use Rattle.lu_judge_calls.proofs.writes.Writes.add_pages.Given as goal

abbrev pub invariant-loop-page : goal.invariant-loop-page
invariant-loop-page l = record {
  last : l.last < 2 ^ 64 - 1;
  from : l.first ≤ l.page;
  upper : l.first < l.page → l.page ≤ l.last + 1;
  added : (w : Who) (f : Fid) (p : ℕ) → page_in l.self w f p
      ≡ (if same_file l.who l.fid w f && (nat_le l.first p && nat_lt p l.page) then page_in l.initial.self w f p ++ mark_of l.kept ∷ []
      else page_in l.initial.self w f p);
}

abbrev pub decreases-loop-page : goal.decreases-loop-page
decreases-loop-page l = l.last + 1 - l.page
