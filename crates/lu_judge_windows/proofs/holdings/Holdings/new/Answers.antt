use Rattle.std.proofs.Common.{refl}
use Rattle.lu_judge_windows.proofs.holdings.Holdings.new.Goals as goal

pub returns : goal.returns
returns c = record {
  shows = record {
    one = λ who target cookie also. rw c.new.ensures.empty refl;
    resources = λ target resource also. rw (c.new-2.ensures.empty (target, (resource.fid.0, resource.stripe))) refl;
    writers = λ who also. rw (c.new-3.ensures.empty (who.client, who.life)) refl;
  };
}
