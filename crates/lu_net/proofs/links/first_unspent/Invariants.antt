-- All before the place are spent.
use Rattle.std.proofs.Common.{◌-◌, ◌≤◌, length}
use Rattle.std.specs.List.{position_or_len}
use Rattle.lu_net.specs.Posts.{is_unspent}
use Rattle.lu_net.proofs.links.first_unspent.Given as goal

abbrev pub invariant-loop-post : goal.invariant-loop-post
invariant-loop-post l = l.place ≤ position_or_len is_unspent l.posts

abbrev pub decreases-loop-post : goal.decreases-loop-post
decreases-loop-post l = length l.posts - l.place
