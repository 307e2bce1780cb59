-- What was sent, and then what is left, is all of it.
use Rattle.std.proofs.Common.{◌≡◌, length}
use Rattle.std.specs.Vec.Iter.{into_iter_items, into_iter_len}
use Rattle.lu_spec_entries.specs.Given.{giving}
use Rattle.lu_client_refines.specs.Posts.{posted}
use Rattle.lu_client.proofs.posting.send_posts.Given as goal

abbrev pub invariant-loop-post : goal.invariant-loop-post
invariant-loop-post l = record {
  can_next : (goal.iterator-loop-post).can_next l.post-iterator;
  is_finite : (goal.iterator-loop-post).is_finite l.post-iterator;
  count : into_iter_len l.post-iterator ≡ length (into_iter_items l.post-iterator);
  left : giving l.turn (posted (into_iter_items l.post-iterator))
      ≡ giving l.initial.turn (posted (into_iter_items l.initial.post-iterator));
}
