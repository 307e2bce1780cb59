-- The loop stands before the mark until it finds one that isn't spent, or the end.
use Rattle.std.proofs.Common.{refl}
use Rattle.std.proofs.lemmas.Option.{slice_get_read, slice_get_past}
use Rattle.lu_net.proofs.Marks.{here, further, past}
use Rattle.lu_net.proofs.links.first_unspent.Goals as goal

pub returns-then-not-post : goal.returns-then-not-post
returns-then-not-post c =
    let found = c.in-Some.ensures.lookup in
    here c.args.posts.now c.loop-post.place c.in-Some.post.now c.loop-post.invariant
    (slice_get_read _ _ _ _ refl found.3.0 found.1) c.if-not-post.true

pub loop-post-preserved : goal.loop-post-preserved
loop-post-preserved c =
    let found = c.in-Some.ensures.lookup in
    further c.args.posts.now c.loop-post.place c.in-Some.post.now c.loop-post.invariant
    (slice_get_read _ _ _ _ refl found.3.0 found.1) c.if-not-post.false

pub returns : goal.returns
returns c =
    past c.args.posts.now c.loop-post.place c.loop-post.invariant (slice_get_past _ _ c.in_default.ensures.lookup.3)
