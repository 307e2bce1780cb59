-- One message more was sent, and in the end all are.
use Rattle.std.proofs.Common.{◌≡◌, List, [], ◌∷◌, length, sym, ap, ◌∙◌, rules}
use Rattle.std.specs.Vec.Iter.{into_iter_items}
use Rattle.std.proofs.lemmas.List.{nil_from_length}
use Rattle.lu_msg.specs.declared.messages.Post.{Post}
use Rattle.lu_spec_entries.specs.Given.{giving}
use Rattle.lu_client_refines.specs.Posts.{posted}
use Rattle.lu_client_refines.proofs.Follow.{giving_none, sent_first}
use Rattle.lu_client.proofs.posting.send_posts.Goals as goal

pub loop-post-preserved : goal.loop-post-preserved
loop-post-preserved c =
    let post : Post = c.in-Some.post in
    let rest : List Post = into_iter_items c.next.new.self in
    let left : into_iter_items c.loop-post.post-iterator ≡ post ∷ rest = search rules in
    record {
      can_next = tt;
      is_finite = tt;
      count = search rules;
      left = sent_first c.loop-post.turn c.send.new.self post rest c.in_ok-send.ensures.added c.send.ensures.turn
          ∙ ap (λ (posts : List Post). giving c.loop-post.turn (posted posts)) (sym left)
          ∙ c.loop-post.invariant.left;
    }

pub returns : goal.returns
returns c =
    let none : length (into_iter_items c.loop-post.post-iterator) ≡ 0 = search rules in
    let ended : into_iter_items c.loop-post.post-iterator ≡ [] = nil_from_length (into_iter_items c.loop-post.post-iterator) none in
    let whole : into_iter_items c.into_iter-post-iterator.result ≡ c.args.posts = search rules in
    record {
      sends = sym (giving_none c.loop-post.turn)
          ∙ sym (ap (λ (posts : List Post). giving c.loop-post.turn (posted posts)) ended)
          ∙ c.loop-post.invariant.left
          ∙ ap (λ (posts : List Post). giving c.args.turn.now (posted posts)) whole;
    }
