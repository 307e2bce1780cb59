-- Spending moves the mark up or leaves it; and what is written is the message that was found.
use Rattle.std.proofs.Common.{◌≡◌, Some, true, refl}
use Rattle.std.specs.List.{slice_get}
use Rattle.std.proofs.lemmas.Option.{slice_get_read}
use Rattle.lu_net.proofs.Marks.{mark_rises, spend_found}
use Rattle.lu_net.proofs.links.Links.spend.Goals as goal

pub first_unspent-self-inside-requires : goal.first_unspent-self-inside-requires
first_unspent-self-inside-requires c =
    rw (c.self.invariant, c.deref.ensures.value)
    (mark_rises c.self.inside.posts.items c.in-Some.place (record { sent = c.in-Some-get_mut.post.now.sent; spent = true }) refl)

pub returns : goal.returns
returns c =
    let item = c.in-Some-get_mut.ensures.item in
    let found : slice_get c.self.inside.posts.items c.in-Some.place ≡ Some c.in-Some-get_mut.post.now =
    slice_get_read _ _ _ _ refl item.3.0 item.1 in
    record { spent = rw (c.in-Some.ensures, ← c.self.view_is) (spend_found _ _ _ found) }
