-- The mark is the place before the least number that isn't spent.
use Rattle.std.proofs.Common.{◌≡◌, ◌<◌, ◌≤◌, ◌∙◌, length, arith}
use Rattle.lu_net.proofs.Marks.{mark, above_mark, unspent_after_mark, none_unspent}
use Rattle.lu_net.proofs.links.Links.least_unspent.Goals as goal

pub returns-then-self-len-clause-unspent : goal.returns-then-self-len-clause-unspent
returns-then-self-len-clause-unspent c =
    let posts = c.self.inside.posts in
    let count : c.len.result ≡ length posts.items = c.len.ensures ∙ posts.ok.0 in
    let at : c.self.inside.low ≡ mark posts.items = c.self.invariant in
    let within : mark posts.items < length posts.items = omega arith in
    rw (at, ← c.self.view_is) (unspent_after_mark posts.items within)

pub returns-then-self-len-clause-least : goal.returns-then-self-len-clause-least
returns-then-self-len-clause-least c =
    rw (c.self.invariant, ← c.self.view_is) (above_mark c.self.inside.posts.items)

pub returns-else-self-len-clause-none : goal.returns-else-self-len-clause-none
returns-else-self-len-clause-none c =
    let posts = c.self.inside.posts in
    let count : c.len.result ≡ length posts.items = c.len.ensures ∙ posts.ok.0 in
    let at : c.self.inside.low ≡ mark posts.items = c.self.invariant in
    let past : length posts.items ≤ mark posts.items = omega arith in
    rw (← c.self.view_is) (none_unspent posts.items past)
