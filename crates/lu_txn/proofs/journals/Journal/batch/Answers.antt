-- The replies are those of the last transactions.
use Rattle.std.proofs.Common.{◌≡◌, ◌<◌}
use Rattle.std.specs.Prelude.{nat_le}
use Rattle.std.proofs.lemmas.List.Elements.{All-filter}
use Rattle.lu_txn.specs.Logs.{number, up_to}
use Rattle.lu_txn.specs.Commits.{reply_for, last_reply}
use Rattle.lu_txn.proofs.LastReplies.{last_is}
use Rattle.lu_txn.proofs.journals.Journal.batch.Goals as goal

pub returns-clause-last : goal.returns-clause-last
returns-clause-last c = λ who tag.
    let to = c.args.to.0 in
    let all = c.self.inside.log.transactions in
    let low = All-filter (λ logged. nat_le (number logged) to) (λ logged. logged.transaction.tag < 8) all c.self.invariant.0.tagged in
    rw (c.in_ok-replies_to.ensures.replies, ← c.self.view_is) (last_is who tag (up_to to all) low)
