-- The index has the new one too; where there is no room for it, it has more than needed.
use Rattle.std.proofs.Common.{◌≡◌, ◌+◌, ◌<◌, true, length, ◌∙◌, ap, sym, subst}
use Rattle.lu_txn.specs.declared.index.Bucket.{Bucket}
use Rattle.lu_txn.specs.Logs.{number}
use Rattle.lu_part.specs.Places.{has}
use Rattle.lu_txn.specs.Indexes.{places_of, files, IsFiled}
use Rattle.lu_txn.proofs.Filing.{filed_grown, filed_pushed}
use Rattle.lu_txn.proofs.uncommitted.Uncommitted.push.Goals as goal

pub invariant_of-self-in_err-push_back : goal.invariant_of-self-in_err-push_back
invariant_of-self-in_err-push_back c =
    let log = c.self.inside in
    rw c.in_err-push_back.ensures.items (filed_grown log.first log.newest.0 log.index c.add.new.self log.transactions.items c.self.invariant
    c.add.ensures.grows)

pub invariant_of-self-2 : goal.invariant_of-self-2
invariant_of-self-2 c =
    let log = c.self.inside in
    let above : log.newest.0 < number c.args.logged = subst (λ state. state.newest < number c.args.logged) (sym c.self.view_is)
    c.requires.above in
    let place : log.first + c.len.result ≡ log.first + length log.transactions.items =
    ap (λ n. log.first + n) (c.len.ensures ∙ log.transactions.ok.0) in
    let filed : (b : Bucket) → files c.args.logged.writes b ≡ true
    → has (places_of c.add.new.self b) (log.first + length log.transactions.items) ≡ true = λ b h.
    subst (λ p. has (places_of c.add.new.self b) p ≡ true) place (c.in_ok-add.ensures.filed b h) in
    rw c.in_ok-push_back.ensures.items (filed_pushed log.first log.newest.0 log.index c.add.new.self log.transactions.items c.args.logged
    c.self.invariant above c.in_ok-add.ensures.grows filed)
