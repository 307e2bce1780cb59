-- One transaction more is performed.
use Rattle.std.proofs.Common.{◌≡◌, ◌+◌, ◌≤◌, [], ◌∷◌, List, drop, sym, ap, subst, ◌∙◌, arith}
use Rattle.std.proofs.lemmas.List.{drop_more}
use Rattle.lu_msg.specs.declared.commits.Transaction.{Transaction}
use Rattle.lu_spec_target.specs.Stored.{last_number}
use Rattle.lu_target_refines.specs.Journals.{AreRising}
use Rattle.lu_target_redo.specs.Shown.{AreRepeatable, ShowsDone}
use Rattle.lu_target_redo.proofs.Steps.{shows_one}
use Rattle.lu_target_refines.proofs.RisingNumbers.{rising_below, last_le}
use Rattle.lu_target_redo.proofs.Runs.{done_more}
use Rattle.lu_target_redo.proofs.batches.perform_all.Goals as goal

pub loop-transaction-preserved : goal.loop-transaction-preserved
loop-transaction-preserved g c =
    let kind = g.S.Service.kind in
    let all = c.args.transactions.now in
    let i = c.loop-transaction.transaction-index in
    let t = c.transaction-item.result in
    let rest = drop (i + 1) all in
    let own = g.S.Service.contents c.loop-transaction.service in
    let next = g.S.Service.contents c.perform.new.service in
    let so_far = c.loop-transaction.invariant in
    let left : drop i all ≡ t ∷ rest = drop_more all i t c.loop-transaction-test.true
    ∙ ap (λ (x : Transaction). x ∷ rest) (sym c.transaction-item.is) in
    let repeatable : AreRepeatable kind (t ∷ rest) = subst (AreRepeatable kind) left so_far.repeatable in
    let rising : AreRising own.last (t ∷ rest) = subst (AreRising own.last) left so_far.rising in
    let last = subst (λ (ts : List Transaction). last_number ts own.last ≤ last_number all (g.S.Service.contents c.args.service.now).last)
    left so_far.last in
    let lower = last_le next.last t.txn.0 rest c.in_ok-perform.ensures.last in
    let one : ShowsDone kind (t ∷ []) own next =
    shows_one kind g.S.Service.acts g.met.S.Service.lawful g.met.S.Service.serves_names g.met.S.Service.serves_objects own next t
    repeatable.0 c.in_ok-perform.ensures.after in
    record {
      repeatable = repeatable.1;
      rising = rising_below next.last t.txn.0 rest c.in_ok-perform.ensures.last rising.1;
      last = omega (arith, lower, last);
      shows = λ new more. so_far.shows new (subst (λ (ts : List Transaction). ShowsDone kind ts own new) (sym left)
          (done_more kind t rest own next new one more));
    }
