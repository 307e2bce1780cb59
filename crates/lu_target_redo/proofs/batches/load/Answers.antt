-- One batch more is told.
use Rattle.std.proofs.Common.{◌≡◌, ◌+◌, ◌≤◌, [], ◌∷◌, ℕ, List, drop, sym, ap, subst, ◌∙◌}
use Rattle.std.proofs.lemmas.List.{drop_more, drop_all}
use Rattle.lu_base.specs.declared.ids.Who.{Who}
use Rattle.lu_msg.specs.declared.commits.Batch.{Batch}
use Rattle.lu_msg.specs.declared.commits.Transaction.{Transaction}
use Rattle.lu_spec_target.specs.Stored.{last_number}
use Rattle.lu_target_refines.specs.Journals.{AllRising}
use Rattle.lu_target_redo.specs.Shown.{AllRepeatable, ShowsDone, ShowsForgotten, ShowsLoaded}
use Rattle.lu_target_refines.proofs.RisingNumbers.{all_rising_below}
use Rattle.lu_target_redo.proofs.Runs.{loaded_none, loaded_more, disk_shown}
use Rattle.lu_target_redo.proofs.batches.load.Goals as goal

pub loop-batch-preserved : goal.loop-batch-preserved
loop-batch-preserved g c =
    let kind = g.S.Service.kind in
    let all = c.args.batches.now in
    let i = c.loop-batch.batch-index in
    let batch = c.batch-item.result in
    let rest = drop (i + 1) all in
    let own = g.S.Service.contents c.loop-batch.service in
    let between = g.S.Service.contents c.perform_all.new.service in
    let next = g.S.Service.contents c.forget_all.new.service in
    let so_far = c.loop-batch.invariant in
    let left : drop i all ≡ batch ∷ rest = drop_more all i batch c.loop-batch-test.true ∙ ap (λ (x : Batch). x ∷ rest) (sym c.batch-item.is)
    in
    let repeatable : AllRepeatable kind (batch ∷ rest) = subst (AllRepeatable kind) left so_far.repeatable in
    let rising : AllRising own.last (batch ∷ rest) = subst (AllRising own.last) left so_far.rising in
    let performs : ShowsDone kind batch.transactions own between =
    subst (λ (ts : List Transaction). ShowsDone kind ts own between) c.as_slice.ensures.same c.in_ok-perform_all.ensures.shows in
    let last : between.last ≤ last_number batch.transactions own.last =
    subst (λ (ts : List Transaction). between.last ≤ last_number ts own.last) c.as_slice.ensures.same c.in_ok-perform_all.ensures.last in
    let forgets : ShowsForgotten kind batch.removed between next =
    subst (λ (gone : List Who). ShowsForgotten kind gone between next) c.as_slice-in-loop-batch.ensures.same c.forget_all.ensures.shows in
    let used : next.last ≤ last_number batch.transactions own.last =
    subst (λ (n : ℕ). n ≤ last_number batch.transactions own.last) (sym c.forget_all.ensures.last) last in
    record {
      repeatable = repeatable.1;
      rising = all_rising_below next.last (last_number batch.transactions own.last) rest used rising.1;
      shows = λ new more. so_far.shows new (subst (λ (them : List Batch). ShowsLoaded kind them own new) (sym left)
          (loaded_more kind batch rest own between next new performs forgets more));
    }

pub returns-clause-disk : goal.returns-clause-disk
returns-clause-disk g c =
    let kind = g.S.Service.kind in
    let all = c.args.batches.now in
    let own = g.S.Service.contents c.args.service.now in
    let new = g.S.Service.contents c.loop-batch.service in
    let none : drop c.loop-batch.batch-index all ≡ [] = drop_all c.loop-batch.batch-index all c.loop-batch-test.false in
    disk_shown kind all own new (c.loop-batch.invariant.shows new
    (subst (λ (them : List Batch). ShowsLoaded kind them new new) (sym none) (loaded_none kind new)))
