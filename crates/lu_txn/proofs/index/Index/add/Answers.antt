-- What was filed still is, and the next part is filed too.
use Rattle.std.proofs.Common.{◌≡◌, true, sym, subst, ◌∙◌, arith}
use Rattle.std.proofs.lemmas.List.Folds.{list_any_more}
use Rattle.lu_txn.specs.Buckets.{holds, filing}
use Rattle.lu_txn.proofs.IndexLaws.{or_cases}
use Rattle.lu_txn.proofs.index.Index.add.Goals as goal

pub loop-part-preserved : goal.loop-part-preserved
loop-part-preserved c = (
  λ b place h. c.file_part.ensures.grows b place (c.loop-part.invariant.0 b place h),
  λ b h.
      or_cases _ _ _ (sym (list_any_more (λ part. holds (filing part) b) c.as_slice-part-items.result.now c.loop-part.part-index
      c.part-item.result (omega (arith, c.loop-part-test.true))) ∙ h)
      (λ e. c.file_part.ensures.grows b c.args.place (c.loop-part.invariant.1 b e))
      (λ e. c.in_ok-file_part.ensures.filed b (subst (λ part. holds (filing part) b ≡ true) (sym c.part-item.is) e)),
)
