use Rattle.std.proofs.Common.{◌++◌, ◌∷◌, [], ◌∙◌, get_or, sym, ap, arith}
use Rattle.lu_client_store.proofs.Striping.{picks_on, picks_not}
use Rattle.lu_client_store.proofs.stripes.bytes_on.Goals as goal
use Rattle.lu_client_store.proofs.stripes.bytes_on.Goals.{then-place-stripe+in_ok-push, else-place-stripe}

pub loop-i-preserved : goal.loop-i-preserved
loop-i-preserved c = elim c.if-place-stripe.branch [
  | then-place-stripe+in_ok-push w ↦
      w.run-is
      ∙ w.in_ok-push.ensures.added
      ∙ ap (λ xs. xs ++ get_or c.args.bytes.now c.loop-i.i 0 ∷ []) c.loop-i.invariant
      ∙ sym (picks_on c.args.layout.now c.args.stripe c.args.position c.loop-i.i c.args.bytes.now (omega (arith, c.loop-i-test.true))
      (sym c.place.ensures.stripe ∙ w.if-place-stripe.true))
  | else-place-stripe w ↦
      w.run-is
      ∙ c.loop-i.invariant
      ∙ sym (picks_not c.args.layout.now c.args.stripe c.args.position c.loop-i.i c.args.bytes.now (omega (arith, c.loop-i-test.true))
      (λ e. w.if-place-stripe.false (c.place.ensures.stripe ∙ e)))
]
