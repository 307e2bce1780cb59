-- One more target stands after those so far.
use Rattle.std.proofs.Common.{◌+◌, ◌%◌, ◌<◌, ℕ, [], ◌∷◌, ◌++◌, refl, sym, ap, ◌∙◌, arith, length}
use Rattle.std.proofs.lemmas.Grind.{common_steps, take-set_at}
use Rattle.std.proofs.lemmas.List.FromFn.{map-range_with_len_more}
use Rattle.lu_posix.proofs.striping.targets.Goals as goal

pub loop-stripe-preserved : goal.loop-stripe-preserved
loop-stripe-preserved c =
    let target : ℕ → ℕ = λ i. 1 + (c.args.number.0 % 4294967296 + i) % c.args.osts in
    let i = c.loop-stripe.stripe in
    let ts = c.loop-stripe.targets in
    let l : i < length ts = omega (arith, c.loop-stripe.invariant.room) in
    record {
      room = grind (arith, common_steps, c.loop-stripe.invariant.room);
      filled = take-set_at ts i (i + 1) (target i) refl l ∙ ap (λ xs. xs ++ target i ∷ []) c.loop-stripe.invariant.filled
          ∙ sym (map-range_with_len_more target 0 i i (omega arith));
    }
