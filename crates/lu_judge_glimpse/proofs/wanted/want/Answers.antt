use Rattle.std.proofs.Common.{◌≡◌, ◌+◌, ◌<◌, ◌++◌, ℕ, Bool, List, [], ◌∷◌, length, take, arith, ap, sym, subst, refl, ◌∙◌}
use Rattle.std.specs.Prelude.{if◌then◌else◌}
use Rattle.lu_judge_glimpse.specs.Sightings.{since_in}
use Rattle.lu_judge_glimpse.proofs.Loops.{want_step}
use Rattle.lu_judge_glimpse.proofs.wanted.want.Goals as goal
use Rattle.lu_judge_glimpse.proofs.wanted.want.Goals.{then-not-since+in_ok-push, else-not-since}

pub loop-stripe-preserved : goal.loop-stripe-preserved
loop-stripe-preserved c =
    let below : c.loop-stripe.stripe < length c.args.sizes.now = omega arith in
    let steps = want_step (λ stripe size. since_in c.args.sightings.now c.args.file stripe size c.args.begun) c.args.place c.args.file
    c.args.sizes.now c.loop-stripe.stripe _ _ c.args.wanted.now.items c.loop-stripe.wanted.items below c.since.ensures.since
    c.loop-stripe.invariant.wanted in
    record {
      within = omega arith;
      wanted = elim c.if-not-since.branch [
        | then-not-since+in_ok-push w ↦ ap (λ v. v.items) w.wanted-is ∙ steps.1 w.if-not-since.true refl _ w.in_ok-push.ensures.items
        | else-not-since w ↦ ap (λ v. v.items) w.wanted-is ∙ steps.0 w.if-not-since.false refl
      ];
    }
