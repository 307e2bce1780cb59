-- What isn't refused is made, and is the layout of the definition.
use Rattle.std.proofs.Common.{◌≡◌, false, Some, w32, SFits, rules, sym, ap, subst, ◌∙◌}
use Rattle.std.proofs.lemmas.Int.{to_z-of_z}
use Rattle.lu_layout.specs.Sound.{IsStripeSize, AreStripes}
use Rattle.lu_spec_machine.specs.Striping.{is_bad, stripe_count, stripe_size, stripe_targets}
use Rattle.lu_posix.proofs.GoodLayouts.{made_good, good_sound, made_ok}
use Rattle.lu_posix.proofs.striping.new_layout.Goals as goal

pub returns : goal.returns
returns c =
    let size = c.stripe_size-size.ensures.size in
    let fits : SFits w32 c.args.count = search rules in
    let count : c.stripe_count-count.result ≡ stripe_count c.args.osts c.args.count = c.stripe_count-count.ensures.count
    ∙ ap (stripe_count c.args.osts) (to_z-of_z w32 c.args.count fits) in
    let fine : is_bad c.args.osts (stripe_size c.args.size) (stripe_count c.args.osts c.args.count) ≡ false =
    ap (λ z. is_bad c.args.osts z (stripe_count c.args.osts c.args.count)) (sym size)
    ∙ ap (is_bad c.args.osts c.stripe_size-size.result) (sym count) ∙ sym c.is_bad.ensures ∙ c.if-is_bad.false in
    let targets = c.targets-targets.ensures ∙ ap (stripe_targets c.args.osts c.args.number) count in
    let sound = good_sound c.args.osts c.args.number c.args.size c.args.count c.requires.some c.requires.most fine in
    let is = c.make.ensures.succeeds (subst IsStripeSize (sym size) sound.size) (subst AreStripes (sym targets) sound.targets) in
    record {
      layout =
          c.ok.ensures.value
          ∙ made_ok c.make.result _ is c.make.ensures.ok
          ∙ ap Some (λ i. record { size = size i; targets = targets i })
          ∙ sym (made_good c.args.osts c.args.number c.args.size c.args.count fine);
    }
