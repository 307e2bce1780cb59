use Rattle.std.proofs.Common.{◌≡◌, ◌+◌, ◌-◌, ◌<◌, ◌++◌, ◌∷◌, length, take, sym, ap, ◌∙◌, arith}
use Rattle.std.specs.Prelude.{filter, reverse, slice_index_or}
use Rattle.lu_base.specs.declared.ids.Who.{Who}
use Rattle.lu_spec_laws.specs.Words.Slots.{has_slot}
use Rattle.lu_judge_recovery.proofs.Slotted.{taken_over, read_back}
use Rattle.lu_judge_recovery.proofs.slots.add_joined.Goals as goal

pub loop-place-preserved : goal.loop-place-preserved
loop-place-preserved c = record {
  within = omega arith;
  lives = λ past ledger windows.
      let p = has_slot c.args.target past in
      let joined = c.joined_lives-joined.result.now in
      let none : Who = record { client = 0; life = 0 } in
      let below : c.loop-place.place - 1 < length joined = omega arith in
      let next : c.loop-place.place - 1 + 1 ≡ c.loop-place.place = omega arith in
      taken_over p (slice_index_or joined (c.loop-place.place - 1) none) c.loop-place.lives c.add.new.lives
      (reverse (take (c.loop-place.place - 1) joined)) _ (c.in_ok-add.ensures.added past ledger windows)
      (ap (λ xs. c.loop-place.lives ++ filter p xs) (sym (read_back joined (c.loop-place.place - 1) none below)
      ∙ ap (λ k. reverse (take k joined)) next)
      ∙ c.loop-place.invariant.lives past ledger windows);
}
