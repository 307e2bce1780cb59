-- What the fields of a layout compute.
use Rattle.std.specs.Prelude.{◌≡◌, ℕ, ◌+◌, ◌*◌, ◌/◌, ◌%◌}
use Rattle.std.proofs.Common.{ap, sym}
use Rattle.lu_layout.specs.declared.layout.Layout.TheInside.{Inside}
use Rattle.lu_layout.specs.Raid0.{stripe_of, offset_of, position_of}
use Rattle.lu_layout.specs.Slots.{raid0_of, AreSlots}

pub stripe_of-fields : (a : Inside) (p : ℕ) → AreSlots a → p / a.unit % a.width ≡ stripe_of (raid0_of a) p
unfolding stripe_of
stripe_of-fields a p h = ap (λ (k : ℕ). p / a.unit % k) (sym h.width)

pub offset_of-fields : (a : Inside) (p : ℕ) → AreSlots a → p / a.unit / a.width * a.unit + p % a.unit ≡ offset_of (raid0_of a) p
unfolding offset_of
offset_of-fields a p h = ap (λ (k : ℕ). p / a.unit / k * a.unit + p % a.unit) (sym h.width)

pub position_of-fields : (a : Inside) (i q : ℕ) → AreSlots a → (q / a.unit * a.width + i) * a.unit + q % a.unit
    ≡ position_of (raid0_of a) i q
unfolding position_of
position_of-fields a i q h = ap (λ (k : ℕ). (q / a.unit * k + i) * a.unit + q % a.unit) (sym h.width)
