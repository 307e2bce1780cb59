use Rattle.lu_layout.proofs.Places.{stripe_of-lt, position_of-place, stripe_of-position_of, offset_of-position_of}
use Rattle.lu_layout.proofs.laws.places.Goals as goal

pub returns : goal.returns
returns c = record {
  in_range = stripe_of-lt;
  position = position_of-place;
  stripe = stripe_of-position_of;
  offset = offset_of-position_of;
}
