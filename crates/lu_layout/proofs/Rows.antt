-- Worked calls on the definitions.
use Rattle.std.specs.Prelude.{◌≡◌, [], ◌∷◌, refl}
use Rattle.lu_layout.specs.Raid0.{Raid0, stripe_of, offset_of, position_of, below_of, greatest_end, file_size_of}

-- the layout of size 65,536 over the targets 2 and 1
abbrev two : Raid0
two = record { size = 65536; targets = 2 ∷ 1 ∷ [] }

stripe_of_196613 : stripe_of two 196613 ≡ 1
unfolding stripe_of
stripe_of_196613 = refl

offset_of_196613 : offset_of two 196613 ≡ 65541
unfolding offset_of
offset_of_196613 = refl

position_of_65541 : position_of two 1 65541 ≡ 196613
unfolding position_of
position_of_65541 = refl

file_size_of_5_1 : file_size_of two (5 ∷ 1 ∷ []) ≡ 65537
unfolding position_of greatest_end
file_size_of_5_1 = refl

file_size_of_none : file_size_of two (0 ∷ 0 ∷ []) ≡ 0
unfolding position_of greatest_end
file_size_of_none = refl

-- units of two bytes over three stripes: positions 0, 1, 6 and 7 lie on the first, 2, 3 and 8 on the second
abbrev small : Raid0
small = record { size = 2; targets = 4 ∷ 1 ∷ 7 ∷ [] }

below_of_9 : below_of small 0 9 ≡ 4
unfolding stripe_of below_of
below_of_9 = refl

below_of_9_second : below_of small 1 9 ≡ 3
unfolding stripe_of below_of
below_of_9_second = refl

below_of_2 : below_of small 1 2 ≡ 0
unfolding stripe_of below_of
below_of_2 = refl
