-- Worked rows, computed on the definitions.
use Rattle.std.proofs.Common.{◌≡◌, ℕ, true, false, refl, [], ◌∷◌}
use Rattle.lu_base.specs.declared.locks.Ask.{Ask}
use Rattle.lu_base.specs.declared.locks.Mode.{Mode}
use Rattle.lu_base.specs.declared.locks.Mode.TheVariants.{PW, PR}
use Rattle.lu_base.specs.declared.locks.Policy.TheVariants.{Bits, Range}
use Rattle.lu_lock.specs.Conflict.{conflict}
use Rattle.lu_lock.specs.Growth.{granted_policy, the_end}

-- A lock on this range, and one on these bits, of life 1 of client 0.
abbrev over : Mode → (first last : ℕ) → Ask
over mode first last =
    record { who = record { client = 0; life = 1 }; mode = mode; policy = Range (record { first = first; last = last }) }

abbrev bits : Mode → ℕ → Ask
bits mode held = record { who = record { client = 0; life = 1 }; mode = mode; policy = Bits held }

-- PR on 0 to 4,095 conflicts with PW on 4,095 to 8,191, which shares one byte with it, and not with PW from 4,096 on.
one_byte : conflict (over PR 0 4095) (over PW 4095 8191) ≡ true
one_byte = refl

no_byte : conflict (over PR 0 4095) (over PW 4096 8191) ≡ false
no_byte = refl

-- Bits conflict where they share one, and never with a range.
shared_bit : conflict (bits PW 3) (bits PR 6) ≡ true
shared_bit = refl

no_bit : conflict (bits PW 1) (bits PR 6) ≡ false
no_bit = refl

no_offset : conflict (bits PW 7) (over PW 0 the_end) ≡ false
no_offset = refl

-- PW asked on 200 to 299, beside a granted PW on 0 to 99 and a waiting PW on 500 to 599.
between : granted_policy (over PW 200 299) (over PW 0 99 ∷ []) (over PW 500 599 ∷ []) ≡ Range (record { first = 100; last = 499 })
between = refl

-- The same with a waiting PW on 250 to 260 besides.
met : granted_policy (over PW 200 299) (over PW 0 99 ∷ []) (over PW 500 599 ∷ over PW 250 260 ∷ []) ≡
    Range (record { first = 200; last = 299 })
met = refl

-- Beside locks of compatible modes a range grows to the whole object; bits never grow.
alone : granted_policy (over PR 200 299) (over PR 0 99 ∷ []) (over PR 250 599 ∷ []) ≡
    Range (record { first = 0; last = the_end })
alone = refl

bits_stay : granted_policy (bits PW 2) [] [] ≡ Bits 2
bits_stay = refl
