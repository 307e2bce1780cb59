-- Worked layouts: two parts, positions 0 to 3 on stripe 0 and those from 4 on stripe 1; and another layout of the same file
-- that lacks stripe 1 and has all positions on stripe 0.
use Rattle.std.proofs.Common.{ℕ, suc, zero, ◌+◌, ◌-◌, min, Option, Some, None, true, refl, arith}
use Rattle.std.specs.Prelude.{nat_eq, nat_lt, if◌then◌else◌}
use Rattle.std.proofs.lemmas.Bool.Decides.{nat_tests}
use Rattle.lu_proof_bytes.specs.Files.File.{Places}
use Rattle.lu_proof_bytes.specs.Files.Layouts.{Layout}

-- stripe i is object 5 of target i + 1
pub places : Places
places = record { target = λ i. suc i; object = λ i. 5; at = λ t o. at_place t o; at_is = λ i. refl }
  where
    at_place : ℕ → ℕ → Option ℕ
    at_place zero o = None
    at_place (suc i) o = if nat_eq o 5 then Some i else None

-- positions 0 to 3 are offsets 0 to 3 of stripe 0, position p from 4 on is offset p - 4 of stripe 1
pub two_parts : Layout
two_parts = record {
  stripes = 2;
  has = λ i q. if nat_eq i 0 then nat_lt q 4 else true;
  stripe = λ p. if nat_lt p 4 then 0 else 1;
  offset = λ p. if nat_lt p 4 then p else p - 4;
  position = λ i q. if nat_eq i 0 then q else q + 4;
  below = λ i n. if nat_eq i 0 then min n 4 else n - 4;
  cap = λ i e. if nat_eq i 0 then min e 4 else e;
  low = λ p. grind arith;
  inside = λ p. grind (arith, nat_tests);
  there = λ p. grind (arith, nat_tests);
  rises = λ i q r h l. grind (arith, nat_tests);
  begins = λ i q r h l. grind (arith, nat_tests);
  below_is = λ i n q h. grind (arith, nat_tests);
  below_has = λ i n q l. grind (arith, nat_tests);
  cap_is = λ i e q. grind (arith, nat_tests);
}

-- position p is offset p of stripe 0
pub one_part : Layout
one_part = record {
  stripes = 1;
  has = λ i q. true;
  stripe = λ p. 0;
  offset = λ p. p;
  position = λ i q. q;
  below = λ i n. n;
  cap = λ i e. e;
  low = λ p. omega arith;
  inside = λ p. refl;
  there = λ p. refl;
  rises = λ i q r h l. l;
  begins = λ i q r h l. refl;
  below_is = λ i n q h. refl;
  below_has = λ i n q l. refl;
  cap_is = λ i e q. grind arith;
}
