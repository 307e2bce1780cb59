-- Numbers only rise within a boot.
use Rattle.std.specs.Prelude.{◌≡◌, ◌≤◌}
use Rattle.lu_spec_target.specs.States.{Target}

-- what stands before and after some entries of one boot: no transaction number and no cookie is lower then
pub record Raises (v w : Target) : Type 0 where
  pub boot : w.boot ≡ v.boot
  pub number : v.number ≤ w.number
  pub cookie : v.cookie ≤ w.cookie
