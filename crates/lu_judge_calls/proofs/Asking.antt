-- What a `create` asks for.
use Rattle.std.proofs.Common.{◌≡◌, ℕ, ℤ, Bool, Option, Some, None, List, refl}
use Rattle.std.specs.Prelude.{IsTrue, ◌↔◌}
use Rattle.lu_msg.specs.declared.calls.Call.TheVariants as call
use Rattle.lu_msg.specs.declared.operations.Op.TheVariants as op
use Rattle.lu_spec_laws.specs.Words.Calls.{Binding, operation_on}
use Rattle.lu_judge_calls.specs.Tables.{stripes_or}

creates : (path : List (List ℕ)) (stripes : Option (ℕ × ℤ)) (bound : Option Binding)
    → operation_on (call.Create path stripes) bound ≡ Some (op.Create path (stripes_or stripes).0 (stripes_or stripes).1)
creates path None bound = refl
creates path (Some stripes) bound = refl

size_is : (path other : List (List ℕ)) (s size : ℕ) (c count : ℤ) → Some (op.Create path s c) ≡ Some (op.Create other size count) → s ≡ size
size_is path other s size c count e = cc

count_is : (path other : List (List ℕ)) (s size : ℕ) (c count : ℤ) → Some (op.Create path s c) ≡ Some (op.Create other size count) → c
    ≡ count
count_is path other s size c count e = cc

-- one path: it depends on the numbers
pub create_asks : (path other : List (List ℕ)) (stripes : Option (ℕ × ℤ)) (bound : Option Binding) (size : ℕ) (count : ℤ) (are : Bool)
    → path ≡ other
    → IsTrue are ↔ ((stripes_or stripes).0 ≡ size) × ((stripes_or stripes).1 ≡ count)
    → IsTrue are ↔ (operation_on (call.Create path stripes) bound ≡ Some (op.Create other size count))
create_asks path other stripes bound size count are same is = rw (creates path stripes bound) (
  λ so. rw (same, (is.0 so).0, (is.0 so).1) refl,
  λ e. is.1 (
    size_is path other (stripes_or stripes).0 size (stripes_or stripes).1 count e,
    count_is path other (stripes_or stripes).0 size (stripes_or stripes).1 count e,
  ),
)
