use Rattle.std.proofs.Common.{◌≡◌, arith, sym, ◌∙◌}
use Rattle.std.proofs.lemmas.Fmt.{decimal_injective}
use Rattle.lu_base.proofs.Digits.{parts_of}
use Rattle.lu_base.proofs.text.read_repeated.Goals as goal
use Rattle.lu_base.proofs.text.read_repeated.Goals.{then-count-eq0-via-then-count-eq0}
use Rattle.lu_base.proofs.text.read_repeated.Goals.{then-count-eq0-via-else-count-eq0+then-count-gt-MOST_REPEATS}

pub returns-in_default-clause-none : goal.returns-in_default-clause-none
returns-in_default-clause-none c = λ bytes (byte, count, small, one, most, is, _).
    c.in_default.ensures.none byte small (parts_of c.args.text.now byte count is).0

pub returns-in_default-read_number-clause-none : goal.returns-in_default-read_number-clause-none
returns-in_default-read_number-clause-none c = λ bytes (byte, count, small, one, most, is, _).
    c.in_default-read_number.ensures.none count (omega arith) (parts_of c.args.text.now byte count is).1

pub returns-then-count-eq0-clause-none : goal.returns-then-count-eq0-clause-none
returns-then-count-eq0-clause-none c = λ bytes (byte, count, small, one, most, is, _).
    let same : count ≡ c.in-Some-read_number.count =
    decimal_injective count c.in-Some-read_number.count (omega arith) c.in-Some-read_number.ensures.fits
    (sym (parts_of c.args.text.now byte count is).1 ∙ c.in-Some-read_number.ensures.some) in
    elim c.then-count-eq0.branch [
      | then-count-eq0-via-then-count-eq0 w ↦ omega (arith, same)
      | then-count-eq0-via-else-count-eq0+then-count-gt-MOST_REPEATS w ↦ omega (arith, same)
    ]
