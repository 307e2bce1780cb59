use Rattle.std.proofs.Common.{append-nil, sym}
use Rattle.hex.specs.Hex.{encode_with}
use Rattle.lu_base.proofs.Digits.{digits_more}
use Rattle.lu_base.proofs.text.put_digits.Goals as goal

pub loop-byte-init : goal.loop-byte-init
unfolding encode_with
loop-byte-init c = sym (append-nil _)

pub loop-byte-preserved : goal.loop-byte-preserved
loop-byte-preserved c =
    digits_more c.args.out.now c.loop-byte.out c.digits_of.result c.extend.new.self c.args.held.now c.loop-byte.byte-index 0
    c.loop-byte-test.true c.loop-byte.invariant c.digits_of.ensures.digits c.in_ok-extend.ensures.added
