use Rattle.std.proofs.Common.{◌==◌, Ok, rules}
use Rattle.std.specs.declared.alloc.AllocError.{AllocError}
use Rattle.std.proofs.lemmas.Iterator.Consumers.{map_from_collect}
use Rattle.std.proofs.lemmas.Iterator.Splits.{YieldsList-from_slice_split}
use Rattle.lu_base.proofs.text.split_at_byte.Goals as goal

pub returns : goal.returns
returns c = record {
  parts =
      map_from_collect {E = AllocError} (Ok c.in_ok-parts.parts) c.in_ok-parts.ensures.ran
      (YieldsList-from_slice_split _ (λ byte. byte == c.args.separator) c.args.text.now c.split.ensures.rest c.split.ensures.done
      c.split.ensures.closure (λ x q k. search rules));
}
