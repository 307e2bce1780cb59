use Rattle.lu_spec_machine.proofs.Objects.{object_puts, object_cuts, get_reads}
use Rattle.lu_spec_machine.proofs.Bytes.{size_is_end, write_puts, cut_ends, piece_puts, piece_cuts, pieces_are_plain}
use Rattle.lu_spec_machine.proofs.theorems.bytes.Goals as goal

pub returns : goal.returns
returns c =
    record {
      object_put = object_puts;
      object_cut = object_cuts;
      object_get = get_reads;
      size = size_is_end;
      write = write_puts;
      cut = cut_ends;
      put_piece = piece_puts;
      cut_piece = piece_cuts;
      pieces = pieces_are_plain;
    }
