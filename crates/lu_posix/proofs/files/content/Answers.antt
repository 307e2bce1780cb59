-- One more unit stands after the bytes so far.
use Rattle.std.proofs.Common.{arith}
use Rattle.lu_posix.proofs.Units.{file_more}
use Rattle.lu_posix.proofs.files.content.Goals as goal

pub loop-done-preserved : goal.loop-done-preserved
loop-done-preserved c =
    let within = c.left_of_unit-run.ensures.within in
    record {
      within = omega (arith, within, c.loop-done.invariant.within);
      content =
          file_more c.args.layout.now c.args.fid c.args.objects.now c.args.position c.loop-done.done c.left_of_unit-run.result
          c.loop-done.bytes c.add_unit.new.bytes c.loop-done.invariant.content
          c.in_ok-add_unit.ensures.added;
    }
