-- The contents are what the tree shows.
use Rattle.std.proofs.Common.{◌≡◌, IfOk, subst}
use Rattle.lu_base.specs.declared.ids.Txn.{Txn}
use Rattle.lu_spec_machine.specs.Footprint as footprint
use Rattle.lu_service.specs.Contents.{Contents, asked}
use Rattle.lu_mdt.proofs.mdts.MdtService.writes.Goals as goal

pub returns : goal.returns
returns c =
    record {
      writes =
          subst (λ (s : Contents). IfOk c.writes.result (λ parts. (number : Txn) → parts
          ≡ footprint.writes s.osts s.tree (asked number c.args.who c.args.op.now))) c.self.view_is
          c.writes.ensures.writes;
    }
