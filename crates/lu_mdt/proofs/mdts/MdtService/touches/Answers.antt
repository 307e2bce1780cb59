-- The contents are what the tree shows.
use Rattle.std.proofs.Common.{◌≡◌, IfOk, subst}
use Rattle.lu_base.specs.declared.ids.Txn.{Txn}
use Rattle.lu_spec_machine.specs.Footprint as footprint
use Rattle.lu_service.specs.Contents.{Contents, asked}
use Rattle.lu_mdt.proofs.mdts.MdtService.touches.Goals as goal

pub returns : goal.returns
returns c =
    record {
      touches =
          subst (λ (s : Contents). IfOk c.touches.result (λ parts. (number : Txn) → parts
          ≡ footprint.touches s.osts s.tree (asked number c.args.who c.args.op.now))) c.self.view_is
          c.touches.ensures.touches;
    }
