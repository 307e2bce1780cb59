-- What reaches one object is a piece.
use Rattle.std.proofs.Common.{ℕ, List, refl, sym, ap, subst, ◌∙◌}
use Rattle.std.proofs.lemmas.Result.{on_ok_weaker}
use Rattle.lu_msg.specs.declared.operations.Op.{Op}
use Rattle.lu_spec_machine.specs.Machine.{piece_next}
use Rattle.lu_spec_machine.specs.Objects.{put_bytes, cut_bytes}
use Rattle.lu_service.specs.Contents.{object_in, with_object}
use Rattle.lu_posix.specs.Shown.{MachineState, Shows}
use Rattle.lu_posix.proofs.Showing.{piece_shown}
use Rattle.lu_posix.proofs.machines.Machine.reach.Goals as goal

pub returns-in-Put : goal.returns-in-Put
returns-in-Put c =
    let objects = c.self.inside.objects in
    let r = c.in-Put.resource in
    record {
      next =
          on_ok_weaker c.put.result
          (λ made osts m shown.
          let here = subst (λ (s : MachineState). Shows osts s m) (sym c.self.view_is) shown in
          subst (λ (o : Op). Shows osts (record { names = c.self.inside.names; layouts = c.self.inside.layouts; objects = c.put.new.self })
          (piece_next m o)) (sym c.in-Put.is)
          (piece_shown osts _ m here (record { names = c.self.inside.names; layouts = c.self.inside.layouts; objects = c.put.new.self }) r
          (put_bytes c.in-Put.offset c.in-Put.bytes) refl refl
          (made ∙ ap (λ (bs : List ℕ). with_object r (put_bytes c.in-Put.offset bs (object_in objects r)) objects)
          c.as_slice.ensures.same)))
          c.put.ensures.put;
    }

pub returns-in-Cut : goal.returns-in-Cut
returns-in-Cut c =
    record {
      next =
          on_ok_weaker c.cut.result
          (λ made osts m shown.
          let here = subst (λ (s : MachineState). Shows osts s m) (sym c.self.view_is) shown in
          subst (λ (o : Op). Shows osts (record { names = c.self.inside.names; layouts = c.self.inside.layouts; objects = c.cut.new.self })
          (piece_next m o)) (sym c.in-Cut.is)
          (piece_shown osts _ m here (record { names = c.self.inside.names; layouts = c.self.inside.layouts; objects = c.cut.new.self })
          c.in-Cut.resource (cut_bytes c.in-Cut.size) refl refl made))
          c.cut.ensures.cut;
    }
