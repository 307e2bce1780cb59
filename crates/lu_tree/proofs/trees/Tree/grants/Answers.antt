-- What is granted is asked of the outcome.
use Rattle.std.proofs.Common.{sym, ap, ◌∙◌}
use Rattle.std.proofs.lemmas.Result.{IfOk-weaker}
use Rattle.lu_spec_machine.specs.Footprint as footprint
use Rattle.lu_spec_machine.specs.Plan.{Outcome}
use Rattle.lu_spec_machine.specs.Table.{root, wants}
use Rattle.lu_tree.specs.Ends.{path_of, wanted}
use Rattle.lu_tree.specs.State.{TreeState, asked}
use Rattle.lu_tree.specs.Walks.{trail}
use Rattle.lu_tree.proofs.trees.Tree.grants.Goals as goal

pub returns-in-Some : goal.returns-in-Some
returns-in-Some c =
    let t = c.self.inside.inodes in
    record {
      grants =
          IfOk-weaker c.wants.result _ _
          (λ made h number.
          h ∙ ap (λ p. wants c.in-Some.more (trail t root p)) c.whole_path.ensures
          ∙ ap (wanted (trail t root (path_of c.args.op.now))) (sym c.in-Some.is ∙ c.bits.ensures)
          ∙ sym (ap (λ (o : Outcome). o.grants) (c.end.ensures.ends number c.args._who))
          ∙ ap (λ (s : TreeState). footprint.grants s.osts s.tree (asked number c.args._who c.args.op.now)) c.self.view_is)
          c.wants.ensures.wants;
    }

pub returns-in-None : goal.returns-in-None
returns-in-None c =
    let t = c.self.inside.inodes in
    record {
      grants = λ number.
          c.new.ensures.empty ∙ ap (wanted (trail t root (path_of c.args.op.now))) (sym c.in-None.is ∙ c.bits.ensures)
          ∙ sym (ap (λ (o : Outcome). o.grants) (c.end.ensures.ends number c.args._who))
          ∙ ap (λ (s : TreeState). footprint.grants s.osts s.tree (asked number c.args._who c.args.op.now)) c.self.view_is;
    }
