-- The order of the two changes doesn't matter.
use Rattle.std.proofs.Common.{refl, sym, ap, subst, ◌∙◌}
use Rattle.std.specs.Prelude.{IsSome}
use Rattle.lu_spec_machine.specs.Change.{Drops, Leads, change}
use Rattle.lu_spec_machine.specs.Tree.{Tree, child}
use Rattle.lu_spec_machine.proofs.Leads.{led}
use Rattle.lu_tree.proofs.Swap.{swap}
use Rattle.lu_tree.proofs.inodes.Inodes.move_name.Goals as goal

pub unlead-requires : goal.unlead-requires
unlead-requires c =
    subst IsSome
    (sym
    (ap (λ (t : Tree). child t c.args.old.dir c.args.old.name.now)
    (c.in_ok-lead.ensures.led ∙ ap (λ n. change c.args.self.now (Leads c.args.new.dir n c.args.moved)) c.in_ok-name.ensures.same)
    ∙ led c.args.self.now c.args.new.dir c.args.new.name.now c.args.moved c.args.old.dir c.args.old.name.now c.args.moved c.requires.named
    c.requires.other)) refl

pub returns-clause-moved : goal.returns-clause-moved
returns-clause-moved c =
    c.unlead.ensures.gone
    ∙ ap (λ (t : Tree). change t (Drops c.args.old.dir c.args.old.name.now))
    (c.in_ok-lead.ensures.led ∙ ap (λ n. change c.args.self.now (Leads c.args.new.dir n c.args.moved)) c.in_ok-name.ensures.same)
    ∙ swap c.args.self.now c.args.new.dir c.args.new.name.now c.args.moved c.args.old.dir c.args.old.name.now c.requires.ordered
    c.requires.other
