-- The rows of a free name, and of a removed file or directory.
use Rattle.std.proofs.Common.{◌≡◌, ◌∙◌, rules, subst, w32}
use Rattle.std.proofs.lemmas.Int.{to_z-of_z}
use mir.Val.{SFits}
use Rattle.lu_spec_machine.specs.Plan.{looked}
use Rattle.lu_spec_machine.specs.Striping.{new_layout}
use Rattle.lu_spec_machine.specs.Table.{row_create}
use Rattle.lu_tree.specs.Ends.{looked_of}
use Rattle.lu_tree.proofs.inodes.Inodes.last_row.Goals as goal

pub returns-in-Create-None-clause-looks : goal.returns-in-Create-None-clause-looks
returns-in-Create-None-clause-looks c =
    let fits : SFits w32 c.in-Create-None.count = search rules in
    λ number. rw (c.in-Create-None.is-0, c.in-Create-None.is-1)
    (subst (λ z. looked c.args.self.now (row_create number c.args.place.dir c.args.place.name.now
    (new_layout c.args.osts number c.in-Create-None.size z)) ≡ looked_of c.create_row.result)
    (to_z-of_z w32 c.in-Create-None.count fits)
    (c.create_row.ensures.looks number))

pub returns-in-Rmdir-Some-clause-ends : goal.returns-in-Rmdir-Some-clause-ends
returns-in-Rmdir-Some-clause-ends c = λ number who. rw (c.in-Rmdir-Some.is-0, c.in-Rmdir-Some.is-1)
    (c.rmdir_row.ensures.ends c.args.osts number who)

pub returns-in-Rmdir-Some-clause-seen : goal.returns-in-Rmdir-Some-clause-seen
returns-in-Rmdir-Some-clause-seen c = λ askable reached is. c.rmdir_row.ensures.seen c.args.osts (is ∙ c.in-Rmdir-Some.is-1)

pub returns-in-Unlink-Some-clause-seen : goal.returns-in-Unlink-Some-clause-seen
returns-in-Unlink-Some-clause-seen c = λ askable reached is. c.unlink_row.ensures.seen c.args.osts (is ∙ c.in-Unlink-Some.is-1)
