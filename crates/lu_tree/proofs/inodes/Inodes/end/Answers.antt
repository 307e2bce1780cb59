-- The path as a slice is the path.
use Rattle.std.proofs.Common.{◌≡◌, [], ◌++◌, rules, subst, w32}
use Rattle.std.proofs.lemmas.Int.{to_z-of_z}
use mir.Val.{SFits}
use Rattle.lu_msg.specs.declared.answers.Errno.TheVariants.{EEXIST}
use Rattle.lu_spec_machine.specs.Plan.{outcome, looked}
use Rattle.lu_spec_machine.specs.Table.{root, to_last}
use Rattle.lu_tree.specs.declared.rows.LastAsk.TheVariants.{Create}
use Rattle.lu_tree.specs.Ends.{ended, looked_of}
use Rattle.lu_tree.specs.Rows.{last_row_of}
use Rattle.lu_tree.specs.Walks.{looks}
use Rattle.lu_tree.proofs.inodes.Inodes.end.Goals as goal

pub returns-in-Lookup-clause-ends : goal.returns-in-Lookup-clause-ends
returns-in-Lookup-clause-ends c = λ number who. rw (c.in-Lookup.is, ← c.as_slice.ensures.same)
    (c.whole_end.ensures.ends c.args.osts number who)

pub returns-in-Lookup-clause-looks : goal.returns-in-Lookup-clause-looks
returns-in-Lookup-clause-looks c = λ number who. rw (c.in-Lookup.is, ← c.as_slice.ensures.same) (c.whole_end.ensures.looks number who)

pub returns-in-Stat-clause-ends : goal.returns-in-Stat-clause-ends
returns-in-Stat-clause-ends c = λ number who. rw (c.in-Stat.is, ← c.as_slice-in-Stat.ensures.same)
    (c.whole_end-in-Stat.ensures.ends c.args.osts number who)

pub returns-in-Stat-clause-looks : goal.returns-in-Stat-clause-looks
returns-in-Stat-clause-looks c = λ number who. rw (c.in-Stat.is, ← c.as_slice-in-Stat.ensures.same)
    (c.whole_end-in-Stat.ensures.looks number who)

pub returns-in-List-clause-ends : goal.returns-in-List-clause-ends
returns-in-List-clause-ends c = λ number who. rw (c.in-List.is, ← c.as_slice-in-List.ensures.same)
    (c.whole_end-in-List.ensures.ends c.args.osts number who)

pub returns-in-List-clause-looks : goal.returns-in-List-clause-looks
returns-in-List-clause-looks c = λ number who. rw (c.in-List.is, ← c.as_slice-in-List.ensures.same)
    (c.whole_end-in-List.ensures.looks number who)

pub returns-in-Layout-clause-ends : goal.returns-in-Layout-clause-ends
returns-in-Layout-clause-ends c = λ number who. rw (c.in-Layout.is, ← c.as_slice-in-Layout.ensures.same)
    (c.whole_end-in-Layout.ensures.ends c.args.osts number who)

pub returns-in-Layout-clause-looks : goal.returns-in-Layout-clause-looks
returns-in-Layout-clause-looks c = λ number who. rw (c.in-Layout.is, ← c.as_slice-in-Layout.ensures.same)
    (c.whole_end-in-Layout.ensures.looks number who)

pub returns-in-Mkdir-clause-ends : goal.returns-in-Mkdir-clause-ends
returns-in-Mkdir-clause-ends c = λ number who. rw (c.in-Mkdir.is, ← c.as_slice-in-Mkdir.ensures.same) (c.last_end.ensures.ends number who)

pub returns-in-Mkdir-clause-looks : goal.returns-in-Mkdir-clause-looks
returns-in-Mkdir-clause-looks c = λ number who. rw (c.in-Mkdir.is, ← c.as_slice-in-Mkdir.ensures.same) (c.last_end.ensures.looks number)

pub returns-in-Rmdir-clause-ends : goal.returns-in-Rmdir-clause-ends
returns-in-Rmdir-clause-ends c = λ number who. rw (c.in-Rmdir.is, ← c.as_slice-in-Rmdir.ensures.same)
    (c.last_end-in-Rmdir.ensures.ends number who)

pub returns-in-Rmdir-clause-looks : goal.returns-in-Rmdir-clause-looks
returns-in-Rmdir-clause-looks c = λ number who. rw (c.in-Rmdir.is, ← c.as_slice-in-Rmdir.ensures.same)
    (c.last_end-in-Rmdir.ensures.looks number)

pub returns-in-Open-clause-ends : goal.returns-in-Open-clause-ends
returns-in-Open-clause-ends c = λ number who. rw (c.in-Open.is, ← c.as_slice-in-Open.ensures.same)
    (c.whole_end-in-Open.ensures.ends c.args.osts number who)

pub returns-in-Open-clause-looks : goal.returns-in-Open-clause-looks
returns-in-Open-clause-looks c = λ number who. rw (c.in-Open.is, ← c.as_slice-in-Open.ensures.same)
    (c.whole_end-in-Open.ensures.looks number who)

pub returns-in-Lookup-clause-seen : goal.returns-in-Lookup-clause-seen
returns-in-Lookup-clause-seen c = c.whole_end.ensures.seen c.args.osts

pub returns-in-Stat-clause-seen : goal.returns-in-Stat-clause-seen
returns-in-Stat-clause-seen c = c.whole_end-in-Stat.ensures.seen c.args.osts

pub returns-in-List-clause-seen : goal.returns-in-List-clause-seen
returns-in-List-clause-seen c = c.whole_end-in-List.ensures.seen c.args.osts

pub returns-in-Layout-clause-seen : goal.returns-in-Layout-clause-seen
returns-in-Layout-clause-seen c = c.whole_end-in-Layout.ensures.seen c.args.osts

pub returns-in-Open-clause-seen : goal.returns-in-Open-clause-seen
returns-in-Open-clause-seen c = c.whole_end-in-Open.ensures.seen c.args.osts

pub returns-in-Create-clause-ends : goal.returns-in-Create-clause-ends
returns-in-Create-clause-ends c =
    let fits : SFits w32 c.in-Create.count = search rules in
    λ number who. rw (c.in-Create.is, ← c.as_slice-in-Create.ensures.same)
    (subst
    (λ z. outcome c.args.self.now (to_last EEXIST c.as_slice-in-Create.result.now
    (λ passed. last_row_of c.args.osts number (Create c.in-Create.size z)))
    ≡ ended c.args.osts c.args.self.now number who [] c.last_end-in-Create.result)
    (to_z-of_z w32 c.in-Create.count fits) (c.last_end-in-Create.ensures.ends number who))

pub returns-in-Create-clause-looks : goal.returns-in-Create-clause-looks
returns-in-Create-clause-looks c =
    let fits : SFits w32 c.in-Create.count = search rules in
    λ number who. rw (c.in-Create.is, ← c.as_slice-in-Create.ensures.same)
    (subst
    (λ z. looked c.args.self.now (to_last EEXIST c.as_slice-in-Create.result.now
    (λ passed. last_row_of c.args.osts number (Create c.in-Create.size z)))
    ≡ looks c.args.self.now root c.as_slice-in-Create.result.now ++ looked_of c.last_end-in-Create.result)
    (to_z-of_z w32 c.in-Create.count fits) (c.last_end-in-Create.ensures.looks number))

pub returns-in-Unlink-clause-looks : goal.returns-in-Unlink-clause-looks
returns-in-Unlink-clause-looks c = λ number who. rw (c.in-Unlink.is, ← c.as_slice-in-Unlink.ensures.same)
    (c.last_end-in-Unlink.ensures.looks number)

pub returns-in-Chmod-clause-looks : goal.returns-in-Chmod-clause-looks
returns-in-Chmod-clause-looks c = λ number who. rw (c.in-Chmod.is, ← c.as_slice-in-Chmod.ensures.same)
    (c.whole_end-in-Chmod.ensures.looks number who)

pub returns-in-Chmod-clause-seen : goal.returns-in-Chmod-clause-seen
returns-in-Chmod-clause-seen c = c.whole_end-in-Chmod.ensures.seen c.args.osts

pub returns-in-Rename-clause-seen : goal.returns-in-Rename-clause-seen
returns-in-Rename-clause-seen c = c.rename_end.ensures.seen c.args.osts
