-- The tree is sound after the operation, and what is done is what the table says.
use Rattle.std.proofs.Common.{◌≡◌, ℕ, ◌<◌, true, if◌then◌else◌, sym, ap, subst, ◌∙◌}
use Rattle.lu_spec_machine.specs.Change.{changed}
use Rattle.lu_spec_machine.specs.Footprint as footprint
use Rattle.lu_spec_machine.specs.Footprint.{is_some_change}
use Rattle.lu_spec_machine.specs.Plan.{Outcome}
use Rattle.lu_spec_machine.specs.Tree.{Tree}
use Rattle.lu_spec_machine.specs.Trim.{trim}
use Rattle.lu_tree.specs.Ends.{changes_of}
use Rattle.lu_tree.specs.State.{TreeState, IsSound, asked, performed}
use Rattle.lu_tree.proofs.Sound.{above_fresh, sound_after}
use Rattle.lu_tree.proofs.trees.Tree.apply.Goals as goal

pub answer-requires-clause-seen : goal.answer-requires-clause-seen
answer-requires-clause-seen c = (c.self.inside.osts, c.end-end.ensures.seen)

pub perform-requires-clause-fresh : goal.perform-requires-clause-fresh
perform-requires-clause-fresh c =
    let s : TreeState = record { osts = c.self.inside.osts; last = c.self.inside.last; tree = c.self.inside.inodes } in
    λ h. above_fresh s.last s.tree c.args.number c.self.invariant.used
    (subst (λ (u : TreeState). u.last < c.args.number.0) (sym c.self.view_is)
    (c.requires.above (sym (ap (λ (u : TreeState). footprint.changes u.osts u.tree (asked c.args.number c.args.who c.args.op.now))
    c.self.view_is)
    ∙ ap (λ (o : Outcome). is_some_change o.changes) (c.end-end.ensures.ends c.args.number c.args.who) ∙ h)))

pub invariant_of-self-2 : goal.invariant_of-self-2
invariant_of-self-2 c =
    let s : TreeState = record { osts = c.self.inside.osts; last = c.self.inside.last; tree = c.self.inside.inodes } in
    let made = λ (o : Outcome). is_some_change o.changes in
    let xs = changes_of s.osts s.tree c.args.number c.args.who c.end-end.result in
    let above : is_some_change xs ≡ true → s.last < c.args.number.0 =
    (λ h. subst (λ (u : TreeState). u.last < c.args.number.0) (sym c.self.view_is)
    (c.requires.above (sym (ap (λ (u : TreeState). footprint.changes u.osts u.tree (asked c.args.number c.args.who c.args.op.now))
    c.self.view_is) ∙ ap made (c.end-end.ensures.ends c.args.number c.args.who) ∙ h))) in
    subst (λ (n : ℕ). IsSound (record { osts = s.osts; last = n; tree = c.perform.new.self }))
    (sym (c.last_used-self-inside.ensures s.osts s.tree c.args.who))
    (subst (λ (t : Tree). IsSound (record { osts = s.osts; last = if is_some_change xs then c.args.number.0 else s.last; tree = t }))
    (sym c.in_ok-perform.ensures.done)
    (sound_after s c.args.number c.args.who c.args.op.now _ c.end-end.result c.self.invariant above c.end-end.ensures.seen
    (c.end-end.ensures.ends c.args.number c.args.who)))

pub returns-clause-after : goal.returns-clause-after
returns-clause-after c =
    let s : TreeState = record { osts = c.self.inside.osts; last = c.self.inside.last; tree = c.self.inside.inodes } in
    let xs = changes_of s.osts s.tree c.args.number c.args.who c.end-end.result in
    ap (λ (n : ℕ). record { osts = s.osts; last = n; tree = c.perform.new.self }) (c.last_used-self-inside.ensures s.osts s.tree c.args.who)
    ∙ ap (λ (t : Tree). record { osts = s.osts; last = if is_some_change xs then c.args.number.0 else s.last; tree = t })
    c.in_ok-perform.ensures.done
    ∙ sym (ap (λ (o : Outcome). record {
      osts = s.osts;
      last = if is_some_change o.changes then c.args.number.0 else s.last;
      tree =
          trim (changed s.tree o.changes);
    }) (c.end-end.ensures.ends c.args.number c.args.who))
    ∙ ap (λ (u : TreeState). performed u (asked c.args.number c.args.who c.args.op.now)) c.self.view_is
