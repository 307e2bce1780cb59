-- The directory has the new mode, and each other one is as it was.
use Rattle.std.proofs.Common.{refl, sym, ap, ◌∙◌}
use Rattle.std.specs.BTreeMap.{BTreeMap, insert_entry}
use Rattle.std.specs.Map.{set_value}
use Rattle.lu_base.specs.declared.ids.Fid.{Fid}
use Rattle.lu_spec_machine.specs.declared.child.Child.TheVariants.{Dir}
use Rattle.lu_spec_machine.specs.Tree.{Tree, Directory, fid_cmp}
use Rattle.lu_spec_machine.specs.Change.{SetMode, change}
use Rattle.lu_tree.proofs.Dirs.{moded, moded_new, still_ordered, with_dirs}
use Rattle.lu_tree.proofs.Views.{tree_of}
use Rattle.lu_tree.proofs.inodes.Inodes.set_dir_mode.Goals as goal

pub invariant_of-self : goal.invariant_of-self
invariant_of-self c =
    still_ordered _ (SetMode (Dir c.args.dir) c.args.mode) _ c.self.invariant
    ((c.get_mut.follows.holds c.set_mode.new.self).0 ∙ ap (set_value _ c.self.inside.dirs.entries) c.set_mode.ensures.set
    ∙ moded _ c.self.invariant c.args.dir c.args.mode c.in-Some.folder.now (sym c.in-Some.ensures.value)) refl

pub returns-in-Some-clause-set : goal.returns-in-Some-clause-set
returns-in-Some-clause-set c =
    ap (with_dirs (tree_of c.self.inside))
    ((c.get_mut.follows.holds c.set_mode.new.self).0 ∙ ap (set_value _ c.self.inside.dirs.entries) c.set_mode.ensures.set
    ∙ moded _ c.self.invariant c.args.dir c.args.mode c.in-Some.folder.now (sym c.in-Some.ensures.value))
    ∙ ap (λ (t : Tree). change t (SetMode (Dir c.args.dir) c.args.mode)) c.self.view_is

pub invariant_of-self-in-None : goal.invariant_of-self-in-None
invariant_of-self-in-None c =
    still_ordered _ (SetMode (Dir c.args.dir) c.args.mode) _ c.self.invariant
    (c.in_ok-insert-in-None.ensures.entries ∙ ap (λ (m : BTreeMap Fid Directory). insert_entry fid_cmp m.entries c.args.dir
    c.set_mode-in-None.new.self) c.get_mut.follows.holds-at-none
    ∙ ap (insert_entry fid_cmp c.self.inside.dirs.entries c.args.dir)
    (c.set_mode-in-None.ensures.set ∙ ap (λ (x : Directory). record { mode = c.args.mode; entries = x.entries })
    c.bare-folder.ensures.bare)
    ∙ moded_new _ c.self.invariant c.args.dir c.args.mode (sym c.in-None.ensures.value)) refl

pub returns-in_ok-insert-in-None-clause-set : goal.returns-in_ok-insert-in-None-clause-set
returns-in_ok-insert-in-None-clause-set c =
    ap (with_dirs (tree_of c.self.inside))
    (c.in_ok-insert-in-None.ensures.entries ∙ ap (λ (m : BTreeMap Fid Directory). insert_entry fid_cmp m.entries c.args.dir
    c.set_mode-in-None.new.self) c.get_mut.follows.holds-at-none
    ∙ ap (insert_entry fid_cmp c.self.inside.dirs.entries c.args.dir)
    (c.set_mode-in-None.ensures.set ∙ ap (λ (x : Directory). record { mode = c.args.mode; entries = x.entries })
    c.bare-folder.ensures.bare)
    ∙ moded_new _ c.self.invariant c.args.dir c.args.mode (sym c.in-None.ensures.value))
    ∙ ap (λ (t : Tree). change t (SetMode (Dir c.args.dir) c.args.mode)) c.self.view_is
