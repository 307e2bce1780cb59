-- The directory has the name, and each other one is as it was.
use Rattle.std.proofs.Common.{◌≡◌, refl, sym, ap, subst, ◌∙◌, Result, OnOk, OnErr}
use Rattle.std.specs.declared.result.Result.TheVariants.{Ok, Err}
use Rattle.lu_spec_machine.specs.Order.{IsOrdered}
use Rattle.std.specs.BTreeMap.{BTreeMap, insert_entry}
use Rattle.lu_base.specs.declared.ids.Fid.{Fid}
use Rattle.std.specs.Map.{set_value}
use Rattle.std.proofs.lemmas.Map.Steps.{set_value_same}
use Rattle.std.proofs.lemmas.Result.{on_ok_weaker, on_err_weaker}
use Rattle.lu_spec_machine.specs.Tree.{Tree, Directory, fid_cmp}
use Rattle.lu_spec_machine.specs.Change.{Leads, change, put_name}
use Rattle.lu_tree.proofs.Dirs.{led, led_new, still_ordered, with_dirs}
use Rattle.lu_tree.proofs.Views.{tree_of}
use Rattle.lu_tree.proofs.inodes.Inodes.lead.Goals as goal

module _ {T E P : Type 0} where
  by_result : (r : Result T E) → OnOk r P → OnErr r P → P
  by_result (Ok x) good bad = good
  by_result (Err e) good bad = bad

pub invariant_of-self : goal.invariant_of-self
invariant_of-self c =
    let x = Leads c.args.dir c.args.name c.args.child in
    by_result c.put.result
    (on_ok_weaker c.put.result
    (λ (put : c.put.new.self ≡ _).
    still_ordered _ x _ c.self.invariant
    ((c.get_mut.follows.holds c.put.new.self).0 ∙ ap (set_value _ c.self.inside.dirs.entries) put
    ∙ led _ c.self.invariant c.args.dir c.args.name c.args.child c.in-Some.folder.now (sym c.in-Some.ensures.value)) refl)
    c.put.ensures.put)
    (on_err_weaker c.put.result
    (λ (kept : c.put.new.self ≡ _).
    subst (λ ds. IsOrdered (with_dirs (tree_of c.self.inside) ds))
    (sym ((c.get_mut.follows.holds c.put.new.self).0 ∙ ap (set_value _ c.self.inside.dirs.entries) kept
    ∙ set_value_same _ c.self.inside.dirs.entries c.in-Some.folder.now (sym c.in-Some.ensures.value)))
    c.self.invariant)
    c.put.ensures.kept)

pub returns-in-Some-clause-led : goal.returns-in-Some-clause-led
returns-in-Some-clause-led c =
    on_ok_weaker c.put.result
    (λ (put : c.put.new.self ≡ _).
    ap (with_dirs (tree_of c.self.inside))
    ((c.get_mut.follows.holds c.put.new.self).0 ∙ ap (set_value _ c.self.inside.dirs.entries) put
    ∙ led _ c.self.invariant c.args.dir c.args.name c.args.child c.in-Some.folder.now (sym c.in-Some.ensures.value))
    ∙ ap (λ (t : Tree). change t (Leads c.args.dir c.args.name c.args.child)) c.self.view_is)
    c.put.ensures.put

pub returns-in-Some-clause-kept : goal.returns-in-Some-clause-kept
returns-in-Some-clause-kept c =
    on_err_weaker c.put.result
    (λ (kept : c.put.new.self ≡ _).
    ap (with_dirs (tree_of c.self.inside))
    ((c.get_mut.follows.holds c.put.new.self).0 ∙ ap (set_value _ c.self.inside.dirs.entries) kept
    ∙ set_value_same _ c.self.inside.dirs.entries c.in-Some.folder.now (sym c.in-Some.ensures.value))
    ∙ c.self.view_is)
    c.put.ensures.kept

pub invariant_of-self-in-None : goal.invariant_of-self-in-None
invariant_of-self-in-None c =
    still_ordered _ (Leads c.args.dir c.args.name c.args.child) _ c.self.invariant
    (c.in_ok-insert-in-None.ensures.entries ∙ ap (λ (m : BTreeMap Fid Directory). insert_entry fid_cmp m.entries c.args.dir
    c.put-in-None.new.self) c.get_mut.follows.holds-at-none
    ∙ ap (insert_entry fid_cmp c.self.inside.dirs.entries c.args.dir)
    (c.in_ok-put-in-None.ensures.put ∙ ap (λ (x : Directory). record
    { mode = x.mode; entries = put_name c.args.name c.args.child x.entries }) c.bare-folder.ensures.bare)
    ∙ led_new _ c.self.invariant c.args.dir c.args.name c.args.child (sym c.in-None.ensures.value)) refl

pub returns-in_ok-insert-in-None-clause-led : goal.returns-in_ok-insert-in-None-clause-led
returns-in_ok-insert-in-None-clause-led c =
    ap (with_dirs (tree_of c.self.inside))
    (c.in_ok-insert-in-None.ensures.entries ∙ ap (λ (m : BTreeMap Fid Directory). insert_entry fid_cmp m.entries c.args.dir
    c.put-in-None.new.self) c.get_mut.follows.holds-at-none
    ∙ ap (insert_entry fid_cmp c.self.inside.dirs.entries c.args.dir)
    (c.in_ok-put-in-None.ensures.put ∙ ap (λ (x : Directory). record
    { mode = x.mode; entries = put_name c.args.name c.args.child x.entries }) c.bare-folder.ensures.bare)
    ∙ led_new _ c.self.invariant c.args.dir c.args.name c.args.child (sym c.in-None.ensures.value))
    ∙ ap (λ (t : Tree). change t (Leads c.args.dir c.args.name c.args.child)) c.self.view_is
