-- What the map of files has after a change is what the tree has.
use Rattle.std.proofs.Common.{◌≡◌, ℕ, Some, sym, ap, ◌∙◌}
use Rattle.std.specs.BTreeMap.{is_at}
use Rattle.std.specs.Map.{lookup, set_value}
use Rattle.std.specs.Option.{unwrap_or}
use Rattle.lu_base.specs.declared.ids.Fid.{Fid}
use Rattle.lu_spec_machine.specs.declared.child.Child.TheVariants.{File}
use Rattle.lu_spec_machine.specs.Order.{IsOrdered}
use Rattle.lu_spec_machine.specs.Tree.{Tree, Inode, no_file, fid_cmp, file}
use Rattle.lu_spec_machine.specs.Change.{SetLinks, SetMode, put_file, change}
use Rattle.lu_tree.proofs.Maps.{fid_found, fid_set}

module _ (t : Tree) (o : IsOrdered t) (f : Fid) (w : Inode) (h : lookup (is_at (fid_cmp f)) t.files ≡ Some w) where
  found : file t f ≡ w
  found = ap (λ x. unwrap_or x no_file) (sym (fid_found f t.files) ∙ h)

  pub relinked : (k : ℕ) → set_value (is_at (fid_cmp f)) t.files (record { mode = w.mode; links = k; layout = w.layout })
      ≡ (change t (SetLinks f k)).files
  relinked k =
      fid_set f (record { mode = w.mode; links = k; layout = w.layout }) w t.files o.files h
      ∙ ap (λ (x : Inode). put_file f (record { mode = x.mode; links = k; layout = x.layout }) t.files) (sym found)

  pub remoded : (m : ℕ) → set_value (is_at (fid_cmp f)) t.files (record { mode = m; links = w.links; layout = w.layout })
      ≡ (change t (SetMode (File f) m)).files
  remoded m =
      fid_set f (record { mode = m; links = w.links; layout = w.layout }) w t.files o.files h
      ∙ ap (λ (x : Inode). put_file f (record { mode = m; links = x.links; layout = x.layout }) t.files) (sym found)
