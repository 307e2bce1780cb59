-- A list of names is empty where the entries are.
use Rattle.std.proofs.Common.{◌≡◌, refl, sym, ap, ◌∙◌}
use Rattle.std.specs.Map.{keys_of}
use Rattle.lu_spec_machine.specs.Tree.{Tree, Directory, directory}
use Rattle.lu_tree.proofs.Dirs.{found, not_found, no_keys}
use Rattle.lu_tree.proofs.inodes.Inodes.is_empty.Goals as goal

pub returns-in-Some : goal.returns-in-Some
returns-in-Some c =
    let d = c.args.dir in
    let is : directory c.args.self.now d ≡ c.in-Some.folder.now = ap (λ (t : Tree). directory t d) (sym c.self.view_is)
    ∙ found _ c.self.invariant d c.in-Some.folder.now (sym c.in-Some.ensures.value) in
    record {
      empty = (
        λ yes. ap (λ (x : Directory). keys_of x.entries) is ∙ ap keys_of (c.is_empty.ensures.empty.0 yes),
        λ none. c.is_empty.ensures.empty.1 (ap (λ (x : Directory). x.entries) (sym is)
            ∙ no_keys (directory c.args.self.now d).entries none),
      );
    }

pub returns-in-None : goal.returns-in-None
returns-in-None c =
    let d = c.args.dir in
    let is = ap (λ (t : Tree). directory t d) (sym c.self.view_is) ∙ not_found _ c.self.invariant d (sym c.in-None.ensures.value) in
    record { empty = (λ yes. ap (λ (x : Directory). keys_of x.entries) is, λ none. refl) }
