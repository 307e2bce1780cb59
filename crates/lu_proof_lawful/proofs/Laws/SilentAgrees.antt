-- Of one name all facts of a client whose locks it holds, marked or not, tell the same: each is true of one tree, as its life
-- knows it: where that was evicted, as it was then.
use Rattle.std.proofs.Common.{◌≡◌, ℕ, List, Some, sym, ap, ◌∙◌}
use Rattle.lu_spec_machine.specs.declared.child.Child.{Child}
use Rattle.lu_spec_machine.specs.Tree.{Tree}
use Rattle.lu_spec_machine.specs.Table.{found}
use Rattle.lu_spec_entries.specs.Words.{Line}
use Rattle.lu_spec_entries.specs.Concerns.{only}
use Rattle.lu_spec_client.specs.Caches.{held_at}
use Rattle.lu_spec_client.specs.Facts.{Fact}
use Rattle.lu_proof_lawful.specs.Covered.Calls.{life_at}
use Rattle.lu_proof_lawful.specs.Covered.Heads.{Head}
use Rattle.lu_proof_lawful.proofs.Preconditions.Grown.{Grown}
use Rattle.lu_proof_lawful.proofs.Invariants.KnownPaths.{Tells, Usable}
use Rattle.lu_proof_lawful.proofs.Invariants.Taught.{bound_of, tree_for}
use Rattle.lu_proof_lawful.proofs.Invariants.Known.{held_stands}
use Rattle.lu_proof_lawful.proofs.Invariants.TaughtKnown.{Agrees}
use Rattle.lu_proof_lawful.proofs.Invariants.ToldFiles.{on_name}
use Rattle.lu_proof_lawful.proofs.Laws.SilentHeld.{bare_at, bare_present}

one_child : (a b : Child) → Some a ≡ Some b → a ≡ b
one_child a b e = cc

module _ (head : Head) (c : ℕ) (past : List Line) (g : Grown head past) where
  abbrev pub tree : Tree
  tree = tree_for head.osts (life_at c past) (only 0 past)

  abbrev pub bound : ℕ
  bound = bound_of head.osts (only 0 past)

  pub is_true : (f : Fact) → Usable (bare_at c past) f → Tells tree bound f
  is_true f u = let h = bare_present f.cookie (held_at c past) u.1
      in (held_stands head past c f g u.0 h.0 h.1.0 h.1.1.0.0 (ap (λ (n : ℕ). record { 0 = n }) h.1.1.0.1)).tells

  pub agrees : Agrees (bare_at c past)
  agrees d m f k u v p q =
      let a = on_name tree bound d m f (is_true f u) p in
      let b = on_name tree bound d m k (is_true k v) q in
      a.is ∙ ap found (one_child a.to b.to (sym a.leads ∙ b.leads)) ∙ sym b.is
