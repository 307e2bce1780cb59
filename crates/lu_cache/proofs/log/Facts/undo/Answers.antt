-- The newest fact leaves, and what was filed before it is filed again.
use Rattle.std.proofs.Common.{◌≡◌, ℕ, ◌∷◌, sym, subst, ◌∙◌}
use Rattle.lu_cache.specs.declared.facts.Fact.{Fact}
use Rattle.lu_cache.specs.Logs.{Log, IsIndexed, IsUndone}
use Rattle.lu_cache.proofs.Indexed.{indexed_undone}
use Rattle.lu_cache.proofs.log.Facts.undo.Goals as goal

pub invariant_of-self-2 : goal.invariant_of-self-2
invariant_of-self-2 c =
    let e : ℕ × Fact = (c.in-Some.field-0-0, c.in-Some.fact) in
    let last : IsUndone c.args.previous (e ∷ c.pop_first.new.self.entries) =
    subst (λ (l : Log). IsUndone c.args.previous l) (sym c.self.view_is ∙ c.in-Some.ensures.removal) c.requires in
    indexed_undone e c.pop_first.new.self.entries c.args.previous c.self.inside.topics c.restore.new.topics c.self.inside.locks.entries
    (subst (λ (l : Log). IsIndexed l c.self.inside.topics c.self.inside.locks.entries) c.in-Some.ensures.removal c.self.invariant) last
    c.restore.ensures.restored
