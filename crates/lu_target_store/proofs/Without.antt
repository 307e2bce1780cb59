-- What was taken, once what is of some lives is taken out of it.
use Rattle.std.proofs.Common.{◌≡◌, ℕ, Bool, true, false, not, cond, List, Option, None, filter, refl, sym, ap, ◌∙◌}
use Rattle.std.specs.Prelude.{if◌then◌else◌}
use Rattle.std.specs.Map.{lookup}
use Rattle.std.proofs.lemmas.Map.Entries.{lookup-filter-keys}
use Rattle.lu_base.specs.declared.ids.Who.{Who}
use Rattle.lu_spec_target.specs.Lives.{is_life}
use Rattle.lu_target_refines.proofs.Slots.{one_place}
use Rattle.lu_target_store.specs.declared.taken.Newest.{Newest}
use Rattle.lu_target_store.specs.Taken.{shown, is_named}

pub without : (gone : List Who) (old new : List ((Who × ℕ) × Newest)) → new ≡ filter (λ e. not (is_life e.0.0 gone)) old
    → (other : Who) (t : ℕ)
    → shown (lookup (is_named other t) new) ≡ (if is_life other gone then None else shown (lookup (is_named other t) old))
without gone old new kept other t =
    ap (λ entries. shown (lookup (is_named other t) entries)) kept
    ∙ ap shown (lookup-filter-keys (is_named other t) (λ k. not (is_life k.0 gone)) (not (is_life other gone)) same old)
    ∙ by (is_life other gone) (lookup (is_named other t) old)
  where
    same : (k : Who × ℕ) → is_named other t k ≡ true → not (is_life k.0 gone) ≡ not (is_life other gone)
    same k e = ap (λ who. not (is_life who gone)) (sym (one_place other k.0 t k.1 e).0)

    by : (v : Bool) (found : Option Newest) → shown (cond (not v) found None) ≡ (if v then None else shown found)
    by true found = refl
    by false found = refl
