-- A file that is added is found, and each other as before.
use Rattle.std.proofs.Common.{◌≡◌, Bool, true, false, List, [], ◌∷◌, Option, Some, None, refl, ap, ◌∙◌, arith}
use Rattle.std.specs.Prelude.{if◌then◌else◌}
use Rattle.std.specs.Map.{lookup}
use Rattle.std.proofs.lemmas.Bool.Decides.{nat_tests}
use Rattle.indexmap.specs.IndexMap.{insert_entry}
use Rattle.lu_base.specs.declared.ids.Fid.{Fid}
use Rattle.lu_layout.specs.Raid0.{Raid0}
use Rattle.lu_spec_machine.specs.Tree.{same_fid}

pub added : (fid : Fid) (l : Raid0) (es : List (Fid × Raid0)) (f : Fid) → lookup (same_fid f) (insert_entry same_fid es fid l)
    ≡ (if same_fid fid f then Some l else lookup (same_fid f) es)
added fid l [] f = by (same_fid f fid) (same_fid fid f) refl refl
  where
    by : (v w : Bool) → same_fid f fid ≡ v → same_fid fid f ≡ w
        → ◌≡◌ {A = Option Raid0} (if v then Some l else None) (if w then Some l else None)
    by true true one two = refl
    by true false one two = absurd (grind (arith, nat_tests))
    by false true one two = absurd (grind (arith, nat_tests))
    by false false one two = refl
added fid l (e ∷ es) f = by (same_fid fid e.0) (same_fid f e.0) (same_fid fid f) refl refl refl (added fid l es f)
  where
    by : (u v w : Bool) → same_fid fid e.0 ≡ u → same_fid f e.0 ≡ v → same_fid fid f ≡ w
        → lookup (same_fid f) (insert_entry same_fid es fid l) ≡ (if w then Some l else lookup (same_fid f) es)
        → lookup (same_fid f) (if u then (e.0, l) ∷ es else e ∷ insert_entry same_fid es fid l)
        ≡ (if w then Some l else (if v then Some e.1 else lookup (same_fid f) es))
    by true true true one two three rest = ap (λ (t : Bool). if t then Some l else lookup (same_fid f) es) two
    by true true false one two three rest = absurd (grind (arith, nat_tests))
    by true false true one two three rest = absurd (grind (arith, nat_tests))
    by true false false one two three rest = ap (λ (t : Bool). if t then Some l else lookup (same_fid f) es) two
    by false true true one two three rest = absurd (grind (arith, nat_tests))
    by false true false one two three rest = ap (λ (t : Bool). if t then Some e.1 else lookup (same_fid f) (insert_entry same_fid es fid l))
        two
    by false false w one two three rest = ap (λ (t : Bool). if t then Some e.1 else lookup (same_fid f) (insert_entry same_fid es fid l))
        two ∙ rest
