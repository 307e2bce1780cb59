-- One more call at a key.
use Rattle.std.proofs.Common.{◌≡◌, ℕ, Bool, true, false, cond, List, [], ◌∷◌, ◌++◌, Option, Some, refl, sym, ap, subst, ◌∙◌}
use Rattle.std.specs.Prelude.{◌==◌, ◌&&◌, if◌then◌else◌, unwrap_or}
use Rattle.std.proofs.lemmas.Bool.{eqb-true}
use Rattle.lu_base.specs.declared.ids.Fid.{Fid}
use Rattle.lu_base.specs.declared.ids.Who.{Who}
use Rattle.lu_spec_laws.proofs.Tests.{first_of, rest_of}
use Rattle.lu_judge_calls.specs.declared.kept.Kept.{Kept}
use Rattle.lu_judge_calls.specs.Marks.{Mark, mark_of, marks_of, same_file}

pub marks_append : (xs : List Kept) (k : Kept) → marks_of (xs ++ k ∷ []) ≡ marks_of xs ++ mark_of k ∷ []
marks_append [] k = refl
marks_append (x ∷ xs) k = ap (λ (ms : List Mark). mark_of x ∷ ms) (marks_append xs k)

pub filed : (here : Bool) (own found : Option (List Kept)) (before new : List Kept) (k : Kept) → (here ≡ true → own ≡ found) → before
    ≡ unwrap_or own [] → new ≡ before ++ k ∷ []
    → marks_of (unwrap_or (cond here (Some new) found) []) ≡ (if here then marks_of (unwrap_or found []) ++ mark_of k ∷ []
    else marks_of (unwrap_or found []))
filed true own found before new k same was put =
    ap marks_of (put ∙ ap (λ (xs : List Kept). xs ++ k ∷ []) (was ∙ ap (λ (o : Option (List Kept)). unwrap_or o []) (same refl)))
    ∙ marks_append (unwrap_or found []) k
filed false own found before new k same was put = refl

pub carry : {A : Type 0} (P : List A → Type 0) (all other : List A) → all ≡ other → P other → P all
carry P all other e h = subst P (sym e) h

-- the same key of a table by life and file has the same value
pub at_file : {A : Type 0} (f : ℕ → ℕ → ℕ → A) (who : Who) (fid : Fid) (w : Who) (g : Fid) → same_file who fid w g ≡ true
    → f who.client who.life fid.0 ≡ f w.client w.life g.0
at_file f who fid w g e =
    let life : (who.client == w.client && who.life == w.life) ≡ true = first_of _ _ e in
    ap (λ (c : ℕ). f c who.life fid.0) (eqb-true who.client w.client (first_of _ _ life))
    ∙ ap (λ (l : ℕ). f w.client l fid.0) (eqb-true who.life w.life (rest_of _ _ life))
    ∙ ap (λ (n : ℕ). f w.client w.life n) (eqb-true fid.0 g.0 (rest_of _ _ e))

-- and one by life, file and page
pub at_page : {A : Type 0} (f : ℕ → ℕ → ℕ → ℕ → A) (who : Who) (fid : Fid) (p : ℕ) (w : Who) (g : Fid) (q : ℕ)
    → (same_file who fid w g && p == q) ≡ true
    → f who.client who.life fid.0 p ≡ f w.client w.life g.0 q
at_page f who fid p w g q e =
    at_file (λ c l n. f c l n p) who fid w g (first_of _ _ e) ∙ ap (λ (n : ℕ). f w.client w.life g.0 n) (eqb-true p q (rest_of _ _ e))
