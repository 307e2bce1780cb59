-- One name of a path.
use Rattle.std.proofs.Common.{◌≡◌, List, ℕ, [], ◌∷◌, ◌++◌, length, Option, Some, None, refl, ap, sym, subst, ◌∙◌}
use Rattle.lu_base.specs.declared.ids.Fid.{Fid}
use Rattle.lu_base.specs.declared.ids.Cookie.{Cookie}
use Rattle.lu_part.specs.declared.parts.Part.TheVariants as part
use Rattle.lu_msg.specs.declared.answers.Answer.{Answer}
use Rattle.lu_msg.specs.declared.answers.Answer.TheVariants as answer
use Rattle.lu_spec_client.specs.Facts.{Fact}
use Rattle.lu_spec_client.specs.Known.{Notes, Found, walked, fact_on, nothing_found, with_cookie}

pub walk_stops : (n : Notes) (name : List ℕ) (names : List (List ℕ)) (d : Fid) → fact_on (part.Name d name) n ≡ None
    → walked n (name ∷ names) (answer.Dir d) ≡ nothing_found
walk_stops n name names d none = subst (λ o. (elim o as (λ (x : Option Fact). Found)
    [ None ↦ nothing_found | Some f ↦ with_cookie f.cookie (walked n names f.answer) ]) ≡ nothing_found) (sym none) refl

pub walk_goes : (n : Notes) (name : List ℕ) (names : List (List ℕ)) (d : Fid) (f : Fact) → fact_on (part.Name d name) n ≡ Some f
    → walked n (name ∷ names) (answer.Dir d) ≡ with_cookie f.cookie (walked n names f.answer)
walk_goes n name names d f some = subst (λ o. (elim o as (λ (x : Option Fact). Found)
    [ None ↦ nothing_found | Some g ↦ with_cookie g.cookie (walked n names g.answer) ]) ≡ with_cookie f.cookie (walked n names f.answer))
    (sym some) refl

pub snoc_append : (xs : List Cookie) (x : Cookie) (ys : List Cookie) → (xs ++ x ∷ []) ++ ys ≡ xs ++ x ∷ ys
snoc_append [] x ys = refl
snoc_append (z ∷ xs) x ys = ap (λ more. z ∷ more) (snoc_append xs x ys)

pub append_nothing : (xs : List Cookie) → xs ≡ xs ++ []
append_nothing [] = refl
append_nothing (x ∷ xs) = ap (λ more. x ∷ more) (append_nothing xs)
