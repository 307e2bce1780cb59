-- The lives with slots, gathered one by one.
use Rattle.std.proofs.Common.{◌≡◌, ℕ, suc, ◌+◌, ◌<◌, Bool, true, false, List, [], ◌∷◌, ◌++◌, length, take, refl, ap, sym, ◌∙◌, subst}
use Rattle.std.specs.Prelude.{filter, reverse, slice_index_or, if◌then◌else◌}
use Rattle.std.proofs.lemmas.List.{take_more, reverse-append, append-nil, append_assoc}
use Rattle.lu_base.specs.declared.ids.Who.{Who}
use Rattle.lu_spec_laws.specs.Words.Slots.{first_lives}

pub one_kept : (p : Who → Bool) (who : Who) → p who ≡ true → filter p (who ∷ []) ≡ who ∷ []
one_kept p who is = rw is refl

one_more : (p : Who → Bool) (who : Who) (rest : List Who) → filter p (who ∷ rest) ≡ filter p (who ∷ []) ++ filter p rest
one_more p who rest = by (p who) where
  by : (b : Bool) → (if b then who ∷ filter p rest else filter p rest) ≡ (if b then who ∷ [] else []) ++ filter p rest
  by true = refl
  by false = refl

-- a life is taken from those that are left
pub taken_over : (p : Who → Bool) (who : Who) (old new rest all : List Who) → new ≡ old ++ filter p (who ∷ []) → old
    ++ filter p (who ∷ rest) ≡ all → new ++ filter p rest ≡ all
taken_over p who old new rest all adds is =
    ap (λ xs. xs ++ filter p rest) adds ∙ append_assoc old (filter p (who ∷ [])) (filter p rest)
    ∙ ap (λ xs. old ++ xs) (sym (one_more p who rest)) ∙ is

pub read_back : (joined : List Who) (place : ℕ) (d : Who) → place < length joined → reverse (take (place + 1) joined)
    ≡ slice_index_or joined place d ∷ reverse (take place joined)
read_back joined place d below = ap reverse (take_more joined place d below)
    ∙ reverse-append (take place joined) (slice_index_or joined place d ∷ [])

pub left_out : (p : Who → Bool) (who : Who) (lives : List Who) → p who ≡ false → lives ≡ lives ++ filter p (who ∷ [])
left_out p who lives is = sym (append-nil lives) ∙ ap (λ xs. lives ++ xs) (sym (none_kept p who is)) where
  none_kept : (p : Who → Bool) (who : Who) → p who ≡ false → filter p (who ∷ []) ≡ []
  none_kept p who is = rw is refl
