-- What is told one after another.
use Rattle.std.proofs.Common.{◌≡◌, ℕ, ◌+◌, ◌<◌, ◌≤◌, List, [], ◌∷◌, ◌++◌, length, take, get_or, refl, sym, ap, subst, ◌∙◌}
use Rattle.std.proofs.lemmas.List.{take_more, take_all}
use Rattle.lu_trace.specs.Turns.{Making}
use Rattle.lu_spec_entries.specs.Words.{Entry}
use Rattle.lu_spec_entries.specs.Given.{giving}
use Rattle.lu_target_server.proofs.Composing.{giving_none, giving_more}

module _ {A : Type 0} (told : List A → List Entry) where
  -- one item more
  pub tells_more : ((xs : List A) (x : A) → told (xs ++ x ∷ []) ≡ told xs ++ told (x ∷ [])) → (xs : List A) (k : ℕ) (d : A) → k < length xs
      → (before between afterwards : Making)
      → between ≡ giving before (told (take k xs)) → afterwards ≡ giving between (told (get_or xs k d ∷ [])) → afterwards
      ≡ giving before (told (take (k + 1) xs))
  tells_more more xs k d within before between afterwards one two =
      two ∙ ap (λ (making : Making). giving making (told (get_or xs k d ∷ []))) one
      ∙ giving_more before (told (take k xs)) (told (get_or xs k d ∷ []))
      ∙ ap (giving before) (sym (more (take k xs) (get_or xs k d)))
      ∙ ap (λ (ys : List A). giving before (told ys)) (sym (take_more xs k d within))

  -- the last
  pub tells_all : (xs : List A) (k : ℕ) → length xs ≤ k → (before between : Making) → between ≡ giving before (told (take k xs)) → between
      ≡ giving before (told xs)
  tells_all xs k past before between one = one ∙ ap (λ (ys : List A). giving before (told ys)) (take_all k xs past)
