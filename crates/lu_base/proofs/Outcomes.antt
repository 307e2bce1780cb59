-- Facts on what a reader answered, and on lists.
use Rattle.std.proofs.Common.{◌≡◌, ◌≢◌, ◌==◌, ◌<◌, ℕ, false, List, [], length, map, Option, Some, None, Result, Ok, Err, sym, ap, ◌∙◌}
use Rattle.std.proofs.Common.{subst, true≢false}
use Rattle.std.specs.Prelude.{IfOk, IfNone, IfSome}
use Rattle.std.specs.List.{All}
use Rattle.std.proofs.lemmas.List.{length-map, get_or-map}

-- where nothing was read, the reason may be said otherwise
pub none_weaker : {A E P Q : Type 0} (r : Result (Option A) E) → (P → Q) → IfOk r (λ read. IfNone read P) → IfOk r (λ read. IfNone read Q)
none_weaker (Ok None) weaker none = weaker none
none_weaker (Ok (Some x)) weaker none = tt
none_weaker (Err e) weaker none = tt

-- where something was read, what is known of it may be said otherwise
pub some_weaker : {A E : Type 0} {P Q : A → Type 0} (r : Result (Option A) E) → ((x : A) → P x → Q x) → IfOk r (λ read. IfSome read P)
    → IfOk r (λ read. IfSome read Q)
some_weaker (Ok None) weaker some = tt
some_weaker (Ok (Some x)) weaker some = weaker x some
some_weaker (Err e) weaker some = tt

-- a list whose length isn't 0 isn't empty
pub some_items : {A : Type 0} (xs : List A) → (length xs == 0) ≡ false → xs ≢ []
some_items xs filled none = true≢false (sym (ap (λ ys. length ys == 0) none) ∙ filled)

-- what holds of each image holds of what is there
pub All-of_map : {X Y : Type 0} (P : X → Type 0) (f : Y → X) (ys : List Y) → All P (map f ys) → All (λ y. P (f y)) ys
All-of_map P f ys are k d within =
    subst P (get_or-map f ys k d (f d) within) (are k (f d) (subst (λ (n : ℕ). k < n) (sym (length-map ys f)) within))
