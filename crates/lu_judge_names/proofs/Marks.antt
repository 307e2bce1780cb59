-- Events one after another.
use Rattle.std.proofs.Common.{◌≡◌, ℕ, Bool, List, [], ◌∷◌, ◌++◌, map, refl, ap, ◌∙◌, sym}
use Rattle.std.specs.Prelude.{reverse}
use Rattle.std.proofs.lemmas.List.{reverse-append, map-append}
use Rattle.lu_judge_names.specs.declared.events.Event.{Event}
use Rattle.lu_judge_names.specs.Events.{marked_of}
use Rattle.lu_judge_names.specs.Contents.{remarked}

pub map_reverse : {A B : Type 0} (f : A → B) (xs : List A) → map f (reverse xs) ≡ reverse (map f xs)
map_reverse f [] = refl
map_reverse f (x ∷ xs) = ap (map f) (reverse-append (x ∷ []) xs) ∙ map-append f (reverse xs) (x ∷ [])
    ∙ ap (λ ys. ys ++ f x ∷ []) (map_reverse f xs) ∙ sym (reverse-append (f x ∷ []) (map f xs))

-- all events are as they were: so they are from the newest on
pub current_all : (other : ℕ → Bool) (events : List Event) → map (remarked other) (map marked_of events) ≡ map marked_of events
    → map (remarked other) (map marked_of (reverse events)) ≡ map marked_of (reverse events)
current_all other events same =
    ap (map (remarked other)) (map_reverse marked_of events) ∙ map_reverse (remarked other) (map marked_of events) ∙ ap reverse same
    ∙ sym (map_reverse marked_of events)

pub marked_all : (other : ℕ → Bool) (old new : List Event) → map marked_of new ≡ map (remarked other) (map marked_of old)
    → map marked_of (reverse new) ≡ map (remarked other) (map marked_of (reverse old))
marked_all other old new is =
    map_reverse marked_of new ∙ ap reverse is ∙ sym (map_reverse (remarked other) (map marked_of old))
    ∙ ap (map (remarked other)) (sym (map_reverse marked_of old))
