-- Readers of words, one step after another.
use Rattle.std.proofs.Common.{◌≡◌, ◌≢◌, ℕ, List, [], ◌∷◌, ◌++◌, Option, Some, refl, ap}
use Rattle.lu_trace.specs.Words.{words}
use Rattle.lu_judge_reader.specs.Reading.{Read, Reader, further, ◌>>=◌, with_left, one}

-- a word whose value is known
pub one_then : {A B : Type 0} (f : List ℕ → Option A) (g : A → Reader B) (w : List ℕ) (ws : List (List ℕ)) (v : A) → f w ≡ Some v
    → (one f >>= g) (w ∷ ws) ≡ g v ws
one_then {A} {B} f g w ws v is = ap (λ (o : Option A). further (with_left o ws) g) is

-- words whose value is known
pub then_again : {A B : Type 0} (r : Reader A) (g : A → Reader B) (ws rest : List (List ℕ)) (v : A) → r ws ≡ Some (v, rest) → (r >>= g) ws
    ≡ g v rest
then_again {A} {B} r g ws rest v is = ap (λ (o : Read A). further o g) is

-- words that end in the text of words are those words
pub last_words : (before ws : List (List ℕ)) → ws ≢ [] → words (before ++ words ws ∷ []) ≡ words (before ++ ws)
last_words [] ws some = refl
last_words (p ∷ []) [] some = absurd (some refl)
last_words (p ∷ []) (w ∷ ws) some = refl
last_words (p ∷ q ∷ before) ws some = ap (λ (t : List ℕ). p ++ 32 ∷ t) (last_words (q ∷ before) ws some)
