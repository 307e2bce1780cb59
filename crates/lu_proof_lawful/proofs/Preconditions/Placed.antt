-- What is put at its place, in a list in which nothing of it is counted, changes no count.
use Rattle.std.proofs.Common.{◌≡◌, Bool, true, false, List, [], ◌∷◌, Option, Some, None, ap}
use Rattle.std.specs.Prelude.{filter, if◌then◌else◌}
use Rattle.std.proofs.lemmas.Bool.{cond-false}
use Rattle.lu_base.specs.declared.ids.Who.{Who}
use Rattle.lu_spec_entries.specs.Carried.{Said}
use Rattle.lu_spec_entries.specs.Words.{same_life}
use Rattle.lu_spec_target.specs.Windows.{placed, word_before, with_word, word_of}

-- one that isn't counted changes no count
pub filter_placed : {A : Type 0} (before : A → A → Bool) (p : A → Bool) (x : A) (xs : List A) → p x ≡ false → filter p (placed before x xs)
    ≡ filter p xs
filter_placed before p x [] out = cond-false (p x) (x ∷ []) [] out
filter_placed {A} before p x (y ∷ ys) out = by (before x y) (filter_placed before p x ys out)
  where
    by : (b : Bool) → filter p (placed before x ys) ≡ filter p ys → filter p (if b then x ∷ y ∷ ys else y ∷ placed before x ys)
        ≡ filter p (y ∷ ys)
    by true ih = cond-false (p x) (x ∷ filter p (y ∷ ys)) (filter p (y ∷ ys)) out
    by false ih = ap (λ (zs : List A). if p y then y ∷ zs else zs) ih

-- another life's word doesn't either
pub word_placed : (word : Said) (words : List Said) (who : Who) → same_life word.who who ≡ false → word_of who (with_word word words)
    ≡ word_of who words
word_placed word [] who out = cond-false (same_life word.who who) (Some word) None out
word_placed word (w ∷ words) who out = by (word_before word w) (word_placed word words who out)
  where
    by : (b : Bool) → word_of who (with_word word words) ≡ word_of who words
        → word_of who (if b then word ∷ w ∷ words else w ∷ placed word_before word words) ≡ word_of who (w ∷ words)
    by true ih = cond-false (same_life word.who who) (Some word) (word_of who (w ∷ words)) out
    by false ih = ap (λ (o : Option Said). if same_life w.who who then Some w else o) ih
