-- Reading lines one after the other, as a loop does.
use Rattle.std.proofs.Common.{◌≡◌, ℕ, suc, ◌+◌, ◌<◌, ◌≤◌, List, [], ◌∷◌, length, get_or, drop, map, Result, Ok, Err, refl, sym, ap, subst}
use Rattle.std.proofs.Common.{◌∙◌, add-one, arith}
use Rattle.std.proofs.Math.Seq.{drop-cons}
use Rattle.std.proofs.lemmas.List.{length-map, get_or-map, length-drop, nil_from_length}
use Rattle.lu_scene.specs.declared.faults.Fault.{Fault}
use Rattle.lu_scene.specs.declared.faults.LineError.{LineError}
use Rattle.lu_scene.specs.declared.faults.LineError.TheVariants as errors
use Rattle.lu_scene.specs.declared.faults.SceneFault.{SceneFault}
use Rattle.lu_scene.specs.declared.faults.SceneFault.TheVariants.{Bad}
use Rattle.lu_scene.specs.declared.reader.Progress.{Progress}
use Rattle.lu_scene.specs.Gives.{Fails}
use Rattle.lu_scene.specs.Ends.{Stops, on_line}
use Rattle.lu_scene.specs.Fields.{◌>>=◌}
use Rattle.lu_scene.specs.Lines.{numbered, line_after, lines_after}

-- a good line is passed
pub passes : (number : ℕ) (p q : Progress) (line : List ℕ) (rest : List (List ℕ)) → line_after p line ≡ Ok q
    → lines_after number p (line ∷ rest) ≡ lines_after (number + 1) q rest
unfolding lines_after
passes number p q line rest e = ap (λ (r : Result Progress Fault). numbered number r >>= λ next. lines_after (number + 1) next rest) e

-- a bad line ends it
pub breaks : (number : ℕ) (p : Progress) (line : List ℕ) (rest : List (List ℕ)) (fault : Fault) → line_after p line ≡ Err fault
    → lines_after number p (line ∷ rest) ≡ Err (Bad number fault)
unfolding lines_after
breaks number p line rest fault e = ap (λ (r : Result Progress Fault). numbered number r >>= λ next. lines_after (number + 1) next rest) e

pub no_lines : (number : ℕ) (p : Progress) → lines_after number p [] ≡ Ok p
unfolding lines_after
no_lines number p = refl

-- the next line stands first in what is left
pub next_line : {X : Type 0} (f : X → List ℕ) (items : List X) (i : ℕ) (d : X) → i < length items → drop i (map f items)
    ≡ f (get_or items i d) ∷ drop (i + 1) (map f items)
next_line f items i d within =
    drop-cons (map f items) i (f d) (subst (λ (n : ℕ). i < n) (sym (length-map items f)) within)
    ∙ ap (λ (line : List ℕ). line ∷ drop (suc i) (map f items)) (get_or-map f items i d (f d) within)
    ∙ ap (λ (n : ℕ). f (get_or items i d) ∷ drop n (map f items)) (sym (add-one i))

pub went_on : {X : Type 0} (f : X → List ℕ) (items : List X) (i : ℕ) (d : X) (p q : Progress) (total : Result Progress SceneFault)
    → i < length items
    → line_after p (f (get_or items i d)) ≡ Ok q → lines_after (i + 1) p (drop i (map f items)) ≡ total
    → lines_after (i + 1 + 1) q (drop (i + 1) (map f items)) ≡ total
went_on f items i d p q total within good so_far =
    sym (ap (lines_after (i + 1) p) (next_line f items i d within)
    ∙ passes (i + 1) p q (f (get_or items i d)) (drop (i + 1) (map f items)) good) ∙ so_far

pub stopped : {X : Type 0} (e : LineError) (f : X → List ℕ) (items : List X) (i : ℕ) (d : X) (p : Progress)
    (total : Result Progress SceneFault) → i < length items
    → Fails e (line_after p (f (get_or items i d))) → lines_after (i + 1) p (drop i (map f items)) ≡ total
    → Stops (on_line (i + 1) e) total
stopped errors.Memory f items i d p total within bad so_far = tt
stopped (errors.Bad fault) f items i d p total within bad so_far =
    sym so_far ∙ ap (lines_after (i + 1) p) (next_line f items i d within)
    ∙ breaks (i + 1) p (f (get_or items i d)) (drop (i + 1) (map f items)) fault bad

pub ended : {X : Type 0} (f : X → List ℕ) (items : List X) (i : ℕ) (p : Progress) (total : Result Progress SceneFault) → length items ≤ i
    → lines_after (i + 1) p (drop i (map f items)) ≡ total → total ≡ Ok p
ended f items i p total past so_far =
    sym so_far ∙ ap (lines_after (i + 1) p) (nil_from_length (drop i (map f items))
    (omega (arith, length-drop i (map f items), length-map items f))) ∙ no_lines (i + 1) p
