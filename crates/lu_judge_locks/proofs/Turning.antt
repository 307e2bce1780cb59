-- The last request of a turn of the metadata target, after one more.
use Rattle.std.proofs.Common.{◌≡◌, ℕ, Bool, true, false, ◌&&◌, ◌==◌, Option, Some, None, List, [], ◌∷◌, ◌++◌, refl, ap, ◌∙◌}
use Rattle.std.proofs.lemmas.List.{map-append}
use Rattle.std.specs.Prelude.{if◌then◌else◌, unwrap_or, map}
use Rattle.std.specs.Option.{option_map}
use Rattle.lu_base.specs.declared.ids.At.{At}
use Rattle.lu_base.specs.declared.ids.Who.{Who}
use Rattle.lu_spec_laws.specs.Words.Pasts.{is_target, or_else}
use Rattle.lu_spec_laws.specs.Words.Asked.{Acting}
use Rattle.lu_judge_locks.specs.declared.acts.Acting.{Acting as Kept}
use Rattle.lu_judge_locks.specs.Acts.{acting_of, acting_at}

pub elsewhere : (at : At) (who : Who) (x stamp : ℕ) (old : Option Acting) → is_target 0 at.node ≡ false → old
    ≡ or_else (acting_at at who x stamp) old
elsewhere at who x stamp old away = rw away (by (at.stamp.0 == stamp)) where
  by : (same : Bool) → old ≡ or_else (if same && false then Some (record { who = who; xid = x }) else None) old
  by true = refl
  by false = refl

pub acted : (at : At) (a : Kept) (stamp : ℕ) (old new : Option Kept) → is_target 0 at.node ≡ true → new
    ≡ (if at.stamp.0 == stamp then Some a else old) → option_map acting_of new
    ≡ or_else (acting_at at a.who a.xid.0 stamp) (option_map acting_of old)
acted at a stamp old new here is = rw (here, is) (by (at.stamp.0 == stamp)) where
  by : (same : Bool) → option_map acting_of (if same then Some a else old)
      ≡ or_else (if same && true then Some (acting_of a) else None) (option_map acting_of old)
  by true = refl
  by false = refl

-- ---- a list of a map

-- it is replaced at its key
pub changed : {V R : Type 0} (rows : V → List R) (here : Bool) (list : V) (new old : Option V) (is : List R) → new
    ≡ (if here then Some list else old) → rows list ≡ is → unwrap_or (option_map rows new) []
    ≡ (if here then is else unwrap_or (option_map rows old) [])
changed rows true list new old is now has = rw now has
changed rows false list new old is now has = rw now refl

-- it has one more at its end
pub pushed : {V : Type 0} {X R : Type 0} (items : V → List X) (f : X → R) (here : Bool) (list empty : V) (new mid old found : Option V)
    (x : X) → new ≡ (if here then Some list else mid) → mid ≡ (if here then None else old) → items list ≡ items (unwrap_or found empty) ++ x
    ∷ [] → items empty ≡ []
    → unwrap_or (option_map (λ v. map f (items v)) new) [] ≡ (if here then unwrap_or (option_map (λ v. map f (items v)) found) [] ++ f x
    ∷ [] else unwrap_or (option_map (λ v. map f (items v)) old) [])
pushed items f true list empty new mid old None x is taken has none =
    rw is (ap (map f) has ∙ map-append f (items empty) (x ∷ []) ∙ ap (λ xs. map f xs ++ f x ∷ []) none)
pushed items f true list empty new mid old (Some v) x is taken has none = rw is (ap (map f) has ∙ map-append f (items v) (x ∷ []))
pushed items f false list empty new mid old found x is taken has none = rw (is, taken) refl

-- a number is set at its key
pub unwrapped : (here : Bool) (new old : Option ℕ) (n : ℕ) → new ≡ (if here then Some n else old) → unwrap_or new 0
    ≡ (if here then n else unwrap_or old 0)
unwrapped true new old n is = rw is refl
unwrapped false new old n is = rw is refl

-- something is taken away at its key
pub emptied : {V R : Type 0} (rows : V → R) (none : R) (here : Bool) (new old : Option V) → new ≡ (if here then None else old)
    → unwrap_or (option_map rows new) none ≡ (if here then none else unwrap_or (option_map rows old) none)
emptied rows none true new old is = rw is refl
emptied rows none false new old is = rw is refl

pub zeroed : (here : Bool) (new old : Option ℕ) → new ≡ (if here then None else old) → unwrap_or new 0
    ≡ (if here then 0 else unwrap_or old 0)
zeroed true new old is = rw is refl
zeroed false new old is = rw is refl
