-- What a line that tells makes of the table of what was told of another turn.
use Rattle.std.proofs.Common.{◌≡◌, ℕ, Bool, true, false, Option, Some, None, refl, sym, ap, ◌∙◌}
use Rattle.std.specs.Prelude.{◌==◌, ◌&&◌, ◌||◌, not, if◌then◌else◌}
use Rattle.lu_base.specs.declared.ids.At.{At}
use Rattle.lu_base.specs.declared.ids.Node.TheVariants.{Client}
use Rattle.lu_base.specs.declared.ids.Who.{Who}
use Rattle.lu_spec_laws.specs.Words.Pasts.{Past, same_turn}
use Rattle.lu_spec_laws.specs.Words.Lives.{who_is, is_by}
use Rattle.lu_spec_laws.specs.Laws.Acts.{is_number}
use Rattle.lu_judge_calls.specs.Tables.{is_life}
use Rattle.lu_judge_calls.proofs.Steps.{own_life}

-- the named turn is this one
own_turn : (own same number notion : Bool) → same ≡ true → notion ≡ (((own && not same) && number) || notion)
own_turn true same number notion is = rw is refl
own_turn false same number notion is = refl

pub here_kept : (own number old notion : Bool) (turn at : At) → same_turn turn at ≡ true → old ≡ notion → old
    ≡ (((own && not (same_turn turn at)) && number) || notion)
here_kept own number old notion turn at same shown = shown ∙ own_turn own (same_turn turn at) number notion same

-- the turn heard no request
nothing : (b number notion : Bool) → number ≡ false → notion ≡ ((b && number) || notion)
nothing true number notion is = rw is refl
nothing false number notion is = refl

pub unheard_kept : (b old notion : Bool) (x : ℕ) (heard : Option ℕ) → heard ≡ None → old ≡ notion → old
    ≡ ((b && is_number x heard) || notion)
unheard_kept b old notion x heard none shown = shown ∙ nothing b (is_number x heard) notion (rw none refl)

-- another turn is named, and it heard this request
all_three : (b same : Bool) (number : Bool) → same ≡ false → (b && number) ≡ ((b && not same) && number)
all_three true same number is = rw is refl
all_three false same number is = refl

as_or : (b notion : Bool) → (if b then true else notion) ≡ (b || notion)
as_or true notion = refl
as_or false notion = refl

pub told_put : (c y x : ℕ) (own w : Who) (past : Past) (at turn : At) (heard : Option ℕ) (old new notion : Bool) → at.node ≡ Client c → own
    ≡ who_is c past
    → same_turn turn at ≡ false → Some y ≡ heard → new ≡ (if is_life own w && y == x then true else old) → old ≡ notion
    → new ≡ (((is_by w past at.node && not (same_turn turn at)) && is_number x heard) || notion)
told_put c y x own w past at turn heard old new notion node is other number puts shown =
    puts ∙ rw (own_life c own w past at node is, shown, ← number)
    (as_or (is_by w past at.node && y == x) notion
    ∙ ap (λ (b : Bool). b || notion) (all_three (is_by w past at.node) (same_turn turn at) (y == x) other))
