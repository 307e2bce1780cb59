-- What performing lines in order comes to: after some of them the others are left.
use Rattle.std.proofs.Common.{◌≡◌, ℕ, ◌+◌, ◌<◌, List, ◌∷◌, length, drop, get_or, Result, Err, refl, sym, subst, ap, ◌∙◌}
use Rattle.std.specs.Result.{IsErrAnd}
use Rattle.std.proofs.lemmas.List.{drop_more}
use Rattle.lu_scene.specs.declared.scene.Scene.{Scene}
use Rattle.lu_scene.specs.declared.scene.SceneLine.{SceneLine}
use Rattle.lu_spec_run.specs.Scenarios.{Config}
use Rattle.lu_core.specs.declared.faults.PlayFault.{PlayFault}
use Rattle.lu_core.specs.declared.players.Progress.{Progress}
use Rattle.lu_core.specs.declared.players.Progress.TheVariants as progress
use Rattle.lu_core.specs.States.{PlayerState}
use Rattle.lu_core.specs.Progress.{IsAt, Comes}

-- a player of which some lines were left has come to one of which others are
abbrev pub LeavesAll : PlayerState → List SceneLine → PlayerState → List SceneLine → Type 0
LeavesAll p lines q rest = (scene : Scene) (c : Config) → IsAt scene p c → c.lines ≡ lines → (d : Config) × IsAt scene q d
    × (d.lines ≡ rest)

-- the lines from a place on
pub next_line : (lines : List SceneLine) (i : ℕ) (line : SceneLine) → i < length lines → line ≡ get_or lines i line → drop i lines ≡ line
    ∷ drop (i + 1) lines
next_line lines i line below is = drop_more lines i line below ∙ ap (λ (l : SceneLine). l ∷ drop (i + 1) lines) (sym is)

-- where a line isn't the last that is performed the lines after it make no difference
pub comes_whole : (scene : Scene) (rest lines : List SceneLine) (q : PlayerState) (came : Progress) → (came ≡ progress.Made → ⊥)
    → Comes scene rest q came → Comes scene lines q came
comes_whole scene rest lines q progress.Made other comes = absurd (other refl)
comes_whole scene rest lines q progress.Full other comes = comes
comes_whole scene rest lines q (progress.Failed t) other comes = comes
comes_whole scene rest lines q (progress.Broken t) other comes = comes

-- a fault that is passed on
pub passed_on : {A B : Type 0} (result : Result A PlayFault) (error fault : PlayFault) → IsErrAnd result (λ e. e ≡ error) → result
    ≡ Err fault
    → ◌≡◌ {A = Result B PlayFault} (Err error) (Err fault)
passed_on result error fault given failed = ap (λ (e : PlayFault). Err e) (sym (subst (λ r. IsErrAnd r (λ e. e ≡ error)) failed given))
