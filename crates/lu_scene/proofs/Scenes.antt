-- What is read is the scenario that the text is, each scenario is read, and a fault is the first one.
use Rattle.std.proofs.Common.{◌≡◌, ℕ, List, [], Result, Ok, Err, refl, sym, ap, subst, ◌∙◌}
use Rattle.lu_scene.specs.declared.faults.Fault.{Fault}
use Rattle.lu_scene.specs.declared.faults.SceneFault.{SceneFault}
use Rattle.lu_scene.specs.declared.faults.SceneFault.TheVariants as outcomes
use Rattle.lu_scene.specs.declared.reader.Progress.{Progress}
use Rattle.lu_scene.specs.declared.scene.Scene.{Scene}
use Rattle.lu_scene.specs.Ends.{Stops}
use Rattle.lu_scene.specs.Lines.{lines_of, lines_after, nothing}
use Rattle.lu_scene.specs.Grammar.{IsScene, progress_of, IsFirstFault}
use Rattle.lu_scene.proofs.Reached.{begun, all_good, first_fault}
use Rattle.lu_scene.proofs.Complete.{all_again}

-- the scenario that was read
abbrev pub scene_of : Progress → Scene
scene_of p = record { head = p.head; lines = p.lines }

pub was_scene : (text : List ℕ) (p : Progress) → lines_after 1 nothing (lines_of text) ≡ Ok p → IsScene text (scene_of p)
was_scene text p e =
    let good = all_good 1 [] [] [] (lines_of text) p begun e in
    subst (λ (q : Progress). IsScene text (scene_of q)) (sym good.3) (good.0, good.2, refl)

abbrev fine : Progress → Result Progress SceneFault
fine p = Ok p

same_progress : (p q : Progress) → fine p ≡ fine q → p ≡ q
same_progress p q e = cc

not_wrong : {A : Type 0} (p : Progress) (e : SceneFault) → fine p ≡ Err e → A
not_wrong p e is = absurd (cc is)

scene_again : (text : List ℕ) (scene : Scene) (is : IsScene text scene) → lines_after 1 nothing (lines_of text)
    ≡ Ok (progress_of is.0 scene.lines)
scene_again text scene is = all_again (lines_of text) is.0 scene.lines is.1

-- what is read is the scenario
pub same_scene : (text : List ℕ) (p : Progress) (scene : Scene) → lines_after 1 nothing (lines_of text) ≡ Ok p → IsScene text scene
    → scene_of p ≡ scene
same_scene text p scene e is =
    let same = same_progress p (progress_of is.0 scene.lines) (sym e ∙ scene_again text scene is) in
    ap scene_of same ∙ ap (λ h. record { head = h; lines = scene.lines }) (sym is.2)

-- where it isn't read, memory ran out
pub only_memory : (text : List ℕ) (e : SceneFault) (scene : Scene) → Stops e (lines_after 1 nothing (lines_of text)) → IsScene text scene
    → e ≡ outcomes.Memory
only_memory text outcomes.Memory scene stops is = refl
only_memory text (outcomes.Bad number fault) scene stops is =
    not_wrong (progress_of is.0 scene.lines) (outcomes.Bad number fault) (sym (scene_again text scene is) ∙ stops)

-- the fault is that of the first bad line
pub was_fault : (text : List ℕ) (e : SceneFault) (number : ℕ) (fault : Fault) → Stops e (lines_after 1 nothing (lines_of text)) → e
    ≡ outcomes.Bad number fault
    → IsFirstFault (lines_of text) number fault
was_fault text outcomes.Memory number fault stops is = absurd (cc is)
was_fault text (outcomes.Bad n f) number fault stops is =
    first_fault 1 [] [] [] (lines_of text) number fault begun refl (stops ∙ ap (λ (e : SceneFault). Err e) is)
