use Rattle.std.proofs.Common.{List, ℕ, inl, ap, sym, subst, ◌∙◌}
use Rattle.lu_scene.specs.Grammar.{IsScene}
use Rattle.lu_scene.specs.declared.faults.SceneFault.TheVariants as faults
use Rattle.lu_top.proofs.Reading.{read_is, that_one, fine, not_refused}
use Rattle.lu_top.proofs.scenes.read_from.Goals as goal

pub returns-in-Ok-read_scene-clause-only : goal.returns-in-Ok-read_scene-clause-only
returns-in-Ok-read_scene-clause-only g c = λ text scene given is.
    let same = c.as_slice.ensures.same ∙ read_is _ _ c.in-Ok.text text c.in-Ok.ensures.whole given.bytes in
    let there = c.read_scene.ensures.only scene (subst (λ (t : List ℕ). IsScene t scene) (sym same) is) in
    inl (ap fine (sym (that_one c.read_scene.result c.in-Ok-read_scene.scene scene faults.Memory c.in-Ok-read_scene.is there)))

pub returns-in-Ok-read_scene-clause-refused : goal.returns-in-Ok-read_scene-clause-refused
returns-in-Ok-read_scene-clause-refused g c = λ text given none.
    let same = c.as_slice.ensures.same ∙ read_is _ _ c.in-Ok.text text c.in-Ok.ensures.whole given.bytes in
    none c.in-Ok-read_scene.scene (subst (λ (t : List ℕ). IsScene t c.in-Ok-read_scene.scene) same c.in-Ok-read_scene.ensures.scene)

pub returns-in-Err-Bad-clause-only : goal.returns-in-Err-Bad-clause-only
returns-in-Err-Bad-clause-only g c = λ text scene given is.
    let same = c.as_slice.ensures.same ∙ read_is _ _ c.in-Ok.text text c.in-Ok.ensures.whole given.bytes in
    let there = c.read_scene.ensures.only scene (subst (λ (t : List ℕ). IsScene t scene) (sym same) is) in
    absurd (not_refused c.read_scene.result c.in-Err-Bad.line c.in-Err-Bad.fault scene (rw c.in-Err-Bad.field-0-is at c.in-Err-Bad.is)
    there)
