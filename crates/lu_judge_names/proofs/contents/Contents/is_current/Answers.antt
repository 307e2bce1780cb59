use Rattle.std.proofs.Common.{◌≡◌, ◌∙◌, List, map, take, subst}
use Rattle.std.proofs.lemmas.List.{take_all}
use Rattle.lu_spec_laws.specs.Words.Lost.{is_lost}
use Rattle.lu_judge_names.specs.declared.events.Event.{Event}
use Rattle.lu_judge_names.specs.Contents.{remarked}
use Rattle.lu_judge_names.specs.Events.{marked_of}
use Rattle.lu_judge_names.proofs.Marks.{current_all}
use Rattle.lu_judge_names.proofs.contents.Contents.is_current.Goals as goal

pub returns : goal.returns
returns c = λ _ past shows.
    let all : take c.loop-event.event-index c.deref-event-items.result.now ≡ c.args.self.now.events.items =
    take_all _ _ c.loop-event-test.false ∙ c.deref-event-items.ensures.value in
    current_all (is_lost past 0) c.args.self.now.events.items
    (subst (λ (es : List Event). map (remarked (is_lost past 0)) (map marked_of es) ≡ map marked_of es) all
    (c.loop-event.invariant past shows))
