use Rattle.std.proofs.Common.{◌≡◌, ap, ◌∙◌, List, map, take, subst}
use Rattle.std.proofs.lemmas.List.{take_all}
use Rattle.std.specs.Prelude.{reverse}
use Rattle.lu_spec_laws.specs.Words.Lost.{is_lost}
use Rattle.lu_judge_names.specs.declared.events.Event.{Event}
use Rattle.lu_judge_names.specs.Contents.{Held, remarked}
use Rattle.lu_judge_names.specs.Events.{Marked, marked_of}
use Rattle.lu_judge_names.specs.Names.{NamesState, names_of}
use Rattle.lu_judge_names.proofs.Marks.{marked_all}
use Rattle.lu_judge_names.proofs.contents.Contents.rebuild.Goals as goal

pub returns : goal.returns
returns c = λ past shows.
    let old = c.args.self.now.events.items in
    let new = c.loop-event.events.items in
    let all : take c.loop-event.event-index c.deref-event-items.result.now ≡ old = take_all _ _ c.loop-event-test.false
    ∙ c.deref-event-items.ensures.value in
    let marks : map marked_of (reverse new) ≡ map (remarked (is_lost past 0)) (map marked_of (reverse old)) =
    marked_all (is_lost past 0) old new
    (subst (λ (es : List Event). map marked_of new ≡ map (remarked (is_lost past 0)) (map marked_of es)) all
    (c.loop-event.invariant.marked past shows)) in
    ap (λ (ns : NamesState). let h : Held = record { greatest = c.args.self.now.greatest; marks = map marked_of (reverse new); names = ns }
    in h) c.loop-event.invariant.names
    ∙ ap (λ (ms : List Marked). let h : Held = record {
      greatest = c.args.self.now.greatest;
      marks = ms;
      names =
          names_of c.args.self.now.names.tree.osts ms;
    } in h) marks
