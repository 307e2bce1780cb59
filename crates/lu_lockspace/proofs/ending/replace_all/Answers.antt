-- One more took its place; and none is left at the end.
use Rattle.std.proofs.Common.{◌≡◌, ◌∙◌, [], ◌∷◌, ◌++◌, List, length, drop, refl, sym, ap, subst, arith}
use Rattle.std.specs.Map.{keys_of}
use Rattle.std.specs.Option.{option_to_list}
use Rattle.lu_lockspace.specs.Ending.{AllThere, AllReplaced}
use Rattle.lu_lockspace.specs.Notes.{AllFewer}
use Rattle.lu_lockspace.proofs.Ended.{there_more, fewer_more}
use Rattle.lu_lockspace.proofs.ending.replace_all.Goals as goal

-- what loses nothing with its first is empty
none_left : {X : Type 0} (xs ys : List X) → xs ≡ ys → ys ≡ drop 1 xs → xs ≡ []
none_left [] ys same rest = refl
none_left (x ∷ xs) ys same rest =
    let shorter : length (x ∷ xs) ≡ length xs = ap length (same ∙ rest) in
    absurd (omega (arith, shorter))

pub replace-requires-clause-there : goal.replace-requires-clause-there
replace-requires-clause-there c =
    (subst (λ es. AllThere c.loop-resource.queues (keys_of es)) c.in-Some.ensures.items c.loop-resource.invariant.1).0

pub replace-requires-clause-fewer : goal.replace-requires-clause-fewer
replace-requires-clause-fewer c =
    (subst (λ es. AllFewer es c.loop-resource.queues) c.in-Some.ensures.items c.loop-resource.invariant.3).0

pub loop-resource-preserved : goal.loop-resource-preserved
loop-resource-preserved c =
    let there : AllThere c.loop-resource.queues (keys_of ((c.in-Some.resource, c.in-Some.queue) ∷ c.pop_front.new.self.items)) =
    subst (λ es. AllThere c.loop-resource.queues (keys_of es)) c.in-Some.ensures.items c.loop-resource.invariant.1 in (
      λ after h. c.loop-resource.invariant.0 after (subst (λ es. AllReplaced es c.loop-resource.queues after) (sym c.in-Some.ensures.items)
          (c.replace.new.self, c.replace.ensures.rising, c.replace.ensures.here, c.replace.ensures.others, h)),
      there_more c.in-Some.resource c.loop-resource.queues c.replace.new.self (keys_of c.pop_front.new.self.items) c.replace.ensures.others
          there.1 there.2,
      c.replace.ensures.rising,
      fewer_more c.in-Some.resource c.loop-resource.queues c.replace.new.self c.pop_front.new.self.items c.replace.ensures.others there.1
          (subst (λ es. AllFewer es c.loop-resource.queues) c.in-Some.ensures.items c.loop-resource.invariant.3).1,
    )

pub returns-clause-replaced : goal.returns-clause-replaced
returns-clause-replaced c =
    c.loop-resource.invariant.0 c.loop-resource.queues (subst (λ es. AllReplaced es c.loop-resource.queues c.loop-resource.queues)
    (sym (none_left c.loop-resource.ended.items c.pop_front.new.self.items
    (c.pop_front.ensures.items ∙ ap (λ o. option_to_list o ++ c.pop_front.new.self.items) c.in_default.is) c.pop_front.ensures.rest))
    refl)
