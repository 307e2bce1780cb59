-- The requests are at least as many as the tags that are taken from 0 on.
use Rattle.std.proofs.Common.{◌+◌, ◌≤◌, ◌∙◌, length, sym, arith}
use Rattle.lu_import.proofs.Tags.{taken_below, taken_with}
use Rattle.lu_import.proofs.requests.free_tag.Goals as goal

pub overflow_add-tag : goal.overflow_add-tag
overflow_add-tag c =
    let within : c.loop-tag.tag + 1 ≤ length c.args.requests.now =
    taken_with c.loop-tag.tag c.args.requests.now c.loop-tag.invariant (sym c.has_tag.ensures ∙ c.loop-tag-test.true) in
    omega arith

pub loop-tag-smaller : goal.loop-tag-smaller
loop-tag-smaller c =
    let within : c.loop-tag.tag + 1 ≤ length c.args.requests.now =
    taken_with c.loop-tag.tag c.args.requests.now c.loop-tag.invariant (sym c.has_tag.ensures ∙ c.loop-tag-test.true) in
    omega arith

pub returns-clause-within : goal.returns-clause-within
returns-clause-within c = taken_below c.loop-tag.tag c.args.requests.now c.loop-tag.invariant
