-- One wanted lock more, which isn't for it; or the first one that is.
use Rattle.std.proofs.Common.{◌≡◌, sym, ap, subst, ◌∙◌}
use Rattle.std.specs.Prelude.{Some, None, find}
use Rattle.std.specs.Option.{option_map}
use Rattle.std.proofs.lemmas.List.{take_all}
use Rattle.lu_part.specs.declared.parts.Want.{Want}
use Rattle.lu_spec_laws.specs.Words.Asked.{is_for, wanted_lock}
use Rattle.lu_judge_locks.proofs.Finds.{find_map, still_none, found_at}
use Rattle.lu_judge_locks.proofs.asked.find_wanted.Goals as goal

pub loop-want-preserved : goal.loop-want-preserved
loop-want-preserved c =
    still_none (λ want. is_for c.args.lock.now (wanted_lock c.args.lock.now.cookie c.args.who want)) c.args.wants.now c.loop-want.want-index
    _ c.loop-want-test.true c.loop-want.invariant
    (ap (is_for c.args.lock.now) (sym c.wanted_lock-asked.ensures) ∙ sym c.is_for.ensures ∙ c.if-is_for.false)

pub returns-then-is_for : goal.returns-then-is_for
returns-then-is_for c =
    let fits = λ (want : Want). is_for c.args.lock.now (wanted_lock c.args.lock.now.cookie c.args.who want) in
    ap Some c.wanted_lock-asked.ensures
    ∙ sym (ap (option_map (wanted_lock c.args.lock.now.cookie c.args.who))
    (found_at fits c.args.wants.now c.loop-want.want-index _ c.loop-want-test.true c.loop-want.invariant
    (ap (is_for c.args.lock.now) (sym c.wanted_lock-asked.ensures) ∙ sym c.is_for.ensures ∙ c.if-is_for.true)))
    ∙ sym (find_map (wanted_lock c.args.lock.now.cookie c.args.who) (is_for c.args.lock.now) c.args.wants.now)

pub returns : goal.returns
returns c =
    let fits = λ (want : Want). is_for c.args.lock.now (wanted_lock c.args.lock.now.cookie c.args.who want) in
    sym (ap (option_map (wanted_lock c.args.lock.now.cookie c.args.who))
    (subst (λ wants. find fits wants ≡ None) (take_all c.loop-want.want-index c.args.wants.now c.loop-want-test.false)
    c.loop-want.invariant))
    ∙ sym (find_map (wanted_lock c.args.lock.now.cookie c.args.who) (is_for c.args.lock.now) c.args.wants.now)
