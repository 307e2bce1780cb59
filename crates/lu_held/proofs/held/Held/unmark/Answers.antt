-- Each turn of the loop takes one mark away; at the end none is left.
use Rattle.std.proofs.Common.{◌≡◌, ◌∙◌, ◌<◌, Some, None, length, sym, ap, subst, rules}
use Rattle.std.specs.Prelude.{slice_get, option_map}
use Rattle.lu_held.specs.declared.locks.Change.TheVariants.{Unmark}
use Rattle.lu_held.specs.declared.locks.Wanted.TheVariants.{Marked}
use Rattle.lu_held.specs.Locks.{name_of}
use Rattle.lu_held.specs.Held.{changed, unmarked, those}
use Rattle.lu_held.proofs.Keeping.{the_state}
use Rattle.lu_held.proofs.Unmarks.{left, IsNextMark, next_mark, unmarked_changed, done}
use Rattle.lu_held.proofs.held.Held.unmark.Goals as goal

pub loop-name-smaller : goal.loop-name-smaller
loop-name-smaller c =
    let found : option_map name_of (slice_get (those (Marked c.args.target) c.loop-name.self.locks) 0) ≡ Some c.in-Some.name = search rules
    in
    let next : IsNextMark c.args.target c.loop-name.self.locks c.in-Some.name =
    next_mark c.args.target c.loop-name.self.locks c.in-Some.name c.name_at.ensures.sound found in
    let after : changed c.in-Some.name Unmark c.loop-name.self.locks ≡ c.change.new.self.locks =
    sym (ap (λ state. state.locks) c.change.ensures.changed) in
    subst (λ locks. length (left c.args.target locks) < length (left c.args.target c.loop-name.self.locks)) after next.less

pub loop-name-preserved : goal.loop-name-preserved
loop-name-preserved c =
    let found : option_map name_of (slice_get (those (Marked c.args.target) c.loop-name.self.locks) 0) ≡ Some c.in-Some.name = search rules
    in
    let next : IsNextMark c.args.target c.loop-name.self.locks c.in-Some.name =
    next_mark c.args.target c.loop-name.self.locks c.in-Some.name c.name_at.ensures.sound found in (
      ap (λ state. unmarked c.args.target state.locks) c.change.ensures.changed
          ∙ unmarked_changed c.args.target c.in-Some.name c.loop-name.self.locks next.target ∙ c.loop-name.invariant.0,
      ap (λ state. state.unused) c.change.ensures.changed ∙ c.loop-name.invariant.1,
    )

pub returns-clause-unmarked : goal.returns-clause-unmarked
returns-clause-unmarked c =
    let none : option_map name_of (slice_get (those (Marked c.args.target) c.loop-name.self.locks) 0) ≡ None = search rules in
    let same : c.loop-name.self.locks ≡ unmarked c.args.target c.args.self.now.locks = sym (done c.args.target c.loop-name.self.locks none)
    ∙ c.loop-name.invariant.0 in
    ap (λ unused. the_state unused c.loop-name.self.locks) c.loop-name.invariant.1
    ∙ ap (λ locks. the_state c.args.self.now.unused locks) same
