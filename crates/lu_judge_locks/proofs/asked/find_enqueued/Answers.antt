-- One message more: it asks for nothing that fits, or for the lock.
use Rattle.std.proofs.Common.{◌≡◌, ℕ, ◌-◌, ◌+◌, ◌<◌, ◌∙◌, Option, Some, None, true, false, length, drop, get_or, sym, ap, subst, refl}
use Rattle.std.proofs.Common.{arith}
use Rattle.std.specs.Prelude.{find}
use Rattle.std.specs.Option.{option_to_list}
use Rattle.lu_base.specs.declared.locks.Lock.{Lock}
use Rattle.lu_spec_laws.specs.Words.Asked.{is_for}
use Rattle.lu_judge_pass.specs.Tables.{sending_of}
use Rattle.lu_judge_locks.specs.Asked.{enqueued_of, requested_in}
use Rattle.lu_judge_locks.proofs.Asking.{found_in, found_next, found_whole}
use Rattle.lu_judge_locks.proofs.asked.find_enqueued.Goals as goal

pub returns-then-is_for : goal.returns-then-is_for
returns-then-is_for c =
    let asks = requested_in c.args.requests.now c.args.target in
    let cookie = c.args.lock.now.cookie in
    let fits = is_for c.args.lock.now in
    let all = c.args.taken.now in
    let i = c.loop-left.left - 1 in
    let d = c.index-taken-left.result in
    let next : c.loop-left.left - 1 + 1 ≡ c.loop-left.left = omega arith in
    let within : c.loop-left.left - 1 < length all = omega arith in
    let none : found_in asks cookie sending_of fits (drop (i + 1) all) ≡ None =
    subst (λ (n : ℕ). found_in asks cookie sending_of fits (drop n all) ≡ None) (sym next) c.loop-left.invariant.none in
    let one : enqueued_of asks cookie (sending_of (get_or all i d)).message ≡ Some c.in-Some.asked =
    ap (λ s. enqueued_of asks cookie (sending_of s).message) (sym c.index-taken-left.is) ∙ sym c.enqueued_by.ensures ∙ c.in-Some.is in
    let yes : is_for c.args.lock.now c.in-Some.asked ≡ true = sym c.is_for.ensures ∙ c.if-is_for.true in
    let found : find fits (option_to_list (Some c.in-Some.asked)) ≡ Some c.in-Some.asked = rw yes refl in
    sym
    (found_whole asks cookie sending_of fits all i c.in-Some.asked
    (found_next asks cookie sending_of fits all i d within none ∙ ap (λ (o : Option Lock). find fits (option_to_list o)) one ∙ found))

pub loop-left-preserved-else-is_for : goal.loop-left-preserved-else-is_for
loop-left-preserved-else-is_for c =
    let asks = requested_in c.args.requests.now c.args.target in
    let cookie = c.args.lock.now.cookie in
    let fits = is_for c.args.lock.now in
    let all = c.args.taken.now in
    let i = c.loop-left.left - 1 in
    let d = c.index-taken-left.result in
    let next : c.loop-left.left - 1 + 1 ≡ c.loop-left.left = omega arith in
    let within : c.loop-left.left - 1 < length all = omega arith in
    let none : found_in asks cookie sending_of fits (drop (i + 1) all) ≡ None =
    subst (λ (n : ℕ). found_in asks cookie sending_of fits (drop n all) ≡ None) (sym next) c.loop-left.invariant.none in
    let one : enqueued_of asks cookie (sending_of (get_or all i d)).message ≡ Some c.in-Some.asked =
    ap (λ s. enqueued_of asks cookie (sending_of s).message) (sym c.index-taken-left.is) ∙ sym c.enqueued_by.ensures ∙ c.in-Some.is in
    let no : is_for c.args.lock.now c.in-Some.asked ≡ false = sym c.is_for.ensures ∙ c.if-is_for.false in
    let lost : find fits (option_to_list (Some c.in-Some.asked)) ≡ None = rw no refl in
    record {
      within = omega arith;
      none = found_next asks cookie sending_of fits all i d within none ∙ ap (λ (o : Option Lock). find fits (option_to_list o)) one ∙ lost;
    }

pub loop-left-preserved : goal.loop-left-preserved
loop-left-preserved c =
    let asks = requested_in c.args.requests.now c.args.target in
    let cookie = c.args.lock.now.cookie in
    let fits = is_for c.args.lock.now in
    let all = c.args.taken.now in
    let i = c.loop-left.left - 1 in
    let d = c.index-taken-left.result in
    let next : c.loop-left.left - 1 + 1 ≡ c.loop-left.left = omega arith in
    let within : c.loop-left.left - 1 < length all = omega arith in
    let none : found_in asks cookie sending_of fits (drop (i + 1) all) ≡ None =
    subst (λ (n : ℕ). found_in asks cookie sending_of fits (drop n all) ≡ None) (sym next) c.loop-left.invariant.none in
    let one : enqueued_of asks cookie (sending_of (get_or all i d)).message ≡ None =
    ap (λ s. enqueued_of asks cookie (sending_of s).message) (sym c.index-taken-left.is) ∙ sym c.enqueued_by.ensures ∙ c.in_default.is in
    record {
      within = omega arith;
      none = found_next asks cookie sending_of fits all i d within none ∙ ap (λ (o : Option Lock). find fits (option_to_list o)) one;
    }
