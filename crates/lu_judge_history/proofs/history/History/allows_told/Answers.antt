-- What is told, as the law has it.
use Rattle.std.proofs.Common.{◌≡◌, Some, sym, ap, subst, ◌∙◌}
use Rattle.std.specs.Option.{option_map}
use Rattle.std.proofs.lemmas.Result.{IfOk-weaker}
use Rattle.lu_spec_laws.specs.Words.Lives.{who_is, is_gone}
use Rattle.lu_spec_laws.specs.Words.Lost.{is_lost}
use Rattle.lu_spec_laws.specs.Words.Calls.{open_call}
use Rattle.lu_judge_calls.specs.Tables.{begun_of}
use Rattle.lu_judge_calls.specs.Marks.{IsWithin}
use Rattle.lu_judge_history.specs.Shown.{whole_of}
use Rattle.lu_judge_history.proofs.Limits.{OfBegun, call_within}
use Rattle.lu_judge_history.proofs.Telling.{who_at, told_gone, told_otherwise, told_no_call, told_uncounted, told_here, told_there}
use Rattle.lu_judge_history.proofs.history.History.allows_told.Goals as goal

pub returns-then-has : goal.returns-then-has
returns-then-has c = λ past shown ordered follows.
    let whole = whole_of c.args.self.now in
    told_gone (is_gone whole) (is_lost whole) c.args.self.now.osts past c.args.at c.args.client c.args.slot c.args.turn c.args.answer.now
    (ap (is_gone whole) (sym (c.who-who.ensures.who ∙ who_at c.args.self.now.ledger.lives past shown.ledger.lives c.args.client))
    ∙ sym (shown.gone _) ∙ sym c.has.ensures.gone ∙ c.if-has.true)

pub returns-then-not-is_answer : goal.returns-then-not-is_answer
returns-then-not-is_answer c = λ past shown ordered follows.
    let whole = whole_of c.args.self.now in
    told_otherwise (is_gone whole) (is_lost whole) c.args.self.now.osts past c.args.at c.args.client c.args.slot c.args.turn
    c.args.answer.now
    (sym c.is_answer.ensures ∙ c.if-not-is_answer.true)

pub returns-in_default : goal.returns-in_default
returns-in_default c = λ past shown ordered follows.
    let whole = whole_of c.args.self.now in
    told_no_call (is_gone whole) (is_lost whole) c.args.self.now.osts past c.args.at c.args.client c.args.slot c.args.turn c.args.answer.now
    (sym (c.call.ensures.call past shown.calls) ∙ ap (option_map begun_of) c.in_default.is)

pub returns-then-not-is_counted : goal.returns-then-not-is_counted
returns-then-not-is_counted c = λ past shown ordered follows.
    let whole = whole_of c.args.self.now in
    told_uncounted (is_gone whole) (is_lost whole) c.args.self.now.osts past c.args.at c.args.client c.args.slot c.args.turn
    c.args.answer.now (begun_of c.in-Some.begun)
    (sym (ap (option_map begun_of) c.in-Some.is) ∙ c.call.ensures.call past shown.calls)
    (sym c.is_counted.ensures ∙ c.if-not-is_counted.true)

pub returns-then-same_turn : goal.returns-then-same_turn
returns-then-same_turn c =
    IfOk-weaker c.tells.result _ _
    (λ tells is past shown ordered follows.
    let whole = whole_of c.args.self.now in
    let whose : c.who-who.result ≡ who_is c.args.client past = c.who-who.ensures.who
    ∙ who_at c.args.self.now.ledger.lives past shown.ledger.lives c.args.client in
    let begun : Some (begun_of c.in-Some.begun) ≡ open_call c.args.client c.args.slot past = sym (ap (option_map begun_of) c.in-Some.is)
    ∙ c.call.ensures.call past shown.calls in
    let within : IsWithin c.in-Some.begun.call.now = subst OfBegun (sym begun) (call_within past shown.limits c.args.client c.args.slot) in
    told_here (is_gone whole) (is_lost whole) c.args.self.now.osts past c.args.at c.args.client c.args.slot c.args.turn c.args.answer.now
    (begun_of c.in-Some.begun) c.who-who.result tells
    begun whose
    (ap (is_gone whole) (sym whose) ∙ sym (shown.gone _) ∙ sym c.has.ensures.gone ∙ c.if-has.false)
    (sym c.is_answer.ensures ∙ c.if-not-is_answer.false) (sym c.is_counted.ensures ∙ c.if-not-is_counted.false)
    (sym c.same_turn.ensures ∙ c.if-same_turn.true)
    (is c.args.self.now.osts (is_gone whole) (is_lost whole) past within shown.played))
    c.tells.ensures.tells

pub returns-else-same_turn : goal.returns-else-same_turn
returns-else-same_turn c = λ past shown ordered follows.
    let whole = whole_of c.args.self.now in
    let whose : c.who-who.result ≡ who_is c.args.client past = c.who-who.ensures.who
    ∙ who_at c.args.self.now.ledger.lives past shown.ledger.lives c.args.client in
    let begun : Some (begun_of c.in-Some.begun) ≡ open_call c.args.client c.args.slot past = sym (ap (option_map begun_of) c.in-Some.is)
    ∙ c.call.ensures.call past shown.calls in
    told_there (is_gone whole) (is_lost whole) c.args.self.now.osts past c.args.at c.args.client c.args.slot c.args.turn c.args.answer.now
    (begun_of c.in-Some.begun) c.who-who.result _
    begun whose
    (ap (is_gone whole) (sym whose) ∙ sym (shown.gone _) ∙ sym c.has.ensures.gone ∙ c.if-has.false)
    (sym c.is_answer.ensures ∙ c.if-not-is_answer.false) (sym c.is_counted.ensures ∙ c.if-not-is_counted.false)
    (sym c.same_turn.ensures ∙ c.if-same_turn.false)
    (c.is_told_there.ensures past shown ordered follows)
