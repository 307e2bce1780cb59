-- Each refusal comes from one thing.
use Rattle.std.proofs.Common.{◌≡◌, ◌∙◌, true, false, ap, sym, rules, tests}
use Rattle.lu_window.specs.States.{State, has_older}
use Rattle.lu_window.proofs.windows.Window.admit_join.Goals as goal

apart : {P : Type 0} → true ≡ false → P
apart e = absurd (cc)

pub returns-then-not-has_older-clause-late : goal.returns-then-not-has_older-clause-late
returns-then-not-has_older-clause-late c =
    let off : c.has_older.result ≡ false = search (rules, tests) in
    let none : has_older c.args.who c.args.self.now.window.lives ≡ false =
    sym (ap (λ (s : State). has_older c.args.who s.window.lives) c.self.view_is) ∙ sym c.has_older.ensures ∙ off in
    (λ e. absurd (cc), λ h. apart (sym h.0 ∙ none))

pub returns-then-self-clause-unknown : goal.returns-then-self-clause-unknown
returns-then-self-clause-unknown c =
    let on : c.has_older.result ≡ true = search (rules, tests) in
    let older : has_older c.args.who c.args.self.now.window.lives ≡ true =
    sym (ap (λ (s : State). has_older c.args.who s.window.lives) c.self.view_is) ∙ sym c.has_older.ensures ∙ on in
    (λ e. absurd (cc), λ h. apart (sym older ∙ h))

pub returns-clause-unknown : goal.returns-clause-unknown
returns-clause-unknown c =
    let on : c.has_older.result ≡ true = search (rules, tests) in
    let older : has_older c.args.who c.args.self.now.window.lives ≡ true =
    sym (ap (λ (s : State). has_older c.args.who s.window.lives) c.self.view_is) ∙ sym c.has_older.ensures ∙ on in
    (λ e. absurd (cc), λ h. apart (sym older ∙ h))
