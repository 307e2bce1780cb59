use Rattle.std.proofs.Common.{rules, ap, ap₂, codes, true, ◌≡◌, ◌∙◌}
use Rattle.std.proofs.lemmas.Result.{IfErr-weaker, IfOk-weaker}
use Rattle.clap.specs.Words.{App, app_of, is_simple, matches_of, rule_of, takes, with_rule, first_of, found_of}
use Rattle.clap.proofs.WalkLemmas.{first_value-rows}
use Rattle.clap.specs.Simple.{app_of_fields}
use Rattle.lu_top.proofs.Clap.{form, number, with_both, command, simple, taken, word_found, number_found}
use Rattle.lu_top.proofs.forms.matches_of.Goals as goal

pub returns-clause-fails : goal.returns-clause-fails
returns-clause-fails c = λ which says.
    let form_is : rule_of c.action-form.result ≡ form = search rules in
    let number_is : rule_of c.action-number.result ≡ number = search rules in
    let both_is : app_of c.in_ok-command.command ≡ with_both = c.in_ok-command.ensures.shape (search rules)
    ∙ ap₂ with_rule (c.in_ok-arg.ensures.shape (search rules) ∙ ap₂ with_rule c.new-3.ensures.app form_is) number_is in
    let command_is : app_of c.no_binary_name.result ≡ command = ap app_of_fields c.no_binary_name.ensures
    ∙ ap (λ (a : App). record a { top = record a.top { no_binary_name = true } }) both_is in
    IfErr-weaker c.try_get_matches_from.result _ _ (λ e h. h (ap₂ takes command_is says.1 ∙ taken which says.0))
    c.try_get_matches_from.ensures.passes

pub returns-clause-word : goal.returns-clause-word
returns-clause-word c = λ which says.
    let form_is : rule_of c.action-form.result ≡ form = search rules in
    let number_is : rule_of c.action-number.result ≡ number = search rules in
    let both_is : app_of c.in_ok-command.command ≡ with_both = c.in_ok-command.ensures.shape (search rules)
    ∙ ap₂ with_rule (c.in_ok-arg.ensures.shape (search rules) ∙ ap₂ with_rule c.new-3.ensures.app form_is) number_is in
    let command_is : app_of c.no_binary_name.result ≡ command = ap app_of_fields c.no_binary_name.ensures
    ∙ ap (λ (a : App). record a { top = record a.top { no_binary_name = true } }) both_is in
    IfOk-weaker c.try_get_matches_from.result _ _
    (λ m h. first_value-rows (found_of m) (codes "form")
    ∙ ap (first_of (codes "form")) ((h (ap is_simple command_is ∙ simple)).0 ∙ ap₂ matches_of command_is says.1)
    ∙ word_found which says.0)
    c.try_get_matches_from.ensures.matches

pub returns-clause-number : goal.returns-clause-number
returns-clause-number c = λ which says.
    let form_is : rule_of c.action-form.result ≡ form = search rules in
    let number_is : rule_of c.action-number.result ≡ number = search rules in
    let both_is : app_of c.in_ok-command.command ≡ with_both = c.in_ok-command.ensures.shape (search rules)
    ∙ ap₂ with_rule (c.in_ok-arg.ensures.shape (search rules) ∙ ap₂ with_rule c.new-3.ensures.app form_is) number_is in
    let command_is : app_of c.no_binary_name.result ≡ command = ap app_of_fields c.no_binary_name.ensures
    ∙ ap (λ (a : App). record a { top = record a.top { no_binary_name = true } }) both_is in
    IfOk-weaker c.try_get_matches_from.result _ _
    (λ m h. first_value-rows (found_of m) (codes "number")
    ∙ ap (first_of (codes "number")) ((h (ap is_simple command_is ∙ simple)).0 ∙ ap₂ matches_of command_is says.1)
    ∙ number_found which says.0)
    c.try_get_matches_from.ensures.matches
