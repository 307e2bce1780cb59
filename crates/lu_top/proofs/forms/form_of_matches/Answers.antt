use Rattle.std.proofs.Common.{ap, sym, ◌∙◌, option_map, List, ℕ, Bor}
use Rattle.lu_top.proofs.Words.{found_is}
use Rattle.lu_top.proofs.forms.form_of_matches.Goals as goal

pub returns-in-Some : goal.returns-in-Some
returns-in-Some c =
    record {
      form = λ form is word number.
          found_is c.in-Some.word.now _ c.form_of.result form c.form_of.ensures.some c.form_of.ensures.none is
          (ap (option_map (λ (s : Bor (List ℕ)). s.now)) (sym c.in-Some.is) ∙ c.get_str.ensures ∙ word)
          (c.get_str-in-Some.ensures ∙ number);
    }
