use Rattle.std.proofs.Common.{◌≡◌, ◌∷◌, sym, ap, ◌∙◌}
use Rattle.lu_base.proofs.Outcomes.{some_weaker, none_weaker, some_items}
use Rattle.lu_base.proofs.Paths.{path_of-parts, no_path-parts}
use Rattle.lu_base.proofs.text.read_path.Goals as goal

pub returns-clause-some : goal.returns-clause-some
returns-clause-some c =
    let rest = c.in-Some.rest.now in
    let cut : c.args.text.now ≡ 47 ∷ rest = c.in-Some.ensures.cases.0 ∙ ap (λ first. first ∷ rest) c.if-first-ne47.false in
    some_weaker c.read_names.result (λ names known. path_of-parts c.args.text.now rest names cut c.if-text-gt-MOST_PATH_BYTES.false known)
    c.read_names.ensures.some

pub returns-clause-none : goal.returns-clause-none
returns-clause-none c =
    let rest = c.in-Some.rest.now in
    let cut : c.args.text.now ≡ 47 ∷ rest = c.in-Some.ensures.cases.0 ∙ ap (λ first. first ∷ rest) c.if-first-ne47.false in
    none_weaker c.read_names.result (no_path-parts c.args.text.now rest cut
    (some_items rest (sym c.is_empty.ensures ∙ c.if-is_empty.false))) c.read_names.ensures.none
