-- The topic's row in order of cookies leads to the fact of least cookie.
use Rattle.std.proofs.Common.{◌≡◌, Option, Some, None, refl, ap, sym, subst, ◌∙◌}
use Rattle.std.specs.Prelude.{option_map}
use Rattle.std.specs.Option.{option_copied}
use Rattle.std.specs.Map.{lookup}
use Rattle.lu_base.specs.declared.ids.Cookie.{Cookie}
use Rattle.lu_cache.specs.Topics.{part_of, row_fact}
use Rattle.lu_cache.specs.Usable.{fact_under}
use Rattle.lu_cache.specs.Filings.{in_row}
use Rattle.lu_cache.specs.Logs.{Log, facts_of, newest}
use Rattle.lu_cache.proofs.Falling.{looked_up}
use Rattle.lu_cache.proofs.Choosing.{none_filed, none_chosen, chosen}
use Rattle.lu_cache.proofs.Seeing.{seen_under}
use Rattle.lu_cache.proofs.log.Facts.find.Goals as goal

pub returns-in_err-cookies : goal.returns-in_err-cookies
returns-in_err-cookies g c =
    let t = c.args.topic.now in
    let may_use = g.G.Guards.may_use c.args.guards.now in
    let log = c.self.inside.log.entries in
    record {
      found = λ n seen.
          ap (λ o. option_map row_fact (option_copied o)) c.from_residual.ensures
          ∙ none_filed t may_use log c.self.invariant.rising
          (λ d. ap (λ o. in_row o d) c.in_err-cookies.ensures.row ∙ c.self.invariant.topics t d)
          ∙ ap (λ (l : Log). fact_under (part_of t) may_use (facts_of l)) c.self.view_is
          ∙ seen_under (part_of t) may_use (facts_of c.args.self.now) n seen;
    }

pub returns-in_err-number : goal.returns-in_err-number
returns-in_err-number g c =
    let t = c.args.topic.now in
    let may_use = g.G.Guards.may_use c.args.guards.now in
    let log = c.self.inside.log.entries in
    record {
      found = λ n seen.
          ap (λ o. option_map row_fact (option_copied o)) c.from_residual-in_err-number.ensures
          ∙ none_chosen t may_use log c.self.invariant.rising c.in_ok-cookies.cookies.now
          (λ d. ap (λ o. in_row o d) c.in_ok-cookies.ensures.row ∙ c.self.invariant.topics t d) c.first_usable.ensures.sorted
          (sym c.in_err-number.ensures.first)
          ∙ ap (λ (l : Log). fact_under (part_of t) may_use (facts_of l)) c.self.view_is
          ∙ seen_under (part_of t) may_use (facts_of c.args.self.now) n seen;
    }

pub returns : goal.returns
returns g c =
    let t = c.args.topic.now in
    let may_use = g.G.Guards.may_use c.args.guards.now in
    let log = c.self.inside.log.entries in
    record {
      found = λ n seen.
          ap (option_map row_fact) (c.get.ensures.value ∙ looked_up c.in_ok-number.number.now log)
          ∙ chosen t may_use log c.self.invariant.rising c.in_ok-cookies.cookies.now
          (λ d. ap (λ o. in_row o d) c.in_ok-cookies.ensures.row ∙ c.self.invariant.topics t d) c.first_usable.ensures.sorted
          (c.in_ok-number.field-0-0.now, c.in_ok-number.number.now) (sym c.in_ok-number.ensures.first)
          ∙ ap (λ (l : Log). fact_under (part_of t) may_use (facts_of l)) c.self.view_is
          ∙ seen_under (part_of t) may_use (facts_of c.args.self.now) n seen;
    }
