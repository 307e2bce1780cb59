-- Of the list that there is, what lasts.
use Rattle.std.proofs.Common.{◌≡◌, ◌∙◌, sym, ap, []}
use Rattle.std.specs.Prelude.{filter, map, unwrap_or}
use Rattle.std.specs.Option.{option_map, option_copied}
use Rattle.std.proofs.lemmas.Result.{IfOk-weaker}
use Rattle.lu_judge_locks.specs.Lists.{arrival_of, lasts, list_on}
use Rattle.lu_judge_locks.proofs.Filters.{map_filter}
use Rattle.lu_judge_locks.proofs.lists.LockLists.lasting.Goals as goal

pub returns-in-Some : goal.returns-in-Some
returns-in-Some c =
    let list : list_on c.args.self.now c.args.target c.args.resource ≡ map arrival_of c.in-Some.list.now.items =
    ap (λ o. unwrap_or (option_map (λ list. map arrival_of list.items) o) []) (sym c.get.ensures.value ∙ ap option_copied c.in-Some.is) in
    IfOk-weaker c.lasting_of.result _ _
    (λ lasting is.
    ap (map arrival_of) (is ∙ ap (filter (λ placed. lasts c.args.self.now c.args.target (arrival_of placed))) c.deref.ensures.value)
    ∙ map_filter arrival_of (lasts c.args.self.now c.args.target) c.in-Some.list.now.items
    ∙ ap (filter (lasts c.args.self.now c.args.target)) (sym list))
    c.lasting_of.ensures

pub returns-in-None : goal.returns-in-None
returns-in-None c =
    let list : list_on c.args.self.now c.args.target c.args.resource ≡ [] =
    ap (λ o. unwrap_or (option_map (λ list. map arrival_of list.items) o) []) (sym c.get.ensures.value ∙ ap option_copied c.in-None.is) in
    ap (map arrival_of) c.new.ensures.items ∙ ap (filter (lasts c.args.self.now c.args.target)) (sym list)
