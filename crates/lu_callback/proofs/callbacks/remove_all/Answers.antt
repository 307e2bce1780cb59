-- Lock by lock.
use Rattle.std.proofs.Common.{◌≡◌, ◌∙◌, ◌+◌, [], ◌∷◌, List, drop, sym, ap}
use Rattle.std.proofs.lemmas.List.{drop_all, drop_more}
use Rattle.lu_base.specs.declared.ids.Cookie.{Cookie}
use Rattle.lu_callback.specs.Callbacks.{without_locks}
use Rattle.lu_callback.specs.Filed.{all_asked}
use Rattle.lu_callback.proofs.Ending.{of_none, of_next}
use Rattle.lu_callback.proofs.callbacks.remove_all.Goals as goal

pub loop-cookie-preserved : goal.loop-cookie-preserved
loop-cookie-preserved c =
    let locks = c.args.locks.now in
    let i = c.loop-cookie.cookie-index in
    let asked = all_asked c.loop-cookie.holders.entries in
    record {
      held = c.remove.ensures.held;
      same =
          ap (without_locks (drop (i + 1) locks)) c.remove.ensures.without
          ∙ of_next _ (drop (i + 1) locks) asked
          ∙ ap (λ (cookies : List Cookie). without_locks cookies asked) (sym (drop_more locks i _ c.loop-cookie-test.true))
          ∙ c.loop-cookie.invariant.same;
    }

pub returns-clause-without : goal.returns-clause-without
returns-clause-without c =
    let locks = c.args.locks.now in
    let left = all_asked c.loop-cookie.holders.entries in
    sym (of_none left)
    ∙ ap (λ (cookies : List Cookie). without_locks cookies left) (sym (drop_all c.loop-cookie.cookie-index locks c.loop-cookie-test.false))
    ∙ c.loop-cookie.invariant.same
