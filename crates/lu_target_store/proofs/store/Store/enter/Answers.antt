-- The journal and the disk are as they were.
use Rattle.std.proofs.Common.{sym, subst}
use Rattle.std.proofs.lemmas.Result.{on_ok_weaker}
use Rattle.lu_target_store.specs.Stores.{StoreState, Serves, HasTaken}
use Rattle.lu_target_store.proofs.Showing.{entered}
use Rattle.lu_target_store.proofs.Keeping.{entered_keeps}
use Rattle.lu_target_store.proofs.store.Store.enter.Goals as goal

pub returns-clause-shows : goal.returns-clause-shows
returns-clause-shows g c =
    on_ok_weaker c.enter.result
    (λ is. λ v s. entered _ _ _ _ _ _ c.args.request.now is v (subst (λ it. Serves it v) (sym c.self.view_is) s))
    c.enter.ensures.entered

pub returns-clause-takes : goal.returns-clause-takes
returns-clause-takes g c =
    let r = c.args.request.now in
    on_ok_weaker c.enter.result
    (λ is. λ who tag some. entered_keeps r.who r.tag r.xid.0 c.self.inside.taken c.enter.new.self is who tag
    (subst (λ (it : StoreState). HasTaken who tag it) (sym c.self.view_is) some))
    c.enter.ensures.entered
