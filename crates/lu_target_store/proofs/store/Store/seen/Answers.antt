-- The journal's log is that of the rows.
use Rattle.std.proofs.Common.{◌∙◌, sym, subst}
use Rattle.std.proofs.lemmas.Result.{IfOk-weaker}
use Rattle.lu_target_refines.proofs.Journals.{sees}
use Rattle.lu_target_store.specs.Stores.{Serves}
use Rattle.lu_target_store.specs.Taken.{taken_of}
use Rattle.lu_target_store.proofs.store.Store.seen.Goals as goal

pub returns : goal.returns
returns g c = record {
  seen =
      IfOk-weaker c.seen.result _ _
      (λ numbers is. λ v s. is ∙ sym (sees (taken_of c.self.inside.taken) c.self.inside.journal v c.args.touched.now
      (subst (λ it. Serves it v) (sym c.self.view_is) s).journal))
      c.seen.ensures.seen;
}
