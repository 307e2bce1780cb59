-- The callbacks' are the rows'.
use Rattle.std.proofs.Common.{map, sym, ap, subst, ◌∙◌}
use Rattle.std.specs.Prelude.{slice_get}
use Rattle.std.proofs.lemmas.Option.{slice_get-map}
use Rattle.lu_base.specs.declared.ids.Cookie.{Cookie}
use Rattle.lu_callback.specs.declared.callbacks.Asked.{Asked}
use Rattle.lu_callback.specs.Callbacks.{of_lock}
use Rattle.lu_target_refines.proofs.Answered.{kinds_of}
use Rattle.lu_target_locks.specs.Servers.{ServerState, Shows}
use Rattle.lu_target_locks.proofs.server.LockServer.outstanding.Goals as goal

pub returns : goal.returns
returns c = record {
  asked = λ v l s same.
      c.of.ensures.asked
      ∙ sym (slice_get-map (λ (a : Asked). a.kind) (of_lock c.args.cookie c.self.inside.calls) c.args.at)
      ∙ ap (λ (k : Cookie). slice_get (map {A = Asked} (λ a. a.kind) (of_lock k c.self.inside.calls)) c.args.at) (sym same)
      ∙ ap (λ ks. slice_get ks c.args.at) (kinds_of v c.self.inside.calls l
      (subst (λ (it : ServerState). Shows it v) (sym c.self.view_is) s).calls);
}
