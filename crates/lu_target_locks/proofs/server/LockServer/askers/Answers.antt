-- Who asked, where no life leaves.
use Rattle.std.proofs.Common.{rules, ◌≡◌, ◌∙◌, List, [], ap, sym, subst}
use Rattle.std.specs.Prelude.{filter_map}
use Rattle.lu_base.specs.declared.ids.Cookie.{Cookie}
use Rattle.lu_callback.specs.declared.callbacks.Kind.{Kind}
use Rattle.lu_target_locks.specs.Leaving.{asked_by, kinds_of}
use Rattle.lu_target_locks.specs.Servers.{Shows}
use Rattle.lu_target_locks.proofs.Departures.{asked_of}
use Rattle.lu_target_locks.proofs.server.LockServer.askers.Goals as goal

pub returns : goal.returns
returns c = record {
  askers = λ v l shows same.
      let kinds : c.as_slice.result.now ≡ kinds_of c.args.cookie c.self.inside.calls = search rules in
      let items : c.from.result ≡ filter_map (asked_by []) c.as_slice.result.now = search rules in
      items ∙ ap (filter_map (asked_by [])) kinds
      ∙ ap (λ (cookie : Cookie). filter_map (asked_by []) (kinds_of cookie c.self.inside.calls)) (sym same)
      ∙ asked_of c.self.inside.calls v l (subst (λ s. Shows s v) (sym c.self.view_is) shows).calls;
}
