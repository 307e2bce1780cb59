-- The object's entry, or nothing.
use Rattle.std.proofs.Common.{ap, sym, ◌∙◌, Option}
use Rattle.std.specs.Prelude.{unwrap_or}
use Rattle.lu_spec_client.specs.Patches.{Patch, clean}
use Rattle.lu_spec_client.specs.Caches.{patch_at}
use Rattle.lu_cache.proofs.Tables.{at_lookup}
use Rattle.lu_client_store.proofs.patches.Patches.object.Goals as goal

pub returns : goal.returns
returns c = record {
  patch = ap (λ (o : Option Patch). unwrap_or o clean) c.get.ensures.value
      ∙ sym (at_lookup clean c.args.resource c.self.inside.objects.entries) ∙ ap (patch_at c.args.resource) c.self.view_is;
}
