-- The object's entry, or nothing.
use Rattle.std.proofs.Common.{[], ap, sym, ◌∙◌, Option}
use Rattle.std.specs.Prelude.{unwrap_or}
use Rattle.lu_spec_client.specs.Caches.{bytes_at}
use Rattle.lu_spec_bytes.specs.Changes.{Bytes}
use Rattle.lu_cache.proofs.Tables.{at_lookup}
use Rattle.lu_cache.proofs.bytes.KnownBytes.of.Goals as goal

pub returns : goal.returns
returns c = record {
  bytes = ap (λ (o : Option Bytes). unwrap_or o []) c.get.ensures.value
      ∙ sym (at_lookup [] c.args.resource c.self.inside.objects.entries) ∙ ap (bytes_at c.args.resource) c.self.view_is;
}
