use Rattle.std.proofs.Common.{◌≡◌, ◌++◌, ◌∙◌, ℕ, List, Option, length, ap, arith}
use Rattle.std.proofs.lemmas.Result.{on_ok_weaker}
use Rattle.lu_spec_bytes.specs.Runs.{found_run}
use Rattle.lu_spec_client.specs.Caches.{bytes_at, patch_at}
use Rattle.lu_spec_client.specs.Patches.{Patch}
use Rattle.lu_client_store.specs.Runs.{seen_run}
use Rattle.lu_client_store.proofs.Contents.{seen_known, found_count}
use Rattle.lu_client_store.proofs.store.Store.add_run.Goals as goal

pub add_seen-requires : goal.add_seen-requires
add_seen-requires c =
    let known : c.deref.result.now ≡ found_run c.args.count (bytes_at c.args.resource c.args.self.now.store.bytes) c.args.offset =
    c.deref.ensures.value ∙ c.in_ok-known.ensures.known in
    let count : length c.deref.result.now ≡ c.args.count = ap (λ (xs : List (Option ℕ)). length xs) known
    ∙ found_count (bytes_at c.args.resource c.args.self.now.store.bytes) c.args.offset c.args.count in
    record { fits = omega (arith, count, c.requires.fits) }

pub returns : goal.returns
returns c =
    let old = c.args.bytes.now in
    let store = c.args.self.now.store in
    record {
      added = on_ok_weaker c.add_seen.result
          (λ added. added
          ∙ ap (λ (p : Patch). old ++ seen_run p c.args.offset c.deref.result.now) c.patch.ensures.patch
          ∙ ap (λ (known : List (Option ℕ)). old ++ seen_run (patch_at c.args.resource store.patches) c.args.offset known)
          (c.deref.ensures.value ∙ c.in_ok-known.ensures.known)
          ∙ ap (λ (bs : List ℕ). old ++ bs) (seen_known c.args.resource store c.args.offset c.args.count))
          c.add_seen.ensures.added;
    }
