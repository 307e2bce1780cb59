-- At its size a patch has no byte: what is read there is the cut's 0, or isn't known.
use Rattle.std.proofs.Common.{ℕ, Option, None, is_some, ◌∙◌, ap}
use Rattle.lu_spec_client.specs.Patches.{reads_at}
use Rattle.lu_client_store.proofs.Patched.{cut_seen}
use Rattle.lu_client_store.proofs.patches.is_cut.Goals as goal

pub returns : goal.returns
returns c =
    record {
      cut =
          c.is_some.ensures
          ∙ ap (λ (byte : Option ℕ). is_some byte) c.byte.ensures.reads
          ∙ ap (λ (size : ℕ). is_some (reads_at c.args.patch.now size None)) c.size_over.ensures.size
          ∙ cut_seen c.args.patch.now;
    }
