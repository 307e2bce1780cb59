use Rattle.std.proofs.Common.{◌≡◌, ◌+◌, ◌-◌, ◌∙◌, [], sym, arith, true}
use Rattle.std.specs.Prelude.{unwrap_or}
use Rattle.std.specs.Option.{option_copied}
use Rattle.lu_spec_client.specs.Patches.{clean}
use Rattle.lu_spec_client.specs.Looks.{is_there}
use Rattle.lu_client_store.proofs.Missing.{missing_more}
use Rattle.lu_client_store.proofs.pages.first_missing.Goals as goal

pub loop-k-preserved : goal.loop-k-preserved
loop-k-preserved c =
    let there : is_there (unwrap_or (option_copied c.args.known) []) (unwrap_or (option_copied c.args.patch) clean).dirty
    (c.args.first + c.loop-k.k) ≡ true = sym c.is_there.ensures ∙ c.if-not-is_there.false in
    c.loop-k.invariant ∙ missing_more (unwrap_or (option_copied c.args.known) []) (unwrap_or (option_copied c.args.patch) clean).dirty
    (c.args.first + c.loop-k.k) (c.args.first + (c.loop-k.k + 1)) (c.args.count - c.loop-k.k) (c.args.count - (c.loop-k.k + 1))
    (omega (arith, c.loop-k-test.true)) (omega arith) there
