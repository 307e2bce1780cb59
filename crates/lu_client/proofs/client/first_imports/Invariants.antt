-- The targets below the next one have their imports.
use Rattle.std.proofs.Common.{◌≡◌, length}
use Rattle.lu_spec_client.specs.States.{Limits, first_imports}
use Rattle.lu_client_refines.specs.Imports.{imports_of, AreImports}
use Rattle.lu_client.proofs.client.first_imports.Given as goal

abbrev pub invariant-loop-target : goal.invariant-loop-target
invariant-loop-target l = record {
  shown : imports_of l.imports.items ≡ first_imports l.target;
  count : length l.imports.items ≡ l.target;
  kept : (limits : Limits) → limits.flight ≡ l.flight → AreImports limits l.who 0 l.imports.items;
}
