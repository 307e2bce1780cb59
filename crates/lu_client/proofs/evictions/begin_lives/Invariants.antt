-- The imports before this one are those of the new life.
use Rattle.std.proofs.Common.{◌≡◌, ◌++◌, take, drop}
use Rattle.std.specs.Prelude.{map}
use Rattle.lu_import.specs.Imports.{reborn}
use Rattle.lu_client.proofs.evictions.begin_lives.Given as goal

abbrev pub invariant-loop-import : goal.invariant-loop-import
invariant-loop-import l = l.imports ≡ map (reborn l.who) (take l.import-index l.initial.imports) ++ drop l.import-index l.initial.imports
