-- How the call on a slot stands after entries of its client.
use Rattle.std.specs.Prelude.{ℕ, List, [], ◌∷◌, Option}
use Rattle.lu_spec_entries.specs.Carried.{Running}
use Rattle.lu_spec_entries.specs.Words.{Entry}
use Rattle.lu_spec_client.specs.Calls.{call_after}

abbrev pub call_turn : ℕ → Option Running → List Entry → Option Running
call_turn slot call [] = call
call_turn slot call (e ∷ es) = call_turn slot (call_after slot call e) es
