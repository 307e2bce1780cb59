-- How far a call comes that looks for its locks.
use Rattle.std.specs.Prelude.{◌≡◌, ℕ, List, [], ◌∷◌, ◌++◌, Option, Some, None}
use Rattle.lu_held.specs.declared.locks.Use.{Use}
use Rattle.lu_held.specs.declared.names.LockName.{LockName}
use Rattle.lu_spec_entries.specs.Carried.{Work, Running}
use Rattle.lu_spec_entries.specs.Words.{Entry}
use Rattle.lu_spec_client.specs.States.{Store}
use Rattle.lu_spec_client.specs.Starts.{pins}
use Rattle.lu_spec_client.specs.Advances.{Next, asks_lock, looks}
use Rattle.lu_client_store.specs.Stored.{StoreState, stored_turn}

-- the first lock that is still wanted
abbrev pub first_left : List Use → Option Use
first_left [] = None
first_left (wanted ∷ left) = Some wanted

-- what comes then: no held lock does for this want, or all are in use
abbrev pub after_looking : ℕ → Next → Option Use → Running → Work → Store → List Entry
after_looking slot next None r w s = next r w s
after_looking slot next (Some wanted) r w s = asks_lock slot wanted r w

-- It pinned locks, and goes on so, whatever comes when all are in use.
pub record Looked (wanted : Option Use) (old new : Running) (from to : Work) (before after : StoreState) : Type 0 where
  pub names : List LockName
  pub pinned : new ≡ record old { pins = old.pins ++ names }
  pub store : after ≡ stored_turn before (pins names)
  pub same : to ≡ record from { used = to.used; left = to.left }
  pub first : wanted ≡ first_left to.left
  pub looks : (slot : ℕ) (next : Next) → looks slot next from.left old from before.store ≡ pins names
      ++ after_looking slot next wanted new to after.store
