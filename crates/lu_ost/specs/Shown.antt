-- The objects of a target as a service shows them: it has no names.
use Rattle.std.specs.Prelude.{ℕ, List}
use Rattle.lu_base.specs.declared.locks.Resource.{Resource}
use Rattle.lu_spec_machine.specs.Footprint.{empty}
use Rattle.lu_spec_machine.specs.Objects.{Object}
use Rattle.lu_service.specs.Contents.{Contents}

-- after the transactions up to a number
abbrev pub shown : ℕ → List (Resource × Object) → Contents
shown last objects = record { osts = 0; last = last; tree = empty; objects = objects }
