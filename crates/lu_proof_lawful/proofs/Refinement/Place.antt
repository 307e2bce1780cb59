-- Where an object lies: its stripe and the number of its file say which object storage target has it.
use Rattle.std.proofs.Common.{ℕ, ◌+◌, ◌%◌}
use Rattle.lu_base.specs.declared.locks.Resource.{Resource}

-- the target of a resource, in a run of so many object storage targets
abbrev pub place : ℕ → Resource → ℕ
place osts r = 1 + (r.fid.0 % 4294967296 + r.stripe) % osts
