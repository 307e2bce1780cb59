-- What is read of an object: so many bytes from an offset on, up to the last of them that is there. An absent byte is read
-- as 0 (POSIX.1, read after lseek past the end; where reading ends is this project's profile).
use Rattle.std.specs.Prelude.{ℕ, ◌+◌, ◌-◌, List}
use Rattle.lu_base.specs.declared.locks.Extent.{Extent}
use Rattle.lu_spec_machine.specs.Places.{inside}
use Rattle.lu_spec_machine.specs.Objects.{Object, filled}

-- the offsets of so many bytes from an offset on, at least one
abbrev pub bytes_from : ℕ → ℕ → Extent
bytes_from offset count = record { first = offset; last = offset + (count - 1) }

abbrev pub read_from : ℕ → ℕ → Object → List ℕ
read_from offset count object = filled count offset (inside (bytes_from offset count) object)
