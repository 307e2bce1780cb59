-- Which entries a turn shows.
use Rattle.std.specs.Prelude.{Bool, is_some}
use Rattle.lu_spec_entries.specs.Printed.{printed_entry}
use Rattle.lu_spec_entries.specs.Words.{Entry}

-- Whether an entry is printed. One that isn't is a mark: it gives nothing in a turn.
abbrev pub prints : Entry → Bool
prints e = is_some (printed_entry 0 e)
