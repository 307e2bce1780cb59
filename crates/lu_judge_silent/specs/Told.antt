-- What a line of a turn says of whether a slot is told silently in it.
use Rattle.std.specs.Prelude.{ℕ, Bool, true, false, ◌==◌, if◌then◌else◌, Option, Some, None}
use Rattle.lu_trace.specs.declared.entries.Entry.{Entry}
use Rattle.lu_trace.specs.declared.entries.Entry.TheVariants.{Told, Send}

-- that it is, that it isn't, or nothing
abbrev pub settles : ℕ → Entry → Option Bool
settles slot (Told other turn answer) = if other == slot then Some true else None
settles slot (Send number to message) = Some false
settles slot _ = None
