-- What an entry tells in a slot.
use Rattle.std.specs.Prelude.{ℕ, ◌==◌, if◌then◌else◌, Option, Some, None}
use Rattle.lu_msg.specs.declared.answers.Answer.{Answer}
use Rattle.lu_trace.specs.declared.entries.Entry.{Entry}
use Rattle.lu_trace.specs.declared.entries.Entry.TheVariants.{Told}

abbrev pub told_at : ℕ → Entry → Option Answer
told_at slot (Told other turn answer) = if other == slot then Some answer else None
told_at slot _ = None
