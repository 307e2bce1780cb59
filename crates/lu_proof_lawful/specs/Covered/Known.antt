-- What a client tells of a call that reads, by what it knows: then it asks nobody.
use Rattle.std.specs.Prelude.{ℕ, List, Option, Some, None}
use Rattle.lu_msg.specs.declared.answers.Answer.{Answer}
use Rattle.lu_msg.specs.declared.calls.Call.{Call}
use Rattle.lu_msg.specs.declared.calls.Call.TheVariants as call
use Rattle.lu_spec_entries.specs.Words.{Line}
use Rattle.lu_spec_client.specs.Caches.{held_at}
use Rattle.lu_spec_client.specs.Facts.{facts_at}
use Rattle.lu_spec_client.specs.Known.{Notes, Known, KnownFile, found_at_path, lookup_known, list_known, layout_known, directory_known}
use Rattle.lu_spec_client.specs.Known.{file_known}

-- a client's facts and held locks after a past
abbrev pub notes_at : ℕ → List Line → Notes
notes_at c past = record { facts = facts_at c past; held = held_at c past }

abbrev pub told_of : Option Known → Option Answer
told_of None = None
told_of (Some known) = Some known.answer

-- a stat is known of a directory: of a file its size is asked for too
abbrev pub known_answer : Notes → Call → Option Answer
known_answer n (call.Lookup path) = told_of (lookup_known (found_at_path n path))
known_answer n (call.List path) = told_of (list_known n (found_at_path n path))
known_answer n (call.Layout path) = told_of (layout_known n (found_at_path n path))
known_answer n (call.Stat path) = told_of (directory_known n (found_at_path n path))
known_answer n _ = None

-- of a file that is to be stated, all but its size
abbrev pub known_file : Notes → Call → Option KnownFile
known_file n (call.Stat path) = file_known n (found_at_path n path)
known_file n _ = None
