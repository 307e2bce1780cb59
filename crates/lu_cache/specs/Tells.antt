-- What a call on names is told from what is known, and the locks under which that is known. Which facts each call looks at
-- stands where the client's rows have it.
use Rattle.std.specs.Prelude.{◌≡◌, Bool, List, ◌++◌, map, Option, Some, None, option_map}
use Rattle.lu_base.specs.declared.ids.Cookie.{Cookie}
use Rattle.lu_base.specs.declared.ids.Fid.{Fid}
use Rattle.lu_msg.specs.declared.answers.Answer.TheVariants as answer
use Rattle.lu_msg.specs.declared.operations.Op.{Op}
use Rattle.lu_msg.specs.declared.operations.Op.TheVariants as op
use Rattle.lu_held.specs.declared.locks.HeldLock.{HeldLock}
use Rattle.lu_spec_client.specs.Facts.{Fact}
use Rattle.lu_spec_client.specs.Known.{Notes, Known as RowKnown, KnownFile, Found as RowFound, found_at_path, lookup_known, list_known}
use Rattle.lu_spec_client.specs.Known.{layout_known, directory_known, file_known, cookies_of_file, names_of}
use Rattle.lu_cache.specs.declared.paths.Found.{Found}
use Rattle.lu_cache.specs.declared.paths.Told.{Told}
use Rattle.lu_cache.specs.declared.known.Known.{Known}

-- These facts, and the locks that are held.
abbrev pub notes : List Fact → List HeldLock → Notes
notes facts held = record { facts = facts; held = held }

-- The file's attributes as the metadata target tells them, with the layout that is known.
abbrev pub of_file : KnownFile → RowKnown
of_file f = record { answer = answer.FileStat f.fid f.mode f.links f.layout; cookies = f.cookies }

abbrev pub stat_known : Option RowKnown → Option KnownFile → Option RowKnown
stat_known None file = option_map of_file file
stat_known (Some known) file = Some known

-- What the call that becomes this operation is told; none where something isn't known, or it always asks.
abbrev pub known_on : Op → Notes → Option RowKnown
known_on (op.Lookup path) n = lookup_known (found_at_path n path)
known_on (op.Stat path) n = stat_known (directory_known n (found_at_path n path)) (file_known n (found_at_path n path))
known_on (op.List path) n = list_known n (found_at_path n path)
known_on (op.Layout path) n = layout_known n (found_at_path n path)
known_on _ n = None

-- The cookies of the locks that are named, in rising order, each once.
abbrev pub locks_of : List Cookie → List Cookie
locks_of cookies = map (λ name. name.cookie) (names_of cookies)

abbrev pub known_of : RowKnown → Known
known_of k = record { answer = k.answer; locks = locks_of k.cookies }

-- ---- how the code has them

abbrev pub found_by : Found → RowFound
found_by f = record { inode = f.inode; cookies = f.cookies }

abbrev pub told_by : Told → RowKnown
told_by t = record { answer = t.answer; cookies = t.cookies }
