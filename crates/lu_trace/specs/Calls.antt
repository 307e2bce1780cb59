-- The words of a call, and its text. A line of a scenario and a line of a trace write a call so.
use Rattle.std.specs.Prelude.{ℕ, ℤ, List, [], ◌∷◌, Option, Some, None, codes, decimal}
use Rattle.std.specs.Fmt.{signed_decimal}
use Rattle.lu_base.specs.Texts.{bytes_text, path_text}
use Rattle.lu_msg.specs.declared.calls.Call.{Call}
use Rattle.lu_msg.specs.declared.calls.Call.TheVariants.{Lookup, Stat, List as ListNames, Layout, Mkdir, Create, Link, Unlink, Rmdir}
use Rattle.lu_msg.specs.declared.calls.Call.TheVariants.{Rename, Chmod, Open, Close, Read, Write, Cut, Flush, Glimpse}
use Rattle.lu_trace.specs.Words.{words}
use Rattle.lu_base.specs.Values.{octal_text}

-- the stripe size and the number of stripes of a `create`, where they are given
abbrev pub stripes_words : Option (ℕ × ℤ) → List (List ℕ)
stripes_words None = []
stripes_words (Some stripes) = decimal stripes.0 ∷ signed_decimal stripes.1 ∷ []

-- the words of a call: its name, and what it is of
abbrev pub call_words : Call → List (List ℕ)
call_words (Lookup path) = codes "lookup" ∷ path_text path ∷ []
call_words (Stat path) = codes "stat" ∷ path_text path ∷ []
call_words (ListNames path) = codes "list" ∷ path_text path ∷ []
call_words (Layout path) = codes "layout" ∷ path_text path ∷ []
call_words (Mkdir path) = codes "mkdir" ∷ path_text path ∷ []
call_words (Create path stripes) = codes "create" ∷ path_text path ∷ stripes_words stripes
call_words (Link old new) = codes "link" ∷ path_text old ∷ path_text new ∷ []
call_words (Unlink path) = codes "unlink" ∷ path_text path ∷ []
call_words (Rmdir path) = codes "rmdir" ∷ path_text path ∷ []
call_words (Rename old new) = codes "rename" ∷ path_text old ∷ path_text new ∷ []
call_words (Chmod path mode) = codes "chmod" ∷ path_text path ∷ octal_text mode ∷ []
call_words (Open handle path) = codes "open" ∷ decimal handle ∷ path_text path ∷ []
call_words (Close handle) = codes "close" ∷ decimal handle ∷ []
call_words (Read handle offset length) = codes "read" ∷ decimal handle ∷ decimal offset ∷ decimal length ∷ []
call_words (Write handle offset bytes) = codes "write" ∷ decimal handle ∷ decimal offset ∷ bytes_text bytes ∷ []
call_words (Cut handle size) = codes "cut" ∷ decimal handle ∷ decimal size ∷ []
call_words (Flush handle) = codes "flush" ∷ decimal handle ∷ []
call_words (Glimpse handle) = codes "glimpse" ∷ decimal handle ∷ []

-- a call: its words, with one space between them
abbrev pub call_text : Call → List ℕ
call_text call = words (call_words call)
