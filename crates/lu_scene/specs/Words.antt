-- The words with which lines and calls begin.
use Rattle.std.specs.Prelude.{ℕ, Option, List, [], ◌∷◌, codes, find}
use Rattle.std.specs.Str.{bytes_eq}
use Rattle.lu_scene.specs.declared.words.Header.{Header}
use Rattle.lu_scene.specs.declared.words.Header.TheVariants as headers
use Rattle.lu_scene.specs.declared.words.Verb.{Verb}
use Rattle.lu_scene.specs.declared.words.Verb.TheVariants as verbs
use Rattle.lu_scene.specs.declared.words.CallName.{CallName}
use Rattle.lu_scene.specs.declared.words.CallName.TheVariants as names

-- the word with which a line of the head begins
abbrev pub header_text : Header → List ℕ
header_text headers.Clients = codes "clients"
header_text headers.Osts = codes "osts"
header_text headers.Expire = codes "expire"
header_text headers.Dirty = codes "dirty"
header_text headers.Unused = codes "unused"
header_text headers.Rounds = codes "rounds"
header_text headers.Flight = codes "flight"

-- the lines of the head, in the order in which they are printed
abbrev pub all_headers : List Header
all_headers = headers.Clients ∷ headers.Osts ∷ headers.Expire ∷ headers.Dirty ∷ headers.Unused ∷ headers.Rounds ∷ headers.Flight ∷ []

-- the line of the head that begins with the word
abbrev pub header_of : List ℕ → Option Header
header_of word = find (λ x. bytes_eq (header_text x) word) all_headers

-- the word with which another line begins
abbrev pub verb_text : Verb → List ℕ
verb_text verbs.Call = codes "call"
verb_text verbs.Run = codes "run"
verb_text verbs.Deliver = codes "deliver"
verb_text verbs.Lose = codes "lose"
verb_text verbs.Tick = codes "tick"
verb_text verbs.Commit = codes "commit"
verb_text verbs.Crash = codes "crash"
verb_text verbs.Boot = codes "boot"
verb_text verbs.Close = codes "close"
verb_text verbs.Die = codes "die"

-- what lines do
abbrev pub all_verbs : List Verb
all_verbs = verbs.Call ∷ verbs.Run ∷ verbs.Deliver ∷ verbs.Lose ∷ verbs.Tick ∷ verbs.Commit ∷ verbs.Crash ∷ verbs.Boot ∷ verbs.Close
    ∷ verbs.Die ∷ []

-- what a line that begins with the word does
abbrev pub verb_of : List ℕ → Option Verb
verb_of word = find (λ x. bytes_eq (verb_text x) word) all_verbs

-- the word that names a call
abbrev pub name_text : CallName → List ℕ
name_text names.Lookup = codes "lookup"
name_text names.Stat = codes "stat"
name_text names.List = codes "list"
name_text names.Layout = codes "layout"
name_text names.Mkdir = codes "mkdir"
name_text names.Create = codes "create"
name_text names.Link = codes "link"
name_text names.Unlink = codes "unlink"
name_text names.Rmdir = codes "rmdir"
name_text names.Rename = codes "rename"
name_text names.Chmod = codes "chmod"
name_text names.Open = codes "open"
name_text names.Close = codes "close"
name_text names.Read = codes "read"
name_text names.Write = codes "write"
name_text names.Cut = codes "cut"
name_text names.Flush = codes "flush"
name_text names.Glimpse = codes "glimpse"

-- the calls
abbrev pub all_calls : List CallName
all_calls = names.Lookup ∷ names.Stat ∷ names.List ∷ names.Layout ∷ names.Mkdir ∷ names.Create ∷ names.Link ∷ names.Unlink ∷ names.Rmdir
    ∷ names.Rename ∷ names.Chmod ∷ names.Open ∷ names.Close ∷ names.Read ∷ names.Write ∷ names.Cut ∷ names.Flush ∷ names.Glimpse ∷ []

-- the call that the word names
abbrev pub call_name_of : List ℕ → Option CallName
call_name_of word = find (λ x. bytes_eq (name_text x) word) all_calls
