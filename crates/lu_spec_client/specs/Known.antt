-- What of a path is known under locks that are held and not called back: then a call needs no request. A name is known by
-- directory and name, whatever path leads there; the root needs no lock. Of several locks the least cookie is named (this
-- project's profile).
use Rattle.std.specs.Prelude.{ℕ, nat_lt, ◌==◌, ◌&&◌, not, if◌then◌else◌, Bool, false, List, [], ◌∷◌, ◌++◌, filter, Option, Some, None}
use Rattle.std.specs.List.{list_any}
use Rattle.lu_base.specs.declared.ids.Cookie.{Cookie}
use Rattle.lu_base.specs.declared.ids.Fid.{Fid}
use Rattle.lu_layout.specs.Raid0.{Raid0}
use Rattle.lu_part.specs.declared.parts.Part.{Part}
use Rattle.lu_part.specs.declared.parts.Part.TheVariants as part
use Rattle.lu_msg.specs.declared.answers.Answer.{Answer}
use Rattle.lu_msg.specs.declared.answers.Answer.TheVariants as answer
use Rattle.lu_held.specs.declared.locks.HeldLock.{HeldLock}
use Rattle.lu_held.specs.declared.names.LockName.{LockName}
use Rattle.lu_spec_machine.specs.Name.{same_name}
use Rattle.lu_spec_client.specs.Facts.{Fact, root}

-- What the facts about a path are looked up in.
pub record Notes : Type 0 where
  pub facts : List Fact
  pub held : List HeldLock

-- ---- one fact

abbrev pub same_part : Part → Part → Bool
same_part (part.Name d n) (part.Name e m) = d.0 == e.0 && same_name n m
same_part (part.List d) (part.List e) = d.0 == e.0
same_part (part.Attr f) (part.Attr g) = f.0 == g.0
same_part (part.Layout f) (part.Layout g) = f.0 == g.0
same_part _ _ = false

-- its lock is held, of the metadata target, and isn't called back
abbrev pub is_usable : Cookie → List HeldLock → Bool
is_usable cookie held = list_any (λ (h : HeldLock). h.target.0 == 0 && h.lock.cookie.0 == cookie.0 && not h.marked) held

abbrev pub lesser : Fact → Option Fact → Fact
lesser f None = f
lesser f (Some g) = if nat_lt g.cookie.0 f.cookie.0 then g else f

abbrev pub of_least_cookie : List Fact → Option Fact
of_least_cookie [] = None
of_least_cookie (f ∷ facts) = Some (lesser f (of_least_cookie facts))

abbrev pub fact_on : Part → Notes → Option Fact
fact_on p n = of_least_cookie (filter (λ (f : Fact). same_part p f.part && is_usable f.cookie n.held) n.facts)

-- ---- a path

-- A directory or file that is known, where one is, and the locks under which all that was looked up is known.
pub record Found : Type 0 where
  pub inode : Option Answer
  pub cookies : List Cookie

-- what comes after one name
abbrev pub with_cookie : Cookie → Found → Found
with_cookie cookie found = record found { cookies = cookie ∷ found.cookies }

abbrev pub nothing_found : Found
nothing_found = record { inode = None; cookies = [] }

-- from an inode name by name, as far as names are known
abbrev pub walked : Notes → List (List ℕ) → Answer → Found
walked n [] a = record { inode = Some a; cookies = [] }
walked n (name ∷ names) (answer.Dir d) =
    elim (fact_on (part.Name d name) n) [ None ↦ nothing_found | Some f ↦ with_cookie f.cookie (walked n names f.answer) ]
walked n (name ∷ names) _ = nothing_found

abbrev pub found_at_path : Notes → List (List ℕ) → Found
found_at_path n path = walked n path (answer.Dir root)

-- ---- what a call is told from what is known

-- An answer, and the locks under which it is known.
pub record Known : Type 0 where
  pub answer : Answer
  pub cookies : List Cookie

abbrev pub known_of : Found → Option Answer → Option Known
known_of found None = None
known_of found (Some a) = Some (record { answer = a; cookies = found.cookies })

-- a fact about the inode that the path leads to
abbrev pub known_with : Found → Option Fact → Option Known
known_with found None = None
known_with found (Some f) = Some (record { answer = f.answer; cookies = found.cookies ++ f.cookie ∷ [] })

abbrev pub lookup_known : Found → Option Known
lookup_known found = known_of found found.inode

-- the list of a directory
abbrev pub list_at : Notes → Found → Option Answer → Option Known
list_at n found (Some (answer.Dir d)) = known_with found (fact_on (part.List d) n)
list_at n found _ = None

abbrev pub list_known : Notes → Found → Option Known
list_known n found = list_at n found found.inode

-- the layout of a file
abbrev pub layout_at : Notes → Found → Option Answer → Option Known
layout_at n found (Some (answer.File f)) = known_with found (fact_on (part.Layout f) n)
layout_at n found _ = None

abbrev pub layout_known : Notes → Found → Option Known
layout_known n found = layout_at n found found.inode

-- the attributes of a directory
abbrev pub directory_at : Notes → Found → Option Answer → Option Known
directory_at n found (Some (answer.Dir d)) = known_with found (fact_on (part.Attr d) n)
directory_at n found _ = None

abbrev pub directory_known : Notes → Found → Option Known
directory_known n found = directory_at n found found.inode

-- ---- a stat of a file

-- Its Fid, mode, links and layout, and the locks under which these are known.
pub record KnownFile : Type 0 where
  pub fid : Fid
  pub mode : ℕ
  pub links : ℕ
  pub layout : Raid0
  pub cookies : List Cookie

abbrev pub file_with : Found → Cookie → Cookie → Answer → Answer → Option KnownFile
file_with found a l (answer.FileStat fid mode links old) (answer.Layout layout) =
    Some (record { fid = fid; mode = mode; links = links; layout = layout; cookies = found.cookies ++ a ∷ l ∷ [] })
file_with found a l _ _ = None

abbrev pub file_facts : Found → Option Fact → Option Fact → Option KnownFile
file_facts found (Some a) (Some l) = file_with found a.cookie l.cookie a.answer l.answer
file_facts found _ _ = None

abbrev pub file_at : Notes → Found → Option Answer → Option KnownFile
file_at n found (Some (answer.File f)) = file_facts found (fact_on (part.Attr f) n) (fact_on (part.Layout f) n)
file_at n found _ = None

abbrev pub file_known : Notes → Found → Option KnownFile
file_known n found = file_at n found found.inode

abbrev pub cookie_of : Option Fact → List Cookie
cookie_of None = []
cookie_of (Some f) = f.cookie ∷ []

-- the locks under which what a stat of a file was told is known by now
abbrev pub cookies_of_file : Notes → List (List ℕ) → Fid → List Cookie
cookies_of_file n path fid = (found_at_path n path).cookies ++ cookie_of (fact_on (part.Attr fid) n)
    ++ cookie_of (fact_on (part.Layout fid) n)

-- ---- the names of such locks, in rising cookie, each once

abbrev pub name_of : Cookie → LockName
name_of c = record { target = record { 0 = 0 }; cookie = c }

abbrev pub with_name : Cookie → List LockName → List LockName
with_name c [] = name_of c ∷ []
with_name c (n ∷ names) =
    if nat_lt n.cookie.0 c.0 then n ∷ with_name c names
    else if n.cookie.0 == c.0 then n ∷ names
    else name_of c ∷ n ∷ names

abbrev pub names_of : List Cookie → List LockName
names_of [] = []
names_of (c ∷ cookies) = with_name c (names_of cookies)
