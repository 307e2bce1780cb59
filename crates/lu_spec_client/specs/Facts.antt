-- What a client knows of names, attributes, lists and layouts. A fact belongs to the lock on that inode that came with the
-- reply that told it, and goes with it (Wang et al., Understanding Lustre Filesystem Internals: the inodebits locks of
-- lookup, update and layout; which fact each reply teaches is this project's profile).
use Rattle.std.specs.Prelude.{ℕ, zero, suc, Bool, true, false, not, ◌==◌, if◌then◌else◌, List, [], ◌∷◌, ◌++◌, filter, Option, Some, None}
use Rattle.lu_base.specs.declared.ids.Cookie.{Cookie}
use Rattle.lu_base.specs.declared.ids.Fid.{Fid}
use Rattle.lu_base.specs.declared.locks.Lock.{Lock}
use Rattle.lu_layout.specs.Raid0.{Raid0}
use Rattle.lu_part.specs.declared.parts.Part.{Part}
use Rattle.lu_part.specs.declared.parts.Part.TheVariants as part
use Rattle.lu_msg.specs.declared.answers.Answer.{Answer}
use Rattle.lu_msg.specs.declared.answers.Answer.TheVariants as answer
use Rattle.lu_msg.specs.declared.operations.Op.{Op}
use Rattle.lu_msg.specs.declared.operations.Op.TheVariants as op
use Rattle.lu_spec_entries.specs.Words.{Entry, Drop, Life, Learns, Line}
use Rattle.lu_spec_entries.specs.Fields.{at_client}

-- A part of the metadata target's contents, the lock under which it is known, and what was told: of a name a directory or a
-- file with its Fid, as a lookup tells it; of attributes, a list or a layout the answer to a stat, list or layout.
pub record Fact : Type 0 where
  pub part : Part
  pub cookie : Cookie
  pub answer : Answer

abbrev pub fact : Part → Lock → Answer → Fact
fact p l a = record { part = p; cookie = l.cookie; answer = a }

abbrev pub root : Fid
root = record { 0 = 1 }

-- ---- what a reply teaches

abbrev pub is_one_for_each : {A B : Type 0} → List A → List B → Bool
is_one_for_each [] [] = true
is_one_for_each (a ∷ more) (b ∷ others) = is_one_for_each more others
is_one_for_each _ _ = false

-- each name of a path, in the directory that the locks before it lead to; the last name leads to an inode of that kind
abbrev pub name_facts : (Fid → Answer) → Fid → List (List ℕ) → List Lock → List Fact
name_facts kind d (n ∷ []) (l ∷ locks) = fact (part.Name d n) l (kind l.resource.fid) ∷ []
name_facts kind d (n ∷ m ∷ names) (l ∷ locks) = fact (part.Name d n) l (answer.Dir l.resource.fid)
    ∷ name_facts kind l.resource.fid (m ∷ names) locks
name_facts kind d _ _ = []

-- names are taught only where there is one lock for each name of the path, in order
abbrev pub names_taught : (Fid → Answer) → List (List ℕ) → List Lock → List Fact
names_taught kind path locks = if is_one_for_each path locks then name_facts kind root path locks else []

abbrev pub last_of : List Lock → Option Lock
last_of [] = None
last_of (l ∷ []) = Some l
last_of (l ∷ m ∷ locks) = last_of (m ∷ locks)

-- what is known of the inode that the path leads to, under its lock
abbrev pub inode_taught : (Lock → List Fact) → Option Lock → List Fact
inode_taught facts None = []
inode_taught facts (Some l) = facts l

abbrev pub stat_facts : Fid → Answer → Raid0 → Lock → List Fact
stat_facts fid told layout l = fact (part.Attr fid) l told ∷ fact (part.Layout fid) l (answer.Layout layout) ∷ []

-- errors teach nothing
abbrev pub taught : Op → Answer → List Lock → List Fact
taught (op.Lookup path) (answer.Dir fid) locks = names_taught answer.Dir path locks
taught (op.Lookup path) (answer.File fid) locks = names_taught answer.File path locks
taught (op.Stat path) (answer.DirStat fid mode) locks =
    names_taught answer.Dir path locks ++ inode_taught (λ l. fact (part.Attr fid) l (answer.DirStat fid mode) ∷ []) (last_of locks)
taught (op.Stat path) (answer.FileStat fid mode links layout) locks =
    names_taught answer.File path locks ++ inode_taught (stat_facts fid (answer.FileStat fid mode links layout) layout) (last_of locks)
taught (op.List path) (answer.Names names) locks =
    names_taught answer.Dir path locks ++ inode_taught (λ l. fact (part.List l.resource.fid) l (answer.Names names) ∷ []) (last_of locks)
taught (op.Layout path) (answer.Layout layout) locks =
    names_taught answer.File path locks ++ inode_taught (λ l. fact (part.Layout l.resource.fid) l (answer.Layout layout) ∷ [])
    (last_of locks)
taught o a locks = []

-- ---- the facts

-- only the metadata target's locks guard facts
abbrev pub without_facts : ℕ → Lock → List Fact → List Fact
without_facts zero l facts = filter (λ (f : Fact). not (f.cookie.0 == l.cookie.0)) facts
without_facts (suc target) l facts = facts

abbrev pub reads_facts : Entry → Bool
reads_facts (Learns target op answer locks) = true
reads_facts (Drop target lock) = true
reads_facts (Life who) = true
reads_facts _ = false

abbrev pub facts_after : List Fact → Entry → List Fact
facts_after facts (Learns target o a locks) = taught o a locks ++ facts
facts_after facts (Drop target lock) = without_facts target lock facts
facts_after facts (Life who) = []
facts_after facts _ = facts

abbrev pub facts_at : ℕ → List Line → List Fact
facts_at c past = at_client reads_facts facts_after [] c past
