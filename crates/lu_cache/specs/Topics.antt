-- What the facts that a client keeps are about: the parts of the metadata target's contents that replies tell of.
use Rattle.std.specs.Prelude.{◌≡◌, Bool, List, map}
use Rattle.lu_base.specs.declared.ids.Fid.{Fid}
use Rattle.lu_base.specs.declared.locks.Lock.{Lock}
use Rattle.lu_part.specs.declared.parts.Part.{Part}
use Rattle.lu_part.specs.declared.parts.Part.TheVariants as part
use Rattle.lu_msg.specs.declared.answers.Answer.{Answer}
use Rattle.lu_msg.specs.declared.answers.Answer.TheVariants as answer
use Rattle.lu_spec_client.specs.Facts.{Fact as RowFact}
use Rattle.lu_cache.specs.declared.topics.Topic.{Topic}
use Rattle.lu_cache.specs.declared.topics.Topic.TheVariants.{Name, List as Names, Attr, Layout}
use Rattle.lu_cache.specs.declared.facts.Fact.{Fact}
use Rattle.lu_cache.specs.declared.facts.Kind.{Kind}
use Rattle.lu_cache.specs.declared.facts.Kind.TheVariants.{Directory, File}
use Rattle.lu_cache.specs.contracts.topics.TopicPartialEq.TheImpl as equality

-- Both are one topic.
abbrev pub same_topic : Topic → Topic → Bool
same_topic = (equality.ghosts).eq

-- The part that a topic is.
abbrev pub part_of : Topic → Part
part_of (Name directory name) = part.Name directory name
part_of (Names directory) = part.List directory
part_of (Attr fid) = part.Attr fid
part_of (Layout fid) = part.Layout fid

-- A fact as the rows have it.
abbrev pub row_fact : Fact → RowFact
row_fact f = record { part = part_of f.topic; cookie = f.cookie; answer = f.answer }

abbrev pub row_facts : List Fact → List RowFact
row_facts facts = map row_fact facts

-- A fact of a topic that came with a lock.
abbrev pub told_of : Topic → Lock → Answer → Fact
told_of t l a = record { topic = t; cookie = l.cookie; answer = a }

-- What a lookup of an inode of this kind tells.
abbrev pub kind_of : Kind → Fid → Answer
kind_of Directory = answer.Dir
kind_of File = answer.File
