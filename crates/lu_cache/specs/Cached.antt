-- What a client knows under its locks, and what each entry of its turns makes of it: each part by its own step of the
-- client's rows.
use Rattle.std.specs.Prelude.{◌≡◌, ℕ, zero, suc, if◌then◌else◌, List, [], ◌∷◌}
use Rattle.lu_base.specs.declared.locks.Lock.{Lock}
use Rattle.lu_base.specs.declared.locks.Policy.{Policy}
use Rattle.lu_base.specs.declared.locks.Policy.TheVariants.{Bits, Range}
use Rattle.lu_base.specs.declared.locks.Resource.{Resource}
use Rattle.lu_msg.specs.declared.answers.Answer.{Answer}
use Rattle.lu_msg.specs.declared.answers.Answer.TheVariants.{Granted}
use Rattle.lu_msg.specs.declared.operations.Op.{Op}
use Rattle.lu_msg.specs.declared.operations.Op.TheVariants.{Enqueue}
use Rattle.lu_held.specs.Locks.{reaches_end}
use Rattle.lu_spec_entries.specs.Words.{Entry, Learns, Drop}
use Rattle.lu_spec_client.specs.Bytes.{Bytes}
use Rattle.lu_spec_client.specs.Facts.{Fact, without_facts, facts_after}
use Rattle.lu_spec_client.specs.Caches.{Note, with_note, bytes_after, sizes_after, shown_after, forgotten_bytes, forgotten_notes}

-- The facts, what is known of each object's bytes, the sizes and the greatest offsets shown that are kept for locks.
pub record Cached : Type 0 where
  pub facts : List Fact
  pub bytes : List (Resource × Bytes)
  pub sizes : List Note
  pub shown : List Note

abbrev pub nothing : Cached
nothing = record { facts = []; bytes = []; sizes = []; shown = [] }

-- What is known after an entry.
abbrev pub cache_after : Cached → Entry → Cached
cache_after c e = record {
  facts = facts_after c.facts e;
  bytes = bytes_after c.bytes e;
  sizes = sizes_after c.sizes e;
  shown = shown_after c.shown e;
}

-- A granted lock that reaches the end tells the object's size.
abbrev pub size_learned : Op → Answer → List Note → List Note
size_learned (Enqueue resource mode asked) (Granted cookie extent size) sizes =
    if reaches_end (Range extent) then with_note resource cookie size sizes else sizes
size_learned o a sizes = sizes

-- What is known after an answer to an operation came with these locks.
abbrev pub learned : Op → Answer → List Lock → Cached → Cached
learned o a locks c = record c { facts = facts_after c.facts (Learns 0 o a locks); sizes = size_learned o a c.sizes }

-- ---- a lock that is given up

-- inode bits are locked at the metadata target, which is 0, and ranges at the others
abbrev pub IsOfTarget : ℕ → Policy → Type 0
IsOfTarget zero (Bits bits) = Unit {0}
IsOfTarget (suc t) (Range extent) = Unit {0}
IsOfTarget t policy = ⊥

abbrev pub forgotten_facts : Policy → Lock → List Fact → List Fact
forgotten_facts (Bits bits) l facts = without_facts 0 l facts
forgotten_facts (Range extent) l facts = facts

-- a lock on names takes its facts along; a lock on a range the bytes of the object in it, and what is kept for the lock
abbrev pub forgotten : Lock → Cached → Cached
forgotten l c = record {
  facts = forgotten_facts l.ask.policy l c.facts;
  bytes = forgotten_bytes l.ask.policy l.resource c.bytes;
  sizes = forgotten_notes l.ask.policy l c.sizes;
  shown = forgotten_notes l.ask.policy l c.shown;
}
