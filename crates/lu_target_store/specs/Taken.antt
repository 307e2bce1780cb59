-- What the newest requests of lives and tags are to the rows.
use Rattle.std.specs.Prelude.{◌≡◌, ℕ, ◌==◌, ◌&&◌, if◌then◌else◌, Bool, List, Option, Some, None}
use Rattle.std.specs.Map.{lookup}
use Rattle.lu_base.specs.declared.ids.Who.{Who}
use Rattle.lu_spec_entries.specs.Words.{same_life}
use Rattle.lu_target_store.specs.declared.taken.Newest.{Newest}
use Rattle.lu_target_refines.specs.Journals.{Taken, TakenBy}

-- as the rows have it
abbrev pub shown : Option Newest → Option Taken
shown None = None
shown (Some n) = Some (record { xid = n.xid.0; answered = n.answered })

-- the newest requests by life and tag, each once
abbrev pub Entries : Type 0
Entries = List ((Who × ℕ) × Newest)

-- the key of a life and tag
abbrev pub is_named : Who → ℕ → Who × ℕ → Bool
is_named who tag key = same_life who key.0 && tag == key.1

abbrev pub newest_of : Entries → Who → ℕ → Option Newest
newest_of entries who tag = lookup (is_named who tag) entries

abbrev pub taken_of : Entries → TakenBy
taken_of entries who tag = shown (newest_of entries who tag)

-- this one is the newest of its life and tag, and all others are as before
abbrev pub IsPut : Who → ℕ → Newest → (old new : Entries) → Type 0
IsPut who tag newest old new =
    (other : Who) (t : ℕ) → newest_of new other t ≡ (if same_life other who && t == tag then Some newest else newest_of old other t)
