-- What is known after a history of entries, and the same told from the history alone: a byte from the last filling of its
-- place on, until a lock on its object that holds it is given up, and as 0 once a cut at or below it was answered; a fact
-- from the answer that taught it on, until its lock is given up. Histories are lists, the newest entry first.
use Rattle.std.specs.Prelude.{◌≡◌, ℕ, zero, suc, ◌+◌, ◌==◌, ◌&&◌, ◌⊎◌, nat_eq, nat_le, if◌then◌else◌, Bool, false, List, [], ◌∷◌, Option}
use Rattle.std.specs.Prelude.{Some, None, option_map}
use Rattle.lu_base.specs.declared.locks.Lock.{Lock}
use Rattle.lu_base.specs.declared.locks.Resource.{Resource}
use Rattle.lu_held.specs.Locks.{same_resource, holds_offset}
use Rattle.lu_spec_entries.specs.Words.{Entry, Learns, Drop, Life, Fills, Zeroes}
use Rattle.lu_spec_client.specs.Facts.{Fact, taught}
use Rattle.lu_cache.specs.Cached.{Cached, nothing, cache_after}

abbrev pub known_after : List Entry → Cached
known_after [] = nothing
known_after (e ∷ history) = cache_after (known_after history) e

-- ---- a byte

-- the byte of a run that stands at a position
abbrev pub byte_in : ℕ → List ℕ → ℕ → Option ℕ
byte_in at [] p = None
byte_in at (b ∷ bs) p = if nat_eq p at then Some b else byte_in (at + 1) bs p

abbrev pub or_else : Option ℕ → Option ℕ → Option ℕ
or_else None x = x
or_else (Some b) x = Some b

-- the lock is on the object, and its range holds the position
abbrev pub takes_byte : Resource → ℕ → Lock → Bool
takes_byte r p l = same_resource l.resource r && holds_offset p l.ask.policy

abbrev pub byte_known : Resource → ℕ → List Entry → Option ℕ
byte_known r p [] = None
byte_known r p (Fills s at bs ∷ history) = if same_resource s r then or_else (byte_in at bs p) (byte_known r p history)
    else byte_known r p history
byte_known r p (Zeroes s n ∷ history) = if same_resource s r && nat_le n p then option_map (λ _. 0) (byte_known r p history)
    else byte_known r p history
byte_known r p (Drop t l ∷ history) = if takes_byte r p l then None else byte_known r p history
byte_known r p (Life who ∷ history) = None
byte_known r p (_ ∷ history) = byte_known r p history

-- ---- a fact

abbrev pub IsAmong : Fact → List Fact → Type 0
IsAmong f [] = ⊥
IsAmong f (g ∷ facts) = (g ≡ f) ⊎ IsAmong f facts

abbrev pub IsKnown : Fact → List Entry → Type 0
IsKnown f [] = ⊥
IsKnown f (Learns t o a locks ∷ history) = IsAmong f (taught o a locks) ⊎ IsKnown f history
IsKnown f (Drop zero l ∷ history) = ((f.cookie.0 == l.cookie.0) ≡ false) × IsKnown f history
IsKnown f (Life who ∷ history) = ⊥
IsKnown f (_ ∷ history) = IsKnown f history
