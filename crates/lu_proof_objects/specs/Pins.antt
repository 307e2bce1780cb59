-- Pins are counted: each held lock has as many pins as it stands among those of the calls. So a lock that a call uses stays pinned while
-- other calls come to their ends.
use Rattle.std.specs.Prelude.{◌≡◌, ℕ, zero, suc, ◌+◌, ◌<◌, ◌≤◌, List, [], ◌∷◌, ◌++◌, Option, Some, None}
use Rattle.lu_base.specs.declared.ids.At.{At}
use Rattle.lu_base.specs.declared.ids.Fid.{Fid}
use Rattle.lu_base.specs.declared.locks.Lock.{Lock}
use Rattle.lu_layout.specs.Raid0.{Raid0}
use Rattle.lu_held.specs.declared.locks.HeldLock.{HeldLock}
use Rattle.lu_held.specs.declared.names.LockName.{LockName}
use Rattle.lu_held.specs.Names.{same_name}
use Rattle.lu_held.specs.Locks.{name_of, most_pins}
use Rattle.lu_spec_entries.specs.Carried.{Kind, Work, Running}
use Rattle.lu_spec_entries.specs.Words.{Entry, Send, Drop, Told, Queues, Stands, Pins, Unpins, Marks, Changes, WritesBack, Shows}
use Rattle.lu_spec_client.specs.Calls.{call_on}
use Rattle.lu_spec_client.specs.States.{Client, Limits, turn}
use Rattle.lu_spec_client.specs.WriteBack.{flushing}
use Rattle.lu_spec_client.specs.Locks.{trims, locks_go}
use Rattle.lu_spec_client.specs.Starts.{looks_at, comes_at, stats}
use Rattle.lu_proof_objects.specs.Sound.{In, one_if}
use Rattle.lu_proof_objects.specs.Uses.{IsOnBytes}

-- how often a name stands among these, and among the pins of calls: of all, and of those on other slots
abbrev pub count_of : LockName → List LockName → ℕ
count_of name [] = 0
count_of name (n ∷ names) = one_if (same_name name n) + count_of name names

abbrev pub names_on : Option Running → List LockName
names_on None = []
names_on (Some r) = r.pins

abbrev pub pins_of : LockName → List (Option Running) → ℕ
pins_of name [] = 0
pins_of name (c ∷ calls) = count_of name (names_on c) + pins_of name calls

abbrev pub others : ℕ → LockName → List (Option Running) → ℕ
others slot name [] = 0
others zero name (c ∷ calls) = pins_of name calls
others (suc slot) name (c ∷ calls) = count_of name (names_on c) + others slot name calls

abbrev pub IsCounted : Client → Type 0
IsCounted k = (h : HeldLock) → In h k.store.held → pins_of (name_of h) k.calls ≤ h.pins

-- what the entries of a row make of the pins of the call on a slot, from these on: it stands with all of them, or is told and unpins all
abbrev pub Balanced : ℕ → List LockName → List LockName → List Entry → Type 0
Balanced slot standing names [] = standing ≡ names
Balanced slot standing names (Pins n ∷ es) = Balanced slot standing (names ++ n ∷ []) es
Balanced slot standing names (Unpins n ∷ es) = (rest : List LockName) × (names ≡ n ∷ rest) × Balanced slot standing rest es
Balanced slot standing names (Stands s r ∷ es) = (s ≡ slot) × (r.pins ≡ names) × Balanced slot names names es
Balanced slot standing names (Told s at a work ∷ es) = (s ≡ slot) × Balanced slot [] names es
Balanced slot standing names (Queues t q ∷ es) = Balanced slot standing names es
Balanced slot standing names (WritesBack r change ∷ es) = Balanced slot standing names es
Balanced slot standing names (Drop t lock ∷ es) = Balanced slot standing names es
Balanced slot standing names (Send to message ∷ es) = Balanced slot standing names es
Balanced slot standing names (Marks name ∷ es) = Balanced slot standing names es
Balanced slot standing names (Changes r change ∷ es) = Balanced slot standing names es
Balanced slot standing names (Shows r cookie last ∷ es) = Balanced slot standing names es
Balanced slot standing names (_ ∷ es) = ⊥

-- how many locks the entries pin
abbrev pub pinned_in : List Entry → ℕ
pinned_in [] = 0
pinned_in (Pins n ∷ es) = 1 + pinned_in es
pinned_in (_ ∷ es) = pinned_in es

-- they are no more than are counted, with those that there are
abbrev pub AreFew : Client → ℕ → List Entry → Type 0
AreFew k slot es = (name : LockName) → pins_of name k.calls + pinned_in es ≤ most_pins

-- the rows of a call on bytes that isn't a glimpse are such
pub record CallsBalanced : Type 0 where
  pub looks : (at : At) (slot : ℕ) (r : Running) (w : Work) (k : Client) → IsOnBytes w.kind
      → Balanced slot r.pins r.pins (looks_at at slot w.kind r w k.store)
  pub comes : (at : At) (slot : ℕ) (r : Running) (w : Work) (l : Lock) (k : Client)
      → IsOnBytes w.kind → Balanced slot r.pins r.pins (comes_at at slot w.kind r w k.store l)
  pub stats : (at : At) (slot : ℕ) (fid : Fid) (layout : Raid0) (kind : Kind) (names : List LockName) (r : Running) (k : Client)
      → IsOnBytes kind → Balanced slot r.pins r.pins (stats at slot fid layout kind names r k.store)

-- and so are those that write changes back and give locks up, for a call on any slot
pub record LocksBalanced : Type 0 where
  pub trims : (limits : Limits) (slot : ℕ) (names : List LockName) (k : Client) → Balanced slot names names (trims limits k)
  pub locks : (limits : Limits) (slot : ℕ) (names : List LockName) (k : Client) → Balanced slot names names (locks_go limits k)
  pub flushing : (at : At) (slot stripe : ℕ) (r : Running) (k : Client)
      → Balanced slot r.pins r.pins (flushing at slot stripe r r.file k.store)

-- and such entries keep the count
abbrev pub CountsStay : Type 0
CountsStay =
    (slot : ℕ) (r : Running) (es : List Entry) (k : Client)
    → call_on slot k.calls ≡ Some r → Balanced slot r.pins r.pins es → AreFew k slot es → IsCounted k → IsCounted (turn k es)

-- so a held lock that a call has pinned is pinned
abbrev pub CountedPinned : Type 0
CountedPinned =
    (slot : ℕ) (r : Running) (h : HeldLock) (k : Client)
    → call_on slot k.calls ≡ Some r → In (name_of h) r.pins → In h k.store.held → IsCounted k → 0 < h.pins
