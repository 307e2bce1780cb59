-- Which life gave a number, and that this is known of each in a window.
use Rattle.std.specs.Prelude.{◌≡◌, ℕ, ◌==◌, ◌&&◌, if◌then◌else◌, Bool, true, List, Option, Some, None}
use Rattle.std.specs.List.{list_any}
use Rattle.std.specs.Map.{lookup}
use Rattle.lu_base.specs.declared.ids.Who.{Who}
use Rattle.lu_base.specs.declared.locks.Lock.{Lock}
use Rattle.lu_spec_machine.specs.Footprint.{Every}
use Rattle.lu_spec_entries.specs.Words.{same_life}
use Rattle.lu_spec_target.specs.Windows.{Replayed}

abbrev pub Entries : Type 0
Entries = List (ℕ × Who)

abbrev pub giver_of : ℕ → Entries → Option Who
giver_of number entries = lookup (λ n. number == n) entries

-- this life gave this number, and of all others it is as before
abbrev pub IsGivenBy : ℕ → Who → (old new : Entries) → Type 0
IsGivenBy number who old new = (n : ℕ) → giver_of n new ≡ (if n == number then Some who else giver_of n old)

-- nobody gave it, and of all others it is as before
abbrev pub IsForgotten : ℕ → (old new : Entries) → Type 0
IsForgotten number old new = (n : ℕ) → giver_of n new ≡ (if n == number then None else giver_of n old)

-- ---- of all that the window has it is known who gave it

abbrev pub GaveReplays : Entries → List Replayed → Type 0
GaveReplays entries replays = Every (λ (r : Replayed). giver_of r.number entries ≡ Some r.who) replays

abbrev pub GaveLocks : Entries → List Lock → Type 0
GaveLocks entries locks = Every (λ (l : Lock). giver_of l.cookie.0 entries ≡ Some l.ask.who) locks

-- ---- and what is known to be given, the window has

abbrev pub has_replay : ℕ → Who → List Replayed → Bool
has_replay number who replays = list_any (λ r. r.number == number && same_life r.who who) replays

abbrev pub has_lock : ℕ → Who → List Lock → Bool
has_lock number who locks = list_any (λ l. l.cookie.0 == number && same_life l.ask.who who) locks

abbrev pub KnowsReplays : Entries → List Replayed → Type 0
KnowsReplays entries replays = (number : ℕ) (who : Who) → giver_of number entries ≡ Some who → has_replay number who replays ≡ true

abbrev pub KnowsLocks : Entries → List Lock → Type 0
KnowsLocks entries locks = (number : ℕ) (who : Who) → giver_of number entries ≡ Some who → has_lock number who locks ≡ true
