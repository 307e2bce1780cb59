-- How facts are kept: under numbers, and two ways to them, by topic and by lock. This is the code's own, and no part of
-- what a caller sees.
use Rattle.std.specs.Prelude.{◌≡◌, ℕ, ◌==◌, ◌&&◌, not, Bool, true, List, [], ◌∷◌, map, Option, Some, unwrap_or}
use Rattle.std.specs.List.{list_any}
use Rattle.std.specs.Map.{lookup}
use Rattle.lu_base.specs.declared.ids.Cookie.{Cookie}
use Rattle.lu_base.specs.contracts.ids.CookiePartialEq.TheImpl as equality
use Rattle.lu_spec_machine.specs.Places.{RisingFrom, found_at}
use Rattle.lu_spec_client.specs.Facts.{Fact as RowFact}
use Rattle.lu_cache.specs.declared.topics.Topic.{Topic}
use Rattle.lu_cache.specs.declared.facts.Fact.{Fact}
use Rattle.lu_cache.specs.declared.filing.Filing.{Filing}
use Rattle.lu_cache.specs.Topics.{same_topic, row_fact}
use Rattle.lu_cache.specs.Numbered.{Numbered, first_number}
use Rattle.lu_cache.specs.Filings.{filed}

-- The facts under their numbers, the newest first.
abbrev pub Log : Type 0
Log = Numbered Fact

-- The facts, as the rows have them.
abbrev pub facts_of : Log → List RowFact
facts_of log = map (λ (e : ℕ × Fact). row_fact e.1) log

-- It is about this topic, under the lock with this cookie.
abbrev pub is_about : Topic → Cookie → Fact → Bool
is_about t c f = same_topic f.topic t && f.cookie.0 == c.0

-- The number of the newest such fact.
abbrev pub newest : Topic → Cookie → Log → Option ℕ
newest t c log = first_number (is_about t c) log

-- It isn't under the lock with this cookie.
abbrev pub is_kept : ℕ → RowFact → Bool
is_kept c f = not (f.cookie.0 == c)

-- ---- by lock

abbrev pub same_cookie : Cookie → Cookie → Bool
same_cookie = (equality.ghosts).eq

abbrev pub ByLock : Type 0
ByLock = List (Cookie × List ℕ)

abbrev pub numbers_at : Cookie → ByLock → List ℕ
numbers_at c locks = unwrap_or (lookup (same_cookie c) locks) []

abbrev pub has : List ℕ → ℕ → Bool
has numbers n = list_any (λ m. m == n) numbers

-- what is filed under a lock still is
abbrev pub Grows : ByLock → ByLock → Type 0
Grows old new = (c : Cookie) (n : ℕ) → has (numbers_at c old) n ≡ true → has (numbers_at c new) n ≡ true

-- ---- together

pub record IsIndexed (log : Log) (filing : Filing Topic) (locks : ByLock) : Type 0 where
  pub rising : RisingFrom 0 log
  pub topics : (t : Topic) (c : Cookie) → filed same_topic t c filing ≡ newest t c log
  pub held : (n : ℕ) (f : Fact) → found_at log n ≡ Some f → has (numbers_at f.cookie locks) n ≡ true

-- the newest fact can be taken back: this was the newest about the same before it
abbrev pub IsUndone : Option ℕ → Log → Type 0
IsUndone previous [] = Unit {0}
IsUndone previous (e ∷ log) = previous ≡ newest e.1.topic e.1.cookie log
