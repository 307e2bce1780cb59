-- How a lock's facts are forgotten one by one: what is under other locks stays as it was filed, and under this lock nothing
-- is filed of which there is no fact any more.
use Rattle.std.specs.Prelude.{◌≡◌, ℕ, ◌==◌, not, Bool, true, false, List, filter, Some, None}
use Rattle.lu_base.specs.declared.ids.Cookie.{Cookie}
use Rattle.lu_spec_machine.specs.Places.{RisingFrom, found_at}
use Rattle.lu_cache.specs.declared.topics.Topic.{Topic}
use Rattle.lu_cache.specs.declared.facts.Fact.{Fact}
use Rattle.lu_cache.specs.declared.filing.Filing.{Filing}
use Rattle.lu_cache.specs.Topics.{same_topic}
use Rattle.lu_cache.specs.Filings.{filed}
use Rattle.lu_cache.specs.Logs.{Log, newest, has}

-- under another lock
abbrev pub is_other : Cookie → (ℕ × Fact) → Bool
is_other c e = not (e.1.cookie.0 == c.0)

abbrev pub OthersFiled : Cookie → Filing Topic → Log → Type 0
OthersFiled c filing log = (t : Topic) (d : Cookie) → (c.0 == d.0) ≡ false → filed same_topic t d filing ≡ newest t d log

abbrev pub NoneFiled : Cookie → Filing Topic → Log → Type 0
NoneFiled c filing log = (t : Topic) → newest t c log ≡ None → filed same_topic t c filing ≡ None

pub record Forgets (c : Cookie) (numbers : List ℕ) (old : Log) (before : Filing Topic) (new : Log) (after : Filing Topic) : Type 0 where
  pub kept : filter (is_other c) new ≡ filter (is_other c) old
  pub rising : RisingFrom 0 new
  pub others : OthersFiled c before old → OthersFiled c after new
  pub none : NoneFiled c before old → NoneFiled c after new
  pub there : (n : ℕ) (f : Fact) → found_at new n ≡ Some f → found_at old n ≡ Some f
  pub gone : (n : ℕ) (f : Fact) → found_at new n ≡ Some f → (f.cookie.0 == c.0) ≡ true → has numbers n ≡ false
