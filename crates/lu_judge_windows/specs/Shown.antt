-- What the tables of given and held locks hold, and that they show a past.
use Rattle.std.specs.Prelude.{◌≡◌, ℕ, Bool, false, true, not, ◌==◌, ◌&&◌, Option, Some, None, List, [], ◌∷◌}
use Rattle.std.specs.Option.{option_map}
use Rattle.std.specs.List.{list_any}
use Rattle.std.specs.HashMap.{get_by}
use Rattle.lu_base.specs.declared.ids.Who.{Who}
use Rattle.lu_base.specs.declared.ids.Node.{Node}
use Rattle.lu_base.specs.declared.locks.Ask.{Ask}
use Rattle.lu_base.specs.declared.locks.Lock.{Lock}
use Rattle.lu_base.specs.declared.locks.Resource.{Resource}
use Rattle.lu_lock.specs.Conflict.{conflict}
use Rattle.lu_lock.specs.Modes.{under}
use Rattle.lu_spec_machine.specs.Tree.{same_life}
use Rattle.lu_spec_laws.specs.Words.Pasts.{Past}
use Rattle.lu_spec_laws.specs.Words.Lives.{who_is}
use Rattle.lu_spec_laws.specs.Words.Queues.{is_on}
use Rattle.lu_spec_laws.specs.Words.Held.{given, Held, held, held_at, dropped_at, is_held_by}
use Rattle.lu_judge_windows.specs.declared.given.Given.{Given}
use Rattle.lu_judge_windows.specs.declared.holdings.Holdings.{Holdings}
use Rattle.lu_judge_windows.specs.declared.held.HeldLocks.{HeldLocks}
use Rattle.lu_judge_windows.specs.Lists.{listed}

-- ---- what was given

abbrev pub given_in : Given → ℕ → Who → ℕ → Option Lock
given_in t target who cookie =
    option_map (λ lock. lock.now)
    (get_by (λ k. (target == k.0.0 && cookie == k.0.1) && (who.client == k.1.0 && who.life == k.1.1)) t.by_name)

abbrev pub ShowsGiven : Given → Past → Type 0
ShowsGiven t past = (target : ℕ) (who : Who) (cookie : ℕ) → given_in t target who cookie ≡ given target who cookie past

-- ---- what is held

-- the lock of this cookie of the target that the life holds
abbrev pub named : Holdings → Who → ℕ → ℕ → Option Lock
named t who target cookie =
    option_map (λ lock. lock.now)
    (get_by (λ k. (target == k.0.0 && cookie == k.0.1) && (who.client == k.1.0 && who.life == k.1.1)) t.by_name)

abbrev pub same_two : (ℕ × ℕ) → (ℕ × ℕ) → Bool
same_two a b = a.0 == b.0 && a.1 == b.1

abbrev pub same_three : (ℕ × (ℕ × ℕ)) → (ℕ × (ℕ × ℕ)) → Bool
same_three a b = a.0 == b.0 && same_two a.1 b.1

abbrev pub listed_on : Holdings → ℕ → Resource → List Held
listed_on t target resource = listed same_three t.by_resource (target, (resource.fid.0, resource.stripe))

abbrev pub listed_of : Holdings → Who → List Held
listed_of t who = listed same_two t.writers (who.client, who.life)

abbrev pub is_none_listed : List Held → Bool
is_none_listed [] = true
is_none_listed (h ∷ list) = false

-- the lock, as a life holds it
abbrev pub held_by : Who → ℕ → Lock → Held
held_by who target lock = record { who = who; target = target; lock = lock }

-- there is one, and it passes the test
abbrev pub passes : (Held → Bool) → Option Held → Bool
passes test None = false
passes test (Some h) = test h

-- it is a lock of the target on that resource
abbrev pub is_at : ℕ → Resource → Held → Bool
is_at target resource h = h.target == target && is_on resource h.lock

-- it is in mode PW
abbrev pub is_write : Lock → Bool
is_write lock = under lock.ask.mode false true false false false false

-- it is a PW lock of the life
abbrev pub is_written_by : Who → Held → Bool
is_written_by who h = is_write h.lock && same_life h.who who

-- a list has those of the held ones that pass the test
abbrev pub Has : (Held → Bool) → List Held → List Held → Type 0
Has test list held = (also : Held → Bool) → list_any also list ≡ list_any (λ h. test h && also h) held

-- Of each name at most one is held: the one that the table has.
pub record ShowsHoldings (t : Holdings) (held : List Held) : Type 0 where
  pub one : (who : Who) (target cookie : ℕ) (also : Held → Bool) → list_any (λ h. is_held_by who target cookie h && also h) held
      ≡ passes also (option_map (held_by who target) (named t who target cookie))
  pub resources : (target : ℕ) (resource : Resource) → Has (is_at target resource) (listed_on t target resource) held
  pub writers : (who : Who) → Has (is_written_by who) (listed_of t who) held

-- it conflicts with the ask, and its life isn't out
abbrev pub stands_against : (Who → Bool) → Ask → Held → Bool
stands_against is_out ask h = conflict ask h.lock.ask && not (is_out h.who)

-- what a `hold` or `drop` line of the node makes of what is held
abbrev pub holds_at : Past → Node → ℕ → ℕ → List Held → List Held
holds_at past = held_at (λ c. who_is c past) (λ t who cookie. given t who cookie past)

abbrev pub drops_at : Past → Node → ℕ → ℕ → List Held → List Held
drops_at past = dropped_at (λ c. who_is c past) (λ t who cookie. given t who cookie past)

-- ---- together

pub record ShowsHeldLocks (t : HeldLocks) (past : Past) : Type 0 where
  pub given : ShowsGiven t.given past
  pub held : ShowsHoldings t.holdings (held past)
