-- The locks that are granted at a target and those that wait there, in the order of their lines and each with the place of
-- its line: how many stand before it.
use Rattle.std.specs.Prelude.{ℕ, Bool, false, not, ◌==◌, if◌then◌else◌, Option, Some, None, List, [], ◌∷◌, ◌++◌, length, filter, find}
use Rattle.lu_base.specs.declared.ids.Who.{Who}
use Rattle.lu_trace.specs.declared.entries.Entry.{Entry}
use Rattle.lu_trace.specs.declared.entries.Entry.TheVariants.{Grant, Wait, Release, Crash, Restore, Evict}
use Rattle.lu_spec_machine.specs.Tree.{same_life}
use Rattle.lu_spec_laws.specs.Words.Pasts.{Past, is_target}
use Rattle.lu_spec_laws.specs.Words.Queues.{has_cookie}
use Rattle.lu_judge_locks.specs.Lists.{Arrival}

abbrev pub has_its_cookie : ℕ → Arrival → Bool
has_its_cookie cookie a = has_cookie cookie a.lock

abbrev pub is_other_than : ℕ → Arrival → Bool
is_other_than cookie a = not (has_its_cookie cookie a)

abbrev pub is_of_other : Who → Arrival → Bool
is_of_other who a = not (same_life a.lock.ask.who who)

-- ---- granted

-- over whether the line is one of the target
abbrev pub granted_with : Bool → ℕ → Entry → List Arrival → List Arrival
granted_with here place e old =
    elim e [
      | Grant lock ↦ if here then old ++ record { place = place; lock = lock } ∷ [] else old
      | Restore lock ↦ if here then old ++ record { place = place; lock = lock } ∷ [] else old
      | Release cookie ↦ if here then filter (is_other_than cookie.0) old else old
      | Crash ↦ if here then [] else old
      | _ ↦ old
    ]

abbrev pub grants : ℕ → Past → List Arrival
grants t [] = []
grants t (l ∷ past) = granted_with (is_target t l.at.node) (length past) l.entry (grants t past)

-- ---- waiting

-- the first of this cookie
abbrev pub first_of : ℕ → List Arrival → Option Arrival
first_of cookie all = find (has_its_cookie cookie) all

abbrev pub is_that : Option Arrival → Arrival → Bool
is_that None a = false
is_that (Some b) a = b.place == a.place

-- without it
abbrev pub without_that : Option Arrival → List Arrival → List Arrival
without_that one all = filter (λ a. not (is_that one a)) all

-- over whether the line is one of the target
abbrev pub waiting_with : Bool → ℕ → Entry → List Arrival → List Arrival
waiting_with here place e old =
    elim e [
      | Wait lock ↦ if here then old ++ record { place = place; lock = lock } ∷ [] else old
      | Grant lock ↦ if here then without_that (first_of lock.cookie.0 old) old else old
      | Evict who cause ↦ if here then filter (is_of_other who) old else old
      | Crash ↦ if here then [] else old
      | _ ↦ old
    ]

abbrev pub arrivals : ℕ → Past → List Arrival
arrivals t [] = []
arrivals t (l ∷ past) = waiting_with (is_target t l.at.node) (length past) l.entry (arrivals t past)
