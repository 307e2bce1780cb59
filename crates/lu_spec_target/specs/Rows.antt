-- A target's turns: a message comes, its time goes on, or a command is done (this project's profile). A message of an older
-- boot gets `up`; then one of a life without a slot, but for a join, gets `evicted`.
use Rattle.std.specs.Prelude.{ℕ, ◌+◌, nat_lt, ◌==◌, ◌||◌, if◌then◌else◌, Bool, true, false, List, [], ◌∷◌, take, Option, Some, None}
use Rattle.lu_base.specs.declared.ids.At.{At}
use Rattle.lu_base.specs.declared.ids.Node.{Node}
use Rattle.lu_base.specs.declared.ids.Who.{Who}
use Rattle.lu_base.specs.declared.locks.Lock.{Lock}
use Rattle.lu_msg.specs.declared.messages.LockReplay.{LockReplay}
use Rattle.lu_msg.specs.declared.messages.Message.{Message}
use Rattle.lu_msg.specs.declared.messages.Message.TheVariants as message
use Rattle.lu_spec_entries.specs.Carried.{Deed}
use Rattle.lu_spec_entries.specs.Words.{Entry, Skip, Take, Crash}
use Rattle.lu_spec_target.specs.Lives.{is_life}
use Rattle.lu_spec_target.specs.Phase.{first_of}
use Rattle.lu_spec_target.specs.States.{Target, is_serving, turn}
use Rattle.lu_spec_target.specs.Glimpses.{row_report, asked_for}
use Rattle.lu_spec_target.specs.Requests.{row_request, row_cancel, row_where}
use Rattle.lu_spec_target.specs.Leaving.{commits, up, evicted, ready, row_tick, row_join}
use Rattle.lu_spec_target.specs.Recovery.{row_replay, row_lock, row_word, row_wish, row_boot, row_close}

-- ---- a message comes

abbrev pub by_boot : Target → Who → (older : Bool) → List Entry → List Entry
by_boot v who true rest = up v who ∷ []
by_boot v who false rest = rest

abbrev pub by_slot : Target → Who → (has_slot : Bool) → List Entry → List Entry
by_slot v who true rest = rest
by_slot v who false rest = evicted v who ∷ []

-- the boot is looked at first, then the life
abbrev pub heeds : Target → Who → ℕ → List Entry → List Entry
heeds v who boot rest = by_boot v who (nat_lt boot v.boot) (by_slot v who (is_life who v.lives) rest)

abbrev pub while_serving : Target → List Entry → List Entry
while_serving v rest = if is_serving v then rest else []

abbrev pub while_recovering : Target → List Entry → List Entry
while_recovering v rest = if is_serving v then [] else rest

-- what recovery keeps is of the present boot
abbrev pub of_boot : Target → ℕ → List Entry → List Entry
of_boot v boot rest = if boot == v.boot then rest else []

abbrev pub lock_again : LockReplay → Lock
lock_again r = record { cookie = r.cookie; resource = r.resource; ask = record { who = r.who; mode = r.mode; policy = r.policy } }

-- requests, cancels and the like do nothing while the target recovers; replays and locks nothing while it serves
abbrev pub row_heeds : Target → At → Message → List Entry
row_heeds v at (message.Request r) = heeds v r.who r.boot (while_serving v (row_request v at r))
row_heeds v at (message.Cancel who boot cookie) = heeds v who boot (while_serving v (row_cancel v at who cookie))
row_heeds v at (message.Where who boot cookie) = heeds v who boot (while_serving v (row_where v who cookie))
row_heeds v at (message.Size m) = heeds v m.who m.boot (while_serving v (row_report v at m (asked_for m v.glimpses)))
row_heeds v at (message.Replay r) = heeds v r.who r.boot (while_recovering v (of_boot v r.boot (row_replay v at r)))
row_heeds v at (message.Lock r) = heeds v r.who r.boot (while_recovering v (of_boot v r.boot (row_lock v at (lock_again r))))
row_heeds v at (message.Word who boot replays locks seen) =
    heeds v who boot (if is_serving v then ready v who ∷ [] else of_boot v boot
    (row_word v at (record { who = who; replays = replays; locks = locks; seen = seen })))
row_heeds v at (message.Join who boot) = by_boot v who (nat_lt boot v.boot) (if is_serving v then row_join v at who else row_wish v at who)
row_heeds v at _ = []

abbrev pub row_takes : Target → At → ℕ → Node → Message → List Entry
row_takes v at n from m = Take n from m ∷ row_heeds v at m

-- ---- commands: commit all that isn't committed, or the first of it

abbrev pub first_deeds : Option ℕ → List Deed → List Deed
first_deeds None log = log
first_deeds (Some count) log = take count log

abbrev pub row_commits : Target → List Deed → List Entry
row_commits v [] = Skip ∷ []
row_commits v (d ∷ deeds) = commits v (d ∷ deeds) [] [] ∷ []

abbrev pub row_commit : Target → Option ℕ → List Entry
row_commit v count = if is_serving v then row_commits v (first_deeds count v.log) else Skip ∷ []

abbrev pub row_closes : Target → At → List Entry
row_closes v at = if is_serving v then Skip ∷ [] else row_close at v

-- ---- all events. A tick or command that doesn't fit is passed over: by the player where the target is down, or up at a
-- boot; by the target, where there is nothing to commit or no window to close

pub data Event : Type 0 where
  Comes : (number : ℕ) (from : Node) (message : Message) → Event
  Ticks : Event
  Commits : (count : Option ℕ) → Event
  Crashes : Event
  Boots : Event
  Closes : Event

abbrev pub when_up : Target → List Entry → List Entry
when_up v rest = if v.up then rest else Skip ∷ []

-- what comes while the target is down is thrown away, and makes no turn
abbrev pub row : Target → At → Event → List Entry
row v at (Comes number from message) = row_takes v at number from message
row v at Ticks = when_up v (row_tick v at)
row v at (Commits count) = when_up v (row_commit v count)
row v at Crashes = when_up v (Crash ∷ [])
row v at Boots = if v.up then Skip ∷ [] else row_boot v at
row v at Closes = when_up v (row_closes v at)

-- ---- the end of the numbers: a boot has 2^32 - 1 transaction numbers and as many cookies, and as many boots there are; a turn
-- that needs one more isn't made

abbrev pub most_numbers : ℕ
most_numbers = 4294967295

abbrev pub passes : ℕ → ℕ → Bool
passes boot number = nat_lt (first_of boot + most_numbers) number

abbrev pub overruns : Target → List Entry → Bool
overruns v es =
    let w = turn v es in
    nat_lt most_numbers w.boot || (passes w.boot w.number || passes w.boot w.cookie)
