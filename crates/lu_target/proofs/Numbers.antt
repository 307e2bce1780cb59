-- Numbers that are wanting, and those that are there.
use Rattle.std.proofs.Common.{◌≡◌, ◌≢◌, ℕ, ◌+◌, ◌-◌, ◌*◌, ◌<◌, ◌≤◌, ◌||◌, nat_lt, Bool, true, false, List, [], Option, Some, None, Result}
use Rattle.std.proofs.Common.{Err, ◌⊎◌, inl, inr, refl, sym, ap, subst, ◌∙◌, arith}
use Rattle.std.proofs.lemmas.Bool.Decides.{nat_tests}
use Rattle.std.specs.Option.{is_some}
use Rattle.lu_base.specs.declared.ids.At.{At}
use Rattle.lu_base.specs.declared.ids.Who.{Who}
use Rattle.lu_trace.specs.Turns.{Making}
use Rattle.lu_txn.specs.Journals.{JournalState, IsSound, count}
use Rattle.lu_spec_entries.specs.Words.{Entry}
use Rattle.lu_msg.specs.declared.messages.Message.TheVariants as message
use Rattle.lu_spec_target.specs.Leaving.{row_join, row_tick}
use Rattle.lu_spec_target.specs.Phase.{first_of}
use Rattle.lu_spec_target.specs.Rows.{most_numbers, passes, overruns, heeds, row_heeds, while_serving, when_up, Ticks}
use Rattle.lu_spec_target.specs.States.{Target, turn}
use Rattle.lu_target_server.specs.Windows.{State}
use Rattle.lu_target_server.specs.LockServers.{most_ticks}
use Rattle.lu_target_server.specs.Numbers.{Overruns}
use Rattle.lu_target_server.specs.Servers.{ServerState, Shows}
use Rattle.lu_target_server.specs.Recovering.{Recovers}
use Rattle.lu_target_server.proofs.Rooms.{in_room}
use Rattle.lu_target.specs.Running.{RunningState, IsOf, IsIn, HasHeeded, Turns, OverrunsIn, HasNoTickIn}
use Rattle.lu_target.proofs.Turning.{in_none, in_some}
use Rattle.lu_target.specs.Targets.{LacksNumber}
use Rattle.lu_target.proofs.Heeding.{while_serves}
use Rattle.lu_target.proofs.Keeping.{joins_row}

-- ---- what is shown doesn't overrun: it counts no further

within : (k n : ℕ) → n ≤ k → nat_lt k n ≡ false
within k n le = grind (arith, nat_tests)

none_of : (boots numbers cookies : Bool) → boots ≡ false → numbers ≡ false → cookies ≡ false → (boots || (numbers || cookies)) ≡ false
none_of true numbers cookies b n c = b
none_of false true cookies b n c = n
none_of false false cookies b n c = c

counted_low : (newest boot : ℕ) → newest < (boot + 1) * 4294967296 → newest - boot * 4294967296 ≤ most_numbers
counted_low newest boot low = omega (arith, low)

boot_low : (boot : ℕ) → boot < 4294967296 → boot ≤ most_numbers
boot_low boot low = omega (arith, low)

further : (first n : ℕ) → n ≤ most_numbers → first + n ≤ first + most_numbers
further first n low = omega (arith, low)

none_further : (first : ℕ) → first ≤ first + most_numbers
none_further first = omega (arith)

recovering_room : (s : ServerState) (w : State) (v : Target) → Recovers s w v → overruns v [] ≡ false
recovering_room s w v r =
    let g = r.gathers in
    let j : JournalState = s.store.journal in
    let sound : IsSound j = g.store.sound in
    let boot : v.boot ≡ j.boot = g.store.journal.booted.boot in
    let numbers : v.number ≤ first_of v.boot + most_numbers =
    subst (λ (n : ℕ). n ≤ first_of v.boot + most_numbers) (sym g.store.journal.booted.number)
    (subst (λ (b : ℕ). first_of j.boot + count j ≤ first_of b + most_numbers) (sym boot)
    (further (first_of j.boot) (count j) (counted_low j.newest j.boot sound.newest))) in
    let cookies : v.cookie ≤ first_of v.boot + most_numbers = subst (λ (n : ℕ). n ≤ first_of v.boot + most_numbers) (sym g.first)
    (none_further (first_of v.boot)) in
    none_of (nat_lt most_numbers v.boot) (passes v.boot v.number) (passes v.boot v.cookie)
    (within most_numbers v.boot (subst (λ (n : ℕ). n ≤ most_numbers) (sym boot) (boot_low j.boot sound.boot)))
    (within (first_of v.boot + most_numbers) v.number numbers)
    (within (first_of v.boot + most_numbers) v.cookie cookies)

in_room_in : (t : RunningState) (v : Target) → IsIn t v → overruns v [] ≡ false
in_room_in t v it = by t.window it where
  by : (o : Option State) → IsOf t.server o v → overruns v [] ≡ false
  by None shows = in_room t.server v shows
  by (Some w) r = recovering_room t.server w v r

-- a row that was made doesn't overrun
pub room_in : (row : Target → List Entry) (old new : RunningState) (before after : Making) → Turns row old new before after → (v : Target)
    → IsIn old v → overruns v (row v) ≡ false
room_in row old new before after turns v it = in_room_in new (turn v (row v)) (turns.shows v it)

-- ---- rows of which a server says that they overrun

-- the same row, told otherwise
pub over_in : (row other : Target → List Entry) (t : RunningState) → ((v : Target) → IsIn t v → row v ≡ other v) → OverrunsIn row t
    → OverrunsIn other t
over_in row other t same over = λ v it. subst (λ (es : List Entry). overruns v es ≡ true) (same v it) (over v it)

serves_over : (row : Target → List Entry) (t : RunningState) → t.window ≡ None → Overruns row t.server → OverrunsIn row t
serves_over row t none over = λ v it. over v (in_none t v none it)

-- a message that is heeded by a target that serves
pub heeded_over :
    (rest : Target → List Entry) (t : RunningState) (who : Who) (boot : ℕ) (before after : Making) → t.window ≡ None
    → HasHeeded true who boot t before after
    → Overruns rest t.server → OverrunsIn (λ v. heeds v who boot (while_serving v (rest v))) t
heeded_over rest t who boot before after none has over =
    over_in rest (λ v. heeds v who boot (while_serving v (rest v))) t (while_serves rest t who boot before after none has)
    (serves_over rest t none over)

-- a life that joins a target that serves
pub joins_over :
    (at : At) (t : RunningState) (who : Who) (boot : ℕ) → t.window ≡ None → nat_lt boot t.server.boot ≡ false
    → Overruns (λ v. row_join v at who) t.server → OverrunsIn (λ v. row_heeds v at (message.Join who boot)) t
joins_over at t who boot none later over =
    over_in (λ v. row_join v at who) (λ v. row_heeds v at (message.Join who boot)) t (joins_row at t who boot none later)
    (serves_over (λ v. row_join v at who) t none over)

-- ---- a tick

-- none was left while it recovers
no_tick_of : (t : RunningState) → is_some t.window ≡ true → t.server.locks.ticks ≡ most_ticks → (v : Target) → IsIn t v → v.ticks
    ≡ most_ticks
no_tick_of t some ticks v it = by t.window some it where
  by : (o : Option State) → is_some o ≡ true → IsOf t.server o v → v.ticks ≡ most_ticks
  by None e it = absurd (cc)
  by (Some w) e r = r.gathers.locks.ticks ∙ ticks

pub no_tick_in : (t : RunningState) → is_some t.window ≡ true → t.server.locks.ticks ≡ most_ticks → HasNoTickIn t
no_tick_in t some ticks = λ v it. no_tick_of t some ticks v it
