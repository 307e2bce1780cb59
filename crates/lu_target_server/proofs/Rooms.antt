-- What a server shows doesn't overrun: it counts no further.
use Rattle.std.proofs.Common.{◌≡◌, ℕ, ◌+◌, ◌-◌, ◌*◌, ◌<◌, ◌≤◌, ◌||◌, Bool, true, false, List, [], sym, ap, subst, ◌∙◌, arith, nat_lt}
use Rattle.std.proofs.lemmas.Bool.Decides.{nat_tests}
use Rattle.lu_trace.specs.Turns.{Making}
use Rattle.lu_txn.specs.Journals.{JournalState, IsSound, count}
use Rattle.lu_spec_entries.specs.Words.{Entry}
use Rattle.lu_spec_target.specs.Phase.{first_of}
use Rattle.lu_spec_target.specs.Rows.{most_numbers, passes, overruns}
use Rattle.lu_spec_target.specs.States.{Target, turn}
use Rattle.lu_target_server.specs.Numbers.{HasRoom}
use Rattle.lu_target_server.specs.Servers.{ServerState, Shows, Makes}

within : (k n : ℕ) → n ≤ k → nat_lt k n ≡ false
within k n le = grind (arith, nat_tests)

none_of : (boots numbers cookies : Bool) → boots ≡ false → numbers ≡ false → cookies ≡ false → (boots || (numbers || cookies)) ≡ false
none_of true numbers cookies b n c = b
none_of false true cookies b n c = n
none_of false false cookies b n c = c

counted_low : (newest boot : ℕ) → newest < (boot + 1) * 4294967296 → newest - boot * 4294967296 ≤ most_numbers
counted_low newest boot low = omega (arith, low)

boot_low : (boot : ℕ) → boot < 4294967296 → boot ≤ most_numbers
boot_low boot low = omega (arith, low)

further : (first n : ℕ) → n ≤ most_numbers → first + n ≤ first + most_numbers
further first n low = omega (arith, low)

pub in_room : (s : ServerState) (v : Target) → Shows s v → overruns v [] ≡ false
in_room s v shows =
    let j : JournalState = s.store.journal in
    let sound : IsSound j = shows.store.sound in
    let boot : v.boot ≡ j.boot = shows.store.journal.booted.boot in
    let numbers : v.number ≤ first_of v.boot + most_numbers =
    subst (λ (n : ℕ). n ≤ first_of v.boot + most_numbers) (sym shows.store.journal.booted.number)
    (subst (λ (b : ℕ). first_of j.boot + count j ≤ first_of b + most_numbers) (sym boot)
    (further (first_of j.boot) (count j) (counted_low j.newest j.boot sound.newest))) in
    let cookies : v.cookie ≤ first_of v.boot + most_numbers =
    subst (λ (n : ℕ). n ≤ first_of v.boot + most_numbers) (sym shows.locks.cookie)
    (subst (λ (b : ℕ). first_of b + s.locks.count ≤ first_of v.boot + most_numbers) shows.locks.boot
    (further (first_of v.boot) s.locks.count shows.locks.counted)) in
    none_of (nat_lt most_numbers v.boot) (passes v.boot v.number) (passes v.boot v.cookie)
    (within most_numbers v.boot (subst (λ (n : ℕ). n ≤ most_numbers) (sym boot) (boot_low j.boot sound.boot)))
    (within (first_of v.boot + most_numbers) v.number numbers)
    (within (first_of v.boot + most_numbers) v.cookie cookies)

-- a row that was made doesn't overrun
pub room_made : (row : Target → List Entry) (old new : ServerState) (before after : Making) → Makes row old new before after
    → HasRoom row old
room_made row old new before after makes = λ v shows. in_room new (turn v (row v)) (makes.shows v shows)
