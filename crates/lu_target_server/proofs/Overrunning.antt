-- Rows that overrun: from the call that finds no number left, back to the whole row.
use Rattle.std.proofs.Common.{◌≡◌, ℕ, suc, ◌+◌, ◌<◌, ◌≤◌, Bool, true, false, List, [], ◌∷◌, ◌++◌, length, Result, Err, ◌⊎◌, inl, inr, refl}
use Rattle.std.proofs.Common.{sym, ap, subst, ◌∙◌, arith}
use Rattle.std.specs.Result.{IsErrAnd}
use Rattle.lu_base.specs.declared.ids.At.{At}
use Rattle.lu_base.specs.declared.locks.Extent.{Extent}
use Rattle.lu_base.specs.declared.locks.Mode.{Mode}
use Rattle.lu_base.specs.declared.locks.Resource.{Resource}
use Rattle.lu_spec_machine.specs.Footprint.{grants}
use Rattle.lu_msg.specs.declared.messages.Request.{Request}
use Rattle.lu_part.specs.declared.parts.Want.{Want}
use Rattle.lu_service.specs.Acts.{Acts}
use Rattle.lu_service.specs.Contents.{asked}
use Rattle.lu_service.specs.Names.{names}
use Rattle.lu_service.specs.declared.services.Kind.TheVariants.{Mdt}
use Rattle.lu_trace.specs.Turns.{Making}
use Rattle.lu_txn.specs.Journals.{count}
use Rattle.lu_spec_entries.specs.Words.{Entry}
use Rattle.lu_spec_target.specs.Names as rows
use Rattle.lu_spec_target.specs.Names.{does_change, locks_for, names_deed, row_executes, row_acts, row_transacts, row_sweep, names_go}
use Rattle.lu_spec_target.specs.Objects.{lock_for, row_enqueue, row_written, written}
use Rattle.lu_spec_target.specs.Phase.{first_of}
use Rattle.lu_spec_target.specs.Replies.{none, next_number}
use Rattle.lu_spec_target.specs.Rows.{most_numbers, overruns}
use Rattle.lu_spec_target.specs.States.{Target, turn, follow}
use Rattle.lu_target_refines.proofs.Names.{grants_are}
use Rattle.lu_target_locks.specs.Servers.{most_cookies}
use Rattle.lu_target_locks.specs.declared.faults.LockFault.{LockFault}
use Rattle.lu_target_locks.specs.declared.faults.LockFault.TheVariants as lock_fault
use Rattle.lu_target_invariant.specs.Numbers.{Raises}
use Rattle.lu_target_invariant.proofs.Numbers.{overruns_more, raises_itself, raises_sweep}
use Rattle.lu_target_invariant.proofs.Spent.{overruns_transacts, overruns_written, overruns_acts, overruns_enqueue, overruns_later}
use Rattle.lu_target_server.specs.Servers.{ServerState, Shows, Stands, Makes}
use Rattle.lu_target_server.specs.declared.faults.TurnFault.{TurnFault}
use Rattle.lu_target_server.specs.declared.faults.TurnFault.TheVariants as fault
use Rattle.lu_target_server.specs.Faults.{IsLockFault}
use Rattle.lu_target_server.specs.Passes.{names_pass, one_acts}
use Rattle.lu_target_server.specs.Numbers.{Overruns, LacksCookies}
use Rattle.lu_target_server.proofs.Composing.{names_shown}
use Rattle.lu_target_server.proofs.Passes.{if_one, sweep_more}

-- ---- rows of rows

-- what overruns later overruns with what was made before it
pub over_then :
    (first next : Target → List Entry) (old middle : ServerState) (before between : Making)
    → Makes first old middle before between → Overruns next middle → Overruns (λ v. follow v (first v) next) old
over_then first next old middle before between makes over =
    λ v shows. overruns_later v (first v) (next (turn v (first v))) (over (turn v (first v)) (makes.shows v shows))

-- what overruns overruns with what would come after it
pub over_before : (first next : Target → List Entry) (s : ServerState) → ((w : Target) → Raises w (turn w (next w))) → Overruns first s
    → Overruns (λ v. follow v (first v) next) s
over_before first next s raises over = λ v shows. overruns_more v (first v) (next (turn v (first v))) (raises (turn v (first v)))
    (over v shows)

-- the same row, told otherwise
pub over_as : (row other : Target → List Entry) (s : ServerState) → ((v : Target) → Shows s v → row v ≡ other v) → Overruns row s
    → Overruns other s
over_as row other s same over = λ v shows. subst (λ (es : List Entry). overruns v es ≡ true) (same v shows) (over v shows)

-- ---- a pass, and those after it

raises_if : (acted : Bool) (more : ℕ) (at : At) (w : Target) → Raises w (turn w (if_one acted (row_sweep more at) w))
raises_if true more at w = raises_sweep more at w
raises_if false more at w = raises_itself w

pub over_sweep : (more : ℕ) (at : At) (s : ServerState) → Overruns (names_pass at) s → Overruns (row_sweep (suc more) at) s
over_sweep more at s over = λ w shows.
    subst (λ (es : List Entry). overruns w es ≡ true) (sym (sweep_more more at w))
    (overruns_more w (names_pass at w) (if_one (one_acts w) (row_sweep more at) (turn w (names_pass at w)))
    (raises_if (one_acts w) more at (turn w (names_pass at w))) (over w shows))

-- ---- no transaction number is left

number_spent : (s : ServerState) (v : Target) → Shows s v → count s.store.journal ≡ most_numbers → first_of v.boot + most_numbers ≤ v.number
number_spent s v shows spent =
    let boot = shows.store.journal.booted.boot in
    let number = shows.store.journal.booted.number in
    subst (λ (n : ℕ). first_of v.boot + most_numbers ≤ n) (sym number)
    (subst (λ (b : ℕ). first_of b + most_numbers ≤ first_of s.store.journal.boot + count s.store.journal) (sym boot) (omega (arith, spent)))

pub over_transacts : (s : ServerState) (at : At) (r : Request) → count s.store.journal ≡ most_numbers
    → Overruns (λ v. row_transacts (names_deed v at r (next_number v) [])) s
over_transacts s at r spent = λ v shows. overruns_transacts v at r (number_spent s v shows spent)

pub over_written : (s : ServerState) (at : At) (r : Request) → count s.store.journal ≡ most_numbers
    → Overruns (λ v. row_written (written v at r)) s
over_written s at r spent = λ v shows. overruns_written v at r (number_spent s v shows spent)

-- ---- no cookie is left

-- a lock server's fault that is one of numbers isn't want of memory
pub lock_spent : {T : Type 0} (result : Result T TurnFault) (f : LockFault) (P Q : Type 0) → IsErrAnd result (IsLockFault f) → result
    ≡ Err fault.NumbersSpent → P ⊎ ((f ≡ lock_fault.Memory) × Q) → P
lock_spent result f P Q gives is (inl p) = p
lock_spent {T} result f P Q gives is (inr (memory, q)) =
    let other : fault.NumbersSpent ≡ fault.Memory = subst (λ (x : LockFault). IsLockFault x fault.NumbersSpent) memory
    (subst (λ (x : Result T TurnFault). IsErrAnd x (IsLockFault f)) is gives) in
    absurd (cc)

cookie_is : (s : ServerState) (v : Target) → Shows s v → v.cookie ≡ first_of v.boot + s.locks.count
cookie_is s v shows = shows.locks.cookie ∙ ap (λ (boot : ℕ). first_of boot + s.locks.count) (sym shows.locks.boot)

pub lacks_cookies : (acts : Acts) → acts ≡ names → (s : ServerState) (r : Request) (wants : List Want) → s.kind ≡ Mdt → wants
    ≡ acts.grants s.contents (asked none r.who r.op)
    → most_cookies < s.locks.count + length wants → LacksCookies r s
lacks_cookies acts is s r wants kind e spent = λ v shows.
    let wants_are : wants ≡ grants v.setting.osts v.contents.tree (rows.asked r none) =
    e ∙ grants_are acts is v.setting.osts (v.number + 1) s.contents v.contents (names_shown s v kind shows) (asked none r.who r.op) in
    let many : most_cookies < s.locks.count + length (grants v.setting.osts v.contents.tree (rows.asked r none)) =
    subst (λ (ws : List Want). most_cookies < s.locks.count + length ws) wants_are spent in
    subst (λ (n : ℕ). first_of v.boot + most_numbers < n + length (grants v.setting.osts v.contents.tree (rows.asked r none)))
    (sym (cookie_is s v shows))
    (more_than (first_of v.boot) s.locks.count (length (grants v.setting.osts v.contents.tree (rows.asked r none))) many)
  where
    more_than : (first n wanted : ℕ) → most_cookies < n + wanted → first + most_numbers < first + n + wanted
    more_than first n wanted many = omega (arith, many)

pub over_acts : (s : ServerState) (at : At) (r : Request) → LacksCookies r s
    → Overruns (λ v. row_acts (names_deed v at r none (locks_for v r))) s
over_acts s at r lacks = λ v shows. overruns_acts v at r (lacks v shows)

pub over_enqueue : (s : ServerState) (at : At) (r : Request) (resource : Resource) (mode : Mode) (extent : Extent) → s.locks.count
    ≡ most_cookies
    → Overruns (λ v. row_enqueue v at r (lock_for v r resource mode extent)) s
over_enqueue s at r resource mode extent spent = λ v shows.
    overruns_enqueue v at r resource mode extent
    (subst (λ (n : ℕ). first_of v.boot + most_numbers ≤ n) (sym (cookie_is s v shows))
    (subst (λ (n : ℕ). first_of v.boot + most_numbers ≤ first_of v.boot + n) (sym spent) (omega arith)))

-- ---- one or the other

pub over_transacting : (s : ServerState) (at : At) (r : Request) → ((v : Target) → Shows s v → does_change v r ≡ true)
    → Overruns (λ v. row_transacts (names_deed v at r (next_number v) [])) s → Overruns (λ v. row_executes v at r (does_change v r)) s
over_transacting s at r changes over =
    over_as (λ v. row_transacts (names_deed v at r (next_number v) [])) (λ v. row_executes v at r (does_change v r)) s
    (λ v shows. ap (row_executes v at r) (sym (changes v shows))) over

pub over_acting : (s : ServerState) (at : At) (r : Request) → ((v : Target) → Shows s v → does_change v r ≡ false)
    → Overruns (λ v. row_acts (names_deed v at r none (locks_for v r))) s → Overruns (λ v. row_executes v at r (does_change v r)) s
over_acting s at r still over =
    over_as (λ v. row_acts (names_deed v at r none (locks_for v r))) (λ v. row_executes v at r (does_change v r)) s
    (λ v shows. ap (row_executes v at r) (sym (still v shows))) over
