-- Where a boot has no number or no cookie left, the entries that take the next one overrun.
use Rattle.std.proofs.Common.{◌≡◌, ℕ, ◌+◌, ◌≤◌, ◌<◌, max, ◌||◌, Bool, true, false, List, [], ◌∷◌, ◌++◌, refl, sym, ap, subst, ◌∙◌, arith}
use Rattle.std.proofs.Common.{nat_lt}
use Rattle.std.specs.Prelude.{if◌then◌else◌, length}
use Rattle.std.proofs.lemmas.Bool.Decides.{nat_tests}
use Rattle.lu_base.specs.declared.ids.At.{At}
use Rattle.lu_base.specs.declared.ids.Who.{Who}
use Rattle.lu_base.specs.declared.locks.Extent.{Extent}
use Rattle.lu_base.specs.declared.locks.Lock.{Lock}
use Rattle.lu_base.specs.declared.locks.Mode.{Mode}
use Rattle.lu_base.specs.declared.locks.Resource.{Resource}
use Rattle.lu_spec_machine.specs.Footprint.{grants}
use Rattle.lu_msg.specs.declared.answers.Answer.TheVariants as told
use Rattle.lu_msg.specs.declared.messages.Request.{Request}
use Rattle.lu_part.specs.declared.parts.Want.{Want}
use Rattle.lu_spec_entries.specs.Carried.{Deed}
use Rattle.lu_spec_entries.specs.Words.{Entry, Act, Wait}
use Rattle.lu_spec_target.specs.Phase.{first_of, greatest_cookie}
use Rattle.lu_spec_target.specs.States.{Target, after, turn}
use Rattle.lu_spec_target.specs.Replies.{none, replies, locks_on}
use Rattle.lu_spec_target.specs.Names.{asked, locks_from, locks_for, names_deed, grant_lines, row_executes}
use Rattle.lu_spec_target.specs.Queues.{has_to_wait, grown, blocks_go}
use Rattle.lu_spec_target.specs.Glimpses.{answered}
use Rattle.lu_spec_target.specs.Objects.{lock_for, row_granted, row_waiting, row_enqueue, written, row_written}
use Rattle.lu_spec_target.specs.Rows.{most_numbers, passes, overruns}
use Rattle.lu_target_refines.proofs.Blocking.{turned_more}
use Rattle.lu_target_invariant.proofs.Plain.{plain_append, grant_lines_plain}
use Rattle.lu_target_invariant.proofs.Numbers.{overruns_more, raises_all_plain, raises_blocks_go}

or_true : (a : Bool) → (a || true) ≡ true
or_true true = refl
or_true false = refl

-- ---- a state past the last number

past : (k n : ℕ) → k < n → nat_lt k n ≡ true
past k n less = grind (arith, nat_tests)

pub number_over : (v : Target) → first_of v.boot + most_numbers < v.number → overruns v [] ≡ true
number_over v over = rw (past (first_of v.boot + most_numbers) v.number over) (or_true (nat_lt most_numbers v.boot))

pub cookie_over : (v : Target) → first_of v.boot + most_numbers < v.cookie → overruns v [] ≡ true
cookie_over v over = by (nat_lt most_numbers v.boot) (passes v.boot v.number) (past (first_of v.boot + most_numbers) v.cookie over) where
  by : (boots numbers : Bool) → passes v.boot v.cookie ≡ true → (boots || (numbers || passes v.boot v.cookie)) ≡ true
  by true numbers e = refl
  by false true e = refl
  by false false e = e

-- what overruns after some entries overruns with them before it
pub overruns_later : (v : Target) (es more : List Entry) → overruns (turn v es) more ≡ true → overruns v (es ++ more) ≡ true
overruns_later v es more over = subst (λ w. overruns w [] ≡ true) (sym (turned_more v es more)) over

above : (k n : ℕ) → k ≤ n → k < n + 1
above k n le = omega (arith, le)

-- ---- the next number

pub overruns_transacts : (v : Target) (at : At) (r : Request) → first_of v.boot + most_numbers ≤ v.number
    → overruns v (row_executes v at r true) ≡ true
overruns_transacts v at r spent = number_over (turn v (row_executes v at r true)) (above (first_of v.boot + most_numbers) v.number spent)

pub overruns_written : (v : Target) (at : At) (r : Request) → first_of v.boot + most_numbers ≤ v.number
    → overruns v (row_written (written v at r)) ≡ true
overruns_written v at r spent = number_over (turn v (row_written (written v at r))) (above (first_of v.boot + most_numbers) v.number spent)

-- ---- the next cookies

greatest_from : (n : ℕ) (who : Who) (wants : List Want) → greatest_cookie n (locks_from n who wants) ≡ n + length wants
greatest_from n who [] = omega arith
greatest_from n who (want ∷ wants) =
    let next : max n (n + 1) ≡ n + 1 = omega arith in
    let rest = greatest_from (n + 1) who wants in
    ap (λ m. greatest_cookie m (locks_from (n + 1) who wants)) next ∙ rest ∙ omega arith

-- an act takes as many as it wants locks
pub overruns_acts : (v : Target) (at : At) (r : Request) → first_of v.boot + most_numbers < v.cookie + length
    (grants v.setting.osts v.contents.tree (asked r none))
    → overruns v (row_executes v at r false) ≡ true
overruns_acts v at r spent =
    let d : Deed = names_deed v at r none (locks_for v r) in
    let w : Target = after v (Act d) in
    let rest : List Entry = grant_lines d d.reply.locks ++ replies d ∷ [] in
    let cookie : w.cookie ≡ v.cookie + length (grants v.setting.osts v.contents.tree (asked r none)) =
    greatest_from v.cookie r.who (grants v.setting.osts v.contents.tree (asked r none)) in
    overruns_more v (Act d ∷ []) rest (raises_all_plain w rest (plain_append (grant_lines d d.reply.locks) (replies d ∷ [])
    (grant_lines_plain d d.reply.locks) refl))
    (cookie_over w (subst (λ n. first_of v.boot + most_numbers < n) (sym cookie) spent))

-- and so does a lock that is asked for
pub overruns_enqueue : (v : Target) (at : At) (r : Request) (resource : Resource) (mode : Mode) (extent : Extent)
    → first_of v.boot + most_numbers ≤ v.cookie
    → overruns v (row_enqueue v at r (lock_for v r resource mode extent)) ≡ true
overruns_enqueue v at r resource mode extent spent = by (has_to_wait v (locks_on resource v.waiting) l) where
  l : Lock
  l = lock_for v r resource mode extent

  d : Deed
  d = answered v at r (told.Waiting l.cookie)

  w : Target
  w = turn v (Wait l d ∷ replies d ∷ [])

  next : (k n : ℕ) → k ≤ n → k < max n (n + 1)
  next k n le = omega (arith, le)

  by : (waits : Bool) → overruns v (if waits then row_waiting v at r l else row_granted v at r (grown v (locks_on resource v.waiting) l))
      ≡ true
  by true =
      overruns_more v (Wait l d ∷ replies d ∷ []) (blocks_go (locks_on resource w.waiting) w)
      (raises_blocks_go (locks_on resource w.waiting) w w)
      (cookie_over w (next (first_of v.boot + most_numbers) v.cookie spent))
  by false = cookie_over (turn v (row_granted v at r (grown v (locks_on resource v.waiting) l)))
      (next (first_of v.boot + most_numbers) v.cookie spent)
