-- Which transactions a commit takes, as the code counts them in the journal; and which lives have slots.
use Rattle.std.proofs.Common.{◌≡◌, ℕ, zero, suc, ◌+◌, List, [], ◌∷◌, ◌++◌, map, take, drop, Option, Some, None, refl, sym, ap, ◌∙◌, arith}
use Rattle.std.specs.Prelude.{slice_get, option_map}
use Rattle.std.specs.Option.{is_some}
use Rattle.std.proofs.lemmas.List.{take-append-drop}
use Rattle.lu_base.specs.declared.ids.Txn.{Txn as TxnOf}
use Rattle.lu_base.specs.declared.ids.Who.{Who}
use Rattle.lu_txn.specs.declared.logs.Logged.{Logged}
use Rattle.lu_txn.specs.Slots.{slot_of}
use Rattle.lu_txn.specs.Logs.{number}
use Rattle.lu_txn.specs.Journals.{JournalState}
use Rattle.lu_spec_entries.specs.Carried.{Deed}
use Rattle.lu_spec_target.specs.Lives.{is_life}
use Rattle.lu_spec_target.specs.States.{Target}
use Rattle.lu_spec_target.specs.Leaving.{last_of}
use Rattle.lu_target_refines.specs.Journals.{logged_of, TakenBy, ShowsBoot, ShowsJournal}
use Rattle.lu_target_refines.proofs.LifeLists.{has_slot}

some_is : {A : Type 0} (a b : A) → Some a ≡ Some b → a ≡ b
some_is a b e = cc

counted : (n at : ℕ) (log : List Deed) (l : Logged) → slice_get (map logged_of log) at ≡ Some l → number l ≡ last_of (take (suc at) log) n
counted n at [] l e = absurd (cc)
counted n zero (d ∷ log) l e = sym (ap number (some_is (logged_of d) l e))
counted n (suc at) (d ∷ log) l e = counted d.reply.txn.0 at log l e

all_counted : (at : ℕ) (log : List Deed) → slice_get (map logged_of log) at ≡ None → take at log ≡ log
all_counted zero [] e = refl
all_counted (suc at) [] e = refl
all_counted zero (d ∷ log) e = absurd (cc)
all_counted (suc at) (d ∷ log) e = ap (λ more. d ∷ more) (all_counted at log e)

-- a clause `number` of `uncommitted` at a place: the transactions up to it are the first ones, and end in that number
pub next_last : (taken : TakenBy) (j : JournalState) (v : Target) (at : ℕ) (txn : TxnOf) → ShowsJournal taken j v
    → option_map (λ (logged : Logged). logged.transaction.txn) (slice_get j.transactions at) ≡ Some txn → txn.0
    ≡ last_of (take (at + 1) v.log) v.committed
next_last taken j v at txn shows e = by (slice_get j.transactions at) refl e where
  place : suc at ≡ at + 1
  place = omega arith

  by : (found : Option Logged) → slice_get j.transactions at ≡ found → option_map (λ (logged : Logged). logged.transaction.txn) found
      ≡ Some txn → txn.0 ≡ last_of (take (at + 1) v.log) v.committed
  by None f e = absurd (cc)
  by (Some l) f e =
      ap (λ (t : TxnOf). t.0) (sym (some_is l.transaction.txn txn e))
      ∙ counted v.committed at v.log l (ap (λ log. slice_get log at) (sym shows.log) ∙ f)
      ∙ ap (λ count. last_of (take count v.log) v.committed) place

-- where there is none, these are all
pub all_taken : (taken : TakenBy) (j : JournalState) (v : Target) (at : ℕ) → ShowsJournal taken j v
    → option_map (λ (logged : Logged). logged.transaction.txn) (slice_get j.transactions at) ≡ None → take at v.log ≡ v.log
all_taken taken j v at shows e = by (slice_get j.transactions at) refl e where
  by : (found : Option Logged) → slice_get j.transactions at ≡ found → option_map (λ (logged : Logged). logged.transaction.txn) found ≡ None
      → take at v.log ≡ v.log
  by None f e = all_counted at v.log (ap (λ log. slice_get log at) (sym shows.log) ∙ f)
  by (Some l) f e = absurd (cc)

-- the first ones and the rest
pub first_rest : (count : ℕ) (log : List Deed) → log ≡ take count log ++ drop count log
first_rest count log = sym (take-append-drop count log)

-- a life has a slot where the rows have it
pub has_life : (j : JournalState) (v : Target) (who : Who) → ShowsBoot j v → is_some (slot_of who j.slots) ≡ is_life who v.lives
has_life j v who shows = has_slot who j.slots ∙ ap (is_life who) (sym shows.lives)
