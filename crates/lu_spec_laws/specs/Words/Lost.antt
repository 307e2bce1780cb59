-- What the close of a recovery window loses (this project's profile): of the transactions that stand and aren't
-- committed, in rising order, one that its life can't replay, and one that has seen a lost one. The manual's
-- version-based recovery keeps more; no agreement with it is claimed.
use Rattle.std.specs.Prelude.{ℕ, Bool, true, false, not, ◌&&◌, ◌||◌, nat_eq, nat_lt, if◌then◌else◌, List, [], ◌∷◌, map, filter}
use Rattle.std.specs.List.{list_any, concat}
use Rattle.lu_base.specs.declared.ids.At.{At}
use Rattle.lu_base.specs.declared.ids.Who.{Who}
use Rattle.lu_trace.specs.declared.entries.Entry.{Entry}
use Rattle.lu_trace.specs.declared.entries.Entry.TheVariants.{Txn, Close, Fail}
use Rattle.lu_trace.specs.declared.entries.Line.{Line}
use Rattle.lu_spec_laws.specs.Words.Pasts.{Past, is_target, same_turn}
use Rattle.lu_spec_laws.specs.Words.Scopes.{any_in}
use Rattle.lu_spec_laws.specs.Words.Boots.{committed}
use Rattle.lu_spec_laws.specs.Words.Handed.{is_back}
use Rattle.lu_spec_laws.specs.Words.Learned.{heard_number}

-- ---- the transactions of a target

pub record Transaction : Type 0 where
  pub number : ℕ
  pub who : Who
  pub seen : List ℕ

abbrev pub transactions_step : ℕ → Line → List Transaction → List Transaction
transactions_step t l old =
    elim l.entry [
      | Txn number who xid seen answer ↦
          if is_target t l.at.node then record { number = number.0; who = who; seen = seen } ∷ old else old
      | _ ↦ old
    ]

-- the newest first
abbrev pub transactions : ℕ → Past → List Transaction
transactions t [] = []
transactions t (l ∷ past) = transactions_step t l (transactions t past)

-- its life has a slot, is back, and heard a reply that carries the number
abbrev pub is_replayable : ℕ → Past → Transaction → Bool
is_replayable t past x = is_back t past x.who && heard_number t x.who x.number past

abbrev pub is_among : List ℕ → ℕ → Bool
is_among numbers n = list_any (nat_eq n) numbers

-- ---- what one close loses

-- a transaction after older ones of which these numbers are lost
abbrev pub with_lost : (Transaction → Bool) → Transaction → List ℕ → List ℕ
with_lost replayable x lost = if not (replayable x) || list_any (is_among lost) x.seen then x.number ∷ lost else lost

-- of transactions, the newest first, the numbers of those that are lost
abbrev pub lost_of : (Transaction → Bool) → List Transaction → List ℕ
lost_of replayable [] = []
lost_of replayable (x ∷ older) = with_lost replayable x (lost_of replayable older)

-- the transactions above this committed number that no earlier close lost
abbrev pub undecided : ℕ → List ℕ → List Transaction → List Transaction
undecided above lost xs = filter (λ (x : Transaction). nat_lt above x.number && not (is_among lost x.number)) xs

-- the numbers that a close after the past loses, where these were lost before
abbrev pub loses : ℕ → Past → List ℕ → List ℕ
loses t past lost = lost_of (is_replayable t past) (undecided (committed t past) lost (transactions t past))

-- ---- what all closes lose

-- a close: its turn, and the numbers that it loses
pub record Loss : Type 0 where
  pub at : At
  pub numbers : List ℕ

abbrev pub numbers_of : List Loss → List ℕ
numbers_of losses = concat (map (λ (x : Loss). x.numbers) losses)

abbrev pub is_fail : Entry → Bool
is_fail Fail = true
is_fail _ = false

-- a close in whose turn the disk fails isn't finished, and loses nothing; in the newest turn, as far as the past goes
abbrev pub with_close : Bool → At → (List ℕ → List ℕ) → List Loss → List Loss
with_close failed at lose old = if failed then old else record { at = at; numbers = lose (numbers_of old) } ∷ old

abbrev pub without_turn : At → List Loss → List Loss
without_turn at old = filter (λ (x : Loss). not (same_turn x.at at)) old

-- over whether the disk has failed in this turn, and what a close loses here where these numbers were lost before
abbrev pub losses_step : ℕ → Bool → (List ℕ → List ℕ) → Line → List Loss → List Loss
losses_step t failed lose l old =
    elim l.entry [
      | Close ↦ if is_target t l.at.node then with_close failed l.at lose old else old
      | Fail ↦ if is_target t l.at.node then without_turn l.at old else old
      | _ ↦ old
    ]

-- the target's closes, the last one first
abbrev pub losses : ℕ → Past → List Loss
losses t [] = []
losses t (l ∷ past) = losses_step t (any_in is_fail l.at past) (loses t past) l (losses t past)

-- the numbers that its finished closes lost
abbrev pub lost_numbers : ℕ → Past → List ℕ
lost_numbers t past = numbers_of (losses t past)

-- a finished close of the target lost this transaction: otherwise it stands
abbrev pub is_lost : Past → ℕ → ℕ → Bool
is_lost past t = is_among (lost_numbers t past)
