-- What the table of the transactions holds, and that it shows a past.
use Rattle.std.specs.Prelude.{◌≡◌, ℕ, Bool, ◌==◌, ◌&&◌, List, [], reverse, map}
use Rattle.std.specs.List.{list_any}
use Rattle.std.specs.Option.{option_map_or}
use Rattle.std.specs.HashMap.{get_by}
use Rattle.std.specs.HashSet.{contains_by}
use Rattle.lu_spec_laws.specs.Words.Pasts.{Past}
use Rattle.lu_spec_laws.specs.Words.Lost.{Transaction, transactions}
use Rattle.lu_judge_windows.specs.declared.transactions.Done.{Done}
use Rattle.lu_judge_windows.specs.declared.transactions.Transactions.{Transactions}

-- the transaction as the laws see it
abbrev pub transaction_of : Done → Transaction
transaction_of d = record { number = d.number; who = d.who; seen = d.seen.now }

-- the first one first
abbrev pub transactions_in : Transactions → ℕ → List Transaction
transactions_in t target = option_map_or (λ all. map transaction_of all.items) (get_by (λ k. target == k) t.in_order) []

abbrev pub has_transaction : Transactions → ℕ → ℕ → Bool
has_transaction t target n = contains_by (λ k. target == k.0 && n == k.1) t.numbers

pub record ShowsTransactions (t : Transactions) (past : Past) : Type 0 where
  pub all : (target : ℕ) → reverse (transactions_in t target) ≡ transactions target past
  pub has : (target n : ℕ) → has_transaction t target n ≡ list_any (λ (x : Transaction). x.number == n) (transactions target past)
