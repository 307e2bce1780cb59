-- What the tables hold, and that they show a past: at each key what the laws' notion says there.
use Rattle.std.specs.Prelude.{◌≡◌, ℕ, ℤ, pos, Bool, ◌==◌, ◌&&◌, if◌then◌else◌, Option, Some, None}
use Rattle.std.specs.Option.{option_map}
use Rattle.std.specs.HashMap.{get_by}
use Rattle.lu_base.specs.declared.ids.At.{At}
use Rattle.lu_base.specs.declared.ids.Txn.{Txn as TxnOf}
use Rattle.lu_base.specs.declared.ids.Who.{Who}
use Rattle.lu_spec_laws.specs.Words.Pasts.{Past, is_target}
use Rattle.lu_spec_laws.specs.Words.Calls.{Binding, Begun, binding, open_call, number_in}
use Rattle.lu_judge_calls.specs.declared.begun.Binding.{Binding as KeptBinding}
use Rattle.lu_judge_calls.specs.declared.begun.Begun.{Begun as Kept}
use Rattle.lu_judge_calls.specs.declared.handles.Handles.{Handles}
use Rattle.lu_judge_calls.specs.declared.open_calls.OpenCalls.{OpenCalls}
use Rattle.lu_judge_calls.specs.declared.transactions.Transactions.{Transactions}

-- ---- calls as the laws see them

abbrev pub binding_of : KeptBinding → Binding
binding_of b = record { fid = b.fid; number = b.number }

abbrev pub begun_of : Kept → Begun
begun_of b = record { at = b.at; call = b.call.now; bad = b.bad; bound = option_map binding_of b.bound }

-- the stripe size and number of stripes of a `create`
abbrev pub stripes_or : Option (ℕ × ℤ) → ℕ × ℤ
stripes_or None = (1048576, pos 1)
stripes_or (Some stripes) = stripes

-- ---- the transactions of the metadata target

abbrev pub number_of : Transactions → At → Who → ℕ → Option TxnOf
number_of t at who x =
    if is_target 0 at.node
    then get_by (λ k. at.stamp.0 == k.0 && ((who.client == k.1.0.0 && who.life == k.1.0.1) && x == k.1.1)) t.by_stamp
    else None

abbrev pub ShowsTransactions : Transactions → Past → Type 0
ShowsTransactions t past = (at : At) (who : Who) (x : ℕ) → number_of t at who x ≡ number_in past at who x

-- ---- handles

-- both are one life, as a table's key is compared
abbrev pub is_life : Who → Who → Bool
is_life who other = who.client == other.client && who.life == other.life

abbrev pub binding_in : Handles → Who → ℕ → Option Binding
binding_in t who h =
    option_map binding_of (get_by (λ k. (who.client == k.0.0 && who.life == k.0.1) && h == k.1) t.by_life)

abbrev pub ShowsHandles : Handles → Past → Type 0
ShowsHandles t past = (who : Who) (h : ℕ) → binding_in t who h ≡ binding who h past

-- ---- calls that stand

abbrev pub standing_in : OpenCalls → ℕ → ℕ → Option Begun
standing_in t c s = option_map begun_of (get_by (λ k. c == k.0 && s == k.1) t.standing)

abbrev pub ShowsStanding : OpenCalls → Past → Type 0
ShowsStanding t past = (c s : ℕ) → standing_in t c s ≡ open_call c s past

-- ---- together

pub record ShowsOpenCalls (t : OpenCalls) (past : Past) : Type 0 where
  pub standing : ShowsStanding t past
  pub handles : ShowsHandles t.handles past
  pub transactions : ShowsTransactions t.transactions past
