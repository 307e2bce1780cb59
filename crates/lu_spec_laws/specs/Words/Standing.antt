-- The contents of the metadata target: its standing transactions in rising order over an empty service; at an
-- eviction the opens of that life go. A transaction whose request was never sent changes nothing, nor does one
-- whose number isn't above the root's and all before.
use Rattle.std.specs.Prelude.{ℕ, max, Bool, not, ◌&&◌, nat_lt, if◌then◌else◌, Option, Some, None, [], ◌∷◌}
use Rattle.lu_base.specs.declared.ids.Txn.{Txn as TxnOf}
use Rattle.lu_base.specs.declared.ids.Who.{Who}
use Rattle.lu_msg.specs.declared.operations.Op.{Op}
use Rattle.lu_trace.specs.declared.entries.Entry.TheVariants.{Txn, Evict}
use Rattle.lu_trace.specs.declared.entries.Line.{Line}
use Rattle.lu_spec_machine.specs.Tree.{Tree}
use Rattle.lu_spec_machine.specs.Footprint.{empty, after, forget}
use Rattle.lu_spec_laws.specs.Words.Pasts.{Past, is_target}
use Rattle.lu_spec_laws.specs.Words.Requests.{asked}
use Rattle.lu_spec_laws.specs.Words.Boots.{greatest}
use Rattle.lu_spec_laws.specs.Words.Lost.{is_lost}

abbrev pub executed : ℕ → Tree → TxnOf → Who → Option Op → Tree
executed osts tree number who None = tree
executed osts tree number who (Some op) = after osts tree (record { number = number; who = who; op = op })

-- the number is above 0.1 and above all earlier ones of the target
abbrev pub is_next : ℕ → Past → ℕ → Bool
is_next t past n = nat_lt (max 1 (greatest t past)) n

-- over whether a number stands and is next here, and the operation of a request
abbrev pub tree_step : ℕ → (ℕ → Bool) → (Who → ℕ → Option Op) → Line → Tree → Tree
tree_step osts counts requested l old =
    elim l.entry [
      | Txn number who xid seen answer ↦
          if is_target 0 l.at.node && counts number.0 then executed osts old number who (requested who xid.0) else old
      | Evict who cause ↦ if is_target 0 l.at.node then forget old who else old
      | _ ↦ old
    ]

-- without the lost ones
abbrev pub tree_of : ℕ → (ℕ → Bool) → Past → Tree
tree_of osts lost [] = empty
tree_of osts lost (l ∷ past) =
    tree_step osts (λ n. not (lost n) && is_next 0 past n) (asked past 0) l (tree_of osts lost past)

-- the contents after the past
abbrev pub contents : ℕ → Past → Tree
contents osts past = tree_of osts (is_lost past 0) past
