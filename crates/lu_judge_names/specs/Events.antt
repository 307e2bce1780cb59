-- What changed the names, newest first: the transactions that could, and the evictions; and which of them are lost.
use Rattle.std.specs.Prelude.{ℕ, Bool, false, ◌&&◌, if◌then◌else◌, Option, Some, None, List, [], ◌∷◌}
use Rattle.lu_base.specs.declared.ids.Txn.{Txn as TxnOf}
use Rattle.lu_base.specs.declared.ids.Who.{Who}
use Rattle.lu_msg.specs.declared.operations.Op.{Op}
use Rattle.lu_trace.specs.declared.entries.Entry.TheVariants.{Txn, Evict}
use Rattle.lu_trace.specs.declared.entries.Line.{Line}
use Rattle.lu_spec_machine.specs.Removal.{Item, Acts, Forgets}
use Rattle.lu_spec_laws.specs.Words.Pasts.{Past, is_target}
use Rattle.lu_spec_laws.specs.Words.Requests.{asked}
use Rattle.lu_spec_laws.specs.Words.Standing.{is_next}
use Rattle.lu_judge_names.specs.declared.events.Event.{Event}
use Rattle.lu_judge_names.specs.declared.events.Event.TheVariants.{Transaction, Eviction}

-- ---- of a past

-- a transaction whose request was never sent changes nothing
abbrev pub with_act : TxnOf → Who → Option Op → List Item → List Item
with_act number who None items = items
with_act number who (Some o) items = Acts (record { number = number; who = who; op = o }) ∷ items

-- over whether a number is next here, and the operation of a request
abbrev pub items_step : (ℕ → Bool) → (Who → ℕ → Option Op) → Line → List Item → List Item
items_step next requested l old =
    elim l.entry [
      | Txn number who xid seen answer ↦
          if is_target 0 l.at.node && next number.0 then with_act number who (requested who xid.0) old else old
      | Evict who cause ↦ if is_target 0 l.at.node then Forgets who ∷ old else old
      | _ ↦ old
    ]

-- the newest first, the lost ones too
abbrev pub items : Past → List Item
items [] = []
items (l ∷ past) = items_step (is_next 0 past) (asked past 0) l (items past)

-- ---- with whether each is lost

pub record Marked : Type 0 where
  pub item : Item
  pub lost : Bool

abbrev pub marked : (ℕ → Bool) → Item → Marked
marked lost (Acts a) = record { item = Acts a; lost = lost a.number.0 }
marked lost (Forgets who) = record { item = Forgets who; lost = false }

-- what the code keeps, as a marked item
abbrev pub marked_of : Event → Marked
marked_of (Transaction number who op lost) =
    record { item = Acts (record { number = number; who = who; op = op.now }); lost = lost }
marked_of (Eviction who) = record { item = Forgets who; lost = false }
