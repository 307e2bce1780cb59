-- What may count in the history of a past, and the plain machine over what counts of it.
use Rattle.std.specs.Prelude.{◌≡◌, ℕ, Bool, true, false, not, if◌then◌else◌, Option, Some, None, List, [], ◌∷◌}
use Rattle.lu_base.specs.declared.ids.Who.{Who}
use Rattle.lu_trace.specs.WellFormed.{IsCall, IsOp}
use Rattle.lu_spec_machine.specs.declared.acts.Act.{Act}
use Rattle.lu_spec_machine.specs.declared.acts.Deed.TheVariants.{Data}
use Rattle.lu_spec_machine.specs.Machine.{Machine, start}
use Rattle.lu_spec_laws.specs.Words.Histories.{act_of, none, standing_item, after_item}
use Rattle.lu_judge_glimpse.specs.declared.items.Item.{Item}
use Rattle.lu_judge_glimpse.specs.declared.items.Item.TheVariants as item

-- its call or operation is that of a well formed trace
abbrev pub Keeps : Item → Type 0
Keeps (item.Txn target number who op) = IsOp op.now
Keeps (item.Told who fid call) = IsCall call.now

-- the act that counts, with the lives that are gone (`out`) and the transactions that are lost, by target and number
abbrev pub act_if : (Who → Bool) → (ℕ → ℕ → Bool) → Item → Option Act
act_if out lost (item.Txn target number who op) =
    if lost target number.0 then None else standing_item (out who) target number who (Some op.now)
act_if out lost (item.Told who fid call) = if not (out who) then act_of who none (Some (Data fid call.now)) else None

abbrev pub act_if_any : (Who → Bool) → (ℕ → ℕ → Bool) → Option Item → Option Act
act_if_any out lost None = None
act_if_any out lost (Some i) = act_if out lost i

-- the machine after items, the first one first
abbrev pub after_items : (Who → Bool) → (ℕ → ℕ → Bool) → ℕ → Machine → List Item → Machine
after_items out lost osts m [] = m
after_items out lost osts m (i ∷ items) = after_items out lost osts (after_item osts m (act_if out lost i)) items
