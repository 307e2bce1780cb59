-- What a call that is neither on bytes nor a `glimpse` asks of the machine.
use Rattle.std.proofs.Common.{◌≡◌, ℕ, List, refl, sym, subst}
use Rattle.std.specs.Option.{option_map}
use Rattle.lu_msg.specs.declared.calls.Call.{Call}
use Rattle.lu_msg.specs.declared.calls.Call.TheVariants as call
use Rattle.lu_base.specs.declared.ids.Who.{Who}
use Rattle.lu_msg.specs.declared.operations.Op.{Op}
use Rattle.lu_spec_machine.specs.declared.acts.Deed.TheVariants.{Names}
use Rattle.lu_spec_machine.specs.Machine.{Machine, next}
use Rattle.lu_spec_laws.proofs.Leaves.{acts_leave}
use Rattle.lu_posix.specs.Shown.{MachineState, Shows}
use Rattle.lu_judge_history.specs.declared.asked.Asked.{Asked}
use Rattle.lu_judge_history.specs.declared.asked.Asked.TheVariants as asks
use Rattle.lu_judge_history.specs.Deeds.{act_asked}
use Rattle.lu_spec_laws.specs.Words.Calls.{Begun, operation}
use Rattle.lu_spec_laws.specs.Words.Histories.{deed_on}

pub names_deed : (b : Begun) (x : Call) → ((h o n : ℕ) → x ≡ call.Read h o n → ⊥) → ((h o : ℕ) (bs : List ℕ) → x ≡ call.Write h o bs → ⊥)
    → ((h n : ℕ) → x ≡ call.Cut h n → ⊥)
    → ((h : ℕ) → x ≡ call.Flush h → ⊥) → ((h : ℕ) → x ≡ call.Glimpse h → ⊥) → option_map Names (operation b) ≡ deed_on b x
names_deed b (call.Read h o n) reads writes cuts flushes glimpses = absurd (reads h o n refl)
names_deed b (call.Write h o bs) reads writes cuts flushes glimpses = absurd (writes h o bs refl)
names_deed b (call.Cut h n) reads writes cuts flushes glimpses = absurd (cuts h n refl)
names_deed b (call.Flush h) reads writes cuts flushes glimpses = absurd (flushes h refl)
names_deed b (call.Glimpse h) reads writes cuts flushes glimpses = absurd (glimpses h refl)
names_deed b _ reads writes cuts flushes glimpses = refl

-- under no number an operation on names changes nothing
pub names_idle : (osts : ℕ) (m : Machine) (who : Who) (s : MachineState) (asked : Asked) (o : Op) → asked ≡ asks.Names o → Shows osts s m
    → Shows osts s (next osts m (act_asked who asked))
names_idle osts m who s asked o is shown =
    subst (λ (a : Asked). Shows osts s (next osts m (act_asked who a))) (sym is)
    (subst (λ (n : Machine). Shows osts s n) (sym (acts_leave osts m who o)) shown)
