-- What is asked of the machine, as the laws have it.
use Rattle.std.specs.Prelude.{Option, Some, None}
use Rattle.lu_base.specs.declared.ids.Who.{Who}
use Rattle.lu_msg.specs.declared.operations.Op.{Op}
use Rattle.lu_spec_machine.specs.declared.acts.Act.{Act}
use Rattle.lu_spec_machine.specs.declared.acts.Deed.{Deed}
use Rattle.lu_spec_machine.specs.declared.acts.Deed.TheVariants as deed
use Rattle.lu_spec_laws.specs.Words.Histories.{none}
use Rattle.lu_posix.specs.Limits.{KeepsPiece}
use Rattle.lu_judge_calls.specs.Marks.{IsWithin}
use Rattle.lu_judge_history.specs.declared.asked.Asked.{Asked}
use Rattle.lu_judge_history.specs.declared.asked.Asked.TheVariants.{Names, Data}

abbrev pub deed_asked : Asked → Deed
deed_asked (Names o) = deed.Names o
deed_asked (Data fid call) = deed.Data fid call.now

-- the act of a call: it has no number
abbrev pub act_asked : Who → Asked → Act
act_asked who asked = record { who = who; number = none; deed = deed_asked asked }

-- a call on bytes keeps the limits
abbrev pub IsAskedWithin : Asked → Type 0
IsAskedWithin (Names o) = Unit {0}
IsAskedWithin (Data fid call) = IsWithin call.now

abbrev pub AreWithin : Option Asked → Type 0
AreWithin None = Unit {0}
AreWithin (Some asked) = IsAskedWithin asked

abbrev pub PieceWithin : Option Op → Type 0
PieceWithin None = Unit {0}
PieceWithin (Some o) = KeepsPiece o
