-- The limits of what the machine is asked: files and objects end at or below 2^40.
use Rattle.std.specs.Prelude.{◌+◌, ◌≤◌, ◌^◌, length}
use Rattle.lu_msg.specs.declared.calls.Call.{Call}
use Rattle.lu_msg.specs.declared.calls.Call.TheVariants as call
use Rattle.lu_msg.specs.declared.operations.Op.{Op}
use Rattle.lu_msg.specs.declared.operations.Op.TheVariants as op
use Rattle.lu_spec_machine.specs.declared.acts.Deed.{Deed}
use Rattle.lu_spec_machine.specs.declared.acts.Deed.TheVariants.{Names, Data, Piece}

abbrev pub KeepsCall : Call → Type 0
KeepsCall (call.Read handle offset count) = offset + count ≤ 2 ^ 40
KeepsCall (call.Write handle offset bytes) = offset + length bytes ≤ 2 ^ 40
KeepsCall (call.Cut handle size) = size ≤ 2 ^ 40
KeepsCall _ = Unit {0}

abbrev pub KeepsPiece : Op → Type 0
KeepsPiece (op.Put resource cookie offset bytes) = offset + length bytes ≤ 2 ^ 40
KeepsPiece (op.Cut resource cookie size) = size ≤ 2 ^ 40
KeepsPiece _ = Unit {0}

-- an operation on names has none that the machine needs
abbrev pub KeepsLimits : Deed → Type 0
KeepsLimits (Names o) = Unit {0}
KeepsLimits (Data f c) = KeepsCall c
KeepsLimits (Piece o) = KeepsPiece o
