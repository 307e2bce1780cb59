-- What lines that keep the limits have said: calls and operations keep them too.
use Rattle.std.proofs.Common.{ℕ, Bool, true, false, Option, Some, None, [], ◌∷◌}
use Rattle.std.specs.Prelude.{◌==◌, ◌&&◌, if◌then◌else◌}
use Rattle.std.specs.Option.{option_map}
use Rattle.lu_base.specs.declared.ids.At.{At}
use Rattle.lu_base.specs.declared.ids.Node.{Node}
use Rattle.lu_base.specs.declared.ids.Who.{Who}
use Rattle.lu_msg.specs.declared.calls.Call.{Call}
use Rattle.lu_msg.specs.declared.calls.Call.TheVariants as call
use Rattle.lu_msg.specs.declared.messages.Message.{Message}
use Rattle.lu_msg.specs.declared.messages.Message.TheVariants as message
use Rattle.lu_msg.specs.declared.messages.Request.{Request}
use Rattle.lu_msg.specs.declared.operations.Op.{Op}
use Rattle.lu_msg.specs.declared.operations.Op.TheVariants as op
use Rattle.lu_trace.specs.declared.entries.Entry.{Entry}
use Rattle.lu_trace.specs.declared.entries.Entry.TheVariants.{Send, Begin, Told}
use Rattle.lu_trace.specs.WellFormed.{IsCall, IsOp, IsMessage, IsEntry}
use Rattle.lu_spec_laws.specs.Words.Pasts.{Past, is_client, or_else}
use Rattle.lu_spec_laws.specs.Words.Requests.{is_of, first_with, first_request, asked}
use Rattle.lu_spec_laws.specs.Words.Calls.{Begun, begun, open_call}
use Rattle.lu_posix.specs.Limits.{KeepsCall, KeepsPiece}
use Rattle.lu_judge_calls.specs.Marks.{IsWithin}
use Rattle.lu_judge_history.specs.Deeds.{PieceWithin}
use Rattle.lu_judge_history.specs.Limited.{Limited}

-- ---- one call, one operation

pub within_call : (c : Call) → IsCall c → IsWithin c
within_call (call.Read handle offset size) is = is.3
within_call (call.Write handle offset bytes) is = is.1.2
within_call (call.Cut handle size) is = is.1
within_call _ is = tt

pub keeps_call : (c : Call) → IsWithin c → KeepsCall c
keeps_call (call.Read handle offset size) is = is
keeps_call (call.Write handle offset bytes) is = is
keeps_call (call.Cut handle size) is = is
keeps_call _ is = tt

pub keeps_piece : (o : Op) → IsOp o → KeepsPiece o
keeps_piece (op.Put resource cookie offset bytes) is = is.2
keeps_piece (op.Cut resource cookie size) is = is.2
keeps_piece _ is = tt

-- ---- the first request

abbrev OfRequest : Option Request → Type 0
OfRequest None = Unit {0}
OfRequest (Some r) = IsOp r.op

first_or : (old : Option Request) (b : Bool) (r : Request) → OfRequest old → IsOp r.op
    → OfRequest (or_else old (if b then Some r else None))
first_or (Some s) b r old is = old
first_or None true r old is = is
first_or None false r old is = tt

of_message : (stamp : ℕ) (old : Option Request) (t : ℕ) (who : Who) (x : ℕ) (to : Node) (m : Message) → IsMessage stamp m → OfRequest old
    → OfRequest (first_with old t who x to m)
of_message stamp old t who x to (message.Request r) is h = first_or old (is_of t who to r && r.xid.0 == x) r h is.3
of_message stamp old t who x to _ is h = h

first_line : (at : At) (e : Entry) (past : Past) → IsEntry at.stamp.0 e → (t : ℕ) (who : Who) (x : ℕ)
    → OfRequest (first_request past t who x)
    → OfRequest (first_request (record { at = at; entry = e } ∷ past) t who x)
first_line at (Send number to m) past is t who x h = of_message at.stamp.0 (first_request past t who x) t who x to m is.2 h
first_line at _ past is t who x h = h

of_first : (past : Past) → Limited past → (t : ℕ) (who : Who) (x : ℕ) → OfRequest (first_request past t who x)
of_first [] limited t who x = tt
of_first (l ∷ past) limited t who x = first_line l.at l.entry past limited.0.1 t who x (of_first past limited.1 t who x)

piece_of : (r : Option Request) → OfRequest r → PieceWithin (option_map (λ (q : Request). q.op) r)
piece_of None h = tt
piece_of (Some r) h = keeps_piece r.op h

-- the operation of a request keeps the limits
pub asked_within : (past : Past) → Limited past → (t : ℕ) (who : Who) (x : ℕ) → PieceWithin (asked past t who x)
asked_within past limited t who x = piece_of (first_request past t who x) (of_first past limited t who x)

-- ---- the call in a slot

abbrev pub OfBegun : Option Begun → Type 0
OfBegun None = Unit {0}
OfBegun (Some b) = IsWithin b.call

begun_or : (b : Bool) (new : Begun) (old : Option Begun) → IsWithin new.call → OfBegun old → OfBegun (if b then Some new else old)
begun_or true new old is h = is
begun_or false new old is h = h

told_or : (b : Bool) (old : Option Begun) → OfBegun old → OfBegun (if b then None else old)
told_or true old h = tt
told_or false old h = h

call_line : (at : At) (e : Entry) (past : Past) → IsEntry at.stamp.0 e → (c slot : ℕ) → OfBegun (open_call c slot past)
    → OfBegun (open_call c slot (record { at = at; entry = e } ∷ past))
call_line at (Begin other call) past is c slot h =
    begun_or (is_client c at.node && other == slot) (begun c past at call) (open_call c slot past) (within_call call is.1) h
call_line at (Told other turn answer) past is c slot h = told_or (is_client c at.node && other == slot) (open_call c slot past) h
call_line at _ past is c slot h = h

-- the call in a slot keeps the limits
pub call_within : (past : Past) → Limited past → (c slot : ℕ) → OfBegun (open_call c slot past)
call_within [] limited c slot = tt
call_within (l ∷ past) limited c slot = call_line l.at l.entry past limited.0.1 c slot (call_within past limited.1 c slot)
