-- The calls and operations of well formed lines have their forms.
use Rattle.std.proofs.Common.{◌≡◌, ℕ, Bool, true, false, List, [], ◌∷◌, refl, ap, ◌∙◌, sym, subst}
use Rattle.std.specs.Prelude.{if◌then◌else◌, ◌==◌, ◌&&◌, Option, Some, None, IfSome}
use Rattle.std.specs.Option.{option_map}
use Rattle.lu_base.specs.declared.ids.At.{At}
use Rattle.lu_base.specs.declared.ids.Node.{Node}
use Rattle.lu_base.specs.declared.ids.Who.{Who}
use Rattle.lu_msg.specs.declared.operations.Op.{Op}
use Rattle.lu_msg.specs.declared.messages.Request.{Request as RequestOf}
use Rattle.lu_msg.specs.declared.messages.Message.{Message}
use Rattle.lu_msg.specs.declared.messages.Message.TheVariants.{Request}
use Rattle.lu_trace.specs.declared.entries.Entry.{Entry}
use Rattle.lu_trace.specs.declared.entries.Entry.TheVariants.{Begin, Told, Send}
use Rattle.lu_trace.specs.declared.entries.Line.{Line}
use Rattle.lu_trace.specs.WellFormed.{IsCall, IsOp, IsMessage, IsEntry, IsLine}
use Rattle.lu_spec_machine.specs.Footprint.{Every}
use Rattle.lu_spec_laws.specs.Words.Pasts.{Past, is_client, or_else}
use Rattle.lu_spec_laws.specs.Words.Calls.{Begun, open_call}
use Rattle.lu_spec_laws.specs.Words.Requests.{is_of, first_with, first_request}

-- of what was before, or of what is new
either_has : {A : Type 0} (P : A → Type 0) (old : Option A) (here : Bool) (x : A) → IfSome old P → P x
    → IfSome (or_else old (if here then Some x else None)) P
either_has P (Some a) here x before now = before
either_has P None true x before now = now
either_has P None false x before now = tt

one_has : {A : Type 0} (P : A → Type 0) (old : Option A) (here : Bool) (x : A) → IfSome old P → P x
    → IfSome (if here then Some x else old) P
one_has P old true x before now = now
one_has P old false x before now = before

none_has : {A : Type 0} (P : A → Type 0) (old : Option A) (here : Bool) → IfSome old P → IfSome (if here then None else old) P
none_has P old true before = tt
none_has P old false before = before

-- ---- requests

abbrev HasOp : RequestOf → Type 0
HasOp r = IsOp r.op

message_has : (stamp t : ℕ) (who : Who) (x : ℕ) (to : Node) (m : Message) (old : Option RequestOf) → IsMessage stamp m → IfSome old HasOp
    → IfSome (first_with old t who x to m) HasOp
message_has stamp t who x to (Request r) old ok before = either_has HasOp old (is_of t who to r && r.xid.0 == x) r before ok.3
message_has stamp t who x to _ old ok before = before

request_line : (t : ℕ) (who : Who) (x : ℕ) (at : At) (e : Entry) (past : Past) → IsEntry at.stamp.0 e
    → IfSome (first_request past t who x) HasOp
    → IfSome (first_request (record { at = at; entry = e } ∷ past) t who x) HasOp
request_line t who x at (Send number to m) past ok before = message_has at.stamp.0 t who x to m (first_request past t who x) ok.2 before
request_line t who x at _ past ok before = before

pub request_formed : (past : Past) (t : ℕ) (who : Who) (x : ℕ) → Every IsLine past → IfSome (first_request past t who x) HasOp
request_formed [] t who x formed = tt
request_formed (l ∷ past) t who x formed = request_line t who x l.at l.entry past formed.0.1 (request_formed past t who x formed.1)

-- what a table keeps of a request by reference
pub kept_op : {A : Type 0} (now : A → Op) (o : Option A) (a : A) (r first : Option RequestOf) → option_map now o
    ≡ option_map (λ (q : RequestOf). q.op) r → r ≡ first → o ≡ Some a → IfSome first HasOp → IsOp (now a)
kept_op now o a None first shown same is formed = absurd (cc (shown, is))
kept_op now o a (Some r) None shown same is formed = absurd (cc (same))
kept_op now o a (Some r) (Some q) shown same is formed =
    let one : Some (now a) ≡ Some q.op = sym (ap (option_map now) is) ∙ shown ∙ ap (option_map (λ (p : RequestOf). p.op)) same in
    let two : now a ≡ q.op = cc (one) in
    subst IsOp (sym two) formed

-- ---- calls

abbrev HasCall : Begun → Type 0
HasCall b = IsCall b.call

call_line : (c slot : ℕ) (at : At) (e : Entry) (past : Past) → IsEntry at.stamp.0 e → IfSome (open_call c slot past) HasCall
    → IfSome (open_call c slot (record { at = at; entry = e } ∷ past)) HasCall
call_line c slot at (Begin other call) past ok before = one_has HasCall (open_call c slot past) (is_client c at.node && other == slot) _
    before ok.1
call_line c slot at (Told other turn answer) past ok before = none_has HasCall (open_call c slot past)
    (is_client c at.node && other == slot) before
call_line c slot at _ past ok before = before

pub call_formed : (past : Past) (c slot : ℕ) → Every IsLine past → IfSome (open_call c slot past) HasCall
call_formed [] c slot formed = tt
call_formed (l ∷ past) c slot formed = call_line c slot l.at l.entry past formed.0.1 (call_formed past c slot formed.1)

-- what a table keeps of a call
pub kept_call : {A : Type 0} (now : A → Begun) (o : Option A) (a : A) (open_one : Option Begun) → option_map now o ≡ open_one → o ≡ Some a
    → IfSome open_one HasCall → IsCall (now a).call
kept_call now o a None shown is formed = absurd (cc (shown, is))
kept_call now o a (Some b) shown is formed =
    let one : Some (now a) ≡ Some b = sym (ap (option_map now) is) ∙ shown in
    let two : now a ≡ b = cc (one) in
    subst HasCall (sym two) formed
