-- Where the bytes that reach an object come from: what a life wrote or cut, and was told, before the request was first
-- sent. Where they lie is told by the layout in the first `open` answer of that file that the life heard (this
-- project's profile).
use Rattle.std.specs.Prelude.{ℕ, ◌+◌, ◌-◌, nat_le, Bool, true, false, ◌==◌, ◌&&◌, ◌||◌, if◌then◌else◌, Option, Some, None, List, [], ◌∷◌}
use Rattle.std.specs.Prelude.{slice_get}
use Rattle.std.specs.List.{list_any}
use Rattle.lu_base.specs.declared.ids.Fid.{Fid}
use Rattle.lu_base.specs.declared.ids.Node.{Node}
use Rattle.lu_base.specs.declared.ids.Who.{Who}
use Rattle.lu_layout.specs.Raid0.{Raid0, position_of, below_of}
use Rattle.lu_msg.specs.declared.answers.Answer.{Answer}
use Rattle.lu_msg.specs.declared.answers.Answer.TheVariants as told
use Rattle.lu_msg.specs.declared.calls.Call.{Call}
use Rattle.lu_msg.specs.declared.calls.Call.TheVariants as call
use Rattle.lu_msg.specs.declared.messages.Message.{Message}
use Rattle.lu_msg.specs.declared.messages.Message.TheVariants.{Request}
use Rattle.lu_msg.specs.declared.messages.Reply.{Reply as ReplyOf}
use Rattle.lu_trace.specs.declared.entries.Entry.TheVariants.{Send, Heard, Told}
use Rattle.lu_trace.specs.declared.entries.Line.{Line}
use Rattle.lu_spec_machine.specs.Tree.{same_fid}
use Rattle.lu_spec_laws.specs.Words.Pasts.{Past, or_else}
use Rattle.lu_spec_laws.specs.Words.Sends.{reply_in}
use Rattle.lu_spec_laws.specs.Words.Lives.{is_by}
use Rattle.lu_spec_laws.specs.Words.Requests.{is_of}
use Rattle.lu_spec_laws.specs.Words.Calls.{Begun, open_call, file_of}

-- ---- the layout that a life knows of a file

abbrev pub opened_layout : Fid → Answer → Option Raid0
opened_layout fid (told.OpenFile other number layout) = if same_fid other fid then Some layout else None
opened_layout fid _ = None

abbrev pub carried_layout : Fid → Option ReplyOf → Option Raid0
carried_layout fid None = None
carried_layout fid (Some r) = opened_layout fid r.answer

-- a line that is the life's own, over the replies that its turn took
abbrev pub layout_step : Fid → Bool → (ℕ → ℕ → Option ReplyOf) → Line → Option Raid0 → Option Raid0
layout_step fid own replies l old =
    elim l.entry [
      | Heard target xid ↦ or_else old (if own then carried_layout fid (replies target.0 xid.0) else None)
      | _ ↦ old
    ]

-- of several answers the first counts
abbrev pub layout_heard : Who → Fid → Past → Option Raid0
layout_heard who fid [] = None
layout_heard who fid (l ∷ past) =
    layout_step fid (is_by who past l.at.node) (λ t x. reply_in past l.at t who x) l (layout_heard who fid past)

-- ---- what a life did to a file

abbrev pub is_done : Answer → Bool
is_done told.Done = true
is_done _ = false

abbrev pub is_file : Fid → Option Fid → Bool
is_file fid None = false
is_file fid (Some other) = same_fid other fid

abbrev pub with_call : Fid → Option Begun → List Call → List Call
with_call fid None calls = calls
with_call fid (Some begun) calls = if is_file fid (file_of begun) then begun.call ∷ calls else calls

-- a line that is the life's own, over the calls in its slots
abbrev pub done_step : Fid → Bool → (ℕ → Option Begun) → Line → List Call → List Call
done_step fid own in_slot l old =
    elim l.entry [
      | Told slot turn answer ↦ if own && is_done answer then with_call fid (in_slot slot) old else old
      | _ ↦ old
    ]

-- its calls on that file's handles that were told `ok`, the newest first
abbrev pub done_calls : Who → Fid → Past → List Call
done_calls who fid [] = []
done_calls who fid (l ∷ past) =
    done_step fid (is_by who past l.at.node) (λ slot. open_call who.client slot past) l (done_calls who fid past)

abbrev pub is_request : ℕ → Who → ℕ → Node → Message → Bool
is_request t who x to (Request r) = is_of t who to r && r.xid.0 == x
is_request t who x to _ = false

-- of several sendings the first counts
abbrev pub before_step : ℕ → Who → ℕ → List Call → Line → Option (List Call) → Option (List Call)
before_step t who x calls l old =
    elim l.entry [
      | Send number to message ↦ or_else old (if is_request t who x to message then Some calls else None)
      | _ ↦ old
    ]

-- those told before the request of that target, life and number was first sent: none where it wasn't
abbrev pub done_before : ℕ → Who → ℕ → Fid → Past → Option (List Call)
done_before t who x fid [] = None
done_before t who x fid (l ∷ past) = before_step t who x (done_calls who fid past) l (done_before t who x fid past)

-- ---- what a request may carry

abbrev pub is_byte : ℕ → Option ℕ → Bool
is_byte byte None = false
is_byte byte (Some other) = other == byte

-- the call wrote this byte at this position of the file
abbrev pub wrote : ℕ → ℕ → Call → Bool
wrote position byte (call.Write h offset bytes) =
    nat_le offset position && is_byte byte (slice_get bytes (position - offset))
wrote position byte _ = false

-- the call cut the file to a size below which so many of its positions lie on the stripe
abbrev pub cuts_to : Raid0 → ℕ → ℕ → Call → Bool
cuts_to layout stripe below (call.Cut h size) = below_of layout stripe size == below
cuts_to layout stripe below _ = false

-- a byte at an offset of the object: written there, or the 0 at the end of a stripe that was cut
abbrev pub has_origin : Raid0 → ℕ → List Call → ℕ → ℕ → Bool
has_origin layout stripe calls offset byte =
    list_any (wrote (position_of layout stripe offset) byte) calls
    || (byte == 0 && list_any (cuts_to layout stripe (offset + 1)) calls)

-- each of these bytes, from an offset on
abbrev pub have_origin : Raid0 → ℕ → List Call → ℕ → List ℕ → Bool
have_origin layout stripe calls offset [] = true
have_origin layout stripe calls offset (b ∷ bs) =
    has_origin layout stripe calls offset b && have_origin layout stripe calls (offset + 1) bs
