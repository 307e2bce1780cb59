-- What is asked for in well formed lines is well formed.
use Rattle.std.proofs.Common.{◌≡◌, ℕ, Bool, true, false, List, [], ◌∷◌, ◌++◌, sym, subst}
use Rattle.std.specs.Prelude.{All, reverse, ◌==◌, ◌&&◌, if◌then◌else◌, Option, Some, None}
use Rattle.std.specs.Option.{option_map}
use Rattle.std.proofs.lemmas.List.{reverse-append}
use Rattle.std.proofs.lemmas.List.Elements.{All-head, All-tail}
use Rattle.lu_base.specs.declared.ids.At.{At}
use Rattle.lu_base.specs.declared.ids.Node.{Node}
use Rattle.lu_base.specs.declared.ids.Who.{Who}
use Rattle.lu_msg.specs.declared.messages.Message.{Message}
use Rattle.lu_msg.specs.declared.messages.Message.TheVariants.{Request}
use Rattle.lu_msg.specs.declared.messages.Request.{Request as RequestOf}
use Rattle.lu_trace.specs.declared.entries.Entry.{Entry}
use Rattle.lu_trace.specs.declared.entries.Entry.TheVariants.{Send}
use Rattle.lu_trace.specs.declared.entries.Line.{Line}
use Rattle.lu_trace.specs.WellFormed.{IsLine, IsOp, IsMessage}
use Rattle.lu_spec_laws.specs.Words.Pasts.{Past, or_else}
use Rattle.lu_spec_laws.specs.Words.Requests.{asked, first_request, first_with, is_of}
use Rattle.lu_judge_names.specs.Formed.{IsFormed, AreFormed}

abbrev Formed : Option RequestOf → Type 0
Formed r = IsFormed (option_map (λ (q : RequestOf). q.op) r)

formed_or : (before : Option RequestOf) (b : Bool) (r : RequestOf) → Formed before → IsOp r.op
    → Formed (or_else before (if b then Some r else None))
formed_or (Some q) b r formed is = formed
formed_or None true r formed is = is
formed_or None false r formed is = tt

formed_with : (stamp : ℕ) (before : Option RequestOf) (t : ℕ) (who : Who) (x : ℕ) (to : Node) (m : Message) → IsMessage stamp m
    → Formed before → Formed (first_with before t who x to m)
formed_with stamp before t who x to (Request r) is formed = formed_or before (is_of t who to r && r.xid.0 == x) r formed is.3
formed_with stamp before t who x to _ is formed = formed

formed_line : (past : Past) (t : ℕ) (who : Who) (x : ℕ) (here : At) (e : Entry) → IsLine (record { at = here; entry = e })
    → Formed (first_request past t who x) → Formed (first_request (record { at = here; entry = e } ∷ past) t who x)
formed_line past t who x here (Send number to message) is formed =
    formed_with here.stamp.0 (first_request past t who x) t who x to message is.1.2 formed
formed_line past t who x here _ is formed = formed

formed_request : (past : Past) (t : ℕ) (who : Who) (x : ℕ) → AreFormed past → Formed (first_request past t who x)
formed_request [] t who x formed = tt
formed_request (l ∷ past) t who x formed = formed_line past t who x l.at l.entry formed.0 (formed_request past t who x formed.1)

pub asked_formed : (past : Past) (t : ℕ) (who : Who) (x : ℕ) → AreFormed past → IsFormed (asked past t who x)
asked_formed past t who x formed = formed_request past t who x formed

-- ---- of a well formed trace each line is well formed, and the lines before it

formed_before : (first past : Past) → AreFormed (first ++ past) → AreFormed past
formed_before [] past formed = formed
formed_before (l ∷ first) past formed = formed_before first past formed.1

pub formed_at : (whole past : Past) (l : Line) (later : List Line) → whole ≡ reverse later ++ l ∷ past → AreFormed whole
    → AreFormed (l ∷ past)
formed_at whole past l later is formed = formed_before (reverse later) (l ∷ past) (subst AreFormed is formed)

formed_with_last : (past : Past) (l : Line) → AreFormed past → IsLine l → AreFormed (past ++ l ∷ [])
formed_with_last [] l formed is = (is, tt)
formed_with_last (m ∷ past) l formed is = (formed.0, formed_with_last past l formed.1 is)

-- the lines in their order, the newest first afterwards
pub formed_whole : (lines : List Line) → All IsLine lines → AreFormed (reverse lines)
formed_whole [] all = tt
formed_whole (l ∷ lines) all =
    subst AreFormed (sym (reverse-append (l ∷ []) lines)) (formed_with_last (reverse lines) l
    (formed_whole lines (All-tail IsLine l lines all)) (All-head IsLine l lines all))
