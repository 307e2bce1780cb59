-- What requests may carry, by marks: a call that is done has as its mark how many messages had been sent when it was told.
use Rattle.std.specs.Prelude.{◌≡◌, ℕ, suc, Bool, true, ◌&&◌, if◌then◌else◌, Option, Some, None, List, [], ◌∷◌, map, filter, reverse, nat_lt}
use Rattle.lu_base.specs.declared.ids.Fid.{Fid}
use Rattle.lu_base.specs.declared.ids.Who.{Who}
use Rattle.lu_msg.specs.declared.calls.Call.{Call}
use Rattle.lu_trace.specs.declared.entries.Entry.TheVariants.{Send, Told}
use Rattle.lu_trace.specs.declared.entries.Line.{Line}
use Rattle.lu_spec_laws.specs.Words.Pasts.{Past}
use Rattle.lu_spec_laws.specs.Words.Lives.{is_by}
use Rattle.lu_spec_laws.specs.Words.Sends.{sends}
use Rattle.lu_spec_laws.specs.Words.Calls.{Begun, open_call, file_of}
use Rattle.lu_spec_laws.specs.Words.Pieces.{is_file, is_done, layout_heard}
use Rattle.lu_judge_calls.specs.Marks.{Mark, touches, is_cut}
use Rattle.lu_msg.specs.declared.operations.Op.{Op}
use Rattle.lu_msg.specs.declared.operations.Op.TheVariants as op
use Rattle.lu_judge_calls.specs.declared.origins.Done.{Done}
use Rattle.lu_judge_calls.specs.declared.origins.Carrier.{Carrier}
use Rattle.lu_judge_calls.specs.PieceTables.{page_in, cuts_in, layout_in, has_cut, have_sources, ShowsSent}
use Rattle.lu_judge_history.specs.declared.carried.Carried.{Carried}

-- ---- done calls with their marks

abbrev pub with_mark : Fid → ℕ → Option Begun → List Mark → List Mark
with_mark fid mark None marks = marks
with_mark fid mark (Some begun) marks = if is_file fid (file_of begun) then (mark, begun.call) ∷ marks else marks

abbrev pub marked_step : Fid → Bool → ℕ → (ℕ → Option Begun) → Line → List Mark → List Mark
marked_step fid own mark in_slot l old =
    elim l.entry [
      | Told slot turn answer ↦ if own && is_done answer then with_mark fid mark (in_slot slot) old else old
      | _ ↦ old
    ]

-- `done_calls` of the laws, each with its mark
abbrev pub marked : Who → Fid → Past → List Mark
marked who fid [] = []
marked who fid (l ∷ past) =
    marked_step fid (is_by who past l.at.node) (sends past) (λ slot. open_call who.client slot past) l (marked who fid past)

abbrev pub call_of : Mark → Call
call_of m = m.1

abbrev pub is_before : ℕ → Mark → Bool
is_before limit m = nat_lt m.0 limit

-- those with a mark below the limit
abbrev pub calls_before : ℕ → List Mark → List Call
calls_before limit marks = map call_of (filter (is_before limit) marks)

-- ---- messages have their numbers

abbrev pub HasNumber : Past → Line → Type 0
HasNumber past l = elim l.entry [ Send number to message ↦ number ≡ suc (sends past) | _ ↦ Unit {0} ]

abbrev pub Numbered : Past → Type 0
Numbered [] = Unit {0}
Numbered (l ∷ past) = HasNumber past l × Numbered past

-- ---- the tables

abbrev pub touches_page : ℕ → Mark → Bool
touches_page page m = touches page m.1

abbrev pub is_cut_mark : Mark → Bool
is_cut_mark m = is_cut m.1

pub record ShowsCarried (t : Carried) (past : Past) : Type 0 where
  pub last : t.last ≡ sends past
  pub numbered : Numbered past
  pub writes : (who : Who) (fid : Fid) (page : ℕ) → page_in t.done.writes who fid page
      ≡ reverse (filter (touches_page page) (marked who fid past))
  pub cuts : (who : Who) (fid : Fid) → cuts_in t.done.cuts who fid ≡ reverse (filter is_cut_mark (marked who fid past))
  pub sent : ShowsSent t.sent past
  pub layouts : (who : Who) (fid : Fid) → layout_in t.layouts who fid ≡ layout_heard who fid past

-- what the operation carries comes from what is done
abbrev pub carried_in : Done → Carrier → Op → Bool
carried_in d of (op.Put resource cookie at bytes) = have_sources d of at bytes
carried_in d of (op.Cut resource cookie size) = has_cut d of size
carried_in d of _ = true
