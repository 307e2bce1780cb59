-- What the tables hold at each key.
use Rattle.std.specs.Prelude.{◌≡◌, ℕ, ◌+◌, ◌/◌, Bool, true, ◌==◌, ◌&&◌, ◌||◌, if◌then◌else◌, Option, Some, None, List, [], ◌∷◌, unwrap_or}
use Rattle.std.specs.List.{list_any}
use Rattle.std.specs.Option.{option_map}
use Rattle.std.specs.HashMap.{get_by}
use Rattle.lu_base.specs.declared.ids.Fid.{Fid}
use Rattle.lu_base.specs.declared.ids.Who.{Who}
use Rattle.lu_layout.specs.Raid0.{Raid0, position_of}
use Rattle.lu_trace.specs.declared.entries.Entry.TheVariants.{Send}
use Rattle.lu_spec_laws.specs.Words.Pasts.{Past, or_else}
use Rattle.lu_spec_laws.specs.Words.Pieces.{wrote, is_request}
use Rattle.lu_judge_calls.specs.declared.writes.Writes.{Writes}
use Rattle.lu_judge_calls.specs.declared.cuts.Cuts.{Cuts}
use Rattle.lu_judge_calls.specs.declared.layouts.Layouts.{Layouts}
use Rattle.lu_judge_calls.specs.declared.sent.Sent.{Sent}
use Rattle.lu_judge_calls.specs.declared.origins.Done.{Done}
use Rattle.lu_judge_calls.specs.declared.origins.Carrier.{Carrier}
use Rattle.lu_judge_calls.specs.Marks.{Mark, marks_of, has_mark, cuts_within}

-- ---- what was done

abbrev pub page_in : Writes → Who → Fid → ℕ → List Mark
page_in t who fid page =
    marks_of (unwrap_or (get_by (λ k. ((who.client == k.0.0.0 && who.life == k.0.0.1) && fid.0 == k.0.1) && page == k.1) t.by_page) [])

abbrev pub cuts_in : Cuts → Who → Fid → List Mark
cuts_in t who fid =
    marks_of (unwrap_or (get_by (λ k. (who.client == k.0.0 && who.life == k.0.1) && fid.0 == k.1) t.by_file) [])

-- ---- what a request may carry

abbrev pub has_cut : Done → Carrier → ℕ → Bool
has_cut d of below = list_any (has_mark of.limit (cuts_within of.layout.now of.stripe below)) (cuts_in d.cuts of.who of.fid)

abbrev pub has_write : Done → Carrier → ℕ → ℕ → Bool
has_write d of position byte = list_any (has_mark of.limit (wrote position byte)) (page_in d.writes of.who of.fid (position / 4096))

abbrev pub has_source : Done → Carrier → ℕ → ℕ → Bool
has_source d of offset byte =
    has_write d of (position_of of.layout.now of.stripe offset) byte || (byte == 0 && has_cut d of (offset + 1))

abbrev pub have_sources : Done → Carrier → ℕ → List ℕ → Bool
have_sources d of offset [] = true
have_sources d of offset (b ∷ bs) = has_source d of offset b && have_sources d of (offset + 1) bs

-- ---- layouts

abbrev pub layout_in : Layouts → Who → Fid → Option Raid0
layout_in t who fid =
    option_map (λ l. l.now) (get_by (λ k. (who.client == k.0.0 && who.life == k.0.1) && fid.0 == k.1) t.first)

-- ---- first sendings

abbrev pub first_in : Sent → ℕ → Who → ℕ → Option ℕ
first_in t target who x = get_by (λ k. (target == k.0.0 && (who.client == k.0.1.0 && who.life == k.0.1.1)) && x == k.1) t.first

-- the number of the message in which the request was first sent
abbrev pub first_sent : ℕ → Who → ℕ → Past → Option ℕ
first_sent t who x [] = None
first_sent t who x (l ∷ past) =
    elim l.entry [
      | Send number to message ↦ or_else (first_sent t who x past) (if is_request t who x to message then Some number else None)
      | _ ↦ first_sent t who x past
    ]

abbrev pub ShowsSent : Sent → Past → Type 0
ShowsSent t past = (target : ℕ) (who : Who) (x : ℕ) → first_in t target who x ≡ first_sent target who x past
