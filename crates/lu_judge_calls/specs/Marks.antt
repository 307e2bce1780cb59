-- Calls that are done, each with its mark: how many messages had been sent when it was told. What was done before a
-- request was first sent has a mark below that message's number.
use Rattle.std.specs.Prelude.{ℕ, ◌+◌, ◌/◌, ◌^◌, ◌≤◌, nat_le, nat_lt, Bool, true, false, ◌==◌, ◌&&◌, if◌then◌else◌, List, [], ◌∷◌, ◌++◌, map}
use Rattle.std.specs.Prelude.{length}
use Rattle.lu_base.specs.declared.ids.Fid.{Fid}
use Rattle.lu_base.specs.declared.ids.Who.{Who}
use Rattle.lu_layout.specs.Raid0.{Raid0, below_of}
use Rattle.lu_msg.specs.declared.calls.Call.{Call}
use Rattle.lu_msg.specs.declared.calls.Call.TheVariants as call
use Rattle.lu_judge_calls.specs.declared.kept.Kept.{Kept}

abbrev pub Mark : Type 0
Mark = ℕ × Call

abbrev pub mark_of : Kept → Mark
mark_of k = (k.mark, k.call.now)

abbrev pub marks_of : List Kept → List Mark
marks_of kept = map mark_of kept

-- a life and a file, compared as a table's key is
abbrev pub same_file : Who → Fid → Who → Fid → Bool
same_file who fid w f = (who.client == w.client && who.life == w.life) && fid.0 == f.0

-- what a call reads, writes or cuts ends at or below 2^40
abbrev pub IsWithin : Call → Type 0
IsWithin (call.Read handle offset count) = offset + count ≤ 2 ^ 40
IsWithin (call.Write handle offset bytes) = offset + length bytes ≤ 2 ^ 40
IsWithin (call.Cut handle size) = size ≤ 2 ^ 40
IsWithin _ = Unit {0}

-- a write touches the pages of 4,096 bytes from that of its first byte to that of its end
abbrev pub touches : ℕ → Call → Bool
touches page (call.Write handle offset bytes) = nat_le (offset / 4096) page && nat_le page ((offset + length bytes) / 4096)
touches page _ = false

abbrev pub is_cut : Call → Bool
is_cut (call.Cut handle size) = true
is_cut _ = false

-- `cuts_to` of the laws, of a cut within the limits
abbrev pub cuts_within : Raid0 → ℕ → ℕ → Call → Bool
cuts_within layout stripe below (call.Cut handle size) = nat_le size (2 ^ 40) && below_of layout stripe size == below
cuts_within layout stripe below _ = false

-- a call of which the test holds, with a mark below the limit
abbrev pub has_mark : ℕ → (Call → Bool) → Mark → Bool
has_mark limit test m = nat_lt m.0 limit && test m.1

abbrev pub adds_write : ℕ → Mark → List Mark → List Mark
adds_write page m marks = if touches page m.1 then marks ++ m ∷ [] else marks

abbrev pub adds_cut : Mark → List Mark → List Mark
adds_cut m marks = if is_cut m.1 then marks ++ m ∷ [] else marks
