-- Traces that break the law of history in what reaches an object, and lawful ones beside them. They have only the
-- lines that this law looks at, the newest first.
use Rattle.std.proofs.Common.{[], ◌∷◌, Some, refl, pos}
use Rattle.std.specs.Prelude.{codes}
use Rattle.lu_base.specs.declared.ids.Node.TheVariants.{Client, Target}
use Rattle.lu_msg.specs.declared.answers.Answer.TheVariants as told
use Rattle.lu_msg.specs.declared.answers.Errno.TheVariants.{EIO}
use Rattle.lu_msg.specs.declared.calls.Call.TheVariants as call
use Rattle.lu_msg.specs.declared.operations.Op.TheVariants as op
use Rattle.lu_trace.specs.declared.entries.Entry.TheVariants as entry
use Rattle.lu_spec_laws.specs.Words.Pasts.{Past}
use Rattle.lu_spec_laws.proofs.Words.{turn, client, target, life, number, fid, txn_of, cookie, object, striped}
use Rattle.lu_spec_laws.proofs.Words.{asks, replies}
use Rattle.lu_spec_laws.proofs.Words.{sends, heard, executes}
use Rattle.lu_layout.specs.Raid0.{position_of, below_of, stripe_of, offset_of, greatest_end}
use Rattle.lu_spec_laws.specs.Holds.{Holds}
use Rattle.lu_spec_laws.specs.Laws.History.{History}
use Rattle.lu_spec_laws.proofs.Decides.{Decided, says_yes, says_no, holds}
use Rattle.lu_spec_laws.proofs.Decides.History.{decide_history}

abbrev pub Breaks : Past → Type 0
Breaks past = Holds (History 2 past) past → ⊥

abbrev pub Keeps : Past → Type 0
Keeps past = Holds (History 2 past) past

abbrev decide : (whole : Past) → Decided (Holds (History 2 whole) whole)
decide whole = holds (decide_history 2 whole) whole

-- c0 made /f and opened it as handle 0; the reply tells that its bytes lie on target 2
abbrev pub opened : Past
opened =
    client 6 0 (entry.Told 0 (turn 5 (Target 0)) (told.Made (fid 1 1))) ∷
    client 6 0 (heard 0 2) ∷
    client 6 0 (entry.Take 4) ∷
    target 5 0 (sends 4 (Client 0) (replies (life 0 1) 1 2 (txn_of 1 2) (txn_of 0 0) (number 1 1 ∷ []) (turn 5 (Target
    0)) [] (told.OpenFile (fid 1 1) (txn_of 1 2) (striped 65536 (2 ∷ []))))) ∷
    target 5 0 (executes (txn_of 1 2) (life 0 1) 2 (number 1 1 ∷ []) (told.OpenFile (fid 1 1) (txn_of 1 2) (striped
    65536 (2 ∷ [])))) ∷
    client 4 0 (sends 3 (Target 0) (asks (life 0 1) 1 2 0 (op.Open (codes "f" ∷ [])))) ∷
    client 4 0 (entry.Begin 0 (call.Open 0 (codes "f" ∷ []))) ∷
    client 3 0 (entry.Told 0 (turn 2 (Target 0)) (told.Made (fid 1 1))) ∷
    client 3 0 (heard 0 1) ∷
    target 2 0 (executes (txn_of 1 1) (life 0 1) 1 [] (told.Made (fid 1 1))) ∷
    client 1 0 (sends 1 (Target 0) (asks (life 0 1) 1 1 0 (op.Create (codes "f" ∷ []) 65536 (pos 1)))) ∷
    client 1 0 (entry.Begin 0 (call.Create (codes "f" ∷ []) (Some (65536, (pos 1))))) ∷
    []

-- it writes 68 and 69 at 0
abbrev pub written : Past
written =
    client 7 0 (entry.Told 0 (turn 7 (Client 0)) told.Done) ∷
    client 7 0 (entry.Begin 0 (call.Write 0 0 (104 ∷ 105 ∷ []))) ∷
    opened

-- it cuts the file to 5 bytes
abbrev pub cut_to_five : Past
cut_to_five =
    client 7 0 (entry.Told 0 (turn 7 (Client 0)) told.Done) ∷
    client 7 0 (entry.Begin 0 (call.Cut 0 5)) ∷
    opened

-- c0 made /f of two stripes and opened it: stripe 0 lies on target 2, stripe 1 on target 1
abbrev pub opened_striped : Past
opened_striped =
    client 6 0 (entry.Told 0 (turn 5 (Target 0)) (told.Made (fid 1 1))) ∷
    client 6 0 (heard 0 2) ∷
    client 6 0 (entry.Take 4) ∷
    target 5 0 (sends 4 (Client 0) (replies (life 0 1) 1 2 (txn_of 1 2) (txn_of 0 0) (number 1 1 ∷ []) (turn 5 (Target
    0)) [] (told.OpenFile (fid 1 1) (txn_of 1 2) (striped 65536 (2 ∷ 1 ∷ []))))) ∷
    target 5 0 (executes (txn_of 1 2) (life 0 1) 2 (number 1 1 ∷ []) (told.OpenFile (fid 1 1) (txn_of 1 2) (striped
    65536 (2 ∷ 1 ∷ [])))) ∷
    client 4 0 (sends 3 (Target 0) (asks (life 0 1) 1 2 0 (op.Open (codes "f" ∷ [])))) ∷
    client 4 0 (entry.Begin 0 (call.Open 0 (codes "f" ∷ []))) ∷
    client 3 0 (entry.Told 0 (turn 2 (Target 0)) (told.Made (fid 1 1))) ∷
    client 3 0 (heard 0 1) ∷
    target 2 0 (executes (txn_of 1 1) (life 0 1) 1 [] (told.Made (fid 1 1))) ∷
    client 1 0 (sends 1 (Target 0) (asks (life 0 1) 1 1 0 (op.Create (codes "f" ∷ []) 65536 (pos 2)))) ∷
    client 1 0 (entry.Begin 0 (call.Create (codes "f" ∷ []) (Some (65536, (pos 2))))) ∷
    []

-- c0 heard that it opened /f, but took no reply that tells where its bytes lie
abbrev pub without_layout : Past
without_layout =
    client 7 0 (entry.Told 0 (turn 7 (Client 0)) told.Done) ∷
    client 7 0 (entry.Begin 0 (call.Write 0 0 (104 ∷ 105 ∷ []))) ∷
    client 6 0 (entry.Told 0 (turn 5 (Target 0)) (told.Made (fid 1 1))) ∷
    client 6 0 (heard 0 2) ∷
    target 5 0 (executes (txn_of 1 2) (life 0 1) 2 (number 1 1 ∷ []) (told.OpenFile (fid 1 1) (txn_of 1 2) (striped
    65536 (2 ∷ [])))) ∷
    client 4 0 (sends 3 (Target 0) (asks (life 0 1) 1 2 0 (op.Open (codes "f" ∷ [])))) ∷
    client 4 0 (entry.Begin 0 (call.Open 0 (codes "f" ∷ []))) ∷
    client 3 0 (entry.Told 0 (turn 2 (Target 0)) (told.Made (fid 1 1))) ∷
    client 3 0 (heard 0 1) ∷
    target 2 0 (executes (txn_of 1 1) (life 0 1) 1 [] (told.Made (fid 1 1))) ∷
    client 1 0 (sends 1 (Target 0) (asks (life 0 1) 1 1 0 (op.Create (codes "f" ∷ []) 65536 (pos 1)))) ∷
    client 1 0 (entry.Begin 0 (call.Create (codes "f" ∷ []) (Some (65536, (pos 1))))) ∷
    []

-- c0 made /g too and opened it as handle 1
abbrev pub two_files : Past
two_files =
    client 12 0 (entry.Told 0 (turn 11 (Target 0)) (told.Made (fid 1 3))) ∷
    client 12 0 (heard 0 4) ∷
    target 11 0 (executes (txn_of 1 4) (life 0 1) 4 (number 1 3 ∷ []) (told.OpenFile (fid 1 3) (txn_of 1 4) (striped
    65536 (2 ∷ [])))) ∷
    client 10 0 (sends 7 (Target 0) (asks (life 0 1) 1 4 0 (op.Open (codes "g" ∷ [])))) ∷
    client 10 0 (entry.Begin 0 (call.Open 1 (codes "g" ∷ []))) ∷
    client 9 0 (entry.Told 0 (turn 8 (Target 0)) (told.Made (fid 1 3))) ∷
    client 9 0 (heard 0 3) ∷
    target 8 0 (executes (txn_of 1 3) (life 0 1) 3 [] (told.Made (fid 1 3))) ∷
    client 7 0 (sends 5 (Target 0) (asks (life 0 1) 1 3 0 (op.Create (codes "g" ∷ []) 65536 (pos 1)))) ∷
    client 7 0 (entry.Begin 0 (call.Create (codes "g" ∷ []) (Some (65536, (pos 1))))) ∷
    opened

-- ---- the bytes of a put

-- a byte was never written
abbrev pub never_written_past : Past
never_written_past =
    target 9 2 (executes (txn_of 1 1) (life 0 1) 1 [] told.Done) ∷
    client 8 0 (sends 5 (Target 2) (asks (life 0 1) 1 1 0 (op.Put (object 1 1 0) (cookie 1 1) 0 (112 ∷ [])))) ∷
    written

pub never_written : Breaks never_written_past
unfolding position_of below_of stripe_of offset_of greatest_end
never_written = says_no (decide never_written_past) refl

-- one of its bytes was never written
abbrev pub last_never_written_past : Past
last_never_written_past =
    target 9 2 (executes (txn_of 1 1) (life 0 1) 1 [] told.Done) ∷
    client 8 0 (sends 5 (Target 2) (asks (life 0 1) 1 1 0 (op.Put (object 1 1 0) (cookie 1 1) 0 (104 ∷ 112 ∷ [])))) ∷
    written

pub last_never_written : Breaks last_never_written_past
unfolding position_of below_of stripe_of offset_of greatest_end
last_never_written = says_no (decide last_never_written_past) refl

-- a byte was written at another position
abbrev pub written_elsewhere_past : Past
written_elsewhere_past =
    target 9 2 (executes (txn_of 1 1) (life 0 1) 1 [] told.Done) ∷
    client 8 0 (sends 5 (Target 2) (asks (life 0 1) 1 1 0 (op.Put (object 1 1 0) (cookie 1 1) 1 (104 ∷ [])))) ∷
    written

pub written_elsewhere : Breaks written_elsewhere_past
unfolding position_of below_of stripe_of offset_of greatest_end
written_elsewhere = says_no (decide written_elsewhere_past) refl

-- the write is told only after the request is sent
abbrev pub told_too_late_past : Past
told_too_late_past =
    target 10 2 (executes (txn_of 1 1) (life 0 1) 1 [] told.Done) ∷
    client 9 0 (entry.Told 0 (turn 9 (Client 0)) told.Done) ∷
    client 8 0 (sends 5 (Target 2) (asks (life 0 1) 1 1 0 (op.Put (object 1 1 0) (cookie 1 1) 0 (104 ∷ 105 ∷ [])))) ∷
    client 7 0 (entry.Begin 0 (call.Write 0 0 (104 ∷ 105 ∷ []))) ∷
    opened

pub told_too_late : Breaks told_too_late_past
unfolding position_of below_of stripe_of offset_of greatest_end
told_too_late = says_no (decide told_too_late_past) refl

-- the first sending counts, though the request is sent again once the write is told
abbrev pub told_before_the_second_sending_past : Past
told_before_the_second_sending_past =
    target 11 2 (executes (txn_of 1 1) (life 0 1) 1 [] told.Done) ∷
    client 10 0 (sends 6 (Target 2) (asks (life 0 1) 1 1 0 (op.Put (object 1 1 0) (cookie 1 1) 0 (104 ∷ 105 ∷ [])))) ∷
    client 9 0 (entry.Told 0 (turn 9 (Client 0)) told.Done) ∷
    client 8 0 (sends 5 (Target 2) (asks (life 0 1) 1 1 0 (op.Put (object 1 1 0) (cookie 1 1) 0 (104 ∷ 105 ∷ [])))) ∷
    client 7 0 (entry.Begin 0 (call.Write 0 0 (104 ∷ 105 ∷ []))) ∷
    opened

pub told_before_the_second_sending : Breaks told_before_the_second_sending_past
unfolding position_of below_of stripe_of offset_of greatest_end
told_before_the_second_sending = says_no (decide told_before_the_second_sending_past) refl

-- the write is never told
abbrev pub write_not_told_past : Past
write_not_told_past =
    target 9 2 (executes (txn_of 1 1) (life 0 1) 1 [] told.Done) ∷
    client 8 0 (sends 5 (Target 2) (asks (life 0 1) 1 1 0 (op.Put (object 1 1 0) (cookie 1 1) 0 (104 ∷ 105 ∷ [])))) ∷
    client 7 0 (entry.Begin 0 (call.Write 0 0 (104 ∷ 105 ∷ []))) ∷
    opened

pub write_not_told : Breaks write_not_told_past
unfolding position_of below_of stripe_of offset_of greatest_end
write_not_told = says_no (decide write_not_told_past) refl

-- the write ended with EIO
abbrev pub write_ended_past : Past
write_ended_past =
    target 9 2 (executes (txn_of 1 1) (life 0 1) 1 [] told.Done) ∷
    client 8 0 (sends 5 (Target 2) (asks (life 0 1) 1 1 0 (op.Put (object 1 1 0) (cookie 1 1) 0 (104 ∷ 105 ∷ [])))) ∷
    client 7 0 (entry.Told 0 (turn 7 (Client 0)) (told.Refused EIO)) ∷
    client 7 0 (entry.Begin 0 (call.Write 0 0 (104 ∷ 105 ∷ []))) ∷
    opened

pub write_ended : Breaks write_ended_past
unfolding position_of below_of stripe_of offset_of greatest_end
write_ended = says_no (decide write_ended_past) refl

-- an earlier life of the client wrote it
abbrev pub of_an_earlier_life_past : Past
of_an_earlier_life_past =
    target 9 2 (executes (txn_of 1 1) (life 0 2) 1 [] told.Done) ∷
    client 8 0 (sends 5 (Target 2) (asks (life 0 2) 1 1 0 (op.Put (object 1 1 0) (cookie 1 1) 0 (104 ∷ 105 ∷ [])))) ∷
    client 8 0 (entry.Life (life 0 2)) ∷
    written

pub of_an_earlier_life : Breaks of_an_earlier_life_past
unfolding position_of below_of stripe_of offset_of greatest_end
of_an_earlier_life = says_no (decide of_an_earlier_life_past) refl

-- it was written to another file
abbrev pub of_another_file_past : Past
of_another_file_past =
    target 15 2 (executes (txn_of 1 1) (life 0 1) 1 [] told.Done) ∷
    client 14 0 (sends 9 (Target 2) (asks (life 0 1) 1 1 0 (op.Put (object 1 1 0) (cookie 1 1) 0 (104 ∷ 105 ∷ [])))) ∷
    client 13 0 (entry.Told 0 (turn 13 (Client 0)) told.Done) ∷
    client 13 0 (entry.Begin 0 (call.Write 1 0 (104 ∷ 105 ∷ []))) ∷
    two_files

pub of_another_file : Breaks of_another_file_past
unfolding position_of below_of stripe_of offset_of greatest_end
of_another_file = says_no (decide of_another_file_past) refl

-- the life heard no layout of the file
abbrev pub lies_nowhere_past : Past
lies_nowhere_past =
    target 9 2 (executes (txn_of 1 1) (life 0 1) 1 [] told.Done) ∷
    client 8 0 (sends 5 (Target 2) (asks (life 0 1) 1 1 0 (op.Put (object 1 1 0) (cookie 1 1) 0 (104 ∷ 105 ∷ [])))) ∷
    without_layout

pub lies_nowhere : Breaks lies_nowhere_past
unfolding position_of below_of stripe_of offset_of greatest_end
lies_nowhere = says_no (decide lies_nowhere_past) refl

-- the object is of no stripe of the layout
abbrev pub stripe_past_the_last_past : Past
stripe_past_the_last_past =
    target 9 1 (executes (txn_of 1 1) (life 0 1) 1 [] told.Done) ∷
    client 8 0 (sends 5 (Target 1) (asks (life 0 1) 1 1 0 (op.Put (object 1 1 1) (cookie 1 1) 0 (104 ∷ 105 ∷ [])))) ∷
    client 7 0 (entry.Told 0 (turn 7 (Client 0)) told.Done) ∷
    client 7 0 (entry.Begin 0 (call.Write 0 65536 (104 ∷ 105 ∷ []))) ∷
    opened

pub stripe_past_the_last : Breaks stripe_past_the_last_past
unfolding position_of below_of stripe_of offset_of greatest_end
stripe_past_the_last = says_no (decide stripe_past_the_last_past) refl

-- of two layouts that the life heard the first counts
abbrev pub later_layout_past : Past
later_layout_past =
    target 12 1 (executes (txn_of 1 1) (life 0 1) 1 [] told.Done) ∷
    client 11 0 (sends 8 (Target 1) (asks (life 0 1) 1 1 0 (op.Put (object 1 1 1) (cookie 1 1) 0 (104 ∷ 105 ∷ [])))) ∷
    client 10 0 (entry.Told 0 (turn 10 (Client 0)) told.Done) ∷
    client 10 0 (entry.Begin 0 (call.Write 1 65536 (104 ∷ 105 ∷ []))) ∷
    client 9 0 (entry.Told 0 (turn 8 (Target 0)) (told.Made (fid 1 1))) ∷
    client 9 0 (heard 0 3) ∷
    client 9 0 (entry.Take 7) ∷
    target 8 0 (sends 7 (Client 0) (replies (life 0 1) 1 3 (txn_of 1 3) (txn_of 0 0) (number 1 1 ∷ []) (turn 8 (Target
    0)) [] (told.OpenFile (fid 1 1) (txn_of 1 3) (striped 65536 (2 ∷ 1 ∷ []))))) ∷
    target 8 0 (executes (txn_of 1 3) (life 0 1) 3 (number 1 1 ∷ []) (told.OpenFile (fid 1 1) (txn_of 1 3) (striped
    65536 (2 ∷ 1 ∷ [])))) ∷
    client 7 0 (sends 6 (Target 0) (asks (life 0 1) 1 3 0 (op.Open (codes "f" ∷ [])))) ∷
    client 7 0 (entry.Begin 0 (call.Open 1 (codes "f" ∷ []))) ∷
    opened

pub later_layout : Breaks later_layout_past
unfolding position_of below_of stripe_of offset_of greatest_end
later_layout = says_no (decide later_layout_past) refl

-- the position lies on another stripe
abbrev pub on_another_stripe_past : Past
on_another_stripe_past =
    target 9 1 (executes (txn_of 1 1) (life 0 1) 1 [] told.Done) ∷
    client 8 0 (sends 5 (Target 1) (asks (life 0 1) 1 1 0 (op.Put (object 1 1 1) (cookie 1 1) 0 (104 ∷ 105 ∷ [])))) ∷
    client 7 0 (entry.Told 0 (turn 7 (Client 0)) told.Done) ∷
    client 7 0 (entry.Begin 0 (call.Write 0 0 (104 ∷ 105 ∷ []))) ∷
    opened_striped

pub on_another_stripe : Breaks on_another_stripe_past
unfolding position_of below_of stripe_of offset_of greatest_end
on_another_stripe = says_no (decide on_another_stripe_past) refl

-- a 0 doesn't stand at the end of what was cut
abbrev pub zero_before_the_end_past : Past
zero_before_the_end_past =
    target 9 2 (executes (txn_of 1 1) (life 0 1) 1 [] told.Done) ∷
    client 8 0 (sends 5 (Target 2) (asks (life 0 1) 1 1 0 (op.Put (object 1 1 0) (cookie 1 1) 3 (0 ∷ [])))) ∷
    cut_to_five

pub zero_before_the_end : Breaks zero_before_the_end_past
unfolding position_of below_of stripe_of offset_of greatest_end
zero_before_the_end = says_no (decide zero_before_the_end_past) refl

-- at the end of what was cut stands a byte that isn't 0
abbrev pub byte_at_the_end_past : Past
byte_at_the_end_past =
    target 9 2 (executes (txn_of 1 1) (life 0 1) 1 [] told.Done) ∷
    client 8 0 (sends 5 (Target 2) (asks (life 0 1) 1 1 0 (op.Put (object 1 1 0) (cookie 1 1) 4 (1 ∷ [])))) ∷
    cut_to_five

pub byte_at_the_end : Breaks byte_at_the_end_past
unfolding position_of below_of stripe_of offset_of greatest_end
byte_at_the_end = says_no (decide byte_at_the_end_past) refl

-- the cut is told only after the request is sent
abbrev pub zero_of_a_late_cut_past : Past
zero_of_a_late_cut_past =
    target 10 2 (executes (txn_of 1 1) (life 0 1) 1 [] told.Done) ∷
    client 9 0 (entry.Told 0 (turn 9 (Client 0)) told.Done) ∷
    client 8 0 (sends 5 (Target 2) (asks (life 0 1) 1 1 0 (op.Put (object 1 1 0) (cookie 1 1) 4 (0 ∷ [])))) ∷
    client 7 0 (entry.Begin 0 (call.Cut 0 5)) ∷
    opened

pub zero_of_a_late_cut : Breaks zero_of_a_late_cut_past
unfolding position_of below_of stripe_of offset_of greatest_end
zero_of_a_late_cut = says_no (decide zero_of_a_late_cut_past) refl

-- what was written is put
abbrev pub as_written_past : Past
as_written_past =
    target 9 2 (executes (txn_of 1 1) (life 0 1) 1 [] told.Done) ∷
    client 8 0 (sends 5 (Target 2) (asks (life 0 1) 1 1 0 (op.Put (object 1 1 0) (cookie 1 1) 0 (104 ∷ 105 ∷ [])))) ∷
    written

pub as_written : Keeps as_written_past
unfolding position_of below_of stripe_of offset_of greatest_end
as_written = says_yes (decide as_written_past) refl

-- the request is sent again
abbrev pub sent_again_past : Past
sent_again_past =
    target 10 2 (executes (txn_of 1 1) (life 0 1) 1 [] told.Done) ∷
    client 9 0 (sends 6 (Target 2) (asks (life 0 1) 1 1 0 (op.Put (object 1 1 0) (cookie 1 1) 0 (104 ∷ 105 ∷ [])))) ∷
    client 8 0 (sends 5 (Target 2) (asks (life 0 1) 1 1 0 (op.Put (object 1 1 0) (cookie 1 1) 0 (104 ∷ 105 ∷ [])))) ∷
    written

pub sent_again : Keeps sent_again_past
unfolding position_of below_of stripe_of offset_of greatest_end
sent_again = says_yes (decide sent_again_past) refl

-- what lies on the second stripe is put there
abbrev pub on_its_stripe_past : Past
on_its_stripe_past =
    target 9 1 (executes (txn_of 1 1) (life 0 1) 1 [] told.Done) ∷
    client 8 0 (sends 5 (Target 1) (asks (life 0 1) 1 1 0 (op.Put (object 1 1 1) (cookie 1 1) 0 (104 ∷ 105 ∷ [])))) ∷
    client 7 0 (entry.Told 0 (turn 7 (Client 0)) told.Done) ∷
    client 7 0 (entry.Begin 0 (call.Write 0 65536 (104 ∷ 105 ∷ []))) ∷
    opened_striped

pub on_its_stripe : Keeps on_its_stripe_past
unfolding position_of below_of stripe_of offset_of greatest_end
on_its_stripe = says_yes (decide on_its_stripe_past) refl

-- the 0 at the end of what was cut
abbrev pub zero_at_the_end_past : Past
zero_at_the_end_past =
    target 9 2 (executes (txn_of 1 1) (life 0 1) 1 [] told.Done) ∷
    client 8 0 (sends 5 (Target 2) (asks (life 0 1) 1 1 0 (op.Put (object 1 1 0) (cookie 1 1) 4 (0 ∷ [])))) ∷
    cut_to_five

pub zero_at_the_end : Keeps zero_at_the_end_past
unfolding position_of below_of stripe_of offset_of greatest_end
zero_at_the_end = says_yes (decide zero_at_the_end_past) refl

-- a put of no bytes has no byte without an origin
abbrev pub no_bytes_past : Past
no_bytes_past =
    target 9 2 (executes (txn_of 1 1) (life 0 1) 1 [] told.Done) ∷
    client 8 0 (sends 5 (Target 2) (asks (life 0 1) 1 1 0 (op.Put (object 1 1 0) (cookie 1 1) 9 []))) ∷
    opened

pub no_bytes : Keeps no_bytes_past
unfolding position_of below_of stripe_of offset_of greatest_end
no_bytes = says_yes (decide no_bytes_past) refl

-- ---- the number of a cut

-- it was never cut
abbrev pub never_cut_past : Past
never_cut_past =
    target 9 2 (executes (txn_of 1 1) (life 0 1) 1 [] told.Done) ∷
    client 8 0 (sends 5 (Target 2) (asks (life 0 1) 1 1 0 (op.Cut (object 1 1 0) (cookie 1 1) 0))) ∷
    opened

pub never_cut : Breaks never_cut_past
unfolding position_of below_of stripe_of offset_of greatest_end
never_cut = says_no (decide never_cut_past) refl

-- it was cut to another number
abbrev pub cut_to_another_past : Past
cut_to_another_past =
    target 9 2 (executes (txn_of 1 1) (life 0 1) 1 [] told.Done) ∷
    client 8 0 (sends 5 (Target 2) (asks (life 0 1) 1 1 0 (op.Cut (object 1 1 0) (cookie 1 1) 4))) ∷
    cut_to_five

pub cut_to_another : Breaks cut_to_another_past
unfolding position_of below_of stripe_of offset_of greatest_end
cut_to_another = says_no (decide cut_to_another_past) refl

-- the cut is told only after the request is sent
abbrev pub cut_told_too_late_past : Past
cut_told_too_late_past =
    target 10 2 (executes (txn_of 1 1) (life 0 1) 1 [] told.Done) ∷
    client 9 0 (entry.Told 0 (turn 9 (Client 0)) told.Done) ∷
    client 8 0 (sends 5 (Target 2) (asks (life 0 1) 1 1 0 (op.Cut (object 1 1 0) (cookie 1 1) 5))) ∷
    client 7 0 (entry.Begin 0 (call.Cut 0 5)) ∷
    opened

pub cut_told_too_late : Breaks cut_told_too_late_past
unfolding position_of below_of stripe_of offset_of greatest_end
cut_told_too_late = says_no (decide cut_told_too_late_past) refl

-- the second stripe is cut to the number of the file
abbrev pub cut_of_the_file_past : Past
cut_of_the_file_past =
    target 9 1 (executes (txn_of 1 1) (life 0 1) 1 [] told.Done) ∷
    client 8 0 (sends 5 (Target 1) (asks (life 0 1) 1 1 0 (op.Cut (object 1 1 1) (cookie 1 1) 5))) ∷
    client 7 0 (entry.Told 0 (turn 7 (Client 0)) told.Done) ∷
    client 7 0 (entry.Begin 0 (call.Cut 0 5)) ∷
    opened_striped

pub cut_of_the_file : Breaks cut_of_the_file_past
unfolding position_of below_of stripe_of offset_of greatest_end
cut_of_the_file = says_no (decide cut_of_the_file_past) refl

-- the object is of no stripe of the layout
abbrev pub cut_past_the_last_stripe_past : Past
cut_past_the_last_stripe_past =
    target 9 1 (executes (txn_of 1 1) (life 0 1) 1 [] told.Done) ∷
    client 8 0 (sends 5 (Target 1) (asks (life 0 1) 1 1 0 (op.Cut (object 1 1 1) (cookie 1 1) 0))) ∷
    cut_to_five

pub cut_past_the_last_stripe : Breaks cut_past_the_last_stripe_past
unfolding position_of below_of stripe_of offset_of greatest_end
cut_past_the_last_stripe = says_no (decide cut_past_the_last_stripe_past) refl

-- another file was cut
abbrev pub cut_of_another_file_past : Past
cut_of_another_file_past =
    target 15 2 (executes (txn_of 1 1) (life 0 1) 1 [] told.Done) ∷
    client 14 0 (sends 9 (Target 2) (asks (life 0 1) 1 1 0 (op.Cut (object 1 1 0) (cookie 1 1) 5))) ∷
    client 13 0 (entry.Told 0 (turn 13 (Client 0)) told.Done) ∷
    client 13 0 (entry.Begin 0 (call.Cut 1 5)) ∷
    two_files

pub cut_of_another_file : Breaks cut_of_another_file_past
unfolding position_of below_of stripe_of offset_of greatest_end
cut_of_another_file = says_no (decide cut_of_another_file_past) refl

-- the stripe is cut to the number of its positions
abbrev pub as_cut_past : Past
as_cut_past =
    target 9 2 (executes (txn_of 1 1) (life 0 1) 1 [] told.Done) ∷
    client 8 0 (sends 5 (Target 2) (asks (life 0 1) 1 1 0 (op.Cut (object 1 1 0) (cookie 1 1) 5))) ∷
    cut_to_five

pub as_cut : Keeps as_cut_past
unfolding position_of below_of stripe_of offset_of greatest_end
as_cut = says_yes (decide as_cut_past) refl

-- a cut within the first stripe leaves nothing of the second
abbrev pub second_stripe_emptied_past : Past
second_stripe_emptied_past =
    target 9 1 (executes (txn_of 1 1) (life 0 1) 1 [] told.Done) ∷
    client 8 0 (sends 5 (Target 1) (asks (life 0 1) 1 1 0 (op.Cut (object 1 1 1) (cookie 1 1) 0))) ∷
    client 7 0 (entry.Told 0 (turn 7 (Client 0)) told.Done) ∷
    client 7 0 (entry.Begin 0 (call.Cut 0 5)) ∷
    opened_striped

pub second_stripe_emptied : Keeps second_stripe_emptied_past
unfolding position_of below_of stripe_of offset_of greatest_end
second_stripe_emptied = says_yes (decide second_stripe_emptied_past) refl

-- a transaction without a request carries nothing
abbrev pub asked_by_nobody_past : Past
asked_by_nobody_past =
    target 9 2 (executes (txn_of 1 1) (life 0 1) 1 [] told.Done) ∷
    opened

pub asked_by_nobody : Keeps asked_by_nobody_past
unfolding position_of below_of stripe_of offset_of greatest_end
asked_by_nobody = says_yes (decide asked_by_nobody_past) refl
