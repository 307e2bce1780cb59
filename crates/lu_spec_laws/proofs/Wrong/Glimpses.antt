-- Traces that break the law of glimpses, and lawful ones beside them. They have only the lines that this law looks
-- at, the newest first.
use Rattle.std.proofs.Common.{[], ◌∷◌, Some, refl, pos}
use Rattle.std.specs.Prelude.{codes}
use Rattle.lu_base.specs.declared.ids.Node.TheVariants.{Client, Target}
use Rattle.lu_base.specs.declared.locks.Cause.TheVariants.{Expired}
use Rattle.lu_base.specs.declared.locks.Mode.TheVariants.{PW}
use Rattle.lu_base.specs.declared.locks.Policy.TheVariants.{Range}
use Rattle.lu_msg.specs.declared.answers.Answer.TheVariants as told
use Rattle.lu_msg.specs.declared.calls.Call.TheVariants as call
use Rattle.lu_msg.specs.declared.operations.Op.TheVariants as op
use Rattle.lu_trace.specs.declared.entries.Entry.TheVariants as entry
use Rattle.lu_spec_laws.specs.Words.Pasts.{Past}
use Rattle.lu_spec_laws.proofs.Words.{turn, client, target, life, number, fid, txn_of, cookie, onward, object, striped, lock}
use Rattle.lu_spec_laws.proofs.Words.{asks}
use Rattle.lu_spec_laws.proofs.Words.{sends, heard, peek, executes}
use Rattle.lu_layout.specs.Raid0.{position_of, below_of, stripe_of, offset_of, greatest_end}
use Rattle.lu_spec_laws.specs.Holds.{Holds}
use Rattle.lu_spec_laws.specs.Laws.Glimpse.{Glimpse}
use Rattle.lu_spec_laws.proofs.Decides.{Decided, says_yes, says_no, holds}
use Rattle.lu_spec_laws.proofs.Decides.Glimpse.{decide_glimpse}

abbrev pub Breaks : Past → Type 0
Breaks past = Holds (Glimpse 2 past) past → ⊥

abbrev pub Keeps : Past → Type 0
Keeps past = Holds (Glimpse 2 past) past

abbrev decide : (whole : Past) → Decided (Holds (Glimpse 2 whole) whole)
decide whole = holds (decide_glimpse 2 whole) whole

-- c0 made /f, and c0 and c1 opened it as handle 0
abbrev pub opened : Past
opened =
    client 9 1 (entry.Told 0 (turn 8 (Target 0)) (told.Made (fid 1 1))) ∷
    client 9 1 (heard 0 1) ∷
    target 8 0 (executes (txn_of 1 3) (life 1 1) 1 (number 1 1 ∷ []) (told.OpenFile (fid 1 1) (txn_of 1 3) (striped
    65536 (2 ∷ [])))) ∷
    client 7 1 (sends 5 (Target 0) (asks (life 1 1) 1 1 0 (op.Open (codes "f" ∷ [])))) ∷
    client 7 1 (entry.Begin 0 (call.Open 0 (codes "f" ∷ []))) ∷
    client 6 0 (entry.Told 0 (turn 5 (Target 0)) (told.Made (fid 1 1))) ∷
    client 6 0 (heard 0 2) ∷
    target 5 0 (executes (txn_of 1 2) (life 0 1) 2 (number 1 1 ∷ []) (told.OpenFile (fid 1 1) (txn_of 1 2) (striped
    65536 (2 ∷ [])))) ∷
    client 4 0 (sends 3 (Target 0) (asks (life 0 1) 1 2 0 (op.Open (codes "f" ∷ [])))) ∷
    client 4 0 (entry.Begin 0 (call.Open 0 (codes "f" ∷ []))) ∷
    client 3 0 (entry.Told 0 (turn 2 (Target 0)) (told.Made (fid 1 1))) ∷
    client 3 0 (heard 0 1) ∷
    target 2 0 (executes (txn_of 1 1) (life 0 1) 1 [] (told.Made (fid 1 1))) ∷
    client 1 0 (sends 1 (Target 0) (asks (life 0 1) 1 1 0 (op.Create (codes "f" ∷ []) 65536 (pos 1)))) ∷
    client 1 0 (entry.Begin 0 (call.Create (codes "f" ∷ []) (Some (65536, (pos 1))))) ∷
    []

-- c0 wrote two bytes
abbrev pub written : Past
written =
    client 10 0 (entry.Told 0 (turn 10 (Client 0)) told.Done) ∷
    client 10 0 (entry.Begin 0 (call.Write 0 0 (104 ∷ 105 ∷ []))) ∷
    opened

-- the same with two stripes, of which the first has two bytes
abbrev pub two_stripes : Past
two_stripes =
    client 10 0 (entry.Told 0 (turn 10 (Client 0)) told.Done) ∷
    client 10 0 (entry.Begin 0 (call.Write 0 0 (104 ∷ 105 ∷ []))) ∷
    client 9 1 (entry.Told 0 (turn 8 (Target 0)) (told.Made (fid 1 1))) ∷
    client 9 1 (heard 0 1) ∷
    target 8 0 (executes (txn_of 1 3) (life 1 1) 1 (number 1 1 ∷ []) (told.OpenFile (fid 1 1) (txn_of 1 3) (striped
    65536 (2 ∷ 1 ∷ [])))) ∷
    client 7 1 (sends 5 (Target 0) (asks (life 1 1) 1 1 0 (op.Open (codes "f" ∷ [])))) ∷
    client 7 1 (entry.Begin 0 (call.Open 0 (codes "f" ∷ []))) ∷
    client 6 0 (entry.Told 0 (turn 5 (Target 0)) (told.Made (fid 1 1))) ∷
    client 6 0 (heard 0 2) ∷
    target 5 0 (executes (txn_of 1 2) (life 0 1) 2 (number 1 1 ∷ []) (told.OpenFile (fid 1 1) (txn_of 1 2) (striped
    65536 (2 ∷ 1 ∷ [])))) ∷
    client 4 0 (sends 3 (Target 0) (asks (life 0 1) 1 2 0 (op.Open (codes "f" ∷ [])))) ∷
    client 4 0 (entry.Begin 0 (call.Open 0 (codes "f" ∷ []))) ∷
    client 3 0 (entry.Told 0 (turn 2 (Target 0)) (told.Made (fid 1 1))) ∷
    client 3 0 (heard 0 1) ∷
    target 2 0 (executes (txn_of 1 1) (life 0 1) 1 [] (told.Made (fid 1 1))) ∷
    client 1 0 (sends 1 (Target 0) (asks (life 0 1) 1 1 0 (op.Create (codes "f" ∷ []) 65536 (pos 2)))) ∷
    client 1 0 (entry.Begin 0 (call.Create (codes "f" ∷ []) (Some (65536, (pos 2))))) ∷
    []

-- c0 is evicted by target 1, while it holds a lock on the object at target 2
abbrev pub gone : Past
gone =
    target 11 1 (entry.Evict (life 0 1) Expired) ∷
    client 10 0 (entry.Told 0 (turn 10 (Client 0)) told.Done) ∷
    client 10 0 (entry.Begin 0 (call.Write 0 0 (104 ∷ 105 ∷ []))) ∷
    target 9 2 (entry.Grant (lock (cookie 1 2) (life 0 1) (object 1 2 0) PW (Range (onward 0)))) ∷
    target 9 2 (entry.Grant (lock (cookie 1 1) (life 0 1) (object 1 1 0) PW (Range (onward 0)))) ∷
    opened

-- ---- the size of the object after a turn

-- the object never had this size
abbrev pub another_size_past : Past
another_size_past =
    client 12 1 (entry.Told 0 (turn 12 (Client 1)) (told.Sizes (3 ∷ []))) ∷
    client 11 1 (entry.Begin 0 (call.Glimpse 0)) ∷
    written

pub another_size : Breaks another_size_past
unfolding position_of below_of stripe_of offset_of greatest_end
another_size = says_no (decide another_size_past) refl

-- it had this size before the call began, and not since
abbrev pub before_the_begin_past : Past
before_the_begin_past =
    client 13 1 (entry.Told 0 (turn 13 (Client 1)) (told.Sizes (2 ∷ []))) ∷
    client 12 1 (entry.Begin 0 (call.Glimpse 0)) ∷
    client 11 0 (entry.Told 0 (turn 11 (Client 0)) told.Done) ∷
    client 11 0 (entry.Begin 0 (call.Cut 0 0)) ∷
    written

pub before_the_begin : Breaks before_the_begin_past
unfolding position_of below_of stripe_of offset_of greatest_end
before_the_begin = says_no (decide before_the_begin_past) refl

-- it has this size only after the turn in which it was told
abbrev pub after_it_was_told_past : Past
after_it_was_told_past =
    client 13 0 (entry.Told 0 (turn 13 (Client 0)) told.Done) ∷
    client 13 0 (entry.Begin 0 (call.Cut 0 9)) ∷
    client 12 1 (entry.Told 0 (turn 12 (Client 1)) (told.Sizes (9 ∷ []))) ∷
    client 11 1 (entry.Begin 0 (call.Glimpse 0)) ∷
    written

pub after_it_was_told : Breaks after_it_was_told_past
unfolding position_of below_of stripe_of offset_of greatest_end
after_it_was_told = says_no (decide after_it_was_told_past) refl

-- it had this size between two calls of its turn, but only before the call began
abbrev pub earlier_in_its_turn_past : Past
earlier_in_its_turn_past =
    client 13 0 (entry.Told 2 (turn 13 (Client 0)) (told.Sizes (9 ∷ []))) ∷
    client 12 0 (entry.Begin 2 (call.Glimpse 0)) ∷
    client 12 0 (entry.Told 1 (turn 12 (Client 0)) told.Done) ∷
    client 12 0 (entry.Begin 1 (call.Cut 0 2)) ∷
    client 12 0 (entry.Told 0 (turn 12 (Client 0)) told.Done) ∷
    client 12 0 (entry.Begin 0 (call.Cut 0 9)) ∷
    written

pub earlier_in_its_turn : Breaks earlier_in_its_turn_past
unfolding position_of below_of stripe_of offset_of greatest_end
earlier_in_its_turn = says_no (decide earlier_in_its_turn_past) refl

-- the sizes of two stripes stand in the wrong order
abbrev pub order_of_stripes_past : Past
order_of_stripes_past =
    client 12 1 (entry.Told 0 (turn 12 (Client 1)) (told.Sizes (0 ∷ 2 ∷ []))) ∷
    client 11 1 (entry.Begin 0 (call.Glimpse 0)) ∷
    two_stripes

pub order_of_stripes : Breaks order_of_stripes_past
unfolding position_of below_of stripe_of offset_of greatest_end
order_of_stripes = says_no (decide order_of_stripes_past) refl

-- the size of the second stripe is that of the file
abbrev pub second_is_wrong_past : Past
second_is_wrong_past =
    client 12 1 (entry.Told 0 (turn 12 (Client 1)) (told.Sizes (2 ∷ 2 ∷ []))) ∷
    client 11 1 (entry.Begin 0 (call.Glimpse 0)) ∷
    two_stripes

pub second_is_wrong : Breaks second_is_wrong_past
unfolding position_of below_of stripe_of offset_of greatest_end
second_is_wrong = says_no (decide second_is_wrong_past) refl

-- a third number is said of no stripe
abbrev pub past_the_last_stripe_past : Past
past_the_last_stripe_past =
    client 12 1 (entry.Told 0 (turn 12 (Client 1)) (told.Sizes (2 ∷ 0 ∷ 1 ∷ []))) ∷
    client 11 1 (entry.Begin 0 (call.Glimpse 0)) ∷
    two_stripes

pub past_the_last_stripe : Breaks past_the_last_stripe_past
unfolding position_of below_of stripe_of offset_of greatest_end
past_the_last_stripe = says_no (decide past_the_last_stripe_past) refl

-- the bytes are those of a life that was gone before the call began
abbrev pub gone_before_past : Past
gone_before_past =
    client 13 1 (entry.Told 0 (turn 13 (Client 1)) (told.Sizes (2 ∷ []))) ∷
    client 12 1 (entry.Begin 0 (call.Glimpse 0)) ∷
    gone

pub gone_before : Breaks gone_before_past
unfolding position_of below_of stripe_of offset_of greatest_end
gone_before = says_no (decide gone_before_past) refl

-- sizes are told to a call on a handle that isn't bound
abbrev pub of_no_file_past : Past
of_no_file_past =
    client 12 1 (entry.Told 0 (turn 12 (Client 1)) (told.Sizes (0 ∷ []))) ∷
    client 11 1 (entry.Begin 0 (call.Glimpse 3)) ∷
    written

pub of_no_file : Breaks of_no_file_past
unfolding position_of below_of stripe_of offset_of greatest_end
of_no_file = says_no (decide of_no_file_past) refl

-- the object has this size
abbrev pub as_it_is_past : Past
as_it_is_past =
    client 12 1 (entry.Told 0 (turn 12 (Client 1)) (told.Sizes (2 ∷ []))) ∷
    client 11 1 (entry.Begin 0 (call.Glimpse 0)) ∷
    written

pub as_it_is : Keeps as_it_is_past
unfolding position_of below_of stripe_of offset_of greatest_end
as_it_is = says_yes (decide as_it_is_past) refl

-- it had this size when the call began
abbrev pub as_it_was_past : Past
as_it_was_past =
    client 13 1 (entry.Told 0 (turn 13 (Client 1)) (told.Sizes (2 ∷ []))) ∷
    client 12 0 (entry.Told 0 (turn 12 (Client 0)) told.Done) ∷
    client 12 0 (entry.Begin 0 (call.Cut 0 0)) ∷
    client 11 1 (entry.Begin 0 (call.Glimpse 0)) ∷
    written

pub as_it_was : Keeps as_it_was_past
unfolding position_of below_of stripe_of offset_of greatest_end
as_it_was = says_yes (decide as_it_was_past) refl

-- it has this size at the end of the turn in which it is told
abbrev pub at_the_end_of_the_turn_past : Past
at_the_end_of_the_turn_past =
    client 13 0 (entry.Told 0 (turn 13 (Client 0)) told.Done) ∷
    client 13 0 (entry.Told 1 (turn 13 (Client 0)) (told.Sizes (9 ∷ []))) ∷
    client 12 0 (entry.Begin 0 (call.Cut 0 9)) ∷
    client 11 0 (entry.Begin 1 (call.Glimpse 0)) ∷
    written

pub at_the_end_of_the_turn : Keeps at_the_end_of_the_turn_past
unfolding position_of below_of stripe_of offset_of greatest_end
at_the_end_of_the_turn = says_yes (decide at_the_end_of_the_turn_past) refl

-- it had this size between two calls of a turn, though not at its end
abbrev pub amid_a_turn_past : Past
amid_a_turn_past =
    client 13 1 (entry.Told 0 (turn 13 (Client 1)) (told.Sizes (9 ∷ []))) ∷
    client 12 0 (entry.Told 1 (turn 12 (Client 0)) told.Done) ∷
    client 12 0 (entry.Begin 1 (call.Cut 0 2)) ∷
    client 12 0 (entry.Told 0 (turn 12 (Client 0)) told.Done) ∷
    client 12 0 (entry.Begin 0 (call.Cut 0 9)) ∷
    client 11 1 (entry.Begin 0 (call.Glimpse 0)) ∷
    written

pub amid_a_turn : Keeps amid_a_turn_past
unfolding position_of below_of stripe_of offset_of greatest_end
amid_a_turn = says_yes (decide amid_a_turn_past) refl

-- it had this size when the call began, between two calls of that turn
abbrev pub begun_amid_a_turn_past : Past
begun_amid_a_turn_past =
    client 12 0 (entry.Told 2 (turn 12 (Client 0)) (told.Sizes (9 ∷ []))) ∷
    client 12 0 (entry.Told 1 (turn 12 (Client 0)) told.Done) ∷
    client 12 0 (entry.Begin 2 (call.Glimpse 0)) ∷
    client 12 0 (entry.Begin 1 (call.Cut 0 2)) ∷
    client 12 0 (entry.Told 0 (turn 12 (Client 0)) told.Done) ∷
    client 12 0 (entry.Begin 0 (call.Cut 0 9)) ∷
    written

pub begun_amid_a_turn : Keeps begun_amid_a_turn_past
unfolding position_of below_of stripe_of offset_of greatest_end
begun_amid_a_turn = says_yes (decide begun_amid_a_turn_past) refl

-- the life that wrote the bytes is evicted only while the call stands
abbrev pub before_it_was_gone_past : Past
before_it_was_gone_past =
    client 13 1 (entry.Told 0 (turn 13 (Client 1)) (told.Sizes (2 ∷ []))) ∷
    target 12 2 (entry.Evict (life 0 1) Expired) ∷
    client 11 1 (entry.Begin 0 (call.Glimpse 0)) ∷
    written

pub before_it_was_gone : Keeps before_it_was_gone_past
unfolding position_of below_of stripe_of offset_of greatest_end
before_it_was_gone = says_yes (decide before_it_was_gone_past) refl

-- each stripe has a number
abbrev pub stripe_by_stripe_past : Past
stripe_by_stripe_past =
    client 12 1 (entry.Told 0 (turn 12 (Client 1)) (told.Sizes (2 ∷ 0 ∷ []))) ∷
    client 11 1 (entry.Begin 0 (call.Glimpse 0)) ∷
    two_stripes

pub stripe_by_stripe : Keeps stripe_by_stripe_past
unfolding position_of below_of stripe_of offset_of greatest_end
stripe_by_stripe = says_yes (decide stripe_by_stripe_past) refl

-- that each stripe has a number isn't asked
abbrev pub fewer_numbers_past : Past
fewer_numbers_past =
    client 12 1 (entry.Told 0 (turn 12 (Client 1)) (told.Sizes (2 ∷ []))) ∷
    client 11 1 (entry.Begin 0 (call.Glimpse 0)) ∷
    two_stripes

pub fewer_numbers : Keeps fewer_numbers_past
unfolding position_of below_of stripe_of offset_of greatest_end
fewer_numbers = says_yes (decide fewer_numbers_past) refl

-- a life that is gone is told anything
abbrev pub told_to_the_gone_past : Past
told_to_the_gone_past =
    target 13 2 (entry.Evict (life 1 1) Expired) ∷
    client 12 1 (entry.Told 0 (turn 12 (Client 1)) (told.Sizes (3 ∷ []))) ∷
    client 11 1 (entry.Begin 0 (call.Glimpse 0)) ∷
    written

pub told_to_the_gone : Keeps told_to_the_gone_past
unfolding position_of below_of stripe_of offset_of greatest_end
told_to_the_gone = says_yes (decide told_to_the_gone_past) refl

-- ---- what a life that is gone answered

-- the holder answered another number
abbrev pub peeked_another_past : Past
peeked_another_past =
    client 14 1 (entry.Told 0 (turn 14 (Client 1)) (told.Sizes (8 ∷ []))) ∷
    client 13 0 (peek 2 (cookie 1 1) 7) ∷
    client 12 1 (entry.Begin 0 (call.Glimpse 0)) ∷
    gone

pub peeked_another : Breaks peeked_another_past
unfolding position_of below_of stripe_of offset_of greatest_end
peeked_another = says_no (decide peeked_another_past) refl

-- the holder answered before the call began
abbrev pub peeked_before_past : Past
peeked_before_past =
    client 14 1 (entry.Told 0 (turn 14 (Client 1)) (told.Sizes (7 ∷ []))) ∷
    client 13 1 (entry.Begin 0 (call.Glimpse 0)) ∷
    client 12 0 (peek 2 (cookie 1 1) 7) ∷
    gone

pub peeked_before : Breaks peeked_before_past
unfolding position_of below_of stripe_of offset_of greatest_end
peeked_before = says_no (decide peeked_before_past) refl

-- the holder answers only after it was told
abbrev pub peeked_after_past : Past
peeked_after_past =
    client 14 0 (peek 2 (cookie 1 1) 7) ∷
    client 13 1 (entry.Told 0 (turn 13 (Client 1)) (told.Sizes (7 ∷ []))) ∷
    client 12 1 (entry.Begin 0 (call.Glimpse 0)) ∷
    gone

pub peeked_after : Breaks peeked_after_past
unfolding position_of below_of stripe_of offset_of greatest_end
peeked_after = says_no (decide peeked_after_past) refl

-- its lock is on another object
abbrev pub peeked_on_another_past : Past
peeked_on_another_past =
    client 14 1 (entry.Told 0 (turn 14 (Client 1)) (told.Sizes (7 ∷ []))) ∷
    client 13 0 (peek 2 (cookie 1 2) 7) ∷
    client 12 1 (entry.Begin 0 (call.Glimpse 0)) ∷
    gone

pub peeked_on_another : Breaks peeked_on_another_past
unfolding position_of below_of stripe_of offset_of greatest_end
peeked_on_another = says_no (decide peeked_on_another_past) refl

-- its lock was never granted
abbrev pub peeked_under_no_lock_past : Past
peeked_under_no_lock_past =
    client 14 1 (entry.Told 0 (turn 14 (Client 1)) (told.Sizes (7 ∷ []))) ∷
    client 13 0 (peek 2 (cookie 1 3) 7) ∷
    client 12 1 (entry.Begin 0 (call.Glimpse 0)) ∷
    gone

pub peeked_under_no_lock : Breaks peeked_under_no_lock_past
unfolding position_of below_of stripe_of offset_of greatest_end
peeked_under_no_lock = says_no (decide peeked_under_no_lock_past) refl

-- its lock is one of another target
abbrev pub peeked_at_another_target_past : Past
peeked_at_another_target_past =
    client 14 1 (entry.Told 0 (turn 14 (Client 1)) (told.Sizes (7 ∷ []))) ∷
    client 13 0 (peek 1 (cookie 1 1) 7) ∷
    client 12 1 (entry.Begin 0 (call.Glimpse 0)) ∷
    gone

pub peeked_at_another_target : Breaks peeked_at_another_target_past
unfolding position_of below_of stripe_of offset_of greatest_end
peeked_at_another_target = says_no (decide peeked_at_another_target_past) refl

-- the holder isn't gone
abbrev pub peeked_while_it_stays_past : Past
peeked_while_it_stays_past =
    client 14 1 (entry.Told 0 (turn 14 (Client 1)) (told.Sizes (7 ∷ []))) ∷
    client 13 0 (peek 2 (cookie 1 1) 7) ∷
    client 12 1 (entry.Begin 0 (call.Glimpse 0)) ∷
    target 11 2 (entry.Grant (lock (cookie 1 1) (life 0 1) (object 1 1 0) PW (Range (onward 0)))) ∷
    written

pub peeked_while_it_stays : Breaks peeked_while_it_stays_past
unfolding position_of below_of stripe_of offset_of greatest_end
peeked_while_it_stays = says_no (decide peeked_while_it_stays_past) refl

-- the holder is evicted only after it answered
abbrev pub peeked_before_it_was_gone_past : Past
peeked_before_it_was_gone_past =
    client 15 1 (entry.Told 0 (turn 15 (Client 1)) (told.Sizes (7 ∷ []))) ∷
    target 14 1 (entry.Evict (life 0 1) Expired) ∷
    client 13 0 (peek 2 (cookie 1 1) 7) ∷
    client 12 1 (entry.Begin 0 (call.Glimpse 0)) ∷
    target 11 2 (entry.Grant (lock (cookie 1 1) (life 0 1) (object 1 1 0) PW (Range (onward 0)))) ∷
    written

pub peeked_before_it_was_gone : Breaks peeked_before_it_was_gone_past
unfolding position_of below_of stripe_of offset_of greatest_end
peeked_before_it_was_gone = says_no (decide peeked_before_it_was_gone_past) refl

-- the next life of the client answers
abbrev pub peeked_by_its_next_life_past : Past
peeked_by_its_next_life_past =
    client 15 1 (entry.Told 0 (turn 15 (Client 1)) (told.Sizes (7 ∷ []))) ∷
    client 14 0 (peek 2 (cookie 1 1) 7) ∷
    client 13 1 (entry.Begin 0 (call.Glimpse 0)) ∷
    client 12 0 (entry.Life (life 0 2)) ∷
    gone

pub peeked_by_its_next_life : Breaks peeked_by_its_next_life_past
unfolding position_of below_of stripe_of offset_of greatest_end
peeked_by_its_next_life = says_no (decide peeked_by_its_next_life_past) refl

-- a holder that is gone answered so
abbrev pub peeked_by_the_gone_past : Past
peeked_by_the_gone_past =
    client 14 1 (entry.Told 0 (turn 14 (Client 1)) (told.Sizes (7 ∷ []))) ∷
    client 13 0 (peek 2 (cookie 1 1) 7) ∷
    client 12 1 (entry.Begin 0 (call.Glimpse 0)) ∷
    gone

pub peeked_by_the_gone : Keeps peeked_by_the_gone_past
unfolding position_of below_of stripe_of offset_of greatest_end
peeked_by_the_gone = says_yes (decide peeked_by_the_gone_past) refl
