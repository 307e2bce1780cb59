-- Requests on the object, and answers to them, in the words of the theory.
use Rattle.std.specs.Prelude.{ℕ, ◌+◌, ◌-◌, ◌%◌, ◌&&◌, if◌then◌else◌, Bool, List, [], ◌∷◌, length, drop, Option, Some, None, nat_eq}
use Rattle.lu_base.specs.declared.locks.Extent.{Extent}
use Rattle.lu_base.specs.declared.locks.Resource.{Resource}
use Rattle.lu_held.specs.Locks.{same_resource}
use Rattle.lu_spec_machine.specs.Objects.{page_size}
use Rattle.lu_msg.specs.declared.answers.Answer.{Answer as TableAnswer}
use Rattle.lu_msg.specs.declared.answers.Answer.TheVariants as told
use Rattle.lu_msg.specs.declared.messages.Reply.{Reply as ReplyTo}
use Rattle.lu_msg.specs.declared.operations.Op.{Op as TableOp}
use Rattle.lu_msg.specs.declared.operations.Op.TheVariants as op
use Rattle.lu_spec_target.specs.Windows.{has_number}
use Rattle.lu_spec_client.specs.Messages.{padded, part_first, part_count}
use Rattle.lu_proof_bytes.specs.Object.Words.{Lock, Write, Cut, Op, Enqueue, Get, Flush, Size, Request, Answer, Granted, Waiting, Content}
use Rattle.lu_proof_bytes.specs.Object.Words.{Done, Sized, Uncovered, Entry, Flies}
use Rattle.lu_proof_objects.specs.Points.{is_write, last_of}
use Rattle.lu_proof_lawful.specs.Projection.Locks.{range_of, given}

-- ---- requests

-- a page is read as far as the lock goes that the request names; of a lock that was never granted, nothing
abbrev pub get_under : ℕ → ℕ → Option Lock → Op
get_under k page None = Get k 0 0
get_under k page (Some l) = Get k (part_first page (range_of l)) (part_count page (range_of l))

-- what an operation is in the story of this object; none, if it is on another, or on names
abbrev pub op_on : Resource → Resource → Op → Option Op
op_on r q o = if same_resource q r then Some o else None

abbrev pub op_of : Resource → List Entry → TableOp → Option Op
op_of r h (op.Enqueue q mode extent) = op_on r q (Enqueue (is_write mode) extent.first (last_of extent.last))
op_of r h (op.Get q cookie page) = op_on r q (get_under cookie.0 page (given cookie.0 h))
op_of r h (op.Put q cookie at bytes) = op_on r q (Flush cookie.0 (Write at bytes))
op_of r h (op.Cut q cookie n) = op_on r q (Flush cookie.0 (Cut n))
op_of r h (op.Size q) = op_on r q Size
op_of r h _ = None

-- the request of that number of a life, if the story has it: the numbers of a life at a target go to all its objects
abbrev pub asked_as : ℕ → ℕ → List Entry → Option Request
asked_as c x [] = None
asked_as c x (Flies q ∷ h) = if nat_eq c q.life && nat_eq x q.xid then Some q else asked_as c x h
asked_as c x (_ ∷ h) = asked_as c x h

-- ---- answers

-- the transactions whose numbers stand in a list
abbrev pub among : List ℕ → ℕ → Bool
among numbers n = has_number n numbers

-- the lock that a request for one is granted: in the mode that was asked for, on the range that the answer tells
abbrev pub granted_as : ℕ → ℕ → Bool → Extent → Lock
granted_as k c write extent = record { cookie = k; life = c; write = write; first = extent.first; last = last_of extent.last }

-- A page's bytes begin with the page and end with the last that is there under the lock. Of the positions that were asked for each has a
-- byte then, 0 where there was none, and the last one told is shown
abbrev pub bytes_from : ℕ → ℕ → List ℕ → List ℕ
bytes_from at n bytes = padded (drop (at % page_size) bytes) n

abbrev pub top_from : ℕ → List ℕ → Option ℕ
top_from at [] = None
top_from at (b ∷ bytes) = Some (at - at % page_size + length bytes)

-- what a reply to a life's operation answers; an answer that doesn't fit it is none of the theory's, and no row gives one
abbrev pub answer_by : ℕ → ReplyTo → Op → TableAnswer → Answer
answer_by c p (Enqueue write first last) (told.Granted cookie extent size) =
    Granted (granted_as cookie.0 c write extent) size (among p.seen)
answer_by c p (Enqueue write first last) (told.Waiting cookie) = Waiting cookie.0
answer_by c p (Get k at n) (told.Content bytes) = Content (bytes_from at n bytes) (top_from at bytes) (among p.seen)
answer_by c p (Flush k change) told.Done = Done p.txn.0
answer_by c p Size (told.Size size) = Sized (Some size)
answer_by c p Size told.Lock = Sized None
answer_by c p o a = Uncovered

abbrev pub answer_of : Request → ReplyTo → Answer
answer_of q p = answer_by q.life p q.op p.answer
