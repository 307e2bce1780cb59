-- Glimpses, which ask how long an object is (Wang et al., Understanding Lustre Filesystem Internals, the lock manager:
-- glimpse callbacks; which lock is asked is this project's profile). Where no write lock is granted, the target answers.
-- Else it looks at the write lock of greatest start: past its end the target answers; a lock to the end has its holder asked;
-- in each other case the asker is told to take a lock.
use Rattle.std.specs.Prelude.{ℕ, nat_lt, ◌==◌, ◌&&◌, if◌then◌else◌, List, [], ◌∷◌, ◌++◌, filter, Option, Some, None}
use Rattle.lu_base.specs.declared.ids.At.{At}
use Rattle.lu_base.specs.declared.ids.Node.TheVariants.{Client}
use Rattle.lu_base.specs.declared.locks.Lock.{Lock}
use Rattle.lu_base.specs.declared.locks.Mode.TheVariants.{PW}
use Rattle.lu_base.specs.declared.locks.Resource.{Resource}
use Rattle.lu_lock.specs.Growth.{the_end}
use Rattle.lu_lock.specs.Modes.{serves}
use Rattle.lu_spec_machine.specs.Objects.{object_touches}
use Rattle.lu_msg.specs.declared.answers.Answer.{Answer}
use Rattle.lu_msg.specs.declared.answers.Answer.TheVariants as told
use Rattle.lu_msg.specs.declared.messages.Message.TheVariants as message
use Rattle.lu_msg.specs.declared.messages.Request.{Request as RequestOf}
use Rattle.lu_msg.specs.declared.messages.SizeReport.{SizeReport}
use Rattle.lu_spec_entries.specs.Carried.{Deed, Glimpse}
use Rattle.lu_spec_entries.specs.Words.{Entry, Act, Answers, Asks, Ends, same_life}
use Rattle.lu_spec_target.specs.States.{Target}
use Rattle.lu_spec_target.specs.Replies.{seen_in, none, reply_to, deed_of, replies, to_life}
use Rattle.lu_spec_target.specs.Queues.{size_of, extent_of}

-- an answer to an operation on objects that makes no transaction: it saw what touches it now
abbrev pub answered : Target → At → RequestOf → Answer → Deed
answered v at r answer = deed_of r [] (reply_to v r none (seen_in (object_touches r.op answer) v.log) at [] answer)

-- the target gives the size itself
abbrev pub row_sizes : Deed → List Entry
row_sizes d = Act d ∷ replies d ∷ []

-- an answer of which no entry is printed
abbrev pub row_answers : Deed → List Entry
row_answers d = Answers d ∷ replies d ∷ []

abbrev pub row_locked : Target → At → RequestOf → List Entry
row_locked v at r = row_answers (answered v at r told.Lock)

-- ---- the granted write lock of greatest start

abbrev pub higher : Lock → Option Lock → Option Lock
higher l None = Some l
higher l (Some k) = if nat_lt (extent_of k).first (extent_of l).first then Some l else Some k

abbrev pub highest : List Lock → Option Lock
highest [] = None
highest (l ∷ locks) = if serves l.ask.mode PW then higher l (highest locks) else highest locks

-- ---- the request

abbrev pub ask_of : Target → Lock → RequestOf → Entry
ask_of v l r = to_life l.ask.who (message.Ask l.ask.who v.boot l.cookie r.who r.xid)

abbrev pub row_asks : Target → RequestOf → Resource → Lock → List Entry
row_asks v r resource l = Asks (record { cookie = l.cookie; resource = resource; request = r }) ∷ ask_of v l r ∷ []

abbrev pub row_size : Target → At → RequestOf → Resource → Option Lock → List Entry
row_size v at r resource None = row_sizes (answered v at r (told.Size (size_of v resource)))
row_size v at r resource (Some l) =
    if (extent_of l).last == the_end
    then row_asks v r resource l
    else (if nat_lt (extent_of l).last (size_of v resource) then row_sizes (answered v at r (told.Size (size_of v resource)))
    else row_locked v at r)

-- ---- what the holder says, while it is asked; the answer's turn is then the holder's

abbrev pub asked_for : SizeReport → List Glimpse → Option Glimpse
asked_for m [] = None
asked_for m (g ∷ gs) =
    if g.cookie.0 == m.cookie.0 && (same_life g.request.who m.for_who && g.request.xid.0 == m.xid.0) then Some g else asked_for m gs

abbrev pub by_holder : SizeReport → At
by_holder m = record { stamp = m.stamp; node = Client m.who.client }

abbrev pub row_holder : Target → At → SizeReport → Glimpse → Option ℕ → List Entry
row_holder v at m g None = Ends g ∷ row_locked v at g.request
row_holder v at m g (Some size) = Ends g ∷ row_answers (answered v (by_holder m) g.request (told.Size size))

abbrev pub row_report : Target → At → SizeReport → Option Glimpse → List Entry
row_report v at m None = []
row_report v at m (Some g) = row_holder v at m g m.size

-- ---- a lock was released: those for whom its holder was asked are told to take a lock, in the order in which they asked

abbrev pub glimpses_of : Lock → List Glimpse → List Glimpse
glimpses_of l gs = filter (λ g. g.cookie.0 == l.cookie.0) gs

abbrev pub glimpses_end : At → List Glimpse → Target → List Entry
glimpses_end at [] v = []
glimpses_end at (g ∷ gs) v = Ends g ∷ row_locked v at g.request ++ glimpses_end at gs v
