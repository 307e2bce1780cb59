-- When a client's call may be told, a lock pinned, and what a call owes that has just begun or makes its changes. What a call on bytes is
-- told
-- is said in the words of the rows, over what its client holds and knows just before.
use Rattle.std.proofs.Common.{◌≡◌, ℕ, ◌+◌, ◌-◌, ◌<◌, true, false, List, [], ◌∷◌, Option, Some, None, ◌⊎◌}
use Rattle.std.specs.Prelude.{map, drop, min}
use Rattle.lu_base.specs.declared.ids.At.{At}
use Rattle.lu_base.specs.declared.ids.Fid.{Fid}
use Rattle.lu_base.specs.declared.locks.Lock.{Lock}
use Rattle.lu_base.specs.declared.locks.Resource.{Resource}
use Rattle.lu_msg.specs.declared.answers.Answer.{Answer}
use Rattle.lu_msg.specs.declared.answers.Answer.TheVariants as answer
use Rattle.lu_msg.specs.declared.answers.Errno.TheVariants.{EBADF, EIO}
use Rattle.lu_msg.specs.declared.calls.Call.{Call}
use Rattle.lu_msg.specs.declared.calls.Call.TheVariants as call
use Rattle.lu_msg.specs.declared.messages.Reply.{Reply as ReplyTo}
use Rattle.lu_msg.specs.declared.operations.Op.{Op}
use Rattle.lu_held.specs.declared.locks.HeldLock.{HeldLock}
use Rattle.lu_held.specs.declared.locks.Use.{Use}
use Rattle.lu_held.specs.declared.names.LockName.{LockName}
use Rattle.lu_held.specs.Locks.{is_named}
use Rattle.lu_spec_entries.specs.Carried.{HandleFile, Flight, Unasked, Asked, Answered, Narrow, Wide, Stats, Work, Stage, Plain, Bad, Came}
use Rattle.lu_spec_entries.specs.Carried.{Flushing, Running}
use Rattle.lu_spec_entries.specs.declared.uses.Using.{Using}
use Rattle.lu_spec_entries.specs.Words.{Entry, Queues, Stands, Told, Pins, Unpins, Changes, WritesBack, Fills, Shows, Line, with_turn}
use Rattle.lu_spec_client.specs.Advances.{name_under}
use Rattle.lu_spec_client.specs.Caches.{patch_at, held_at, patches_at}
use Rattle.lu_spec_client.specs.Looks.{missing, content, file_size, has_reached}
use Rattle.lu_spec_client.specs.Patches.{Patch, in_flight}
use Rattle.lu_spec_client.specs.States.{Store, store_at}
use Rattle.lu_spec_client.specs.Stripes.{stripes, object}
use Rattle.lu_spec_client.specs.WriteBack.{is_clean}
use Rattle.lu_proof_lawful.specs.Covered.Calls.{begun, call_at, becomes, told_as, life_at}
use Rattle.lu_proof_lawful.specs.Covered.Known.{notes_at, known_answer}
use Rattle.lu_proof_lawful.proofs.Preconditions.Heard.{In, JustHeard, Learned, Noticed}
use Rattle.lu_proof_lawful.proofs.Preconditions.CallGuards.{IsFlush, ReadsOn, ChangesOn, wanted_by, pieces_of, NotChanging, came_marked}
use Rattle.lu_proof_lawful.proofs.Preconditions.CallGuards.{HasSizes, StatOf, HadLock, UsesHeld}

-- ---- a call is told

-- a stat of a file isn't told what the reply says: its size is asked for first
abbrev pub IsToldAsIs : Call → Answer → Type 0
IsToldAsIs (call.Stat path) (answer.FileStat fid mode links layout) = ⊥
IsToldAsIs c a = Unit {0}

-- of a call on names whose request was answered in this turn
pub record ToldOk (past : List Line) (at : At) (c slot : ℕ) (turn : At) (answer : Answer) (work : Option Work) : Type 0 where
  pub running : Running
  pub call : call_at c slot past ≡ Some running
  pub good : running.stage ≡ Plain
  pub names : (o : Op) × (becomes running ≡ Some o)
  pub target : ℕ
  pub reply : ReplyTo
  pub answered : running.asking ≡ Answered target reply
  pub heard : JustHeard past at target reply
  pub flight : Flight
  pub serves : flight.slot ≡ Some slot
  pub learned : Learned past at target flight reply
  pub of_turn : turn ≡ reply.at
  pub of_answer : answer ≡ told_as running.call reply.answer
  pub as_is : IsToldAsIs running.call answer
  pub plain : work ≡ None

-- of a call that began in this turn, whose answer is known
pub record KnownOk (past : List Line) (at : At) (c slot : ℕ) (turn : At) (answer : Answer) (work : Option Work) : Type 0 where
  pub running : Running
  pub call : call_at c slot past ≡ Some running
  pub new : running.asking ≡ Unasked
  pub begun : running.at ≡ at
  pub known : known_answer (notes_at c past) running.call ≡ Some answer
  pub of_turn : turn ≡ at
  pub plain : work ≡ None

-- of a call that began in this turn on a bad handle
pub record BadOk (past : List Line) (at : At) (c slot : ℕ) (turn : At) (told : Answer) (work : Option Work) : Type 0 where
  pub running : Running
  pub call : call_at c slot past ≡ Some running
  pub bad : running.stage ≡ Bad
  pub begun : running.at ≡ at
  pub of_turn : turn ≡ at
  pub of_answer : told ≡ answer.Refused EBADF
  pub plain : work ≡ None

-- of a glimpse that has one size of each object of its file; it acts in this turn
pub record SizesToldOk (past : List Line) (at : At) (c slot : ℕ) (turn : At) (told : Answer) (work : Option Work) : Type 0 where
  pub running : Running
  pub call : call_at c slot past ≡ Some running
  pub still : running.asking ≡ Asked → ⊥
  pub sizes : List ℕ
  pub before : List Use
  pub has : HasSizes past at running sizes before []
  pub of_turn : turn ≡ at
  pub of_answer : told ≡ answer.Sizes sizes
  pub plain : work ≡ None

-- what a read is told: its bytes as the client takes them, where none of them is missing. A narrow one that has reached is told all that it
-- asked for, one that asked to the end those up to the file's size
abbrev pub ReadTells : Store → Work → (offset count : ℕ) → Answer → Type 0
ReadTells s w p n told =
    (missing w.layout p (p + n) s w.used ≡ None)
    × (((w.kind ≡ Narrow p n) × (has_reached w.layout (p + n - 1) w.used s ≡ true) × (told ≡ answer.Content (content w.layout w.fid s p n)))
    ⊎ ((w.kind ≡ Wide p n) × (told ≡ answer.Content (content w.layout w.fid s p
    (min n (file_size w.layout (stripes w.layout) w.used s - p))))))

-- of a read that has all its locks in use, and had one on each object. It acts in this turn
pub record ReadToldOk (past : List Line) (at : At) (c slot : ℕ) (turn : At) (told : Answer) (work : Option Work) : Type 0 where
  pub running : Running
  pub call : call_at c slot past ≡ Some running
  pub still : running.asking ≡ Asked → ⊥
  pub done : Work
  pub of_work : work ≡ Some done
  pub does : ReadsOn running done
  pub wants : wanted_by done ≡ map (λ (u : Using). u.want) done.used
  pub locked : (wanted : Use) → In wanted (wanted_by done) → HadLock c slot wanted past
  pub uses : UsesHeld c past running done.used
  pub of_turn : turn ≡ at
  pub tells : ReadTells (store_at c past) done does.read.offset does.read.count told

-- of a stat of a file, the same: it is told the file's size. It acts in this turn
pub record StatToldOk (past : List Line) (at : At) (c slot : ℕ) (turn : At) (told : Answer) (work : Option Work) : Type 0 where
  pub running : Running
  pub call : call_at c slot past ≡ Some running
  pub still : running.asking ≡ Asked → ⊥
  pub pins : List LockName
  pub stat : StatOf past at c running pins
  pub done : Work
  pub of_work : work ≡ Some done
  pub kind : done.kind ≡ Stats stat.mode stat.links
  pub of_fid : done.fid ≡ stat.fid
  pub of_layout : done.layout ≡ stat.layout
  pub wants : wanted_by done ≡ map (λ (u : Using). u.want) done.used
  pub locked : (wanted : Use) → In wanted (wanted_by done) → HadLock c slot wanted past
  pub uses : UsesHeld c past running done.used
  pub of_turn : turn ≡ at
  pub of_answer : told ≡ answer.FileSize stat.fid stat.mode stat.links
      (file_size done.layout (stripes done.layout) done.used (store_at c past))

-- in the newest lines, all of that turn, the call has changed each of its objects
pub record MadeNow (past : List Line) (at : At) (work : Work) : Type 0 where
  pub before : List Line
  pub is : past ≡ with_turn at (pieces_of work.layout work.kind work.used) before
  pub fresh : NotChanging before

-- of a call that changes bytes, once it has made its changes, under locks in use. It acts in this turn
pub record WroteOk (past : List Line) (at : At) (c slot : ℕ) (turn : At) (told : Answer) (work : Option Work) : Type 0 where
  pub running : Running
  pub call : call_at c slot past ≡ Some running
  pub still : running.asking ≡ Asked → ⊥
  pub done : Work
  pub of_work : work ≡ Some done
  pub does : ChangesOn running done
  pub wants : wanted_by done ≡ map (λ (u : Using). u.want) done.used
  pub locked : (wanted : Use) → In wanted (wanted_by done) → HadLock c slot wanted past
  pub uses : UsesHeld c past running done.used
  pub made : MadeNow past at done
  pub of_turn : turn ≡ at
  pub of_answer : told ≡ answer.Done

-- of these objects the client has no change, and none is under way
abbrev pub AllClean : Fid → List ℕ → List (Resource × Patch) → Type 0
AllClean fid is patches = (i : ℕ) → In i is → (in_flight (patch_at (object fid i) patches) ≡ false)
    × (is_clean (patch_at (object fid i) patches) ≡ true)

-- it began in this turn, and looks at all of its file's objects; or it waited for one, and looks at that and those after it
abbrev pub FlushFrom : At → Running → ℕ → Type 0
FlushFrom at running from = ((running.stage ≡ Plain) × (running.asking ≡ Unasked) × (running.at ≡ at) × (from ≡ 0))
    ⊎ (running.stage ≡ Flushing from)

-- of a `flush`: nothing is left that it could write back
pub record FlushedOk (past : List Line) (at : At) (c slot : ℕ) (turn : At) (told : Answer) (work : Option Work) : Type 0 where
  pub running : Running
  pub call : call_at c slot past ≡ Some running
  pub still : running.asking ≡ Asked → ⊥
  pub handle : ℕ
  pub flushes : IsFlush running handle
  pub file : HandleFile
  pub of_file : running.file ≡ Some file
  pub from : ℕ
  pub goes : FlushFrom at running from
  pub clean : AllClean file.fid (drop from (stripes file.layout)) (patches_at c past)
  pub of_turn : turn ≡ at
  pub of_answer : told ≡ answer.Done
  pub plain : work ≡ None

-- of a call that its life doesn't outlive: this turn took the notice of its eviction
pub record EndsOk (past : List Line) (at : At) (c slot : ℕ) (turn : At) (told : Answer) (work : Option Work) : Type 0 where
  pub running : Running
  pub call : call_at c slot past ≡ Some running
  pub notice : Noticed past at (life_at c past)
  pub of_turn : turn ≡ at
  pub of_answer : told ≡ answer.Refused EIO
  pub plain : work ≡ None

abbrev pub TellsOk : List Line → At → (c slot : ℕ) → At → Answer → Option Work → Type 0
TellsOk past at c slot turn answer work =
    ToldOk past at c slot turn answer work
    ⊎ KnownOk past at c slot turn answer work
    ⊎ EndsOk past at c slot turn answer work
    ⊎ BadOk past at c slot turn answer work
    ⊎ SizesToldOk past at c slot turn answer work
    ⊎ FlushedOk past at c slot turn answer work
    ⊎ ReadToldOk past at c slot turn answer work
    ⊎ StatToldOk past at c slot turn answer work
    ⊎ WroteOk past at c slot turn answer work

-- ---- a lock is pinned

-- the call in a slot got the lock of that name, and uses it, also where it was called back meanwhile
pub record CamePins (past : List Line) (c : ℕ) (name : LockName) : Type 0 where
  pub slot : ℕ
  pub running : Running
  pub call : call_at c slot past ≡ Some running
  pub work : Work
  pub lock : Lock
  pub stage : running.stage ≡ Came work lock
  pub wanted : Use
  pub left : List Use
  pub first : work.left ≡ wanted ∷ left
  pub is : name ≡ name_under wanted lock
  pub object : 0 < wanted.target.0
  pub marked : came_marked c name past ≡ true

-- no held lock of that name is marked
abbrev pub IsUnmarked : List Line → ℕ → LockName → Type 0
IsUnmarked past c name = (h : HeldLock) → In h (held_at c past) → is_named name h ≡ true → h.marked ≡ false

abbrev pub PinsOk : List Line → ℕ → LockName → Type 0
PinsOk past c name = IsUnmarked past c name ⊎ CamePins past c name

-- ---- what is owed

-- a flush that waits stands so, or writes back: that may come between a call's begin and its first line
abbrev pub IsFlushing : Stage → Type 0
IsFlushing (Flushing stripe) = Unit {0}
IsFlushing _ = ⊥

abbrev pub OfFlush : Entry → Type 0
OfFlush (Stands slot running) = IsFlushing running.stage
OfFlush (WritesBack resource change) = Unit {0}
OfFlush (Queues t q) = q.slot ≡ None
OfFlush _ = ⊥

-- a read that has just begun looks for its locks: it pins those that it holds, and then asks for one or is told
abbrev pub StartsRead : ℕ → Entry → Type 0
StartsRead slot (Pins name) = Unit {0}
StartsRead slot (Unpins name) = Unit {0}
StartsRead slot (Stands s running) = s ≡ slot
StartsRead slot (Told s turn answer work) = s ≡ slot
StartsRead slot _ = ⊥

-- a call that has just begun asks or is told, in the same turn; one on a bad handle is told
abbrev pub Starts : ℕ → Stage → Entry → Type 0
Starts slot Bad (Told s turn answer work) = s ≡ slot
Starts slot Bad _ = ⊥
Starts slot stage (Pins name) = Unit {0}
Starts slot stage (Queues t q) = q.slot ≡ Some slot
Starts slot stage (Told s turn answer work) = s ≡ slot
Starts slot stage _ = ⊥

-- a stat asks, is told, or goes on for the size of its file
abbrev pub StartsStat : ℕ → Entry → Type 0
StartsStat slot (Stands s running) = s ≡ slot
StartsStat slot e = Starts slot Plain e

-- a call that has just begun; but a `close` may wait for other calls on its open, and what a `write`, a `cut`, a `flush` or a `glimpse`
-- does
-- next isn't told here
abbrev pub OwesBegun : (SameTurn : Type 0) → ℕ → Stage → Call → Entry → Type 0
OwesBegun SameTurn slot Bad c e = SameTurn × Starts slot Bad e
OwesBegun SameTurn slot stage (call.Close h) e = Unit {0}
OwesBegun SameTurn slot stage (call.Read h offset count) e = SameTurn × (StartsRead slot e ⊎ OfFlush e)
OwesBegun SameTurn slot stage (call.Write h offset bytes) e = Unit {0}
OwesBegun SameTurn slot stage (call.Cut h size) e = Unit {0}
OwesBegun SameTurn slot stage (call.Stat path) e = SameTurn × (StartsStat slot e ⊎ OfFlush e)
OwesBegun SameTurn slot stage (call.Flush h) e = Unit {0}
OwesBegun SameTurn slot stage (call.Glimpse h) e = Unit {0}
OwesBegun SameTurn slot stage c e = SameTurn × (Starts slot stage e ⊎ OfFlush e)

-- a call that makes its changes goes on until it is told that they are done; what a page brought is filled in
abbrev pub IsChanging : Entry → Type 0
IsChanging (Changes resource change) = Unit {0}
IsChanging (Shows resource cookie last) = Unit {0}
IsChanging (Told slot turn told (Some work)) = told ≡ answer.Done
IsChanging (Told slot turn told None) = ⊥
IsChanging _ = ⊥

abbrev pub IsShowing : Entry → Type 0
IsShowing (Changes resource change) = Unit {0}
IsShowing (Told slot turn told (Some work)) = told ≡ answer.Done
IsShowing (Told slot turn told None) = ⊥
IsShowing (Fills resource offset bytes) = Unit {0}
IsShowing _ = ⊥
