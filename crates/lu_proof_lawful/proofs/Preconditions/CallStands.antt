-- How a client's calls stand between the lines of its turns. A call at rest waits for a reply, for a lock, or, a flush, until nothing of
-- its
-- file is left to write back; a close waits for other calls on its open. Others move: one that looks for its locks, and a close that may be
-- free. What a call on bytes wants and has in use is what the call says.
use Rattle.std.proofs.Common.{◌≡◌, ℕ, ◌<◌, Bool, true, false, List, [], ◌∷◌, ◌++◌, ◌⊎◌, inl, inr, Option, Some, None}
use Rattle.std.specs.Prelude.{nat_lt, length, drop}
use Rattle.lu_base.specs.declared.ids.TargetId.{TargetId}
use Rattle.lu_base.specs.declared.ids.Who.{Who}
use Rattle.lu_base.specs.declared.locks.Lock.{Lock}
use Rattle.lu_base.specs.declared.locks.Resource.{Resource}
use Rattle.lu_msg.specs.declared.answers.Answer.{Answer}
use Rattle.lu_msg.specs.declared.answers.Answer.TheVariants as answer
use Rattle.lu_msg.specs.declared.calls.Call.TheVariants as call
use Rattle.lu_msg.specs.declared.operations.Op.{Op}
use Rattle.lu_held.specs.declared.locks.HeldLock.{HeldLock}
use Rattle.lu_held.specs.declared.locks.Use.{Use}
use Rattle.lu_spec_entries.specs.declared.uses.Using.{Using}
use Rattle.lu_spec_entries.specs.Carried.{HandleFile, Stats, Glimpses, Work, Asking, Unasked, Asked, Answered, Plain, Bad, Looks, Enqueued}
use Rattle.lu_spec_entries.specs.Carried.{Waits, Came, Forgotten, Gets, Flushing, Sizes, Running}
use Rattle.lu_spec_entries.specs.Words.{Line}
use Rattle.lu_spec_client.specs.Advances.{name_under}
use Rattle.lu_spec_client.specs.Caches.{patch_at, held_at, patches_at}
use Rattle.lu_spec_client.specs.Messages.{waiting_lock}
use Rattle.lu_spec_client.specs.Patches.{Patch}
use Rattle.lu_spec_client.specs.Starts.{count_on}
use Rattle.lu_spec_client.specs.Stripes.{stripes, object}
use Rattle.lu_spec_client.specs.Wants.{wants_of}
use Rattle.lu_proof_lawful.specs.Covered.Calls.{call_at, calls_at, life_at, becomes}
use Rattle.lu_proof_lawful.proofs.Preconditions.Guards.{HasRange, In, IsGlimpse, IsFlush, ReadsOn, ChangesOn, InOrder, wanted_by, HasChange}
use Rattle.lu_proof_lawful.proofs.Preconditions.Guards.{came_marked}

-- ---- the work of a call on bytes

-- a stat of a file, which goes on for the size
pub record StatsOn (r : Running) (work : Work) : Type 0 where
  pub path : List (List ℕ)
  pub stats : r.call ≡ call.Stat path
  pub good : r.stage ≡ Bad → ⊥
  pub mode : ℕ
  pub links : ℕ
  pub kind : work.kind ≡ Stats mode links

-- it has locks in use, each of which it pinned, on object storage targets; the others are left, in the order of stripes
pub record OnBytes (r : Running) (work : Work) : Type 0 where
  pub does : ReadsOn r work ⊎ StatsOn r work ⊎ ChangesOn r work
  pub order : InOrder (wanted_by work) work
  pub mine : (u : Using) → In u work.used → In (name_under u.want u.lock) r.pins
  pub objects : (u : Using) → In u work.used → 0 < u.want.target.0

-- a glimpse has one size of each object before those that are left, and pins nothing
pub record OnSizes (r : Running) (work : Work) : Type 0 where
  pub handle : ℕ
  pub glimpses : IsGlimpse r handle
  pub file : HandleFile
  pub of_file : r.file ≡ Some file
  pub sizes : List ℕ
  pub kind : work.kind ≡ Glimpses sizes
  pub fid : work.fid ≡ file.fid
  pub layout : work.layout ≡ file.layout
  pub before : List Use
  pub all : wants_of file.layout file.fid (Glimpses []) ≡ before ++ work.left
  pub each : length before ≡ length sizes
  pub nothing : r.pins ≡ []

abbrev pub Works : Running → Work → Type 0
Works r work = OnBytes r work ⊎ OnSizes r work

-- it wants the lock on the first of the objects that are left
pub record Wanting (r : Running) (work : Work) : Type 0 where
  pub works : Works r work
  pub wanted : Use
  pub left : List Use
  pub first : work.left ≡ wanted ∷ left

-- ---- a call at rest

-- a call on names that asked, and has pinned nothing
pub record Naming (r : Running) : Type 0 where
  pub nothing : r.pins ≡ []
  pub asked : r.asking ≡ Asked
  pub plain : r.stage ≡ Plain
  pub names : (o : Op) × (becomes r ≡ Some o)

-- an answer that makes a glimpse go no further
abbrev pub TellsNothing : Answer → Type 0
TellsNothing (answer.Size size) = ⊥
TellsNothing answer.Lock = ⊥
TellsNothing a = Unit {0}

abbrev pub IsUnheard : Asking → Type 0
IsUnheard (Answered t reply) = TellsNothing reply.answer
IsUnheard asking = ⊥

-- a glimpse that asks how long the first of the objects that are left is
pub record Sizing (r : Running) : Type 0 where
  pub work : Work
  pub stage : r.stage ≡ Sizes work
  pub sized : OnSizes r work
  pub wanted : Use
  pub left : List Use
  pub first : work.left ≡ wanted ∷ left

-- it waits for the answer, or on where that was no size
pub record AwaitsSize (r : Running) : Type 0 where
  pub sizing : Sizing r
  pub waits : (r.asking ≡ Asked) ⊎ IsUnheard r.asking

-- a call on bytes that asked for a lock: it waits on where no lock comes
pub record Locking (r : Running) : Type 0 where
  pub work : Work
  pub stage : r.stage ≡ Enqueued work
  pub wanting : Wanting r work

-- it was told to wait for that lock; who: the life of the client
pub record Waiting (who : Who) (r : Running) : Type 0 where
  pub work : Work
  pub target : TargetId
  pub lock : Lock
  pub marked : Bool
  pub stage : r.stage ≡ Waits work target lock marked
  pub still : r.asking ≡ Asked → ⊥
  pub wanting : Wanting r work
  pub of_target : target ≡ wanting.wanted.target
  pub of_lock : lock ≡ waiting_lock who lock.cookie wanting.wanted
  pub object : 0 < target.0

-- the target of that lock has forgotten it
pub record Forgetting (r : Running) : Type 0 where
  pub work : Work
  pub stage : r.stage ≡ Forgotten work
  pub still : r.asking ≡ Asked → ⊥
  pub wanting : Wanting r work

-- a read that fetches a page, with all its locks in use
pub record Getting (r : Running) : Type 0 where
  pub work : Work
  pub stage : r.stage ≡ Gets work
  pub reads : ReadsOn r work
  pub bytes : OnBytes r work
  pub all : work.left ≡ []

-- a flush that waits while the object of a stripe has a change, or one is under way
pub record Flushes (patches : List (Resource × Patch)) (r : Running) : Type 0 where
  pub handle : ℕ
  pub flushes : IsFlush r handle
  pub file : HandleFile
  pub of_file : r.file ≡ Some file
  pub new : r.asking ≡ Unasked
  pub nothing : r.pins ≡ []
  pub stripe : ℕ
  pub stage : r.stage ≡ Flushing stripe
  pub more : List ℕ
  pub rest : drop stripe (stripes file.layout) ≡ stripe ∷ more
  pub dirty : HasChange (patch_at (object file.fid stripe) patches)

-- a flush that looks at that stripe's object and those after it
pub record FlushesOn (r : Running) : Type 0 where
  pub handle : ℕ
  pub flushes : IsFlush r handle
  pub file : HandleFile
  pub of_file : r.file ≡ Some file
  pub new : r.asking ≡ Unasked
  pub nothing : r.pins ≡ []
  pub stripe : ℕ
  pub stage : r.stage ≡ Flushing stripe
  pub more : List ℕ
  pub rest : drop stripe (stripes file.layout) ≡ stripe ∷ more

pub flushes_on : (patches : List (Resource × Patch)) (r : Running) → Flushes patches r → FlushesOn r
flushes_on patches r f =
    record {
      handle = f.handle;
      flushes = f.flushes;
      file = f.file;
      of_file = f.of_file;
      new = f.new;
      nothing = f.nothing;
      stripe =
          f.stripe;
      stage = f.stage;
      more = f.more;
      rest = f.rest;
    }

-- nothing but a message moves it
abbrev pub HasAsked : Who → Running → Type 0
HasAsked who r = Naming r ⊎ AwaitsSize r ⊎ Locking r ⊎ Waiting who r ⊎ Forgetting r ⊎ Getting r

abbrev pub Resting : Who → List (Resource × Patch) → Running → Type 0
Resting who patches r = HasAsked who r ⊎ Flushes patches r

-- ---- a call that waits for others, or may move

-- a close that has asked nothing yet: it waits for other calls on its open, or is free
pub record Closing (r : Running) : Type 0 where
  pub handle : ℕ
  pub closes : r.call ≡ call.Close handle
  pub file : HandleFile
  pub of_file : r.file ≡ Some file
  pub plain : r.stage ≡ Plain
  pub new : r.asking ≡ Unasked
  pub pins : r.pins ≡ []

-- it waits for others
pub record WaitsToClose (calls : List (Option Running)) (r : Running) : Type 0 where
  pub closing : Closing r
  pub others : nat_lt 1 (count_on closing.file.number.0 calls) ≡ true

-- a call that looks for its locks
pub record Looking (r : Running) : Type 0 where
  pub work : Work
  pub stage : r.stage ≡ Looks work
  pub still : r.asking ≡ Asked → ⊥
  pub works : Works r work
  pub some : OnSizes r work → (wanted : Use) × (left : List Use) × (work.left ≡ wanted ∷ left)

-- ---- on a slot

-- among these calls, one that nothing moves but a message, or the end of another one
abbrev pub Idle : Who → List (Resource × Patch) → List (Option Running) → Option Running → Type 0
Idle who patches calls None = Unit {0}
Idle who patches calls (Some r) = Resting who patches r ⊎ WaitsToClose calls r

abbrev pub IdleAt : ℕ → List Line → ℕ → Type 0
IdleAt c past slot = Idle (life_at c past) (patches_at c past) (calls_at c past) (call_at c slot past)

abbrev pub AllIdle : ℕ → List Line → Type 0
AllIdle c past = (slot : ℕ) → IdleAt c past slot

-- one that was visited in a pass over the slots: it is at rest, or a close that may be free
abbrev pub Still : Who → List (Resource × Patch) → Option Running → Type 0
Still who patches None = Unit {0}
Still who patches (Some r) = Resting who patches r ⊎ Closing r

-- one that may be visited: it looks for its locks as well
abbrev pub Calm : Who → List (Resource × Patch) → Option Running → Type 0
Calm who patches None = Unit {0}
Calm who patches (Some r) = Resting who patches r ⊎ Closing r ⊎ Looking r

abbrev pub CalmAt : ℕ → List Line → ℕ → Type 0
CalmAt c past slot = Calm (life_at c past) (patches_at c past) (call_at c slot past)

-- the same whatever was written back: a flush may go on as well
abbrev pub Movable : Who → Option Running → Type 0
Movable who None = Unit {0}
Movable who (Some r) = HasAsked who r ⊎ FlushesOn r ⊎ Closing r ⊎ Looking r

pub calm_moves : (who : Who) (patches : List (Resource × Patch)) (x : Option Running) → Calm who patches x → Movable who x
calm_moves who patches None i = tt
calm_moves who patches (Some r) (inl (inl a)) = inl a
calm_moves who patches (Some r) (inl (inr f)) = inr (inl (flushes_on patches r f))
calm_moves who patches (Some r) (inr w) = inr (inr w)

pub idle_moves : (who : Who) (patches : List (Resource × Patch)) (calls : List (Option Running)) (x : Option Running)
    → Idle who patches calls x → Movable who x
idle_moves who patches calls None i = tt
idle_moves who patches calls (Some r) (inl (inl a)) = inl a
idle_moves who patches calls (Some r) (inl (inr f)) = inr (inl (flushes_on patches r f))
idle_moves who patches calls (Some r) (inr w) = inr (inr (inl w.closing))

pub idle_still : (who : Who) (patches : List (Resource × Patch)) (calls : List (Option Running)) (x : Option Running)
    → Idle who patches calls x → Still who patches x
idle_still who patches calls None i = tt
idle_still who patches calls (Some r) (inl rest) = inl rest
idle_still who patches calls (Some r) (inr w) = inr w.closing

pub still_moves : (who : Who) (patches : List (Resource × Patch)) (x : Option Running) → Still who patches x → Movable who x
still_moves who patches None i = tt
still_moves who patches (Some r) (inl (inl a)) = inl a
still_moves who patches (Some r) (inl (inr f)) = inr (inl (flushes_on patches r f))
still_moves who patches (Some r) (inr w) = inr (inr (inl w))

pub still_calm : (who : Who) (patches : List (Resource × Patch)) (x : Option Running) → Still who patches x → Calm who patches x
still_calm who patches None i = tt
still_calm who patches (Some r) (inl rest) = inl rest
still_calm who patches (Some r) (inr w) = inr (inl w)

-- ---- a lock came

-- a call to which the lock came that it asked for: it is held, and isn't marked but where it came so
pub record Coming (c : ℕ) (p : List Line) (r : Running) : Type 0 where
  pub work : Work
  pub lock : Lock
  pub stage : r.stage ≡ Came work lock
  pub still : r.asking ≡ Asked → ⊥
  pub wanting : Wanting r work
  pub object : 0 < wanting.wanted.target.0
  pub holding : HeldLock
  pub held : In holding (held_at c p)
  pub of_target : holding.target.0 ≡ wanting.wanted.target.0
  pub is : holding.lock ≡ lock
  pub of_object : lock.resource ≡ wanting.wanted.resource
  pub ranged : HasRange lock.ask.policy
  pub how : (holding.marked ≡ false) ⊎ (came_marked c (name_under wanting.wanted lock) p ≡ true)

-- ---- changes that last

-- each object that had a change, or one under way, has it still
abbrev pub Lasts : List (Resource × Patch) → List (Resource × Patch) → Type 0
Lasts old new = (r : Resource) → HasChange (patch_at r old) → HasChange (patch_at r new)

pub flushes_last : (old new : List (Resource × Patch)) (r : Running) → Lasts old new → Flushes old r → Flushes new r
flushes_last old new r lasts f =
    record {
      handle = f.handle;
      flushes = f.flushes;
      file = f.file;
      of_file = f.of_file;
      new = f.new;
      nothing = f.nothing;
      stripe = f.stripe;
      stage = f.stage;
      more = f.more;
      rest = f.rest;
      dirty = lasts (object f.file.fid f.stripe) f.dirty;
    }

pub resting_lasts : (who : Who) (old new : List (Resource × Patch)) (r : Running) → Lasts old new → Resting who old r → Resting who new r
resting_lasts who old new r lasts (inl a) = inl a
resting_lasts who old new r lasts (inr f) = inr (flushes_last old new r lasts f)

pub still_lasts : (who : Who) (old new : List (Resource × Patch)) (x : Option Running) → Lasts old new → Still who old x → Still who new x
still_lasts who old new None lasts i = tt
still_lasts who old new (Some r) lasts (inl rest) = inl (resting_lasts who old new r lasts rest)
still_lasts who old new (Some r) lasts (inr w) = inr w

pub calm_lasts : (who : Who) (old new : List (Resource × Patch)) (x : Option Running) → Lasts old new → Calm who old x → Calm who new x
calm_lasts who old new None lasts i = tt
calm_lasts who old new (Some r) lasts (inl rest) = inl (resting_lasts who old new r lasts rest)
calm_lasts who old new (Some r) lasts (inr w) = inr w

pub idle_lasts : (who : Who) (old new : List (Resource × Patch)) (calls : List (Option Running)) (x : Option Running) → Lasts old new
    → Idle who old calls x → Idle who new calls x
idle_lasts who old new calls None lasts i = tt
idle_lasts who old new calls (Some r) lasts (inl rest) = inl (resting_lasts who old new r lasts rest)
idle_lasts who old new calls (Some r) lasts (inr w) = inr w
