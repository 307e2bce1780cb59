-- Which numbers a call on bytes has, and what is known of its locks at all times.
use Rattle.std.specs.Prelude.{◌≡◌, ℕ, ◌+◌, ◌<◌, ◌≤◌, ◌^◌, Bool, true, false, All, length, slice_index}
use Rattle.lu_base.specs.declared.ids.Fid.{Fid}
use Rattle.lu_layout.specs.Raid0.{Raid0}
use Rattle.lu_layout.specs.Sound.{IsLayout}
use Rattle.lu_lock.specs.Overlap.{IsRange}
use Rattle.lu_msg.specs.declared.calls.Call.{Call}
use Rattle.lu_msg.specs.declared.calls.Call.TheVariants as call
use Rattle.lu_held.specs.declared.locks.Use.{Use}
use Rattle.lu_spec_entries.specs.declared.uses.Using.{Using}
use Rattle.lu_spec_entries.specs.Carried.{Kind, Narrow, Wide, Writes, Cuts, Stats, Glimpses, Work, Stage, Looks, Enqueued, Waits, Came}
use Rattle.lu_spec_entries.specs.Carried.{Forgotten, Gets, Sizes}
use Rattle.lu_spec_client.specs.Stripes.{object}

-- ---- numbers

-- Bytes of a file that are read or written together: 1 to 65,536, and they end at or below 2^40.
pub record IsSpan (p n : ℕ) : Type 0 where
  pub some : 0 < n
  pub few : n ≤ 65536
  pub ends : p + n ≤ 2 ^ 40

-- no file is longer than 2^40
abbrev pub IsInRange : Kind → Type 0
IsInRange (Narrow p n) = IsSpan p n
IsInRange (Wide p n) = IsSpan p n
IsInRange (Writes p bs) = IsSpan p (length bs)
IsInRange (Cuts n) = n ≤ 2 ^ 40
IsInRange (Stats mode links) = Unit {0}
IsInRange (Glimpses sizes) = Unit {0}

-- the same of what a user asks for
abbrev pub IsCall : Call → Type 0
IsCall (call.Read h p n) = IsSpan p n
IsCall (call.Write h p bs) = IsSpan p (length bs)
IsCall (call.Cut h n) = n ≤ 2 ^ 40
IsCall _ = Unit {0}

-- ---- locks

-- A lock that is wanted is on the object of one of the file's stripes, of that object's target, and its range is in order.
pub record IsWant (fid : Fid) (l : Raid0) (u : Use) : Type 0 where
  pub stripe : u.resource.stripe < length l.targets
  pub object : u.resource ≡ object fid u.resource.stripe
  pub target : u.target.0 ≡ slice_index l.targets u.resource.stripe
  pub range : IsRange u.policy

abbrev pub IsUsing : Fid → Raid0 → Using → Type 0
IsUsing fid l u = IsWant fid l u.want

-- ---- a call on bytes

-- Its numbers are in range, and it wants and uses locks on the stripes of a layout.
pub record IsWork (w : Work) : Type 0 where
  pub kind : IsInRange w.kind
  pub layout : IsLayout w.layout
  pub used : All (IsUsing w.fid w.layout) w.used
  pub left : All (IsWant w.fid w.layout) w.left

abbrev pub is_glimpse : Kind → Bool
is_glimpse (Glimpses sizes) = true
is_glimpse _ = false

-- it reads, writes, cuts or tells a size: it uses locks, and acts once it has all
pub record IsActing (w : Work) : Type 0 where
  pub work : IsWork w
  pub kind : is_glimpse w.kind ≡ false

-- it still wants a lock
pub record IsWanting (w : Work) : Type 0 where
  pub work : IsWork w
  pub some : 0 < length w.left

-- it looks for its locks; a glimpse does so for one that is left
pub record IsLooking (w : Work) : Type 0 where
  pub work : IsWork w
  pub some : is_glimpse w.kind ≡ true → 0 < length w.left

-- it asks for the sizes of objects
pub record IsSizing (w : Work) : Type 0 where
  pub wanting : IsWanting w
  pub kind : is_glimpse w.kind ≡ true

-- ---- a call in its stage

abbrev pub IsStage : Stage → Type 0
IsStage (Looks w) = IsLooking w
IsStage (Enqueued w) = IsWanting w
IsStage (Waits w target l marked) = IsWanting w
IsStage (Came w l) = IsWanting w
IsStage (Forgotten w) = IsWanting w
IsStage (Gets w) = IsActing w
IsStage (Sizes w) = IsSizing w
IsStage _ = Unit {0}

-- What always holds of a call: its numbers are in range, and so is what it carries along.
pub record IsSound (c : Call) (s : Stage) : Type 0 where
  pub call : IsCall c
  pub stage : IsStage s
