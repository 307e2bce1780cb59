-- What a call on bytes looks at in what the client knows: sizes, missing pages, bytes, and whether a read has reached
-- its end.
use Rattle.std.specs.Prelude.{ℕ, zero, suc, ◌+◌, ◌-◌, ◌/◌, min, nat_lt, nat_le, ◌==◌, ◌&&◌, ◌||◌, not, if◌then◌else◌, Bool, false, List, []}
use Rattle.std.specs.Prelude.{◌∷◌, map, Option, Some, None, is_some}
use Rattle.std.specs.List.{list_any}
use Rattle.std.specs.Option.{unwrap_or}
use Rattle.lu_base.specs.declared.locks.Lock.{Lock}
use Rattle.lu_base.specs.declared.locks.Resource.{Resource}
use Rattle.lu_base.specs.declared.ids.Fid.{Fid}
use Rattle.lu_layout.specs.Raid0.{Raid0, stripe_of, offset_of, file_size_of}
use Rattle.lu_held.specs.declared.locks.HeldLock.{HeldLock}
use Rattle.lu_held.specs.declared.locks.Wanted.TheVariants.{Holding}
use Rattle.lu_held.specs.Locks.{reaches_end}
use Rattle.lu_held.specs.Held.{those}
use Rattle.lu_spec_entries.specs.declared.changes.Dirty.{Dirty}
use Rattle.lu_spec_machine.specs.Places.{Places, found_at}
use Rattle.lu_spec_client.specs.Bytes.{Bytes, page_size}
use Rattle.lu_spec_client.specs.Patches.{size_over, reads_at}
use Rattle.lu_spec_client.specs.Stripes.{below_on, object}
use Rattle.lu_spec_entries.specs.declared.uses.Using.{Using}
use Rattle.lu_spec_client.specs.Caches.{noted, patch_at, bytes_at}
use Rattle.lu_spec_client.specs.States.{Store}

-- the object's size under a lock that reaches the end, with the client's own changes over it
abbrev pub size_under : Lock → Store → ℕ
size_under l s = size_over (unwrap_or (noted l.resource l.cookie s.sizes) 0) (patch_at l.resource s.patches)

-- ---- missing pages

-- a byte is there where it is known or dirty
abbrev pub is_there : Bytes → Places Dirty → ℕ → Bool
is_there known dirty p = is_some (found_at known p) || is_some (found_at dirty p)

-- the first of so many offsets that isn't there
abbrev pub first_missing : Bytes → Places Dirty → ℕ → ℕ → Option ℕ
first_missing known dirty p zero = None
first_missing known dirty p (suc n) = if is_there known dirty p then first_missing known dirty (p + 1) n else Some p

-- past the object's size nothing is missing, where the lock reaches the end
abbrev pub end_under : Lock → ℕ → Store → ℕ
end_under l end s = if reaches_end l.ask.policy then min end (size_under l s) else end

abbrev pub missing_under : Lock → ℕ → ℕ → Store → Option ℕ
missing_under l first end s = first_missing (bytes_at l.resource s.bytes) (patch_at l.resource s.patches).dirty first
    (end_under l end s - first)

-- A page to be fetched, under the lock in use.
pub record Page : Type 0 where
  pub under : Using
  pub page : ℕ

-- the first missing page of positions p up to the end, in order of stripes
abbrev pub missing : Raid0 → ℕ → ℕ → Store → List Using → Option Page
missing l p end s [] = None
missing l p end s (u ∷ us) =
    elim (missing_under u.lock (below_on l u.want.resource.stripe p) (below_on l u.want.resource.stripe end) s) [
      | None ↦ missing l p end s us
      | Some offset ↦ Some (record { under = u; page = offset / page_size })
    ]

-- ---- bytes as they are told

-- the client's own changes lie over what is known; what is neither is 0
abbrev pub byte_on : Resource → ℕ → Store → ℕ
byte_on r offset s = unwrap_or (reads_at (patch_at r s.patches) offset (found_at (bytes_at r s.bytes) offset)) 0

abbrev pub byte_of : Raid0 → Fid → ℕ → Store → ℕ
byte_of l fid p s = byte_on (object fid (stripe_of l p)) (offset_of l p) s

abbrev pub content : Raid0 → Fid → Store → ℕ → ℕ → List ℕ
content l fid s p zero = []
content l fid s p (suc n) = byte_of l fid p s ∷ content l fid s (p + 1) n

-- ---- the file's size

-- the size of a stripe's object: none is known of a stripe without a lock, whose positions lie before the read
abbrev pub size_on : ℕ → List Using → Store → ℕ
size_on stripe [] s = 0
size_on stripe (u ∷ us) s = if u.want.resource.stripe == stripe then size_under u.lock s else size_on stripe us s

abbrev pub file_size : Raid0 → List ℕ → List Using → Store → ℕ
file_size l stripes us s = file_size_of l (map (λ i. size_on i us s) stripes)

-- ---- whether a narrow read has reached

-- at or past this offset a byte was shown
abbrev pub reaches : ℕ → Option ℕ → Bool
reaches q None = false
reaches q (Some last) = nat_le q last

abbrev pub shown_under : ℕ → Store → Lock → Bool
shown_under q s l = reaches q (noted l.resource l.cookie s.shown)

-- under another lock that covers the offset, doesn't reach the end and isn't called back
abbrev pub shown_elsewhere : ℕ → Store → List HeldLock → Bool
shown_elsewhere q s held = list_any (λ h. not (reaches_end h.lock.ask.policy) && shown_under q s h.lock) held

abbrev pub reached_under : ℕ → Using → Store → Bool
reached_under q u s =
    if reaches_end u.lock.ask.policy then nat_lt q (size_under u.lock s)
    else shown_under q s u.lock || shown_elsewhere q s (those (Holding u.want.target u.want.resource q) s.held)

-- the read of positions up to e has reached, by the lock in use on the stripe of e
abbrev pub has_reached : Raid0 → ℕ → List Using → Store → Bool
has_reached l e [] s = false
has_reached l e (u ∷ us) s = if u.want.resource.stripe == stripe_of l e then reached_under (offset_of l e) u s else has_reached l e us s
