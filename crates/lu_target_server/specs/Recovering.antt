-- A target's parts together while it recovers, with what it has taken of the lives that come back.
use Rattle.std.specs.Prelude.{◌≡◌, ℕ, ◌<◌, ◌≤◌, max, nat_lt, ◌==◌, true, false, ⊤, List, [], ◌∷◌, map}
use Rattle.lu_base.specs.declared.ids.Who.{Who}
use Rattle.lu_base.specs.declared.locks.Lock.{Lock}
use Rattle.lu_lock.specs.Overlap.{IsOrdered}
use Rattle.lu_spec_machine.specs.Footprint.{Every}
use Rattle.lu_msg.specs.Limits.{tag_count}
use Rattle.lu_msg.specs.declared.messages.RequestReplay.{RequestReplay}
use Rattle.lu_service.specs.declared.services.Kind.{Kind}
pub use Rattle.lu_service.specs.Serving.{IsLockOf}
use Rattle.lu_spec_entries.specs.Words.{same_life}
use Rattle.lu_spec_target.specs.Phase.{first_of}
use Rattle.lu_spec_target.specs.Lives.{is_life}
use Rattle.lu_spec_target.specs.Windows.{Replayed, Window, all_settled}
use Rattle.lu_spec_target.specs.Kept.{replayed}
use Rattle.lu_spec_target.specs.Outcomes.{window_of}
use Rattle.lu_spec_target.specs.States.{Target}
use Rattle.lu_target_refines.specs.Contents.{transaction_again}
use Rattle.lu_target_refines.specs.Journals.{AreRising}
use Rattle.lu_target_refines.specs.Lives.{InOrder, OfClients}
use Rattle.lu_target_refines.specs.Windows.{ShowsWindow}
use Rattle.lu_window.specs.States.{State}
use Rattle.lu_target_store.specs.Stores as stores
use Rattle.lu_target_locks.specs.Servers.{ShowsCounts}
use Rattle.lu_target_redo.specs.Shown as redo
use Rattle.lu_target_redo.specs.Shown.{IsRepeatable}
use Rattle.lu_target_server.specs.Servers.{ServerState, IsKindOf}

-- ---- what may be taken of a life that comes back

-- a replay: its life has a slot, its number is of an earlier boot, its tag one that there is, and its operation one that the
-- service may perform again
pub record IsReplay (kind : Kind) (lives : List Who) (most : ℕ) (r : Replayed) : Type 0 where
  pub life : is_life r.who lives ≡ true
  pub earlier : r.number ≤ most
  pub tag : r.tag < tag_count
  pub repeatable : IsRepeatable kind r.op

-- a lock: its holder has a slot, its cookie is of an earlier boot, the ends of its range are in order, and it is one of
-- that kind of target
pub record IsBrought (kind : Kind) (lives : List Who) (most : ℕ) (l : Lock) : Type 0 where
  pub life : is_life l.ask.who lives ≡ true
  pub earlier : l.cookie.0 ≤ most
  pub ordered : IsOrdered l.ask.policy
  pub sort : IsLockOf kind l

-- no other life gave that number, or that cookie
abbrev pub IsOnlyReplay : Replayed → List Replayed → Type 0
IsOnlyReplay r replays = Every (λ (s : Replayed). (s.number == r.number) ≡ true → same_life s.who r.who ≡ true) replays

abbrev pub IsOnlyLock : Lock → List Lock → Type 0
IsOnlyLock l locks = Every (λ (k : Lock). (k.cookie.0 == l.cookie.0) ≡ true → same_life k.ask.who l.ask.who ≡ true) locks

-- A replay that may be taken in this boot, beside those that the window has; its number is above 1, which no boot has.
pub record MayReplay (r : RequestReplay) (s : ServerState) (window : Window) : Type 0 where
  pub is : IsReplay s.kind window.lives (first_of s.boot) (replayed r)
  pub late : 1 < r.txn.0
  pub only : IsOnlyReplay (replayed r) window.replays

-- and a lock that may
pub record MayBring (l : Lock) (s : ServerState) (window : Window) : Type 0 where
  pub is : IsBrought s.kind window.lives (first_of s.boot) l
  pub only : IsOnlyLock l window.brought

-- ---- what the rows' target keeps while it recovers

-- cookies rise
abbrev pub AreLater : Lock → List Lock → Type 0
AreLater l [] = ⊤
AreLater l (k ∷ locks) = (l.cookie.0 < k.cookie.0) × AreLater l locks

abbrev pub CookiesRise : List Lock → Type 0
CookiesRise [] = ⊤
CookiesRise (l ∷ locks) = AreLater l locks × CookiesRise locks

-- clients rise
abbrev pub AreBehind : Who → List Who → Type 0
AreBehind who [] = ⊤
AreBehind who (w ∷ wishes) = (nat_lt who.client w.client ≡ true) × AreBehind who wishes

abbrev pub ClientsRise : List Who → Type 0
ClientsRise [] = ⊤
ClientsRise (who ∷ wishes) = AreBehind who wishes × ClientsRise wishes

pub record IsAwaiting (kind : Kind) (v : Target) : Type 0 where
  pub up : v.up ≡ true
  pub recovering : v.closed < v.boot
  pub lives : InOrder v.lives
  pub clients : OfClients v.lives
  pub replays : Every (IsReplay kind v.lives (first_of v.boot)) v.replays
  pub rising : AreRising 1 (map {A = Replayed} transaction_again v.replays)
  pub brought : Every (IsBrought kind v.lives (first_of v.boot)) v.brought
  pub cookies : CookiesRise v.brought
  pub wishes : ClientsRise v.wishes

-- ---- it shows that state of the rows' target, while it recovers

-- the service has what stands on the disk; no request waits, no cookie was given; and the window is open
pub record Gathers (s : ServerState) (w : State) (v : Target) : Type 0 where
  pub id : v.setting.id ≡ s.id
  pub kind : IsKindOf s.id s.kind
  pub expire : v.setting.expire ≡ s.expire
  pub boot : v.boot ≡ s.boot
  pub store : stores.Recovers s.store v
  pub locks : ShowsCounts s.locks v
  pub first : v.cookie ≡ first_of v.boot
  pub contents : redo.Shows s.kind v.setting.osts (max 1 v.disk.committed) s.contents v.disk.contents
  pub requests : s.requests ≡ []
  pub window : ShowsWindow w.window v
  pub unclosed : w.closed ≡ false
  pub sound : IsAwaiting s.kind v

-- and between its turns somebody isn't back yet
pub record Recovers (s : ServerState) (w : State) (v : Target) : Type 0 where
  pub gathers : Gathers s w v
  pub awaits : all_settled (window_of v) v.lives ≡ false

-- it shows some state
abbrev pub Awaits : ServerState → State → Type 0
Awaits s w = (v : Target) × Recovers s w v

abbrev pub GathersSome : ServerState → State → Type 0
GathersSome s w = (v : Target) × Gathers s w v
