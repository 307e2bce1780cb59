-- A target that goes down: the state after its crash stands on its disk.
use Rattle.std.proofs.Common.{◌≡◌, ℕ, ◌==◌, ◌<◌, ◌≤◌, List, [], ◌∷◌, Option, Some, None, refl, sym, ap, subst, ◌∙◌, arith}
use Rattle.lu_msg.specs.declared.commits.Batch.{Batch}
use Rattle.lu_service.specs.declared.services.Kind.{Kind}
use Rattle.lu_service.specs.declared.services.Kind.TheVariants.{Mdt, Ost}
use Rattle.lu_service.specs.Contents.{Contents}
use Rattle.lu_spec_entries.specs.Words.{Entry, Crash}
use Rattle.lu_spec_target.specs.States.{Target, after, turn}
use Rattle.lu_target_server.specs.Journals.{ShowsDisk}
use Rattle.lu_target_server.specs.Lives.{OfClients}
use Rattle.lu_target_server.proofs.Slots.{never}
use Rattle.lu_target_server.specs.Windows.{State}
use Rattle.lu_target_server.specs.Shown.{AllRepeatable}
use Rattle.lu_target_server.specs.Sound.{IsKindOf}
use Rattle.lu_target_server.specs.declared.booting.Place.{Place}
use Rattle.lu_target_server.specs.Booting.{IsStart}
use Rattle.lu_target_server.specs.Servers.{ServerState}
use Rattle.lu_target.specs.Running.{RunningState, IsOf, IsIn}
use Rattle.lu_target.specs.Repeating.{IsLeft, IsNextOf, MayBoot}

-- ---- its setting and its kind stay

pub setting_stays : (es : List Entry) (v : Target) → (turn v es).setting ≡ v.setting
setting_stays [] v = refl
setting_stays (e ∷ es) v = setting_stays es (after v e)

one_kind : (id : ℕ) (a b : Kind) → IsKindOf id a → IsKindOf id b → a ≡ b
one_kind id Mdt Mdt one two = refl
one_kind id Mdt Ost one two = absurd (never (sym (ap (λ (n : ℕ). n == 0) one) ∙ two))
one_kind id Ost Mdt one two = absurd (never (sym (ap (λ (n : ℕ). n == 0) two) ∙ one))
one_kind id Ost Ost one two = refl

abbrev IsSetTo : ServerState → Target → Type 0
IsSetTo s v = (v.setting.id ≡ s.id) × (v.setting.expire ≡ s.expire) × IsKindOf s.id s.kind

set_to : (t : RunningState) (v : Target) → IsIn t v → IsSetTo t.server v
set_to t v it = by t.window it where
  by : (o : Option State) → IsOf t.server o v → IsSetTo t.server v
  by None shows = (shows.id, shows.expire, shows.kind)
  by (Some w) shows = (shows.gathers.id, shows.gathers.expire, shows.gathers.kind)

pub kind_in : (t : RunningState) (v : Target) → IsIn t v → IsKindOf v.setting.id t.server.kind
kind_in t v it =
    let set = set_to t v it in
    subst (λ (id : ℕ). IsKindOf id t.server.kind) (sym set.0) set.2

-- no other kind is that of its number
pub same_kind : (t : RunningState) (v : Target) (kind : Kind) → IsIn t v → IsKindOf v.setting.id kind → t.server.kind ≡ kind
same_kind t v kind it is = one_kind v.setting.id t.server.kind kind (kind_in t v it) is

pub kind_stays : (old new : RunningState) (v : Target) (es : List Entry) → IsIn old v → IsIn new (turn v es) → new.server.kind
    ≡ old.server.kind
kind_stays old new v es one two =
    one_kind v.setting.id new.server.kind old.server.kind
    (subst (λ s. IsKindOf s.id new.server.kind) (setting_stays es v) (kind_in new (turn v es) two))
    (kind_in old v one)

-- ---- it goes down

abbrev StoodIn : List Batch → Target → Type 0
StoodIn batches v = ShowsDisk batches v × (v.closed ≤ v.boot) × OfClients v.lives

same_le : (m n : ℕ) → m ≡ n → m ≤ n
same_le m n is = omega (arith, is)

less_le : (m n : ℕ) → m < n → m ≤ n
less_le m n less = omega (arith, less)

stood_in : (t : RunningState) (v : Target) → IsIn t v → StoodIn t.server.store.batches v
stood_in t v it = by t.window it where
  by : (o : Option State) → IsOf t.server o v → StoodIn t.server.store.batches v
  by None shows = (shows.store.disk, same_le v.closed v.boot shows.sound.serving, shows.sound.clients)
  by (Some w) recovers =
      let gathers = recovers.gathers in
      (gathers.store.disk, less_le v.closed v.boot gathers.sound.recovering, gathers.sound.clients)

crashed : (batches : List Batch) (v : Target) → ShowsDisk batches v → ShowsDisk batches (after v Crash)
crashed batches v disk = record {
  disk = disk.disk;
  boot = disk.boot;
  committed = disk.committed;
  lives = disk.lives;
  over = disk.over;
  rising = disk.rising;
  below = disk.below;
  replies = disk.replies;
}

pub left_by : (t : RunningState) (v : Target) (kind : Kind) → IsIn t v → AllRepeatable kind t.server.store.batches
    → IsLeft kind t.server.store.batches (after v Crash)
left_by t v kind it repeatable =
    let stood = stood_in t v it in
    record { disk = crashed t.server.store.batches v stood.0; closed = stood.1; clients = stood.2; repeatable = repeatable }

-- ---- it may boot again

-- with a new service for the setting of its run
pub may_boot_left : (place : Place) (kind : Kind) (own : Contents) (batches : List Batch) (v : Target) → IsLeft kind batches v
    → IsStart place kind own v.setting
    → MayBoot place kind own batches v
may_boot_left place kind own batches v left start = record {
  stands = record { start = start; disk = left.disk; closed = left.closed; clients = left.clients };
  repeatable = left.repeatable;
}

-- one of the place and the kind that the target had
pub starts_again : (place : Place) (kind : Kind) (own : Contents) (t : RunningState) (v : Target) → IsIn t v → IsNextOf place kind own t v
    → IsStart place kind own v.setting
starts_again place kind own t v it next =
    let set = set_to t v it in
    record {
      id = set.0 ∙ sym next.id;
      sort = subst (λ (id : ℕ). IsKindOf id kind) (sym next.id) (subst (IsKindOf t.server.id) (sym next.sort) set.2);
      expire = set.1 ∙ sym next.expire;
      contents = next.contents;
    }
