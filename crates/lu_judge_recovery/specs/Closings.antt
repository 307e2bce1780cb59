-- What closes decide, and that tables show it.
use Rattle.std.specs.Prelude.{◌≡◌, ℕ, ◌<◌, Bool, true, false, ◌==◌, ◌&&◌, ◌||◌, if◌then◌else◌, Option, Some, None, List}
use Rattle.std.specs.Bool.{then_some}
use Rattle.std.specs.List.{list_any}
use Rattle.std.specs.HashMap.{get_by}
use Rattle.std.specs.HashSet.{contains_by}
use Rattle.lu_base.specs.declared.ids.At.{At}
use Rattle.lu_base.specs.declared.ids.Who.{Who}
use Rattle.lu_base.specs.declared.locks.Cause.{Cause}
use Rattle.lu_base.specs.declared.locks.Cause.TheVariants.{Absent}
use Rattle.lu_base.specs.declared.locks.Lock.{Lock as LockOf}
use Rattle.lu_trace.specs.declared.entries.Entry.{Entry}
use Rattle.lu_trace.specs.declared.entries.Entry.TheVariants.{Close as Closes, Kept, Restore, Evict}
use Rattle.lu_trace.specs.declared.entries.Line.{Line}
use Rattle.lu_spec_machine.specs.Tree.{same_life}
use Rattle.lu_spec_laws.specs.Words.Pasts.{Past, same_turn, newest}
use Rattle.lu_spec_laws.specs.Words.Slots.{slots}
use Rattle.lu_spec_laws.specs.Words.Lost.{is_among}
use Rattle.lu_spec_laws.specs.Words.Closes.{lost_at, kept_at, cause_at, restored_at, find_lock, is_lock, last_kept, last_evicted}
use Rattle.lu_spec_laws.specs.Words.Closes.{has_restored, closes_in, decided}
use Rattle.lu_judge_pass.specs.Ledgers.{ShowsLedger}
use Rattle.lu_judge_windows.specs.Windows.{ShowsWindows}
use Rattle.lu_judge_recovery.specs.Failing.{is_failing}
use Rattle.lu_judge_recovery.specs.Turns.{turn_at}
use Rattle.lu_judge_recovery.specs.declared.closing.Causes.{Causes}
use Rattle.lu_judge_recovery.specs.declared.closing.Close.{Close}
use Rattle.lu_judge_recovery.specs.declared.closing.Restored.{Restored}
use Rattle.lu_judge_recovery.specs.declared.closings.Closing.{Closing}
use Rattle.lu_judge_recovery.specs.declared.closings.Closings.{Closings}
use Rattle.lu_judge_recovery.specs.declared.failing.Failing.{Failing}

-- ---- a close of a target after the past

pub record KnowsClose (c : Close) (t : ℕ) (past : Past) : Type 0 where
  pub target : c.target ≡ t
  pub windows : ShowsWindows c.windows.now past
  pub ledger : ShowsLedger c.ledger.now past
  pub lost : c.lost ≡ lost_at t past

abbrev pub cause_among : Causes → Who → Option (Option Cause)
cause_among c who = get_by (λ k. who.client == k.0 && who.life == k.1) c.by_life

-- the life is one of these
abbrev pub is_listed : List Who → Who → Bool
is_listed lives who = list_any (λ (w : Who). same_life w who) lives

abbrev pub AreCauses : Causes → List Who → ℕ → Past → Type 0
AreCauses c lives t past =
    (who : Who) → cause_among c who ≡ (if is_listed lives who then Some (cause_at t past who) else None)

abbrev pub cause_or_absent : Option (Option Cause) → Option Cause
cause_or_absent None = Some Absent
cause_or_absent (Some cause) = cause

abbrev pub lock_among : Restored → Who → ℕ → Option LockOf
lock_among r who cookie = get_by (λ k. (who.client == k.0.0 && who.life == k.0.1) && cookie == k.1) r.by_life

-- ---- what it decided

abbrev pub keeps_in : Closing → ℕ → Bool
keeps_in c n = contains_by (λ k. n == k) c.kept

abbrev pub cause_in : Closing → Who → Option Cause
cause_in c who = cause_or_absent (cause_among c.causes who)

abbrev pub lock_in : Closing → Who → ℕ → Option LockOf
lock_in c who cookie = lock_among c.locks who cookie

abbrev pub has_restored_in : Closing → Who → ℕ → Bool
has_restored_in c who cookie =
    contains_by (λ k. (who.client == k.0.0 && who.life == k.0.1) && cookie == k.1) c.restored

-- what a close after the past decides, where the trace has so many clients
pub record Decides (c : Closing) (clients t : ℕ) (past : Past) : Type 0 where
  pub kept : (n : ℕ) → keeps_in c n ≡ is_among (kept_at t past) n
  pub causes : AreCauses c.causes (slots clients t past) t past
  pub locks : (who : Who) (cookie : ℕ) → lock_in c who cookie ≡ find_lock who cookie (restored_at t past)

-- ---- the lines after it

abbrev pub follows : Entry → Bool
follows (Kept number) = true
follows (Evict who cause) = true
follows (Restore lock) = true
follows _ = false

abbrev pub kept_after : Entry → ℕ → ℕ
kept_after (Kept number) old = number.0
kept_after _ old = old

abbrev pub evicted_after : Entry → Option Who → Option Who
evicted_after (Evict who cause) old = Some who
evicted_after _ old = old

abbrev pub restored_after : Who → ℕ → Entry → Bool → Bool
restored_after who cookie (Restore lock) old = if is_lock who cookie lock then true else old
restored_after who cookie _ old = old

pub record Noted (old new : Closing) (e : Entry) : Type 0 where
  pub kept : new.kept ≡ old.kept
  pub causes : new.causes ≡ old.causes
  pub locks : new.locks ≡ old.locks
  pub last_kept : new.last_kept ≡ kept_after e old.last_kept
  pub last_evicted : new.last_evicted ≡ evicted_after e old.last_evicted
  pub restored : (who : Who) (cookie : ℕ) → has_restored_in new who cookie ≡ restored_after who cookie e (has_restored_in old who cookie)

-- what the lines of the turn say since its last close
pub record Since (c : Closing) (at : At) (past : Past) : Type 0 where
  pub kept : c.last_kept ≡ last_kept at past
  pub evicted : c.last_evicted ≡ last_evicted at past
  pub restored : (who : Who) (cookie : ℕ) → has_restored_in c who cookie ≡ has_restored at who cookie past

-- ---- the closes of turns

abbrev pub closing_of : Closings → ℕ → ℕ → Option Closing
closing_of c s t = get_by (λ k. s == k.0 && t == k.1) c.by_turn

-- the lines before the last close of the turn
abbrev pub before_close : At → Past → Option Past
before_close at past = newest (closes_in (λ before. before) at) past

-- a close of the turn before which these lines stood
pub record FitsClose (c : Closing) (clients t : ℕ) (at : At) (before past : Past) : Type 0 where
  pub decides : Decides c clients t before
  pub since : Since c at past

abbrev pub Fits : Option Closing → ℕ → ℕ → At → Option Past → Past → Type 0
Fits None clients t at None past = Unit {0}
Fits None clients t at (Some before) past = ⊥
Fits (Some c) clients t at None past = ⊥
Fits (Some c) clients t at (Some before) past = FitsClose c clients t at before past

-- in each turn in which the disk doesn't fail
abbrev pub ShowsClosings : Closings → Failing → ℕ → Past → Type 0
ShowsClosings c failing clients past =
    (s t : ℕ) → is_failing failing s t ≡ false
    → Fits (closing_of c s t) clients t (turn_at s t) (before_close (turn_at s t) past) past

-- the lines before the last close of the turn, where the disk doesn't fail in it
abbrev pub before_decided : At → Past → List Line → Option Past
before_decided at past later = decided (λ before. before) at past later

-- this is what the last close of the turn decided, where the disk doesn't fail in it
abbrev pub FitsDecided : Option Closing → ℕ → ℕ → At → Past → List Line → Type 0
FitsDecided c clients t at past later = Fits c clients t at (before_decided at past later) past

-- the number is one that the close keeps, above the last one; without a close any
abbrev pub KeptBy : Option Closing → ℕ → Type 0
KeptBy None n = Unit {0}
KeptBy (Some c) n = (keeps_in c n ≡ true) × (c.last_kept < n)
