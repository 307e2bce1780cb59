-- What is known of what lives handed in at one target, and that it shows the messages that it took since its last boot.
use Rattle.std.specs.Prelude.{◌≡◌, ℕ, ◌+◌, Bool, false, not, ◌==◌, ◌&&◌, nat_le, nat_lt, Option, Some, None, List, reverse, map}
use Rattle.std.specs.List.{list_any}
use Rattle.std.specs.HashMap.{get_by}
use Rattle.std.specs.HashSet.{contains_by}
use Rattle.lu_base.specs.declared.ids.Who.{Who}
use Rattle.lu_msg.specs.declared.messages.Message.{Message}
use Rattle.lu_msg.specs.declared.messages.Message.TheVariants.{Replay, Lock, Word, Join}
use Rattle.lu_msg.specs.declared.messages.RequestReplay.{RequestReplay}
use Rattle.lu_msg.specs.declared.messages.LockReplay.{LockReplay}
use Rattle.lu_spec_machine.specs.Tree.{same_life}
use Rattle.lu_spec_laws.specs.Words.Handed.{replays, locks, replay_count, lock_count, has_all, is_newer}
use Rattle.lu_judge_windows.specs.declared.handed.Handed.{Handed}
use Rattle.lu_judge_windows.specs.Counted.{has_member, count_of, is_within}

-- ---- words that name a count exactly and another up to a bound

abbrev pub names_replays : ℕ → Who → ℕ → ℕ → Message → Bool
names_replays b who k bound (Word other known replays locks seen) =
    (same_life other who && known == b) && (replays == k && nat_le locks bound)
names_replays b who k bound _ = false

abbrev pub names_locks : ℕ → Who → ℕ → ℕ → Message → Bool
names_locks b who k bound (Word other known replays locks seen) =
    (same_life other who && known == b) && (locks == k && nat_le replays bound)
names_locks b who k bound _ = false

-- ---- what the table holds

abbrev pub is_back_in : Handed → Who → Bool
is_back_in t who = contains_by (λ k. who.client == k.0 && who.life == k.1) t.back

abbrev pub is_older : ℕ → Option ℕ → Bool
is_older life None = false
is_older life (Some newest) = nat_lt life newest

abbrev pub has_newer_in : Handed → Who → Bool
has_newer_in t who = is_older who.life (get_by (λ k. who.client == k) t.newest)

-- the message, taken next in this boot, is one by which the life has handed in all
abbrev pub completes_in : Handed → ℕ → Message → Who → Bool
completes_in t b (Replay r) who =
    (r.boot == b && same_life r.who who) && (not (has_member t.replays who r.txn.0)
    && is_within t.by_replays who (count_of t.replays who + 1) (count_of t.cookies who))
completes_in t b (Lock r) who =
    (r.boot == b && same_life r.who who) && (not (has_member t.cookies who r.cookie.0)
    && is_within t.by_locks who (count_of t.cookies who + 1) (count_of t.replays who))
completes_in t b (Word other known replays locks seen) who =
    (known == b && same_life other who) && (nat_le replays (count_of t.replays who) && nat_le locks (count_of t.cookies who))
completes_in t b (Join other known) who = known == b && same_life other who
completes_in t b _ who = false

-- in this boot the target took these messages, the last one first
pub record ShowsHanded (t : Handed) (b : ℕ) (handed : List Message) : Type 0 where
  pub replayed : (who : Who) (n : ℕ) → has_member t.replays who n
      ≡ list_any (λ (r : RequestReplay). same_life r.who who && r.txn.0 == n) (replays b handed)
  pub replayed_count : (who : Who) → count_of t.replays who ≡ replay_count b who handed
  pub cookies : (who : Who) (n : ℕ) → has_member t.cookies who n
      ≡ list_any (λ (r : LockReplay). same_life r.who who && r.cookie.0 == n) (locks b handed)
  pub cookie_count : (who : Who) → count_of t.cookies who ≡ lock_count b who handed
  pub listed : reverse (map (λ r. r.now) t.locks.items) ≡ locks b handed
  pub by_replays : (who : Who) (k bound : ℕ) → is_within t.by_replays who k bound ≡ list_any (names_replays b who k bound) handed
  pub by_locks : (who : Who) (k bound : ℕ) → is_within t.by_locks who k bound ≡ list_any (names_locks b who k bound) handed
  pub back : (who : Who) → is_back_in t who ≡ has_all b who handed
  pub newer : (who : Who) → has_newer_in t who ≡ list_any (is_newer b who) handed
