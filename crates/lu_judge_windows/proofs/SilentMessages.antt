-- Messages that change nothing of what is known of what lives handed in.
use Rattle.std.proofs.Common.{◌≡◌, ℕ, Bool, true, false, List, ◌∷◌, length, refl, ap, sym, ◌∙◌}
use Rattle.std.specs.Prelude.{◌==◌, ◌&&◌, ◌||◌, not, nat_le, nat_lt, if◌then◌else◌, filter}
use Rattle.std.specs.List.{list_any}
use Rattle.lu_base.specs.declared.ids.Who.{Who}
use Rattle.lu_msg.specs.declared.messages.Message.{Message}
use Rattle.lu_msg.specs.declared.messages.Message.TheVariants.{Replay, Lock, Word, Join}
use Rattle.lu_msg.specs.declared.messages.RequestReplay.{RequestReplay}
use Rattle.lu_msg.specs.declared.messages.LockReplay.{LockReplay}
use Rattle.lu_spec_machine.specs.Tree.{same_life}
use Rattle.lu_spec_laws.specs.Words.Handed.{replays, locks, is_replay_of, is_lock_of, replay_count, lock_count, is_word, has_all, is_newer}
use Rattle.lu_judge_windows.specs.declared.handed.Handed.{Handed}
use Rattle.lu_judge_windows.specs.Counted.{has_member}
use Rattle.lu_judge_windows.specs.Handed.{names_replays, names_locks, ShowsHanded}
use Rattle.lu_judge_windows.proofs.Tests.{any_same, eq_swap, eq_self, and_false}

-- ---- a message that changes nothing

pub record IsSilent (b : ℕ) (m : Message) (handed : List Message) : Type 0 where
  pub replayed : replays b (m ∷ handed) ≡ replays b handed
  pub listed : locks b (m ∷ handed) ≡ locks b handed
  pub word : (who : Who) (r l : ℕ) → is_word b who r l m ≡ false
  pub by_replays : (who : Who) (k bound : ℕ) → names_replays b who k bound m ≡ false
  pub by_locks : (who : Who) (k bound : ℕ) → names_locks b who k bound m ≡ false
  pub newer : (who : Who) → is_newer b who m ≡ false

module _ (t : Handed) (b : ℕ) (m : Message) (handed : List Message) (shown : ShowsHanded t b handed) (silent : IsSilent b m handed) where
  counted : (who : Who) → replay_count b who (m ∷ handed) ≡ replay_count b who handed
  counted who = ap (λ (xs : List RequestReplay). length (filter (λ (r : RequestReplay). same_life r.who who) xs)) silent.replayed

  counted_locks : (who : Who) → lock_count b who (m ∷ handed) ≡ lock_count b who handed
  counted_locks who = ap (λ (xs : List LockReplay). length (filter (λ (r : LockReplay). same_life r.who who) xs)) silent.listed

  pub silent_back : (who : Who) → has_all b who handed ≡ has_all b who (m ∷ handed)
  silent_back who =
      sym (ap (λ (x : Bool). x || list_any (is_word b who (replay_count b who (m ∷ handed)) (lock_count b who (m ∷ handed))) handed)
      (silent.word who (replay_count b who (m ∷ handed)) (lock_count b who (m ∷ handed)))
      ∙ ap (λ (r : ℕ). list_any (is_word b who r (lock_count b who (m ∷ handed))) handed) (counted who)
      ∙ ap (λ (l : ℕ). list_any (is_word b who (replay_count b who handed) l) handed) (counted_locks who))

  pub silent_shown : ShowsHanded t b (m ∷ handed)
  silent_shown = record {
    replayed = λ who n. shown.replayed who n ∙ ap (λ (xs : List RequestReplay). list_any
        (λ (r : RequestReplay). same_life r.who who && r.txn.0 == n) xs) (sym silent.replayed);
    replayed_count = λ who. shown.replayed_count who ∙ sym (counted who);
    cookies = λ who n. shown.cookies who n ∙ ap (λ (xs : List LockReplay). list_any
        (λ (r : LockReplay). same_life r.who who && r.cookie.0 == n) xs) (sym silent.listed);
    cookie_count = λ who. shown.cookie_count who ∙ sym (counted_locks who);
    listed = shown.listed ∙ sym silent.listed;
    by_replays = λ who k bound. shown.by_replays who k bound ∙ sym
        (ap (λ (x : Bool). x || list_any (names_replays b who k bound) handed) (silent.by_replays who k bound));
    by_locks = λ who k bound. shown.by_locks who k bound ∙ sym (ap (λ (x : Bool). x || list_any (names_locks b who k bound) handed)
        (silent.by_locks who k bound));
    back = λ who. shown.back who ∙ silent_back who;
    newer = λ who. shown.newer who ∙ sym (ap (λ (x : Bool). x || list_any (is_newer b who) handed) (silent.newer who));
  }

-- ---- silent messages: of other kinds, of other boots, and what was handed in before

pub other_boot_replay : (b : ℕ) (r : RequestReplay) (handed : List Message) → (r.boot == b) ≡ false → IsSilent b (Replay r) handed
other_boot_replay b r handed apart = record {
  replayed = ap (λ (same : Bool). if same && not (list_any (is_replay_of r) (replays b handed)) then r ∷ replays b handed
      else replays b handed) apart;
  listed = refl;
  word = λ who k l. refl;
  by_replays = λ who k bound. refl;
  by_locks = λ who k bound. refl;
  newer = λ who. refl;
}

pub other_boot_lock : (b : ℕ) (r : LockReplay) (handed : List Message) → (r.boot == b) ≡ false → IsSilent b (Lock r) handed
other_boot_lock b r handed apart = record {
  replayed = refl;
  listed = ap (λ (same : Bool). if same && not (list_any (is_lock_of r) (locks b handed)) then r ∷ locks b handed else locks b handed)
      apart;
  word = λ who k l. refl;
  by_replays = λ who k bound. refl;
  by_locks = λ who k bound. refl;
  newer = λ who. refl;
}

none_of : (s r l : Bool) → (((s && false) && r) && l) ≡ false
none_of true r l = refl
none_of false r l = refl

both_none : (s x : Bool) → ((s && false) && x) ≡ false
both_none true x = refl
both_none false x = refl

last_none : (s x : Bool) → ((s && x) && false) ≡ false
last_none true true = refl
last_none true false = refl
last_none false x = refl

pub other_boot_word : (b known : ℕ) (other : Who) (rs ls : ℕ) (seen : List ℕ) (handed : List Message) → (known == b) ≡ false
    → IsSilent b (Word other known rs ls seen) handed
other_boot_word b known other rs ls seen handed apart = record {
  replayed = refl;
  listed = refl;
  word = λ who k l. ap (λ (x : Bool). ((same_life other who && x) && nat_le rs k) && nat_le ls l) apart
      ∙ none_of (same_life other who) (nat_le rs k) (nat_le ls l);
  by_replays = λ who k bound. ap (λ (x : Bool). (same_life other who && x) && (rs == k && nat_le ls bound)) apart
      ∙ both_none (same_life other who) (rs == k && nat_le ls bound);
  by_locks = λ who k bound. ap (λ (x : Bool). (same_life other who && x) && (ls == k && nat_le rs bound)) apart
      ∙ both_none (same_life other who) (ls == k && nat_le rs bound);
  newer = λ who. refl;
}

pub other_boot_join : (b known : ℕ) (other : Who) (handed : List Message) → (known == b) ≡ false → IsSilent b (Join other known) handed
other_boot_join b known other handed apart = record {
  replayed = refl;
  listed = refl;
  word = λ who k l. ap (λ (x : Bool). same_life other who && x) apart ∙ and_false (same_life other who);
  by_replays = λ who k bound. refl;
  by_locks = λ who k bound. refl;
  newer = λ who. ap (λ (x : Bool). (other.client == who.client && nat_lt who.life other.life) && x) apart
      ∙ last_none (other.client == who.client) (nat_lt who.life other.life);
}

same_replay : (r : RequestReplay) (xs : List RequestReplay) → list_any (is_replay_of r) xs
    ≡ list_any (λ (x : RequestReplay). same_life x.who r.who && x.txn.0 == r.txn.0) xs
same_replay r xs = any_same _ _ xs (λ x. rw (eq_swap r.who.client x.who.client, eq_swap r.who.life x.who.life, eq_swap r.txn.0 x.txn.0)
    refl)

same_lock : (r : LockReplay) (xs : List LockReplay) → list_any (is_lock_of r) xs
    ≡ list_any (λ (x : LockReplay). same_life x.who r.who && x.cookie.0 == r.cookie.0) xs
same_lock r xs = any_same _ _ xs (λ x. rw (eq_swap r.who.client x.who.client, eq_swap r.who.life x.who.life, eq_swap r.cookie.0 x.cookie.0)
    refl)

-- the replays after one of this boot
pub replays_with : (t : Handed) (r : RequestReplay) (handed : List Message) → ShowsHanded t r.boot handed
    → replays r.boot (Replay r ∷ handed) ≡ (if has_member t.replays r.who r.txn.0 then replays r.boot handed else r ∷ replays r.boot handed)
replays_with t r handed shown =
    ap (λ (same : Bool). if same && not (list_any (is_replay_of r) (replays r.boot handed)) then r ∷ replays r.boot handed
    else replays r.boot handed) (eq_self r.boot)
    ∙ ap (λ (there : Bool). if not there then r ∷ replays r.boot handed else replays r.boot handed)
    (same_replay r (replays r.boot handed) ∙ sym (shown.replayed r.who r.txn.0))
    ∙ by (has_member t.replays r.who r.txn.0) where
      by : (there : Bool) → (if not there then r ∷ replays r.boot handed else replays r.boot handed)
          ≡ (if there then replays r.boot handed else r ∷ replays r.boot handed)
      by true = refl
      by false = refl

pub locks_with : (t : Handed) (r : LockReplay) (handed : List Message) → ShowsHanded t r.boot handed
    → locks r.boot (Lock r ∷ handed) ≡ (if has_member t.cookies r.who r.cookie.0 then locks r.boot handed else r ∷ locks r.boot handed)
locks_with t r handed shown =
    ap (λ (same : Bool). if same && not (list_any (is_lock_of r) (locks r.boot handed)) then r ∷ locks r.boot handed
    else locks r.boot handed) (eq_self r.boot)
    ∙ ap (λ (there : Bool). if not there then r ∷ locks r.boot handed else locks r.boot handed)
    (same_lock r (locks r.boot handed) ∙ sym (shown.cookies r.who r.cookie.0))
    ∙ by (has_member t.cookies r.who r.cookie.0) where
      by : (there : Bool) → (if not there then r ∷ locks r.boot handed else locks r.boot handed)
          ≡ (if there then locks r.boot handed else r ∷ locks r.boot handed)
      by true = refl
      by false = refl

-- a replay or a lock that was handed in before
pub known_replay : (t : Handed) (r : RequestReplay) (handed : List Message) → ShowsHanded t r.boot handed
    → has_member t.replays r.who r.txn.0 ≡ true → IsSilent r.boot (Replay r) handed
known_replay t r handed shown there = record {
  replayed = replays_with t r handed shown ∙ ap (λ (x : Bool). if x then replays r.boot handed else r ∷ replays r.boot handed) there;
  listed = refl;
  word = λ who k l. refl;
  by_replays = λ who k bound. refl;
  by_locks = λ who k bound. refl;
  newer = λ who. refl;
}

pub known_lock : (t : Handed) (r : LockReplay) (handed : List Message) → ShowsHanded t r.boot handed → has_member t.cookies r.who r.cookie.0
    ≡ true → IsSilent r.boot (Lock r) handed
known_lock t r handed shown there = record {
  replayed = refl;
  listed = locks_with t r handed shown ∙ ap (λ (x : Bool). if x then locks r.boot handed else r ∷ locks r.boot handed) there;
  word = λ who k l. refl;
  by_replays = λ who k bound. refl;
  by_locks = λ who k bound. refl;
  newer = λ who. refl;
}
