-- What one message makes of what is known of what lives handed in.
use Rattle.std.proofs.Common.{◌≡◌, ℕ, ◌+◌, Bool, true, false, List, ◌∷◌, refl, ap, sym, ◌∙◌}
use Rattle.std.specs.Prelude.{◌==◌, ◌&&◌, ◌||◌, nat_le, nat_lt, if◌then◌else◌, reverse, map}
use Rattle.std.specs.List.{list_any}
use Rattle.lu_base.specs.declared.ids.Who.{Who}
use Rattle.lu_msg.specs.declared.messages.Message.{Message}
use Rattle.lu_msg.specs.declared.messages.Message.TheVariants.{Replay, Lock, Word, Join}
use Rattle.lu_msg.specs.declared.messages.RequestReplay.{RequestReplay}
use Rattle.lu_msg.specs.declared.messages.LockReplay.{LockReplay}
use Rattle.lu_spec_machine.specs.Tree.{same_life}
use Rattle.lu_spec_laws.specs.Words.Handed.{replay_count, lock_count, is_word}
use Rattle.lu_judge_windows.specs.declared.counted.Counted.{Counted}
use Rattle.lu_judge_windows.specs.declared.counted.Least.{Least}
use Rattle.lu_judge_windows.specs.declared.handed.Handed.{Handed}
use Rattle.lu_judge_windows.specs.Counted.{has_member, count_of, is_within}
use Rattle.lu_judge_windows.specs.Handed.{is_back_in, has_newer_in, ShowsHanded}
use Rattle.lu_judge_windows.proofs.Tests.{eq_self, at_life, and_false}
use Rattle.lu_judge_windows.proofs.Completed.{replays_now, counted_now, replay_all, locks_now, cookies_counted, lock_all}

-- ---- one more replay or lock

module _ (t n : Handed) (r : RequestReplay) (handed : List Message) (shown : ShowsHanded t r.boot handed)
    (fresh : has_member t.replays r.who r.txn.0 ≡ false)
    (added : Counted) (others : n ≡ record t { replays = added; back = n.back })
    (members : (w : Who) (k : ℕ) → has_member added w k ≡ ((same_life r.who w && r.txn.0 == k) || has_member t.replays w k))
    (counts : (w : Who) → count_of added w ≡ (if same_life r.who w then count_of t.replays w + 1 else count_of t.replays w))
    (backs : (w : Who) → is_back_in n w ≡ ((is_within t.by_replays r.who (count_of added r.who) (count_of t.cookies r.who)
    && same_life r.who w) || is_back_in t w)) where
  replays_are : (w : Who) → count_of added w ≡ replay_count r.boot w (Replay r ∷ handed)
  replays_are w = counts w ∙ ap (λ (c : ℕ). if same_life r.who w then c + 1 else c) (shown.replayed_count w)
      ∙ sym (counted_now t r handed shown fresh w)

  own_replays : count_of added r.who ≡ count_of t.replays r.who + 1
  own_replays = counts r.who ∙ rw (eq_self r.who.client, eq_self r.who.life) refl

  pub replay_shown : ShowsHanded n r.boot (Replay r ∷ handed)
  replay_shown = record {
    replayed = λ w k. ap (λ (x : Handed). has_member x.replays w k) others ∙ members w k
        ∙ ap (λ (x : Bool). (same_life r.who w && r.txn.0 == k) || x) (shown.replayed w k)
        ∙ ap (λ (xs : List RequestReplay). list_any (λ (x : RequestReplay). same_life x.who w && x.txn.0 == k) xs)
        (sym (replays_now t r handed shown fresh));
    replayed_count = λ w. ap (λ (x : Handed). count_of x.replays w) others ∙ replays_are w;
    cookies = λ w k. ap (λ (x : Handed). has_member x.cookies w k) others ∙ shown.cookies w k;
    cookie_count = λ w. ap (λ (x : Handed). count_of x.cookies w) others ∙ shown.cookie_count w;
    listed = ap (λ (x : Handed). reverse (map (λ r. r.now) x.locks.items)) others ∙ shown.listed;
    by_replays = λ w k bound. ap (λ (x : Handed). is_within x.by_replays w k bound) others ∙ shown.by_replays w k bound;
    by_locks = λ w k bound. ap (λ (x : Handed). is_within x.by_locks w k bound) others ∙ shown.by_locks w k bound;
    back = λ w.
        backs w
        ∙ ap (λ (c : ℕ). (is_within t.by_replays r.who c (count_of t.cookies r.who) && same_life r.who w) || is_back_in t w) own_replays
        ∙ replay_all t r handed shown fresh w;
    newer = λ w. ap (λ (x : Handed). has_newer_in x w) others ∙ shown.newer w;
  }

module _ (t m n : Handed) (r : LockReplay) (handed : List Message) (shown : ShowsHanded t r.boot handed)
    (fresh : has_member t.cookies r.who r.cookie.0 ≡ false)
    (added : Counted) (first : m ≡ record t { cookies = added; locks = m.locks }) (then_back : n ≡ record m { back = n.back })
    (members : (w : Who) (k : ℕ) → has_member added w k ≡ ((same_life r.who w && r.cookie.0 == k) || has_member t.cookies w k))
    (order : reverse (map (λ r. r.now) m.locks.items) ≡ r ∷ reverse (map (λ r. r.now) t.locks.items))
    (counts : (w : Who) → count_of added w ≡ (if same_life r.who w then count_of t.cookies w + 1 else count_of t.cookies w))
    (backs : (w : Who) → is_back_in n w ≡ ((is_within t.by_locks r.who (count_of added r.who) (count_of t.replays r.who)
    && same_life r.who w) || is_back_in t w)) where
  lock_others : n ≡ record t { cookies = added; locks = m.locks; back = n.back }
  lock_others = then_back ∙ ap (λ (x : Handed). record x { back = n.back }) first

  cookies_are : (w : Who) → count_of added w ≡ lock_count r.boot w (Lock r ∷ handed)
  cookies_are w = counts w ∙ ap (λ (c : ℕ). if same_life r.who w then c + 1 else c) (shown.cookie_count w)
      ∙ sym (cookies_counted t r handed shown fresh w)

  own_cookies : count_of added r.who ≡ count_of t.cookies r.who + 1
  own_cookies = counts r.who ∙ rw (eq_self r.who.client, eq_self r.who.life) refl

  pub lock_shown : ShowsHanded n r.boot (Lock r ∷ handed)
  lock_shown = record {
    replayed = λ w k. ap (λ (x : Handed). has_member x.replays w k) lock_others ∙ shown.replayed w k;
    replayed_count = λ w. ap (λ (x : Handed). count_of x.replays w) lock_others ∙ shown.replayed_count w;
    cookies = λ w k. ap (λ (x : Handed). has_member x.cookies w k) lock_others ∙ members w k
        ∙ ap (λ (x : Bool). (same_life r.who w && r.cookie.0 == k) || x) (shown.cookies w k)
        ∙ ap (λ (xs : List LockReplay). list_any (λ (x : LockReplay). same_life x.who w && x.cookie.0 == k) xs)
        (sym (locks_now t r handed shown fresh));
    cookie_count = λ w. ap (λ (x : Handed). count_of x.cookies w) lock_others ∙ cookies_are w;
    listed = ap (λ (x : Handed). reverse (map (λ r. r.now) x.locks.items)) lock_others ∙ order
        ∙ ap (λ (xs : List LockReplay). r ∷ xs) shown.listed ∙ sym (locks_now t r handed shown fresh);
    by_replays = λ w k bound. ap (λ (x : Handed). is_within x.by_replays w k bound) lock_others ∙ shown.by_replays w k bound;
    by_locks = λ w k bound. ap (λ (x : Handed). is_within x.by_locks w k bound) lock_others ∙ shown.by_locks w k bound;
    back = λ w.
        backs w
        ∙ ap (λ (c : ℕ). (is_within t.by_locks r.who c (count_of t.replays r.who) && same_life r.who w) || is_back_in t w) own_cookies
        ∙ lock_all t r handed shown fresh w;
    newer = λ w. ap (λ (x : Handed). has_newer_in x w) lock_others ∙ shown.newer w;
  }

-- ---- a word, or a join

module _ (t n : Handed) (b : ℕ) (who : Who) (rs ls : ℕ) (seen : List ℕ) (handed : List Message) (shown : ShowsHanded t b handed)
    (replays_now locks_now : Least) (others : n ≡ record t { by_replays = replays_now; by_locks = locks_now; back = n.back })
    (by_replays_now : (w : Who) (k bound : ℕ) → is_within replays_now w k bound
    ≡ (((same_life who w && rs == k) && nat_le ls bound) || is_within t.by_replays w k bound))
    (by_locks_now : (w : Who) (k bound : ℕ) → is_within locks_now w k bound
    ≡ (((same_life who w && ls == k) && nat_le rs bound) || is_within t.by_locks w k bound))
    (backs : (w : Who) → is_back_in n w ≡ (((nat_le rs (count_of t.replays who) && nat_le ls (count_of t.cookies who)) && same_life who w)
    || is_back_in t w)) where
  with_boot : (s same e m : Bool) → same ≡ true → ((s && e) && m) ≡ ((s && same) && (e && m))
  with_boot s same e m is = rw is (by s e) where
    by : (s e : Bool) → ((s && e) && m) ≡ ((s && true) && (e && m))
    by true e = by_e e where
      by_e : (e : Bool) → ((true && e) && m) ≡ ((true && true) && (e && m))
      by_e true = refl
      by_e false = refl
    by false e = refl

  word_back : (w : Who) → (((nat_le rs (count_of t.replays who) && nat_le ls (count_of t.cookies who)) && same_life who w))
      ≡ is_word b w (replay_count b w handed) (lock_count b w handed) (Word who b rs ls seen)
  word_back w =
      ap (λ (c : ℕ). ((nat_le rs c && nat_le ls (count_of t.cookies who)) && same_life who w)) (shown.replayed_count who)
      ∙ ap (λ (c : ℕ). ((nat_le rs (replay_count b who handed) && nat_le ls c) && same_life who w)) (shown.cookie_count who)
      ∙ at_life (λ v same. ((nat_le rs (replay_count b who handed) && nat_le ls (lock_count b who handed)) && same)
      ≡ (((same && b == b) && nat_le rs (replay_count b v handed)) && nat_le ls (lock_count b v handed))) who w here
      (λ apart. and_false (nat_le rs (replay_count b who handed) && nat_le ls (lock_count b who handed))) where
        here : ((nat_le rs (replay_count b who handed) && nat_le ls (lock_count b who handed)) && true)
            ≡ (((true && b == b) && nat_le rs (replay_count b who handed)) && nat_le ls (lock_count b who handed))
        here = rw (eq_self b) (by (nat_le rs (replay_count b who handed)) (nat_le ls (lock_count b who handed))) where
          by : (x y : Bool) → ((x && y) && true) ≡ (x && y)
          by true true = refl
          by true false = refl
          by false y = refl

  pub word_shown : ShowsHanded n b (Word who b rs ls seen ∷ handed)
  word_shown = record {
    replayed = λ w k. ap (λ (x : Handed). has_member x.replays w k) others ∙ shown.replayed w k;
    replayed_count = λ w. ap (λ (x : Handed). count_of x.replays w) others ∙ shown.replayed_count w;
    cookies = λ w k. ap (λ (x : Handed). has_member x.cookies w k) others ∙ shown.cookies w k;
    cookie_count = λ w. ap (λ (x : Handed). count_of x.cookies w) others ∙ shown.cookie_count w;
    listed = ap (λ (x : Handed). reverse (map (λ r. r.now) x.locks.items)) others ∙ shown.listed;
    by_replays = λ w k bound. ap (λ (x : Handed). is_within x.by_replays w k bound) others ∙ by_replays_now w k bound
        ∙ ap (λ (x : Bool). x || is_within t.by_replays w k bound)
        (with_boot (same_life who w) (b == b) (rs == k) (nat_le ls bound) (eq_self b))
        ∙ ap (λ (x : Bool). ((same_life who w && b == b) && (rs == k && nat_le ls bound)) || x) (shown.by_replays w k bound);
    by_locks = λ w k bound. ap (λ (x : Handed). is_within x.by_locks w k bound) others ∙ by_locks_now w k bound
        ∙ ap (λ (x : Bool). x || is_within t.by_locks w k bound)
        (with_boot (same_life who w) (b == b) (ls == k) (nat_le rs bound) (eq_self b))
        ∙ ap (λ (x : Bool). ((same_life who w && b == b) && (ls == k && nat_le rs bound)) || x) (shown.by_locks w k bound);
    back = λ w. backs w ∙ ap (λ (x : Bool). x || is_back_in t w) (word_back w)
        ∙ ap (λ (x : Bool). is_word b w (replay_count b w handed) (lock_count b w handed) (Word who b rs ls seen) || x) (shown.back w);
    newer = λ w. ap (λ (x : Handed). has_newer_in x w) others ∙ shown.newer w;
  }

module _ (t m n : Handed) (b : ℕ) (who : Who) (handed : List Message) (shown : ShowsHanded t b handed)
    (first : m ≡ record t { newest = m.newest })
    (then_back : n ≡ record m { back = n.back })
    (newest_now : (w : Who) → has_newer_in m w ≡ ((who.client == w.client && nat_lt w.life who.life) || has_newer_in t w))
    (backs : (w : Who) → is_back_in n w ≡ (same_life who w || is_back_in m w)) where
  others : n ≡ record t { newest = m.newest; back = n.back }
  others = then_back ∙ ap (λ (x : Handed). record x { back = n.back }) first

  backs_now : (w : Who) → is_back_in n w ≡ (same_life who w || is_back_in t w)
  backs_now w = backs w ∙ ap (λ (x : Handed). same_life who w || is_back_in x w) first

  newest_is : (w : Who) → has_newer_in n w ≡ ((who.client == w.client && nat_lt w.life who.life) || has_newer_in t w)
  newest_is w = ap (λ (x : Handed). has_newer_in x w) then_back ∙ newest_now w

  with_true : (s same : Bool) → same ≡ true → s ≡ (s && same)
  with_true s same is = rw is (by s) where
    by : (s : Bool) → s ≡ (s && true)
    by true = refl
    by false = refl

  pub join_shown : ShowsHanded n b (Join who b ∷ handed)
  join_shown = record {
    replayed = λ w k. ap (λ (x : Handed). has_member x.replays w k) others ∙ shown.replayed w k;
    replayed_count = λ w. ap (λ (x : Handed). count_of x.replays w) others ∙ shown.replayed_count w;
    cookies = λ w k. ap (λ (x : Handed). has_member x.cookies w k) others ∙ shown.cookies w k;
    cookie_count = λ w. ap (λ (x : Handed). count_of x.cookies w) others ∙ shown.cookie_count w;
    listed = ap (λ (x : Handed). reverse (map (λ r. r.now) x.locks.items)) others ∙ shown.listed;
    by_replays = λ w k bound. ap (λ (x : Handed). is_within x.by_replays w k bound) others ∙ shown.by_replays w k bound;
    by_locks = λ w k bound. ap (λ (x : Handed). is_within x.by_locks w k bound) others ∙ shown.by_locks w k bound;
    back = λ w. backs_now w ∙ ap (λ (x : Bool). x || is_back_in t w) (with_true (same_life who w) (b == b) (eq_self b))
        ∙ ap (λ (x : Bool). (same_life who w && b == b) || x) (shown.back w);
    newer = λ w. newest_is w ∙ ap (λ (x : Bool). x || has_newer_in t w)
        (with_true (who.client == w.client && nat_lt w.life who.life) (b == b) (eq_self b))
        ∙ ap (λ (x : Bool). ((who.client == w.client && nat_lt w.life who.life) && b == b) || x) (shown.newer w);
  }
