-- Which lives have handed in all after one more replay or lock.
use Rattle.std.proofs.Common.{◌≡◌, ℕ, ◌+◌, Bool, true, false, List, ◌∷◌, length, refl, ap, sym, ◌∙◌, arith}
use Rattle.std.specs.Prelude.{◌&&◌, ◌||◌, if◌then◌else◌, filter}
use Rattle.std.specs.List.{list_any}
use Rattle.lu_base.specs.declared.ids.Who.{Who}
use Rattle.lu_msg.specs.declared.messages.Message.{Message}
use Rattle.lu_msg.specs.declared.messages.Message.TheVariants.{Replay, Lock}
use Rattle.lu_msg.specs.declared.messages.RequestReplay.{RequestReplay}
use Rattle.lu_msg.specs.declared.messages.LockReplay.{LockReplay}
use Rattle.lu_spec_machine.specs.Tree.{same_life}
use Rattle.lu_spec_laws.specs.Words.Handed.{replays, locks, replay_count, lock_count, is_word, has_all}
use Rattle.lu_judge_windows.specs.declared.handed.Handed.{Handed}
use Rattle.lu_judge_windows.specs.Counted.{has_member, count_of, is_within}
use Rattle.lu_judge_windows.specs.Handed.{names_replays, names_locks, is_back_in, ShowsHanded}
use Rattle.lu_judge_windows.proofs.Tests.{at_life}
use Rattle.lu_judge_windows.proofs.SilentMessages.{replays_with, locks_with}
use Rattle.lu_judge_windows.proofs.Words.{any_replays_more, any_locks_more}

and_swapped : (a o : Bool) → ((a && true) || o) ≡ (o || a)
and_swapped true true = refl
and_swapped true false = refl
and_swapped false true = refl
and_swapped false false = refl

and_none : (a o : Bool) → ((a && false) || o) ≡ o
and_none true o = refl
and_none false o = refl

module _ {A : Type 0} (p : A → Bool) where
  more_of : (x : A) (xs : List A) → length (filter p (x ∷ xs)) ≡ (if p x then length (filter p xs) + 1 else length (filter p xs))
  more_of x xs = by (p x) where
    by : (b : Bool) → length (if b then x ∷ filter p xs else filter p xs) ≡ (if b then length (filter p xs) + 1 else length (filter p xs))
    by true = omega arith
    by false = refl

module _ (t : Handed) (r : RequestReplay) (handed : List Message) (shown : ShowsHanded t r.boot handed)
    (fresh : has_member t.replays r.who r.txn.0 ≡ false) where
  pub replays_now : replays r.boot (Replay r ∷ handed) ≡ r ∷ replays r.boot handed
  replays_now = replays_with t r handed shown ∙ ap (λ (x : Bool). if x then replays r.boot handed else r ∷ replays r.boot handed) fresh

  pub counted_now : (w : Who) → replay_count r.boot w (Replay r ∷ handed)
      ≡ (if same_life r.who w then replay_count r.boot w handed + 1 else replay_count r.boot w handed)
  counted_now w = ap (λ (xs : List RequestReplay). length (filter (λ (x : RequestReplay). same_life x.who w) xs)) replays_now
      ∙ more_of (λ (x : RequestReplay). same_life x.who w) r (replays r.boot handed)

  within_is : is_within t.by_replays r.who (count_of t.replays r.who + 1) (count_of t.cookies r.who)
      ≡ list_any (names_replays r.boot r.who (replay_count r.boot r.who handed + 1) (lock_count r.boot r.who handed)) handed
  within_is =
      ap (λ (c : ℕ). is_within t.by_replays r.who (c + 1) (count_of t.cookies r.who)) (shown.replayed_count r.who)
      ∙ ap (λ (c : ℕ). is_within t.by_replays r.who (replay_count r.boot r.who handed + 1) c) (shown.cookie_count r.who)
      ∙ shown.by_replays r.who (replay_count r.boot r.who handed + 1) (lock_count r.boot r.who handed)

  -- who has all after it
  pub replay_all : (w : Who) → ((is_within t.by_replays r.who (count_of t.replays r.who + 1) (count_of t.cookies r.who)
      && same_life r.who w) || is_back_in t w) ≡ has_all r.boot w (Replay r ∷ handed)
  replay_all w =
      ap (λ (x : Bool). (is_within t.by_replays r.who (count_of t.replays r.who + 1) (count_of t.cookies r.who) && same_life r.who w) || x)
      (shown.back w)
      ∙ at_life (λ v same. ((is_within t.by_replays r.who (count_of t.replays r.who + 1) (count_of t.cookies r.who) && same)
      || has_all r.boot v handed) ≡ list_any (is_word r.boot v
      (if same then replay_count r.boot v handed + 1 else replay_count r.boot v handed) (lock_count r.boot v handed)) handed) r.who w
      here (λ apart. and_none (is_within t.by_replays r.who (count_of t.replays r.who + 1) (count_of t.cookies r.who))
      (has_all r.boot w handed))
      ∙ ap (λ (c : ℕ). list_any (is_word r.boot w c (lock_count r.boot w handed)) handed) (sym (counted_now w)) where
        here : ((is_within t.by_replays r.who (count_of t.replays r.who + 1) (count_of t.cookies r.who) && true)
            || has_all r.boot r.who handed) ≡ list_any (is_word r.boot r.who (replay_count r.boot r.who handed + 1)
            (lock_count r.boot r.who handed)) handed
        here =
            and_swapped (is_within t.by_replays r.who (count_of t.replays r.who + 1) (count_of t.cookies r.who))
            (has_all r.boot r.who handed)
            ∙ ap (λ (x : Bool). has_all r.boot r.who handed || x) within_is
            ∙ sym (any_replays_more r.boot r.who (replay_count r.boot r.who handed) (lock_count r.boot r.who handed) handed)

module _ (t : Handed) (r : LockReplay) (handed : List Message) (shown : ShowsHanded t r.boot handed)
    (fresh : has_member t.cookies r.who r.cookie.0 ≡ false) where
  pub locks_now : locks r.boot (Lock r ∷ handed) ≡ r ∷ locks r.boot handed
  locks_now = locks_with t r handed shown ∙ ap (λ (x : Bool). if x then locks r.boot handed else r ∷ locks r.boot handed) fresh

  pub cookies_counted : (w : Who) → lock_count r.boot w (Lock r ∷ handed)
      ≡ (if same_life r.who w then lock_count r.boot w handed + 1 else lock_count r.boot w handed)
  cookies_counted w = ap (λ (xs : List LockReplay). length (filter (λ (x : LockReplay). same_life x.who w) xs)) locks_now
      ∙ more_of (λ (x : LockReplay). same_life x.who w) r (locks r.boot handed)

  within_cookies : is_within t.by_locks r.who (count_of t.cookies r.who + 1) (count_of t.replays r.who)
      ≡ list_any (names_locks r.boot r.who (lock_count r.boot r.who handed + 1) (replay_count r.boot r.who handed)) handed
  within_cookies =
      ap (λ (c : ℕ). is_within t.by_locks r.who (c + 1) (count_of t.replays r.who)) (shown.cookie_count r.who)
      ∙ ap (λ (c : ℕ). is_within t.by_locks r.who (lock_count r.boot r.who handed + 1) c) (shown.replayed_count r.who)
      ∙ shown.by_locks r.who (lock_count r.boot r.who handed + 1) (replay_count r.boot r.who handed)

  -- who has all after it
  pub lock_all : (w : Who) → ((is_within t.by_locks r.who (count_of t.cookies r.who + 1) (count_of t.replays r.who) && same_life r.who w)
      || is_back_in t w) ≡ has_all r.boot w (Lock r ∷ handed)
  lock_all w =
      ap (λ (x : Bool). (is_within t.by_locks r.who (count_of t.cookies r.who + 1) (count_of t.replays r.who) && same_life r.who w) || x)
      (shown.back w)
      ∙ at_life (λ v same. ((is_within t.by_locks r.who (count_of t.cookies r.who + 1) (count_of t.replays r.who) && same)
      || has_all r.boot v handed) ≡ list_any (is_word r.boot v (replay_count r.boot v handed)
      (if same then lock_count r.boot v handed + 1 else lock_count r.boot v handed)) handed) r.who w here
      (λ apart. and_none (is_within t.by_locks r.who (count_of t.cookies r.who + 1) (count_of t.replays r.who))
      (has_all r.boot w handed))
      ∙ ap (λ (c : ℕ). list_any (is_word r.boot w (replay_count r.boot w handed) c) handed) (sym (cookies_counted w)) where
        here : ((is_within t.by_locks r.who (count_of t.cookies r.who + 1) (count_of t.replays r.who) && true)
            || has_all r.boot r.who handed) ≡ list_any (is_word r.boot r.who (replay_count r.boot r.who handed)
            (lock_count r.boot r.who handed + 1)) handed
        here =
            and_swapped (is_within t.by_locks r.who (count_of t.cookies r.who + 1) (count_of t.replays r.who)) (has_all r.boot r.who handed)
            ∙ ap (λ (x : Bool). has_all r.boot r.who handed || x) within_cookies
            ∙ sym (any_locks_more r.boot r.who (lock_count r.boot r.who handed) (replay_count r.boot r.who handed) handed)
