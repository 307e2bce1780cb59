-- Which lives have handed in all after one more message.
use Rattle.std.proofs.Common.{◌≡◌, ℕ, ◌+◌, Bool, true, false, List, ◌∷◌, refl, ap, subst, sym, ◌∙◌}
use Rattle.std.specs.Prelude.{◌==◌, ◌&&◌, ◌||◌, not, nat_le}
use Rattle.std.proofs.lemmas.Bool.{eqb-true}
use Rattle.lu_base.specs.declared.ids.Who.{Who}
use Rattle.lu_msg.specs.declared.messages.Message.{Message}
use Rattle.lu_msg.specs.declared.messages.Message.TheVariants.{Replay, Lock, Word, Join}
use Rattle.lu_msg.specs.declared.messages.RequestReplay.{RequestReplay}
use Rattle.lu_msg.specs.declared.messages.LockReplay.{LockReplay}
use Rattle.lu_spec_machine.specs.Tree.{same_life}
use Rattle.lu_spec_laws.specs.Words.Handed.{lock_count, has_all}
use Rattle.lu_judge_windows.specs.declared.handed.Handed.{Handed}
use Rattle.lu_judge_windows.specs.Counted.{has_member, count_of, is_within}
use Rattle.lu_judge_windows.specs.Handed.{is_back_in, completes_in, ShowsHanded}
use Rattle.lu_judge_windows.proofs.Tests.{at_life, and_false}
use Rattle.lu_judge_windows.proofs.SilentMessages.{IsSilent, silent_back, other_boot_replay, other_boot_lock, known_replay, known_lock}
use Rattle.lu_judge_windows.proofs.Completed.{replay_all, lock_all}

was_fresh : (there within : Bool) → there ≡ false → (within && true) ≡ (not there && within)
was_fresh there true is = rw is refl
was_fresh there false is = rw is refl

not_this : (there within : Bool) → there ≡ true → (not there && within) ≡ false
not_this there within is = rw is refl

module _ (t : Handed) where
  silent_none : (b : ℕ) (m : Message) (handed : List Message) (who : Who) (completes : Bool) → ShowsHanded t b handed → IsSilent b m handed
      → completes ≡ false → has_all b who (m ∷ handed) ≡ (completes || is_back_in t who)
  silent_none b m handed who completes shown silent is = sym (silent_back t b m handed shown silent who) ∙ sym (shown.back who)
      ∙ sym (ap (λ (c : Bool). c || is_back_in t who) is)

  replay_here : (r : RequestReplay) (handed : List Message) (who : Who) → ShowsHanded t r.boot handed → (there : Bool)
      → has_member t.replays r.who r.txn.0 ≡ there
      → has_all r.boot who (Replay r ∷ handed)
      ≡ (((true && same_life r.who who) && (not (has_member t.replays who r.txn.0)
      && is_within t.by_replays who (count_of t.replays who + 1) (count_of t.cookies who))) || is_back_in t who)
  replay_here r handed who shown true is =
      silent_none r.boot (Replay r) handed who _ shown (known_replay t r handed shown is)
      (at_life (λ v same. ((true && same) && (not (has_member t.replays v r.txn.0)
      && is_within t.by_replays v (count_of t.replays v + 1) (count_of t.cookies v))) ≡ false) r.who who
      (not_this (has_member t.replays r.who r.txn.0) (is_within t.by_replays r.who (count_of t.replays r.who + 1)
      (count_of t.cookies r.who)) is) (λ apart. refl))
  replay_here r handed who shown false is =
      sym (replay_all t r handed shown is who)
      ∙ ap (λ (c : Bool). c || is_back_in t who)
      (at_life (λ v same. (is_within t.by_replays r.who (count_of t.replays r.who + 1) (count_of t.cookies r.who) && same)
      ≡ ((true && same) && (not (has_member t.replays v r.txn.0)
      && is_within t.by_replays v (count_of t.replays v + 1) (count_of t.cookies v)))) r.who who
      (was_fresh (has_member t.replays r.who r.txn.0) (is_within t.by_replays r.who (count_of t.replays r.who + 1)
      (count_of t.cookies r.who)) is) (λ apart. and_false (is_within t.by_replays r.who (count_of t.replays r.who + 1)
      (count_of t.cookies r.who))))

  lock_here : (r : LockReplay) (handed : List Message) (who : Who) → ShowsHanded t r.boot handed → (there : Bool)
      → has_member t.cookies r.who r.cookie.0 ≡ there
      → has_all r.boot who (Lock r ∷ handed)
      ≡ (((true && same_life r.who who) && (not (has_member t.cookies who r.cookie.0)
      && is_within t.by_locks who (count_of t.cookies who + 1) (count_of t.replays who))) || is_back_in t who)
  lock_here r handed who shown true is =
      silent_none r.boot (Lock r) handed who _ shown (known_lock t r handed shown is)
      (at_life (λ v same. ((true && same) && (not (has_member t.cookies v r.cookie.0)
      && is_within t.by_locks v (count_of t.cookies v + 1) (count_of t.replays v))) ≡ false) r.who who
      (not_this (has_member t.cookies r.who r.cookie.0) (is_within t.by_locks r.who (count_of t.cookies r.who + 1)
      (count_of t.replays r.who)) is) (λ apart. refl))
  lock_here r handed who shown false is =
      sym (lock_all t r handed shown is who)
      ∙ ap (λ (c : Bool). c || is_back_in t who)
      (at_life (λ v same. (is_within t.by_locks r.who (count_of t.cookies r.who + 1) (count_of t.replays r.who) && same)
      ≡ ((true && same) && (not (has_member t.cookies v r.cookie.0)
      && is_within t.by_locks v (count_of t.cookies v + 1) (count_of t.replays v)))) r.who who
      (was_fresh (has_member t.cookies r.who r.cookie.0) (is_within t.by_locks r.who (count_of t.cookies r.who + 1)
      (count_of t.replays r.who)) is) (λ apart. and_false (is_within t.by_locks r.who (count_of t.cookies r.who + 1)
      (count_of t.replays r.who))))

  -- of another boot, or of this one
  replay_boot : (b : ℕ) (r : RequestReplay) (handed : List Message) (who : Who) → ShowsHanded t b handed → (same : Bool) → (r.boot == b)
      ≡ same
      → has_all b who (Replay r ∷ handed)
      ≡ (((same && same_life r.who who) && (not (has_member t.replays who r.txn.0)
      && is_within t.by_replays who (count_of t.replays who + 1) (count_of t.cookies who))) || is_back_in t who)
  replay_boot b r handed who shown false is = silent_none b (Replay r) handed who false shown (other_boot_replay b r handed is) refl
  replay_boot b r handed who shown true is =
      subst (λ (k : ℕ). ShowsHanded t k handed → has_all k who (Replay r ∷ handed)
      ≡ (((true && same_life r.who who) && (not (has_member t.replays who r.txn.0)
      && is_within t.by_replays who (count_of t.replays who + 1) (count_of t.cookies who))) || is_back_in t who))
      (eqb-true r.boot b is) (λ here. replay_here r handed who here (has_member t.replays r.who r.txn.0) refl) shown

  lock_boot : (b : ℕ) (r : LockReplay) (handed : List Message) (who : Who) → ShowsHanded t b handed → (same : Bool) → (r.boot == b) ≡ same
      → has_all b who (Lock r ∷ handed)
      ≡ (((same && same_life r.who who) && (not (has_member t.cookies who r.cookie.0)
      && is_within t.by_locks who (count_of t.cookies who + 1) (count_of t.replays who))) || is_back_in t who)
  lock_boot b r handed who shown false is = silent_none b (Lock r) handed who false shown (other_boot_lock b r handed is) refl
  lock_boot b r handed who shown true is =
      subst (λ (k : ℕ). ShowsHanded t k handed → has_all k who (Lock r ∷ handed)
      ≡ (((true && same_life r.who who) && (not (has_member t.cookies who r.cookie.0)
      && is_within t.by_locks who (count_of t.cookies who + 1) (count_of t.replays who))) || is_back_in t who))
      (eqb-true r.boot b is) (λ here. lock_here r handed who here (has_member t.cookies r.who r.cookie.0) refl) shown

  shuffled : (s k r l : Bool) → (((s && k) && r) && l) ≡ ((k && s) && (r && l))
  shuffled true true true l = refl
  shuffled true true false l = refl
  shuffled true false r l = refl
  shuffled false true r l = refl
  shuffled false false r l = refl

  swapped : (s k : Bool) → (s && k) ≡ (k && s)
  swapped true true = refl
  swapped true false = refl
  swapped false true = refl
  swapped false false = refl

  -- who has all after the message
  pub completed : (b : ℕ) (m : Message) (handed : List Message) (who : Who) → ShowsHanded t b handed → has_all b who (m ∷ handed)
      ≡ (completes_in t b m who || is_back_in t who)
  completed b (Replay r) handed who shown = replay_boot b r handed who shown (r.boot == b) refl
  completed b (Lock r) handed who shown = lock_boot b r handed who shown (r.boot == b) refl
  completed b (Word other known rs ls seen) handed who shown =
      ap (λ (x : Bool). x || has_all b who handed)
      (ap (λ (c : ℕ). ((same_life other who && known == b) && nat_le rs c) && nat_le ls (lock_count b who handed))
      (sym (shown.replayed_count who))
      ∙ ap (λ (c : ℕ). ((same_life other who && known == b) && nat_le rs (count_of t.replays who)) && nat_le ls c)
      (sym (shown.cookie_count who))
      ∙ shuffled (same_life other who) (known == b) (nat_le rs (count_of t.replays who)) (nat_le ls (count_of t.cookies who)))
      ∙ ap (λ (x : Bool). ((known == b && same_life other who) && (nat_le rs (count_of t.replays who)
      && nat_le ls (count_of t.cookies who))) || x) (sym (shown.back who))
  completed b (Join other known) handed who shown =
      ap (λ (x : Bool). x || has_all b who handed) (swapped (same_life other who) (known == b))
      ∙ ap (λ (x : Bool). (known == b && same_life other who) || x) (sym (shown.back who))
  completed b _ handed who shown = sym (shown.back who)
