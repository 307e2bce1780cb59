-- What a commit leaves: lives that leave with what they had, and lives that come.
use Rattle.std.proofs.Common.{◌≡◌, ℕ, ◌==◌, Bool, true, false, cond, List, [], ◌∷◌, filter, Some, None, refl, sym, ap, subst, ◌∙◌}
use Rattle.std.specs.Prelude.{if◌then◌else◌, not, All}
use Rattle.std.proofs.lemmas.Bool.{eqb-true}
use Rattle.std.proofs.lemmas.List.Elements.{All-filter}
use Rattle.std.proofs.lemmas.List.Kept.{AllPairs-filter}
use Rattle.lu_base.specs.declared.ids.Who.{Who}
use Rattle.lu_base.specs.declared.locks.Lock.{Lock}
use Rattle.lu_msg.specs.declared.commits.Batch.{Batch}
use Rattle.lu_service.specs.declared.services.Kind.{Kind}
use Rattle.lu_service.specs.declared.services.Kind.TheVariants.{Mdt, Ost}
use Rattle.lu_spec_entries.specs.Words.{Commit}
use Rattle.lu_spec_target.specs.Lives.{is_life, with_lives, without_lives}
use Rattle.lu_spec_target.specs.Leaving.{life_of}
use Rattle.lu_spec_target.specs.Locks.{locks_without}
use Rattle.lu_spec_target.specs.States.{Target, after}
use Rattle.lu_target_refines.specs.Lives.{AreOthers, OfClients}
use Rattle.lu_target_refines.proofs.Clients.{clients_without, clients_with}
use Rattle.lu_target_refines.proofs.Lives.{ordered_committed}
use Rattle.lu_target_refines.proofs.Slots.{never, same_self}
use Rattle.lu_target_invariant.specs.Sound.{AreApart, AskApart, IsForReading, IsOfLife, HasLocksOf, IsSound}
use Rattle.lu_target_invariant.proofs.Requests.{all_passed}
use Rattle.lu_target_invariant.proofs.Taken.{life_stays, not_true, queue_left, glimpses_left}

locks_commit : (kind : Kind) (v : Target) (to : ℕ) (batch : Batch) → HasLocksOf kind v → HasLocksOf kind (after v (Commit to batch))
locks_commit Mdt v to batch locks = (
  All-filter (λ k. not (is_life k.ask.who batch.removed)) IsForReading v.granted locks.0,
  ap (locks_without batch.removed) locks.1,
  ap (filter (λ x. not (is_life x.request.who batch.removed))) locks.2,
)
locks_commit Ost v to batch locks = (
  glimpses_left batch.removed v.queue v.glimpses locks.0,
  AllPairs-filter AskApart (λ x. not (is_life x.request.who batch.removed)) v.glimpses locks.1,
)

-- the locks of lives that stay
locks_left : (lives gone come : List Who) (locks : List Lock) → All (IsOfLife lives) locks
    → All (IsOfLife (with_lives come (without_lives gone lives))) (locks_without gone locks)
locks_left lives gone come locks all =
    all_passed (IsOfLife lives) (IsOfLife (with_lives come (without_lives gone lives))) (λ k. not (is_life k.ask.who gone)) locks
    (λ k stays life. life_stays k.ask.who gone come lives (not_true (is_life k.ask.who gone) stays) life) all

-- where each client has one life then
pub sound_commit : (kind : Kind) (v : Target) (to : ℕ) (batch : Batch)
    → OfClients (with_lives batch.added (without_lives batch.removed v.lives)) → IsSound kind v
    → IsSound kind (after v (Commit to batch))
sound_commit kind v to batch clients sound = record {
  up = sound.up;
  serving = sound.serving;
  lives = ordered_committed v to batch sound.lives;
  clients = clients;
  queue = queue_left kind v (after v (Commit to batch)) batch.removed batch.added refl refl sound.queue;
  apart = AllPairs-filter AreApart (λ r. not (is_life r.who batch.removed)) v.queue sound.apart;
  holders = locks_left v.lives batch.removed batch.added v.granted sound.holders;
  waiters = locks_left v.lives batch.removed batch.added v.waiting sound.waiters;
  locks = locks_commit kind v to batch sound.locks;
}

-- no life comes
pub sound_leaves : (kind : Kind) (v : Target) (to : ℕ) (batch : Batch) → batch.added ≡ [] → IsSound kind v
    → IsSound kind (after v (Commit to batch))
sound_leaves kind v to batch none sound =
    sound_commit kind v to batch
    (subst (λ come. OfClients (with_lives come (without_lives batch.removed v.lives))) (sym none)
    (clients_without batch.removed v.lives sound.clients)) sound

-- one life comes, whose client has no other left
pub sound_joins : (kind : Kind) (v : Target) (to : ℕ) (batch : Batch) (who : Who) → batch.added ≡ who ∷ []
    → life_of who.client (without_lives batch.removed v.lives) ≡ None → IsSound kind v → IsSound kind (after v (Commit to batch))
sound_joins kind v to batch who one alone sound =
    sound_commit kind v to batch
    (subst (λ come. OfClients (with_lives come (without_lives batch.removed v.lives))) (sym one)
    (clients_with who (without_lives batch.removed v.lives) alone (clients_without batch.removed v.lives sound.clients))) sound

-- ---- the life of a client, once it left

no_other : (who : Who) (lives : List Who) → AreOthers who lives → life_of who.client lives ≡ None
no_other who [] others = refl
no_other who (w ∷ lives) others = rw others.0 (no_other who lives others.1)

some_is : (a b : Who) → Some a ≡ Some b → a ≡ b
some_is a b e = cc

left_alone : (client : ℕ) (test : Who → Bool) (lives : List Who) → life_of client lives ≡ None → life_of client (filter test lives) ≡ None
left_alone client test [] none = none
left_alone client test (w ∷ lives) none = by (w.client == client) refl none (test w) (left_alone client test lives) where
  by : (here : Bool) → (w.client == client) ≡ here → (if here then Some w else life_of client lives) ≡ None → (stays : Bool)
      → (life_of client lives ≡ None → life_of client (filter test lives) ≡ None)
      → life_of client (cond stays (w ∷ filter test lives) (filter test lives)) ≡ None
  by true e n stays rest = absurd (cc)
  by false e n true rest = rw e (rest n)
  by false e n false rest = rest n

pub life_left : (client : ℕ) (old : Who) (lives : List Who) → OfClients lives → life_of client lives ≡ Some old
    → life_of client (without_lives (old ∷ []) lives) ≡ None
life_left client old [] of found = absurd (cc)
life_left client old (w ∷ lives) of found = by (w.client == client) refl found (is_life w (old ∷ [])) refl
    (life_left client old lives of.1) where
      by : (here : Bool) → (w.client == client) ≡ here → (if here then Some w else life_of client lives) ≡ Some old → (left : Bool)
          → is_life w (old ∷ []) ≡ left
          → (life_of client lives ≡ Some old → life_of client (without_lives (old ∷ []) lives) ≡ None)
          → life_of client (cond (not left) (w ∷ without_lives (old ∷ []) lives) (without_lives (old ∷ []) lives)) ≡ None
      by true e found true f rest = left_alone client (λ x. not (is_life x (old ∷ []))) lives
          (subst (λ n. life_of n lives ≡ None) (eqb-true w.client client e) (no_other w lives of.0))
      by true e found false f rest = absurd (never (sym (here_is (some_is w old found)) ∙ f)) where
        here_is : w ≡ old → is_life w (old ∷ []) ≡ true
        here_is same = subst (λ x. is_life w (x ∷ []) ≡ true) same (rw (same_self w) refl)
      by false e found true f rest = rest found
      by false e found false f rest = rw e (rest found)
