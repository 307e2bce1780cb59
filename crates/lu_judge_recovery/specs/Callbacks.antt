-- The granted locks and the calls of targets, and that tables show them.
use Rattle.std.specs.Prelude.{◌≡◌, ℕ, Bool, false, not, ◌==◌, ◌&&◌, ◌||◌, Option, Some, None, List, []}
use Rattle.std.specs.List.{list_any}
use Rattle.std.specs.HashMap.{get_by}
use Rattle.lu_base.specs.declared.ids.Who.{Who}
use Rattle.lu_spec_machine.specs.Tree.{same_life}
use Rattle.lu_spec_laws.specs.Words.Pasts.{Past}
use Rattle.lu_spec_laws.specs.Words.Queues.{granted}
use Rattle.lu_spec_laws.specs.Words.CalledBack.{is_granted_to, was_called_back}
use Rattle.lu_judge_recovery.specs.Turns.{turn_at}
use Rattle.lu_judge_recovery.specs.declared.callbacks.Calls.{Calls}
use Rattle.lu_judge_recovery.specs.declared.callbacks.Called.{Called}
use Rattle.lu_judge_recovery.specs.declared.callbacks.Callbacks.{Callbacks}
use Rattle.lu_judge_recovery.specs.declared.callbacks.Holders.{Holders}
use Rattle.lu_judge_recovery.specs.declared.callbacks.TargetCalls.{TargetCalls}

abbrev pub lives_of : Holders → ℕ → List Who
lives_of h cookie = elim (get_by (λ k. cookie == k) h.by_cookie) [ None ↦ [] | Some lives ↦ lives.items ]

abbrev pub is_held : Holders → ℕ → Who → Bool
is_held h cookie who = list_any (λ (w : Who). same_life w who) (lives_of h cookie)

-- at another stamp than this one
abbrev pub is_called : Option Calls → ℕ → Bool
is_called None s = false
is_called (Some calls) s = not (calls.stamp == s) || calls.several

abbrev pub was_called : Called → Who → ℕ → Bool
was_called c who s = is_called (get_by (λ k. who.client == k.0 && who.life == k.1) c.by_life) s

pub record ShowsTarget (c : TargetCalls) (t : ℕ) (past : Past) : Type 0 where
  pub held : (cookie : ℕ) (who : Who) → is_held c.holders cookie who ≡ is_granted_to who cookie (granted t past)
  pub called : (who : Who) (s : ℕ) → was_called c.called who s ≡ was_called_back t who (turn_at s t) past

-- where there is no table, nothing is granted and no life was called back
pub record ShowsNothing (t : ℕ) (past : Past) : Type 0 where
  pub held : (cookie : ℕ) (who : Who) → is_granted_to who cookie (granted t past) ≡ false
  pub called : (who : Who) (s : ℕ) → was_called_back t who (turn_at s t) past ≡ false

abbrev pub ShowsHere : Option TargetCalls → ℕ → Past → Type 0
ShowsHere None t past = ShowsNothing t past
ShowsHere (Some c) t past = ShowsTarget c t past

abbrev pub target_of : Callbacks → ℕ → Option TargetCalls
target_of c t = get_by (λ k. t == k) c.by_target

abbrev pub ShowsCallbacks : Callbacks → Past → Type 0
ShowsCallbacks c past = (t : ℕ) → ShowsHere (target_of c t) t past

abbrev pub called_here : Option TargetCalls → Who → ℕ → Bool
called_here None who s = false
called_here (Some c) who s = was_called c.called who s

abbrev pub was_called_in : Callbacks → ℕ → ℕ → Who → Bool
was_called_in c s t who = called_here (target_of c t) who s
