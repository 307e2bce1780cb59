-- Which replays and locks may be taken of a life that comes back.
use Rattle.std.proofs.Common.{◌≡◌, ℕ, ◌<◌, ◌≤◌, Bool, true, false, sym, ap, ◌∙◌, arith}
use Rattle.std.specs.Prelude.{IsTrue, ◌↔◌}
use Rattle.lu_base.specs.declared.ids.Who.{Who}
use Rattle.lu_base.specs.declared.locks.Lock.{Lock}
use Rattle.lu_lock.specs.Overlap.{IsOrdered}
use Rattle.lu_msg.specs.Limits.{tag_count}
use Rattle.lu_msg.specs.declared.messages.RequestReplay.{RequestReplay}
use Rattle.lu_target_redo.specs.Shown.{IsRepeatable}
use Rattle.lu_spec_target.specs.Kept.{replayed}
use Rattle.lu_spec_target.specs.Lives.{is_life}
use Rattle.lu_spec_target.specs.Phase.{first_of}
use Rattle.lu_spec_target.specs.States.{Target}
use Rattle.lu_spec_target.specs.Windows.{Window}
use Rattle.lu_window.specs.States.{State}
use Rattle.lu_target_server.specs.Servers.{ServerState}
use Rattle.lu_target_server.specs.Recovering.{IsOnlyReplay, IsOnlyLock, IsLockOf, MayReplay, MayBring, Gathers, Awaits}

-- ---- a target that waits

-- the lives that have a slot are the window's
pub served_of : (s : ServerState) (w : State) (who : Who) (served : Bool) → Awaits s w
    → ((x : State) (v : Target) → Gathers s x v → served ≡ is_life who v.lives)
    → served ≡ is_life who w.window.lives
served_of s w who served awaits is =
    let gathers = awaits.1.gathers in
    is w awaits.0 gathers ∙ sym (ap (λ (it : Window). is_life who it.lives) gathers.window)

-- ---- all that is asked

-- no test failed but the last
pub may_replay : (b : Bool) (r : RequestReplay) (s : ServerState) (w : Window) → is_life r.who w.lives ≡ true → r.txn.0 ≤ first_of s.boot
    → r.tag < tag_count → IsRepeatable s.kind r.op
    → 1 < r.txn.0 → (IsTrue b ↔ IsOnlyReplay (replayed r) w.replays) → (IsTrue b ↔ MayReplay r s w)
may_replay b r s w life earlier tag repeatable late only = (
  λ t. record { is = record { life = life; earlier = earlier; tag = tag; repeatable = repeatable }; late = late; only = only.0 t },
  λ may. only.1 may.only,
)

pub may_bring : (b : Bool) (l : Lock) (s : ServerState) (w : Window) → is_life l.ask.who w.lives ≡ true → l.cookie.0 ≤ first_of s.boot
    → IsOrdered l.ask.policy → IsLockOf s.kind l
    → (IsTrue b ↔ IsOnlyLock l w.brought) → (IsTrue b ↔ MayBring l s w)
may_bring b l s w life earlier ordered sort only = (
  λ t. record { is = record { life = life; earlier = earlier; ordered = ordered; sort = sort }; only = only.0 t },
  λ may. only.1 may.only,
)

-- a test failed
pub fails : (b : Bool) (A : Type 0) → b ≡ false → (IsTrue b ↔ A) → A → false ≡ true
fails b A e test it = let t : b ≡ true = test.1 it in absurd (cc)

pub unserved : (served life : Bool) → served ≡ life → served ≡ false → life ≡ true → false ≡ true
unserved served life is e has = absurd (cc)

pub too_great : (n most : ℕ) → most ≤ n → n < most → false ≡ true
too_great n most a b = absurd (omega (arith, a, b))

pub not_both : {X : Type 0} → (b : Bool) → b ≡ true → b ≡ false → X
not_both true t f = absurd (cc)
not_both false t f = absurd (cc)
