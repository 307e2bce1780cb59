-- Which messages may come, case by case.
use Rattle.std.proofs.Common.{◌≡◌, Bool, true, false, Some, refl, sym, ap, subst, ◌∙◌}
use Rattle.std.specs.Prelude.{◌↔◌, IsTrue}
use Rattle.lu_base.specs.declared.ids.Who.{Who}
use Rattle.lu_msg.specs.declared.messages.LockReplay.{LockReplay}
use Rattle.lu_msg.specs.declared.messages.Message.TheVariants as message
use Rattle.lu_msg.specs.declared.messages.RequestReplay.{RequestReplay}
use Rattle.lu_spec_target.specs.Lives.{is_life}
use Rattle.lu_spec_target.specs.Rows.{lock_again}
use Rattle.lu_spec_target.specs.States.{Target}
use Rattle.lu_target_server.specs.Windows.{State}
use Rattle.lu_spec_target.specs.Windows.{Window}
use Rattle.lu_target_server.specs.Servers.{ServerState}
use Rattle.lu_target_server.specs.Recovering.{Gathers, Recovers, MayReplay, MayBring}
use Rattle.lu_target.specs.Running.{RunningState, IsUp, MayHeed}
use Rattle.lu_target.proofs.Turning.{in_some}

pub freely : {P : Type 0} → P → IsTrue true ↔ P
freely p = (λ t. p, λ q. refl)

-- ---- replays

same_window : (t : RunningState) (w x : State) → t.window ≡ Some w → t.window ≡ Some x → w ≡ x
same_window t w x a b = let both : Some w ≡ Some x = sym a ∙ b in cc

lives_shown : (s : ServerState) (w : State) (v : Target) → Gathers s w v → w.window.lives ≡ v.lives
lives_shown s w v g = ap (λ (it : Window). it.lives) g.window

-- the lives that the window has are those that are shown
window_lives : (t : RunningState) (w : State) (who : Who) (found : Bool) → IsUp t → t.window ≡ Some w
    → ((w : State) (v : Target) → Gathers t.server w v → found ≡ is_life who v.lives)
    → found ≡ is_life who w.window.lives
window_lives t w who found up some says =
    let g = Recovers.gathers (in_some t w up.0 some up.1) in
    says w up.0 g ∙ ap (is_life who) (sym (lives_shown t.server w up.0 g))

pub replay_gone : (t : RunningState) (r : RequestReplay) → IsUp t
    → ((w : State) (v : Target) → Gathers t.server w v → false ≡ is_life r.who v.lives) → MayHeed (message.Replay r) t
replay_gone t r up gone = λ w some own life. let both : false ≡ true = window_lives t w r.who false up some gone ∙ life in absurd (cc)

pub replay_asked : (t : RunningState) (w : State) (r : RequestReplay) (b : Bool) → IsUp t → t.window ≡ Some w → r.boot ≡ t.server.boot
    → ((w : State) (v : Target) → Gathers t.server w v → true ≡ is_life r.who v.lives) → IsTrue b ↔ MayReplay r t.server w.window → IsTrue b
    ↔ MayHeed (message.Replay r) t
replay_asked t w r b up some own life asked = (
  λ is x e o l. subst (λ (it : State). MayReplay r t.server it.window) (same_window t w x some e) (asked.0 is),
  λ may. asked.1 (may w some own (sym (window_lives t w r.who true up some life))),
)

-- ---- locks that are brought

pub lock_gone : (t : RunningState) (r : LockReplay) → IsUp t → ((w : State) (v : Target) → Gathers t.server w v → false
    ≡ is_life r.who v.lives) → MayHeed (message.Lock r) t
lock_gone t r up gone = λ w some own life. let both : false ≡ true = window_lives t w r.who false up some gone ∙ life in absurd (cc)

pub lock_asked : (t : RunningState) (w : State) (r : LockReplay) (b : Bool) → IsUp t → t.window ≡ Some w → r.boot ≡ t.server.boot
    → ((w : State) (v : Target) → Gathers t.server w v → true ≡ is_life r.who v.lives) → IsTrue b
    ↔ MayBring (lock_again r) t.server w.window → IsTrue b ↔ MayHeed (message.Lock r) t
lock_asked t w r b up some own life asked = (
  λ is x e o l. subst (λ (it : State). MayBring (lock_again r) t.server it.window) (same_window t w x some e) (asked.0 is),
  λ may. asked.1 (may w some own (sym (window_lives t w r.who true up some life))),
)
