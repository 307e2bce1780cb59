-- The holders of locks that were called back have slots.
use Rattle.std.proofs.Common.{◌≡◌, ◌||◌, ◌==◌, Bool, true, false, List, [], ◌∷◌, refl, subst}
use Rattle.std.specs.Prelude.{All}
use Rattle.std.specs.List.{list_any}
use Rattle.std.proofs.lemmas.List.Elements.{All-head, All-tail}
use Rattle.lu_base.specs.declared.ids.Who.{Who}
use Rattle.lu_base.specs.declared.locks.Lock.{Lock}
use Rattle.lu_callback.specs.declared.callbacks.Asked.{Asked}
use Rattle.lu_spec_machine.specs.Footprint.{Every}
use Rattle.lu_service.specs.declared.services.Kind.{Kind}
use Rattle.lu_spec_entries.specs.Carried.{Called}
use Rattle.lu_spec_entries.specs.Words.{same_life}
use Rattle.lu_spec_target.specs.Lives.{is_life}
use Rattle.lu_spec_target.specs.Leaving.{condemned}
use Rattle.lu_spec_target.specs.States.{Target}
use Rattle.lu_target_refines.specs.Batches.{AreAmong}
use Rattle.lu_target_refines.specs.Callbacks.{holds, ShowsCalls}
use Rattle.lu_target_refines.proofs.Slots.{one_life, both}
use Rattle.lu_target_refines.proofs.Closings.{AllHolders, condemned_among}
use Rattle.lu_target_invariant.specs.Sound.{IsOfLife, IsSound}

holder_lives : (lives : List Who) (c : Called) (locks : List Lock) → All (IsOfLife lives) locks → list_any (holds c) locks ≡ true
    → is_life c.who lives ≡ true
holder_lives lives c [] all some = absurd (cc)
holder_lives lives c (l ∷ locks) all some = by (holds c l) refl some
    (holder_lives lives c locks (All-tail (IsOfLife lives) l locks all)) where
      by : (here : Bool) → holds c l ≡ here → (here || list_any (holds c) locks) ≡ true
          → (list_any (holds c) locks ≡ true → is_life c.who lives ≡ true) → is_life c.who lives ≡ true
      by true e some rest =
          let own = both (l.cookie.0 == c.cookie.0) (same_life l.ask.who c.who) e in
          subst (λ who. is_life who lives ≡ true) (one_life l.ask.who c.who own.1) (All-head (IsOfLife lives) l locks all)
      by false e some rest = rest some

all_live : (lives : List Who) (locks : List Lock) (cs : List Called) → All (IsOfLife lives) locks
    → Every (λ c. list_any (holds c) locks ≡ true) cs → AllHolders lives cs
all_live lives locks [] all held = tt
all_live lives locks (c ∷ cs) all held = (holder_lives lives c locks all held.0, all_live lives locks cs all held.1)

pub holders_live : (kind : Kind) (asked : List Asked) (v : Target) → ShowsCalls asked v → IsSound kind v → AllHolders v.lives v.called
holders_live kind asked v shows sound = all_live v.lives v.granted v.called sound.holders shows.holders

-- so those who are condemned at a tick have slots
pub condemned_live : (kind : Kind) (asked : List Asked) (v : Target) → ShowsCalls asked v → IsSound kind v
    → AreAmong v.lives (condemned v v.called)
condemned_live kind asked v shows sound = condemned_among v v.lives v.called (holders_live kind asked v shows sound)
