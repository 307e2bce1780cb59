-- What waited goes on: locks that are granted, and locks that are called back.
use Rattle.std.proofs.Common.{◌≡◌, ℕ, ◌==◌, Bool, true, false, List, [], ◌∷◌, ◌++◌, refl, sym, ap, subst, ◌∙◌}
use Rattle.std.specs.Prelude.{if◌then◌else◌}
use Rattle.lu_base.specs.declared.ids.At.{At}
use Rattle.lu_base.specs.declared.locks.Lock.{Lock}
use Rattle.lu_base.specs.declared.locks.Resource.{Resource}
use Rattle.lu_queue.specs.declared.locks.Grant.{Grant}
use Rattle.lu_service.specs.declared.services.Kind.{Kind}
use Rattle.lu_service.specs.declared.services.Kind.TheVariants.{Mdt, Ost}
use Rattle.lu_trace.specs.Turns.{Making}
use Rattle.lu_spec_entries.specs.Words.{Entry}
use Rattle.lu_lockspace.specs.Spaces.{lock_on}
use Rattle.lu_spec_target.specs.Replies.{locks_on}
use Rattle.lu_spec_target.specs.Names.{names_go}
use Rattle.lu_spec_target.specs.Queues.{grants_go, blocks_go, queue_goes, all_queues_go}
use Rattle.lu_spec_target.specs.Requests.{goes_on}
use Rattle.lu_spec_target.specs.Leaving.{all_go}
use Rattle.lu_spec_target.specs.States.{Target, turn, follow, is_names}
use Rattle.lu_target_refines.specs.Locks.{grants_told}
use Rattle.lu_target_locks.specs.declared.departing.QueueStep.{QueueStep}
use Rattle.lu_target_locks.specs.declared.departing.QueueStep.TheVariants as step
use Rattle.lu_target_locks.specs.Departing.{steps_told}
use Rattle.lu_target_locks.specs.Servers as locking
use Rattle.lu_target_locks.specs.Servers.{ServerState as LockState, AreCalledBack, blocks_told}
use Rattle.lu_target_invariant.specs.Sound.{IsSound}
use Rattle.lu_target_invariant.proofs.Blocks.{sound_queue_goes, sound_all_queues_go}
use Rattle.lu_spec_entries.specs.Given.{giving}
use Rattle.lu_target_server.specs.Servers.{ServerState, Shows, Stands, Makes}
use Rattle.lu_spec_target.specs.Rows.{overruns}
use Rattle.lu_target_server.specs.Numbers.{Overruns, OverrunsRest}
use Rattle.lu_target_server.specs.Middles.{ShowsRest, MakesRest}
use Rattle.lu_target_server.specs.Releases.{QueueGoesOn, GoesOn}
use Rattle.lu_target_server.proofs.Composing.{giving_more, turn_more}
use Rattle.lu_target_server.proofs.Middles.{whole, with_locks, names_row, all_beside, beside_append, beside_all, rest_beside}

steps_beside : (v : Target) (steps : List QueueStep) → all_beside (steps_told v steps) ≡ true
steps_beside v [] = refl
steps_beside v (step.Granted l ∷ steps) = steps_beside v steps
steps_beside v (step.Called l ∷ steps) = steps_beside v steps

grants_beside : (r : Resource) (v : Target) (grants : List Grant) → all_beside (grants_told r v grants) ≡ true
grants_beside r v [] = refl
grants_beside r v (grant ∷ grants) = grants_beside r v grants

blocks_beside : (v : Target) (locks : List Lock) → all_beside (blocks_told v locks) ≡ true
blocks_beside v [] = refl
blocks_beside v (l ∷ locks) = blocks_beside v locks

pub grants_boot : (r : Resource) (w : Target) (grants : List Grant) → (turn w (grants_told r w grants)).boot ≡ w.boot
grants_boot r w grants = (beside_all w (grants_told r w grants) (grants_beside r w grants)).same.boot

-- ---- one more of each

pub steps_more : (v : Target) (steps : List QueueStep) (s : QueueStep) → steps_told v (steps ++ s ∷ []) ≡ steps_told v steps
    ++ steps_told v (s ∷ [])
steps_more v [] s = refl
steps_more v (step.Granted l ∷ steps) s = ap (λ (es : List Entry). steps_told v (step.Granted l ∷ []) ++ es) (steps_more v steps s)
steps_more v (step.Called l ∷ steps) s = ap (λ (es : List Entry). steps_told v (step.Called l ∷ []) ++ es) (steps_more v steps s)

pub grants_more : (r : Resource) (v : Target) (grants : List Grant) (g : Grant) → grants_told r v (grants ++ g ∷ [])
    ≡ grants_told r v grants ++ grants_told r v (g ∷ [])
grants_more r v [] g = refl
grants_more r v (grant ∷ grants) g = ap (λ (es : List Entry). grants_told r v (grant ∷ []) ++ es) (grants_more r v grants g)

-- ---- all queues

objects_sound : (kind : Kind) (v w : Target) → kind ≡ Ost → (IsSound Ost v → IsSound Ost w) → IsSound kind v → IsSound kind w
objects_sound kind v w is next sound = subst (λ (k : Kind). IsSound k w) (sym is) (next (subst (λ (k : Kind). IsSound k v) is sound))

pub queues_went : (s : ServerState) (u : Target) (steps : List QueueStep) (before afterwards : Making) → s.kind ≡ Ost → GoesOn steps s u
    → afterwards ≡ giving before (steps_told u steps)
    → MakesRest (all_queues_go u) u s before afterwards
queues_went s u steps before afterwards is goes gives = record {
  gives = gives ∙ ap (giving before) (sym goes.told);
  shows = whole s w (rest_beside s u w (beside_all u (all_queues_go u) (ap all_beside goes.told ∙ steps_beside u steps))
      (objects_sound s.kind u w is (sound_all_queues_go u) goes.rest.sound) goes.rest) goes.shows;
} where
  w : Target
  w = turn u (all_queues_go u)

pub all_went_objects : (s now : ServerState) (u : Target) (at : At) (steps : List QueueStep) (before afterwards : Making) → s.kind ≡ Ost
    → (s.id == 0) ≡ false → GoesOn steps s u
    → now ≡ s → afterwards ≡ giving before (steps_told u steps) → MakesRest (all_go at u) u now before afterwards
all_went_objects s now u at steps before afterwards is test goes same gives =
    subst (λ (it : ServerState). MakesRest (all_go at u) u it before afterwards) (sym same)
    (subst (λ (names : Bool). MakesRest (if names then names_go at u else all_queues_go u) u s before afterwards)
    (sym (names_row s.id u goes.rest.id ∙ test))
    (queues_went s u steps before afterwards is goes gives))

-- the requests at a target of names
pub names_stand : (s : ServerState) (u : Target) (steps : List QueueStep) → s.kind ≡ Mdt → GoesOn steps s u → Shows s u
names_stand s u steps is goes = whole s u goes.rest (goes.names is)

pub all_went_names : (s now : ServerState) (u : Target) (at : At) (steps : List QueueStep) (before afterwards : Making) → s.kind ≡ Mdt
    → (s.id == 0) ≡ true → GoesOn steps s u
    → Makes (names_go at) s now before afterwards → MakesRest (all_go at u) u now before afterwards
all_went_names s now u at steps before afterwards is test goes makes =
    let shows : Shows s u = names_stand s u steps is goes in
    subst (λ (names : Bool). MakesRest (if names then names_go at u else all_queues_go u) u now before afterwards)
    (sym (names_row s.id u goes.rest.id ∙ test))
    (record { gives = makes.gives u shows; shows = makes.shows u shows })

pub all_over : (s : ServerState) (at : At) (steps : List QueueStep) → ((u : Target) → GoesOn steps s u → s.kind ≡ Mdt) → (s.id == 0) ≡ true
    → Overruns (names_go at) s → OverrunsRest at steps s
all_over s at steps is test over = λ u goes.
    subst (λ (names : Bool). overruns u (if names then names_go at u else all_queues_go u) ≡ true)
    (sym (names_row s.id u goes.rest.id ∙ test))
    (over u (names_stand s u steps (is u goes) goes))

-- ---- the queue of one resource

pub queue_went : (s now : ServerState) (w : Target) (r : Resource) (granted : List Grant) (locks : List Lock)
    (before between afterwards : Making) → s.kind ≡ Ost → QueueGoesOn r granted s w
    → now ≡ record s { locks = now.locks } → AreCalledBack r locks s.locks now.locks → between ≡ giving before (grants_told r w granted)
    → afterwards ≡ giving between (blocks_told (turn w (grants_told r w granted)) locks)
    → MakesRest (queue_goes r w) w now before afterwards
queue_went s now w r granted locks before between afterwards is goes same called one two =
    let grants : List Entry = grants_told r w granted in
    let x : Target = turn w grants in
    let blocks : List Entry = blocks_go (locks_on r x.waiting) x in
    let row : queue_goes r w ≡ grants ++ blocks = ap (λ (es : List Entry). follow w es (λ y. blocks_go (locks_on r y.waiting) y)) goes.told
    in
    let told : blocks ≡ blocks_told x locks = called.told x goes.shows in
    let last : Target = turn w (grants ++ blocks) in
    let quiet : all_beside (grants ++ blocks) ≡ true = beside_append grants blocks (grants_beside r w granted)
    (ap all_beside told ∙ blocks_beside x locks) in
    let sound : IsSound s.kind last = subst (λ (es : List Entry). IsSound s.kind (turn w es)) row
    (objects_sound s.kind w (turn w (queue_goes r w)) is (sound_queue_goes r w) goes.rest.sound) in
    let rest : ShowsRest s last = rest_beside s w last (beside_all w (grants ++ blocks) quiet) sound goes.rest in
    let shown : locking.Shows now.locks last = subst (locking.Shows now.locks) (sym (turn_more w grants blocks)) (called.shows x goes.shows)
    in
    let there : ShowsRest now last = subst (λ (it : ServerState). ShowsRest it last) (sym same) (with_locks s now.locks last rest) in
    record {
      gives = two ∙ ap (λ (making : Making). giving making (blocks_told x locks)) one ∙ giving_more before grants (blocks_told x locks)
          ∙ ap (λ (es : List Entry). giving before (grants ++ es)) (sym told) ∙ ap (giving before) (sym row);
      shows = subst (λ (es : List Entry). Shows now (turn w es)) (sym row) (whole now last there shown);
    }
