-- Rows that call back locks, and rows of grants of locks that had waited: what the state keeps stays so.
use Rattle.std.proofs.Common.{◌≡◌, ◌&&◌, Bool, true, false, List, [], ◌∷◌, ◌++◌, None, refl}
use Rattle.std.specs.Prelude.{if◌then◌else◌, All}
use Rattle.std.specs.List.{list_any}
use Rattle.std.proofs.lemmas.List.Elements.{All-filter, All-head, All-tail}
use Rattle.lu_base.specs.declared.locks.Lock.{Lock}
use Rattle.lu_base.specs.declared.locks.Resource.{Resource}
use Rattle.lu_held.specs.Locks.{same_resource}
use Rattle.lu_service.specs.declared.services.Kind.{Kind}
use Rattle.lu_service.specs.declared.services.Kind.TheVariants.{Ost}
use Rattle.lu_spec_entries.specs.Carried.{Called, Glimpse}
use Rattle.lu_spec_entries.specs.Words.{Entry, Block, Grant}
use Rattle.lu_spec_target.specs.Locks.{same_glimpse}
use Rattle.lu_spec_target.specs.States.{Target, after, turn, follow}
use Rattle.lu_spec_target.specs.Replies.{is_called, called, block_of, locks_on, blocks}
use Rattle.lu_spec_target.specs.Queues.{conflicting, blocks_go, grant_message, has_to_wait, grown, grant_entries, grants_go, queue_goes}
use Rattle.lu_spec_target.specs.Queues.{resources_of, queues_go, all_queues_go}
use Rattle.lu_spec_target.specs.Glimpses.{ask_of, glimpses_of}
use Rattle.lu_spec_target.specs.Leaving.{block_again, asks_again, sends_again}
use Rattle.lu_target_invariant.specs.Sound.{IsOfLife, IsSound}
use Rattle.lu_target_invariant.proofs.Entries.{all_quiet, sound_all_quiet, quiet_append, sound_quiet, sound_follow, sound_grant}

-- ---- calling back: in the state v, or in one that came of it

pub blocks_quiet : (v : Target) (locks : List Lock) → all_quiet (blocks v locks) ≡ true
blocks_quiet v [] = refl
blocks_quiet v (l ∷ locks) = by (is_called l.cookie v.called) (blocks_quiet v locks) where
  by : (before : Bool) → all_quiet (blocks v locks) ≡ true → all_quiet
      (if before then blocks v locks else Block (called v l) ∷ block_of v l ∷ blocks v locks) ≡ true
  by true rest = rest
  by false rest = rest

pub sound_blocks : (kind : Kind) (v w : Target) (locks : List Lock) → IsSound kind w → IsSound kind (turn w (blocks v locks))
sound_blocks kind v w locks sound = sound_all_quiet kind w (blocks v locks) (blocks_quiet v locks) sound

blocks_go_quiet : (waiting : List Lock) (v : Target) → all_quiet (blocks_go waiting v) ≡ true
blocks_go_quiet [] v = refl
blocks_go_quiet (l ∷ waiting) v =
    quiet_append (blocks v (conflicting v l)) (blocks_go waiting (turn v (blocks v (conflicting v l)))) (blocks_quiet v (conflicting v l))
    (blocks_go_quiet waiting (turn v (blocks v (conflicting v l))))

pub sound_blocks_go : (kind : Kind) (waiting : List Lock) (v w : Target) → IsSound kind w → IsSound kind (turn w (blocks_go waiting v))
sound_blocks_go kind waiting v w sound = sound_all_quiet kind w (blocks_go waiting v) (blocks_go_quiet waiting v) sound

-- ---- grants of locks on objects that had waited

pub sound_grant_entries : (v w : Target) (l : Lock) → IsOfLife w.lives l → IsSound Ost w → IsSound Ost (turn w (grant_entries v l))
sound_grant_entries v w l life sound = sound_quiet Ost (after w (Grant l None)) (grant_message v l) refl (sound_grant Ost w l tt life sound)

pub sound_grants_go : (ahead later : List Lock) (v : Target) → All (IsOfLife v.lives) later → IsSound Ost v
    → IsSound Ost (turn v (grants_go ahead later v))
sound_grants_go ahead [] v lives sound = sound
sound_grants_go ahead (l ∷ later) v lives sound =
    let g : Lock = grown v (ahead ++ later) l in
    let rest : All (IsOfLife v.lives) later = All-tail (IsOfLife v.lives) l later lives in
    by (has_to_wait v ahead l) (sound_grants_go (ahead ++ l ∷ []) later v rest sound)
    (sound_follow Ost v (grant_entries v g) (grants_go ahead later)
    (sound_grants_go ahead later (turn v (grant_entries v g)) rest
    (sound_grant_entries v v g (All-head (IsOfLife v.lives) l later lives) sound)))
  where
    by : (waits : Bool) → IsSound Ost (turn v (grants_go (ahead ++ l ∷ []) later v))
        → IsSound Ost (turn v (follow v (grant_entries v (grown v (ahead ++ later) l)) (grants_go ahead later)))
        → IsSound Ost (turn v (if waits then grants_go (ahead ++ l ∷ []) later v
        else follow v (grant_entries v (grown v (ahead ++ later) l)) (grants_go ahead later)))
    by true one two = one
    by false one two = two

pub sound_queue_goes : (r : Resource) (v : Target) → IsSound Ost v → IsSound Ost (turn v (queue_goes r v))
sound_queue_goes r v sound =
    let es : List Entry = grants_go [] (locks_on r v.waiting) v in
    let w : Target = turn v es in
    let lives : All (IsOfLife v.lives) (locks_on r v.waiting) =
    All-filter (λ l. same_resource l.resource r) (IsOfLife v.lives) v.waiting sound.waiters in
    sound_follow Ost v es (λ x. blocks_go (locks_on r x.waiting) x)
    (sound_blocks_go Ost (locks_on r w.waiting) w w (sound_grants_go [] (locks_on r v.waiting) v lives sound))

pub sound_queues_go : (rs : List Resource) (v : Target) → IsSound Ost v → IsSound Ost (turn v (queues_go rs v))
sound_queues_go [] v sound = sound
sound_queues_go (r ∷ rs) v sound =
    sound_follow Ost v (queue_goes r v) (queues_go rs) (sound_queues_go rs (turn v (queue_goes r v)) (sound_queue_goes r v sound))

pub sound_all_queues_go : (v : Target) → IsSound Ost v → IsSound Ost (turn v (all_queues_go v))
sound_all_queues_go v sound = sound_queues_go (resources_of v.waiting) v sound

-- ---- what a tick sends again

block_again_quiet : (v : Target) (l : Lock) (before : List Called) → all_quiet (block_again v l before) ≡ true
block_again_quiet v l before = by (is_called l.cookie before && is_called l.cookie v.called) where
  by : (again : Bool) → all_quiet (if again then block_of v l ∷ [] else []) ≡ true
  by true = refl
  by false = refl

asks_again_quiet : (v : Target) (l : Lock) (before : List Glimpse) → all_quiet (asks_again v l before) ≡ true
asks_again_quiet v l [] = refl
asks_again_quiet v l (g ∷ before) = by (list_any (same_glimpse g) v.glimpses) (asks_again_quiet v l before) where
  by : (still : Bool) → all_quiet (asks_again v l before) ≡ true
      → all_quiet (if still then ask_of v l g.request ∷ asks_again v l before else asks_again v l before) ≡ true
  by true rest = rest
  by false rest = rest

sends_again_quiet : (v : Target) (called : List Called) (glimpses : List Glimpse) (locks : List Lock)
    → all_quiet (sends_again v called glimpses locks) ≡ true
sends_again_quiet v called glimpses [] = refl
sends_again_quiet v called glimpses (l ∷ locks) =
    quiet_append (block_again v l called) (asks_again v l (glimpses_of l glimpses) ++ sends_again v called glimpses locks)
    (block_again_quiet v l called)
    (quiet_append (asks_again v l (glimpses_of l glimpses)) (sends_again v called glimpses locks)
    (asks_again_quiet v l (glimpses_of l glimpses)) (sends_again_quiet v called glimpses locks))

pub sound_sends_again : (kind : Kind) (v w : Target) (called : List Called) (glimpses : List Glimpse) (locks : List Lock) → IsSound kind w
    → IsSound kind (turn w (sends_again v called glimpses locks))
sound_sends_again kind v w called glimpses locks sound = sound_all_quiet kind w (sends_again v called glimpses locks)
    (sends_again_quiet v called glimpses locks) sound
