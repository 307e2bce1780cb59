-- Requests at an object storage target: what the state keeps stays so, where no glimpse is for the request.
use Rattle.std.proofs.Common.{◌≡◌, ℕ, ◌==◌, ◌&&◌, Bool, true, false, [], ◌∷◌, Option, Some, None, refl, nat_lt}
use Rattle.std.specs.Prelude.{if◌then◌else◌, All}
use Rattle.std.proofs.lemmas.List.Elements.{All-nil}
use Rattle.lu_base.specs.declared.ids.At.{At}
use Rattle.lu_base.specs.declared.locks.Extent.{Extent}
use Rattle.lu_base.specs.declared.locks.Lock.{Lock}
use Rattle.lu_base.specs.declared.locks.Mode.TheVariants.{PR, PW}
use Rattle.lu_base.specs.declared.locks.Resource.{Resource}
use Rattle.lu_lock.specs.Growth.{the_end}
use Rattle.lu_lock.specs.Modes.{serves}
use Rattle.lu_lock.specs.Overlap.{extents_meet}
use Rattle.lu_spec_machine.specs.Objects.{page_extent, content}
use Rattle.lu_msg.specs.declared.answers.Answer.{Answer}
use Rattle.lu_msg.specs.declared.answers.Answer.TheVariants as told
use Rattle.lu_msg.specs.declared.messages.Request.{Request}
use Rattle.lu_msg.specs.declared.operations.Op.{Op}
use Rattle.lu_msg.specs.declared.operations.Op.TheVariants as op
use Rattle.lu_service.specs.declared.services.Kind.{Kind}
use Rattle.lu_service.specs.declared.services.Kind.TheVariants.{Ost}
use Rattle.lu_spec_entries.specs.Carried.{Deed, Glimpse}
use Rattle.lu_spec_entries.specs.Words.{Act, Txn, Grant, Wait, Answers, Asks}
use Rattle.lu_spec_target.specs.States.{Target, after, turn}
use Rattle.lu_spec_target.specs.Replies.{replies, locks_on}
use Rattle.lu_spec_target.specs.Queues.{object, size_of, extent_of, has_to_wait, grown, blocks_go}
use Rattle.lu_spec_target.specs.Glimpses.{answered, row_sizes, row_answers, row_locked, highest, ask_of, row_asks, row_size}
use Rattle.lu_spec_target.specs.Objects.{lock_for, row_granted, row_waiting, row_enqueue, lock_of, row_uncovered, row_get, lies_in, written}
use Rattle.lu_spec_target.specs.Objects.{row_written, row_write, put_extent, cut_extent, objects_go}
use Rattle.lu_target_invariant.specs.Requests.{request_of}
use Rattle.lu_target_invariant.specs.Sound.{IsTaken, IsOfLife, IsSound}
use Rattle.lu_target_invariant.proofs.Requests.{found_holds}
use Rattle.lu_target_invariant.proofs.Taken.{NoneAsks}
use Rattle.lu_target_invariant.proofs.Entries.{sound_quiet, sound_follow, IsUnasked, none_asks, sound_act, sound_txn, sound_answers}
use Rattle.lu_target_invariant.proofs.Entries.{sound_granted, sound_waits, sound_asks}
use Rattle.lu_target_invariant.proofs.Blocks.{sound_blocks_go}

-- ---- a request is answered: w is the state, v that of which the answer tells

pub sound_row_answers : (kind : Kind) (w : Target) (d : Deed) → NoneAsks d w.glimpses → IsSound kind w
    → IsSound kind (turn w (row_answers d))
sound_row_answers kind w d none sound = sound_quiet kind (after w (Answers d)) (replies d) refl (sound_answers kind w d none sound)

pub sound_answered : (v w : Target) (at : At) (r : Request) (answer : Answer) → IsUnasked r w.glimpses → IsSound Ost w
    → IsSound Ost (turn w (row_answers (answered v at r answer)))
sound_answered v w at r answer unasked sound = let d = answered v at r answer
    in sound_row_answers Ost w d (none_asks d r w.glimpses refl refl unasked) sound

pub sound_locked : (v w : Target) (at : At) (r : Request) → IsUnasked r w.glimpses → IsSound Ost w
    → IsSound Ost (turn w (row_locked v at r))
sound_locked v w at r unasked sound = sound_answered v w at r told.Lock unasked sound

pub sound_sizes : (w : Target) (d : Deed) → All (IsOfLife w.lives) d.reply.locks → NoneAsks d w.glimpses → IsSound Ost w
    → IsSound Ost (turn w (row_sizes d))
sound_sizes w d lives none sound = sound_quiet Ost (after w (Act d)) (replies d) refl (sound_act Ost w d tt lives none sound)

pub sound_written : (kind : Kind) (w : Target) (d : Deed) → NoneAsks d w.glimpses → IsSound kind w → IsSound kind (turn w (row_written d))
sound_written kind w d none sound = sound_quiet kind (after w (Txn d)) (replies d) refl (sound_txn kind w d none sound)

-- ---- a lock is asked for

pub sound_row_granted : (v : Target) (at : At) (r : Request) (l : Lock) → IsOfLife v.lives l → IsUnasked r v.glimpses → IsSound Ost v
    → IsSound Ost (turn v (row_granted v at r l))
sound_row_granted v at r l life unasked sound =
    let d = answered v at r (told.Granted l.cookie (extent_of l) (size_of v l.resource)) in
    sound_quiet Ost (after v (Grant l (Some d))) (replies d) refl
    (sound_granted Ost v l d tt life (none_asks d r v.glimpses refl refl unasked) sound)

-- it waits, before the locks in its way are called back
pub sound_waiting_lines : (v w : Target) (at : At) (r : Request) (l : Lock) → IsOfLife w.lives l → IsUnasked r w.glimpses → IsSound Ost w
    → (let d = answered v at r (told.Waiting l.cookie) in IsSound Ost (turn w (Wait l d ∷ replies d ∷ [])))
sound_waiting_lines v w at r l life unasked sound =
    let d = answered v at r (told.Waiting l.cookie) in
    sound_quiet Ost (after w (Wait l d)) (replies d) refl (sound_waits w l d life (none_asks d r w.glimpses refl refl unasked) sound)

pub sound_row_waiting : (v : Target) (at : At) (r : Request) (l : Lock) → IsOfLife v.lives l → IsUnasked r v.glimpses → IsSound Ost v
    → IsSound Ost (turn v (row_waiting v at r l))
sound_row_waiting v at r l life unasked sound =
    let d = answered v at r (told.Waiting l.cookie) in
    let w = turn v (Wait l d ∷ replies d ∷ []) in
    sound_follow Ost v (Wait l d ∷ replies d ∷ []) (λ x. blocks_go (locks_on l.resource x.waiting) x)
    (sound_blocks_go Ost (locks_on l.resource w.waiting) w w (sound_waiting_lines v v at r l life unasked sound))

pub sound_enqueue : (v : Target) (at : At) (r : Request) (l : Lock) → IsOfLife v.lives l → IsUnasked r v.glimpses → IsSound Ost v
    → IsSound Ost (turn v (row_enqueue v at r l))
sound_enqueue v at r l life unasked sound =
    by (has_to_wait v (locks_on l.resource v.waiting) l) (sound_row_waiting v at r l life unasked sound)
    (sound_row_granted v at r (grown v (locks_on l.resource v.waiting) l) life unasked sound) where
      by : (waits : Bool) → IsSound Ost (turn v (row_waiting v at r l))
          → IsSound Ost (turn v (row_granted v at r (grown v (locks_on l.resource v.waiting) l)))
          → IsSound Ost (turn v (if waits then row_waiting v at r l else row_granted v at r (grown v (locks_on l.resource v.waiting) l)))
      by true one two = one
      by false one two = two

-- ---- bytes

pub sound_uncovered : (v : Target) (at : At) (r : Request) → IsUnasked r v.glimpses → IsSound Ost v
    → IsSound Ost (turn v (row_uncovered v at r))
sound_uncovered v at r unasked sound = sound_answered v v at r told.Uncovered unasked sound

pub sound_get : (v : Target) (at : At) (r : Request) (resource : Resource) (page : ℕ) (found : Option Lock) → IsUnasked r v.glimpses
    → IsSound Ost v
    → IsSound Ost (turn v (row_get v at r resource page found))
sound_get v at r resource page None unasked sound = sound_uncovered v at r unasked sound
sound_get v at r resource page (Some l) unasked sound = by (serves l.ask.mode PR && extents_meet (extent_of l) (page_extent page)) where
  answer : Answer
  answer = told.Content (content page (extent_of l) (object v resource))

  by : (covers : Bool) → IsSound Ost (turn v (if covers then row_answers (answered v at r answer) else row_uncovered v at r))
  by true = sound_answered v v at r answer unasked sound
  by false = sound_uncovered v at r unasked sound

pub sound_write : (v : Target) (at : At) (r : Request) (extent : Extent) (found : Option Lock) → IsUnasked r v.glimpses → IsSound Ost v
    → IsSound Ost (turn v (row_write v at r extent found))
sound_write v at r extent None unasked sound = sound_uncovered v at r unasked sound
sound_write v at r extent (Some l) unasked sound = by (serves l.ask.mode PW && lies_in extent (extent_of l)) where
  by : (covers : Bool) → IsSound Ost (turn v (if covers then row_written (written v at r) else row_uncovered v at r))
  by true = sound_written Ost v (written v at r) (none_asks (written v at r) r v.glimpses refl refl unasked) sound
  by false = sound_uncovered v at r unasked sound

-- ---- how long an object is

-- the request asks for that, and waits
pub sound_row_asks : (v w : Target) (r : Request) (resource : Resource) (l : Lock) → request_of r.who r.xid w.queue ≡ Some r → r.op
    ≡ op.Size resource → IsUnasked r w.glimpses
    → IsSound Ost w → IsSound Ost (turn w (row_asks v r resource l))
sound_row_asks v w r resource l waits sizes unasked sound =
    let g : Glimpse = record { cookie = l.cookie; resource = resource; request = r } in
    sound_quiet Ost (after w (Asks g)) (ask_of v l r) refl (sound_asks w g (record { waits = waits; sizes = sizes }) unasked sound)

pub sound_size : (v : Target) (at : At) (r : Request) (resource : Resource) (found : Option Lock) → request_of r.who r.xid v.queue ≡ Some r
    → r.op ≡ op.Size resource
    → IsUnasked r v.glimpses → IsSound Ost v → IsSound Ost (turn v (row_size v at r resource found))
sound_size v at r resource None waits sizes unasked sound =
    let d = answered v at r (told.Size (size_of v resource)) in
    sound_sizes v d (All-nil (IsOfLife v.lives)) (none_asks d r v.glimpses refl refl unasked) sound
sound_size v at r resource (Some l) waits sizes unasked sound =
    by ((extent_of l).last == the_end) (nat_lt (extent_of l).last (size_of v resource)) where
      d : Deed
      d = answered v at r (told.Size (size_of v resource))

      by : (ends past : Bool) → IsSound Ost (turn v (if ends then row_asks v r resource l
          else (if past then row_sizes d else row_locked v at r)))
      by true past = sound_row_asks v v r resource l waits sizes unasked sound
      by false true = sound_sizes v d (All-nil (IsOfLife v.lives)) (none_asks d r v.glimpses refl refl unasked) sound
      by false false = sound_locked v v at r unasked sound

-- ---- all of them

pub sound_objects : (v : Target) (at : At) (r : Request) (o : Op) → r.op ≡ o → request_of r.who r.xid v.queue ≡ Some r
    → IsUnasked r v.glimpses → IsSound Ost v
    → IsSound Ost (turn v (objects_go v at r o))
sound_objects v at r (op.Enqueue resource mode extent) is waits unasked sound = sound_enqueue v at r (lock_for v r resource mode extent)
    (found_holds (IsTaken Ost v) r.who r.xid v.queue r sound.queue waits).life unasked sound
sound_objects v at r (op.Get resource cookie page) is waits unasked sound =
    sound_get v at r resource page (lock_of r.who cookie (locks_on resource v.granted)) unasked sound
sound_objects v at r (op.Put resource cookie offset bytes) is waits unasked sound =
    sound_write v at r (put_extent offset bytes) (lock_of r.who cookie (locks_on resource v.granted)) unasked sound
sound_objects v at r (op.Cut resource cookie size) is waits unasked sound =
    sound_write v at r (cut_extent size) (lock_of r.who cookie (locks_on resource v.granted)) unasked sound
sound_objects v at r (op.Size resource) is waits unasked sound =
    sound_size v at r resource (highest (locks_on resource v.granted)) waits is unasked sound
sound_objects v at r _ is waits unasked sound = sound
