-- Requests at the metadata target: what the state keeps stays so.
use Rattle.std.proofs.Common.{◌≡◌, ℕ, zero, suc, ◌+◌, ◌||◌, Bool, true, false, not, List, [], ◌∷◌, Some, refl, sym, subst}
use Rattle.std.specs.Prelude.{if◌then◌else◌, length, All}
use Rattle.std.proofs.lemmas.List.Elements.{All-cons, All-head, All-tail, All-nil, All-weaker}
use Rattle.lu_base.specs.declared.ids.At.{At}
use Rattle.lu_base.specs.declared.ids.Who.{Who}
use Rattle.lu_base.specs.declared.locks.Lock.{Lock}
use Rattle.lu_spec_machine.specs.Footprint.{grants}
use Rattle.lu_msg.specs.declared.messages.Request.{Request}
use Rattle.lu_part.specs.declared.parts.Want.{Want}
use Rattle.lu_service.specs.declared.services.Kind.{Kind}
use Rattle.lu_service.specs.declared.services.Kind.TheVariants.{Mdt}
use Rattle.lu_spec_entries.specs.Carried.{Deed}
use Rattle.lu_spec_entries.specs.Words.{Entry, Act, Txn, Grant}
use Rattle.lu_spec_target.specs.Lives.{is_life}
use Rattle.lu_spec_target.specs.States.{Target, after, turn, follow}
use Rattle.lu_spec_target.specs.Replies.{none, next_number, replies, blocks}
use Rattle.lu_spec_target.specs.Names.{is_read, asked, does_change, in_way, written_by, is_ready, locks_from, locks_for, names_deed}
use Rattle.lu_spec_target.specs.Names.{grant_lines, row_acts, row_transacts, row_executes, row_waits, row_pass, row_sweep, names_go}
use Rattle.lu_target_invariant.specs.Sound.{IsTaken, IsForReading, IsOfLife, IsSound}
use Rattle.lu_target_invariant.proofs.Entries.{all_quiet, sound_quiet, sound_all_quiet, lives_all_quiet, sound_then, sound_follow}
use Rattle.lu_target_invariant.proofs.Entries.{none_asks_names, sound_act, sound_txn, sound_granted}
use Rattle.lu_target_invariant.proofs.Blocks.{blocks_quiet}

-- ---- an execution

pub reading_from : (cookie : ℕ) (who : Who) (wants : List Want) → All IsForReading (locks_from cookie who wants)
reading_from cookie who [] = All-nil IsForReading
reading_from cookie who (want ∷ wants) = All-cons IsForReading _ (locks_from (cookie + 1) who wants) refl
    (reading_from (cookie + 1) who wants)

-- they are of the life of the request
pub lives_from : (cookie : ℕ) (who : Who) (wants : List Want) (lives : List Who) → is_life who lives ≡ true
    → All (IsOfLife lives) (locks_from cookie who wants)
lives_from cookie who [] lives life = All-nil (IsOfLife lives)
lives_from cookie who (want ∷ wants) lives life = All-cons (IsOfLife lives) _ (locks_from (cookie + 1) who wants) life
    (lives_from (cookie + 1) who wants lives life)

pub sound_grant_lines : (v : Target) (d : Deed) (locks : List Lock) → All IsForReading locks → All (IsOfLife v.lives) locks → IsSound Mdt v
    → IsSound Mdt (turn v (grant_lines d locks))
sound_grant_lines v d [] reads lives sound = sound
sound_grant_lines v d (l ∷ locks) reads lives sound =
    sound_grant_lines (after v (Grant l (Some d))) d locks (All-tail IsForReading l locks reads) (All-tail (IsOfLife v.lives) l locks lives)
    (sound_granted Mdt v l d (All-cons IsForReading l [] (All-head IsForReading l locks reads) (All-nil IsForReading))
    (All-head (IsOfLife v.lives) l locks lives)
    (none_asks_names d v sound) sound)

-- the locks of an act are for reading, and of lives with slots
pub sound_acts : (v : Target) (d : Deed) → All IsForReading d.reply.locks → All (IsOfLife v.lives) d.reply.locks → IsSound Mdt v
    → IsSound Mdt (turn v (row_acts d))
sound_acts v d reads lives sound =
    let w = after v (Act d) in
    sound_then Mdt w (grant_lines d d.reply.locks) (replies d ∷ [])
    (sound_quiet Mdt (turn w (grant_lines d d.reply.locks)) (replies d) refl
    (sound_grant_lines w d d.reply.locks reads lives (sound_act Mdt v d reads lives (none_asks_names d v sound) sound)))

pub sound_transacts : (v : Target) (d : Deed) → IsSound Mdt v → IsSound Mdt (turn v (row_transacts d))
sound_transacts v d sound = sound_quiet Mdt (after v (Txn d)) (replies d) refl (sound_txn Mdt v d (none_asks_names d v sound) sound)

-- w is the state, v that of which the request is executed
pub sound_executes : (v w : Target) (at : At) (r : Request) (changes : Bool) → is_life r.who w.lives ≡ true → IsSound Mdt w
    → IsSound Mdt (turn w (row_executes v at r changes))
sound_executes v w at r true life sound = sound_transacts w (names_deed v at r (next_number v) []) sound
sound_executes v w at r false life sound =
    sound_acts w (names_deed v at r none (locks_for v r)) (reading_from v.cookie r.who
    (grants v.setting.osts v.contents.tree (asked r none)))
    (lives_from v.cookie r.who (grants v.setting.osts v.contents.tree (asked r none)) w.lives life) sound

-- ---- the pass

waits_quiet : (v : Target) (r : Request) → all_quiet (row_waits v r) ≡ true
waits_quiet v r = by (is_read r.op) (blocks_quiet v (in_way v.granted (written_by v r))) where
  by : (reads : Bool) → all_quiet (blocks v (in_way v.granted (written_by v r))) ≡ true
      → all_quiet (if reads then [] else blocks v (in_way v.granted (written_by v r))) ≡ true
  by true rest = refl
  by false rest = rest

pub sound_row_waits : (v w : Target) (r : Request) → IsSound Mdt w → IsSound Mdt (turn w (row_waits v r))
sound_row_waits v w r sound = sound_all_quiet Mdt w (row_waits v r) (waits_quiet v r) sound

-- the lives of these requests have slots
abbrev pub HaveSlots : List Who → List Request → Type 0
HaveSlots lives queue = All (λ r. is_life r.who lives ≡ true) queue

pub sound_pass : (again : Target → List Entry) → ((w : Target) → IsSound Mdt w → IsSound Mdt (turn w (again w)))
    → (v : Target) (at : At) (stood : Bool) (queue : List Request) → HaveSlots v.lives queue → IsSound Mdt v
    → IsSound Mdt (turn v (row_pass again v at stood queue))
sound_pass again goes v at stood [] lives sound = sound
sound_pass again goes v at stood (r ∷ queue) lives sound =
    let next : Target → List Entry = λ w. row_pass again w at (stood || not (is_read r.op)) queue in
    let acts : List Entry = row_executes v at r (does_change v r) in
    let waits : List Entry = row_waits v r in
    let life : is_life r.who v.lives ≡ true = All-head (λ (q : Request). is_life q.who v.lives ≡ true) r queue lives in
    let rest : HaveSlots v.lives queue = All-tail (λ (q : Request). is_life q.who v.lives ≡ true) r queue lives in
    by next (is_ready v stood r)
    (sound_follow Mdt v acts again (goes (turn v acts) (sound_executes v v at r (does_change v r) life sound)))
    (sound_follow Mdt v waits next
    (sound_pass again goes (turn v waits) at (stood || not (is_read r.op)) queue
    (subst (λ lives. HaveSlots lives queue) (sym (lives_all_quiet v waits (waits_quiet v r))) rest) (sound_row_waits v v r sound)))
  where
    by : (next : Target → List Entry) (ready : Bool) → IsSound Mdt (turn v (follow v (row_executes v at r (does_change v r)) again))
        → IsSound Mdt (turn v (follow v (row_waits v r) next))
        → IsSound Mdt (turn v (if ready then follow v (row_executes v at r (does_change v r)) again else follow v (row_waits v r) next))
    by next true one two = one
    by next false one two = two

pub slots_of_queue : (kind : Kind) (v : Target) → IsSound kind v → HaveSlots v.lives v.queue
slots_of_queue kind v sound = All-weaker (IsTaken kind v) (λ r. is_life r.who v.lives ≡ true) (λ r taken. taken.life) v.queue sound.queue

pub sound_sweep : (more : ℕ) (at : At) (v : Target) → IsSound Mdt v → IsSound Mdt (turn v (row_sweep more at v))
sound_sweep zero at v sound = sound
sound_sweep (suc more) at v sound = sound_pass (row_sweep more at) (λ w s. sound_sweep more at w s) v at false v.queue
    (slots_of_queue Mdt v sound) sound

pub sound_names_go : (at : At) (v : Target) → IsSound Mdt v → IsSound Mdt (turn v (names_go at v))
sound_names_go at v sound = sound_sweep (length v.queue + 1) at v sound
