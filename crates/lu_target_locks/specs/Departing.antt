-- Lives leave with a commit: what each had granted, with the glimpses that end with it; and what comes of the queues that
-- go on then.
use Rattle.std.specs.Prelude.{◌≡◌, ℕ, not, List, [], ◌∷◌, ◌++◌, map, filter}
use Rattle.lu_base.specs.declared.ids.At.{At}
use Rattle.lu_base.specs.declared.ids.Who.{Who}
use Rattle.lu_base.specs.declared.locks.Cause.{Cause}
use Rattle.lu_base.specs.declared.locks.Lock.{Lock}
use Rattle.lu_msg.specs.declared.commits.Batch.{Batch}
use Rattle.lu_spec_entries.specs.Carried.{Glimpse}
use Rattle.lu_spec_entries.specs.Words.{Entry, Block, Commit, Evict}
use Rattle.lu_spec_target.specs.Lives.{is_life}
use Rattle.lu_spec_target.specs.Replies.{called, block_of}
use Rattle.lu_spec_target.specs.Glimpses.{glimpses_of}
use Rattle.lu_spec_target.specs.Queues.{grant_entries, all_queues_go}
use Rattle.lu_spec_target.specs.Leaving.{locks_of, evicted, evictions}
use Rattle.lu_spec_target.specs.Requests.{releases}
use Rattle.lu_spec_target.specs.States.{Target, after, turn}
use Rattle.lu_target_refines.specs.Batches.{AreOnce}
use Rattle.lu_target_locks.specs.declared.departing.Asker.{Asker}
use Rattle.lu_target_locks.specs.declared.departing.EndedLock.{EndedLock}
use Rattle.lu_target_locks.specs.declared.departing.Departure.{Departure}
use Rattle.lu_target_locks.specs.declared.departing.QueueStep.{QueueStep}
use Rattle.lu_target_locks.specs.declared.departing.QueueStep.TheVariants as step
use Rattle.lu_target_locks.specs.declared.departing.Left.{Left}
use Rattle.lu_target_locks.specs.Servers.{ServerState, Shows}

-- ---- what ends with the lives

-- the glimpses for requests of lives that stay
abbrev pub staying : List Who → List Glimpse → List Glimpse
staying gone gs = filter (λ g. not (is_life g.request.who gone)) gs

abbrev pub asker_of : Glimpse → Asker
asker_of g = record { who = g.request.who; xid = g.request.xid }

-- a lock, and who has asked its holder in vain
abbrev pub ended_with : List Glimpse → Lock → EndedLock
ended_with gs l = record { lock = l; askers = map {A = Glimpse} {B = Asker} asker_of (glimpses_of l gs) }

-- what a life had granted, in rising cookie
abbrev pub departure_of : List Who → Target → Who → Departure
departure_of gone v who =
    record { who = who; released = map {A = Lock} {B = EndedLock} (ended_with (staying gone v.glimpses)) (locks_of who v.granted) }

abbrev pub departures_of : List Who → Target → List Departure
departures_of gone v = map {A = Who} {B = Departure} (departure_of gone v) gone

-- after the commit that takes their slots, and their evictions
abbrev pub departed : Target → At → Cause → ℕ → Batch → Target
departed v at cause to batch = let w = after v (Commit to batch) in turn w (evictions at cause v.granted batch.removed w)

-- ---- what the queues that go on come to: all of it is told of one state

abbrev pub steps_told : Target → List QueueStep → List Entry
steps_told v [] = []
steps_told v (step.Granted l ∷ steps) = grant_entries v l ++ steps_told v steps
steps_told v (step.Called l ∷ steps) = Block (called v l) ∷ block_of v l ∷ steps_told v steps

-- ---- the evictions: all of it is told of the state after the commit

abbrev pub releases_told : At → List Lock → Target → List Entry
releases_told at [] w = []
releases_told at (l ∷ locks) w = releases at l w ++ releases_told at locks w

abbrev pub evictions_told : At → Cause → List Lock → List Who → Target → List Entry
evictions_told at cause granted [] w = []
evictions_told at cause granted (who ∷ gone) w =
    Evict who cause ∷ evicted w who ∷ releases_told at (locks_of who granted) w ++ evictions_told at cause granted gone w

-- ---- all together

-- The lives left with what they had; then all queues went on. Where nothing waits, as at a target of names, that is all. And
-- where each life is named once, the evictions are told of the state after the commit alone.
pub record IsLeft (gone : List Who) (left : Left) (old new : ServerState) : Type 0 where
  pub departures : (v : Target) → Shows old v → left.departures ≡ departures_of gone v
  pub steps : (v : Target) (at : At) (cause : Cause) (to : ℕ) (batch : Batch) → Shows old v → batch.removed ≡ gone
      → (let u = departed v at cause to batch in all_queues_go u ≡ steps_told u left.steps)
  pub shows : (v : Target) (at : At) (cause : Cause) (to : ℕ) (batch : Batch) → Shows old v → batch.removed ≡ gone
      → (let u = departed v at cause to batch in Shows new (turn u (all_queues_go u)))
  pub alone : (v : Target) (at : At) (cause : Cause) (to : ℕ) (batch : Batch) → Shows old v → batch.removed ≡ gone → v.waiting ≡ []
      → (left.steps ≡ []) × Shows new (departed v at cause to batch)
  pub told : (v : Target) (at : At) (cause : Cause) (to : ℕ) (batch : Batch) → Shows old v → batch.removed ≡ gone → AreOnce gone
      → (let w = after v (Commit to batch) in evictions at cause v.granted batch.removed w
      ≡ evictions_told at cause v.granted batch.removed w)
