-- All groups, over every grown past.
use Rattle.std.proofs.Common.{ℕ, List, [], ◌∷◌}
use Rattle.lu_base.specs.declared.ids.Node.{Node}
use Rattle.lu_base.specs.declared.ids.Stamp.{Stamp}
use Rattle.lu_spec_entries.specs.Words.{Entry, Line, line}
use Rattle.lu_spec_entries.specs.Concerns.{only}
use Rattle.lu_proof_lawful.specs.Covered.Heads.{Head}
use Rattle.lu_proof_lawful.proofs.Preconditions.StoryGuards.{EntryOf}
use Rattle.lu_proof_lawful.proofs.Preconditions.Grown.{IsOfFirst, IsPlaced, Allowed, Grown, GrownOf}
use Rattle.lu_proof_lawful.proofs.Preconditions.Only.{grown_of}
use Rattle.lu_proof_lawful.proofs.Invariants.Groups.{turn, HoldsAt, Reaches, Informs, Holds}
use Rattle.lu_proof_lawful.proofs.Invariants.TargetGroups.{Done, Locks}
use Rattle.lu_proof_lawful.proofs.Invariants.Phase.{phase_start, keeps_phase}
use Rattle.lu_proof_lawful.proofs.Invariants.Boots.{boots_start, keeps_boots}
use Rattle.lu_proof_lawful.proofs.Invariants.Numbers.{numbers_start, keeps_numbers, room_start, keeps_room}
use Rattle.lu_proof_lawful.proofs.Invariants.Ranges.{ranges_start, keeps_ranges}
use Rattle.lu_proof_lawful.proofs.Invariants.Done.{done_start, keeps_done}
use Rattle.lu_proof_lawful.proofs.Invariants.DiskSlots.{disk_start, keeps_disk, comes_start, keeps_comes}
use Rattle.lu_proof_lawful.proofs.Invariants.Locks.{locks_start, keeps_locks}
use Rattle.lu_proof_lawful.proofs.Invariants.Lives.{lives_start, keeps_lives}
use Rattle.lu_proof_lawful.proofs.Invariants.Keeps.{keeps_start, keeps_keeps}
use Rattle.lu_proof_lawful.proofs.Invariants.Recovers.{recovers_start, keeps_recovers}
use Rattle.lu_proof_lawful.proofs.Invariants.HistoryLines.{history_start}
use Rattle.lu_proof_lawful.proofs.Invariants.History.{keeps_history}
use Rattle.lu_proof_lawful.proofs.Preconditions.Asks.{keeps_asks}
use Rattle.lu_proof_lawful.proofs.Invariants.Times.{keeps_reaches, keeps_informs, keeps_since}
use Rattle.lu_proof_lawful.proofs.Invariants.Replies.{keeps_replies}

-- ---- at one target

step_at : (head : Head) (past : List Line) (stamp : Stamp) (node : Node) (e : Entry) → EntryOf head past (turn stamp node) node e
    → IsOfFirst e → IsPlaced head past (line (turn stamp node) e) → HoldsAt head past → HoldsAt head (line (turn stamp node) e ∷ past)
step_at head past stamp node e ok first placed h =
    let done : Done head.osts head.clients (line (turn stamp node) e ∷ past) = keeps_done head past stamp node e ok h in
    let locks : Locks head.osts head.clients (line (turn stamp node) e ∷ past) = keeps_locks head past stamp node e ok placed h in
    record {
      phase = keeps_phase head past stamp node e ok h;
      numbers = keeps_numbers head past stamp node e ok h;
      ranges = keeps_ranges head past stamp node e ok h.ranges;
      room = keeps_room head past stamp node e ok h;
      done = done;
      locks = locks;
      lives = keeps_lives head past stamp node e ok placed h done locks;
      boots = keeps_boots head past stamp node e ok h;
      keeps = keeps_keeps head past stamp node e ok h done;
      recovers = keeps_recovers head past stamp node e ok h;
      history = keeps_history head past stamp node e ok first placed h;
      disk = keeps_disk head past stamp node e ok placed h;
      comes = keeps_comes head past stamp node e ok placed h;
    }

first_at : (head : Head) → HoldsAt head []
first_at head =
    record {
      phase = phase_start head.osts;
      numbers = numbers_start;
      ranges = ranges_start;
      room = room_start head;
      done = done_start head.osts head.clients;
      locks = locks_start head.osts head.clients;
      lives = lives_start head.clients;
      boots = boots_start head.osts;
      keeps = keeps_start head.osts;
      recovers = recovers_start head.osts head.clients;
      history = history_start head.osts head.clients;
      disk = disk_start head.osts head.clients;
      comes = comes_start head.osts head.clients;
    }

pub holds_at : (head : Head) (past : List Line) → GrownOf head past → HoldsAt head past
holds_at head [] g = first_at head
holds_at head (l ∷ past) g = step_at head past l.at.stamp l.at.node l.entry g.0 g.1 g.2 (holds_at head past g.3)

-- ---- over all targets

step : (head : Head) (past : List Line) (stamp : Stamp) (node : Node) (e : Entry) → Grown head past → Allowed head past (turn stamp node) e
    → ((t : ℕ) → HoldsAt head (only t (line (turn stamp node) e ∷ past))) → Holds head past
    → Holds head (line (turn stamp node) e ∷ past)
step head past stamp node e g a at h =
    let reaches : Reaches (line (turn stamp node) e ∷ past) = keeps_reaches head past stamp node e a.steps a.ok a.of a.owes h.at h.reaches
    in
    let informs : Informs (line (turn stamp node) e ∷ past) = keeps_informs head past stamp node e a.closes a.ok a.of a.owes h.at h.asks
    reaches h.informs in
    record {
      at = at;
      asks = keeps_asks head past stamp node e g a.closes a.ok a.of h.asks;
      reaches = reaches;
      since = keeps_since head past stamp node e a.closes a.ok a.of a.owes h.at h.asks reaches informs h.since;
      informs = informs;
      replies = keeps_replies head past g h.at h.asks h.since stamp node e a.ok a.of h.replies;
    }

first : (head : Head) → Holds head []
first head =
    record {
      at = λ t. first_at head;
      asks = record {
        fly_calls = λ c t f n i. absurd i;
        queue_calls = λ c t q n i. absurd i;
        fly_one = λ c t u slot f g n i. absurd i;
        queue_one = λ c t u slot q g n i. absurd i;
        queue_apart = λ c t n. tt;
        apart = λ c t u slot q f n i. absurd i;
      };
      reaches = record { acted = λ d a. absurd a; said = λ from to m w. absurd w; begun = λ c slot r e. absurd (cc) };
      since = λ c t slot f r d i. absurd i;
      informs = λ c t slot f r from m i. absurd i;
      replies = λ c slot target r reply e. absurd (cc);
    }

pub holds : (head : Head) (past : List Line) → Grown head past → Holds head past
holds head [] g = first head
holds head (l ∷ past) g = step head past l.at.stamp l.at.node l.entry g.1 g.0
    (λ t. holds_at head (only t (l ∷ past)) (grown_of head t (l ∷ past) g)) (holds head past g.1)
