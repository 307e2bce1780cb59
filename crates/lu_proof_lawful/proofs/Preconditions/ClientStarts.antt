-- What the event of a client's turn in a covered run comes to: nothing moves, or some calls look for their locks, or one whose reply was
-- heard is
-- to be told or goes on, or one uses the lock that came; then the turn ends as it should.
use Rattle.std.proofs.Common.{ℕ, List, ◌⊎◌, inl, inr}
use Rattle.lu_base.specs.declared.ids.At.{At}
use Rattle.lu_base.specs.declared.ids.Node.TheVariants.{Client}
use Rattle.lu_base.specs.declared.ids.Stamp.{Stamp}
use Rattle.lu_msg.specs.declared.messages.Reply.{Reply as ReplyTo}
use Rattle.lu_spec_entries.specs.Carried.{Flight, Running}
use Rattle.lu_spec_entries.specs.Words.{Line}
use Rattle.lu_spec_client.specs.Rows.{rests}
use Rattle.lu_spec_client.specs.Slots.{slots_go}
use Rattle.lu_spec_client.specs.Locks.{trims, locks_go}
use Rattle.lu_spec_client.specs.Sending as sending
use Rattle.lu_spec_client.specs.States.{follow}
use Rattle.lu_spec_run.specs.Heads as table
use Rattle.lu_spec_run.specs.Runs.{limits_of}
use Rattle.lu_proof_lawful.proofs.Preconditions.Lists.{turn}
use Rattle.lu_proof_lawful.proofs.Preconditions.ClientGood.{Rested, Calmed, Ended, Keeps, keeps_more}
use Rattle.lu_proof_lawful.proofs.Preconditions.ClientRests.{ended}
use Rattle.lu_proof_lawful.proofs.Preconditions.ClientPasses.{Moving, slots_still, calm_goes, moves_go}
use Rattle.lu_proof_lawful.proofs.Preconditions.ClientMoved.{HasHeard, has_heard, HasCome, has_come}
pub use Rattle.lu_proof_lawful.proofs.Preconditions.ClientLines.{IsThere, AllThere, there_turn, was_there}
pub use Rattle.lu_proof_lawful.proofs.Preconditions.TurnStarts.{Starts, starts_good, took_good, took_rested}

module _ (head : table.Head) (c : ℕ) (stamp : Stamp) where
  abbrev at : At
  at = turn stamp (Client c)

  pub rests_from : (P : List Line → Type 0) → Keeps head c stamp P (Rested head c at) (slots_go 5 at)
      → Keeps head c stamp P (Ended head c at) (rests (limits_of head) at)
  rests_from P k =
      keeps_more head c stamp P (Rested head c at) (Ended head c at) (slots_go 5 at)
      (λ k. follow (trims (limits_of head) k) (λ k. follow (locks_go (limits_of head) k)
      (λ k. sending.sends_all (limits_of head) k.who 0 k.imports) k) k) k (ended head c stamp)

  -- a call whose reply was heard
  pub record HeardOf (p : List Line) : Type 0 where
    pub slot : ℕ
    pub target : ℕ
    pub running : Running
    pub flight : Flight
    pub reply : ReplyTo
    pub heard : HasHeard head c stamp slot target running flight reply p

  -- a call to which its lock came
  pub record CameOf (p : List Line) : Type 0 where
    pub slot : ℕ
    pub running : Running
    pub come : HasCome head c stamp slot running p

  abbrev pub After : List Line → Type 0
  After p = Rested head c at p ⊎ Calmed head c at p ⊎ Moving head c stamp p ⊎ HeardOf p ⊎ CameOf p

  pub after_ends : Keeps head c stamp After (Ended head c at) (rests (limits_of head) at)
  after_ends p (inl r) covered = rests_from (Rested head c at) (slots_still head c stamp) p r covered
  after_ends p (inr (inl m)) covered = rests_from (Calmed head c at) (calm_goes head c stamp) p m covered
  after_ends p (inr (inr (inl m))) covered = rests_from (Moving head c stamp) (moves_go head c stamp) p m covered
  after_ends p (inr (inr (inr (inl h)))) covered = rests_from (HasHeard head c stamp h.slot h.target h.running h.flight h.reply)
      (has_heard head c stamp h.slot h.target h.running h.flight h.reply) p h.heard covered
  after_ends p (inr (inr (inr (inr k)))) covered = rests_from (HasCome head c stamp k.slot k.running)
      (has_come head c stamp k.slot k.running) p k.come covered
