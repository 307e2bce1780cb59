-- The numbers of a run that its nodes know, and which clients have lines in it.
use Rattle.std.specs.Prelude.{◌≡◌, ◌≤◌, ◌<◌, ℕ, false, List}
use Rattle.lu_msg.specs.Limits.{tag_count}
use Rattle.lu_spec_entries.specs.Words.{Line}
use Rattle.lu_proof_lawful.specs.Covered.Calls.{is_dead}

-- clients, object storage targets, and how many requests of one client may be in flight at one target
pub record Head : Type 0 where
  pub clients : ℕ
  pub osts : ℕ
  pub flight : ℕ

pub record IsHead (head : Head) : Type 0 where
  pub clients : 1 ≤ head.clients
  pub most_clients : head.clients ≤ 16
  pub osts : 1 ≤ head.osts
  pub most_osts : head.osts ≤ 8
  pub flight : 1 ≤ head.flight
  pub most_flight : head.flight ≤ tag_count

pub record IsAlive (head : Head) (past : List Line) (c : ℕ) : Type 0 where
  pub one : c < head.clients
  pub alive : is_dead c past ≡ false
